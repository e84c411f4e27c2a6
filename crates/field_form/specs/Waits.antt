-- How waits and contexts of threads are spelled.
use Rattle.std.specs.Prelude.{◌≡◌, ℕ, List, Option, Some, None, refl, ◌⊎◌}
use Rattle.std.proofs.Common.{inl, inr, arith}
use Rattle.field_form.specs.Forms.{Form, Lawful, last, ◌or◌, kinds, of_parts, of_some_parts, that_needs, pair, mark, u32_form, bytes_form, many}
use Rattle.field_form.specs.FieldLaws.{u32_lawful, bytes_lawful}
use Rattle.field_form.specs.FormLaws.{LawfulChoice, last_lawful, or_lawful, kinds_lawful, of_parts_lawful, of_some_parts_lawful, that_needs_lawful, pair_lawful, many_lawful, mark_lawful}
use Rattle.field_form.specs.Values.{outcome_form, outcome_lawful}
use Rattle.field_form.specs.Requests.{texts_form, texts_lawful}
use Rattle.model_text.specs.declared.pair.Pair.{Pair}
use Rattle.model_values.specs.declared.value.Outcome.{Outcome}
use Rattle.model_run.specs.declared.wait.Join.{Join}
use Rattle.model_run.specs.declared.wait.JoinEnd.{JoinEnd}
use Rattle.model_run.specs.declared.wait.Wait.{Wait}
use Rattle.model_run.specs.declared.wait.Wait.TheVariants as wait
use Rattle.model_run.specs.declared.context.Context.{Context}

-- Option of end node, option of outcome, and its place in order of ending: `00 00`, or `01` node `01` outcome place.
abbrev pub EndParts : Type 0
EndParts = Unit {0} ⊎ (ℕ × (Unit {0} × (Outcome × ℕ)))

abbrev pub end_of : EndParts → Option JoinEnd
end_of (inl x) = None
end_of (inr e) = Some (record { node = e.0; outcome = e.1.1.0; place = e.1.1.1 })

abbrev pub end_parts : Option JoinEnd → EndParts
end_parts None = inl tt
end_parts (Some e) = inr (e.node, (tt, (e.outcome, e.place)))

abbrev pub end_form : Form (Option JoinEnd)
end_form = of_parts end_of end_parts (kinds (mark 0 or last (pair u32_form (pair (mark 1) (pair outcome_form u32_form)))))

end_there : (x : EndParts) → end_parts (end_of x) ≡ x
end_there (inl x) = refl
end_there (inr e) = refl

end_back : (e : Option JoinEnd) → end_of (end_parts e) ≡ e
end_back None = refl
end_back (Some e) = refl

pub end_lawful : Lawful end_form
end_lawful = of_parts_lawful end_of end_parts _ end_there end_back (kinds_lawful _ (or_lawful _ _ (mark_lawful 0 (omega arith)) (last_lawful _ (pair_lawful _ _ u32_lawful (pair_lawful _ _ (mark_lawful 1 (omega arith)) (pair_lawful _ _ outcome_lawful u32_lawful))))))

-- A branch: name, thread, end.
abbrev pub join_of : List ℕ × (ℕ × Option JoinEnd) → Join
join_of p = record { name = p.0; thread = p.1.0; ended = p.1.1 }

abbrev pub join_form : Form Join
join_form = of_parts join_of (λ j. (j.name, (j.thread, j.ended))) (pair bytes_form (pair u32_form end_form))

pub join_lawful : Lawful join_form
join_lawful = of_parts_lawful join_of (λ (j : Join). (j.name, (j.thread, j.ended))) _ (λ x. refl) (λ j. refl) (pair_lawful _ _ bytes_lawful (pair_lawful _ _ u32_lawful end_lawful))

-- `00` and a request number, or `01` and the list of branches. A thread that is ready has no spelling.
abbrev pub wait_of : ℕ ⊎ List Join → Wait
wait_of (inl n) = wait.Request n
wait_of (inr js) = wait.Branches js

abbrev pub wait_parts : Wait → ℕ ⊎ List Join
wait_parts (wait.Ready a) = inl 0
wait_parts (wait.Request n) = inl n
wait_parts (wait.Branches js) = inr js

abbrev pub NeedsWait : Wait → Type 0
NeedsWait (wait.Ready a) = ⊥
NeedsWait (wait.Request n) = Unit {0}
NeedsWait (wait.Branches js) = (many join_form).Needs js

abbrev pub wait_form : Form Wait
wait_form = that_needs NeedsWait (of_some_parts wait_of wait_parts (kinds (u32_form or last (many join_form))))

wait_there : (x : ℕ ⊎ List Join) → wait_parts (wait_of x) ≡ x
wait_there (inl n) = refl
wait_there (inr js) = refl

wait_choice : LawfulChoice (u32_form or last (many join_form))
wait_choice = or_lawful _ _ u32_lawful (last_lawful _ (many_lawful _ join_lawful))

wait_needed : (w : Wait) → (of_some_parts wait_of wait_parts (kinds (u32_form or last (many join_form)))).Fits w → NeedsWait w
wait_needed (wait.Ready a) fits = let e = fits.1 in absurd cc
wait_needed (wait.Request n) fits = tt
wait_needed (wait.Branches js) fits = wait_choice.needed (inr js) fits.0.1

pub wait_lawful : Lawful wait_form
wait_lawful = that_needs_lawful NeedsWait _ (of_some_parts_lawful wait_of wait_parts _ wait_there (kinds_lawful _ wait_choice)) wait_needed

-- Context: list of held requests, list of folders, pairs.
abbrev pub context_of : List ℕ × (List (List ℕ) × List Pair) → Context
context_of p = record { held = p.0; folders = p.1.0; env = p.1.1 }

abbrev pub context_form : Form Context
context_form = of_parts context_of (λ c. (c.held, (c.folders, c.env))) (pair (many u32_form) (pair (many bytes_form) (many texts_form)))

pub context_lawful : Lawful context_form
context_lawful = of_parts_lawful context_of (λ (c : Context). (c.held, (c.folders, c.env))) _ (λ x. refl) (λ c. refl) (pair_lawful _ _ (many_lawful _ u32_lawful) (pair_lawful _ _ (many_lawful _ bytes_lawful) (many_lawful _ texts_lawful)))
