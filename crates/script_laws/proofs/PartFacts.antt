-- What follows for each part of a node from what its form asks for.
use Rattle.std.proofs.Common.{◌≡◌, sym, subst, ℕ, zero, suc, Bool, true, List, [], ◌∷◌, ◌++◌, ⊎_elim}
use Rattle.std.specs.List.{AllByRecursion as AllAre}
use Rattle.model_syntax.specs.declared.node.NodeForm.{NodeForm}
use Rattle.model_syntax.specs.declared.node.NodeForm.TheVariants as form
use Rattle.model_run.specs.Around.{form_at}
use Rattle.script_laws.specs.NodeParts.{Slot, One, Optional, Any_number, AllOf, Next, Stand}

-- all parts that a slot admits are so
abbrev pub Admits : (NodeForm → Type 0) → Slot → Type 0
Admits Q (One test) = (f : NodeForm) → test f ≡ true → Q f
Admits Q (Optional test) = (f : NodeForm) → test f ≡ true → Q f
Admits Q (Any_number test) = (f : NodeForm) → test f ≡ true → Q f

module _ (Q : NodeForm → Type 0) (missing : Q form.Block) where
  -- of all parts, and of the missing ones
  abbrev pub Each : List NodeForm → Type 0
  Each fs = (i : ℕ) → Q (form_at fs i)

  each_more : (f : NodeForm) (fs : List NodeForm) → Q f → Each fs → Each (f ∷ fs)
  each_more f fs q h zero = q
  each_more f fs q h (suc i) = h i

  each_append : (test : NodeForm → Bool) → ((f : NodeForm) → test f ≡ true → Q f) → (fs gs : List NodeForm) → AllOf test fs → Each gs → Each (fs ++ gs)
  each_append test a [] gs all h = h
  each_append test a (f ∷ fs) gs all h = each_more f (fs ++ gs) (a f all.0) (each_append test a fs gs all.1 h)

  each_next : (test : NodeForm → Bool) (Rest : List NodeForm → Type 0) → ((f : NodeForm) → test f ≡ true → Q f) → ((fs : List NodeForm) → Rest fs → Each fs) → (fs : List NodeForm) → Next test Rest fs → Each fs
  each_next test Rest a rest [] h = absurd h
  each_next test Rest a rest (f ∷ fs) h = each_more f fs (a f h.0) (rest fs h.1)

  -- where all slots admit only such parts
  pub each_part : (slots : List Slot) → AllAre (Admits Q) slots → (fs : List NodeForm) → Stand slots fs → Each fs
  each_part [] a fs h = subst Each (sym h) (λ i. missing)
  each_part (One test ∷ slots) a fs h = each_next test (Stand slots) a.0 (each_part slots a.1) fs h
  each_part (Optional test ∷ slots) a fs h = ⊎_elim (each_part slots a.1 fs) (each_next test (Stand slots) a.0 (each_part slots a.1) fs) h
  each_part (Any_number test ∷ slots) a fs h = subst Each (sym h.split) (each_append test a.0 h.these h.rest h.kind (each_part slots a.1 h.rest h.behind))
