-- The bodies of closures and functions, and branches: sound from a sound state on.
use Rattle.std.proofs.Common.{arith, ◌≡◌, ◌<◌, ◌+◌, refl, sym, ap, subst, ◌∙◌, ℕ, zero, suc, Bool, true, false, List, [], ◌∷◌, ◌++◌, length, append_assoc, Option, Some, None}
use Rattle.std.proofs.lemmas.Bool.{eqb-true}
use Rattle.std.proofs.lemmas.List.{reverse-append}
use Rattle.std.specs.Prelude.{slice_get, codes, map, reverse, nat_eq, if◌then◌else◌}
use Rattle.std.specs.List.{AllByRecursion as AllAre}
use Rattle.model_syntax.specs.declared.node.NodeForm.{NodeForm}
use Rattle.model_syntax.specs.declared.node.NodeForm.TheVariants as form
use Rattle.model_values.specs.Cells.{Gives, with_new}
use Rattle.model_values.specs.Kinds.{closure}
use Rattle.model_values.specs.Throws.{no_method}
use Rattle.model_values.specs.Fitting.{There, HasVariable, CellFits}
use Rattle.model_values.specs.Later.{CellsLater, Given}
use Rattle.model_values.proofs.CellGrowth.{gives_new}
use Rattle.model_values.proofs.LaterLaws.{later_behind, there_later}
use Rattle.model_values.proofs.ThrowGrowth.{no_method_grows}
use Rattle.model_values.specs.declared.value.Value.{Value}
use Rattle.model_values.specs.declared.value.Value.TheVariants.{Null}
use Rattle.model_values.specs.declared.cell.Binding.{Binding}
use Rattle.model_values.specs.declared.cell.Cell.{Cell}
use Rattle.model_values.specs.declared.cell.Cell.TheVariants.{Variable}
use Rattle.model_run.specs.declared.frame.FrameKind.TheVariants as kind
use Rattle.model_run.specs.declared.ending.Ending.{Ending}
use Rattle.model_run.specs.declared.ending.Ending.TheVariants.{Normal, Thrown, Returned, Broke, Continued, Declared, Answered}
use Rattle.model_run.specs.declared.ending.Entry.TheVariants.{First}
use Rattle.model_run.specs.State.{Common, State, Env}
use Rattle.model_run.specs.Around.{Around, Shape, form_at, frame, under, ended, cells, limits, whole}
use Rattle.model_run.specs.Names.{bind, bind_all}
use Rattle.model_run.specs.Callables.{parameters_of, arguments_for, call_limit, opened, closed, plain as plain_end, after_call, body_with, body}
use Rattle.model_run.specs.Steps.{after_branch}
use Rattle.model_run.specs.Forms.{body_of, branched}
use Rattle.model_run.specs.FrameTable.{is_declaration, is_callable, is_closure_form}
use Rattle.model_run.specs.Scoping.{Names, names_within, names_after, names_of}
use Rattle.model_run.specs.Fitting.{EnvFits, closure_rule, IsFlowNode}
use Rattle.model_run.proofs.LaterLaws.{env_later}
use Rattle.run_laws.specs.Soundness.{Base, Shaped, may_declare, EndFits, At, Holds, Goes}
use Rattle.run_laws.proofs.Flow.{all_there_then, at_self, holds_then, holds_as, moves_aside, at_moved, guard_goes, end_goes, answer_goes, through_goes}
use Rattle.run_laws.proofs.Sources.{Place, Sources, sits_here, Quiet, quiet_part, quiet_names}
use Rattle.run_laws.proofs.SoundAssignments.{before_of, operate_goes}
use Rattle.run_laws.proofs.SoundBranches.{branch_end_goes}

-- names with cells in a row, the last of them innermost
names_bound : (ps : List (List ℕ)) (c : ℕ) (env : Env) → names_of (bind_all ps c env) ≡ reverse ps ++ names_of env
names_bound [] c env = refl
names_bound (p ∷ ps) c env = names_bound ps (suc c) (bind p c env) ∙ sym (append_assoc (reverse ps) (p ∷ []) (names_of env)) ∙ ap (λ zs. zs ++ names_of env) (sym (reverse-append (p ∷ []) ps))

variables_bound : (h : List Cell) (ps : List (List ℕ)) (c : ℕ) (env : Env) → ((i : ℕ) → i < length ps → HasVariable (slice_get h (c + i))) → AllAre (λ b. HasVariable (slice_get h b.cell)) env → AllAre (λ b. HasVariable (slice_get h b.cell)) (bind_all ps c env)
variables_bound h [] c env has all = all
variables_bound h (p ∷ ps) c env has all =
    let z : c + 0 ≡ c = omega arith in
    variables_bound h ps (suc c) (bind p c env)
    (λ i lt. let e : c + suc i ≡ suc c + i = omega arith in subst (λ n. HasVariable (slice_get h n)) e (has (suc i) (omega (arith, lt))))
    (subst (λ n. HasVariable (slice_get h n)) z (has 0 (omega arith)), all)

-- new variables behind the cells that are there
get_behind : (h cs : List Cell) (i : ℕ) → slice_get (h ++ cs) (length h + i) ≡ slice_get cs i
get_behind [] cs i = let e : 0 + i ≡ i = omega arith in ap (slice_get cs) e
get_behind (x ∷ h) cs i = let e : suc (length h) + i ≡ suc (length h + i) = omega arith in ap (slice_get (x ∷ (h ++ cs))) e ∙ get_behind h cs i

variable_there : (vs : List Value) (i : ℕ) → i < length vs → HasVariable (slice_get (map Variable vs) i)
variable_there [] i lt = absurd (omega arith)
variable_there (v ∷ vs) zero lt = tt
variable_there (v ∷ vs) (suc i) lt = variable_there vs i (omega (arith, lt))

variables_fit : (rule : ℕ → List Binding → Type 0) (h g : List Cell) → CellsLater h g → (vs : List Value) → AllAre (There h) vs → AllAre (CellFits rule g) (map Variable vs)
variables_fit rule h g l [] a = tt
variables_fit rule h g l (v ∷ vs) a = (there_later h g l v a.0, variables_fit rule h g l vs a.1)

-- arguments, one for each parameter
abbrev Arguments : (Value → Type 0) → List (List ℕ) → Option (List Value) → Type 0
Arguments P ps None = Unit {0}
Arguments P ps (Some vs) = AllAre P vs × (length ps ≡ length vs)

as_many : (P : Value → Type 0) (ps : List (List ℕ)) (vs : List Value) → AllAre P vs → (b : Bool) → nat_eq (length ps) (length vs) ≡ b → Arguments P ps (if b then Some vs else None)
as_many P ps vs a true e = (a, eqb-true (length ps) (length vs) e)
as_many P ps vs a false e = tt

arguments_are : (P : Value → Type 0) → P Null → (ps : List (List ℕ)) (vs : List Value) → AllAre P vs → Arguments P ps (arguments_for ps vs)
arguments_are P null (p ∷ []) [] a = ((null, tt), refl)
arguments_are P null [] vs a = as_many P [] vs a (nat_eq 0 (length vs)) refl
arguments_are P null (p ∷ []) (v ∷ vs) a = as_many P (p ∷ []) (v ∷ vs) a (nat_eq 1 (length (v ∷ vs))) refl
arguments_are P null (p ∷ q ∷ ps) vs a = as_many P (p ∷ q ∷ ps) vs a (nat_eq (length (p ∷ q ∷ ps)) (length vs)) refl

-- what has a body
pub called_plain : (f : NodeForm) → is_callable f ≡ true → is_declaration f ≡ false
called_plain (form.Closure heads) e = refl
called_plain (form.Function x names) e = refl
called_plain f e = absurd (cc)

pub called_quiet : (f : NodeForm) → is_callable f ≡ true → (i : ℕ) → may_declare f i ≡ false
called_quiet (form.Closure heads) e i = refl
called_quiet (form.Function x names) e i = refl
called_quiet f e i = absurd (cc)

called_within : (f : NodeForm) → is_callable f ≡ true → (i : ℕ) (xs : Names) → names_within f i xs ≡ reverse (parameters_of f) ++ xs
called_within (form.Closure heads) e i xs = refl
called_within (form.Function x names) e i xs = refl
called_within f e i xs = absurd (cc)

-- how a call ends
plain_fits : (f : NodeForm) → is_declaration f ≡ false → (u : Common) (e : Ending) → EndFits form.Block u e → EndFits f u (plain_end e)
plain_fits f p u (Normal v) h = (h.0, p)
plain_fits f p u (Thrown c) h = h
plain_fits f p u (Returned v) h = (h, p)
plain_fits f p u Broke h = (tt, p)
plain_fits f p u Continued h = (tt, p)
plain_fits f p u (Declared b) h = (tt, p)
plain_fits f p u (Answered x) h = (tt, p)

pub call_end_goes : (g : Base) (f : NodeForm) → is_declaration f ≡ false → (u : Common) (e : Ending) (s : State) → At g u s → EndFits form.Block s.world.shared e → Holds g f u (after_call e s)
call_end_goes g f p u e s at h = (at_moved g u closed s at (moves_aside g closed s.world at.sound refl refl refl refl refl refl refl refl (omega arith)), plain_fits f p s.world.shared e h)

module _ (g : Base) (shaped : Shaped g.script) (k : ℕ) (sh : Shape) (xs : Names) (place : Place g k sh xs) (a : Around) (src : Sources g shaped k sh xs place a) where
  module _ (cl : is_callable sh.form ≡ true) where
    quiet : Quiet g shaped k sh xs place
    quiet i = called_quiet sh.form cl i

    inner_names : names_within sh.form 0 (names_after sh.parts 0 xs) ≡ reverse (parameters_of sh.form) ++ xs
    inner_names = ap (names_within sh.form 0) (quiet_names g shaped k sh xs place quiet 0) ∙ called_within sh.form cl 0 xs

    -- behind the new variables
    inside_goes : (u : Common) (env : Env) → EnvFits u.cells xs env → (vs : List Value) → length (parameters_of sh.form) ≡ length vs → (h : List Cell) (t : State) → At g u t → t.world.shared.cells ≡ h ++ map Variable vs
        → Holds g form.Block u (under a (frame kind.CallBody k 0 env []) after_call First 0 (bind_all (parameters_of sh.form) (length h) env) t)
    inside_goes u env fit vs many h t at is =
        let fit1 : EnvFits t.world.shared.cells xs env = env_later u t.world.shared at.later xs env fit in
        let fit2 : EnvFits t.world.shared.cells (reverse (parameters_of sh.form) ++ xs) (bind_all (parameters_of sh.form) (length h) env) = record {
          names = names_bound (parameters_of sh.form) (length h) env ∙ ap (λ zs. reverse (parameters_of sh.form) ++ zs) fit.names;
          variables = variables_bound t.world.shared.cells (parameters_of sh.form) (length h) env
              (λ i lt. subst (λ cs. HasVariable (slice_get cs (length h + i))) (sym is) (subst HasVariable (sym (get_behind h (map Variable vs) i)) (variable_there vs i (omega (arith, lt, many))))) fit1.variables;
        } in
        holds_then g form.Block u t.world.shared at.later _ (through_goes g form.Block form.Block t.world.shared (frame kind.CallBody k 0 env []) refl
        (sits_here g shaped k sh xs place t.world.shared kind.CallBody 0 env [] cl (omega arith) tt fit1 tt) after_call (call_end_goes g form.Block refl t.world.shared) (a.part First 0 (bind_all (parameters_of sh.form) (length h) env) t)
        (holds_as g (form_at sh.parts 0) form.Block t.world.shared _ (quiet_part g shaped k sh xs place quiet 0) refl
        (src.part t.world.shared 0 (bind_all (parameters_of sh.form) (length h) env) (subst (λ zs. EnvFits t.world.shared.cells zs (bind_all (parameters_of sh.form) (length h) env)) (sym inner_names) fit2) t (at_self g u t at))))

    with_goes : (u : Common) (env : Env) → EnvFits u.cells xs env → (o : Option (List Value)) → Arguments (There u.cells) (parameters_of sh.form) o → Goes g form.Block u (body_with a sh k env o)
    with_goes u env fit None h = operate_goes g form.Block u [] tt (λ h v. ⊥) (λ h v bad. absurd bad) (λ w. no_method (limits w) (cells w) (closure 0) (codes "call")) (λ w. no_method_grows (before_of g w []) (λ h v. ⊥) (closure 0) (codes "call")) ended (end_goes g form.Block u refl)
    with_goes u env fit (Some vs) h = guard_goes g form.Block u call_limit opened (λ w l sound none. moves_aside g opened w sound refl refl refl refl refl refl refl refl (omega arith)) _ (λ s at.
        answer_goes g form.Block u (λ cs v. cs ≡ cells s.world ++ map Variable vs) (with_new (limits s.world) (cells s.world) (map Variable vs) (λ cs. Gives cs Null)) s at
        (Given (closure_rule g.script) (cells s.world) vs) ((at.sound).cells, all_there_then u s.world.shared at.later vs h.0)
        (gives_new (before_of g s.world vs) (λ cs v. cs ≡ cells s.world ++ map Variable vs) (map Variable vs) Null (λ given. variables_fit (closure_rule g.script) (cells s.world) (cells s.world ++ map Variable vs) (later_behind (cells s.world) (map Variable vs)) vs given.1) (λ given. refl))
        (λ v. under a (frame kind.CallBody k 0 env []) after_call First 0 (bind_all (parameters_of sh.form) (length (cells s.world)) env))
        (λ v t q l is. inside_goes u env fit vs h.1 (cells s.world) t q is))

    pub body_goes : (u : Common) (env : Env) → EnvFits u.cells xs env → (args : List Value) → AllAre (There u.cells) args → Goes g form.Block u (body a sh k env args)
    body_goes u env fit args there = with_goes u env fit (arguments_for (parameters_of sh.form) args) (arguments_are (There u.cells) tt (parameters_of sh.form) args there)

  -- a body that is called
  pub body_of_goes : (f : NodeForm) → sh.form ≡ f → is_callable f ≡ true → (u : Common) (env : Env) → EnvFits u.cells xs env → (args : List Value) → AllAre (There u.cells) args → Goes g form.Block u (body_of a k sh env args f)
  body_of_goes (form.Closure heads) is cl u env fit args there = body_goes (ap is_callable is) u env fit args there
  body_of_goes (form.Function x names) is cl u env fit args there = body_goes (ap is_callable is) u env fit args there
  body_of_goes f is cl u env fit args there = absurd (cc)

  -- a branch's closure
  pub branched_goes : (f : NodeForm) → sh.form ≡ f → is_closure_form f ≡ true → (u : Common) (env : Env) → EnvFits u.cells xs env → (start : ℕ) → IsFlowNode u.nodes start → Goes g form.Block u (branched a k sh env start f)
  branched_goes (form.Closure heads) is cl u env fit start flow s at =
      through_goes g form.Block form.Block u (frame kind.BranchBody k 0 env (whole start ∷ [])) refl (sits_here g shaped k sh xs place u kind.BranchBody 0 env (whole start ∷ []) (ap is_closure_form is) (omega arith) (flow, tt) fit tt) (after_branch start)
      (branch_end_goes g form.Block refl u start flow) (body a sh k env [] s) (body_goes (ap is_callable is) u env fit [] tt s at)
  branched_goes f is cl u env fit start flow s at = absurd (cc)
