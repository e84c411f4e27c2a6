-- A node as it is entered: sound from a sound state on.
use Rattle.std.proofs.Common.{arith, ◌≡◌, ◌<◌, ◌-◌, refl, sym, ap, subst, ◌∙◌, ℕ, Bool, true, false, List, [], ◌∷◌, length, Option, Some, None}
use Rattle.std.specs.Prelude.{slice_get, drop, is_some, if◌then◌else◌}
use Rattle.std.specs.List.{AllByRecursion as AllAre}
use Rattle.model_syntax.specs.declared.node.NodeForm.{NodeForm}
use Rattle.model_syntax.specs.declared.node.NodeForm.TheVariants as form
use Rattle.model_values.specs.Cells.{new_cell, new_text}
use Rattle.model_values.specs.Fitting.{There, HasText, HasClosure, IsIn, CellsFit}
use Rattle.model_values.proofs.Growth.{new_texts}
use Rattle.model_values.proofs.CellGrowth.{Before, new_closure_grows, text_there, cell_there}
use Rattle.model_values.specs.declared.value.Value.{Value}
use Rattle.model_values.specs.declared.value.Value.TheVariants.{Null, Bool as Truth, Int as Whole, Cell as InCell}
use Rattle.model_values.specs.declared.cell.Cell.{Cell}
use Rattle.model_values.specs.declared.cell.Cell.TheVariants.{Closure as ClosureCell}
use Rattle.model_run.specs.declared.frame.FrameKind.TheVariants as kind
use Rattle.model_run.specs.declared.ending.Ending.TheVariants.{Broke, Continued}
use Rattle.model_run.specs.declared.ending.Entry.TheVariants.{First}
use Rattle.model_run.specs.State.{Common, World, Env, Ended, through, choose, operating, on_value}
use Rattle.model_run.specs.Around.{Around, Shape, form_at, arity, frame, ended, cells, limits, value_at}
use Rattle.model_run.specs.Names.{look}
use Rattle.model_run.specs.Statements.{statements, after_steps_first, each_from, after_try, throws}
use Rattle.model_syntax.specs.declared.tree.Access.{Access}
use Rattle.model_run.specs.Assignments.{receiver}
use Rattle.model_run.specs.Calls.{walks, walk, walk_method, called_value}
use Rattle.model_run.specs.Forms.{gather_all, start, suffix_on, turn}
use Rattle.model_run.specs.FrameTable.{is_block, is_chain, is_method, is_target_form, is_declaration, is_each, same_form, gathers, count_of, count_before, is_closure_form}
use Rattle.model_run.specs.Scoping.{Names, names_within, names_after}
use Rattle.model_run.specs.Fitting.{EnvFits, closure_rule}
use Rattle.model_run.proofs.LaterLaws.{env_later}
use Rattle.model_run.proofs.Under.{both}
use Rattle.run_laws.specs.Soundness.{Base, Shaped, may_declare, is_target, Sound, Goes}
use Rattle.run_laws.proofs.NodeLaws.{Real}
use Rattle.run_laws.proofs.Flow.{from_here, holds_as, tick_goes, end_goes, null_goes, answer_goes, through_goes}
use Rattle.run_laws.proofs.Sources.{TurnFits, turn_names, Place, Sources, sits_here, part_goes}
use Rattle.run_laws.proofs.SoundStatements.{statements_goes, under_goes, arms_goes, while_test_goes, while_turn_goes, steps_first_goes, steps_turn_goes, each_over_goes, each_turn_goes, try_goes, declaration_goes, return_goes, throw_end_goes}
use Rattle.run_laws.proofs.SoundAssignments.{operate_goes, read_goes, receiver_goes, content_there}
use Rattle.run_laws.proofs.SoundExpressions.{value_form_goes, property_goes, group_goes, choices_goes, operands_goes, joined_all_goes, prefixed_goes, suffixed_all_goes, indexed_goes}
use Rattle.run_laws.proofs.SoundGathering.{gather_goes}
use Rattle.run_laws.proofs.SoundCalls.{walk_goes}
use Rattle.run_laws.proofs.SoundForms.{gathered_goes}

called_count : (w : World) (o : Option ℕ) → length (called_value w o) ≡ (if is_some o then 1 else 0)
called_count w None = refl
called_count w (Some c) = refl

called_there : (g : Base) (w : World) → Sound g w → (o : Option ℕ) → AllAre (There (cells w)) (called_value w o)
called_there g w sound None = tt
called_there g w sound (Some c) = (content_there (closure_rule g.script) (cells w) (slice_get (cells w) c) c refl sound.cells, tt)

closure_value : (h : List Cell) (v : Value) → IsIn HasClosure h v → There h v
closure_value h (InCell c) e = cell_there HasClosure (λ h. h) h c e
closure_value h v e = absurd e

module _ (g : Base) (real : Real g.script [] g.script) (shaped : Shaped g.script) (k : ℕ) (sh : Shape) (xs : Names) (place : Place g k sh xs) (a : Around) (src : Sources g shaped k sh xs place a) where
  abbrev Is : NodeForm → Type 0
  Is f = sh.form ≡ f

  -- several values, from these on
  gathering_goes : (ga : gathers sh.form ≡ true) → is_declaration sh.form ≡ false → (env : Env) (u : Common) → EnvFits u.cells xs env → (vs : List Value) → length vs ≡ count_before sh.form env → AllAre (There u.cells) vs → Goes g sh.form u (gather_all a k sh env (arity sh) vs)
  gathering_goes ga plain env u fit vs count there =
      let z : 0 ≡ arity sh - arity sh = omega arith in
      gather_goes g shaped k sh xs place a src ga env (λ v fit1 ws n h. gathered_goes g real shaped k sh xs place a src plain env sh.form refl v fit1 ws h) (arity sh) (omega arith) u fit vs (count ∙ ap (count_of sh env) z) there

  closure_made : (u : Common) (env : Env) → EnvFits u.cells xs env → is_closure_form sh.form ≡ true → is_declaration sh.form ≡ false → Goes g sh.form u (operating (λ w. new_cell (limits w) (cells w) (ClosureCell k env)) ended)
  closure_made u env fit cl plain s at =
      let b : Before = record { l = limits s.world; rule = closure_rule g.script; h = cells s.world; given = CellsFit (closure_rule g.script) (cells s.world) × EnvFits (cells s.world) xs env; fit = λ x. x.0 } in
      answer_goes g sh.form u (IsIn HasClosure) (new_cell (limits s.world) (cells s.world) (ClosureCell k env)) s at (CellsFit (closure_rule g.script) (cells s.world) × EnvFits (cells s.world) xs env)
      ((at.sound).cells, env_later u s.world.shared at.later xs env fit)
      (new_closure_grows b k env (λ x. ((place.below, ap (λ s. is_closure_form s.form) place.there ∙ cl, (x.1).names ∙ sym place.sees), (x.1).variables))) ended (λ v t q l is. (q, (closure_value t.world.shared.cells v is, plain)))

  rows_goes : is_block sh.form ≡ true → (u : Common) (env : Env) → EnvFits u.cells xs env → Goes g sh.form u (statements a k (arity sh) (arity sh) Null env)
  rows_goes b u env fit = let z : 0 ≡ arity sh - arity sh = omega arith in statements_goes g shaped k sh xs place a src b (arity sh) (omega arith) u Null tt env (subst (λ n. EnvFits u.cells (names_after sh.parts n xs) env) z (none sh.parts))
    where
      none : (fs : List NodeForm) → EnvFits u.cells (names_after fs 0 xs) env
      none fs = fit

  each_first : (x : List ℕ) → Is (form.ForEach x) → (u : Common) (env : Env) → EnvFits u.cells xs env → Goes g sh.form u (λ s. through (frame kind.EachOver k 0 env []) (on_value (λ v. each_from a env v 0)) (a.part First 0 env s))
  each_first x is u env fit = under_goes g shaped k sh xs place a src sh.form u kind.EachOver refl 0 env [] (on_value (λ v. each_from a env v 0)) 0 (λ i. ap (λ f. may_declare f i) is) (ap (λ f. names_within f 0 xs) is) fit
      (sits_here g shaped k sh xs place u kind.EachOver 0 env [] (ap is_each is) (omega arith) tt fit tt) (each_over_goes g shaped k sh xs place a src x is u env fit)

  try_first : Is form.Try → (u : Common) (env : Env) → EnvFits u.cells xs env → Goes g sh.form u (λ s. through (frame kind.TryBlock k 0 env []) (after_try a k sh env) (a.part First 0 env s))
  try_first is u env fit = under_goes g shaped k sh xs place a src sh.form u kind.TryBlock refl 0 env [] (after_try a k sh env) 0 (λ i. ap (λ f. may_declare f i) is) (ap (λ f. names_within f 0 xs) is) fit
      (sits_here g shaped k sh xs place u kind.TryBlock 0 env [] (ap (same_form form.Try) is) (omega arith) tt fit tt) (try_goes g shaped k sh xs place a src is u env fit)

  throw_first : Is form.Throw → (u : Common) (env : Env) → EnvFits u.cells xs env → Goes g sh.form u (λ s. through (frame kind.ThrowValue k 0 env []) (on_value throws) (a.part First 0 env s))
  throw_first is u env fit = under_goes g shaped k sh xs place a src sh.form u kind.ThrowValue refl 0 env [] (on_value throws) 0 (λ i. ap (λ f. may_declare f i) is) (ap (λ f. names_within f 0 xs) is) fit
      (sits_here g shaped k sh xs place u kind.ThrowValue 0 env [] (ap (same_form form.Throw) is) (omega arith) tt fit tt) (throw_end_goes g shaped k sh xs place a src u)

  -- the first part of the head of a `for`
  steps_first : Is form.ForSteps → (u : Common) (env : Env) → EnvFits u.cells xs env → 0 < arity sh → Goes g sh.form u (λ s. through (frame kind.StepsFirst k 0 env []) (after_steps_first a k env) (a.part First 0 env s))
  steps_first is u env fit some s at = through_goes g sh.form (form_at sh.parts 0) u (frame kind.StepsFirst k 0 env []) refl (sits_here g shaped k sh xs place u kind.StepsFirst 0 env [] (ap (same_form form.ForSteps) is) (omega arith) tt fit tt) (after_steps_first a k env)
      (λ e t q h. steps_first_goes g shaped k sh xs place a src is u env fit e t q h some) (a.part First 0 env s) (src.part u 0 env (subst (λ ys. EnvFits u.cells ys env) (sym (ap (λ f. names_within f 0 (names_after sh.parts 0 xs)) is ∙ none sh.parts)) fit) s at)
    where
      none : (fs : List NodeForm) → names_after fs 0 xs ≡ xs
      none fs = refl

  chosen_target : (f : NodeForm) → Is f → is_target_form sh.form ≡ true → is_target (form_at sh.parts 0) ≡ true
  chosen_target f is t = ap (λ s. is_target (form_at s.parts 0)) (sym place.there) ∙ shaped.targets k (ap (λ s. is_target_form s.form) place.there ∙ t)

  target_goes : (f : NodeForm) (is : Is f) → is_target_form sh.form ≡ true → (u : Common) (env : Env) → EnvFits u.cells xs env → Goes g sh.form u (receiver a k sh env (form_at sh.parts 0))
  target_goes f is t u env fit = receiver_goes g shaped k sh xs place a src t (form_at sh.parts 0) refl (chosen_target f is t) u env fit

  -- From its beginning. The head of a `for` has parts.
  pub start_goes : (f : NodeForm) → Is f → (same_form form.ForSteps f ≡ true → 0 < arity sh) → (u : Common) (env : Env) → EnvFits u.cells xs env → Goes g sh.form u (start a k sh env f)
  start_goes form.Script is some u env fit = rows_goes (ap is_block is) u env fit
  start_goes form.Block is some u env fit = rows_goes (ap is_block is) u env fit
  start_goes form.If is some u env fit = tick_goes g sh.form u _ (arms_goes g shaped k sh xs place a src is (arity sh) (omega arith) u env fit)
  start_goes form.While is some u env fit = tick_goes g sh.form u _ (while_test_goes g shaped k sh xs place a src is u env fit)
  start_goes (form.ForEach x) is some u env fit = tick_goes g sh.form u _ (each_first x is u env fit)
  start_goes form.ForSteps is some u env fit = tick_goes g sh.form u _ (steps_first is u env fit (some refl))
  start_goes form.Try is some u env fit = tick_goes g sh.form u _ (try_first is u env fit)
  start_goes (form.Declare x) is some u env fit = tick_goes g sh.form u _ (declaration_goes g shaped k sh xs place a src x is (arity sh) refl u env fit)
  start_goes (form.Assign sign) is some u env fit = tick_goes g sh.form u _ (target_goes (form.Assign sign) is (ap is_target_form is) u env fit)
  start_goes form.Increment is some u env fit = tick_goes g sh.form u _ (target_goes form.Increment is (ap is_target_form is) u env fit)
  start_goes form.Decrement is some u env fit = tick_goes g sh.form u _ (target_goes form.Decrement is (ap is_target_form is) u env fit)
  start_goes form.Evaluate is some u env fit = tick_goes g sh.form u (a.part First 0 env) (λ s at. holds_as g form.Block sh.form u _ refl (ap is_declaration is) (part_goes g shaped k sh xs place a src (λ i. ap (λ f. may_declare f i) is) u env fit 0 (ap (λ f. names_within f 0 xs) is) s at))
  start_goes form.Return is some u env fit = tick_goes g sh.form u _ (return_goes g shaped k sh xs place a src (arity sh) is refl u env fit)
  start_goes form.Break is some u env fit = tick_goes g sh.form u (Ended Broke) (λ s at. (at, tt))
  start_goes form.Continue is some u env fit = tick_goes g sh.form u (Ended Continued) (λ s at. (at, tt))
  start_goes form.Throw is some u env fit = tick_goes g sh.form u _ (throw_first is u env fit)
  start_goes (form.Number z) is some u env fit = λ s at. value_form_goes g sh.form (ap is_declaration is) u (Whole z) s at tt
  start_goes (form.Literal t) is some u env fit = tick_goes g sh.form u _ (operate_goes g sh.form u [] tt (IsIn HasText) text_there (λ w. new_text (limits w) (cells w) t) (λ w. new_texts (limits w) (closure_rule g.script) (cells w) t) ended (end_goes g sh.form u (ap is_declaration is)))
  start_goes form.GString is some u env fit = gathering_goes (ap gathers is) (ap is_declaration is) env u fit [] (sym (ap (λ f. count_before f env) is)) tt
  start_goes form.True is some u env fit = λ s at. value_form_goes g sh.form (ap is_declaration is) u (Truth true) s at tt
  start_goes form.False is some u env fit = λ s at. value_form_goes g sh.form (ap is_declaration is) u (Truth false) s at tt
  start_goes form.Null is some u env fit = λ s at. value_form_goes g sh.form (ap is_declaration is) u Null s at tt
  start_goes (form.Variable x) is some u env fit = tick_goes g sh.form u _ (read_goes g sh.form u x xs env fit ended (end_goes g sh.form u (ap is_declaration is)))
  start_goes (form.Call f) is some u env fit = λ s at. from_here g sh.form u (gather_all a k sh env (arity sh) (called_value s.world (look f env))) s at
      (gathering_goes (ap gathers is) (ap is_declaration is) env s.world.shared (env_later u s.world.shared at.later xs env fit) (called_value s.world (look f env)) (called_count s.world (look f env) ∙ sym (ap (λ f. count_before f env) is)) (called_there g s.world at.sound (look f env)))
  start_goes form.Group is some u env fit = group_goes g shaped k sh xs place a src is u env fit
  start_goes form.List is some u env fit = gathering_goes (ap gathers is) (ap is_declaration is) env u fit [] (sym (ap (λ f. count_before f env) is)) tt
  start_goes form.Map is some u env fit = gathering_goes (ap gathers is) (ap is_declaration is) env u fit [] (sym (ap (λ f. count_before f env) is)) tt
  start_goes (form.Closure heads) is some u env fit = tick_goes g sh.form u _ (closure_made u env fit (ap is_closure_form is) (ap is_declaration is))
  start_goes (form.New c) is some u env fit = gathering_goes (ap gathers is) (ap is_declaration is) env u fit [] (sym (ap (λ f. count_before f env) is)) tt
  start_goes form.Suffixed is some u env fit = suffixed_all_goes g shaped k sh xs place a src is u env fit
  start_goes form.Prefixed is some u env fit = prefixed_goes g shaped k sh xs place a src is u env fit
  start_goes form.Joined is some u env fit = joined_all_goes g shaped k sh xs place a src is u env fit
  start_goes form.And is some u env fit = operands_goes g shaped k sh xs place a src (ap is_chain is) (arity sh) (omega arith) u env fit
  start_goes form.Or is some u env fit = operands_goes g shaped k sh xs place a src (ap is_chain is) (arity sh) (omega arith) u env fit
  start_goes form.Chosen is some u env fit = choices_goes g shaped k sh xs place a src is (arity sh) (omega arith) u env fit
  start_goes f is some u env fit = null_goes g sh.form u (ap is_declaration is)

  -- a suffix, on the value before it
  pub suffix_goes : (f : NodeForm) → Is f → (u : Common) (env : Env) → EnvFits u.cells xs env → (v : Value) → There u.cells v → is_declaration sh.form ≡ false → Goes g sh.form u (suffix_on a k sh env v f)
  suffix_goes (form.Property access p) is u env fit v there plain = property_goes g sh.form plain u access p v there
  suffix_goes (form.Method access f) is u env fit v there plain = gathering_goes (ap gathers is) plain env u fit (v ∷ []) (sym (ap (λ f. count_before f env) is)) (there, tt)
  suffix_goes form.Index is u env fit v there plain = indexed_goes g shaped k sh xs place a src is u env fit v there
  suffix_goes f is u env fit v there plain = null_goes g sh.form u plain

  walk_or_none : (access : Access) (name : List ℕ) → Is (form.Method access name) → (u : Common) (env : Env) → EnvFits u.cells xs env → (i : ℕ) (kept : List Value) → There u.cells (value_at 0 kept) → There u.cells (value_at 1 kept) → AllAre (There u.cells) (drop 2 kept) → (b : Bool) → walks (walk_method sh.form) ≡ b → Goes g sh.form u (choose b (walk a k env (walk_method sh.form) i (value_at 0 kept) (value_at 1 kept) (drop 2 kept)) (ended Null))
  walk_or_none access name is u env fit i kept h0 h1 h2 true e = λ s at. walk_goes g shaped k sh xs place a src (ap is_declaration is) access name is (both _ _ (ap is_method is) e) u env fit i (value_at 0 kept) (value_at 1 kept) (drop 2 kept) h0 h1 h2 s at
  walk_or_none access name is u env fit i kept h0 h1 h2 false e = λ s at. null_goes g sh.form u (ap is_declaration is) s at

  -- a further turn
  pub again_goes : (f : NodeForm) → Is f → (u : Common) (env : Env) → EnvFits u.cells (turn_names f sh.parts xs) env → (i : ℕ) (kept : List Value) → TurnFits f u kept → is_declaration sh.form ≡ false → Goes g sh.form u (turn a k sh env i kept f)
  again_goes form.While is u env fit i kept h plain = while_turn_goes g shaped k sh xs place a src is u env fit
  again_goes form.ForSteps is u env fit i kept h plain = steps_turn_goes g shaped k sh xs place a src is u env fit
  again_goes (form.ForEach x) is u env fit i kept h plain = each_turn_goes g shaped k sh xs place a src x is u env i kept fit h
  again_goes (form.Method access f) is u env fit i kept h plain = walk_or_none access f is u env fit i kept h.0 h.1 h.2 (walks (walk_method sh.form)) refl
  again_goes f is u env fit i kept h plain = null_goes g sh.form u plain
