-- Statements: sound from a sound state on.
use Rattle.std.proofs.Common.{arith, ◌≡◌, ◌≤◌, ◌<◌, ◌+◌, ◌-◌, refl, sym, ap, subst, ◌∙◌, ℕ, zero, suc, Bool, true, false, List, [], ◌∷◌, length, Option, Some, None}
use Rattle.std.specs.Prelude.{slice_get, ◌&&◌}
use Rattle.std.specs.List.{AllByRecursion as AllAre}
use Rattle.model_syntax.specs.declared.node.NodeForm.{NodeForm}
use Rattle.model_syntax.specs.declared.node.NodeForm.TheVariants as form
use Rattle.model_values.specs.Fitting.{There, HasVariable, HasThrowable, IsIn, CellsFit}
use Rattle.model_values.proofs.IndexGrowth.{all_index}
use Rattle.model_values.specs.Later.{TurnGrows, Given}
use Rattle.model_values.specs.Walks.{Turn as Element, Turns, Past, Stops, loop_turn}
use Rattle.model_values.proofs.Growth.{new_variables, throw_values, loop_turns}
use Rattle.model_values.proofs.LaterLaws.{throwable_later, variables_later}
use Rattle.model_values.proofs.CellGrowth.{cell_there}
use Rattle.model_values.specs.declared.value.Value.{Value}
use Rattle.model_values.specs.declared.value.Value.TheVariants.{Null, Cell as InCell}
use Rattle.model_values.specs.declared.cell.Cell.{Cell}
use Rattle.model_values.specs.declared.throwable.Class.{Class}
use Rattle.model_syntax.specs.declared.tree.Caught.{Caught}
use Rattle.model_values.specs.declared.cell.Binding.{Binding}
use Rattle.model_values.specs.declared.cell.Cell.TheVariants.{Variable, Text as TextCell, List as ListCell, Map as MapCell, Closure as ClosureCell, Thrown as ThrownCell}
use Rattle.model_run.specs.declared.frame.FrameKind.{FrameKind}
use Rattle.model_run.specs.declared.frame.FrameKind.TheVariants as kind
use Rattle.model_run.specs.declared.ending.Ending.{Ending}
use Rattle.model_run.specs.declared.ending.Ending.TheVariants.{Normal, Thrown, Returned, Broke, Continued, Declared, Answered}
use Rattle.model_run.specs.declared.ending.Entry.TheVariants.{First, Inside}
use Rattle.model_run.specs.State.{Common, State, Env, Result, Ended, with_world, put_cells, on_value}
use Rattle.model_run.specs.Around.{Around, Shape, form_at, arity, frame, under, ended, cells, limits, value_at, cell_number, whole, deciding}
use Rattle.model_run.specs.Names.{new_variable, bind, declare}
use Rattle.model_run.specs.Statements.{on_statement, statements, after_if_test, arm, arms, on_turn, after_test, while_test, while_turn, after_steps_first, steps_test, steps_next, steps_turn, each_next, each_from, each_body, each_element, each_turn, catching, catches, catch_if, catch_of, catch_among, catch_for, after_catch, after_try, finally_block, finally_behind, after_finally, has_finally, is_finally, return_from, returns, throws, declaration}
use Rattle.model_run.specs.FrameTable.{frame_row, is_block, same_form, is_arm, is_catch, is_each, is_declaration, current}
use Rattle.model_run.specs.Nesting.{ValuesFit}
use Rattle.model_run.specs.Scoping.{frame_names, Names, names_within, names_behind, names_after, names_of}
use Rattle.model_run.specs.Fitting.{EnvFits, closure_rule, Later, holds_folder}
use Rattle.model_run.proofs.LaterLaws.{env_later}
use Rattle.model_run.proofs.StatementLaws.{some_parts}
use Rattle.model_run.proofs.Under.{both}
use Rattle.model_run.proofs.Front.{front_itself}
use Rattle.run_laws.specs.Soundness.{Base, Shaped, may_declare, seen, NumbersFit, Sits, declares_as, EndFits, At, Holds, Goes}
use Rattle.run_laws.proofs.Sizes.{TurnLow, loop_low}
use Rattle.run_laws.proofs.Flow.{end_then, later_self, there_then, at_self, holds_then, from_here, holds_as, end_as, at_moved, tick_goes, decide_goes, null_goes, value_goes, moves_cells, answer_with, answer_goes, through_goes, stopped_here}
use Rattle.run_laws.proofs.Sources.{TurnFits, turn_names, behind_none, after_one_more, Place, Sources, sits_here, Quiet, quiet_part, quiet_names, quiet_after, no_declaration, part_goes, inner_goes}

block_ends : (f : NodeForm) → is_block f ≡ true → is_declaration f ≡ false
block_ends form.Script e = refl
block_ends form.Block e = refl
block_ends f e = absurd (cc)

block_within : (f : NodeForm) → is_block f ≡ true → (i : ℕ) (ys : Names) → names_within f i ys ≡ ys
block_within form.Script e i ys = refl
block_within form.Block e i ys = refl
block_within f e i ys = absurd (cc)

-- a declared variable is seen behind its declaration
declared_fits : (u v : Common) → Later u v → (p : NodeForm) (b : Binding) (ys : Names) (env : Env) → EnvFits u.cells ys env → declares_as p b.name → HasVariable (slice_get v.cells b.cell) → EnvFits v.cells (names_behind p ys) (b ∷ env)
declared_fits u v later (form.Declare x) b ys env fit d there = record {
  names = ap (λ n. n ∷ names_of env) (sym d) ∙ ap (λ zs. x ∷ zs) fit.names;
  variables = (there, variables_later u.cells v.cells later.cells env fit.variables);
}
declared_fits u v later p b ys env fit d there = absurd d

-- a new variable in front
pub bound_fits : (u v : Common) → Later u v → (x : List ℕ) (c : ℕ) (ys : Names) (env : Env) → EnvFits u.cells ys env → HasVariable (slice_get v.cells c) → EnvFits v.cells (x ∷ ys) (bind x c env)
bound_fits u v later x c ys env fit there = record { names = ap (λ zs. x ∷ zs) fit.names; variables = (there, variables_later u.cells v.cells later.cells env fit.variables) }

variable_in : (h : List Cell) (v : Value) → IsIn HasVariable h v → HasVariable (slice_get h (cell_number v))
variable_in h (InCell c) t = t
variable_in h v t = absurd t

finally_form : (f : NodeForm) → is_finally f ≡ true → f ≡ form.Finally
finally_form form.Finally e = refl
finally_form f e = absurd (cc)

-- the catch that takes a throwable is one of the parts, with its name
record CaughtBy (fs : List NodeForm) (n : ℕ) (p : ℕ × List ℕ) : Type 0 where
  place : ℕ
  is : p.0 ≡ n + place
  below : place < length fs
  caught : Caught
  named : form_at fs place ≡ form.Catch caught p.1

abbrev CaughtFrom : List NodeForm → ℕ → Option (ℕ × List ℕ) → Type 0
CaughtFrom fs n None = Unit {0}
CaughtFrom fs n (Some p) = CaughtBy fs n p

caught_later : (f : NodeForm) (fs : List NodeForm) (n : ℕ) (o : Option (ℕ × List ℕ)) → CaughtFrom fs (suc n) o → CaughtFrom (f ∷ fs) n o
caught_later f fs n None h = tt
caught_later f fs n (Some p) h = record { place = suc h.place; is = omega (arith, h.is); below = omega (arith, h.below); caught = h.caught; named = h.named }

caught_if : (b : Bool) (caught : Caught) (x : List ℕ) (fs : List NodeForm) (n : ℕ) (o : Option (ℕ × List ℕ)) → CaughtFrom (form.Catch caught x ∷ fs) n o → CaughtFrom (form.Catch caught x ∷ fs) n (catch_if b n x o)
caught_if true caught x fs n o h = record { place = 0; is = omega arith; below = omega arith; caught = caught; named = refl }
caught_if false caught x fs n o h = h

caught_of : (class : Class) (f : NodeForm) (fs : List NodeForm) (n : ℕ) (o : Option (ℕ × List ℕ)) → CaughtFrom (f ∷ fs) n o → CaughtFrom (f ∷ fs) n (catch_of class n f o)
caught_of class (form.Catch caught x) fs n o h = caught_if (catches caught class) caught x fs n o h
caught_of class f fs n o h = h

caught_among : (class : Class) (fs : List NodeForm) (n : ℕ) → CaughtFrom fs n (catch_among class n fs)
caught_among class [] n = tt
caught_among class (f ∷ fs) n = caught_of class f fs n _ (caught_later f fs n _ (caught_among class fs (suc n)))

caught_for : (sh : Shape) (c : Option Cell) → CaughtFrom sh.parts 0 (catch_for sh c)
caught_for sh (Some (ThrownCell class m)) = caught_among class sh.parts 0
caught_for sh (Some (Variable v)) = tt
caught_for sh (Some (TextCell t)) = tt
caught_for sh (Some (ListCell vs)) = tt
caught_for sh (Some (MapCell es)) = tt
caught_for sh (Some (ClosureCell n env)) = tt
caught_for sh None = tt

module _ (g : Base) where
  -- the ending of a statement of form p goes to the next ones, with one more name or none
  pub statement_goes : (f p : NodeForm) (u : Common) (ys : Names) (env : Env) → EnvFits u.cells ys env → (go : Value → Env → State → Result)
      → ((v : Value) (env : Env) (s : State) → At g u s → There s.world.shared.cells v → EnvFits s.world.shared.cells (names_behind p ys) env → Holds g f u (go v env s))
      → (e : Ending) (s : State) → At g u s → EndFits p s.world.shared e → Holds g f u (on_statement env go e s)
  statement_goes f p u ys env fit go k (Normal v) s at h = k v env s at h.0 (subst (λ zs. EnvFits s.world.shared.cells zs env) (sym (behind_none p ys h.1)) (env_later u s.world.shared at.later ys env fit))
  statement_goes f p u ys env fit go k (Thrown c) s at h = (at, h)
  statement_goes f p u ys env fit go k (Returned v) s at h = (at, h)
  statement_goes f p u ys env fit go k Broke s at h = (at, tt)
  statement_goes f p u ys env fit go k Continued s at h = (at, tt)
  statement_goes f p u ys env fit go k (Declared b) s at h = k Null (b ∷ env) s at tt (declared_fits u s.world.shared at.later p b ys env fit h.0 h.1)
  statement_goes f p u ys env fit go k (Answered x) s at h = absurd h

  module _ (f : NodeForm) (plain : is_declaration f ≡ false) (u : Common) where
    -- a turn of a loop
    pub turn_goes : (go : State → Result) → Goes g f u go → (e : Ending) (s : State) → At g u s → EndFits form.Block s.world.shared e → Holds g f u (on_turn go e s)
    turn_goes go k (Normal v) s at h = k s at
    turn_goes go k (Thrown c) s at h = (at, h)
    turn_goes go k (Returned v) s at h = (at, h)
    turn_goes go k Broke s at h = (at, (tt, plain))
    turn_goes go k Continued s at h = k s at
    turn_goes go k (Declared b) s at h = absurd h.0
    turn_goes go k (Answered x) s at h = absurd h

    pub finally_end_goes : (before : Ending) → EndFits form.Block u before → (e : Ending) (s : State) → At g u s → EndFits form.Block s.world.shared e → Holds g f u (after_finally before e s)
    finally_end_goes before b (Normal v) s at h = (at, end_as g form.Block f s.world.shared before refl plain (end_then u s.world.shared at.later form.Block before b))
    finally_end_goes before b (Thrown c) s at h = (at, h)
    finally_end_goes before b (Returned v) s at h = (at, h)
    finally_end_goes before b Broke s at h = (at, tt)
    finally_end_goes before b Continued s at h = (at, tt)
    finally_end_goes before b (Declared x) s at h = absurd h.0
    finally_end_goes before b (Answered x) s at h = absurd h

  module _ (f : NodeForm) (u : Common) where
    -- a new variable with this value
    pub variable_from : (v : Value) (go : ℕ → State → Result) → There u.cells v → (s : State) → At g u s → ((c : ℕ) (t : State) → At g u t → t.world.shared.binding ≡ s.world.shared.binding → HasVariable (slice_get t.world.shared.cells c) → Holds g f u (go c t)) → Holds g f u (new_variable v go s)
    variable_from v go there s at k =
        answer_with g f u (IsIn HasVariable) _ s at (Given (closure_rule g.script) (cells s.world) (v ∷ [])) ((at.sound).cells, (there_then u s.world.shared at.later v there, tt))
        (new_variables (limits s.world) (closure_rule g.script) (cells s.world) v) (λ c. go (cell_number c))
        (λ c t at' l same is. k (cell_number c) t at' same (variable_in t.world.shared.cells c is))

    pub variable_goes : (v : Value) (go : ℕ → State → Result) → There u.cells v → ((c : ℕ) (s : State) → At g u s → HasVariable (slice_get s.world.shared.cells c) → Holds g f u (go c s)) → Goes g f u (new_variable v go)
    variable_goes v go there k s at = variable_from v go there s at (λ c t at' same has. k c t at' has)

  pub declare_goes : (x : List ℕ) (u : Common) (v : Value) → There u.cells v → Goes g (form.Declare x) u (declare x v)
  declare_goes x u v there = variable_goes (form.Declare x) u v (λ c. Ended (Declared (record { name = x; cell = c }))) there (λ c s at has. (at, (refl, has)))

  pub throws_goes : (f : NodeForm) (u : Common) (v : Value) → There u.cells v → Goes g f u (throws v)
  throws_goes f u v there s at =
      answer_goes g f u (λ h v. ⊥) _ s at (Given (closure_rule g.script) (cells s.world) (v ∷ [])) ((at.sound).cells, (there_then u s.world.shared at.later v there, tt))
      (throw_values (limits s.world) (closure_rule g.script) (cells s.world) v) ended (λ c t at' l is. absurd is)

module _ (g : Base) (shaped : Shaped g.script) (k : ℕ) (sh : Shape) (xs : Names) (place : Place g k sh xs) (a : Around) (src : Sources g shaped k sh xs place a) where
  -- behind a statement, where the further ones go on
  next_goes : is_block sh.form ≡ true → (m : ℕ) → suc m ≤ arity sh → (u : Common) (env : Env) → EnvFits u.cells (names_after sh.parts (arity sh - suc m) xs) env
      → ((w : Common) (v : Value) → There w.cells v → (env : Env) → EnvFits w.cells (names_after sh.parts (arity sh - m) xs) env → Goes g sh.form w (statements a k (arity sh) m v env))
      → (e : Ending) (s : State) → At g u s → EndFits (form_at sh.parts (arity sh - suc m)) s.world.shared e → Holds g sh.form u (on_statement env (statements a k (arity sh) m) e s)
  next_goes at m le u env fit rest e t p h =
      let next : names_behind (form_at sh.parts (arity sh - suc m)) (names_after sh.parts (arity sh - suc m) xs) ≡ names_after sh.parts (arity sh - m) xs =
      (let one : suc (arity sh - suc m) ≡ arity sh - m = omega arith in sym (after_one_more sh.parts (arity sh - suc m) xs (omega arith)) ∙ ap (λ n. names_after sh.parts n xs) one) in
      statement_goes g sh.form (form_at sh.parts (arity sh - suc m)) u (names_after sh.parts (arity sh - suc m) xs) env fit (statements a k (arity sh) m)
      (λ v1 env1 t1 p1 there1 fit1. from_here g sh.form u (statements a k (arity sh) m v1 env1) t1 p1 (rest t1.world.shared v1 there1 env1 (subst (λ ys. EnvFits t1.world.shared.cells ys env1) next fit1))) e t p h

  -- statements in a row
  pub statements_goes : is_block sh.form ≡ true → (m : ℕ) → m ≤ arity sh → (u : Common) (v : Value) → There u.cells v → (env : Env) → EnvFits u.cells (names_after sh.parts (arity sh - m) xs) env → Goes g sh.form u (statements a k (arity sh) m v env)
  statements_goes at zero le u v there env fit s q = (q, (there_then u s.world.shared q.later v there, block_ends sh.form at))
  statements_goes at (suc m) le u v there env fit s q =
      through_goes g sh.form (form_at sh.parts (arity sh - suc m)) u (frame kind.Statement k m env []) refl (sits_here g shaped k sh xs place u kind.Statement m env [] at (omega arith) tt fit tt) (on_statement env (statements a k (arity sh) m))
      (next_goes at m le u env fit (statements_goes at m (omega arith))) (a.part First (arity sh - suc m) env s)
      (src.part u (arity sh - suc m) env (subst (λ ys. EnvFits u.cells ys env) (sym (block_within sh.form at (arity sh - suc m) (names_after sh.parts (arity sh - suc m) xs))) fit) s q)

  pub statement_end_goes : is_block sh.form ≡ true → (m : ℕ) → suc m ≤ arity sh → (u : Common) (env : Env) → EnvFits u.cells (names_after sh.parts (arity sh - suc m) xs) env → (e : Ending) (s : State) → At g u s → EndFits (form_at sh.parts (arity sh - suc m)) s.world.shared e → Holds g sh.form u (on_statement env (statements a k (arity sh) m) e s)
  statement_end_goes at m le u env fit = next_goes at m le u env fit (statements_goes at m (omega arith))

  -- a part under a frame, in a node that sees for it what it sees itself
  pub under_goes : (f : NodeForm) (u : Common) (d : FrameKind) → holds_folder d ≡ false → (left : ℕ) (env : Env) (vs : List Value) → (go : Ending → State → Result) (i : ℕ) → Quiet g shaped k sh xs place → names_within sh.form i xs ≡ xs → EnvFits u.cells xs env
      → Sits g.script u (frame d k left env vs) → ((e : Ending) (s : State) → At g u s → EndFits form.Block s.world.shared e → Holds g f u (go e s)) → Goes g f u (under a (frame d k left env vs) go First i env)
  under_goes f u d none left env vs go i q w fit sits k' s at = through_goes g f form.Block u (frame d k left env vs) none sits go k' (a.part First i env s) (part_goes g shaped k sh xs place a src q u env fit i w s at)

  -- a node that is none of the two forms that declare
  abbrev Is : NodeForm → Type 0
  Is f = sh.form ≡ f

  -- `if`
  module _ (is : Is form.If) where
    if_quiet : Quiet g shaped k sh xs place
    if_quiet i = ap (λ f. may_declare f i) is

    if_plain : is_declaration sh.form ≡ false
    if_plain = ap is_declaration is

    if_within : (i : ℕ) → names_within sh.form i xs ≡ xs
    if_within i = ap (λ f. names_within f i xs) is

    -- a part in the place of the node
    if_part : (u : Common) (i : ℕ) (env : Env) → EnvFits u.cells xs env → Goes g sh.form u (a.part First i env)
    if_part u i env fit s at = holds_as g form.Block sh.form u _ refl if_plain (part_goes g shaped k sh xs place a src if_quiet u env fit i (if_within i) s at)

    pub if_test_goes : (u : Common) (m : ℕ) (env : Env) → EnvFits u.cells xs env → form_at sh.parts (arity sh - suc m) ≡ form.Arm → (others : State → Result) → Goes g sh.form u others
        → (e : Ending) (s : State) → At g u s → EndFits form.Block s.world.shared e → Holds g sh.form u (after_if_test a sh m env others e s)
    if_test_goes u m env fit armed others go e s at h =
        value_goes g sh.form u (λ v. deciding v (a.part (Inside 1) (arity sh - suc m) env) others)
        (λ v t q there. decide_goes g sh.form u v (a.part (Inside 1) (arity sh - suc m) env) others
        (λ t1 q1. holds_as g form.Block sh.form u _ refl if_plain (inner_goes g shaped k sh xs place a src if_quiet u (arity sh - suc m) 1 form.Arm env armed refl (if_within (arity sh - suc m)) fit t1 q1)) go t q) e s at h

    arm_goes : (u : Common) (m : ℕ) → suc m ≤ arity sh → (env : Env) → EnvFits u.cells xs env → (others : State → Result) → Goes g sh.form u others → (p : NodeForm) → form_at sh.parts (arity sh - suc m) ≡ p → Goes g sh.form u (arm a k sh m env others p)
    arm_goes u m le env fit others go form.Arm e s at =
        through_goes g sh.form form.Block u (frame kind.IfTest k m env []) refl (sits_here g shaped k sh xs place u kind.IfTest m env [] (both _ _ (ap (same_form form.If) is) (ap is_arm e)) (omega arith) tt fit tt) (after_if_test a sh m env others)
        (λ e1 t q h. if_test_goes u m env fit e others go e1 t q h) (a.part (Inside 0) (arity sh - suc m) env s)
        (inner_goes g shaped k sh xs place a src if_quiet u (arity sh - suc m) 0 form.Arm env e refl (if_within (arity sh - suc m)) fit s at)
    arm_goes u m le env fit others go p e s at = if_part u (arity sh - suc m) env fit s at

    pub arms_goes : (m : ℕ) → m ≤ arity sh → (u : Common) (env : Env) → EnvFits u.cells xs env → Goes g sh.form u (arms a k sh m env)
    arms_goes zero le u env fit = null_goes g sh.form u if_plain
    arms_goes (suc m) le u env fit = arm_goes u m le env fit (arms a k sh m env) (arms_goes m (omega arith) u env fit) (form_at sh.parts (arity sh - suc m)) refl

  -- `while`
  module _ (is : Is form.While) where
    while_quiet : Quiet g shaped k sh xs place
    while_quiet i = ap (λ f. may_declare f i) is

    while_plain : is_declaration sh.form ≡ false
    while_plain = ap is_declaration is

    pub while_again : (u : Common) (env : Env) → EnvFits u.cells xs env → Goes g sh.form u (a.again 0 [] env)
    while_again u env fit = src.again u 0 [] env while_plain (subst (λ zs. EnvFits u.cells zs env) (sym (ap (λ f. turn_names f sh.parts xs) is)) fit) (subst (λ f. TurnFits f u []) (sym is) tt)

    pub while_after_test : (u : Common) (env : Env) → EnvFits u.cells xs env → (e : Ending) (s : State) → At g u s → EndFits form.Block s.world.shared e → Holds g sh.form u (after_test a env e s)
    while_after_test u env fit = value_goes g sh.form u _ (λ v t q there. decide_goes g sh.form u v _ _ (tick_goes g sh.form u _ (while_again u env fit)) (null_goes g sh.form u while_plain) t q)

    pub while_test_goes : (u : Common) (env : Env) → EnvFits u.cells xs env → Goes g sh.form u (while_test a k env)
    while_test_goes u env fit = under_goes sh.form u kind.WhileTest refl 0 env [] (after_test a env) 0 while_quiet (ap (λ f. names_within f 0 xs) is) fit
        (sits_here g shaped k sh xs place u kind.WhileTest 0 env [] (ap (same_form form.While) is) (omega arith) tt fit tt) (while_after_test u env fit)

    pub while_body_goes : (u : Common) (env : Env) → EnvFits u.cells xs env → (e : Ending) (s : State) → At g u s → EndFits form.Block s.world.shared e → Holds g sh.form u (on_turn (while_test a k env) e s)
    while_body_goes u env fit = turn_goes g sh.form while_plain u (while_test a k env) (while_test_goes u env fit)

    pub while_turn_goes : (u : Common) (env : Env) → EnvFits u.cells xs env → Goes g sh.form u (while_turn a k env)
    while_turn_goes u env fit = under_goes sh.form u kind.WhileBody refl 0 env [] (on_turn (while_test a k env)) 1 while_quiet (ap (λ f. names_within f 1 xs) is) fit
        (sits_here g shaped k sh xs place u kind.WhileBody 0 env [] (ap (same_form form.While) is) (omega arith) tt fit tt) (while_body_goes u env fit)

  -- `for (first; test; next) block`
  module _ (is : Is form.ForSteps) where
    steps_plain : is_declaration sh.form ≡ false
    steps_plain = ap is_declaration is

    -- what is seen behind the first part, and so by all further ones
    abbrev ys : Names
    ys = names_after sh.parts 1 xs

    steps_names : (i : ℕ) → names_within sh.form (suc i) (names_after sh.parts (suc i) xs) ≡ names_after sh.parts 1 xs
    steps_names i = ap (λ f. names_within f (suc i) (names_after sh.parts (suc i) xs)) is ∙ further sh.parts (λ j. no_declaration g shaped k sh xs place (suc j) (ap (λ f. may_declare f (suc j)) is)) i
      where
        further : (fs : List NodeForm) → ((j : ℕ) → is_declaration (form_at fs (suc j)) ≡ false) → (i : ℕ) → names_after fs (suc i) xs ≡ names_after fs 1 xs
        further [] h i = refl
        further (f ∷ fs) h i = quiet_after fs i (names_behind f xs) h

    steps_part : (u : Common) (i : ℕ) (env : Env) → EnvFits u.cells (names_after sh.parts 1 xs) env → Goes g form.Block u (a.part First (suc i) env)
    steps_part u i env fit s at =
        holds_as g (form_at sh.parts (suc i)) form.Block u _ (no_declaration g shaped k sh xs place (suc i) (ap (λ f. may_declare f (suc i)) is)) refl
        (src.part u (suc i) env (subst (λ zs. EnvFits u.cells zs env) (sym (steps_names i)) fit) s at)

    steps_under : (u : Common) (d : FrameKind) → holds_folder d ≡ false → (i : ℕ) (env : Env) → Sits g.script u (frame d k 0 env []) → EnvFits u.cells (names_after sh.parts 1 xs) env → (go : Ending → State → Result)
        → ((e : Ending) (s : State) → At g u s → EndFits form.Block s.world.shared e → Holds g sh.form u (go e s)) → Goes g sh.form u (under a (frame d k 0 env []) go First (suc i) env)
    steps_under u d none i env sits fit go k' s at = through_goes g sh.form form.Block u (frame d k 0 env []) none sits go k' (a.part First (suc i) env s) (steps_part u i env fit s at)

    steps_again : (u : Common) (env : Env) → EnvFits u.cells (names_after sh.parts 1 xs) env → Goes g sh.form u (a.again 0 [] env)
    steps_again u env fit = src.again u 0 [] env steps_plain (subst (λ zs. EnvFits u.cells zs env) (sym (ap (λ f. turn_names f sh.parts xs) is)) fit) (subst (λ f. TurnFits f u []) (sym is) tt)

    steps_sits : (u : Common) (d : FrameKind) (env : Env) → (frame_row d sh 0 env).stands ≡ true → 0 < (frame_row d sh 0 env).limit → ValuesFit (seen u) (frame_row d sh 0 env).further (frame_row d sh 0 env).values [] → EnvFits u.cells (frame_names d sh 0 xs) env → NumbersFit d [] → Sits g.script u (frame d k 0 env [])
    steps_sits u d env stands low values fit numbers = sits_here g shaped k sh xs place u d 0 env [] stands low values fit numbers

    pub steps_after_test : (u : Common) (env : Env) → EnvFits u.cells (names_after sh.parts 1 xs) env → (e : Ending) (s : State) → At g u s → EndFits form.Block s.world.shared e → Holds g sh.form u (after_test a env e s)
    steps_after_test u env fit = value_goes g sh.form u _ (λ v t q there. decide_goes g sh.form u v _ _ (tick_goes g sh.form u _ (steps_again u env fit)) (null_goes g sh.form u steps_plain) t q)

    steps_test_goes : (u : Common) (env : Env) → EnvFits u.cells (names_after sh.parts 1 xs) env → Goes g sh.form u (steps_test a k env)
    steps_test_goes u env fit = steps_under u kind.StepsTest refl 0 env (steps_sits u kind.StepsTest env (ap (same_form form.ForSteps) is) (omega arith) tt fit tt) fit (after_test a env) (steps_after_test u env fit)

    -- behind the first part of the head
    pub steps_first_goes : (u : Common) (env : Env) → EnvFits u.cells xs env → (e : Ending) (s : State) → At g u s → EndFits (form_at sh.parts 0) s.world.shared e → 0 < arity sh → Holds g sh.form u (after_steps_first a k env e s)
    steps_first_goes u env fit e s at h some =
        statement_goes g sh.form (form_at sh.parts 0) u xs env fit (λ v env. steps_test a k env)
        (λ v env1 t q there fit1. from_here g sh.form u (steps_test a k env1) t q (steps_test_goes t.world.shared env1 (subst (λ zs. EnvFits t.world.shared.cells zs env1) (sym (after_one_more sh.parts 0 xs some)) fit1))) e s at h

    -- behind its third part, which declares nothing
    pub steps_again_goes : (u : Common) (env : Env) → EnvFits u.cells (names_after sh.parts 1 xs) env → (e : Ending) (s : State) → At g u s → EndFits form.Block s.world.shared e → Holds g sh.form u (after_steps_first a k env e s)
    steps_again_goes u env fit e s at h =
        statement_goes g sh.form form.Block u (names_after sh.parts 1 xs) env fit (λ v env. steps_test a k env)
        (λ v env1 t q there fit1. from_here g sh.form u (steps_test a k env1) t q (steps_test_goes t.world.shared env1 fit1)) e s at h

    steps_next_goes : (u : Common) (env : Env) → EnvFits u.cells (names_after sh.parts 1 xs) env → Goes g sh.form u (steps_next a k env)
    steps_next_goes u env fit = steps_under u kind.StepsNext refl 1 env (steps_sits u kind.StepsNext env (ap (same_form form.ForSteps) is) (omega arith) tt fit tt) fit (after_steps_first a k env) (steps_again_goes u env fit)

    pub steps_body_goes : (u : Common) (env : Env) → EnvFits u.cells (names_after sh.parts 1 xs) env → (e : Ending) (s : State) → At g u s → EndFits form.Block s.world.shared e → Holds g sh.form u (on_turn (steps_next a k env) e s)
    steps_body_goes u env fit = turn_goes g sh.form steps_plain u (steps_next a k env) (steps_next_goes u env fit)

    pub steps_turn_goes : (u : Common) (env : Env) → EnvFits u.cells (names_after sh.parts 1 xs) env → Goes g sh.form u (steps_turn a k env)
    steps_turn_goes u env fit = steps_under u kind.StepsBody refl 2 env (steps_sits u kind.StepsBody env (ap (same_form form.ForSteps) is) (omega arith) tt fit tt) fit (on_turn (steps_next a k env)) (steps_body_goes u env fit)

  -- `for (x in e) block`
  module _ (x : List ℕ) (is : Is (form.ForEach x)) where
    each_quiet : Quiet g shaped k sh xs place
    each_quiet i = ap (λ f. may_declare f i) is

    each_plain : is_declaration sh.form ≡ false
    each_plain = ap is_declaration is

    each_again : (u : Common) (i : ℕ) (on : Value) (env : Env) → EnvFits u.cells xs env → There u.cells on → Goes g sh.form u (a.again i (on ∷ []) env)
    each_again u i on env fit there = src.again u i (on ∷ []) env each_plain (subst (λ zs. EnvFits u.cells zs env) (sym (ap (λ f. turn_names f sh.parts xs) is)) fit) (subst (λ f. TurnFits f u (on ∷ [])) (sym is) there)

    each_next_goes : (u : Common) (env : Env) (on : Value) (i : ℕ) → EnvFits u.cells xs env → There u.cells on → (t : Element) → Goes g sh.form u (each_next a env on i t)
    each_next_goes u env on i fit there Past = null_goes g sh.form u each_plain
    each_next_goes u env on i fit there (Turns h args element) = tick_goes g sh.form u _ (each_again u i on env fit there)
    each_next_goes u env on i fit there (Stops limit) = tick_goes g sh.form u _ (each_again u i on env fit there)

    pub each_from_goes : (u : Common) (env : Env) (on : Value) (i : ℕ) → EnvFits u.cells xs env → There u.cells on → Goes g sh.form u (each_from a env on i)
    each_from_goes u env on i fit there s at = each_next_goes u env on i fit there (loop_turn (limits s.world) (cells s.world) on i) s at

    pub each_over_goes : (u : Common) (env : Env) → EnvFits u.cells xs env → (e : Ending) (s : State) → At g u s → EndFits form.Block s.world.shared e → Holds g sh.form u (on_value (λ v. each_from a env v 0) e s)
    each_over_goes u env fit = value_goes g sh.form u _ (λ v t q there. from_here g sh.form u (each_from a env v 0) t q (each_from_goes t.world.shared env v 0 (env_later u t.world.shared q.later xs env fit) there))

    pub each_body_end : (u : Common) (env : Env) (on : Value) (i : ℕ) → EnvFits u.cells xs env → There u.cells on → (e : Ending) (s : State) → At g u s → EndFits form.Block s.world.shared e → Holds g sh.form u (on_turn (each_from a env on i) e s)
    each_body_end u env on i fit there = turn_goes g sh.form each_plain u (each_from a env on i) (each_from_goes u env on i fit there)

    each_body_goes : (u : Common) (env : Env) (on : Value) (i : ℕ) (element : Value) → i ≤ 2147483646 → EnvFits u.cells xs env → There u.cells on → There u.cells element → Goes g sh.form u (each_body a k x env on i element)
    each_body_goes u env on i element low fit there here =
        variable_goes g sh.form u element _ here (λ c s at has.
        let v : Common = s.world.shared in
        let fit1 : EnvFits s.world.shared.cells xs env = env_later u s.world.shared at.later xs env fit in
        let there1 : There s.world.shared.cells on = there_then u s.world.shared at.later on there in
        let inner : EnvFits s.world.shared.cells (x ∷ xs) (bind x c env) = bound_fits s.world.shared s.world.shared (later_self s.world.shared) x c xs env fit1 has in
        let names : names_within sh.form 1 (names_after sh.parts 1 xs) ≡ x ∷ xs = ap (names_within sh.form 1) (quiet_names g shaped k sh xs place each_quiet 1) ∙ ap (λ f. names_within f 1 xs) is in
        holds_then g sh.form u s.world.shared at.later _ (through_goes g sh.form form.Block s.world.shared (frame kind.EachBody k 0 env (on ∷ whole i ∷ [])) refl
        (sits_here g shaped k sh xs place s.world.shared kind.EachBody 0 env (on ∷ whole i ∷ []) (ap is_each is) (omega arith) (there1, (tt, tt)) fit1 low) (on_turn (each_from a env on (suc i)))
        (each_body_end s.world.shared env on (suc i) fit1 there1) (a.part First 1 (bind x c env) s)
        (holds_as g (form_at sh.parts 1) form.Block s.world.shared _ (quiet_part g shaped k sh xs place each_quiet 1) refl
        (src.part s.world.shared 1 (bind x c env) (subst (λ zs. EnvFits s.world.shared.cells zs (bind x c env)) (sym names) inner) s (at_self g u s at)))))

    each_element_goes : (u : Common) (env : Env) (on : Value) (i : ℕ) → EnvFits u.cells xs env → There u.cells on → (t : Element) (s : State) → At g u s → TurnLow i t → TurnGrows (limits s.world) (closure_rule g.script) (cells s.world) (Given (closure_rule g.script) (cells s.world) (on ∷ [])) t → Holds g sh.form u (each_element a k x env on i t s)
    each_element_goes u env on i fit there Past s at low grown = null_goes g sh.form u each_plain s at
    each_element_goes u env on i fit there (Stops limit) s at low grown = stopped_here g u s at
    each_element_goes u env on i fit there (Turns h args element) s at low grown =
        let fits : CellsFit (closure_rule g.script) h × (AllAre (There h) args × AllAre (There h) element) = grown.fits ((at.sound).cells, (there_then u s.world.shared at.later on there, tt)) in
        let l1 : Later s.world.shared (put_cells h s.world).shared = record { cells = grown.later; nodes = front_itself s.world.shared.nodes } in
        let at1 : At g u (with_world (put_cells h s.world) s) = at_moved g u (put_cells h) s at (moves_cells g s.world at.sound _ _ h grown fits.0) in
        from_here g sh.form u (each_body a k x env on i (value_at 0 args)) (with_world (put_cells h s.world) s) at1
        (each_body_goes (put_cells h s.world).shared env on i (value_at 0 args) low (env_later u (put_cells h s.world).shared at1.later xs env fit) (there_then u (put_cells h s.world).shared at1.later on there) (all_index (There h) args 0 Null (fits.1).0 tt))

    pub each_turn_goes : (u : Common) (env : Env) (i : ℕ) (kept : List Value) → EnvFits u.cells xs env → There u.cells (value_at 0 kept) → Goes g sh.form u (each_turn a k x env i kept)
    each_turn_goes u env i kept fit there s at = each_element_goes u env (value_at 0 kept) i fit there (loop_turn (limits s.world) (cells s.world) (value_at 0 kept) i) s at (loop_low (limits s.world) (cells s.world) i ((at.sound).bounds).short (value_at 0 kept)) (loop_turns (limits s.world) (closure_rule g.script) (cells s.world) (value_at 0 kept) i)

  -- `try`
  module _ (is : Is form.Try) where
    try_quiet : Quiet g shaped k sh xs place
    try_quiet i = ap (λ f. may_declare f i) is

    try_plain : is_declaration sh.form ≡ false
    try_plain = ap is_declaration is

    try_within : (i : ℕ) → names_within sh.form i xs ≡ xs
    try_within i = ap (λ f. names_within f i xs) is

    finally_goes : has_finally sh ≡ true → (u : Common) (d : FrameKind) → holds_folder d ≡ false → (env : Env) (kept : List Value) (before : Ending) → EnvFits u.cells xs env → Sits g.script u (frame d k 0 env kept) → EndFits form.Block u before → Goes g sh.form u (finally_block a k sh env d kept before)
    finally_goes fin u d none env kept before fit sits b s at =
        through_goes g sh.form form.Block u (frame d k 0 env kept) none sits (after_finally before) (finally_end_goes g sh.form try_plain u before b) (a.part (Inside 0) (arity sh - 1) env s)
        (inner_goes g shaped k sh xs place a src try_quiet u (arity sh - 1) 0 form.Finally env (finally_form _ fin) refl (try_within (arity sh - 1)) fit s at)

    finally_row : (b : Bool) → has_finally sh ≡ true → (same_form form.Try sh.form && has_finally sh) ≡ true
    finally_row b fin = both _ _ (ap (same_form form.Try) is) fin

    finally_behind_goes : (b : Bool) → has_finally sh ≡ b → (u : Common) (env : Env) → EnvFits u.cells xs env → (e : Ending) (s : State) → At g u s → EndFits form.Block u e → Holds g sh.form u (finally_behind a k sh env b e s)
    finally_behind_goes false fin u env fit e s at h = (at, end_as g form.Block sh.form s.world.shared e refl try_plain (end_then u s.world.shared at.later form.Block e h))
    finally_behind_goes true fin u env fit (Normal v) s at h = finally_goes fin u kind.FinallyAfterValue refl env (v ∷ []) (Normal v) fit (sits_here g shaped k sh xs place u kind.FinallyAfterValue 0 env (v ∷ []) (finally_row true fin) (omega arith) (h.0, tt) fit tt) h s at
    finally_behind_goes true fin u env fit (Thrown c) s at h = finally_goes fin u kind.FinallyAfterThrow refl env (InCell c ∷ []) (Thrown c) fit (sits_here g shaped k sh xs place u kind.FinallyAfterThrow 0 env (InCell c ∷ []) (finally_row true fin) (omega arith) (h, tt) fit tt) h s at
    finally_behind_goes true fin u env fit (Returned v) s at h = finally_goes fin u kind.FinallyAfterReturn refl env (v ∷ []) (Returned v) fit (sits_here g shaped k sh xs place u kind.FinallyAfterReturn 0 env (v ∷ []) (finally_row true fin) (omega arith) (h, tt) fit tt) h s at
    finally_behind_goes true fin u env fit Broke s at h = finally_goes fin u kind.FinallyAfterBreak refl env [] Broke fit (sits_here g shaped k sh xs place u kind.FinallyAfterBreak 0 env [] (finally_row true fin) (omega arith) tt fit tt) h s at
    finally_behind_goes true fin u env fit Continued s at h = finally_goes fin u kind.FinallyAfterContinue refl env [] Continued fit (sits_here g shaped k sh xs place u kind.FinallyAfterContinue 0 env [] (finally_row true fin) (omega arith) tt fit tt) h s at
    finally_behind_goes true fin u env fit (Declared b) s at h = absurd h.0
    finally_behind_goes true fin u env fit (Answered x) s at h = absurd h

    pub catch_goes : (u : Common) (env : Env) → EnvFits u.cells xs env → (e : Ending) (s : State) → At g u s → EndFits form.Block s.world.shared e → Holds g sh.form u (after_catch a k sh env e s)
    catch_goes u env fit e s at h = holds_then g sh.form u s.world.shared at.later _ (finally_behind_goes (has_finally sh) refl s.world.shared env (env_later u s.world.shared at.later xs env fit) e s (at_self g u s at) h)

    catching_goes : (u : Common) (env : Env) → EnvFits u.cells xs env → (c : ℕ) → HasThrowable (slice_get u.cells c) → (o : Option (ℕ × List ℕ)) → CaughtFrom sh.parts 0 o → Goes g sh.form u (catching a k sh env c o)
    catching_goes u env fit c has None by = λ s at. catch_goes u env fit (Thrown c) s at (throwable_later u.cells s.world.shared.cells (at.later).cells c has)
    catching_goes u env fit c has (Some p) by =
        variable_goes g sh.form u (InCell c) _ (cell_there HasThrowable (λ h. h) u.cells c has) (λ n s at there.
        let place_is : by.place ≡ p.0 = omega (arith, by.is) in
        let form_is : form_at sh.parts p.0 ≡ form.Catch by.caught p.1 = ap (form_at sh.parts) (sym place_is) ∙ by.named in
        let low : p.0 < arity sh = omega (arith, by.is, by.below) in
        let here : current sh (arity sh - suc p.0) ≡ p.0 = omega (arith, low) in
        let fit1 : EnvFits s.world.shared.cells xs env = env_later u s.world.shared at.later xs env fit in
        let inner : EnvFits s.world.shared.cells (p.1 ∷ xs) (bind p.1 n env) = bound_fits s.world.shared s.world.shared (later_self s.world.shared) p.1 n xs env fit1 there in
        holds_then g sh.form u s.world.shared at.later _ (through_goes g sh.form form.Block s.world.shared (frame kind.TryCatch k (arity sh - suc p.0) env []) refl
        (sits_here g shaped k sh xs place s.world.shared kind.TryCatch (arity sh - suc p.0) env [] (both _ _ (ap (same_form form.Try) is) (ap (λ j. is_catch (form_at sh.parts j)) here ∙ ap is_catch form_is)) (omega (arith, low)) tt fit1 tt)
        (after_catch a k sh env) (catch_goes s.world.shared env fit1) (a.part (Inside 0) p.0 (bind p.1 n env) s)
        (inner_goes g shaped k sh xs place a src try_quiet s.world.shared p.0 0 (form.Catch by.caught p.1) (bind p.1 n env) form_is refl (try_within p.0) inner s (at_self g u s at))))

    pub try_goes : (u : Common) (env : Env) → EnvFits u.cells xs env → (e : Ending) (s : State) → At g u s → EndFits form.Block s.world.shared e → Holds g sh.form u (after_try a k sh env e s)
    try_goes u env fit (Normal v) s at h = catch_goes u env fit (Normal v) s at h
    try_goes u env fit (Thrown c) s at h =
        let o : Option Cell = slice_get (cells s.world) c in
        holds_then g sh.form u s.world.shared at.later _ (catching_goes s.world.shared env (env_later u s.world.shared at.later xs env fit) c h (catch_for sh (slice_get (cells s.world) c)) (caught_for sh (slice_get (cells s.world) c)) s (at_self g u s at))
    try_goes u env fit (Returned v) s at h = catch_goes u env fit (Returned v) s at h
    try_goes u env fit Broke s at h = catch_goes u env fit Broke s at h
    try_goes u env fit Continued s at h = catch_goes u env fit Continued s at h
    try_goes u env fit (Declared b) s at h = absurd h.0
    try_goes u env fit (Answered x) s at h = absurd h

  -- `def x`, `def x = e`
  module _ (x : List ℕ) (is : Is (form.Declare x)) where
    pub declare_end_goes : (u : Common) → (e : Ending) (s : State) → At g u s → EndFits form.Block s.world.shared e → Holds g sh.form u (on_value (declare x) e s)
    declare_end_goes u e s at h = subst (λ f. Holds g f u (on_value (declare x) e s)) (sym is)
        (value_goes g (form.Declare x) u (declare x) (λ v t q there. from_here g (form.Declare x) u (declare x v) t q (declare_goes g x t.world.shared v there)) e s at h)

    pub declaration_goes : (n : ℕ) → length sh.parts ≡ n → (u : Common) (env : Env) → EnvFits u.cells xs env → Goes g sh.form u (declaration a k n x env)
    declaration_goes zero e u env fit = λ s at. subst (λ f. Holds g f u (declare x Null s)) (sym is) (declare_goes g x u Null tt s at)
    declaration_goes (suc n) e u env fit = under_goes sh.form u kind.DeclareValue refl 0 env [] (on_value (declare x)) 0 (λ i. ap (λ f. may_declare f i) is) (ap (λ f. names_within f 0 xs) is) fit
        (sits_here g shaped k sh xs place u kind.DeclareValue 0 env [] (both _ _ (ap is_declaration is) (some_parts sh.parts n e)) (omega arith) tt fit tt) (declare_end_goes u)

  -- `return`, `return e`, `throw e`
  pub return_end_goes : (u : Common) → (e : Ending) (s : State) → At g u s → EndFits form.Block s.world.shared e → Holds g sh.form u (on_value returns e s)
  return_end_goes u = value_goes g sh.form u returns (λ v t q there. (q, there))

  pub return_goes : (n : ℕ) → Is form.Return → length sh.parts ≡ n → (u : Common) (env : Env) → EnvFits u.cells xs env → Goes g sh.form u (return_from a k n env)
  return_goes zero is e u env fit = λ s at. (at, tt)
  return_goes (suc n) is e u env fit = under_goes sh.form u kind.ReturnValue refl 0 env [] (on_value returns) 0 (λ i. ap (λ f. may_declare f i) is) (ap (λ f. names_within f 0 xs) is) fit
      (sits_here g shaped k sh xs place u kind.ReturnValue 0 env [] (both _ _ (ap (same_form form.Return) is) (some_parts sh.parts n e)) (omega arith) tt fit tt) (return_end_goes u)

  pub throw_end_goes : (u : Common) → (e : Ending) (s : State) → At g u s → EndFits form.Block s.world.shared e → Holds g sh.form u (on_value throws e s)
  throw_end_goes u = value_goes g sh.form u throws (λ v t q there. from_here g sh.form u (throws v) t q (throws_goes g sh.form t.world.shared v there))
