-- Assignments, and `++` and `--`: sound from a sound state on.
use Rattle.std.proofs.Common.{arith, ◌≡◌, ◌+◌, refl, sym, ap, subst, ◌∙◌, ℕ, zero, suc, Bool, true, false, List, [], ◌∷◌, ◌++◌, length, length-append, Option, Some, None}
use Rattle.std.specs.Prelude.{slice_get, nat_eq, nat_lt, if◌then◌else◌}
use Rattle.std.specs.List.{AllByRecursion as AllAre}
use Rattle.std.specs.Ordering.{is_lt, nat_cmp}
use Rattle.std.specs.Cmp.Lexicographic.{slice_cmp}
use Rattle.model_syntax.specs.declared.node.NodeForm.{NodeForm}
use Rattle.model_syntax.specs.declared.node.NodeForm.TheVariants as form
use Rattle.model_values.specs.Cells.{Answer, set_variable as set_cell}
use Rattle.model_values.specs.Fitting.{There, HasVariable, IsNumber, CellFits, CellsFit}
use Rattle.model_values.specs.Later.{Grows, AnswerGrows, Given}
use Rattle.model_values.specs.Index.{get_at, set_at, get_property, set_property}
use Rattle.model_values.specs.Operators.{apply, incremented, decremented}
use Rattle.model_values.specs.Throws.{unknown_name}
use Rattle.model_values.proofs.CellGrowth.{Before, all_append, all_get, set_variable_grows}
use Rattle.model_values.proofs.Growth.{operators, increments, decrements, reads, writes, property_reads, property_writes}
use Rattle.model_values.proofs.IndexGrowth.{all_index}
use Rattle.model_values.proofs.ThrowGrowth.{unknown_name_grows}
use Rattle.model_values.proofs.LaterLaws.{later_itself}
use Rattle.model_values.specs.declared.value.Value.{Value}
use Rattle.model_values.specs.declared.value.Value.TheVariants.{Null, Int as Whole}
use Rattle.model_values.specs.declared.cell.Cell.{Cell}
use Rattle.model_values.specs.declared.cell.Cell.TheVariants.{Variable, Text as TextCell, List as ListCell, Map as MapCell, Closure as ClosureCell, Thrown as ThrownCell}
use Rattle.model_values.specs.declared.cell.Binding.{Binding}
use Rattle.model_values.specs.declared.operator.Op.{Op}
use Rattle.model_run.specs.declared.frame.FrameKind.TheVariants as kind
use Rattle.model_run.specs.declared.ending.Ending.{Ending}
use Rattle.model_run.specs.declared.ending.Entry.TheVariants.{First, Inside}
use Rattle.model_run.specs.State.{Common, World, State, Env, Result, with_world, through, changed, put_cells, operating, answered, tick}
use Rattle.model_run.specs.Around.{Around, Shape, form_at, frame, ended, cells, limits, value_at}
use Rattle.model_run.specs.Names.{look, meant, first_of, same_text, content, variable, read_cell, read_name, set_variable, with_binding, bound, write_cell, write_name}
use Rattle.model_run.specs.Assignments.{read_target, write_target, write_counted, place_size, assign_by, operator_in, after_assigned, assign_value, assign_at, step_by, at_target, after_index, after_receiver, receiver, sign_operator}
use Rattle.model_run.specs.FrameTable.{No_more, is_target_form, is_assignment, is_declaration, any_values, operator_count}
use Rattle.model_run.specs.Nesting.{ValuesFit}
use Rattle.model_run.specs.Scoping.{Names, names_within}
use Rattle.model_run.specs.Fitting.{EnvFits, closure_rule}
use Rattle.model_run.proofs.LaterLaws.{env_later}
use Rattle.model_run.proofs.Under.{both}
use Rattle.model_run.proofs.Front.{front_itself}
use Rattle.run_laws.specs.Soundness.{Base, Shaped, seen, may_declare, is_target, EndFits, Sound, At, Holds, Goes}
use Rattle.run_laws.proofs.Bounds.{bounds_bound, unbound}
use Rattle.run_laws.proofs.Flow.{same_on, there_then, all_there_then, at_self, holds_then, from_here, Moves, moves_aside, moves_cells, at_moved, tick_goes, GoesWith, end_goes, value_goes, answer_goes, through_goes}
use Rattle.run_laws.proofs.Sources.{has_inner, Place, Sources, sits_here, Quiet, part_goes, inner_goes}
use Rattle.run_laws.proofs.SoundStatements.{variable_from}

-- what a variable holds is there
pub content_there : (rule : ℕ → List Binding → Type 0) (h : List Cell) (o : Option Cell) (c : ℕ) → slice_get h c ≡ o → CellsFit rule h → There h (content o)
content_there rule h (Some (Variable v)) c e fit = all_get (CellFits rule h) h c (Variable v) e fit
content_there rule h (Some (TextCell t)) c e fit = tt
content_there rule h (Some (ListCell vs)) c e fit = tt
content_there rule h (Some (MapCell es)) c e fit = tt
content_there rule h (Some (ClosureCell n env)) c e fit = tt
content_there rule h (Some (ThrownCell d m)) c e fit = tt
content_there rule h None c e fit = tt

-- a variable that is found is one
abbrev FoundVariable : List Cell → Option ℕ → Type 0
FoundVariable h None = Unit {0}
FoundVariable h (Some c) = HasVariable (slice_get h c)

look_found : (h : List Cell) (x : List ℕ) (env : Env) → AllAre (λ b. HasVariable (slice_get h b.cell)) env → FoundVariable h (look x env)
look_found h x [] all = tt
look_found h x (b ∷ bs) all = one (same_text b.name x) (look_found h x bs all.1)
  where
    one : (t : Bool) → FoundVariable h (look x bs) → FoundVariable h (if t then Some b.cell else look x bs)
    one true more = all.0
    one false more = more

first_found : (h : List Cell) (o p : Option ℕ) → FoundVariable h o → FoundVariable h p → FoundVariable h (first_of o p)
first_found h (Some c) p a b = a
first_found h None p a b = b

pub meant_found : (g : Base) (x : List ℕ) (ys : Names) (env : Env) (w : World) → Sound g w → EnvFits w.shared.cells ys env → FoundVariable w.shared.cells (meant x env w)
meant_found g x ys env w sound fit = first_found w.shared.cells _ _ (look_found w.shared.cells x env fit.variables) (look_found w.shared.cells x w.shared.binding sound.binding)

binding_with : (h : List Cell) (x : List ℕ) (c : ℕ) (bs : List Binding) → HasVariable (slice_get h c) → AllAre (λ b. HasVariable (slice_get h b.cell)) bs → AllAre (λ b. HasVariable (slice_get h b.cell)) (with_binding x c bs)
binding_with h x c [] has all = (has, tt)
binding_with h x c (b ∷ bs) has all = one (is_lt (slice_cmp nat_cmp x b.name)) (binding_with h x c bs has all.1)
  where
    one : (t : Bool) → AllAre (λ b. HasVariable (slice_get h b.cell)) (with_binding x c bs) → AllAre (λ b. HasVariable (slice_get h b.cell)) (if t then record { name = x; cell = c } ∷ b ∷ bs else b ∷ with_binding x c bs)
    one true more = (has, all)
    one false more = (all.0, more)

-- what an operation on these values is given
abbrev pub before_of : Base → World → List Value → Before
before_of g w vs = record { l = limits w; rule = closure_rule g.script; h = cells w; given = Given (closure_rule g.script) (cells w) vs; fit = λ x. x.0 }

module _ (g : Base) where
  -- the variable in a cell gets a value
  set_moves : (c : ℕ) (v : Value) (w : World) → Sound g w → There w.shared.cells v → Moves g (set_variable c v) w
  set_moves c v w sound there =
      let grown : Grows (limits w) (closure_rule g.script) (cells w) (Given (closure_rule g.script) (cells w) (v ∷ [])) (set_cell (cells w) c v) (Unit {0}) = set_variable_grows (before_of g w (v ∷ [])) c v (Unit {0}) (λ x. x.1.0) (λ x. tt) in
      let m : Moves g (put_cells (set_cell (cells w) c v)) w = moves_cells g w sound _ _ (set_cell (cells w) c v) grown (grown.fits (sound.cells, (there, tt))).0 in
      record { later = m.later; cells = m.cells; binding = m.binding; head = m.head; bounds = m.bounds; same = m.same }

  bound_moves : (x : List ℕ) (c : ℕ) (w : World) → Sound g w → look x w.shared.binding ≡ None → HasVariable (slice_get w.shared.cells c) → Moves g (bound x c) w
  bound_moves x c w sound new has = record { later = record { cells = later_itself w.shared.cells; nodes = front_itself w.shared.nodes }; cells = sound.cells; binding = binding_with w.shared.cells x c w.shared.binding has sound.binding; head = sound.head; bounds = bounds_bound x c g.site w sound.bounds new; same = same_on g.around w (bound x c w) refl refl }

  -- the value of a name
  pub read_goes : (f : NodeForm) (u : Common) (x : List ℕ) (ys : Names) (env : Env) → EnvFits u.cells ys env → (go : Value → State → Result) → GoesWith g f u go → Goes g f u (operating (read_name x env) go)
  read_goes f u x ys env fit go k' s at = found (meant x env s.world) (meant_found g x ys env s.world at.sound (env_later u s.world.shared at.later ys env fit))
    where
      found : (o : Option ℕ) → FoundVariable s.world.shared.cells o → Holds g f u (answered (read_cell s.world x o) go s)
      found (Some c) has =
          let at1 : At g u (with_world (put_cells (cells s.world) s.world) s) = at_moved g u (put_cells (cells s.world)) s at (moves_aside g (put_cells (cells s.world)) s.world at.sound refl refl refl refl refl refl refl refl (omega arith)) in
          k' (variable s.world c) (with_world (put_cells (cells s.world) s.world) s) at1 (content_there (closure_rule g.script) (cells s.world) (slice_get (cells s.world) c) c refl (at.sound).cells)
      found None has = answer_goes g f u (λ h v. ⊥) (unknown_name (limits s.world) (cells s.world) x) s at (Given (closure_rule g.script) (cells s.world) []) ((at.sound).cells, tt)
          (unknown_name_grows (before_of g s.world []) (λ h v. ⊥) x) go (λ v t q l is. absurd is)

  write_cell_goes : (f : NodeForm) (u : Common) (x : List ℕ) (v : Value) → There u.cells v → (go : State → Result) → Goes g f u go → (s : State) → At g u s → (o : Option ℕ) → (o ≡ None → look x s.world.shared.binding ≡ None) → Holds g f u (write_cell x v go o s)
  write_cell_goes f u x v there go k' s at (Some c) new = k' _ (at_moved g u (set_variable c v) s at (set_moves c v s.world at.sound (there_then u s.world.shared at.later v there)))
  write_cell_goes f u x v there go k' s at None new = variable_from g f u v (λ c. changed (bound x c) go) there s at (λ c t at1 same has.
      k' _ (at_moved g u (bound x c) t at1 (bound_moves x c t.world at1.sound (ap (look x) same ∙ new refl) has)))

  -- a value is assigned to a name
  pub write_goes : (f : NodeForm) (u : Common) (x : List ℕ) (env : Env) (v : Value) → There u.cells v → (go : State → Result) → Goes g f u go → Goes g f u (write_name x env v go)
  write_goes f u x env v there go k' s at = write_cell_goes f u x v there go k' s at (meant x env s.world) (unbound (look x env) (look x s.world.shared.binding))

  -- an operation on values that are there gives what is there
  pub operate_goes : (f : NodeForm) (u : Common) (vs : List Value) → AllAre (There u.cells) vs → (sort : List Cell → Value → Type 0) → ((h : List Cell) (v : Value) → sort h v → There h v) → (op : World → Answer)
      → ((w : World) → AnswerGrows (limits w) (closure_rule g.script) (cells w) (Given (closure_rule g.script) (cells w) vs) sort (op w)) → (go : Value → State → Result) → GoesWith g f u go → Goes g f u (operating op go)
  operate_goes f u vs there sort wide op grows go k' s at =
      answer_goes g f u sort (op s.world) s at (Given (closure_rule g.script) (cells s.world) vs) ((at.sound).cells, all_there_then u s.world.shared at.later vs there) (grows s.world) go
      (λ v t q l is. k' v t q (wide t.world.shared.cells v is))

  pub same : (h : List Cell) (v : Value) → There h v → There h v
  same h v t = t

  pub number_is : (h : List Cell) (v : Value) → IsNumber h v → There h v
  number_is h (Whole z) t = tt
  number_is h v t = absurd t

  -- a target is read, and is written
  module _ (f : NodeForm) (plain : is_declaration f ≡ false) (u : Common) (ys : Names) (env : Env) (fit : EnvFits u.cells ys env) (place : List Value) (there : AllAre (There u.cells) place) where
    at_place : (i : ℕ) → There u.cells (value_at i place)
    at_place i = all_index (There u.cells) place i Null there tt

    pub read_target_goes : (t : NodeForm) (go : Value → State → Result) → GoesWith g f u go → Goes g f u (read_target t place env go)
    read_target_goes (form.ToName x) go k' = read_goes f u x ys env fit go k'
    read_target_goes (form.ToProperty p) go k' = tick_goes g f u _ (operate_goes f u (value_at 0 place ∷ []) (at_place 0, tt) There same (λ w. get_property (limits w) (cells w) (value_at 0 place) p) (λ w. property_reads (limits w) (closure_rule g.script) (cells w) (value_at 0 place) p) go k')
    read_target_goes t go k' = tick_goes g f u _ (operate_goes f u (value_at 0 place ∷ value_at 1 place ∷ []) (at_place 0, (at_place 1, tt)) There same (λ w. get_at (limits w) (cells w) (value_at 0 place) (value_at 1 place)) (λ w. reads (limits w) (closure_rule g.script) (cells w) (value_at 0 place) (value_at 1 place)) go k')

    pub write_target_goes : (t : NodeForm) (v : Value) → There u.cells v → Goes g f u (write_target t place env v)
    write_target_goes (form.ToName x) v is = write_goes f u x env v is (ended v) (λ s at. (at, (there_then u s.world.shared at.later v is, plain)))
    write_target_goes (form.ToProperty p) v is = operate_goes f u (value_at 0 place ∷ v ∷ []) (at_place 0, (is, tt)) There same (λ w. set_property (limits w) (cells w) (value_at 0 place) p v) (λ w. property_writes (limits w) (closure_rule g.script) (cells w) (value_at 0 place) p v) ended (end_goes g f u plain)
    write_target_goes t v is = operate_goes f u (value_at 0 place ∷ value_at 1 place ∷ v ∷ []) (at_place 0, (at_place 1, (is, tt))) There same (λ w. set_at (limits w) (cells w) (value_at 0 place) (value_at 1 place) v) (λ w. writes (limits w) (closure_rule g.script) (cells w) (value_at 0 place) (value_at 1 place) v) ended (end_goes g f u plain)

    pub write_counted_goes : (t : NodeForm) (v : Value) → There u.cells v → Goes g f u (write_counted t place env v)
    write_counted_goes (form.ToName x) v is = write_target_goes (form.ToName x) v is
    write_counted_goes t v is = tick_goes g f u _ (write_target_goes t v is)

  module _ (f : NodeForm) (plain : is_declaration f ≡ false) (u : Common) (ys : Names) (env : Env) (fit : EnvFits u.cells ys env) (place : List Value) (there : AllAre (There u.cells) place) where
    write_with : (t : NodeForm) → GoesWith g f u (write_target t place env)
    write_with t v s at is = from_here g f u (write_target t place env v) s at (write_target_goes f plain s.world.shared ys env (env_later u s.world.shared at.later ys env fit) place (all_there_then u s.world.shared at.later place there) t v is)

    -- behind the value that is assigned
    assign_by_goes : (o : Option Op) (t : NodeForm) (v : Value) → There u.cells v → Goes g f u (assign_by o t place env v)
    assign_by_goes None t v is = write_counted_goes f plain u ys env fit place there t v is
    assign_by_goes (Some op) t v is = tick_goes g f u _ (operate_goes f u (value_at (place_size t) place ∷ v ∷ []) (at_place f plain u ys env fit place there (place_size t), (is, tt)) There same (λ w. apply (limits w) (cells w) op (value_at (place_size t) place) v) (λ w. operators (limits w) (closure_rule g.script) (cells w) op (value_at (place_size t) place) v) (write_target t place env) (write_with t))

    step_by_goes : (op : World → Value → Answer) → ((w : World) (v : Value) → AnswerGrows (limits w) (closure_rule g.script) (cells w) (Given (closure_rule g.script) (cells w) (v ∷ [])) IsNumber (op w v)) → (t : NodeForm) → Goes g f u (step_by op t env place)
    step_by_goes op grows t = read_target_goes f plain u ys env fit place there t _ (λ old s at is.
        let fit1 : EnvFits s.world.shared.cells ys env = env_later u s.world.shared at.later ys env fit in
        from_here g f u (tick (operating (λ w. op w old) (write_target t place env))) s at (tick_goes g f s.world.shared _ (operate_goes f s.world.shared (old ∷ []) (is, tt) IsNumber number_is (λ w. op w old) (λ w. grows w old) (write_target t place env) (write_behind s at t))))
      where
        write_behind : (s : State) → At g u s → (t : NodeForm) → GoesWith g f s.world.shared (write_target t place env)
        write_behind s at t v s1 at1 is1 = from_here g f s.world.shared (write_target t place env v) s1 at1
            (write_target_goes f plain s1.world.shared ys env (env_later s.world.shared s1.world.shared at1.later ys env (env_later u s.world.shared at.later ys env fit)) place (all_there_then s.world.shared s1.world.shared at1.later place (all_there_then u s.world.shared at.later place there)) t v is1)

  pub assigned_goes : (f : NodeForm) → is_declaration f ≡ false → (sh : Shape) (u : Common) (ys : Names) (env : Env) → EnvFits u.cells ys env → (kept : List Value) → AllAre (There u.cells) kept → (e : Ending) (s : State) → At g u s → EndFits form.Block s.world.shared e → Holds g f u (after_assigned sh kept env e s)
  assigned_goes f plain sh u ys env fit kept there = value_goes g f u _ (λ v s at is. from_here g f u (assign_by (operator_in sh.form) (form_at sh.parts 0) kept env v) s at
      (assign_by_goes f plain s.world.shared ys env (env_later u s.world.shared at.later ys env fit) kept (all_there_then u s.world.shared at.later kept there) (operator_in sh.form) (form_at sh.parts 0) v is))

pub target_plain : (f : NodeForm) → is_target_form f ≡ true → is_declaration f ≡ false
target_plain (form.Assign sign) e = refl
target_plain form.Increment e = refl
target_plain form.Decrement e = refl
target_plain f e = absurd (cc)

pub target_quiet : (f : NodeForm) → is_target_form f ≡ true → (i : ℕ) → may_declare f i ≡ false
target_quiet (form.Assign sign) e i = refl
target_quiet form.Increment e i = refl
target_quiet form.Decrement e i = refl
target_quiet f e i = absurd (cc)

target_within : (f : NodeForm) → is_target_form f ≡ true → (i : ℕ) (xs : Names) → names_within f i xs ≡ xs
target_within (form.Assign sign) e i xs = refl
target_within form.Increment e i xs = refl
target_within form.Decrement e i xs = refl
target_within f e i xs = absurd (cc)

-- values that are there are of any sort
pub any_seen : (u : Common) (n : ℕ) (vs : List Value) → length vs ≡ n → AllAre (There u.cells) vs → ValuesFit (seen u) No_more (any_values n) vs
any_seen u zero [] e h = tt
any_seen u zero (v ∷ vs) e h = absurd (omega (arith, e))
any_seen u (suc n) [] e h = absurd (omega (arith, e))
any_seen u (suc n) (v ∷ vs) e h = (h.0, any_seen u n vs (omega (arith, e)) h.1)

pub any_there : (u : Common) (n : ℕ) (vs : List Value) → ValuesFit (seen u) No_more (any_values n) vs → AllAre (There u.cells) vs
any_there u zero [] h = tt
any_there u zero (v ∷ vs) h = absurd h
any_there u (suc n) [] h = absurd h
any_there u (suc n) (v ∷ vs) h = (h.0, any_there u n vs h.1)

module _ (g : Base) (shaped : Shaped g.script) (k : ℕ) (sh : Shape) (xs : Names) (place : Place g k sh xs) (a : Around) (src : Sources g shaped k sh xs place a) (ta : is_target_form sh.form ≡ true) where
  plain : is_declaration sh.form ≡ false
  plain = target_plain sh.form ta

  quiet : Quiet g shaped k sh xs place
  quiet i = target_quiet sh.form ta i

  within : (i : ℕ) → names_within sh.form i xs ≡ xs
  within i = target_within sh.form ta i xs

  abbrev target : NodeForm
  target = form_at sh.parts 0

  assign_value_goes : is_assignment sh.form ≡ true → (u : Common) (env : Env) → EnvFits u.cells xs env → (kept : List Value) → length kept ≡ place_size (form_at sh.parts 0) + operator_count (operator_in sh.form) → AllAre (There u.cells) kept → Goes g sh.form u (assign_value a k sh env kept)
  assign_value_goes asg u env fit kept count there s at =
      through_goes g sh.form form.Block u (frame kind.AssignValue k 0 env kept) refl (sits_here g shaped k sh xs place u kind.AssignValue 0 env kept asg (omega arith) (any_seen u _ kept count there) fit tt) (after_assigned sh kept env)
      (assigned_goes g sh.form plain sh u xs env fit kept there) (a.part First 1 env s) (part_goes g shaped k sh xs place a src quiet u env fit 1 (within 1) s at)

  assign_at_goes : is_assignment sh.form ≡ true → (o : Option Op) → operator_in sh.form ≡ o → (u : Common) (env : Env) → EnvFits u.cells xs env → (kept : List Value) → length kept ≡ place_size (form_at sh.parts 0) → AllAre (There u.cells) kept → Goes g sh.form u (assign_at a k sh env kept o)
  assign_at_goes asg None e u env fit kept count there = assign_value_goes asg u env fit kept (omega (arith, count, ap operator_count e)) there
  assign_at_goes asg (Some op) e u env fit kept count there = read_target_goes g sh.form plain u xs env fit kept there (form_at sh.parts 0) _ (λ old s at is.
      from_here g sh.form u (assign_value a k sh env (kept ++ old ∷ [])) s at (assign_value_goes asg s.world.shared env (env_later u s.world.shared at.later xs env fit) (kept ++ old ∷ []) (omega (arith, count, ap operator_count e, length-append kept (old ∷ [])))
      (all_append (There s.world.shared.cells) kept (old ∷ []) (all_there_then u s.world.shared at.later kept there) (is, tt))))

  pub at_target_goes : (f : NodeForm) → sh.form ≡ f → (u : Common) (env : Env) → EnvFits u.cells xs env → (kept : List Value) → length kept ≡ place_size (form_at sh.parts 0) → AllAre (There u.cells) kept → Goes g sh.form u (at_target a k sh env kept f)
  at_target_goes (form.Assign sign) is u env fit kept count there = assign_at_goes (ap is_assignment is) (sign_operator sign) (ap operator_in is) u env fit kept count there
  at_target_goes form.Increment is u env fit kept count there = step_by_goes g sh.form plain u xs env fit kept there (λ w v. incremented (limits w) (cells w) v) (λ w v. increments (limits w) (closure_rule g.script) (cells w) v) (form_at sh.parts 0)
  at_target_goes f is u env fit kept count there = step_by_goes g sh.form plain u xs env fit kept there (λ w v. decremented (limits w) (cells w) v) (λ w v. decrements (limits w) (closure_rule g.script) (cells w) v) (form_at sh.parts 0)

  pub index_goes : (u : Common) (env : Env) → EnvFits u.cells xs env → (of : Value) → There u.cells of → place_size (form_at sh.parts 0) ≡ 2 → (e : Ending) (s : State) → At g u s → EndFits form.Block s.world.shared e → Holds g sh.form u (after_index a k sh env of e s)
  index_goes u env fit of is two = value_goes g sh.form u _ (λ i s at there. from_here g sh.form u (at_target a k sh env (of ∷ i ∷ []) sh.form) s at
      (at_target_goes sh.form refl s.world.shared env (env_later u s.world.shared at.later xs env fit) (of ∷ i ∷ []) (sym two) (there_then u s.world.shared at.later of is, (there, tt))))

  -- a target that is an entry
  entry_form : (t : NodeForm) → is_target t ≡ true → place_size t ≡ 2 → has_inner t ≡ true
  entry_form (form.ToName x) e two = absurd (omega (arith, two))
  entry_form (form.ToProperty p) e two = refl
  entry_form form.ToIndex e two = refl
  entry_form t e two = absurd (cc)

  inner_names : (t : NodeForm) → is_target t ≡ true → (j : ℕ) → names_within t j xs ≡ xs
  inner_names (form.ToName x) e j = refl
  inner_names (form.ToProperty p) e j = refl
  inner_names form.ToIndex e j = refl
  inner_names t e j = absurd (cc)

  target_inner : (u : Common) (j : ℕ) (env : Env) → has_inner (form_at sh.parts 0) ≡ true → is_target (form_at sh.parts 0) ≡ true → EnvFits u.cells xs env → Goes g form.Block u (a.part (Inside j) 0 env)
  target_inner u j env inside tg fit = inner_goes g shaped k sh xs place a src quiet u 0 j (form_at sh.parts 0) env refl inside (within 0) (subst (λ zs. EnvFits u.cells zs env) (sym (inner_names (form_at sh.parts 0) tg j)) fit)

  -- behind what a target is of
  pub after_receiver_goes : (t : NodeForm) → form_at sh.parts 0 ≡ t → is_target t ≡ true → nat_lt 0 (place_size t) ≡ true → (u : Common) (env : Env) → EnvFits u.cells xs env → (e : Ending) (s : State) → At g u s → EndFits form.Block s.world.shared e → Holds g sh.form u (after_receiver a k sh env t e s)
  after_receiver_goes (form.ToProperty p) is tg some u env fit = value_goes g sh.form u _ (λ of s at there. from_here g sh.form u (at_target a k sh env (of ∷ []) sh.form) s at
      (at_target_goes sh.form refl s.world.shared env (env_later u s.world.shared at.later xs env fit) (of ∷ []) (sym (ap place_size is)) (there, tt)))
  after_receiver_goes (form.ToName x) is tg some u env fit = absurd (cc)
  after_receiver_goes form.ToIndex is tg some u env fit = value_goes g sh.form u _ (λ of s at there.
      let fit1 : EnvFits s.world.shared.cells xs env = env_later u s.world.shared at.later xs env fit in
      holds_then g sh.form u s.world.shared at.later _ (through_goes g sh.form form.Block s.world.shared (frame kind.TargetIndex k 0 env (of ∷ [])) refl
      (sits_here g shaped k sh xs place s.world.shared kind.TargetIndex 0 env (of ∷ []) (both _ _ ta (ap (λ t. nat_eq (place_size t) 2) is)) (omega arith) (there, tt) fit1 tt) (after_index a k sh env of)
      (index_goes s.world.shared env fit1 of there (ap place_size is)) (a.part (Inside 1) 0 env s) (target_inner s.world.shared 1 env (ap has_inner is) (ap is_target is) fit1 s (at_self g u s at))))
  after_receiver_goes t is tg some u env fit = absurd (cc)

  receiver_frame : (t : NodeForm) → form_at sh.parts 0 ≡ t → is_target t ≡ true → has_inner t ≡ true → nat_lt 0 (place_size t) ≡ true → (u : Common) (env : Env) → EnvFits u.cells xs env → Goes g sh.form u (λ s. through (frame kind.TargetReceiver k 0 env []) (after_receiver a k sh env (form_at sh.parts 0)) (a.part (Inside 0) 0 env s))
  receiver_frame t is tg inside some u env fit s at = through_goes g sh.form form.Block u (frame kind.TargetReceiver k 0 env []) refl
      (sits_here g shaped k sh xs place u kind.TargetReceiver 0 env [] (both _ _ ta (ap (λ t. nat_lt 0 (place_size t)) is ∙ some)) (omega arith) tt fit tt) (after_receiver a k sh env (form_at sh.parts 0))
      (after_receiver_goes (form_at sh.parts 0) refl (ap is_target is ∙ tg) (ap (λ t. nat_lt 0 (place_size t)) is ∙ some) u env fit) (a.part (Inside 0) 0 env s) (target_inner u 0 env (ap has_inner is ∙ inside) (ap is_target is ∙ tg) fit s at)

  pub receiver_goes : (t : NodeForm) → form_at sh.parts 0 ≡ t → is_target t ≡ true → (u : Common) (env : Env) → EnvFits u.cells xs env → Goes g sh.form u (receiver a k sh env t)
  receiver_goes (form.ToName x) is tg u env fit = at_target_goes sh.form refl u env fit [] (sym (ap place_size is)) tt
  receiver_goes (form.ToProperty p) is tg u env fit = receiver_frame (form.ToProperty p) is refl refl refl u env fit
  receiver_goes form.ToIndex is tg u env fit = receiver_frame form.ToIndex is refl refl refl u env fit
  receiver_goes t is tg u env fit = absurd (cc)
