-- Calls, but for steps: sound from a sound state on.
use Rattle.std.proofs.Common.{arith, ◌≡◌, refl, sym, ap, subst, ◌∙◌, ℕ, zero, suc, Bool, true, false, List, [], ◌∷◌, ◌++◌, Option, Some, None}
use Rattle.std.specs.Prelude.{slice_get, take, drop, option_and_then, if◌then◌else◌}
use Rattle.std.specs.List.{AllByRecursion as AllAre}
use Rattle.model_syntax.specs.declared.node.NodeForm.{NodeForm}
use Rattle.model_syntax.specs.declared.node.NodeForm.TheVariants as form
use Rattle.model_syntax.specs.declared.tree.Access.{Access}
use Rattle.model_values.specs.Kinds.{kind}
use Rattle.model_values.specs.MethodNames.{Method, Collect, Find, FindAll}
use Rattle.model_values.specs.Walks.{Turn as Element, Turns, Past, Stops, turn, After, Keeps, Ends, at_end}
use Rattle.model_values.specs.Fitting.{There, HasClosure, CellFits, CellsFit}
use Rattle.model_values.specs.Later.{Grows, TurnGrows, AfterGrows, Given}
use Rattle.model_values.proofs.Growth.{walk_turns, walk_ends}
use Rattle.model_values.proofs.CellGrowth.{all_append, all_get}
use Rattle.model_values.proofs.WalkGrowth.{after_grows}
use Rattle.model_values.specs.declared.value.Value.{Value}
use Rattle.model_values.specs.declared.value.Value.TheVariants.{Null, Bool as Truth, Int as Whole, Cell as InCell}
use Rattle.model_values.specs.declared.cell.Cell.{Cell}
use Rattle.model_values.specs.declared.cell.Cell.TheVariants.{Variable, Text as TextCell, List as ListCell, Map as MapCell, Closure as ClosureCell, Thrown as ThrownCell}
use Rattle.model_values.specs.declared.limit.LimitKind.{LimitKind}
use Rattle.model_run.specs.declared.callee.Callee.{Callee}
use Rattle.model_run.specs.declared.frame.Frame.{Frame}
use Rattle.model_run.specs.declared.frame.FrameKind.TheVariants as kind
use Rattle.model_run.specs.declared.ending.Ending.{Ending}
use Rattle.model_run.specs.Terms.{Term, Terms, Numbered, no_terms, and_then, form_of, parts_of, number_of}
use Rattle.model_run.specs.State.{Common, World, State, Env, Result, Limited, with_world, through, changed, unless_limit, may_count, put_cells}
use Rattle.model_run.specs.Around.{Around, Shape, frame, ended, cells, limits, whole}
use Rattle.model_run.specs.Names.{variable}
use Rattle.model_run.specs.Callables.{closure_in, closure_of, calling, function_if, function_in, function_named}
use Rattle.model_run.specs.Calls.{enter, held_in_turn, held_arguments, held_element, held_kept, element_size, walked, walk_after, after_walk_turn, begun_turn, walk_turn, takes_two, walk, walk_method}
use Rattle.model_run.specs.FrameTable.{Any_more, A_closure, is_callable, is_declaration, is_walk, walk_values, walk_further}
use Rattle.model_run.specs.Nesting.{FurtherFit, ValuesFit}
use Rattle.model_run.specs.Scoping.{Names, names_around, names_behind, names_within}
use Rattle.model_run.specs.Fitting.{EnvFits, closure_rule, Later}
use Rattle.model_run.proofs.CallLaws.{OneOrTwo, ElementFits, kind_turn_fits}
use Rattle.model_run.proofs.LaterLaws.{env_later}
use Rattle.model_run.proofs.Walk.{closure_called}
use Rattle.model_run.proofs.Front.{front_itself}
use Rattle.run_laws.specs.Soundness.{Base, Shaped, seen, EndFits, Sound, At, Holds, Goes, Stopped}
use Rattle.run_laws.proofs.NodeLaws.{Real, RealAll}
use Rattle.run_laws.proofs.Bounds.{bounds_aside}
use Rattle.run_laws.proofs.Flow.{same_on, there_then, all_there_then, seen_then, at_self, holds_then, from_here, holds_as, Moves, moves_cells, at_moved, tick_goes, end_goes, null_goes, value_goes, answer_goes, through_goes, stopped_here}
use Rattle.run_laws.proofs.Sources.{CalleeFits, TurnFits, turn_names, Place, Sources, sits_here}
use Rattle.run_laws.proofs.SoundAssignments.{before_of, operate_goes, same}

-- what is called, where there is one
abbrev pub CalleeThere : Term → Common → Option Callee → Type 0
CalleeThere root u None = Unit {0}
CalleeThere root u (Some c) = CalleeFits root u c.node c.env

pub callee_then : (root : Term) (u v : Common) → Later u v → (k : ℕ) (env : Env) → CalleeFits root u k env → CalleeFits root v k env
callee_then root u v l k env h = record { below = h.below; callable = h.callable; variables = env_later u v l _ env h.variables }

closure_cell_fits : (g : Base) (u : Common) (k : ℕ) (env : Env) → CellFits (closure_rule g.script) u.cells (ClosureCell k env) → CalleeFits g.script u k env
closure_cell_fits g u k env h = record { below = (h.0).0; callable = closure_called _ (h.0).1; variables = record { names = (h.0).2; variables = h.1 } }

closure_in_fits : (g : Base) (u : Common) (o : Option Cell) (c : ℕ) → slice_get u.cells c ≡ o → CellsFit (closure_rule g.script) u.cells → CalleeThere g.script u (closure_in o)
closure_in_fits g u (Some (ClosureCell k env)) c e fit = closure_cell_fits g u k env (all_get (CellFits (closure_rule g.script) u.cells) u.cells c (ClosureCell k env) e fit)
closure_in_fits g u (Some (Variable v)) c e fit = tt
closure_in_fits g u (Some (TextCell t)) c e fit = tt
closure_in_fits g u (Some (ListCell vs)) c e fit = tt
closure_in_fits g u (Some (MapCell es)) c e fit = tt
closure_in_fits g u (Some (ThrownCell d m)) c e fit = tt
closure_in_fits g u None c e fit = tt

pub closure_fits : (g : Base) (w : World) (v : Value) → Sound g w → CalleeThere g.script w.shared (closure_of w v)
closure_fits g w (InCell c) sound = closure_in_fits g w.shared (slice_get (cells w) c) c refl sound.cells
closure_fits g w Null sound = tt
closure_fits g w (Truth b) sound = tt
closure_fits g w (Whole z) sound = tt

closure_in_has : (o : Option Cell) (c : Callee) → closure_in o ≡ Some c → HasClosure o
closure_in_has (Some (ClosureCell k env)) c e = tt
closure_in_has (Some (Variable v)) c e = absurd (cc)
closure_in_has (Some (TextCell t)) c e = absurd (cc)
closure_in_has (Some (ListCell vs)) c e = absurd (cc)
closure_in_has (Some (MapCell es)) c e = absurd (cc)
closure_in_has (Some (ThrownCell d m)) c e = absurd (cc)
closure_in_has None c e = absurd (cc)

-- a value that is a closure
pub closure_seen : (w : World) (v : Value) (c : Callee) → closure_of w v ≡ Some c → seen w.shared A_closure v
closure_seen w (InCell n) c e = closure_in_has (slice_get (cells w) n) c e
closure_seen w Null c e = absurd (cc)
closure_seen w (Truth b) c e = absurd (cc)
closure_seen w (Whole z) c e = absurd (cc)

-- functions
function_callee : (root : Term) (u : Common) (ys : Names) (t : Term) → Real root ys t → (name : List ℕ) (names : List (List ℕ)) → form_of t ≡ form.Function name names → CalleeFits root u (number_of t) []
function_callee root u ys (Numbered j f qs) h name names e = record {
  below = h.0;
  callable = ap (λ s. is_callable s.form) h.1 ∙ ap is_callable e;
  variables = record { names = sym (h.2 ∙ ap (λ f. names_around f ys) e); variables = tt };
}

chosen_callee : (root : Term) (u : Common) (b : Bool) (k : ℕ) (o : Option Callee) → CalleeFits root u k [] → CalleeThere root u o → CalleeThere root u (if b then Some (record { node = k; env = [] }) else o)
chosen_callee root u true k o h rest = h
chosen_callee root u false k o h rest = rest

function_if_fits : (root : Term) (u : Common) (x : List ℕ) (ys : Names) (t : Term) → Real root ys t → (f : NodeForm) → form_of t ≡ f → (o : Option Callee) → CalleeThere root u o → CalleeThere root u (function_if x t f o)
function_if_fits root u x ys t h (form.Function name names) e o rest = chosen_callee root u _ (number_of t) o (function_callee root u ys t h name names e) rest
function_if_fits root u x ys t h f e o rest = rest

function_in_fits : (root : Term) (u : Common) (x : List ℕ) (f : NodeForm) (i : ℕ) (ys : Names) (ts : Terms) → RealAll root f i ys ts → CalleeThere root u (function_in x ts)
function_in_fits root u x f i ys no_terms h = tt
function_in_fits root u x f i ys (and_then t ts) h = function_if_fits root u x (names_within f i ys) t h.0 (form_of t) refl (function_in x ts) (function_in_fits root u x f (suc i) (names_behind (form_of t) ys) ts h.1)

parts_fit : (root : Term) (u : Common) (x : List ℕ) (ys : Names) (t : Term) → Real root ys t → CalleeThere root u (function_in x (parts_of t))
parts_fit root u x ys (Numbered k f ps) h = function_in_fits root u x f 0 (names_around f ys) ps h.4

pub function_fits : (g : Base) → Real g.script [] g.script → (x : List ℕ) (w : World) → Sound g w → CalleeThere g.script w.shared (function_named x w)
function_fits g real x w sound = subst (λ r. CalleeThere g.script w.shared (function_in x (parts_of r))) (ap (λ s. s.script) (sym sound.setting)) (parts_fit g.script w.shared x [] g.script real)

pub binding_fits : (g : Base) (x : List ℕ) (w : World) → Sound g w → (o : Option ℕ) → CalleeThere g.script w.shared (option_and_then (λ c. closure_of w (variable w c)) o)
binding_fits g x w sound (Some c) = closure_fits g w (variable w c) sound
binding_fits g x w sound None = tt

-- what a walk keeps is there
held_there : (P : Value → Type 0) (m : Method) (args element kept : List Value) → AllAre P args → AllAre P element → AllAre P kept → AllAre P (held_in_turn m args element kept)
held_there P Find args element kept a e k = a
held_there P FindAll args element kept a e k = all_append P element kept e k
held_there P Collect args element kept a e k = k
held_there P m args element kept a e k = tt

further_seen : (u : Common) (vs : List Value) → AllAre (There u.cells) vs → FurtherFit (seen u) Any_more vs
further_seen u [] h = tt
further_seen u (v ∷ vs) h = (h.0, further_seen u vs h.1)

held_seen : (u : Common) (m : Method) (args element kept : List Value) → OneOrTwo args → OneOrTwo element → AllAre (There u.cells) (held_in_turn m args element kept) → ValuesFit (seen u) (walk_further m) (walk_values m) (held_in_turn m args element kept)
held_seen u Find [] element kept p q h = absurd p
held_seen u Find (v ∷ []) element kept p q h = (h.0, tt)
held_seen u Find (v ∷ w ∷ []) element kept p q h = (h.0, (h.1.0, refl))
held_seen u Find (v ∷ w ∷ x ∷ vs) element kept p q h = absurd p
held_seen u FindAll args [] kept p q h = absurd q
held_seen u FindAll args (v ∷ vs) kept p q h = (h.0, further_seen u (vs ++ kept) h.1)
held_seen u Collect args element kept p q h = further_seen u kept h
held_seen u m args element kept p q h = tt

all_take : (P : Value → Type 0) (n : ℕ) (vs : List Value) → AllAre P vs → AllAre P (take n vs)
all_take P zero vs h = tt
all_take P (suc n) [] h = tt
all_take P (suc n) (v ∷ vs) h = (h.0, all_take P n vs h.1)

all_drop : (P : Value → Type 0) (n : ℕ) (vs : List Value) → AllAre P vs → AllAre P (drop n vs)
all_drop P zero vs h = h
all_drop P (suc n) [] h = tt
all_drop P (suc n) (v ∷ vs) h = all_drop P n vs h.1

arguments_there : (P : Value → Type 0) (m : Method) (held : List Value) → AllAre P held → AllAre P (held_arguments m held)
arguments_there P Find held h = h
arguments_there P m held h = tt

element_there : (P : Value → Type 0) (m : Method) (n : ℕ) (held : List Value) → AllAre P held → AllAre P (held_element m n held)
element_there P FindAll n held h = all_take P n held h
element_there P m n held h = tt

kept_there : (P : Value → Type 0) (m : Method) (n : ℕ) (held : List Value) → AllAre P held → AllAre P (held_kept m n held)
kept_there P Find n held h = tt
kept_there P FindAll n held h = all_drop P n held h
kept_there P m n held h = h

module _ (g : Base) where
  -- a turn is begun with the cells that it needs
  turn_moves : (h : List Cell) (w : World) → Sound g w → (given result : Type 0) → Grows (limits w) (closure_rule g.script) (cells w) given h result → CellsFit (closure_rule g.script) h → Moves g (begun_turn h) w
  turn_moves h w sound given result grown fits =
      let m : Moves g (put_cells h) w = moves_cells g w sound given result h grown fits in
      record { later = record { cells = grown.later; nodes = front_itself w.shared.nodes }; cells = fits; binding = m.binding; head = sound.head; same = same_on g.around w (begun_turn h w) refl refl; bounds = bounds_aside false g.site (put_cells h w).shared (begun_turn h w).shared m.bounds refl refl refl refl refl (omega arith) }

  -- a call's body, behind a change that may meet a limit, under a frame
  pub through_guard_goes : (f : NodeForm) (u : Common) (x : Frame) (go : Ending → State → Result) (o : Option LimitKind) (h : World → World) (body : State → Result) (s : State) → Stopped g u s → (o ≡ None → Holds g f u (through x go (body (with_world (h s.world) s)))) → Holds g f u (through x go (unless_limit o (changed h body) s))
  unfolding through
  through_guard_goes f u x go (Some k) h body s at held = at
  through_guard_goes f u x go None h body s at held = held refl

  pub calling_goes : (f : NodeForm) (plain : is_declaration f ≡ false) (u : Common) (o : Option Callee) (s : State) → At g u s → CalleeThere g.script s.world.shared o → (go : Callee → State → Result) → ((c : Callee) → o ≡ Some c → CalleeFits g.script s.world.shared c.node c.env → Holds g f u (go c s)) → Holds g f u (calling o (ended Null) go s)
  calling_goes f plain u (Some c) s at fit go k' = k' c refl fit
  calling_goes f plain u None s at fit go k' = null_goes g f u plain s at

module _ (g : Base) (shaped : Shaped g.script) (k : ℕ) (sh : Shape) (xs : Names) (place : Place g k sh xs) (a : Around) (src : Sources g shaped k sh xs place a) (plain : is_declaration sh.form ≡ false) where
  pub enter_goes : (u : Common) (args : List Value) (c : Callee) → AllAre (There u.cells) args → CalleeFits g.script u c.node c.env → Goes g sh.form u (enter a args c)
  enter_goes u args c there fit = tick_goes g sh.form u (a.call c.node args c.env) (λ s at. holds_as g form.Block sh.form u _ refl plain (src.call g.around u c.node args c.env fit there s at))

  -- a walk
  module _ (access : Access) (name : List ℕ) (is : sh.form ≡ form.Method access name) where
    abbrev m : Method
    m = walk_method sh.form

    walked_goes : (u : Common) (env : Env) → EnvFits u.cells xs env → (i : ℕ) (on f : Value) → There u.cells on → There u.cells f → (s : State) → At g u s → (given : Type 0) → given → (x : After) → AfterGrows (limits s.world) (closure_rule g.script) (cells s.world) given x → Holds g sh.form u (walked a env i on f x s)
    walked_goes u env fit i on f ton tf s at given sure (Keeps kept) grown =
        from_here g sh.form u (a.again (suc i) (on ∷ f ∷ kept) env) s at (src.again s.world.shared (suc i) (on ∷ f ∷ kept) env plain
        (subst (λ zs. EnvFits s.world.shared.cells zs env) (sym (ap (λ p. turn_names p sh.parts xs) is)) (env_later u s.world.shared at.later xs env fit))
        (subst (λ p. TurnFits p s.world.shared (on ∷ f ∷ kept)) (sym is) (there_then u s.world.shared at.later on ton, there_then u s.world.shared at.later f tf, grown sure)))
    walked_goes u env fit i on f ton tf s at given sure (Ends answer) grown =
        answer_goes g sh.form u There answer s at given sure grown ended (λ v t q l is1. (q, (is1, plain)))

    pub walk_end_goes : (u : Common) (env : Env) → EnvFits u.cells xs env → (i : ℕ) (on f : Value) (held : List Value) → There u.cells on → There u.cells f → AllAre (There u.cells) held → (e : Ending) (s : State) → At g u s → EndFits form.Block s.world.shared e → Holds g sh.form u (after_walk_turn a env (walk_method sh.form) i on f held e s)
    walk_end_goes u env fit i on f held ton tf there = value_goes g sh.form u _ (λ v s at is1.
        let held1 : AllAre (There (cells s.world)) held = all_there_then u s.world.shared at.later held there in
        let n : ℕ = element_size (kind (cells s.world) on) in
        walked_goes u env fit i on f ton tf s at (Given (closure_rule g.script) (cells s.world) (v ∷ held)) ((at.sound).cells, (is1, held1)) (walk_after s.world (walk_method sh.form) on held v)
        (after_grows (before_of g s.world (v ∷ held)) (walk_method sh.form) (held_arguments (walk_method sh.form) held) (held_element (walk_method sh.form) (element_size (kind (cells s.world) on)) held) v (held_kept (walk_method sh.form) (element_size (kind (cells s.world) on)) held)
        (λ x. arguments_there (There (cells s.world)) (walk_method sh.form) held x.1.1) (λ x. element_there (There (cells s.world)) (walk_method sh.form) (element_size (kind (cells s.world) on)) held x.1.1) (λ x. x.1.0) (λ x. kept_there (There (cells s.world)) (walk_method sh.form) (element_size (kind (cells s.world) on)) held x.1.1)))

    module _ (wa : is_walk sh.form ≡ true) where
      walk_turn_goes : (u : Common) (env : Env) → EnvFits u.cells xs env → (i : ℕ) (on f : Value) (kept : List Value) → There u.cells on → There u.cells f → AllAre (There u.cells) kept → (c : Callee) (s : State) → At g u s → CalleeFits g.script s.world.shared c.node c.env → seen s.world.shared A_closure f
          → (t : Element) → ElementFits t → TurnGrows (limits s.world) (closure_rule g.script) (cells s.world) (Given (closure_rule g.script) (cells s.world) (on ∷ [])) t → Holds g sh.form u (walk_turn a k env (walk_method sh.form) i on f kept c t s)
      walk_turn_goes u env fit i on f kept ton tf tk c s at callee fseen Past sized grown =
          operate_goes g sh.form u (on ∷ kept) (ton, tk) There (same g) (λ w. at_end (limits w) (cells w) (walk_method sh.form) on kept) (λ w. walk_ends (limits w) (closure_rule g.script) (cells w) (walk_method sh.form) on kept) ended (end_goes g sh.form u plain) s at
      walk_turn_goes u env fit i on f kept ton tf tk c s at callee fseen (Stops limit) sized grown = tick_goes g sh.form u (Limited limit) (λ t q. stopped_here g u t q) s at
      walk_turn_goes u env fit i on f kept ton tf tk c s at callee fseen (Turns h args element) sized grown =
          let fits : CellsFit (closure_rule g.script) h × (AllAre (There h) args × AllAre (There h) element) = grown.fits ((at.sound).cells, (there_then u s.world.shared at.later on ton, tt)) in
          let v : Common = (begun_turn h s.world).shared in
          let l1 : Later s.world.shared (begun_turn h s.world).shared = record { cells = grown.later; nodes = front_itself s.world.shared.nodes } in
          let s1 : State = with_world (begun_turn h s.world) s in
          let at1 : At g u (with_world (begun_turn h s.world) s) = at_moved g u (begun_turn h) s at (turn_moves g h s.world at.sound _ _ grown fits.0) in
          let held : List Value = held_in_turn (walk_method sh.form) args element kept in
          let there : AllAre (There h) (held_in_turn (walk_method sh.form) args element kept) = held_there (There h) (walk_method sh.form) args element kept (fits.1).0 (fits.1).1 (all_there_then u (begun_turn h s.world).shared at1.later kept tk) in
          let ton1 : There h on = there_then u (begun_turn h s.world).shared at1.later on ton in
          let tf1 : There h f = there_then u (begun_turn h s.world).shared at1.later f tf in
          let fit1 : EnvFits h xs env = env_later u (begun_turn h s.world).shared at1.later xs env fit in
          through_guard_goes g sh.form u (frame kind.WalkTurn k 0 env (on ∷ f ∷ whole i ∷ held_in_turn (walk_method sh.form) args element kept)) (after_walk_turn a env (walk_method sh.form) i on f (held_in_turn (walk_method sh.form) args element kept)) (may_count s.world) (begun_turn h) (a.call c.node args c.env) s (stopped_here g u s at)
          (λ none. holds_then g sh.form u (begun_turn h s.world).shared at1.later _ (through_goes g sh.form form.Block (begun_turn h s.world).shared (frame kind.WalkTurn k 0 env (on ∷ f ∷ whole i ∷ held_in_turn (walk_method sh.form) args element kept)) refl
          (sits_here g shaped k sh xs place (begun_turn h s.world).shared kind.WalkTurn 0 env (on ∷ f ∷ whole i ∷ held_in_turn (walk_method sh.form) args element kept) wa (omega arith) (ton1, (seen_then s.world.shared (begun_turn h s.world).shared l1 A_closure f fseen, (tt, held_seen (begun_turn h s.world).shared (walk_method sh.form) args element kept sized.0 sized.1 there))) fit1 tt)
          (after_walk_turn a env (walk_method sh.form) i on f (held_in_turn (walk_method sh.form) args element kept)) (walk_end_goes (begun_turn h s.world).shared env fit1 i on f (held_in_turn (walk_method sh.form) args element kept) ton1 tf1 there)
          (a.call c.node args c.env (with_world (begun_turn h s.world) s)) (src.call g.around (begun_turn h s.world).shared c.node args c.env (callee_then g.script s.world.shared (begun_turn h s.world).shared l1 c.node c.env callee) (fits.1).0 (with_world (begun_turn h s.world) s) (at_self g u (with_world (begun_turn h s.world) s) at1))))

      pub walk_goes : (u : Common) (env : Env) → EnvFits u.cells xs env → (i : ℕ) (on f : Value) (kept : List Value) → There u.cells on → There u.cells f → AllAre (There u.cells) kept → Goes g sh.form u (walk a k env (walk_method sh.form) i on f kept)
      walk_goes u env fit i on f kept ton tf tk s at = calling_goes g sh.form plain u (closure_of s.world f) s at (closure_fits g s.world f at.sound)
          (λ c. walk_turn a k env (walk_method sh.form) i on f kept c (turn (limits s.world) (cells s.world) on (takes_two s.world c) i))
          (λ c e callee. walk_turn_goes u env fit i on f kept ton tf tk c s at callee (closure_seen s.world f c e) (turn (limits s.world) (cells s.world) on (takes_two s.world c) i)
          (kind_turn_fits (limits s.world) (cells s.world) (kind (cells s.world) on) (takes_two s.world c) i) (walk_turns (limits s.world) (closure_rule g.script) (cells s.world) on (takes_two s.world c) i))
