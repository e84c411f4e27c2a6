-- A node that is evaluated from parts, turns and calls which do nothing but wait, and tell whether they may be begun so. What the laws of
-- evaluation say of such a node, they say of the state in which a move leaves it, and of how it is begun.
use Rattle.std.proofs.Common.{◌≡◌, ℕ, ◌<◌, Bool, true, false, List, [], ◌∷◌, length, refl, ap, subst, arith}
use Rattle.std.specs.Prelude.{nat_lt, not, ◌&&◌, drop}
use Rattle.std.specs.List.{AllByRecursion as AllAre}
use Rattle.model_syntax.specs.declared.node.NodeForm.{NodeForm}
use Rattle.model_syntax.specs.declared.node.NodeForm.TheVariants as form
use Rattle.model_values.specs.declared.cell.Cell.{Cell}
use Rattle.model_values.specs.declared.value.Value.{Value}
use Rattle.model_values.specs.Fitting.{There}
use Rattle.model_run.specs.declared.ending.Asked.{Asked}
use Rattle.model_run.specs.declared.ending.Asked.TheVariants.{ForBranches, ForRequest}
use Rattle.model_run.specs.declared.ending.Branch.{Branch}
use Rattle.model_run.specs.declared.ending.Entry.{Entry}
use Rattle.model_run.specs.declared.ending.Entry.TheVariants.{First, Inside, On}
use Rattle.model_run.specs.declared.frame.Frame.{Frame}
use Rattle.model_run.specs.Terms.{Term, nodes_of}
use Rattle.model_run.specs.State.{Common, State, Env, Result, Waits, through}
use Rattle.model_run.specs.Around.{Around, Shape, form_at, value_at}
use Rattle.model_run.specs.Forms.{after}
use Rattle.model_run.specs.FrameTable.{is_callable, is_declaration}
use Rattle.model_run.specs.Nesting.{shape_at}
use Rattle.model_run.specs.Scoping.{Names, names_after, names_at, names_within}
use Rattle.model_run.specs.Fitting.{EnvFits}
use Rattle.model_run.proofs.LaterLaws.{env_later}
use Rattle.run_laws.specs.Soundness.{Base, within, Shaped, AskedFits, Sits, At, Holds, Paused}
use Rattle.run_laws.specs.Evaluation.{CalleeFits, TurnFits, has_inner, turn_names}
use Rattle.run_laws.proofs.Flow.{there_then, all_there_then, left_later, pausing_here}
use Rattle.run_laws.proofs.Sources.{Place, Sources, turn_then}
use Rattle.cps_frames.specs.Moves.{over}
use Rattle.cps_frames.proofs.Testing.{Tests, both_test, flag_test, below_test, env_passes, env_test, value_passes, value_test, values_pass, values_test}

-- a branch of no script
abbrev pub nowhere : Term → Branch
nowhere root = record { name = []; closure = length (nodes_of root); env = []; head = 0 }

abbrev pub told : Term → Bool → Asked
told root true = ForRequest 0
told root false = ForBranches (nowhere root ∷ [])

-- waits for a request where all is well, and else for what is nowhere
abbrev pub telling : Term → Bool → State → Result
telling root b s = Waits (told root b) [] s

told_well : (root : Term) (u : Common) (b : Bool) → AskedFits root u (told root b) → b ≡ true
told_well root u true h = refl
told_well root u false h = let lt : length (nodes_of root) < length (nodes_of root) = ((h.0).closure).0 in absurd (omega (arith, lt))

pub over_waits : (sh : Shape) (a : Around) (fs : List Frame) (asked : Asked) (s : State) → over sh a fs (Waits asked [] s) ≡ Waits asked fs s
unfolding through
over_waits sh a [] asked s = refl
over_waits sh a (f ∷ fs) asked s = ap (through f (after f sh a)) (over_waits sh a fs asked s)

-- what each part, turn and call is asked for
abbrev pub turn_passes : NodeForm → List Cell → List Value → Bool
turn_passes (form.ForEach x) h kept = value_passes h (value_at 0 kept)
turn_passes (form.Method access f) h kept = value_passes h (value_at 0 kept) && (value_passes h (value_at 1 kept) && values_pass h (drop 2 kept))
turn_passes f h kept = true

pub turn_test : (f : NodeForm) (u : Common) (kept : List Value) → Tests (turn_passes f u.cells kept) (TurnFits f u kept)
turn_test (form.ForEach x) u kept = value_test u.cells (value_at 0 kept)
turn_test (form.Method access f) u kept =
    let t : Tests (turn_passes (form.Method access f) u.cells kept) (There u.cells (value_at 0 kept) × (There u.cells (value_at 1 kept) × AllAre (There u.cells) (drop 2 kept))) =
    both_test _ _ _ _ (value_test u.cells (value_at 0 kept)) (both_test _ _ _ _ (value_test u.cells (value_at 1 kept)) (values_test u.cells (drop 2 kept))) in
    record { holds = λ e. (let h = t.holds e in (h.0, (h.1).0, (h.1).1)); told = λ h. t.told (h.0, (h.1, h.2)) }
turn_test f u kept = record { holds = λ e. tt; told = λ e. refl }

abbrev pub callee_passes : Term → List Cell → ℕ → Env → Bool
callee_passes root h n env = nat_lt n (length (nodes_of root)) && (is_callable (shape_at root n).form && env_passes h (names_at root n) env)

pub callee_test : (root : Term) (u : Common) (n : ℕ) (env : Env) → Tests (callee_passes root u.cells n env) (CalleeFits root u n env)
callee_test root u n env =
    let t : Tests (callee_passes root u.cells n env) ((n < length (nodes_of root)) × ((is_callable (shape_at root n).form ≡ true) × EnvFits u.cells (names_at root n) env)) =
    both_test _ _ _ _ (below_test n (length (nodes_of root))) (both_test _ _ _ _ (flag_test (is_callable (shape_at root n).form)) (env_test u.cells (names_at root n) env)) in
    record { holds = λ e. (let h = t.holds e in record { below = h.0; callable = (h.1).0; variables = (h.1).1 }); told = λ h. t.told (h.below, (h.callable, h.variables)) }

-- what part i of a node sees
abbrev pub seen_by : Shape → Names → ℕ → Names
seen_by sh xs i = names_within sh.form i (names_after sh.parts i xs)

abbrev pub PartFits : Shape → Names → List Cell → Entry → ℕ → Env → Type 0
PartFits sh xs h First i env = EnvFits h (seen_by sh xs i) env
PartFits sh xs h (Inside j) i env = (has_inner (form_at sh.parts i) ≡ true) × EnvFits h (names_within (form_at sh.parts i) j (seen_by sh xs i)) env
PartFits sh xs h (On v) i env = There h v × EnvFits h (seen_by sh xs i) env
PartFits sh xs h e i env = Unit {0}

abbrev pub part_passes : Shape → Names → List Cell → Entry → ℕ → Env → Bool
part_passes sh xs h First i env = env_passes h (seen_by sh xs i) env
part_passes sh xs h (Inside j) i env = has_inner (form_at sh.parts i) && env_passes h (names_within (form_at sh.parts i) j (seen_by sh xs i)) env
part_passes sh xs h (On v) i env = value_passes h v && env_passes h (seen_by sh xs i) env
part_passes sh xs h e i env = true

pub part_test : (sh : Shape) (xs : Names) (h : List Cell) (e : Entry) (i : ℕ) (env : Env) → Tests (part_passes sh xs h e i env) (PartFits sh xs h e i env)
part_test sh xs h First i env = env_test h (seen_by sh xs i) env
part_test sh xs h (Inside j) i env = both_test _ _ _ _ (flag_test (has_inner (form_at sh.parts i))) (env_test h (names_within (form_at sh.parts i) j (seen_by sh xs i)) env)
part_test sh xs h (On v) i env = both_test _ _ _ _ (value_test h v) (env_test h (seen_by sh xs i) env)
part_test sh xs h e i env = record { holds = λ x. tt; told = λ x. refl }

abbrev pub AgainFits : Shape → Names → Common → List Value → Env → Type 0
AgainFits sh xs u kept env = (not (is_declaration sh.form) ≡ true) × (EnvFits u.cells (turn_names sh.form sh.parts xs) env × TurnFits sh.form u kept)

abbrev pub again_passes : Shape → Names → Common → List Value → Env → Bool
again_passes sh xs u kept env = not (is_declaration sh.form) && (env_passes u.cells (turn_names sh.form sh.parts xs) env && turn_passes sh.form u.cells kept)

pub again_test : (sh : Shape) (xs : Names) (u : Common) (kept : List Value) (env : Env) → Tests (again_passes sh xs u kept env) (AgainFits sh xs u kept env)
again_test sh xs u kept env = both_test _ _ _ _ (flag_test (not (is_declaration sh.form))) (both_test _ _ _ _ (env_test u.cells (turn_names sh.form sh.parts xs) env) (turn_test sh.form u kept))

abbrev pub CallFits : Term → Common → ℕ → List Value → Env → Type 0
CallFits root u n args env = CalleeFits root u n env × AllAre (There u.cells) args

abbrev pub call_passes : Term → Common → ℕ → List Value → Env → Bool
call_passes root u n args env = callee_passes root u.cells n env && values_pass u.cells args

pub call_test : (root : Term) (u : Common) (n : ℕ) (args : List Value) (env : Env) → Tests (call_passes root u n args env) (CallFits root u n args env)
call_test root u n args env = both_test _ _ _ _ (callee_test root u n env) (values_test u.cells args)

-- the probe
abbrev pub probe : Term → Shape → Names → Around
probe root sh xs = record {
  part = λ e i env s. telling root (part_passes sh xs s.world.shared.cells e i env) s;
  again = λ i kept env s. telling root (again_passes sh xs s.world.shared kept env) s;
  call = λ n args env s. telling root (call_passes root s.world.shared n args env) s;
}

not_declared : (f : NodeForm) → is_declaration f ≡ false → not (is_declaration f) ≡ true
not_declared f e = ap not e

-- where all is well such a wait is a sound one
telling_holds : (g : Base) (f : NodeForm) (u : Common) (b : Bool) (s : State) → At g u s → b ≡ true → Holds g f u (telling g.script b s)
telling_holds g f u true s at e = (record { later = at.later; sound = at.sound; alone = at.alone; pausing = pausing_here g.around s.world at.same; spent = omega (arith, left_later g u s.world.shared at.later) }, tt, tt)
telling_holds g f u false s at e = absurd (cc e)

module _ (g : Base) (shaped : Shaped g.script) (k : ℕ) (sh : Shape) (xs : Names) (place : Place g k sh xs) where
  pub probe_sources : Sources g shaped k sh xs place (probe g.script sh xs)
  probe_sources = record {
    part = λ u i env fit s at. telling_holds g (form_at sh.parts i) u _ s at ((part_test sh xs s.world.shared.cells First i env).told (env_later u s.world.shared at.later (seen_by sh xs i) env fit));
    inner = λ u i j env inside fit s at. telling_holds g form.Block u _ s at ((part_test sh xs s.world.shared.cells (Inside j) i env).told (inside, env_later u s.world.shared at.later _ env fit));
    suffix = λ u i env v there fit s at. telling_holds g form.Block u _ s at ((part_test sh xs s.world.shared.cells (On v) i env).told (there_then u s.world.shared at.later v there, env_later u s.world.shared at.later _ env fit));
    again = λ u i kept env plain fit t s at. telling_holds g sh.form u _ s at ((again_test sh xs s.world.shared kept env).told (not_declared sh.form plain, (env_later u s.world.shared at.later _ env fit, turn_then sh.form u s.world.shared at.later kept t)));
    call = λ o u n args env fit there s at. telling_holds (within o g) form.Block u _ s at ((call_test g.script s.world.shared n args env).told
        (record { below = fit.below; callable = fit.callable; variables = env_later u s.world.shared at.later _ env fit.variables }, all_there_then u s.world.shared at.later args there));
  }

  -- what is told of a wait inside new frames
  pub record Told (u : Common) (path : List Frame) (s : State) (P : Type 0) : Type 0 where
    pub paused : Paused g u (told g.script true) path s
    pub sits : AllAre (Sits g.script s.world.shared) path
    pub fits : P

  pub tells : (f : NodeForm) (u : Common) (a : Around) (path : List Frame) (b : Bool) (s : State) (P : Type 0) → Tests b P → Holds g f u (over sh a path (telling g.script b s)) → Told u path s P
  tells f u a path b s P t h =
      let w : Holds g f u (Waits (told g.script b) path s) = subst (Holds g f u) (over_waits sh a path (told g.script b) s) h in
      let well : b ≡ true = told_well g.script s.world.shared b w.1 in
      record { paused = subst (λ c. Paused g u (told g.script c) path s) well w.0; sits = w.2; fits = t.holds well }
