-- Each form of node: sound from a sound state on.
use Rattle.std.proofs.Common.{arith, ◌≡◌, refl, ap, ◌∙◌, ℕ, suc, Bool, true, false, List, [], ◌∷◌, Option, Some, None}
use Rattle.std.specs.Prelude.{slice_get, codes, unwrap_or, not, is_some}
use Rattle.std.specs.List.{AllByRecursion as AllAre}
use Rattle.model_syntax.specs.declared.node.NodeForm.{NodeForm}
use Rattle.model_syntax.specs.declared.node.NodeForm.TheVariants as form
use Rattle.model_syntax.specs.declared.tree.Access.{Access}
use Rattle.model_values.specs.Kinds.{kind}
use Rattle.model_values.specs.MethodNames.{Method, ToString, method_named}
use Rattle.model_values.specs.Methods.{Called, Done, Walks, CallsClosure, method_call}
use Rattle.model_values.specs.Throws.{unknown_step}
use Rattle.model_values.specs.Fitting.{There, HasClosure}
use Rattle.model_values.specs.Later.{CalledGrows, Given}
use Rattle.model_values.proofs.Growth.{methods}
use Rattle.model_values.proofs.CellGrowth.{cell_there}
use Rattle.model_values.proofs.ThrowGrowth.{unknown_step_grows}
use Rattle.model_values.specs.declared.value.Value.{Value}
use Rattle.model_values.specs.declared.value.Value.TheVariants.{Null, Cell as InCell}
use Rattle.model_run.specs.declared.callee.Callee.{Callee}
use Rattle.model_run.specs.declared.step.Step.{Step}
use Rattle.model_run.specs.declared.step.Step.TheVariants as step
use Rattle.model_run.specs.State.{Common, World, State, Env, with_world, changed, answered, may_count, counted, tick, raised}
use Rattle.model_run.specs.Around.{Around, Shape, ended, cells, limits}
use Rattle.model_run.specs.Names.{look}
use Rattle.model_run.specs.Callables.{closure_of, function_named}
use Rattle.model_run.specs.Calls.{enter, walks, walk, walk_method, called, is_null, call_on, method_step, Meant, Callee_of, Step_of, Nothing, meant_function, meant_binding, meant_step, binding_closure, call_meant, call_name, call_value, call_by}
use Rattle.model_run.specs.Forms.{gathered}
use Rattle.model_run.specs.StepTable.{step_named}
use Rattle.model_run.specs.Steps.{begin_step}
use Rattle.model_run.specs.FrameTable.{is_declaration, is_walk, calls_step, same_step}
use Rattle.model_run.specs.Scoping.{Names}
use Rattle.model_run.specs.Fitting.{EnvFits, closure_rule}
use Rattle.model_run.proofs.CallLaws.{method_walks}
use Rattle.model_run.proofs.LaterLaws.{env_later}
use Rattle.model_run.proofs.Under.{both}
use Rattle.run_laws.specs.Soundness.{Base, Shaped, Sound, At, Holds, Goes}
use Rattle.run_laws.proofs.NodeLaws.{Real}
use Rattle.run_laws.proofs.Flow.{guard_here, there_then, all_there_then, from_here, moves_aside, at_moved, tick_goes, end_goes, null_goes, answer_goes, stopped_here}
use Rattle.run_laws.proofs.Sources.{Place, Sources}
use Rattle.run_laws.proofs.SoundAssignments.{before_of, operate_goes}
use Rattle.run_laws.proofs.SoundCalls.{CalleeThere, closure_fits, function_fits, binding_fits, calling_goes, enter_goes, walk_goes}
use Rattle.run_laws.proofs.SoundGathering.{list_goes, map_goes, text_goes, throwable_goes}
use Rattle.run_laws.proofs.SoundBranches.{CallsIt, begin_step_goes}

-- what a name that is called means is there
abbrev MeantThere : Base → Common → List ℕ → Meant → Type 0
MeantThere g u f (Callee_of c) = CalleeThere g.script u (Some c)
MeantThere g u f (Step_of s) = step_named f ≡ Some s
MeantThere g u f Nothing = Unit {0}

step_there : (g : Base) (u : Common) (f : List ℕ) (o : Option Step) → step_named f ≡ o → MeantThere g u f (meant_step o)
step_there g u f (Some s) e = e
step_there g u f None e = tt

binding_there : (g : Base) (u : Common) (f : List ℕ) (o : Option Callee) → CalleeThere g.script u o → MeantThere g u f (meant_binding f o)
binding_there g u f (Some c) h = h
binding_there g u f None h = step_there g u f (step_named f) refl

function_there : (g : Base) (w : World) (f : List ℕ) → Sound g w → (o : Option Callee) → CalleeThere g.script w.shared o → MeantThere g w.shared f (meant_function f w o)
function_there g w f sound (Some c) h = h
function_there g w f sound None h = binding_there g w.shared f (binding_closure f w) (binding_fits g f w sound (look f w.shared.binding))

module _ (g : Base) (real : Real g.script [] g.script) (shaped : Shaped g.script) (k : ℕ) (sh : Shape) (xs : Names) (place : Place g k sh xs) (a : Around) (src : Sources g shaped k sh xs place a) (plain : is_declaration sh.form ≡ false) (env : Env) where
  -- what a method call comes to, at the state from which it was computed
  called_goes : (u : Common) → EnvFits u.cells xs env → (s : State) → At g u s → (on : Value) (args : List Value) → There u.cells on → AllAre (There u.cells) args → (x : Called) → CalledGrows (limits s.world) (closure_rule g.script) (cells s.world) (Given (closure_rule g.script) (cells s.world) (on ∷ args)) x
      → ((m : Method) (c : ℕ) → x ≡ Walks m c → HasClosure (slice_get s.world.shared.cells c) → Goes g sh.form s.world.shared (walk a k env (walk_method sh.form) 0 on (InCell c) [])) → Holds g sh.form u (called a k sh env s.world on args x s)
  called_goes u fit s at on args ton targs (Done answer n) grown walked =
      let at1 : At g u (with_world (raised n (counted s.world)) s) = at_moved g u (λ w. raised n (counted w)) s at (moves_aside g (λ w. raised n (counted w)) s.world at.sound refl refl refl refl refl refl refl refl (omega arith)) in
      guard_here g sh.form u (may_count s.world) counted (changed (raised n) (answered answer ended)) s (stopped_here g u s at)
      (λ none. answer_goes g sh.form u There answer (with_world (raised n (counted s.world)) s) at1 (Given (closure_rule g.script) (cells s.world) (on ∷ args)) ((at.sound).cells, (there_then u s.world.shared at.later on ton, all_there_then u s.world.shared at.later args targs)) grown ended (λ v t q l is. (q, (is, plain))))
  called_goes u fit s at on args ton targs (Walks m c) grown walked =
      from_here g sh.form u (tick (walk a k env (walk_method sh.form) 0 on (InCell c) [])) s at (tick_goes g sh.form s.world.shared (walk a k env (walk_method sh.form) 0 on (InCell c) []) (walked m c refl grown))
  called_goes u fit s at on args ton targs (CallsClosure c) grown walked = calling_goes g sh.form plain u (closure_of s.world (InCell c)) s at (closure_fits g s.world (InCell c) at.sound) (enter a args)
      (λ d e callee. from_here g sh.form u (enter a args d) s at (enter_goes g shaped k sh xs place a src plain s.world.shared args d (all_there_then u s.world.shared at.later args targs) callee))

  -- a call of a method
  module _ (access : Access) (f : List ℕ) (is : sh.form ≡ form.Method access f) where
    walks_so : (s : State) (on : Value) (args : List Value) (m : Method) (c : ℕ) → method_call (limits s.world) (cells s.world) on f args (suc s.world.shared.count) ≡ Walks m c → is_walk sh.form ≡ true
    walks_so s on args m c e = ap is_walk is ∙ method_walks (limits s.world) (cells s.world) on f (method_named f) args (suc s.world.shared.count) m c e

    call_on_goes : (u : Common) → EnvFits u.cells xs env → (on : Value) (args : List Value) → There u.cells on → AllAre (There u.cells) args → (s : State) → At g u s → (b : Bool) → Holds g sh.form u (call_on a k sh env f on args s.world b s)
    call_on_goes u fit on args ton targs s at true = tick_goes g sh.form u (ended Null) (null_goes g sh.form u plain) s at
    call_on_goes u fit on args ton targs s at false = called_goes u fit s at on args ton targs (method_call (limits s.world) (cells s.world) on f args (suc s.world.shared.count)) (methods (limits s.world) (closure_rule g.script) (cells s.world) on f args (suc s.world.shared.count))
        (λ m c e has. walk_goes g shaped k sh xs place a src plain access f is (walks_so s on args m c e) s.world.shared env (env_later u s.world.shared at.later xs env fit) 0 on (InCell c) [] (there_then u s.world.shared at.later on ton) (cell_there HasClosure (λ h. h) s.world.shared.cells c has) tt)

    pub method_goes : (u : Common) → EnvFits u.cells xs env → (vs : List Value) → AllAre (There u.cells) vs → Goes g sh.form u (method_step a k sh env access f vs)
    method_goes u fit [] there = null_goes g sh.form u plain
    method_goes u fit (on ∷ args) there = λ s at. call_on_goes u fit on args there.0 there.1 s at (is_null access (kind (cells s.world) on))

  -- a call of a name
  module _ (f : List ℕ) (is : sh.form ≡ form.Call f) where
    calls_it : look f env ≡ None → (s : Step) → step_named f ≡ Some s → CallsIt g shaped k sh xs place a src plain env s
    calls_it unseen step.Println e = tt
    calls_it unseen step.Echo e = tt
    calls_it unseen step.Error e = tt
    calls_it unseen step.MakeUnstable e = tt
    calls_it unseen step.Stage e = ap (λ x. calls_step step.Stage x env) is ∙ both _ _ (ap (same_step step.Stage) e) (ap (λ o. not (is_some o)) unseen)
    calls_it unseen step.CatchError e = ap (λ x. calls_step step.CatchError x env) is ∙ both _ _ (ap (same_step step.CatchError) e) (ap (λ o. not (is_some o)) unseen)
    calls_it unseen step.Retry e = ap (λ x. calls_step step.Retry x env) is ∙ both _ _ (ap (same_step step.Retry) e) (ap (λ o. not (is_some o)) unseen)
    calls_it unseen step.Node e = ap (λ x. calls_step step.Node x env) is ∙ both _ _ (ap (same_step step.Node) e) (ap (λ o. not (is_some o)) unseen)
    calls_it unseen step.Dir e = ap (λ x. calls_step step.Dir x env) is ∙ both _ _ (ap (same_step step.Dir) e) (ap (λ o. not (is_some o)) unseen)
    calls_it unseen step.WithEnv e = ap (λ x. calls_step step.WithEnv x env) is ∙ both _ _ (ap (same_step step.WithEnv) e) (ap (λ o. not (is_some o)) unseen)
    calls_it unseen step.Sh e = ap (λ x. calls_step step.Sh x env) is ∙ both _ _ (ap (same_step step.Sh) e) (ap (λ o. not (is_some o)) unseen)
    calls_it unseen step.Input e = ap (λ x. calls_step step.Input x env) is ∙ both _ _ (ap (same_step step.Input) e) (ap (λ o. not (is_some o)) unseen)
    calls_it unseen step.Parallel e = ap (λ x. calls_step step.Parallel x env) is ∙ both _ _ (ap (same_step step.Parallel) e) (ap (λ o. not (is_some o)) unseen)

    meant_goes : look f env ≡ None → (u : Common) → EnvFits u.cells xs env → (args : List Value) → AllAre (There u.cells) args → (w : World) (m : Meant) → MeantThere g u f m → Goes g sh.form u (call_meant a k sh env f args w m)
    meant_goes unseen u fit args there w (Callee_of c) h = enter_goes g shaped k sh xs place a src plain u args c there h
    meant_goes unseen u fit args there w (Step_of s) h = tick_goes g sh.form u (begin_step a k env s args) (begin_step_goes g shaped k sh xs place a src plain env s (calls_it unseen s h) u fit args there)
    meant_goes unseen u fit args there w Nothing h = tick_goes g sh.form u _ (operate_goes g sh.form u [] tt (λ h v. ⊥) (λ h v bad. absurd bad) (λ w. unknown_step (limits w) (cells w) f) (λ w. unknown_step_grows (before_of g w []) (λ h v. ⊥) f) ended (end_goes g sh.form u plain))

    call_name_goes : look f env ≡ None → (u : Common) → EnvFits u.cells xs env → (args : List Value) → AllAre (There u.cells) args → Goes g sh.form u (call_name a k sh env f args)
    call_name_goes unseen u fit args there s at = from_here g sh.form u (call_meant a k sh env f args s.world (meant_function f s.world (function_named f s.world))) s at
        (meant_goes unseen s.world.shared (env_later u s.world.shared at.later xs env fit) args (all_there_then u s.world.shared at.later args there) s.world (meant_function f s.world (function_named f s.world)) (function_there g s.world f at.sound (function_named f s.world) (function_fits g real f s.world at.sound)))

    call_value_goes : (u : Common) → EnvFits u.cells xs env → (vs : List Value) → AllAre (There u.cells) vs → Goes g sh.form u (call_value a k sh env vs)
    call_value_goes u fit [] there = null_goes g sh.form u plain
    call_value_goes u fit (v ∷ args) there = λ s at. called_goes u fit s at v args there.0 there.1 (method_call (limits s.world) (cells s.world) v (codes "call") args (suc s.world.shared.count)) (methods (limits s.world) (closure_rule g.script) (cells s.world) v (codes "call") args (suc s.world.shared.count))
        (λ m c e has. absurd (never s v args m c e))
      where
        never : (s : State) (v : Value) (args : List Value) (m : Method) (c : ℕ) → method_call (limits s.world) (cells s.world) v (codes "call") args (suc s.world.shared.count) ≡ Walks m c → ⊥
        never s v args m c e = let w : walks (unwrap_or (method_named (codes "call")) ToString) ≡ true = method_walks (limits s.world) (cells s.world) v (codes "call") (method_named (codes "call")) args (suc s.world.shared.count) m c e in absurd (cc)

    pub call_goes : (u : Common) → EnvFits u.cells xs env → (vs : List Value) → AllAre (There u.cells) vs → (o : Option ℕ) → look f env ≡ o → Goes g sh.form u (call_by o a k sh env f vs)
    call_goes u fit vs there None unseen = call_name_goes unseen u fit vs there
    call_goes u fit vs there (Some c) seen = call_value_goes u fit vs there

  -- what a node does with all the values that it gathers
  pub gathered_goes : (f : NodeForm) → sh.form ≡ f → (u : Common) → EnvFits u.cells xs env → (vs : List Value) → AllAre (There u.cells) vs → Goes g sh.form u (gathered a k env sh f vs)
  gathered_goes (form.Call f) is u fit vs there = call_goes f is u fit vs there (look f env) refl
  gathered_goes (form.Method access f) is u fit vs there = method_goes access f is u fit vs there
  gathered_goes form.Map is u fit vs there = map_goes g sh.form plain u vs there sh
  gathered_goes form.GString is u fit vs there = text_goes g sh.form plain u vs there sh
  gathered_goes (form.New c) is u fit vs there = throwable_goes g sh.form plain u vs there c
  gathered_goes f is u fit vs there = list_goes g sh.form plain u vs there
