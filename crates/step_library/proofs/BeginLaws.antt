-- How a step begins, by what binding its arguments comes to.
use Rattle.std.proofs.Common.{◌≡◌, ℕ, List, [], ◌∷◌, Option, Some, None, ap, sym, length, arith}
use Rattle.std.specs.Prelude.{codes}
use Rattle.std.specs.List.{All, AllByRecursion as AllAre}
use Rattle.std.proofs.lemmas.List.Elements.{All-cons}
use Rattle.cell_heap.specs.Soundness.{ValueBelow}
use Rattle.model_values.specs.Fitting.{There}
use Rattle.model_values.specs.declared.cell.Cell.{Cell}
use Rattle.model_values.specs.declared.value.Value.{Value}
use Rattle.model_values.specs.declared.value.Value.TheVariants.{Null, Bool as Truth, Int as Whole, Cell as InCell}
use Rattle.model_run.specs.Around.{Around}
use Rattle.model_run.specs.FlowNodes.{block}
use Rattle.model_run.specs.State.{World, Reply, State, Env, seeing}
use Rattle.model_run.specs.Steps.{begin_branches, begin_step, bound_step, branches_given}
use Rattle.model_run.specs.StepTable as table
use Rattle.model_run.specs.StepTable.{Given, bind_step}
use Rattle.model_run.specs.declared.step.Step.{Step}
use Rattle.model_run.specs.declared.step.Step.TheVariants.{Println, Echo, Error, MakeUnstable, Stage, CatchError, Retry, Node, Dir, WithEnv, Sh, Input, Parallel}
use Rattle.step_arguments.specs.Binding.{Comes_to, IsBound}
use Rattle.step_arguments.specs.declared.bound.Bound.{Bound}
use Rattle.step_arguments.specs.declared.bound.Bound.TheVariants as bound
use Rattle.step_library.specs.Beginning.{bound_says}

there_below : (h : List Cell) (v : Value) → There h v → ValueBelow (length h) v
there_below h (InCell c) there = there
there_below h Null there = tt
there_below h (Truth b) there = tt
there_below h (Whole z) there = tt

pub all_below : (h : List Cell) (vs : List Value) → AllAre (There h) vs → All (ValueBelow (length h)) vs
all_below h [] all = λ k d lt. absurd (omega arith)
all_below h (v ∷ vs) all = All-cons (ValueBelow (length h)) v vs (there_below h v all.0) (all_below h vs all.1)

bound_is : (a : Around) (k : ℕ) (env : Env) (s : Step) (w : World) (args : Given) (body : Option Value) (b : Bound) (st : State) → IsBound w s args body b → bound_step a k env s w (table.Binds args body) st ≡ bound_says a k env b st
bound_is a k env Println w args None b st is = ap (λ x. bound_says a k env x st) (sym is)
bound_is a k env Echo w args None b st is = ap (λ x. bound_says a k env x st) (sym is)
bound_is a k env Error w args None b st is = ap (λ x. bound_says a k env x st) (sym is)
bound_is a k env MakeUnstable w args None b st is = ap (λ x. bound_says a k env x st) (sym is)
bound_is a k env Sh w args None b st is = ap (λ x. bound_says a k env x st) (sym is)
bound_is a k env Input w args None b st is = ap (λ x. bound_says a k env x st) (sym is)
bound_is a k env Parallel w args None (bound.Parallel m) st is = ap (λ o. block (codes "parallel") (seeing (λ u. begin_branches k env u.own.head [] (branches_given u o))) st) is
bound_is a k env Parallel w args None b st is = absurd is
bound_is a k env Stage w args None b st is = absurd is
bound_is a k env CatchError w args None b st is = absurd is
bound_is a k env Retry w args None b st is = absurd is
bound_is a k env Node w args None b st is = absurd is
bound_is a k env Dir w args None b st is = absurd is
bound_is a k env WithEnv w args None b st is = absurd is
bound_is a k env Println w args (Some f) b st is = absurd is
bound_is a k env Echo w args (Some f) b st is = absurd is
bound_is a k env Error w args (Some f) b st is = absurd is
bound_is a k env MakeUnstable w args (Some f) b st is = absurd is
bound_is a k env Sh w args (Some f) b st is = absurd is
bound_is a k env Input w args (Some f) b st is = absurd is
bound_is a k env Parallel w args (Some f) b st is = absurd is
bound_is a k env Stage w args (Some f) b st is = ap (λ x. bound_says a k env x st) (sym is)
bound_is a k env CatchError w args (Some f) b st is = ap (λ x. bound_says a k env x st) (sym is)
bound_is a k env Retry w args (Some f) b st is = ap (λ x. bound_says a k env x st) (sym is)
bound_is a k env Node w args (Some f) b st is = ap (λ x. bound_says a k env x st) (sym is)
bound_is a k env Dir w args (Some f) b st is = ap (λ x. bound_says a k env x st) (sym is)
bound_is a k env WithEnv w args (Some f) b st is = ap (λ x. bound_says a k env x st) (sym is)

bound_so : (a : Around) (k : ℕ) (env : Env) (s : Step) (w : World) (x : table.Bound) (b : Bound) (st : State) → Comes_to w s x b → bound_step a k env s w x st ≡ bound_says a k env b st
bound_so a k env s w (table.Binds args body) b st is = bound_is a k env s w args body b st is
bound_so a k env s w (table.Refuses t) b st is = absurd is
bound_so a k env s w (table.Stops_at l) b st is = absurd is

pub step_is : (a : Around) (k : ℕ) (env : Env) (s : Step) (args : List Value) (w : World) (rs : List Reply) (b : Bound) → Comes_to w s (bind_step w s args) b → begin_step a k env s args (record { world = w; replies = rs }) ≡ bound_says a k env b (record { world = w; replies = rs })
step_is a k env s args w rs b is = bound_so a k env s w (bind_step w s args) b (record { world = w; replies = rs }) is
