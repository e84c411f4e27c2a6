-- What binding the arguments of a call comes to, as the program has it.
use Rattle.std.specs.Prelude.{◌≡◌, ◌<◌, ◌^◌, All, length, IfSome, List, Option, Some, None, Result as Outcome, Ok, Err, unwrap_or, codes}
use Rattle.cell_heap.specs.Soundness.{ValueBelow}
use Rattle.model_values.specs.Fitting.{HasClosure, IsIn}
use Rattle.model_values.specs.Kinds.{Kind, pairs, kind}
use Rattle.model_values.specs.Limits.{product_limits}
use Rattle.model_values.specs.TextOf.{text_of}
use Rattle.model_values.specs.declared.cell.Cell.{Cell}
use Rattle.model_values.specs.declared.value.Value.{Value}
use Rattle.model_run.specs.Around.{cells}
use Rattle.model_run.specs.Labels.{kept_label}
use Rattle.model_run.specs.State.{World}
use Rattle.model_run.specs.Steps.{named_result, overrides_of, text_or_empty, tries_given}
use Rattle.model_run.specs.StepTable as table
use Rattle.model_run.specs.declared.step.Step.{Step}
use Rattle.model_run.specs.declared.step.Step.TheVariants.{Println, Echo, Error, MakeUnstable, Stage, CatchError, Retry, Node, Dir, WithEnv, Sh, Input, Parallel}
use Rattle.model_run.specs.StepTable.{Given, given, is_true, text_given, Fit, Fits, Meets}
use Rattle.model_run.specs.World.{run_limits}
use Rattle.step_arguments.specs.declared.bound.Bound.{Bound}
use Rattle.step_arguments.specs.declared.bound.Bound.TheVariants as bound
use Rattle.step_arguments.specs.declared.refusal.BindRefusal.{BindRefusal}
use Rattle.step_arguments.specs.declared.refusal.BindRefusal.TheVariants.{Memory, Fault, Limit}
use Rattle.step_arguments.specs.declared.fits.Misfit.{Misfit}
use Rattle.step_arguments.specs.declared.fits.Misfit.TheVariants as misfit

-- a world with these cells, under the limits of the product
abbrev pub seen_with : List Cell → World → World
seen_with h w = record { setting = record { script = w.setting.script; site = w.setting.site; limits = run_limits }; shared = record w.shared { cells = h }; own = w.own }

-- The arguments that a step takes, as it uses them, and its body where it has one.
abbrev pub IsBound : World → Step → Given → Option Value → Bound → Type 0
IsBound w Println args None b = b ≡ bound.Println (text_or_empty w (codes "value") args)
IsBound w Echo args None b = b ≡ bound.Echo (text_or_empty w (codes "message") args)
IsBound w Error args None b = b ≡ bound.Error (text_or_empty w (codes "message") args)
IsBound w MakeUnstable args None b = b ≡ bound.MakeUnstable (text_or_empty w (codes "message") args)
IsBound w Stage args (Some f) b = b ≡ bound.Stage (text_or_empty w (codes "name") args) f
IsBound w CatchError args (Some f) b = b ≡ bound.CatchError (given (codes "message") args) (named_result (cells w) (given (codes "buildResult") args)) f
IsBound w Retry args (Some f) b = b ≡ bound.Retry (tries_given (cells w) (given (codes "count") args)) f
IsBound w Node args (Some f) b = b ≡ bound.Node (kept_label (text_given w (codes "label") args)) f
IsBound w Dir args (Some f) b = b ≡ bound.Dir (text_or_empty w (codes "path") args) f
IsBound w WithEnv args (Some f) b = b ≡ bound.WithEnv (overrides_of (cells w) (given (codes "overrides") args)) f
IsBound w Sh args None b = b ≡ bound.Sh (text_or_empty w (codes "script") args) (is_true (cells w) (given (codes "returnStatus") args)) (is_true (cells w) (given (codes "returnStdout") args))
IsBound w Input args None b = b ≡ bound.Input (text_or_empty w (codes "message") args) (unwrap_or (text_given w (codes "ok") args) (codes "Proceed")) (text_given w (codes "id") args)
IsBound w Parallel args None (bound.Parallel branches) = given (codes "branches") args ≡ Some branches
IsBound w s args body b = ⊥

-- It is a map whose values are closures.
abbrev pub AreBranches : List Cell → Kind → Type 0
AreBranches h (pairs c es) = All (λ e. IsIn HasClosure h e.1) es
AreBranches h k = ⊥

-- Each argument that is given is one that its parameter takes.
abbrev pub AllFit : List Cell → Step → Given → Type 0
AllFit h s args = (w : World) → table.all_fit (seen_with h w) (table.parameters s) args ≡ Fits

-- It has a text: one that meets no limit.
abbrev pub HasText : List Cell → Value → Type 0
HasText h v = table.writing_fits (text_of product_limits h v) ≡ Fits

-- What a step uses is there: its body and its branches are closures, and what is counted of it a script can count.
abbrev pub IsUsable : List Cell → Bound → Type 0
IsUsable h (bound.Stage name f) = IsIn HasClosure h f
IsUsable h (bound.CatchError message result f) = IsIn HasClosure h f × IfSome message (ValueBelow (length h))
IsUsable h (bound.Retry more f) = IsIn HasClosure h f × (more < 2 ^ 31)
IsUsable h (bound.Node label f) = IsIn HasClosure h f
IsUsable h (bound.Dir path f) = IsIn HasClosure h f
IsUsable h (bound.WithEnv overrides f) = IsIn HasClosure h f × (length overrides < 2 ^ 31)
IsUsable h (bound.Parallel branches) = ValueBelow (length h) branches × AreBranches h (kind h branches)
IsUsable h b = Unit {0}

-- A refusal tells what a call comes to; nothing is said where the memory was refused.
abbrev pub Tells : table.Bound → BindRefusal → Type 0
Tells b Memory = Unit {0}
Tells b (Fault t) = b ≡ table.Refuses t
Tells b (Limit k) = b ≡ table.Stops_at k

-- a call comes to what a check goes on with, or to what it refuses
abbrev pub Checks : table.Bound → table.Bound → Outcome (Unit {0}) BindRefusal → Type 0
Checks b next (Ok done) = b ≡ next
Checks b next (Err r) = Tells b r

-- What binding comes to: arguments and a body, as the step uses them, or a refusal.
abbrev pub Comes_to : World → Step → table.Bound → Bound → Type 0
Comes_to w s (table.Binds args body) b = IsBound w s args body b
Comes_to w s b x = ⊥

abbrev pub BindsTo : World → Step → table.Bound → Outcome Bound BindRefusal → Type 0
BindsTo w s b (Ok x) = Comes_to w s b x
BindsTo w s b (Err r) = Tells b r

-- whether a value is one that a parameter takes
abbrev pub FitsAs : Fit → Outcome (Unit {0}) Misfit → Type 0
FitsAs f (Ok done) = f ≡ Fits
FitsAs f (Err (misfit.Bad part)) = f ≡ table.Bad part
FitsAs f (Err (misfit.Limit k)) = f ≡ Meets k
FitsAs f (Err misfit.Memory) = Unit {0}
