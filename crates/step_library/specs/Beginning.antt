-- A step that begins, by its arguments as it uses them.
use Rattle.std.specs.Prelude.{◌<◌, ◌+◌, ◌^◌, ℕ, List, [], ◌∷◌, ◌++◌, Some, codes, length}
use Rattle.std.specs.List.{AllByRecursion as AllAre}
use Rattle.model_values.specs.Fitting.{There}
use Rattle.model_values.specs.declared.throwable.Class.TheVariants.{Abort}
use Rattle.model_values.specs.declared.value.Value.{Value}
use Rattle.model_values.specs.declared.value.Value.TheVariants.{Null}
use Rattle.model_run.specs.declared.frame.FrameKind.TheVariants as kind
use Rattle.model_run.specs.declared.request.Request.TheVariants.{Node as NodeRequest}
use Rattle.model_run.specs.declared.result.BuildResult.TheVariants.{Unstable}
use Rattle.model_run.specs.Around.{Around, ended, frame}
use Rattle.model_run.specs.Callables.{calling, closure_of}
use Rattle.model_run.specs.FlowNodes.{atom, block, logging}
use Rattle.model_run.specs.Results.{rank}
use Rattle.model_run.specs.State.{State, Env, Result, changed, operating, seeing}
use Rattle.model_run.specs.Steps.{after_node_wait, after_retry, begin_branches, branches_given, catch_error_body, dir_in, input_asks, kept_text, place_of, retry_body, sh_in, stage_body, throwing, waiting_for, with_env_body, with_overrides, worsened}
use Rattle.run_laws.specs.Evaluation.{AllOfSite}
use Rattle.run_laws.specs.Soundness.{SoundWorld}
use Rattle.cps_frames.specs.Places.{HasFolders, HoldsExecutors}
use Rattle.cps_frames.specs.Standing.{Standing}
use Rattle.step_arguments.specs.declared.bound.Bound.{Bound}
use Rattle.step_arguments.specs.declared.bound.Bound.TheVariants as bound

-- what each step does
abbrev pub bound_says : Around → ℕ → Env → Bound → State → Result
bound_says a k env (bound.Println t) = logging t (ended Null)
bound_says a k env (bound.Echo t) = atom (codes "echo") (logging t (ended Null))
bound_says a k env (bound.Error t) = atom (codes "error") (throwing Abort t)
bound_says a k env (bound.MakeUnstable t) = atom (codes "unstable") (logging (codes "WARNING: " ++ t) (changed (worsened Unstable) (ended Null)))
bound_says a k env (bound.Stage name f) = block (codes "stage") (seeing (λ u. calling (closure_of u f) (ended Null) (stage_body a k env name u)))
bound_says a k env (bound.CatchError message r f) =
    operating (λ u. kept_text u message) (λ m. block (codes "catchError") (seeing (λ u. calling (closure_of u f) (ended Null) (catch_error_body a k env (rank r) m u))))
bound_says a k env (bound.Retry more f) = block (codes "retry") (seeing (λ u. retry_body (after_retry a k env u.own.head f more) a k env u.own.head more f))
bound_says a k env (bound.Node label f) = block (codes "node") (seeing (λ u. waiting_for (NodeRequest label) (frame kind.NodeWait k 0 env (f ∷ [])) (after_node_wait a k env f) u))
bound_says a k env (bound.Dir path f) = block (codes "dir") (seeing (λ u. dir_in a k env path f u (place_of u)))
bound_says a k env (bound.WithEnv ps f) = block (codes "withEnv") (seeing (λ u. changed (with_overrides ps) (calling (closure_of u f) (ended Null) (with_env_body a k env (length ps) u))))
bound_says a k env (bound.Sh script status keep) = atom (codes "sh") (seeing (λ u. sh_in k env script status keep u (place_of u)))
bound_says a k env (bound.Input message ok id) = atom (codes "input") (logging message (logging (ok ++ codes " or Abort") (seeing (input_asks k env id))))
bound_says a k env (bound.Parallel branches) = block (codes "parallel") (seeing (λ w. begin_branches k env w.own.head [] (branches_given w (Some branches))))

-- A request can be numbered; the executors that are held are the site's, those of the thread's requests are held, and the thread has a
-- folder for each.
pub record MayTake (u : Standing) : Type 0 where
  pub room : u.world.shared.next_request + 1 < 2 ^ 32
  pub executors : AllOfSite u.world.setting.site u.world.shared.held
  pub holds : HoldsExecutors u.world
  pub enough : HasFolders u.world.own.context

-- A step may begin: in a sound world, where the executors that are held are the site's, those of the thread's requests are held, and the
-- thread has a folder for each, with arguments that are there.
pub record MayBegin (u : Standing) (args : List Value) : Type 0 where
  pub sound : SoundWorld u.world.setting u.world
  pub executors : AllOfSite u.world.setting.site u.world.shared.held
  pub holds : HoldsExecutors u.world
  pub enough : HasFolders u.world.own.context
  pub arguments : AllAre (There u.world.shared.cells) args
