-- A life over any store, also one of which the disk tells nothing (this product's own).
use Rattle.std.specs.Prelude.{◌≡◌, ℕ, ℤ, List, [], Option}
use Rattle.task_host.specs.declared.call.Call.{Call}
use Rattle.task_host.specs.declared.order.Stream.{Stream}
use Rattle.model_run.specs.State.{Setting}
use Rattle.build_life.specs.Lower.locked_build.declared.ask.Entry.{Entry}
use Rattle.build_commands.specs.Living.{IsRefused, Lived}
use Rattle.build_commands.specs.Reporting.{IsTooLong}
use Rattle.task_host.specs.View.{HostView}
use Rattle.jp_io.specs.View.{SourceView}

-- It was led by members that are made of these hosts and answers; and where it ended with 14, the record that did not fit is the one that was due for a grant, or for an
-- event that one of them asked for; for a grant of the opening only where none of them had a turn.
pub record IsLed {H A : Type 0} (host : HostView H) (source : SourceView A) (looks : ℕ) (setting : Setting) (hosts rest : List H) (answers unread : A) (history : List Entry) (written now : Option (List ℕ)) (sink_before sink_after status : ℕ) : Type 0 where
  pub lived : Lived host source looks setting hosts rest answers unread history
  pub too_long : status ≡ 14 → ∥ IsTooLong (IsRefused host source looks lived.turns) (lived.turns ≡ []) history written now sink_before sink_after ∥₁
