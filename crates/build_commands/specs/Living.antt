-- The life of a build with its members, as a command sees it that lets it go on (this product's own).
use Rattle.std.specs.Prelude.{◌≡◌, ◌⊎◌, ◌++◌, ◌∷◌, ℕ, ℤ, Bool, List, [], Option, true, false}
use Rattle.std.specs.Io.KnownBytes.{Consumes, IsAtEnd}
use Rattle.std.specs.List.{AllByRecursion as AllAre, AllZip}
use Rattle.device_faults.specs.Faults.{Rose}
use Rattle.task_host.specs.declared.call.Call.{Call}
use Rattle.task_host.specs.declared.order.Stream.{Stream}
use Rattle.agent_worker.specs.AnswerBytes.{begun_after}
use Rattle.agent_worker.specs.declared.member.Member.{Member}
use Rattle.model_run.specs.declared.event.Event.{Event}
use Rattle.model_run.specs.declared.taken.Taken.TheVariants.{Accepted}
use Rattle.model_run.specs.State.{Setting}
use Rattle.model_run.specs.World.{answer_to, world_in}
use Rattle.launch_laws.specs.Fitting as fitting
use Rattle.launch_laws.specs.Fitting.{ExecutorHost}
use Rattle.build_life.specs.declared.resting.Rest.TheVariants.{AnswersFailed, Waits}
use Rattle.build_life.specs.Lower.locked_build.declared.ask.Entry.{Entry}
use Rattle.build_life.specs.Lower.locked_build.Histories.{lines, tooks}
use Rattle.build_life.specs.Lower.member_turns.Tales.{is_grant}
use Rattle.build_life.specs.Lower.member_turns.Lives.{LifeOf, any_reply}
use Rattle.build_life.specs.Lower.member_turns.Turns.{Explains, HoldsOfOne, Turn}
use Rattle.build_life.specs.Lower.member_turns.Coming.{EachIs}
use Rattle.build_life.specs.Ending.{RestsWith}
use Rattle.build_life.specs.Going.{Comes, GoesBy, heard_in}
use Rattle.build_life.specs.Replies.{replies}
use Rattle.build_life.specs.Telling.{ClaimedInTime, HeardInTime, IsOrderOf, orders_in}
use Rattle.build_life.specs.Serving.{AllFit, AreHonest, AreServed, HostStays}
use Rattle.agent_worker.specs.Crews.{answers_in, hosts_in, members_of, others_of}
use Rattle.build_commands.specs.declared.end_text.EndText.{EndText}
use Rattle.build_commands.specs.Finishing.{Finishes}
use Rattle.jp_disk.specs.View.{DiskView}
use Rattle.task_host.specs.View.{HostView}
use Rattle.jp_io.specs.View.{SourceView}

-- Each host comes back at its place: honest where it was, its count of faults not lower, and with its calls behind those from before.
abbrev pub HostsStay : {H : Type 0} → HostView H → List H → List H → Type 0
HostsStay host hosts rest = AllZip (λ machine now. HostStays (host.honest machine) (host.honest now) (host.faults machine) (host.faults now) (host.calls machine) (host.calls now)) hosts rest

-- What was read of the answers, and that these lines were heard of it: the whole lines, each of at most 1,024 bytes, and the last one, where the answers ended
-- within it. Where they may have no more, they are at their end; else nothing of another line was read, where their source counted no fault.
pub record HeardOf {A : Type 0} (source : SourceView A) (answers unread : A) (heard : List (List ℕ)) : Type 0 where
  pub read : List ℕ
  pub more : Bool
  pub taken : Consumes (source.left answers) (source.left unread) read
  pub at_end : more ≡ false → IsAtEnd (source.left unread)
  pub is : heard ≡ heard_in read more
  pub nothing_left : ¬ (Rose (source.faults answers) (source.faults unread)) → more ≡ true → begun_after [] read ≡ []

module _ {H A : Type 0} (host : HostView H) (source : SourceView A) (looks : ℕ) where
  -- In one of these turns the event was taken, or kept from the disk by a fault: an executor reported it with its cause, or a line that the operator read and
  -- gave decides it.
  abbrev pub IsReported : List (Turn H A) → Event → Type 0
  IsReported turns e = HoldsOfOne (Explains host source looks true e) turns

  abbrev pub IsRefused : List (Turn H A) → Event → Type 0
  IsRefused turns e = HoldsOfOne (Explains host source looks false e) turns

  -- A life from these events on, with which its build had begun: by grants that were due, by what executors reported with their cause, and by the decisions of the
  -- lines that were heard. Those at its end are those at its beginning, the grants that a stop had left out, and those of the history. The turns are those of a
  -- life in which each ask was replied to by the build of the events then. Each task was claimed while it was open, for its executor, and each order that an
  -- executor got is that of a task which was open then; each line was heard only where an input was open since the line before it. The members' hosts, where they
  -- are honest, and all others fit the events at the end, and with one event more that is accepted, where they fitted those at the beginning.
  pub record TakesBy (setting : Setting) (before : List Event) (old new : List (Member H A)) (turns : List (Turn H A)) (history : List Entry) (events : List Event) : Type 0 where
    pub begun : (world_in setting before).started ≡ true
    pub goes : GoesBy setting (IsReported turns) before events (lines history)
    pub granted : List Event
    pub are_grants : AllAre (λ e. is_grant e ≡ true) granted
    pub is : events ≡ (before ++ granted) ++ tooks history
    pub led : LifeOf host source looks (replies setting) (before ++ granted) old new turns history
    pub claims : EachIs (ClaimedInTime setting (before ++ granted)) [] history
    pub orders : AllAre (λ (turn : Turn H A). AllAre (IsOrderOf setting (before ++ granted) (tooks history)) (orders_in turn.calls)) turns
    pub in_time : EachIs (HeardInTime setting (before ++ granted)) [] history
    pub fits : AreHonest host old → AllFit host setting before old → AllFit host setting events new
    pub fits_next : AreHonest host old → AllFit host setting before old → (e : Event) → answer_to setting (world_in setting events) e ≡ Accepted → AllFit host setting (events ++ e ∷ []) new
    pub others : (hosts : List ExecutorHost) → fitting.AllFit setting before hosts → fitting.AllFit setting events hosts
    pub others_next : (hosts : List ExecutorHost) → fitting.AllFit setting before hosts → (e : Event) → answer_to setting (world_in setting events) e ≡ Accepted → fitting.AllFit setting (events ++ e ∷ []) hosts

  -- Why an event came next: it is a grant of the build, or a member asked for it; and it was due, or was reported with its cause, or is the decision of a line.
  abbrev pub ComesBy : Setting → List (Turn H A) → List Event → Event → Type 0
  ComesBy setting turns events event = ((is_grant event ≡ true) ⊎ IsRefused turns event) × ((heard : List (List ℕ)) × Comes setting (IsRefused turns) events event heard)

  -- A life with this history and the executors of this setting, whatever its members were replied, so that no build is in it: its members, which are made of these
  -- hosts and answers, their turns, which made all of the history, and what they became; and hosts and answers as they came back.
  pub record Lived (setting : Setting) (hosts rest : List H) (answers unread : A) (history : List Entry) : Type 0 where
    pub new : List (Member H A)
    pub turns : List (Turn H A)
    pub life : LifeOf host source looks any_reply tt (members_of setting.site.executors hosts answers) new turns history
    pub served : AreServed host source (members_of setting.site.executors hosts answers) new
    pub hosts_are : rest ≡ hosts_in new ++ others_of setting.site.executors hosts
    pub answers_are : answers_in new ≡ unread ∷ []

  -- the events of such a life
  abbrev pub LivedBy : (setting : Setting) → List Event → {hosts rest : List H} → {answers unread : A} → {history : List Entry} → Lived setting hosts rest answers unread history → List Event → Type 0
  LivedBy setting before {hosts} {rest} {answers} {unread} {history} lived events = TakesBy setting before (members_of setting.site.executors hosts answers) lived.new lived.turns history events

module _ {D H A : Type 0} (disk : DiskView D) (host : HostView H) (source : SourceView A) (looks : ℕ) where
  -- How a life over a build ended.
  pub record Finished (kind : EndText) (setting : Setting) (entry : Option (List ℕ)) (origin : D) (before : List Event) (hosts rest : List H) (answers unread : A) (history : List Entry) (state : D) (disk_before disk_after : ℕ)
      (written now : Option (List ℕ)) (sink_before sink_after status : ℕ) : Type 0 where
    pub lived : Lived host source looks setting hosts rest answers unread history
    pub finishes : Finishes disk
        (LivedBy host source looks setting before lived)
        (ComesBy host source looks setting lived.turns)
        (λ events. RestsWith Waits setting (world_in setting events) lived.new) (λ events. RestsWith AnswersFailed setting (world_in setting events) lived.new)
        (∥ HeardOf source answers unread (lines history) ∥₁)
        setting entry origin before state kind disk_before disk_after (source.faults answers) (source.faults unread) written now sink_before sink_after status
