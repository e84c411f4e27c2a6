-- Lives of a build one after the other (this product's own): each begins over an image that a crash may leave behind the one before it, with
-- the same hosts. Where the disk told its bytes.
use Rattle.std.specs.Prelude.{◌≡◌, ℕ, ℤ, List, Option, IsSome, Result}
use Rattle.task_host.specs.declared.call.Call.{Call}
use Rattle.task_host.specs.declared.order.Stream.{Stream}
use Rattle.journal_core.specs.declared.faults.TakeFault.{TakeFault}
use Rattle.agent_worker.specs.declared.member.Member.{Member}
use Rattle.build_store.specs.Lower.durable_build.Standing.{Kept}
use Rattle.model_run.specs.declared.event.Event.{Event}
use Rattle.model_run.specs.State.{Setting}
use Rattle.build_life.specs.declared.resting.Rest.{Rest}
use Rattle.settle_laws.specs.Stances.{Stance}
use Rattle.build_store.specs.Lives.{Lasts}
use Rattle.build_store.specs.Saved.{Stores}
use Rattle.member_turns.specs.Lower.locked_build.declared.ask.Entry.{Entry}
use Rattle.member_turns.specs.Turns.{Turn}
use Rattle.build_life.specs.Lives.{Ends, OpeningBreaks}
use Rattle.build_life.specs.Serving.{AreHonest, AreServed, hosts_of}
use Rattle.jp_disk.specs.View.{DiskView}
use Rattle.task_host.specs.View.{HostView}
use Rattle.jp_io.specs.View.{SourceView}

module _ {D T H A : Type 0} (disk : DiskView D) (stance : T → Stance)
    (host : HostView H) (source : SourceView A) (looks : ℕ) where
  -- A life of these members over a build of these events, with the disk and the members behind it: it was led to its end, or its opening was
  -- refused and no member had a turn.
  pub data OneLife (setting : Setting) (events : List Event) (old : List (Member H A)) : D → List (Member H A) → Type 0 where
    led : {entry : Option (List ℕ)} {origin : D} {before : List Event} {durable kept : Kept D T} {turns : List (Turn H A)} {new : List (Member H A)} {history : List Entry} {ended : Result Rest TakeFault}
        → IsSome entry → Lasts disk stance setting entry origin before events durable
        → Ends disk stance host source looks turns durable setting entry origin before events old new history kept ended
        → AreServed host source old new → OneLife setting events old kept.journal.disk new
    refused : {entry : Option (List ℕ)} {origin : D} {before : List Event} {durable : Kept D T} {state : D} (fault : TakeFault)
        → IsSome entry → Lasts disk stance setting entry origin before events durable
        → OpeningBreaks disk stance setting entry origin before events fault state → OneLife setting events old state old

  -- What the next life begins with: an image that a crash may leave, with these events; and members with the same hosts.
  pub record HandsOn (state : D) (members : List (Member H A)) (setting : Setting) (events : List Event) (next : List (Member H A)) : Type 0 where
    pub image : List ℕ
    pub leaves : disk.may_leave state image
    pub stores : Stores setting events image
    pub hosts : hosts_of host next ≡ hosts_of host members
    pub honest_stay : AreHonest host members → AreHonest host next

  -- one life or more
  pub data Lives (setting : Setting) (events : List Event) (old : List (Member H A)) : D → List (Member H A) → Type 0 where
    one : {state : D} {new : List (Member H A)} → OneLife setting events old state new → Lives setting events old state new
    more : {mid state : D} {members next new : List (Member H A)} {later : Setting} {then : List Event} → Lives setting events old mid members → HandsOn mid members later then next
        → OneLife later then next state new → Lives setting events old state new
