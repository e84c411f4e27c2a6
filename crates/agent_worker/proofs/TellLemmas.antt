-- What is told after a call was told before it.
use Rattle.std.proofs.Common.{List, refl, ap, ◌∙◌, Option, Some, None}
use Rattle.task_host.specs.Host.{Records}
use Rattle.agent_worker.specs.Types.{Call}
use Rattle.agent_worker.specs.Gate.{GateTells, Becomes, Adds, Stays}
use Rattle.agent_worker.specs.Serve.{KeepsGate}

pub becomes : {A : Type 0} (f g : List A → List A) (a b c : Option (List A)) → Becomes f a b → Becomes g b c → Becomes (λ list. g (f list)) a c
becomes f g a b None first second = tt
becomes f g a None (Some c) first second = absurd second
becomes f g None (Some b) (Some c) first second = absurd first
becomes f g (Some a) (Some b) (Some c) first second = second ∙ ap g first

-- a host's call
pub records : (old now : Option (List Call)) (call : Call) → Records old now call → Adds call old now
records old None call is = tt
records old (Some now) call is = is

pub stays : {A : Type 0} (a : Option (List A)) → Stays a a
stays None = tt
stays (Some list) = refl

pub stays-on : {A : Type 0} (a b c : Option (List A)) → Stays a b → Stays b c → Stays a c
stays-on a b c first second = becomes (λ list. list) (λ list. list) a b c first second

pub keeps-gate : (now : GateTells) → KeepsGate now now
keeps-gate now = record { claimed_stay = stays now.claimed; lines_stay = stays now.lines; open_stays = refl }

pub keeps-gate-on : (old mid now : GateTells) → KeepsGate old mid → KeepsGate mid now → KeepsGate old now
keeps-gate-on old mid now first second = record {
  claimed_stay = stays-on old.claimed mid.claimed now.claimed first.claimed_stay second.claimed_stay;
  lines_stay = stays-on old.lines mid.lines now.lines first.lines_stay second.lines_stay;
  open_stays = second.open_stays ∙ first.open_stays;
}
