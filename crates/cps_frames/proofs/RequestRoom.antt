-- One request more may be made: there is a number for it.
use Rattle.std.proofs.Common.{◌≡◌, ◌∙◌, ◌+◌, ◌≤◌, ◌<◌, ◌^◌, Option, ap, subst, sym, arith}
use Rattle.std.specs.Prelude.{length}
use Rattle.model_values.specs.declared.limit.LimitKind.{LimitKind}
use Rattle.model_run.specs.State.{Setting, World}
use Rattle.run_laws.specs.Soundness.{SoundWorld}
use Rattle.cps_frames.specs.Changes.{Passed}
use Rattle.cps_frames.specs.Standing.{Standing}

-- in a sound world
pub request_room : (g : Setting) (w : World) → SoundWorld g w → w.shared.next_request + 1 < 2 ^ 32
request_room g w sound =
    let few : w.shared.next_request ≤ 100000000 + length w.shared.nodes = (sound.bounds).few_requests in
    let nodes : length w.shared.nodes ≤ 100000000 = (sound.bounds).few_nodes in
    omega (arith, few, nodes)

-- and behind a change that makes none
pub room_behind : (limit : World → Option LimitKind) (g : World → World) (u v : Standing) → Passed limit g u v → (g u.world).shared.next_request ≡ u.world.shared.next_request → u.world.shared.next_request + 1 < 2 ^ 32 → v.world.shared.next_request + 1 < 2 ^ 32
room_behind limit g u v p stays room = subst (λ n. n + 1 < 2 ^ 32) (sym (ap (λ (w : World). w.shared.next_request) p.made ∙ stays)) room
