-- What a thread leaves to the others where it makes its moves: a later state, in which it has opened the request that it waits for, and no other.
use Rattle.std.specs.Prelude.{◌≡◌, ◌<◌, ℕ, List, [], ◌∷◌, ◌++◌}
use Rattle.model_run.specs.declared.ending.Asked.{Asked}
use Rattle.model_run.specs.declared.ending.Asked.TheVariants.{ForBranches, ForRequest}
use Rattle.model_run.specs.declared.ending.Entry.TheVariants.{Inside}
use Rattle.model_run.specs.declared.request.OpenRequest.{OpenRequest}
use Rattle.model_run.specs.Around.{arity}
use Rattle.model_run.specs.Fitting.{Asks}
use Rattle.model_run.specs.Nesting.{Spot, shape_at}
use Rattle.model_run.specs.Terms.{Term}
use Rattle.model_run.specs.State.{Common}
use Rattle.cps_frames.specs.Standing.{Standing}
use Rattle.cps_frames.specs.declared.thread.Move.{Move}
use Rattle.cps_frames.specs.declared.thread.Move.TheVariants as move

-- The thread n has opened one request more than these: the latest one, which is this, and of the kind that a wait at this spot is for.
pub record IsAsked (at : Spot) (before : List OpenRequest) (u : Common) (n r : ℕ) : Type 0 where
  pub latest : OpenRequest
  pub requests : u.requests ≡ before ++ latest ∷ []
  pub number : latest.number ≡ r
  pub thread : latest.thread ≡ n
  pub kind : Asks at latest.request

-- a thread waits for the one request that it has opened, or for one branch or more, and has opened none then
abbrev pub AskedSo : Spot → List OpenRequest → Standing → Asked → Type 0
AskedSo at before v (ForRequest r) = IsAsked at before v.world.shared v.world.own.number r
AskedSo at before v (ForBranches []) = ⊥
AskedSo at before v (ForBranches (b ∷ bs)) = v.world.shared.requests ≡ before

-- where it does not wait it has opened none
abbrev pub WaitsSo : Spot → List OpenRequest → Standing → Move → Type 0
WaitsSo at before v (move.Asks asked) = AskedSo at before v asked
WaitsSo at before v m = v.world.shared.requests ≡ before

-- where a part of a part is entered, it is there
abbrev pub HasPart : Term → Move → Type 0
HasPart root (move.Enter (Inside j) p env) = j < arity (shape_at root p)
HasPart root m = Unit {0}
