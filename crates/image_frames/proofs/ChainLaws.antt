-- Frames one inside the other, as tests.
use Rattle.std.proofs.Common.{◌≡◌, ◌∙◌, ◌<◌, Bool, true, false, List, [], ◌∷◌, length, map, Option, Some, refl, ap, sym}
use Rattle.std.specs.Prelude.{◌&&◌}
use Rattle.std.specs.List.{AllByRecursion as AllAre}
use Rattle.model_run.specs.declared.frame.Frame.{Frame}
use Rattle.model_run.specs.State.{Common}
use Rattle.model_run.specs.Nesting.{CallsClosures, Chained, Enters, IsClosureAt, Spot, innermost, spot_in}
use Rattle.model_run.specs.Terms.{Term, nodes_of}
use Rattle.cps_code.specs.Script.{ArePartsBehind}
use Rattle.frame_rows.specs.Leading.{Decides}
use Rattle.image_form.specs.declared.image.ImageFrame.{ImageFrame}
use Rattle.image_frames.specs.Frames.{may_stand_at}
use Rattle.image_frames.specs.Leading.{enters_at, is_called_at, stands_at}
use Rattle.image_frames.specs.Standings.{FrameStands, frame_in}
use Rattle.image_frames.proofs.FrameLaws.{both_true, left_true, right_true, stands_told}
use Rattle.image_frames.proofs.LeadTests.{called_decided, enters_decided}

-- the next frame, or the wait, fits inside each
abbrev pub Linked : Term → (Spot → Bool) → Spot → List ImageFrame → Type 0
Linked root test at [] = test at ≡ true
Linked root test at (f ∷ fs) = (may_stand_at root f at ≡ true) × Linked root test (spot_in root (frame_in root f)) fs

yes : (P : Type 0) (b : Bool) → Decides b P → b ≡ true → P
yes P true p e = p
yes P false p e = absurd (cc e)

yes_so : (P : Type 0) (b : Bool) → Decides b P → P → b ≡ true
yes_so P true p h = refl
yes_so P false p h = absurd (p h)

-- what they say of the frames that they tell of
pub record Chains (root : Term) (test : Spot → Bool) (at : Spot) (fs : List Frame) : Type 0 where
  pub nested : Chained root at fs
  pub closures : CallsClosures root at fs
  pub waits : test (innermost root at fs) ≡ true

pub linked_chains : (root : Term) → ArePartsBehind root → (u : Common) (test : Spot → Bool) (at : Spot) (fs : List ImageFrame) → AllAre (FrameStands root u) fs → Linked root test at fs → Chains root test at (map (frame_in root) fs)
linked_chains root behind u test at [] s l = record { nested = tt; closures = tt; waits = l }
linked_chains root behind u test at (f ∷ fs) s l =
    let stands : stands_at root (frame_in root f) at ≡ true = sym (stands_told root u f s.0 at) ∙ l.0 in
    let enters = enters_at root (frame_in root f) at in
    let called = is_called_at root (frame_in root f) at in
    let rest = linked_chains root behind u test (spot_in root (frame_in root f)) fs s.1 l.1 in
    record {
      nested = (yes (Enters root (frame_in root f) at) enters (enters_decided root behind (frame_in root f) s.0.fits.node at) (left_true enters called stands), rest.nested);
      closures = (yes (IsClosureAt root at (frame_in root f)) called (called_decided root behind (frame_in root f) at) (right_true enters called stands), rest.closures);
      waits = rest.waits;
    }

pub chains_linked : (root : Term) → ArePartsBehind root → (u : Common) (test : Spot → Bool) (at : Spot) (fs : List ImageFrame) → AllAre (FrameStands root u) fs → Chains root test at (map (frame_in root) fs) → Linked root test at fs
chains_linked root behind u test at [] s c = c.waits
chains_linked root behind u test at (f ∷ fs) s c =
    let enters = enters_at root (frame_in root f) at in
    let called = is_called_at root (frame_in root f) at in
    let stands = both_true enters called (yes_so (Enters root (frame_in root f) at) enters (enters_decided root behind (frame_in root f) s.0.fits.node at) c.nested.0) (yes_so (IsClosureAt root at (frame_in root f)) called (called_decided root behind (frame_in root f) at) c.closures.0) in
    (stands_told root u f s.0 at ∙ stands, chains_linked root behind u test (spot_in root (frame_in root f)) fs s.1 (record { nested = c.nested.1; closures = c.closures.1; waits = c.waits }))
