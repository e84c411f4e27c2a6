-- The laws of a disk, for one in memory: what a read gives is an image, and this moment is one of those since an
-- earlier one. They stand here, since a law of an `impl` may cite no file of proofs/.
use Rattle.std.specs.Prelude.{ℕ, zero, suc, true, false, List, [], ◌∷◌, length}
use Rattle.std.proofs.Common.{inr}
use Rattle.jp_disk.specs.Images.{after_write}
use Rattle.jp_disk.specs.ImageLaws.{same_image, image_push, whole_write}
use Rattle.jp_disk.specs.Medium.{Medium, MayLeave, after, after_all, LeftSince}
use Rattle.jp_disk.specs.declared.call.Call.{Call}
use Rattle.jp_disk.specs.declared.call.Call.TheVariants.{Len, Read, Write, Sync}

-- what a read gives stays an image
pub reads_image : (calls : List Call) (m : Medium) → MayLeave m m.reads → MayLeave (after_all calls m) (after_all calls m).reads
reads_image [] m is = is
reads_image (Len done ∷ calls) m is = reads_image calls m is
reads_image (Read at len done ∷ calls) m is = reads_image calls m is
reads_image (Write at bytes done ∷ calls) m is =
    reads_image calls (after (Write at bytes done) m) (image_push m.synced m.reads (after_write m.reads at bytes) m.pending at (length bytes) is (whole_write m.reads bytes at))
reads_image (Sync true ∷ calls) m is = reads_image calls (after (Sync true) m) (same_image m.reads [])
reads_image (Sync false ∷ calls) m is = reads_image calls m is

pub left_now : (calls : List Call) (t : ℕ) (m : Medium) (image : List ℕ) → MayLeave (after_all calls m) image → LeftSince calls t m image
left_now [] t m image now = now
left_now (call ∷ calls) zero m image now = inr (left_now calls zero (after call m) image now)
left_now (call ∷ calls) (suc t) m image now = left_now calls t (after call m) image now

pub left_last : (calls : List Call) (m : Medium) (image : List ℕ) → LeftSince calls (length calls) m image → MayLeave (after_all calls m) image
left_last [] m image left = left
left_last (call ∷ calls) m image left = left_last calls (after call m) image left
