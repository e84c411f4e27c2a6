-- What a disk tells of each of its states: the ghost members of the trait `Disk`, as one value. In a contract it is `D.Disk`.
use Rattle.std.specs.Prelude.{ℕ, ◌≤◌, List, length, IfSome, ◌≡◌}
use Rattle.jp_disk.specs.declared.disk.Disk.{Ghosts}

abbrev pub DiskView : Type 0 → Type 1
DiskView D = Ghosts D

-- The laws of the trait `Disk`, as one value: a lemma takes it from its caller.
pub record DiskLaws {D : Type 0} (disk : DiskView D) : Type 0 where
  pub told_end : (state : D) → IfSome (disk.reads state) (λ file. disk.end state ≡ length file)
  pub told_image : (state : D) → IfSome (disk.reads state) (λ file. disk.may_leave state file)
  pub counts_now : (state : D) (t : ℕ) (image : List ℕ) → t ≤ disk.clock state → disk.may_leave state image → disk.may_have_left_since state t image
  pub only_now : (state : D) (image : List ℕ) → disk.may_have_left_since state (disk.clock state) image → disk.may_leave state image
