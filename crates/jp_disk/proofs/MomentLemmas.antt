-- Runs of calls of a disk, one after the other.
use Rattle.std.proofs.Common.{◌≡◌, inl, inr, ⊎_elim, ◌≤◌, ℕ, List, Option, Some, subst, arith}
use Rattle.std.specs.Prelude.{IfSome}
use Rattle.device_faults.specs.Faults.{Rose}
use Rattle.jp_disk.specs.Moments.{TimePasses}
use Rattle.jp_disk.specs.Runs.{AtEachMoment}
use Rattle.jp_disk.specs.View.{DiskView}

-- a clause that holds where the bytes are told
pub if_told : {o : Option (List ℕ)} {file : List ℕ} (P : List ℕ → Type 0) → o ≡ Some file → IfSome o P → P file
if_told P told holds = subst (λ (o : Option (List ℕ)). IfSome o P) told holds

pub rose_later : (before mid now : ℕ) → before ≤ mid → Rose mid now → Rose before now
rose_later before mid now le (inl lt) = inl (omega arith)
rose_later before mid now le (inr end) = inr end

pub rose_kept : (before mid now : ℕ) → mid ≤ now → Rose before mid → Rose before now
rose_kept before mid now le (inl lt) = inl (omega arith)
rose_kept before mid now le (inr end) = inr (omega arith)

module _ {D : Type 0} (disk : DiskView D) where
  -- before the first call
  pub starts : (old : D) (P : List ℕ → Type 0) → ((image : List ℕ) → disk.may_have_left_since old (disk.clock old) image → P image) → AtEachMoment disk old old P
  starts old P here = record { later = omega arith; each = here; before = λ t image le left. inl left }

  -- one call more, after which a crash leaves what has P
  pub goes_on : (old mid new : D) (P may_leave : List ℕ → Type 0) → AtEachMoment disk old mid P → TimePasses (disk.clock mid) (disk.clock new) (disk.may_have_left_since mid) (disk.may_have_left_since new) may_leave
      → ((image : List ℕ) → may_leave image → P image) → AtEachMoment disk old new P
  goes_on old mid new P may_leave so_far time here = record {
    later = omega (arith, so_far.later, time.later);
    each = λ image left. ⊎_elim (so_far.each image) (here image) (time.nothing_else (disk.clock old) image so_far.later left);
    before = λ t image le left. ⊎_elim (so_far.before t image le) (λ now. inr (here image now)) (time.nothing_else t image (omega (arith, le, so_far.later)) left);
  }

  -- one run after another
  pub runs_on : (old mid new : D) (P : List ℕ → Type 0) → AtEachMoment disk old mid P → AtEachMoment disk mid new P → AtEachMoment disk old new P
  runs_on old mid new P first second = record {
    later = omega (arith, first.later, second.later);
    each = λ image left. ⊎_elim (λ was. first.each image was) (λ now. now) (second.before (disk.clock old) image first.later left);
    before = λ t image le left. ⊎_elim (λ was. first.before t image le was) (λ now. inr now) (second.before t image (omega (arith, le, first.later)) left);
  }

  pub at_each_weaker : (old new : D) (P Q : List ℕ → Type 0) → ((image : List ℕ) → P image → Q image) → AtEachMoment disk old new P → AtEachMoment disk old new Q
  at_each_weaker old new P Q more run = record {
    later = run.later;
    each = λ image left. more image (run.each image left);
    before = λ t image le left. ⊎_elim (λ was. inl was) (λ now. inr (more image now)) (run.before t image le left);
  }
