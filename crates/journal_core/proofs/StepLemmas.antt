-- The two steps of an append: what stands behind the gate, and then the gate.
use Rattle.std.proofs.Common.{◌≡◌, ◌<◌, inl, ℕ, ◌+◌, ◌-◌, ◌^◌, Bool, List, [], ◌∷◌, ◌++◌, length, get_or, drop, Option, Some, sym, ◌∙◌, ap, subst, arith, length-append}
use Rattle.byteorder.specs.Endian.{big_bytes}
use Rattle.byteorder.specs.Numbers.{length-bytes_high_first}
use Rattle.jp_disk.specs.Images.{IsTornWrite, IsOnlyImage, after_write}
use Rattle.jp_disk.specs.Runs.{AtEachMoment}
use Rattle.journal_core.specs.Records.{records, framed, body, Has, HasWithOrWithout}
use Rattle.journal_core.specs.State.{State, Stores}
use Rattle.journal_core.proofs.RecordLemmas.{has_framed, length-frame, framed-push, Fit-push, body_behind, either_gate}
use Rattle.journal_core.proofs.TornLemmas.{torn_behind, torn_gate, written_behind, written_gate}
use Rattle.jp_disk.proofs.MomentLemmas.{starts}
use Rattle.jp_disk.specs.View.{DiskView}

pub length-body : (p : List ℕ) → length (body p) ≡ 5 + length p
length-body p = omega (arith, length-append (big_bytes 4 (length p) ++ p) (0 ∷ []), length-append (big_bytes 4 (length p)) p, length-bytes_high_first 4 (length p))

-- the file with a record whole behind its closed gate
abbrev pub staged_file : List (List ℕ) → ℕ → List ℕ → List ℕ → List ℕ
staged_file ps gate p tail = framed ps ++ gate ∷ (body p ++ tail)

module _ {D : Type 0} (disk : DiskView D) where
  pub stores_has : (d : D) (len : ℕ) (ps : List (List ℕ)) (image : List ℕ) → Stores disk d len ps → disk.may_leave d image → Has ps image
  stores_has d len ps image s left = ap records (s.durable image left) ∙ has_framed ps s.gate s.rest s.closed s.fit

  -- before the first call
  pub begun : ((d : D) (image : List ℕ) → disk.may_have_left_since d (disk.clock d) image → disk.may_leave d image) → (d : D) (len : ℕ) (ps : List (List ℕ)) (p : List ℕ) → Stores disk d len ps
      → AtEachMoment disk d d (HasWithOrWithout ps p)
  begun only_now d len ps p s = starts disk d (HasWithOrWithout ps p) (λ image left. inl (stores_has d len ps image s (only_now d image left)))

  module _ (d : D) (at : ℕ) (ps : List (List ℕ)) (p block : List ℕ) (is : block ≡ body p) (s : Stores disk d (at + 1) ps) where
    abbrev pub file : List ℕ
    file = framed ps ++ s.gate ∷ s.rest

    abbrev pub tail : List ℕ
    tail = drop (length block) s.rest

    place : at ≡ length (framed ps)
    place = omega (arith, s.ends)

    -- a torn write behind the gate leaves the records that were there
    pub behind_has : (n : ℕ) (image : List ℕ) → IsTornWrite (at + 1) n file image → HasWithOrWithout ps p image
    behind_has n image torn = inl (ap records (torn_behind (framed ps) s.gate s.rest image at n place torn) ∙ has_framed ps s.gate (drop (at + 1) image) s.closed s.fit)

    pub after_write-behind : after_write file (at + 1) block ≡ staged_file ps s.gate p tail
    after_write-behind = written_behind (framed ps) s.gate s.rest block at place ∙ ap (λ (b : List ℕ). framed ps ++ s.gate ∷ (b ++ tail)) is

    -- a torn gate leaves the new record or not
    pub gate_has : (image : List ℕ) → length p < 2 ^ 32 → IsTornWrite at 1 (staged_file ps s.gate p tail) image → HasWithOrWithout ps p image
    gate_has image short torn = subst (HasWithOrWithout ps p) (sym (torn_gate (framed ps) s.gate (body p ++ tail) image at place torn)) (either_gate ps p tail (get_or image at 0) s.fit short)

    pub after_write-gate : after_write (staged_file ps s.gate p tail) at (1 ∷ []) ≡ framed (ps ++ p ∷ []) ++ 0 ∷ tail
    after_write-gate = written_gate (framed ps) s.gate (body p ++ tail) at 1 place ∙ body_behind ps p tail

    -- the journal has the new record
    pub ended : (e : D) → length p < 2 ^ 32 → disk.reads e ≡ Some (after_write (staged_file ps s.gate p tail) at (1 ∷ [])) → IsOnlyImage (after_write (staged_file ps s.gate p tail) at (1 ∷ [])) (disk.may_leave e) → Stores disk e (at + 1 + length block) (ps ++ p ∷ [])
    ended e short told durable =
        let size : length (framed (ps ++ p ∷ [])) + 0 ≡ length (framed ps) + (5 + length p) =
        omega (arith, ap length (framed-push ps p []), length-append (framed (ps ++ p ∷ [])) [], length-append (framed ps) ((1 ∷ big_bytes 4 (length p)) ++ p ++ []), length-frame p []) in
        record {
          gate = 0;
          rest = tail;
          closed = omega arith;
          told = told ∙ ap (λ (l : List ℕ). Some l) after_write-gate;
          ends = omega (arith, size, place, ap length is, length-body p);
          fit = Fit-push ps p s.fit short;
          durable = subst (λ (l : List ℕ). IsOnlyImage l (disk.may_leave e)) after_write-gate durable;
        }

  -- what a journal holds, over its fields; its last gate stands before its end
  pub held_inside : (d : D) (len : ℕ) (stopped : Bool) (journal : State D) (ps : List (List ℕ)) → record { disk = d; len = len; stopped = stopped } ≡ journal → 0 < len → Stores disk journal.disk journal.len ps → Stores disk d (len - 1 + 1) ps
  held_inside d len stopped journal ps is some held =
      let same : len ≡ len - 1 + 1 = omega (arith, some) in
      subst (λ (n : ℕ). Stores disk d n ps) same (subst (λ (s : State D). Stores disk s.disk s.len ps) (sym is) held)
