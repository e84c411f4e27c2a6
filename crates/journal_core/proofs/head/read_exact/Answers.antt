use Rattle.std.proofs.Common.{◌≡◌, ◌≤◌, ◌-◌, ◌+◌, ℕ, List, [], ◌++◌, length, take, drop, ◌∙◌, refl, ap, subst, arith, length-take, length-drop, length-append}
use Rattle.std.proofs.lemmas.List.{take_all, drop_all, append-nil}
use borrow.Rule.Slice.PartMut.{put_mid}
use Rattle.jp_disk.specs.Reading.{HasRead}
use Rattle.jp_disk.proofs.MomentLemmas.{if_told}
use Rattle.journal_core.proofs.MomentLemmas.{only_reads_on}
use Rattle.journal_core.proofs.FindingLemmas.{filled_more}
use Rattle.journal_core.proofs.head.read_exact.Goals as goal

pub loop-done-preserved : goal.loop-done-preserved
loop-done-preserved g c =
    let buf = c.loop-done.buf in
    let done = c.loop-done.done in
    let n = c.in_ok-n.n in
    let part = c.read_at.new.buf in
    let inv = c.loop-done.invariant in
    let count = c.in_ok-n.ensures.count in
    let mid : take (length buf - done) (drop done buf) ≡ drop done buf = take_all (length buf - done) (drop done buf) (omega (arith, length-drop done buf)) in
    let size : length part ≡ length buf - done = c.read_at.auto.buf ∙ ap length mid ∙ length-drop done buf in
    let none : drop (length buf - done) (drop done buf) ≡ [] = drop_all (length buf - done) (drop done buf) (omega (arith, length-drop done buf)) in
    let is : put_mid done (length buf - done) buf part ≡ take done buf ++ part = ap (λ (l : List ℕ). take done buf ++ (part ++ l)) none ∙ ap (λ (l : List ℕ). take done buf ++ l) (append-nil part) in
    let whole : length (put_mid done (length buf - done) buf part) ≡ length buf =
    ap length is ∙ (let h = length-append (take done buf) part in let t = length-take done buf in omega (arith, h, t, size, inv.within)) in
    let room : n ≤ length buf - done = omega (arith, count.fits, ap length mid, length-drop done buf) in
    record {
      within = omega (arith, whole, room, inv.within);
      size = whole ∙ inv.size;
      quiet =
          only_reads_on g.D.Disk c.args.disk.now c.loop-done.disk c.read_at.new.self inv.quiet c.read_at.ensures.end c.read_at.ensures.still c.read_at.ensures.time;
      faults = c.in_ok-n.ensures.cause.calm refl ∙ inv.faults;
      filled = λ file told.
          let read = if_told (λ file. HasRead file (c.args.at + done) n (take (length buf - done) (drop done buf)) part) (inv.quiet.told ∙ told) c.in_ok-n.ensures.bytes in
          filled_more file buf part _ c.args.at done n inv.within (inv.filled file told) (subst (λ (l : List ℕ). HasRead file (c.args.at + done) n l part) mid read) size room is;
    }
