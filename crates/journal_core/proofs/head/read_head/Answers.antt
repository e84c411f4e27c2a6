use Rattle.std.proofs.Common.{◌≡◌, ◌<◌, ◌≤◌, ◌-◌, ◌+◌, ℕ, List, length, drop, sym, ◌∙◌, ap, arith, length-drop}
use Rattle.byteorder.specs.Endian.{big_number}
use Rattle.byteorder.specs.Numbers.{big_from-take}
use Rattle.jp_disk.proofs.MomentLemmas.{if_told}
use Rattle.journal_core.proofs.FindingLemmas.{head_bytes}
use Rattle.journal_core.proofs.head.read_head.Goals as goal

pub returns-then-head-ne1-clause-found : goal.returns-then-head-ne1-clause-found
returns-then-head-ne1-clause-found g c file told =
    let end : c.args.end ≡ length file = c.requires.end ∙ if_told (λ (f : List ℕ). g.D.Disk.end c.args.disk.now ≡ length f) told (g.met.D.Disk.told_end c.args.disk.now) in
    let head = head_bytes file c.read_exact.new.buf c.args.at c.args.end c.min-size.result end c.requires.within c.min-size.ensures (c.in_ok-read_exact.ensures.bytes file told) in
    λ is_open. c.if-head-ne1.true (head.gate ∙ is_open)

pub returns-then-end-at-lt6-clause-found : goal.returns-then-end-at-lt6-clause-found
returns-then-end-at-lt6-clause-found g c file told =
    let end : c.args.end ≡ length file = c.requires.end ∙ if_told (λ (f : List ℕ). g.D.Disk.end c.args.disk.now ≡ length f) told (g.met.D.Disk.told_end c.args.disk.now) in
    let head = head_bytes file c.read_exact.new.buf c.args.at c.args.end c.min-size.result end c.requires.within c.min-size.ensures (c.in_ok-read_exact.ensures.bytes file told) in
    let few = length-drop (c.args.at + 1) file in
    let left : length file - c.args.at < 6 = omega (arith, end, c.if-end-at-lt6.true) in
    (sym head.gate ∙ c.if-head-ne1.false, omega (arith, few, left))

pub returns-then-end-at-clause-found : goal.returns-then-end-at-clause-found
returns-then-end-at-clause-found g c file told =
    let end : c.args.end ≡ length file = c.requires.end ∙ if_told (λ (f : List ℕ). g.D.Disk.end c.args.disk.now ≡ length f) told (g.met.D.Disk.told_end c.args.disk.now) in
    let head = head_bytes file c.read_exact.new.buf c.args.at c.args.end c.min-size.result end c.requires.within c.min-size.ensures (c.in_ok-read_exact.ensures.bytes file told) in
    let few = length-drop (c.args.at + 1) file in
    let long : 6 ≤ length file - c.args.at = omega (arith, end, c.if-end-at-lt6.false) in
    let number : c.length_of-len.result ≡ big_number 4 (drop (c.args.at + 1) file) =
    c.length_of-len.ensures.number ∙ ap (λ (l : List ℕ). big_number 4 l) (head.size long) ∙ big_from-take 0 4 4 (drop (c.args.at + 1) file) (omega arith) in
    (sym head.gate ∙ c.if-head-ne1.false, omega (arith, few, end, number, c.if-end-at.true))

pub returns-clause-found : goal.returns-clause-found
returns-clause-found g c file told =
    let end : c.args.end ≡ length file = c.requires.end ∙ if_told (λ (f : List ℕ). g.D.Disk.end c.args.disk.now ≡ length f) told (g.met.D.Disk.told_end c.args.disk.now) in
    let head = head_bytes file c.read_exact.new.buf c.args.at c.args.end c.min-size.result end c.requires.within c.min-size.ensures (c.in_ok-read_exact.ensures.bytes file told) in
    let long : 6 ≤ length file - c.args.at = omega (arith, end, c.if-end-at-lt6.false) in
    let room : c.args.at + 5 + c.length_of-len.result < length file = omega (arith, end, c.if-end-at.false) in
    (sym head.gate ∙ c.if-head-ne1.false, c.length_of-len.ensures.spelling ∙ head.size long, room, c.length_of-len.ensures.short)
