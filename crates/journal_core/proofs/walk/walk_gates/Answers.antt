use Rattle.std.proofs.Common.{◌≡◌, ◌<◌, ◌≤◌, ◌+◌, ℕ, List, [], ◌∷◌, ◌++◌, length, sym, ◌∙◌, refl, ap, subst, arith}
use Rattle.std.specs.List.{All}
use Rattle.std.proofs.lemmas.List.Elements.{All-push, All-weaker}
use Rattle.journal_core.specs.Answers.{entries_of, StandInTurn}
use Rattle.journal_core.specs.Records.{framed}
use Rattle.journal_core.specs.Finding.{IsHead, HeadEnds}
use Rattle.journal_core.specs.declared.head.Head.{Head}
use Rattle.journal_core.specs.declared.record.Record.{Record}
use Rattle.jp_disk.proofs.MomentLemmas.{if_told}
use Rattle.journal_core.proofs.MomentLemmas.{only_reads_then}
use Rattle.journal_core.proofs.FindingLemmas.{gate_closed, record_cut, payload_read, length-payload_read, record_read, entries-push, in_turn_push}
use Rattle.journal_core.proofs.walk.walk_gates.Goals as goal

pub returns-in-Cut-clause-found : goal.returns-in-Cut-clause-found
returns-in-Cut-clause-found g c file told =
    let inv = c.loop-head.invariant in
    let at = c.loop-head.at in
    let told_at = inv.quiet.told ∙ told in
    let so_far = inv.read file told in
    let size : c.args.end ≡ length file = c.requires.end ∙ if_told (λ (f : List ℕ). g.D.Disk.end c.args.disk.now ≡ length f) told (g.met.D.Disk.told_end c.args.disk.now) in
    let inside : at < length file = omega (arith, inv.within, size) in
    let head = subst (λ (h : Head). IsHead file at h) c.in-Cut.is (c.in-Ok.ensures.found file told_at) in
    (so_far.0, record_cut file at so_far.0 inside so_far.1 head.0 (omega (arith, c.requires.room, size)) head.1, so_far.1.stands)

pub returns-in-Closed-clause-found : goal.returns-in-Closed-clause-found
returns-in-Closed-clause-found g c file told =
    let inv = c.loop-head.invariant in
    let at = c.loop-head.at in
    let told_at = inv.quiet.told ∙ told in
    let so_far = inv.read file told in
    let size : c.args.end ≡ length file = c.requires.end ∙ if_told (λ (f : List ℕ). g.D.Disk.end c.args.disk.now ≡ length f) told (g.met.D.Disk.told_end c.args.disk.now) in
    let inside : at < length file = omega (arith, inv.within, size) in
    let head = subst (λ (h : Head). IsHead file at h) c.in-Closed.is (c.in-Ok.ensures.found file told_at) in
    (so_far.0, gate_closed file at so_far.0 inside so_far.1 head, so_far.2)

pub loop-head-preserved : goal.loop-head-preserved
loop-head-preserved g c =
    let inv = c.loop-head.invariant in
    let at = c.loop-head.at in
    let len = c.in-Open.len in
    let room : at + 5 + len < c.args.end = subst (λ (h : Head). HeadEnds at c.args.end h) c.in-Open.is c.in-Ok.ensures.within in
    record {
      within = omega (arith, room);
      quiet = only_reads_then g.D.Disk c.args.disk.now c.loop-head.disk c.read_head.new.disk inv.quiet c.read_head.ensures.quiet;
      each = subst (λ (l : List Record). All (λ (entry : Record). entry.at + 5 + entry.len ≤ at + (5 + len)) l) (sym c.in-Ok-push.ensures.items)
          (All-push (λ (entry : Record). entry.at + 5 + entry.len ≤ at + (5 + len)) c.loop-head.entries.items (record { at = at; len = len })
          (All-weaker (λ (entry : Record). entry.at + 5 + entry.len ≤ at) (λ (entry : Record). entry.at + 5 + entry.len ≤ at + (5 + len)) (λ entry le. omega (arith, le)) c.loop-head.entries.items inv.each)
          (omega arith));
      in_turn = subst (λ (l : List Record). StandInTurn 0 l (at + (5 + len) + 1)) (sym c.in-Ok-push.ensures.items)
          (in_turn_push 0 c.loop-head.entries.items (at + 1) (record { at = at; len = len }) (at + (5 + len) + 1) inv.in_turn refl (omega arith));
      faults = c.in-Ok.ensures.cause.calm refl ∙ inv.faults;
      read = λ file told.
          let told_at = inv.quiet.told ∙ told in
          let so_far = inv.read file told in
          let size : c.args.end ≡ length file = c.requires.end ∙ if_told (λ (f : List ℕ). g.D.Disk.end c.args.disk.now ≡ length f) told (g.met.D.Disk.told_end c.args.disk.now) in
          let inside : at < length file = omega (arith, inv.within, size) in
          let head = subst (λ (h : Head). IsHead file at h) c.in-Open.is (c.in-Ok.ensures.found file told_at) in
          let p = payload_read file at so_far.0 inside so_far.1 len in
          let pushed : c.push.new.self.items ≡ c.loop-head.entries.items ++ record { at = at; len = len } ∷ [] = c.in-Ok-push.ensures.items in
          let place : at ≡ 0 + length (framed so_far.0) = omega (arith, so_far.1.stands) in (
            so_far.0 ++ p ∷ [],
            record_read file at so_far.0 inside so_far.1 len head.0 head.1 head.2 head.3,
            pushed ∙ ap (λ (l : List Record). l ++ record { at = at; len = len } ∷ []) so_far.2
                ∙ (λ i. entries_of 0 so_far.0 ++ record { at = place i; len = sym (length-payload_read file at so_far.0 inside so_far.1 len head.2) i } ∷ [])
                ∙ sym (entries-push 0 so_far.0 p),
          );
    }
