use Rattle.std.proofs.Common.{◌≡◌, ◌⊎◌, ◌<◌, ℕ, List, [], length, Some, sym, ◌∙◌, ap, arith, inl, inr, true, false}
use Rattle.std.specs.Prelude.{slice_index}
use Rattle.journal_core.specs.Records.{records, Has}
use Rattle.jp_disk.proofs.MomentLemmas.{if_told, at_each_weaker, runs_on}
use Rattle.journal_core.proofs.MomentLemmas.{since_sync_on}
use Rattle.journal_core.proofs.RecordLemmas.{short_has}
use Rattle.journal_core.proofs.FindingLemmas.{splits_has, stores_at, first_closed, first_byte}
use Rattle.journal_core.proofs.prepare.prepare.Goals as goal

not_err : {A : Type 0} → A ⊎ (false ≡ true) → A
not_err (inl here) = here
not_err (inr failed) = absurd (cc failed)

not_so : {A : Type 0} (file : List ℕ) → (file ≡ []) ⊎ (slice_index file 0 ≡ 1) → (file ≡ [] → ⊥) → (slice_index file 0 ≡ 1 → ⊥) → A
not_so file (inl empty) some shut = absurd (some empty)
not_so file (inr is_open) some shut = absurd (shut is_open)

abbrev same_records : List ℕ → List ℕ → Type 0
same_records file image = records image ≡ records file

pub returns-then-gate-ne1-clause-left : goal.returns-then-gate-ne1-clause-left
returns-then-gate-ne1-clause-left g c file told =
    let e = c.settle.new.disk in
    let told_e : g.D.Disk.reads e ≡ Some file = c.settle.ensures.told ∙ told in
    let size : g.D.Disk.end e ≡ length file = if_told (λ (f : List ℕ). g.D.Disk.end e ≡ length f) told_e (g.met.D.Disk.told_end e) in
    let some : 0 < length file = omega (arith, c.if-end-eq0.false, c.in-Ok.ensures.length, size) in
    let gate = first_byte file c.read_exact.new.buf (c.in-Ok-read_exact.ensures.bytes file told_e) in
    let s = first_closed file some (λ is_open. c.if-gate-ne1.true (gate ∙ is_open)) in
    let only = c.in-Ok.ensures.durable file told in (
      λ started. c.if-gate-ne1.true (gate ∙ started.0),
      splits_has file 0 [] s,
      stores_at g.D.Disk c.read_exact.new.disk file 0 1 [] (omega arith) (c.read_exact.ensures.quiet.told ∙ told_e) (λ image left. only image (c.read_exact.ensures.quiet.images image left)) s,
    )

pub returns-then-gate-ne1-clause-any_moment : goal.returns-then-gate-ne1-clause-any_moment
returns-then-gate-ne1-clause-any_moment g c file told =
    let d = c.args.disk.now in
    let e = c.settle.new.disk in
    let f = c.read_exact.new.disk in
    let only = c.in-Ok.ensures.durable file told in
    let read = at_each_weaker g.D.Disk e f (g.D.Disk.may_leave e) (same_records file) (λ image left. ap records (only image left)) c.read_exact.ensures.quiet.moments in
    let synced = not_err (c.in-Ok.ensures.since_sync file told) in
    inl (since_sync_on g.D.Disk file d e f (same_records file) synced (λ image same. ap records same) read)

pub returns-then-end-ge6-clause-any_moment : goal.returns-then-end-ge6-clause-any_moment
returns-then-end-ge6-clause-any_moment g c file told =
    let d = c.args.disk.now in
    let e = c.settle.new.disk in
    let f = c.read_exact.new.disk in
    let only = c.in-Ok.ensures.durable file told in
    let read = at_each_weaker g.D.Disk e f (g.D.Disk.may_leave e) (same_records file) (λ image left. ap records (only image left)) c.read_exact.ensures.quiet.moments in
    let synced = not_err (c.in-Ok.ensures.since_sync file told) in
    inl (since_sync_on g.D.Disk file d e f (same_records file) synced (λ image same. ap records same) read)

pub returns-clause-any_moment : goal.returns-clause-any_moment
returns-clause-any_moment g c file told =
    let d = c.args.disk.now in
    let e = c.settle.new.disk in
    let f = c.read_exact.new.disk in
    let only = c.in-Ok.ensures.durable file told in
    let read = at_each_weaker g.D.Disk e f (g.D.Disk.may_leave e) (same_records file) (λ image left. ap records (only image left)) c.read_exact.ensures.quiet.moments in
    let synced = not_err (c.in-Ok.ensures.since_sync file told) in
    let h = c.close_first-2.new.disk in
    let told_e : g.D.Disk.reads e ≡ Some file = c.settle.ensures.told ∙ told in
    let size : g.D.Disk.end e ≡ length file = if_told (λ (x : List ℕ). g.D.Disk.end e ≡ length x) told_e (g.met.D.Disk.told_end e) in
    let short : length file < 6 = omega (arith, c.if-end-ge6.false, c.in-Ok.ensures.length, size) in
    let closed = at_each_weaker g.D.Disk f h (λ image. Has [] image) (same_records file) (λ image has. has ∙ sym (short_has file short)) (c.close_first-2.ensures.any_moment file (λ image left. only image (c.read_exact.ensures.quiet.images image left)) short) in
    inl (since_sync_on g.D.Disk file d e h (same_records file) synced (λ image same. ap records same) (runs_on g.D.Disk e f h (same_records file) read closed))

-- a file that begins with an open gate, or with none, is not left as it was
pub returns-then-gate-ne1-clause-closed : goal.returns-then-gate-ne1-clause-closed
returns-then-gate-ne1-clause-closed g c file told which =
    let e = c.settle.new.disk in
    let told_e : g.D.Disk.reads e ≡ Some file = c.settle.ensures.told ∙ told in
    let size : g.D.Disk.end e ≡ length file = if_told (λ (f : List ℕ). g.D.Disk.end e ≡ length f) told_e (g.met.D.Disk.told_end e) in
    let some : 0 < length file = omega (arith, c.if-end-eq0.false, c.in-Ok.ensures.length, size) in
    let gate = first_byte file c.read_exact.new.buf (c.in-Ok-read_exact.ensures.bytes file told_e) in
    not_so file which (λ empty. omega (arith, some, ap length empty)) (λ is_open. c.if-gate-ne1.true (gate ∙ is_open))

pub returns-then-end-eq0-clause-same : goal.returns-then-end-eq0-clause-same
returns-then-end-eq0-clause-same g c file told some shut =
    let e = c.settle.new.disk in
    let told_e : g.D.Disk.reads e ≡ Some file = c.settle.ensures.told ∙ told in
    let size : g.D.Disk.end e ≡ length file = if_told (λ (f : List ℕ). g.D.Disk.end e ≡ length f) told_e (g.met.D.Disk.told_end e) in
    absurd (omega (arith, c.if-end-eq0.true, c.in-Ok.ensures.length, size, some))

pub returns-then-end-eq0-clause-closed : goal.returns-then-end-eq0-clause-closed
returns-then-end-eq0-clause-closed g c file told which = c.close_first.ensures.written file (c.settle.ensures.told ∙ told)

pub returns-clause-same : goal.returns-clause-same
returns-clause-same g c file told some shut =
    let told_e : g.D.Disk.reads c.settle.new.disk ≡ Some file = c.settle.ensures.told ∙ told in
    let gate = first_byte file c.read_exact.new.buf (c.in-Ok-read_exact.ensures.bytes file told_e) in
    absurd (shut (sym gate ∙ c.if-gate-ne1.false))

pub returns-clause-closed : goal.returns-clause-closed
returns-clause-closed g c file told which = c.close_first-2.ensures.written file (c.read_exact.ensures.quiet.told ∙ (c.settle.ensures.told ∙ told))
