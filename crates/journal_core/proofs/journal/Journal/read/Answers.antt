use Rattle.std.proofs.Common.{◌≡◌, ◌+◌, ℕ, List, ◌∷◌, ◌++◌, length, take, drop, Some, sym, ◌∙◌, ap, arith}
use Rattle.std.proofs.lemmas.List.{take_at}
use Rattle.journal_core.specs.Records.{framed}
use Rattle.journal_core.specs.State.{State}
use Rattle.journal_core.proofs.FindingLemmas.{payload_at}
use Rattle.journal_core.proofs.journal.Journal.read.Goals as goal

pub returns-clause-payload : goal.returns-clause-payload
returns-clause-payload g c ps k held is =
    let file = framed ps ++ held.gate ∷ held.rest in
    let e = c.args.entry in
    let told : g.D.Disk.reads c.self.inside.disk ≡ Some file = ap (λ (s : State g.row.D.Denot). g.D.Disk.reads s.disk) c.self.view_is ∙ held.told in
    let h = payload_at ps k 0 (held.gate ∷ held.rest) e is in
    let buf = c.read_exact.new.buf in
    let bytes = c.in-Ok-read_exact.ensures.bytes file told in
    let size : length c.deref_mut.result.now ≡ e.len = ap length c.deref_mut.ensures.value ∙ c.in-Ok.ensures in
    let kept : length buf ≡ c.in-Ok.bytes.len = c.read_exact.auto.buf ∙ c.deref_mut.ensures.len in
    let place : h.0 + 5 ≡ e.at + 5 = omega (arith, h.1) in
    h.2 ∙ ap (λ (l : List ℕ). Some l) (ap (λ (n : ℕ). take e.len (drop n file)) place ∙ ap (λ (n : ℕ). take n (drop (e.at + 5) file)) (sym size) ∙ sym bytes
    ∙ sym (c.from_vec.ensures ∙ take_at buf (drop (length buf) c.in-Ok.bytes.items) c.in-Ok.bytes.len kept))
