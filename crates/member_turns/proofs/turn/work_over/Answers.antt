use Rattle.std.proofs.Common.{refl, ap}
use Rattle.program_lock.specs.Passes.{known, own_entries}
use Rattle.member_turns.specs.Called.{calls_of}
use Rattle.member_turns.specs.Tales.{tells_of}
use Rattle.member_turns.proofs.CallLemmas.{site_says}
use Rattle.member_turns.proofs.TurnsLemmas.{works_by, works_through}
use Rattle.member_turns.proofs.turn.work_over.Goals as goal

pub returns-clause-worked : goal.returns-clause-worked
returns-clause-worked g c =
    let H = g.H.Host in
    let A = g.A.Source in
    let old = c.new-gate.result in
    let now = c.work-worked.new.gate in
    let e = c.new-gate.ensures in
    works_through H A c.args.looks (site_says g.R.ScriptThread.stance (λ b. b.value.build))
    (known c.args.pass) (known c.into_pass.result) (known now.pass) c.args.member.now c.work-worked.new.member (calls_of now.calls.called.value) now.said now.is_open c.work-worked.result
    (tells_of (own_entries old.pass) (calls_of old.calls.called.value) old.said old.is_open) (tells_of (own_entries now.pass) (calls_of now.calls.called.value) now.said now.is_open)
    g.B.Place.numbers g.B.Place.number g.B.Place.parts g.B.Place.since c.requires.numbers c.requires.number c.requires.shared c.requires.since now.numbers now.shared (ap known c.into_pass.ensures.pass)
    (λ i. tells_of (own_entries (e.pass i)) (e.calls i) (e.said i) (e.closed i)) refl
    (works_by H A c.args.looks (λ gate. tells_of (own_entries gate.pass) (calls_of gate.calls.called.value) gate.said gate.is_open)
    c.args.member.now c.work-worked.new.member old now c.work-worked.result c.work-worked.ensures.works)
    now.answered
