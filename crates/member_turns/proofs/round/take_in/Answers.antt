use Rattle.std.proofs.Common.{rules, ◌≡◌, ◌∙◌, sym}
use Rattle.program_lock.specs.Passes.{known}
use Rattle.member_turns.proofs.SeatLemmas.{in_step, vacant_step, kept_step, over_step}
use Rattle.member_turns.proofs.round.take_in.Goals as goal

pub take_back-requires : goal.take_back-requires
take_back-requires g c =
    let l = c.loop-seat in
    record {
      over = over_step (λ seat. seat.program) c.args.seats.now l.seats l.seat-index c.seat-item.result c.seat-item.result (λ program. program.now.table.shared.table_id ≡ c.args.pass.now.seat.table_id) l.invariant.programs c.requires.over (search rules)
          ∙ sym l.invariant.same;
    }

pub loop-seat-preserved : goal.loop-seat-preserved
loop-seat-preserved g c =
    let l = c.loop-seat in
    let n = c.take_back.new.seat in
    let d = c.seat-item.result in
    let e = c.take_back.ensures in
    record {
      same = e.same ∙ l.invariant.same;
      members = kept_step (λ seat. seat.member) c.args.seats.now l.seats l.seat-index n d e.kept.0 l.invariant.members;
      looks = kept_step (λ seat. seat.looks) c.args.seats.now l.seats l.seat-index n d e.kept.1 l.invariant.looks;
      programs = kept_step (λ seat. seat.program) c.args.seats.now l.seats l.seat-index n d e.kept.2 l.invariant.programs;
      vacant = vacant_step (λ seat. seat.pass) c.args.seats.now l.seats l.seat-index (known c.args.pass.now) (known l.pass) (known c.take_back.new.pass) n e.vacant (search rules) l.invariant.vacant;
      taken = in_step (λ seat. seat.pass) c.args.seats.now l.seats l.seat-index (known c.args.pass.now) (known l.pass) (known c.take_back.new.pass) n d (search rules) e.taken l.invariant.taken;
    }
