use Rattle.std.proofs.Common.{rules, ◌≡◌, ◌≤◌, ◌^◌, ◌∙◌, refl, sym, subst}
use Rattle.std.proofs.lemmas.List.{length-map}
use Rattle.program_lock.specs.Passes.{known}
use Rattle.member_turns.proofs.SeatLemmas.{none_out, out_step, refused_out, kept_step, over_step, within_old}
use Rattle.member_turns.proofs.round.hand_out.Goals as goal

pub loop-seat-init : goal.loop-seat-init
loop-seat-init g c = record {
  same = refl;
  members = refl;
  looks = refl;
  programs = refl;
  out = none_out _ (known c.args.pass.now) (subst (λ n. 2 ^ n ≤ (known c.args.pass.now).parts) (sym (length-map c.args.seats.now (λ seat. seat.pass))) c.requires.enough);
}

pub give-requires : goal.give-requires
give-requires g c =
    let l = c.loop-seat in
    record {
      over = over_step (λ seat. seat.program) c.args.seats.now l.seats l.seat-index c.seat-item.result c.seat-item.result (λ program. program.now.table.shared.table_id ≡ c.args.pass.now.seat.table_id) l.invariant.programs c.requires.over (search rules)
          ∙ sym l.invariant.same;
    }

pub loop-seat-preserved : goal.loop-seat-preserved
loop-seat-preserved g c =
    let l = c.loop-seat in
    let n = c.give.new.seat in
    let d = c.seat-item.result in
    let given = c.in-Ok.ensures.given in
    record {
      same = c.give.ensures.same ∙ l.invariant.same;
      members = kept_step (λ seat. seat.member) c.args.seats.now l.seats l.seat-index n d c.give.ensures.kept.0 l.invariant.members;
      looks = kept_step (λ seat. seat.looks) c.args.seats.now l.seats l.seat-index n d c.give.ensures.kept.1 l.invariant.looks;
      programs = kept_step (λ seat. seat.program) c.args.seats.now l.seats l.seat-index n d c.give.ensures.kept.2 l.invariant.programs;
      out = out_step (λ seat. seat.pass) c.args.seats.now l.seats l.seat-index (known c.args.pass.now) (known l.pass) (known c.give.new.pass) n given.0
          (within_old (λ seat. seat.program) c.args.seats.now l.seats l.seat-index n d l.invariant.programs (search rules)) given.1 given.2 l.invariant.out;
    }

pub returns-in-Err-clause-members : goal.returns-in-Err-clause-members
returns-in-Err-clause-members g c = kept_step (λ seat. seat.member) c.args.seats.now c.loop-seat.seats c.loop-seat.seat-index c.give.new.seat c.seat-item.result c.give.ensures.kept.0 c.loop-seat.invariant.members

pub returns-in-Err-clause-looks : goal.returns-in-Err-clause-looks
returns-in-Err-clause-looks g c = kept_step (λ seat. seat.looks) c.args.seats.now c.loop-seat.seats c.loop-seat.seat-index c.give.new.seat c.seat-item.result c.give.ensures.kept.1 c.loop-seat.invariant.looks

pub returns-in-Err-clause-programs : goal.returns-in-Err-clause-programs
returns-in-Err-clause-programs g c = kept_step (λ seat. seat.program) c.args.seats.now c.loop-seat.seats c.loop-seat.seat-index c.give.new.seat c.seat-item.result c.give.ensures.kept.2 c.loop-seat.invariant.programs

pub returns-in-Err-clause-out : goal.returns-in-Err-clause-out
returns-in-Err-clause-out g c =
    let l = c.loop-seat in
    let n = c.give.new.seat in
    let d = c.seat-item.result in
    refused_out (λ seat. seat.pass) c.args.seats.now l.seats l.seat-index (known c.args.pass.now) (known l.pass) (known c.give.new.pass) n d c.in-Err.memory
    (within_old (λ seat. seat.program) c.args.seats.now l.seats l.seat-index n d l.invariant.programs (search rules)) c.in-Err.ensures.refused.0 c.in-Err.ensures.refused.1 l.invariant.out
