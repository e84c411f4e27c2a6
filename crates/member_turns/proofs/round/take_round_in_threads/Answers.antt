use Rattle.std.proofs.Common.{◌≡◌, ◌∙◌, sym, subst, map, Ok, Err}
use Rattle.std.specs.List.{AllByRecursion as AllAre}
use Rattle.program_lock.specs.Passes.{known}
use Rattle.member_turns.proofs.CallLemmas.{site_says}
use Rattle.member_turns.specs.Passing.{TakesRound}
use Rattle.member_turns.specs.Turns.{DidTurn}
use Rattle.member_turns.proofs.ThreadLemmas.{whole_round, no_round, whole_again, whole_back}
use Rattle.member_turns.proofs.SeatLemmas.{enough_for, over_all, same_length, zip_map, zip_weaker}
use Rattle.member_turns.proofs.round.take_round_in_threads.Goals as goal

pub hand_out-requires-clause-enough : goal.hand_out-requires-clause-enough
hand_out-requires-clause-enough g c = enough_for _ _ c.requires.few c.requires.whole

pub take_in-requires : goal.take_in-requires
take_in-requires g c = record {
  over = over_all (λ program. program.now.table.shared.table_id) c.args.pass.now.seat.table_id c.hand_out.new.pass.seat.table_id (map (λ seat. seat.program) c.args.seats.now) (map (λ seat. seat.program) c.work_all.new.seats) c.requires.ready.over
      (zip_map _ (λ seat. seat.program) (λ a b r. r.0) c.hand_out.new.seats c.work_all.new.seats c.work_all.ensures.work ∙ c.hand_out.ensures.programs) c.hand_out.ensures.same;
}

pub take_in-requires-in-Err : goal.take_in-requires-in-Err
take_in-requires-in-Err g c = record {
  over = over_all (λ program. program.now.table.shared.table_id) c.args.pass.now.seat.table_id c.hand_out.new.pass.seat.table_id (map (λ seat. seat.program) c.args.seats.now) (map (λ seat. seat.program) c.hand_out.new.seats) c.requires.ready.over c.hand_out.ensures.programs
      c.hand_out.ensures.same;
}

pub returns-in-Ok-clause-ready : goal.returns-in-Ok-clause-ready
returns-in-Ok-clause-ready g c =
    let looks = c.take_in.ensures.looks ∙ zip_map _ (λ seat. seat.looks) (λ a b r. r.1) c.hand_out.new.seats c.work_all.new.seats c.work_all.ensures.work ∙ c.hand_out.ensures.looks in
    let programs = c.take_in.ensures.programs ∙ zip_map _ (λ seat. seat.program) (λ a b r. r.0) c.hand_out.new.seats c.work_all.new.seats c.work_all.ensures.work ∙ c.hand_out.ensures.programs in
    record {
      over = over_all (λ program. program.now.table.shared.table_id) c.args.pass.now.seat.table_id c.take_in.new.pass.seat.table_id (map (λ seat. seat.program) c.args.seats.now) (map (λ seat. seat.program) c.take_in.new.seats) c.requires.ready.over programs
          (c.take_in.ensures.same ∙ c.hand_out.ensures.same);
      looks = subst (AllAre (λ own. own ≡ c.args.looks)) (sym looks) c.requires.ready.looks;
      vacant = c.take_in.ensures.vacant;
    }

pub returns-in-Err-clause-ready : goal.returns-in-Err-clause-ready
returns-in-Err-clause-ready g c = record {
  over = over_all (λ program. program.now.table.shared.table_id) c.args.pass.now.seat.table_id c.take_in-in-Err.new.pass.seat.table_id (map (λ seat. seat.program) c.args.seats.now) (map (λ seat. seat.program) c.take_in-in-Err.new.seats) c.requires.ready.over
      (c.take_in-in-Err.ensures.programs ∙ c.hand_out.ensures.programs) (c.take_in-in-Err.ensures.same ∙ c.hand_out.ensures.same);
  looks = subst (AllAre (λ own. own ≡ c.args.looks)) (sym (c.take_in-in-Err.ensures.looks ∙ c.hand_out.ensures.looks)) c.requires.ready.looks;
  vacant = c.take_in-in-Err.ensures.vacant;
}

pub returns-in-Ok-clause-len : goal.returns-in-Ok-clause-len
returns-in-Ok-clause-len g c = same_length (λ seat. seat.looks) c.take_in.new.seats c.args.seats.now
    (c.take_in.ensures.looks ∙ zip_map _ (λ seat. seat.looks) (λ a b r. r.1) c.hand_out.new.seats c.work_all.new.seats c.work_all.ensures.work ∙ c.hand_out.ensures.looks)

pub returns-in-Err-clause-len : goal.returns-in-Err-clause-len
returns-in-Err-clause-len g c = same_length (λ seat. seat.looks) c.take_in-in-Err.new.seats c.args.seats.now (c.take_in-in-Err.ensures.looks ∙ c.hand_out.ensures.looks)

pub returns-in-Ok-clause-whole : goal.returns-in-Ok-clause-whole
returns-in-Ok-clause-whole g c =
    let H = g.H.Host in
    let A = g.A.Source in
    whole_again (λ k. DidTurn H A k) g.R.ScriptThread.stance (λ b. b.value.build) (λ seat. seat.member) (λ seat. seat.pass) (λ seat. seat.looks) c.args.looks
    (map (λ seat. seat.pass) c.args.seats.now) c.hand_out.new.seats (known c.args.pass.now) (known c.hand_out.new.pass) (known c.take_in.new.pass) c.work_all.new.seats c.in-Ok.ensures.out
    (zip_weaker _ _ (λ a b r. r.2) c.hand_out.new.seats c.work_all.new.seats c.work_all.ensures.work)
    (subst (AllAre (λ own. own ≡ c.args.looks)) (sym c.hand_out.ensures.looks) c.requires.ready.looks) c.requires.ready.vacant c.take_in.ensures.taken
    ∙ c.requires.whole

pub returns-in-Err-clause-whole : goal.returns-in-Err-clause-whole
returns-in-Err-clause-whole g c =
    let H = g.H.Host in
    let A = g.A.Source in
    whole_back (λ k. DidTurn H A k) g.R.ScriptThread.stance (λ b. b.value.build) (λ seat. seat.member) (λ seat. seat.pass) (λ seat. seat.looks) c.args.looks
    (map (λ seat. seat.pass) c.args.seats.now) c.hand_out.new.seats (known c.args.pass.now) (known c.hand_out.new.pass) (known c.take_in-in-Err.new.pass) c.in-Err.memory c.in-Err.ensures.out c.requires.ready.vacant c.take_in-in-Err.ensures.taken
    ∙ c.requires.whole

pub returns-in-Ok-clause-round : goal.returns-in-Ok-clause-round
returns-in-Ok-clause-round g c =
    let H = g.H.Host in
    let A = g.A.Source in
    let round = whole_round (λ k. DidTurn H A k) g.R.ScriptThread.stance (λ b. b.value.build) (λ seat. seat.member) (λ seat. seat.pass) (λ seat. seat.looks) c.args.looks
    (map (λ seat. seat.pass) c.args.seats.now) c.hand_out.new.seats (known c.args.pass.now) (known c.hand_out.new.pass) (known c.take_in.new.pass) c.work_all.new.seats c.in-Ok.ensures.out
    (zip_weaker _ _ (λ a b r. r.2) c.hand_out.new.seats c.work_all.new.seats c.work_all.ensures.work)
    (subst (AllAre (λ own. own ≡ c.args.looks)) (sym c.hand_out.ensures.looks) c.requires.ready.looks) c.take_in.ensures.taken in
    subst (λ olds. TakesRound (DidTurn H A c.args.looks) (site_says g.R.ScriptThread.stance (λ b. b.value.build)) olds (map (λ seat. seat.member) c.take_in.new.seats) (known c.args.pass.now) (known c.take_in.new.pass) (Ok tt)) c.hand_out.ensures.members
    (subst (λ news. TakesRound (DidTurn H A c.args.looks) (site_says g.R.ScriptThread.stance (λ b. b.value.build)) (map (λ seat. seat.member) c.hand_out.new.seats) news (known c.args.pass.now) (known c.take_in.new.pass) (Ok tt)) (sym c.take_in.ensures.members) round)

pub returns-in-Err-clause-round : goal.returns-in-Err-clause-round
returns-in-Err-clause-round g c =
    let H = g.H.Host in
    let A = g.A.Source in
    let round = no_round (λ k. DidTurn H A k) g.R.ScriptThread.stance (λ b. b.value.build) (λ seat. seat.member) (λ seat. seat.pass) (λ seat. seat.looks) c.args.looks
    (map (λ seat. seat.pass) c.args.seats.now) c.hand_out.new.seats (known c.args.pass.now) (known c.hand_out.new.pass) (known c.take_in-in-Err.new.pass) c.in-Err.memory c.in-Err.ensures.out c.requires.ready.vacant c.take_in-in-Err.ensures.taken in
    subst (λ olds. TakesRound (DidTurn H A c.args.looks) (site_says g.R.ScriptThread.stance (λ b. b.value.build)) olds (map (λ seat. seat.member) c.take_in-in-Err.new.seats) (known c.args.pass.now) (known c.take_in-in-Err.new.pass) (Err c.in-Err.memory)) c.hand_out.ensures.members
    (subst (λ news. TakesRound (DidTurn H A c.args.looks) (site_says g.R.ScriptThread.stance (λ b. b.value.build)) (map (λ seat. seat.member) c.hand_out.new.seats) news (known c.args.pass.now) (known c.take_in-in-Err.new.pass) (Err c.in-Err.memory)) (sym c.take_in-in-Err.ensures.members) round)
