use Rattle.std.proofs.Common.{rules, ◌≤◌, ◌∙◌, ℕ, refl, sym, subst, map}
use Rattle.program_lock.specs.Passes.{known}
use Rattle.member_turns.specs.Lower.locked_build.Says.{Says}
use Rattle.member_turns.specs.Passing.{TakesRounds}
use Rattle.member_turns.specs.Turns.{DidTurn}
use Rattle.member_turns.proofs.LookLemmas.{saw_progress}
use Rattle.member_turns.proofs.RoundLemmas.{on_refusal}
use Rattle.member_turns.proofs.RoundsLemmas.{no_round, one_round, last_round, cut_round}
use Rattle.member_turns.specs.Ready.{AreReady}
use Rattle.member_turns.proofs.life.take_rounds.Goals as goal

pub loop-init : goal.loop-init
loop-init g c =
    let H = g.H.Host in
    let A = g.A.Source in
    record {
      belongs = c.requires.belongs;
      ready = c.requires.ready;
      len = refl;
      whole = c.requires.whole;
      so_far = no_round (DidTurn H A c.args.looks) g.R.ScriptThread.stance (λ b. b.value.build) (map (λ seat. seat.member) c.args.seats.now) (known c.args.pass.now);
    }

pub take_round_in_threads-requires-clause-few : goal.take_round_in_threads-requires-clause-few
take_round_in_threads-requires-clause-few g c κs within = subst (λ (n : ℕ). n ≤ 127) (sym c.loop.invariant.len) c.requires.few

pub loop-preserved : goal.loop-preserved
loop-preserved g c =
    let H = g.H.Host in
    let A = g.A.Source in
    let l = c.loop in
    let r = c.in_ok-take_round_in_threads in
    let stance = g.R.ScriptThread.stance in
    let u = known c.take_round_in_threads.new.pass in
    let x = known c.look-come.new.pass in
    let saw = saw_progress stance (λ b. b.value.build) u x c.look-come.result c.look-come.ensures.said in
    record {
      belongs = c.look-come.ensures.belongs;
      ready = subst (λ table. AreReady table c.args.looks c.take_round_in_threads.new.seats) (r.ensures.same ∙ l.invariant.belongs ∙ sym c.look-come.ensures.belongs) r.ensures.ready;
      len = r.ensures.len ∙ l.invariant.len;
      whole = saw.parts ∙ r.ensures.whole;
      so_far = one_round (DidTurn H A c.args.looks) stance (λ b. b.value.build) (map (λ seat. seat.member) c.args.seats.now) (known c.args.pass.now)
          (map (λ seat. seat.member) l.seats) (map (λ seat. seat.member) c.take_round_in_threads.new.seats) (known l.pass) u x c.look-come.result r.ensures.round saw (search rules) l.invariant.so_far;
    }

pub returns-then-not-goes_on-clause-rounds : goal.returns-then-not-goes_on-clause-rounds
returns-then-not-goes_on-clause-rounds g c =
    let H = g.H.Host in
    let A = g.A.Source in
    let l = c.loop in
    let r = c.in_ok-take_round_in_threads in
    let stance = g.R.ScriptThread.stance in
    let u = known c.take_round_in_threads.new.pass in
    let x = known c.look-come.new.pass in
    let saw = saw_progress stance (λ b. b.value.build) u x c.look-come.result c.look-come.ensures.said in
    last_round (DidTurn H A c.args.looks) stance (λ b. b.value.build) (map (λ seat. seat.member) c.args.seats.now) (known c.args.pass.now)
    (map (λ seat. seat.member) l.seats) (map (λ seat. seat.member) c.take_round_in_threads.new.seats) (known l.pass) u x c.look-come.result r.ensures.round saw (search rules) l.invariant.so_far

pub returns-in_err-take_round_in_threads-clause-rounds : goal.returns-in_err-take_round_in_threads-clause-rounds
returns-in_err-take_round_in_threads-clause-rounds g c =
    let H = g.H.Host in
    let A = g.A.Source in
    let l = c.loop in
    let r = c.in_err-take_round_in_threads in
    let stance = g.R.ScriptThread.stance in
    let Did = DidTurn H A c.args.looks in
    on_refusal (λ how. TakesRounds Did (λ base history ask reply new. Says stance base.value.build history ask reply new) (map (λ seat. seat.member) c.args.seats.now) (map (λ seat. seat.member) c.take_round_in_threads.new.seats)
    (known c.args.pass.now) (known c.take_round_in_threads.new.pass) how)
    c.from_residual.result c.from_residual.ensures.0
    (λ memory. cut_round Did stance (λ b. b.value.build) (map (λ seat. seat.member) c.args.seats.now) (known c.args.pass.now) (map (λ seat. seat.member) l.seats) (map (λ seat. seat.member) c.take_round_in_threads.new.seats)
    (known l.pass) (known c.take_round_in_threads.new.pass) memory r.ensures.round l.invariant.so_far)
