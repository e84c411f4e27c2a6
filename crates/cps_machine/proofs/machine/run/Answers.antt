use Rattle.std.proofs.Common.{◌∙◌, subst, sym, arith}
use Rattle.std.proofs.lemmas.List.{nil_from_length}
use Rattle.cps_frames.specs.Standing.{standing}
use Rattle.cps_machine.proofs.LoopLaws.{Reached, entry_inside, entry_lower, entry_may, entry_reached, frame_may, gone_lower, gone_onto, gone_reached, reached_here, stays_gone, stops_ended, stops_limit, stops_waits, the_move, with_stack}
use Rattle.script_thread.specs.Marks.{StaysBelow}
use Rattle.script_thread.proofs.Stays.{stays_further, stays_itself, stays_pushed, within_pushed}
use Rattle.cps_machine.proofs.machine.run.Goals as goal

pub loop-now-init : goal.loop-now-init
loop-now-init c = record {
  reached = reached_here (standing c.args.shared.now c.args.state.now) c.args.first c.requires.may;
  stays = stays_itself c.args.low.now c.args.state.now.stack.items;
  within = c.requires.within;
}

pub returns-in-None-clause-stops : goal.returns-in-None-clause-stops
returns-in-None-clause-stops c =
    stops_ended (standing c.args.shared.now c.args.state.now) c.args.first (standing c.loop-now.shared c.loop-now.state) c.pop.new.self.items c.in-Ends.ending
    (subst (Reached (standing c.args.shared.now c.args.state.now) c.args.first (standing c.loop-now.shared c.loop-now.state)) c.in-Ends.is c.loop-now.invariant.reached)
    (nil_from_length c.loop-now.state.stack.items (omega (arith, c.loop-now.state.stack.ok.0, c.in-None.ensures.cases.0)))
    (nil_from_length c.pop.new.self.items (omega (arith, c.pop.new.self.ok.0, c.in-None.ensures.cases.1)))

pub returns-in-None-clause-stays : goal.returns-in-None-clause-stays
returns-in-None-clause-stays c =
    subst (StaysBelow c.args.low.now c.args.state.now.stack.items c.loop-now.low)
    (nil_from_length c.loop-now.state.stack.items (omega (arith, c.loop-now.state.stack.ok.0, c.in-None.ensures.cases.0)) ∙ sym (nil_from_length c.pop.new.self.items (omega (arith, c.pop.new.self.ok.0, c.in-None.ensures.cases.1))))
    c.loop-now.invariant.stays

pub go_on-requires : goal.go_on-requires
go_on-requires c = record {
  may = frame_may (standing c.args.shared.now c.args.state.now) c.args.first c.requires.script c.requires.may (standing c.loop-now.shared c.loop-now.state) c.pop.new.self.items c.in-Some.frame c.in-Ends.ending (subst (Reached (standing c.args.shared.now c.args.state.now) c.args.first (standing c.loop-now.shared c.loop-now.state)) c.in-Ends.is c.loop-now.invariant.reached) c.in-Some.ensures.items;
}

pub loop-now-smaller-in-Some : goal.loop-now-smaller-in-Some
loop-now-smaller-in-Some c =
    rw c.in-Ends.is (gone_lower (standing c.args.shared.now c.args.state.now) c.args.first c.requires.script c.requires.may (standing c.loop-now.shared c.loop-now.state) c.pop.new.self.items c.in-Some.frame c.in-Ends.ending (subst (Reached (standing c.args.shared.now c.args.state.now) c.args.first (standing c.loop-now.shared c.loop-now.state)) c.in-Ends.is c.loop-now.invariant.reached) c.in-Some.ensures.items c.in_ok-now-in-Some.now _
    (the_move _ _ c.in_ok-now-in-Some.now c.in_ok-now-in-Some.ensures c.go_on.ensures))

pub loop-now-preserved-in-Some : goal.loop-now-preserved-in-Some
loop-now-preserved-in-Some c =
    let fs = c.pop.new.self.items in
    let gone = the_move _ _ c.in_ok-now-in-Some.now c.in_ok-now-in-Some.ensures c.go_on.ensures in
    let onto = gone_onto c.in-Some.frame c.in-Ends.ending (with_stack fs (standing c.loop-now.shared c.loop-now.state)) c.in_ok-now-in-Some.now (standing c.go_on.new.shared c.go_on.new.state) gone in
    record {
      reached = gone_reached (standing c.args.shared.now c.args.state.now) c.args.first c.requires.script c.requires.may (standing c.loop-now.shared c.loop-now.state) fs c.in-Some.frame c.in-Ends.ending (subst (Reached (standing c.args.shared.now c.args.state.now) c.args.first (standing c.loop-now.shared c.loop-now.state)) c.in-Ends.is c.loop-now.invariant.reached) c.in-Some.ensures.items c.in_ok-now-in-Some.now _ gone;
      stays = stays_gone c.args.low.now c.args.state.now.stack.items c.loop-now.low c.lowest.result c.loop-now.state.stack.items fs c.in-Some.frame c.go_on.new.state.stack.items c.loop-now.invariant.stays c.in-Some.ensures.items c.lowest.ensures.0 c.lowest.ensures.1 onto;
      within = within_pushed c.lowest.result fs onto.0 c.go_on.new.state.stack.items onto.1 c.lowest.ensures.1;
    }

pub returns-in-Hits-clause-stops : goal.returns-in-Hits-clause-stops
returns-in-Hits-clause-stops c = stops_limit (standing c.args.shared.now c.args.state.now) c.args.first (standing c.loop-now.shared c.loop-now.state) c.in-Hits.limit (subst (Reached (standing c.args.shared.now c.args.state.now) c.args.first (standing c.loop-now.shared c.loop-now.state)) c.in-Hits.is c.loop-now.invariant.reached)

pub enter-requires : goal.enter-requires
enter-requires c = record {
  may = entry_may (standing c.args.shared.now c.args.state.now) c.args.first c.requires.script c.requires.may (standing c.loop-now.shared c.loop-now.state) c.in-Enter.entry c.in-Enter.node c.in-Enter.env (subst (Reached (standing c.args.shared.now c.args.state.now) c.args.first (standing c.loop-now.shared c.loop-now.state)) c.in-Enter.is c.loop-now.invariant.reached);
  inside = entry_inside (standing c.args.shared.now c.args.state.now) c.args.first c.requires.script c.requires.may (standing c.loop-now.shared c.loop-now.state) c.in-Enter.entry c.in-Enter.node c.in-Enter.env (subst (Reached (standing c.args.shared.now c.args.state.now) c.args.first (standing c.loop-now.shared c.loop-now.state)) c.in-Enter.is c.loop-now.invariant.reached);
}

pub loop-now-smaller : goal.loop-now-smaller
loop-now-smaller c =
    rw c.in-Enter.is (entry_lower (standing c.args.shared.now c.args.state.now) c.args.first c.requires.script c.requires.may (standing c.loop-now.shared c.loop-now.state) c.in-Enter.entry c.in-Enter.node c.in-Enter.env (subst (Reached (standing c.args.shared.now c.args.state.now) c.args.first (standing c.loop-now.shared c.loop-now.state)) c.in-Enter.is c.loop-now.invariant.reached) c.in_ok-now-in-Enter.now _
    (the_move _ _ c.in_ok-now-in-Enter.now c.in_ok-now-in-Enter.ensures c.enter.ensures))

pub loop-now-preserved : goal.loop-now-preserved
loop-now-preserved c =
    let low = c.loop-now.low in
    let stack = c.loop-now.state.stack.items in
    let comes = the_move _ _ c.in_ok-now-in-Enter.now c.in_ok-now-in-Enter.ensures c.enter.ensures in
    record {
      reached = entry_reached (standing c.args.shared.now c.args.state.now) c.args.first c.requires.script c.requires.may (standing c.loop-now.shared c.loop-now.state) c.in-Enter.entry c.in-Enter.node c.in-Enter.env (subst (Reached (standing c.args.shared.now c.args.state.now) c.args.first (standing c.loop-now.shared c.loop-now.state)) c.in-Enter.is c.loop-now.invariant.reached) c.in_ok-now-in-Enter.now _ comes;
      stays = stays_further c.args.low.now c.args.state.now.stack.items low stack low c.enter.new.state.stack.items c.loop-now.invariant.stays (stays_pushed low stack comes.frames c.enter.new.state.stack.items comes.pushed c.loop-now.invariant.within);
      within = within_pushed low stack comes.frames c.enter.new.state.stack.items comes.pushed c.loop-now.invariant.within;
    }

pub returns-in-Asks-clause-stops : goal.returns-in-Asks-clause-stops
returns-in-Asks-clause-stops c = stops_waits (standing c.args.shared.now c.args.state.now) c.args.first (standing c.loop-now.shared c.loop-now.state) c.in-Asks.asked (subst (Reached (standing c.args.shared.now c.args.state.now) c.args.first (standing c.loop-now.shared c.loop-now.state)) c.in-Asks.is c.loop-now.invariant.reached)
