use Rattle.std.proofs.Common.{Ok, ◌∙◌, refl, subst, arith}
use Rattle.agent_worker.specs.declared.reading.Piece.{Piece}
use Rattle.agent_worker.specs.Serve.{seen}
use Rattle.agent_worker.specs.Reading.{None_yet, ReadsPiece}
use Rattle.agent_worker.proofs.TellLemmas.{keeps-gate, keeps-gate-on}
use Rattle.agent_worker.proofs.ThroughLemmas.{takes-in-turn, so-far-more, so-far-ends, so-far-fails}
use Rattle.agent_worker.proofs.TurnLemmas.{takes-next}
use Rattle.agent_worker.proofs.reading.read_through.Goals as goal

pub loop-init : goal.loop-init
loop-init g c = record {
  next = tt;
  finite = tt;
  reads = λ looks old past has at all turning next stands. record { next = past; stands = stands; at = at; takes = None_yet; some = refl; all = all; still = λ act done. done };
  gate = keeps-gate _;
  launches = refl;
  folders = λ is. refl;
  honest = (λ is. is, λ is. is);
  faults = omega arith;
}

pub returns-in-Err-clause-reads : goal.returns-in-Err-clause-reads
returns-in-Err-clause-reads g c looks old past has at all turning next stands =
    let so = c.loop.invariant.reads looks old past has at all turning next stands in
    let one = c.in-Err.ensures.reads looks old so.next has so.at so.all (takes-in-turn c.args.order.now c.args.stream past so.next so.takes turning) (takes-next c.args.order.now c.args.stream past so.next so.takes next) so.stands in
    record { next = one.next; stands = one.stands; adds = one.adds; still = λ act done. one.still act (so.still act done) }

pub loop-preserved : goal.loop-preserved
loop-preserved g c = record {
  next = tt;
  finite = tt;
  reads = λ looks old past has at all turning next stands.
      let so = c.loop.invariant.reads looks old past has at all turning next stands in
      let one = c.in-Ok.ensures.reads looks old so.next has so.at so.all (takes-in-turn c.args.order.now c.args.stream past so.next so.takes turning) (takes-next c.args.order.now c.args.stream past so.next so.takes next) so.stands in
      so-far-more _ _ _ _ _ _ _ _ _ _ _ _ so (subst (λ (p : Piece). ReadsPiece (g.H.Host.honest c.read_piece.new.host) c.args.order.now looks c.args.stream old (seen g.H.Host g.G.Gate.tells c.read_piece.new.host c.read_piece.new.gate) c.loop.place c.read_piece.new.place so.next (Ok p)) c.in-Bytes.is one);
  gate = keeps-gate-on _ _ _ c.loop.invariant.gate c.read_piece.ensures.gate;
  launches = c.read_piece.ensures.launches ∙ c.loop.invariant.launches;
  folders = λ is. c.read_piece.ensures.folders (c.loop.invariant.honest.1 is) ∙ c.loop.invariant.folders is;
  faults = omega (arith, c.loop.invariant.faults, c.read_piece.ensures.faults);
  honest = (λ is. c.loop.invariant.honest.0 (c.read_piece.ensures.honest.0 is), λ is. c.read_piece.ensures.honest.1 (c.loop.invariant.honest.1 is));
}

pub returns-in-Nothing-clause-reads : goal.returns-in-Nothing-clause-reads
returns-in-Nothing-clause-reads g c looks old past has at all turning next stands =
    let so = c.loop.invariant.reads looks old past has at all turning next stands in
    let one = c.in-Ok.ensures.reads looks old so.next has so.at so.all (takes-in-turn c.args.order.now c.args.stream past so.next so.takes turning) (takes-next c.args.order.now c.args.stream past so.next so.takes next) so.stands in
    so-far-ends _ _ _ _ _ _ _ _ _ _ _ _ so (subst (λ (p : Piece). ReadsPiece (g.H.Host.honest c.read_piece.new.host) c.args.order.now looks c.args.stream old (seen g.H.Host g.G.Gate.tells c.read_piece.new.host c.read_piece.new.gate) c.loop.place c.read_piece.new.place so.next (Ok p)) c.in-Nothing.is one)

pub returns-in-Failed-clause-reads : goal.returns-in-Failed-clause-reads
returns-in-Failed-clause-reads g c looks old past has at all turning next stands =
    let so = c.loop.invariant.reads looks old past has at all turning next stands in
    let one = c.in-Ok.ensures.reads looks old so.next has so.at so.all (takes-in-turn c.args.order.now c.args.stream past so.next so.takes turning) (takes-next c.args.order.now c.args.stream past so.next so.takes next) so.stands in
    so-far-fails _ _ _ _ _ _ _ _ _ _ _ _ so (subst (λ (p : Piece). ReadsPiece (g.H.Host.honest c.read_piece.new.host) c.args.order.now looks c.args.stream old (seen g.H.Host g.G.Gate.tells c.read_piece.new.host c.read_piece.new.gate) c.loop.place c.read_piece.new.place so.next (Ok p)) c.in-Failed.is one)

pub returns-in-Err-clause-faults : goal.returns-in-Err-clause-faults
returns-in-Err-clause-faults g c = omega (arith, c.loop.invariant.faults, c.read_piece.ensures.faults)

pub returns-in-Nothing-clause-faults : goal.returns-in-Nothing-clause-faults
returns-in-Nothing-clause-faults g c = omega (arith, c.loop.invariant.faults, c.read_piece.ensures.faults)

pub returns-in-Failed-clause-faults : goal.returns-in-Failed-clause-faults
returns-in-Failed-clause-faults g c = omega (arith, c.loop.invariant.faults, c.read_piece.ensures.faults)
