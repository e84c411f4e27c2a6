use Rattle.std.proofs.Common.{map, arith}
use Rattle.std.proofs.lemmas.List.{length-map}
use Rattle.image_changes.proofs.Reaching.{renews}
use Rattle.image_changes.proofs.walk.renewal.Goals as goal

pub returns-clause-renews : goal.returns-clause-renews
returns-clause-renews g c = renews g.C.Rewrite.by g.C.Rewrite.number g.C.Rewrite.made c.args.before.now (map g.C.Rewrite.seen c.args.now.now) c.loop-walk.walk (omega arith) (omega (arith, length-map c.args.now.now g.C.Rewrite.seen)) c.loop-walk.invariant.goes.reaches

pub returns-clause-needed : goal.returns-clause-needed
returns-clause-needed g c = c.loop-walk.invariant.goes.needed
