use Rattle.std.proofs.Common.{◌∙◌, [], refl, sym, inr, arith}
use Rattle.std.proofs.lemmas.List.{append-nil}
use Rattle.cps_frames.specs.Moves.{Part}
use Rattle.cps_frames.proofs.MoveLaws.{beside_here}
use Rattle.cps_frames.proofs.PartLaws.{part_there}
use Rattle.cps_frames.proofs.parts.part.Goals as goal

pub unreachable-requires : goal.unreachable-requires
unreachable-requires c = part_there _ _ _ c.requires.part (sym c.part.ensures.number ∙ c.in-None.is)

pub returns : goal.returns
returns c = λ t r pos. record {
  frames = [];
  pushed = sym (append-nil _);
  new = tt;
  how = Part c.args.at;
  placed = (record { found = c.in-Some.ensures.found; behind = c.in-Some.ensures.behind.0; within = c.in-Some.ensures.behind.1 }, c.requires.entry);
  setting = refl;
  beside = beside_here _;
  same = λ a rs. refl;
  less = omega arith;
  falls = inr (tt, pos);
}
