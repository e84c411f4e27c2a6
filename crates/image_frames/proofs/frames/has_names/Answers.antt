use Rattle.std.proofs.Common.{◌≡◌, ◌∙◌, sym}
use Rattle.cps_code.specs.Script.{script_of}
use Rattle.image_frames.proofs.FrameLaws.{node_of_row, part_of_row}
use Rattle.image_frames.proofs.frames.has_names.Goals as goal

pub are_seen_at-requires-clause-part : goal.are_seen_at-requires-clause-part
are_seen_at-requires-clause-part c = part_of_row (script_of c.args.table.now.code.now) c.args.frame.now (c.requires.kind ∙ c.in-Statement.is) c.requires.stands

pub are_seen-requires : goal.are_seen-requires
are_seen-requires c = record { script = c.requires.script; given = c.requires.given; node = node_of_row (script_of c.args.table.now.code.now) c.args.frame.now c.requires.stands }
