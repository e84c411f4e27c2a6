use Rattle.std.proofs.Common.{◌∙◌, sym}
use Rattle.cps_variables.proofs.PlaceLaws.{put}
use Rattle.cps_variables.proofs.names.insert.Goals as goal

pub returns : goal.returns
returns c = c.in_ok-insert.ensures.items ∙ sym (put c.args.name c.args.cell c.args.binding.now.items c.place-at.result (rw (sym c.as_slice.ensures, sym c.as_slice-2.ensures.value) c.place-at.ensures))
