use Rattle.std.proofs.Common.{subst}
use Rattle.cps_code.specs.Script.{IsScript, script_of}
use Rattle.saved_thread.specs.Lower.cps_frames.declared.shared.Shared.{Shared}
use Rattle.build_images.proofs.saving.image_with.Goals as goal

pub returns-clause-script : goal.returns-clause-script
returns-clause-script g c = subst (λ (u : Shared). IsScript (script_of u.code)) c.shared-shared.ensures.shared c.len-nodes.ensures.script
