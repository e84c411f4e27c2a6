-- The forms that frames of an `if`, of loops and of `try` stand at.
use Rattle.std.proofs.Common.{◌≡◌, ◌∙◌, true, refl, sym}
use Rattle.model_syntax.specs.declared.node.NodeForm.{NodeForm}
use Rattle.model_syntax.specs.declared.node.NodeForm.TheVariants as form
use Rattle.model_run.specs.FrameTable.{frame_row, same_form}
use Rattle.model_run.specs.Nesting.{shape_at}
use Rattle.model_run.specs.declared.frame.Frame.{Frame}
use Rattle.model_run.specs.declared.frame.FrameKind.{FrameKind}
use Rattle.model_run.specs.declared.frame.FrameKind.TheVariants as kind
use Rattle.model_run.specs.declared.ending.Ending.{Ending}
use Rattle.cps_frames.specs.Places.{MayGoOn}
use Rattle.cps_frames.specs.Standing.{Standing}
use Rattle.cps_variables.specs.Nodes.{HasForm}
use Rattle.cps_variables.proofs.NodeLaws.{and_left, stands}

of_form : (u : Standing) (f : Frame) (e : Ending) (g : NodeForm) → MayGoOn u f e → (shape_at u.world.setting.script f.node).form ≡ g → HasForm u.world.setting.script f.node g
of_form u f e g may is = record { script = may.script; node = may.frame.fits.node; form = is }

is_if : (f : NodeForm) → same_form form.If f ≡ true → f ≡ form.If
is_if form.If h = refl
is_if f h = absurd (cc h)

is_steps : (f : NodeForm) → same_form form.ForSteps f ≡ true → f ≡ form.ForSteps
is_steps form.ForSteps h = refl
is_steps f h = absurd (cc h)

is_try : (f : NodeForm) → same_form form.Try f ≡ true → f ≡ form.Try
is_try form.Try h = refl
is_try f h = absurd (cc h)

-- the node of each frame
pub if_form : (u : Standing) (f : Frame) (e : Ending) → MayGoOn u f e → f.kind ≡ kind.IfTest → HasForm u.world.setting.script f.node form.If
if_form u f e may is = of_form u f e form.If may (is_if _ (and_left _ _ (stands u f e kind.IfTest may is)))

pub steps_form : (u : Standing) (f : Frame) (e : Ending) (d : FrameKind) → MayGoOn u f e → f.kind ≡ d → (frame_row d (shape_at u.world.setting.script f.node) f.left f.env).stands ≡ same_form form.ForSteps (shape_at u.world.setting.script f.node).form → HasForm u.world.setting.script f.node form.ForSteps
steps_form u f e d may is row = of_form u f e form.ForSteps may (is_steps _ (sym row ∙ stands u f e d may is))

pub catch_form : (u : Standing) (f : Frame) (e : Ending) → MayGoOn u f e → f.kind ≡ kind.TryCatch → HasForm u.world.setting.script f.node form.Try
catch_form u f e may is = of_form u f e form.Try may (is_try _ (and_left _ _ (stands u f e kind.TryCatch may is)))
