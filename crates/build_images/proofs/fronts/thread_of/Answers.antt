use Rattle.std.proofs.Common.{◌≡◌, ◌∙◌, Some, None, sym, ap}
use Rattle.std.specs.Option.{option_copied}
use Rattle.std.proofs.lemmas.Result.{IfOk-weaker}
use Rattle.cps_code.specs.Script.{script_of}
use Rattle.image_form.specs.declared.image.ImageThread.{ImageThread}
use Rattle.saved_thread.specs.Lower.thread_fits.Seats.{as_seat}
use Rattle.saved_thread.specs.Saving.{thread_told}
use Rattle.image_changes.specs.Seen.{KeepsThread, thread_seen}
use Rattle.image_changes.specs.declared.now.NowThread.{NowThread}
use Rattle.build_images.specs.Fronts.{HasStoodAs, thread_at}
use Rattle.build_images.proofs.FrontLaws.{both_ok, kept_by, kept_new, no_thread, one_thread, thread_is}
use Rattle.build_images.proofs.fronts.thread_of.Goals as goal

pub thread_over-requires-clause-stood : goal.thread_over-requires-clause-stood
thread_over-requires-clause-stood g c =
    let seat = c.args.seat.now in
    let stood = c.in-Some.stood.now in
    let at : thread_at seat.number c.args.before.now ≡ Some stood = sym c.stood_at.ensures ∙ ap option_copied c.in-Some.is in
    let is = thread_is seat.number (HasStoodAs g.R.ScriptThread.low g.R.ScriptThread.touched g.R.ScriptThread.stance (script_of c.args.code.now) seat) c.args.before.now stood at c.requires.stood in
    is.1 is.0

pub returns-in-Some-clause-keeps : goal.returns-in-Some-clause-keeps
returns-in-Some-clause-keeps g c =
    let seat = c.args.seat.now in
    let before = c.args.before.now in
    let stood = c.in-Some.stood.now in
    let told = thread_told (script_of c.args.code.now) (as_seat g.R.ScriptThread.stance seat) in
    let at : thread_at seat.number before ≡ Some stood = sym c.stood_at.ensures ∙ ap option_copied c.in-Some.is in
    both_ok c.thread_over.result (λ t. thread_seen t ≡ told) (KeepsThread stood) _
    (λ t here keeps. kept_by seat.number before stood t (ap (λ (x : ImageThread). x.number) here) (one_thread seat.number before stood at c.requires.order) keeps) c.thread_over.ensures.here c.thread_over.ensures.keeps

pub returns-in-None-clause-keeps : goal.returns-in-None-clause-keeps
returns-in-None-clause-keeps g c =
    let seat = c.args.seat.now in
    let before = c.args.before.now in
    let at : thread_at seat.number before ≡ None = sym c.stood_at.ensures ∙ ap option_copied c.in-None.is in
    IfOk-weaker c.thread_behind.result _ _ (λ t e. kept_new seat.number before t (ap (λ (x : NowThread). (thread_seen x).number) e) (no_thread seat.number before at)) c.thread_behind.ensures
