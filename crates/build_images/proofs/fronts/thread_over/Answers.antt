use Rattle.std.proofs.Common.{◌≡◌, ◌∙◌, ℕ, List, length, take, refl, sym, ap, subst}
use Rattle.std.specs.Prelude.{min}
use Rattle.std.proofs.lemmas.Result.{IfOk-weaker}
use Rattle.cps_code.specs.Script.{script_of}
use Rattle.image_form.specs.declared.image.ImageFrame.{ImageFrame}
use Rattle.saved_thread.specs.Lower.thread_fits.Seats.{as_seat}
use Rattle.saved_thread.specs.Saving.{thread_told, told_from}
use Rattle.image_changes.specs.Seen.{KeepsThread, thread_seen}
use Rattle.image_changes.specs.declared.now.NowThread.{NowThread}
use Rattle.image_changes.specs.declared.now.NowThread.TheVariants as thread
use Rattle.build_images.proofs.FrontLaws.{behind_whole, front_and_more, has_front}
use Rattle.build_images.proofs.fronts.thread_over.Goals as goal

pub returns-clause-here : goal.returns-clause-here
returns-clause-here g c =
    let seat = c.args.seat.now in
    let root = script_of c.args.code.now in
    let told = thread_told root (as_seat g.R.ScriptThread.stance seat) in
    let stood = c.args.stood.now.frames in
    let low = g.R.ScriptThread.low seat.thread in
    let front = c.first_frames-front.result in
    let is = c.first_frames-front.ensures ∙ ap (λ (n : ℕ). take (min n 4294967295) c.as_slice.result.now) c.low.ensures ∙ ap (λ (fs : List ImageFrame). take (min low 4294967295) fs) c.as_slice.ensures in
    IfOk-weaker c.thread_behind.result (λ (t : NowThread). t ≡ thread.Touched front (told_from (length front.now) told)) (λ (t : NowThread). thread_seen t ≡ told)
    (λ t e. ap thread_seen e ∙ behind_whole front.now told (front_and_more low stood told.frames front.now c.requires.stood.front is)) c.thread_behind.ensures

pub returns-clause-keeps : goal.returns-clause-keeps
returns-clause-keeps g c =
    let seat = c.args.seat.now in
    let root = script_of c.args.code.now in
    let told = thread_told root (as_seat g.R.ScriptThread.stance seat) in
    let stood = c.args.stood.now.frames in
    let low = g.R.ScriptThread.low seat.thread in
    let front = c.first_frames-front.result in
    let is = c.first_frames-front.ensures ∙ ap (λ (n : ℕ). take (min n 4294967295) c.as_slice.result.now) c.low.ensures ∙ ap (λ (fs : List ImageFrame). take (min low 4294967295) fs) c.as_slice.ensures in
    IfOk-weaker c.thread_behind.result (λ (t : NowThread). t ≡ thread.Touched front (told_from (length front.now) told)) (KeepsThread c.args.stood.now)
    (λ t e. subst (KeepsThread c.args.stood.now) (sym e) (has_front low stood told.frames front.now c.requires.stood.front is c.args.stood.now refl)) c.thread_behind.ensures
