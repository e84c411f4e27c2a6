use Rattle.std.proofs.Common.{◌∙◌, List, map, sym, subst}
use Rattle.model_run.specs.Among.{AreAmong}
use Rattle.model_run.specs.Fitting.{Rises}
use Rattle.model_run.specs.Requests.{RequestsStay}
use Rattle.model_run.specs.declared.request.OpenRequest.{OpenRequest}
use Rattle.model_values.specs.declared.cell.Binding.{Binding}
use Rattle.cps_code.specs.Script.{script_of}
use Rattle.image_form.specs.declared.image.ImageThread.{ImageThread}
use Rattle.build_images.specs.Lower.image_changes.Seen.{KeepsThreads}
use Rattle.build_images.specs.Lower.image_changes.declared.now.NowThread.{NowThread}
use Rattle.delta_records.specs.Lower.record_form.Ordered.{IsInOrder}
use Rattle.build_images.specs.Lower.build_core.Builds.{setting_in}
use Rattle.build_images.specs.Fronts.{ThreadsStand}
use Rattle.build_images.specs.Images.{image_in}
use Rattle.durable_build.proofs.OrderLemmas.{in_order}
use Rattle.durable_build.proofs.changes.changes_from.Goals as goal

pub changes_between-requires-clause-now : goal.changes_between-requires-clause-now
changes_between-requires-clause-now g c = subst IsInOrder (sym c.seen.ensures.image) (in_order (setting_in c.args.build.now) (image_in g.R.ScriptThread.stance c.args.build.now) c.in_ok-threads.ensures.image.ordered)

pub changes_between-requires-clause-bindings : goal.changes_between-requires-clause-bindings
changes_between-requires-clause-bindings g c = subst (λ (bs : List Binding). AreAmong c.args.before.now.bindings bs) (sym c.seen.ensures.bindings) c.requires.marks.bindings

pub changes_between-requires-clause-requests : goal.changes_between-requires-clause-requests
changes_between-requires-clause-requests g c = subst (λ (rs : List OpenRequest). RequestsStay c.args.before.now.requests rs) (sym c.seen.ensures.requests) c.requires.marks.requests

pub changes_between-requires-clause-threads : goal.changes_between-requires-clause-threads
changes_between-requires-clause-threads g c =
    subst (λ (ts : List NowThread). KeepsThreads c.args.before.now.threads ts) (sym (c.seen.ensures.threads ∙ c.deref.ensures.value))
    (subst (λ (xs : List ImageThread). KeepsThreads xs c.in_ok-threads.threads.items) c.as_slice.ensures c.in_ok-threads.ensures.keeps)

pub threads_now-requires : goal.threads_now-requires
threads_now-requires g c =
    let b = c.args.build.now in
    record {
      begun = c.requires.begun;
      order = subst (λ (xs : List ImageThread). Rises (map (λ (t : ImageThread). t.number) xs)) (sym c.as_slice.ensures) c.requires.order.threads;
      stood = subst (λ (xs : List ImageThread). ThreadsStand g.R.ScriptThread.low g.R.ScriptThread.touched g.R.ScriptThread.stance (script_of b.shared.code) xs b.group.seats) (sym c.as_slice.ensures) c.requires.marks.threads;
    }
