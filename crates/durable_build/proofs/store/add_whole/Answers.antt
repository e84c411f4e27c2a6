use Rattle.std.proofs.Common.{◌∙◌, ℕ, List, None, Some, Ok, Err, refl, sym, ap, subst}
use Rattle.image_form.specs.declared.image.Image.{Image}
use Rattle.delta_records.specs.declared.payload.Payload.TheVariants as payload
use Rattle.delta_records.specs.declared.weights.Weights.{Weights}
use Rattle.build_images.specs.Lower.build_core.Builds.{setting_in}
use Rattle.build_images.specs.Images.{image_in}
use Rattle.durable_build.specs.Adding.{AddDone, SpellsDue}
use Rattle.durable_build.specs.Kinds.{weights_with}
use Rattle.durable_build.proofs.AddLemmas.{due_is, not_added, not_spelled, was_added}
use Rattle.durable_build.proofs.LoadLemmas.{passes_on}
use Rattle.durable_build.proofs.OrderLemmas.{in_order}
use Rattle.durable_build.proofs.store.add_whole.Goals as goal

pub spelled_whole-requires : goal.spelled_whole-requires
spelled_whole-requires g c = in_order (setting_in c.args.build.now) c.in-Ok.image c.in-Ok.ensures.ordered

pub returns-in_err-payload-clause-adds : goal.returns-in_err-payload-clause-adds
returns-in_err-payload-clause-adds g c =
    let D = g.D.Disk in
    let j = c.args.journal.now in
    let w = c.args.last.now.weights in
    let before = c.args.last.now.image in
    let e = c.args.event.now in
    let image = image_in g.R.ScriptThread.stance c.args.build.now in
    let q = payload.Whole e image in
    let f = c.in_err-payload.field-0.0 in
    passes_on c.from_residual.result f (AddDone D w before e image j j w) c.from_residual.ensures.1
    (not_spelled D w before e image j j q (due_is w before e image None c.requires.due) f refl
    (subst (λ (i : Image). SpellsDue j.len (payload.Whole e i) (Err f)) c.in-Ok.ensures.here (subst (λ (n : ℕ). SpellsDue n (payload.Whole e c.in-Ok.image) (Err f)) c.len.ensures c.in_err-payload.ensures)))

pub returns-in_err-append-clause-adds : goal.returns-in_err-append-clause-adds
returns-in_err-append-clause-adds g c =
    let D = g.D.Disk in
    let j = c.args.journal.now in
    let w = c.args.last.now.weights in
    let before = c.args.last.now.image in
    let e = c.args.event.now in
    let image = image_in g.R.ScriptThread.stance c.args.build.now in
    let q = payload.Whole e image in
    let f = c.in_err-append.field-0.0 in
    let p = c.as_slice.result.now in
    let spelled = subst (λ (b : List ℕ). SpellsDue j.len q (Ok b)) (sym c.as_slice.ensures) (subst (λ (i : Image). SpellsDue j.len (payload.Whole e i) (Ok c.in_ok-payload.payload)) c.in-Ok.ensures.here (subst (λ (n : ℕ). SpellsDue n (payload.Whole e c.in-Ok.image) (Ok c.in_ok-payload.payload)) c.len.ensures c.in_ok-payload.ensures)) in
    passes_on c.from_residual-in_err-append.result f (AddDone D w before e image j c.append.new.journal w) c.from_residual-in_err-append.ensures.1
    (not_added D w before e image j c.append.new.journal q (due_is w before e image None c.requires.due) p spelled.0 spelled.1
    (λ payloads holds. c.append.ensures.any_moment payloads holds) f c.in_err-append.ensures.faults c.in_err-append.ensures.leaves)

pub returns-clause-adds : goal.returns-clause-adds
returns-clause-adds g c =
    let D = g.D.Disk in
    let j = c.args.journal.now in
    let w = c.args.last.now.weights in
    let before = c.args.last.now.image in
    let e = c.args.event.now in
    let image = image_in g.R.ScriptThread.stance c.args.build.now in
    let q = payload.Whole e image in
    let p = c.as_slice.result.now in
    let spelled = subst (λ (b : List ℕ). SpellsDue j.len q (Ok b)) (sym c.as_slice.ensures) (subst (λ (i : Image). SpellsDue j.len (payload.Whole e i) (Ok c.in_ok-payload.payload)) c.in-Ok.ensures.here (subst (λ (n : ℕ). SpellsDue n (payload.Whole e c.in-Ok.image) (Ok c.in_ok-payload.payload)) c.len.ensures c.in_ok-payload.ensures)) in
    subst (λ (v : Weights). AddDone D w before e image j c.append.new.journal v (Ok tt)) (sym (c.weights_with-last.ensures ∙ ap (weights_with w) (c.as_slice-2.ensures ∙ sym c.as_slice.ensures)))
    (was_added D w before e image j c.append.new.journal q (due_is w before e image None c.requires.due) p spelled.0 spelled.1
    (λ payloads holds. c.append.ensures.any_moment payloads holds) tt c.in_ok-append.ensures.leaves (λ payloads holds. c.in_ok-append.ensures.acknowledged payloads holds))

pub returns-clause-last : goal.returns-clause-last
returns-clause-last g c = ap (λ (i : Image). Some i) c.in-Ok.ensures.here

pub returns-clause-image : goal.returns-clause-image
returns-clause-image g c = λ no. c.in-Ok.ensures.image
