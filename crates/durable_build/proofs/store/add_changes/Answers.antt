use Rattle.std.proofs.Common.{◌≡◌, ◌∙◌, ◌+◌, ◌^◌, ◌≤◌, ℕ, List, Option, Some, Ok, Err, refl, sym, ap, subst}
use Rattle.field_form.specs.Forms.{Spells}
use Rattle.delta_records.specs.Lower.record_form.Sizes.{size_in}
use Rattle.image_form.specs.declared.image.Image.{Image}
use Rattle.model_run.specs.declared.event.Event.{Event}
use Rattle.delta_records.specs.Payloads.{next_image, payload_form}
use Rattle.delta_records.specs.declared.payload.Payload.TheVariants as payload
use Rattle.delta_records.specs.declared.weights.Weights.{Weights}
use Rattle.durable_build.specs.Adding.{AddDone, HasRoom}
use Rattle.durable_build.specs.Kinds.{weights_with}
use Rattle.durable_build.proofs.AddLemmas.{due_is, due_leads, not_added, not_spelled, room_refused, short_there, spelled_there, was_added}
use Rattle.durable_build.proofs.LoadLemmas.{passes_on}
use Rattle.durable_build.proofs.ShortChanges.{short_changed}
use Rattle.durable_build.proofs.store.add_changes.Goals as goal

pub returns-in-Err-clause-adds : goal.returns-in-Err-clause-adds
returns-in-Err-clause-adds g c = λ image due.
    let D = g.D.Disk in
    let j = c.args.journal.now in
    let q = payload.Changed c.args.event.now c.args.changes in
    let f = c.in-Err.fault in
    not_spelled D c.args.last.now.weights c.args.last.now.image c.args.event.now image j j q
    (due_is c.args.last.now.weights c.args.last.now.image c.args.event.now image (Some c.args.changes) due) f refl
    (room_refused j.len c.changes_size.result q f c.changes_size.ensures (subst (λ (n : ℕ). HasRoom n c.changes_size.result (Err f)) c.len.ensures c.in-Err.ensures))

pub write_payload-requires : goal.write_payload-requires
write_payload-requires g c =
    let due = c.requires.due in
    let changes = c.args.changes in
    let leads = due_leads c.args.last.now.weights c.args.last.now.image due.0 changes due.2 in
    let size = c.changes_size.ensures ∙ ap (λ (e : Event). size_in payload_form (payload.Changed e changes)) (sym c.in-Ok.ensures) in
    short_changed c.in-Ok.event leads.0 due.0 changes leads.1 due.1 (short_there c.len.result c.changes_size.result (payload.Changed c.in-Ok.event changes) size c.in_default.ensures)

pub returns-in_err-append-clause-adds : goal.returns-in_err-append-clause-adds
returns-in_err-append-clause-adds g c = λ image due.
    let D = g.D.Disk in
    let j = c.args.journal.now in
    let w = c.args.last.now.weights in
    let before = c.args.last.now.image in
    let e = c.args.event.now in
    let q = payload.Changed e c.args.changes in
    let f = c.in_err-append.field-0.0 in
    let p = c.as_slice.result.now in
    let spells : Spells payload_form q p = subst (λ (b : List ℕ). Spells payload_form q b) (sym c.as_slice.ensures) (subst (λ (x : Event). Spells payload_form (payload.Changed x c.args.changes) c.in-Ok-write_payload.bytes) c.in-Ok.ensures c.in-Ok-write_payload.ensures) in
    let spelled = spelled_there j.len c.changes_size.result q p c.changes_size.ensures (subst (λ (n : ℕ). n + (5 + c.changes_size.result) ≤ 2 ^ 30) c.len.ensures c.in_default.ensures) spells in
    passes_on c.from_residual.result f (AddDone D w before e image j c.append.new.journal w) c.from_residual.ensures.1
    (not_added D w before e image j c.append.new.journal q (due_is w before e image (Some c.args.changes) due) p spelled.0 spelled.1
    (λ payloads holds. c.append.ensures.any_moment payloads holds) f c.in_err-append.ensures.faults c.in_err-append.ensures.leaves)

pub returns-clause-adds : goal.returns-clause-adds
returns-clause-adds g c = λ image due.
    let D = g.D.Disk in
    let j = c.args.journal.now in
    let w = c.args.last.now.weights in
    let before = c.args.last.now.image in
    let e = c.args.event.now in
    let q = payload.Changed e c.args.changes in
    let p = c.as_slice.result.now in
    let spells : Spells payload_form q p = subst (λ (b : List ℕ). Spells payload_form q b) (sym c.as_slice.ensures) (subst (λ (x : Event). Spells payload_form (payload.Changed x c.args.changes) c.in-Ok-write_payload.bytes) c.in-Ok.ensures c.in-Ok-write_payload.ensures) in
    let spelled = spelled_there j.len c.changes_size.result q p c.changes_size.ensures (subst (λ (n : ℕ). n + (5 + c.changes_size.result) ≤ 2 ^ 30) c.len.ensures c.in_default.ensures) spells in
    subst (λ (v : Weights). AddDone D w before e image j c.append.new.journal v (Ok tt)) (sym (c.weights_with-last.ensures ∙ ap (weights_with w) (c.as_slice-2.ensures ∙ sym c.as_slice.ensures)))
    (was_added D w before e image j c.append.new.journal q (due_is w before e image (Some c.args.changes) due) p spelled.0 spelled.1
    (λ payloads holds. c.append.ensures.any_moment payloads holds) tt c.in_ok-append.ensures.leaves (λ payloads holds. c.in_ok-append.ensures.acknowledged payloads holds))

pub returns-clause-last : goal.returns-clause-last
returns-clause-last g c = λ image due.
    let made : next_image c.take.result (payload.Changed c.in-Ok.event c.args.changes) ≡ Some c.in-Ok-next_image.image = c.in-Ok-next_image.ensures in
    let same : c.take.result ≡ c.args.last.now.image = c.take.ensures.value in
    sym made ∙ ap (λ (o : Option Image). next_image o (payload.Changed c.in-Ok.event c.args.changes)) same ∙ due.1
