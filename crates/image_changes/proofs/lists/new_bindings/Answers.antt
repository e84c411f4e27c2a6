use Rattle.std.proofs.Common.{refl, sym, subst, arith, add-one}
use Rattle.std.proofs.lemmas.Option.{slice_get_read}
use Rattle.image_changes.specs.Parts.{PutsBindings}
use Rattle.image_changes.proofs.Reaching.{binding_noted, bindings_end, passed_within}
use Rattle.image_changes.proofs.Bindings.{among_end, among_noted, none_new}
use Rattle.image_changes.proofs.lists.new_bindings.Goals as goal

pub loop-binding-preserved : goal.loop-binding-preserved
loop-binding-preserved c =
    let now = c.args.now.now in
    let at = c.loop-binding.binding-index in
    let item = c.binding-item.result in
    let noted = c.in_ok-place.ensures in
    rw add-one (record {
      within = passed_within c.args.before.now c.loop-binding.place c.in_ok-place.place item c.loop-binding.news c.note_binding.new.news noted c.loop-binding.invariant.within;
      among = among_noted c.args.before.now now c.loop-binding.place at c.in_ok-place.place item c.loop-binding.news c.note_binding.new.news (slice_get_read now _ at item refl c.loop-binding-test.true c.binding-item.is) noted c.loop-binding.invariant.among;
      reach = binding_noted c.args.before.now now c.loop-binding.place at c.in_ok-place.place item c.loop-binding.news c.note_binding.new.news c.requires.rise (slice_get_read now _ at item refl c.loop-binding-test.true c.binding-item.is) noted c.loop-binding.invariant.reach;
    })

pub returns : goal.returns
returns c =
    let all = among_end c.args.before.now c.args.now.now c.loop-binding.place c.loop-binding.binding-index (omega arith) c.loop-binding.invariant.among in
    bindings_end c.args.before.now c.args.now.now c.loop-binding.place c.loop-binding.binding-index c.loop-binding.news all (omega arith) c.loop-binding.invariant.reach

pub returns-then-now-before : goal.returns-then-now-before
returns-then-now-before c = subst (PutsBindings c.args.before.now c.args.now.now) (sym c.new-news.ensures) (none_new c.args.before.now c.args.now.now (omega (arith, c.if-now-before.true)) c.requires.among)
