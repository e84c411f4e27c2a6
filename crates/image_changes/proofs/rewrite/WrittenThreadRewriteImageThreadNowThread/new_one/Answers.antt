use Rattle.std.proofs.Common.{◌≡◌, ◌∙◌, Some, None, ap}
use Rattle.std.proofs.lemmas.Result.{IfOk-weaker}
use Rattle.delta_form.specs.After.{written_thread}
use Rattle.delta_form.specs.declared.delta.WrittenThread.{WrittenThread}
use Rattle.image_changes.specs.Growing.{with_front}
use Rattle.image_changes.specs.Seen.{thread_seen}
use Rattle.image_changes.proofs.KeptFrames.{written_new}
use Rattle.image_changes.proofs.rewrite.WrittenThreadRewriteImageThreadNowThread.new_one.Goals as goal

pub returns : goal.returns
returns c =
    let item = thread_seen c.args.item.now in
    record {
      number = IfOk-weaker c.new_thread.result (λ (w : WrittenThread). w ≡ with_front item 0) (λ (w : WrittenThread). w.number ≡ item.number) (λ w is. ap (λ (v : WrittenThread). v.number) is) c.new_thread.ensures;
      made = IfOk-weaker c.new_thread.result (λ (w : WrittenThread). w ≡ with_front item 0) (λ (w : WrittenThread). written_thread w None ≡ Some (Some item)) (λ w is. ap (λ (v : WrittenThread). written_thread v None) is ∙ written_new item) c.new_thread.ensures;
    }
