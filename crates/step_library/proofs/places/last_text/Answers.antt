use Rattle.std.proofs.Common.{◌∙◌, sym}
use Rattle.step_library.proofs.ContextLaws.{if_ok, text_at}
use Rattle.step_library.proofs.places.last_text.Goals as goal

pub returns : goal.returns
returns c = if_ok _ _ c.from_slice.result (λ t is. is ∙ c.as_slice.ensures ∙ c.text-item.is ∙ sym (text_at c.args.texts.now c.text-item.result c.in-len1-up.len_at_least)) c.from_slice.ensures
