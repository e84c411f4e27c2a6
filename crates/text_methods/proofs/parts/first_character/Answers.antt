use Rattle.std.proofs.Common.{sym, subst, List, ℕ}
use Rattle.text_methods.proofs.PartLemmas.{First, first_is}
use Rattle.text_methods.proofs.parts.first_character.Goals as goal

pub returns : goal.returns
returns c =
    let first : First c.args.text.now c.character_range.result.now = subst (λ (x : List ℕ). First c.args.text.now x) (sym c.character_range.ensures) (first_is c.args.text.now c.requires) in
    record { first = first.is; front = first.front; within = first.within; some = first.some }
