use Rattle.std.proofs.Common.{◌≡◌, ◌+◌, ℕ, List, drop, ap, sym, ◌∙◌}
use Rattle.std.specs.Fmt.{is_char_start}
use Rattle.std.specs.List.{count_by}
use Rattle.std.proofs.lemmas.List.{take_rest}
use Rattle.value_view.proofs.CharacterLemmas.{length-characters-behind}
use Rattle.value_view.proofs.characters.character_count.Goals as goal

pub returns-else-is_empty : goal.returns-else-is_empty
returns-else-is_empty c =
    let text = c.args.text.now in
    let counted : c.start_count.result ≡ count_by is_char_start (drop 1 text) = c.start_count.ensures.count ∙ ap (λ (s : List ℕ). count_by is_char_start s) (take_rest text 1) in
    ap (λ n. 1 + n) counted ∙ sym (length-characters-behind text c.if-is_empty.ensures)
