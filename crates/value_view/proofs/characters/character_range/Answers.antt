use Rattle.std.proofs.Common.{◌≡◌, ◌-◌, ℕ, List, length, drop, take, ap, ap₂, ◌∙◌}
use Rattle.std.proofs.lemmas.List.{take_rest}
use Rattle.cell_heap.specs.Places.{place_of_character}
use Rattle.value_view.proofs.CharacterLemmas.{part_of-by_places}
use Rattle.value_view.proofs.characters.character_range.Goals as goal

pub returns : goal.returns
returns c =
    let text = c.args.text.now in
    let place = c.place_of_character.result in
    let from = place_of_character text c.args.from in
    let behind : take (length text - place) (drop place text) ≡ drop from text = take_rest text place ∙ ap (λ (p : ℕ). drop p text) c.place_of_character.ensures.place in
    let find : List ℕ → ℕ → ℕ = λ s n. place_of_character s n in
    let count : c.place_of_character-2.result ≡ place_of_character (drop from text) (c.args.to - c.args.from) = c.place_of_character-2.ensures.place ∙ ap₂ find behind c.saturating_sub.ensures in
    let cut : ℕ → List ℕ → List ℕ = λ n s. take n s in
    ap₂ cut count behind ∙ part_of-by_places text c.args.from c.args.to
