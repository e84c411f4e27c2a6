-- The lexer's items, the innermost last, and the list of what is open, the innermost first.
use Rattle.std.proofs.Common.{◌≡◌, ℕ, ◌+◌, List, [], ◌∷◌, ◌++◌, length, take, map, reverse, sym, ap, ◌∙◌, get_or, arith}
use Rattle.std.proofs.lemmas.List.{map-append, reverse-append, take_more, take_all}
use Rattle.groovy_lex.specs.declared.open.Opened.{Opened}
use Rattle.groovy_lex.specs.OpenStack.{open_of, opens}

pub opens_snoc : (items : List Opened) (o : Opened) → opens (items ++ o ∷ []) ≡ open_of o ∷ opens items
opens_snoc items o = ap reverse (map-append open_of items (o ∷ [])) ∙ reverse-append (map open_of items) (open_of o ∷ [])

-- The list by its last item.
pub opens_last : (items : List Opened) (n : ℕ) (d : Opened) → length items ≡ n + 1 → opens items ≡ open_of (get_or items n d) ∷ opens (take n items)
opens_last items n d h = ap opens (sym (take_all (n + 1) items (omega (arith, h))) ∙ take_more items n d (omega (arith, h))) ∙ opens_snoc (take n items) (get_or items n d)
