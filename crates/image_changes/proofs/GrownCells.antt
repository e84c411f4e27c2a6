-- Lists and maps that have grown.
use Rattle.std.proofs.Common.{◌≡◌, ◌∙◌, ◌<◌, ◌≤◌, ℕ, suc, Bool, true, false, List, [], ◌∷◌, ◌++◌, length, drop, take, slice_get, Option, Some, None, refl, sym, ap, subst, append_assoc, arith, cond}
use Rattle.std.specs.Prelude.{if◌then◌else◌}
use Rattle.std.specs.List.{AllByRecursion as AllAre, IsDistinct}
use Rattle.std.specs.Map.{keys_of, lookup}
use Rattle.std.specs.Option.{is_none, option_map}
use Rattle.std.proofs.lemmas.List.{append-nil, append_cancel_left, take-append-drop}
use Rattle.std.proofs.lemmas.Map.Keys.{IsDistinct-tail}
use Rattle.field_form.specs.Rules.{is_new}
use Rattle.model_values.specs.Keys.{same_key}
use Rattle.model_values.specs.KeyLaws.{same_key_decides}
use Rattle.model_values.specs.declared.cell.Cell.{Cell}
use Rattle.model_values.specs.declared.cell.Cell.TheVariants as cell
use Rattle.model_values.specs.declared.key.Key.{Key}
use Rattle.model_values.specs.declared.value.Value.{Value}
use Rattle.delta_form.specs.Applying.{◌>>=◌, in_turn}
use Rattle.delta_form.specs.After.{put_entry, written_cell}
use Rattle.delta_form.specs.declared.delta.WrittenCell.{WrittenCell}
use Rattle.delta_form.specs.declared.delta.WrittenCell.TheVariants as now
use Rattle.delta_form.proofs.PutCells.{item_at}
use Rattle.image_changes.specs.Growing.{CellChanges}
use Rattle.image_changes.specs.Least.{CannotGrowTo, IsShortCell}

-- ---- keys

abbrev Entry : Type 0
Entry = Key × Value

other_key : (a b : Key) → same_key a b ≡ false → same_key b a ≡ false
other_key a b h = go (same_key b a) refl
  where
    go : (t : Bool) → same_key b a ≡ t → t ≡ false
    go false e = refl
    go true e =
        let same : b ≡ a = (same_key_decides b a).0 e in
        let back : same_key a b ≡ true = (same_key_decides a b).1 (sym same) in absurd cc

-- of keys that stand once, those behind a front do
pub distinct_behind : (front rest : List Entry) → IsDistinct same_key (keys_of (front ++ rest)) → IsDistinct same_key (keys_of rest)
distinct_behind [] rest distinct = distinct
distinct_behind (e ∷ front) rest distinct = distinct_behind front rest (IsDistinct-tail same_key e.0 (keys_of (front ++ rest)) distinct)

-- an entry's key is none of those in front of it
pub key_is_new : (front : List Entry) (e : Entry) (rest : List Entry) → IsDistinct same_key (keys_of (front ++ e ∷ rest)) → lookup (same_key e.0) front ≡ None
unfolding IsDistinct
key_is_new [] e rest distinct = refl
key_is_new (x ∷ front) e rest distinct =
    ap (λ (b : Bool). cond b (Some x.1) (lookup (same_key e.0) front)) (other_key x.0 e.0 (first front distinct.0))
    ∙ key_is_new front e rest distinct.1
  where
    first : (front : List Entry) → AllAre (λ k. same_key x.0 k ≡ false) (keys_of (front ++ e ∷ rest)) → same_key x.0 e.0 ≡ false
    first [] all = all.0
    first (y ∷ front) all = first front all.1

-- one entry more was copied
pub copied_on : (entries copies next : List Entry) (first place : ℕ) → IsDistinct same_key (keys_of entries) → place < length entries → copies ++ drop place entries ≡ drop first entries
    → ((x : Entry) → slice_get entries place ≡ Some x → lookup (same_key x.0) copies ≡ None → next ≡ copies ++ x ∷ []) → next ++ drop (suc place) entries ≡ drop first entries
copied_on entries copies next first place distinct lt so_far copied =
    let item = item_at entries place lt in
    let all : copies ++ item.0 ∷ drop (suc place) entries ≡ drop first entries = ap (λ (l : List Entry). copies ++ l) (sym item.2) ∙ so_far in
    let behind = distinct_behind (take first entries) (drop first entries) (subst (λ (l : List Entry). IsDistinct same_key (keys_of l)) (sym (take-append-drop first entries)) distinct) in
    let new = key_is_new copies item.0 (drop (suc place) entries) (subst (λ (l : List Entry). IsDistinct same_key (keys_of l)) (sym all) behind) in
    ap (λ (l : List Entry). l ++ drop (suc place) entries) (copied item.0 item.1 new) ∙ append_assoc copies (item.0 ∷ []) (drop (suc place) entries) ∙ all

-- entries of other keys are put behind
pub entries_put : (had es : List Entry) → IsDistinct same_key (keys_of (had ++ es)) → in_turn put_entry es had ≡ Some (had ++ es)
entries_put had [] distinct = ap (λ (l : List Entry). Some l) (sym (append-nil had))
entries_put had (e ∷ es) distinct =
    ap (λ (o : Option Value). (if is_none o then Some (had ++ e ∷ []) else None) >>= in_turn put_entry es) (key_is_new had e es distinct)
    ∙ entries_put (had ++ e ∷ []) es (subst (λ (l : List Entry). IsDistinct same_key (keys_of l)) (sym (append_assoc had (e ∷ []) es)) distinct)
    ∙ ap (λ (l : List Entry). Some l) (append_assoc had (e ∷ []) es)

-- what they make has them behind
pub entries_behind : (had es all : List Entry) → in_turn put_entry es had ≡ Some all → all ≡ had ++ es
entries_behind had [] all is = let same : had ≡ all = cc in sym same ∙ sym (append-nil had)
entries_behind had (e ∷ es) all is = go (entries_behind (had ++ e ∷ []) es all) (is_new had e.0) is
  where
    go : (in_turn put_entry es (had ++ e ∷ []) ≡ Some all → all ≡ (had ++ e ∷ []) ++ es) → (b : Bool) → ((if b then Some (had ++ e ∷ []) else None) >>= in_turn put_entry es) ≡ Some all → all ≡ had ++ e ∷ es
    go next true made = next made ∙ append_assoc had (e ∷ []) es
    go next false made = absurd cc

-- ---- what has grown

abbrev Values : Type 0
Values = List Value

pub list_now : (values : Values) (stood : Option Cell) (n : Cell) → written_cell (now.GrownList values) stood ≡ Some n → (had : Values) × (stood ≡ Some (cell.List had)) × (n ≡ cell.List (had ++ values))
list_now values None n is = absurd cc
list_now values (Some (cell.List had)) n is = (had, refl, cc)
list_now values (Some c) n is = absurd cc

pub map_now : (entries : List Entry) (stood : Option Cell) (n : Cell) → written_cell (now.GrownMap entries) stood ≡ Some n → (had : List Entry) × (stood ≡ Some (cell.Map had)) × (n ≡ cell.Map (had ++ entries))
map_now entries None n is = absurd cc
map_now entries (Some (cell.Map had)) n is = go (in_turn put_entry entries had) refl is
  where
    go : (o : Option (List Entry)) → in_turn put_entry entries had ≡ o → option_map (λ all. cell.Map all) o ≡ Some n → (front : List Entry) × (Some (cell.Map had) ≡ Some (cell.Map front)) × (n ≡ cell.Map (front ++ entries))
    go None e made = absurd cc
    go (Some all) e made =
        let same : cell.Map all ≡ n = cc in
        (had, refl, sym same ∙ ap (λ (l : List Entry). cell.Map l) (entries_behind had entries all e))
map_now entries (Some c) n is = absurd cc

list_grows : (had more has : Values) → has ≡ had ++ more → written_cell (now.GrownList more) (Some (cell.List had)) ≡ Some (cell.List has)
list_grows had more has is = ap (λ (l : Values). Some (cell.List l)) (sym is)

map_grows : (had es has : List Entry) → IsDistinct same_key (keys_of has) → has ≡ had ++ es → written_cell (now.GrownMap es) (Some (cell.Map had)) ≡ Some (cell.Map has)
map_grows had es has distinct is =
    ap (option_map (λ all. cell.Map all)) (entries_put had es (subst (λ (l : List Entry). IsDistinct same_key (keys_of l)) is distinct))
    ∙ ap (λ (l : List Entry). Some (cell.Map l)) (sym is)

-- ---- what cannot

same_lists_of : (vs ws : Values) → cell.List vs ≡ cell.List ws → vs ≡ ws
same_lists_of vs ws is = cc

same_maps_of : (es fs : List Entry) → cell.Map es ≡ cell.Map fs → es ≡ fs
same_maps_of es fs is = cc

list_cannot : (had has : Values) → ((more : Values) → ¬ (has ≡ had ++ more)) → CannotGrowTo (Some (cell.List had)) (cell.List has)
list_cannot had has none = (
  λ values is. let made : cell.List (had ++ values) ≡ cell.List has = cc in none values (sym (same_lists_of (had ++ values) has made)),
  λ entries is. absurd cc,
)

map_cannot : (had has : List Entry) → ((more : List Entry) → ¬ (has ≡ had ++ more)) → CannotGrowTo (Some (cell.Map had)) (cell.Map has)
map_cannot had has none = (
  λ values is. absurd cc,
  λ entries is.
      let made = map_now entries (Some (cell.Map had)) (cell.Map has) is in
      let stands : Some (cell.Map had) ≡ Some (cell.Map made.0) = made.1 in
      let stood : cell.Map had ≡ cell.Map made.0 = cc in
      none entries (same_maps_of has (made.0 ++ entries) made.2 ∙ ap (λ (l : List Entry). l ++ entries) (sym (same_maps_of had made.0 stood))),
)

-- ---- how a list or a map that stood is written

module _ {X : Type 0} (whole : List X → Cell) (one : (xs ys : List X) → whole xs ≡ whole ys → xs ≡ ys) where
  unlike_longer : (had more has : List X) → has ≡ had ++ more → 1 ≤ length more → ¬ (Some (whole had) ≡ Some (whole has))
  unlike_longer had more has is some same =
      let stood : whole had ≡ whole has = cc in
      let none : more ≡ [] = append_cancel_left had more [] (sym is ∙ sym (one had has stood) ∙ sym (append-nil had)) in
      omega (arith, some, ap length none)

  unlike_other : (had has : List X) → ((more : List X) → ¬ (has ≡ had ++ more)) → ¬ (Some (whole had) ≡ Some (whole has))
  unlike_other had has none same = let stood : whole had ≡ whole has = cc in none [] (sym (one had has stood) ∙ sym (append-nil had))

  -- nothing stands behind what it had
  stands : (had more has : List X) → has ≡ had ++ more → length more < 1 → CellChanges (Some (whole had)) (whole has) None
  stands had [] has is few = ap (λ l. Some (whole l)) (sym (is ∙ append-nil had))
  stands had (x ∷ more) has is few = absurd (omega (arith, few))

pub list_grown : (had more has : Values) → has ≡ had ++ more → 1 ≤ length more → CellChanges (Some (cell.List had)) (cell.List has) (Some (now.GrownList more))
list_grown had more has is some = (unlike_longer (λ l. cell.List l) same_lists_of had more has is some, (list_grows had more has is, tt))

pub list_replaced : (had has : Values) → ((more : Values) → ¬ (has ≡ had ++ more)) → CellChanges (Some (cell.List had)) (cell.List has) (Some (now.Whole (cell.List has)))
list_replaced had has none = (unlike_other (λ l. cell.List l) same_lists_of had has none, (refl, list_cannot had has none))

pub list_stands : (had more has : Values) → has ≡ had ++ more → length more < 1 → CellChanges (Some (cell.List had)) (cell.List has) None
list_stands = stands (λ l. cell.List l) same_lists_of

pub map_grown : (had es has : List Entry) → IsDistinct same_key (keys_of has) → has ≡ had ++ es → 1 ≤ length es → CellChanges (Some (cell.Map had)) (cell.Map has) (Some (now.GrownMap es))
map_grown had es has distinct is some = (unlike_longer (λ l. cell.Map l) same_maps_of had es has is some, (map_grows had es has distinct is, tt))

pub map_replaced : (had has : List Entry) → ((more : List Entry) → ¬ (has ≡ had ++ more)) → CellChanges (Some (cell.Map had)) (cell.Map has) (Some (now.Whole (cell.Map has)))
map_replaced had has none = (unlike_other (λ l. cell.Map l) same_maps_of had has none, (refl, map_cannot had has none))

pub map_stands : (had es has : List Entry) → has ≡ had ++ es → length es < 1 → CellChanges (Some (cell.Map had)) (cell.Map has) None
map_stands = stands (λ l. cell.Map l) same_maps_of

-- ---- one cell is written in one way

pub one_way : (v w : WrittenCell) (stood : Option Cell) (n : Cell) → written_cell v stood ≡ Some n → written_cell w stood ≡ Some n → IsShortCell v stood → IsShortCell w stood → v ≡ w
one_way (now.Whole c) (now.Whole d) stood n first second short also = let both : Some c ≡ Some d = first ∙ sym second in cc
one_way (now.Whole c) (now.GrownList values) stood n first second short also = absurd (short.0 values (second ∙ sym first))
one_way (now.Whole c) (now.GrownMap entries) stood n first second short also = absurd (short.1 entries (second ∙ sym first))
one_way (now.GrownList values) (now.Whole d) stood n first second short also = absurd (also.0 values (first ∙ sym second))
one_way (now.GrownMap entries) (now.Whole d) stood n first second short also = absurd (also.1 entries (first ∙ sym second))
one_way (now.GrownList values) (now.GrownMap entries) stood n first second short also =
    let a = list_now values stood n first in
    let b = map_now entries stood n second in
    let no : Some (cell.List a.0) ≡ Some (cell.Map b.0) = sym a.1 ∙ b.1 in absurd cc
one_way (now.GrownMap entries) (now.GrownList values) stood n first second short also =
    let a = map_now entries stood n first in
    let b = list_now values stood n second in
    let no : Some (cell.Map a.0) ≡ Some (cell.List b.0) = sym a.1 ∙ b.1 in absurd cc
one_way (now.GrownList vs) (now.GrownList ws) stood n first second short also =
    let a = list_now vs stood n first in
    let b = list_now ws stood n second in
    let stands : Some (cell.List a.0) ≡ Some (cell.List b.0) = sym a.1 ∙ b.1 in
    let had : cell.List a.0 ≡ cell.List b.0 = cc in
    let has = same_lists_of (a.0 ++ vs) (b.0 ++ ws) (sym a.2 ∙ b.2) in
    ap (λ (l : Values). now.GrownList l) (append_cancel_left a.0 vs ws (has ∙ ap (λ (l : Values). l ++ ws) (sym (same_lists_of a.0 b.0 had))))
one_way (now.GrownMap es) (now.GrownMap fs) stood n first second short also =
    let a = map_now es stood n first in
    let b = map_now fs stood n second in
    let stands : Some (cell.Map a.0) ≡ Some (cell.Map b.0) = sym a.1 ∙ b.1 in
    let had : cell.Map a.0 ≡ cell.Map b.0 = cc in
    let has = same_maps_of (a.0 ++ es) (b.0 ++ fs) (sym a.2 ∙ b.2) in
    ap (λ (l : List Entry). now.GrownMap l) (append_cancel_left a.0 es fs (has ∙ ap (λ (l : List Entry). l ++ fs) (sym (same_maps_of a.0 b.0 had))))
