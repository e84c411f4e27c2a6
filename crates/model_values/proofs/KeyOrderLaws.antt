-- What the places of entries in the order of their keys say of look-ups, and what a change of the entries leaves of them.
use Rattle.std.proofs.Common.{◌≡◌, ◌≢◌, ℕ, zero, suc, ◌+◌, ◌-◌, ◌<◌, ◌≤◌, Bool, true, false, cond, List, [], ◌∷◌, ◌++◌, map, length, get_or, set, take, drop, insert, remove, slice_get, position, refl, sym, ap, ◌∙◌, subst, arith, Some, None, Option, Result, Ok, Err}
use Rattle.std.specs.List.{IsDistinct, HoldsAt}
use Rattle.std.specs.Prelude.{pos, option_map, IfErr}
use Rattle.std.specs.Result.{result_ok}
use Rattle.std.specs.List.Sorted.{IsSortedBy, IsStrictlySortedBy, IsNonDecreasingBy, IsPartitionPoint, IsSearchInRange, IsBinarySearchResult}
use Rattle.std.specs.Map.{keys_of, values_of, lookup, remove_entry}
use Rattle.std.specs.Ordering.{ordering_index, ordering_reverse, is_lt, is_eq}
use Rattle.std.specs.declared.cmp.Ordering.TheVariants.{Less, Equal, Greater}
use Rattle.std.proofs.lemmas.Bool.{false_from_ne_true}
use Rattle.std.proofs.lemmas.Bool.Decides.{nat_tests}
use Rattle.std.proofs.lemmas.Cmp.{tied_itself}
use Rattle.std.proofs.lemmas.List.{map-append, take-map, drop-map, get_or-map, get_or_default, get_or_append_left, get_or_push, length-map, length_push}
use Rattle.std.proofs.lemmas.List.Edits.{length-insert, get_or-insert_below, get_or-insert_at, get_or-insert_above, length-remove, get_or-remove_below, get_or-remove_above}
use Rattle.std.proofs.lemmas.List.Elements.{recursion_from_All}
use Rattle.std.proofs.lemmas.List.Sorted.{searchable_from_sorted}
use Rattle.std.proofs.lemmas.Map.Entries.{length-keys_of}
use Rattle.std.proofs.lemmas.Map.Keys.{Less-from_sorted, IsDistinct-from_apart, sorted_from_all_adjacent}
use Rattle.std.proofs.lemmas.Option.{slice_get-get_or}
use Rattle.indexmap.specs.IndexMap.{insert_entry, set_value_at}
use Rattle.indexmap.proofs.MapLemmas.{index-first, index-absent, absent_from_lookup, Found-position, Missing-position, insert_entry-first, insert_entry-absent, remove_entry-first}
use Rattle.indexmap.proofs.RemoveLemmas.{own_first}
use native.Mathlib.Decide.{dec_lt}
use Rattle.model_values.specs.declared.key.Key.{Key}
use Rattle.model_values.specs.declared.key.Key.TheVariants.{Int as IntKey}
use Rattle.model_values.specs.declared.value.Value.{Value}
use Rattle.model_values.specs.declared.value.Value.TheVariants.{Null}
use Rattle.model_values.specs.Keys.{same_key, key_cmp}
use Rattle.model_values.specs.KeyLaws.{same_key_decides, same_key_equiv, same_key_ties, key_cmp_total}
use Rattle.model_values.specs.KeyOrder.{key_at, IsKeyOrder, compare_from, place_cmp, lowered}

-- no key is less than one that it is
not_less : (a b : Key) → a ≡ b → key_cmp a b ≡ Less → ⊥
not_less a b same less =
    let tied : key_cmp b b ≡ Equal = tied_itself key_cmp_total b in
    let e : Equal ≡ Less = sym tied ∙ ap (λ k. key_cmp k b) (sym same) ∙ less in
    cc

-- keys that are the same as these compare so
alike : (a b c d : Key) → a ≡ c → b ≡ d → key_cmp c d ≡ Less → key_cmp a b ≡ Less
alike a b c d p q less = cc

greater_turned : (a b : Key) → key_cmp a b ≡ Greater → key_cmp b a ≡ Less
greater_turned a b greater = key_cmp_total.antisymm b a ∙ ap ordering_reverse greater

-- where the elements stood that a list has without one of them
record Kept {X : Type 0} (xs : List X) (at k : ℕ) : Type 0 where
  from : ℕ
  is : (d : X) → get_or (remove xs at) k d ≡ get_or xs from d
  low : k < at → from ≡ k
  high : at ≤ k → from ≡ k + 1

kept : {X : Type 0} (xs : List X) (at k : ℕ) → at < length xs → Kept xs at k
kept xs at k within =
    elim (dec_lt k at) [
      | yes low ↦ record { from = k; is = λ d. get_or-remove_below xs at d k low within; low = λ _. refl; high = λ high. absurd (omega arith) }
      | no far ↦ record { from = k + 1; is = λ d. get_or-remove_above xs at d k (omega arith) within; low = λ low. absurd (omega arith); high = λ _. refl }
    ]

pub lowered_low : (gone place : ℕ) → place ≤ gone → lowered gone place ≡ place
lowered_low gone place low = grind (arith, nat_tests)

pub lowered_high : (gone place : ℕ) → gone < place → lowered gone place ≡ place - 1
lowered_high gone place high = grind (arith, nat_tests)

module _ (keys : List Key) (places : List ℕ) (is : IsKeyOrder keys places) where
  -- a place before another has the lesser key
  less : (i j : ℕ) (d : ℕ) → i < j → j < length places → key_cmp (key_at keys (get_or places i d)) (key_at keys (get_or places j d)) ≡ Less
  less i j d low short =
      let e : Key = IntKey (pos 0) in
      let one = get_or-map (key_at keys) places i d e (omega arith) in
      let other = get_or-map (key_at keys) places j d e short in
      alike _ _ _ _ (sym one) (sym other) (Less-from_sorted key_cmp (map (key_at keys) places) i j e is.ascending low (omega (arith, length-map places (key_at keys))))

  -- two places with the same key are one
  one_place : (p q : ℕ) → p < length keys → q < length keys → key_at keys p ≡ key_at keys q → p ≡ q
  one_place p q in_p in_q same =
      let a = is.each p in_p in
      let b = is.each q in_q in
      let at_a : get_or places a.0 0 ≡ p = get_or_default places a.0 0 p a.1 ∙ a.2 in
      let at_b : get_or places b.0 0 ≡ q = get_or_default places b.0 0 q b.1 ∙ b.2 in
      let same_there : key_at keys (get_or places a.0 0) ≡ key_at keys (get_or places b.0 0) = ap (key_at keys) at_a ∙ same ∙ ap (key_at keys) (sym at_b) in
      elim (dec_lt a.0 b.0) [
        | yes low ↦ absurd (not_less _ _ same_there (less a.0 b.0 0 low b.1))
        | no high ↦
            elim (dec_lt b.0 a.0) [
              | yes low ↦ absurd (not_less _ _ (sym same_there) (less b.0 a.0 0 low a.1))
              | no flat ↦ let one : a.0 ≡ b.0 = omega arith in sym at_a ∙ ap (λ k. get_or places k 0) one ∙ at_b
            ]
      ]

  -- and so no two keys are the same
  pub keys_differ : IsDistinct same_key keys
  keys_differ = IsDistinct-from_apart same_key keys (λ i j d low short.
      false_from_ne_true (same_key (get_or keys i d) (get_or keys j d)) (λ same.
      let e : Key = IntKey (pos 0) in
      let there : key_at keys i ≡ key_at keys j = get_or_default keys i e d (omega arith) ∙ (same_key_decides (get_or keys i d) (get_or keys j d)).0 same ∙ get_or_default keys j d e short in
      let one = one_place i j (omega arith) short there in
      omega arith))

  compared : (key : Key) (place : ℕ) → place < length keys → place_cmp keys key place ≡ key_cmp (key_at keys place) key
  compared key place within = ap (λ o. compare_from o key) (slice_get-get_or keys place (IntKey (pos 0)) within)

  -- the comparisons with a key rise along the places
  pub rise : (key : Key) → IsNonDecreasingBy (λ place. ordering_index (place_cmp keys key place)) places
  rise key i j d le short =
      let sorted : IsSortedBy (λ a b. is_lt (key_cmp (key_at keys a) (key_at keys b))) places =
      λ k e low more. ap is_lt (key_cmp_total.antisymm (key_at keys (get_or places (k + 1) e)) (key_at keys (get_or places k e)) ∙ ap ordering_reverse (less k (k + 1) e (omega arith) more)) in
      let rises = searchable_from_sorted key_cmp_total (key_at keys) places key sorted i j d le short in
      let one = ap ordering_index (compared key (get_or places i d) (is.within i d (omega arith))) in
      let other = ap ordering_index (compared key (get_or places j d) (is.within j d short)) in
      omega (arith, rises, one, other)

  -- a key between the places before and those from there on is none of theirs
  apart : (key : Key) (at : ℕ) → IsPartitionPoint (λ place. place_cmp keys key place ≡ Less) (λ place. place_cmp keys key place ≡ Greater) places at
      → (place : ℕ) → place < length keys → same_key key (key_at keys place) ≡ false
  apart key at parts place within = false_from_ne_true (same_key key (key_at keys place)) (λ same.
      let a = is.each place within in
      let tied : place_cmp keys key place ≡ Equal = compared key place within ∙ ap (key_cmp (key_at keys place)) ((same_key_decides key (key_at keys place)).0 same) ∙ tied_itself key_cmp_total (key_at keys place) in
      elim (dec_lt a.0 at) [
        | yes low ↦ let lies : place_cmp keys key place ≡ Less = ap (place_cmp keys key) (sym a.2) ∙ parts.0 a.0 place (omega arith) low in cc
        | no high ↦ let lies : place_cmp keys key place ≡ Greater = ap (place_cmp keys key) (sym a.2) ∙ parts.1 a.0 place (omega arith) a.1 in cc
      ])

  -- the key at the place that was found
  same_there : (key : Key) (place : ℕ) → place < length keys → place_cmp keys key place ≡ Equal → key_at keys place ≡ key
  same_there key place within equal =
      (same_key_decides (key_at keys place) key).0 (same_key_ties (key_at keys place) key ∙ ap is_eq (sym (compared key place within) ∙ equal))

no_entry : Key × Value
no_entry = (IntKey (pos 0), Null)

-- the value at a place
value_at : (es : List (Key × Value)) (at : ℕ) (d : Key × Value) → at < length es → slice_get (values_of es) at ≡ Some (get_or es at d).1
value_at [] at d within = absurd (omega arith)
value_at (x ∷ xs) zero d within = refl
value_at (x ∷ xs) (suc at) d within = value_at xs at d (omega arith)

-- ---- look-ups

module _ (es : List (Key × Value)) (places : List ℕ) (is : IsKeyOrder (keys_of es) places) (key : Key) where
  -- halving finds the place of the key
  there : (at : ℕ) → at < length places → HoldsAt (λ place. place_cmp (keys_of es) key place ≡ Equal) places at → position (same_key key) (keys_of es) ≡ Some (get_or places at 0)
  there at short equal =
      let place = get_or places at 0 in
      let e = get_or es place no_entry in
      let within : place < length es = omega (arith, is.within at 0 short, length-keys_of es) in
      let own : key_at (keys_of es) place ≡ e.0 = get_or-map (λ (p : Key × Value). p.0) es place no_entry (IntKey (pos 0)) within in
      let same : e.0 ≡ key = sym own ∙ same_there (keys_of es) places is key place (is.within at 0 short) (equal 0) in
      let first = own_first same_key same_key_equiv es place e.0 e.1 (keys_differ (keys_of es) places is) (slice_get-get_or es place no_entry within) in
      subst (λ k. position (same_key k) (keys_of es) ≡ Some place) same (index-first (same_key e.0) es place first)

  -- and else there is none
  nowhere : (at : ℕ) → IsPartitionPoint (λ place. place_cmp (keys_of es) key place ≡ Less) (λ place. place_cmp (keys_of es) key place ≡ Greater) places at → position (same_key key) (keys_of es) ≡ None
  nowhere at parts =
      index-absent (same_key key) es (recursion_from_All (λ k. same_key key k ≡ false) (keys_of es) (λ place d short.
      ap (same_key key) (get_or_default (keys_of es) place d (IntKey (pos 0)) short) ∙ apart (keys_of es) places is key at parts place short))

  pub halved : (r : Result ℕ ℕ) → IsSearchInRange r (length places) → IsBinarySearchResult (place_cmp (keys_of es) key) places r
      → option_map (λ at. get_or places at 0) (result_ok r) ≡ position (same_key key) (keys_of es)
  halved (Ok at) short equal = sym (there at short equal)
  halved (Err at) le parted = sym (nowhere at (parted (rise (keys_of es) places is key)))

module _ (key : Key) (es : List (Key × Value)) (at : ℕ) (has : Some at ≡ position (same_key key) (keys_of es)) where
  pub within : at < length es
  within = (Found-position (same_key key) es at (sym has)).within

  pub value_there : (d : Key × Value) → Some (get_or es at d).1 ≡ lookup (same_key key) es
  value_there d = sym ((Found-position (same_key key) es at (sym has)).value ∙ value_at es at d within)

  pub put_there : (value : Value) → set_value_at es at value ≡ insert_entry same_key es key value
  put_there value = sym (insert_entry-first same_key key value es at (Found-position (same_key key) es at (sym has)).first)

  pub taken_there : remove es at ≡ remove_entry (same_key key) es
  taken_there = sym (remove_entry-first (same_key key) es at (Found-position (same_key key) es at (sym has)).first)

left_out : (b : Bool) (e : Key × Value) (es rest : List (Key × Value)) (o : Option Value) → cond b (Some e.1) o ≡ None → (o ≡ None → es ≡ rest) → e ∷ es ≡ cond b es (e ∷ rest)
left_out true e es rest o none same = cc
left_out false e es rest o none same = ap (λ l. e ∷ l) (same none)

not_taken : (key : Key) (es : List (Key × Value)) → lookup (same_key key) es ≡ None → es ≡ remove_entry (same_key key) es
not_taken key [] none = refl
not_taken key (e ∷ es) none = left_out (same_key key e.0) e es (remove_entry (same_key key) es) (lookup (same_key key) es) none (not_taken key es)

module _ (key : Key) (es : List (Key × Value)) (none : None ≡ position (same_key key) (keys_of es)) where
  pub value_missing : None ≡ lookup (same_key key) es
  value_missing = sym (Missing-position (same_key key) es (sym none)).value

  pub put_behind : (value : Value) → es ++ (key, value) ∷ [] ≡ insert_entry same_key es key value
  put_behind value = sym (insert_entry-absent same_key key value es (absent_from_lookup (same_key key) es (sym value_missing)))

  pub none_taken : es ≡ remove_entry (same_key key) es
  none_taken = not_taken key es (sym value_missing)

-- ---- changes

pub none_in_order : IsKeyOrder [] []
unfolding IsStrictlySortedBy
none_in_order = record { within = λ k d short. absurd (omega arith); each = λ place short. absurd (omega arith); ascending = tt }

-- the place behind all others, put where halving for its key ends
pub put_in_order : (keys : List Key) (places : List ℕ) (key : Key) (at : ℕ) → IsKeyOrder keys places → at ≤ length places
    → IsPartitionPoint (λ place. place_cmp keys key place ≡ Less) (λ place. place_cmp keys key place ≡ Greater) places at
    → IsKeyOrder (keys ++ key ∷ []) (insert places at (length keys))
put_in_order keys places key at is le parts = record { within = within_more; each = each_more; ascending = ascending_more }
  where
    more : length (keys ++ key ∷ []) ≡ length keys + 1
    more = length_push keys key

    long : length (insert places at (length keys)) ≡ length places + 1
    long = length-insert places at (length keys) le

    within_more : (k d : ℕ) → k < length (insert places at (length keys)) → get_or (insert places at (length keys)) k d < length (keys ++ key ∷ [])
    within_more k d short = elim (dec_lt k at) [
      | yes low ↦ omega (arith, long, more, is.within k d (omega arith), get_or-insert_below places at (length keys) d k low le)
      | no high ↦ elim (dec_lt at k) [
        | yes far ↦ let m : (k - 1) + 1 ≡ k = omega arith in omega (arith, long, more, is.within (k - 1) d (omega (arith, long)), subst (λ j. get_or (insert places at (length keys)) j d ≡ get_or places (k - 1) d) m (get_or-insert_above places at (length keys) d (k - 1) (omega arith) le))
        | no here ↦ let m : at ≡ k = omega arith in omega (arith, more, subst (λ j. get_or (insert places at (length keys)) j d ≡ length keys) m (get_or-insert_at places at (length keys) d le))
      ]
    ]

    each_more : (place : ℕ) → place < length (keys ++ key ∷ []) → (k : ℕ) × (k < length (insert places at (length keys))) × (get_or (insert places at (length keys)) k place ≡ place)
    each_more place short = elim (dec_lt place (length keys)) [
      | yes old ↦
          let a = is.each place old in
          elim (dec_lt a.0 at) [
            | yes low ↦ (a.0, omega (arith, long, a.1), get_or-insert_below places at (length keys) place a.0 low le ∙ a.2)
            | no high ↦ (a.0 + 1, omega (arith, long, a.1), get_or-insert_above places at (length keys) place a.0 (omega arith) le ∙ a.2)
          ]
      | no new ↦ let same : length keys ≡ place = omega (arith, more) in (at, omega (arith, long), get_or-insert_at places at (length keys) place le ∙ same)
    ]

    old_key : (place : ℕ) → place < length keys → key_at (keys ++ key ∷ []) place ≡ key_at keys place
    old_key place short = get_or_append_left keys (key ∷ []) (IntKey (pos 0)) place short

    new_key : key_at (keys ++ key ∷ []) (length keys) ≡ key
    new_key = get_or_push keys key (IntKey (pos 0)) (length keys) refl

    at_below : (k : ℕ) → k < at → key_at (keys ++ key ∷ []) (get_or (insert places at (length keys)) k 0) ≡ key_at keys (get_or places k 0)
    at_below k low = ap (key_at (keys ++ key ∷ [])) (get_or-insert_below places at (length keys) 0 k low le) ∙ old_key (get_or places k 0) (is.within k 0 (omega arith))

    at_above : (k : ℕ) → at ≤ k → k < length places → key_at (keys ++ key ∷ []) (get_or (insert places at (length keys)) (k + 1) 0) ≡ key_at keys (get_or places k 0)
    at_above k high short = ap (key_at (keys ++ key ∷ [])) (get_or-insert_above places at (length keys) 0 k high le) ∙ old_key (get_or places k 0) (is.within k 0 short)

    at_itself : key_at (keys ++ key ∷ []) (get_or (insert places at (length keys)) at 0) ≡ key
    at_itself = ap (key_at (keys ++ key ∷ [])) (get_or-insert_at places at (length keys) 0 le) ∙ new_key

    next : (k : ℕ) → k < length places → key_cmp (key_at (keys ++ key ∷ []) (get_or (insert places at (length keys)) k 0)) (key_at (keys ++ key ∷ []) (get_or (insert places at (length keys)) (k + 1) 0)) ≡ Less
    next k short = elim (dec_lt (k + 1) at) [
      | yes low ↦ alike _ _ _ _ (at_below k (omega arith)) (at_below (k + 1) low) (less keys places is k (k + 1) 0 (omega arith) (omega arith))
      | no high ↦ elim (dec_lt k at) [
        | yes last ↦
            let m : at ≡ k + 1 = omega arith in
            let then' : key_at (keys ++ key ∷ []) (get_or (insert places at (length keys)) (k + 1) 0) ≡ key = subst (λ j. key_at (keys ++ key ∷ []) (get_or (insert places at (length keys)) j 0) ≡ key) m at_itself in
            alike _ _ _ _ (at_below k last) (then') (sym (compared keys places is key (get_or places k 0) (is.within k 0 short)) ∙ parts.0 k 0 (omega arith) last)
        | no past ↦ elim (dec_lt at k) [
          | yes far ↦
              let m : (k - 1) + 1 ≡ k = omega arith in
              let this = subst (λ i. key_at (keys ++ key ∷ []) (get_or (insert places at (length keys)) i 0) ≡ key_at keys (get_or places (k - 1) 0)) m (at_above (k - 1) (omega arith) (omega arith)) in
              alike _ _ _ _ (this) (at_above k (omega arith) short) (less keys places is (k - 1) k 0 (omega arith) short)
          | no here ↦
              let m : at ≡ k = omega arith in
              let this = subst (λ i. key_at (keys ++ key ∷ []) (get_or (insert places at (length keys)) i 0) ≡ key) m at_itself in
              alike _ _ _ _ (this) (at_above k (omega arith) short) (greater_turned (key_at keys (get_or places k 0)) key (sym (compared keys places is key (get_or places k 0) (is.within k 0 short)) ∙ parts.1 k 0 (omega arith) short))
        ]
      ]
    ]

    ascending_more : IsStrictlySortedBy key_cmp (map (key_at (keys ++ key ∷ [])) (insert places at (length keys)))
    ascending_more = sorted_from_all_adjacent key_cmp_total (map (key_at (keys ++ key ∷ [])) (insert places at (length keys))) (IntKey (pos 0)) (λ k short.
        let all = length-map (insert places at (length keys)) (key_at (keys ++ key ∷ [])) in
        let one = get_or-map (key_at (keys ++ key ∷ [])) (insert places at (length keys)) k 0 (IntKey (pos 0)) (omega (arith, all)) in
        let other = get_or-map (key_at (keys ++ key ∷ [])) (insert places at (length keys)) (k + 1) 0 (IntKey (pos 0)) (omega (arith, all)) in
        alike _ _ _ _ (one) (other) (next k (omega (arith, all, long))))

pub roomy : (es : List (Key × Value)) (places : List ℕ) → IsKeyOrder (keys_of es) places → (key : Key) (r : Result ℕ ℕ) → IsSearchInRange r (length places) → IsBinarySearchResult (place_cmp (keys_of es) key) places r
    → IfErr r (λ at. IsKeyOrder (keys_of es ++ key ∷ []) (insert places at (length es)))
roomy es places is key (Ok at) short equal = tt
roomy es places is key (Err at) le parted =
    subst (λ n. IsKeyOrder (keys_of es ++ key ∷ []) (insert places at n)) (length-keys_of es) (put_in_order (keys_of es) places key at is le (parted (rise (keys_of es) places is key)))

-- without one place and its entry: those behind it are one less
pub out_in_order : (keys : List Key) (places : List ℕ) (at : ℕ) → IsKeyOrder keys places → at < length places
    → IsKeyOrder (remove keys (get_or places at 0)) (map (lowered (get_or places at 0)) (remove places at))
out_in_order keys places at is within = record { within = within_less; each = each_less; ascending = ascending_less }
  where
    there : get_or places at 0 < length keys
    there = is.within at 0 within

    fewer : length (remove keys (get_or places at 0)) + 1 ≡ length keys
    fewer = length-remove keys (get_or places at 0) there

    shorter : length (remove places at) + 1 ≡ length places
    shorter = length-remove places at within

    all : length (map (lowered (get_or places at 0)) (remove places at)) ≡ length (remove places at)
    all = length-map (remove places at) (lowered (get_or places at 0))

    -- another place is another's
    other : (i : ℕ) → i < length places → i ≢ at → get_or places i 0 ≢ get_or places at 0
    other i short differs same = elim (dec_lt i at) [
      | yes low ↦ not_less _ _ (ap (key_at keys) same) (less keys places is i at 0 low within)
      | no high ↦ not_less _ _ (ap (key_at keys) (sym same)) (less keys places is at i 0 (omega arith) short)
    ]

    -- its number, and the key there
    moved : (q : ℕ) → q < length keys → q ≢ get_or places at 0 → (lowered (get_or places at 0) q < length (remove keys (get_or places at 0))) × (key_at (remove keys (get_or places at 0)) (lowered (get_or places at 0) q) ≡ key_at keys q)
    moved q short differs = elim (dec_lt q (get_or places at 0)) [
      | yes low ↦
          let e = lowered_low (get_or places at 0) q (omega arith) in
          (omega (arith, e, fewer, there), ap (key_at (remove keys (get_or places at 0))) e ∙ get_or-remove_below keys (get_or places at 0) (IntKey (pos 0)) q low there)
      | no high ↦
          let e = lowered_high (get_or places at 0) q (omega arith) in
          let m : (q - 1) + 1 ≡ q = omega arith in
          (omega (arith, e, fewer, there), ap (key_at (remove keys (get_or places at 0))) e ∙ get_or-remove_above keys (get_or places at 0) (IntKey (pos 0)) (q - 1) (omega arith) there ∙ ap (key_at keys) m)
    ]

    -- what stands at each place now
    now : (k d : ℕ) → k < length (remove places at) → get_or (map (lowered (get_or places at 0)) (remove places at)) k d ≡ lowered (get_or places at 0) (get_or places (kept places at k within).from 0)
    now k d short = get_or-map (lowered (get_or places at 0)) (remove places at) k 0 d short ∙ ap (lowered (get_or places at 0)) ((kept places at k within).is 0)

    from_another : (k : ℕ) → k < length (remove places at) → ((kept places at k within).from < length places) × ((kept places at k within).from ≢ at)
    from_another k short = elim (dec_lt k at) [
      | yes low ↦ let e = (kept places at k within).low low in (omega (arith, e, shorter), λ same. omega (arith, e))
      | no far ↦ let e = (kept places at k within).high (omega arith) in (omega (arith, e, shorter), λ same. omega (arith, e))
    ]

    from_later : (k : ℕ) → (kept places at k within).from < (kept places at (k + 1) within).from
    from_later k = elim (dec_lt (k + 1) at) [
      | yes low ↦ omega (arith, (kept places at k within).low (omega arith), (kept places at (k + 1) within).low low)
      | no far ↦
          let next = (kept places at (k + 1) within).high (omega arith) in
          elim (dec_lt k at) [
            | yes low ↦ omega (arith, (kept places at k within).low low, next)
            | no past ↦ omega (arith, (kept places at k within).high (omega arith), next)
          ]
    ]

    within_less : (k d : ℕ) → k < length (map (lowered (get_or places at 0)) (remove places at)) → get_or (map (lowered (get_or places at 0)) (remove places at)) k d < length (remove keys (get_or places at 0))
    within_less k d short =
        let in_places : k < length (remove places at) = omega (arith, all) in
        let f = from_another k in_places in
        let q = get_or places (kept places at k within).from 0 in
        omega (arith, now k d in_places, (moved q (is.within (kept places at k within).from 0 f.0) (other (kept places at k within).from f.0 f.1)).0)

    -- a place that is left, by its old number
    found : (q : ℕ) → q < length keys → q ≢ get_or places at 0 → (d : ℕ) → (k : ℕ) × (k < length (map (lowered (get_or places at 0)) (remove places at))) × (get_or (map (lowered (get_or places at 0)) (remove places at)) k d ≡ lowered (get_or places at 0) q)
    found q short differs d =
        let a = is.each q short in
        let at_a : get_or places a.0 0 ≡ q = get_or_default places a.0 0 q a.1 ∙ a.2 in
        elim (dec_lt a.0 at) [
          | yes low ↦ (a.0, omega (arith, all, shorter), get_or-map (lowered (get_or places at 0)) (remove places at) a.0 0 d (omega (arith, shorter)) ∙ ap (lowered (get_or places at 0)) (get_or-remove_below places at 0 a.0 low within ∙ at_a))
          | no high ↦
              let past : at ≢ a.0 = λ same. differs (sym (ap (λ k. get_or places k 0) same ∙ at_a)) in
              let m : (a.0 - 1) + 1 ≡ a.0 = omega arith in
              (a.0 - 1, omega (arith, all, shorter, a.1), get_or-map (lowered (get_or places at 0)) (remove places at) (a.0 - 1) 0 d (omega (arith, shorter, a.1)) ∙ ap (lowered (get_or places at 0)) (get_or-remove_above places at 0 (a.0 - 1) (omega arith) within ∙ ap (λ k. get_or places k 0) m ∙ at_a))
        ]

    each_less : (place : ℕ) → place < length (remove keys (get_or places at 0)) → (k : ℕ) × (k < length (map (lowered (get_or places at 0)) (remove places at))) × (get_or (map (lowered (get_or places at 0)) (remove places at)) k place ≡ place)
    each_less place short = elim (dec_lt place (get_or places at 0)) [
      | yes low ↦
          let f = found place (omega (arith, fewer)) (λ same. omega arith) place in
          (f.0, f.1, f.2 ∙ lowered_low (get_or places at 0) place (omega arith))
      | no high ↦
          let f = found (place + 1) (omega (arith, fewer)) (λ same. omega arith) place in
          let m : (place + 1) - 1 ≡ place = omega arith in
          (f.0, f.1, f.2 ∙ lowered_high (get_or places at 0) (place + 1) (omega arith) ∙ m)
    ]

    key_now : (k : ℕ) → k < length (remove places at) → key_at (remove keys (get_or places at 0)) (get_or (map (lowered (get_or places at 0)) (remove places at)) k 0) ≡ key_at keys (get_or places (kept places at k within).from 0)
    key_now k short =
        let f = from_another k short in
        ap (key_at (remove keys (get_or places at 0))) (now k 0 short) ∙ (moved (get_or places (kept places at k within).from 0) (is.within (kept places at k within).from 0 f.0) (other (kept places at k within).from f.0 f.1)).1

    ascending_less : IsStrictlySortedBy key_cmp (map (key_at (remove keys (get_or places at 0))) (map (lowered (get_or places at 0)) (remove places at)))
    ascending_less = sorted_from_all_adjacent key_cmp_total (map (key_at (remove keys (get_or places at 0))) (map (lowered (get_or places at 0)) (remove places at))) (IntKey (pos 0)) (λ k short.
        let placed = map (lowered (get_or places at 0)) (remove places at) in
        let keyed = key_at (remove keys (get_or places at 0)) in
        let count = length-map placed keyed in
        let before : k < length (remove places at) = omega (arith, count, all) in
        let behind : k + 1 < length (remove places at) = omega (arith, count, all) in
        let one = get_or-map keyed placed k 0 (IntKey (pos 0)) (omega (arith, count)) ∙ key_now k before in
        let two = get_or-map keyed placed (k + 1) 0 (IntKey (pos 0)) (omega (arith, count)) ∙ key_now (k + 1) behind in
        let low = kept places at k within in
        let high = kept places at (k + 1) within in
        alike _ _ _ _ (one) (two) (less keys places is low.from high.from 0 (from_later k) (from_another (k + 1) behind).0))

-- ---- a new value

-- an entry that keeps its key has its value in the place of the old one
pub set_entry : (es : List (Key × Value)) (at : ℕ) (d : Key × Value) (value : Value) → at < length es → set es at ((get_or es at d).0, value) ≡ set_value_at es at value
set_entry [] at d value within = absurd (omega arith)
set_entry (x ∷ xs) zero d value within = refl
set_entry (x ∷ xs) (suc at) d value within = ap (λ l. x ∷ l) (set_entry xs at d value (omega arith))

-- and the keys are as before
pub keys_kept : (es : List (Key × Value)) (at : ℕ) (value : Value) → keys_of (set_value_at es at value) ≡ keys_of es
keys_kept [] at value = refl
keys_kept (x ∷ xs) zero value = refl
keys_kept (x ∷ xs) (suc at) value = ap (λ l. x.0 ∷ l) (keys_kept xs at value)

-- the keys that are left
pub keys_left : (es : List (Key × Value)) (at : ℕ) → keys_of (remove es at) ≡ remove (keys_of es) at
keys_left es at = map-append (λ (e : Key × Value). e.0) (take at es) (drop (suc at) es) ∙ (λ j. sym (take-map (λ (e : Key × Value). e.0) at es) j ++ sym (drop-map (λ (e : Key × Value). e.0) (suc at) es) j)
