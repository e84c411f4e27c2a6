-- The methods that walk over a value with a closure, and the loop over a value.
use Rattle.std.proofs.Common.{arith, ◌≡◌, ◌≤◌, ◌<◌, ◌+◌, sym, subst, refl, ℕ, pos, Bool, true, false, List, [], ◌∷◌, ◌++◌, length, length-append, append_assoc, Option, Some, None}
use Rattle.std.specs.Prelude.{slice_get, if◌then◌else◌, int_lt, nat_eq}
use Rattle.std.specs.List.{AllByRecursion as AllAre}
use Rattle.model_values.specs.Cells.{no_room, new_list}
use Rattle.model_values.specs.Characters.{characters}
use Rattle.model_values.specs.Fitting.{There, CellFits}
use Rattle.model_values.specs.Index.{key_of}
use Rattle.model_values.specs.Kinds.{Kind, null, number, text, items, pairs, kind}
use Rattle.model_values.specs.Later.{TurnGrows, AfterGrows}
use Rattle.model_values.specs.Limits.{Limits}
use Rattle.model_values.specs.MethodNames.{Method, Each, Collect, Find, FindAll, Any, Every}
use Rattle.model_values.specs.Truth.{truth}
use Rattle.model_values.specs.Types.{Value, Null, Truth, Whole, InCell, Key, IntKey, TextKey, Cell, TextCell, LimitKind}
use Rattle.model_values.specs.Walks.{Turn, Turns, Past, entry_map, key_value, key_cell, unless_full, element_turn, entry_turn, walk_turn, turn, character_turn, loop_kind_turn, loop_turn, After, found, after_turn, after, with_entry, kept_entries, all_found, at_end}
use Rattle.model_values.specs.declared.cell.Binding.{Binding}
use Rattle.model_values.proofs.CellGrowth.{Before, Answers, Grown, grows_not, grows_by, gives, new_cell_grows, new_list_grows, new_map_grows, items_there, pairs_there, all_append, all_get, all_insert, list_is_there, map_is_there}
use Rattle.model_values.proofs.KindFacts.{KindFits, kind_fits}
use Rattle.model_values.proofs.LaterLaws.{later_behind, there_later}

-- the key of an entry as a value, and the cell that it needs
key_value_there : (g : List Cell) (n : ℕ) (k : Key) → n + length (key_cell k) ≤ length g → There g (key_value n k)
key_value_there g n (IntKey x) long = tt
key_value_there g n (TextKey t) long = omega arith

key_cell_fits : (rule : ℕ → List Binding → Type 0) (g : List Cell) (k : Key) → AllAre (CellFits rule g) (key_cell k)
key_cell_fits rule g (IntKey x) = tt
key_cell_fits rule g (TextKey t) = (tt, tt)

module _ (b : Before) where
  abbrev pub TurnBegins : Turn → Type 0
  TurnBegins turn = TurnGrows b.l b.rule b.h b.given turn

  abbrev pub Goes_on : After → Type 0
  Goes_on after = AfterGrows b.l b.rule b.h b.given after

  unless_full_grows : (o : Option LimitKind) (t : Turn) → (o ≡ None → TurnBegins t) → TurnBegins (unless_full b.l b.h o t)
  unless_full_grows (Some k) t f = tt
  unless_full_grows None t f = f refl

  -- a turn with values that are there, and no new cell
  turns : (args element : List Value) → (b.given → AllAre (There b.h) args) → (b.given → AllAre (There b.h) element) → TurnBegins (Turns b.h args element)
  turns args element a e = grows_not b (AllAre (There b.h) args × AllAre (There b.h) element) (λ x. (a x, e x))

  element_turn_grows : (o : Option Value) → (b.given → (v : Value) → o ≡ Some v → There b.h v) → TurnBegins (element_turn b.l b.h o)
  element_turn_grows None t = tt
  element_turn_grows (Some v) t = turns (v ∷ []) (v ∷ []) (λ x. (t x v refl, tt)) (λ x. (t x v refl, tt))

  -- key and value of an entry, in cells that are there behind those of the key
  entry_there : (g : List Cell) (k : Key) (v : Value) → length b.h + length (key_cell k) ≤ length g → There g v → AllAre (There g) (key_value (length b.h) k ∷ v ∷ [])
  entry_there g k v long t = (key_value_there g (length b.h) k long, (t, tt))

  entry_map_fits : (g : List Cell) (k : Key) (v : Value) → length b.h + length (key_cell k) ≤ length g → There g v → CellFits b.rule g (entry_map (key_value (length b.h) k) v)
  entry_map_fits g k v long t = entry_there g k v long t

  two_turn : (k : Key) (v : Value) → (b.given → There b.h v) → TurnBegins (entry_turn b.l b.h true (Some (k, v)))
  two_turn k v t =
      let g = b.h ++ key_cell k in
      let long : length b.h + length (key_cell k) ≤ length (b.h ++ key_cell k) = omega (arith, length-append b.h (key_cell k)) in
      let both : b.given → AllAre (There (b.h ++ key_cell k)) (key_value (length b.h) k ∷ v ∷ []) = λ x. entry_there (b.h ++ key_cell k) k v long (there_later b.h (b.h ++ key_cell k) (later_behind b.h (key_cell k)) v (t x)) in
      unless_full_grows (no_room b.l b.h (key_cell k)) _
      (λ free. grows_by b (key_cell k) (AllAre (There (b.h ++ key_cell k)) (key_value (length b.h) k ∷ v ∷ []) × AllAre (There (b.h ++ key_cell k)) (key_value (length b.h) k ∷ v ∷ [])) free
      (λ x. key_cell_fits b.rule (b.h ++ key_cell k) k) (λ x. (both x, both x)))

  map_turn : (k : Key) (v : Value) → (b.given → There b.h v) → TurnBegins (entry_turn b.l b.h false (Some (k, v)))
  map_turn k v t =
      let cs = key_cell k ++ entry_map (key_value (length b.h) k) v ∷ [] in
      let args = InCell (length b.h + length (key_cell k)) ∷ [] in
      let element = key_value (length b.h) k ∷ v ∷ [] in
      let more : length b.h + length (key_cell k) + 1 ≤ length (b.h ++ (key_cell k ++ entry_map (key_value (length b.h) k) v ∷ [])) = omega (arith, length-append b.h (key_cell k ++ entry_map (key_value (length b.h) k) v ∷ []), length-append (key_cell k) (entry_map (key_value (length b.h) k) v ∷ [])) in
      let long : length b.h + length (key_cell k) ≤ length (b.h ++ (key_cell k ++ entry_map (key_value (length b.h) k) v ∷ [])) = omega (arith, more) in
      let first : length b.h + length (key_cell k) < length (b.h ++ (key_cell k ++ entry_map (key_value (length b.h) k) v ∷ [])) = omega (arith, more) in
      let there : b.given → There (b.h ++ (key_cell k ++ entry_map (key_value (length b.h) k) v ∷ [])) v = λ x. there_later b.h (b.h ++ (key_cell k ++ entry_map (key_value (length b.h) k) v ∷ [])) (later_behind b.h (key_cell k ++ entry_map (key_value (length b.h) k) v ∷ [])) v (t x) in
      unless_full_grows (no_room b.l b.h (key_cell k ++ entry_map (key_value (length b.h) k) v ∷ [])) _
      (λ free. subst (λ (g : List Cell). Grown b g (AllAre (There g) (InCell (length b.h + length (key_cell k)) ∷ []) × AllAre (There g) (key_value (length b.h) k ∷ v ∷ [])))
      (sym (append_assoc b.h (key_cell k) (entry_map (key_value (length b.h) k) v ∷ [])))
      (grows_by b (key_cell k ++ entry_map (key_value (length b.h) k) v ∷ []) _ free
      (λ x. all_append _ (key_cell k) (entry_map (key_value (length b.h) k) v ∷ []) (key_cell_fits b.rule (b.h ++ (key_cell k ++ entry_map (key_value (length b.h) k) v ∷ [])) k) (entry_map_fits (b.h ++ (key_cell k ++ entry_map (key_value (length b.h) k) v ∷ [])) k v long (there x), tt))
      (λ x. ((first, tt), entry_there (b.h ++ (key_cell k ++ entry_map (key_value (length b.h) k) v ∷ [])) k v long (there x)))))

  entry_turn_grows : (two : Bool) (o : Option (Key × Value)) → (b.given → (e : Key × Value) → o ≡ Some e → There b.h e.1) → TurnBegins (entry_turn b.l b.h two o)
  entry_turn_grows true None t = tt
  entry_turn_grows false None t = tt
  entry_turn_grows true (Some e) t = two_turn e.0 e.1 (λ x. t x e refl)
  entry_turn_grows false (Some e) t = map_turn e.0 e.1 (λ x. t x e refl)

  walk_turn_grows : (k : Kind) (two : Bool) (i : ℕ) → KindFits b.h k → TurnBegins (walk_turn b.l b.h k two i)
  walk_turn_grows (items c vs) two i e = element_turn_grows (slice_get vs i) (λ x v at. all_get (There b.h) vs i v at (items_there b c vs e x))
  walk_turn_grows (pairs c es) two i e = entry_turn_grows two (slice_get es i) (λ x p at. all_get (λ p. There b.h p.1) es i p at (pairs_there b c es e x))
  walk_turn_grows (number n) two i e = number_turn (int_lt (pos i) n) i
    where
      number_turn : (more : Bool) (i : ℕ) → TurnBegins (if more then Turns b.h (Whole (pos i) ∷ []) (Whole (pos i) ∷ []) else Past)
      number_turn true i = turns (Whole (pos i) ∷ []) (Whole (pos i) ∷ []) (λ x. (tt, tt)) (λ x. (tt, tt))
      number_turn false i = tt
  walk_turn_grows k two i e = tt

  pub turn_grows : (on : Value) (two : Bool) (i : ℕ) → TurnBegins (turn b.l b.h on two i)
  turn_grows on two i = walk_turn_grows (kind b.h on) two i (kind_fits b.h on)

  character_turn_grows : (o : Option (List ℕ)) → TurnBegins (character_turn b.l b.h o)
  character_turn_grows None = tt
  character_turn_grows (Some c) =
      let long : length b.h < length (b.h ++ TextCell c ∷ []) = omega (arith, length-append b.h (TextCell c ∷ [])) in
      unless_full_grows (no_room b.l b.h (TextCell c ∷ [])) _ (λ free. grows_by b (TextCell c ∷ []) _ free (λ x. (tt, tt)) (λ x. ((long, tt), (long, tt))))

  once : (first : Bool) (on : Value) → (b.given → There b.h on) → TurnBegins (if first then Turns b.h (on ∷ []) (on ∷ []) else Past)
  once true on t = turns (on ∷ []) (on ∷ []) (λ x. (t x, tt)) (λ x. (t x, tt))
  once false on t = tt

  loop_kind_turn_grows : (on : Value) (k : Kind) (i : ℕ) → KindFits b.h k → (b.given → There b.h on) → TurnBegins (loop_kind_turn b.l b.h on k i)
  loop_kind_turn_grows on null i e t = tt
  loop_kind_turn_grows on (items c vs) i e t = element_turn_grows (slice_get vs i) (λ x v at. all_get (There b.h) vs i v at (items_there b c vs e x))
  loop_kind_turn_grows on (pairs c es) i e t = entry_turn_grows false (slice_get es i) (λ x p at. all_get (λ p. There b.h p.1) es i p at (pairs_there b c es e x))
  loop_kind_turn_grows on (text s) i e t = character_turn_grows (slice_get (characters s) i)
  loop_kind_turn_grows on k i e t = once (nat_eq i 0) on t

  pub loop_turn_grows : (on : Value) (i : ℕ) → (b.given → There b.h on) → TurnBegins (loop_turn b.l b.h on i)
  loop_turn_grows on i t = loop_kind_turn_grows on (kind b.h on) i (kind_fits b.h on) t

  found_grows : (args : List Value) → (b.given → AllAre (There b.h) args) → Answers b There (found b.l b.h args)
  found_grows [] a = gives b There Null (λ x. tt)
  found_grows (v ∷ []) a = gives b There v (λ x. (a x).0)
  found_grows (k ∷ v ∷ vs) a =
      let g = b.h ++ entry_map k v ∷ [] in
      new_cell_grows b There (entry_map k v)
      (λ x. (there_later b.h (b.h ++ entry_map k v ∷ []) (later_behind b.h (entry_map k v ∷ [])) k (a x).0, (there_later b.h (b.h ++ entry_map k v ∷ []) (later_behind b.h (entry_map k v ∷ [])) v (a x).1.0, tt)))
      (λ x. omega (arith, length-append b.h (entry_map k v ∷ [])))

  after_turn_grows : (m : Method) (args element : List Value) (f : Bool) (v : Value) (kept : List Value) → (b.given → AllAre (There b.h) args) → (b.given → AllAre (There b.h) element) → (b.given → There b.h v) → (b.given → AllAre (There b.h) kept) → Goes_on (after_turn b.l b.h m args element f v kept)
  after_turn_grows Collect args element true v kept a e t k = λ x. all_append (There b.h) kept (v ∷ []) (k x) (t x, tt)
  after_turn_grows Collect args element false v kept a e t k = λ x. all_append (There b.h) kept (v ∷ []) (k x) (t x, tt)
  after_turn_grows FindAll args element true v kept a e t k = λ x. all_append (There b.h) kept element (k x) (e x)
  after_turn_grows Find args element true v kept a e t k = found_grows args a
  after_turn_grows Any args element true v kept a e t k = gives b There (Truth true) (λ x. tt)
  after_turn_grows Every args element false v kept a e t k = gives b There (Truth false) (λ x. tt)
  after_turn_grows m args element f v kept a e t k = k

  pub after_grows : (m : Method) (args element : List Value) (v : Value) (kept : List Value) → (b.given → AllAre (There b.h) args) → (b.given → AllAre (There b.h) element) → (b.given → There b.h v) → (b.given → AllAre (There b.h) kept) → Goes_on (after b.l b.h m args element v kept)
  after_grows m args element v kept a e t k = after_turn_grows m args element (truth b.h v) v kept a e t k

  with_entry_there : (es : List (Key × Value)) (o : Option Key) (v : Value) → AllAre (λ e. There b.h e.1) es → There b.h v → AllAre (λ e. There b.h e.1) (with_entry b.l b.h es o v)
  with_entry_there es None v h p = h
  with_entry_there es (Some k) v h p = all_insert (There b.h) k v es h p

  kept_entries_there : (es : List (Key × Value)) (kept : List Value) → AllAre (λ e. There b.h e.1) es → AllAre (There b.h) kept → AllAre (λ e. There b.h e.1) (kept_entries b.l b.h es kept)
  kept_entries_there es [] h k = h
  kept_entries_there es (u ∷ []) h k = h
  kept_entries_there es (u ∷ v ∷ vs) h k = kept_entries_there (with_entry b.l b.h es (key_of (kind b.h u)) v) vs (with_entry_there es (key_of (kind b.h u)) v h k.1.0) k.1.1

  kept_list : (kept : List Value) → (b.given → AllAre (There b.h) kept) → Answers b There (new_list b.l b.h kept)
  kept_list kept k = list_is_there b _ (new_list_grows b kept k)

  all_found_grows : (on : Kind) (kept : List Value) → (b.given → AllAre (There b.h) kept) → Answers b There (all_found b.l b.h on kept)
  all_found_grows (pairs c es) kept k = map_is_there b _ (new_map_grows b (kept_entries b.l b.h [] kept) (λ x. kept_entries_there [] kept tt (k x)))
  all_found_grows on kept k = kept_list kept k

  pub at_end_grows : (m : Method) (on : Value) (kept : List Value) → (b.given → There b.h on) → (b.given → AllAre (There b.h) kept) → Answers b There (at_end b.l b.h m on kept)
  at_end_grows Each on kept t k = gives b There on t
  at_end_grows Collect on kept t k = kept_list kept k
  at_end_grows FindAll on kept t k = all_found_grows (kind b.h on) kept k
  at_end_grows Any on kept t k = gives b There (Truth false) (λ x. tt)
  at_end_grows Every on kept t k = gives b There (Truth true) (λ x. tt)
  at_end_grows m on kept t k = gives b There Null (λ x. tt)

-- How many values a turn begins with: one or two for the closure, and for an entry of a map its key and its value.
abbrev pub element_size : Kind → ℕ
element_size (pairs c es) = 2
element_size k = 1

abbrev pub IsSized : ℕ → Turn → Type 0
IsSized n (Turns g args element) = (length args ≤ 2) × (length element ≡ n)
IsSized n t = Unit {0}

module _ (l : Limits) (h : List Cell) where
  unless_full_sized : (n : ℕ) (o : Option LimitKind) (t : Turn) → IsSized n t → IsSized n (unless_full l h o t)
  unless_full_sized n (Some k) t s = tt
  unless_full_sized n None t s = s

  element_sized : (o : Option Value) → IsSized 1 (element_turn l h o)
  element_sized None = tt
  element_sized (Some v) = (omega arith, refl)

  entry_sized : (two : Bool) (o : Option (Key × Value)) → IsSized 2 (entry_turn l h two o)
  entry_sized true None = tt
  entry_sized false None = tt
  entry_sized true (Some e) = unless_full_sized 2 (no_room l h (key_cell e.0)) _ (omega arith, refl)
  entry_sized false (Some e) = unless_full_sized 2 (no_room l h (key_cell e.0 ++ entry_map (key_value (length h) e.0) e.1 ∷ [])) _ (omega arith, refl)

  number_sized : (more : Bool) (i : ℕ) → IsSized 1 (if more then Turns h (Whole (pos i) ∷ []) (Whole (pos i) ∷ []) else Past)
  number_sized true i = (omega arith, refl)
  number_sized false i = tt

  walk_turn_sized : (k : Kind) (two : Bool) (i : ℕ) → IsSized (element_size k) (walk_turn l h k two i)
  walk_turn_sized (items c vs) two i = element_sized (slice_get vs i)
  walk_turn_sized (pairs c es) two i = entry_sized two (slice_get es i)
  walk_turn_sized (number x) two i = number_sized (int_lt (pos i) x) i
  walk_turn_sized k two i = tt

  pub turn_sized : (on : Value) (two : Bool) (i : ℕ) → IsSized (element_size (kind h on)) (turn l h on two i)
  turn_sized on two i = walk_turn_sized (kind h on) two i
