-- How cells grow: not at all, by new cells, or by one that changes; and what makes and changes cells under the limits.
use Rattle.std.proofs.Common.{arith, ◌≡◌, ◌≤◌, ◌<◌, ◌+◌, ℕ, zero, suc, ◌⊎◌, inl, inr, refl, sym, ap, subst, Bool, true, false, List, [], ◌∷◌, ◌++◌, length, length-append, append_assoc, Option, Some, None, cond}
use Rattle.std.specs.Prelude.{slice_get, slice_set, nat_lt, if◌then◌else◌}
use Rattle.std.specs.List.{AllByRecursion as AllAre}
use Rattle.std.specs.Map.{lookup}
use Rattle.std.proofs.lemmas.List.{length-set}
use Rattle.std.proofs.lemmas.Bool.{ltb-false}
use Rattle.indexmap.specs.IndexMap.{insert_entry}
use Rattle.model_values.specs.Cells.{cell_bytes, cell_size, entry_bytes, heap_bytes, key_bytes, Answer, Gives, Throws, Meets, unless_limit, no_room, with_new, new_cell, new_text, new_list, new_map, new_list_of, throw, list_push, put_over, map_put, variable_set, set_variable}
use Rattle.model_values.specs.Fitting.{There, HasVariable, HasText, HasList, HasMap, HasClosure, HasThrowable, IsNumber, IsFlag, IsIn, IsNullOrIn, CellFits, CellsFit}
use Rattle.model_values.specs.Keys.{same_key}
use Rattle.model_values.specs.Later.{StaysAs, AnswerLater, Grows, AnswerGrows}
use Rattle.model_values.specs.Limits.{Limits}
use Rattle.model_values.specs.Types.{Value, Null, Truth, Whole, InCell, Key, Cell, Variable, TextCell, ListCell, MapCell, ClosureCell, ThrownCell, Class, LimitKind, TextLength, CollectionSize, Cells, HeapBytes}
use Rattle.model_values.specs.declared.cell.Binding.{Binding}
use Rattle.model_values.proofs.LaterLaws.{later_itself, later_behind, later_changed, get_new, cell_later, there_later, all_weaker}

-- Lists whose entries all are something.
pub all_append : {A : Type 0} (P : A → Type 0) (xs ys : List A) → AllAre P xs → AllAre P ys → AllAre P (xs ++ ys)
all_append P [] ys h k = k
all_append P (x ∷ xs) ys h k = (h.0, all_append P xs ys h.1 k)

pub all_set : {A : Type 0} (P : A → Type 0) (xs : List A) (i : ℕ) (x : A) → AllAre P xs → P x → AllAre P (slice_set xs i x)
all_set P [] i x h p = tt
all_set P (y ∷ ys) zero x h p = (p, h.1)
all_set P (y ∷ ys) (suc i) x h p = (h.0, all_set P ys i x h.1 p)

pub all_get : {A : Type 0} (P : A → Type 0) (xs : List A) (i : ℕ) (x : A) → slice_get xs i ≡ Some x → AllAre P xs → P x
all_get P [] i x e h = absurd (cc)
all_get P (y ∷ ys) zero x e h = let same : y ≡ x = cc in subst P same h.0
all_get P (y ∷ ys) (suc i) x e h = all_get P ys i x e h.1

-- Heap bytes.
bytes_append : (h cs : List Cell) → heap_bytes (h ++ cs) ≡ heap_bytes h + heap_bytes cs
bytes_append [] cs = omega arith
bytes_append (x ∷ h) cs = omega (arith, bytes_append h cs)

bytes_changed : (h : List Cell) (c : ℕ) (old new : Cell) → slice_get h c ≡ Some old → heap_bytes (slice_set h c new) + cell_bytes old ≡ heap_bytes h + cell_bytes new
bytes_changed [] c old new e = absurd (cc)
bytes_changed (y ∷ h) zero old new e = let same : y ≡ old = cc in omega (arith, ap cell_bytes same)
bytes_changed (y ∷ h) (suc c) old new e = omega (arith, bytes_changed h c old new e)

-- a value in place of another costs nothing, and a new entry what it has
replaced_step : (test : Bool) (e : Key × Value) (es fs : List (Key × Value)) (o : Option Value) (v old : Value) → cond test (Some e.1) o ≡ Some old → (o ≡ Some old → entry_bytes fs ≡ entry_bytes es) → entry_bytes (if test then (e.0, v) ∷ es else e ∷ fs) ≡ entry_bytes (e ∷ es)
replaced_step true e es fs o v old found rest = refl
replaced_step false e es fs o v old found rest = omega (arith, rest found)

bytes_replaced : (k : Key) (v old : Value) (es : List (Key × Value)) → lookup (same_key k) es ≡ Some old → entry_bytes (insert_entry same_key es k v) ≡ entry_bytes es
bytes_replaced k v old [] found = absurd (cc)
bytes_replaced k v old (e ∷ es) found = replaced_step (same_key k e.0) e es (insert_entry same_key es k v) (lookup (same_key k) es) v old found (bytes_replaced k v old es)

added_step : (test : Bool) (k : Key) (e : Key × Value) (es fs : List (Key × Value)) (o : Option Value) (v : Value) → cond test (Some e.1) o ≡ None → (o ≡ None → entry_bytes fs ≡ entry_bytes es + (32 + key_bytes k)) → entry_bytes (if test then (e.0, v) ∷ es else e ∷ fs) ≡ entry_bytes (e ∷ es) + (32 + key_bytes k)
added_step true k e es fs o v found rest = absurd (cc)
added_step false k e es fs o v found rest = omega (arith, rest found)

bytes_added : (k : Key) (v : Value) (es : List (Key × Value)) → lookup (same_key k) es ≡ None → entry_bytes (insert_entry same_key es k v) ≡ entry_bytes es + (32 + key_bytes k)
bytes_added k v [] found = omega arith
bytes_added k v (e ∷ es) found = added_step (same_key k e.0) k e es (insert_entry same_key es k v) (lookup (same_key k) es) v found (bytes_added k v es)

length_step : (test : Bool) (e : Key × Value) (es fs : List (Key × Value)) (o : Option Value) (v old : Value) → cond test (Some e.1) o ≡ Some old → (o ≡ Some old → length fs ≡ length es) → length (if test then (e.0, v) ∷ es else e ∷ fs) ≡ length (e ∷ es)
length_step true e es fs o v old found rest = refl
length_step false e es fs o v old found rest = omega (arith, rest found)

length_replaced : (k : Key) (v old : Value) (es : List (Key × Value)) → lookup (same_key k) es ≡ Some old → length (insert_entry same_key es k v) ≡ length es
length_replaced k v old [] found = absurd (cc)
length_replaced k v old (e ∷ es) found = length_step (same_key k e.0) e es (insert_entry same_key es k v) (lookup (same_key k) es) v old found (length_replaced k v old es)

entries_within : (es : List (Key × Value)) → length es ≤ entry_bytes es
entries_within [] = omega arith
entries_within (e ∷ es) = omega (arith, entries_within es)

-- the values of a map with one more, or another in the place of one
insert_step : (P : Value → Type 0) (test : Bool) (e : Key × Value) (es fs : List (Key × Value)) (v : Value) → AllAre (λ p. P p.1) (e ∷ es) → P v → AllAre (λ p. P p.1) fs → AllAre (λ p. P p.1) (if test then (e.0, v) ∷ es else e ∷ fs)
insert_step P true e es fs v h p k = (p, h.1)
insert_step P false e es fs v h p k = (h.0, k)

pub all_insert : (P : Value → Type 0) (k : Key) (v : Value) (es : List (Key × Value)) → AllAre (λ e. P e.1) es → P v → AllAre (λ e. P e.1) (insert_entry same_key es k v)
all_insert P k v [] h p = (p, tt)
all_insert P k v (e ∷ es) h p = insert_step P (same_key k e.0) e es (insert_entry same_key es k v) v h p (all_insert P k v es h.1 p)

get_behind : (h ps : List Cell) (x : Cell) → slice_get (h ++ (ps ++ x ∷ [])) (length h + length ps) ≡ Some x
get_behind h ps x = rw (← append_assoc h ps (x ∷ []), ← length-append h ps) (get_new (h ++ ps) x [])

-- a cell with as many bytes as it may have holds no more
pub size_within : (x : Cell) → cell_size x ≤ cell_bytes x
size_within (Variable v) = omega arith
size_within (TextCell t) = omega arith
size_within (ListCell vs) = omega arith
size_within (MapCell es) = omega (arith, entries_within es)
size_within (ClosureCell node env) = omega arith
size_within (ThrownCell class None) = omega arith
size_within (ThrownCell class (Some m)) = omega arith

cell_within : (h : List Cell) (c : ℕ) (x : Cell) → slice_get h c ≡ Some x → cell_bytes x ≤ heap_bytes h
cell_within [] c x e = absurd (cc)
cell_within (y ∷ h) zero x e = let same : y ≡ x = cc in omega (arith, ap cell_bytes same)
cell_within (y ∷ h) (suc c) x e = omega (arith, cell_within h c x e)

each_small : (n : ℕ) (cs : List Cell) → heap_bytes cs ≤ n → AllAre (λ x. cell_size x ≤ n) cs
each_small n [] le = tt
each_small n (x ∷ cs) le = (omega (arith, size_within x), each_small n cs (omega arith))

get_changed : (h : List Cell) (c : ℕ) (old new : Cell) → slice_get h c ≡ Some old → slice_get (slice_set h c new) c ≡ Some new
get_changed [] c old new e = absurd (cc)
get_changed (y ∷ h) zero old new e = refl
get_changed (y ∷ h) (suc c) old new e = get_changed h c old new e

-- a cell that changes leaves the heap bytes within their limit, or grows in no way
abbrev pub HasRoom : Limits → List Cell → ℕ → ℕ → ℕ → ℕ → Type 0
HasRoom l h old new old_size new_size = (heap_bytes h + new ≤ l.bytes + old) ⊎ ((new ≤ old) × (new_size ≤ old_size))

room_bytes : (l : Limits) (h : List Cell) (old new old_size new_size after most : ℕ) → HasRoom l h old new old_size new_size → l.bytes ≤ most → after + old ≡ heap_bytes h + new → heap_bytes h ≤ most → after ≤ most
room_bytes l h old new old_size new_size after most (inl le) m e b = omega (arith, le, m, e, b)
room_bytes l h old new old_size new_size after most (inr less) m e b = omega (arith, less.0, m, e, b)

room_size : (l : Limits) (h : List Cell) (old new : Cell) (after most : ℕ) → HasRoom l h (cell_bytes old) (cell_bytes new) (cell_size old) (cell_size new) → l.bytes ≤ most → after + cell_bytes old ≡ heap_bytes h + cell_bytes new → cell_bytes new ≤ after → cell_size old ≤ most → cell_size new ≤ most
room_size l h old new after most (inl le) m e w s = omega (arith, size_within new, le, m, e, w)
room_size l h old new after most (inr less) m e w s = omega (arith, less.1, s)

none_of : (a b : Bool) → (if a then Some Cells else if b then Some HeapBytes else None) ≡ None → (a ≡ false) × (b ≡ false)
none_of true b e = absurd (cc)
none_of false true e = absurd (cc)
none_of false false e = (refl, refl)

-- The limits, the rule of closures, the cells before, and what is given, where these cells fit.
pub record Before : Type 1 where
  pub l : Limits
  pub rule : ℕ → List Binding → Type 0
  pub h : List Cell
  pub given : Type 0
  pub fit : given → CellsFit rule h

abbrev pub Sort : Type 1
Sort = List Cell → Value → Type 0

-- The three ways.
abbrev pub Grown : Before → List Cell → Type 0 → Type 0
Grown b g result = Grows b.l b.rule b.h b.given g result

module _ (b : Before) where
  pub grows_not : (result : Type 0) → (b.given → result) → Grown b b.h result
  grows_not result r = record { later = later_itself b.h; bounds = λ n m p q w. w; sizes = λ n p w. w; fits = λ x. (b.fit x, r x) }

  pub grows_by : (cs : List Cell) (result : Type 0) → no_room b.l b.h cs ≡ None → (b.given → AllAre (CellFits b.rule (b.h ++ cs)) cs) → (b.given → result) → Grown b (b.h ++ cs) result
  grows_by cs result e new r =
      let free = none_of _ _ e in
      let few : length b.h + length cs ≤ b.l.cells = ltb-false b.l.cells (length b.h + length cs) free.0 in
      let small : heap_bytes b.h + heap_bytes cs ≤ b.l.bytes = ltb-false b.l.bytes (heap_bytes b.h + heap_bytes cs) free.1 in
      record {
        later = later_behind b.h cs;
        bounds = λ n m p q w. record { cells_fit = omega (arith, length-append b.h cs); bytes_fit = omega (arith, bytes_append b.h cs) };
        sizes = λ n p w. all_append _ b.h cs w (each_small n cs (omega arith));
        fits = λ x. (all_append _ b.h cs (all_weaker _ _ (cell_later b.h (b.h ++ cs) (later_behind b.h cs) b.rule) b.h (b.fit x)) (new x), r x);
      }

  pub grows_at : (c : ℕ) (old new : Cell) (result : Type 0) → slice_get b.h c ≡ Some old → StaysAs old (Some new) → HasRoom b.l b.h (cell_bytes old) (cell_bytes new) (cell_size old) (cell_size new) → (b.given → CellFits b.rule b.h new) → (b.given → result) → Grown b (slice_set b.h c new) result
  grows_at c old new result e s room n r =
      let later = later_changed b.h c old new e s in
      let bytes = bytes_changed b.h c old new e in
      record {
        later = later;
        bounds = λ n m p q w. record { cells_fit = omega (arith, length-set b.h c new, w.cells_fit); bytes_fit = room_bytes b.l b.h _ _ _ _ _ m room q bytes w.bytes_fit };
        sizes = λ n p w. all_set _ b.h c new w (room_size b.l b.h old new _ n room p bytes (cell_within (slice_set b.h c new) c new (get_changed b.h c old new e)) (all_get (λ x. cell_size x ≤ n) b.h c old e w));
        fits = λ x. (all_set _ b.h c new (all_weaker _ _ (cell_later b.h (slice_set b.h c new) later b.rule) b.h (b.fit x)) (cell_later b.h (slice_set b.h c new) later b.rule new (n x)), r x);
      }

  -- the entries of a list and of a map are there
  pub items_there : (c : ℕ) (vs : List Value) → slice_get b.h c ≡ Some (ListCell vs) → b.given → AllAre (There b.h) vs
  items_there c vs e x = all_get (CellFits b.rule b.h) b.h c (ListCell vs) e (b.fit x)

  pub pairs_there : (c : ℕ) (es : List (Key × Value)) → slice_get b.h c ≡ Some (MapCell es) → b.given → AllAre (λ e. There b.h e.1) es
  pairs_there c es e x = all_get (CellFits b.rule b.h) b.h c (MapCell es) e (b.fit x)

  -- Answers.
  abbrev pub Answers : Sort → Answer → Type 0
  Answers sort answer = AnswerGrows b.l b.rule b.h b.given sort answer

  pub gives : (sort : Sort) (v : Value) → (b.given → sort b.h v) → Answers sort (Gives b.h v)
  gives sort v s = grows_not (sort b.h v) s

  unless_met : (sort : Sort) (o : Option LimitKind) (answer : Answer) → (o ≡ None → Answers sort answer) → Answers sort (unless_limit o answer)
  unless_met sort (Some k) answer f = tt
  unless_met sort None answer f = f refl

  pub unless_past : (sort : Sort) (past : Bool) (k : LimitKind) (answer : Answer) → (past ≡ false → Answers sort answer) → Answers sort (if past then Meets k else answer)
  unless_past sort true k answer f = tt
  unless_past sort false k answer f = f refl

  pub gives_new : (sort : Sort) (cs : List Cell) (v : Value) → (b.given → AllAre (CellFits b.rule (b.h ++ cs)) cs) → (b.given → sort (b.h ++ cs) v) → Answers sort (with_new b.l b.h cs (λ g. Gives g v))
  gives_new sort cs v n s = unless_met sort (no_room b.l b.h cs) (Gives (b.h ++ cs) v) (λ e. grows_by cs (sort (b.h ++ cs) v) e n s)

  pub new_cell_grows : (sort : Sort) (x : Cell) → (b.given → CellFits b.rule (b.h ++ x ∷ []) x) → (b.given → sort (b.h ++ x ∷ []) (InCell (length b.h))) → Answers sort (new_cell b.l b.h x)
  new_cell_grows sort x n s = gives_new sort (x ∷ []) (InCell (length b.h)) (λ g. (n g, tt)) s

  -- a new cell of a kind
  new_of_kind : (kind : Option Cell → Type 0) (x : Cell) → kind (Some x) → (b.given → CellFits b.rule b.h x) → Answers (IsIn kind) (new_cell b.l b.h x)
  new_of_kind kind x k n = new_cell_grows (IsIn kind) x (λ g. cell_later b.h (b.h ++ x ∷ []) (later_behind b.h (x ∷ [])) b.rule x (n g)) (λ g. subst kind (sym (get_new b.h x [])) k)

  pub new_throwable_cell : (class : Class) (m : Option (List ℕ)) → Answers (IsIn HasThrowable) (new_cell b.l b.h (ThrownCell class m))
  new_throwable_cell class m = new_of_kind HasThrowable (ThrownCell class m) tt (λ g. tt)

  pub new_variable_grows : (v : Value) → (b.given → There b.h v) → Answers (IsIn HasVariable) (new_cell b.l b.h (Variable v))
  new_variable_grows v t = new_of_kind HasVariable (Variable v) tt t

  pub new_closure_grows : (node : ℕ) (env : List Binding) → (b.given → CellFits b.rule b.h (ClosureCell node env)) → Answers (IsIn HasClosure) (new_cell b.l b.h (ClosureCell node env))
  new_closure_grows node env f = new_of_kind HasClosure (ClosureCell node env) tt f

  pub new_text_grows : (t : List ℕ) → Answers (IsIn HasText) (new_text b.l b.h t)
  new_text_grows t = unless_past (IsIn HasText) (nat_lt b.l.text (length t)) TextLength _ (λ e. new_of_kind HasText (TextCell t) tt (λ g. tt))

  pub new_list_grows : (vs : List Value) → (b.given → AllAre (There b.h) vs) → Answers (IsIn HasList) (new_list b.l b.h vs)
  new_list_grows vs a = unless_past (IsIn HasList) (nat_lt b.l.entries (length vs)) CollectionSize _ (λ e. new_of_kind HasList (ListCell vs) tt a)

  pub new_map_grows : (es : List (Key × Value)) → (b.given → AllAre (λ e. There b.h e.1) es) → Answers (IsIn HasMap) (new_map b.l b.h es)
  new_map_grows es a = unless_past (IsIn HasMap) (nat_lt b.l.entries (length es)) CollectionSize _ (λ e. new_of_kind HasMap (MapCell es) tt a)

  pub new_list_of_grows : (parts : List Cell) (vs : List Value) → ((g : List Cell) → AllAre (CellFits b.rule g) parts) → ((g : List Cell) → length b.h + length parts ≤ length g → b.given → AllAre (There g) vs) → Answers (IsIn HasList) (new_list_of b.l b.h parts vs)
  new_list_of_grows parts vs p a =
      let g = b.h ++ (parts ++ ListCell vs ∷ []) in
      let long : length b.h + length parts ≤ length g = omega (arith, length-append b.h (parts ++ ListCell vs ∷ []), length-append parts (ListCell vs ∷ [])) in
      unless_past (IsIn HasList) (nat_lt b.l.entries (length vs)) CollectionSize _
      (λ e. gives_new (IsIn HasList) (parts ++ ListCell vs ∷ []) (InCell (length b.h + length parts)) (λ x. all_append _ parts (ListCell vs ∷ []) (p g) (a g long x, tt)) (λ x. subst HasList (sym (get_behind b.h parts (ListCell vs))) tt))

  pub throw_grows : (sort : Sort) (class : Class) (m : List ℕ) → Answers sort (throw b.l b.h class m)
  throw_grows sort class m =
      unless_past sort (nat_lt b.l.text (length m)) TextLength _
      (λ e. unless_met sort (no_room b.l b.h (ThrownCell class (Some m) ∷ [])) (Throws (b.h ++ ThrownCell class (Some m) ∷ []) (length b.h))
      (λ free. grows_by (ThrownCell class (Some m) ∷ []) (HasThrowable (slice_get (b.h ++ ThrownCell class (Some m) ∷ []) (length b.h))) free (λ g. (tt, tt)) (λ g. subst HasThrowable (sym (get_new b.h (ThrownCell class (Some m)) [])) tt)))

  -- a list or a map in a cell gets other entries
  pub list_changes : (sort : Sort) (c : ℕ) (vs ws : List Value) (v : Value) → slice_get b.h c ≡ Some (ListCell vs) → HasRoom b.l b.h (cell_bytes (ListCell vs)) (cell_bytes (ListCell ws)) (length vs) (length ws) → (b.given → AllAre (There b.h) ws) → (b.given → sort (slice_set b.h c (ListCell ws)) v) → Answers sort (Gives (slice_set b.h c (ListCell ws)) v)
  list_changes sort c vs ws v e room a s = grows_at c (ListCell vs) (ListCell ws) (sort (slice_set b.h c (ListCell ws)) v) e tt room a s

  pub map_changes : (c : ℕ) (es fs : List (Key × Value)) (v : Value) → slice_get b.h c ≡ Some (MapCell es) → HasRoom b.l b.h (cell_bytes (MapCell es)) (cell_bytes (MapCell fs)) (length es) (length fs) → (b.given → AllAre (λ e. There b.h e.1) fs) → (b.given → There b.h v) → Answers There (Gives (slice_set b.h c (MapCell fs)) v)
  map_changes c es fs v e room a s =
      grows_at c (MapCell es) (MapCell fs) (There (slice_set b.h c (MapCell fs)) v) e tt room a
      (λ x. there_later b.h (slice_set b.h c (MapCell fs)) (later_changed b.h c (MapCell es) (MapCell fs) e tt) v (s x))

  pub list_push_grows : (c : ℕ) (vs : List Value) (v : Value) → slice_get b.h c ≡ Some (ListCell vs) → (b.given → There b.h v) → Answers IsFlag (list_push b.l b.h c vs v)
  list_push_grows c vs v e t =
      unless_past IsFlag (nat_lt b.l.entries (length vs + 1)) CollectionSize _
      (λ few. unless_past IsFlag (nat_lt b.l.bytes (heap_bytes b.h + 16)) HeapBytes _
      (λ small. list_changes IsFlag c vs (vs ++ v ∷ []) (Truth true) e
      (let fits : heap_bytes b.h + 16 ≤ b.l.bytes = ltb-false b.l.bytes (heap_bytes b.h + 16) small in inl (omega (arith, length-append vs (v ∷ []))))
      (λ x. all_append _ vs (v ∷ []) (items_there c vs e x) (t x, tt)) (λ x. tt)))

  put_over_grows : (o : Option Value) (c : ℕ) (es : List (Key × Value)) (k : Key) (v answer : Value) → o ≡ lookup (same_key k) es → slice_get b.h c ≡ Some (MapCell es) → (b.given → There b.h v) → (b.given → There b.h answer) → Answers There (put_over b.l b.h o c es k v answer)
  put_over_grows (Some old) c es k v answer found e t s =
      map_changes c es (insert_entry same_key es k v) answer e (inr (omega (arith, bytes_replaced k v old es (sym found)), omega (arith, length_replaced k v old es (sym found)))) (λ x. all_insert (There b.h) k v es (pairs_there c es e x) (t x)) s
  put_over_grows None c es k v answer found e t s =
      unless_past There (nat_lt b.l.entries (length es + 1)) CollectionSize _
      (λ few. unless_past There (nat_lt b.l.bytes (heap_bytes b.h + 32 + key_bytes k)) HeapBytes _
      (λ small. map_changes c es (insert_entry same_key es k v) answer e
      (let fits : heap_bytes b.h + 32 + key_bytes k ≤ b.l.bytes = ltb-false b.l.bytes (heap_bytes b.h + 32 + key_bytes k) small in inl (omega (arith, bytes_added k v es (sym found))))
      (λ x. all_insert (There b.h) k v es (pairs_there c es e x) (t x)) s))

  pub map_put_grows : (c : ℕ) (es : List (Key × Value)) (k : Key) (v answer : Value) → slice_get b.h c ≡ Some (MapCell es) → (b.given → There b.h v) → (b.given → There b.h answer) → Answers There (map_put b.l b.h c es k v answer)
  map_put_grows c es k v answer e t s = put_over_grows (lookup (same_key k) es) c es k v answer refl e t s

  variable_set_grows : (o : Option Cell) (c : ℕ) (v : Value) (result : Type 0) → slice_get b.h c ≡ o → (b.given → There b.h v) → (b.given → result) → Grown b (variable_set o b.h c v) result
  variable_set_grows (Some (Variable old)) c v result e t r = grows_at c (Variable old) (Variable v) result e tt (inr (omega arith, omega arith)) t r
  variable_set_grows o c v result e t r = grows_not result r

  pub set_variable_grows : (c : ℕ) (v : Value) (result : Type 0) → (b.given → There b.h v) → (b.given → result) → Grown b (set_variable b.h c v) result
  set_variable_grows c v result t r = variable_set_grows (slice_get b.h c) c v result refl t r

-- an answer of one sort is of a wider one
pub wider : (b : Before) (s t : Sort) (answer : Answer) → ((g : List Cell) (v : Value) → s g v → t g v) → Answers b s answer → Answers b t answer
wider b s t (Gives g v) f r = record { later = r.later; bounds = r.bounds; sizes = r.sizes; fits = λ x. ((r.fits x).0, f g v (r.fits x).1) }
wider b s t (Throws g c) f r = r
wider b s t (Meets k) f r = tt

-- What every answer does, whatever is given: nothing need be there.
abbrev pub ungiven : Limits → List Cell → Before
ungiven l h = record { l = l; rule = λ node env. Unit {0}; h = h; given = ⊥; fit = λ x. absurd x }

pub answer_later : (b : Before) (sort : Sort) (answer : Answer) → Answers b sort answer → AnswerLater b.h answer
answer_later b sort (Gives g v) r = r.later
answer_later b sort (Throws g c) r = r.later
answer_later b sort (Meets k) r = tt

-- What is of a sort is there.
pub cell_there : (kind : Option Cell → Type 0) → (kind None → ⊥) → (g : List Cell) (c : ℕ) → kind (slice_get g c) → c < length g
cell_there kind n [] c k = absurd (n k)
cell_there kind n (x ∷ g) zero k = omega arith
cell_there kind n (x ∷ g) (suc c) k = omega (arith, cell_there kind n g c k)

in_there : (kind : Option Cell → Type 0) → (kind None → ⊥) → (g : List Cell) (v : Value) → IsIn kind g v → There g v
in_there kind n g (InCell c) k = cell_there kind n g c k
in_there kind n g v k = absurd k

pub text_there : (g : List Cell) (v : Value) → IsIn HasText g v → There g v
text_there = in_there HasText (λ x. x)

pub list_there : (g : List Cell) (v : Value) → IsIn HasList g v → There g v
list_there = in_there HasList (λ x. x)

pub map_there : (g : List Cell) (v : Value) → IsIn HasMap g v → There g v
map_there = in_there HasMap (λ x. x)

pub throwable_there : (g : List Cell) (v : Value) → IsIn HasThrowable g v → There g v
throwable_there = in_there HasThrowable (λ x. x)

pub text_or_null_there : (g : List Cell) (v : Value) → IsNullOrIn HasText g v → There g v
text_or_null_there g Null k = tt
text_or_null_there g (InCell c) k = text_there g (InCell c) k
text_or_null_there g v k = absurd k

pub text_or_null : (g : List Cell) (v : Value) → IsIn HasText g v → IsNullOrIn HasText g v
text_or_null g (InCell c) k = k
text_or_null g v k = absurd k

pub number_there : (g : List Cell) (v : Value) → IsNumber g v → There g v
number_there g (Whole x) k = tt
number_there g v k = absurd k

pub flag_there : (g : List Cell) (v : Value) → IsFlag g v → There g v
flag_there g (Truth x) k = tt
flag_there g v k = absurd k

-- an answer of a sort is there
module _ (b : Before) where
  pub text_is_there : (answer : Answer) → Answers b (IsIn HasText) answer → Answers b There answer
  text_is_there answer a = wider b (IsIn HasText) There answer text_there a

  pub list_is_there : (answer : Answer) → Answers b (IsIn HasList) answer → Answers b There answer
  list_is_there answer a = wider b (IsIn HasList) There answer list_there a

  pub map_is_there : (answer : Answer) → Answers b (IsIn HasMap) answer → Answers b There answer
  map_is_there answer a = wider b (IsIn HasMap) There answer map_there a

  pub number_is_there : (answer : Answer) → Answers b IsNumber answer → Answers b There answer
  number_is_there answer a = wider b IsNumber There answer number_there a

  pub flag_is_there : (answer : Answer) → Answers b IsFlag answer → Answers b There answer
  flag_is_there answer a = wider b IsFlag There answer flag_there a
