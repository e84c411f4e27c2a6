-- A method that compares counts the pairs: the count of evaluated nodes never falls.
use Rattle.std.proofs.Common.{ℕ, zero, suc, ◌+◌, ◌≤◌, ◌&&◌, Bool, true, false, List, [], ◌∷◌, length, map, zip, Option, Some, None, nat_eq, nat_lt, arith}
use Rattle.std.specs.Prelude.{if◌then◌else◌, IfSome}
use Rattle.model_values.specs.Cells.{Answer}
use Rattle.model_values.specs.Equality.{Equality, Is, Stops, and_then, by_key, counted_pair, equal, equal_within, has_keys, kinds_equal, parts_equal}
use Rattle.model_values.specs.Kinds.{Kind, null, flag, number, text, items, pairs, closure, thrown, kind}
use Rattle.model_values.specs.Limits.{Limits}
use Rattle.model_values.specs.ListMethods.{Search, Found, Absent, Met, found_or_on, is_found, list_method, map_method, place_found, search as find_in}
use Rattle.model_values.specs.MethodNames.{Method, method_named, ToString, Equals, Size, IsEmpty, Add, Get, Contains, IndexOf, First, Last, Join, Reverse}
use Rattle.model_values.specs.MethodTable.{own_by, own_call, own_method}
use Rattle.model_values.specs.Methods.{equality_answer, kind_method, number_method, thrown_method, uncounted}
use Rattle.model_values.specs.TextMethods.{text_method}
use Rattle.model_values.specs.declared.cell.Cell.{Cell}
use Rattle.model_values.specs.declared.limit.LimitKind.TheVariants.{NodesEvaluated, ValueDepth}
use Rattle.model_values.specs.declared.value.Value.{Value}

-- the count that is left
abbrev left_by : Equality → ℕ
left_by (Is b n) = n
left_by (Stops k n) = n

abbrev Grows : (ℕ → Equality) → Type 0
Grows f = (n : ℕ) → n ≤ left_by (f n)

abbrev found_by : Search → ℕ
found_by (Found i n) = n
found_by (Absent n) = n
found_by (Met k n) = n

and_grows : (n : ℕ) (e : Equality) (go : ℕ → Equality) → n ≤ left_by e → Grows go → n ≤ left_by (and_then e go)
and_grows n (Is true m) go le more = let h : m ≤ left_by (go m) = more m in omega (arith, le, h)
and_grows n (Is false m) go le more = le
and_grows n (Stops k m) go le more = le

parts_grow : (same : Value → Value → ℕ → Equality) → ((x y : Value) → Grows (same x y)) → (ps : List (Value × Value)) → Grows (parts_equal same ps)
parts_grow same grows [] n = omega arith
parts_grow same grows (p ∷ ps) n = and_grows n (same p.0 p.1 n) (parts_equal same ps) (grows p.0 p.1 n) (parts_grow same grows ps)

either_grows : (b : Bool) (n : ℕ) (e : Equality) → n ≤ left_by e → n ≤ left_by (if b then e else Is false n)
either_grows true n e le = le
either_grows false n e le = omega arith

kinds_grow : (inside : List (Value × Value) → ℕ → Equality) → ((ps : List (Value × Value)) → Grows (inside ps)) → (x y : Kind) → Grows (kinds_equal inside x y)
kinds_grow inside grows null null n = omega arith
kinds_grow inside grows (flag a) (flag b) n = omega arith
kinds_grow inside grows (number x) (number y) n = omega arith
kinds_grow inside grows (text s) (text t) n = omega arith
kinds_grow inside grows (items c xs) (items d ys) n = either_grows (nat_eq (length xs) (length ys)) n (inside (zip xs ys) n) (grows (zip xs ys) n)
kinds_grow inside grows (pairs c es) (pairs d fs) n = either_grows (nat_eq (length es) (length fs) && has_keys es fs) n (inside (by_key es fs) n) (grows (by_key es fs) n)
kinds_grow inside grows (closure c) (closure d) n = omega arith
kinds_grow inside grows (thrown c k m) (thrown d k' m') n = omega arith
kinds_grow inside grows x y n = omega arith

module _ (l : Limits) (h : List Cell) where
  pair_grows : (go : ℕ → Equality) → Grows go → Grows (λ n. counted_pair l h n go)
  pair_grows go grows n = tested (nat_lt n l.nodes)
    where
      tested : (b : Bool) → n ≤ left_by (if b then go (n + 1) else Stops NodesEvaluated n)
      tested true = let le : n + 1 ≤ left_by (go (n + 1)) = grows (n + 1) in omega (arith, le)
      tested false = omega arith

  within_grows : (left : ℕ) (x y : Value) → Grows (equal_within l h left x y)
  unfolding equal_within
  within_grows zero x y = pair_grows (kinds_equal (λ ps m. Stops ValueDepth m) (kind h x) (kind h y)) (kinds_grow (λ ps m. Stops ValueDepth m) (λ ps m. omega arith) (kind h x) (kind h y))
  within_grows (suc left) x y = pair_grows (kinds_equal (parts_equal (equal_within l h left)) (kind h x) (kind h y)) (kinds_grow (parts_equal (equal_within l h left)) (parts_grow (equal_within l h left) (within_grows left)) (kind h x) (kind h y))

  -- a comparison of two values
  pub equal_grows : (x y : Value) → Grows (equal l h x y)
  equal_grows x y = within_grows l.depth x y

  search_grows : (xs : List Value) (v : Value) (i n : ℕ) → n ≤ found_by (find_in l h xs v i n)
  search_grows [] v i n = omega arith
  search_grows (x ∷ xs) v i n = found (λ m. search_grows xs v (i + 1) m) (equal l h x v n) (equal_grows x v n)
    where
      found : ((m : ℕ) → m ≤ found_by (find_in l h xs v (i + 1) m)) → (e : Equality) → n ≤ left_by e → n ≤ found_by (found_or_on e i (find_in l h xs v (i + 1)))
      found rest (Is true m) le = le
      found rest (Is false m) le = let more : m ≤ found_by (find_in l h xs v (i + 1) m) = rest m in omega (arith, le, more)
      found rest (Stops k m) le = le

  abbrev Counts : ℕ → Option (Answer × ℕ) → Type 0
  Counts n o = IfSome o (λ r. n ≤ r.1)

  answer_counts : (n : ℕ) (e : Equality) → n ≤ left_by e → n ≤ (equality_answer l h e).1
  answer_counts n (Is b m) le = le
  answer_counts n (Stops k m) le = le

  found_counts : (n : ℕ) (s : Search) → n ≤ found_by s → n ≤ (is_found l h s).1
  found_counts n (Found i m) le = le
  found_counts n (Absent m) le = le
  found_counts n (Met k m) le = le

  place_counts : (n : ℕ) (s : Search) → n ≤ found_by s → n ≤ (place_found l h s).1
  place_counts n (Found i m) le = le
  place_counts n (Absent m) le = le
  place_counts n (Met k m) le = le

  uncounted_counts : (o : Option Answer) (n : ℕ) → Counts n (uncounted l h o n)
  uncounted_counts None n = tt
  uncounted_counts (Some answer) n = omega arith

  list_counts : (c : ℕ) (vs : List Value) (m : Method) (args : List Value) (n : ℕ) → Counts n (list_method l h c vs m args n)
  list_counts c vs Size [] n = omega arith
  list_counts c vs IsEmpty [] n = omega arith
  list_counts c vs Add (v ∷ []) n = omega arith
  list_counts c vs Get (v ∷ []) n = omega arith
  list_counts c vs Contains (v ∷ []) n = found_counts n (find_in l h vs v 0 n) (search_grows vs v 0 n)
  list_counts c vs IndexOf (v ∷ []) n = place_counts n (find_in l h vs v 0 n) (search_grows vs v 0 n)
  list_counts c vs First [] n = omega arith
  list_counts c vs Last [] n = omega arith
  list_counts c vs Join (v ∷ []) n = omega arith
  list_counts c vs Reverse [] n = omega arith
  list_counts c vs m args n = tt

  kind_counts : (on : Kind) (m : Method) (args : List Value) (n : ℕ) → Counts n (kind_method l h on m args n)
  kind_counts (text s) m args n = uncounted_counts (text_method l h s m (map (kind h) args)) n
  kind_counts (items c vs) m args n = list_counts c vs m args n
  kind_counts (pairs c es) m args n = uncounted_counts (map_method l h c es m args) n
  kind_counts (number x) m args n = uncounted_counts (number_method l h x m (map (kind h) args)) n
  kind_counts (thrown c class message) m args n = uncounted_counts (thrown_method l h message m (map (kind h) args)) n
  kind_counts null m args n = tt
  kind_counts (flag b) m args n = tt
  kind_counts (closure c) m args n = tt

  method_counts : (a : Value) (on : Kind) (m : Method) (args : List Value) (n : ℕ) → Counts n (own_method l h a on m args n)
  method_counts a on ToString [] n = omega arith
  method_counts a on Equals (b ∷ []) n = answer_counts n (equal l h a b n) (equal_grows a b n)
  method_counts a on m args n = kind_counts on m args n

  by_counts : (o : Option Method) (a : Value) (args : List Value) (n : ℕ) → Counts n (own_by l h o a args n)
  by_counts None a args n = tt
  by_counts (Some m) a args n = method_counts a (kind h a) m args n

  -- a method that takes no closure
  pub call_counts : (a : Value) (name : List ℕ) (args : List Value) (n : ℕ) → IfSome (own_call l h a name args n) (λ r. n ≤ r.1)
  call_counts a name args n = by_counts (method_named name) a args n
