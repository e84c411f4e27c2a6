-- The method table: what a call of a method on a value gives, but for what its closure does.
use Rattle.std.specs.Prelude.{ℕ, Bool, true, false, if◌then◌else◌, List, [], ◌∷◌, map, ℤ, pos, Option, Some, None, int_div}
use Rattle.std.specs.Ordering.{int_eq}
use Rattle.model_values.specs.Cells.{Answer, Gives, Meets}
use Rattle.model_values.specs.Equality.{Equality, Is, Stops as Halts, equal}
use Rattle.model_values.specs.Index.{message_of}
use Rattle.model_values.specs.Limits.{Limits}
use Rattle.model_values.specs.ListMethods.{list_method, map_method}
use Rattle.model_values.specs.Kinds.{Kind, number, text, items, pairs, closure, thrown, kind}
use Rattle.model_values.specs.MethodNames.{Method, method_named, ToString, Equals, ToInteger, Intdiv, GetMessage, Each, Collect, Find, FindAll, Any, Every, Times, Call}
use Rattle.model_values.specs.Operators.{wrapped}
use Rattle.model_values.specs.TextMethods.{text_method, with_number}
use Rattle.model_values.specs.TextOf.{text_of, written}
use Rattle.model_values.specs.Throws.{no_method, bad_argument, by_zero}
use Rattle.model_values.specs.Types.{Value, Truth, Whole, Cell}

-- what a call gives: an answer and the count of evaluated nodes; or it walks over the value with a closure;
-- or it calls the closure that the value is
pub data Called : Type 0 where
  Done : Answer → ℕ → Called
  Walks : Method → ℕ → Called
  CallsClosure : ℕ → Called

-- this product's own: the methods with a closure are those of lists and maps, and `times` of numbers (Groovy's walk
-- over texts and single values too)
abbrev pub is_walk : Kind → Method → Bool
is_walk (items c vs) Each = true
is_walk (items c vs) Collect = true
is_walk (items c vs) Find = true
is_walk (items c vs) FindAll = true
is_walk (items c vs) Any = true
is_walk (items c vs) Every = true
is_walk (pairs c es) Each = true
is_walk (pairs c es) Collect = true
is_walk (pairs c es) Find = true
is_walk (pairs c es) FindAll = true
is_walk (pairs c es) Any = true
is_walk (pairs c es) Every = true
is_walk (number x) Times = true
is_walk _ _ = false

module _ (l : Limits) (h : List Cell) where
  abbrev pub equality_answer : Equality → Answer × ℕ
  equality_answer (Is b n) = (Gives h (Truth b), n)
  equality_answer (Halts k n) = (Meets k, n)

  -- `toString` gives a text itself back, and makes the text of any other value
  abbrev pub text_value : Value → Kind → Answer
  text_value v (text t) = Gives h v
  text_value v _ = written l h (text_of l h v)

  -- Java: `intdiv` divides toward zero, and the least number by -1 wraps
  abbrev pub number_method : ℤ → Method → List Kind → Option Answer
  number_method x Intdiv (k ∷ []) =
      Some (with_number l h k (λ y. if int_eq y (pos 0) then by_zero l h else wrapped l h (int_div x y)))
  number_method x ToInteger [] = Some (Gives h (Whole x))
  number_method x _ _ = None

  abbrev pub thrown_method : Option (List ℕ) → Method → List Kind → Option Answer
  thrown_method m GetMessage [] = Some (message_of l h m)
  thrown_method m _ _ = None

  -- an answer of a method that leaves the count as it is
  abbrev pub uncounted : Option Answer → ℕ → Option (Answer × ℕ)
  uncounted None n = None
  uncounted (Some answer) n = Some (answer, n)

  -- the methods of each kind of its own that take no closure
  abbrev pub kind_method : Kind → Method → List Value → ℕ → Option (Answer × ℕ)
  kind_method (text s) m args n = uncounted (text_method l h s m (map (kind h) args)) n
  kind_method (items c vs) m args n = list_method l h c vs m args n
  kind_method (pairs c es) m args n = uncounted (map_method l h c es m args) n
  kind_method (number x) m args n = uncounted (number_method x m (map (kind h) args)) n
  kind_method (thrown c class message) m args n = uncounted (thrown_method message m (map (kind h) args)) n
  kind_method _ m args n = None

  abbrev pub done_or_none : Kind → List ℕ → ℕ → Option (Answer × ℕ) → Called
  done_or_none on name n None = Done (no_method l h on name) n
  done_or_none on name n (Some r) = Done r.0 r.1

  -- a method with a closure, by its only argument
  abbrev pub walk_call : Method → Kind → ℕ → Called
  walk_call m (closure c) n = Walks m c
  walk_call m _ n = Done (bad_argument l h) n

  abbrev pub walk_or_own : Bool → Kind → List ℕ → Method → List Value → ℕ → Called
  walk_or_own true on name m (v ∷ []) n = walk_call m (kind h v) n
  walk_or_own true on name m _ n = Done (no_method l h on name) n
  walk_or_own false on name m args n = done_or_none on name n (kind_method on m args n)

  -- `toString()` and `equals(v)` are methods of every value, null included
  abbrev pub named_call : Value → Kind → List ℕ → Method → List Value → ℕ → Called
  named_call a on name ToString [] n = Done (text_value a on) n
  named_call a on name Equals (b ∷ []) n = done_or_none on name n (Some (equality_answer (equal l h a b n)))
  named_call a (closure c) name Call args n = CallsClosure c
  named_call a on name m args n = walk_or_own (is_walk on m) on name m args n

  abbrev pub call_by : Option Method → Value → List ℕ → List Value → ℕ → Called
  call_by None a name args n = Done (no_method l h (kind h a) name) n
  call_by (Some m) a name args n = named_call a (kind h a) name m args n

  -- `a.name(args)` where n nodes were evaluated so far
  abbrev pub method_call : Value → List ℕ → List Value → ℕ → Called
  method_call a name args n = call_by (method_named name) a name args n
