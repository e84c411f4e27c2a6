-- What the method table says of a name alone: with how many arguments a kind of value has a method that takes no
-- closure; and what a call of such a method gives (Groovy and Java; which kinds have a method is this product's own).
use Rattle.std.specs.Prelude.{ℕ, nat_eq, Bool, false, if◌then◌else◌, List, [], ◌∷◌, Option, Some, None}
use Rattle.std.specs.List.{list_any}
use Rattle.model_values.specs.Cells.{Answer}
use Rattle.model_values.specs.Equality.{equal}
use Rattle.model_values.specs.Kinds.{Kind, number, text, items, pairs, closure, thrown, kind}
use Rattle.model_values.specs.Limits.{Limits}
use Rattle.model_values.specs.MethodNames.{Method, method_named, ToString, Equals, Size, Length, IsEmpty, Trim, ToUpperCase, ToLowerCase, Contains, StartsWith, EndsWith, IndexOf, Replace, Substring, Tokenize, ReadLines, ToInteger, Add, Get, First, Last, Join, Reverse, Put, ContainsKey, Remove, KeySet, Values, Intdiv, GetMessage, Call}
use Rattle.model_values.specs.Methods.{Called, Done, CallsClosure, is_walk, equality_answer, text_value, kind_method, walk_call}
use Rattle.model_values.specs.Throws.{no_method}
use Rattle.model_values.specs.Types.{Value, Cell}

-- with how many arguments a text has a method
abbrev pub text_arities : Method → List ℕ
text_arities Size = 0 ∷ []
text_arities Length = 0 ∷ []
text_arities IsEmpty = 0 ∷ []
text_arities Trim = 0 ∷ []
text_arities ToUpperCase = 0 ∷ []
text_arities ToLowerCase = 0 ∷ []
text_arities Contains = 1 ∷ []
text_arities StartsWith = 1 ∷ []
text_arities EndsWith = 1 ∷ []
text_arities IndexOf = 1 ∷ []
text_arities Replace = 2 ∷ []
text_arities Substring = 1 ∷ 2 ∷ []
text_arities Tokenize = 0 ∷ 1 ∷ []
text_arities ReadLines = 0 ∷ []
text_arities ToInteger = 0 ∷ []
text_arities _ = []

-- a list
abbrev pub list_arities : Method → List ℕ
list_arities Size = 0 ∷ []
list_arities IsEmpty = 0 ∷ []
list_arities Add = 1 ∷ []
list_arities Get = 1 ∷ []
list_arities Contains = 1 ∷ []
list_arities IndexOf = 1 ∷ []
list_arities First = 0 ∷ []
list_arities Last = 0 ∷ []
list_arities Join = 1 ∷ []
list_arities Reverse = 0 ∷ []
list_arities _ = []

-- a map
abbrev pub map_arities : Method → List ℕ
map_arities Size = 0 ∷ []
map_arities IsEmpty = 0 ∷ []
map_arities Get = 1 ∷ []
map_arities Put = 2 ∷ []
map_arities ContainsKey = 1 ∷ []
map_arities Remove = 1 ∷ []
map_arities KeySet = 0 ∷ []
map_arities Values = 0 ∷ []
map_arities _ = []

-- a number
abbrev pub number_arities : Method → List ℕ
number_arities Intdiv = 1 ∷ []
number_arities ToInteger = 0 ∷ []
number_arities _ = []

-- a throwable
abbrev pub throwable_arities : Method → List ℕ
throwable_arities GetMessage = 0 ∷ []
throwable_arities _ = []

-- any kind but for the two methods of every value
abbrev pub kind_arities : Kind → Method → List ℕ
kind_arities (text s) m = text_arities m
kind_arities (items c vs) m = list_arities m
kind_arities (pairs c es) m = map_arities m
kind_arities (number x) m = number_arities m
kind_arities (thrown c class message) m = throwable_arities m
kind_arities _ m = []

-- with how many arguments a kind has a method that takes no closure; each value, null included, has the first two
abbrev pub arities : Kind → Method → List ℕ
arities on ToString = 0 ∷ []
arities on Equals = 1 ∷ []
arities on m = kind_arities on m

-- whether a kind has a method with so many arguments that takes no closure, and by its name
abbrev pub has_method : Kind → Option Method → ℕ → Bool
has_method on None n = false
has_method on (Some m) n = list_any (nat_eq n) (arities on m)

abbrev pub has_named : Kind → List ℕ → ℕ → Bool
has_named on name n = has_method on (method_named name) n

module _ (l : Limits) (h : List Cell) where
  -- what a method that takes no closure gives, with the count of evaluated nodes then. None: there is no such method
  abbrev pub own_method : Value → Kind → Method → List Value → ℕ → Option (Answer × ℕ)
  own_method a on ToString [] n = Some (text_value l h a on, n)
  own_method a on Equals (b ∷ []) n = Some (equality_answer l h (equal l h a b n))
  own_method a on m args n = kind_method l h on m args n

  abbrev pub own_by : Option Method → Value → List Value → ℕ → Option (Answer × ℕ)
  own_by None a args n = None
  own_by (Some m) a args n = own_method a (kind h a) m args n

  -- `a.name(args)` where n nodes were evaluated so far
  abbrev pub own_call : Value → List ℕ → List Value → ℕ → Option (Answer × ℕ)
  own_call a name args n = own_by (method_named name) a args n

  -- the methods that take a closure, and the call of a closure. None: there is no such method
  abbrev pub closure_method : Kind → Method → List Value → ℕ → Option Called
  closure_method (closure c) Call args n = Some (CallsClosure c)
  closure_method on m (v ∷ []) n = if is_walk on m then Some (walk_call l h m (kind h v) n) else None
  closure_method on m args n = None

  abbrev pub closure_by : Option Method → Value → List Value → ℕ → Option Called
  closure_by None a args n = None
  closure_by (Some m) a args n = closure_method (kind h a) m args n

  abbrev pub closure_call : Value → List ℕ → List Value → ℕ → Option Called
  closure_call a name args n = closure_by (method_named name) a args n

  -- a call that no row of the table has throws
  abbrev pub called_or_none : Option (Answer × ℕ) → Option Called → Kind → List ℕ → ℕ → Called
  called_or_none (Some r) closures on name n = Done r.0 r.1
  called_or_none None (Some called) on name n = called
  called_or_none None None on name n = Done (no_method l h on name) n
