-- The names of the methods.
use Rattle.std.specs.Prelude.{ℕ, nat_eq, List, [], ◌∷◌, Option, codes}
use Rattle.std.specs.Cmp.Lexicographic.{pointwise}
use Rattle.std.specs.Map.{lookup}

pub data Method : Type 0 where
  ToString : Method
  Equals : Method
  Size : Method
  Length : Method
  IsEmpty : Method
  Trim : Method
  ToUpperCase : Method
  ToLowerCase : Method
  Contains : Method
  StartsWith : Method
  EndsWith : Method
  IndexOf : Method
  Replace : Method
  Substring : Method
  Tokenize : Method
  ReadLines : Method
  ToInteger : Method
  Add : Method
  Get : Method
  First : Method
  Last : Method
  Join : Method
  Reverse : Method
  Put : Method
  ContainsKey : Method
  Remove : Method
  KeySet : Method
  Values : Method
  Each : Method
  Collect : Method
  Find : Method
  FindAll : Method
  Any : Method
  Every : Method
  Times : Method
  Intdiv : Method
  GetMessage : Method
  Call : Method

abbrev pub method_names : List (List ℕ × Method)
method_names =
    (codes "toString", ToString) ∷ (codes "equals", Equals) ∷ (codes "size", Size) ∷ (codes "length", Length)
    ∷ (codes "isEmpty", IsEmpty) ∷ (codes "trim", Trim) ∷ (codes "toUpperCase", ToUpperCase)
    ∷ (codes "toLowerCase", ToLowerCase) ∷ (codes "contains", Contains) ∷ (codes "startsWith", StartsWith)
    ∷ (codes "endsWith", EndsWith) ∷ (codes "indexOf", IndexOf) ∷ (codes "replace", Replace)
    ∷ (codes "substring", Substring) ∷ (codes "tokenize", Tokenize) ∷ (codes "readLines", ReadLines)
    ∷ (codes "toInteger", ToInteger) ∷ (codes "add", Add) ∷ (codes "get", Get) ∷ (codes "first", First)
    ∷ (codes "last", Last) ∷ (codes "join", Join) ∷ (codes "reverse", Reverse) ∷ (codes "put", Put)
    ∷ (codes "containsKey", ContainsKey) ∷ (codes "remove", Remove) ∷ (codes "keySet", KeySet)
    ∷ (codes "values", Values) ∷ (codes "each", Each) ∷ (codes "collect", Collect) ∷ (codes "find", Find)
    ∷ (codes "findAll", FindAll) ∷ (codes "any", Any) ∷ (codes "every", Every) ∷ (codes "times", Times)
    ∷ (codes "intdiv", Intdiv) ∷ (codes "getMessage", GetMessage) ∷ (codes "call", Call) ∷ []

abbrev pub method_named : List ℕ → Option Method
method_named name = lookup (pointwise nat_eq name) method_names
