-- The names of the methods.
use Rattle.std.specs.Prelude.{[], Some, None, codes, refl, ◌≡◌}
use Rattle.model_values.specs.MethodNames.{method_named, ToString, Equals, Size, Length, IsEmpty, Trim, ToUpperCase, ToLowerCase, Contains, StartsWith, EndsWith, IndexOf, Replace, Substring, Tokenize, ReadLines, ToInteger, Add, Get, First, Last, Join, Reverse, Put, ContainsKey, Remove, KeySet, Values, Each, Collect, Find, FindAll, Any, Every, Times as TimesWalk, Intdiv, GetMessage, Call}

-- each name, and its method
pub named_toString : method_named (codes "toString") ≡ Some ToString
named_toString = refl

pub named_equals : method_named (codes "equals") ≡ Some Equals
named_equals = refl

pub named_size : method_named (codes "size") ≡ Some Size
named_size = refl

pub named_length : method_named (codes "length") ≡ Some Length
named_length = refl

pub named_isEmpty : method_named (codes "isEmpty") ≡ Some IsEmpty
named_isEmpty = refl

pub named_trim : method_named (codes "trim") ≡ Some Trim
named_trim = refl

pub named_toUpperCase : method_named (codes "toUpperCase") ≡ Some ToUpperCase
named_toUpperCase = refl

pub named_toLowerCase : method_named (codes "toLowerCase") ≡ Some ToLowerCase
named_toLowerCase = refl

pub named_contains : method_named (codes "contains") ≡ Some Contains
named_contains = refl

pub named_startsWith : method_named (codes "startsWith") ≡ Some StartsWith
named_startsWith = refl

pub named_endsWith : method_named (codes "endsWith") ≡ Some EndsWith
named_endsWith = refl

pub named_indexOf : method_named (codes "indexOf") ≡ Some IndexOf
named_indexOf = refl

pub named_replace : method_named (codes "replace") ≡ Some Replace
named_replace = refl

pub named_substring : method_named (codes "substring") ≡ Some Substring
named_substring = refl

pub named_tokenize : method_named (codes "tokenize") ≡ Some Tokenize
named_tokenize = refl

pub named_readLines : method_named (codes "readLines") ≡ Some ReadLines
named_readLines = refl

pub named_toInteger : method_named (codes "toInteger") ≡ Some ToInteger
named_toInteger = refl

pub named_add : method_named (codes "add") ≡ Some Add
named_add = refl

pub named_get : method_named (codes "get") ≡ Some Get
named_get = refl

pub named_first : method_named (codes "first") ≡ Some First
named_first = refl

pub named_last : method_named (codes "last") ≡ Some Last
named_last = refl

pub named_join : method_named (codes "join") ≡ Some Join
named_join = refl

pub named_reverse : method_named (codes "reverse") ≡ Some Reverse
named_reverse = refl

pub named_put : method_named (codes "put") ≡ Some Put
named_put = refl

pub named_containsKey : method_named (codes "containsKey") ≡ Some ContainsKey
named_containsKey = refl

pub named_remove : method_named (codes "remove") ≡ Some Remove
named_remove = refl

pub named_keySet : method_named (codes "keySet") ≡ Some KeySet
named_keySet = refl

pub named_values : method_named (codes "values") ≡ Some Values
named_values = refl

pub named_each : method_named (codes "each") ≡ Some Each
named_each = refl

pub named_collect : method_named (codes "collect") ≡ Some Collect
named_collect = refl

pub named_find : method_named (codes "find") ≡ Some Find
named_find = refl

pub named_findAll : method_named (codes "findAll") ≡ Some FindAll
named_findAll = refl

pub named_any : method_named (codes "any") ≡ Some Any
named_any = refl

pub named_every : method_named (codes "every") ≡ Some Every
named_every = refl

pub named_times : method_named (codes "times") ≡ Some TimesWalk
named_times = refl

pub named_intdiv : method_named (codes "intdiv") ≡ Some Intdiv
named_intdiv = refl

pub named_getMessage : method_named (codes "getMessage") ≡ Some GetMessage
named_getMessage = refl

pub named_call : method_named (codes "call") ≡ Some Call
named_call = refl

-- no other name is one
pub named_otherwise : method_named (codes "sort") ≡ None
named_otherwise = refl

pub named_in_capitals : method_named (codes "Size") ≡ None
named_in_capitals = refl

pub named_by_nothing : method_named [] ≡ None
named_by_nothing = refl
