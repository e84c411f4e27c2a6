-- The program's methods as those of the table.
use Rattle.std.specs.Prelude.{ℕ, List, codes, map}
use Rattle.model_values.specs.MethodNames as table
use Rattle.method_names.specs.declared.method.Method.{Method}
use Rattle.method_names.specs.declared.method.Method.TheVariants.{ToString, Equals, Size, Length, IsEmpty, Trim, ToUpperCase, ToLowerCase, Contains, StartsWith, EndsWith, IndexOf, Replace, Substring, Tokenize, ReadLines, ToInteger, Add, Get, First, Last, Join, Reverse, Put, ContainsKey, Remove, KeySet, Values, Each, Collect, Find, FindAll, Any, Every, Times, Intdiv, GetMessage, Call}

abbrev pub seen : Method → table.Method
seen ToString = table.ToString
seen Equals = table.Equals
seen Size = table.Size
seen Length = table.Length
seen IsEmpty = table.IsEmpty
seen Trim = table.Trim
seen ToUpperCase = table.ToUpperCase
seen ToLowerCase = table.ToLowerCase
seen Contains = table.Contains
seen StartsWith = table.StartsWith
seen EndsWith = table.EndsWith
seen IndexOf = table.IndexOf
seen Replace = table.Replace
seen Substring = table.Substring
seen Tokenize = table.Tokenize
seen ReadLines = table.ReadLines
seen ToInteger = table.ToInteger
seen Add = table.Add
seen Get = table.Get
seen First = table.First
seen Last = table.Last
seen Join = table.Join
seen Reverse = table.Reverse
seen Put = table.Put
seen ContainsKey = table.ContainsKey
seen Remove = table.Remove
seen KeySet = table.KeySet
seen Values = table.Values
seen Each = table.Each
seen Collect = table.Collect
seen Find = table.Find
seen FindAll = table.FindAll
seen Any = table.Any
seen Every = table.Every
seen Times = table.Times
seen Intdiv = table.Intdiv
seen GetMessage = table.GetMessage
seen Call = table.Call

-- the name by which a script calls a method (Groovy)
abbrev pub name_of : Method → List ℕ
name_of ToString = codes "toString"
name_of Equals = codes "equals"
name_of Size = codes "size"
name_of Length = codes "length"
name_of IsEmpty = codes "isEmpty"
name_of Trim = codes "trim"
name_of ToUpperCase = codes "toUpperCase"
name_of ToLowerCase = codes "toLowerCase"
name_of Contains = codes "contains"
name_of StartsWith = codes "startsWith"
name_of EndsWith = codes "endsWith"
name_of IndexOf = codes "indexOf"
name_of Replace = codes "replace"
name_of Substring = codes "substring"
name_of Tokenize = codes "tokenize"
name_of ReadLines = codes "readLines"
name_of ToInteger = codes "toInteger"
name_of Add = codes "add"
name_of Get = codes "get"
name_of First = codes "first"
name_of Last = codes "last"
name_of Join = codes "join"
name_of Reverse = codes "reverse"
name_of Put = codes "put"
name_of ContainsKey = codes "containsKey"
name_of Remove = codes "remove"
name_of KeySet = codes "keySet"
name_of Values = codes "values"
name_of Each = codes "each"
name_of Collect = codes "collect"
name_of Find = codes "find"
name_of FindAll = codes "findAll"
name_of Any = codes "any"
name_of Every = codes "every"
name_of Times = codes "times"
name_of Intdiv = codes "intdiv"
name_of GetMessage = codes "getMessage"
name_of Call = codes "call"

-- rows of a table of names
abbrev pub rows : List Method → List (List ℕ × table.Method)
rows ms = map (λ (m : Method). (name_of m, seen m)) ms
