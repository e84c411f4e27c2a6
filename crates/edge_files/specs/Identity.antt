-- Which build a store is, as text. This product's own form (docs/HOSTS.md).
use Rattle.std.specs.Prelude.{◌++◌, ℕ, Bool, true, false, List, codes}
use Rattle.hex.specs.Hex.{encode_lower}

-- behind the digits of a build that takes folders without a name for its own
abbrev pub unnamed_word : Bool → List ℕ
unnamed_word true = codes " older"
unnamed_word false = codes ""

-- the line of an identity: the bits of the build in lower hexadecimal digits, that word, and a newline, which is 10
abbrev pub identity_line : List ℕ → Bool → List ℕ
identity_line bits takes_unnamed = encode_lower bits ++ unnamed_word takes_unnamed ++ codes "\n"
