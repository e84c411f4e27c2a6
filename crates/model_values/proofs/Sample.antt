-- The cells of the worked examples, the limits of those at and past a limit, and what most examples give.
use Rattle.std.specs.Prelude.{ℕ, zero, suc, List, [], ◌∷◌, ◌++◌, Some, None, pos, codes}
use Rattle.model_values.specs.Cells.{Answer, Gives, Throws}
use Rattle.model_values.specs.Limits.{Limits}
use Rattle.model_values.specs.Types.{Value, Null, Whole, InCell, IntKey, TextKey, Cell, Variable, TextCell, ListCell, MapCell, ClosureCell, ThrownCell, Class, Abort, Error}

-- `''`, `'ab'`, `[]`, `[1, null]`, `[:]`, `[b:1, 3:'ab']`, a closure, a throwable with a message and one without, a
-- variable, a text of three characters of two, three and one bytes, and a list of the list and the map
abbrev pub sample : List Cell
sample =
    TextCell [] ∷ TextCell (codes "ab") ∷ ListCell [] ∷ ListCell (Whole (pos 1) ∷ Null ∷ []) ∷ MapCell []
    ∷ MapCell ((TextKey (codes "b"), Whole (pos 1)) ∷ (IntKey (pos 3), InCell 1) ∷ [])
    ∷ ClosureCell 7 [] ∷ ThrownCell Abort (Some (codes "no")) ∷ ThrownCell Error None ∷ Variable (Whole (pos 5))
    ∷ TextCell (195 ∷ 169 ∷ 226 ∷ 130 ∷ 172 ∷ 120 ∷ []) ∷ ListCell (InCell 3 ∷ InCell 5 ∷ []) ∷ []

abbrev pub empty_text : Value
empty_text = InCell 0

abbrev pub ab : Value
ab = InCell 1

abbrev pub empty_list : Value
empty_list = InCell 2

abbrev pub list : Value
list = InCell 3

abbrev pub empty_map : Value
empty_map = InCell 4

abbrev pub pairs_map : Value
pairs_map = InCell 5

abbrev pub closure_cell : Value
closure_cell = InCell 6

abbrev pub thrown_cell : Value
thrown_cell = InCell 7

abbrev pub error_cell : Value
error_cell = InCell 8

abbrev pub wide : Value
wide = InCell 10

abbrev pub nested : Value
nested = InCell 11

-- a value, and no cell is changed or made
abbrev pub gives : Value → Answer
gives v = Gives sample v

-- a value in one new cell
abbrev pub gives_new : Cell → Answer
gives_new c = Gives (sample ++ c ∷ []) (InCell 12)

-- a new throwable with this message
abbrev pub throws : Class → List ℕ → Answer
throws class m = Throws (sample ++ ThrownCell class (Some m) ∷ []) 12

-- n lists and one more, each but the first with the one before it inside: as many inside each other
abbrev pub chain : ℕ → List Cell
chain zero = ListCell [] ∷ []
chain (suc n) = chain n ++ ListCell (InCell n ∷ []) ∷ []

-- limits: nodes, bytes of a text, entries, depth, cells, heap bytes
abbrev pub small : ℕ → ℕ → ℕ → ℕ → ℕ → ℕ → Limits
small n t e d c b = record { nodes = n; text = t; entries = e; depth = d; cells = c; bytes = b }
