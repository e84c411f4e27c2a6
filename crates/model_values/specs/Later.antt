-- What an evaluation of values does to the cells: it makes new ones behind those that are there, and changes what a
-- variable, a list or a map holds (this product's own).
use Rattle.std.specs.Prelude.{◌≡◌, ◌≤◌, ℕ, List, length, Option, Some, slice_get}
use Rattle.std.specs.List.{AllByRecursion as AllAre}
use Rattle.model_values.specs.Cells.{Answer, Gives, Throws, Meets, heap_bytes, cell_size}
use Rattle.model_values.specs.Fitting.{There, HasVariable, HasList, HasMap, HasClosure, HasThrowable, CellsFit}
use Rattle.model_values.specs.Limits.{Limits}
use Rattle.model_values.specs.Methods.{Called, Done, Walks, CallsClosure}
use Rattle.model_values.specs.Types.{Value, Cell, Variable, ListCell, MapCell}
use Rattle.model_values.specs.Walks.{Turn, Turns, Past, Stops, After, Keeps, Ends}
use Rattle.model_values.specs.declared.cell.Binding.{Binding}

-- a variable, a list and a map may hold other values later and remain that; all else stays as it is
abbrev pub StaysAs : Cell → Option Cell → Type 0
StaysAs (Variable v) o = HasVariable o
StaysAs (ListCell vs) o = HasList o
StaysAs (MapCell es) o = HasMap o
StaysAs c o = o ≡ Some c

-- later cells: none has gone away, and each is what it was
pub record CellsLater (h g : List Cell) : Type 0 where
  pub more : length h ≤ length g
  pub stays : (c : ℕ) (x : Cell) → slice_get h c ≡ Some x → StaysAs x (slice_get g c)

-- an answer's cells are later
abbrev pub AnswerLater : List Cell → Answer → Type 0
AnswerLater h (Gives g v) = CellsLater h g
AnswerLater h (Throws g c) = CellsLater h g
AnswerLater h (Meets k) = Unit {0}

-- at most so many cells, and so many heap bytes
pub record Bounded (cells bytes : ℕ) (h : List Cell) : Type 0 where
  pub cells_fit : length h ≤ cells
  pub bytes_fit : heap_bytes h ≤ bytes

-- these cells and the values that an operation is given name what is there
abbrev pub Given : (ℕ → List Binding → Type 0) → List Cell → List Value → Type 0
Given rule h vs = CellsFit rule h × AllAre (There h) vs

-- from cells h to cells g: they are later; their number and their heap bytes stay within the limits, or within any wider bound that
-- held of h, and no cell gets larger than such a bound of heap bytes; and where what was given names what is there, so do g, and
-- what comes with them is there too
pub record Grows (l : Limits) (rule : ℕ → List Binding → Type 0) (h : List Cell) (given : Type 0) (g : List Cell) (result : Type 0) : Type 0 where
  pub later : CellsLater h g
  pub bounds : (cells bytes : ℕ) → l.cells ≤ cells → l.bytes ≤ bytes → Bounded cells bytes h → Bounded cells bytes g
  pub sizes : (most : ℕ) → l.bytes ≤ most → AllAre (λ c. cell_size c ≤ most) h → AllAre (λ c. cell_size c ≤ most) g
  pub fits : given → CellsFit rule g × result

module _ (l : Limits) (rule : ℕ → List Binding → Type 0) (h : List Cell) (given : Type 0) where
  -- the value of an answer is of a sort, and what it throws is a throwable
  abbrev pub AnswerGrows : (List Cell → Value → Type 0) → Answer → Type 0
  AnswerGrows sort (Gives g v) = Grows l rule h given g (sort g v)
  AnswerGrows sort (Throws g c) = Grows l rule h given g (HasThrowable (slice_get g c))
  AnswerGrows sort (Meets k) = Unit {0}

  -- what a method call walks with, or calls, is a closure
  abbrev pub CalledGrows : Called → Type 0
  CalledGrows (Done answer n) = AnswerGrows There answer
  CalledGrows (Walks m c) = HasClosure (slice_get h c)
  CalledGrows (CallsClosure c) = HasClosure (slice_get h c)

  -- what a turn of a walk begins with is there, and what it keeps
  abbrev pub TurnGrows : Turn → Type 0
  TurnGrows (Turns g args element) = Grows l rule h given g (AllAre (There g) args × AllAre (There g) element)
  TurnGrows Past = Unit {0}
  TurnGrows (Stops k) = Unit {0}

  abbrev pub AfterGrows : After → Type 0
  AfterGrows (Keeps kept) = given → AllAre (There h) kept
  AfterGrows (Ends answer) = AnswerGrows There answer
