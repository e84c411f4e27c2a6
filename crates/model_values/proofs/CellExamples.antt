-- Heap bytes, new cells and cells that grow, at and past each limit.
use Rattle.std.specs.Prelude.{slice_get, ◌+◌, true, [], Some, None, pos, codes, refl, ◌≡◌, ◌∷◌, ◌++◌}
use Rattle.model_values.specs.Limits.{limit_line}
use Rattle.model_values.specs.Cells.{cell_bytes, cell_size, heap_bytes, Gives, Meets, new_text, new_list, new_map, new_list_of, throw, list_push, map_put, set_variable}
use Rattle.model_values.proofs.Sample.{sample, ab, gives_new, throws, small}
use Rattle.model_values.specs.Types.{Null, Truth, InCell, IntKey, TextKey, Variable, TextCell, ListCell, MapCell, ClosureCell, ThrownCell, Abort, Error, NodesEvaluated, CallDepth, FlowNodes, LogSize, GreenThreads, TextLength, CollectionSize, ValueDepth, Cells, HeapBytes}

-- heap bytes of a cell of each kind
pub bytes_of_a_variable : cell_bytes (Variable ab) ≡ 16
bytes_of_a_variable = refl

pub bytes_of_a_text : cell_bytes (TextCell (codes "abc")) ≡ 19
bytes_of_a_text = refl

pub bytes_of_a_list : cell_bytes (ListCell (Null ∷ Null ∷ [])) ≡ 48
bytes_of_a_list = refl

pub bytes_of_a_map : cell_bytes (MapCell ((IntKey (pos 1), Null) ∷ (TextKey (codes "key"), Null) ∷ [])) ≡ 83
bytes_of_a_map = refl

pub bytes_of_a_closure : cell_bytes (ClosureCell 4 ((record { name = codes "n"; cell = 0 }) ∷ [])) ≡ 32
bytes_of_a_closure = refl

pub bytes_of_a_throwable : cell_bytes (ThrownCell Abort (Some (codes "no"))) ≡ 18
bytes_of_a_throwable = refl

pub bytes_of_a_throwable_without_a_message : cell_bytes (ThrownCell Error None) ≡ 16
bytes_of_a_throwable_without_a_message = refl

pub size_of_a_map : cell_size (MapCell ((IntKey (pos 1), Null) ∷ (TextKey (codes "key"), Null) ∷ [])) ≡ 2
size_of_a_map = refl

pub size_of_a_closure : cell_size (ClosureCell 4 ((record { name = codes "n"; cell = 0 }) ∷ [])) ≡ 0
size_of_a_closure = refl

pub size_of_a_throwable : cell_size (ThrownCell Abort (Some (codes "no"))) ≡ 2
size_of_a_throwable = refl

pub bytes_of_the_sample : heap_bytes sample ≡ 16 + 18 + 16 + 48 + 16 + (16 + 33 + 32) + 16 + 18 + 16 + 16 + 22 + 48
bytes_of_the_sample = refl

-- the limits of a new cell, in their order: its own size, cells, heap bytes
pub text_at_the_limit : new_text (small 9 2 9 9 13 349) sample (codes "xy") ≡ gives_new (TextCell (codes "xy"))
text_at_the_limit = refl

pub text_past_the_limit : new_text (small 9 1 9 9 12 0) sample (codes "xy") ≡ Meets TextLength
text_past_the_limit = refl

pub cells_past_the_limit : new_text (small 9 2 9 9 12 0) sample (codes "xy") ≡ Meets Cells
cells_past_the_limit = refl

pub bytes_past_the_limit : new_text (small 9 2 9 9 13 348) sample (codes "xy") ≡ Meets HeapBytes
bytes_past_the_limit = refl

pub list_at_the_limit : new_list (small 9 9 1 9 13 9999) sample (Null ∷ []) ≡ gives_new (ListCell (Null ∷ []))
list_at_the_limit = refl

pub list_past_the_limit : new_list (small 9 9 0 9 12 0) sample (Null ∷ []) ≡ Meets CollectionSize
list_past_the_limit = refl

pub map_at_the_limit : new_map (small 9 9 1 9 13 9999) sample ((IntKey (pos 0), Null) ∷ []) ≡ gives_new (MapCell ((IntKey (pos 0), Null) ∷ []))
map_at_the_limit = refl

pub map_past_the_limit : new_map (small 9 9 0 9 12 0) sample ((IntKey (pos 0), Null) ∷ []) ≡ Meets CollectionSize
map_past_the_limit = refl

-- new cells come all or none
pub two_cells_at_the_limit : new_list_of (small 9 9 9 9 14 9999) sample (TextCell [] ∷ []) (InCell 12 ∷ []) ≡ Gives (sample ++ TextCell [] ∷ ListCell (InCell 12 ∷ []) ∷ []) (InCell 13)
two_cells_at_the_limit = refl

pub two_cells_past_the_limit : new_list_of (small 9 9 9 9 13 9999) sample (TextCell [] ∷ []) (InCell 12 ∷ []) ≡ Meets Cells
two_cells_past_the_limit = refl

-- a message is a text
pub message_at_the_limit : throw (small 9 1 9 9 13 9999) sample Error (codes "m") ≡ throws Error (codes "m")
message_at_the_limit = refl

pub message_past_the_limit : throw (small 9 0 9 9 13 9999) sample Error (codes "m") ≡ Meets TextLength
message_past_the_limit = refl

pub throwable_past_the_cells : throw (small 9 9 9 9 12 9999) sample Error (codes "m") ≡ Meets Cells
throwable_past_the_cells = refl

-- a list that grows
pub push_at_the_limits : list_push (small 9 9 1 9 1 32) (ListCell [] ∷ []) 0 [] Null ≡ Gives (ListCell (Null ∷ []) ∷ []) (Truth true)
push_at_the_limits = refl

pub push_past_the_entries : list_push (small 9 9 0 9 1 0) (ListCell [] ∷ []) 0 [] Null ≡ Meets CollectionSize
push_past_the_entries = refl

pub push_past_the_bytes : list_push (small 9 9 1 9 1 31) (ListCell [] ∷ []) 0 [] Null ≡ Meets HeapBytes
push_past_the_bytes = refl

-- a map that grows, and one that does not
pub put_at_the_limits : map_put (small 9 9 1 9 1 49) (MapCell [] ∷ []) 0 [] (TextKey (codes "k")) Null Null ≡ Gives (MapCell ((TextKey (codes "k"), Null) ∷ []) ∷ []) Null
put_at_the_limits = refl

pub put_past_the_entries : map_put (small 9 9 0 9 1 0) (MapCell [] ∷ []) 0 [] (TextKey (codes "k")) Null Null ≡ Meets CollectionSize
put_past_the_entries = refl

pub put_past_the_bytes : map_put (small 9 9 1 9 1 48) (MapCell [] ∷ []) 0 [] (TextKey (codes "k")) Null Null ≡ Meets HeapBytes
put_past_the_bytes = refl

pub put_over_meets_no_limit : map_put (small 0 0 0 0 0 0) (MapCell ((IntKey (pos 1), Null) ∷ []) ∷ []) 0 ((IntKey (pos 1), Null) ∷ []) (IntKey (pos 1)) (Truth true) Null ≡ Gives (MapCell ((IntKey (pos 1), Truth true) ∷ []) ∷ []) Null
put_over_meets_no_limit = refl

-- what the log calls a limit
pub line_of_NodesEvaluated : limit_line NodesEvaluated ≡ codes "Limit reached: nodes evaluated"
line_of_NodesEvaluated = refl

pub line_of_CallDepth : limit_line CallDepth ≡ codes "Limit reached: call depth"
line_of_CallDepth = refl

pub line_of_TextLength : limit_line TextLength ≡ codes "Limit reached: text length"
line_of_TextLength = refl

pub line_of_CollectionSize : limit_line CollectionSize ≡ codes "Limit reached: collection size"
line_of_CollectionSize = refl

pub line_of_ValueDepth : limit_line ValueDepth ≡ codes "Limit reached: value depth"
line_of_ValueDepth = refl

pub line_of_Cells : limit_line Cells ≡ codes "Limit reached: cells"
line_of_Cells = refl

pub line_of_HeapBytes : limit_line HeapBytes ≡ codes "Limit reached: heap bytes"
line_of_HeapBytes = refl

pub line_of_FlowNodes : limit_line FlowNodes ≡ codes "Limit reached: flow nodes"
line_of_FlowNodes = refl

pub line_of_LogSize : limit_line LogSize ≡ codes "Limit reached: log size"
line_of_LogSize = refl

pub line_of_GreenThreads : limit_line GreenThreads ≡ codes "Limit reached: green threads"
line_of_GreenThreads = refl

-- an assignment writes into a variable, and into nothing else
pub variable_gets_a_value : slice_get (set_variable sample 9 (Truth true)) 9 ≡ Some (Variable (Truth true))
variable_gets_a_value = refl

pub no_variable_stays : set_variable sample 1 (Truth true) ≡ sample
no_variable_stays = refl
