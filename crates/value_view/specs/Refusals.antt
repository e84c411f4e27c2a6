-- What a refusal of the heap is to an operation.
use Rattle.cell_heap.specs.declared.refusal.CellRefusal.{CellRefusal}
use Rattle.cell_heap.specs.declared.refusal.CellRefusal.TheVariants.{Memory as NoMemory, Cells as TooManyCells, Bytes as TooManyBytes, Entries as TooManyEntries}
use Rattle.model_values.specs.declared.limit.LimitKind.TheVariants.{CollectionSize, Cells, HeapBytes}
use Rattle.value_view.specs.declared.refusal.OpRefusal.{OpRefusal}
use Rattle.value_view.specs.declared.refusal.OpRefusal.TheVariants.{Memory, Limit}

abbrev pub refusal_of : CellRefusal → OpRefusal
refusal_of NoMemory = Memory
refusal_of TooManyCells = Limit Cells
refusal_of TooManyBytes = Limit HeapBytes
refusal_of TooManyEntries = Limit CollectionSize
