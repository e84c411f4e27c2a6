-- What is done once the operands were read: the answer that each effect is, and what it may name.
use Rattle.std.specs.Prelude.{◌≡◌, ℕ, ◌+◌, ◌<◌, ◌∷◌, ◌++◌, [], Result, Ok, Err, List, All, length}
use Rattle.model_values.specs.Cells.{Answer, Gives, Throws, Meets, new_text, new_list, new_list_of, new_map, throw, unless_limit}
use Rattle.model_values.specs.Limits.{Limits, product_limits}
use Rattle.model_values.specs.TextMethods.{text_cells}
use Rattle.model_values.specs.declared.cell.Cell.{Cell}
use Rattle.model_values.specs.declared.value.Value.TheVariants.{Cell as InCell}
use Rattle.cell_heap.specs.Refusals.{new_cell_limit}
use Rattle.cell_heap.specs.Soundness.{ValueBelow}
use Rattle.value_ops.specs.declared.effect.Effect.{Effect}
use Rattle.value_ops.specs.declared.effect.Effect.TheVariants.{Give, NewText, NewList, NewListOf, NewMap, Throw, ThrowAgain}
use Rattle.value_view.specs.declared.refusal.OpRefusal.{OpRefusal}
use Rattle.value_view.specs.declared.refusal.OpRefusal.TheVariants.{Memory, Thrown, Limit}

-- a new cell that the heap admits; its number is the value
abbrev pub made_cell : List Cell → Cell → Answer
made_cell h c = unless_limit (new_cell_limit h c) (Gives (h ++ c ∷ []) (InCell (length h)))

-- the answer of the table that an effect is
abbrev pub effect_answer : Limits → List Cell → Effect → Answer
effect_answer l h (Give v) = Gives h v
effect_answer l h (NewText t) = new_text l h t
effect_answer l h (NewList vs) = new_list l h vs
effect_answer l h (NewListOf ts vs) = new_list_of l h (text_cells ts) vs
effect_answer l h (NewMap es) = new_map l h es
effect_answer l h (Throw class message) = throw l h class message
effect_answer l h (ThrowAgain c) = Throws h c

-- what it names is among the first n cells
abbrev pub EffectBelow : ℕ → Effect → Type 0
EffectBelow n (Give v) = ValueBelow n v
EffectBelow n (NewText t) = Unit {0}
EffectBelow n (NewList vs) = All (ValueBelow n) vs
EffectBelow n (NewListOf ts vs) = All (ValueBelow (n + length ts)) vs
EffectBelow n (NewMap es) = All (λ e. ValueBelow n e.1) es
EffectBelow n (Throw class message) = Unit {0}
EffectBelow n (ThrowAgain c) = c < n

-- whatever the cells are, the effect's answer is this
abbrev pub HasAnswer : (List Cell → Answer) → Effect → Type 0
HasAnswer a effect = (h : List Cell) → effect_answer product_limits h effect ≡ a h

-- it names no cell that has to be there
abbrev pub NamesNone : Effect → Type 0
NamesNone effect = (n : ℕ) → EffectBelow n effect

-- operands were read: the effect whose answer is the table's, or the limit that the table meets
abbrev pub IsReadAs : List Cell → Answer → Result Effect OpRefusal → Type 0
IsReadAs h a (Ok effect) = effect_answer product_limits h effect ≡ a
IsReadAs h a (Err (Limit k)) = a ≡ Meets k
IsReadAs h a (Err (Thrown c)) = ⊥
IsReadAs h a (Err Memory) = Unit {0}
