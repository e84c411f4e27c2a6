-- Groovy's truth.
use Rattle.std.specs.Prelude.{Bool, true, false, not, List, [], ◌∷◌, pos}
use Rattle.std.specs.Ordering.{int_eq}
use Rattle.model_values.specs.Kinds.{Kind, null, flag, number, text, items, pairs, closure, thrown, kind}
use Rattle.model_values.specs.Types.{Value, Cell}

-- null, false, 0, the empty text, list and map are false; all else is true
abbrev pub kind_truth : Kind → Bool
kind_truth null = false
kind_truth (flag b) = b
kind_truth (number x) = not (int_eq x (pos 0))
kind_truth (text []) = false
kind_truth (text (b ∷ bs)) = true
kind_truth (items c []) = false
kind_truth (items c (v ∷ vs)) = true
kind_truth (pairs c []) = false
kind_truth (pairs c (e ∷ es)) = true
kind_truth (closure c) = true
kind_truth (thrown c class m) = true

abbrev pub truth : List Cell → Value → Bool
truth h v = kind_truth (kind h v)
