-- Groovy's truth of a value of each kind.
use Rattle.std.specs.Prelude.{true, false, pos, negsuc, refl, ◌≡◌}
use Rattle.model_values.specs.Truth.{truth}
use Rattle.model_values.proofs.Sample.{sample, empty_text, ab, empty_list, list, empty_map, pairs_map, closure_cell, thrown_cell}
use Rattle.model_values.specs.Types.{Null, Truth, Whole}

pub truth_of_null : truth sample Null ≡ false
truth_of_null = refl

pub truth_of_false : truth sample (Truth false) ≡ false
truth_of_false = refl

pub truth_of_true : truth sample (Truth true) ≡ true
truth_of_true = refl

pub truth_of_zero : truth sample (Whole (pos 0)) ≡ false
truth_of_zero = refl

pub truth_of_minus_one : truth sample (Whole (negsuc 0)) ≡ true
truth_of_minus_one = refl

pub truth_of_empty_text : truth sample empty_text ≡ false
truth_of_empty_text = refl

pub truth_of_a_text : truth sample ab ≡ true
truth_of_a_text = refl

pub truth_of_an_empty_list : truth sample empty_list ≡ false
truth_of_an_empty_list = refl

pub truth_of_a_list : truth sample list ≡ true
truth_of_a_list = refl

pub truth_of_an_empty_map : truth sample empty_map ≡ false
truth_of_an_empty_map = refl

pub truth_of_a_map : truth sample pairs_map ≡ true
truth_of_a_map = refl

pub truth_of_a_closure : truth sample closure_cell ≡ true
truth_of_a_closure = refl

pub truth_of_a_throwable : truth sample thrown_cell ≡ true
truth_of_a_throwable = refl
