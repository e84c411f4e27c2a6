-- Equality by contents, its count and its limits.
use Rattle.std.specs.Prelude.{true, false, [], None, pos, negsuc, codes, refl, ◌≡◌, ◌∷◌}
use Rattle.model_values.specs.Equality.{equal, Is, Stops, equal_within}
use Rattle.model_values.specs.Limits.{product_limits}
use Rattle.model_values.proofs.Sample.{sample, chain, empty_text, ab, empty_list, list, empty_map, pairs_map, closure_cell, thrown_cell, wide, nested, small}
use Rattle.model_values.specs.Types.{Null, Truth, Whole, InCell, IntKey, TextKey, TextCell, ListCell, MapCell, ClosureCell, ThrownCell, Error, NodesEvaluated, ValueDepth}

-- null is accepted on either side; two kinds are unequal; each pair that is compared counts once
pub null_equals_null : equal product_limits sample Null Null 0 ≡ Is true 1
unfolding equal_within
null_equals_null = refl

pub null_equals_no_text : equal product_limits sample Null empty_text 0 ≡ Is false 1
unfolding equal_within
null_equals_no_text = refl

pub a_number_equals_no_null : equal product_limits sample (Whole (pos 0)) Null 0 ≡ Is false 1
unfolding equal_within
a_number_equals_no_null = refl

pub true_equals_true : equal product_limits sample (Truth true) (Truth true) 0 ≡ Is true 1
unfolding equal_within
true_equals_true = refl

pub true_equals_no_false : equal product_limits sample (Truth true) (Truth false) 0 ≡ Is false 1
unfolding equal_within
true_equals_no_false = refl

pub numbers_by_value : equal product_limits sample (Whole (pos 3)) (Whole (pos 3)) 7 ≡ Is true 8
unfolding equal_within
numbers_by_value = refl

pub numbers_differ : equal product_limits sample (Whole (pos 3)) (Whole (negsuc 2)) 0 ≡ Is false 1
unfolding equal_within
numbers_differ = refl

pub texts_by_contents : equal product_limits (TextCell (codes "a") ∷ TextCell (codes "a") ∷ []) (InCell 0) (InCell 1) 0 ≡ Is true 1
unfolding equal_within
texts_by_contents = refl

pub texts_differ : equal product_limits sample ab wide 0 ≡ Is false 1
unfolding equal_within
texts_differ = refl

pub a_number_equals_no_text : equal product_limits (TextCell (codes "3") ∷ []) (Whole (pos 3)) (InCell 0) 0 ≡ Is false 1
unfolding equal_within
a_number_equals_no_text = refl

-- lists part by part, up to the first unequal pair
pub lists_by_contents : equal product_limits (ListCell (Whole (pos 1) ∷ Null ∷ []) ∷ ListCell (Whole (pos 1) ∷ Null ∷ []) ∷ []) (InCell 0) (InCell 1) 0 ≡ Is true 3
unfolding equal_within
lists_by_contents = refl

pub lists_differ_at_the_first_part : equal product_limits (ListCell (Whole (pos 1) ∷ Null ∷ []) ∷ ListCell (Null ∷ Null ∷ []) ∷ []) (InCell 0) (InCell 1) 0 ≡ Is false 2
unfolding equal_within
lists_differ_at_the_first_part = refl

pub sizes_before_parts : equal product_limits sample list empty_list 0 ≡ Is false 1
unfolding equal_within
sizes_before_parts = refl

pub lists_inside_lists : equal product_limits sample nested nested 0 ≡ Is true 7
unfolding equal_within
lists_inside_lists = refl

-- maps by their keys, whatever the order, and then value by value in the order of the left
pub maps_by_contents : equal product_limits (MapCell ((IntKey (pos 1), Null) ∷ (IntKey (pos 2), Truth true) ∷ []) ∷ MapCell ((IntKey (pos 2), Truth true) ∷ (IntKey (pos 1), Null) ∷ []) ∷ []) (InCell 0) (InCell 1) 0 ≡ Is true 3
unfolding equal_within
maps_by_contents = refl

pub left_order_decides_the_count : equal product_limits (MapCell ((IntKey (pos 1), Null) ∷ (IntKey (pos 2), Truth true) ∷ []) ∷ MapCell ((IntKey (pos 2), Truth true) ∷ (IntKey (pos 1), Truth true) ∷ []) ∷ []) (InCell 0) (InCell 1) 0 ≡ Is false 2
unfolding equal_within
left_order_decides_the_count = refl

pub right_order_does_not : equal product_limits (MapCell ((IntKey (pos 1), Null) ∷ (IntKey (pos 2), Truth true) ∷ []) ∷ MapCell ((IntKey (pos 2), Truth true) ∷ (IntKey (pos 1), Truth true) ∷ []) ∷ []) (InCell 1) (InCell 0) 0 ≡ Is false 3
unfolding equal_within
right_order_does_not = refl

pub key_sets_before_values : equal product_limits (MapCell ((IntKey (pos 1), Null) ∷ []) ∷ MapCell ((TextKey (codes "1"), Null) ∷ []) ∷ []) (InCell 0) (InCell 1) 0 ≡ Is false 1
unfolding equal_within
key_sets_before_values = refl

pub map_sizes_before_values : equal product_limits sample empty_map pairs_map 0 ≡ Is false 1
unfolding equal_within
map_sizes_before_values = refl

pub a_list_equals_no_map : equal product_limits sample empty_list empty_map 0 ≡ Is false 1
unfolding equal_within
a_list_equals_no_map = refl

-- closures and throwables are equal to themselves alone
pub a_closure_equals_itself : equal product_limits sample closure_cell closure_cell 0 ≡ Is true 1
unfolding equal_within
a_closure_equals_itself = refl

pub closures_are_not_compared : equal product_limits (ClosureCell 7 [] ∷ ClosureCell 7 [] ∷ []) (InCell 0) (InCell 1) 0 ≡ Is false 1
unfolding equal_within
closures_are_not_compared = refl

pub a_throwable_equals_itself : equal product_limits sample thrown_cell thrown_cell 0 ≡ Is true 1
unfolding equal_within
a_throwable_equals_itself = refl

pub throwables_are_not_compared : equal product_limits (ThrownCell Error None ∷ ThrownCell Error None ∷ []) (InCell 0) (InCell 1) 0 ≡ Is false 1
unfolding equal_within
throwables_are_not_compared = refl

-- the limit of evaluated nodes: seven pairs at the limit, and one past it
pub nodes_at_the_limit : equal (small 7 9 9 9 99 9999) sample nested nested 0 ≡ Is true 7
unfolding equal_within
nodes_at_the_limit = refl

pub nodes_past_the_limit : equal (small 6 9 9 9 99 9999) sample nested nested 0 ≡ Stops NodesEvaluated 6
unfolding equal_within
nodes_past_the_limit = refl

pub nodes_used_up_before : equal (small 6 9 9 9 99 9999) sample Null Null 6 ≡ Stops NodesEvaluated 6
unfolding equal_within
nodes_used_up_before = refl

-- the limit of depth: a list in a list is two deep, and is met only where parts are to be compared
pub depth_at_the_limit : equal (small 99 9 9 2 99 9999) sample nested nested 0 ≡ Is true 7
unfolding equal_within
depth_at_the_limit = refl

pub depth_past_the_limit : equal (small 99 9 9 1 99 9999) sample nested nested 0 ≡ Stops ValueDepth 2
unfolding equal_within
depth_past_the_limit = refl

pub depth_past_the_limit_of_a_list_in_itself : equal (small 99 9 9 3 99 9999) (ListCell (InCell 0 ∷ []) ∷ []) (InCell 0) (InCell 0) 0 ≡ Stops ValueDepth 4
unfolding equal_within
depth_past_the_limit_of_a_list_in_itself = refl

pub depth_of_64 : equal product_limits (chain 63) (InCell 63) (InCell 63) 0 ≡ Is true 64
unfolding equal_within
depth_of_64 = refl

pub depth_of_65 : equal product_limits (chain 64) (InCell 64) (InCell 64) 0 ≡ Stops ValueDepth 65
unfolding equal_within
depth_of_65 = refl

pub sizes_before_the_depth : equal (small 99 9 9 0 99 9999) sample list empty_list 0 ≡ Is false 1
unfolding equal_within
sizes_before_the_depth = refl

pub nodes_before_the_depth : equal (small 1 9 9 1 99 9999) sample nested nested 0 ≡ Stops NodesEvaluated 1
unfolding equal_within
nodes_before_the_depth = refl
