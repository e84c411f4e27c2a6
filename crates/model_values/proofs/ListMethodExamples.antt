-- The methods of lists and maps that take no closure.
use Rattle.std.specs.Prelude.{true, false, [], Some, None, pos, negsuc, codes, refl, ◌≡◌, ◌∷◌, ◌++◌}
use Rattle.std.specs.Fmt.{digits}
use Rattle.std.specs.Prelude.{slice_set}
use Rattle.model_values.specs.ListMethods.{list_method, map_method}
use Rattle.model_values.specs.MethodNames.{Size, IsEmpty, Contains, IndexOf, Add, Get, First, Last, Join, Reverse, Put, ContainsKey, Remove, KeySet, Values}
use Rattle.model_values.specs.TextOf.{text_within}
use Rattle.model_values.specs.Equality.{equal_within}
use Rattle.model_values.specs.Limits.{product_limits}
use Rattle.model_values.specs.Cells.{Gives, Meets}
use Rattle.model_values.proofs.Sample.{sample, ab, list, closure_cell, gives, gives_new, throws, small}
use Rattle.model_values.specs.Types.{Null, Truth, Whole, InCell, IntKey, TextKey, TextCell, ListCell, MapCell, IllegalArgument, IndexOutOfBounds, NoSuchElement, NodesEvaluated, TextLength, CollectionSize, Cells}

-- lists
pub list_size : list_method product_limits sample 3 (Whole (pos 1) ∷ Null ∷ []) Size [] 0 ≡ Some (gives (Whole (pos 2)), 0)
list_size = refl

pub list_empty : list_method product_limits sample 2 [] IsEmpty [] 0 ≡ Some (gives (Truth true), 0)
list_empty = refl

pub list_not_empty : list_method product_limits sample 3 (Whole (pos 1) ∷ Null ∷ []) IsEmpty [] 0 ≡ Some (gives (Truth false), 0)
list_not_empty = refl

pub add : list_method product_limits sample 3 (Whole (pos 1) ∷ Null ∷ []) Add (ab ∷ []) 4 ≡ Some (Gives (slice_set sample 3 (ListCell (Whole (pos 1) ∷ Null ∷ ab ∷ []))) (Truth true), 4)
add = refl

pub add_at_the_limit : list_method (small 9 9 3 9 0 9999) sample 3 (Whole (pos 1) ∷ Null ∷ []) Add (ab ∷ []) 0 ≡ Some (Gives (slice_set sample 3 (ListCell (Whole (pos 1) ∷ Null ∷ ab ∷ []))) (Truth true), 0)
add_at_the_limit = refl

pub add_past_the_limit : list_method (small 9 9 2 9 0 0) sample 3 (Whole (pos 1) ∷ Null ∷ []) Add (ab ∷ []) 0 ≡ Some (Meets CollectionSize, 0)
add_past_the_limit = refl

pub get : list_method product_limits sample 3 (Whole (pos 1) ∷ Null ∷ []) Get (Whole (pos 1) ∷ []) 0 ≡ Some (gives Null, 0)
get = refl

pub get_past_the_end : list_method product_limits sample 3 (Whole (pos 1) ∷ Null ∷ []) Get (Whole (pos 2) ∷ []) 0 ≡ Some (throws IndexOutOfBounds (codes "index 2 of 2"), 0)
unfolding digits
get_past_the_end = refl

pub get_negative : list_method product_limits sample 3 (Whole (pos 1) ∷ Null ∷ []) Get (Whole (negsuc 0) ∷ []) 0 ≡ Some (throws IndexOutOfBounds (codes "index -1 of 2"), 0)
unfolding digits
get_negative = refl

pub get_a_text : list_method product_limits sample 3 (Whole (pos 1) ∷ Null ∷ []) Get (ab ∷ []) 0 ≡ Some (throws IllegalArgument (codes "bad argument"), 0)
get_a_text = refl

-- `contains` and `indexOf` compare in order, with a count for each pair
pub contains_the_second : list_method product_limits sample 3 (Whole (pos 1) ∷ Null ∷ []) Contains (Null ∷ []) 0 ≡ Some (gives (Truth true), 2)
unfolding equal_within
contains_the_second = refl

pub contains_none : list_method product_limits sample 3 (Whole (pos 1) ∷ Null ∷ []) Contains (ab ∷ []) 0 ≡ Some (gives (Truth false), 2)
unfolding equal_within
contains_none = refl

pub contains_in_an_empty_list : list_method product_limits sample 2 [] Contains (ab ∷ []) 0 ≡ Some (gives (Truth false), 0)
unfolding equal_within
contains_in_an_empty_list = refl

pub index_of_the_first : list_method product_limits sample 3 (Whole (pos 1) ∷ Null ∷ []) IndexOf (Whole (pos 1) ∷ []) 5 ≡ Some (gives (Whole (pos 0)), 6)
unfolding equal_within
index_of_the_first = refl

pub index_of_the_second : list_method product_limits sample 3 (Whole (pos 1) ∷ Null ∷ []) IndexOf (Null ∷ []) 0 ≡ Some (gives (Whole (pos 1)), 2)
unfolding equal_within
index_of_the_second = refl

pub index_of_none : list_method product_limits sample 3 (Whole (pos 1) ∷ Null ∷ []) IndexOf (ab ∷ []) 0 ≡ Some (gives (Whole (negsuc 0)), 2)
unfolding equal_within
index_of_none = refl

pub contains_at_the_limit : list_method (small 2 9 9 9 99 9999) sample 3 (Whole (pos 1) ∷ Null ∷ []) Contains (Null ∷ []) 0 ≡ Some (gives (Truth true), 2)
unfolding equal_within
contains_at_the_limit = refl

pub contains_past_the_limit : list_method (small 1 9 9 9 99 9999) sample 3 (Whole (pos 1) ∷ Null ∷ []) Contains (Null ∷ []) 0 ≡ Some (Meets NodesEvaluated, 1)
unfolding equal_within
contains_past_the_limit = refl

pub index_past_the_limit : list_method (small 1 9 9 9 99 9999) sample 3 (Whole (pos 1) ∷ Null ∷ []) IndexOf (Null ∷ []) 0 ≡ Some (Meets NodesEvaluated, 1)
unfolding equal_within
index_past_the_limit = refl

pub first : list_method product_limits sample 3 (Whole (pos 1) ∷ Null ∷ []) First [] 0 ≡ Some (gives (Whole (pos 1)), 0)
first = refl

pub first_of_none : list_method product_limits sample 2 [] First [] 0 ≡ Some (throws NoSuchElement (codes "empty list"), 0)
first_of_none = refl

pub last : list_method product_limits sample 3 (Whole (pos 1) ∷ Null ∷ []) Last [] 0 ≡ Some (gives Null, 0)
last = refl

pub last_of_none : list_method product_limits sample 2 [] Last [] 0 ≡ Some (throws NoSuchElement (codes "empty list"), 0)
last_of_none = refl

pub join : list_method product_limits sample 3 (Whole (pos 1) ∷ Null ∷ []) Join (ab ∷ []) 0 ≡ Some (gives_new (TextCell (codes "1abnull")), 0)
unfolding text_within digits
join = refl

pub join_none : list_method product_limits sample 2 [] Join (ab ∷ []) 0 ≡ Some (gives_new (TextCell (codes "")), 0)
unfolding text_within digits
join_none = refl

pub join_at_the_limit : list_method (small 9 7 9 9 99 9999) sample 3 (Whole (pos 1) ∷ Null ∷ []) Join (ab ∷ []) 0 ≡ Some (gives_new (TextCell (codes "1abnull")), 0)
unfolding text_within digits
join_at_the_limit = refl

pub join_past_the_limit : list_method (small 9 6 9 9 99 9999) sample 3 (Whole (pos 1) ∷ Null ∷ []) Join (ab ∷ []) 0 ≡ Some (Meets TextLength, 0)
unfolding text_within digits
join_past_the_limit = refl

pub join_by_a_number : list_method product_limits sample 3 (Whole (pos 1) ∷ Null ∷ []) Join (Whole (pos 1) ∷ []) 0 ≡ Some (throws IllegalArgument (codes "bad argument"), 0)
unfolding text_within digits
join_by_a_number = refl

pub reverse_of_a_list : list_method product_limits sample 3 (Whole (pos 1) ∷ Null ∷ []) Reverse [] 0 ≡ Some (gives_new (ListCell (Null ∷ Whole (pos 1) ∷ [])), 0)
reverse_of_a_list = refl

pub list_join_of_none : list_method product_limits sample 3 (Whole (pos 1) ∷ Null ∷ []) Join [] 0 ≡ None
list_join_of_none = refl

pub list_add_of_two : list_method product_limits sample 3 (Whole (pos 1) ∷ Null ∷ []) Add (ab ∷ ab ∷ []) 0 ≡ None
list_add_of_two = refl

pub list_size_of_one : list_method product_limits sample 3 (Whole (pos 1) ∷ Null ∷ []) Size (ab ∷ []) 0 ≡ None
list_size_of_one = refl

pub list_put : list_method product_limits sample 3 (Whole (pos 1) ∷ Null ∷ []) Put (ab ∷ ab ∷ []) 0 ≡ None
list_put = refl

-- maps
pub map_size : map_method product_limits sample 5 ((TextKey (codes "b"), Whole (pos 1)) ∷ (IntKey (pos 3), InCell 1) ∷ []) Size [] ≡ Some (gives (Whole (pos 2)))
map_size = refl

pub map_empty : map_method product_limits sample 4 [] IsEmpty [] ≡ Some (gives (Truth true))
map_empty = refl

pub map_not_empty : map_method product_limits sample 5 ((TextKey (codes "b"), Whole (pos 1)) ∷ (IntKey (pos 3), InCell 1) ∷ []) IsEmpty [] ≡ Some (gives (Truth false))
map_not_empty = refl

pub map_get : map_method product_limits sample 5 ((TextKey (codes "b"), Whole (pos 1)) ∷ (IntKey (pos 3), InCell 1) ∷ []) Get (Whole (pos 3) ∷ []) ≡ Some (gives ab)
map_get = refl

pub map_get_absent : map_method product_limits sample 5 ((TextKey (codes "b"), Whole (pos 1)) ∷ (IntKey (pos 3), InCell 1) ∷ []) Get (ab ∷ []) ≡ Some (gives Null)
map_get_absent = refl

pub map_get_bad_key : map_method product_limits sample 5 ((TextKey (codes "b"), Whole (pos 1)) ∷ (IntKey (pos 3), InCell 1) ∷ []) Get (Null ∷ []) ≡ Some (throws IllegalArgument (codes "bad map key"))
map_get_bad_key = refl

pub put_old : map_method product_limits sample 5 ((TextKey (codes "b"), Whole (pos 1)) ∷ (IntKey (pos 3), InCell 1) ∷ []) Put (Whole (pos 3) ∷ Null ∷ []) ≡ Some (Gives (slice_set sample 5 (MapCell ((TextKey (codes "b"), Whole (pos 1)) ∷ (IntKey (pos 3), Null) ∷ []))) ab)
put_old = refl

pub put_new : map_method product_limits sample 4 [] Put (ab ∷ list ∷ []) ≡ Some (Gives (slice_set sample 4 (MapCell ((TextKey (codes "ab"), list) ∷ []))) Null)
put_new = refl

pub put_bad_key : map_method product_limits sample 5 ((TextKey (codes "b"), Whole (pos 1)) ∷ (IntKey (pos 3), InCell 1) ∷ []) Put (list ∷ Null ∷ []) ≡ Some (throws IllegalArgument (codes "bad map key"))
put_bad_key = refl

pub put_at_the_limit : map_method (small 9 9 1 9 0 9999) sample 4 [] Put (ab ∷ list ∷ []) ≡ Some (Gives (slice_set sample 4 (MapCell ((TextKey (codes "ab"), list) ∷ []))) Null)
put_at_the_limit = refl

pub put_past_the_limit : map_method (small 9 9 0 9 0 0) sample 4 [] Put (ab ∷ list ∷ []) ≡ Some (Meets CollectionSize)
put_past_the_limit = refl

pub has_key : map_method product_limits sample 5 ((TextKey (codes "b"), Whole (pos 1)) ∷ (IntKey (pos 3), InCell 1) ∷ []) ContainsKey (Whole (pos 3) ∷ []) ≡ Some (gives (Truth true))
has_key = refl

pub has_no_key : map_method product_limits sample 5 ((TextKey (codes "b"), Whole (pos 1)) ∷ (IntKey (pos 3), InCell 1) ∷ []) ContainsKey (ab ∷ []) ≡ Some (gives (Truth false))
has_no_key = refl

pub has_bad_key : map_method product_limits sample 5 ((TextKey (codes "b"), Whole (pos 1)) ∷ (IntKey (pos 3), InCell 1) ∷ []) ContainsKey (Truth true ∷ []) ≡ Some (throws IllegalArgument (codes "bad map key"))
has_bad_key = refl

pub remove_a_key : map_method product_limits sample 5 ((TextKey (codes "b"), Whole (pos 1)) ∷ (IntKey (pos 3), InCell 1) ∷ []) Remove (Whole (pos 3) ∷ []) ≡ Some (Gives (slice_set sample 5 (MapCell ((TextKey (codes "b"), Whole (pos 1)) ∷ []))) ab)
remove_a_key = refl

pub remove_keeps_the_order : map_method product_limits (MapCell ((IntKey (pos 1), Null) ∷ (IntKey (pos 2), Null) ∷ (IntKey (pos 3), Null) ∷ []) ∷ []) 0 ((IntKey (pos 1), Null) ∷ (IntKey (pos 2), Null) ∷ (IntKey (pos 3), Null) ∷ []) Remove (Whole (pos 1) ∷ []) ≡ Some (Gives (MapCell ((IntKey (pos 2), Null) ∷ (IntKey (pos 3), Null) ∷ []) ∷ []) Null)
remove_keeps_the_order = refl

pub remove_absent : map_method product_limits sample 5 ((TextKey (codes "b"), Whole (pos 1)) ∷ (IntKey (pos 3), InCell 1) ∷ []) Remove (ab ∷ []) ≡ Some (gives Null)
remove_absent = refl

pub remove_bad_key : map_method product_limits sample 5 ((TextKey (codes "b"), Whole (pos 1)) ∷ (IntKey (pos 3), InCell 1) ∷ []) Remove (closure_cell ∷ []) ≡ Some (throws IllegalArgument (codes "bad map key"))
remove_bad_key = refl

pub key_set : map_method product_limits sample 5 ((TextKey (codes "b"), Whole (pos 1)) ∷ (IntKey (pos 3), InCell 1) ∷ []) KeySet [] ≡ Some (Gives (sample ++ TextCell (codes "b") ∷ ListCell (InCell 12 ∷ Whole (pos 3) ∷ []) ∷ []) (InCell 13))
key_set = refl

pub key_set_of_none : map_method product_limits sample 4 [] KeySet [] ≡ Some (gives_new (ListCell []))
key_set_of_none = refl

pub key_set_past_the_cells : map_method (small 9 9 9 9 13 9999) sample 5 ((TextKey (codes "b"), Whole (pos 1)) ∷ (IntKey (pos 3), InCell 1) ∷ []) KeySet [] ≡ Some (Meets Cells)
key_set_past_the_cells = refl

pub values_of_a_map : map_method product_limits sample 5 ((TextKey (codes "b"), Whole (pos 1)) ∷ (IntKey (pos 3), InCell 1) ∷ []) Values [] ≡ Some (gives_new (ListCell (Whole (pos 1) ∷ ab ∷ [])))
values_of_a_map = refl

pub map_size_of_one : map_method product_limits sample 5 ((TextKey (codes "b"), Whole (pos 1)) ∷ (IntKey (pos 3), InCell 1) ∷ []) Size (ab ∷ []) ≡ None
map_size_of_one = refl

pub map_put_of_one : map_method product_limits sample 5 ((TextKey (codes "b"), Whole (pos 1)) ∷ (IntKey (pos 3), InCell 1) ∷ []) Put (ab ∷ []) ≡ None
map_put_of_one = refl

pub map_add : map_method product_limits sample 5 ((TextKey (codes "b"), Whole (pos 1)) ∷ (IntKey (pos 3), InCell 1) ∷ []) Add (ab ∷ []) ≡ None
map_add = refl
