-- Walks and loops: their turns, what they keep, and what they give.
use Rattle.std.specs.Prelude.{true, false, [], pos, negsuc, codes, refl, ◌≡◌, ◌∷◌, ◌++◌}
use Rattle.model_values.specs.Walks.{turn, loop_turn, after, at_end, Turns, Past, Stops, Keeps, Ends}
use Rattle.model_values.specs.MethodNames.{Each, Collect, Find, FindAll, Any, Every, Times as TimesWalk}
use Rattle.model_values.specs.Limits.{product_limits}
use Rattle.model_values.specs.Cells.{Meets}
use Rattle.model_values.proofs.Sample.{sample, empty_text, ab, list, pairs_map, gives, gives_new, small}
use Rattle.model_values.specs.Types.{Null, Truth, Whole, InCell, IntKey, TextKey, TextCell, ListCell, MapCell, CollectionSize, Cells}

-- a turn over a list reads its position
pub list_turn : turn product_limits sample list false 0 ≡ Turns sample (Whole (pos 1) ∷ []) (Whole (pos 1) ∷ [])
list_turn = refl

pub list_turn_past_the_end : turn product_limits sample list false 2 ≡ Past
list_turn_past_the_end = refl

pub list_turn_of_two_parameters : turn product_limits sample list true 1 ≡ Turns sample (Null ∷ []) (Null ∷ [])
list_turn_of_two_parameters = refl

-- over a map a closure of two parameters gets key and value, another a map with both; a text key is a new text
pub map_turn_of_two : turn product_limits sample pairs_map true 0 ≡ Turns (sample ++ TextCell (codes "b") ∷ []) (InCell 12 ∷ Whole (pos 1) ∷ []) (InCell 12 ∷ Whole (pos 1) ∷ [])
map_turn_of_two = refl

pub map_turn_of_two_by_a_number : turn product_limits sample pairs_map true 1 ≡ Turns sample (Whole (pos 3) ∷ ab ∷ []) (Whole (pos 3) ∷ ab ∷ [])
map_turn_of_two_by_a_number = refl

pub map_turn_of_one : turn product_limits sample pairs_map false 0 ≡ Turns (sample ++ TextCell (codes "b") ∷ MapCell ((TextKey (codes "key"), InCell 12) ∷ (TextKey (codes "value"), Whole (pos 1)) ∷ []) ∷ []) (InCell 13 ∷ []) (InCell 12 ∷ Whole (pos 1) ∷ [])
map_turn_of_one = refl

pub map_turn_past_the_end : turn product_limits sample pairs_map false 2 ≡ Past
map_turn_past_the_end = refl

pub map_turn_at_the_limit : turn (small 9 9 9 9 14 9999) sample pairs_map false 0 ≡ Turns (sample ++ TextCell (codes "b") ∷ MapCell ((TextKey (codes "key"), InCell 12) ∷ (TextKey (codes "value"), Whole (pos 1)) ∷ []) ∷ []) (InCell 13 ∷ []) (InCell 12 ∷ Whole (pos 1) ∷ [])
map_turn_at_the_limit = refl

pub map_turn_past_the_limit : turn (small 9 9 9 9 13 9999) sample pairs_map false 0 ≡ Stops Cells
map_turn_past_the_limit = refl

-- `times`
pub times_turn : turn product_limits sample (Whole (pos 2)) false 1 ≡ Turns sample (Whole (pos 1) ∷ []) (Whole (pos 1) ∷ [])
times_turn = refl

pub times_past_the_end : turn product_limits sample (Whole (pos 2)) false 2 ≡ Past
times_past_the_end = refl

pub times_of_a_negative : turn product_limits sample (Whole (negsuc 1)) false 0 ≡ Past
times_of_a_negative = refl

-- a loop
pub loop_over_null : loop_turn product_limits sample Null 0 ≡ Past
loop_over_null = refl

pub loop_over_a_list : loop_turn product_limits sample list 1 ≡ Turns sample (Null ∷ []) (Null ∷ [])
loop_over_a_list = refl

pub loop_past_the_end : loop_turn product_limits sample list 2 ≡ Past
loop_past_the_end = refl

pub loop_over_a_map : loop_turn product_limits sample pairs_map 0 ≡ Turns (sample ++ TextCell (codes "b") ∷ MapCell ((TextKey (codes "key"), InCell 12) ∷ (TextKey (codes "value"), Whole (pos 1)) ∷ []) ∷ []) (InCell 13 ∷ []) (InCell 12 ∷ Whole (pos 1) ∷ [])
loop_over_a_map = refl

pub loop_over_a_text : loop_turn product_limits sample ab 1 ≡ Turns (sample ++ TextCell (codes "b") ∷ []) (InCell 12 ∷ []) (InCell 12 ∷ [])
loop_over_a_text = refl

pub loop_past_a_text : loop_turn product_limits sample ab 2 ≡ Past
loop_past_a_text = refl

pub loop_over_a_number : loop_turn product_limits sample (Whole (pos 5)) 0 ≡ Turns sample (Whole (pos 5) ∷ []) (Whole (pos 5) ∷ [])
loop_over_a_number = refl

pub loop_over_a_number_ends : loop_turn product_limits sample (Whole (pos 5)) 1 ≡ Past
loop_over_a_number_ends = refl

-- what a turn keeps, and when the walk ends
pub each_keeps : after product_limits sample Each (list ∷ []) (list ∷ []) (Truth true) (ab ∷ []) ≡ Keeps (ab ∷ [])
each_keeps = refl

pub collect_keeps : after product_limits sample Collect (list ∷ []) (list ∷ []) (Truth false) (ab ∷ []) ≡ Keeps (ab ∷ Truth false ∷ [])
collect_keeps = refl

pub collect_keeps_true : after product_limits sample Collect (list ∷ []) (list ∷ []) (Truth true) (ab ∷ []) ≡ Keeps (ab ∷ Truth true ∷ [])
collect_keeps_true = refl

pub find_ends : after product_limits sample Find (list ∷ []) (list ∷ []) (Truth true) (ab ∷ []) ≡ Ends (gives list)
find_ends = refl

pub find_goes_on : after product_limits sample Find (list ∷ []) (list ∷ []) Null (ab ∷ []) ≡ Keeps (ab ∷ [])
find_goes_on = refl

pub find_of_two_parameters : after product_limits sample Find (ab ∷ Null ∷ []) (ab ∷ Null ∷ []) (Truth true) (ab ∷ []) ≡ Ends (gives_new (MapCell ((TextKey (codes "key"), ab) ∷ (TextKey (codes "value"), Null) ∷ [])))
find_of_two_parameters = refl

pub find_all_keeps : after product_limits sample FindAll (list ∷ []) (list ∷ []) ab (ab ∷ []) ≡ Keeps (ab ∷ list ∷ [])
find_all_keeps = refl

pub find_all_drops : after product_limits sample FindAll (list ∷ []) (list ∷ []) empty_text (ab ∷ []) ≡ Keeps (ab ∷ [])
find_all_drops = refl

pub any_ends : after product_limits sample Any (list ∷ []) (list ∷ []) (Whole (pos 1)) (ab ∷ []) ≡ Ends (gives (Truth true))
any_ends = refl

pub any_goes_on : after product_limits sample Any (list ∷ []) (list ∷ []) (Whole (pos 0)) (ab ∷ []) ≡ Keeps (ab ∷ [])
any_goes_on = refl

pub every_ends : after product_limits sample Every (list ∷ []) (list ∷ []) Null (ab ∷ []) ≡ Ends (gives (Truth false))
every_ends = refl

pub every_goes_on : after product_limits sample Every (list ∷ []) (list ∷ []) ab (ab ∷ []) ≡ Keeps (ab ∷ [])
every_goes_on = refl

pub times_goes_on : after product_limits sample TimesWalk (list ∷ []) (list ∷ []) (Truth true) (ab ∷ []) ≡ Keeps (ab ∷ [])
times_goes_on = refl

-- what a walk gives past the end
pub each_gives : at_end product_limits sample Each list [] ≡ gives list
each_gives = refl

pub collect_gives : at_end product_limits sample Collect list (ab ∷ []) ≡ gives_new (ListCell (ab ∷ []))
collect_gives = refl

pub find_gives : at_end product_limits sample Find list [] ≡ gives Null
find_gives = refl

pub find_all_gives_a_list : at_end product_limits sample FindAll list (ab ∷ []) ≡ gives_new (ListCell (ab ∷ []))
find_all_gives_a_list = refl

pub find_all_gives_a_map : at_end product_limits sample FindAll pairs_map (ab ∷ Null ∷ Whole (pos 3) ∷ ab ∷ []) ≡ gives_new (MapCell ((TextKey (codes "ab"), Null) ∷ (IntKey (pos 3), ab) ∷ []))
find_all_gives_a_map = refl

pub any_gives : at_end product_limits sample Any list [] ≡ gives (Truth false)
any_gives = refl

pub every_gives : at_end product_limits sample Every list [] ≡ gives (Truth true)
every_gives = refl

pub times_gives : at_end product_limits sample TimesWalk (Whole (pos 2)) [] ≡ gives Null
times_gives = refl

pub collect_at_the_limit : at_end (small 9 9 1 9 13 9999) sample Collect list (ab ∷ []) ≡ gives_new (ListCell (ab ∷ []))
collect_at_the_limit = refl

pub collect_past_the_limit : at_end (small 9 9 0 9 13 9999) sample Collect list (ab ∷ []) ≡ Meets CollectionSize
collect_past_the_limit = refl
