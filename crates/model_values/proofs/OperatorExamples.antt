-- The operators, on every kind.
use Rattle.std.specs.Prelude.{true, false, [], pos, negsuc, codes, refl, ◌≡◌, ◌∷◌}
use Rattle.std.specs.Int.{int_wrap}
use Rattle.std.specs.Fmt.{digits}
use Rattle.model_values.specs.Operators.{apply, incremented, decremented}
use Rattle.model_values.specs.TextOf.{text_within}
use Rattle.model_values.specs.Limits.{product_limits}
use Rattle.model_values.specs.Cells.{Gives, Meets}
use Rattle.model_values.proofs.Sample.{sample, empty_text, ab, empty_list, list, empty_map, closure_cell, thrown_cell, error_cell, wide, gives, gives_new, throws, small}
use Rattle.model_values.specs.Types.{Null, Truth, Whole, InCell, IntKey, TextCell, ListCell, MapCell, Arithmetic, MissingMethod, NullPointer, TextLength, CollectionSize, Plus, Minus, Times, Mod, Less, LessEqual, Greater, GreaterEqual, Range, GetAt, Negative, Positive}

-- `+` of two numbers wraps at 32 bits
pub plus : apply product_limits sample Plus (Whole (pos 2)) (Whole (pos 3)) ≡ gives (Whole (pos 5))
unfolding int_wrap
plus = refl

pub plus_wraps : apply product_limits sample Plus (Whole (pos 2147483647)) (Whole (pos 1)) ≡ gives (Whole (negsuc 2147483647))
unfolding int_wrap
plus_wraps = refl

pub plus_wraps_below : apply product_limits sample Plus (Whole (negsuc 2147483647)) (Whole (negsuc 0)) ≡ gives (Whole (pos 2147483647))
unfolding int_wrap
plus_wraps_below = refl

-- `+` joins a text with any value, and a number or null with a text
pub text_and_text : apply product_limits sample Plus ab ab ≡ gives_new (TextCell (codes "abab"))
unfolding text_within digits
text_and_text = refl

pub text_and_null : apply product_limits sample Plus ab Null ≡ gives_new (TextCell (codes "abnull"))
unfolding text_within digits
text_and_null = refl

pub text_and_flag : apply product_limits sample Plus ab (Truth true) ≡ gives_new (TextCell (codes "abtrue"))
unfolding text_within digits
text_and_flag = refl

pub text_and_list : apply product_limits sample Plus ab list ≡ gives_new (TextCell (codes "ab[1, null]"))
unfolding text_within digits
text_and_list = refl

pub text_and_map : apply product_limits sample Plus ab empty_map ≡ gives_new (TextCell (codes "ab[:]"))
unfolding text_within digits
text_and_map = refl

pub text_and_closure : apply product_limits sample Plus ab closure_cell ≡ gives_new (TextCell (codes "abclosure"))
unfolding text_within digits
text_and_closure = refl

pub text_and_throwable : apply product_limits sample Plus ab error_cell ≡ gives_new (TextCell (codes "abjava.lang.Error"))
unfolding text_within digits
text_and_throwable = refl

pub number_and_text : apply product_limits sample Plus (Whole (negsuc 0)) ab ≡ gives_new (TextCell (codes "-1ab"))
unfolding text_within digits
number_and_text = refl

pub null_and_text : apply product_limits sample Plus Null ab ≡ gives_new (TextCell (codes "nullab"))
unfolding text_within digits
null_and_text = refl

pub join_at_the_limit : apply (small 9 4 9 9 99 9999) sample Plus ab ab ≡ gives_new (TextCell (codes "abab"))
unfolding text_within digits
join_at_the_limit = refl

pub join_past_the_limit : apply (small 9 3 9 9 99 9999) sample Plus ab ab ≡ Meets TextLength
unfolding text_within digits
join_past_the_limit = refl

-- `+` copies a list with another list or one value behind it
pub list_and_list : apply product_limits sample Plus list list ≡ gives_new (ListCell (Whole (pos 1) ∷ Null ∷ Whole (pos 1) ∷ Null ∷ []))
list_and_list = refl

pub list_and_text : apply product_limits sample Plus list ab ≡ gives_new (ListCell (Whole (pos 1) ∷ Null ∷ ab ∷ []))
list_and_text = refl

pub list_and_null : apply product_limits sample Plus empty_list Null ≡ gives_new (ListCell (Null ∷ []))
list_and_null = refl

pub list_and_map : apply product_limits sample Plus empty_list empty_map ≡ gives_new (ListCell (empty_map ∷ []))
list_and_map = refl

pub lists_at_the_limit : apply (small 9 9 4 9 99 9999) sample Plus list list ≡ gives_new (ListCell (Whole (pos 1) ∷ Null ∷ Whole (pos 1) ∷ Null ∷ []))
lists_at_the_limit = refl

pub lists_past_the_limit : apply (small 9 9 3 9 99 9999) sample Plus list list ≡ Meets CollectionSize
lists_past_the_limit = refl

-- `+` puts the entries of the right map into a copy of the left
pub map_and_map : apply product_limits (MapCell ((IntKey (pos 1), Null) ∷ (IntKey (pos 2), Null) ∷ []) ∷ MapCell ((IntKey (pos 3), Null) ∷ (IntKey (pos 1), Truth true) ∷ []) ∷ []) Plus (InCell 0) (InCell 1) ≡ Gives (MapCell ((IntKey (pos 1), Null) ∷ (IntKey (pos 2), Null) ∷ []) ∷ MapCell ((IntKey (pos 3), Null) ∷ (IntKey (pos 1), Truth true) ∷ []) ∷ MapCell ((IntKey (pos 1), Truth true) ∷ (IntKey (pos 2), Null) ∷ (IntKey (pos 3), Null) ∷ []) ∷ []) (InCell 2)
map_and_map = refl

-- `+` of other kinds throws
pub null_and_null : apply product_limits sample Plus Null Null ≡ throws NullPointer (codes "Cannot invoke method plus() on null object")
null_and_null = refl

pub null_and_number : apply product_limits sample Plus Null (Whole (pos 1)) ≡ throws NullPointer (codes "Cannot invoke method plus() on null object")
null_and_number = refl

pub number_and_null : apply product_limits sample Plus (Whole (pos 1)) Null ≡ throws MissingMethod (codes "No signature of method: java.lang.Integer.plus()")
number_and_null = refl

pub number_and_list : apply product_limits sample Plus (Whole (pos 1)) list ≡ throws MissingMethod (codes "No signature of method: java.lang.Integer.plus()")
number_and_list = refl

pub flag_and_text : apply product_limits sample Plus (Truth true) ab ≡ throws MissingMethod (codes "No signature of method: java.lang.Boolean.plus()")
flag_and_text = refl

pub map_and_list : apply product_limits sample Plus empty_map list ≡ throws MissingMethod (codes "No signature of method: java.util.LinkedHashMap.plus()")
map_and_list = refl

pub closure_and_text : apply product_limits sample Plus closure_cell ab ≡ throws MissingMethod (codes "No signature of method: groovy.lang.Closure.plus()")
closure_and_text = refl

pub throwable_and_text : apply product_limits sample Plus thrown_cell ab ≡ throws MissingMethod (codes "No signature of method: hudson.AbortException.plus()")
throwable_and_text = refl

-- `-` and `*` take two numbers and wrap
pub minus : apply product_limits sample Minus (Whole (pos 2)) (Whole (pos 3)) ≡ gives (Whole (negsuc 0))
unfolding int_wrap
minus = refl

pub minus_wraps : apply product_limits sample Minus (Whole (negsuc 2147483647)) (Whole (pos 1)) ≡ gives (Whole (pos 2147483647))
unfolding int_wrap
minus_wraps = refl

pub minus_null : apply product_limits sample Minus Null (Whole (pos 1)) ≡ throws NullPointer (codes "Cannot invoke method minus() on null object")
minus_null = refl

pub minus_of_texts : apply product_limits sample Minus ab ab ≡ throws MissingMethod (codes "No signature of method: java.lang.String.minus()")
minus_of_texts = refl

pub minus_of_a_list : apply product_limits sample Minus list (Whole (pos 1)) ≡ throws MissingMethod (codes "No signature of method: java.util.ArrayList.minus()")
minus_of_a_list = refl

pub times : apply product_limits sample Times (Whole (negsuc 1)) (Whole (pos 3)) ≡ gives (Whole (negsuc 5))
unfolding int_wrap
times = refl

pub times_wraps : apply product_limits sample Times (Whole (pos 65536)) (Whole (pos 65536)) ≡ gives (Whole (pos 0))
unfolding int_wrap
times_wraps = refl

pub times_wraps_to_the_least : apply product_limits sample Times (Whole (pos 1073741824)) (Whole (pos 2)) ≡ gives (Whole (negsuc 2147483647))
unfolding int_wrap
times_wraps_to_the_least = refl

pub times_null : apply product_limits sample Times Null (Whole (pos 1)) ≡ throws NullPointer (codes "Cannot invoke method multiply() on null object")
times_null = refl

pub times_of_a_text : apply product_limits sample Times ab (Whole (pos 2)) ≡ throws MissingMethod (codes "No signature of method: java.lang.String.multiply()")
times_of_a_text = refl

pub times_null_on_the_right : apply product_limits sample Times (Whole (pos 2)) Null ≡ throws MissingMethod (codes "No signature of method: java.lang.Integer.multiply()")
times_null_on_the_right = refl

-- `%` truncates toward zero
pub mod_of_numbers : apply product_limits sample Mod (Whole (pos 7)) (Whole (pos 3)) ≡ gives (Whole (pos 1))
unfolding int_wrap
mod_of_numbers = refl

pub mod_of_a_negative : apply product_limits sample Mod (Whole (negsuc 6)) (Whole (pos 3)) ≡ gives (Whole (negsuc 0))
unfolding int_wrap
mod_of_a_negative = refl

pub mod_by_a_negative : apply product_limits sample Mod (Whole (pos 7)) (Whole (negsuc 2)) ≡ gives (Whole (pos 1))
unfolding int_wrap
mod_by_a_negative = refl

pub mod_of_the_least : apply product_limits sample Mod (Whole (negsuc 2147483647)) (Whole (negsuc 0)) ≡ gives (Whole (pos 0))
unfolding int_wrap
mod_of_the_least = refl

pub mod_by_zero : apply product_limits sample Mod (Whole (pos 7)) (Whole (pos 0)) ≡ throws Arithmetic (codes "/ by zero")
mod_by_zero = refl

pub mod_of_null : apply product_limits sample Mod Null (Whole (pos 0)) ≡ throws NullPointer (codes "Cannot invoke method mod() on null object")
mod_of_null = refl

pub mod_of_a_flag : apply product_limits sample Mod (Truth true) (Whole (pos 2)) ≡ throws MissingMethod (codes "No signature of method: java.lang.Boolean.mod()")
mod_of_a_flag = refl

-- comparisons of two numbers, and of two texts by code points
pub Less_rising : apply product_limits sample Less (Whole (negsuc 0)) (Whole (pos 3)) ≡ gives (Truth true)
Less_rising = refl

pub Less_equal : apply product_limits sample Less (Whole (pos 3)) (Whole (pos 3)) ≡ gives (Truth false)
Less_equal = refl

pub Less_falling : apply product_limits sample Less (Whole (pos 4)) (Whole (pos 3)) ≡ gives (Truth false)
Less_falling = refl

pub LessEqual_rising : apply product_limits sample LessEqual (Whole (negsuc 0)) (Whole (pos 3)) ≡ gives (Truth true)
LessEqual_rising = refl

pub LessEqual_equal : apply product_limits sample LessEqual (Whole (pos 3)) (Whole (pos 3)) ≡ gives (Truth true)
LessEqual_equal = refl

pub LessEqual_falling : apply product_limits sample LessEqual (Whole (pos 4)) (Whole (pos 3)) ≡ gives (Truth false)
LessEqual_falling = refl

pub Greater_rising : apply product_limits sample Greater (Whole (negsuc 0)) (Whole (pos 3)) ≡ gives (Truth false)
Greater_rising = refl

pub Greater_equal : apply product_limits sample Greater (Whole (pos 3)) (Whole (pos 3)) ≡ gives (Truth false)
Greater_equal = refl

pub Greater_falling : apply product_limits sample Greater (Whole (pos 4)) (Whole (pos 3)) ≡ gives (Truth true)
Greater_falling = refl

pub GreaterEqual_rising : apply product_limits sample GreaterEqual (Whole (negsuc 0)) (Whole (pos 3)) ≡ gives (Truth false)
GreaterEqual_rising = refl

pub GreaterEqual_equal : apply product_limits sample GreaterEqual (Whole (pos 3)) (Whole (pos 3)) ≡ gives (Truth true)
GreaterEqual_equal = refl

pub GreaterEqual_falling : apply product_limits sample GreaterEqual (Whole (pos 4)) (Whole (pos 3)) ≡ gives (Truth true)
GreaterEqual_falling = refl

pub a_prefix_is_less : apply product_limits sample Less empty_text ab ≡ gives (Truth true)
a_prefix_is_less = refl

pub ascii_is_less_than_wide : apply product_limits sample Less ab wide ≡ gives (Truth true)
ascii_is_less_than_wide = refl

pub texts_equal : apply product_limits sample LessEqual ab ab ≡ gives (Truth true)
texts_equal = refl

pub wide_is_greater : apply product_limits sample Greater wide ab ≡ gives (Truth true)
wide_is_greater = refl

pub compare_null : apply product_limits sample Less Null (Whole (pos 1)) ≡ throws NullPointer (codes "Cannot invoke method compareTo() on null object")
compare_null = refl

pub compare_with_null : apply product_limits sample Less (Whole (pos 1)) Null ≡ throws MissingMethod (codes "No signature of method: java.lang.Integer.compareTo()")
compare_with_null = refl

pub compare_a_text_with_a_number : apply product_limits sample GreaterEqual ab (Whole (pos 1)) ≡ throws MissingMethod (codes "No signature of method: java.lang.String.compareTo()")
compare_a_text_with_a_number = refl

pub compare_lists : apply product_limits sample Greater list list ≡ throws MissingMethod (codes "No signature of method: java.util.ArrayList.compareTo()")
compare_lists = refl

-- ranges are lists, rising or falling
pub range_rising : apply product_limits sample Range (Whole (negsuc 0)) (Whole (pos 1)) ≡ gives_new (ListCell (Whole (negsuc 0) ∷ Whole (pos 0) ∷ Whole (pos 1) ∷ []))
range_rising = refl

pub range_falling : apply product_limits sample Range (Whole (pos 2)) (Whole (pos 1)) ≡ gives_new (ListCell (Whole (pos 2) ∷ Whole (pos 1) ∷ []))
range_falling = refl

pub range_of_one : apply product_limits sample Range (Whole (pos 5)) (Whole (pos 5)) ≡ gives_new (ListCell (Whole (pos 5) ∷ []))
range_of_one = refl

pub range_at_the_limit : apply (small 9 9 3 9 99 9999) sample Range (Whole (pos 1)) (Whole (pos 3)) ≡ gives_new (ListCell (Whole (pos 1) ∷ Whole (pos 2) ∷ Whole (pos 3) ∷ []))
range_at_the_limit = refl

pub range_past_the_limit : apply (small 9 9 3 9 99 9999) sample Range (Whole (pos 1)) (Whole (pos 4)) ≡ Meets CollectionSize
range_past_the_limit = refl

pub range_of_texts : apply product_limits sample Range ab ab ≡ throws MissingMethod (codes "No signature of method: java.lang.String.rangeTo()")
range_of_texts = refl

pub range_of_null : apply product_limits sample Range Null (Whole (pos 1)) ≡ throws NullPointer (codes "Cannot invoke method rangeTo() on null object")
range_of_null = refl

-- unary minus wraps, unary plus gives the number
pub negative : apply product_limits sample Negative (Whole (pos 5)) Null ≡ gives (Whole (negsuc 4))
unfolding int_wrap
negative = refl

pub negative_of_the_least : apply product_limits sample Negative (Whole (negsuc 2147483647)) Null ≡ gives (Whole (negsuc 2147483647))
unfolding int_wrap
negative_of_the_least = refl

pub negative_of_null : apply product_limits sample Negative Null Null ≡ throws NullPointer (codes "Cannot invoke method negative() on null object")
negative_of_null = refl

pub negative_of_a_text : apply product_limits sample Negative ab Null ≡ throws MissingMethod (codes "No signature of method: java.lang.String.negative()")
negative_of_a_text = refl

pub positive : apply product_limits sample Positive (Whole (negsuc 4)) Null ≡ gives (Whole (negsuc 4))
positive = refl

pub positive_of_null : apply product_limits sample Positive Null Null ≡ throws NullPointer (codes "Cannot invoke method positive() on null object")
positive_of_null = refl

pub positive_of_a_map : apply product_limits sample Positive empty_map Null ≡ throws MissingMethod (codes "No signature of method: java.util.LinkedHashMap.positive()")
positive_of_a_map = refl

-- an index is an operator
pub get_at : apply product_limits sample GetAt list (Whole (pos 0)) ≡ gives (Whole (pos 1))
get_at = refl

-- `++` and `--`
pub increment : incremented product_limits sample (Whole (pos 2147483647)) ≡ gives (Whole (negsuc 2147483647))
unfolding int_wrap
increment = refl

pub decrement : decremented product_limits sample (Whole (pos 0)) ≡ gives (Whole (negsuc 0))
unfolding int_wrap
decrement = refl

pub increment_null : incremented product_limits sample Null ≡ throws NullPointer (codes "Cannot invoke method plus() on null object")
increment_null = refl

pub decrement_null : decremented product_limits sample Null ≡ throws NullPointer (codes "Cannot invoke method plus() on null object")
decrement_null = refl

pub increment_a_text : incremented product_limits sample ab ≡ throws MissingMethod (codes "No signature of method: java.lang.String.plus()")
increment_a_text = refl

pub decrement_a_list : decremented product_limits sample list ≡ throws MissingMethod (codes "No signature of method: java.util.ArrayList.plus()")
decrement_a_list = refl
