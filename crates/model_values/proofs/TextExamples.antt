-- The text of a value, and its limits.
use Rattle.std.specs.Prelude.{true, false, [], pos, negsuc, codes, refl, replicate, ◌≡◌, ◌∷◌, ◌++◌}
use Rattle.std.specs.Fmt.{digits}
use Rattle.model_values.specs.TextOf.{text_of, text_within, texts_behind, written, Wrote, Stops}
use Rattle.model_values.specs.Limits.{product_limits}
use Rattle.model_values.specs.Cells.{Meets}
use Rattle.model_values.proofs.Sample.{sample, chain, ab, empty_list, list, empty_map, pairs_map, closure_cell, thrown_cell, error_cell, nested, gives_new, small}
use Rattle.model_values.specs.Types.{Null, Truth, Whole, InCell, IntKey, TextKey, TextCell, ListCell, MapCell, TextLength, ValueDepth, Cells}

-- the text of a value of each kind
pub text_of_null : text_of product_limits sample Null ≡ Wrote (codes "null")
unfolding text_within digits
text_of_null = refl

pub text_of_true : text_of product_limits sample (Truth true) ≡ Wrote (codes "true")
unfolding text_within digits
text_of_true = refl

pub text_of_false : text_of product_limits sample (Truth false) ≡ Wrote (codes "false")
unfolding text_within digits
text_of_false = refl

pub text_of_a_number : text_of product_limits sample (Whole (pos 120)) ≡ Wrote (codes "120")
unfolding text_within digits
text_of_a_number = refl

pub text_of_a_negative_number : text_of product_limits sample (Whole (negsuc 6)) ≡ Wrote (codes "-7")
unfolding text_within digits
text_of_a_negative_number = refl

pub text_of_a_text : text_of product_limits sample ab ≡ Wrote (codes "ab")
unfolding text_within digits
text_of_a_text = refl

pub text_of_an_empty_list : text_of product_limits sample empty_list ≡ Wrote (codes "[]")
unfolding text_within digits
text_of_an_empty_list = refl

pub text_of_a_list : text_of product_limits sample list ≡ Wrote (codes "[1, null]")
unfolding text_within digits
text_of_a_list = refl

pub text_of_an_empty_map : text_of product_limits sample empty_map ≡ Wrote (codes "[:]")
unfolding text_within digits
text_of_an_empty_map = refl

pub text_of_a_map : text_of product_limits sample pairs_map ≡ Wrote (codes "[b:1, 3:ab]")
unfolding text_within digits
text_of_a_map = refl

pub text_of_a_closure : text_of product_limits sample closure_cell ≡ Wrote (codes "closure")
unfolding text_within digits
text_of_a_closure = refl

pub text_of_a_throwable : text_of product_limits sample thrown_cell ≡ Wrote (codes "hudson.AbortException: no")
unfolding text_within digits
text_of_a_throwable = refl

pub text_of_a_throwable_without_a_message : text_of product_limits sample error_cell ≡ Wrote (codes "java.lang.Error")
unfolding text_within digits
text_of_a_throwable_without_a_message = refl

pub text_of_lists_inside : text_of product_limits sample nested ≡ Wrote (codes "[[1, null], [b:1, 3:ab]]")
unfolding text_within digits
text_of_lists_inside = refl

pub text_of_a_map_with_a_list : text_of product_limits (ListCell (Whole (pos 2) ∷ Null ∷ []) ∷ TextCell (codes "x") ∷ MapCell ((TextKey (codes "b"), Whole (pos 7)) ∷ (TextKey (codes "a"), InCell 0) ∷ (IntKey (pos 3), InCell 1) ∷ []) ∷ []) (InCell 2) ≡ Wrote (codes "[b:7, a:[2, null], 3:x]")
unfolding text_within digits
text_of_a_map_with_a_list = refl

-- the limit of a text's bytes
pub length_at_the_limit : text_of (small 9 9 9 9 99 9999) sample list ≡ Wrote (codes "[1, null]")
unfolding text_within digits
length_at_the_limit = refl

pub length_past_the_limit : text_of (small 9 8 9 9 99 9999) sample list ≡ Stops TextLength
unfolding text_within digits
length_past_the_limit = refl

-- the limit of depth
pub depth_at_the_limit : text_of (small 9 99 9 2 99 9999) sample nested ≡ Wrote (codes "[[1, null], [b:1, 3:ab]]")
unfolding text_within digits
depth_at_the_limit = refl

pub depth_past_the_limit : text_of (small 9 99 9 1 99 9999) sample nested ≡ Stops ValueDepth
unfolding text_within digits
depth_past_the_limit = refl

pub depth_of_64 : text_of product_limits (chain 63) (InCell 63) ≡ Wrote (replicate 64 91 ++ replicate 64 93)
unfolding text_within digits
depth_of_64 = refl

pub depth_of_65 : text_of product_limits (chain 64) (InCell 64) ≡ Stops ValueDepth
unfolding text_within digits
depth_of_65 = refl

pub an_empty_list_too_deep : text_of (small 9 99 9 1 99 9999) (ListCell [] ∷ ListCell (InCell 0 ∷ []) ∷ []) (InCell 1) ≡ Stops ValueDepth
unfolding text_within digits
an_empty_list_too_deep = refl

-- the first limit that is met from the left counts, and of two at one place the length
pub length_before_the_depth : text_of (small 9 2 9 1 99 9999) (ListCell (Whole (pos 12) ∷ InCell 0 ∷ []) ∷ []) (InCell 0) ≡ Stops TextLength
unfolding text_within digits
length_before_the_depth = refl

pub depth_before_the_length : text_of (small 9 2 9 1 99 9999) (ListCell (InCell 0 ∷ Whole (pos 12) ∷ []) ∷ []) (InCell 0) ≡ Stops ValueDepth
unfolding text_within digits
depth_before_the_length = refl

pub length_and_depth_at_one_place : text_of (small 9 1 9 1 99 9999) (ListCell (InCell 0 ∷ []) ∷ []) (InCell 0) ≡ Stops TextLength
unfolding text_within digits
length_and_depth_at_one_place = refl

-- the parts of a GString stand one behind the other, as one new text
pub a_gstring : written product_limits sample (texts_behind product_limits sample (ab ∷ Whole (pos 1) ∷ empty_map ∷ []) []) ≡ gives_new (TextCell (codes "ab1[:]"))
unfolding text_within digits
a_gstring = refl

-- a new cell is made under the limits of cells and heap bytes
pub a_new_text : written product_limits sample (Wrote (codes "x")) ≡ gives_new (TextCell (codes "x"))
a_new_text = refl

pub a_new_text_past_the_cells : written (small 9 9 9 9 12 9999) sample (Wrote (codes "x")) ≡ Meets Cells
a_new_text_past_the_cells = refl
