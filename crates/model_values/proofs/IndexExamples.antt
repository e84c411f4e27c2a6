-- An index and a property, read and written, on every kind.
use Rattle.std.specs.Prelude.{true, [], pos, negsuc, codes, refl, ◌≡◌, ◌∷◌}
use Rattle.std.specs.Fmt.{digits}
use Rattle.std.specs.Prelude.{slice_set}
use Rattle.model_values.specs.Index.{get_at, set_at, get_property, set_property, unless_null}
use Rattle.model_values.specs.Kinds.{null, kind}
use Rattle.model_values.specs.Limits.{product_limits}
use Rattle.model_values.specs.Cells.{Gives, Meets}
use Rattle.model_values.proofs.Sample.{sample, ab, empty_list, list, empty_map, pairs_map, closure_cell, thrown_cell, error_cell, wide, gives, gives_new, throws, small}
use Rattle.model_values.specs.Types.{Null, Truth, Whole, IntKey, TextKey, TextCell, ListCell, MapCell, MissingProperty, MissingMethod, NullPointer, IllegalArgument, IndexOutOfBounds, CollectionSize}

-- `list[i]`
pub first_entry : get_at product_limits sample list (Whole (pos 0)) ≡ gives (Whole (pos 1))
first_entry = refl

pub last_entry : get_at product_limits sample list (Whole (pos 1)) ≡ gives Null
last_entry = refl

pub past_the_end : get_at product_limits sample list (Whole (pos 2)) ≡ gives Null
past_the_end = refl

pub from_the_end : get_at product_limits sample list (Whole (negsuc 1)) ≡ gives (Whole (pos 1))
from_the_end = refl

pub below_the_start : get_at product_limits sample list (Whole (negsuc 2)) ≡ throws IndexOutOfBounds (codes "index -3 of 2")
unfolding digits
below_the_start = refl

pub of_an_empty_list : get_at product_limits sample empty_list (Whole (pos 0)) ≡ gives Null
of_an_empty_list = refl

pub below_an_empty_list : get_at product_limits sample empty_list (Whole (negsuc 0)) ≡ throws IndexOutOfBounds (codes "index -1 of 0")
unfolding digits
below_an_empty_list = refl

pub list_at_a_text : get_at product_limits sample list ab ≡ throws IllegalArgument (codes "bad argument")
list_at_a_text = refl

pub list_at_null : get_at product_limits sample list Null ≡ throws IllegalArgument (codes "bad argument")
list_at_null = refl

-- `text[i]` is one character
pub first_character : get_at product_limits sample ab (Whole (pos 0)) ≡ gives_new (TextCell (codes "a"))
first_character = refl

pub last_character : get_at product_limits sample ab (Whole (negsuc 0)) ≡ gives_new (TextCell (codes "b"))
last_character = refl

pub wide_character : get_at product_limits sample wide (Whole (pos 1)) ≡ gives_new (TextCell (226 ∷ 130 ∷ 172 ∷ []))
wide_character = refl

pub text_past_the_end : get_at product_limits sample ab (Whole (pos 2)) ≡ throws IndexOutOfBounds (codes "index 2 of 2")
unfolding digits
text_past_the_end = refl

pub text_below_the_start : get_at product_limits sample ab (Whole (negsuc 2)) ≡ throws IndexOutOfBounds (codes "index -3 of 2")
unfolding digits
text_below_the_start = refl

pub wide_past_the_end : get_at product_limits sample wide (Whole (pos 3)) ≡ throws IndexOutOfBounds (codes "index 3 of 3")
unfolding digits
wide_past_the_end = refl

pub text_at_a_text : get_at product_limits sample ab ab ≡ throws IllegalArgument (codes "bad argument")
text_at_a_text = refl

-- `map[k]`
pub map_at_a_number : get_at product_limits sample pairs_map (Whole (pos 3)) ≡ gives ab
map_at_a_number = refl

pub map_at_no_key : get_at product_limits sample pairs_map (Whole (pos 1)) ≡ gives Null
map_at_no_key = refl

pub map_at_a_text : get_at product_limits sample pairs_map ab ≡ gives Null
map_at_a_text = refl

pub map_at_null : get_at product_limits sample pairs_map Null ≡ throws IllegalArgument (codes "bad map key")
map_at_null = refl

pub map_at_a_flag : get_at product_limits sample pairs_map (Truth true) ≡ throws IllegalArgument (codes "bad map key")
map_at_a_flag = refl

pub map_at_a_list : get_at product_limits sample pairs_map list ≡ throws IllegalArgument (codes "bad map key")
map_at_a_list = refl

-- an index of other kinds
pub null_at : get_at product_limits sample Null (Whole (pos 0)) ≡ throws NullPointer (codes "Cannot invoke method getAt() on null object")
null_at = refl

pub number_at : get_at product_limits sample (Whole (pos 5)) (Whole (pos 0)) ≡ throws MissingMethod (codes "No signature of method: java.lang.Integer.getAt()")
number_at = refl

pub flag_at : get_at product_limits sample (Truth true) (Whole (pos 0)) ≡ throws MissingMethod (codes "No signature of method: java.lang.Boolean.getAt()")
flag_at = refl

pub closure_at : get_at product_limits sample closure_cell (Whole (pos 0)) ≡ throws MissingMethod (codes "No signature of method: groovy.lang.Closure.getAt()")
closure_at = refl

pub throwable_at : get_at product_limits sample error_cell (Whole (pos 0)) ≡ throws MissingMethod (codes "No signature of method: java.lang.Error.getAt()")
throwable_at = refl

-- `list[i] = v`
pub set_an_entry : set_at product_limits sample list (Whole (pos 0)) ab ≡ Gives (slice_set sample 3 (ListCell (ab ∷ Null ∷ []))) ab
set_an_entry = refl

pub set_from_the_end : set_at product_limits sample list (Whole (negsuc 0)) (Whole (pos 2)) ≡ Gives (slice_set sample 3 (ListCell (Whole (pos 1) ∷ Whole (pos 2) ∷ []))) (Whole (pos 2))
set_from_the_end = refl

pub set_past_the_end : set_at product_limits sample list (Whole (pos 2)) ab ≡ throws IndexOutOfBounds (codes "index 2 of 2")
unfolding digits
set_past_the_end = refl

pub set_below_the_start : set_at product_limits sample list (Whole (negsuc 2)) ab ≡ throws IndexOutOfBounds (codes "index -3 of 2")
unfolding digits
set_below_the_start = refl

pub set_at_a_text : set_at product_limits sample list ab ab ≡ throws IllegalArgument (codes "bad argument")
set_at_a_text = refl

-- `map[k] = v`
pub set_an_old_key : set_at product_limits sample pairs_map (Whole (pos 3)) Null ≡ Gives (slice_set sample 5 (MapCell ((TextKey (codes "b"), Whole (pos 1)) ∷ (IntKey (pos 3), Null) ∷ []))) Null
set_an_old_key = refl

pub set_a_new_key : set_at product_limits sample empty_map ab list ≡ Gives (slice_set sample 4 (MapCell ((TextKey (codes "ab"), list) ∷ []))) list
set_a_new_key = refl

pub set_a_bad_key : set_at product_limits sample empty_map list Null ≡ throws IllegalArgument (codes "bad map key")
set_a_bad_key = refl

pub set_past_the_entries : set_at (small 9 9 0 9 99 9999) sample empty_map ab Null ≡ Meets CollectionSize
set_past_the_entries = refl

-- setting other kinds at an index
pub set_null_at : set_at product_limits sample Null (Whole (pos 0)) Null ≡ throws NullPointer (codes "Cannot invoke method putAt() on null object")
set_null_at = refl

pub set_text_at : set_at product_limits sample ab (Whole (pos 0)) ab ≡ throws MissingMethod (codes "No signature of method: java.lang.String.putAt()")
set_text_at = refl

pub set_number_at : set_at product_limits sample (Whole (pos 0)) (Whole (pos 0)) ab ≡ throws MissingMethod (codes "No signature of method: java.lang.Integer.putAt()")
set_number_at = refl

-- a property that is read
pub map_property : get_property product_limits sample pairs_map (codes "b") ≡ gives (Whole (pos 1))
map_property = refl

pub map_property_not_there : get_property product_limits sample pairs_map (codes "size") ≡ gives Null
map_property_not_there = refl

pub message : get_property product_limits sample thrown_cell (codes "message") ≡ gives_new (TextCell (codes "no"))
message = refl

pub no_message : get_property product_limits sample error_cell (codes "message") ≡ gives Null
no_message = refl

pub throwable_property : get_property product_limits sample thrown_cell (codes "cause") ≡ throws MissingProperty (codes "No such property: cause for class: hudson.AbortException")
throwable_property = refl

pub null_property : get_property product_limits sample Null (codes "p") ≡ throws NullPointer (codes "Cannot get property 'p' on null object")
null_property = refl

pub text_property : get_property product_limits sample ab (codes "length") ≡ throws MissingProperty (codes "No such property: length for class: java.lang.String")
text_property = refl

pub list_property : get_property product_limits sample list (codes "size") ≡ throws MissingProperty (codes "No such property: size for class: java.util.ArrayList")
list_property = refl

pub closure_property : get_property product_limits sample closure_cell (codes "x") ≡ throws MissingProperty (codes "No such property: x for class: groovy.lang.Closure")
closure_property = refl

pub number_property : get_property product_limits sample (Whole (pos 1)) (codes "x") ≡ throws MissingProperty (codes "No such property: x for class: java.lang.Integer")
number_property = refl

pub flag_property : get_property product_limits sample (Truth true) (codes "x") ≡ throws MissingProperty (codes "No such property: x for class: java.lang.Boolean")
flag_property = refl

-- a property that is written
pub set_map_property : set_property product_limits sample empty_map (codes "k") ab ≡ Gives (slice_set sample 4 (MapCell ((TextKey (codes "k"), ab) ∷ []))) ab
set_map_property = refl

pub set_null_property : set_property product_limits sample Null (codes "p") ab ≡ throws NullPointer (codes "Cannot set property 'p' on null object")
set_null_property = refl

pub set_text_property : set_property product_limits sample ab (codes "p") ab ≡ throws MissingProperty (codes "No such property: p for class: java.lang.String")
set_text_property = refl

pub set_message : set_property product_limits sample thrown_cell (codes "message") ab ≡ throws MissingProperty (codes "No such property: message for class: hudson.AbortException")
set_message = refl

-- `?.`
pub safe_on_null : unless_null product_limits sample null (get_property product_limits sample Null (codes "p")) ≡ gives Null
safe_on_null = refl

pub safe_on_a_map : unless_null product_limits sample (kind sample pairs_map) (get_property product_limits sample pairs_map (codes "b")) ≡ gives (Whole (pos 1))
safe_on_a_map = refl
