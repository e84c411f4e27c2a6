-- The method table: any value, each kind, and what is no method.
use Rattle.std.specs.Prelude.{true, [], pos, negsuc, codes, refl, ◌≡◌, ◌∷◌}
use Rattle.std.specs.Int.{int_wrap}
use Rattle.std.specs.Fmt.{digits}
use Rattle.model_values.specs.Methods.{method_call, Done, Walks, CallsClosure}
use Rattle.model_values.specs.MethodNames.{Each, Collect, Find, FindAll, Any, Every, Times as TimesWalk}
use Rattle.model_values.specs.TextOf.{text_within}
use Rattle.model_values.specs.Equality.{equal_within}
use Rattle.model_values.specs.Limits.{product_limits}
use Rattle.model_values.specs.Cells.{Meets}
use Rattle.model_values.proofs.Sample.{sample, ab, list, empty_map, pairs_map, closure_cell, thrown_cell, error_cell, gives, gives_new, throws, small}
use Rattle.model_values.specs.Types.{Null, Truth, Whole, TextCell, Arithmetic, MissingMethod, NullPointer, IllegalArgument, NodesEvaluated}

-- `toString()` and `equals(v)` on any value
pub text_to_string : method_call product_limits sample ab (codes "toString") [] 0 ≡ Done (gives ab) 0
text_to_string = refl

pub null_to_string : method_call product_limits sample Null (codes "toString") [] 0 ≡ Done (gives_new (TextCell (codes "null"))) 0
unfolding text_within digits
null_to_string = refl

pub list_to_string : method_call product_limits sample list (codes "toString") [] 0 ≡ Done (gives_new (TextCell (codes "[1, null]"))) 0
unfolding text_within digits
list_to_string = refl

pub null_equals : method_call product_limits sample Null (codes "equals") (Null ∷ []) 0 ≡ Done (gives (Truth true)) 1
unfolding equal_within
null_equals = refl

pub list_equals : method_call product_limits sample list (codes "equals") (list ∷ []) 2 ≡ Done (gives (Truth true)) 5
unfolding equal_within
list_equals = refl

pub equals_past_the_limit : method_call (small 2 9 9 9 99 9999) sample list (codes "equals") (list ∷ []) 0 ≡ Done (Meets NodesEvaluated) 2
unfolding equal_within
equals_past_the_limit = refl

pub equals_of_none : method_call product_limits sample list (codes "equals") [] 0 ≡ Done (throws MissingMethod (codes "No signature of method: java.util.ArrayList.equals()")) 0
equals_of_none = refl

-- each kind has the methods of its own
pub a_text : method_call product_limits sample ab (codes "size") [] 0 ≡ Done (gives (Whole (pos 2))) 0
a_text = refl

pub a_list : method_call product_limits sample list (codes "size") [] 3 ≡ Done (gives (Whole (pos 2))) 3
a_list = refl

pub a_map : method_call product_limits sample pairs_map (codes "size") [] 0 ≡ Done (gives (Whole (pos 2))) 0
a_map = refl

pub a_throwable : method_call product_limits sample thrown_cell (codes "getMessage") [] 0 ≡ Done (gives_new (TextCell (codes "no"))) 0
a_throwable = refl

pub a_throwable_without_a_message : method_call product_limits sample error_cell (codes "getMessage") [] 0 ≡ Done (gives Null) 0
a_throwable_without_a_message = refl

-- `intdiv` and `toInteger` of numbers
pub intdiv : method_call product_limits sample (Whole (pos 7)) (codes "intdiv") (Whole (pos 2) ∷ []) 0 ≡ Done (gives (Whole (pos 3))) 0
unfolding int_wrap
intdiv = refl

pub intdiv_toward_zero : method_call product_limits sample (Whole (negsuc 6)) (codes "intdiv") (Whole (pos 2) ∷ []) 0 ≡ Done (gives (Whole (negsuc 2))) 0
unfolding int_wrap
intdiv_toward_zero = refl

pub intdiv_wraps : method_call product_limits sample (Whole (negsuc 2147483647)) (codes "intdiv") (Whole (negsuc 0) ∷ []) 0 ≡ Done (gives (Whole (negsuc 2147483647))) 0
unfolding int_wrap
intdiv_wraps = refl

pub intdiv_by_zero : method_call product_limits sample (Whole (pos 7)) (codes "intdiv") (Whole (pos 0) ∷ []) 0 ≡ Done (throws Arithmetic (codes "/ by zero")) 0
intdiv_by_zero = refl

pub intdiv_by_a_text : method_call product_limits sample (Whole (pos 7)) (codes "intdiv") (ab ∷ []) 0 ≡ Done (throws IllegalArgument (codes "bad argument")) 0
intdiv_by_a_text = refl

pub number_to_integer : method_call product_limits sample (Whole (pos 7)) (codes "toInteger") [] 0 ≡ Done (gives (Whole (pos 7))) 0
number_to_integer = refl

-- a name that is no method, or has another number of arguments
pub no_such_name : method_call product_limits sample ab (codes "foo") [] 0 ≡ Done (throws MissingMethod (codes "No signature of method: java.lang.String.foo()")) 0
no_such_name = refl

pub other_number_of_arguments : method_call product_limits sample ab (codes "size") (Null ∷ []) 0 ≡ Done (throws MissingMethod (codes "No signature of method: java.lang.String.size()")) 0
other_number_of_arguments = refl

pub method_of_another_kind : method_call product_limits sample (Whole (pos 1)) (codes "size") [] 0 ≡ Done (throws MissingMethod (codes "No signature of method: java.lang.Integer.size()")) 0
method_of_another_kind = refl

pub flag_has_none : method_call product_limits sample (Truth true) (codes "size") [] 0 ≡ Done (throws MissingMethod (codes "No signature of method: java.lang.Boolean.size()")) 0
flag_has_none = refl

pub map_has_no_add : method_call product_limits sample empty_map (codes "add") (ab ∷ []) 0 ≡ Done (throws MissingMethod (codes "No signature of method: java.util.LinkedHashMap.add()")) 0
map_has_no_add = refl

pub throwable_has_no_size : method_call product_limits sample thrown_cell (codes "size") [] 0 ≡ Done (throws MissingMethod (codes "No signature of method: hudson.AbortException.size()")) 0
throwable_has_no_size = refl

pub null_has_none : method_call product_limits sample Null (codes "size") [] 0 ≡ Done (throws NullPointer (codes "Cannot invoke method size() on null object")) 0
null_has_none = refl

pub null_has_no_such_name : method_call product_limits sample Null (codes "foo") [] 0 ≡ Done (throws NullPointer (codes "Cannot invoke method foo() on null object")) 0
null_has_no_such_name = refl

pub closure_has_no_size : method_call product_limits sample closure_cell (codes "size") [] 0 ≡ Done (throws MissingMethod (codes "No signature of method: groovy.lang.Closure.size()")) 0
closure_has_no_size = refl

-- a closure is called with any arguments
pub call_a_closure : method_call product_limits sample closure_cell (codes "call") (ab ∷ ab ∷ []) 0 ≡ CallsClosure 6
call_a_closure = refl

pub call_a_list : method_call product_limits sample list (codes "call") [] 0 ≡ Done (throws MissingMethod (codes "No signature of method: java.util.ArrayList.call()")) 0
call_a_list = refl

-- the methods with a closure
pub list_each : method_call product_limits sample list (codes "each") (closure_cell ∷ []) 0 ≡ Walks Each 6
list_each = refl

pub list_collect : method_call product_limits sample list (codes "collect") (closure_cell ∷ []) 0 ≡ Walks Collect 6
list_collect = refl

pub list_find : method_call product_limits sample list (codes "find") (closure_cell ∷ []) 0 ≡ Walks Find 6
list_find = refl

pub list_findAll : method_call product_limits sample list (codes "findAll") (closure_cell ∷ []) 0 ≡ Walks FindAll 6
list_findAll = refl

pub list_any : method_call product_limits sample list (codes "any") (closure_cell ∷ []) 0 ≡ Walks Any 6
list_any = refl

pub list_every : method_call product_limits sample list (codes "every") (closure_cell ∷ []) 0 ≡ Walks Every 6
list_every = refl

pub map_each : method_call product_limits sample pairs_map (codes "each") (closure_cell ∷ []) 0 ≡ Walks Each 6
map_each = refl

pub map_collect : method_call product_limits sample pairs_map (codes "collect") (closure_cell ∷ []) 0 ≡ Walks Collect 6
map_collect = refl

pub map_find : method_call product_limits sample pairs_map (codes "find") (closure_cell ∷ []) 0 ≡ Walks Find 6
map_find = refl

pub map_findAll : method_call product_limits sample pairs_map (codes "findAll") (closure_cell ∷ []) 0 ≡ Walks FindAll 6
map_findAll = refl

pub map_any : method_call product_limits sample pairs_map (codes "any") (closure_cell ∷ []) 0 ≡ Walks Any 6
map_any = refl

pub map_every : method_call product_limits sample pairs_map (codes "every") (closure_cell ∷ []) 0 ≡ Walks Every 6
map_every = refl

pub number_times : method_call product_limits sample (Whole (pos 3)) (codes "times") (closure_cell ∷ []) 0 ≡ Walks TimesWalk 6
number_times = refl

pub each_of_no_closure : method_call product_limits sample list (codes "each") (ab ∷ []) 0 ≡ Done (throws IllegalArgument (codes "bad argument")) 0
each_of_no_closure = refl

pub times_of_no_closure : method_call product_limits sample (Whole (pos 3)) (codes "times") (Null ∷ []) 0 ≡ Done (throws IllegalArgument (codes "bad argument")) 0
times_of_no_closure = refl

pub each_of_none : method_call product_limits sample list (codes "each") [] 0 ≡ Done (throws MissingMethod (codes "No signature of method: java.util.ArrayList.each()")) 0
each_of_none = refl

pub each_of_two : method_call product_limits sample list (codes "each") (ab ∷ closure_cell ∷ []) 0 ≡ Done (throws MissingMethod (codes "No signature of method: java.util.ArrayList.each()")) 0
each_of_two = refl

pub each_of_a_text : method_call product_limits sample ab (codes "each") (closure_cell ∷ []) 0 ≡ Done (throws MissingMethod (codes "No signature of method: java.lang.String.each()")) 0
each_of_a_text = refl

pub times_of_a_list : method_call product_limits sample list (codes "times") (closure_cell ∷ []) 0 ≡ Done (throws MissingMethod (codes "No signature of method: java.util.ArrayList.times()")) 0
times_of_a_list = refl

pub each_of_null : method_call product_limits sample Null (codes "each") (closure_cell ∷ []) 0 ≡ Done (throws NullPointer (codes "Cannot invoke method each() on null object")) 0
each_of_null = refl
