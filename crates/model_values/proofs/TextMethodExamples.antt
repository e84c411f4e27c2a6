-- The methods of texts.
use Rattle.std.specs.Prelude.{true, false, [], Some, None, pos, negsuc, codes, refl, ◌≡◌, ◌∷◌, ◌++◌}
use Rattle.std.specs.Fmt.{digits}
use Rattle.model_values.specs.TextMethods.{text_method}
use Rattle.model_values.specs.MethodNames.{Size, Length, IsEmpty, Trim, ToUpperCase, ToLowerCase, Contains, StartsWith, EndsWith, IndexOf, Replace, Substring, Tokenize, ReadLines, ToInteger, Add, First}
use Rattle.model_values.specs.Kinds.{null, flag, number, text, items}
use Rattle.model_values.specs.Limits.{product_limits}
use Rattle.model_values.specs.Cells.{Gives, Meets}
use Rattle.model_values.proofs.Sample.{sample, gives, gives_new, throws, small}
use Rattle.model_values.specs.Types.{Truth, Whole, InCell, TextCell, ListCell, IllegalArgument, IndexOutOfBounds, NumberFormat, TextLength, CollectionSize, Cells}

-- sizes count characters
pub size : text_method product_limits sample (codes "abc") Size [] ≡ Some (gives (Whole (pos 3)))
size = refl

pub length_of_wide : text_method product_limits sample (195 ∷ 169 ∷ 226 ∷ 130 ∷ 172 ∷ 120 ∷ []) Length [] ≡ Some (gives (Whole (pos 3)))
length_of_wide = refl

pub empty : text_method product_limits sample [] IsEmpty [] ≡ Some (gives (Truth true))
empty = refl

pub not_empty : text_method product_limits sample (codes " ") IsEmpty [] ≡ Some (gives (Truth false))
not_empty = refl

-- `trim` drops the characters up to U+0020 at both ends
pub trim : text_method product_limits sample (32 ∷ 10 ∷ 97 ∷ 32 ∷ 98 ∷ 9 ∷ 0 ∷ []) Trim [] ≡ Some (gives_new (TextCell (codes "a b")))
trim = refl

pub trim_all : text_method product_limits sample (codes "  ") Trim [] ≡ Some (gives_new (TextCell (codes "")))
trim_all = refl

-- case of ASCII letters alone
pub upper : text_method product_limits sample (97 ∷ 122 ∷ 49 ∷ 195 ∷ 169 ∷ []) ToUpperCase [] ≡ Some (gives_new (TextCell (65 ∷ 90 ∷ 49 ∷ 195 ∷ 169 ∷ [])))
upper = refl

pub lower : text_method product_limits sample (codes "aBZ") ToLowerCase [] ≡ Some (gives_new (TextCell (codes "abz")))
lower = refl

-- searching
pub contains : text_method product_limits sample (codes "abc") Contains (text (codes "bc") ∷ []) ≡ Some (gives (Truth true))
contains = refl

pub contains_not : text_method product_limits sample (codes "abc") Contains (text (codes "ac") ∷ []) ≡ Some (gives (Truth false))
contains_not = refl

pub contains_nothing : text_method product_limits sample [] Contains (text (codes "") ∷ []) ≡ Some (gives (Truth true))
contains_nothing = refl

pub contains_a_number : text_method product_limits sample (codes "1") Contains (number (pos 1) ∷ []) ≡ Some (throws IllegalArgument (codes "bad argument"))
contains_a_number = refl

pub starts : text_method product_limits sample (codes "abc") StartsWith (text (codes "ab") ∷ []) ≡ Some (gives (Truth true))
starts = refl

pub starts_not : text_method product_limits sample (codes "abc") StartsWith (text (codes "b") ∷ []) ≡ Some (gives (Truth false))
starts_not = refl

pub starts_with_null : text_method product_limits sample (codes "abc") StartsWith (null ∷ []) ≡ Some (throws IllegalArgument (codes "bad argument"))
starts_with_null = refl

pub ends : text_method product_limits sample (codes "abc") EndsWith (text (codes "bc") ∷ []) ≡ Some (gives (Truth true))
ends = refl

pub ends_not : text_method product_limits sample (codes "abc") EndsWith (text (codes "xabc") ∷ []) ≡ Some (gives (Truth false))
ends_not = refl

pub ends_with_a_flag : text_method product_limits sample (codes "abc") EndsWith (flag true ∷ []) ≡ Some (throws IllegalArgument (codes "bad argument"))
ends_with_a_flag = refl

pub index : text_method product_limits sample (codes "abcbc") IndexOf (text (codes "bc") ∷ []) ≡ Some (gives (Whole (pos 1)))
index = refl

pub index_counts_characters : text_method product_limits sample (195 ∷ 169 ∷ 226 ∷ 130 ∷ 172 ∷ 120 ∷ []) IndexOf (text (codes "x") ∷ []) ≡ Some (gives (Whole (pos 2)))
index_counts_characters = refl

pub index_of_nothing : text_method product_limits sample (codes "abc") IndexOf (text (codes "") ∷ []) ≡ Some (gives (Whole (pos 0)))
index_of_nothing = refl

pub index_absent : text_method product_limits sample (codes "abc") IndexOf (text (codes "x") ∷ []) ≡ Some (gives (Whole (negsuc 0)))
index_absent = refl

pub index_of_a_list : text_method product_limits sample (codes "abc") IndexOf (items 2 [] ∷ []) ≡ Some (throws IllegalArgument (codes "bad argument"))
index_of_a_list = refl

-- `replace` takes all places from the left
pub replace : text_method product_limits sample (codes "aaab") Replace (text (codes "aa") ∷ text (codes "x") ∷ []) ≡ Some (gives_new (TextCell (codes "xab")))
replace = refl

pub replace_by_longer : text_method product_limits sample (codes "a.b.c") Replace (text (codes ".") ∷ text (codes "..") ∷ []) ≡ Some (gives_new (TextCell (codes "a..b..c")))
replace_by_longer = refl

pub replace_absent : text_method product_limits sample (codes "abc") Replace (text (codes "x") ∷ text (codes "y") ∷ []) ≡ Some (gives_new (TextCell (codes "abc")))
replace_absent = refl

pub replace_nothing : text_method product_limits sample (codes "abc") Replace (text (codes "") ∷ text (codes "y") ∷ []) ≡ Some (throws IllegalArgument (codes "bad argument"))
replace_nothing = refl

pub replace_a_number : text_method product_limits sample (codes "abc") Replace (number (pos 1) ∷ text (codes "y") ∷ []) ≡ Some (throws IllegalArgument (codes "bad argument"))
replace_a_number = refl

pub replace_by_null : text_method product_limits sample (codes "abc") Replace (text (codes "a") ∷ null ∷ []) ≡ Some (throws IllegalArgument (codes "bad argument"))
replace_by_null = refl

pub replace_at_the_limit : text_method (small 9 4 9 9 99 9999) sample (codes "aa") Replace (text (codes "a") ∷ text (codes "bc") ∷ []) ≡ Some (gives_new (TextCell (codes "bcbc")))
replace_at_the_limit = refl

pub replace_past_the_limit : text_method (small 9 3 9 9 99 9999) sample (codes "aa") Replace (text (codes "a") ∷ text (codes "bc") ∷ []) ≡ Some (Meets TextLength)
replace_past_the_limit = refl

-- `substring`
pub substring_from : text_method product_limits sample (codes "abcd") Substring (number (pos 1) ∷ []) ≡ Some (gives_new (TextCell (codes "bcd")))
substring_from = refl

pub substring_at_the_end : text_method product_limits sample (codes "ab") Substring (number (pos 2) ∷ []) ≡ Some (gives_new (TextCell (codes "")))
substring_at_the_end = refl

pub substring_from_outside : text_method product_limits sample (codes "ab") Substring (number (pos 3) ∷ []) ≡ Some (throws IndexOutOfBounds (codes "index 3 of 2"))
unfolding digits
substring_from_outside = refl

pub substring_from_below : text_method product_limits sample (codes "ab") Substring (number (negsuc 0) ∷ []) ≡ Some (throws IndexOutOfBounds (codes "index -1 of 2"))
unfolding digits
substring_from_below = refl

pub substring_of_a_text : text_method product_limits sample (codes "ab") Substring (text (codes "a") ∷ []) ≡ Some (throws IllegalArgument (codes "bad argument"))
substring_of_a_text = refl

pub substring_between : text_method product_limits sample (codes "abcd") Substring (number (pos 1) ∷ number (pos 3) ∷ []) ≡ Some (gives_new (TextCell (codes "bc")))
substring_between = refl

pub substring_of_wide : text_method product_limits sample (195 ∷ 169 ∷ 226 ∷ 130 ∷ 172 ∷ 120 ∷ []) Substring (number (pos 1) ∷ number (pos 2) ∷ []) ≡ Some (gives_new (TextCell (226 ∷ 130 ∷ 172 ∷ [])))
substring_of_wide = refl

pub substring_of_none : text_method product_limits sample (codes "abcd") Substring (number (pos 2) ∷ number (pos 2) ∷ []) ≡ Some (gives_new (TextCell (codes "")))
substring_of_none = refl

pub substring_past_the_end : text_method product_limits sample (codes "abcd") Substring (number (pos 1) ∷ number (pos 5) ∷ []) ≡ Some (throws IndexOutOfBounds (codes "index 5 of 4"))
unfolding digits
substring_past_the_end = refl

pub substring_backwards : text_method product_limits sample (codes "abcd") Substring (number (pos 3) ∷ number (pos 2) ∷ []) ≡ Some (throws IndexOutOfBounds (codes "index 2 of 4"))
unfolding digits
substring_backwards = refl

pub substring_to_below : text_method product_limits sample (codes "abcd") Substring (number (pos 0) ∷ number (negsuc 0) ∷ []) ≡ Some (throws IndexOutOfBounds (codes "index -1 of 4"))
unfolding digits
substring_to_below = refl

pub substring_start_counts_first : text_method product_limits sample (codes "ab") Substring (number (pos 3) ∷ number (pos 9) ∷ []) ≡ Some (throws IndexOutOfBounds (codes "index 3 of 2"))
unfolding digits
substring_start_counts_first = refl

pub substring_to_null : text_method product_limits sample (codes "ab") Substring (number (pos 0) ∷ null ∷ []) ≡ Some (throws IllegalArgument (codes "bad argument"))
substring_to_null = refl

-- `tokenize` gives no empty parts; each part is a new text, and behind them is the new list
pub tokenize : text_method product_limits sample (32 ∷ 97 ∷ 9 ∷ 10 ∷ 98 ∷ 99 ∷ 13 ∷ 12 ∷ []) Tokenize [] ≡ Some (Gives (sample ++ TextCell (codes "a") ∷ TextCell (codes "bc") ∷ ListCell (InCell 12 ∷ InCell 13 ∷ []) ∷ []) (InCell 14))
tokenize = refl

pub tokenize_nothing : text_method product_limits sample [] Tokenize [] ≡ Some (Gives (sample ++ ListCell [] ∷ []) (InCell 12))
tokenize_nothing = refl

pub tokenize_at : text_method product_limits sample (codes "a,b;,c") Tokenize (text (codes ";,") ∷ []) ≡ Some (Gives (sample ++ TextCell (codes "a") ∷ TextCell (codes "b") ∷ TextCell (codes "c") ∷ ListCell (InCell 12 ∷ InCell 13 ∷ InCell 14 ∷ []) ∷ []) (InCell 15))
tokenize_at = refl

pub tokenize_at_nothing : text_method product_limits sample (codes "a b") Tokenize (text (codes "") ∷ []) ≡ Some (Gives (sample ++ TextCell (codes "a b") ∷ ListCell (InCell 12 ∷ []) ∷ []) (InCell 13))
tokenize_at_nothing = refl

pub tokenize_at_a_wide_character : text_method product_limits sample (97 ∷ 195 ∷ 169 ∷ 98 ∷ []) Tokenize (text (195 ∷ 169 ∷ []) ∷ []) ≡ Some (Gives (sample ++ TextCell (codes "a") ∷ TextCell (codes "b") ∷ ListCell (InCell 12 ∷ InCell 13 ∷ []) ∷ []) (InCell 14))
tokenize_at_a_wide_character = refl

pub tokenize_at_a_number : text_method product_limits sample (codes "a1b") Tokenize (number (pos 1) ∷ []) ≡ Some (throws IllegalArgument (codes "bad argument"))
tokenize_at_a_number = refl

pub tokenize_at_the_limits : text_method (small 9 9 2 9 15 9999) sample (codes "a b") Tokenize [] ≡ Some (Gives (sample ++ TextCell (codes "a") ∷ TextCell (codes "b") ∷ ListCell (InCell 12 ∷ InCell 13 ∷ []) ∷ []) (InCell 14))
tokenize_at_the_limits = refl

pub tokenize_past_the_entries : text_method (small 9 9 1 9 0 0) sample (codes "a b") Tokenize [] ≡ Some (Meets CollectionSize)
tokenize_past_the_entries = refl

pub tokenize_past_the_cells : text_method (small 9 9 2 9 14 9999) sample (codes "a b") Tokenize [] ≡ Some (Meets Cells)
tokenize_past_the_cells = refl

-- `readLines` cuts at LF, CR or both
pub lines_of : text_method product_limits sample (97 ∷ 10 ∷ 98 ∷ 13 ∷ 10 ∷ 13 ∷ 99 ∷ []) ReadLines [] ≡ Some (Gives (sample ++ TextCell (codes "a") ∷ TextCell (codes "b") ∷ TextCell (codes "") ∷ TextCell (codes "c") ∷ ListCell (InCell 12 ∷ InCell 13 ∷ InCell 14 ∷ InCell 15 ∷ []) ∷ []) (InCell 16))
lines_of = refl

pub last_line_ends : text_method product_limits sample (97 ∷ 10 ∷ []) ReadLines [] ≡ Some (Gives (sample ++ TextCell (codes "a") ∷ ListCell (InCell 12 ∷ []) ∷ []) (InCell 13))
last_line_ends = refl

pub no_lines : text_method product_limits sample [] ReadLines [] ≡ Some (Gives (sample ++ ListCell [] ∷ []) (InCell 12))
no_lines = refl

-- `toInteger`
pub integer : text_method product_limits sample (codes " 12 ") ToInteger [] ≡ Some (gives (Whole (pos 12)))
integer = refl

pub integer_plus : text_method product_limits sample (codes "+7") ToInteger [] ≡ Some (gives (Whole (pos 7)))
integer_plus = refl

pub integer_least : text_method product_limits sample (codes "-2147483648") ToInteger [] ≡ Some (gives (Whole (negsuc 2147483647)))
integer_least = refl

pub integer_zeros : text_method product_limits sample (codes "-00") ToInteger [] ≡ Some (gives (Whole (pos 0)))
integer_zeros = refl

pub integer_too_large : text_method product_limits sample (codes "2147483648") ToInteger [] ≡ Some (throws NumberFormat (codes "For input string: \"2147483648\""))
integer_too_large = refl

pub integer_too_small : text_method product_limits sample (codes "-2147483649") ToInteger [] ≡ Some (throws NumberFormat (codes "For input string: \"-2147483649\""))
integer_too_small = refl

pub integer_of_a_letter : text_method product_limits sample (codes " 1x ") ToInteger [] ≡ Some (throws NumberFormat (codes "For input string: \"1x\""))
integer_of_a_letter = refl

pub integer_of_nothing : text_method product_limits sample [] ToInteger [] ≡ Some (throws NumberFormat (codes "For input string: \"\""))
integer_of_nothing = refl

pub integer_of_a_sign : text_method product_limits sample (codes "-") ToInteger [] ≡ Some (throws NumberFormat (codes "For input string: \"-\""))
integer_of_a_sign = refl

-- other names and numbers of arguments are no methods of texts
pub size_of_one : text_method product_limits sample (codes "a") Size (null ∷ []) ≡ None
size_of_one = refl

pub contains_of_none : text_method product_limits sample (codes "a") Contains [] ≡ None
contains_of_none = refl

pub contains_of_two : text_method product_limits sample (codes "a") Contains (text (codes "a") ∷ text (codes "a") ∷ []) ≡ None
contains_of_two = refl

pub replace_of_one : text_method product_limits sample (codes "a") Replace (text (codes "a") ∷ []) ≡ None
replace_of_one = refl

pub substring_of_none_given : text_method product_limits sample (codes "a") Substring [] ≡ None
substring_of_none_given = refl

pub substring_of_three : text_method product_limits sample (codes "a") Substring (number (pos 0) ∷ number (pos 0) ∷ number (pos 0) ∷ []) ≡ None
substring_of_three = refl

pub tokenize_of_two : text_method product_limits sample (codes "a") Tokenize (text (codes "a") ∷ text (codes "a") ∷ []) ≡ None
tokenize_of_two = refl

pub add_to_a_text : text_method product_limits sample (codes "a") Add (null ∷ []) ≡ None
add_to_a_text = refl

pub first_of_a_text : text_method product_limits sample (codes "a") First [] ≡ None
first_of_a_text = refl
