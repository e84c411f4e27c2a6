-- The methods of texts. None: there is no method of this name with this number of arguments.
use Rattle.std.specs.Prelude.{ℕ, zero, ◌+◌, nat_lt, nat_le, Bool, true, false, ◌&&◌, if◌then◌else◌, List, [], ◌∷◌, length, ℤ, pos, negsuc, neg_ℤ, Option, Some, None, is_some}
use Rattle.std.specs.Str.{str_to_ascii_lowercase, str_to_ascii_uppercase}
use Rattle.model_values.specs.Cells.{Answer, Gives, new_text, new_list_of}
use Rattle.model_values.specs.Characters.{characters, part_of}
use Rattle.model_values.specs.Limits.{Limits}
use Rattle.model_values.specs.Kinds.{Kind, number, text}
use Rattle.model_values.specs.MethodNames.{Method, Size, Length, IsEmpty, Trim, ToUpperCase, ToLowerCase, Contains, StartsWith, EndsWith, IndexOf, Replace, Substring, Tokenize, ReadLines, ToInteger}
use Rattle.model_values.specs.Searching.{begins_with, ends_with, found_from, replaced_behind, trimmed, is_among, pieces, without_empty, without_last_empty, plain_ends, int_of}
use Rattle.model_values.specs.Throws.{bad_argument, outside, no_number}
use Rattle.model_values.specs.Types.{Value, Truth, Whole, InCell, Cell, TextCell}

-- texts in cells, the first of which is number n
abbrev pub text_cells : List (List ℕ) → List Cell
text_cells [] = []
text_cells (t ∷ ts) = TextCell t ∷ text_cells ts

abbrev pub cells_from : {X : Type 0} → ℕ → List X → List Value
cells_from n [] = []
cells_from n (x ∷ xs) = InCell n ∷ cells_from (n + 1) xs

-- Java: where `tokenize()` cuts: space, tab, LF, CR, form feed
abbrev pub blanks : List ℕ
blanks = 32 ∷ 9 ∷ 10 ∷ 13 ∷ 12 ∷ []

abbrev pub tokens : List ℕ → List ℕ → List (List ℕ)
tokens cuts s = without_empty (pieces (is_among (characters cuts)) (characters s))

-- Java: the end of the last line may be missing
abbrev pub lines : List ℕ → List (List ℕ)
lines s = without_last_empty (pieces (is_among ((10 ∷ []) ∷ [])) (characters (plain_ends false s)))

abbrev pub is_empty_text : List ℕ → Bool
is_empty_text [] = true
is_empty_text (b ∷ bs) = false

abbrev pub place_or_minus_one : Option ℕ → ℤ
place_or_minus_one (Some i) = pos i
place_or_minus_one None = neg_ℤ (pos 1)

module _ (l : Limits) (h : List Cell) where
  -- an argument that has to be a text, or a number
  abbrev pub with_text : Kind → (List ℕ → Answer) → Answer
  with_text (text t) go = go t
  with_text _ go = bad_argument l h

  abbrev pub with_number : Kind → (ℤ → Answer) → Answer
  with_number (number x) go = go x
  with_number _ go = bad_argument l h

  abbrev pub flag_of : Bool → Answer
  flag_of b = Gives h (Truth b)

  abbrev pub count_of : ℕ → Answer
  count_of n = Gives h (Whole (pos n))

  -- texts, each new, and a new list of them
  abbrev pub new_texts : List (List ℕ) → Answer
  new_texts ts = new_list_of l h (text_cells ts) (cells_from (length h) ts)

  -- this product's own: nothing is not replaced
  abbrev pub replaced : List ℕ → List ℕ → List ℕ → Answer
  replaced s [] b = bad_argument l h
  replaced s (c ∷ cs) b = new_text l h (replaced_behind zero s (c ∷ cs) b)

  -- this product's own: the first place from which on a position is outside is the one that the message names
  abbrev pub substring : List ℕ → ℕ → ℤ → ℤ → Answer
  substring s n (pos i) (pos j) =
      if nat_lt n i then outside l h (pos i) n
      else if nat_le i j && nat_le j n then new_text l h (part_of s i j)
      else outside l h (pos j) n
  substring s n (pos i) (negsuc j) = if nat_lt n i then outside l h (pos i) n else outside l h (negsuc j) n
  substring s n (negsuc i) j = outside l h (negsuc i) n

  abbrev pub whole_or_throw : List ℕ → Option ℤ → Answer
  whole_or_throw t (Some x) = Gives h (Whole x)
  whole_or_throw t None = no_number l h t

  -- positions and lengths count characters
  abbrev pub text_method : List ℕ → Method → List Kind → Option Answer
  text_method s Size [] = Some (count_of (length (characters s)))
  text_method s Length [] = Some (count_of (length (characters s)))
  text_method s IsEmpty [] = Some (flag_of (is_empty_text s))
  text_method s Trim [] = Some (new_text l h (trimmed s))
  text_method s ToUpperCase [] = Some (new_text l h (str_to_ascii_uppercase s))
  text_method s ToLowerCase [] = Some (new_text l h (str_to_ascii_lowercase s))
  text_method s Contains (k ∷ []) = Some (with_text k (λ t. flag_of (is_some (found_from 0 s t))))
  text_method s StartsWith (k ∷ []) = Some (with_text k (λ t. flag_of (begins_with s t)))
  text_method s EndsWith (k ∷ []) = Some (with_text k (λ t. flag_of (ends_with s t)))
  text_method s IndexOf (k ∷ []) = Some (with_text k (λ t. Gives h (Whole (place_or_minus_one (found_from 0 s t)))))
  text_method s Replace (k ∷ m ∷ []) = Some (with_text k (λ a. with_text m (λ b. replaced s a b)))
  text_method s Substring (k ∷ []) =
      Some (with_number k (λ i. substring s (length (characters s)) i (pos (length (characters s)))))
  text_method s Substring (k ∷ m ∷ []) = Some (with_number k (λ i. with_number m (λ j. substring s (length (characters s)) i j)))
  text_method s Tokenize [] = Some (new_texts (tokens blanks s))
  text_method s Tokenize (k ∷ []) = Some (with_text k (λ t. new_texts (tokens t s)))
  text_method s ReadLines [] = Some (new_texts (lines s))
  text_method s ToInteger [] = Some (whole_or_throw (trimmed s) (int_of (trimmed s)))
  text_method s _ _ = None
