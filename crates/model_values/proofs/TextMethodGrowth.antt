-- The methods of texts.
use Rattle.std.proofs.Common.{arith, ◌≡◌, ◌≤◌, ◌+◌, refl, ℕ, zero, ℤ, pos, negsuc, Bool, true, false, List, [], ◌∷◌, length, Option, Some, None}
use Rattle.std.specs.Prelude.{nat_lt, nat_le, ◌&&◌, if◌then◌else◌, is_some}
use Rattle.std.specs.List.{AllByRecursion as AllAre}
use Rattle.std.specs.Str.{str_to_ascii_lowercase, str_to_ascii_uppercase}
use Rattle.model_values.specs.Cells.{Answer, new_text}
use Rattle.model_values.specs.Characters.{characters, part_of}
use Rattle.model_values.specs.Fitting.{There, HasList, IsIn, CellFits}
use Rattle.model_values.specs.Kinds.{Kind, number, text}
use Rattle.model_values.specs.MethodNames.{Method, Size, Length, IsEmpty, Trim, ToUpperCase, ToLowerCase, Contains, StartsWith, EndsWith, IndexOf, Replace, Substring, Tokenize, ReadLines, ToInteger}
use Rattle.model_values.specs.Searching.{begins_with, ends_with, found_from, replaced_behind, trimmed, int_of}
use Rattle.model_values.specs.TextMethods.{text_cells, cells_from, blanks, tokens, lines, is_empty_text, place_or_minus_one, with_text, with_number, flag_of, count_of, new_texts, replaced, substring, whole_or_throw, text_method}
use Rattle.model_values.specs.Throws.{outside}
use Rattle.model_values.specs.Types.{Truth, Whole, Cell}
use Rattle.model_values.specs.declared.cell.Binding.{Binding}
use Rattle.model_values.proofs.CellGrowth.{Before, Sort, Answers, gives, new_text_grows, new_list_of_grows, text_is_there, list_is_there}
use Rattle.model_values.proofs.ThrowGrowth.{bad_argument_grows, outside_grows, no_number_grows}

text_cells_fit : (rule : ℕ → List Binding → Type 0) (ts : List (List ℕ)) (g : List Cell) → AllAre (CellFits rule g) (text_cells ts)
text_cells_fit rule [] g = tt
text_cells_fit rule (t ∷ ts) g = (tt, text_cells_fit rule ts g)

length_cells : (ts : List (List ℕ)) → length (text_cells ts) ≡ length ts
length_cells [] = refl
length_cells (t ∷ ts) = omega (arith, length_cells ts)

-- cells in a row, the last of which is there
cells_there : (g : List Cell) (n : ℕ) (ts : List (List ℕ)) → n + length ts ≤ length g → AllAre (There g) (cells_from n ts)
cells_there g n [] long = tt
cells_there g n (t ∷ ts) long = (omega arith, cells_there g (n + 1) ts (omega arith))

-- an answer of a method, where there is such a method
abbrev pub MayAnswer : Before → Option Answer → Type 0
MayAnswer b None = Unit {0}
MayAnswer b (Some answer) = Answers b There answer

module _ (b : Before) where
  pub with_text_grows : (sort : Sort) (k : Kind) (go : List ℕ → Answer) → ((t : List ℕ) → Answers b sort (go t)) → Answers b sort (with_text b.l b.h k go)
  with_text_grows sort (text t) go a = a t
  with_text_grows sort k go a = bad_argument_grows b sort

  pub with_number_grows : (sort : Sort) (k : Kind) (go : ℤ → Answer) → ((x : ℤ) → Answers b sort (go x)) → Answers b sort (with_number b.l b.h k go)
  with_number_grows sort (number x) go a = a x
  with_number_grows sort k go a = bad_argument_grows b sort

  pub flag_there_too : (f : Bool) → Answers b There (flag_of b.l b.h f)
  flag_there_too f = gives b There (Truth f) (λ x. tt)

  pub count_there_too : (n : ℕ) → Answers b There (count_of b.l b.h n)
  count_there_too n = gives b There (Whole (pos n)) (λ x. tt)

  pub new_texts_grows : (ts : List (List ℕ)) → Answers b (IsIn HasList) (new_texts b.l b.h ts)
  new_texts_grows ts = new_list_of_grows b (text_cells ts) (cells_from (length b.h) ts) (text_cells_fit b.rule ts) (λ g long x. cells_there g (length b.h) ts (omega (arith, length_cells ts)))

  replaced_grows : (s t u : List ℕ) → Answers b There (replaced b.l b.h s t u)
  replaced_grows s [] u = bad_argument_grows b There
  replaced_grows s (c ∷ cs) u = text_is_there b _ (new_text_grows b (replaced_behind zero s (c ∷ cs) u))

  cut_or_outside : (past fits : Bool) (i j : ℤ) (n : ℕ) (t : List ℕ) → Answers b There (if past then outside b.l b.h i n else if fits then new_text b.l b.h t else outside b.l b.h j n)
  cut_or_outside true fits i j n t = outside_grows b There i n
  cut_or_outside false true i j n t = text_is_there b _ (new_text_grows b t)
  cut_or_outside false false i j n t = outside_grows b There j n

  one_or_other : (past : Bool) (i j : ℤ) (n : ℕ) → Answers b There (if past then outside b.l b.h i n else outside b.l b.h j n)
  one_or_other true i j n = outside_grows b There i n
  one_or_other false i j n = outside_grows b There j n

  substring_grows : (s : List ℕ) (n : ℕ) (i j : ℤ) → Answers b There (substring b.l b.h s n i j)
  substring_grows s n (pos i) (pos j) = cut_or_outside (nat_lt n i) (nat_le i j && nat_le j n) (pos i) (pos j) n (part_of s i j)
  substring_grows s n (pos i) (negsuc j) = one_or_other (nat_lt n i) (pos i) (negsuc j) n
  substring_grows s n (negsuc i) j = outside_grows b There (negsuc i) n

  whole_or_throw_grows : (t : List ℕ) (o : Option ℤ) → Answers b There (whole_or_throw b.l b.h t o)
  whole_or_throw_grows t (Some x) = gives b There (Whole x) (λ y. tt)
  whole_or_throw_grows t None = no_number_grows b There t

  pub text_method_grows : (s : List ℕ) (m : Method) (ks : List Kind) → MayAnswer b (text_method b.l b.h s m ks)
  text_method_grows s Size [] = count_there_too (length (characters s))
  text_method_grows s Length [] = count_there_too (length (characters s))
  text_method_grows s IsEmpty [] = flag_there_too (is_empty_text s)
  text_method_grows s Trim [] = text_is_there b _ (new_text_grows b (trimmed s))
  text_method_grows s ToUpperCase [] = text_is_there b _ (new_text_grows b (str_to_ascii_uppercase s))
  text_method_grows s ToLowerCase [] = text_is_there b _ (new_text_grows b (str_to_ascii_lowercase s))
  text_method_grows s Contains (k ∷ []) = with_text_grows There k _ (λ t. flag_there_too (is_some (found_from 0 s t)))
  text_method_grows s StartsWith (k ∷ []) = with_text_grows There k _ (λ t. flag_there_too (begins_with s t))
  text_method_grows s EndsWith (k ∷ []) = with_text_grows There k _ (λ t. flag_there_too (ends_with s t))
  text_method_grows s IndexOf (k ∷ []) = with_text_grows There k _ (λ t. gives b There (Whole (place_or_minus_one (found_from 0 s t))) (λ x. tt))
  text_method_grows s Replace (k ∷ m ∷ []) = with_text_grows There k _ (λ t. with_text_grows There m _ (λ u. replaced_grows s t u))
  text_method_grows s Substring (k ∷ []) = with_number_grows There k _ (λ i. substring_grows s (length (characters s)) i (pos (length (characters s))))
  text_method_grows s Substring (k ∷ m ∷ []) = with_number_grows There k _ (λ i. with_number_grows There m _ (λ j. substring_grows s (length (characters s)) i j))
  text_method_grows s Tokenize [] = list_is_there b _ (new_texts_grows (tokens blanks s))
  text_method_grows s Tokenize (k ∷ []) = with_text_grows There k _ (λ t. list_is_there b _ (new_texts_grows (tokens t s)))
  text_method_grows s ReadLines [] = list_is_there b _ (new_texts_grows (lines s))
  text_method_grows s ToInteger [] = whole_or_throw_grows (trimmed s) (int_of (trimmed s))
  text_method_grows s m ks = tt
