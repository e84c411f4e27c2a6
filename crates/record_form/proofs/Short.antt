-- A value whose spelling has fewer than 4294967296 bytes has no text and no list that is too long: part by part, as forms are
-- put together.
use Rattle.std.proofs.Common.{◌<◌, ◌+◌, ◌^◌, List, [], ◌∷◌, ◌++◌, length, inl, inr, arith, length-append}
use Rattle.std.specs.Prelude.{◌⊎◌}
use Rattle.byte_form.specs.Fields.{u32_spelling}
use Rattle.field_form.specs.Forms.{Form, bytes_form, pair, of_parts, option_of, of_option, Choice, last, ◌or◌, kinds, optional, nothing, AllBehind, spelled, list_of, many}

-- what a value of this form needs besides being short
pub record Short {V : Type 0} (form : Form V) (Asked : V → Type 0) : Type 0 where
  pub needs : (v : V) → Asked v → length (form.spelling v) < 2 ^ 32 → form.Needs v

abbrev pub Nothing : {V : Type 0} → V → Type 0
Nothing v = Unit {0}

-- nothing besides
abbrev pub Plain : {V : Type 0} → Form V → Type 0
Plain form = Short form Nothing

-- it needs nothing at all
pub free : {V : Type 0} (form : Form V) → ((v : V) → form.Needs v) → Plain form
free form needs = record { needs = λ v asked lt. needs v }

pub short_bytes : Plain bytes_form
short_bytes = record { needs = λ text asked lt. omega (arith, length-append (u32_spelling (length text)) text, lt) }

pub short_pair : {A B : Type 0} (a : Form A) (b : Form B) (P : A → Type 0) (Q : B → Type 0) → Short a P → Short b Q → Short (pair a b) (λ v. P v.0 × Q v.1)
short_pair a b P Q first next = record {
  needs = λ v asked lt.
      let both = length-append (a.spelling v.0) (b.spelling v.1) in
      (first.needs v.0 asked.0 (omega (arith, both, lt)), next.needs v.1 asked.1 (omega (arith, both, lt)));
}

pub plain_pair : {A B : Type 0} (a : Form A) (b : Form B) → Plain a → Plain b → Plain (pair a b)
plain_pair a b first next = record { needs = λ v asked lt. (short_pair a b Nothing Nothing first next).needs v (tt, tt) lt }

pub plain_parts : {A V : Type 0} (whole : A → V) (parts : V → A) (a : Form A) → Plain a → Plain (of_parts whole parts a)
plain_parts whole parts a short = record { needs = λ v asked lt. short.needs (parts v) tt lt }

-- behind a kind
pub record PlainChoice {V : Type 0} (c : Choice V) : Type 0 where
  pub needs : (v : V) → length (c.spelling v) < 2 ^ 32 → c.Needs v

pub plain_last : {V : Type 0} (a : Form V) → Plain a → PlainChoice (last a)
plain_last a short = record { needs = λ v lt. short.needs v tt lt }

pub plain_or : {A B : Type 0} (a : Form A) (b : Choice B) → Plain a → PlainChoice b → PlainChoice (a or b)
plain_or {A} {B} a b first next = record { needs = one }
  where
    one : (v : A ⊎ B) → length ((a or b).spelling v) < 2 ^ 32 → (a or b).Needs v
    one (inl x) lt = first.needs x tt lt
    one (inr y) lt = next.needs y lt

pub plain_kinds : {V : Type 0} (c : Choice V) → PlainChoice c → Plain (kinds c)
plain_kinds c short = record { needs = λ v asked lt. short.needs v (omega (arith, lt)) }

pub plain_nothing : Plain nothing
plain_nothing = free nothing (λ v. tt)

pub plain_optional : {V : Type 0} (a : Form V) → Plain a → Plain (optional a)
plain_optional a short = plain_parts option_of of_option _ (plain_kinds _ (plain_or _ _ plain_nothing (plain_last _ short)))

-- items of a list
items_short : {V : Type 0} (behind : List V → Form V) (P : List V → V → Type 0) → ((before : List V) → Short (behind before) (P before))
    → (before xs : List V) → AllBehind P before xs → length (spelled behind before xs) < 2 ^ 32 → AllBehind (λ b x. (behind b).Needs x) before xs
items_short behind P short before [] asked lt = tt
items_short behind P short before (x ∷ xs) asked lt =
    let both = length-append ((behind before).spelling x) (spelled behind (before ++ x ∷ []) xs) in
    ((short before).needs x asked.0 (omega (arith, both, lt)), items_short behind P short (before ++ x ∷ []) xs asked.1 (omega (arith, both, lt)))

-- each item takes a byte at least
abbrev pub HasBytes : {V : Type 0} → (List V → Form V) → Type 0
HasBytes {V} behind = (before : List V) (x : V) → 0 < length ((behind before).spelling x)

pub items_few : {V : Type 0} (behind : List V → Form V) → HasBytes behind → (before xs : List V) → length xs < 1 + length (spelled behind before xs)
items_few behind some before [] = omega arith
items_few behind some before (x ∷ xs) =
    omega (arith, length-append ((behind before).spelling x) (spelled behind (before ++ x ∷ []) xs), some before x, items_few behind some (before ++ x ∷ []) xs)

pub short_list : {V : Type 0} (behind : List V → Form V) (P : List V → V → Type 0) → HasBytes behind → ((before : List V) → Short (behind before) (P before))
    → Short (list_of behind) (λ xs. AllBehind P [] xs)
short_list behind P some short = record {
  needs = λ xs asked lt.
      let both = length-append (u32_spelling (length xs)) (spelled behind [] xs) in
      (omega (arith, both, lt, items_few behind some [] xs), items_short behind P short [] xs asked (omega (arith, both, lt)));
}

all_nothing : {V : Type 0} (before xs : List V) → AllBehind (λ b x. Unit {0}) before xs
all_nothing before [] = tt
all_nothing before (x ∷ xs) = (tt, all_nothing (before ++ x ∷ []) xs)

pub plain_many : {V : Type 0} (a : Form V) → ((x : V) → 0 < length (a.spelling x)) → Plain a → Plain (many a)
plain_many {V} a some short = record {
  needs = λ xs asked lt. (short_list (λ before. a) (λ before x. Unit {0}) (λ before x. some x) (λ before. short)).needs xs (all_nothing [] xs) lt;
}
