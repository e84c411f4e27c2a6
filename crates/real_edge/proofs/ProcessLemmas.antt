-- The words and the variables of a command, one after the other.
use Rattle.std.proofs.Common.{◌≡◌, ◌≢◌, ◌<◌, ◌+◌, ◌++◌, ◌∷◌, [], ℕ, List, Bool, true, false, Option, Some, length, take, get_or, bytes_eq, if◌then◌else◌, sym, ap, ◌∙◌, refl, true≢false}
use mathlib.Core.List.{append_assoc}
use Rattle.std.proofs.lemmas.List.{take_more}
use Rattle.std.proofs.lemmas.Slice.Eq.{bytes_eq-Decides}
use Rattle.model_text.specs.declared.pair.Pair.{Pair}
use Rattle.real_edge.specs.Process.{said_of}

-- one variable more
said_more : (name : List ℕ) (before : Option (Option (List ℕ))) (xs : List Pair) (x : Pair) → said_of name before (xs ++ x ∷ []) ≡ (if bytes_eq x.name name then Some (Some x.value) else said_of name before xs)
said_more name before [] x = refl
said_more name before (y ∷ xs) x = said_more name (if bytes_eq y.name name then Some (Some y.value) else before) xs x

-- its name has its value, and every other name has what it had
set_one : (key value name : List ℕ) (now was : Option (Option (List ℕ))) → (key ≡ name → now ≡ Some (Some value)) → (name ≢ key → now ≡ was) → now ≡ (if bytes_eq key name then Some (Some value) else was)
set_one key value name now was set others = by (bytes_eq key name) refl
  where
    by : (same : Bool) → bytes_eq key name ≡ same → now ≡ (if same then Some (Some value) else was)
    by true e = set ((bytes_eq-Decides key name).0 e)
    by false e = others (λ same. true≢false (sym ((bytes_eq-Decides key name).1 (sym same)) ∙ e))

pub set_next : (variables : List Pair) (i : ℕ) (x : Pair) (name : List ℕ) (before was now : Option (Option (List ℕ))) → i < length variables → get_or variables i x ≡ x
    → was ≡ said_of name before (take i variables) → (x.name ≡ name → now ≡ Some (Some x.value)) → (name ≢ x.name → now ≡ was) → now ≡ said_of name before (take (i + 1) variables)
set_next variables i x name before was now inside at is set others =
    let one = set_one x.name x.value name now was set others in
    one ∙ ap (λ (w : Option (Option (List ℕ))). if bytes_eq x.name name then Some (Some x.value) else w) is
    ∙ sym (ap (said_of name before) (take_more variables i x inside ∙ ap (λ (y : Pair). take i variables ++ y ∷ []) at) ∙ said_more name before (take i variables) x)

-- some words, and further ones behind them
pub said_behind : (old mid new front behind : List (List ℕ)) → mid ≡ old ++ front → new ≡ mid ++ behind → new ≡ old ++ (front ++ behind)
said_behind old mid new front behind first second = second ∙ (ap (λ xs. xs ++ behind) first ∙ append_assoc old front behind)
