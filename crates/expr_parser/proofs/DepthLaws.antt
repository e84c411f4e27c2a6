-- What is known of the depth of brackets behind the first tokens of a list.
use Rattle.std.proofs.Common.{◌≡◌, ℕ, ◌+◌, ◌<◌, ◌≤◌, suc, List, [], ◌∷◌, map, length, get_or, drop, sym, ap, ◌∙◌, subst, arith, add-one, drop-cons}
use Rattle.std.proofs.lemmas.List.{drop_all}
use Rattle.model_syntax.specs.declared.token.Token.{Token}
use Rattle.model_syntax.specs.Stream.{kinds_of}
use Rattle.model_syntax.specs.BracketDepth.{depth_behind, StaysShallow, IsShallow}

-- Behind the first i tokens d brackets are open, and the list is shallow exactly where the others go on so.
pub record Counted (ts : List Token) (i d : ℕ) : Type 0 where
  pub few : d ≤ 128
  pub onward : IsShallow ts → StaysShallow d (kinds_of (drop i ts))
  pub back : StaysShallow d (kinds_of (drop i ts)) → IsShallow ts

pub counted_first : (ts : List Token) → Counted ts 0 0
counted_first ts = record { few = omega arith; onward = λ s. s; back = λ s. s }

one : (d : ℕ) (t : Token) (ts : List Token) → StaysShallow d (kinds_of (t ∷ ts)) → (depth_behind d t.kind ≤ 128) × StaysShallow (depth_behind d t.kind) (kinds_of ts)
unfolding StaysShallow
one d t ts s = s

more : (d : ℕ) (t : Token) (ts : List Token) → depth_behind d t.kind ≤ 128 → StaysShallow (depth_behind d t.kind) (kinds_of ts) → StaysShallow d (kinds_of (t ∷ ts))
unfolding StaysShallow
more d t ts l s = (l, s)

none : (d : ℕ) → StaysShallow d (kinds_of [])
unfolding StaysShallow
none d = tt

module _ {ts : List Token} {i d : ℕ} (h : Counted ts i d) where
  module _ (t : Token) (is : t ≡ get_or ts i t) (within : i < length ts) where
    next : drop i ts ≡ t ∷ drop (i + 1) ts
    next = drop-cons ts i t within ∙ ap (λ z. z ∷ drop (suc i) ts) (sym is) ∙ ap (λ k. t ∷ drop k ts) (sym (add-one i))

    onward_one : IsShallow ts → (depth_behind d t.kind ≤ 128) × StaysShallow (depth_behind d t.kind) (kinds_of (drop (i + 1) ts))
    onward_one s = one d t (drop (i + 1) ts) (subst (λ us. StaysShallow d (kinds_of us)) next (h.onward s))

    pub counted_next : depth_behind d t.kind ≤ 128 → Counted ts (i + 1) (depth_behind d t.kind)
    counted_next l = record {
      few = l;
      onward = λ s. (onward_one s).1;
      back = λ s. h.back (subst (λ us. StaysShallow d (kinds_of us)) (sym next) (more d t (drop (i + 1) ts) l s));
    }

    pub counted_deep : 128 < depth_behind d t.kind → IsShallow ts → ⊥
    counted_deep l s = let f = (onward_one s).0 in let c : ⊥ = omega (arith, l, f) in c

  pub counted_all : length ts ≤ i → IsShallow ts
  counted_all behind = h.back (subst (λ us. StaysShallow d (kinds_of us)) (sym (drop_all i ts behind)) (none d))
