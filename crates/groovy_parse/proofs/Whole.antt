-- What is read of all tokens is the tree of their list, and what is refused is their syntax place.
use Rattle.std.proofs.Common.{◌≡◌, ◌≢◌, ℕ, ◌+◌, ◌<◌, ◌≤◌, Bool, true, false, Some, None, List, [], ◌∷◌, ◌++◌, zero, suc, refl, sym, ap, ◌∙◌, subst, arith, leb, length, take, slice_get, le_refl}
use Rattle.std.proofs.lemmas.Bool.Decides.{nat_tests}
use Rattle.std.proofs.lemmas.List.{length-map, length-append, length-take-le}
use Rattle.std.proofs.lemmas.Option.{slice_get_past}
use Rattle.model_syntax.specs.declared.token.Token.{Token}
use Rattle.model_syntax.specs.declared.token.TokenKind.{TokenKind}
use Rattle.model_syntax.specs.declared.tree.Top.{Top}
use Rattle.model_syntax.specs.declared.tree.Tree.{Tree}
use Rattle.model_syntax.specs.Stream.{Stream, kind_at, kinds_of, places_of}
use Rattle.model_syntax.specs.Scripts.{Tops}
use Rattle.model_syntax.specs.FirstFault.{BeginsScript, NoScriptThrough, SyntaxPlace, IsTree}
use Rattle.groovy_expr.specs.declared.refusal.Refusal.{Refusal}
use Rattle.groovy_expr.specs.declared.refusal.Refusal.TheVariants.{Memory, Fault}
use Rattle.groovy_expr.specs.Answers.{Agrees, Stands, Exact, Refused, Fails, kinds}
use Rattle.groovy_parse.specs.Readers.{stops_end}
use Rattle.groovy_parse.proofs.ScriptRules.{Script, TopsLoop, script_ok}

-- what stands in a part of a list, and in two lists one behind the other
get_take : {A : Type 0} (n : ℕ) (xs : List A) (k : ℕ) → k < n → slice_get (take n xs) k ≡ slice_get xs k
get_take zero xs k lt = absurd (omega arith)
get_take (suc n) [] k lt = refl
get_take (suc n) (x ∷ xs) zero lt = refl
get_take (suc n) (x ∷ xs) (suc k) lt = get_take n xs k (omega arith)

get_left : {A : Type 0} (xs ys : List A) (k : ℕ) → k < length xs → slice_get (xs ++ ys) k ≡ slice_get xs k
get_left [] ys k lt = absurd (omega arith)
get_left (x ∷ xs) ys zero lt = refl
get_left (x ∷ xs) ys (suc k) lt = get_left xs ys k (omega arith)

get_right : {A : Type 0} (xs ys : List A) (k d : ℕ) → k ≡ length xs + d → slice_get (xs ++ ys) k ≡ slice_get ys d
get_right [] ys k d e = ap (slice_get ys) (let h : k ≡ d = omega arith in h)
get_right (x ∷ xs) ys zero d e = absurd (omega arith)
get_right (x ∷ xs) ys (suc k) d e = get_right xs ys k d (omega arith)

-- tokens that stand in a text one by one
stands : (J : Stream) (ts : List TokenKind) (i e : ℕ) → e ≡ i + length ts → ((d : ℕ) → J (i + d) ≡ slice_get ts d) → Stands J i ts e
stands J [] i e h f = omega arith
stands J (t ∷ ts) i e h f =
    let here : i + 0 ≡ i = omega arith in (
      subst (λ k. J k ≡ Some t) here (f 0),
      stands J ts (i + 1) e (omega arith) (λ d. let next : i + suc d ≡ i + 1 + d = omega arith in subst (λ k. J k ≡ slice_get ts d) next (f (suc d))),
    )

-- nothing stands behind a list
behind : (ks : List TokenKind) → kind_at ks (length ks) ≡ None
behind ks = slice_get_past ks (length ks) (le_refl (length ks))

ends : (ks : List TokenKind) → stops_end (kind_at ks (length ks)) ≡ true
ends ks = ap stops_end (behind ks)

length-kinds : (ts : List Token) → length (kinds_of ts) ≡ length ts
length-kinds ts = length-map ts (λ t. t.kind)

pub nothing_behind : (ts : List Token) (n : ℕ) → length ts ≤ n → kinds ts n ≡ None
nothing_behind ts n le = slice_get_past (kinds_of ts) n (let e = length-kinds ts in omega arith)

pub something_there : (ts : List Token) (n : ℕ) → n < length ts → kinds ts n ≢ None
something_there [] n lt e = absurd (omega arith)
something_there (t ∷ ts) zero lt e = cc
something_there (t ∷ ts) (suc n) lt e = something_there ts n (omega arith) e

-- all tokens are read
pub script_read : (ts : List Token) (done : List Top) {may : Bool} {n : ℕ} → TopsLoop (places_of ts) (kinds ts) done may n → length ts ≤ n → Exact (Script (places_of ts)) stops_end (kinds ts) 0 done (length ts)
script_read ts done {may} {n} g le = subst (λ k. Exact (Script (places_of ts)) stops_end (kinds ts) 0 done k) all_of (script_ok (kinds ts) (places_of ts) done g (nothing_behind ts n le))
  where
    all_of : n ≡ length ts
    all_of = by_test (leb n (length ts)) refl
      where
        by_test : (t : Bool) → leb n (length ts) ≡ t → n ≡ length ts
        by_test true e = let l : n ≤ length ts = grind (arith, nat_tests) in omega arith
        by_test false e =
            let lt : length ts < n = grind (arith, nat_tests) in
            absurd (g.inside (length ts) (omega arith) lt (nothing_behind ts (length ts) (le_refl (length ts))))

-- the tree
pub tree_read : (ts : List Token) {tops : List Top} → Exact (Script (places_of ts)) stops_end (kinds ts) 0 tops (length ts) → IsTree ts (record { tops = tops })
tree_read ts {tops} e = record {
  spelled = subst (λ n. Tops (kinds ts) (places_of ts) tops 0 n) (sym (length-kinds ts)) (e.spelled (kinds ts) (λ k lt. refl) (ap stops_end (nothing_behind ts (length ts) (le_refl (length ts)))));
  only = λ other r. let o = e.only (kinds ts) other.tops (length (kinds_of ts)) (λ k le. refl) r (ends (kinds_of ts)) in same other o.0;
}
  where
    same : (other : Tree) → other.tops ≡ tops → other ≡ record { tops = tops }
    same other q = ap (λ t. record { tops = t }) q

-- the syntax place
module _ (ts : List Token) {i : ℕ} (f : Refused (Script (places_of ts)) stops_end (kinds ts) 0 i) where
  inside : i ≤ length ts
  inside = by_test (leb i (length ts)) refl
    where
      by_test : (t : Bool) → leb i (length ts) ≡ t → i ≤ length ts
      by_test true e = grind (arith, nat_tests)
      by_test false e =
          let lt : length ts < i = grind (arith, nat_tests) in
          absurd (f.inside (length ts) (omega arith) lt (nothing_behind ts (length ts) (le_refl (length ts))))

  begins : BeginsScript (places_of ts) (take i (kinds_of ts))
  begins =
      let ks = kinds_of ts in
      let front = take i ks in
      let c = f.viable.closing in
      let all = front ++ c in
      let len : length front ≡ i = length-take-le i ks (let e = length-kinds ts in let l = inside in omega arith) in
      let low = λ (k : ℕ) (lt : k < i). get_left front c k (omega arith) ∙ get_take i ks k lt in
      let end : length all ≡ i + length c = omega (arith, length-append front c, len) in
      let v = f.viable.closes (kind_at all) (length all) low (stands (kind_at all) c i (length all) end (λ d. get_right front c (i + d) d (omega arith))) (ends all) in
      record { closing = c; tree = record { tops = v.0 }; script = v.1 }

  no_script : NoScriptThrough (places_of ts) (kinds_of ts) i
  no_script us tree same r = f.never (kind_at us) tree.tops (length us) agrees r (ends us)
    where
      agrees : Agrees i (kind_at us) (kinds ts)
      agrees k le =
          let lt : k < i + 1 = omega arith in
          sym (get_take (i + 1) us k lt) ∙ ap (λ xs. slice_get xs k) same ∙ get_take (i + 1) (kinds_of ts) k lt

  pub syntax_place : SyntaxPlace ts i
  syntax_place = record { inside = inside; begins = begins; none = no_script }

-- the place that is told
pub place_told : (ts : List Token) (e : Refusal) → Fails (Script (places_of ts)) stops_end (kinds ts) 0 e → (i : ℕ) → e ≡ Fault i → SyntaxPlace ts i
place_told ts Memory f i e = absurd cc
place_told ts (Fault j) f i e = let h : j ≡ i = cc in subst (SyntaxPlace ts) h (syntax_place ts f)
