-- The steps of a loop or of a rule, each of which leaves what goes on behind it.
use Rattle.std.proofs.Common.{◌≡◌, ℕ, ◌+◌, true, List, ◌∷◌, inl, inr, ⊎_elim, refl, sym, ap, ◌∙◌, subst, arith, le_refl, Option, Some}
use Rattle.model_syntax.specs.declared.token.TokenKind.{TokenKind}
use Rattle.model_syntax.specs.declared.token.TokenKind.TheVariants as kind
use Rattle.model_syntax.specs.Stream.{Stream}
use Rattle.groovy_expr.specs.Answers.{Rule, Stops, Refused}
use Rattle.groovy_expr.proofs.Calculus.{inside_none, inside_more, Tok, Ret, Perhaps, Leads, Fills, Fill, Weaker, Begins, Between, Turns, Alt, Tail, leads_tok, leads_ret, fills_tok, fills_ret, leads_perhaps, fills_perhaps}

-- a rule whose tree is made of another's
abbrev pub Map : {X A : Type 0} → (X → A) → Rule X → Rule A
Map {X} f R J y a b = (x : X) × R J x a b × (y ≡ f x)

module _ {A : Type 0} {stops : Stops} {K : Stream} {at : ℕ} where
  pub step_turn : {N R : Rule A} → Turns N R stops K at → Tail N R stops K at (λ z. z) at
  step_turn T = record {
    after = le_refl at;
    inside = inside_none K at;
    whole = λ J same z b r so. T.leave J z b r so;
    only = λ J y b same r st. (y, T.enter J y b (same at (le_refl at)) r st, refl);
  }

  pub step_tok : (R : Rule A) {k : TokenKind} → K at ≡ Some k → Tail (Tok k R) R stops K at (λ z. z) (at + 1)
  step_tok R {k} h = record {
    after = omega arith;
    inside = inside_more K k at (at + 1) h (inside_none K (at + 1));
    whole = λ J same z b r so. (same at (omega arith) ∙ h, r);
    only = λ J y b same r st. (y, r.1, refl);
  }

  -- the token at hand rules out the other rule
  pub step_left : (R S : Rule A) → ((J : Stream) (y : A) (b : ℕ) → J at ≡ K at → S J y at b → ⊥) → Tail (Alt R S) R stops K at (λ z. z) at
  step_left R S never = record {
    after = le_refl at;
    inside = inside_none K at;
    whole = λ J same z b r so. inl r;
    only = λ J y b same r st. ⊎_elim (λ q. (y, q, refl)) (λ q. absurd (never J y b (same at (le_refl at)) q)) r;
  }

  pub step_right : (R S : Rule A) → ((J : Stream) (y : A) (b : ℕ) → J at ≡ K at → R J y at b → ⊥) → Tail (Alt R S) S stops K at (λ z. z) at
  step_right R S never = record {
    after = le_refl at;
    inside = inside_none K at;
    whole = λ J same z b r so. inr r;
    only = λ J y b same r st. ⊎_elim (λ q. absurd (never J y b (same at (le_refl at)) q)) (λ q. (y, q, refl)) r;
  }

  pub step_map : {X : Type 0} (f : X → A) (R : Rule X) → Tail (Map f R) R stops K at f at
  step_map f R = record {
    after = le_refl at;
    inside = inside_none K at;
    whole = λ J same z b r so. (z, r, refl);
    only = λ J y b same r st. r;
  }

  pub step_perhaps : (x : A) (R : Rule A) → (stops (K at) ≡ true → ⊥) → Tail (Perhaps x R) R stops K at (λ z. z) at
  step_perhaps x R goes = record {
    after = le_refl at;
    inside = inside_none K at;
    whole = λ J same z b r so. inr r;
    only = λ J y b same r st.
        ⊎_elim (λ z. absurd (goes (ap stops (sym (same at (le_refl at))) ∙ ap stops (ap J (sym z.1)) ∙ st))) (λ z. (y, z, refl)) r;
  }

-- What goes on behind a part: it stops the part, and something spells it.
pub record Joins {X A : Type 0} (then : X → Rule A) (part_stops stops : Stops) : Type 0 where
  pub leads : Leads then part_stops stops
  pub fills : Fills then part_stops stops

module _ {X A : Type 0} {part_stops stops : Stops} where
  pub joins_tok : (k : TokenKind) {then : X → Rule A} {other : Stops} → part_stops (Some k) ≡ true → Fills then other stops → Joins (λ x. Tok k (then x)) part_stops stops
  joins_tok k {then} h r = record { leads = leads_tok part_stops stops (λ x. k) then (λ x. h); fills = fills_tok k h r }

  pub joins_ret : (f : X → A) → Weaker stops part_stops → Joins (λ x. Ret (f x)) part_stops stops
  joins_ret f weaker = record { leads = leads_ret part_stops stops f weaker; fills = fills_ret f weaker }

  pub joins_perhaps : (f : X → A) (R : X → Rule A) (starts : Option TokenKind → Type 0) → Weaker stops part_stops → ((x : X) → Begins (R x) starts) → Between starts part_stops → Joins (λ x. Perhaps (f x) (R x)) part_stops stops
  joins_perhaps f R starts weaker begins between = record { leads = leads_perhaps part_stops stops f R starts weaker begins between; fills = fills_perhaps f R weaker }

  -- a tree made of what goes on
  pub fills_map : {Y : Type 0} (f : X → Y → A) {then : X → Rule Y} → Fills then part_stops stops → Fills (λ x. Map (f x) (then x)) part_stops stops
  fills_map f r = record { tokens = r.tokens; fills = λ x J a e st so. let v = r.fills x J a e st so in (f x v.0, (v.0, v.1, refl)); ends = r.ends }

  -- whatever the part was
  pub fills_plain : {R : Rule A} → Fill R stops → ((J : Stream) (y : A) (a b : ℕ) → R J y a b → stops (J b) ≡ true → part_stops (J a) ≡ true) → Fills {X = X} (λ x. R) part_stops stops
  fills_plain r begins = record { tokens = r.tokens; fills = λ x J a e st so. r.fills J a e st so; ends = λ J a e st so. let v = r.fills J a e st so in begins J v.0 a e v.1 so }

-- tokens that spell a tree made of another
pub fill_map : {X A : Type 0} (f : X → A) {R : Rule X} {stops : Stops} → Fill R stops → Fill (Map f R) stops
fill_map f r = record { tokens = r.tokens; fills = λ J a e st so. let v = r.fills J a e st so in (f v.0, (v.0, v.1, refl)) }

-- a token of a kind, whose text or number is kept
abbrev pub Take : {X A : Type 0} → (X → TokenKind) → (X → Rule A) → Rule A
Take {X} pick then J y a b = (x : X) × (J a ≡ Some (pick x)) × then x J y (a + 1) b

pub same_name : (m n : List ℕ) → Some (kind.Name m) ≡ Some (kind.Name n) → m ≡ n
same_name m n e = cc

module _ {X A : Type 0} {stops : Stops} {K : Stream} {at : ℕ} (pick : X → TokenKind) (then : X → Rule A) where
  pub step_take : {x : X} → ((u v : X) → Some (pick u) ≡ Some (pick v) → u ≡ v) → K at ≡ Some (pick x) → Tail (Take pick then) (then x) stops K at (λ z. z) (at + 1)
  step_take {x} one h = record {
    after = omega arith;
    inside = inside_more K (pick x) at (at + 1) h (inside_none K (at + 1));
    whole = λ J same z b r so. (x, same at (omega arith) ∙ h, r);
    only = λ J y b same r st. (y, subst (λ u. then u J y (at + 1) b) (one r.0 x (sym r.1 ∙ same at (omega arith) ∙ h)) r.2, refl);
  }

pub take_bad : {X A : Type 0} (stops : Stops) (K : Stream) (pick : X → TokenKind) (then : X → Rule A) {at : ℕ} (x : X) → Fill (then x) stops → ((u : X) → K at ≡ Some (pick u) → ⊥) → Refused (Take pick then) stops K at at
take_bad stops K pick then {at} x fill h = record {
  from = le_refl at;
  inside = inside_none K at;
  never = λ J y b same r st. h r.0 (sym (same at (le_refl at)) ∙ r.1);
  viable = record { closing = pick x ∷ fill.tokens; closes = λ J e same st so. let v = fill.fills J (at + 1) e st.1 so in (v.0, (x, st.0, v.1)) };
}
