-- More of the calculus: rules behind a token that is known, names, and what may be absent.
use Rattle.std.proofs.Common.{◌≡◌, ℕ, ◌+◌, ◌<◌, ◌≤◌, Bool, true, false, Option, Some, None, List, [], ◌∷◌, inl, ⊎_elim, refl, sym, ap, ◌∙◌, subst, arith, le_refl, leb, cond, Result, Ok, Err}
use Rattle.std.proofs.lemmas.Bool.{false≢true}
use Rattle.std.proofs.lemmas.Bool.Decides.{nat_tests}
use Rattle.model_syntax.specs.declared.place.Declared.{Declared}
use Rattle.model_syntax.specs.declared.token.TokenKind.{TokenKind}
use Rattle.model_syntax.specs.declared.token.TokenKind.TheVariants as kind
use Rattle.model_syntax.specs.Stream.{Stream, Places, declared, SeesName}
use Rattle.groovy_expr.specs.declared.refusal.Refusal.{Refusal}
use Rattle.groovy_expr.specs.declared.refusal.Refusal.TheVariants.{Memory, Fault}
use Rattle.groovy_expr.specs.Answers.{Rule, Stops, Stands, Inside, Exact, Refused, Viable, Reads}
use Rattle.groovy_expr.proofs.Calculus.{Tok, Ret, Perhaps, Weaker, Fill, Fills, NeverTo, inside_none, inside_more, viable_more, alike, perhaps_some, perhaps_fails}

-- what a rule begins with
abbrev pub FirstIn : {A : Type 0} → Rule A → (Option TokenKind → Bool) → Type 0
FirstIn {A} R starts = (J : Stream) (y : A) (a b : ℕ) → R J y a b → starts (J a) ≡ true

-- a rule behind a token that is known
abbrev pub Skip : {A : Type 0} → Rule A → Rule A
Skip R J y a b = R J y (a + 1) b

-- a name where it is declared, then what follows it
abbrev pub Nam : {A : Type 0} → Places → (Declared → Rule A) → Rule A
Nam P then J y a b = (n : List ℕ) × (J a ≡ Some (kind.Name n)) × then (declared n (P a)) J y (a + 1) b

-- no text with this token here has the rule
abbrev pub NeverHere : {A : Type 0} → Rule A → Stops → Stream → ℕ → Type 0
NeverHere {A} S stops K at = (J : Stream) (y : A) (b : ℕ) → J at ≡ K at → S J y at b → stops (J b) ≡ true → ⊥

pub never_tok : {A : Type 0} (R : Rule A) (stops : Stops) (K : Stream) {at : ℕ} {k : TokenKind} → (K at ≡ Some k → ⊥) → NeverHere (Tok k R) stops K at
never_tok R stops K h J y b e r st = h (sym e ∙ r.0)

-- nothing is no spelling before a token that may not follow
pub never_ret : {A : Type 0} (x : A) (stops : Stops) (K : Stream) {at : ℕ} → stops (K at) ≡ false → NeverHere (Ret x) stops K at
never_ret x stops K h J y b e r st = false≢true (sym h ∙ ap stops (sym e) ∙ ap stops (ap J (sym r.1)) ∙ st)

pub to_here : {A : Type 0} (R : Rule A) (stops : Stops) (K : Stream) {at n : ℕ} → at ≤ n → NeverHere R stops K at → NeverTo n R stops K at
to_here R stops K le never J y b same r st = never J y b (same _ le) r st

-- what may be absent
module _ {A : Type 0} (stops : Stops) (K : Stream) where
  pub may_none : (R : Rule A) {at : ℕ} (x : A) → NeverHere R stops K at → Exact (Perhaps x R) stops K at x at
  may_none R {at} x never = record {
    after = le_refl at;
    inside = inside_none K at;
    spelled = λ J same so. inl (refl, refl);
    only = λ J y b same r st. ⊎_elim (λ e. e) (λ e. absurd (never J y b (same at (le_refl at)) e st)) r;
  }

  pub may_some : (R : Rule A) {at n : ℕ} {y : A} (x : A) → stops (K at) ≡ false → Exact R stops K at y n → Exact (Perhaps x R) stops K at y n
  may_some R x h e = perhaps_some stops K x (λ s. false≢true (sym h ∙ s)) e

  pub may_fails : (R : Rule A) {at i : ℕ} (x : A) → stops (K at) ≡ false → Refused R stops K at i → Refused (Perhaps x R) stops K at i
  may_fails R x h f = perhaps_fails stops K x (λ s. false≢true (sym h ∙ s)) f

module _ {A : Type 0} {R : Rule A} {s t : Stops} {K : Stream} {at : ℕ} (weaker : Weaker t s) where
  -- fewer tokens may follow
  pub exact_less : {x : A} {n : ℕ} → Exact R s K at x n → Exact R t K at x n
  exact_less e = record { after = e.after; inside = e.inside; spelled = λ J same st. e.spelled J same (weaker _ st); only = λ J y b same r st. e.only J y b same r (weaker _ st) }

  pub refused_less : {i : ℕ} → Refused R s K at i → Refused R t K at i
  refused_less f = record { from = f.from; inside = f.inside; never = λ J y b same r st. f.never J y b same r (weaker _ st); viable = viable_more weaker (λ J e same ok v. v) f.viable }

-- one token
pub inside_token : (K : Stream) (k : TokenKind) (a : ℕ) → K a ≡ Some k → Inside K a (a + 1)
inside_token K k a h = inside_more K k a (a + 1) h (inside_none K (a + 1))

-- what is read is spelled in a text that ends behind it
pub ended : {A : Type 0} {R : Rule A} {stops : Stops} {K : Stream} {at n : ℕ} {x : A} → stops None ≡ true → Exact R stops K at x n → (J : Stream) × (J n ≡ None) × R J x at n
ended {A} {R} {stops} {K} {at} {n} {x} st e =
    let J : Stream = λ k. cond (leb (k + 1) n) (K k) None in
    let low = λ (k : ℕ) (l : k < n). let t : leb (k + 1) n ≡ true = grind (arith, nat_tests) in ap (λ (b : Bool). cond b (K k) None) t in
    let past_end : leb (n + 1) n ≡ false = grind (arith, nat_tests) in
    let none : J n ≡ None = ap (λ (b : Bool). cond b (K n) None) past_end in
    (J, none, e.spelled J low (ap stops none ∙ st))

-- what begins with certain tokens is not nothing
pub long : {A : Type 0} {R : Rule A} {stops : Stops} {K : Stream} {at n : ℕ} {x : A} (starts : Option TokenKind → Bool) → FirstIn R starts → stops None ≡ true → starts None ≡ false → Exact R stops K at x n → at < n
long {A} {R} {stops} {K} {at} {n} {x} starts begins st shut e = by_test (leb (at + 1) n) refl
  where
    by_test : (t : Bool) → leb (at + 1) n ≡ t → at < n
    by_test true h = grind (arith, nat_tests)
    by_test false h =
        let le : n ≤ at = grind (arith, nat_tests) in
        let from = e.after in
        let here : at ≡ n = omega arith in
        let r = ended st e in
        absurd (false≢true (sym shut ∙ ap starts (sym (ap r.0 here ∙ r.1)) ∙ begins r.0 x at n r.2))

-- no tree begins here, and some would elsewhere
pub nothing : {A : Type 0} {stops : Stops} {K : Stream} {R : Rule A} {at : ℕ} → Fill R stops → NeverHere R stops K at → Refused R stops K at at
nothing {A} {stops} {K} {R} {at} fill h = record {
  from = le_refl at;
  inside = inside_none K at;
  never = λ J y b same r st. h J y b (same at (le_refl at)) r st;
  viable = record { closing = fill.tokens; closes = λ J e same st ok. fill.fills J at e st ok };
}

-- where a fault is on the first token, anything may stand there
module _ {A : Type 0} {N : Rule A} {stops : Stops} {K : Stream} {at i : ℕ} where
  pub here_or : Fill N stops → at ≤ i → (at < i → Viable N stops K at i) → Viable N stops K at i
  here_or fill from f = by_test (leb (at + 1) i) refl
    where
      by_test : (t : Bool) → leb (at + 1) i ≡ t → Viable N stops K at i
      by_test true e = f (grind (arith, nat_tests))
      by_test false e =
          let le : i ≤ at = grind (arith, nat_tests) in
          let here : i ≡ at = omega arith in
          record { closing = fill.tokens; closes = λ J k same st ok. fill.fills J at k (subst (λ j. Stands J j fill.tokens k) here st) ok }

-- a nonterminal by its first token, which stands there
pub record IsByKnown {A : Type 0} (N : Rule A) (By : Option TokenKind → Rule A) : Type 0 where
  pub enter : {J : Stream} {y : A} {a b : ℕ} → N J y a b → By (J a) J y a b
  pub leave : {J : Stream} {y : A} {a b : ℕ} (k : Option TokenKind) → J a ≡ k → By k J y a b → N J y a b

module _ {A : Type 0} {N : Rule A} {By : Option TokenKind → Rule A} (B : IsByKnown N By) {stops : Stops} {K : Stream} {at : ℕ} where
  pub by_ok : (k : Option TokenKind) {n : ℕ} {x : A} → K at ≡ k → at < n → Exact (By k) stops K at x n → Exact N stops K at x n
  by_ok k {n} {x} h lt e = record {
    after = e.after;
    inside = e.inside;
    spelled = λ J same st. B.leave k (same at lt ∙ h) (e.spelled J same st);
    only = λ J y b same r st. e.only J y b same (subst (λ t. By t J y at b) (same at e.after ∙ h) (B.enter r)) st;
  }

  by_never : (k : Option TokenKind) {i : ℕ} → K at ≡ k → Refused (By k) stops K at i → NeverTo i N stops K at
  by_never k {i} h f J y b same r st = f.never J y b same (subst (λ t. By t J y at b) (same at f.from ∙ h) (B.enter r)) st

  pub by_bad : (k : Option TokenKind) {i : ℕ} → K at ≡ k → at < i → Refused (By k) stops K at i → Refused N stops K at i
  by_bad k {i} h lt f = record {
    from = f.from;
    inside = f.inside;
    never = by_never k h f;
    viable = viable_more (alike _) (λ J e same ok v. (v.0, B.leave k (same at lt ∙ h) v.1)) f.viable;
  }

  -- the same where the first token itself may be the fault
  pub by_bad_here : (k : Option TokenKind) {i : ℕ} → K at ≡ k → Fill N stops → Refused (By k) stops K at i → Refused N stops K at i
  by_bad_here k {i} h fill f = record {
    from = f.from;
    inside = f.inside;
    never = by_never k h f;
    viable = here_or fill f.from (λ lt. viable_more (alike _) (λ J e same ok v. (v.0, B.leave k (same at lt ∙ h) v.1)) f.viable);
  }

module _ {A : Type 0} {stops : Stops} {K : Stream} {R : Rule A} {k : TokenKind} {at : ℕ} (h : K at ≡ Some k) where
  pub skip_ok : {n : ℕ} {x : A} → Exact R stops K (at + 1) x n → Exact (Skip R) stops K at x n
  skip_ok {n} e = record {
    after = (let a = e.after in omega arith);
    inside = inside_more K k at n h e.inside;
    spelled = e.spelled;
    only = λ J y b same r st. e.only J y b same r st;
  }

  pub skip_fails : {i : ℕ} → Refused R stops K (at + 1) i → Refused (Skip R) stops K at i
  skip_fails {i} f = record {
    from = (let a = f.from in omega arith);
    inside = inside_more K k at i h f.inside;
    never = λ J y b same r st. f.never J y b same r st;
    viable = viable_more (alike _) (λ J e same ok v. v) f.viable;
  }

-- a nonterminal that is a rule
pub record IsRule {A : Type 0} (N R : Rule A) : Type 0 where
  pub enter : {J : Stream} {y : A} {a b : ℕ} → N J y a b → R J y a b
  pub leave : {J : Stream} {y : A} {a b : ℕ} → R J y a b → N J y a b

module _ {A : Type 0} {N R : Rule A} {stops : Stops} (I : IsRule N R) {K : Stream} where
  pub rule_ok : {at n : ℕ} {x : A} → Exact R stops K at x n → Exact N stops K at x n
  rule_ok e = record {
    after = e.after;
    inside = e.inside;
    spelled = λ J same st. I.leave (e.spelled J same st);
    only = λ J y b same r st. e.only J y b same (I.enter r) st;
  }

  pub rule_bad : {at i : ℕ} → Refused R stops K at i → Refused N stops K at i
  rule_bad f = record {
    from = f.from;
    inside = f.inside;
    never = λ J y b same r st. f.never J y b same (I.enter r) st;
    viable = viable_more (alike _) (λ J e same ok v. (v.0, I.leave v.1)) f.viable;
  }

-- names
abbrev pub a_name : List ℕ
a_name = 120 ∷ []

-- a name `x` fills the place of a name
pub fill_nam : {A : Type 0} {P : Places} {part_stops stops : Stops} {then : Declared → Rule A} → Fills then part_stops stops → Fill (Nam P then) stops
fill_nam {A} {P} {part_stops} {stops} {then} s = record {
  tokens = kind.Name a_name ∷ s.tokens;
  fills = λ J a e st ok. let w = s.fills (declared a_name (P a)) J (a + 1) e st.1 ok in (w.0, (a_name, st.0, w.1));
}

same_name : (n m : List ℕ) → Some (kind.Name n) ≡ Some (kind.Name m) → n ≡ m
same_name n m e = cc

module _ {A : Type 0} (stops : Stops) (K : Stream) (P : Places) (then : Declared → Rule A) {at : ℕ} where
  pub nam_ok : {n : List ℕ} {m : ℕ} {x : A} → K at ≡ Some (kind.Name n) → Exact (then (declared n (P at))) stops K (at + 1) x m → Exact (Nam P then) stops K at x m
  nam_ok {n} {m} {x} h e = record {
    after = (let a = e.after in omega arith);
    inside = inside_more K (kind.Name n) at m h e.inside;
    spelled = λ J same st. let a = e.after in (n, same at (omega arith) ∙ h, e.spelled J same st);
    only = λ J y b same r st.
        let a = e.after in
        let o : r.0 ≡ n = same_name r.0 n (sym r.1 ∙ same at (omega arith) ∙ h) in
        e.only J y b same (subst (λ z. then (declared z (P at)) J y (at + 1) b) o r.2) st;
  }

  pub nam_fails : {n : List ℕ} {i : ℕ} → K at ≡ Some (kind.Name n) → Refused (then (declared n (P at))) stops K (at + 1) i → Refused (Nam P then) stops K at i
  nam_fails {n} {i} h f = record {
    from = (let a = f.from in omega arith);
    inside = inside_more K (kind.Name n) at i h f.inside;
    never = λ J y b same r st.
        let a = f.from in
        let o : r.0 ≡ n = same_name r.0 n (sym r.1 ∙ same at (omega arith) ∙ h) in
        f.never J y b same (subst (λ z. then (declared z (P at)) J y (at + 1) b) o r.2) st;
    viable = viable_more (alike _) (λ J e same ok v. let a = f.from in (v.0, (n, same at (omega arith) ∙ h, v.1))) f.viable;
  }

  pub nam_none : {part_stops : Stops} → Fills then part_stops stops → ((n : List ℕ) → SeesName K at n → ⊥) → Refused (Nam P then) stops K at at
  nam_none fill h = nothing (fill_nam fill) (λ J y b e r st. h r.0 (sym e ∙ r.1))

-- what a call answered, handed on
pub handed : {A : Type 0} {R N : Rule A} {s s' : Stops} {K : Stream} {at at' : ℕ} (r : Result (A × ℕ) Refusal) → Reads R s K at r → ((x : A) (n : ℕ) → Exact R s K at x n → Exact N s' K at' x n) → ((i : ℕ) → Refused R s K at i → Refused N s' K at' i) → Reads N s' K at' r
handed (Ok (x, n)) h f g = f x n h
handed (Err Memory) h f g = tt
handed (Err (Fault i)) h f g = g i h
