-- How what is read, and what is refused, goes from the parts of a rule to the whole.
use Rattle.std.proofs.Common.{◌≡◌, ◌≢◌, ℕ, ◌+◌, ◌<◌, ◌≤◌, Bool, true, false, List, [], ◌∷◌, ◌++◌, ◌⊎◌, inl, inr, ⊎_elim, refl, sym, ap, ◌∙◌, subst, arith, le_trans, le_refl, leb, Option, Some, None}
use Rattle.std.proofs.lemmas.Bool.Decides.{nat_tests}
use Rattle.model_syntax.specs.declared.token.TokenKind.{TokenKind}
use Rattle.model_syntax.specs.Stream.{Stream}
use Rattle.groovy_expr.specs.declared.refusal.Refusal.{Refusal}
use Rattle.groovy_expr.specs.declared.refusal.Refusal.TheVariants.{Memory, Fault}
use Rattle.groovy_expr.specs.Answers.{Rule, Stops, Agrees, Before, Stands, Inside, Exact, Refused, Viable, Fails}

pub shorter : {J K : Stream} (m n : ℕ) → m ≤ n → Agrees n J K → Agrees m J K
shorter m n le same k h = same k (le_trans h le)

pub before : {J K : Stream} (m n : ℕ) → m ≤ n → Before n J K → Before m J K
before m n le same k h = same k (le_trans h le)

-- Places with a token, one stretch behind the other.
pub inside_none : (K : Stream) (a : ℕ) → Inside K a a
inside_none K a k le lt = absurd (omega arith)

pub inside_both : (K : Stream) (a m b : ℕ) → Inside K a m → Inside K m b → Inside K a b
inside_both K a m b f g k le lt = by_place (leb (k + 1) m) refl
  where
    by_place : (t : Bool) → leb (k + 1) m ≡ t → K k ≢ None
    by_place true e = let l : k < m = grind (arith, nat_tests) in f k le l
    by_place false e = let l : m ≤ k = grind (arith, nat_tests) in g k l lt

some_token : (k : TokenKind) → Some k ≡ None → ⊥
some_token k e = cc

inside_one : (K : Stream) (k : TokenKind) (a : ℕ) → K a ≡ Some k → Inside K a (a + 1)
inside_one K k a h j le lt e = let here : j ≡ a = omega arith in some_token k (sym h ∙ ap K (sym here) ∙ e)

pub inside_more : (K : Stream) (k : TokenKind) (a b : ℕ) → K a ≡ Some k → Inside K (a + 1) b → Inside K a b
inside_more K k a b h f = inside_both K a (a + 1) b (inside_one K k a h) f

pub split : (J : Stream) (e : ℕ) (c d : List TokenKind) (i : ℕ) → Stands J i (c ++ d) e → (m : ℕ) × Stands J i c m × Stands J m d e
split J e [] d i h = (i, refl, h)
split J e (t ∷ c) d i h = let p = split J e c d (i + 1) h.1 in (p.0, (h.0, p.1), p.2)

-- A rule that reads a token, then goes on; that reads a part, then goes on by what it is; that is at its end; that is at
-- its end or goes on.
abbrev pub Tok : {A : Type 0} → TokenKind → Rule A → Rule A
Tok k R J y a b = (J a ≡ Some k) × R J y (a + 1) b

abbrev pub Ret : {A : Type 0} → A → Rule A
Ret x J y a b = (y ≡ x) × (b ≡ a)

abbrev pub Sub : {X A : Type 0} → Rule X → (X → Rule A) → Rule A
Sub {X} R then J y a b = (x : X) × (m : ℕ) × R J x a m × then x J y m b

abbrev pub Perhaps : {A : Type 0} → A → Rule A → Rule A
Perhaps x R J y a b = Ret x J y a b ⊎ R J y a b

-- no tree
abbrev pub Never : {A : Type 0} → Rule A
Never J y a b = ⊥

-- What comes next stops what stands before it.
abbrev pub Leads : {X A : Type 0} → (X → Rule A) → Stops → Stops → Type 0
Leads {X} {A} then part_stops stops = (x : X) (J : Stream) (y : A) (a b : ℕ) → then x J y a b → stops (J b) ≡ true → part_stops (J a) ≡ true

-- What stops the whole stops its last part.
abbrev pub Weaker : Stops → Stops → Type 0
Weaker stops part_stops = (t : Option TokenKind) → stops t ≡ true → part_stops t ≡ true

-- These tokens begin the rule.
abbrev pub Begins : {A : Type 0} → Rule A → (Option TokenKind → Type 0) → Type 0
Begins {A} R starts = (J : Stream) (y : A) (a b : ℕ) → R J y a b → starts (J a)

-- Where a rule begins so, a part before it may end.
abbrev pub Between : (Option TokenKind → Type 0) → Stops → Type 0
Between starts part_stops = (t : Option TokenKind) → starts t → part_stops t ≡ true

module _ {X A : Type 0} (part_stops stops : Stops) where
  pub leads_tok : (k : X → TokenKind) (then : X → Rule A) → ((x : X) → part_stops (Some (k x)) ≡ true) → Leads (λ x. Tok (k x) (then x)) part_stops stops
  leads_tok k then h x J y a b r st = ap part_stops r.0 ∙ h x

  pub leads_ret : (f : X → A) → Weaker stops part_stops → Leads (λ x. Ret (f x)) part_stops stops
  leads_ret f weaker x J y a b r st = weaker (J a) (ap stops (ap J (sym r.1)) ∙ st)

  pub leads_perhaps : (f : X → A) (R : X → Rule A) (starts : Option TokenKind → Type 0) → Weaker stops part_stops → ((x : X) → Begins (R x) starts) → Between starts part_stops → Leads (λ x. Perhaps (f x) (R x)) part_stops stops
  leads_perhaps f R starts weaker begins between x J y a b r st = ⊎_elim (λ e. weaker (J a) (ap stops (ap J (sym e.1)) ∙ st)) (λ e. between (J a) (begins x J y a b e)) r

-- Tokens that spell something of each of these rules, and that may follow what stands before.
pub record Fills {X A : Type 0} (then : X → Rule A) (part_stops stops : Stops) : Type 0 where
  pub tokens : List TokenKind
  pub fills : (x : X) (J : Stream) (a e : ℕ) → Stands J a tokens e → stops (J e) ≡ true → (y : A) × then x J y a e
  pub ends : (J : Stream) (a e : ℕ) → Stands J a tokens e → stops (J e) ≡ true → part_stops (J a) ≡ true

-- tokens that spell something of this rule
pub record Fill {A : Type 0} (R : Rule A) (stops : Stops) : Type 0 where
  pub tokens : List TokenKind
  pub fills : (J : Stream) (a e : ℕ) → Stands J a tokens e → stops (J e) ≡ true → (y : A) × R J y a e

module _ {X A : Type 0} {part_stops stops : Stops} where
  pub fills_ret : (f : X → A) → Weaker stops part_stops → Fills (λ x. Ret (f x)) part_stops stops
  fills_ret f weaker = record { tokens = []; fills = λ x J a e st so. (f x, (refl, st)); ends = λ J a e st so. weaker (J a) (ap stops (ap J (sym st)) ∙ so) }

  pub fills_tok : (k : TokenKind) {then : X → Rule A} {other : Stops} → part_stops (Some k) ≡ true → Fills then other stops → Fills (λ x. Tok k (then x)) part_stops stops
  fills_tok k h r = record {
    tokens = k ∷ r.tokens;
    fills = λ x J a e st so. let v = r.fills x J (a + 1) e st.1 so in (v.0, (st.0, v.1));
    ends = λ J a e st so. ap part_stops st.0 ∙ h;
  }

  pub fills_perhaps : (f : X → A) (R : X → Rule A) → Weaker stops part_stops → Fills (λ x. Perhaps (f x) (R x)) part_stops stops
  fills_perhaps f R weaker = record { tokens = []; fills = λ x J a e st so. (f x, inl (refl, st)); ends = λ J a e st so. weaker (J a) (ap stops (ap J (sym st)) ∙ so) }

module _ {A : Type 0} {stops : Stops} where
  pub fill_tok : (k : TokenKind) {R : Rule A} → Fill R stops → Fill (Tok k R) stops
  fill_tok k r = record { tokens = k ∷ r.tokens; fills = λ J a e st so. let v = r.fills J (a + 1) e st.1 so in (v.0, (st.0, v.1)) }

  pub fill_ret : (x : A) → Fill (Ret x) stops
  fill_ret x = record { tokens = []; fills = λ J a e st so. (x, (refl, st)) }

  pub fill_sub : {Y : Type 0} {R : Rule Y} {part_stops : Stops} {then : Y → Rule A} → Fill R part_stops → Fills then part_stops stops → Fill (Sub R then) stops
  fill_sub r s = record {
    tokens = r.tokens ++ s.tokens;
    fills = λ J a e st so.
        let p = split J e r.tokens s.tokens a st in
        let v = r.fills J a p.0 p.1 (s.ends J p.0 e p.2 so) in
        let w = s.fills v.0 J p.0 e p.2 so in
        (w.0, (v.0, p.0, v.1, w.1));
  }

  -- one rule is filled where another is
  pub fill_as : {B : Type 0} {R : Rule A} {S : Rule B} → ((J : Stream) (y : A) (a e : ℕ) → R J y a e → (z : B) × S J z a e) → Fill R stops → Fill S stops
  fill_as f r = record { tokens = r.tokens; fills = λ J a e st so. let v = r.fills J a e st so in f J v.0 a e v.1 }

-- what is closed for a part is closed for the whole
pub viable_more : {A B : Type 0} {R : Rule A} {S : Rule B} {s s' : Stops} {K : Stream} {at at' i : ℕ} → Weaker s' s → ((J : Stream) (e : ℕ) → Before i J K → s' (J e) ≡ true → (y : A) × R J y at e → (z : B) × S J z at' e) → Viable R s K at i → Viable S s' K at' i
viable_more weaker f v = record { closing = v.closing; closes = λ J e same st so. f J e same so (v.closes J e same st (weaker (J e) so)) }

pub alike : (s : Stops) → Weaker s s
alike s t e = e

module _ {A : Type 0} (stops : Stops) (K : Stream) where
  pub ret : (x : A) (at : ℕ) → Exact (Ret x) stops K at x at
  ret x at = record { after = le_refl at; inside = inside_none _ at; spelled = λ J same so. (refl, refl); only = λ J y b same r st. r }

  pub tok_ok : {R : Rule A} {k : TokenKind} {at n : ℕ} {x : A} → K at ≡ Some k → Exact R stops K (at + 1) x n → Exact (Tok k R) stops K at x n
  tok_ok {R} {k} {at} {n} {x} h e = record {
    after = (let a = e.after in omega arith);
    inside = inside_more K k at n h e.inside;
    spelled = λ J same so. let a = e.after in (same at (omega arith) ∙ h, e.spelled J same so);
    only = λ J y b same r st. e.only J y b same r.1 st;
  }

  pub tok_fails : {R : Rule A} {k : TokenKind} {at i : ℕ} → K at ≡ Some k → Refused R stops K (at + 1) i → Refused (Tok k R) stops K at i
  tok_fails {R} {k} {at} {i} h f = record {
    from = (let a = f.from in omega arith);
    inside = inside_more K k at i h f.inside;
    never = λ J y b same r st. f.never J y b same r.1 st;
    viable = viable_more (alike stops) (λ J e same so v. let a = f.from in (v.0, (same at (omega arith) ∙ h, v.1))) f.viable;
  }

  pub tok_bad : {R : Rule A} {k : TokenKind} {at : ℕ} → Fill R stops → (K at ≡ Some k → ⊥) → Refused (Tok k R) stops K at at
  tok_bad {R} {k} {at} fill h = record {
    from = le_refl at;
    inside = inside_none _ at;
    never = λ J y b same r st. h (sym (same at (le_refl at)) ∙ r.0);
    viable = record { closing = k ∷ fill.tokens; closes = λ J e same st so. let v = fill.fills J (at + 1) e st.1 so in (v.0, (st.0, v.1)) };
  }

  pub perhaps_none : (R : Rule A) (starts : Option TokenKind → Type 0) {at : ℕ} (x : A) → Begins R starts → (starts (K at) → ⊥) → Exact (Perhaps x R) stops K at x at
  perhaps_none R starts {at} x begins h = record {
    after = le_refl at;
    inside = inside_none _ at;
    spelled = λ J same so. inl (refl, refl);
    only = λ J y b same r st. ⊎_elim (λ e. e) (λ e. absurd (h (subst starts (same at (le_refl at)) (begins J y at b e)))) r;
  }

  pub perhaps_some : {R : Rule A} {at n : ℕ} {y : A} (x : A) → (stops (K at) ≡ true → ⊥) → Exact R stops K at y n → Exact (Perhaps x R) stops K at y n
  perhaps_some {R} {at} {n} x goes e = record {
    after = e.after;
    inside = e.inside;
    spelled = λ J same so. inr (e.spelled J same so);
    only = λ J y b same r st.
        ⊎_elim (λ z. absurd (goes (ap stops (sym (same at e.after)) ∙ ap stops (ap J (sym z.1)) ∙ st))) (λ z. e.only J y b same z st) r;
  }

  pub perhaps_fails : {R : Rule A} {at i : ℕ} (x : A) → (stops (K at) ≡ true → ⊥) → Refused R stops K at i → Refused (Perhaps x R) stops K at i
  perhaps_fails {R} {at} {i} x goes f = record {
    from = f.from;
    inside = f.inside;
    never = λ J y b same r st.
        ⊎_elim (λ z. goes (ap stops (sym (same at f.from)) ∙ ap stops (ap J (sym z.1)) ∙ st)) (λ z. f.never J y b same z st) r;
    viable = viable_more (alike stops) (λ J e same so v. (v.0, inr v.1)) f.viable;
  }

module _ {X A : Type 0} {part_stops stops : Stops} {R : Rule X} {then : X → Rule A} (K : Stream) (leads : Leads then part_stops stops) where
  pub sub_ok : {at m n : ℕ} {x : X} {y : A} → Exact R part_stops K at x m → Exact (then x) stops K m y n → Exact (Sub R then) stops K at y n
  sub_ok {at} {m} {n} {x} {y} e f = record {
    after = (let a = e.after in let b = f.after in omega arith);
    inside = inside_both _ at m n e.inside f.inside;
    spelled = λ J same so. let g = f.spelled J same so in (x, m, e.spelled J (before m n f.after same) (leads x J y m n g so), g);
    only = λ J z b same r st.
        let o = e.only J r.0 r.1 (shorter m n f.after same) r.2 (leads r.0 J z r.1 b r.3 st) in
        f.only J z b same (subst (λ k. then x J z k b) o.1 (subst (λ u. then u J z r.1 b) o.0 r.3)) st;
  }

  pub sub_fails : {at i : ℕ} → Fills then part_stops stops → Refused R part_stops K at i → Refused (Sub R then) stops K at i
  sub_fails {at} {i} s f = record {
    from = f.from;
    inside = f.inside;
    never = λ J y b same r st. f.never J r.0 r.1 same r.2 (leads r.0 J y r.1 b r.3 st);
    viable = record {
      closing = f.viable.closing ++ s.tokens;
      closes = λ J e same st so.
          let p = split J e f.viable.closing s.tokens i st in
          let v = f.viable.closes J p.0 same p.1 (s.ends J p.0 e p.2 so) in
          let w = s.fills v.0 J p.0 e p.2 so in
          (w.0, (v.0, p.0, v.1, w.1));
    };
  }

  pub sub_bad : {at m i : ℕ} {x : X} → Exact R part_stops K at x m → Refused (then x) stops K m i → Refused (Sub R then) stops K at i
  sub_bad {at} {m} {i} {x} e f = record {
    from = (let a = e.after in let b = f.from in omega arith);
    inside = inside_both _ at m i e.inside f.inside;
    never = λ J y b same r st.
        let o = e.only J r.0 r.1 (shorter m i f.from same) r.2 (leads r.0 J y r.1 b r.3 st) in
        f.never J y b same (subst (λ k. then x J y k b) o.1 (subst (λ z. then z J y r.1 b) o.0 r.3)) st;
    viable = viable_more (alike stops) (λ J k same so v. (v.0, (x, m, e.spelled J (before m i f.from same) (leads x J v.0 m k v.1 so), v.1))) f.viable;
  }

-- the same where less may follow
module _ {A : Type 0} {R : Rule A} {s t : Stops} {K : Stream} {at : ℕ} (weaker : Weaker t s) where
  pub stronger_ok : {n : ℕ} {x : A} → Exact R s K at x n → Exact R t K at x n
  stronger_ok {n} e = record {
    after = e.after;
    inside = e.inside;
    spelled = λ J same so. e.spelled J same (weaker (J n) so);
    only = λ J y b same r st. e.only J y b same r (weaker (J b) st);
  }

  pub stronger_fails : {i : ℕ} → Refused R s K at i → Refused R t K at i
  stronger_fails f = record {
    from = f.from;
    inside = f.inside;
    never = λ J y b same r st. f.never J y b same r (weaker (J b) st);
    viable = viable_more weaker (λ J e same so v. v) f.viable;
  }

-- What a rule is where these tokens stand.
pub record Turns {A : Type 0} (N R : Rule A) (stops : Stops) (K : Stream) (at : ℕ) : Type 0 where
  pub enter : (J : Stream) (y : A) (b : ℕ) → J at ≡ K at → N J y at b → stops (J b) ≡ true → R J y at b
  pub leave : (J : Stream) (y : A) (b : ℕ) → R J y at b → stops (J b) ≡ true → N J y at b

module _ {A : Type 0} {N R : Rule A} {stops : Stops} {K : Stream} {at : ℕ} (T : Turns N R stops K at) where
  pub turn_ok : {n : ℕ} {x : A} → Exact R stops K at x n → Exact N stops K at x n
  turn_ok {n} {x} e = record {
    after = e.after;
    inside = e.inside;
    spelled = λ J same so. T.leave J x n (e.spelled J same so) so;
    only = λ J y b same r st. e.only J y b same (T.enter J y b (same at e.after) r st) st;
  }

  pub turn_bad : {i : ℕ} → Refused R stops K at i → Refused N stops K at i
  turn_bad {i} f = record {
    from = f.from;
    inside = f.inside;
    never = λ J y b same r st. f.never J y b same (T.enter J y b (same at f.from) r st) st;
    viable = viable_more (alike stops) (λ J e same so v. (v.0, T.leave J v.0 e v.1 so)) f.viable;
  }

-- A rule by its first token: each alternative reads that token itself.
pub record IsByToken {A : Type 0} (N : Rule A) (By : Option TokenKind → Rule A) : Type 0 where
  pub enter : {J : Stream} {y : A} {a b : ℕ} → N J y a b → By (J a) J y a b
  pub leave : {J : Stream} {y : A} {a b : ℕ} (k : Option TokenKind) → By k J y a b → N J y a b

-- the alternative that the token at hand decides
pub by : {A : Type 0} {N : Rule A} {By : Option TokenKind → Rule A} → IsByToken N By → (stops : Stops) (K : Stream) {at : ℕ} (k : Option TokenKind) → K at ≡ k → Turns N (By k) stops K at
by {A} {N} {By} B stops K {at} k h = record {
  enter = λ J y b same r st. subst (λ t. By t J y at b) (same ∙ h) (B.enter r);
  leave = λ J y b r st. B.leave k r;
}

-- a rule under another name
pub as_rule : {A : Type 0} (N R : Rule A) → ((J : Stream) (y : A) (a b : ℕ) → N J y a b → R J y a b) → ((J : Stream) (y : A) (a b : ℕ) → R J y a b → N J y a b) → (stops : Stops) (K : Stream) (at : ℕ) → Turns N R stops K at
as_rule N R f g stops K at = record { enter = λ J y b same r st. f J y at b r; leave = λ J y b r st. g J y at b r }

-- No tree begins with this token.
pub refused_here : {A : Type 0} {N : Rule A} {stops : Stops} {K : Stream} {at : ℕ} (starts : Option TokenKind → Type 0) → Fill N stops → Begins N starts → (starts (K at) → ⊥) → Refused N stops K at at
refused_here {A} {N} {stops} {K} {at} starts fill begins h = record {
  from = le_refl at;
  inside = inside_none _ at;
  never = λ J y b same r st. h (subst starts (same at (le_refl at)) (begins J y at b r));
  viable = record { closing = fill.tokens; closes = λ J e same st so. fill.fills J at e st so };
}

-- a part, moved to where it is the same
pub moved : {A : Type 0} (R : A → ℕ → Type 0) {x y : A} {m b : ℕ} → (y ≡ x) × (b ≡ m) → R x m → R y b
moved R {x} {y} {m} {b} e r = subst (λ k. R y k) (sym e.1) (subst (λ z. R z m) (sym e.0) r)

-- One of two rules, of which the tokens as far as they are known rule out the other.
abbrev pub Alt : {A : Type 0} → Rule A → Rule A → Rule A
Alt R S J y a b = R J y a b ⊎ S J y a b

abbrev pub NeverTo : {A : Type 0} → ℕ → Rule A → Stops → Stream → ℕ → Type 0
NeverTo {A} n S stops K at = (J : Stream) (y : A) (b : ℕ) → Agrees n J K → S J y at b → stops (J b) ≡ true → ⊥

module _ {A : Type 0} {stops : Stops} {K : Stream} (R S : Rule A) {at : ℕ} where
  pub alt_left : {n : ℕ} {x : A} → NeverTo n S stops K at → Exact R stops K at x n → Exact (Alt R S) stops K at x n
  alt_left never e = record {
    after = e.after;
    inside = e.inside;
    spelled = λ J same so. inl (e.spelled J same so);
    only = λ J y b same r st. ⊎_elim (λ z. e.only J y b same z st) (λ z. absurd (never J y b same z st)) r;
  }

  pub alt_right : {n : ℕ} {x : A} → NeverTo n R stops K at → Exact S stops K at x n → Exact (Alt R S) stops K at x n
  alt_right never e = record {
    after = e.after;
    inside = e.inside;
    spelled = λ J same so. inr (e.spelled J same so);
    only = λ J y b same r st. ⊎_elim (λ z. absurd (never J y b same z st)) (λ z. e.only J y b same z st) r;
  }

  pub alt_left_bad : {i : ℕ} → NeverTo i S stops K at → Refused R stops K at i → Refused (Alt R S) stops K at i
  alt_left_bad never f = record {
    from = f.from;
    inside = f.inside;
    never = λ J y b same r st. ⊎_elim (λ z. f.never J y b same z st) (λ z. never J y b same z st) r;
    viable = viable_more (alike stops) (λ J e same so v. (v.0, inl v.1)) f.viable;
  }

  pub alt_right_bad : {i : ℕ} → NeverTo i R stops K at → Refused S stops K at i → Refused (Alt R S) stops K at i
  alt_right_bad never f = record {
    from = f.from;
    inside = f.inside;
    never = λ J y b same r st. ⊎_elim (λ z. never J y b same z st) (λ z. f.never J y b same z st) r;
    viable = viable_more (alike stops) (λ J e same so v. (v.0, inr v.1)) f.viable;
  }

-- a rule that begins otherwise
pub never_first : {A : Type 0} {R : Rule A} (stops : Stops) {K : Stream} {at n : ℕ} (starts : Option TokenKind → Type 0) → Begins R starts → (starts (K at) → ⊥) → at ≤ n → NeverTo n R stops K at
never_first {A} {R} stops {K} {at} starts begins h le J y b same r st = h (subst starts (same at le) (begins J y at b r))

-- A loop has read from at up to n: a text has M from at on just where it has N from n on, and w is what was read, around it.
pub record Tail {A B : Type 0} (M : Rule B) (N : Rule A) (stops : Stops) (K : Stream) (at : ℕ) (w : A → B) (n : ℕ) : Type 0 where
  pub after : at ≤ n
  pub inside : Inside K at n
  pub whole : (J : Stream) → Before n J K → (z : A) (b : ℕ) → N J z n b → stops (J b) ≡ true → M J (w z) at b
  pub only : (J : Stream) (y : B) (b : ℕ) → Agrees n J K → M J y at b → stops (J b) ≡ true → (z : A) × N J z n b × (y ≡ w z)

pub tail_start : {A : Type 0} (N : Rule A) (stops : Stops) (K : Stream) (at : ℕ) → Tail N N stops K at (λ z. z) at
tail_start N stops K at = record { after = le_refl at; inside = inside_none _ at; whole = λ J same z b r so. r; only = λ J y b same r st. (y, r, refl) }

-- the same, around another spelling of what was read
pub tail_as : {A B : Type 0} {M : Rule B} {N : Rule A} {stops : Stops} {K : Stream} {at n : ℕ} (w v : A → B) → ((z : A) → w z ≡ v z) → Tail M N stops K at w n → Tail M N stops K at v n
tail_as {A} {B} {M} {at = at} w v e g = record {
  after = g.after;
  inside = g.inside;
  whole = λ J same z b r so. subst (λ u. M J u at b) (e z) (g.whole J same z b r so);
  only = λ J y b same r st. let q = g.only J y b same r st in (q.0, q.1, q.2 ∙ e q.0);
}

module _ {A B : Type 0} {M : Rule B} {N : Rule A} {stops : Stops} {K : Stream} {at : ℕ} (w : A → B) {n : ℕ} (g : Tail M N stops K at w n) where
  pub tail_end : {x : A} {m : ℕ} → Exact N stops K n x m → Exact M stops K at (w x) m
  tail_end {x} {m} e = record {
    after = (let a = g.after in let b = e.after in omega arith);
    inside = inside_both _ at n m g.inside e.inside;
    spelled = λ J same so. g.whole J (before n m e.after same) x m (e.spelled J same so) so;
    only = λ J y b same r st.
        let q = g.only J y b (shorter n m e.after same) r st in
        let o = e.only J q.0 b same q.1 st in
        (q.2 ∙ ap w o.0, o.1);
  }

  pub tail_fails : {i : ℕ} → Refused N stops K n i → Refused M stops K at i
  tail_fails {i} f = record {
    from = (let a = g.after in let b = f.from in omega arith);
    inside = inside_both _ at n i g.inside f.inside;
    never = λ J y b same r st. let q = g.only J y b (shorter n i f.from same) r st in f.never J q.0 b same q.1 st;
    viable = viable_more (alike stops) (λ J e same so v. (w v.0, g.whole J (before n i f.from same) v.0 e v.1 so)) f.viable;
  }

  -- one loop behind another
  pub tail_both : {C : Type 0} {O : Rule C} {v : C → A} {m : ℕ} → Tail N O stops K n v m → Tail M O stops K at (λ z. w (v z)) m
  tail_both {C} {O} {v} {m} h = record {
    after = (let a = g.after in let b = h.after in omega arith);
    inside = inside_both _ at n m g.inside h.inside;
    whole = λ J same z b r so. g.whole J (before n m h.after same) (v z) b (h.whole J same z b r so) so;
    only = λ J y b same r st.
        let q = g.only J y b (shorter n m h.after same) r st in
        let p = h.only J q.0 b same q.1 st in
        (p.0, p.1, q.2 ∙ ap w p.2);
  }

-- A part that was read, and what goes on behind it.
pub tail_sub : {X A : Type 0} {R : Rule X} {then : X → Rule A} {part_stops stops : Stops} {K : Stream} {at n : ℕ} {x : X} → Leads then part_stops stops → Exact R part_stops K at x n → Tail (Sub R then) (then x) stops K at (λ z. z) n
tail_sub {X} {A} {R} {then} {part_stops} {stops} {K} {at} {n} {x} leads e = record {
  after = e.after;
  inside = e.inside;
  whole = λ J same z b r so. (x, n, e.spelled J same (leads x J z n b r so), r);
  only = λ J y b same r st.
      let o = e.only J r.0 r.1 same r.2 (leads r.0 J y r.1 b r.3 st) in
      (y, subst (λ k. then x J y k b) o.1 (subst (λ u. then u J y r.1 b) o.0 r.3), refl);
}

-- a refusal that is passed on
pub passed : {A B : Type 0} {R : Rule A} {N : Rule B} {s s' : Stops} {K : Stream} {at at' : ℕ} (e : Refusal) → Fails R s K at e → ((i : ℕ) → Refused R s K at i → Refused N s' K at' i) → Fails N s' K at' e
passed Memory f g = tt
passed (Fault i) f g = g i f
