-- Lists of parts, as loops read them: parts behind one another, or with a sign between each two.
use Rattle.std.proofs.Common.{◌≡◌, ℕ, ◌+◌, ◌≤◌, true, List, [], ◌∷◌, ◌++◌, ◌⊎◌, ⊎_elim, refl, sym, ap, ◌∙◌, subst, arith, le_refl, append_assoc, append-nil, Option, Some}
use Rattle.model_syntax.specs.declared.token.TokenKind.{TokenKind}
use Rattle.model_syntax.specs.Stream.{Stream}
use Rattle.groovy_expr.specs.Answers.{Rule, Stops, Exact, Refused}
use Rattle.groovy_expr.proofs.Calculus.{shorter, before, inside_none, inside_both, inside_more, Begins, Between, Weaker, viable_more, Tail, tail_both, tail_as, tail_end, tail_fails, tail_sub, Sub, sub_fails, Turns}
use Rattle.groovy_expr.proofs.Steps.{Map, Joins, step_turn, step_map}

-- one more element is read
pub tail_push : {A B : Type 0} {M : Rule B} {N : Rule (List A)} {stops : Stops} {K : Stream} {at n m : ℕ} (f : List A → B) (done : List A) (x : A) → Tail M N stops K at (λ z. f (done ++ z)) n → Tail N N stops K n (λ z. x ∷ z) m → Tail M N stops K at (λ z. f ((done ++ x ∷ []) ++ z)) m
tail_push f done x g h = tail_as _ _ (λ z. ap f (sym (append_assoc done (x ∷ []) z))) (tail_both (λ z. f (done ++ z)) g h)

-- nothing more is read
pub tail_done : {A B : Type 0} {M : Rule B} {N : Rule (List A)} {stops : Stops} {K : Stream} {at n m : ℕ} (f : List A → B) (done : List A) → Tail M N stops K at (λ z. f (done ++ z)) n → Exact N stops K n [] m → Exact M stops K at (f done) m
tail_done {M = M} {stops = stops} {K = K} {at = at} {m = m} f done g e = subst (λ y. Exact M stops K at y m) (ap f (append-nil done)) (tail_end (λ z. f (done ++ z)) g e)

-- no part, or a part and then such a list
pub record IsMany {A : Type 0} (Part : Rule A) (N : Rule (List A)) (starts : Option TokenKind → Type 0) (part_stops stops : Stops) : Type 0 where
  pub none : (J : Stream) (a : ℕ) → N J [] a a
  pub more : (J : Stream) (x : A) (xs : List A) (a m b : ℕ) → Part J x a m → N J xs m b → N J (x ∷ xs) a b
  pub cases : (J : Stream) (ys : List A) (a b : ℕ) → N J ys a b → ((ys ≡ []) × (b ≡ a)) ⊎ ((x : A) × (xs : List A) × (m : ℕ) × (ys ≡ x ∷ xs) × Part J x a m × N J xs m b)
  pub begins : Begins Part starts
  pub never : (t : Option TokenKind) → starts t → stops t ≡ true → ⊥
  pub weaker : Weaker stops part_stops
  pub between : Between starts part_stops

module _ {A : Type 0} {Part : Rule A} {N : Rule (List A)} {starts : Option TokenKind → Type 0} {part_stops stops : Stops} (L : IsMany Part N starts part_stops stops) where
  pub many_leads : (J : Stream) (xs : List A) (m b : ℕ) → N J xs m b → stops (J b) ≡ true → part_stops (J m) ≡ true
  many_leads J xs m b r st = ⊎_elim (λ e. L.weaker (J m) (ap stops (ap J (sym e.1)) ∙ st)) (λ q. L.between (J m) (L.begins J q.0 m q.2 q.4)) (L.cases J xs m b r)

module _ {A : Type 0} {Part : Rule A} {N : Rule (List A)} {starts : Option TokenKind → Type 0} {part_stops stops : Stops} (L : IsMany Part N starts part_stops stops) (K : Stream) {n : ℕ} where
  pub many_end : (starts (K n) → ⊥) → Exact N stops K n [] n
  many_end h = record {
    after = le_refl n;
    inside = inside_none K n;
    spelled = λ J same so. L.none J n;
    only = λ J y b same r st. ⊎_elim (λ e. e) (λ q. absurd (h (subst starts (same n (le_refl n)) (L.begins J q.0 n q.2 q.4)))) (L.cases J y n b r);
  }

  pub many_step : {x : A} {m : ℕ} → starts (K n) → Exact Part part_stops K n x m → Tail N N stops K n (λ z. x ∷ z) m
  many_step {x} {m} h e = record {
    after = e.after;
    inside = e.inside;
    whole = λ J same z b r so. L.more J x z n m b (e.spelled J same (many_leads L J z m b r so)) r;
    only = λ J y b same r st. ⊎_elim
        (λ q. absurd (L.never (K n) h (ap stops (sym (same n e.after)) ∙ ap stops (ap J (sym q.1)) ∙ st)))
        (λ q.
        let o = e.only J q.0 q.2 same q.4 (many_leads L J q.1 q.2 b q.5 st) in
        (q.1, subst (λ k. N J q.1 k b) o.1 q.5, q.3 ∙ ap (λ u. u ∷ q.1) o.0))
        (L.cases J y n b r);
  }

  pub many_fails : {i : ℕ} → starts (K n) → Refused Part part_stops K n i → Refused N stops K n i
  many_fails {i} h f = record {
    from = f.from;
    inside = f.inside;
    never = λ J y b same r st. ⊎_elim
        (λ q. L.never (K n) h (ap stops (sym (same n f.from)) ∙ ap stops (ap J (sym q.1)) ∙ st))
        (λ q. f.never J q.0 q.2 same q.4 (many_leads L J q.1 q.2 b q.5 st))
        (L.cases J y n b r);
    viable = viable_more L.weaker (λ J e same so v. (v.0 ∷ [], L.more J v.0 [] n e e v.1 (L.none J e))) f.viable;
  }

-- a list read from its start: no part yet, one more, and no more
module _ {A : Type 0} {Part : Rule A} {N : Rule (List A)} {starts : Option TokenKind → Type 0} {part_stops stops : Stops} (L : IsMany Part N starts part_stops stops) (K : Stream) {B : Type 0} {M : Rule B} (f : List A → B) {at n : ℕ} (done : List A) (g : Tail M N stops K at (λ z. f (done ++ z)) n) where
  pub more_read : {x : A} {m : ℕ} → starts (K n) → Exact Part part_stops K n x m → Tail M N stops K at (λ z. f ((done ++ x ∷ []) ++ z)) m
  more_read {x} h e = tail_push f done x g (many_step L K h e)

  pub more_fails : {i : ℕ} → starts (K n) → Refused Part part_stops K n i → Refused M stops K at i
  more_fails h r = tail_fails (λ z. f (done ++ z)) g (many_fails L K h r)

  pub all_read : (starts (K n) → ⊥) → Exact M stops K at (f done) n
  all_read h = tail_done f done g (many_end L K h)

-- what goes on behind a first part: such a list
pub joins_many : {X A B : Type 0} {Part : Rule A} {N : Rule (List A)} {starts : Option TokenKind → Type 0} {part_stops first_stops stops : Stops} → IsMany Part N starts part_stops stops → (f : X → List A → B) → Weaker stops first_stops → Between starts first_stops → Joins (λ x. Map (f x) N) first_stops stops
joins_many {N = N} {first_stops = first_stops} {stops = stops} L f weaker between = record {
  leads = λ x J y a b r st. ⊎_elim (λ e. weaker (J a) (ap stops (ap J (sym e.1)) ∙ st)) (λ q. between (J a) (L.begins J q.0 a q.2 q.4)) (L.cases J r.0 a b r.1);
  fills = record {
    tokens = [];
    fills = λ x J a e st so. (f x [], ([], subst (λ k. N J [] a k) (sym st) (L.none J a), refl));
    ends = λ J a e st so. weaker (J a) (ap stops (ap J (sym st)) ∙ so);
  };
}

-- a first part, and then such a list
module _ {X A B : Type 0} {First : Rule X} {N : Rule (List A)} {M : Rule B} {first_stops stops : Stops} (f : X → List A → B) (join : Joins (λ x. Map (f x) N) first_stops stops) (K : Stream) {at : ℕ} (T : Turns M (Sub First (λ x. Map (f x) N)) stops K at) where
  pub first_read : {x : X} {n : ℕ} → Exact First first_stops K at x n → Tail M N stops K at (λ z. f x ([] ++ z)) n
  first_read {x} e = tail_both (λ z. z) (tail_both (λ z. z) (step_turn T) (tail_sub join.leads e)) (step_map (f x) N)

  pub first_fails : {i : ℕ} → Refused First first_stops K at i → Refused M stops K at i
  first_fails r = tail_fails (λ z. z) (step_turn T) (sub_fails K join.leads join.fills r)

-- an item, or an item, a sign and then such a list
pub record IsSeparated {A : Type 0} (Item : Rule A) (N : Rule (List A)) (sign : TokenKind) (item_stops stops : Stops) : Type 0 where
  pub last : (J : Stream) (x : A) (a b : ℕ) → Item J x a b → N J (x ∷ []) a b
  pub more : (J : Stream) (x : A) (xs : List A) (a m b : ℕ) → Item J x a m → J m ≡ Some sign → N J xs (m + 1) b → N J (x ∷ xs) a b
  pub cases : (J : Stream) (ys : List A) (a b : ℕ) → N J ys a b → (x : A) × (m : ℕ) × Item J x a m × (((ys ≡ x ∷ []) × (b ≡ m)) ⊎ ((xs : List A) × (ys ≡ x ∷ xs) × (J m ≡ Some sign) × N J xs (m + 1) b))
  pub weaker : Weaker stops item_stops
  pub between : item_stops (Some sign) ≡ true
  pub never : stops (Some sign) ≡ true → ⊥

module _ {A : Type 0} {Item : Rule A} {N : Rule (List A)} {sign : TokenKind} {item_stops stops : Stops} (L : IsSeparated Item N sign item_stops stops) where
  item_ends : (J : Stream) (x : A) (ys : List A) (m b : ℕ) → (((ys ≡ x ∷ []) × (b ≡ m)) ⊎ ((xs : List A) × (ys ≡ x ∷ xs) × (J m ≡ Some sign) × N J xs (m + 1) b)) → stops (J b) ≡ true → item_stops (J m) ≡ true
  item_ends J x ys m b r st = ⊎_elim (λ e. L.weaker (J m) (ap stops (ap J (sym e.1)) ∙ st)) (λ q. ap item_stops q.2 ∙ L.between) r

module _ {A : Type 0} {Item : Rule A} {N : Rule (List A)} {sign : TokenKind} {item_stops stops : Stops} (L : IsSeparated Item N sign item_stops stops) (K : Stream) {n : ℕ} where
  pub last_item : {x : A} {m : ℕ} → Exact Item item_stops K n x m → (K m ≡ Some sign → ⊥) → Exact N stops K n (x ∷ []) m
  last_item {x} {m} e h = record {
    after = e.after;
    inside = e.inside;
    spelled = λ J same so. L.last J x n m (e.spelled J same (L.weaker (J m) so));
    only = λ J y b same r st.
        let p = L.cases J y n b r in
        let o = e.only J p.0 p.1 same p.2 (item_ends L J p.0 y p.1 b p.3 st) in
        ⊎_elim
        (λ q. (q.0 ∙ ap (λ u. u ∷ []) o.0, q.1 ∙ o.1))
        (λ q. absurd (h (sym (same m (le_refl m)) ∙ ap J (sym o.1) ∙ q.2)))
        p.3;
  }

  pub next_item : {x : A} {m : ℕ} → Exact Item item_stops K n x m → K m ≡ Some sign → Tail N N stops K n (λ z. x ∷ z) (m + 1)
  next_item {x} {m} e h = record {
    after = (let a = e.after in omega arith);
    inside = inside_both K n m (m + 1) e.inside (inside_more K sign m (m + 1) h (inside_none K (m + 1)));
    whole = λ J same z b r so. let here : J m ≡ Some sign = same m (omega arith) ∙ h in L.more J x z n m b (e.spelled J (before m (m + 1) (omega arith) same) (ap item_stops here ∙ L.between)) here r;
    only = λ J y b same r st.
        let p = L.cases J y n b r in
        let le : m ≤ m + 1 = omega arith in
        let o = e.only J p.0 p.1 (shorter m (m + 1) le same) p.2 (item_ends L J p.0 y p.1 b p.3 st) in
        ⊎_elim
        (λ q. absurd (L.never (ap stops (sym (same m le ∙ h)) ∙ ap stops (ap J (sym (q.1 ∙ o.1))) ∙ st)))
        (λ q. (q.0, subst (λ k. N J q.0 (k + 1) b) o.1 q.3, q.1 ∙ ap (λ u. u ∷ q.0) o.0))
        p.3;
  }

  pub item_fails : {i : ℕ} → Refused Item item_stops K n i → Refused N stops K n i
  item_fails {i} f = record {
    from = f.from;
    inside = f.inside;
    never = λ J y b same r st. let p = L.cases J y n b r in f.never J p.0 p.1 same p.2 (item_ends L J p.0 y p.1 b p.3 st);
    viable = viable_more L.weaker (λ J e same so v. (v.0 ∷ [], L.last J v.0 n e v.1)) f.viable;
  }
