-- The first bad token of a text is where its fault is: what a rule of the grammar reads hangs on the tokens up to the first one
-- that it leaves, and where a rule stops, some more tokens would have served it.
use Rattle.std.proofs.Common.{◌≡◌, ◌∙◌, ◌⊎◌, ℕ, zero, suc, ◌-◌, ◌≤◌, List, [], ◌∷◌, ◌++◌, length, length-append, append_assoc, refl, sym, ap, subst, arith, inl, inr}
use Rattle.std.proofs.lemmas.List.{append-nil}
use Rattle.label_expr.specs.declared.refusal.LabelRefusal.{LabelRefusal}
use Rattle.label_expr.specs.declared.refusal.LabelRefusal.TheVariants.{Memory, Fault}
use Rattle.label_expr.specs.FirstBad.{AreLabel, BeginLabel, IsFirstBad, TellsFirstBad}
use Rattle.label_expr.specs.Readings.{BeginsWith, IsRefusal}
use Rattle.label_expr.proofs.GrammarLaws.{more_negations_none, more_conjunctions_none, level_none, behind_implies_none, behind_iff_none}
use Rattle.model_run.specs.LabelTokens.{Token, Name, NotSign, AndSign, OrSign, ImpliesSign, IffSign, OpenParen, CloseParen, Spot, spot, spots_of}
use Rattle.model_run.specs.Labels.{Formula, Named, Not, And, Or, Implies, Iff, Reading, Read, Stops, and_then, negation, more_negations, conjunction, more_conjunctions, disjunction, behind_implies, behind_iff, behind_disjunction, level, closed, level_within, whole, expression, FaultAt}

-- an end, or a parenthesis that closes: no rule goes on there
abbrev Ends : List Spot → Type 0
Ends us = (us ≡ []) ⊎ BeginsWith CloseParen us

abbrev SameFirst : List Spot → List Spot → Type 0
SameFirst [] us = ⊥
SameFirst (s ∷ rest) us = (u : List Spot) × (us ≡ s ∷ u)

-- behind these tokens a rule stops as it did behind those
abbrev Alike : List Spot → List Spot → Type 0
Alike rest us = Ends us ⊎ SameFirst rest us

alike_front : (b rest us : List Spot) → Alike rest us → Alike (b ++ rest) (b ++ us)
alike_front [] rest us alike = alike
alike_front (s ∷ b) rest us alike = inr (b ++ us, refl)

no_end : (token : Token) → (token ≡ CloseParen → ⊥) → (us : List Spot) → Ends us → BeginsWith token us → ⊥
no_end token unclosed us (inl none) begins = subst (BeginsWith token) none begins
no_end token unclosed [] (inr close) begins = begins
no_end token unclosed (spot t at ∷ us) (inr close) begins = unclosed (sym begins ∙ close)

no_more : (token : Token) → (token ≡ CloseParen → ⊥) → (ts : List Spot) → (BeginsWith token ts → ⊥) → (us : List Spot) → Alike ts us → BeginsWith token us → ⊥
no_more token unclosed ts without us (inl ends) begins = no_end token unclosed us ends begins
no_more token unclosed [] without us (inr same) begins = same
no_more token unclosed (spot t at ∷ ts) without us (inr same) begins = without (subst (BeginsWith token) same.1 begins)

-- the name `a`, which serves where a rule asks for an operand
abbrev a_name : List Spot
a_name = spot (Name (97 ∷ [])) 0 ∷ []

-- enough for so many tokens
abbrev Index : Type 0
Index = ℕ × ℕ

abbrev Enough : Index → ℕ → Type 0
Enough i l = (l ≤ i.0) × (l ≤ i.1)

abbrev Rule : Type 0
Rule = Index → List Spot → Reading

behind_enough : (i : Index) (b us : List Spot) → Enough i (length (b ++ us)) → Enough i (length us)
behind_enough i b us (first, second) = let size = length-append b us in (omega (arith, size, first), omega (arith, size, second))

less_enough : (i : Index) (l : ℕ) → Enough i (suc l) → Enough i l
less_enough i l (first, second) = (omega (arith, first), omega (arith, second))

same_enough : (i : Index) (us vs : List Spot) → us ≡ vs → Enough i (length us) → Enough i (length vs)
same_enough i us vs same enough = subst (λ (l : List Spot). Enough i (length l)) same enough

within : (ts b rest : List Spot) → ts ≡ b ++ rest → length rest ≤ length ts
within ts b rest at = let size = ap length at in let parts = length-append b rest in omega (arith, size, parts)

abbrev Going : Rule → List Spot → List Spot → Formula → Type 0
Going R before rest f = (i : Index) (us : List Spot) → Enough i (length (before ++ us)) → Alike rest us → R i (before ++ us) ≡ Read f us

abbrev Halting : Rule → List Spot → List Spot → Type 0
Halting R before [] = Unit {0}
Halting R before (s ∷ rest) = (i : Index) (u : List Spot) → Enough i (length (before ++ s ∷ u)) → R i (before ++ s ∷ u) ≡ Stops (s ∷ u)

abbrev Serving : Rule → List Spot → Type 0
Serving R before = (more : List Spot) × (g : Formula) × ((i : Index) (us : List Spot) → Enough i (length (before ++ (more ++ us))) → Ends us → R i (before ++ (more ++ us)) ≡ Read g us)

-- what a rule says of tokens, and so of others that begin as they do
abbrev Fine : Rule → List Spot → Reading → Type 0
Fine R ts (Read f rest) = (before : List Spot) × (ts ≡ before ++ rest) × Going R before rest f
Fine R ts (Stops rest) = (before : List Spot) × (ts ≡ before ++ rest) × Halting R before rest × Serving R before

-- where it never stops at its first token
abbrev Later : Rule → List Spot → Reading → Type 0
Later R ts (Read f rest) = (before : List Spot) × (ts ≡ before ++ rest) × Going R before rest f
Later R ts (Stops rest) = (first : Spot) × (before : List Spot) × (ts ≡ first ∷ (before ++ rest)) × Halting R (first ∷ before) rest × Serving R (first ∷ before)

fine_later : (R : Rule) (ts : List Spot) (r : Reading) → Later R ts r → Fine R ts r
fine_later R ts (Read f rest) fine = fine
fine_later R ts (Stops rest) fine = (fine.0 ∷ fine.1, fine.2, fine.3, fine.4)

-- nothing is read
stays : (R : Rule) (h : Formula) (ts : List Spot) → ((i : Index) (us : List Spot) → Alike ts us → R i us ≡ Read h us) → Later R ts (Read h ts)
stays R h ts same = ([], refl, λ i us enough alike. same i us alike)

-- a rule at other fuel
module _ (k : Index → Index) (fits : (i : Index) (l : ℕ) → Enough i l → Enough (k i) l) (R : Rule) where
  halting_at : (before rest : List Spot) → Halting R before rest → Halting (λ i. R (k i)) before rest
  halting_at before [] halting = tt
  halting_at before (s ∷ rest) halting = λ i u enough. halting (k i) u (fits i (length (before ++ s ∷ u)) enough)

  fine_at : (ts : List Spot) (r : Reading) → Fine R ts r → Fine (λ i. R (k i)) ts r
  fine_at ts (Read f rest) fine = (fine.0, fine.1, λ i us enough alike. fine.2 (k i) us (fits i (length (fine.0 ++ us)) enough) alike)
  fine_at ts (Stops rest) fine = (
    fine.0,
    fine.1,
    halting_at fine.0 rest fine.2,
    (fine.3.0, fine.3.1, λ i us enough ends. fine.3.2 (k i) us (fits i (length (fine.0 ++ (fine.3.0 ++ us))) enough) ends),
  )

-- a rule behind one token
module _ (R R2 : Rule) (k : Index → Index) (s : Spot) (on : (i : Index) (us : List Spot) → Enough i (suc (length us)) → R i (s ∷ us) ≡ R2 (k i) us) (less : (i : Index) (l : ℕ) → Enough i (suc l) → Enough (k i) l) where
  halting_behind : (before rest : List Spot) → Halting R2 before rest → Halting R (s ∷ before) rest
  halting_behind before [] halting = tt
  halting_behind before (t ∷ rest) halting = λ i u enough. on i (before ++ t ∷ u) enough ∙ halting (k i) u (less i (length (before ++ t ∷ u)) enough)

  later_behind : (ts : List Spot) (r : Reading) → Fine R2 ts r → Later R (s ∷ ts) r
  later_behind ts (Read f rest) fine = (s ∷ fine.0, ap (λ l. s ∷ l) fine.1, λ i us enough alike. on i (fine.0 ++ us) enough ∙ fine.2 (k i) us (less i (length (fine.0 ++ us)) enough) alike)
  later_behind ts (Stops rest) fine = (
    s,
    fine.0,
    ap (λ l. s ∷ l) fine.1,
    halting_behind fine.0 rest fine.2,
    (fine.3.0, fine.3.1, λ i us enough ends. on i (fine.0 ++ (fine.3.0 ++ us)) enough ∙ fine.3.2 (k i) us (less i (length (fine.0 ++ (fine.3.0 ++ us))) enough) ends),
  )

-- one rule behind the other
module _ (P : Rule) (Q : Formula → Rule) (over : (f : Formula) → (h : Formula) × ((i : Index) (us : List Spot) → Ends us → Q f i us ≡ Read h us)) where
  abbrev Both : Rule
  Both i us = and_then (P i us) (λ f. Q f i)

  module _ (f : Formula) (ts b rest : List Spot) (at : ts ≡ b ++ rest) (going : Going P b rest f) where
    step : (mid us : List Spot) (i : Index) → Enough i (length ((b ++ mid) ++ us)) → Alike rest (mid ++ us) → Both i ((b ++ mid) ++ us) ≡ Q f i (mid ++ us)
    step mid us i enough alike =
        ap (Both i) (append_assoc b mid us)
        ∙ ap (λ (r : Reading). and_then r (λ h. Q h i)) (going i (mid ++ us) (same_enough i _ _ (append_assoc b mid us) enough) alike)

    there : (mid us : List Spot) (i : Index) → Enough i (length ((b ++ mid) ++ us)) → Enough i (length (mid ++ us))
    there mid us i enough = behind_enough i b (mid ++ us) (same_enough i _ _ (append_assoc b mid us) enough)

    begun : (first : Spot) (mid us then : List Spot) → rest ≡ first ∷ (mid ++ then) → Alike rest ((first ∷ mid) ++ us)
    begun first mid us then is = inr (subst (λ (l : List Spot). SameFirst l (first ∷ (mid ++ us))) (sym is) (mid ++ us, refl))

    halting_both : (first : Spot) (mid then : List Spot) → rest ≡ first ∷ (mid ++ then) → Halting (Q f) (first ∷ mid) then → Halting Both (b ++ first ∷ mid) then
    halting_both first mid [] is halting = tt
    halting_both first mid (s ∷ then) is halting = λ i u enough. step (first ∷ mid) (s ∷ u) i enough (begun first mid (s ∷ u) (s ∷ then) is) ∙ halting i u (there (first ∷ mid) (s ∷ u) i enough)

    behind_read : (r : Reading) → Later (Q f) rest r → Fine Both ts r
    behind_read (Read g then) fine = (
      b ++ fine.0,
      at ∙ ap (λ l. b ++ l) fine.1 ∙ sym (append_assoc b fine.0 then),
      λ i us enough alike.
          step fine.0 us i enough (subst (λ (l : List Spot). Alike l (fine.0 ++ us)) (sym fine.1) (alike_front fine.0 then us alike))
          ∙ fine.2 i us (there fine.0 us i enough) alike,
    )
    behind_read (Stops then) fine = (
      b ++ fine.0 ∷ fine.1,
      at ∙ ap (λ l. b ++ l) fine.2 ∙ sym (append_assoc b (fine.0 ∷ fine.1) then),
      halting_both fine.0 fine.1 then fine.2 fine.3,
      (
        fine.4.0,
        fine.4.1,
        λ i us enough ends.
            step (fine.0 ∷ fine.1) (fine.4.0 ++ us) i enough (begun fine.0 fine.1 (fine.4.0 ++ us) then fine.2)
            ∙ fine.4.2 i us (there (fine.0 ∷ fine.1) (fine.4.0 ++ us) i enough) ends,
      ),
    )

  halting_first : (b rest : List Spot) → Halting P b rest → Halting Both b rest
  halting_first b [] halting = tt
  halting_first b (s ∷ rest) halting = λ i u enough. ap (λ (r : Reading). and_then r (λ h. Q h i)) (halting i u enough)

  both : (ts : List Spot) (r : Reading) (q : Formula → List Spot → Reading) → Fine P ts r
      → ((f : Formula) (rest : List Spot) → length rest ≤ length ts → Later (Q f) rest (q f rest)) → Fine Both ts (and_then r q)
  both ts (Read f rest) q fine next = behind_read f ts fine.0 rest fine.1 fine.2 (q f rest) (next f rest (within ts fine.0 rest fine.1))
  both ts (Stops rest) q fine next =
      let end = over fine.3.1 in (
        fine.0,
        fine.1,
        halting_first fine.0 rest fine.2,
        (fine.3.0, end.0, λ i us enough ends. ap (λ (r : Reading). and_then r (λ h. Q h i)) (fine.3.2 i us enough ends) ∙ end.1 i us ends),
      )

-- operands with one sign between them
module _ (part : ℕ → List Spot → Reading) (part_fine : (n : ℕ) (ts : List Spot) → length ts ≤ n → Fine (λ i. part i.0) ts (part n ts))
    (more : ℕ → ℕ → Formula → List Spot → Reading) (token : Token) (sign : Formula → Formula → Formula) (unclosed : token ≡ CloseParen → ⊥)
    (is : (t : Token) → (t ≡ token) ⊎ (t ≡ token → ⊥))
    (on : (n m at : ℕ) (f : Formula) (rest : List Spot) → more n (suc m) f (spot token at ∷ rest) ≡ and_then (part n rest) (λ g. more n m (sign f g)))
    (off : (n m : ℕ) (f : Formula) (rest : List Spot) → (BeginsWith token rest → ⊥) → more n m f rest ≡ Read f rest) where
  abbrev More : Formula → Rule
  More f i us = more i.0 i.1 f us

  more_over : (f : Formula) → (h : Formula) × ((i : Index) (us : List Spot) → Ends us → More f i us ≡ Read h us)
  more_over f = (f, λ i us ends. off i.0 i.1 f us (no_end token unclosed us ends))

  none_fine : (m n : ℕ) (f : Formula) (ts : List Spot) → (BeginsWith token ts → ⊥) → Later (More f) ts (more n m f ts)
  none_fine m n f ts without =
      subst (Later (More f) ts) (sym (off n m f ts without))
      (stays (More f) f ts (λ i us alike. off i.0 i.1 f us (no_more token unclosed ts without us alike)))

  abbrev lower : Index → Index
  lower i = (i.0, i.1 - 1)

  on_lower : (f : Formula) (at : ℕ) (i : Index) (us : List Spot) → Enough i (suc (length us)) → More f i (spot token at ∷ us) ≡ and_then (part i.0 us) (λ g. More (sign f g) (lower i))
  on_lower f at i us (first, second) =
      let one : i.1 ≡ suc (i.1 - 1) = omega (arith, second) in
      ap (λ m. more i.0 m f (spot token at ∷ us)) one ∙ on i.0 (i.1 - 1) at f us

  lower_enough : (i : Index) (l : ℕ) → Enough i (suc l) → Enough (lower i) l
  lower_enough i l (first, second) = (omega (arith, first), omega (arith, second))

  more_fine : (m n : ℕ) (f : Formula) (ts : List Spot) → length ts ≤ m → length ts ≤ n → Later (More f) ts (more n m f ts)
  more_fine m n f [] few enough = none_fine m n f [] (λ b. b)
  more_fine zero n f (s ∷ ts) few enough = absurd (omega (arith, few))
  more_fine (suc m) n f (spot t at ∷ ts) few enough = by_token (is t) (λ g rest. more_fine m n (sign f g) rest)
    where
      by_token : (t ≡ token) ⊎ (t ≡ token → ⊥) → ((g : Formula) (rest : List Spot) → length rest ≤ m → length rest ≤ n → Later (More (sign f g)) rest (more n m (sign f g) rest))
          → Later (More f) (spot t at ∷ ts) (more n (suc m) f (spot t at ∷ ts))
      by_token (inl same) go =
          subst (λ (u : Token). Later (More f) (spot u at ∷ ts) (more n (suc m) f (spot u at ∷ ts))) (sym same)
          (subst (Later (More f) (spot token at ∷ ts)) (sym (on n m at f ts))
          (later_behind (More f) (λ i us. and_then (part i.0 us) (λ g. More (sign f g) i)) lower (spot token at) (on_lower f at) lower_enough ts (and_then (part n ts) (λ g. more n m (sign f g)))
          (both (λ i. part i.0) (λ g. More (sign f g)) (λ g. more_over (sign f g)) ts (part n ts) (λ g. more n m (sign f g)) (part_fine n ts (omega (arith, enough)))
          (λ g rest less. go g rest (omega (arith, less, few)) (omega (arith, less, enough))))))
      by_token (inr other) go = none_fine (suc m) n f (spot t at ∷ ts) other

  abbrev double : Index → Index
  double i = (i.0, i.0)

  row_fine : (n : ℕ) (ts : List Spot) → length ts ≤ n → Fine (λ i us. and_then (part i.0 us) (more i.0 i.0)) ts (and_then (part n ts) (more n n))
  row_fine n ts few =
      fine_at double (λ i l enough. (enough.0, enough.0)) (λ i us. and_then (part i.0 us) (λ f. More f i)) ts (and_then (part n ts) (more n n))
      (both (λ i. part i.0) More more_over ts (part n ts) (more n n) (part_fine n ts few)
      (λ f rest less. more_fine n n f rest (omega (arith, less, few)) (omega (arith, less, few))))

is_and : (t : Token) → (t ≡ AndSign) ⊎ (t ≡ AndSign → ⊥)
is_and AndSign = inl refl
is_and t = inr (λ e. cc)

is_or : (t : Token) → (t ≡ OrSign) ⊎ (t ≡ OrSign → ⊥)
is_or OrSign = inl refl
is_or t = inr (λ e. cc)

-- The rules of one level, where those of what a parenthesis opens are fine.
module _ (G : ℕ → List Spot → List Spot → Reading)
    (opens : (n at : ℕ) (ts : List Spot) → suc (length ts) ≤ n → Fine (λ i us. negation (G i.0) i.0 us) (spot OpenParen at ∷ ts) (G n (spot OpenParen at ∷ ts) ts)) where
  abbrev Negation : Rule
  Negation i us = negation (G i.0) i.0 us

  abbrev Disjunction : Rule
  Disjunction i us = disjunction (G i.0) i.0 us

  bad_fine : (s : Spot) (rest : List Spot) → ((i : Index) (u : List Spot) → Negation i (s ∷ u) ≡ Stops (s ∷ u)) → Fine Negation (s ∷ rest) (Stops (s ∷ rest))
  bad_fine s rest stops = ([], refl, λ i u enough. stops i u, (a_name, Named (97 ∷ []), λ i us enough ends. refl))

  negation_fine : (n : ℕ) (ts : List Spot) → length ts ≤ n → Fine Negation ts (negation (G n) n ts)
  negation_fine n [] few = ([], refl, tt, (a_name, Named (97 ∷ []), λ i us enough ends. refl))
  negation_fine n (spot (Name name) at ∷ rest) few = (spot (Name name) at ∷ [], refl, λ i us enough alike. refl)
  negation_fine n (spot OpenParen at ∷ rest) few = opens n at rest few
  negation_fine n (spot NotSign at ∷ rest) few =
      fine_later Negation (spot NotSign at ∷ rest) (and_then (negation (G n) n rest) (λ f. Read (Not f)))
      (later_behind Negation (λ i us. and_then (Negation i us) (λ f. Read (Not f))) (λ i. i) (spot NotSign at) (λ i us enough. refl) less_enough rest (and_then (negation (G n) n rest) (λ f. Read (Not f)))
      (both Negation (λ f i us. Read (Not f) us) (λ f. (Not f, λ i us ends. refl)) rest (negation (G n) n rest) (λ f. Read (Not f)) (negation_fine n rest (omega (arith, few)))
      (λ f then less. stays (λ i us. Read (Not f) us) (Not f) then (λ i us alike. refl))))
  negation_fine n (s ∷ rest) few = bad_fine s rest (λ i u. refl)

  conjunction_fine : (n : ℕ) (ts : List Spot) → length ts ≤ n → Fine (λ i us. conjunction (G i.0) i.0 us) ts (conjunction (G n) n ts)
  conjunction_fine =
      row_fine (λ n. negation (G n) n) negation_fine (λ n. more_negations (G n) n) AndSign And (λ e. cc) is_and (λ n m at f rest. refl) (λ n. more_negations_none (G n) n)

  disjunction_fine : (n : ℕ) (ts : List Spot) → length ts ≤ n → Fine Disjunction ts (disjunction (G n) n ts)
  disjunction_fine =
      row_fine (λ n. conjunction (G n) n) conjunction_fine (λ n. more_conjunctions (G n) n) OrSign Or (λ e. cc) is_or (λ n m at f rest. refl) (λ n. more_conjunctions_none (G n) n)

  -- the last operand of a level
  last_fine : (made : Formula → Formula) (n : ℕ) (ts : List Spot) → length ts ≤ n
      → Fine (λ i us. and_then (Disjunction i us) (λ g. Read (made g))) ts (and_then (disjunction (G n) n ts) (λ g. Read (made g)))
  last_fine made n ts few =
      both Disjunction (λ g i us. Read (made g) us) (λ g. (made g, λ i us ends. refl)) ts (disjunction (G n) n ts) (λ g. Read (made g)) (disjunction_fine n ts few)
      (λ g then less. stays (λ i us. Read (made g) us) (made g) then (λ i us alike. refl))

  abbrev BehindImplies : Formula → Rule
  BehindImplies f i us = behind_implies (G i.0) i.0 f us

  abbrev BehindIff : Formula → Formula → Rule
  BehindIff f g i us = behind_iff (G i.0) i.0 f g us

  abbrev Behind : Formula → Rule
  Behind f i us = behind_disjunction (G i.0) i.0 f us

  implies_fine : (n : ℕ) (f : Formula) (ts : List Spot) → length ts ≤ n → Later (BehindImplies f) ts (behind_implies (G n) n f ts)
  implies_fine n f [] few = stays (BehindImplies f) f [] (λ i us alike. behind_implies_none (G i.0) i.0 f us (no_more IffSign (λ e. cc) [] (λ b. b) us alike))
  implies_fine n f (spot IffSign at ∷ ts) few =
      later_behind (BehindImplies f) (λ i us. and_then (Disjunction i us) (λ g. Read (Iff f g))) (λ i. i) (spot IffSign at) (λ i us enough. refl) less_enough ts
      (and_then (disjunction (G n) n ts) (λ g. Read (Iff f g))) (last_fine (Iff f) n ts (omega (arith, few)))
  implies_fine n f (spot t at ∷ ts) few =
      stays (BehindImplies f) f (spot t at ∷ ts) (λ i us alike. behind_implies_none (G i.0) i.0 f us (no_more IffSign (λ e. cc) (spot t at ∷ ts) (λ e. cc) us alike))

  iff_fine : (n : ℕ) (f g : Formula) (ts : List Spot) → length ts ≤ n → Later (BehindIff f g) ts (behind_iff (G n) n f g ts)
  iff_fine n f g [] few = stays (BehindIff f g) (Iff f g) [] (λ i us alike. behind_iff_none (G i.0) i.0 f g us (no_more ImpliesSign (λ e. cc) [] (λ b. b) us alike))
  iff_fine n f g (spot ImpliesSign at ∷ ts) few =
      later_behind (BehindIff f g) (λ i us. and_then (Disjunction i us) (λ h. Read (Iff f (Implies g h)))) (λ i. i) (spot ImpliesSign at) (λ i us enough. refl) less_enough ts
      (and_then (disjunction (G n) n ts) (λ h. Read (Iff f (Implies g h)))) (last_fine (λ h. Iff f (Implies g h)) n ts (omega (arith, few)))
  iff_fine n f g (spot t at ∷ ts) few =
      stays (BehindIff f g) (Iff f g) (spot t at ∷ ts) (λ i us alike. behind_iff_none (G i.0) i.0 f g us (no_more ImpliesSign (λ e. cc) (spot t at ∷ ts) (λ e. cc) us alike))

  behind_fine : (n : ℕ) (f : Formula) (ts : List Spot) → length ts ≤ n → Later (Behind f) ts (behind_disjunction (G n) n f ts)
  behind_fine n f [] few =
      stays (Behind f) f [] (λ i us alike. level_none (G i.0) i.0 f us (no_more ImpliesSign (λ e. cc) [] (λ b. b) us alike) (no_more IffSign (λ e. cc) [] (λ b. b) us alike))
  behind_fine n f (spot ImpliesSign at ∷ ts) few =
      later_behind (Behind f) (λ i us. and_then (Disjunction i us) (λ g. BehindImplies (Implies f g) i)) (λ i. i) (spot ImpliesSign at) (λ i us enough. refl) less_enough ts
      (and_then (disjunction (G n) n ts) (λ g. behind_implies (G n) n (Implies f g)))
      (both Disjunction (λ g. BehindImplies (Implies f g)) (λ g. (Implies f g, λ i us ends. behind_implies_none (G i.0) i.0 (Implies f g) us (no_end IffSign (λ e. cc) us ends)))
      ts (disjunction (G n) n ts) (λ g. behind_implies (G n) n (Implies f g)) (disjunction_fine n ts (omega (arith, few)))
      (λ g rest less. implies_fine n (Implies f g) rest (omega (arith, less, few))))
  behind_fine n f (spot IffSign at ∷ ts) few =
      later_behind (Behind f) (λ i us. and_then (Disjunction i us) (λ g. BehindIff f g i)) (λ i. i) (spot IffSign at) (λ i us enough. refl) less_enough ts
      (and_then (disjunction (G n) n ts) (behind_iff (G n) n f))
      (both Disjunction (BehindIff f) (λ g. (Iff f g, λ i us ends. behind_iff_none (G i.0) i.0 f g us (no_end ImpliesSign (λ e. cc) us ends)))
      ts (disjunction (G n) n ts) (behind_iff (G n) n f) (disjunction_fine n ts (omega (arith, few)))
      (λ g rest less. iff_fine n f g rest (omega (arith, less, few))))
  behind_fine n f (spot t at ∷ ts) few =
      stays (Behind f) f (spot t at ∷ ts)
      (λ i us alike. level_none (G i.0) i.0 f us (no_more ImpliesSign (λ e. cc) (spot t at ∷ ts) (λ e. cc) us alike) (no_more IffSign (λ e. cc) (spot t at ∷ ts) (λ e. cc) us alike))

  level_fine : (n : ℕ) (ts : List Spot) → length ts ≤ n → Fine (λ i us. level (G i.0) i.0 us) ts (level (G n) n ts)
  level_fine n ts few =
      both Disjunction Behind (λ f. (f, λ i us ends. level_none (G i.0) i.0 f us (no_end ImpliesSign (λ e. cc) us ends) (no_end IffSign (λ e. cc) us ends)))
      ts (disjunction (G n) n ts) (behind_disjunction (G n) n) (disjunction_fine n ts few)
      (λ f rest less. behind_fine n f rest (omega (arith, less, few)))

-- what a parenthesis opens, where one more may unclosed and where none may
none_opens : (n at : ℕ) (ts : List Spot) → suc (length ts) ≤ n
    → Fine (λ i us. negation (λ here behind. Stops here) i.0 us) (spot OpenParen at ∷ ts) (Stops (spot OpenParen at ∷ ts))
none_opens n at ts few = ([], refl, λ i u enough. refl, (a_name, Named (97 ∷ []), λ i us enough ends. refl))

module _ (left at : ℕ) where
  abbrev Inner : Rule
  Inner i us = level_within left i.0 us

  abbrev Opened : Rule
  Opened i us = negation (λ here behind. closed (level_within left i.0 behind)) i.0 us

  -- a closing parenthesis would have served
  serving : (b : List Spot) (f : Formula) (rest : List Spot) → Going Inner b rest f → Serving Opened (spot OpenParen at ∷ b)
  serving b f rest going = (
    spot CloseParen 0 ∷ [],
    f,
    λ i us enough ends. ap closed (going i (spot CloseParen 0 ∷ us) (less_enough i (length (b ++ spot CloseParen 0 ∷ us)) enough) (inl (inr refl))),
  )

  halting_inner : (b rest : List Spot) → Halting Inner b rest → Halting Opened (spot OpenParen at ∷ b) rest
  halting_inner b [] halting = tt
  halting_inner b (s ∷ rest) halting = λ i u enough. ap closed (halting i u (less_enough i (length (b ++ s ∷ u)) enough))

  closed_fine : (ts : List Spot) (r : Reading) → Fine Inner ts r → Fine Opened (spot OpenParen at ∷ ts) (closed r)
  closed_fine ts (Read f []) fine = (spot OpenParen at ∷ fine.0, ap (λ l. spot OpenParen at ∷ l) fine.1, tt, serving fine.0 f [] fine.2)
  closed_fine ts (Read f (spot CloseParen p ∷ rest)) fine =
      let close : List Spot = spot CloseParen p ∷ [] in (
        spot OpenParen at ∷ (fine.0 ++ close),
        ap (λ l. spot OpenParen at ∷ l) (fine.1 ∙ sym (append_assoc fine.0 close rest)),
        λ i us enough alike.
            ap (λ l. closed (Inner i l)) (append_assoc fine.0 close us)
            ∙ ap closed (fine.2 i (spot CloseParen p ∷ us) (same_enough i _ _ (append_assoc fine.0 close us) (less_enough i (length ((fine.0 ++ close) ++ us)) enough)) (inl (inr refl))),
      )
  closed_fine ts (Read f (s ∷ rest)) fine = (
    spot OpenParen at ∷ fine.0,
    ap (λ l. spot OpenParen at ∷ l) fine.1,
    λ i u enough. ap closed (fine.2 i (s ∷ u) (less_enough i (length (fine.0 ++ s ∷ u)) enough) (inr (u, refl))),
    serving fine.0 f (s ∷ rest) fine.2,
  )
  closed_fine ts (Stops rest) fine =
      let close : List Spot = spot CloseParen 0 ∷ [] in (
        spot OpenParen at ∷ fine.0,
        ap (λ l. spot OpenParen at ∷ l) fine.1,
        halting_inner fine.0 rest fine.2,
        (
          fine.3.0 ++ close,
          fine.3.1,
          λ i us enough ends.
              ap (λ l. closed (Inner i (fine.0 ++ l))) (append_assoc fine.3.0 close us)
              ∙ ap closed (fine.3.2 i (spot CloseParen 0 ∷ us) (same_enough i _ _ (ap (λ l. fine.0 ++ l) (append_assoc fine.3.0 close us)) (less_enough i (length (fine.0 ++ ((fine.3.0 ++ close) ++ us))) enough)) (inr refl)),
        ),
      )

within_fine : (left n : ℕ) (ts : List Spot) → length ts ≤ n → Fine (λ i us. level_within left i.0 us) ts (level_within left n ts)
within_fine zero n ts few = level_fine (λ k here behind. Stops here) none_opens n ts few
within_fine (suc left) n ts few =
    level_fine (λ k here behind. closed (level_within left k behind))
    (λ k at us less. closed_fine left at us (level_within left k us) (within_fine left k us (omega (arith, less)))) n ts few

-- the whole text
abbrev Label : Rule
Label i us = level_within 64 i.0 us

whole_enough : (us : List Spot) → Enough (length us, length us) (length us)
whole_enough us = (omega arith, omega arith)

read_begins : (before rest : List Spot) (f : Formula) → Going Label before rest f → BeginLabel before
read_begins before rest f going = ([], (f, going (length (before ++ []), length (before ++ [])) [] (whole_enough (before ++ [])) (inl (inl refl))))

served_begins : (before : List Spot) → Serving Label before → BeginLabel before
served_begins before (more, g, serves) =
    (more, (g, subst (λ (l : List Spot). level_within 64 (length (before ++ l)) (before ++ l) ≡ Read g []) (append-nil more) (serves (length (before ++ (more ++ [])), length (before ++ (more ++ []))) [] (whole_enough (before ++ (more ++ []))) (inl refl))))

joined_label : (before : List Spot) (s : Spot) (b : BeginLabel (before ++ s ∷ [])) → level_within 64 (length (before ++ s ∷ b.0)) (before ++ s ∷ b.0) ≡ Read b.1.0 []
joined_label before s (more, (f, is)) = subst (λ (l : List Spot). level_within 64 (length l) l ≡ Read f []) (append_assoc before (s ∷ []) more) is

read_fails : (before : List Spot) (s : Spot) (rest : List Spot) (f : Formula) → Going Label before (s ∷ rest) f → BeginLabel (before ++ s ∷ []) → ⊥
read_fails before s rest f going b =
    let us : List Spot = before ++ s ∷ b.0 in
    let e : Read f (s ∷ b.0) ≡ Read b.1.0 [] = sym (going (length us, length us) (s ∷ b.0) (whole_enough us) (inr (b.0, refl))) ∙ joined_label before s b in
    cc

stop_fails : (before : List Spot) (s : Spot) (rest : List Spot) → Halting Label before (s ∷ rest) → BeginLabel (before ++ s ∷ []) → ⊥
stop_fails before s rest halting b =
    let us : List Spot = before ++ s ∷ b.0 in
    let e : Stops (s ∷ b.0) ≡ Read b.1.0 [] = sym (halting (length us, length us) b.0 (whole_enough us)) ∙ joined_label before s b in
    cc

end_fails : (spots before : List Spot) → spots ≡ before ++ [] → level_within 64 (length spots) spots ≡ Stops [] → AreLabel before → ⊥
end_fails spots before at stops (f, is) =
    let same : before ≡ spots = sym (append-nil before) ∙ sym at in
    let e : Stops [] ≡ Read f [] = sym stops ∙ subst (λ (l : List Spot). level_within 64 (length l) l ≡ Read f []) same is in
    cc

by_reading : (text : List ℕ) (at : ℕ) (r : Reading) → level_within 64 (length (spots_of text)) (spots_of text) ≡ r → Fine Label (spots_of text) r → whole (length text) r ≡ FaultAt at → IsFirstBad text at
by_reading text at (Read f []) reads fine fault = absurd (cc fault)
by_reading text at (Read f (s ∷ rest)) reads fine fault = record {
  before = fine.0;
  rest = s ∷ rest;
  tokens = fine.1;
  place = sym (cc fault);
  begins = read_begins fine.0 (s ∷ rest) f fine.2;
  fails = read_fails fine.0 s rest f fine.2;
}
by_reading text at (Stops []) reads fine fault = record {
  before = fine.0;
  rest = [];
  tokens = fine.1;
  place = sym (cc fault);
  begins = served_begins fine.0 fine.3;
  fails = end_fails (spots_of text) fine.0 fine.1 reads;
}
by_reading text at (Stops (s ∷ rest)) reads fine fault = record {
  before = fine.0;
  rest = s ∷ rest;
  tokens = fine.1;
  place = sym (cc fault);
  begins = served_begins fine.0 fine.3;
  fails = stop_fails fine.0 s rest fine.2;
}

pub first_bad : (text : List ℕ) (refusal : LabelRefusal) → IsRefusal (expression text) refusal → TellsFirstBad text refusal
first_bad text Memory refused = tt
first_bad text (Fault at) refused =
    let spots : List Spot = spots_of text in
    by_reading text at (level_within 64 (length spots) spots) refl (within_fine 64 (length spots) spots (omega arith)) refused
