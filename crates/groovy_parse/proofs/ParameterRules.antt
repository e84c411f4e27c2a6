-- The rules of a function's parameters, for the calculus.
use Rattle.std.proofs.Common.{◌≡◌, ℕ, ◌+◌, Bool, true, false, Option, Some, List, [], ◌∷◌, ◌++◌, ◌⊎◌, inl, inr, refl, sym, ap, ◌∙◌, subst, arith, le_refl}
use Rattle.std.proofs.lemmas.Bool.{false≢true}
use Rattle.model_syntax.specs.declared.place.Declared.{Declared}
use Rattle.model_syntax.specs.declared.sign.Sign.TheVariants as sign
use Rattle.model_syntax.specs.declared.word.Word.TheVariants as word
use Rattle.model_syntax.specs.declared.token.TokenKind.{TokenKind}
use Rattle.model_syntax.specs.declared.token.TokenKind.TheVariants as kind
use Rattle.model_syntax.specs.Stream.{Stream, Places, Sees, SeesName, declared}
use Rattle.model_syntax.specs.Lookahead.{is_name}
use Rattle.model_syntax.specs.Grammar.{SeesType, type_def, type_name}
use Rattle.model_syntax.specs.Scripts.{IsParameter, parameter_plain, parameter_typed, ParameterList, parameters_last, parameters_more, Parameters, no_parameters, some_parameters}
use Rattle.groovy_expr.specs.Answers.{Rule, Agrees, Exact, Refused}
use Rattle.groovy_expr.proofs.Calculus.{Weaker, Tail, tail_end, tail_fails, inside_none, inside_more}
use Rattle.groovy_expr.proofs.Lists.{IsSeparated, last_item, next_item, item_fails, tail_push}
use Rattle.groovy_expr.proofs.StatementCalculus.{inside_token, a_name}
use Rattle.groovy_expr.proofs.Steps.{same_name}
use Rattle.groovy_parse.specs.Readers.{stops_parameter, stops_parameters, IsTyped, typed_def, typed_name}

abbrev pub Parameter : Places → Rule Declared
Parameter P K = IsParameter K P

abbrev pub OneOrMore : Places → Rule (List Declared)
OneOrMore P K = ParameterList K P

abbrev pub Params : Places → Rule (List Declared)
Params P K = Parameters K P

-- the token that stands there, by what is known of it
pub name_there : (k : Option TokenKind) → is_name k ≡ true → (n : List ℕ) × (k ≡ Some (kind.Name n))
name_there (Some (kind.Name n)) h = (n, refl)
name_there k h = absurd (false≢true h)

no_second : (k : Option TokenKind) → is_name k ≡ true → stops_parameter k ≡ true → ⊥
no_second (Some (kind.Name n)) h e = false≢true e
no_second k h e = false≢true h

word_name : (n : List ℕ) → Some (kind.Word word.Def) ≡ Some (kind.Name n) → ⊥
word_name n e = cc

-- what a parameter begins with
abbrev pub begins_parameter : Option TokenKind → Bool
begins_parameter (Some (kind.Name n)) = true
begins_parameter (Some (kind.Word word.Def)) = true
begins_parameter t = false

pub parameter_begin : {P : Places} {J : Stream} {d : Declared} {a b : ℕ} → IsParameter J P d a b → begins_parameter (J a) ≡ true
parameter_begin (parameter_plain n) = ap begins_parameter n
parameter_begin (parameter_typed (type_def w) n) = ap begins_parameter w
parameter_begin (parameter_typed (type_name w) n) = ap begins_parameter w

module _ (K : Stream) (P : Places) {at : ℕ} where
  -- a type, and then the name
  module _ (t : IsTyped K at) where
    type_there : SeesType K at
    type_there = by t
      where
        by : IsTyped K at → SeesType K at
        by (typed_def w) = type_def w
        by (typed_name f g) = let n = name_there (K at) f in type_name n.1

    typed_token : (k : TokenKind) × (K at ≡ Some k)
    typed_token = by type_there
      where
        by : SeesType K at → (k : TokenKind) × (K at ≡ Some k)
        by (type_def w) = (_, w)
        by (type_name w) = (_, w)

    type_in : {J : Stream} → J at ≡ K at → SeesType J at
    type_in {J} same = by type_there
      where
        by : SeesType K at → SeesType J at
        by (type_def w) = type_def (same ∙ w)
        by (type_name w) = type_name (same ∙ w)

    -- no plain name is the parameter
    not_plain : {J : Stream} {n : List ℕ} → Agrees (at + 1) J K → SeesName J at n → stops_parameter (J (at + 1)) ≡ true → ⊥
    not_plain {J} {n} same h st = by t
      where
        by : IsTyped K at → ⊥
        by (typed_def w) = word_name n (sym (same at (omega arith) ∙ w) ∙ h)
        by (typed_name f g) = no_second (J (at + 1)) (ap is_name (same (at + 1) (omega arith)) ∙ g) st

    pub typed_fails : ((n : List ℕ) → SeesName K (at + 1) n → ⊥) → Refused (Parameter P) stops_parameter K at (at + 1)
    typed_fails h = record {
      from = omega arith;
      inside = inside_token K typed_token.0 at typed_token.1;
      never = λ J y b same r st. no_name same r st;
      viable = record {
        closing = kind.Name a_name ∷ [];
        closes = λ J e same st so. (declared a_name (P (at + 1)), subst (λ k. IsParameter J P (declared a_name (P (at + 1))) at k) (sym st.1) (parameter_typed (type_in (same at (omega arith))) st.0));
      };
    }
      where
        no_name : {J : Stream} {y : Declared} {b : ℕ} → Agrees (at + 1) J K → IsParameter J P y at b → stops_parameter (J b) ≡ true → ⊥
        no_name same (parameter_plain n) st = not_plain same n st
        no_name same (parameter_typed {n = n} w q) st = h n (sym (same (at + 1) (omega arith)) ∙ q)

    pub typed_ok : {n : List ℕ} {d : Declared} → d ≡ declared n (P (at + 1)) → SeesName K (at + 1) n → Exact (Parameter P) stops_parameter K at d (at + 1 + 1)
    typed_ok {n} {d} e h = subst (λ z. Exact (Parameter P) stops_parameter K at z (at + 1 + 1)) (sym e) (record {
      after = omega arith;
      inside = inside_more K typed_token.0 at (at + 1 + 1) typed_token.1 (inside_token K (kind.Name n) (at + 1) h);
      spelled = λ J same so. parameter_typed (type_in (same at (omega arith))) (same (at + 1) (omega arith) ∙ h);
      only = λ J y b same r st. one (λ k le. same k (omega arith)) r st;
    })
      where
        one : {J : Stream} {y : Declared} {b : ℕ} → Agrees (at + 1) J K → IsParameter J P y at b → stops_parameter (J b) ≡ true → (y ≡ declared n (P (at + 1))) × (b ≡ at + 1 + 1)
        one same (parameter_plain m) st = absurd (not_plain same m st)
        one {J} same (parameter_typed {n = m} w q) st = (ap (λ u. declared u (P (at + 1))) (same_name m n (sym q ∙ same (at + 1) (omega arith) ∙ h)), refl)

  -- the name alone
  module _ (t : IsTyped K at → ⊥) where
    pub plain_fails : ((n : List ℕ) → SeesName K at n → ⊥) → Refused (Parameter P) stops_parameter K at at
    plain_fails h = record {
      from = le_refl at;
      inside = inside_none K at;
      never = λ J y b same r st. no_name (same at (le_refl at)) r;
      viable = record { closing = kind.Name a_name ∷ []; closes = λ J e same st so. (declared a_name (P at), subst (λ k. IsParameter J P (declared a_name (P at)) at k) (sym st.1) (parameter_plain st.0)) };
    }
      where
        no_name : {J : Stream} {y : Declared} {b : ℕ} → J at ≡ K at → IsParameter J P y at b → ⊥
        no_name same (parameter_plain {n = n} q) = h n (sym same ∙ q)
        no_name same (parameter_typed (type_def w) q) = t (typed_def (sym same ∙ w))
        no_name same (parameter_typed (type_name {t = n} w) q) = h n (sym same ∙ w)

    pub plain_ok : {n : List ℕ} {d : Declared} → d ≡ declared n (P at) → SeesName K at n → Exact (Parameter P) stops_parameter K at d (at + 1)
    plain_ok {n} {d} e h = subst (λ z. Exact (Parameter P) stops_parameter K at z (at + 1)) (sym e) (record {
      after = omega arith;
      inside = inside_token K (kind.Name n) at h;
      spelled = λ J same so. parameter_plain (same at (omega arith) ∙ h);
      only = λ J y b same r st. one same r;
    })
      where
        one : {J : Stream} {y : Declared} {b : ℕ} → Agrees (at + 1) J K → IsParameter J P y at b → (y ≡ declared n (P at)) × (b ≡ at + 1)
        one same (parameter_plain {n = m} q) = (ap (λ u. declared u (P at)) (same_name m n (sym q ∙ same at (omega arith) ∙ h)), refl)
        one same (parameter_typed (type_def w) q) = absurd (t (typed_def (sym (same at (omega arith)) ∙ w)))
        one same (parameter_typed (type_name w) q) = absurd (t (typed_name (ap is_name h) (ap is_name (sym (same (at + 1) (le_refl (at + 1))) ∙ q))))

-- parameters with `,` between them
close_weaker : Weaker stops_parameters stops_parameter
close_weaker (Some (kind.Sign sign.ParenClose)) e = refl
close_weaker t e = absurd (false≢true e)

list_cases : (P : Places) (J : Stream) (ys : List Declared) (a b : ℕ) → ParameterList J P ys a b → (x : Declared) × (m : ℕ) × IsParameter J P x a m × (((ys ≡ x ∷ []) × (b ≡ m)) ⊎ ((xs : List Declared) × (ys ≡ x ∷ xs) × (J m ≡ Some (kind.Sign sign.Comma)) × ParameterList J P xs (m + 1) b))
list_cases P J ys a b (parameters_last r) = (_, _, r, inl (refl, refl))
list_cases P J ys a b (parameters_more r c s) = (_, _, r, inr (_, refl, c, s))

parameter_list : (P : Places) → IsSeparated (Parameter P) (OneOrMore P) (kind.Sign sign.Comma) stops_parameter stops_parameters
parameter_list P = record {
  last = λ J x a b r. parameters_last r;
  more = λ J x xs a m b r c s. parameters_more r c s;
  cases = list_cases P;
  weaker = close_weaker;
  between = refl;
  never = λ e. false≢true e;
}

closes_parameters : (t : Option TokenKind) → stops_parameters t ≡ true → t ≡ Some (kind.Sign sign.ParenClose)
closes_parameters (Some (kind.Sign sign.ParenClose)) e = refl
closes_parameters t e = absurd (false≢true e)

list_begin : {P : Places} {J : Stream} {ds : List Declared} {a b : ℕ} → ParameterList J P ds a b → begins_parameter (J a) ≡ true
list_begin (parameters_last r) = parameter_begin r
list_begin (parameters_more r c s) = parameter_begin r

-- the parameters that were read
abbrev pub ParametersLoop : Places → Stream → ℕ → List Declared → ℕ → Type 0
ParametersLoop P K at done n = Tail (Params P) (OneOrMore P) stops_parameters K at (λ z. done ++ z) n

module _ (K : Stream) (P : Places) {at : ℕ} where
  pub no_parameter : Sees K at sign.ParenClose → Exact (Params P) stops_parameters K at [] at
  no_parameter h = record {
    after = le_refl at;
    inside = inside_none K at;
    spelled = λ J same so. no_parameters;
    only = λ J y b same r st. none (same at (le_refl at)) r;
  }
    where
      none : {J : Stream} {y : List Declared} {b : ℕ} → J at ≡ K at → Parameters J P y at b → (y ≡ []) × (b ≡ at)
      none same no_parameters = (refl, refl)
      none same (some_parameters r) = absurd (false≢true (sym (ap begins_parameter (same ∙ h)) ∙ list_begin r))

  pub parameters_start : (Sees K at sign.ParenClose → ⊥) → ParametersLoop P K at [] at
  parameters_start h = record {
    after = le_refl at;
    inside = inside_none K at;
    whole = λ J same z b r so. some_parameters r;
    only = λ J y b same r st. some (same at (le_refl at)) r st;
  }
    where
      some : {J : Stream} {y : List Declared} {b : ℕ} → J at ≡ K at → Parameters J P y at b → stops_parameters (J b) ≡ true → (z : List Declared) × ParameterList J P z at b × (y ≡ z)
      some {J} same no_parameters st = absurd (h (sym same ∙ closes_parameters (J at) st))
      some same (some_parameters r) st = (_, r, refl)

  module _ (done : List Declared) {n : ℕ} (g : ParametersLoop P K at done n) where
    pub parameters_fails : {i : ℕ} → Refused (Parameter P) stops_parameter K n i → Refused (Params P) stops_parameters K at i
    parameters_fails r = tail_fails (λ z. done ++ z) g (item_fails (parameter_list P) K r)

    module _ {x : Declared} {m : ℕ} (e : Exact (Parameter P) stops_parameter K n x m) where
      pub parameters_last_ok : (Sees K m sign.Comma → ⊥) → Exact (Params P) stops_parameters K at (done ++ x ∷ []) m
      parameters_last_ok h = tail_end (λ z. done ++ z) g (last_item (parameter_list P) K e h)

      pub parameters_next : Sees K m sign.Comma → ParametersLoop P K at (done ++ x ∷ []) (m + 1)
      parameters_next h = tail_push (λ z. z) done x g (next_item (parameter_list P) K e h)
