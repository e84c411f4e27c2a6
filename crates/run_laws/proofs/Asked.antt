-- What a step asks for can be answered: a label has no fault, and an id is not empty and has no blank.
use Rattle.std.proofs.Common.{arith, ◌≡◌, ◌<◌, ◌^◌, refl, sym, ap, subst, ℕ, Bool, true, false, List, [], ◌∷◌, length, Option, Some, None, decimal}
use Rattle.std.specs.Prelude.{codes, nat_eq, not, ◌||◌, if◌then◌else◌, find, option_map, unwrap_or}
use Rattle.std.specs.List.{list_all}
use Rattle.std.specs.Cmp.Lexicographic.{same_text as text_is}
use Rattle.std.specs.Str.Parse.{AllDigits}
use Rattle.std.proofs.lemmas.Bool.{eqb-true}
use Rattle.std.proofs.lemmas.Fmt.{decimal_is_IsNumeral, decimal_nonempty}
use Rattle.std.proofs.lemmas.Str.Parse.{digit_from_value}
use Rattle.model_values.specs.TextOf.{Writing, Wrote, Stops, text_of}
use Rattle.model_values.specs.declared.value.Value.{Value}
use Rattle.model_run.specs.declared.site.Site.{Site}
use Rattle.model_run.specs.declared.site.Executor.{Executor}
use Rattle.model_run.specs.declared.step.Step.{Step}
use Rattle.model_run.specs.declared.step.Step.TheVariants as step
use Rattle.model_run.specs.State.{Common, World}
use Rattle.model_run.specs.Around.{cells, limits}
use Rattle.model_run.specs.LabelTokens.{is_blank}
use Rattle.model_run.specs.Labels.{kept_label, label_fault}
use Rattle.model_run.specs.Names.{same_text}
use Rattle.model_run.specs.StepTable.{has_blank, Given, given, Bound, Binds, Refuses, Stops_at, Fit, Fits, Bad, Meets, fits_if, is_identifier, fit_given, and_fits, all_fit, sort_of, parameters, takes_map, has_body, missing, unknown, both_returned, written_or, text_given, label_of, bind_label, bind_body, bind_missing, bind_returned, bind_fit, bind_known, named_or_main, bind_rest, split_last, bind_step}
use Rattle.model_values.specs.Kinds.{kind}
use Rattle.run_laws.specs.Bounds.{InBounds}

-- an executor that is found by a number has this number
pub found_number : (n : ℕ) (xs : List Executor) (x : Executor) → find (λ y. nat_eq y.number n) xs ≡ Some x → x.number ≡ n
found_number n [] x e = absurd (cc)
found_number n (y ∷ xs) x e = one (nat_eq y.number n) refl e (found_number n xs x)
  where
    one : (b : Bool) → nat_eq y.number n ≡ b → (if b then Some y else find (λ z. nat_eq z.number n) xs) ≡ Some x → (find (λ z. nat_eq z.number n) xs ≡ Some x → x.number ≡ n) → x.number ≡ n
    one true same e more = let is : y ≡ x = cc in subst (λ (z : Executor). z.number ≡ n) is (eqb-true _ _ same)
    one false same e more = more e

-- an id that is given
abbrev pub IdFits : Option (List ℕ) → Type 0
IdFits None = Unit {0}
IdFits (Some id) = (id ≡ [] → ⊥) × (has_blank id ≡ false)

-- a number is written in digits
not_equal : (m n : ℕ) → (m ≡ n → ⊥) → nat_eq m n ≡ false
not_equal m n never = one (nat_eq m n) refl
  where
    one : (b : Bool) → nat_eq m n ≡ b → b ≡ false
    one true e = absurd (never (eqb-true m n e))
    one false e = refl

no_blank : (a b : Bool) (rest : Bool) → a ≡ false → b ≡ false → rest ≡ false → ((a || b) || rest) ≡ false
no_blank false false false h k l = refl
no_blank true b rest h k l = absurd (cc)
no_blank false true rest h k l = absurd (cc)
no_blank false false true h k l = absurd (cc)

digits_unblank : (ds : List ℕ) → AllDigits 10 ds → has_blank ds ≡ false
digits_unblank [] h = refl
digits_unblank (d ∷ ds) h =
    no_blank (nat_eq d 32) (nat_eq d 9) (has_blank ds) (not_equal d 32 (λ e. absurd (omega (arith, e, digit_from_value d h.0)))) (not_equal d 9 (λ e. absurd (omega (arith, e, digit_from_value d h.0)))) (digits_unblank ds h.1)

pub number_low : (site : Site) (u : Common) → InBounds false site u → u.next_request < 18446744073709551616
number_low site u h = omega (arith, h.few_requests, h.few_nodes)

pub id_fits : (id : Option (List ℕ)) (n : ℕ) → n < 18446744073709551616 → IdFits id → (unwrap_or id (decimal n) ≡ [] → ⊥) × (has_blank (unwrap_or id (decimal n)) ≡ false)
id_fits (Some id) n low h = h
id_fits None n low h =
    let small : n < 2 ^ 64 = omega (arith, low) in
    ((λ e. (let some : 0 < length (decimal n) = decimal_nonempty n small in let none : length (decimal n) ≡ 0 = ap length e in absurd (omega (arith, some, none)))), digits_unblank (decimal n) (decimal_is_IsNumeral n small).0.1)

-- a label that has no fault has none as it is kept
pub kept_again : (o : Option (List ℕ)) → label_fault o ≡ None → label_fault (kept_label o) ≡ None
kept_again None e = refl
kept_again (Some t) e = one (list_all is_blank t) refl e
  where
    one : (b : Bool) → list_all is_blank t ≡ b → label_fault (Some t) ≡ None → label_fault (if b then None else Some t) ≡ None
    one true is e = refl
    one false is e = e

-- the arguments that a step is bound to
abbrev pub ArgsAsk : World → Step → Given → Type 0
ArgsAsk w step.Node args = label_fault (kept_label (text_given w (codes "label") args)) ≡ None
ArgsAsk w step.Input args = IdFits (text_given w (codes "id") args)
ArgsAsk w s args = Unit {0}

abbrev pub BoundAsks : World → Step → Bound → Type 0
BoundAsks w s (Binds args body) = ArgsAsk w s args
BoundAsks w s (Refuses message) = Unit {0}
BoundAsks w s (Stops_at limit) = Unit {0}

abbrev IdsFit : World → Step → Given → Type 0
IdsFit w step.Input args = IdFits (text_given w (codes "id") args)
IdsFit w s args = Unit {0}

both_fit : (name : List ℕ) (f rest : Fit) → and_fits name f rest ≡ Fits → (f ≡ Fits) × (rest ≡ Fits)
both_fit name Fits rest e = (refl, e)
both_fit name (Bad None) rest e = absurd (cc)
both_fit name (Bad (Some part)) rest e = absurd (cc)
both_fit name (Meets k) rest e = absurd (cc)

if_fits : (b : Bool) → fits_if (not b) ≡ Fits → b ≡ false
if_fits false e = refl
if_fits true e = absurd (cc)

identifier : (o : Writing) → is_identifier o ≡ Fits → IdFits (Some (written_or [] o))
identifier (Wrote []) e = absurd (cc)
identifier (Wrote (b ∷ bs)) e = ((λ none. absurd (cc)), if_fits (has_blank (b ∷ bs)) e)
identifier (Stops k) e = absurd (cc)

given_id : (w : World) (args : Given) → all_fit w (parameters step.Input) args ≡ Fits → IdFits (text_given w (codes "id") args)
given_id w [] e = tt
given_id w (p ∷ ps) e =
    let fits : (fit_given w (sort_of p.0 (parameters step.Input)) p.1 ≡ Fits) × (all_fit w (parameters step.Input) ps ≡ Fits) = both_fit p.0 _ _ e in
    one (same_text (codes "id") p.0) refl fits.0 (given_id w ps fits.1)
  where
    one : (b : Bool) → same_text (codes "id") p.0 ≡ b → fit_given w (sort_of p.0 (parameters step.Input)) p.1 ≡ Fits → IdFits (text_given w (codes "id") ps) → IdFits (option_map (λ v. written_or [] (text_of (limits w) (cells w) v)) (if b then Some p.1 else given (codes "id") ps))
    one true same fit more = identifier (text_of (limits w) (cells w) p.1) (subst (λ n. fit_given w (sort_of n (parameters step.Input)) p.1 ≡ Fits) (sym (text_is (codes "id") p.0 (sym same))) fit)
    one false same fit more = more

module _ (w : World) (s : Step) (args : Given) where
  asks_of : (s : Step) → label_of w s args ≡ None → IdsFit w s args → ArgsAsk w s args
  asks_of step.Node e ids = kept_again (text_given w (codes "label") args) e
  asks_of step.Input e ids = ids
  asks_of s e ids = tt

  label_asks : (body : Option Value) (o : Option ℕ) → label_of w s args ≡ o → IdsFit w s args → BoundAsks w s (bind_label args body o)
  label_asks body None e ids = asks_of s e ids
  label_asks body (Some n) e ids = tt

  body_asks : (body : Option Value) (needs : Bool) → IdsFit w s args → BoundAsks w s (bind_body w s args body needs)
  body_asks None true ids = tt
  body_asks None false ids = label_asks None (label_of w s args) refl ids
  body_asks (Some f) true ids = label_asks (Some f) (label_of w s args) refl ids
  body_asks (Some f) false ids = tt

  missing_asks : (body : Option Value) (o : Option (List ℕ)) → IdsFit w s args → BoundAsks w s (bind_missing w s args body o)
  missing_asks body (Some name) ids = tt
  missing_asks body None ids = body_asks body (has_body s) ids

  returned_asks : (body : Option Value) (b : Bool) → IdsFit w s args → BoundAsks w s (bind_returned w s args body b)
  returned_asks body true ids = tt
  returned_asks body false ids = missing_asks body (missing args (parameters s)) ids

  fit_asks : (body : Option Value) (f : Fit) → (f ≡ Fits → IdsFit w s args) → BoundAsks w s (bind_fit w s args body f)
  fit_asks body Fits ids = returned_asks body (both_returned (cells w) s args) (ids refl)
  fit_asks body (Bad None) ids = tt
  fit_asks body (Bad (Some name)) ids = tt
  fit_asks body (Meets k) ids = tt

  ids_of : (s : Step) → all_fit w (parameters s) args ≡ Fits → IdsFit w s args
  ids_of step.Input e = given_id w args e
  ids_of s e = tt

  known_asks : (body : Option Value) (o : Option (List ℕ)) → BoundAsks w s (bind_known w s args body o)
  known_asks body (Some name) = tt
  known_asks body None = fit_asks body (all_fit w (parameters s) args) (ids_of s)

rest_asks : (w : World) (s : Step) (vs : List Value) (body : Option Value) → BoundAsks w s (bind_rest w s vs body)
rest_asks w s [] body = known_asks w s [] body (unknown (parameters s) [])
rest_asks w s (v ∷ []) body = known_asks w s (named_or_main s v (takes_map s) (kind (cells w) v)) body (unknown (parameters s) (named_or_main s v (takes_map s) (kind (cells w) v)))
rest_asks w s (v ∷ u ∷ vs) body = tt

-- What a step is bound to can be asked for.
pub bound_asks : (w : World) (s : Step) (args : List Value) → BoundAsks w s (bind_step w s args)
bound_asks w s args = rest_asks w s (split_last (cells w) args).0 (split_last (cells w) args).1
