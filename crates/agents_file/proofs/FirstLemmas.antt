-- The first of faults that stand behind one another, and a loop over the items of a list.
use Rattle.std.proofs.Common.{◌≡◌, ℕ, suc, ◌+◌, ◌<◌, ◌≤◌, ◌++◌, sym, refl, ap, ◌∙◌, subst, List, [], ◌∷◌, length, drop, get_or, Option, Some, None, Result, Ok, Err, IfErr, IsErrAnd, add-one}
use Rattle.std.proofs.lemmas.List.{drop_more, drop_all}
use Rattle.serde_json.specs.Data.{Data}
use Rattle.serde_json.specs.View.{view, items_view}
use Rattle.serde_json.specs.declared.value.Value.{Value}
use Rattle.model_run.specs.declared.agents.AgentsKind.{AgentsKind}
use Rattle.model_run.specs.AgentsFaults.{Fault, fault, items_faults, at_item}
use Rattle.agents_file.specs.declared.refusal.AgentsRefusal.{AgentsRefusal}
use Rattle.agents_file.specs.declared.refusal.AgentsRefusal.TheVariants as refusal
use Rattle.agents_file.specs.FirstFault.{first, Tells, TellsFirst}

pub first-append : (xs ys : List Fault) → first xs ≡ None → first (xs ++ ys) ≡ first ys
first-append [] ys e = refl
first-append (x ∷ xs) ys e = cc

pub TellsFirst-along : (xs ys : List Fault) (e : AgentsRefusal) → first ys ≡ first xs → TellsFirst xs e → TellsFirst ys e
TellsFirst-along xs ys refusal.Memory same tells = tt
TellsFirst-along xs ys (refusal.Fault p k) same tells = same ∙ tells

pub TellsFirst-front : (xs ys : List Fault) (e : AgentsRefusal) → TellsFirst xs e → TellsFirst (xs ++ ys) e
TellsFirst-front xs ys refusal.Memory tells = tt
TellsFirst-front [] ys (refusal.Fault p k) tells = cc
TellsFirst-front (x ∷ xs) ys (refusal.Fault p k) tells = tells

pub TellsFirst-behind : (xs ys : List Fault) (e : AgentsRefusal) → first xs ≡ None → TellsFirst ys e → TellsFirst (xs ++ ys) e
TellsFirst-behind xs ys e none tells = TellsFirst-along ys (xs ++ ys) e (first-append xs ys none) tells

-- a refusal that tells the fault that is the first
pub TellsFirst-one : (xs : List Fault) {path : List ℕ} {kind : AgentsKind} (e : AgentsRefusal) → first xs ≡ Some (fault path kind) → Tells path kind e → TellsFirst xs e
TellsFirst-one xs refusal.Memory is tells = tt
TellsFirst-one xs {path} {kind} (refusal.Fault p k) is tells = is ∙ ap (λ x. Some (fault x kind)) (sym tells.0) ∙ ap (λ x. Some (fault p x)) (sym tells.1)

-- a loop over items that has come to item i, which is v: the first fault of all is the first of those from there on
module _ (check : List ℕ → Data → List Fault) (path : List ℕ) (whole : Option Fault) (vs : List Value) (i : ℕ) where
  pub items_end : length vs ≤ i → whole ≡ first (items_faults check path i (items_view (drop i vs))) → whole ≡ None
  items_end past here = here ∙ ap (λ xs. first (items_faults check path i (items_view xs))) (drop_all i vs past)

  module _ (v : Value) (within : i < length vs) (is : v ≡ get_or vs i v) (here : whole ≡ first (items_faults check path i (items_view (drop i vs)))) where
    pub items_here : whole ≡ first (check (at_item path i) (view v) ++ items_faults check path (suc i) (items_view (drop (i + 1) vs)))
    items_here = here ∙ ap (λ xs. first (items_faults check path i (items_view xs))) (drop_more vs i v within ∙ ap (λ x. x ∷ drop (i + 1) vs) (sym is))

    pub items_more : first (check (at_item path i) (view v)) ≡ None → whole ≡ first (items_faults check path (i + 1) (items_view (drop (i + 1) vs)))
    items_more none =
        subst (λ n. whole ≡ first (items_faults check path n (items_view (drop (i + 1) vs)))) (sym (add-one i))
        (items_here ∙ first-append (check (at_item path i) (view v)) (items_faults check path (suc i) (items_view (drop (i + 1) vs))) none)

-- the exit of a `?` over a refusal
pub passed_on : {T : Type 0} (result : Result T AgentsRefusal) (e : AgentsRefusal) (Q : AgentsRefusal → Type 0) → IsErrAnd result (λ y. y ≡ e) → Q e → IfErr result Q
passed_on (Ok x) e Q is here = absurd is
passed_on (Err y) e Q is here = subst Q (sym is) here
