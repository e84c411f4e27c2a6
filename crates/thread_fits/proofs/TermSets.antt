-- Terms are a set: an equation of terms has one proof.
use Rattle.std.proofs.Common.{◌≡◌, ◌∙◌, ap, refl, sym, subst}
use Rattle.std.specs.Coded.{Coded-set}
use Rattle.model_syntax.specs.declared.node.NodeForm.{NodeForm}
use Rattle.model_syntax.specs.contracts.node.NodeForm as shape
use Rattle.std.proofs.Math.Nat.{ℕ_set}
use Rattle.std.proofs.Math.Path.{path_j}
use Rattle.model_run.specs.Terms.{Term, Terms, Numbered, no_terms, and_then}

form_set : IsSet NodeForm
form_set = Coded-set (shape.the_row).coded

-- terms that are built alike
abbrev mutual
  Alike : Term → Term → Type 0
  Alike (Numbered k f ps) (Numbered j g qs) = (k ≡ j) × (f ≡ g) × AllAlike ps qs

  AllAlike : Terms → Terms → Type 0
  AllAlike no_terms no_terms = Unit {0}
  AllAlike no_terms (and_then t ts) = ⊥
  AllAlike (and_then t ts) no_terms = ⊥
  AllAlike (and_then t ts) (and_then u us) = Alike t u × AllAlike ts us

mutual
  alike_prop : (t u : Term) → IsProp (Alike t u)
  alike_prop (Numbered k f ps) (Numbered j g qs) p q = λ i. (ℕ_set _ _ p.0 q.0 i, form_set _ _ (p.1) (q.1) i, all_alike_prop ps qs p.2 q.2 i)

  all_alike_prop : (ts us : Terms) → IsProp (AllAlike ts us)
  all_alike_prop no_terms no_terms p q = refl
  all_alike_prop no_terms (and_then t ts) p q = absurd p
  all_alike_prop (and_then t ts) no_terms p q = absurd p
  all_alike_prop (and_then t ts) (and_then u us) p q = λ i. (alike_prop t u p.0 q.0 i, all_alike_prop ts us p.1 q.1 i)

abbrev mutual
  alike_itself : (t : Term) → Alike t t
  alike_itself (Numbered k f ps) = (refl, refl, all_alike_itself ps)

  all_alike_itself : (ts : Terms) → AllAlike ts ts
  all_alike_itself no_terms = tt
  all_alike_itself (and_then t ts) = (alike_itself t, all_alike_itself ts)

abbrev mutual
  alike_same : (t u : Term) → Alike t u → t ≡ u
  alike_same (Numbered k f ps) (Numbered j g qs) h = λ i. Numbered (h.0 i) (h.1 i) (all_alike_same ps qs h.2 i)

  all_alike_same : (ts us : Terms) → AllAlike ts us → ts ≡ us
  all_alike_same no_terms no_terms h = refl
  all_alike_same no_terms (and_then t ts) h = absurd h
  all_alike_same (and_then t ts) no_terms h = absurd h
  all_alike_same (and_then t ts) (and_then u us) h = λ i. and_then (alike_same t u h.0 i) (all_alike_same ts us h.1 i)

mutual
  itself_same : (t : Term) → alike_same t t (alike_itself t) ≡ refl
  itself_same (Numbered k f ps) = λ j. λ i. Numbered k f (all_itself_same ps j i)

  all_itself_same : (ts : Terms) → all_alike_same ts ts (all_alike_itself ts) ≡ refl
  all_itself_same no_terms = refl
  all_itself_same (and_then t ts) = λ j. λ i. and_then (itself_same t j i) (all_itself_same ts j i)

alike_of : (t u : Term) → t ≡ u → Alike t u
alike_of t u e = subst (Alike t) e (alike_itself t)

there_and_back : (t u : Term) (e : t ≡ u) → alike_same t u (alike_of t u e) ≡ e
there_and_back t u e = path_j (λ v x. alike_same t v (alike_of t v x) ≡ x) (ap (alike_same t t) (alike_prop t t (alike_of t t refl) (alike_itself t)) ∙ itself_same t) e

-- Two proofs that two terms are equal are equal.
pub term_set : IsSet Term
term_set t u e x = sym (there_and_back t u e) ∙ ap (alike_same t u) (alike_prop t u (alike_of t u e) (alike_of t u x)) ∙ there_and_back t u x
