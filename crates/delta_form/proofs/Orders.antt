-- Lists of which each item is below the next.
use Rattle.std.proofs.Common.{◌≡◌, ◌<◌, ℕ, List, [], ◌∷◌, subst}
use Rattle.std.specs.List.{AllByRecursion as AllAre}
use Rattle.std.specs.Ordering.{MatchOrdering, nat_cmp}
use Rattle.std.specs.Cmp.{ranks}
use Rattle.std.specs.declared.cmp.Ordering.{Ordering}
use Rattle.std.specs.declared.cmp.Ordering.TheVariants.{Less}
use Rattle.delta_form.specs.Changes.{EachBelow}

pub all_to : {A : Type 0} (P Q : A → Type 0) → ((x : A) → P x → Q x) → (xs : List A) → AllAre P xs → AllAre Q xs
all_to P Q to [] all = tt
all_to P Q to (x ∷ xs) all = (to x all.0, all_to P Q to xs all.1)

module _ {C : Type 0} (order : C → C → Ordering) where
  pub others_rise : (c : C) (cs : List C) → EachBelow order (c ∷ cs) → EachBelow order cs
  others_rise c [] each = tt
  others_rise c (d ∷ ds) each = each.1

  -- it is below all that follow
  pub above : ((c d e : C) → order c d ≡ Less → order d e ≡ Less → order c e ≡ Less) → (c : C) (ds : List C) → EachBelow order (c ∷ ds) → AllAre (λ d. order c d ≡ Less) ds
  above chain c [] each = tt
  above chain c (d ∷ ds) each = (each.0, all_to (λ e. order d e ≡ Less) (λ e. order c e ≡ Less) (λ e next. chain c d e each.0 next) ds (above chain d ds each.1))

pub less : (m n : ℕ) → nat_cmp m n ≡ Less → m < n
less m n e = subst (λ (o : Ordering). MatchOrdering o (m < n) (m ≡ n) (n < m)) e (ranks m n)
