use Rattle.std.proofs.Common.{◌≡◌, List, [], ◌∷◌, Bool, true, false, None, sym, subst, rules}
use Rattle.std.specs.List.{All}
use Rattle.std.specs.List.Retain.{RetainsInTurn}
use Rattle.std.specs.Process.{child_status}
use Rattle.std.proofs.lemmas.List.Elements.{All-nil, All-cons}
use Rattle.real_edge.proofs.children.Children.reap.Goals as goal

-- What a call leaves of an element that it keeps holds of all that are kept.
module _ {S X : Type 0} (Call : S → X → Bool → S → X → Type 0) (P : X → Type 0) (kept : (s : S) (x : X) (t : S) (y : X) → Call s x true t y → P y) where
  all_kept : (s : S) (xs ys : List X) → RetainsInTurn Call s xs ys → All P ys
  all_kept s [] ys is = subst (All P) (sym is) (All-nil P)
  all_kept s (x ∷ xs) ys (true, t, y, called, zs, rest, is) = subst (All P) (sym is) (All-cons P y zs (kept s x t y called) (all_kept t xs zs rest))
  all_kept s (x ∷ xs) ys (false, t, y, called, zs, rest, is) = subst (All P) (sym is) (all_kept t xs zs rest)

pub returns-clause-asked : goal.returns-clause-asked
returns-clause-asked g c = all_kept _ (λ child. child_status child ≡ None) (λ s x t y says. search rules) _ _ _ c.retain_mut.ensures.filtered
