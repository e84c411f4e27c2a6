-- `same_key` tells just the equal keys, so it is an equivalence, and `key_cmp` is a total order that ties just these.
use Rattle.std.specs.Prelude.{ℕ, nat_eq, Bool, true, false, ◌≡◌, ◌&&◌, List, [], ◌∷◌, Some, refl}
use Rattle.std.proofs.Common.{ap}
use Rattle.std.specs.Bool.{Decides}
use Rattle.std.specs.Cmp.{IsEquivalence, IsTotalOrder, IsPartialOrder, decided, signed_Decides, unsigned_Decides, int_cmp_total, po}
use Rattle.std.specs.Cmp.Lexicographic.{pointwise, nat_list_cmp_total, texts_ties}
use Rattle.std.specs.Ordering.{eq_by_cmp, ordering_reverse}
use Rattle.std.specs.declared.cmp.Ordering.TheVariants.{Less, Equal}
use Rattle.model_values.specs.declared.key.Key.{Key}
use Rattle.model_values.specs.declared.key.Key.TheVariants.{Int as IntKey, Text as TextKey}
use Rattle.model_values.specs.Keys.{same_key, key_cmp}

and_parts : (a b : Bool) → (a && b) ≡ true → (a ≡ true) × (b ≡ true)
and_parts true b e = (refl, e)
and_parts false b e = cc

pub bytes_decide : (s t : List ℕ) → Decides (pointwise nat_eq s t) (s ≡ t)
bytes_decide [] [] = (λ e. refl, λ e. refl)
bytes_decide [] (y ∷ ys) = (λ e. cc, λ e. cc)
bytes_decide (x ∷ xs) [] = (λ e. cc, λ e. cc)
bytes_decide (x ∷ xs) (y ∷ ys) =
    let d = unsigned_Decides x y in
    let r = bytes_decide xs ys in (
      λ e. let p = and_parts _ _ e in let k = d.0 p.0 in let q = r.0 p.1 in cc,
      λ e. let k : x ≡ y = cc in let q : xs ≡ ys = cc in let k' = d.1 k in let q' = r.1 q in rw (k', q') refl,
    )

pub same_key_decides : (a b : Key) → Decides (same_key a b) (a ≡ b)
same_key_decides (IntKey x) (IntKey y) =
    let d = signed_Decides x y in (λ e. ap IntKey (d.0 e), λ e. let k : x ≡ y = cc in d.1 k)
same_key_decides (IntKey x) (TextKey t) = (λ e. cc, λ e. cc)
same_key_decides (TextKey s) (IntKey y) = (λ e. cc, λ e. cc)
same_key_decides (TextKey s) (TextKey t) =
    let d = bytes_decide s t in (λ e. ap TextKey (d.0 e), λ e. let k : s ≡ t = cc in d.1 k)

pub same_key_equiv : IsEquivalence same_key
same_key_equiv = decided same_key same_key_decides

pub key_cmp_total : IsTotalOrder key_cmp
key_cmp_total = record { antisymm = turned; trans = chained; congr = alike }
  where
    turned : (x y : Key) → key_cmp x y ≡ ordering_reverse (key_cmp y x)
    turned (IntKey x) (IntKey y) = int_cmp_total.antisymm x y
    turned (IntKey x) (TextKey t) = refl
    turned (TextKey s) (IntKey y) = refl
    turned (TextKey s) (TextKey t) = nat_list_cmp_total.antisymm s t

    chained : (x y z : Key) → key_cmp x y ≡ Less → key_cmp y z ≡ Less → key_cmp x z ≡ Less
    chained (IntKey x) (IntKey y) (IntKey z) p q = int_cmp_total.trans x y z p q
    chained (IntKey x) (IntKey y) (TextKey u) p q = refl
    chained (IntKey x) (TextKey t) (IntKey z) p q = cc
    chained (IntKey x) (TextKey t) (TextKey u) p q = refl
    chained (TextKey s) (IntKey y) z p q = cc
    chained (TextKey s) (TextKey t) (IntKey z) p q = cc
    chained (TextKey s) (TextKey t) (TextKey u) p q = nat_list_cmp_total.trans s t u p q

    alike : (x y z : Key) → key_cmp x y ≡ Equal → key_cmp x z ≡ key_cmp y z
    alike (IntKey x) (IntKey y) (IntKey z) p = int_cmp_total.congr x y z p
    alike (IntKey x) (IntKey y) (TextKey u) p = refl
    alike (IntKey x) (TextKey t) z p = cc
    alike (TextKey s) (IntKey y) z p = cc
    alike (TextKey s) (TextKey t) (IntKey z) p = refl
    alike (TextKey s) (TextKey t) (TextKey u) p = nat_list_cmp_total.congr s t u p

pub same_key_ties : (x y : Key) → same_key x y ≡ eq_by_cmp key_cmp x y
same_key_ties (IntKey x) (IntKey y) = refl
same_key_ties (IntKey x) (TextKey t) = refl
same_key_ties (TextKey s) (IntKey y) = refl
same_key_ties (TextKey s) (TextKey t) = texts_ties s t

pub key_cmp_partial : IsPartialOrder same_key (λ x y. Some (key_cmp x y))
key_cmp_partial = po key_cmp_total same_key_ties
