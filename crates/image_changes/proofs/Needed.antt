-- All that a walk finds is needed: where an item stood at the number of a change, the change makes another of it.
use Rattle.std.proofs.Common.{◌≡◌, ◌∙◌, ◌+◌, ℕ, zero, suc, List, [], ◌∷◌, ◌++◌, drop, take, map, slice_get, Option, Some, refl, sym, subst, add-one, inl, inr}
use Rattle.std.specs.List.{AllByRecursion as AllAre}
use Rattle.std.specs.Ordering.{nat_cmp}
use Rattle.std.specs.declared.cmp.Ordering.TheVariants.{Less}
use Rattle.std.proofs.lemmas.Cmp.{nat_cmp_total}
use Rattle.model_values.proofs.CellGrowth.{all_append}
use Rattle.model_values.specs.declared.cell.Cell.{Cell}
use Rattle.model_run.specs.Fitting.{Rises}
use Rattle.delta_form.specs.declared.delta.NumberedCell.{NumberedCell}
use Rattle.delta_form.proofs.Orders.{all_to}
use Rattle.image_changes.specs.Least.{AllNeeded, CellDiffers, CellsDiffer}
use Rattle.image_changes.specs.Walks.{Above, Adds, Changes, Goes, NotesCell, Passed, Stays}
use Rattle.image_changes.specs.declared.walk.Walk.{Walk}
use Rattle.image_changes.proofs.Finding.{differs}
use Rattle.image_changes.proofs.Gets.{all_more, from_item}
use Rattle.image_changes.proofs.Rising.{rises_above, rises_drop}
use Rattle.image_changes.proofs.Reaching.{added_reaches, left_reaches, stayed_reaches}

-- ---- lists

all_halves : {X : Type 0} (P : X → Type 0) (n : ℕ) (xs : List X) → AllAre P (take n xs) → AllAre P (drop n xs) → AllAre P xs
all_halves P zero xs front rest = rest
all_halves P (suc n) [] front rest = tt
all_halves P (suc n) (x ∷ xs) front rest = (front.0, all_halves P n xs front.1 rest)

-- ---- cells

pub cell_differs : (before : List Cell) (place : ℕ) (cell : Cell) (old new : List NumberedCell) → NotesCell before place cell old new → CellsDiffer before old → CellsDiffer before new
cell_differs before place cell old new (inl same) all = subst (CellsDiffer before) (sym same.1) all
cell_differs before place cell old new (inr (unlike, (w, writes, is))) all =
    subst (CellsDiffer before) (sym is)
    (all_append (λ c. CellDiffers (slice_get before c.number) c.cell) old (record { number = place; cell = w } ∷ []) all ((λ stays. unlike (sym stays ∙ writes.0), writes.1), tt))

-- ---- items by numbers

module _ {C X : Type 0} (by : X → ℕ) (number : C → ℕ) (made : C → Option X → Option (Option X)) (shortest : C → X → Type 0) (before now : List X) (rise_before : Rises (map by before)) (rise_now : Rises (map by now)) where
  abbrev Here : Walk C → Type 0
  Here walk = Goes by number made shortest before now walk

  abbrev IsNeeded : C → Type 0
  IsNeeded c = AllAre (λ x. by x ≡ number c → ¬ (made c (Some x) ≡ Some (Some x)) × shortest c x) before

  -- an item now is passed, and all that was passed is below the rest
  passed_now : (had has : ℕ) (n : X) → slice_get now has ≡ Some n → AllAre (λ b. Above nat_cmp by (by b) (drop has now)) (take had before) → AllAre (λ b. Above nat_cmp by (by b) (drop (suc has) now)) (take had before)
  passed_now had has n at all =
      all_to (λ b. Above nat_cmp by (by b) (drop has now)) (λ b. Above nat_cmp by (by b) (drop (suc has) now))
      (λ b above. let rest : Above nat_cmp by (by b) (n ∷ drop (suc has) now) = subst (λ (l : List X). Above nat_cmp by (by b) l) (from_item now has n at) above in rest.1) (take had before) all

  -- what was passed is not at the number of an item that was not
  passed_differs : (had has : ℕ) (n : X) → slice_get now has ≡ Some n → AllAre (λ b. Above nat_cmp by (by b) (drop has now)) (take had before) → AllAre (λ b. by b ≡ by n → ⊥) (take had before)
  passed_differs had has n at all =
      all_to (λ b. Above nat_cmp by (by b) (drop has now)) (λ b. by b ≡ by n → ⊥)
      (λ b above. let rest : Above nat_cmp by (by b) (n ∷ drop (suc has) now) = subst (λ (l : List X). Above nat_cmp by (by b) l) (from_item now has n at) above in differs nat_cmp nat_cmp_total (by b) (by n) rest.0) (take had before) all

  above_differs : (m : ℕ) (xs : List X) → Above nat_cmp by m xs → AllAre (λ b. by b ≡ m → ⊥) xs
  above_differs m xs above = all_to (λ b. nat_cmp m (by b) ≡ Less) (λ b. by b ≡ m → ⊥) (λ b less same. differs nat_cmp nat_cmp_total m (by b) less (sym same)) xs above

  -- nothing stood at the number of an item that is new
  none_stood : (had has : ℕ) (n : X) → slice_get now has ≡ Some n → Above nat_cmp by (by n) (drop had before) → AllAre (λ b. Above nat_cmp by (by b) (drop has now)) (take had before) → AllAre (λ b. by b ≡ by n → ⊥) before
  none_stood had has n at above all = all_halves (λ b. by b ≡ by n → ⊥) had before (passed_differs had has n at all) (above_differs (by n) (drop had before) above)

  -- one item alone stood at the number of an item that stood
  one_stood : (had has : ℕ) (b n : X) → by b ≡ by n → slice_get before had ≡ Some b → slice_get now has ≡ Some n → AllAre (λ x. Above nat_cmp by (by x) (drop has now)) (take had before) → AllAre (λ x. by x ≡ by n → x ≡ b) before
  one_stood had has b n same at_before at_now all =
      let item = from_item before had b at_before in
      let above : Above nat_cmp by (by b) (drop (suc had) before) = rises_above by b (drop (suc had) before) (subst (λ (l : List X). Rises (map by l)) item (rises_drop by had before rise_before)) in
      let others : AllAre (λ x. by x ≡ by n → x ≡ b) (drop (suc had) before) =
      all_to (λ x. nat_cmp (by b) (by x) ≡ Less) (λ x. by x ≡ by n → x ≡ b) (λ x less is. absurd (differs nat_cmp nat_cmp_total (by b) (by x) less (same ∙ sym is))) (drop (suc had) before) above in
      let rest : AllAre (λ x. by x ≡ by n → x ≡ b) (b ∷ drop (suc had) before) = (λ is. refl, others) in
      all_halves (λ x. by x ≡ by n → x ≡ b) had before
      (all_to (λ x. by x ≡ by n → ⊥) (λ x. by x ≡ by n → x ≡ b) (λ x no is. absurd (no is)) (take had before) (passed_differs had has n at_now all))
      (subst (λ (l : List X). AllAre (λ x. by x ≡ by n → x ≡ b) l) (sym item) rest)

  added_needed : (n : X) (c : C) → number c ≡ by n → AllAre (λ b. by b ≡ by n → ⊥) before → IsNeeded c
  added_needed n c its none = all_to (λ x. by x ≡ by n → ⊥) (λ x. by x ≡ number c → ¬ (made c (Some x) ≡ Some (Some x)) × shortest c x) (λ x no is. absurd (no (is ∙ its))) before none

  changed_needed : (b n : X) (c : C) → Changes by number made shortest b n c → AllAre (λ x. by x ≡ by n → x ≡ b) before → IsNeeded c
  changed_needed b n c (unlike, its, makes, short) one = all_to (λ x. by x ≡ by n → x ≡ b) (λ x. by x ≡ number c → ¬ (made c (Some x) ≡ Some (Some x)) × shortest c x) (λ x same is. it x (same (is ∙ its))) before one
    where
      it : (x : X) → x ≡ b → ¬ (made c (Some x) ≡ Some (Some x)) × shortest c x
      it x same = (
        λ stays.
            let here : made c (Some b) ≡ Some (Some b) = subst (λ (y : X). made c (Some y) ≡ Some (Some y)) same stays in
            let both : Some (Some b) ≡ Some (Some n) = sym here ∙ makes in
            let no : b ≡ n = cc in unlike no,
        subst (λ (y : X). shortest c y) (sym same) short,
      )

  pub left_goes : (old new : Walk C) (b : X) → slice_get before old.had ≡ Some b → Above nat_cmp by (by b) (drop old.has now)
      → new ≡ record old { had = old.had + 1; gone = old.gone ++ by b ∷ [] } → Here old → Here new
  left_goes old new b at above is goes = record {
    reaches = left_reaches by number made before now rise_before rise_now old new b at above is goes.reaches;
    passed = subst (Passed by before now) (sym is)
        (subst (λ (k : ℕ). AllAre (λ x. Above nat_cmp by (by x) (drop old.has now)) (take k before)) (sym (add-one old.had)) (all_more (λ x. Above nat_cmp by (by x) (drop old.has now)) before old.had b at goes.passed above));
    needed = subst (λ (w : Walk C). AllNeeded by number made shortest before w.written) (sym is) goes.needed;
  }

  pub added_goes : (old new : Walk C) (n : X) → slice_get now old.has ≡ Some n → Above nat_cmp by (by n) (drop old.had before) → Adds by number made old n new → Here old → Here new
  added_goes old new n at above (c, its, makes, is) goes = record {
    reaches = added_reaches by number made before now rise_before rise_now old new n at above (c, its, makes, is) goes.reaches;
    passed = subst (Passed by before now) (sym is)
        (subst (λ (k : ℕ). AllAre (λ x. Above nat_cmp by (by x) (drop k now)) (take old.had before)) (sym (add-one old.has)) (passed_now old.had old.has n at goes.passed));
    needed = subst (λ (w : Walk C). AllNeeded by number made shortest before w.written) (sym is)
        (all_append IsNeeded old.written (c ∷ []) goes.needed (added_needed n c its (none_stood old.had old.has n at above goes.passed), tt));
  }

  -- what is passed that stood
  passed_both : (had has : ℕ) (b n : X) → by b ≡ by n → slice_get before had ≡ Some b → slice_get now has ≡ Some n → AllAre (λ x. Above nat_cmp by (by x) (drop has now)) (take had before)
      → AllAre (λ x. Above nat_cmp by (by x) (drop (has + 1) now)) (take (had + 1) before)
  passed_both had has b n same at_before at_now all =
      let above : Above nat_cmp by (by n) (drop (suc has) now) = rises_above by n (drop (suc has) now) (subst (λ (l : List X). Rises (map by l)) (from_item now has n at_now) (rises_drop by has now rise_now)) in
      subst (λ (k : ℕ). AllAre (λ x. Above nat_cmp by (by x) (drop k now)) (take (had + 1) before)) (sym (add-one has))
      (subst (λ (k : ℕ). AllAre (λ x. Above nat_cmp by (by x) (drop (suc has) now)) (take k before)) (sym (add-one had))
      (all_more (λ x. Above nat_cmp by (by x) (drop (suc has) now)) before had b at_before (passed_now had has n at_now all) (subst (λ (k : ℕ). Above nat_cmp by k (drop (suc has) now)) (sym same) above)))

  pub stayed_goes : (old new : Walk C) (b n : X) → by b ≡ by n → slice_get before old.had ≡ Some b → slice_get now old.has ≡ Some n → Stays by number made shortest old b n new → Here old → Here new
  stayed_goes old new b n same at_before at_now (inl (is_same, is)) goes = record {
    reaches = stayed_reaches by number made before now rise_before rise_now shortest old new b n same at_before at_now (inl (is_same, is)) goes.reaches;
    passed = subst (Passed by before now) (sym is) (passed_both old.had old.has b n same at_before at_now goes.passed);
    needed = subst (λ (w : Walk C). AllNeeded by number made shortest before w.written) (sym is) goes.needed;
  }
  stayed_goes old new b n same at_before at_now (inr (c, changes, is)) goes = record {
    reaches = stayed_reaches by number made before now rise_before rise_now shortest old new b n same at_before at_now (inr (c, changes, is)) goes.reaches;
    passed = subst (Passed by before now) (sym is) (passed_both old.had old.has b n same at_before at_now goes.passed);
    needed = subst (λ (w : Walk C). AllNeeded by number made shortest before w.written) (sym is)
        (all_append IsNeeded old.written (c ∷ []) goes.needed (changed_needed b n c changes (one_stood old.had old.has b n same at_before at_now goes.passed), tt));
  }
