-- The parts of a sound build are such that a heap, a flow graph and a group of threads can be made of them.
use Rattle.std.proofs.Common.{◌≡◌, ◌<◌, ◌≤◌, ◌∙◌, ◌+◌, ◌++◌, ℕ, suc, Bool, List, [], ◌∷◌, length, map, take, get_or, Option, Some, None, slice_get, refl, sym, ap, arith}
use Rattle.std.specs.List.{All, AllByRecursion as AllAre}
use Rattle.std.proofs.lemmas.List.Elements.{All-nil, All-cons}
use Rattle.std.proofs.lemmas.Option.{get_or_from_slice_get, slice_get_within}
use Rattle.std.proofs.Math.Seq.{take-suc}
use Rattle.model_values.specs.Cells.{cell_size}
use Rattle.model_values.specs.Fitting.{CellFits, CellsFit, HasVariable, There}
use Rattle.model_values.specs.declared.cell.Cell.{Cell}
use Rattle.model_values.specs.declared.cell.Cell.TheVariants.{Variable, Text as TextCell, List as ListCell, Map as MapCell, Closure as ClosureCell, Thrown as ThrownCell}
use Rattle.model_values.specs.declared.value.Value.{Value}
use Rattle.model_values.specs.declared.value.Value.TheVariants.{Null, Bool as Truth, Int as Whole, Cell as InCell}
use Rattle.model_values.specs.declared.cell.Binding.{Binding}
use Rattle.model_values.proofs.LaterLaws.{all_weaker}
use Rattle.cell_heap.specs.Soundness.{AreSound, CellBelow, IsSoundIn, ValueBelow}
use Rattle.model_run.specs.declared.flow.FlowNode.{FlowNode}
use Rattle.model_run.specs.declared.wait.Wait.{Wait}
use Rattle.model_run.specs.declared.wait.Wait.TheVariants.{Ready, Request as RequestWait, Branches as BranchesWait}
use Rattle.model_run.specs.Fitting.{NodesFit, NotReady, Rise, Seat}
use Rattle.flow_graph.specs.Numbers.{AreNumbered, NumberedFrom}
use Rattle.green_threads.specs.declared.runner.Seated.{Seated}
use Rattle.green_threads.specs.Grouping.{Grouped, IsSeated, one_ready, ready_count}
use Rattle.settle_laws.specs.Stances.{Stance}
use Rattle.settle_laws.specs.Standing.{Rising}
use Rattle.saved_thread.specs.Lower.thread_fits.Seats.{as_seat}

-- cells that name what is there
all_from : {A : Type 0} (P : A → Type 0) (xs : List A) → AllAre P xs → All P xs
all_from P [] h = All-nil P
all_from P (x ∷ xs) h = All-cons P x xs h.0 (all_from P xs h.1)

value_below : (h : List Cell) (v : Value) → There h v → ValueBelow (length h) v
value_below h (InCell c) k = k
value_below h Null k = tt
value_below h (Truth b) k = tt
value_below h (Whole n) k = tt

variable_within : (h : List Cell) (n : ℕ) → HasVariable (slice_get h n) → n < length h
variable_within h n k = go (slice_get h n) refl k
  where
    go : (o : Option Cell) → slice_get h n ≡ o → HasVariable o → n < length h
    go None e k = absurd k
    go (Some c) e k = slice_get_within h n c e

cell_below : (rule : ℕ → List Binding → Type 0) (h : List Cell) (c : Cell) → CellFits rule h c → CellBelow (length h) c
cell_below rule h (Variable v) k = value_below h v k
cell_below rule h (TextCell t) k = tt
cell_below rule h (ListCell vs) k = all_from (ValueBelow (length h)) vs (all_weaker _ _ (value_below h) vs k)
cell_below rule h (MapCell es) k = all_from (λ e. ValueBelow (length h) e.1) es (all_weaker _ _ (λ e there. value_below h e.1 there) es k)
cell_below rule h (ClosureCell node env) k = all_from (λ (b : Binding). b.cell < length h) env (all_weaker _ _ (λ b is. variable_within h b.cell is) env k.1)
cell_below rule h (ThrownCell class m) k = tt

pub cells_sound : (rule : ℕ → List Binding → Type 0) (h : List Cell) → CellsFit rule h → AllAre (λ c. cell_size c < 2147483648) h → AreSound h
cells_sound rule h fit short = all_from (IsSoundIn (length h)) h (go h fit short)
  where
    go : (cs : List Cell) → AllAre (CellFits rule h) cs → AllAre (λ c. cell_size c < 2147483648) cs → AllAre (IsSoundIn (length h)) cs
    go [] k s = tt
    go (c ∷ cs) k s = (record { below = cell_below rule h c k.0; small = s.0 }, go cs k.1 s.1)

-- flow nodes by their numbers
numbered : (id : ℕ) (ns : List FlowNode) → NodesFit id ns → NumberedFrom id ns
numbered id [] h = tt
numbered id (n ∷ ns) h = (h.0, numbered (suc id) ns h.3)

pub nodes_numbered : (ns : List FlowNode) → 0 < length ns → NodesFit 2 ns → AreNumbered ns
nodes_numbered ns some h = record { some = some; numbered = numbered 2 ns h }

-- threads by their numbers, of which none is ready
zero_ready : (w : Wait) → NotReady w → one_ready w ≡ 0
zero_ready (Ready x) h = absurd h
zero_ready (RequestWait r) h = refl
zero_ready (BranchesWait js) h = refl

pub ready_none : (w : Wait) → one_ready w ≤ 0 → NotReady w
ready_none (Ready x) h = omega (arith, h)
ready_none (RequestWait r) h = tt
ready_none (BranchesWait js) h = tt

module _ {T : Type 0} where
  pub grouped : (number : T → ℕ) (parent : T → Option ℕ) (branch : T → Bool) (low next : ℕ) (xs : List (Seated T)) → low ≤ next → Rise low next (map (λ (x : Seated T). x.number) xs) → AllAre (IsSeated number parent branch) xs → Grouped number parent branch low xs next
  grouped number parent branch low next [] le r s = le
  grouped number parent branch low next (x ∷ xs) le r s = let lt : x.number < next = r.1 in (r.0, s.0, grouped number parent branch (suc x.number) next xs (omega (arith, lt)) r.2 s.1)

  pub rising : (low next : ℕ) (xs : List (Seated T)) → low ≤ next → Rise low next (map (λ (x : Seated T). x.number) xs) → Rising low xs next
  rising low next [] le r = le
  rising low next (x ∷ xs) le r = let lt : x.number < next = r.1 in (r.0, rising (suc x.number) next xs (omega (arith, lt)) r.2)

  -- and back
  pub numbers_rise : (number : T → ℕ) (parent : T → Option ℕ) (branch : T → Bool) (low next : ℕ) (xs : List (Seated T)) → Grouped number parent branch low xs next → (low ≤ next) × Rise low next (map (λ (x : Seated T). x.number) xs)
  numbers_rise number parent branch low next [] g = (g, tt)
  numbers_rise number parent branch low next (x ∷ xs) g =
      let more = numbers_rise number parent branch (suc x.number) next xs g.2 in
      let le : low ≤ x.number = g.0 in
      let lt : suc x.number ≤ next = more.0 in
      (omega (arith, le, lt), (le, omega (arith, lt), more.1))

  module _ (stance : T → Stance) where
    pub none_ready : (xs : List (Seated T)) → AllAre (λ (t : Seat). NotReady t.wait) (map (as_seat stance) xs) → ready_count xs ≤ 0
    none_ready [] h = omega arith
    none_ready (x ∷ xs) h = let e : one_ready x.wait ≡ 0 = zero_ready x.wait h.0 in let more : ready_count xs ≤ 0 = none_ready xs h.1 in omega (arith, e, more)

    pub all_rest : (xs : List (Seated T)) → ready_count xs ≤ 0 → AllAre (λ (x : Seated T). NotReady x.wait) xs
    all_rest [] h = tt
    all_rest (x ∷ xs) h = (ready_none x.wait (omega (arith, h)), all_rest xs (omega (arith, h)))

-- one item more of a list that is gone through
pub one_more : {A : Type 0} (xs : List A) (i : ℕ) (x : A) (ys ys' : List A) → x ≡ get_or xs i x → i < length xs → ys ≡ take i xs → ys' ≡ ys ++ x ∷ [] → ys' ≡ take (i + 1) xs
one_more xs i x ys ys' is lt so new =
    let next : i + 1 ≡ suc i = omega arith in
    new ∙ ap (λ zs. zs ++ x ∷ []) so ∙ ap (λ y. take i xs ++ y ∷ []) is ∙ sym (take-suc xs i x lt) ∙ ap (λ k. take k xs) (sym next)

pub one_found : {A : Type 0} (xs : List A) (i : ℕ) (x : A) (ys ys' : List A) → slice_get xs i ≡ Some x → ys ≡ take i xs → ys' ≡ ys ++ x ∷ [] → ys' ≡ take (i + 1) xs
one_found xs i x ys ys' got so new = one_more xs i x ys ys' (sym (get_or_from_slice_get xs i x x got)) (slice_get_within xs i x got) so new
