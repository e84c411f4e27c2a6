-- Cells that are put among others, or behind them, one place after the other; and flow nodes that are put behind.
use Rattle.std.proofs.Common.{◌≡◌, ◌∙◌, ◌<◌, ◌≤◌, ◌+◌, ◌^◌, ℕ, suc, Bool, List, [], ◌∷◌, ◌++◌, length, map, set, slice_get, Option, Some, None, refl, sym, ap, subst, append_assoc, arith, length-append}
use Rattle.std.specs.Prelude.{if◌then◌else◌}
use Rattle.std.specs.List.{AllByRecursion as AllAre}
use Rattle.std.specs.Ordering.{nat_cmp, on}
use Rattle.std.specs.declared.cmp.Ordering.TheVariants.{Less}
use Rattle.std.proofs.Math.Seq.{set-append_seam}
use Rattle.std.proofs.lemmas.Bool.{lt-ltb}
use Rattle.std.proofs.lemmas.List.{append-nil}
use Rattle.field_form.specs.Flow.{with_id}
use Rattle.model_values.specs.declared.cell.Cell.{Cell}
use Rattle.model_run.specs.declared.flow.FlowNode.{FlowNode}
use Rattle.model_run.specs.Fitting.{NodesFit}
use Rattle.delta_form.specs.Applying.{◌>>=◌, in_turn}
use Rattle.delta_form.specs.After.{put_cell, put_node, written_cell}
use Rattle.delta_form.specs.Deltas.{new_node_parts}
use Rattle.delta_form.specs.declared.delta.NumberedCell.{NumberedCell}
use Rattle.delta_form.specs.declared.delta.WrittenCell.{WrittenCell}
use Rattle.delta_form.proofs.Orders.{all_to}
use Rattle.delta_form.proofs.PutCells.{put_behind, put_inside}
use Rattle.image_changes.specs.Parts.{as_new}
use Rattle.image_changes.specs.Walks.{PutsFrom}
use Rattle.image_changes.proofs.Turns.{less_is, rises_with}

abbrev pub numbered : ℕ → WrittenCell → NumberedCell
numbered place w = record { number = place; cell = w }

one_longer : (front : List Cell) (cell : Cell) (place : ℕ) → length front ≡ place → length (front ++ cell ∷ []) ≡ suc place
one_longer front cell place is = omega (arith, is, length-append front (cell ∷ []))

-- the cell at a place, in a list that is longer
seam : (front bs : List Cell) (b : Cell) → slice_get (front ++ b ∷ bs) (length front) ≡ Some b
seam [] bs b = refl
seam (f ∷ front) bs b = seam front bs b

replaced : (front bs : List Cell) (b n : Cell) (w : WrittenCell) (place : ℕ) → length front ≡ place → written_cell w (Some b) ≡ Some n → put_cell (numbered place w) (front ++ b ∷ bs) ≡ Some (front ++ n ∷ bs)
replaced front bs b n w place is makes =
    put_inside (numbered place w) (front ++ b ∷ bs) b n (omega (arith, is, length-append front (b ∷ bs))) (subst (λ (k : ℕ). slice_get (front ++ b ∷ bs) k ≡ Some b) is (seam front bs b)) makes
    ∙ ap (λ (k : ℕ). Some (set (front ++ b ∷ bs) k n)) (sym is) ∙ ap (λ (l : List Cell). Some l) (set-append_seam front b bs n)

-- the cell behind all
behind : (front : List Cell) (n : Cell) (w : WrittenCell) (place : ℕ) → length front ≡ place → written_cell w None ≡ Some n → put_cell (numbered place w) front ≡ Some (front ++ n ∷ [])
behind front n w place is makes = put_behind (numbered place w) front n (sym is) makes

abbrev from_behind : (place : ℕ) (cells : List NumberedCell) → AllAre (λ c. suc place ≤ c.number) cells → AllAre (λ c. place ≤ c.number) cells
from_behind place cells all = all_to (λ c. suc place ≤ c.number) (λ c. place ≤ c.number) (λ c le. omega (arith, le)) cells all

below_cells : (place : ℕ) (cells : List NumberedCell) → AllAre (λ c. suc place ≤ c.number) cells → AllAre (λ c. nat_cmp place c.number ≡ Less) cells
below_cells place cells all = all_to (λ c. suc place ≤ c.number) (λ c. nat_cmp place c.number ≡ Less) (λ c le. less_is place c.number (omega (arith, le))) cells all

module _ (place : ℕ) (bs ns : List Cell) (cells : List NumberedCell) (puts : PutsFrom (suc place) bs ns cells) where
  pub cell_stays : (b : Cell) → PutsFrom place (b ∷ bs) (b ∷ ns) cells
  cell_stays b = record {
    made = λ front is.
        ap (in_turn put_cell cells) (sym (append_assoc front (b ∷ []) bs)) ∙ puts.made (front ++ b ∷ []) (one_longer front b place is)
        ∙ ap (λ (l : List Cell). Some l) (append_assoc front (b ∷ []) ns);
    from = from_behind place cells puts.from;
    rise = puts.rise;
  }

  pub cell_changed : (b n : Cell) (w : WrittenCell) → written_cell w (Some b) ≡ Some n → PutsFrom place (b ∷ bs) (n ∷ ns) (numbered place w ∷ cells)
  cell_changed b n w makes = record {
    made = λ front is.
        ap (λ (o : Option (List Cell)). o >>= in_turn put_cell cells) (replaced front bs b n w place is makes)
        ∙ ap (in_turn put_cell cells) (sym (append_assoc front (n ∷ []) bs)) ∙ puts.made (front ++ n ∷ []) (one_longer front n place is)
        ∙ ap (λ (l : List Cell). Some l) (append_assoc front (n ∷ []) ns);
    from = (omega arith, from_behind place cells puts.from);
    rise = rises_with (on (λ (c : NumberedCell). c.number) nat_cmp) (numbered place w) cells (below_cells place cells puts.from) puts.rise;
  }

-- behind the last cell from before
pub cell_added : (place : ℕ) (ns : List Cell) (cells : List NumberedCell) (n : Cell) (w : WrittenCell) → written_cell w None ≡ Some n → PutsFrom (suc place) [] ns cells → PutsFrom place [] (n ∷ ns) (numbered place w ∷ cells)
cell_added place ns cells n w makes puts = record {
  made = λ front is.
      ap (λ (l : List Cell). in_turn put_cell (numbered place w ∷ cells) l) (append-nil front)
      ∙ ap (λ (o : Option (List Cell)). o >>= in_turn put_cell cells) (behind front n w place is makes)
      ∙ ap (in_turn put_cell cells) (sym (append-nil (front ++ n ∷ []))) ∙ puts.made (front ++ n ∷ []) (one_longer front n place is)
      ∙ ap (λ (l : List Cell). Some l) (append_assoc front (n ∷ []) ns);
  from = (omega arith, from_behind place cells puts.from);
  rise = rises_with (on (λ (c : NumberedCell). c.number) nat_cmp) (numbered place w) cells (below_cells place cells puts.from) puts.rise;
}

pub no_cells : (place : ℕ) → PutsFrom place [] [] []
no_cells place = record { made = λ front is. refl; from = tt; rise = refl }

-- ---- flow nodes

fits_behind : (id : ℕ) (bs ns : List FlowNode) → NodesFit id (bs ++ ns) → NodesFit (id + length bs) ns
fits_behind id [] ns fit = subst (λ (n : ℕ). NodesFit n ns) (omega arith) fit
fits_behind id (b ∷ bs) ns fit = subst (λ (n : ℕ). NodesFit n ns) (omega arith) (fits_behind (suc id) bs ns fit.3)

-- nodes that are numbered on are put behind
pub nodes_put : (bs ns : List FlowNode) → NodesFit (length bs + 2) ns → AllAre (λ n. n.id < 2 ^ 32) ns → in_turn put_node (map as_new ns) bs ≡ Some (bs ++ ns)
nodes_put bs [] fit few = ap (λ (l : List FlowNode). Some l) (sym (append-nil bs))
nodes_put bs (n ∷ ns) fit few =
    let low : length bs < 4294967294 = omega (arith, few.0, fit.0) in
    let same : with_id (length bs + 2) (new_node_parts (as_new n)) ≡ n = ap (λ (id : ℕ). record n { id = id }) (sym fit.0) in
    let long : suc (length bs + 2) ≡ length (bs ++ n ∷ []) + 2 = omega (arith, length-append bs (n ∷ [])) in
    ap (λ (t : Bool). (if t then Some (bs ++ with_id (length bs + 2) (new_node_parts (as_new n)) ∷ []) else None) >>= in_turn put_node (map as_new ns)) (lt-ltb (length bs) 4294967294 low)
    ∙ ap (λ (m : FlowNode). in_turn put_node (map as_new ns) (bs ++ m ∷ [])) same
    ∙ nodes_put (bs ++ n ∷ []) ns (subst (λ (id : ℕ). NodesFit id ns) long fit.3) few.1
    ∙ ap (λ (l : List FlowNode). Some l) (append_assoc bs (n ∷ []) ns)

pub nodes_behind : (bs ns : List FlowNode) → NodesFit 2 (bs ++ ns) → AllAre (λ n. n.id < 2 ^ 32) ns → in_turn put_node (map as_new ns) bs ≡ Some (bs ++ ns)
nodes_behind bs ns fit few = nodes_put bs ns (subst (λ (n : ℕ). NodesFit n ns) (omega arith) (fits_behind 2 bs ns fit)) few
