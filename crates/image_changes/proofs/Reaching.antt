-- What was found so far, and what the rest needs, are what all needs: one item more.
use Rattle.std.proofs.Common.{◌≡◌, ◌∙◌, ◌≤◌, ◌+◌, ℕ, suc, List, [], ◌∷◌, ◌++◌, length, drop, map, slice_get, Option, Some, None, refl, sym, ap, subst, append_assoc, add-one, arith, inl, inr}
use Rattle.std.specs.Prelude.{Bool, if◌then◌else◌}
use Rattle.std.specs.Ordering.{nat_cmp}
use Rattle.std.specs.declared.cmp.Ordering.TheVariants.{Less}
use Rattle.std.proofs.lemmas.List.{append-nil, drop_all}
use Rattle.std.proofs.lemmas.Option.{slice_get_within}
use Rattle.model_values.specs.declared.cell.Binding.{Binding}
use Rattle.model_values.specs.declared.cell.Cell.{Cell}
use Rattle.model_run.specs.Fitting.{NamesRise, Rises}
use Rattle.delta_form.specs.Applying.{◌>>=◌}
use Rattle.delta_form.specs.Changes.{by_number, changed}
use Rattle.delta_form.specs.After.{gone, written_cell}
use Rattle.delta_form.specs.declared.delta.NumberedCell.{NumberedCell}
use Rattle.delta_form.specs.declared.delta.WrittenCell.{WrittenCell}
use Rattle.image_changes.specs.Parts.{PutsBindings, PutsCells, Renews}
use Rattle.image_changes.specs.Walks.{Above, Adds, Binds, BindingsReach, CellsReach, Leads, NotesBinding, NotesCell, PutsFrom, Reaches, Stays}
use Rattle.image_changes.specs.declared.walk.Walk.{Walk}
use Rattle.image_changes.proofs.Gets.{from_end, from_item, past_end}
use Rattle.image_changes.proofs.Rising.{names_above, names_drop, rest_above, rises_above, rises_drop}
use Rattle.image_changes.proofs.Cells.{cell_added, cell_changed, cell_stays, no_cells, numbered}
use Rattle.image_changes.proofs.Steps.{binding_added, binding_stays, item_added, item_gone, item_stays, item_written, nothing_binds, nothing_leads}

-- ---- cells

pub cells_begin : (before now : List Cell) → CellsReach before now 0 []
cells_begin before now = λ more puts. puts

-- an item that was found, before those that the rest needs
one_before : {A : Type 0} (found more : List A) (x : A) → (found ++ x ∷ []) ++ more ≡ found ++ x ∷ more
one_before found more x = append_assoc found (x ∷ []) more

found_before : (before now : List Cell) (place : ℕ) (cell : Cell) (w : WrittenCell) (more : List NumberedCell) → slice_get now place ≡ Some cell → written_cell w (slice_get before place) ≡ Some cell
    → PutsFrom (suc place) (drop (suc place) before) (drop (suc place) now) more → PutsFrom place (drop place before) (drop place now) (numbered place w ∷ more)
found_before before now place cell w more at makes puts = go (slice_get before place) refl
  where
    go : (o : Option Cell) → slice_get before place ≡ o → PutsFrom place (drop place before) (drop place now) (numbered place w ∷ more)
    go (Some b) is =
        subst (λ (bs : List Cell). PutsFrom place bs (drop place now) (numbered place w ∷ more)) (sym (from_item before place b is))
        (subst (λ (ns : List Cell). PutsFrom place (b ∷ drop (suc place) before) ns (numbered place w ∷ more)) (sym (from_item now place cell at))
        (cell_changed place (drop (suc place) before) (drop (suc place) now) more puts b cell w (subst (λ (o : Option Cell). written_cell w o ≡ Some cell) is makes)))
    go None is =
        subst (λ (bs : List Cell). PutsFrom place bs (drop place now) (numbered place w ∷ more)) (sym (from_end before place is))
        (subst (λ (ns : List Cell). PutsFrom place [] ns (numbered place w ∷ more)) (sym (from_item now place cell at))
        (cell_added place (drop (suc place) now) more cell w (subst (λ (o : Option Cell). written_cell w o ≡ Some cell) is makes) (subst (λ (bs : List Cell). PutsFrom (suc place) bs (drop (suc place) now) more) (past_end before place is) puts)))

pub cell_noted : (before now : List Cell) (place : ℕ) (cell : Cell) (old new : List NumberedCell) → slice_get now place ≡ Some cell → NotesCell before place cell old new → CellsReach before now place old → CellsReach before now (suc place) new
cell_noted before now place cell old new at (inl same) reach = λ more puts.
    subst (λ (l : List NumberedCell). PutsFrom 0 before now (l ++ more)) (sym same.1)
    (reach more
    (subst (λ (bs : List Cell). PutsFrom place bs (drop place now) more) (sym (from_item before place cell same.0))
    (subst (λ (ns : List Cell). PutsFrom place (cell ∷ drop (suc place) before) ns more) (sym (from_item now place cell at))
    (cell_stays place (drop (suc place) before) (drop (suc place) now) more puts cell))))
cell_noted before now place cell old new at (inr (unlike, (w, writes, is))) reach = λ more puts.
    subst (λ (l : List NumberedCell). PutsFrom 0 before now (l ++ more)) (sym is)
    (subst (λ (l : List NumberedCell). PutsFrom 0 before now l) (sym (one_before old more (numbered place w)))
    (reach (numbered place w ∷ more) (found_before before now place cell w more at writes.0 puts)))

pub cells_end : (before now : List Cell) (place : ℕ) (found : List NumberedCell) → length before ≤ length now → length now ≤ place → CellsReach before now place found → PutsCells before now found
cells_end before now place found longer all reach =
    let ends : PutsFrom place (drop place before) (drop place now) [] =
    subst (λ (bs : List Cell). PutsFrom place bs (drop place now) []) (sym (drop_all place before (omega (arith, longer, all))))
    (subst (λ (ns : List Cell). PutsFrom place [] ns []) (sym (drop_all place now all)) (no_cells place)) in
    let puts : PutsFrom 0 before now found = subst (λ (l : List NumberedCell). PutsFrom 0 before now l) (append-nil found) (reach [] ends) in
    (puts.made [] refl, puts.rise)

-- ---- variables

pub binding_noted : (before now : List Binding) (had has next : ℕ) (binding : Binding) (old new : List Binding) → NamesRise now → slice_get now has ≡ Some binding
    → NotesBinding before had binding old new next → BindingsReach before now had has old → BindingsReach before now next (suc has) new
binding_noted before now had has next binding old new rise at (inl same) reach = λ more binds.
    let item = from_item now has binding at in
    let above = names_above binding (drop (suc has) now) (subst NamesRise item (names_drop has now rise)) in
    let rest = subst (λ (n : ℕ). Binds (drop n before) (drop (suc has) now) more) (same.1 ∙ add-one had) binds in
    subst (λ (l : List Binding). Binds before now (l ++ more)) (sym same.2)
    (reach more
    (subst (λ (bs : List Binding). Binds bs (drop has now) more) (sym (from_item before had binding same.0))
    (subst (λ (ns : List Binding). Binds (binding ∷ drop (suc had) before) ns more) (sym item)
    (binding_stays binding (drop (suc had) before) (drop (suc has) now) more above rest))))
binding_noted before now had has next binding old new rise at (inr put) reach = λ more binds.
    let item = from_item now has binding at in
    let above = names_above binding (drop (suc has) now) (subst NamesRise item (names_drop has now rise)) in
    let rest = subst (λ (n : ℕ). Binds (drop n before) (drop (suc has) now) more) put.1 binds in
    subst (λ (l : List Binding). Binds before now (l ++ more)) (sym put.2)
    (subst (λ (l : List Binding). Binds before now l) (sym (one_before old more binding))
    (reach (binding ∷ more) (subst (λ (ns : List Binding). Binds (drop had before) ns (binding ∷ more)) (sym item) (binding_added binding (drop had before) (drop (suc has) now) more above rest))))

pub bindings_end : (before now : List Binding) (had has : ℕ) (found : List Binding) → length before ≤ had → length now ≤ has → BindingsReach before now had has found → PutsBindings before now found
bindings_end before now had has found all_before all_now reach =
    let ends : Binds (drop had before) (drop has now) [] =
    subst (λ (bs : List Binding). Binds bs (drop has now) []) (sym (drop_all had before all_before))
    (subst (λ (ns : List Binding). Binds [] ns []) (sym (drop_all has now all_now)) nothing_binds) in
    let binds : Binds before now found = subst (λ (l : List Binding). Binds before now l) (append-nil found) (reach [] ends) in
    (binds.made, binds.rise)

-- ---- items by numbers

module _ {C X : Type 0} (by : X → ℕ) (number : C → ℕ) (made : C → Option X → Option (Option X)) (before now : List X) (rise_before : Rises (map by before)) (rise_now : Rises (map by now)) where
  rest_before : (k : ℕ) (b : X) → slice_get before k ≡ Some b → Above nat_cmp by (by b) (drop (suc k) before)
  rest_before k b at = rises_above by b (drop (suc k) before) (subst (λ (l : List X). Rises (map by l)) (from_item before k b at) (rises_drop by k before rise_before))

  rest_now : (k : ℕ) (n : X) → slice_get now k ≡ Some n → Above nat_cmp by (by n) (drop (suc k) now)
  rest_now k n at = rises_above by n (drop (suc k) now) (subst (λ (l : List X). Rises (map by l)) (from_item now k n at) (rises_drop by k now rise_now))

  -- all that is left now is above this number
  pub now_above : (m k : ℕ) (n : X) → slice_get now k ≡ Some n → nat_cmp m (by n) ≡ Less → Above nat_cmp by m (drop k now)
  now_above m k n at less =
      subst (λ (l : List X). Above nat_cmp by m l) (sym (from_item now k n at))
      (rest_above by m n (drop (suc k) now) less (subst (λ (l : List X). Rises (map by l)) (from_item now k n at) (rises_drop by k now rise_now)))

  pub before_above : (m k : ℕ) (b : X) → slice_get before k ≡ Some b → nat_cmp m (by b) ≡ Less → Above nat_cmp by m (drop k before)
  before_above m k b at less =
      subst (λ (l : List X). Above nat_cmp by m l) (sym (from_item before k b at))
      (rest_above by m b (drop (suc k) before) less (subst (λ (l : List X). Rises (map by l)) (from_item before k b at) (rises_drop by k before rise_before)))

  pub none_above : (xs : List X) (m k : ℕ) → slice_get xs k ≡ None → Above nat_cmp by m (drop k xs)
  none_above xs m k none = subst (λ (l : List X). Above nat_cmp by m l) (sym (from_end xs k none)) tt

  abbrev LeadsFrom : ℕ → ℕ → List ℕ → List C → Type 0
  LeadsFrom had has closed written = Leads by number made (drop had before) (drop has now) closed written

  pub left_reaches : (old new : Walk C) (b : X) → slice_get before old.had ≡ Some b → Above nat_cmp by (by b) (drop old.has now)
      → new ≡ record old { had = old.had + 1; gone = old.gone ++ by b ∷ [] } → Reaches by number made before now old → Reaches by number made before now new
  left_reaches old new b at above is reaches = subst (Reaches by number made before now) (sym is) λ closed written leads.
      let rest : LeadsFrom (suc old.had) old.has closed written = subst (λ (n : ℕ). LeadsFrom n old.has closed written) (add-one old.had) leads in
      let more : LeadsFrom old.had old.has (by b ∷ closed) written =
      subst (λ (bs : List X). Leads by number made bs (drop old.has now) (by b ∷ closed) written) (sym (from_item before old.had b at))
      (item_gone by number made b (drop (suc old.had) before) (drop old.has now) closed written (rest_before old.had b at) above rest) in
      subst (λ (l : List ℕ). Leads by number made before now l (old.written ++ written)) (sym (one_before old.gone closed (by b))) (reaches (by b ∷ closed) written more)

  pub added_reaches : (old new : Walk C) (n : X) → slice_get now old.has ≡ Some n → Above nat_cmp by (by n) (drop old.had before) → Adds by number made old n new → Reaches by number made before now old → Reaches by number made before now new
  added_reaches old new n at above (c, its, makes, is) reaches = subst (Reaches by number made before now) (sym is) λ closed written leads.
      let rest : LeadsFrom old.had (suc old.has) closed written = subst (λ (k : ℕ). LeadsFrom old.had k closed written) (add-one old.has) leads in
      let more : LeadsFrom old.had old.has closed (c ∷ written) =
      subst (λ (ns : List X). Leads by number made (drop old.had before) ns closed (c ∷ written)) (sym (from_item now old.has n at))
      (item_added by number made n c (drop old.had before) (drop (suc old.has) now) closed written its makes above (rest_now old.has n at) rest) in
      subst (λ (l : List C). Leads by number made before now (old.gone ++ closed) l) (sym (one_before old.written written c)) (reaches closed (c ∷ written) more)

  pub stayed_reaches : (shortest : C → X → Type 0) (old new : Walk C) (b n : X) → by b ≡ by n → slice_get before old.had ≡ Some b → slice_get now old.has ≡ Some n → Stays by number made shortest old b n new → Reaches by number made before now old → Reaches by number made before now new
  stayed_reaches shortest old new b n same at_before at_now (inl (is_same, is)) reaches = subst (Reaches by number made before now) (sym is) λ closed written leads.
      let rest : LeadsFrom (suc old.had) (suc old.has) closed written = subst (λ (k : ℕ). LeadsFrom (suc old.had) k closed written) (add-one old.has) (subst (λ (k : ℕ). LeadsFrom k (old.has + 1) closed written) (add-one old.had) leads) in
      let above : Above nat_cmp by (by b) (drop (suc old.has) now) = subst (λ (k : ℕ). Above nat_cmp by k (drop (suc old.has) now)) (sym same) (rest_now old.has n at_now) in
      reaches closed written
      (subst (λ (bs : List X). Leads by number made bs (drop old.has now) closed written) (sym (from_item before old.had b at_before))
      (subst (λ (ns : List X). Leads by number made (b ∷ drop (suc old.had) before) ns closed written) (sym (from_item now old.has n at_now ∙ ap (λ (x : X). x ∷ drop (suc old.has) now) (sym is_same)))
      (item_stays by number made b (drop (suc old.had) before) (drop (suc old.has) now) closed written (rest_before old.had b at_before) above rest)))
  stayed_reaches shortest old new b n same at_before at_now (inr (c, (differs, its, makes, short), is)) reaches = subst (Reaches by number made before now) (sym is) λ closed written leads.
      let rest : LeadsFrom (suc old.had) (suc old.has) closed written = subst (λ (k : ℕ). LeadsFrom (suc old.had) k closed written) (add-one old.has) (subst (λ (k : ℕ). LeadsFrom k (old.has + 1) closed written) (add-one old.had) leads) in
      let more : LeadsFrom old.had old.has closed (c ∷ written) =
      subst (λ (bs : List X). Leads by number made bs (drop old.has now) closed (c ∷ written)) (sym (from_item before old.had b at_before))
      (subst (λ (ns : List X). Leads by number made (b ∷ drop (suc old.had) before) ns closed (c ∷ written)) (sym (from_item now old.has n at_now))
      (item_written by number made b n c (drop (suc old.had) before) (drop (suc old.has) now) closed written same its makes (rest_before old.had b at_before) (rest_now old.has n at_now) rest)) in
      subst (λ (l : List C). Leads by number made before now (old.gone ++ closed) l) (sym (one_before old.written written c)) (reaches closed (c ∷ written) more)

pub renews : {C X : Type 0} (by : X → ℕ) (number : C → ℕ) (made : C → Option X → Option (Option X)) (before now : List X) (walk : Walk C) → length before ≤ walk.had → length now ≤ walk.has
    → Reaches by number made before now walk → Renews by number (by_number by number made) before now walk.gone walk.written
renews {C} {X} by number made before now walk all_before all_now reaches =
    let ends : Leads by number made (drop walk.had before) (drop walk.has now) [] [] =
    subst (λ (bs : List X). Leads by number made bs (drop walk.has now) [] []) (sym (drop_all walk.had before all_before))
    (subst (λ (ns : List X). Leads by number made [] ns [] []) (sym (drop_all walk.has now all_now)) (nothing_leads by number made)) in
    let leads : Leads by number made before now walk.gone walk.written =
    subst (λ (l : List ℕ). Leads by number made before now l walk.written) (append-nil walk.gone)
    (subst (λ (l : List C). Leads by number made before now (walk.gone ++ []) l) (append-nil walk.written) (reaches [] [] ends)) in
    record {
      made =
          ap (λ (t : Bool). if t then changed (by_number by (λ n. n) gone) walk.gone before >>= changed (by_number by number made) walk.written else None) leads.apart
          ∙ ap (λ (o : Option (List X)). o >>= changed (by_number by number made) walk.written) leads.without ∙ leads.made_now;
      gone_rise = leads.closed_rise;
      changes_rise = leads.written_rise;
    }

-- the place behind the variables that stood
pub passed_within : (before : List Binding) (had next : ℕ) (binding : Binding) (old new : List Binding) → NotesBinding before had binding old new next → had ≤ length before → next ≤ length before
passed_within before had next binding old new (inl same) within = let lt = slice_get_within before had binding same.0 in omega (arith, lt, same.1)
passed_within before had next binding old new (inr put) within = omega (arith, within, put.1)
