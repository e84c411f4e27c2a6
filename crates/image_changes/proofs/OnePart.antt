-- Of each part that only gets more, or whose items are replaced in their places, there is one list of what is new or changed.
use Rattle.std.proofs.Common.{◌≡◌, ◌∙◌, ◌<◌, ◌+◌, ℕ, zero, suc, Bool, true, false, List, [], ◌∷◌, ◌++◌, length, map, slice_get, Option, Some, None, refl, sym, ap, subst, append_assoc, arith}
use Rattle.std.specs.Prelude.{if◌then◌else◌, nat_eq, nat_lt, slice_set, IfSome}
use Rattle.std.specs.List.{AllByRecursion as AllAre}
use Rattle.std.specs.Ordering.{nat_cmp}
use Rattle.std.specs.Cmp.Lexicographic.{slice_cmp, nat_list_cmp_total}
use Rattle.std.specs.declared.cmp.Ordering.{Ordering}
use Rattle.std.proofs.lemmas.Bool.{eqb-true, ltb-true}
use Rattle.std.proofs.lemmas.Cmp.{nat_cmp_total}
use Rattle.std.proofs.lemmas.List.{append-nil, append_cancel_left}
use Rattle.std.proofs.lemmas.Map.Lookups.{exact_bytes, exact_unsigned}
use Rattle.field_form.specs.Flow.{with_id}
use Rattle.model_values.specs.declared.cell.Binding.{Binding}
use Rattle.model_values.specs.declared.cell.Cell.{Cell}
use Rattle.model_run.specs.declared.flow.FlowNode.{FlowNode}
use Rattle.delta_form.specs.Applying.{◌>>=◌, in_turn}
use Rattle.delta_form.specs.Changes.{changed}
use Rattle.delta_form.specs.After.{binding_changes, new_binding, put_at, put_cell, put_node, written_cell}
use Rattle.delta_form.specs.Deltas.{new_node_parts}
use Rattle.delta_form.specs.declared.delta.NewNode.{NewNode}
use Rattle.delta_form.specs.declared.delta.NumberedCell.{NumberedCell}
use Rattle.delta_form.specs.declared.delta.WrittenCell.{WrittenCell}
use Rattle.delta_form.proofs.Orders.{all_to}
use Rattle.image_changes.specs.Least.{CellDiffers, CellsDiffer, IsShortCell}
use Rattle.image_changes.specs.Parts.{as_new}
use Rattle.image_changes.proofs.Finding.{Finds, NoneAt, Sorted, at, both_all, finds}
use Rattle.image_changes.proofs.GrownCells.{one_way}
use Rattle.image_changes.proofs.Necessary.{bound}
use Rattle.image_changes.proofs.OneList.{Within, above_none, one_list}

-- ---- cells

set_here : (cells : List Cell) (k : ℕ) (cell : Cell) → k < length cells → slice_get (slice_set cells k cell) k ≡ Some cell
set_here [] k cell lt = absurd (omega (arith, lt))
set_here (c ∷ cells) zero cell lt = refl
set_here (c ∷ cells) (suc k) cell lt = set_here cells k cell (omega (arith, lt))

set_else : (cells : List Cell) (n k : ℕ) (cell : Cell) → ¬ (n ≡ k) → slice_get (slice_set cells n cell) k ≡ slice_get cells k
set_else [] n k cell unlike = refl
set_else (c ∷ cells) zero zero cell unlike = absurd (unlike refl)
set_else (c ∷ cells) zero (suc k) cell unlike = refl
set_else (c ∷ cells) (suc n) zero cell unlike = refl
set_else (c ∷ cells) (suc n) (suc k) cell unlike = set_else cells n k cell (λ same. unlike (ap suc same))

last_here : (cells : List Cell) (cell : Cell) → slice_get (cells ++ cell ∷ []) (length cells) ≡ Some cell
last_here [] cell = refl
last_here (c ∷ cells) cell = last_here cells cell

last_else : (cells : List Cell) (k : ℕ) (cell : Cell) → ¬ (length cells ≡ k) → slice_get (cells ++ cell ∷ []) k ≡ slice_get cells k
last_else [] zero cell unlike = absurd (unlike refl)
last_else [] (suc k) cell unlike = refl
last_else (c ∷ cells) zero cell unlike = refl
last_else (c ∷ cells) (suc k) cell unlike = last_else cells k cell (λ same. unlike (ap suc same))

-- The written cell makes what stands at its number of what stood there.
abbrev Stands : List Cell → List Cell → NumberedCell → Type 0
Stands v w c = (cell : Cell) × (slice_get w c.number ≡ Some cell) × (written_cell c.cell (slice_get v c.number) ≡ Some cell)

-- It does, and all others stand as they stood.
abbrev Puts : NumberedCell → List Cell → List Cell → Type 0
Puts c v w = Stands v w c × ((k : ℕ) → ¬ (c.number ≡ k) → slice_get w k ≡ slice_get v k)

-- this cell stands at its number, and all others stand as they stood
abbrev Lies : NumberedCell → List Cell → Cell → List Cell → Type 0
Lies c v cell w = (slice_get w c.number ≡ Some cell) × ((k : ℕ) → ¬ (c.number ≡ k) → slice_get w k ≡ slice_get v k)

put_one : (c : NumberedCell) (v w : List Cell) → put_cell c v ≡ Some w → Puts c v w
put_one c v w e =
    let now = bound (written_cell c.cell (slice_get v c.number)) (λ cell. put_at c.number cell v) w e in
    let put = go now.0 (nat_lt c.number (length v)) (nat_eq c.number (length v)) refl refl now.2 in
    ((now.0, put.0, now.1), put.1)
  where
    go : (cell : Cell) (inside next : Bool) → nat_lt c.number (length v) ≡ inside → nat_eq c.number (length v) ≡ next
        → (if inside then Some (slice_set v c.number cell) else if next then Some (v ++ cell ∷ []) else None) ≡ Some w → Lies c v cell w
    go cell true next is is_next e =
        let same : slice_set v c.number cell ≡ w = cc in
        subst (Lies c v cell) same (set_here v c.number cell (ltb-true c.number (length v) is), λ k unlike. set_else v c.number k cell unlike)
    go cell false true is is_next e =
        let same : v ++ cell ∷ [] ≡ w = cc in
        let number = eqb-true c.number (length v) is_next in
        subst (Lies c v cell) same
        (subst (λ (n : ℕ). slice_get (v ++ cell ∷ []) n ≡ Some cell) (sym number) (last_here v cell), λ k unlike. last_else v k cell (λ is_k. unlike (number ∙ is_k)))
    go cell false false is is_next e = absurd cc

abbrev PutsAll : List NumberedCell → List Cell → List Cell → Type 0
PutsAll cells v w = AllAre (Stands v w) cells × ((k : ℕ) → NoneAt (λ c. c.number) k cells → slice_get w k ≡ slice_get v k)

puts_all : (cells : List NumberedCell) (v w : List Cell) → Sorted nat_cmp (λ c. c.number) cells → in_turn put_cell cells v ≡ Some w → PutsAll cells v w
puts_all [] v w rise e = let same : v ≡ w = cc in (tt, λ k none. ap (λ (l : List Cell). slice_get l k) (sym same))
puts_all (c ∷ cells) v w rise e = go (λ u. puts_all cells u w rise.1) (put_cell c v) refl e
  where
    -- what stands at a later number stood so before this cell was put
    still : (u : List Cell) (d : NumberedCell) → ¬ (c.number ≡ d.number) → Puts c v u → Stands u w d → Stands v w d
    still u d unlike one (cell, at, makes) = (cell, at, subst (λ (o : Option Cell). written_cell d.cell o ≡ Some cell) (one.1 d.number unlike) makes)

    go : ((u : List Cell) → in_turn put_cell cells u ≡ Some w → PutsAll cells u w) → (o : Option (List Cell)) → put_cell c v ≡ o → (o >>= in_turn put_cell cells) ≡ Some w → PutsAll (c ∷ cells) v w
    go next None is e = absurd cc
    go next (Some u) is e =
        let rest = next u e in
        let one = put_one c v u is in
        let none = above_none nat_cmp nat_cmp_total exact_unsigned (λ (d : NumberedCell). d.number) c.number cells rise.0 in
        let later = both_all (λ d. ¬ (d.number ≡ c.number)) (Stands u w) cells none rest.0 in (
          (
            (one.0.0, rest.1 c.number none ∙ one.0.1, one.0.2),
            all_to (λ d. ¬ (d.number ≡ c.number) × Stands u w d) (Stands v w) (λ d both. still u d (λ same. both.0 (sym same)) one both.1) cells later,
          ),
          λ k none_k. rest.1 k none_k.1 ∙ one.1 k none_k.0,
        )

module _ (before now : List Cell) where
  abbrev IsChanged : NumberedCell → Type 0
  IsChanged c = Stands before now c × CellDiffers (slice_get before c.number) c.cell

  same_cell : (c d : NumberedCell) → c.number ≡ d.number → IsChanged c → IsChanged d → c ≡ d
  same_cell c d same ((cell, at, makes), differs) ((other, at_too, makes_too), differs_too) =
      let both : Some cell ≡ Some other = sym at ∙ ap (slice_get now) same ∙ at_too in
      let stood = ap (slice_get before) same in
      let written = one_way c.cell d.cell (slice_get before d.number) other (ap (written_cell c.cell) (sym stood) ∙ makes ∙ both) makes_too (subst (IsShortCell c.cell) stood differs.1) differs_too.1 in
      ap (λ (n : ℕ). record c { number = n }) same ∙ ap (λ (x : WrittenCell). record d { cell = x }) written

  cells_within : (cs ds : List NumberedCell) → AllAre IsChanged cs → ((k : ℕ) → NoneAt (λ c. c.number) k ds → slice_get now k ≡ slice_get before k) → Within (λ c. c.number) cs ds
  cells_within cs ds changes others = λ k none.
      all_to IsChanged (λ c. ¬ (c.number ≡ k))
      (λ c change its. change.1.0 (change.0.2 ∙ sym change.0.1 ∙ subst (λ (m : ℕ). slice_get now m ≡ slice_get before m) (sym its) (others k none))) cs changes

  changed_all : (cs : List NumberedCell) → AllAre (Stands before now) cs → CellsDiffer before cs → AllAre IsChanged cs
  changed_all cs stands differ = both_all (Stands before now) (λ c. CellDiffers (slice_get before c.number) c.cell) cs stands differ

  pub one_cells : (cs ds : List NumberedCell) → Sorted nat_cmp (λ c. c.number) cs → Sorted nat_cmp (λ c. c.number) ds → in_turn put_cell cs before ≡ Some now → in_turn put_cell ds before ≡ Some now
      → CellsDiffer before cs → CellsDiffer before ds → cs ≡ ds
  one_cells cs ds rise rise_too put put_too differ differ_too =
      let first = puts_all cs before now rise put in
      let second = puts_all ds before now rise_too put_too in
      let changes = changed_all cs first.0 differ in
      let changes_too = changed_all ds second.0 differ_too in
      one_list nat_cmp nat_cmp_total exact_unsigned (λ c. c.number) IsChanged same_cell cs ds rise rise_too changes changes_too (cells_within cs ds changes second.1) (cells_within ds cs changes_too first.1)

-- ---- flow nodes

abbrev NodesNew : List NewNode → List FlowNode → List FlowNode → Type 0
NodesNew news v w = (more : List FlowNode) × (w ≡ v ++ more) × (news ≡ map as_new more)

nodes_new : (news : List NewNode) (v w : List FlowNode) → in_turn put_node news v ≡ Some w → NodesNew news v w
nodes_new [] v w e = let same : v ≡ w = cc in ([], sym same ∙ sym (append-nil v), refl)
nodes_new (n ∷ news) v w e = go (λ u. nodes_new news u w) (nat_lt (length v) 4294967294) e
  where
    node : FlowNode
    node = with_id (length v + 2) (new_node_parts n)

    go : ((u : List FlowNode) → in_turn put_node news u ≡ Some w → NodesNew news u w) → (b : Bool) → ((if b then Some (v ++ node ∷ []) else None) >>= in_turn put_node news) ≡ Some w → NodesNew (n ∷ news) v w
    go next true e = let rest = next (v ++ node ∷ []) e in (node ∷ rest.0, rest.1 ∙ append_assoc v (node ∷ []) rest.0, ap (λ (l : List NewNode). n ∷ l) rest.2)
    go next false e = absurd cc

pub one_nodes : (news others : List NewNode) (before now : List FlowNode) → in_turn put_node news before ≡ Some now → in_turn put_node others before ≡ Some now → news ≡ others
one_nodes news others before now e f =
    let first = nodes_new news before now e in
    let second = nodes_new others before now f in
    first.2 ∙ ap (map as_new) (append_cancel_left before first.0 second.0 (sym first.1 ∙ second.1)) ∙ sym second.2

-- ---- variables

abbrev names : List ℕ → List ℕ → Ordering
names = slice_cmp nat_cmp

module _ (before now : List Binding) where
  abbrev had : List ℕ → Option Binding
  had k = at names (λ b. b.name) k before

  abbrev has : List ℕ → Option Binding
  has k = at names (λ b. b.name) k now

  abbrev IsNew : Binding → Type 0
  IsNew b = (had b.name ≡ None) × (has b.name ≡ Some b)

  new_keeps : (b : Binding) (o : Option Binding) (y : Binding) → IfSome o (λ x. x.name ≡ b.name) → new_binding b o ≡ Some (Some y) → y.name ≡ b.name
  new_keeps b None y its e = let same : b ≡ y = cc in ap (λ (x : Binding). x.name) (sym same)
  new_keeps b (Some x) y its e = absurd cc

  new_is : (b : Binding) (o p : Option Binding) → new_binding b o ≡ Some p → (o ≡ None) × (p ≡ Some b)
  new_is b None p e = let same : Some b ≡ p = cc in (refl, sym same)
  new_is b (Some x) p e = absurd cc

  binds : (news : List Binding) → Sorted names (λ b. b.name) news → Sorted names (λ b. b.name) before → changed binding_changes news before ≡ Some now
      → AllAre IsNew news × ((k : List ℕ) → NoneAt (λ b. b.name) k news → has k ≡ had k)
  binds news rise rise_before e =
      let found : Finds names (λ b. b.name) (λ b. b.name) new_binding news before now = finds names nat_list_cmp_total exact_bytes (λ b. b.name) (λ b. b.name) new_binding new_keeps news before now rise rise_before e in
      (all_to (λ b. new_binding b (had b.name) ≡ Some (has b.name)) IsNew (λ b made. new_is b (had b.name) (has b.name) made) news found.made_at, found.others)

  same_binding : (b c : Binding) → b.name ≡ c.name → IsNew b → IsNew c → b ≡ c
  same_binding b c same first second = let both : Some b ≡ Some c = sym first.1 ∙ ap has same ∙ second.1 in cc

  bindings_within : (news others : List Binding) → AllAre IsNew news → ((k : List ℕ) → NoneAt (λ b. b.name) k others → has k ≡ had k) → Within (λ b. b.name) news others
  bindings_within news others new stays = λ k none.
      all_to IsNew (λ b. ¬ (b.name ≡ k))
      (λ b is its. let no : Some b ≡ None = sym is.1 ∙ subst (λ (m : List ℕ). has m ≡ had m) (sym its) (stays k none) ∙ is.0 in absurd cc) news new

  pub one_bindings : (news others : List Binding) → Sorted names (λ b. b.name) news → Sorted names (λ b. b.name) others → Sorted names (λ b. b.name) before
      → changed binding_changes news before ≡ Some now → changed binding_changes others before ≡ Some now → news ≡ others
  one_bindings news others rise rise_too rise_before e f =
      let first = binds news rise rise_before e in
      let second = binds others rise_too rise_before f in
      one_list names nat_list_cmp_total exact_bytes (λ b. b.name) IsNew same_binding news others rise rise_too first.0 second.0 (bindings_within news others first.0 second.1) (bindings_within others news second.0 first.1)
