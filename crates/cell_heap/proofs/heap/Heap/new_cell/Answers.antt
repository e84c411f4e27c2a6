use Rattle.std.proofs.Common.{◌≡◌, ℕ, ◌+◌, List, length, max, ap, refl, sym, ◌∙◌, subst, arith}
use Rattle.model_values.specs.Cells.{heap_bytes}
use Rattle.cell_heap.specs.Follows.{Follows}
use Rattle.cell_heap.specs.Region.{Region}
use Rattle.cell_heap.specs.Soundness.{CellBelow}
use Rattle.cell_heap.specs.ValueTypes.{Cell}
use Rattle.cell_heap.specs.declared.heap.Heap.TheInside.{Inside}
use Rattle.cell_heap.proofs.KeptLemmas.{IsKept-push, pushed-follows, region_of}
use Rattle.cell_heap.proofs.heap.Heap.new_cell.Goals as goal

pub returns-in_err-reserve-clause-room : goal.returns-in_err-reserve-clause-room
returns-in_err-reserve-clause-room c = λ e. omega (arith, c.in_err-reserve.ensures.full)

pub invariant_of-self : goal.invariant_of-self
invariant_of-self c =
    let h = c.self.inside in
    let kept = c.self.invariant in
    let next : Inside = record { cells = c.push_reserved.new.self; changes = c.push.new.self; total = h.total + c.in_ok-bytes.bytes; indexes = h.indexes } in
    let reserved = c.in_ok-reserve.ensures.ok in
    let cells : h.cells.items ≡ c.args.self.now.cells = ap (λ (r : Region). r.cells) c.self.view_is ∙ ap (λ (r : Region). r.cells) reserved in
    let lens : length h.cells.items ≡ length c.args.self.now.cells = ap (λ (xs : List Cell). length xs) cells in
    let spare : h.changes.spare ≡ max c.args.self.now.spare 1 = ap (λ (r : Region). r.spare) c.self.view_is ∙ ap (λ (r : Region). r.spare) reserved in
    let bytes : heap_bytes h.cells.items ≡ heap_bytes c.args.self.now.cells = ap heap_bytes cells in
    IsKept-push h next c.args.cell kept c.push_reserved.ensures.items c.push_reserved.ensures.capacity (omega (arith, spare)) c.push.ensures
    (ap (λ n. h.total + n) c.in_ok-bytes.ensures.bytes) refl
    (subst (λ (n : ℕ). CellBelow n c.args.cell) (sym lens) c.requires)
    (omega (arith, bytes, kept.counted, c.in_ok-bytes.ensures.small))
    (omega (arith, lens, c.in_ok-bytes.ensures.few))

pub returns-clause-follows : goal.returns-clause-follows
returns-clause-follows c =
    let h = c.self.inside in
    let next : Inside = record { cells = c.push_reserved.new.self; changes = c.push.new.self; total = h.total + c.in_ok-bytes.bytes; indexes = h.indexes } in
    let behind : Follows c.reserve.new.self (region_of next) = pushed-follows h next c.reserve.new.self c.args.cell c.self.view_is c.self.invariant c.push_reserved.ensures.items c.push.ensures in
    let from = subst (λ (r : Region). Follows r (region_of next)) c.in_ok-reserve.ensures.ok behind in
    record { grows = from.grows; unmarked = from.unmarked; same = from.same }
