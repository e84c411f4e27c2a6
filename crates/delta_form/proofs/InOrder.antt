-- What passes the test of order rises item by item.
use Rattle.std.proofs.Common.{◌≡◌, ◌≤◌, Bool, true, false, List, [], ◌∷◌, length, refl, arith}
use Rattle.std.specs.Prelude.{◌&&◌}
use Rattle.std.specs.Ordering.{is_lt, nat_cmp, on}
use Rattle.std.specs.Cmp.Lexicographic.{slice_cmp}
use Rattle.std.specs.declared.cmp.Ordering.{Ordering}
use Rattle.delta_form.specs.Changes.{EachBelow, rising}
use Rattle.delta_form.specs.After.{IsInOrder, in_order}
use Rattle.delta_form.specs.Numbers.{written_number}
use Rattle.delta_form.specs.declared.delta.Delta.{Delta}
use Rattle.delta_form.proofs.Fronts.{is_less}

both : (a b : Bool) → (a && b) ≡ true → (a ≡ true) × (b ≡ true)
both true b e = (refl, e)
both false b e = absurd cc

module _ {C : Type 0} (order : C → C → Ordering) where
  each_below : (cs : List C) → rising order cs ≡ true → EachBelow order cs
  each_below [] e = tt
  each_below (c ∷ []) e = tt
  each_below (c ∷ d ∷ ds) e =
      let p = both (is_lt (order c d)) (rising order (d ∷ ds)) e in
      (is_less (order c d) p.0, each_below (d ∷ ds) p.1)

  -- so few always do
  pub few_rise : (cs : List C) → length cs ≤ 1 → rising order cs ≡ true
  few_rise [] few = refl
  few_rise (c ∷ []) few = refl
  few_rise (c ∷ d ∷ ds) few = absurd (omega (arith, few))

pub is_in_order : (d : Delta) → in_order d ≡ true → IsInOrder d
is_in_order d e =
    let names = rising (on (λ b. b.name) (slice_cmp nat_cmp)) d.bindings in
    let cells = rising (on (λ c. c.number) nat_cmp) d.cells in
    let closed = rising nat_cmp d.closed_requests in
    let requests = rising (on written_number nat_cmp) d.requests in
    let held = rising (on (λ h. h.executor) nat_cmp) d.held in
    let ended = rising nat_cmp d.ended_threads in
    let threads = rising (on (λ w. w.number) nat_cmp) d.threads in
    let p = both (names && cells && closed && requests && held && ended) threads e in
    let q = both (names && cells && closed && requests && held) ended p.0 in
    let r = both (names && cells && closed && requests) held q.0 in
    let s = both (names && cells && closed) requests r.0 in
    let t = both (names && cells) closed s.0 in
    let u = both names cells t.0 in
    record {
      bindings = each_below (on (λ b. b.name) (slice_cmp nat_cmp)) d.bindings u.0;
      closed_requests = each_below nat_cmp d.closed_requests t.1;
      requests = each_below (on written_number nat_cmp) d.requests s.1;
      ended_threads = each_below nat_cmp d.ended_threads q.1;
      threads = each_below (on (λ w. w.number) nat_cmp) d.threads p.1;
    }
