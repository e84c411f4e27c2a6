use Rattle.std.proofs.Common.{◌≡◌, ◌+◌, ◌∙◌, ◌<◌, ℕ, zero, suc, List, true, false, refl, sym, ap, length, map, arith}
use Rattle.std.specs.List.{list_any}
use Rattle.std.specs.Prelude.{nat_eq}
use Rattle.model_run.specs.Grants.{held_of_agent, unused_from}
use Rattle.build_requests.specs.Names.{Held}
use Rattle.build_requests.proofs.Lists.{used_is, unused_here, unused_next}
use Rattle.build_requests.proofs.executors.workspace_number.Goals as goal

pub loop-init : goal.loop-init
loop-init c = (length c.args.held.now, omega arith, refl, refl)

pub returns-then-not-is_used : goal.returns-then-not-is_used
returns-then-not-is_used c =
    let used : List ℕ = map (λ (h : Held). h.workspace) (held_of_agent c.args.site.now c.args.executor.now.agent c.args.held.now) in
    let none : list_any (nat_eq c.loop.number) used ≡ false = sym (used_is c.args.site.now c.args.held.now c.args.executor.now.agent c.loop.number) ∙ sym c.is_used.ensures ∙ c.if-not-is_used.true in
    sym (c.loop.invariant.3 ∙ unused_here c.loop.invariant.0 c.loop.number used none)

pub loop-preserved : goal.loop-preserved
loop-preserved c =
    let used : List ℕ = map (λ (h : Held). h.workspace) (held_of_agent c.args.site.now c.args.executor.now.agent c.args.held.now) in
    let some : list_any (nat_eq c.loop.number) used ≡ true = sym (used_is c.args.site.now c.args.held.now c.args.executor.now.agent c.loop.number) ∙ sym c.is_used.ensures ∙ c.if-not-is_used.false in
    go c.loop.invariant.0 c.loop.number c.loop.counter (length c.args.held.now) used _ c.loop.invariant.1 c.loop.invariant.2 c.loop.invariant.3 c.loop-test.true some
  where
    go : (left n i end : ℕ) (used : List ℕ) (whole : ℕ) → left + i ≡ end → n ≡ i + 1 → whole ≡ unused_from left n used → i < end → list_any (nat_eq n) used ≡ true → (x : ℕ) × (x + (i + 1) ≡ end) × (n + 1 ≡ i + 1 + 1) × (whole ≡ unused_from x (n + 1) used)
    go zero n i end used whole e k w lt some = let q : ⊥ = omega (arith, e, lt) in absurd q
    go (suc left) n i end used whole e k w lt some =
        let more : suc n ≡ n + 1 = omega arith in
        (left, omega (arith, e), omega (arith, k), w ∙ unused_next left n used some ∙ ap (λ m. unused_from left m used) more)
