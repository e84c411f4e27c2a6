use Rattle.std.proofs.Common.{◌≡◌, ◌<◌, ◌+◌, ℕ, List, [], ◌∷◌, length, Some, ◌∙◌, ap, arith, rules, refl}
use Rattle.journal_core.specs.Records.{Has}
use Rattle.journal_core.proofs.FindingLemmas.{splits_has, stores_at, length-entries}
use Rattle.journal_core.proofs.walk.load.Goals as goal

none : (ps : List (List ℕ)) (file : List ℕ) → length ps ≡ 0 → Has ps file → Has [] file
none [] file is has = has
none (p ∷ ps) file is has = absurd (omega arith)

pub returns-then-is_empty-clause-found : goal.returns-then-is_empty-clause-found
returns-then-is_empty-clause-found g c file told =
    let found = c.in_ok-place.ensures.found file (c.settle.ensures.told ∙ told) in
    let empty : length c.in_ok-place.entries.items ≡ 0 = search rules in
    none found.0 file (omega (arith, empty, ap length found.2, length-entries 0 found.0)) (splits_has file c.in_ok-place.place found.0 found.1)

pub returns-clause-found : goal.returns-clause-found
returns-clause-found g c file told =
    let told_e : g.D.Disk.reads c.settle.new.disk ≡ Some file = c.settle.ensures.told ∙ told in
    let found = c.in_ok-place.ensures.found file told_e in
    let some : 0 < length c.in_ok-place.entries.items = search rules in
    let only = c.in-Ok.ensures.durable file told in
    record {
      payloads = found.0;
      some = omega (arith, some, ap length found.2, length-entries 0 found.0);
      has = splits_has file c.in_ok-place.place found.0 found.1;
      entries_are = found.2;
      holds = stores_at g.D.Disk c.walk_gates.new.disk file c.in_ok-place.place (c.in_ok-place.place + 1) found.0 refl (c.walk_gates.ensures.quiet.told ∙ told_e)
          (λ image left. only image (c.walk_gates.ensures.quiet.images image left)) found.1;
    }
