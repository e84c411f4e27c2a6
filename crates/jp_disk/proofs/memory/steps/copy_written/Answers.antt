use Rattle.std.proofs.Common.{◌≡◌, ◌<◌, ◌≤◌, ℕ, List, [], drop, length, sym, subst, arith}
use Rattle.std.proofs.lemmas.List.{drop_all, ext_get_or}
use Rattle.jp_disk.specs.Images.{IsOutside}
use Rattle.jp_disk.specs.Medium.{ranges_of}
use Rattle.jp_disk.specs.declared.call.Call.{Call}
use Rattle.jp_disk.proofs.memory.steps.copy_written.Goals as goal

pub returns-clause-ok : goal.returns-clause-ok
returns-clause-ok c =
    let l = c.loop-call in
    let none : drop l.call-index c.args.calls.now ≡ [] = drop_all l.call-index c.args.calls.now (omega (arith, c.loop-call-test.false)) in
    ext_get_or 0 l.copy.items c.args.bytes.now l.invariant.size
    (λ place lt. l.invariant.right place (omega (arith, lt, l.invariant.size)) (subst (λ (x : List Call). IsOutside (ranges_of x) place) (sym none) tt))
