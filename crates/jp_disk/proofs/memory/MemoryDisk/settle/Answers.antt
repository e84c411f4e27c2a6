use Rattle.std.proofs.Common.{◌≡◌, ◌-◌, ◌++◌, ◌∷◌, [], ℕ, List, true, refl, drop, take, length, length-drop, rules, sym, ◌∙◌, ap, subst, arith}
use Rattle.std.specs.Prelude.{unwrap_or}
use Rattle.std.proofs.lemmas.List.{take_all}
use Rattle.jp_disk.specs.Images.{IsImage}
use Rattle.jp_disk.specs.Medium.{ranges_of}
use Rattle.jp_disk.specs.declared.call.Call.{Call}
use Rattle.jp_disk.specs.declared.call.Call.TheVariants.{Sync}
use Rattle.jp_disk.proofs.StepLemmas.{bytes_follow, in_step_synced}
use Rattle.jp_disk.proofs.memory.MemoryDisk.settle.Goals as goal

pub bring_up-requires : goal.bring_up-requires
bring_up-requires c =
    let d = c.self.inside in
    let calls = c.deref.result.now in
    let recent : take (length calls - d.settled) (drop d.settled calls) ≡ drop d.settled d.calls.items =
    take_all (length calls - d.settled) (drop d.settled calls) (omega (arith, length-drop d.settled calls)) ∙ ap (λ (x : List Call). drop d.settled x) (c.deref.ensures.value ∙ c.in_ok-reserve.ensures.items) in
    subst (λ (x : List ℕ). IsImage (unwrap_or d.synced x) (ranges_of (take (length calls - d.settled) (drop d.settled calls))) x) (sym c.as_slice.ensures)
    (subst (λ (x : List Call). IsImage (unwrap_or d.synced d.bytes) (ranges_of x) d.bytes) (sym recent) (bytes_follow d.first d.synced d.bytes d.calls.items d.settled c.self.invariant))

pub invariant_of-self-2 : goal.invariant_of-self-2
invariant_of-self-2 c =
    let d = c.self.inside in
    let same : unwrap_or c.bring_up.new.copy d.bytes ≡ d.bytes = subst (λ (x : List ℕ). unwrap_or c.bring_up.new.copy x ≡ x) c.as_slice.ensures c.in_ok-bring_up.ensures.ok in
    let pushed : c.push_reserved.new.self.items ≡ d.calls.items ++ Sync true ∷ [] = search rules in
    let size : c.len-self-inside.result ≡ length c.push_reserved.new.self.items = search rules in
    in_step_synced d.first d.synced c.bring_up.new.copy d.bytes d.calls.items c.push_reserved.new.self.items d.settled c.len-self-inside.result true refl same pushed size c.self.invariant
