use Rattle.std.proofs.Common.{◌≡◌, List, ℕ, Option, Vec, drop, length, ◌-◌, length-drop, rules, sym, ◌∙◌, ap, subst, arith}
use Rattle.std.specs.Prelude.{unwrap_or}
use Rattle.std.proofs.lemmas.List.{take_all}
use Rattle.std.specs.declared.alloc.Global.{Global}
use Rattle.jp_disk.specs.declared.call.Call.{Call}
use Rattle.jp_disk.specs.Medium.{MayLeave}
use Rattle.jp_disk.specs.History.{History, medium}
use Rattle.jp_disk.proofs.StepLemmas.{medium_of, last_no_longer, crashed, bytes_are_image}
use Rattle.jp_disk.proofs.memory.MemoryDisk.crash.Goals.{in-Some, in_default}
use Rattle.jp_disk.proofs.memory.MemoryDisk.crash.Goals as goal

pub crash_image-requires : goal.crash_image-requires
crash_image-requires c =
    let d = c.self.inside in
    let last : c.as_slice.result.now ≡ unwrap_or d.synced d.bytes = c.as_slice.ensures ∙ sym (ap (λ (o : Option (List ℕ)). unwrap_or o d.bytes) c.in-Some.is) in
    omega (arith, ap length last, ap length c.into_vec-image.ensures, last_no_longer d.first d.synced d.bytes d.calls.items d.settled c.self.invariant)

pub returns-clause-image : goal.returns-clause-image
returns-clause-image c =
    let d = c.self.inside in
    let first : c.new-2.result.first ≡ c.match-synced.image.items = search rules in
    let whole = c.into_vec-image in
    let left : MayLeave (medium_of d.first d.bytes d.calls.items) c.match-synced.image.items = elim c.match-synced.branch [
      | in-Some w ↦
          subst (λ (x : Vec ℕ Global). MayLeave (medium_of d.first d.bytes d.calls.items) x.items) (sym w.image-is)
          (crashed d.first d.synced d.bytes d.calls.items d.settled c.self.invariant w.crash_image.new.image.items whole.result.items w.as_slice.result.now _ c.args.choice
          whole.ensures
          (w.as_slice.ensures ∙ sym (ap (λ (o : Option (List ℕ)). unwrap_or o d.bytes) w.in-Some.is))
          (take_all (length w.deref.result.now - d.settled) (drop d.settled w.deref.result.now) (omega (arith, length-drop d.settled w.deref.result.now)) ∙ ap (λ (calls : List Call). drop d.settled calls) w.deref.ensures.value)
          w.crash_image.ensures.outside w.crash_image.ensures.lost_end)
      | in_default w ↦
          subst (λ (x : List ℕ). MayLeave (medium_of d.first d.bytes d.calls.items) x) (sym (ap (λ (x : Vec ℕ Global). x.items) w.image-is ∙ whole.ensures)) (bytes_are_image d.first d.synced d.bytes d.calls.items d.settled c.self.invariant)
    ] in
    subst (λ (h : History). MayLeave (medium h) c.new-2.result.first) c.self.view_is (subst (λ (x : List ℕ). MayLeave (medium_of d.first d.bytes d.calls.items) x) (sym first) left)
