use Rattle.std.proofs.Common.{◌≡◌, ◌∷◌, [], List, ℕ, length, Some, ◌∙◌, ap, subst}
use Rattle.jp_disk.specs.Images.{IsOnlyImage, after_write}
use Rattle.journal_core.specs.Records.{HasWithOrWithout}
use Rattle.jp_disk.proofs.MomentLemmas.{runs_on, at_each_weaker}
use Rattle.journal_core.proofs.MomentLemmas.{on_ok_both}
use Rattle.journal_core.proofs.StepLemmas.{file, tail, staged_file, behind_has, after_write-behind, gate_has, ended}
use Rattle.journal_core.proofs.record.write_record.Goals as goal

pub returns-in_err-write_durably-clause-any_moment : goal.returns-in_err-write_durably-clause-any_moment
returns-in_err-write_durably-clause-any_moment g c ps p short is s =
    let d = c.args.disk.now in
    at_each_weaker g.D.Disk d c.write_durably.new.disk _ (HasWithOrWithout ps p)
    (λ image torn. behind_has g.D.Disk d c.args.gate ps p c.args.block.now is s (length c.args.block.now) image torn)
    (c.write_durably.ensures.any_moment (file g.D.Disk d c.args.gate ps p c.args.block.now is s) s.durable)

pub returns-clause-stored : goal.returns-clause-stored
returns-clause-stored g c ps p short is s =
    let d = c.args.disk.now in
    let f = c.write_durably-2.new.disk in
    let staged = staged_file ps s.gate p (tail g.D.Disk d c.args.gate ps p c.args.block.now is s) in
    let told : g.D.Disk.reads c.write_durably.new.disk ≡ Some staged =
    c.in_ok-write_durably.ensures.written (file g.D.Disk d c.args.gate ps p c.args.block.now is s) s.told ∙ ap (λ (l : List ℕ). Some l) (after_write-behind g.D.Disk d c.args.gate ps p c.args.block.now is s) in
    on_ok_both c.write_durably-2.result (g.D.Disk.reads f ≡ Some (after_write staged c.args.gate (1 ∷ []))) (IsOnlyImage (after_write staged c.args.gate (1 ∷ [])) (g.D.Disk.may_leave f)) _ (ended g.D.Disk d c.args.gate ps p c.args.block.now is s f short) (c.write_durably-2.ensures.written staged told)
    (c.write_durably-2.ensures.durable staged told)

pub returns-clause-any_moment : goal.returns-clause-any_moment
returns-clause-any_moment g c ps p short is s =
    let d = c.args.disk.now in
    let e = c.write_durably.new.disk in
    let f = c.write_durably-2.new.disk in
    let first = at_each_weaker g.D.Disk d e _ (HasWithOrWithout ps p)
    (λ image torn. behind_has g.D.Disk d c.args.gate ps p c.args.block.now is s (length c.args.block.now) image torn)
    (c.write_durably.ensures.any_moment (file g.D.Disk d c.args.gate ps p c.args.block.now is s) s.durable) in
    let staged = after_write-behind g.D.Disk d c.args.gate ps p c.args.block.now is s in
    let durable = subst (λ (l : List ℕ). IsOnlyImage l (g.D.Disk.may_leave e)) staged (c.in_ok-write_durably.ensures.durable (file g.D.Disk d c.args.gate ps p c.args.block.now is s) s.told) in
    runs_on g.D.Disk d e f (HasWithOrWithout ps p) first
    (at_each_weaker g.D.Disk e f _ (HasWithOrWithout ps p)
    (λ image torn. gate_has g.D.Disk d c.args.gate ps p c.args.block.now is s image short torn)
    (c.write_durably-2.ensures.any_moment (staged_file ps s.gate p (tail g.D.Disk d c.args.gate ps p c.args.block.now is s)) durable))
