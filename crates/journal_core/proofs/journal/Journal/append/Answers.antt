use Rattle.std.proofs.Common.{◌≡◌, ◌<◌, ◌+◌, ◌-◌, ◌^◌, ℕ, [], ◌∷◌, ◌++◌, length, ◌∙◌, ap, subst, arith}
use Rattle.jp_disk.specs.Runs.{AtEachMoment}
use Rattle.journal_core.specs.Records.{body, HasWithOrWithout}
use Rattle.journal_core.specs.State.{State, Stores}
use Rattle.journal_core.proofs.StepLemmas.{begun, length-body, held_inside}
use Rattle.journal_core.proofs.journal.Journal.append.Goals as goal

-- no call of the disk was made
pub returns-then-self-clause-any_moment : goal.returns-then-self-clause-any_moment
returns-then-self-clause-any_moment g c ps held =
    begun g.D.Disk g.met.D.Disk.only_now c.args.self.now.disk c.args.self.now.len ps c.args.payload.now held

pub returns-then-add-gt-MAX_LENGTH-clause-any_moment : goal.returns-then-add-gt-MAX_LENGTH-clause-any_moment
returns-then-add-gt-MAX_LENGTH-clause-any_moment g c ps held =
    begun g.D.Disk g.met.D.Disk.only_now c.args.self.now.disk c.args.self.now.len ps c.args.payload.now held

pub returns-in_default-clause-any_moment : goal.returns-in_default-clause-any_moment
returns-in_default-clause-any_moment g c ps held =
    begun g.D.Disk g.met.D.Disk.only_now c.args.self.now.disk c.args.self.now.len ps c.args.payload.now held

pub returns-in-Err-clause-any_moment : goal.returns-in-Err-clause-any_moment
returns-in-Err-clause-any_moment g c ps held =
    let is : c.deref.result.now ≡ body c.args.payload.now = c.deref.ensures.value ∙ c.in-Ok.ensures in
    let short : length c.args.payload.now < 2 ^ 32 = omega arith in
    let at_disk = held_inside g.D.Disk c.self.inside.disk c.self.inside.len c.self.inside.stopped c.args.self.now ps c.self.view_is c.self.invariant.0 held in
    subst (λ (s : State g.row.D.Denot). AtEachMoment g.D.Disk s.disk c.write_record.new.disk (HasWithOrWithout ps c.args.payload.now)) c.self.view_is
    (c.in-Err.ensures.any_moment ps c.args.payload.now short is at_disk)

pub returns-clause-any_moment : goal.returns-clause-any_moment
returns-clause-any_moment g c ps held =
    let is : c.deref.result.now ≡ body c.args.payload.now = c.deref.ensures.value ∙ c.in-Ok.ensures in
    let short : length c.args.payload.now < 2 ^ 32 = omega arith in
    let at_disk = held_inside g.D.Disk c.self.inside.disk c.self.inside.len c.self.inside.stopped c.args.self.now ps c.self.view_is c.self.invariant.0 held in
    subst (λ (s : State g.row.D.Denot). AtEachMoment g.D.Disk s.disk c.write_record.new.disk (HasWithOrWithout ps c.args.payload.now)) c.self.view_is
    (c.in_default-write_record.ensures.any_moment ps c.args.payload.now short is at_disk)

pub returns-clause-acknowledged : goal.returns-clause-acknowledged
returns-clause-acknowledged g c ps held =
    let is : c.deref.result.now ≡ body c.args.payload.now = c.deref.ensures.value ∙ c.in-Ok.ensures in
    let short : length c.args.payload.now < 2 ^ 32 = omega arith in
    let some : 0 < c.self.inside.len = c.self.invariant.0 in
    let at_disk = held_inside g.D.Disk c.self.inside.disk c.self.inside.len c.self.inside.stopped c.args.self.now ps c.self.view_is some held in
    let place : c.self.inside.len - 1 + 1 + length c.deref.result.now ≡ c.self.inside.len + (5 + length c.args.payload.now) = omega (arith, ap length is, length-body c.args.payload.now, some) in
    subst (λ (n : ℕ). Stores g.D.Disk c.write_record.new.disk n (ps ++ c.args.payload.now ∷ [])) place (c.in_default-write_record.ensures.stored ps c.args.payload.now short is at_disk)
