use Rattle.std.proofs.Common.{◌≡◌, not, sym, ap, ◌∙◌}
use Rattle.std.specs.FinSet as set
use Rattle.std.specs.Cmp.Lexicographic.{nat_list_cmp_total}
use Rattle.scope_check.proofs.NameLemmas.{from_list-added}
use Rattle.scope_check.proofs.names.Names.add.Goals as goal

pub returns-clause-new : goal.returns-clause-new
returns-clause-new c =
    let copy : c.in_ok-clone.field-0 ≡ c.args.name.now = c.in_ok-clone.ensures.cases in
    c.in_ok-is_new.ensures.added
    ∙ ap not (sym (set.contains-from_list nat_list_cmp_total c.self.inside.names.keys c.in_ok-clone.field-0))
    ∙ (λ i. not (set.contains (c.self.view_is i) (copy i)))

pub returns-clause-added : goal.returns-clause-added
returns-clause-added c =
    let copy : c.in_ok-clone.field-0 ≡ c.args.name.now = c.in_ok-clone.ensures.cases in
    from_list-added c.self.inside.names.keys c.insert.new.self.keys c.in_ok-clone.field-0 c.in_ok-is_new.ensures.updates.0
    ∙ (λ i. set.insert (c.self.view_is i) (copy i))
