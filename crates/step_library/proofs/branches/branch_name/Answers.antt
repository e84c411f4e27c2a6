use Rattle.std.proofs.Common.{◌≡◌, ◌∙◌, List, ℕ, IfOk, ap, drop, subst, sym}
use Rattle.step_library.proofs.NameLaws.{its_name}
use Rattle.step_library.proofs.branches.branch_name.Goals as goal

pub returns : goal.returns
returns c =
    let told = c.behind_prefix.ensures ∙ ap (drop 8) c.as_slice.ensures ∙ sym (its_name c.args.start c.args.nodes.now c.node_at-node.result.now c.requires.numbered c.requires.there c.node_at-node.ensures) in
    subst (λ (x : List ℕ). IfOk c.from_slice.result (λ name. name ≡ x)) told c.from_slice.ensures
