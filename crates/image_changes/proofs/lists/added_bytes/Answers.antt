use Rattle.std.proofs.Common.{◌∙◌, ◌++◌, ℕ, List, sym, ap}
use Rattle.image_changes.proofs.Gets.{rest_behind}
use Rattle.image_changes.proofs.lists.added_bytes.Goals as goal

pub returns : goal.returns
returns c =
    let before = c.args.before.now in
    let front = c.requires.front in
    front.1 ∙ ap (λ (l : List ℕ). before ++ l) (sym (c.in_ok-added.ensures ∙ rest_behind before c.args.now.now front))
