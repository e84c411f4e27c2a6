use Rattle.std.proofs.Common.{◌∙◌, ◌<◌, ◌^◌, List, Some, map, sym, ap, subst}
use Rattle.std.specs.List.{AllByRecursion as AllAre}
use Rattle.model_run.specs.Fitting.{NodesFit}
use Rattle.model_run.specs.declared.flow.FlowNode.{FlowNode}
use Rattle.delta_form.specs.Applying.{in_turn}
use Rattle.delta_form.specs.After.{put_node}
use Rattle.delta_form.specs.declared.delta.NewNode.{NewNode}
use Rattle.image_changes.specs.Parts.{as_new}
use Rattle.image_changes.proofs.Cells.{nodes_behind}
use Rattle.image_changes.proofs.Gets.{rest_behind}
use Rattle.image_changes.proofs.lists.new_nodes.Goals as goal

pub returns : goal.returns
returns c =
    let before = c.args.before.now in
    let front = c.requires.front in
    let more = rest_behind before c.args.now.now front in
    ap (λ (news : List NewNode). in_turn put_node news before) (c.in_ok-news.ensures.same ∙ ap (map as_new) more)
    ∙ nodes_behind before front.0 (subst (NodesFit 2) front.1 c.requires.fit) (subst (AllAre (λ n. n.id < 2 ^ 32)) more c.in_ok-news.ensures.fit)
    ∙ ap (λ (l : List FlowNode). Some l) (sym front.1)
