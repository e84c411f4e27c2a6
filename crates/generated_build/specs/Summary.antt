-- The lines that tell the numbers of a generated build. This product's own.
use Rattle.std.specs.Prelude.{ℕ, nat_eq, Bool, true, false, ◌&&◌, List, ◌++◌, length, codes, decimal}
use Rattle.std.specs.List.{count_by}
use Rattle.std.specs.Cmp.Lexicographic.{pointwise}
use Rattle.model_run.specs.declared.flow.FlowNode.{FlowNode}
use Rattle.model_run.specs.declared.flow.NodeKind.{NodeKind}
use Rattle.model_run.specs.declared.flow.NodeKind.TheVariants.{Atom}
use Rattle.model_run.specs.declared.result.BuildResult.{BuildResult}
use Rattle.model_run.specs.Results.{result_name}

-- a step without a body
abbrev pub is_atom : NodeKind → Bool
is_atom Atom = true
is_atom _ = false

-- the node is that of a task: a step `sh`
abbrev pub is_task : FlowNode → Bool
is_task node = is_atom node.kind && pointwise nat_eq node.name (codes "sh")

-- a line: what it tells of, and what it tells
abbrev pub line : List ℕ → List ℕ → List ℕ
line of value = of ++ (codes " " ++ (value ++ codes "\n"))

-- The lines: how many stages, flow nodes, tasks, events and bytes of the log there are, and the result.
abbrev pub summary_text : ℕ → List FlowNode → ℕ → ℕ → BuildResult → List ℕ
summary_text stages nodes records log result =
    line (codes "stages") (decimal stages)
    ++ (line (codes "nodes") (decimal (length nodes))
    ++ (line (codes "tasks") (decimal (count_by is_task nodes))
    ++ (line (codes "records") (decimal records)
    ++ (line (codes "log") (decimal log)
    ++ line (codes "result") (result_name result)))))
