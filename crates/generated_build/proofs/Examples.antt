-- A script and lines, worked out.
use Rattle.std.proofs.Common.{◌≡◌, ℕ, List, [], ◌∷◌, codes, refl}
use Rattle.std.specs.Fmt.{digits}
use Rattle.model_run.specs.declared.flow.FlowNode.{FlowNode}
use Rattle.model_run.specs.declared.flow.NodeKind.{NodeKind}
use Rattle.model_run.specs.declared.flow.NodeKind.TheVariants.{Atom, Block}
use Rattle.model_run.specs.declared.result.BuildResult.TheVariants.{Success}
use Rattle.generated_build.specs.Files.{script_of}
use Rattle.generated_build.specs.Summary.{summary_text}

two_stages : script_of 2 ≡ codes "total = 0\nseen = []\nstage('S1') {\n  total = total + 1\n  seen.add(total)\n  echo \"stage 1 total ${total}\"\n  node { sh 'run 1' }\n}\nstage('S2') {\n  total = total + 2\n  seen.add(total)\n  echo \"stage 2 total ${total}\"\n  node { sh 'run 2' }\n}\necho \"sum ${total} of ${seen.size()}\"\n"
unfolding digits
two_stages = refl

-- the flow node of a step
abbrev step : NodeKind → List ℕ → FlowNode
step kind name = record { id = 2; kind = kind; name = name; start = 0; parents = [] }

-- of three steps one is a task
lines : summary_text 1 (step Atom (codes "sh") ∷ step Atom (codes "echo") ∷ step Block (codes "sh") ∷ []) 4 319 Success ≡ codes "stages 1\nnodes 3\ntasks 1\nrecords 4\nlog 319\nresult SUCCESS\n"
unfolding digits
lines = refl
