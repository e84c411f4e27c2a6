use Rattle.std.proofs.Common.{drop}
use Rattle.cps_frames.specs.Standing.{standing}
use Rattle.step_library.proofs.BranchLaws.{BegunSo}
use Rattle.step_library.proofs.branches.begin_branches.Given as goal

abbrev pub invariant-loop-name : goal.invariant-loop-name
invariant-loop-name l = BegunSo l.named (drop l.name-index l.named) l.branches (standing l.fn.shared l.state) (standing l.shared l.state)
