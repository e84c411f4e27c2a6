use Rattle.std.proofs.Common.{◌≡◌, ◌++◌, codes}
use Rattle.generated_build.specs.Files.{stages_to}
use Rattle.generated_build.proofs.files.generated_files.Given as goal

-- the first lines, and those of the stages so far
abbrev pub invariant-loop-made : goal.invariant-loop-made
invariant-loop-made l = l.script.items ≡ codes "total = 0\nseen = []\n" ++ stages_to l.made
