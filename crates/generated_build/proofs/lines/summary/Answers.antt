use Rattle.std.proofs.Common.{◌≡◌, IfOk, string_bytes, ℕ, List, ◌++◌, codes, refl, subst, append_assoc}
use Rattle.generated_build.specs.Summary.{line}
use Rattle.generated_build.proofs.lines.summary.Goals as goal

-- the lines, as they are written one piece behind the other
in_lines : (s n t r l e : List ℕ)
    → (codes "stages " ++ (s ++ (codes "\nnodes " ++ (n ++ (codes "\ntasks " ++ (t ++ (codes "\nrecords " ++ (r ++ (codes "\nlog " ++ (l ++ (codes "\nresult " ++ e))))))))))) ++ codes "\n"
    ≡ line (codes "stages") s ++ (line (codes "nodes") n ++ (line (codes "tasks") t ++ (line (codes "records") r ++ (line (codes "log") l ++ line (codes "result") e))))
in_lines s n t r l e = simp append_assoc refl

pub returns : goal.returns
returns c = subst (λ (bytes : List ℕ). IfOk c.format.result (λ text. string_bytes text ≡ bytes)) (in_lines _ _ _ _ _ _) (rw c.name-name.ensures at (rw c.task_count-tasks.ensures at c.format.ensures.ok))
