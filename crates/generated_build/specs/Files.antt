-- The script and the agents file of a generated build. This product's own.
use Rattle.std.specs.Prelude.{ℕ, zero, suc, List, [], ◌++◌, codes, decimal}

-- A stage: it adds its number to a sum, keeps the sum in a list, tells it, and runs a task.
abbrev pub stage_lines : ℕ → List ℕ
stage_lines k =
    codes "stage('S" ++ (decimal k ++ (codes "') {\n"
    ++ (codes "  total = total + " ++ (decimal k ++ (codes "\n"
    ++ (codes "  seen.add(total)\n"
    ++ (codes "  echo \"stage " ++ (decimal k ++ (codes " total ${total}\"\n"
    ++ (codes "  node { sh 'run " ++ (decimal k ++ (codes "' }\n"
    ++ codes "}\n"))))))))))))

-- the stages from 1 to this number
abbrev pub stages_to : ℕ → List ℕ
stages_to zero = []
stages_to (suc n) = stages_to n ++ stage_lines (suc n)

-- the script of so many stages
abbrev pub script_of : ℕ → List ℕ
script_of n = (codes "total = 0\nseen = []\n" ++ stages_to n) ++ codes "echo \"sum ${total} of ${seen.size()}\"\n"

-- the agents file: one executor
abbrev pub agents_of_any : List ℕ
agents_of_any = codes "{\"job\":\"gen\",\"agents\":[{\"name\":\"gen\",\"root\":\"/gen\",\"executors\":1}]}"
