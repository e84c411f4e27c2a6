-- The executors of agents.
use Rattle.std.proofs.Common.{arith, ◌≡◌, ℕ, zero, suc, ◌+◌, ◌-◌, ◌<◌, ◌++◌, sym, refl, ap, ◌∙◌, List, [], ◌∷◌, length, add-one, length-append}
use Rattle.std.proofs.lemmas.List.{append_assoc}
use Rattle.model_run.specs.declared.site.Executor.{Executor}
use Rattle.agents_file.specs.declared.agent.Agent.{Agent}
use Rattle.agents_file.specs.Agents.{executor_of, some_executors, all_executors}

pub length-some_executors : (agent : Agent) (number slot count : ℕ) → length (some_executors agent number slot count) ≡ count
length-some_executors agent number slot zero = refl
length-some_executors agent number slot (suc left) = ap suc (length-some_executors agent (suc number) (suc slot) left)

-- one executor more of an agent
pub slot_more : (agent : Agent) (whole executors new : List Executor) (x : Executor) (slot end : ℕ) → slot < end
    → whole ≡ executors ++ some_executors agent (length executors) slot (end - slot) → x ≡ executor_of agent (length executors) slot → new ≡ executors ++ x ∷ []
    → whole ≡ new ++ some_executors agent (length new) (slot + 1) (end - (slot + 1))
slot_more agent whole executors new x slot end below here is put =
    let count : end - slot ≡ suc (end - suc slot) = omega arith in
    let size : length new ≡ suc (length executors) = ap length put ∙ length-append executors (x ∷ []) ∙ add-one (length executors) in
    let moved : whole ≡ (executors ++ x ∷ []) ++ some_executors agent (suc (length executors)) (suc slot) (end - suc slot) =
    here ∙ ap (λ n. executors ++ some_executors agent (length executors) slot n) count
    ∙ ap (λ e. executors ++ e ∷ some_executors agent (suc (length executors)) (suc slot) (end - suc slot)) (sym is)
    ∙ sym (append_assoc executors (x ∷ []) (some_executors agent (suc (length executors)) (suc slot) (end - suc slot)))
    in
    rw (size, put, add-one slot) moved

-- the executors of one agent more
pub agents_more : (agent : Agent) (agents more : List Agent) (whole executors new : List Executor) → agents ≡ agent ∷ more
    → whole ≡ executors ++ all_executors (length executors) agents → new ≡ executors ++ some_executors agent (length executors) 0 agent.executors
    → whole ≡ new ++ all_executors (length new) more
agents_more agent agents more whole executors new is here put =
    let size : length new ≡ length executors + agent.executors =
    ap length put ∙ length-append executors (some_executors agent (length executors) 0 agent.executors)
    ∙ ap (λ n. length executors + n) (length-some_executors agent (length executors) 0 agent.executors)
    in
    let moved : whole ≡ (executors ++ some_executors agent (length executors) 0 agent.executors) ++ all_executors (length executors + agent.executors) more =
    here ∙ ap (λ xs. executors ++ all_executors (length executors) xs) is
    ∙ sym (append_assoc executors (some_executors agent (length executors) 0 agent.executors) (all_executors (length executors + agent.executors) more))
    in
    rw (size, put) moved
