-- The law of hosts, at a host in memory.
use Rattle.std.specs.Prelude.{◌≡◌, ℕ, Bool, true, false, nat_eq, List, [], Contains, None, option_and_then, if◌then◌else◌}
use Rattle.std.specs.Option.{option_map_or}
use Rattle.std.proofs.Common.{refl, ap, ◌∙◌}
use Rattle.std.proofs.lemmas.Bool.{eqb-true}
use Rattle.std.proofs.lemmas.List.{get_or_default}
use Rattle.std.proofs.lemmas.List.Folds.{Any-from_list_any}
use Rattle.task_host.specs.declared.memory.behavior.Behavior.{Behavior}
use Rattle.task_host.specs.Host.{IsIdle}
use Rattle.task_host.specs.Tasks.{outcome_of, text_of, code_of, is_launched, written_by, ended_with}

pub contains_from : (task : ℕ) (launches : List ℕ) → is_launched task launches ≡ true → Contains launches task
contains_from task launches is =
    let any = Any-from_list_any (λ t. nat_eq t task) launches is in
    let same = eqb-true any.1 task any.4 in
    (any.0, any.2, get_or_default launches any.0 task any.1 any.2 ∙ any.3 ∙ same)

-- A task that was not launched has written nothing and has not ended.
pub idle_before_launch : (launches : List ℕ) (behavior : Behavior) (task : ℕ) → ¬ Contains launches task → IsIdle (ended_with launches behavior task) (written_by launches behavior task)
idle_before_launch launches behavior task not_there = by (is_launched task launches) refl
  where
    by : (b : Bool) → is_launched task launches ≡ b → IsIdle (ended_with launches behavior task) (written_by launches behavior task)
    by true is = absurd (not_there (contains_from task launches is))
    by false is = record {
      output = λ stream. ap (λ b. if b then option_map_or (text_of stream) (outcome_of task behavior) [] else []) is;
      exited = ap (λ b. if b then option_and_then code_of (outcome_of task behavior) else None) is;
    }
