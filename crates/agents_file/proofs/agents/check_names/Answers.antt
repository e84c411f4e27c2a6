use Rattle.std.proofs.Common.{arith, ◌≡◌, true, false, take, nat_eq, []}
use Rattle.std.specs.List.{list_any}
use Rattle.std.specs.Cmp.Lexicographic.{pointwise}
use Rattle.std.proofs.lemmas.Grind.{common_steps}
use Rattle.agents_file.specs.Agents.{repeats}
use Rattle.agents_file.proofs.AgentLemmas.{name_found, name_more}
use Rattle.agents_file.proofs.FirstLemmas.{TellsFirst-one}
use Rattle.agents_file.proofs.agents.check_names.Goals as goal

pub returns-then-has_name-clause-fault : goal.returns-then-has_name-clause-fault
returns-then-has_name-clause-fault c =
    let found : list_any (λ a. pointwise nat_eq c.index-agents-at.result.name a.name) (take c.loop-at.at c.args.agents.now) ≡ true = grind (arith, common_steps) in
    TellsFirst-one (repeats [] 0 c.args.agents.now) c.refusal.result
    (name_found c.args.agents.now c.loop-at.at c.index-agents-at.result c.loop-at-test.true c.index-agents-at.is c.loop-at.invariant found) c.refusal.ensures

pub loop-at-preserved : goal.loop-at-preserved
loop-at-preserved c =
    let own : list_any (λ a. pointwise nat_eq c.index-agents-at.result.name a.name) (take c.loop-at.at c.args.agents.now) ≡ false = grind (arith, common_steps) in
    name_more c.args.agents.now c.loop-at.at c.index-agents-at.result c.loop-at-test.true c.index-agents-at.is c.loop-at.invariant own
