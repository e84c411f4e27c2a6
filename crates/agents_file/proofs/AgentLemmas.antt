-- Agents with one name, and how many executors they have together.
use Rattle.std.proofs.Common.{◌≡◌, ℕ, suc, ◌+◌, ◌<◌, ◌≤◌, ◌++◌, sym, refl, ap, ◌∙◌, subst, Bool, true, false, ◌||◌, nat_eq, if◌then◌else◌, List, [], ◌∷◌, length, take, drop, get_or, Option, Some, codes, add-one}
use Rattle.std.specs.List.{list_any}
use Rattle.std.specs.Cmp.Lexicographic.{pointwise}
use Rattle.std.proofs.lemmas.List.{append_assoc, drop_more, drop_all}
use Rattle.serde_json.specs.View.{view, items_view}
use Rattle.serde_json.specs.declared.value.Value.{Value}
use Rattle.std.proofs.lemmas.List.Folds.{list_any_more}
use Rattle.model_run.specs.declared.agents.AgentsKind.TheVariants.{DuplicateName}
use Rattle.model_run.specs.AgentsFaults.{Fault, fault, among, at_item, at_member}
use Rattle.agents_file.specs.declared.agent.Agent.{Agent}
use Rattle.agents_file.specs.Agents.{agent_of, agents_of, repeats, executor_sum}
use Rattle.agents_file.specs.FirstFault.{first}

module _ (agents : List Agent) (i : ℕ) where
  pub sum_end : length agents ≤ i → executor_sum (drop i agents) ≡ 0
  sum_end past = ap executor_sum (drop_all i agents past)

  module _ (agent : Agent) (within : i < length agents) (is : agent ≡ get_or agents i agent) where
    pub drop_here : drop i agents ≡ agent ∷ drop (i + 1) agents
    drop_here = drop_more agents i agent within ∙ ap (λ x. x ∷ drop (i + 1) agents) (sym is)

    pub sum_here : executor_sum (drop i agents) ≡ agent.executors + executor_sum (drop (i + 1) agents)
    sum_here = ap executor_sum drop_here

-- a loop that has come to agent i, behind agents of these names
pub record NamesFrom (agents : List Agent) (i : ℕ) : Type 0 where
  pub before : List (List ℕ)
  pub faults : first (repeats [] 0 agents) ≡ first (repeats before i (drop i agents))
  pub known : (name : List ℕ) → among before name ≡ list_any (λ agent. pointwise nat_eq name agent.name) (take i agents)

or_comm : (a b : Bool) → (a || b) ≡ (b || a)
or_comm true true = refl
or_comm true false = refl
or_comm false true = refl
or_comm false false = refl

module _ (agents : List Agent) (i : ℕ) (agent : Agent) (within : i < length agents) (is : agent ≡ get_or agents i agent) (here : NamesFrom agents i) where
  name_here : first (repeats [] 0 agents) ≡ first (repeats here.before i (agent ∷ drop (i + 1) agents))
  name_here = here.faults ∙ ap (λ xs. first (repeats here.before i xs)) (drop_here agents i agent within is)

  abbrev judged_by : Bool → Option Fault
  judged_by b =
      first ((if b then fault (at_member (at_item (codes "agents") i) (codes "name")) DuplicateName ∷ [] else [])
      ++ repeats (agent.name ∷ here.before) (suc i) (drop (i + 1) agents))

  -- the agent has the name of an earlier one
  pub name_found : list_any (λ a. pointwise nat_eq agent.name a.name) (take i agents) ≡ true → first (repeats [] 0 agents) ≡ Some (fault (at_member (at_item (codes "agents") i) (codes "name")) DuplicateName)
  name_found found = name_here ∙ ap judged_by (here.known agent.name ∙ found)

  -- it has a name of its own
  pub name_more : list_any (λ a. pointwise nat_eq agent.name a.name) (take i agents) ≡ false → NamesFrom agents (i + 1)
  name_more own = record {
    before = agent.name ∷ here.before;
    faults = subst (λ n. first (repeats [] 0 agents) ≡ first (repeats (agent.name ∷ here.before) n (drop (i + 1) agents))) (sym (add-one i))
        (name_here ∙ ap judged_by (here.known agent.name ∙ own));
    known = λ name.
        ap (λ b. pointwise nat_eq name agent.name || b) (here.known name)
        ∙ or_comm (pointwise nat_eq name agent.name) (list_any (λ a. pointwise nat_eq name a.name) (take i agents))
        ∙ ap (λ a. list_any (λ a. pointwise nat_eq name a.name) (take i agents) || pointwise nat_eq name a.name) is
        ∙ sym (list_any_more (λ a. pointwise nat_eq name a.name) agents i agent within);
  }

-- one agent more is read
pub agents_rest : (vs : List Value) (i : ℕ) (v : Value) → i < length vs → v ≡ get_or vs i v → (whole agents : List Agent) → whole ≡ agents ++ agents_of (items_view (drop i vs))
    → (agent : Agent) → agent ≡ agent_of (view v) → (new : List Agent) → new ≡ agents ++ agent ∷ [] → whole ≡ new ++ agents_of (items_view (drop (i + 1) vs))
agents_rest vs i v within is whole agents rest agent means new put =
    rest ∙ ap (λ xs. agents ++ agents_of (items_view xs)) (drop_more vs i v within ∙ ap (λ x. x ∷ drop (i + 1) vs) (sym is))
    ∙ ap (λ a. agents ++ a ∷ agents_of (items_view (drop (i + 1) vs))) (sym means)
    ∙ sym (append_assoc agents (agent ∷ []) (agents_of (items_view (drop (i + 1) vs))))
    ∙ ap (λ xs. xs ++ agents_of (items_view (drop (i + 1) vs))) (sym put)
