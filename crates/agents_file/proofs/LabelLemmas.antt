-- The labels of an agent, and its members.
use Rattle.std.proofs.Common.{◌≡◌, ℕ, suc, ◌<◌, ◌≤◌, ◌++◌, refl, ap, ◌∙◌, true, false, List, [], ◌∷◌, length, Some, None, codes, rules, tests, nat_le}
use Rattle.std.specs.Prelude.{is_some}
use Rattle.serde_json.specs.Data.{Data, null, boolean, number, string, array, object, Items}
use Rattle.serde_json.specs.Find.{get, as_array, as_object}
use Rattle.serde_json.specs.View.{items_view}
use Rattle.serde_json.specs.declared.value.Value.{Value}
use Rattle.model_run.specs.declared.agents.AgentsKind.TheVariants.{WrongValue}
use Rattle.model_run.specs.AgentsFaults.{Fault, fault, required, optional, name_faults, root_faults, number_faults, labels_faults, agent_faults, items_faults, count_items, unless, at_member}
use Rattle.agents_file.specs.declared.refusal.AgentsRefusal.{AgentsRefusal}
use Rattle.agents_file.specs.FirstFault.{first, TellsFirst}
use Rattle.agents_file.proofs.FirstLemmas.{first-append, TellsFirst-along, TellsFirst-front, TellsFirst-behind}

pub count_items-items_view : (vs : List Value) → count_items (items_view vs) ≡ length vs
count_items-items_view [] = refl
count_items-items_view (v ∷ vs) = ap suc (count_items-items_view vs)

is_array : (d : Data) (ds : Items) → as_array d ≡ Some ds → d ≡ array ds
is_array null ds e = cc
is_array (boolean b) ds e = cc
is_array (number n) ds e = cc
is_array (string s) ds e = cc
is_array (array es) ds e = cc
is_array (object ms) ds e = cc

pub le_is : (m n : ℕ) → m ≤ n → nat_le m n ≡ true
le_is m n h = search (rules, tests)

pub not_le : (m n : ℕ) → n < m → nat_le m n ≡ false
not_le m n h = search (rules, tests)

-- more than 64 labels
pub labels_many : (path : List ℕ) (d : Data) (vs : List Value) → as_array d ≡ Some (items_view vs) → 64 < length vs → first (labels_faults path d) ≡ Some (fault path WrongValue)
labels_many path d vs is many =
    ap (λ x. first (labels_faults path x)) (is_array d (items_view vs) is)
    ∙ ap (λ b. first (unless b path ++ items_faults name_faults path 0 (items_view vs))) (ap (λ n. nat_le n 64) (count_items-items_view vs) ∙ not_le (length vs) 64 many)

-- at most 64
pub labels_few : (path : List ℕ) (d : Data) (vs : List Value) → as_array d ≡ Some (items_view vs) → length vs ≤ 64 → labels_faults path d ≡ items_faults name_faults path 0 (items_view vs)
labels_few path d vs is few =
    ap (labels_faults path) (is_array d (items_view vs) is)
    ∙ ap (λ b. unless b path ++ items_faults name_faults path 0 (items_view vs)) (ap (λ n. nat_le n 64) (count_items-items_view vs) ∙ le_is (length vs) 64 few)

-- the parts of an agent
module _ (path : List ℕ) (d : Data) where
  abbrev pub names_part : List Fault
  names_part = required name_faults (at_member path (codes "name")) (get (codes "name") d)

  abbrev pub roots_part : List Fault
  roots_part = required root_faults (at_member path (codes "root")) (get (codes "root") d)

  abbrev pub labels_part : List Fault
  labels_part = optional labels_faults (at_member path (codes "labels")) (get (codes "labels") d)

  abbrev pub executors_part : List Fault
  executors_part = required (number_faults 1 64) (at_member path (codes "executors")) (get (codes "executors") d)

pub agent_parts : (path : List ℕ) (d : Data) → is_some (as_object d) ≡ true → agent_faults path d ≡ names_part path d ++ roots_part path d ++ labels_part path d ++ executors_part path d
agent_parts path null e = cc
agent_parts path (boolean b) e = cc
agent_parts path (number n) e = cc
agent_parts path (string s) e = cc
agent_parts path (array ds) e = cc
agent_parts path (object ms) e = refl

module _ (path : List ℕ) (d : Data) (is : is_some (as_object d) ≡ true) (name : first (names_part path d) ≡ None) (root : first (roots_part path d) ≡ None) where
  name_root : first (names_part path d ++ roots_part path d) ≡ None
  name_root = first-append (names_part path d) (roots_part path d) name ∙ root

  pub labels_told : (e : AgentsRefusal) → TellsFirst (labels_part path d) e → TellsFirst (agent_faults path d) e
  labels_told e tells =
      TellsFirst-along (names_part path d ++ roots_part path d ++ labels_part path d ++ executors_part path d) (agent_faults path d) e (ap first (agent_parts path d is))
      (TellsFirst-front (names_part path d ++ roots_part path d ++ labels_part path d) (executors_part path d) e
      (TellsFirst-behind (names_part path d ++ roots_part path d) (labels_part path d) e name_root tells))

  module _ (labels : first (labels_part path d) ≡ None) where
    name_root_labels : first (names_part path d ++ roots_part path d ++ labels_part path d) ≡ None
    name_root_labels = first-append (names_part path d ++ roots_part path d) (labels_part path d) name_root ∙ labels

    pub executors_told : (e : AgentsRefusal) → TellsFirst (executors_part path d) e → TellsFirst (agent_faults path d) e
    executors_told e tells =
        TellsFirst-along (names_part path d ++ roots_part path d ++ labels_part path d ++ executors_part path d) (agent_faults path d) e (ap first (agent_parts path d is))
        (TellsFirst-behind (names_part path d ++ roots_part path d ++ labels_part path d) (executors_part path d) e name_root_labels tells)

    pub agent_none : first (executors_part path d) ≡ None → first (agent_faults path d) ≡ None
    agent_none executors =
        ap first (agent_parts path d is) ∙ first-append (names_part path d ++ roots_part path d ++ labels_part path d) (executors_part path d) name_root_labels ∙ executors
