-- No value of a file is too long: that is told of its bytes alone.
use Rattle.std.proofs.Common.{◌≡◌, ℕ, suc, ◌++◌, Bool, true, false, ◌&&◌, if◌then◌else◌, List, [], ◌∷◌, Option, Some, None, codes}
use Rattle.serde_json.specs.Data.{Data, null, boolean, number, string, array, object, unsigned, negative, float, Items, no_items, item, Members, no_members, member}
use Rattle.serde_json.specs.Find.{get_member}
use Rattle.model_run.specs.declared.agents.AgentsKind.TheVariants.{TooLong, Missing, WrongType, WrongValue, UnknownKey, DuplicateName, TooManyExecutors}
use Rattle.model_run.specs.AgentsFaults.{Fault, fault, required, optional, unless, is_name, is_root, name_faults, root_faults, number_faults, labels_faults, agent_faults, agents_faults, field_faults, items_faults, at_item, at_member, count_items, among, unknown_keys, agent_keys_faults, keys_faults, repeated_names, executor_count, file_faults}
use Rattle.model_run.specs.AgentsMembers.{items_of, text_at}
use Rattle.std.specs.Prelude.{nat_le}
use Rattle.agents_file.specs.FirstFault.{first}

-- none of these faults is `too long`
pub data Judged : List Fault → Type 0 where
  none : Judged []
  missing : {p : List ℕ} {fs : List Fault} → Judged fs → Judged (fault p Missing ∷ fs)
  wrong_type : {p : List ℕ} {fs : List Fault} → Judged fs → Judged (fault p WrongType ∷ fs)
  wrong_value : {p : List ℕ} {fs : List Fault} → Judged fs → Judged (fault p WrongValue ∷ fs)
  unknown_key : {p : List ℕ} {fs : List Fault} → Judged fs → Judged (fault p UnknownKey ∷ fs)
  duplicate_name : {p : List ℕ} {fs : List Fault} → Judged fs → Judged (fault p DuplicateName ∷ fs)
  too_many : {p : List ℕ} {fs : List Fault} → Judged fs → Judged (fault p TooManyExecutors ∷ fs)

pub not_long : (fs : List Fault) (p : List ℕ) → Judged fs → first fs ≡ Some (fault p TooLong) → ⊥
not_long _ p none e = cc
not_long _ p (missing j) e = cc
not_long _ p (wrong_type j) e = cc
not_long _ p (wrong_value j) e = cc
not_long _ p (unknown_key j) e = cc
not_long _ p (duplicate_name j) e = cc
not_long _ p (too_many j) e = cc

both : {fs gs : List Fault} → Judged fs → Judged gs → Judged (fs ++ gs)
both none k = k
both (missing j) k = missing (both j k)
both (wrong_type j) k = wrong_type (both j k)
both (wrong_value j) k = wrong_value (both j k)
both (unknown_key j) k = unknown_key (both j k)
both (duplicate_name j) k = duplicate_name (both j k)
both (too_many j) k = too_many (both j k)

judged_unless : (b : Bool) (p : List ℕ) → Judged (unless b p)
judged_unless true p = none
judged_unless false p = wrong_value none

judged_name : (p : List ℕ) (d : Data) → Judged (name_faults p d)
judged_name p null = wrong_type none
judged_name p (boolean b) = wrong_type none
judged_name p (number n) = wrong_type none
judged_name p (string s) = judged_unless (is_name s) p
judged_name p (array ds) = wrong_type none
judged_name p (object ms) = wrong_type none

judged_root : (p : List ℕ) (d : Data) → Judged (root_faults p d)
judged_root p null = wrong_type none
judged_root p (boolean b) = wrong_type none
judged_root p (number n) = wrong_type none
judged_root p (string s) = judged_unless (is_root s) p
judged_root p (array ds) = wrong_type none
judged_root p (object ms) = wrong_type none

judged_number : (low high : ℕ) (p : List ℕ) (d : Data) → Judged (number_faults low high p d)
judged_number low high p null = wrong_type none
judged_number low high p (boolean b) = wrong_type none
judged_number low high p (number (unsigned n)) = judged_unless (nat_le low n && nat_le n high) p
judged_number low high p (number (negative z)) = wrong_value none
judged_number low high p (number (float x)) = wrong_type none
judged_number low high p (string s) = wrong_type none
judged_number low high p (array ds) = wrong_type none
judged_number low high p (object ms) = wrong_type none

judged_required : (check : List ℕ → Data → List Fault) → ((p : List ℕ) (d : Data) → Judged (check p d)) → (p : List ℕ) (o : Option Data) → Judged (required check p o)
judged_required check j p None = missing none
judged_required check j p (Some d) = j p d

judged_optional : (check : List ℕ → Data → List Fault) → ((p : List ℕ) (d : Data) → Judged (check p d)) → (p : List ℕ) (o : Option Data) → Judged (optional check p o)
judged_optional check j p None = none
judged_optional check j p (Some d) = j p d

judged_items : (check : List ℕ → Data → List Fault) → ((p : List ℕ) (d : Data) → Judged (check p d)) → (p : List ℕ) (i : ℕ) (ds : Items) → Judged (items_faults check p i ds)
judged_items check j p i no_items = none
judged_items check j p i (item d ds) = both (j (at_item p i) d) (judged_items check j p (suc i) ds)

judged_labels : (p : List ℕ) (d : Data) → Judged (labels_faults p d)
judged_labels p null = wrong_type none
judged_labels p (boolean b) = wrong_type none
judged_labels p (number n) = wrong_type none
judged_labels p (string s) = wrong_type none
judged_labels p (array ds) = both (judged_unless (nat_le (count_items ds) 64) p) (judged_items name_faults judged_name p 0 ds)
judged_labels p (object ms) = wrong_type none

judged_agent : (p : List ℕ) (d : Data) → Judged (agent_faults p d)
judged_agent p null = wrong_type none
judged_agent p (boolean b) = wrong_type none
judged_agent p (number n) = wrong_type none
judged_agent p (string s) = wrong_type none
judged_agent p (array ds) = wrong_type none
judged_agent p (object ms) =
    both
    (both
    (both (judged_required name_faults judged_name (at_member p (codes "name")) (get_member (codes "name") ms))
    (judged_required root_faults judged_root (at_member p (codes "root")) (get_member (codes "root") ms)))
    (judged_optional labels_faults judged_labels (at_member p (codes "labels")) (get_member (codes "labels") ms)))
    (judged_required (number_faults 1 64) (judged_number 1 64) (at_member p (codes "executors")) (get_member (codes "executors") ms))

judged_agents : (p : List ℕ) (d : Data) → Judged (agents_faults p d)
judged_agents p null = wrong_type none
judged_agents p (boolean b) = wrong_type none
judged_agents p (number n) = wrong_type none
judged_agents p (string s) = wrong_type none
judged_agents p (array ds) = judged_items agent_faults judged_agent p 0 ds
judged_agents p (object ms) = wrong_type none

judged_fields : (ms : Members) → Judged (field_faults ms)
judged_fields ms =
    both
    (both (judged_required name_faults judged_name (codes "job") (get_member (codes "job") ms))
    (judged_optional (number_faults 1 1000000) (judged_number 1 1000000) (codes "looks") (get_member (codes "looks") ms)))
    (judged_required agents_faults judged_agents (codes "agents") (get_member (codes "agents") ms))

judged_known : (b : Bool) (p : List ℕ) → Judged (if b then [] else fault p UnknownKey ∷ [])
judged_known true p = none
judged_known false p = unknown_key none

judged_keys_of : (known : List (List ℕ)) (path : List ℕ → List ℕ) (ms : Members) → Judged (unknown_keys known path ms)
judged_keys_of known path no_members = none
judged_keys_of known path (member key d ms) = both (judged_known (among known key) (path key)) (judged_keys_of known path ms)

judged_agent_keys : (p : List ℕ) (d : Data) → Judged (agent_keys_faults p d)
judged_agent_keys p null = none
judged_agent_keys p (boolean b) = none
judged_agent_keys p (number n) = none
judged_agent_keys p (string s) = none
judged_agent_keys p (array ds) = none
judged_agent_keys p (object ms) = judged_keys_of (codes "name" ∷ codes "root" ∷ codes "labels" ∷ codes "executors" ∷ []) (at_member p) ms

judged_keys : (ms : Members) → Judged (keys_faults ms)
judged_keys ms =
    both (judged_keys_of (codes "job" ∷ codes "looks" ∷ codes "agents" ∷ []) (λ key. key) ms)
    (judged_items agent_keys_faults judged_agent_keys (codes "agents") 0 (items_of (get_member (codes "agents") ms)))

judged_repeat : (b : Bool) (p : List ℕ) → Judged (if b then fault p DuplicateName ∷ [] else [])
judged_repeat true p = duplicate_name none
judged_repeat false p = none

judged_names : (before : List (List ℕ)) (i : ℕ) (ds : Items) → Judged (repeated_names before i ds)
judged_names before i no_items = none
judged_names before i (item d ds) =
    both (judged_repeat (among before (text_at (codes "name") d)) (at_member (at_item (codes "agents") i) (codes "name"))) (judged_names (text_at (codes "name") d ∷ before) (suc i) ds)

judged_few : (b : Bool) → Judged (if b then [] else fault (codes "agents") TooManyExecutors ∷ [])
judged_few true = none
judged_few false = too_many none

pub judged_file : (d : Data) → Judged (file_faults d)
judged_file null = wrong_type none
judged_file (boolean b) = wrong_type none
judged_file (number n) = wrong_type none
judged_file (string s) = wrong_type none
judged_file (array ds) = wrong_type none
judged_file (object ms) =
    both (both (both (judged_fields ms) (judged_keys ms)) (judged_names [] 0 (items_of (get_member (codes "agents") ms))))
    (judged_few (nat_le (executor_count (items_of (get_member (codes "agents") ms))) 64))
