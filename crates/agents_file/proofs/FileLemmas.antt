-- The whole file: its members, its keys, and what its agents are together.
use Rattle.std.proofs.Common.{◌≡◌, ℕ, zero, suc, ◌+◌, ◌<◌, ◌≤◌, ◌++◌, sym, refl, ap, ◌∙◌, subst, if◌then◌else◌, List, [], ◌∷◌, Some, None, codes, nat_le}
use Rattle.serde_json.specs.Data.{Data, null, boolean, number, string, array, object, Items, no_items, item, Members}
use Rattle.serde_json.specs.Find.{get, as_object}
use Rattle.model_run.specs.declared.agents.AgentsKind.TheVariants.{DuplicateName, TooManyExecutors}
use Rattle.model_run.specs.declared.site.Site.{Site}
use Rattle.model_run.specs.AgentsFaults.{Fault, fault, among, at_item, at_member, items_faults, agent_keys_faults, keys_faults, unknown_keys, repeated_names, executor_count, sum_faults, file_faults}
use Rattle.model_run.specs.AgentsFile.{agent_executors, executors_from, site_of}
use Rattle.model_run.specs.AgentsMembers.{items_of, items_at, text_at, number_at}
use Rattle.agents_file.specs.declared.path.Object.TheVariants as kind
use Rattle.agents_file.specs.declared.refusal.AgentsRefusal.{AgentsRefusal}
use Rattle.agents_file.specs.Agents.{agent_of, agents_of, all_executors, executor_sum, fields_faults, file_of, file_site, repeats, some_executors}
use Rattle.agents_file.specs.FirstFault.{first, Tells, TellsFirst}
use Rattle.agents_file.specs.Paths.{key_path, known_keys}
use Rattle.agents_file.proofs.LabelLemmas.{le_is, not_le}
use Rattle.agents_file.proofs.FirstLemmas.{first-append, TellsFirst-along, TellsFirst-front, TellsFirst-behind, TellsFirst-one}

pub repeated_names-repeats : (before : List (List ℕ)) (i : ℕ) (ds : Items) → repeated_names before i ds ≡ repeats before i (agents_of ds)
repeated_names-repeats before i no_items = refl
repeated_names-repeats before i (item d ds) =
    ap (λ fs. (if among before (text_at (codes "name") d) then fault (at_member (at_item (codes "agents") i) (codes "name")) DuplicateName ∷ [] else []) ++ fs)
    (repeated_names-repeats (text_at (codes "name") d ∷ before) (suc i) ds)

pub executor_count-executor_sum : (ds : Items) → executor_count ds ≡ executor_sum (agents_of ds)
executor_count-executor_sum no_items = refl
executor_count-executor_sum (item d ds) = ap (λ n. number_at 0 (codes "executors") d + n) (executor_count-executor_sum ds)

agent_executors-some_executors : (d : Data) (n slot count : ℕ) → agent_executors d n slot count ≡ some_executors (agent_of d) n slot count
agent_executors-some_executors d n slot zero = refl
agent_executors-some_executors d n slot (suc left) =
    ap (λ es. record { number = n; agent = (agent_of d).name; root = (agent_of d).root; labels = (agent_of d).labels; slot = slot } ∷ es)
    (agent_executors-some_executors d (suc n) (suc slot) left)

executors_from-all_executors : (n : ℕ) (ds : Items) → executors_from n ds ≡ all_executors n (agents_of ds)
executors_from-all_executors n no_items = refl
executors_from-all_executors n (item d ds) =
    ap (λ es. es ++ executors_from (n + number_at 0 (codes "executors") d) ds) (agent_executors-some_executors d n 0 (number_at 0 (codes "executors") d))
    ∙ ap (λ es. some_executors (agent_of d) n 0 (number_at 0 (codes "executors") d) ++ es) (executors_from-all_executors (n + number_at 0 (codes "executors") d) ds)

pub site_of-file_site : (d : Data) → site_of d ≡ file_site (file_of d)
site_of-file_site d =
    ap (λ es. let site : Site = record { job = text_at (codes "job") d; looks = number_at 100000 (codes "looks") d; executors = es } in site)
    (executors_from-all_executors 0 (items_at (codes "agents") d))

is_object : (d : Data) (ms : Members) → as_object d ≡ Some ms → d ≡ object ms
is_object null ms e = cc
is_object (boolean b) ms e = cc
is_object (number n) ms e = cc
is_object (string s) ms e = cc
is_object (array ds) ms e = cc
is_object (object ns) ms e = cc

module _ (d : Data) where
  abbrev pub agents_in : Items
  agents_in = items_of (get (codes "agents") d)

  abbrev pub agent_keys : List Fault
  agent_keys = items_faults agent_keys_faults (codes "agents") 0 (items_of (get (codes "agents") d))

  abbrev pub names : List Fault
  names = repeats [] 0 (agents_of (items_of (get (codes "agents") d)))

  abbrev pub sums : List Fault
  sums = sum_faults (items_of (get (codes "agents") d))

module _ (d : Data) (ms : Members) (is : as_object d ≡ Some ms) where
  abbrev pub file_keys : List Fault
  file_keys = unknown_keys (known_keys kind.File) (key_path kind.File) ms

  parts_of : (x : Data) → x ≡ object ms → file_faults x ≡ fields_faults x ++ (unknown_keys (known_keys kind.File) (key_path kind.File) ms ++ agent_keys x) ++ names x ++ sums x
  parts_of x e =
      subst (λ y. file_faults y ≡ fields_faults y ++ (unknown_keys (known_keys kind.File) (key_path kind.File) ms ++ agent_keys y) ++ names y ++ sums y) (sym e)
      (ap (λ fs. fields_faults (object ms) ++ keys_faults ms ++ fs ++ sums (object ms)) (repeated_names-repeats [] 0 (items_of (get (codes "agents") (object ms)))))

  file_parts : file_faults d ≡ fields_faults d ++ (file_keys ++ agent_keys d) ++ names d ++ sums d
  file_parts = parts_of d (is_object d ms is)

  pub fields_told : (e : AgentsRefusal) → TellsFirst (fields_faults d) e → TellsFirst (file_faults d) e
  fields_told e tells =
      TellsFirst-along (fields_faults d ++ (file_keys ++ agent_keys d) ++ names d ++ sums d) (file_faults d) e (ap first file_parts)
      (TellsFirst-front (fields_faults d ++ (file_keys ++ agent_keys d) ++ names d) (sums d) e
      (TellsFirst-front (fields_faults d ++ (file_keys ++ agent_keys d)) (names d) e
      (TellsFirst-front (fields_faults d) (file_keys ++ agent_keys d) e tells)))

  module _ (fields : first (fields_faults d) ≡ None) where
    keys_told : (e : AgentsRefusal) → TellsFirst (file_keys ++ agent_keys d) e → TellsFirst (file_faults d) e
    keys_told e tells =
        TellsFirst-along (fields_faults d ++ (file_keys ++ agent_keys d) ++ names d ++ sums d) (file_faults d) e (ap first file_parts)
        (TellsFirst-front (fields_faults d ++ (file_keys ++ agent_keys d) ++ names d) (sums d) e
        (TellsFirst-front (fields_faults d ++ (file_keys ++ agent_keys d)) (names d) e
        (TellsFirst-behind (fields_faults d) (file_keys ++ agent_keys d) e fields tells)))

    pub file_keys_told : (e : AgentsRefusal) → TellsFirst file_keys e → TellsFirst (file_faults d) e
    file_keys_told e tells = keys_told e (TellsFirst-front file_keys (agent_keys d) e tells)

    module _ (own : first file_keys ≡ None) where
      pub agent_keys_told : (e : AgentsRefusal) → TellsFirst (agent_keys d) e → TellsFirst (file_faults d) e
      agent_keys_told e tells = keys_told e (TellsFirst-behind file_keys (agent_keys d) e own tells)

      module _ (agents : first (agent_keys d) ≡ None) where
        keys_none : first (fields_faults d ++ (file_keys ++ agent_keys d)) ≡ None
        keys_none = first-append (fields_faults d) (file_keys ++ agent_keys d) fields ∙ first-append file_keys (agent_keys d) own ∙ agents

        pub names_told : (e : AgentsRefusal) → TellsFirst (names d) e → TellsFirst (file_faults d) e
        names_told e tells =
            TellsFirst-along (fields_faults d ++ (file_keys ++ agent_keys d) ++ names d ++ sums d) (file_faults d) e (ap first file_parts)
            (TellsFirst-front (fields_faults d ++ (file_keys ++ agent_keys d) ++ names d) (sums d) e
            (TellsFirst-behind (fields_faults d ++ (file_keys ++ agent_keys d)) (names d) e keys_none tells))

        module _ (differ : first (names d) ≡ None) where
          names_none : first (fields_faults d ++ (file_keys ++ agent_keys d) ++ names d) ≡ None
          names_none = first-append (fields_faults d ++ (file_keys ++ agent_keys d)) (names d) keys_none ∙ differ

          pub sum_told : (e : AgentsRefusal) → 64 < executor_sum (agents_of (agents_in d)) → Tells (codes "agents") TooManyExecutors e → TellsFirst (file_faults d) e
          sum_told e many tells =
              TellsFirst-along (fields_faults d ++ (file_keys ++ agent_keys d) ++ names d ++ sums d) (file_faults d) e (ap first file_parts)
              (TellsFirst-behind (fields_faults d ++ (file_keys ++ agent_keys d) ++ names d) (sums d) e names_none
              (TellsFirst-one (sums d) e
              (ap (λ b. first (if b then [] else fault (codes "agents") TooManyExecutors ∷ []))
              (ap (λ n. nat_le n 64) (executor_count-executor_sum (agents_in d)) ∙ not_le (executor_sum (agents_of (agents_in d))) 64 many)) tells))

          pub file_none : executor_sum (agents_of (agents_in d)) ≤ 64 → first (file_faults d) ≡ None
          file_none few =
              ap first file_parts ∙ first-append (fields_faults d ++ (file_keys ++ agent_keys d) ++ names d) (sums d) names_none
              ∙ ap (λ b. first (if b then [] else fault (codes "agents") TooManyExecutors ∷ []))
              (ap (λ n. nat_le n 64) (executor_count-executor_sum (agents_in d)) ∙ le_is (executor_sum (agents_of (agents_in d))) 64 few)
