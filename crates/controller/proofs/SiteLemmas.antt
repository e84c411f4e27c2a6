-- The executors of an agents file, and those of a store's build, are numbered from 0, one after the other.
use Rattle.std.proofs.Common.{◌≡◌, ◌+◌, ◌≤◌, ◌∙◌, ℕ, zero, suc, Bool, true, false, List, [], ◌∷◌, ◌++◌, length, Option, None, Some, refl, sym, ap, subst, arith}
use Rattle.std.specs.Prelude.{codes, nat_le, nat_lt, if◌then◌else◌}
use Rattle.std.specs.Str.{is_utf8}
use Rattle.serde_json.specs.Data.{Data, Items, item, Members, no_items}
use Rattle.serde_json.specs.Data as json
use Rattle.serde_json.specs.Find.{get_member}
use Rattle.serde_json.specs.Read.{read}
use Rattle.build_commands.specs.Lower.record_form.declared.record.EventRecord.{EventRecord}
use Rattle.model_run.specs.AgentsFaults.{Fault, executor_count, fault, field_faults, file_faults, keys_faults, repeated_names, sum_faults}
use Rattle.model_run.specs.AgentsFile.{agent_executors, agents_file, executors_from, judged, Means, of_json, Refused, site_of}
use Rattle.model_run.specs.AgentsMembers.{items_of, number_at}
use Rattle.model_run.specs.declared.agents.AgentsKind.TheVariants as kind
use Rattle.model_run.specs.declared.event.Event.{Event}
use Rattle.model_run.specs.declared.event.Event.TheVariants as event
use Rattle.model_run.specs.declared.site.Executor.{Executor}
use Rattle.model_run.specs.declared.site.Site.{Site}
use Rattle.model_run.specs.State.{Setting}
use Rattle.build_commands.specs.Lower.store_laws.Store.{FirstStarts, Mean, Starts, events_of}
use Rattle.build_commands.specs.Lower.build_store.Saved.{Stores}

-- the numbers of these executors go up by one, from this one on
abbrev pub Consecutive : ℕ → List Executor → Type 0
Consecutive number [] = Unit {0}
Consecutive number (x ∷ xs) = (x.number ≡ number) × Consecutive (number + 1) xs

agent_consecutive : (agent : Data) (number slot left : ℕ) (rest : List Executor) → Consecutive (number + left) rest → Consecutive number (agent_executors agent number slot left ++ rest)
agent_consecutive agent number slot zero rest all = subst (λ (n : ℕ). Consecutive n rest) (let e : number + 0 ≡ number = omega arith in e) all
agent_consecutive agent number slot (suc left) rest all = (
  refl,
  subst (λ (n : ℕ). Consecutive n (agent_executors agent (suc number) (suc slot) left ++ rest)) (let e : suc number ≡ number + 1 = omega arith in e)
      (agent_consecutive agent (suc number) (suc slot) left rest (subst (λ (n : ℕ). Consecutive n rest) (let e : number + suc left ≡ suc number + left = omega arith in e) all)),
)

all_consecutive : (number : ℕ) (agents : Items) → Consecutive number (executors_from number agents)
all_consecutive number no_items = tt
all_consecutive number (item agent agents) =
    let count = number_at 0 (codes "executors") agent in
    agent_consecutive agent number 0 count (executors_from (number + count) agents) (all_consecutive (number + count) agents)

-- and there are at most 64
last_none : (xs ys : List Fault) → xs ++ ys ≡ [] → ys ≡ []
last_none [] ys is = is
last_none (x ∷ xs) ys is = absurd (cc)

few_executors : (count : ℕ) → (if nat_le count 64 then [] else fault (codes "agents") kind.TooManyExecutors ∷ []) ≡ [] → count ≤ 64
few_executors count is = by (nat_le count 64) refl is
  where
    by : (few : Bool) → nat_le count 64 ≡ few → (if few then [] else fault (codes "agents") kind.TooManyExecutors ∷ []) ≡ [] → count ≤ 64
    by true few none = grind (arith, few)
    by false few none = absurd (cc)

length_agent : (agent : Data) (number slot left : ℕ) (rest : List Executor) → length (agent_executors agent number slot left ++ rest) ≡ left + length rest
length_agent agent number slot zero rest = let e : length rest ≡ 0 + length rest = omega arith in e
length_agent agent number slot (suc left) rest = ap suc (length_agent agent (suc number) (suc slot) left rest) ∙ (let e : suc (left + length rest) ≡ suc left + length rest = omega arith in e)

length_all : (number : ℕ) (agents : Items) → length (executors_from number agents) ≡ executor_count agents
length_all number no_items = refl
length_all number (item agent agents) =
    let count = number_at 0 (codes "executors") agent in
    length_agent agent number 0 count (executors_from (number + count) agents) ∙ ap (λ (n : ℕ). count + n) (length_all (number + count) agents)

-- Of the site that an agents file means, they are numbered from 0, and at most 64.
pub record IsSeated (site : Site) : Type 0 where
  pub consecutive : Consecutive 0 site.executors
  pub few : length site.executors ≤ 64

no_sum_fault : (ms : Members) → file_faults (json.object ms) ≡ [] → sum_faults (items_of (get_member (codes "agents") ms)) ≡ []
no_sum_fault ms sound =
    let agents = items_of (get_member (codes "agents") ms) in
    last_none ((field_faults ms ++ keys_faults ms) ++ repeated_names [] 0 agents) (sum_faults agents) sound

data_seated : (d : Data) → file_faults d ≡ [] → IsSeated (site_of d)
data_seated (json.object ms) sound =
    let agents = items_of (get_member (codes "agents") ms) in
    record { consecutive = all_consecutive 0 agents; few = subst (λ (n : ℕ). n ≤ 64) (sym (length_all 0 agents)) (few_executors (executor_count agents) (no_sum_fault ms sound)) }
data_seated json.null sound = absurd (cc)
data_seated (json.boolean b) sound = absurd (cc)
data_seated (json.number n) sound = absurd (cc)
data_seated (json.string s) sound = absurd (cc)
data_seated (json.array ds) sound = absurd (cc)

-- what an agents file means is the site of its JSON
pub site_seated : (a : List ℕ) (site : Site) → agents_file a ≡ Means site → IsSeated site
site_seated a site means = file (nat_lt 65536 (length a)) (is_utf8 a) means
  where
    faults : (fs : List Fault) (d : Data) → file_faults d ≡ fs → judged fs (site_of d) ≡ Means site → IsSeated site
    faults [] d sound e = let is : site_of d ≡ site = cc in subst IsSeated is (data_seated d sound)
    faults (fault path k ∷ fs) d sound e = absurd (cc)

    by_data : (o : Option Data) → of_json o ≡ Means site → IsSeated site
    by_data None e = absurd (cc)
    by_data (Some d) e = faults (file_faults d) d refl e

    file : (long text : Bool) → (if long then Refused (codes ".") kind.TooLong else (if text then of_json (read a) else Refused (codes ".") kind.NotJson)) ≡ Means site → IsSeated site
    file true text e = absurd (cc)
    file false true e = by_data (read a) e
    file false false e = absurd (cc)

-- a store with an event begins with a `Start` that means its setting
pub record Begun (setting : Setting) : Type 0 where
  pub script : List ℕ
  pub agents : List ℕ
  pub mean : Mean script agents setting

start_mean : (setting : Setting) (e : Event) → Starts setting e → Begun setting
start_mean setting (event.Start script agents) mean = record { script = script; agents = agents; mean = mean }
start_mean setting (event.Granted request executor) none = absurd none
start_mean setting (event.Output task stream place bytes) none = absurd none
start_mean setting (event.Exited task code) none = absurd none
start_mean setting (event.Lost task why) none = absurd none
start_mean setting (event.Decided request proceed name) none = absurd none

first_mean : (setting : Setting) (records : List EventRecord) → FirstStarts setting records → ¬ (events_of records ≡ []) → Begun setting
first_mean setting [] starts some = absurd (some refl)
first_mean setting (r ∷ records) starts some = start_mean setting r.event starts

pub store_begun : (setting : Setting) (events : List Event) (file : List ℕ) → Stores setting events file → ¬ (events ≡ []) → Begun setting
store_begun setting events file stores some = first_mean setting stores.told.records stores.told.story.starts (λ none. some (sym stores.told.are ∙ none))
