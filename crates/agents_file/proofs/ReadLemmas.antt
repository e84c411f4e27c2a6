-- What the JSON reader answers, in the words of the agents file.
use Rattle.std.proofs.Common.{rules, tests, ◌≡◌, ℕ, ◌<◌, ◌≤◌, refl, Bool, true, false, List, [], ◌∷◌, length, Option, None, Some, Result, Ok, Err, IfErr, inl, inr, codes, if◌then◌else◌, nat_lt, ap, ◌∙◌, sym}
use Rattle.std.specs.Str.{is_utf8}
use Rattle.std.proofs.lemmas.Bool.{cases_lt}
use Rattle.serde_json.specs.Data.{Data}
use Rattle.serde_json.specs.Read.{read}
use Rattle.model_run.specs.declared.agents.AgentsKind.{AgentsKind}
use Rattle.model_run.specs.declared.agents.AgentsKind.TheVariants.{NotJson, TooLong}
use Rattle.model_run.specs.declared.site.Site.{Site}
use Rattle.model_run.specs.AgentsFaults.{Fault, fault, file_faults}
use Rattle.model_run.specs.AgentsFile.{AgentsFile, Means, Refused, agents_file, judged, of_json, site_of}
use Rattle.agents_file.specs.declared.refusal.AgentsRefusal.{AgentsRefusal}
use Rattle.agents_file.specs.declared.refusal.AgentsRefusal.TheVariants as refusal
use Rattle.agents_file.specs.FirstFault.{first, Tells, TellsFirst, IsRefusedFor}
use Rattle.agents_file.proofs.KindLemmas.{Judged, judged_file, not_long}

not_less : (m n : ℕ) → m ≤ n → nat_lt n m ≡ false
not_less m n h = search (rules, tests)

less : (m n : ℕ) → n < m → nat_lt n m ≡ true
less m n h = search (rules, tests)

-- bytes that are no JSON text, or no UTF-8
pub no_json : (utf8 : Bool) (read : Option Data) (e : AgentsRefusal) → (utf8 ≡ true → read ≡ None) → Tells (codes ".") NotJson e
    → IsRefusedFor (if utf8 then of_json read else Refused (codes ".") NotJson) e
no_json utf8 read refusal.Memory none tells = tt
no_json false read (refusal.Fault p k) none tells = cc
no_json true read (refusal.Fault p k) none tells = ap of_json (none refl) ∙ let same : Refused (codes ".") NotJson ≡ Refused p k = cc in same

-- what a file within the limit is
pub within : (bytes : List ℕ) → length bytes ≤ 65536 → agents_file bytes ≡ (if is_utf8 bytes then of_json (read bytes) else Refused (codes ".") NotJson)
within bytes fits = ap (λ b. if b then Refused (codes ".") TooLong else (if is_utf8 bytes then of_json (read bytes) else Refused (codes ".") NotJson)) (not_less (length bytes) 65536 fits)

-- what one above the limit is
pub above : (bytes : List ℕ) (e : AgentsRefusal) → 65536 < length bytes → Tells (codes ".") TooLong e → IsRefusedFor (agents_file bytes) e
above bytes refusal.Memory past tells = tt
above bytes (refusal.Fault p k) past tells =
    ap (λ b. if b then Refused (codes ".") TooLong else (if is_utf8 bytes then of_json (read bytes) else Refused (codes ".") NotJson)) (less (length bytes) 65536 past)
    ∙ let same : Refused (codes ".") TooLong ≡ Refused p k = cc in same

-- what one is whose bytes are this JSON value
pub of_value : (bytes : List ℕ) (d : Data) → length bytes ≤ 65536 → is_utf8 bytes ≡ true → read bytes ≡ Some d → agents_file bytes ≡ judged (file_faults d) (site_of d)
of_value bytes d fits utf8 is =
    within bytes fits ∙ ap (λ b. if b then of_json (read bytes) else Refused (codes ".") NotJson) utf8 ∙ ap of_json is

judged_none : (faults : List Fault) (site : Site) → first faults ≡ None → judged faults site ≡ Means site
judged_none [] site none = refl
judged_none (f ∷ fs) site none = cc

judged_some : (faults : List Fault) (site : Site) (p : List ℕ) (k : AgentsKind) → first faults ≡ Some (fault p k) → judged faults site ≡ Refused p k
judged_some [] site p k is = cc
judged_some (fault q j ∷ fs) site p k is = cc

-- a value without a fault means its site, and one with a first fault is refused for it
pub means : (bytes : List ℕ) (d : Data) → agents_file bytes ≡ judged (file_faults d) (site_of d) → first (file_faults d) ≡ None → agents_file bytes ≡ Means (site_of d)
means bytes d is none = is ∙ judged_none (file_faults d) (site_of d) none

pub refuses : (bytes : List ℕ) (d : Data) (e : AgentsRefusal) → agents_file bytes ≡ judged (file_faults d) (site_of d) → TellsFirst (file_faults d) e → IsRefusedFor (agents_file bytes) e
refuses bytes d refusal.Memory is tells = tt
refuses bytes d (refusal.Fault p k) is tells = is ∙ judged_some (file_faults d) (site_of d) p k tells

judged_long : (faults : List Fault) (site : Site) (p : List ℕ) → Judged faults → judged faults site ≡ Refused p TooLong → ⊥
judged_long [] site p j is = cc
judged_long (fault q k ∷ fs) site p j is = not_long (fault q k ∷ fs) p j (let same : fault q k ≡ fault p TooLong = cc in ap Some same)

json_long : (value : Option Data) (p : List ℕ) → of_json value ≡ Refused p TooLong → ⊥
json_long None p is = cc
json_long (Some d) p is = judged_long (file_faults d) (site_of d) p (judged_file d) is

text_long : (utf8 : Bool) (value : Option Data) (p : List ℕ) → (if utf8 then of_json value else Refused (codes ".") NotJson) ≡ Refused p TooLong → ⊥
text_long true value p is = json_long value p is
text_long false value p is = cc

-- only bytes above the limit are too long
pub only_above : (bytes : List ℕ) (p : List ℕ) → agents_file bytes ≡ Refused p TooLong → 65536 < length bytes
only_above bytes p is =
    elim (cases_lt 65536 (length bytes)) [
      | inl past ↦ past
      | inr fits ↦ absurd (text_long (is_utf8 bytes) (read bytes) p (sym (within bytes fits) ∙ is))
    ]

-- the answer of a reading that tells this fault
pub refused_for : {T : Type 0} (file : AgentsFile) (r : Result T AgentsRefusal) (p : List ℕ) (k : AgentsKind) → IfErr r (IsRefusedFor file) → r ≡ Err (refusal.Fault p k) → file ≡ Refused p k
refused_for file (Ok x) p k told is = cc
refused_for file (Err refusal.Memory) p k told is = cc
refused_for file (Err (refusal.Fault q j)) p k told is = let same : Refused q j ≡ Refused p k = cc in told ∙ same
