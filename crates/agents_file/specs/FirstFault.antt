-- The first of some faults, and refusals that tell it (this product's own: a file is refused for its first fault alone).
use Rattle.std.specs.Prelude.{◌≡◌, ℕ, List, [], ◌∷◌, Option, Some, None}
use Rattle.model_run.specs.declared.agents.AgentsKind.{AgentsKind}
use Rattle.model_run.specs.AgentsFaults.{Fault, fault}
use Rattle.model_run.specs.AgentsFile.{AgentsFile, Refused}
use Rattle.agents_file.specs.declared.refusal.AgentsRefusal.{AgentsRefusal}
use Rattle.agents_file.specs.declared.refusal.AgentsRefusal.TheVariants as refusal

abbrev pub first : List Fault → Option Fault
first [] = None
first (f ∷ fs) = Some f

-- a refusal for a fault of this kind at this path; the memory may be refused for every file
abbrev pub Tells : List ℕ → AgentsKind → AgentsRefusal → Type 0
Tells path kind refusal.Memory = Unit {0}
Tells path kind (refusal.Fault p k) = (p ≡ path) × (k ≡ kind)

-- a refusal for the first of these faults
abbrev pub TellsFirst : List Fault → AgentsRefusal → Type 0
TellsFirst faults refusal.Memory = Unit {0}
TellsFirst faults (refusal.Fault p k) = first faults ≡ Some (fault p k)

-- a refusal for what the file is
abbrev pub IsRefusedFor : AgentsFile → AgentsRefusal → Type 0
IsRefusedFor file refusal.Memory = Unit {0}
IsRefusedFor file (refusal.Fault p k) = file ≡ Refused p k
