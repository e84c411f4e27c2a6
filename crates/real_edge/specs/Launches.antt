-- How often the programs of agents were asked to start tasks elsewhere, and for them. This product's own rules (docs/HOSTS.md).
use Rattle.std.specs.Prelude.{◌≡◌, ◌⊎◌, Result, Ok, Err}
use Rattle.device_faults.specs.Faults.{counted}
use Rattle.real_edge.specs.declared.launches.Launches.{Launches}

-- one call that handed a task over
abbrev pub one_handed_over : Launches → Launches
one_handed_over old = record old { handed_over = counted old.handed_over }

-- one call that was to, and failed
abbrev pub one_failed : Launches → Launches
one_failed old = record old { failed = counted old.failed }

-- A start that failed has called the program once, and the call failed; or not at all, since something before it failed.
abbrev pub OneFailed : Launches → Launches → Type 0
OneFailed old new = (new ≡ old) ⊎ (new ≡ one_failed old)

-- A start of a task elsewhere never calls the program twice.
abbrev pub StartsElsewhere : {T E : Type 0} → Launches → Launches → Result T E → Type 0
StartsElsewhere old new (Ok _) = new ≡ one_handed_over old
StartsElsewhere old new (Err _) = OneFailed old new

-- one question whether a task lives
abbrev pub one_asked : Launches → Launches
one_asked old = record old { asked = counted old.asked }

-- no question, or one
abbrev pub AsksOnce : Launches → Launches → Type 0
AsksOnce old new = (new ≡ old) ⊎ (new ≡ one_asked old)

-- no question, one, or two
abbrev pub AsksTwice : Launches → Launches → Type 0
AsksTwice old new = (new ≡ old) ⊎ (new ≡ one_asked old) ⊎ (new ≡ one_asked (one_asked old))
