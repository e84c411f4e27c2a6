-- The first fault of an image, in the order of its parts.
use Rattle.std.specs.Prelude.{◌≡◌, Option, Some, None}
use Rattle.model_run.specs.declared.site.Site.{Site}
use Rattle.model_run.specs.State.{Setting}
use Rattle.model_run.specs.Terms.{Term}
use Rattle.image_form.specs.declared.image.Image.{Image}
use Rattle.image_check.specs.declared.finding.Finding.{Finding}
use Rattle.image_check.specs.declared.finding.CheckKind.TheVariants as check
use Rattle.image_check.specs.declared.finding.ImageRefusal.{ImageRefusal}
use Rattle.image_check.specs.declared.finding.ImageRefusal.TheVariants as refusal
use Rattle.image_check.specs.Cells.{cells_fault}
use Rattle.image_check.specs.Findings.{outside}
use Rattle.image_check.specs.Requests.{all_differ, held_faults, request_fault}
use Rattle.image_check.specs.Scans.{need, ◌then◌, each}
use Rattle.image_check.specs.Shared.{head_fault, nodes_fault}
use Rattle.image_check.specs.Standings.{Stands}
use Rattle.image_check.specs.Threads.{all_own, has_main, thread_fault}

-- The threads: the main one is there, each fits, and the requests of all open `node` bodies differ.
abbrev pub threads_fault : Term → Image → Option Finding
threads_fault root i =
    need (has_main i) (outside check.Parent)
    then (each (thread_fault root i) 0 None i.threads
    then need (all_differ (all_own i i.threads)) (outside check.Executor))

-- the parts in front of the requests: the numbers and the binding, the cells, the flow nodes
abbrev pub front_fault : Term → Image → Option Finding
front_fault root i = head_fault i then (cells_fault root i.cells then nodes_fault i)

-- and then the open requests, the held executors and the threads
abbrev pub first_fault : Term → Site → Image → Option Finding
first_fault root site i =
    front_fault root i
    then (each (request_fault site i) 0 None i.requests
    then (held_faults site i
    then threads_fault root i))

-- a refusal tells the fault; want of memory tells none
abbrev pub Tells : Option Finding → ImageRefusal → Type 0
Tells o refusal.Memory = Unit {0}
Tells o (refusal.Fault f) = o ≡ Some f

-- for the script and the site of a build
abbrev pub StandsFor : Term → Site → Image → Type 0
StandsFor root site i = (setting : Setting) → setting.script ≡ root → setting.site ≡ site → Stands setting i

-- a fault is told of an image that does not stand
abbrev pub FallsFor : Term → Site → Image → ImageRefusal → Type 0
FallsFor root site i refusal.Memory = Unit {0}
FallsFor root site i (refusal.Fault f) = (setting : Setting) → setting.script ≡ root → setting.site ≡ site → Stands setting i → ⊥
