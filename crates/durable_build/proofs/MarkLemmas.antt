-- What the marks tell of the kept image; and that nothing else of a build hangs on them.
use Rattle.std.proofs.Common.{◌≡◌, ℕ, Bool, true, false, Option, Some, None, refl, sym, ap, subst}
use Rattle.std.specs.Prelude.{IfSome, if◌then◌else◌}
use Rattle.settle_laws.specs.Stances.{Stance}
use Rattle.image_form.specs.declared.image.Image.{Image}
use Rattle.cps_code.specs.Script.{script_of}
use Rattle.model_run.specs.Requests.{RequestsStay}
use Rattle.model_run.specs.State.{Setting}
use Rattle.model_run.specs.Terms.{Term}
use Rattle.build_images.specs.Lower.script_thread.Marks.{GoesOnFrom, ThreadsStay}
use Rattle.build_images.specs.Lower.build_core.Builds.{Parts, setting_in}
use Rattle.build_images.specs.Lower.build_core.Phases.{has_begun}
use Rattle.build_images.specs.Images.{HasImage, image_in}
use Rattle.build_images.specs.Fronts.{ThreadsStand}
use Rattle.build_images.proofs.FrontLaws.{threads_stand}
use Rattle.build_images.proofs.MarkedBuilds.{has_image_marked, image_same, marked_build, stands_marked}
use Rattle.durable_build.specs.Adding.{IsSameButMarks, MarksChanges}
use Rattle.durable_build.specs.Standing.{Remembers}

-- behind an event the marks tell what changed since the kept image
pub marks_changes : {T : Type 0} (low : T → ℕ) (touched : T → Bool) (stance : T → Stance) (b c : Parts T) (kept : Option Image) → Remembers stance b kept → setting_in c ≡ setting_in b → GoesOnFrom b.shared c.shared → ThreadsStay low touched stance b.group.seats c.group.seats → RequestsStay b.shared.requests c.shared.requests → IfSome kept (λ before. MarksChanges low touched stance before c)
marks_changes low touched stance b c kept remembers setting goes stay requests = subst (λ (o : Option Image). IfSome o (λ before. MarksChanges low touched stance before c)) (sym remembers.is) (here (has_begun b.phase))
  where
    here : (begun : Bool) → IfSome (if begun then Some (image_in stance b) else None) (λ before. MarksChanges low touched stance before c)
    here true = record {
      bindings = goes.binding;
      cells = record { grows = goes.cells.grows; same = goes.cells.same };
      nodes = goes.nodes;
      log = goes.log;
      requests = requests;
      threads = subst (λ (root : Term). ThreadsStand low touched stance root (image_in stance b).threads c.group.seats) (sym (ap (λ (s : Setting). s.script) setting)) (threads_stand low touched stance (script_of b.shared.code) b.group.seats c.group.seats stay);
    }
    here false = tt

-- the build with its cells and threads marked
module _ {T : Type 0} (stance : T → Stance) (marks : T → T) (same : (t : T) → stance (marks t) ≡ stance t) (b c : Parts T) (is : c ≡ marked_build marks b) where
  pub same_marked : IsSameButMarks stance b c
  same_marked = subst (IsSameButMarks stance b) (sym is) (record { setting = refl; phase = refl; image = image_same stance marks same b; stands = λ w st. stands_marked stance marks same b w st })

  pub image_marked : HasImage stance b → HasImage stance c
  image_marked has = subst (HasImage stance) (sym is) (has_image_marked stance marks same b has)
