-- What is known of an argument, where all of a call fit.
use Rattle.std.proofs.Common.{◌≡◌, ◌∙◌, ℕ, Bool, true, false, List, [], ◌∷◌, Option, Some, None, ap, refl, subst}
use Rattle.std.specs.Prelude.{if◌then◌else◌, IfSome}
use Rattle.std.specs.Cmp.Lexicographic.{bytes_decides}
use Rattle.model_values.specs.TextOf.{Writing, Wrote, Stops, text_of}
use Rattle.model_values.specs.Limits.{product_limits}
use Rattle.model_values.specs.declared.cell.Cell.{Cell}
use Rattle.model_values.specs.declared.value.Value.{Value}
use Rattle.model_run.specs.Names.{same_text}
use Rattle.model_run.specs.State.{World}
use Rattle.model_run.specs.Terms.{empty_block}
use Rattle.model_run.specs.World.{no_state, run_limits}
use Rattle.model_run.specs.declared.step.Step.{Step}
use Rattle.model_run.specs.StepTable.{AnyText, Bad, Fit, Fits, Given, Identifier, Meets, Parameter, Sort, all_fit, and_fits, fit, fit_given, fits_if, given, is_identifier, parameters, sort_of, writing_fits}
use Rattle.step_arguments.specs.Binding.{AllFit, HasText, seen_with}

-- what an argument is depends on no world: this is any
abbrev nowhere : World
nowhere = record {
  setting = record { script = empty_block 0; site = record { job = []; looks = 1; executors = [] }; limits = run_limits };
  shared = no_state;
  own = record { number = 0; head = 0; context = record { held = []; folders = []; env = [] }; calls = 0 };
}

both_fit : (name : List ℕ) (f rest : Fit) → and_fits name f rest ≡ Fits → (f ≡ Fits) × (rest ≡ Fits)
both_fit name Fits rest e = (refl, e)
both_fit name (Bad None) rest e = absurd (cc e)
both_fit name (Bad (Some part)) rest e = absurd (cc e)
both_fit name (Meets k) rest e = absurd (cc e)

module _ (w : World) (ps : List Parameter) (name : List ℕ) (v : Value) where
  abbrev Fitting : Type 0
  Fitting = fit_given w (sort_of name ps) v ≡ Fits

  chosen : (g : List ℕ × Value) (more : Option Value) (same : Bool) → same_text name g.0 ≡ same → Some v ≡ (if same then Some g.1 else more) → fit_given w (sort_of g.0 ps) g.1 ≡ Fits → (Some v ≡ more → Fitting) → Fitting
  chosen g more true is found fits rest =
      let here : v ≡ g.1 = cc found in
      ap (fit_given w (sort_of name ps)) here ∙ ap (λ n. fit_given w (sort_of n ps) g.1) ((bytes_decides name g.0).0 is) ∙ fits
  chosen g more false is found fits rest = rest found

  fitted : (args : Given) → Some v ≡ given name args → all_fit w ps args ≡ Fits → Fitting
  fitted [] found fits = absurd (cc found)
  fitted (g ∷ gs) found fits =
      let p = both_fit g.0 (fit_given w (sort_of g.0 ps) g.1) (all_fit w ps gs) fits in
      chosen g (given name gs) (same_text name g.0) refl found p.0 (λ more. fitted gs more p.1)

-- an argument that is given fits what its parameter takes
pub fits_sort : (h : List Cell) (s : Step) (sort : Sort) (name : List ℕ) (args : Given) (v : Value) → sort_of name (parameters s) ≡ Some sort → AllFit h s args → Some v ≡ given name args → fit (seen_with h nowhere) sort v ≡ Fits
fits_sort h s sort name args v is fits found =
    subst (λ o. fit_given (seen_with h nowhere) o v ≡ Fits) is (fitted (seen_with h nowhere) (parameters s) name v args found (fits nowhere))

pub is_so : (b : Bool) → fits_if b ≡ Fits → b ≡ true
is_so true e = refl
is_so false e = absurd (cc e)

each : {A : Type 0} (P : A → Type 0) (o : Option A) → ((v : A) → Some v ≡ o → P v) → IfSome o P
each P None f = tt
each P (Some v) f = f v refl

-- the text of an argument meets no limit
pub has_text : (h : List Cell) (s : Step) (name : List ℕ) (args : Given) → sort_of name (parameters s) ≡ Some AnyText → AllFit h s args → IfSome (given name args) (HasText h)
has_text h s name args is fits = each (HasText h) (given name args) (λ v found. fits_sort h s AnyText name args v is fits found)

identified : (w : Writing) → is_identifier w ≡ Fits → writing_fits w ≡ Fits
identified (Wrote t) e = refl
identified (Stops k) e = e

pub has_identifier : (h : List Cell) (s : Step) (name : List ℕ) (args : Given) → sort_of name (parameters s) ≡ Some Identifier → AllFit h s args → IfSome (given name args) (HasText h)
has_identifier h s name args is fits =
    each (HasText h) (given name args) (λ v found. identified (text_of product_limits h v) (fits_sort h s Identifier name args v is fits found))
