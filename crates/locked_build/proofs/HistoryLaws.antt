-- A history with more entries.
use Rattle.std.specs.Prelude.{fold}
use Rattle.std.proofs.Common.{◌≡◌, ◌∙◌, List, [], ◌∷◌, ◌++◌, Option, Some, None, refl, sym, ap}
use Rattle.model_run.specs.declared.event.Event.{Event}
use Rattle.model_run.specs.State.{Setting}
use Rattle.model_run.specs.World as W
use Rattle.image_form.specs.declared.image.Image.{Image}
use Rattle.durable_build.specs.Lower.delta_records.declared.weights.Weights.{Weights}
use Rattle.settle_laws.specs.Stances.{Stance}
use Rattle.journal_core.specs.declared.faults.TakeFault.{TakeFault}
use Rattle.durable_build.specs.Standing.{Kept}
use Rattle.locked_build.specs.declared.ask.Entry.{Entry}
use Rattle.locked_build.specs.declared.ask.Entry.TheVariants.{Took, Claimed, Line, Failed}
use Rattle.locked_build.specs.Histories.{tooks, kept_fault, pending}
use Rattle.locked_build.specs.Facts.{IsFull, IsFullAt, IsSized, IsSizedAt}

pub tooks-append : (h es : List Entry) → tooks (h ++ es) ≡ tooks h ++ tooks es
tooks-append [] es = refl
tooks-append (Took e ∷ h) es = ap (λ (xs : List Event). e ∷ xs) (tooks-append h es)
tooks-append (Claimed executor task keep_out kept_log kept_out ∷ h) es = tooks-append h es
tooks-append (Line line ∷ h) es = tooks-append h es
tooks-append (Failed fault event ∷ h) es = tooks-append h es

pub no_fault : (f : TakeFault) → Some f ≡ None → ⊥
no_fault f e = cc

pub kept_fault-append : (h es : List Entry) → kept_fault h ≡ None → kept_fault (h ++ es) ≡ kept_fault es
kept_fault-append [] es none = refl
kept_fault-append (Took e ∷ h) es none = kept_fault-append h es none
kept_fault-append (Claimed executor task keep_out kept_log kept_out ∷ h) es none = kept_fault-append h es none
kept_fault-append (Line line ∷ h) es none = kept_fault-append h es none
kept_fault-append (Failed fault event ∷ h) es none = absurd (no_fault fault none)

-- a fault that is noted is kept
pub fault_not_none : (h : List Entry) (f : TakeFault) (event : Option Event) → kept_fault h ≡ None → kept_fault (h ++ Failed f event ∷ []) ≡ None → ⊥
fault_not_none h f event none is = no_fault f (sym (kept_fault-append h (Failed f event ∷ []) none) ∙ is)

pub pending-append : (h es : List Entry) → kept_fault h ≡ None → pending (h ++ es) ≡ pending es
pending-append [] es none = refl
pending-append (Took e ∷ h) es none = pending-append h es none
pending-append (Claimed executor task keep_out kept_log kept_out ∷ h) es none = pending-append h es none
pending-append (Line line ∷ h) es none = pending-append h es none
pending-append (Failed fault event ∷ h) es none = absurd (no_fault fault none)

pub none_pending : (h : List Entry) → kept_fault h ≡ None → pending h ≡ []
none_pending [] none = refl
none_pending (Took e ∷ h) none = none_pending h none
none_pending (Claimed executor task keep_out kept_log kept_out ∷ h) none = none_pending h none
none_pending (Line line ∷ h) none = none_pending h none
none_pending (Failed fault event ∷ h) none = absurd (no_fault fault none)

module _ {D T : Type 0} (stance : T → Stance) (w : Weights) (before : Option Image) (now : Kept D T) where
  pub none_full : (h : List Entry) → kept_fault h ≡ None → IsFullAt stance w before now h
  none_full [] none = tt
  none_full (Took e ∷ h) none = none_full h none
  none_full (Claimed executor task keep_out kept_log kept_out ∷ h) none = none_full h none
  none_full (Line line ∷ h) none = none_full h none
  none_full (Failed fault event ∷ h) none = absurd (no_fault fault none)

  pub full-append : (h : List Entry) (f : TakeFault) (event : Option Event) → kept_fault h ≡ None → IsFull stance w before now f event → IsFullAt stance w before now (h ++ Failed f event ∷ [])
  full-append [] f event none is = is
  full-append (Took e ∷ h) f event none is = full-append h f event none is
  full-append (Claimed executor task keep_out kept_log kept_out ∷ h) f event none is = full-append h f event none is
  full-append (Line line ∷ h) f event none is = full-append h f event none is
  full-append (Failed fault given ∷ h) f event none is = absurd (no_fault fault none)

module _ (x : Weights) (s : Setting) where
  pub none_sized : (w : W.Build) (h : List Entry) → kept_fault h ≡ None → IsSizedAt x s w h
  none_sized w [] none = tt
  none_sized w (Took e ∷ h) none = none_sized (W.after_one s w e) h none
  none_sized w (Claimed executor task keep_out kept_log kept_out ∷ h) none = none_sized w h none
  none_sized w (Line line ∷ h) none = none_sized w h none
  none_sized w (Failed fault event ∷ h) none = absurd (no_fault fault none)

  pub sized-append : (w : W.Build) (h : List Entry) (f : TakeFault) (event : Option Event) → kept_fault h ≡ None → IsSized x s (fold (W.after_one s) w (tooks h)) f event → IsSizedAt x s w (h ++ Failed f event ∷ [])
  sized-append w [] f event none is = is
  sized-append w (Took e ∷ h) f event none is = sized-append (W.after_one s w e) h f event none is
  sized-append w (Claimed executor task keep_out kept_log kept_out ∷ h) f event none is = sized-append w h f event none is
  sized-append w (Line line ∷ h) f event none is = sized-append w h f event none is
  sized-append w (Failed fault given ∷ h) f event none is = absurd (no_fault fault none)
