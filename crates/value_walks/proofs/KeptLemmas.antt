-- What the table of frames lets a walk keep.
use Rattle.std.proofs.Common.{◌≡◌, List, [], ◌∷◌, refl}
use Rattle.model_run.specs.FrameTable.{No_more}
use Rattle.model_run.specs.Nesting.{ValuesFit, anything}
use Rattle.model_values.specs.declared.value.Value.{Value}

pub none_kept : (vs : List Value) → ValuesFit anything No_more [] vs → vs ≡ []
none_kept [] fits = refl
none_kept (v ∷ vs) fits = absurd fits
