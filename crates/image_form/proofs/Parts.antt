-- What was written part by part was written.
use Rattle.std.proofs.Common.{List, ℕ, Bool}
use Rattle.std.specs.Prelude.{IsTrue}
use Rattle.field_form.specs.Forms.{Form, of_parts, admitted, Written}

pub written_parts : {A V : Type 0} (whole : A → V) (parts : V → A) (a : Form A) (v : V) (old new : List ℕ) → Written a (parts v) old new → Written (of_parts whole parts a) v old new
written_parts whole parts a v old new w = record { fits = w.fits; spelled = w.spelled }

pub written_admitted : {V : Type 0} (test : V → Bool) (a : Form V) (v : V) (old new : List ℕ) → IsTrue (test v) → Written a v old new → Written (admitted test a) v old new
written_admitted test a v old new passes w = record { fits = (passes, w.fits); spelled = w.spelled }
