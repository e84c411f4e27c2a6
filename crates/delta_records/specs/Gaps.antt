-- Kinds that begin with 1.
use Rattle.std.specs.Prelude.{◌≡◌, ℕ, zero, suc, List, Err, Ok}
use Rattle.std.proofs.Common.{ap}
use Rattle.field_form.specs.Reading.{Read}
use Rattle.field_form.specs.Forms.{Choice, IsBytes}
use Rattle.field_form.specs.FormLaws.{Chosen, LawfulChoice}

-- No choice has the kind 0, which is a fault at its place; the choices follow.
abbrev pub read_gap : {V : Type 0} → Choice V → ℕ → List ℕ → ℕ → ℕ → Read V
read_gap c zero bytes at behind = Err at
read_gap c (suc kind) bytes at behind = c.reading kind bytes at behind

abbrev pub gap : {V : Type 0} → Choice V → Choice V
gap c = record { Fits = c.Fits; Needs = c.Needs; kind = λ v. suc (c.kind v); spelling = c.spelling; reading = read_gap c }

gap_takes : {V : Type 0} (c : Choice V) → LawfulChoice c → (kind : ℕ) (bytes : List ℕ) (at behind : ℕ) (v : V) (end : ℕ) → IsBytes bytes → (gap c).reading kind bytes at behind ≡ Ok (v, end) → Chosen (gap c) kind v bytes behind end
gap_takes c lc zero bytes at behind v end is_bytes e = absurd cc
gap_takes c lc (suc kind) bytes at behind v end is_bytes e =
    let f = lc.takes kind bytes at behind v end is_bytes e in
    record { is_kind = ap suc f.is_kind; fits = f.fits; stands = f.stands; end_is = f.end_is }

pub gap_lawful : {V : Type 0} (c : Choice V) → LawfulChoice c → LawfulChoice (gap c)
gap_lawful c lc = record {
  takes = gap_takes c lc;
  again = λ bytes at behind v fits stands. lc.again bytes at behind v fits stands;
  needed = lc.needed;
}
