-- The parts of a node by their places: how many there are, and what each is.
use Rattle.std.proofs.Common.{◌≡◌, ℕ, zero, suc, length, None, refl, ap}
use Rattle.std.specs.Prelude.{slice_get}
use Rattle.model_syntax.specs.declared.node.NodeForm.TheVariants as form
use Rattle.model_run.specs.Around.{arity, form_at}
use Rattle.model_run.specs.Meaning.{shape_of}
use Rattle.model_run.specs.Nesting.{shape_at}
use Rattle.model_run.specs.Terms.{Term, Terms, Numbered, no_terms, and_then, form_of, forms_of, nth_part, part_of, parts_of, term_at}
use Rattle.cps_code.specs.Rows.{numbers_of, part_count, part_number}

as_many : (ps : Terms) → length (numbers_of ps) ≡ length (forms_of ps)
as_many no_terms = refl
as_many (and_then t ts) = ap suc (as_many ts)

pub arity_count : (root : Term) (k : ℕ) → part_count root k ≡ arity (shape_at root k)
arity_count root k = as_many (parts_of (term_at root k))

nth_form : (root : Term) (ps : Terms) (i : ℕ) → form_of (nth_part root ps i) ≡ form_at (forms_of ps) i
nth_form root no_terms i = refl
nth_form root (and_then t ts) zero = refl
nth_form root (and_then t ts) (suc i) = nth_form root ts i

pub part_of_form : (root t : Term) (i : ℕ) → form_of (part_of root t i) ≡ form_at (shape_of t).parts i
part_of_form root (Numbered k f ps) i = nth_form root ps i

-- a part that a node has not is read as a block
nth_missing : (ps : Terms) (i : ℕ) → slice_get (numbers_of ps) i ≡ None → form_at (forms_of ps) i ≡ form.Block
nth_missing no_terms i e = refl
nth_missing (and_then t ts) zero e = absurd (cc e)
nth_missing (and_then t ts) (suc i) e = nth_missing ts i e

pub missing_form : (root : Term) (k i : ℕ) → part_number root k i ≡ None → form_at (shape_at root k).parts i ≡ form.Block
missing_form root k i e = nth_missing (parts_of (term_at root k)) i e
