-- What is read of a method, from what is read of its effect.
use Rattle.std.proofs.Common.{◌≡◌, ℕ, Result, Ok, Err, List, Option, Some, Bor, refl, sym, ap, subst, ◌∙◌}
use Rattle.model_values.specs.Cells.{Answer}
use Rattle.model_values.specs.Limits.{product_limits}
use Rattle.model_values.specs.declared.cell.Cell.{Cell}
use Rattle.value_view.specs.declared.refusal.OpRefusal.{OpRefusal}
use Rattle.value_view.specs.declared.refusal.OpRefusal.TheVariants.{Memory, Thrown, Limit}
use Rattle.value_view.specs.Seen.{seen}
use Rattle.value_view.specs.declared.kind.Kind.{Kind}
use Rattle.value_view.specs.declared.kind.Kind.TheVariants.{Number, Text}
use Rattle.model_values.specs.TextMethods.{with_number, with_text}
use Rattle.model_values.specs.Throws.{bad_argument}
use Rattle.value_ops.specs.declared.effect.Effect.{Effect}
use Rattle.std.specs.Prelude.{ℤ}
use Rattle.text_methods.specs.Reads.{Reads, ReadsAlways, ReadsAt, ReadsMethod, found}

pub reads_found : (n : ℕ) (a : List Cell → Answer) (r : Result Effect OpRefusal) → ReadsAt n a r → ReadsMethod n (λ h. Some (a h)) (found r)
reads_found n a (Ok effect) p = (λ h e. ap Some (sym (p.0 h e)), p.1)
reads_found n a (Err (Limit k)) p = λ h e. ap Some (p h e)
reads_found n a (Err (Thrown c)) p = p
reads_found n a (Err Memory) p = λ h. refl

pub reads_at : (n : ℕ) (a : List Cell → Answer) (r : Result Effect OpRefusal) → Reads a r → ReadsAt n a r
reads_at n a (Ok effect) p = (λ h e. p.0 h, p.1 n)
reads_at n a (Err (Limit k)) p = λ h e. p h
reads_at n a (Err (Thrown c)) p = p
reads_at n a (Err Memory) p = tt

pub reads_method : (n : ℕ) (a : List Cell → Answer) (r : Result Effect OpRefusal) (f : Result (Option Effect) OpRefusal) → f ≡ found r → Reads a r → ReadsMethod n (λ h. Some (a h)) f
reads_method n a r f is p = subst (λ (x : Result (Option Effect) OpRefusal). ReadsMethod n (λ h. Some (a h)) x) (sym is) (reads_found n a r (reads_at n a r p))

pub reads_same : (a b : List Cell → Answer) (r : Result Effect OpRefusal) → ((h : List Cell) → a h ≡ b h) → Reads a r → Reads b r
reads_same a b (Ok effect) same p = (λ h. p.0 h ∙ same h, p.1)
reads_same a b (Err (Limit k)) same p = λ h. sym (same h) ∙ p h
reads_same a b (Err (Thrown c)) same p = p
reads_same a b (Err Memory) same p = tt

-- an argument that has to be a text and is none
pub no_text : (h : List Cell) (k : Kind) (go : List ℕ → Answer) → ((t : Bor (List ℕ)) → k ≡ Text t → ⊥) → with_text product_limits h (seen k) go ≡ bad_argument product_limits h
no_text h (Text t) go none = absurd (none t refl)
no_text h k go none = refl

pub number_is : (h : List Cell) (k : Kind) (x : ℤ) (go : ℤ → Answer) → k ≡ Number x → with_number product_limits h (seen k) go ≡ go x
number_is h k x go e = ap (λ (j : Kind). with_number product_limits h (seen j) go) e

found_always : (a : List Cell → Answer) (r : Result Effect OpRefusal) → Reads a r → ReadsAlways (λ h. Some (a h)) (found r)
found_always a (Ok effect) p = (λ h. ap Some (sym (p.0 h)), p.1)
found_always a (Err (Limit k)) p = λ h. ap Some (p h)
found_always a (Err (Thrown c)) p = p
found_always a (Err Memory) p = λ h. refl

pub reads_always : (a : List Cell → Answer) (r : Result Effect OpRefusal) (f : Result (Option Effect) OpRefusal) → f ≡ found r → Reads a r → ReadsAlways (λ h. Some (a h)) f
reads_always a r f is p = subst (λ (x : Result (Option Effect) OpRefusal). ReadsAlways (λ h. Some (a h)) x) (sym is) (found_always a r p)
