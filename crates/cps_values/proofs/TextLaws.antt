-- The parts of a text, one by one.
use Rattle.std.proofs.Common.{◌≡◌, ◌∙◌, ℕ, false, List, ◌∷◌, refl, ap, sym}
use Rattle.std.specs.Prelude.{Err}
use Rattle.value_view.specs.Answers.{IsWritten, Writes}
use Rattle.value_view.specs.declared.refusal.OpRefusal.{OpRefusal}
use Rattle.value_view.specs.declared.refusal.OpRefusal.TheVariants as op
use Rattle.model_syntax.specs.declared.node.NodeForm.{NodeForm}
use Rattle.model_syntax.specs.declared.node.NodeForm.TheVariants as form
use Rattle.model_values.specs.TextOf.{Writing, Wrote, behind, text_behind, write_then}
use Rattle.model_values.specs.declared.value.Value.{Value}
use Rattle.model_run.specs.Around.{cells, limits}
use Rattle.model_run.specs.FrameTable.{is_plain}
use Rattle.model_run.specs.Gathering.{text_parts}
use Rattle.model_run.specs.State.{World}

pub not_plain : (f : NodeForm) → ((t : List ℕ) → f ≡ form.PlainPart t → ⊥) → is_plain f ≡ false
not_plain (form.PlainPart t) h = absurd (h t refl)
not_plain f h = refl

value_part : (w : World) (f : NodeForm) (fs : List NodeForm) (v : Value) (vs : List Value) (t : List ℕ) → is_plain f ≡ false → text_parts w (f ∷ fs) (v ∷ vs) t ≡ write_then (text_behind (limits w) (cells w) v t) (text_parts w fs vs)
value_part w (form.PlainPart p) fs v vs t h = absurd (cc h)
value_part w f fs v vs t h = refl

-- a part is written, or stops it; gs are the parts from it on, and ws the values
module _ (w : World) (f : NodeForm) (fs gs : List NodeForm) (ws : List Value) (t : List ℕ) (is : gs ≡ f ∷ fs) where
  plain_part : (p b : List ℕ) → f ≡ form.PlainPart p → b ≡ p → text_parts w gs ws t ≡ write_then (behind (limits w) (cells w) b t) (text_parts w fs ws)
  plain_part p b plain same = ap (λ xs. text_parts w xs ws t) is ∙ ap (λ x. text_parts w (x ∷ fs) ws t) plain ∙ ap (λ q. write_then (behind (limits w) (cells w) q t) (text_parts w fs ws)) (sym same)

  a_value : (v : Value) (rest : List Value) → is_plain f ≡ false → ws ≡ v ∷ rest → text_parts w gs ws t ≡ write_then (text_behind (limits w) (cells w) v t) (text_parts w fs rest)
  a_value v rest plain vs = ap (λ xs. text_parts w xs ws t) is ∙ ap (λ ys. text_parts w (f ∷ fs) ys t) vs ∙ value_part w f fs v rest t plain

  pub plain_wrote : (p b t' : List ℕ) → f ≡ form.PlainPart p → b ≡ p → behind (limits w) (cells w) b t ≡ Wrote t' → text_parts w gs ws t ≡ text_parts w fs ws t'
  plain_wrote p b t' plain same e = plain_part p b plain same ∙ ap (λ x. write_then x (text_parts w fs ws)) e

  pub value_wrote : (v : Value) (rest : List Value) (t' : List ℕ) → is_plain f ≡ false → ws ≡ v ∷ rest → text_behind (limits w) (cells w) v t ≡ Wrote t' → text_parts w gs ws t ≡ text_parts w fs rest t'
  value_wrote v rest t' plain vs e = a_value v rest plain vs ∙ ap (λ x. write_then x (text_parts w fs rest)) e

  -- where it was refused, and so the whole text
  pub plain_refused : (p b : List ℕ) (all : Writing) (t' : List ℕ) (o : OpRefusal) → all ≡ text_parts w gs ws t → f ≡ form.PlainPart p → b ≡ p → Writes (behind (limits w) (cells w) b t) t' (Err o) → IsWritten all (Err o)
  plain_refused p b all t' op.Memory so plain same e = tt
  plain_refused p b all t' (op.Thrown c) so plain same e = e
  plain_refused p b all t' (op.Limit k) so plain same e = so ∙ plain_part p b plain same ∙ ap (λ x. write_then x (text_parts w fs ws)) e

  pub value_refused : (v : Value) (rest : List Value) (all : Writing) (t' : List ℕ) (o : OpRefusal) → all ≡ text_parts w gs ws t → is_plain f ≡ false → ws ≡ v ∷ rest → Writes (text_behind (limits w) (cells w) v t) t' (Err o) → IsWritten all (Err o)
  value_refused v rest all t' op.Memory so plain vs e = tt
  value_refused v rest all t' (op.Thrown c) so plain vs e = e
  value_refused v rest all t' (op.Limit k) so plain vs e = so ∙ a_value v rest plain vs ∙ ap (λ x. write_then x (text_parts w fs rest)) e
