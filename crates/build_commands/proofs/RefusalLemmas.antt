-- What a refusal tells.
use Rattle.std.proofs.Common.{◌≡◌, ℕ, List, inl, inr, sym, subst}
use Rattle.build_commands.specs.declared.refusal.Refusal.{Refusal}
use Rattle.build_commands.specs.Refusals.{Says, refusal_status, refusal_text}
use Rattle.build_commands.specs.Texts.{out_of_memory_text}

-- what holds of a status and a text holds of those of a refusal that is this one, or says them
pub as_told : (P : ℕ → List ℕ → Type 0) (r q : Refusal) → r ≡ q → P (refusal_status q) (refusal_text q) → P (refusal_status r) (refusal_text r)
as_told P r q is = subst (λ (x : Refusal). P (refusal_status x) (refusal_text x)) (sym is)

pub as_said : (P : ℕ → List ℕ → Type 0) (r : Refusal) (status : ℕ) (text : List ℕ) → Says status text r → P 8 out_of_memory_text → P status text → P (refusal_status r) (refusal_text r)
as_said P r status text (inl none) memory is = subst (λ (x : Refusal). P (refusal_status x) (refusal_text x)) (sym none) memory
as_said P r status text (inr same) memory is = subst (P (refusal_status r)) (sym same.1) (subst (λ (n : ℕ). P n text) (sym same.0) is)
