-- What a history says of faults and claims, entry by entry.
use Rattle.std.proofs.Common.{◌≡◌, ◌||◌, ℕ, Bool, List, [], ◌∷◌, ◌++◌, ◌∙◌, Option, Some, None, nat_eq, refl, sym, ap}
use Rattle.std.specs.Option.{option_or}
use Rattle.std.specs.List.{list_any}
use Rattle.journal_core.specs.declared.faults.TakeFault.{TakeFault}
use Rattle.locked_build.specs.declared.ask.Entry.{Entry}
use Rattle.locked_build.specs.declared.ask.Entry.TheVariants.{Took, Claimed, Line, Failed}
use Rattle.locked_build.specs.Histories.{kept_fault, claims, is_claimed}

-- the first fault stays, and else the entry's is kept
pub kept_fault-put : (h : List Entry) (e : Entry) → option_or (kept_fault h) (kept_fault (e ∷ [])) ≡ kept_fault (h ++ e ∷ [])
kept_fault-put [] e = refl
kept_fault-put (Took t ∷ h) e = kept_fault-put h e
kept_fault-put (Claimed executor task keep_out kept_log kept_out ∷ h) e = kept_fault-put h e
kept_fault-put (Line line ∷ h) e = kept_fault-put h e
kept_fault-put (Failed fault event ∷ h) e = refl

pub claims-append : (h es : List Entry) → claims (h ++ es) ≡ claims h ++ claims es
claims-append [] es = refl
claims-append (Took e ∷ h) es = claims-append h es
claims-append (Claimed executor task keep_out kept_log kept_out ∷ h) es = ap (λ (ts : List ℕ). task ∷ ts) (claims-append h es)
claims-append (Line line ∷ h) es = claims-append h es
claims-append (Failed fault event ∷ h) es = claims-append h es

-- a task was claimed where it is among the claims
pub is_claimed-any : (task : ℕ) (h : List Entry) → list_any (λ t. nat_eq t task) (claims h) ≡ is_claimed task h
is_claimed-any task [] = refl
is_claimed-any task (Took e ∷ h) = is_claimed-any task h
is_claimed-any task (Claimed executor t keep_out kept_log kept_out ∷ h) = ap (λ (b : Bool). nat_eq t task || b) (is_claimed-any task h)
is_claimed-any task (Line line ∷ h) = is_claimed-any task h
is_claimed-any task (Failed fault event ∷ h) = is_claimed-any task h

-- an entry behind the others, with what is kept beside them
module _ (h after : List Entry) (e : Entry) (is : after ≡ h ++ e ∷ []) where
  pub put_fault : (f g r : Option TakeFault) → f ≡ kept_fault h → g ≡ kept_fault (e ∷ []) → r ≡ option_or f g → r ≡ kept_fault after
  put_fault f g r kept given both =
      both ∙ ap (λ (x : Option TakeFault). option_or x g) kept ∙ ap (λ (x : Option TakeFault). option_or (kept_fault h) x) given ∙ kept_fault-put h e ∙ ap kept_fault (sym is)

  pub put_claims : (ts us : List ℕ) → ts ≡ claims h → us ≡ ts ++ claims (e ∷ []) → us ≡ claims after
  put_claims ts us so_far more = more ∙ ap (λ (xs : List ℕ). xs ++ claims (e ∷ [])) so_far ∙ sym (claims-append h (e ∷ [])) ∙ ap claims (sym is)

or_none : (f : Option TakeFault) → f ≡ option_or f None
or_none None = refl
or_none (Some f) = refl

pub put_claim : (h after : List Entry) (executor task kept_log kept_out : ℕ) (keep_out : Bool) → after ≡ h ++ Claimed executor task keep_out kept_log kept_out ∷ [] → (f : Option TakeFault) → f ≡ kept_fault h → f ≡ kept_fault after
put_claim h after executor task kept_log kept_out keep_out is f kept = put_fault h after (Claimed executor task keep_out kept_log kept_out) is f None f kept refl (or_none f)
