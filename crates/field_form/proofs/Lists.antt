-- Reading and writing item after item.
use Rattle.std.proofs.Common.{◌≡◌, ℕ, zero, suc, ◌+◌, ◌-◌, ◌<◌, List, [], ◌∷◌, ◌++◌, length, get_or, take, Ok, Err, refl, sym, ap, subst, ◌∙◌, arith, append_assoc}
use Rattle.std.proofs.lemmas.List.{append-nil}
use Rattle.field_form.specs.declared.refusal.FormRefusal.{FormRefusal}
use Rattle.field_form.specs.declared.refusal.FormRefusal.TheVariants as refusal
use Rattle.field_form.specs.Reading.{Read, Refuses}
use Rattle.byte_form.specs.Fields.{u32_spelling}
use Rattle.field_form.specs.Forms.{Form, AllBehind, spelled, read_items, Written}

module _ {V : Type 0} (behind : List V → Form V) (count i : ℕ) (before : List V) (bytes : List ℕ) (at : ℕ) (lt : i < count) where
  more : count - i ≡ suc (count - (i + 1))
  more = omega arith

  -- an item was read
  pub goes_on : (x : V) (end : ℕ) (total : Read (List V)) → (behind before).reading bytes at ≡ Ok (x, end)
      → read_items behind (count - i) before bytes at ≡ total → read_items behind (count - (i + 1)) (before ++ x ∷ []) bytes end ≡ total
  goes_on x end total e so_far =
      let one : read_items behind (count - i) before bytes at ≡ read_items behind (count - (i + 1)) (before ++ x ∷ []) bytes end = rw (more, e) refl in
      sym one ∙ so_far

  -- an item was refused
  pub ends : (e : FormRefusal) (total : Read (List V)) → Refuses e ((behind before).reading bytes at) → read_items behind (count - i) before bytes at ≡ total → Refuses e total
  ends refusal.Memory total h so_far = tt
  ends (refusal.Fault f) total h so_far =
      let one : read_items behind (count - i) before bytes at ≡ Err f = rw (more, h) refl in
      sym so_far ∙ one

-- one more item behind those that were written
pub spelled_push : {V : Type 0} (behind : List V → Form V) (before xs : List V) (x : V) → spelled behind before (xs ++ x ∷ []) ≡ spelled behind before xs ++ (behind (before ++ xs)).spelling x
spelled_push {V} behind before [] x = append-nil ((behind before).spelling x) ∙ ap (λ (l : List V). (behind l).spelling x) (sym (append-nil before))
spelled_push {V} behind before (y ∷ xs) x =
    let one = (behind before).spelling y in
    let next = before ++ y ∷ [] in
    ap (λ (l : List ℕ). one ++ l) (spelled_push behind next xs x ∙ ap (λ (l : List V). spelled behind next xs ++ (behind l).spelling x) (append_assoc before (y ∷ []) xs))
    ∙ sym (append_assoc one (spelled behind next xs) ((behind (before ++ y ∷ xs)).spelling x))

pub all_push : {V : Type 0} (P : List V → V → Type 0) (before xs : List V) (x : V) → AllBehind P before xs → P (before ++ xs) x → AllBehind P before (xs ++ x ∷ [])
all_push {V} P before [] x h p = (subst (λ (l : List V). P l x) (append-nil before) p, tt)
all_push {V} P before (y ∷ xs) x h p = (h.0, all_push P (before ++ y ∷ []) xs x h.1 (subst (λ (l : List V). P l x) (sym (append_assoc before (y ∷ []) xs)) p))

-- the item at a place, and the items before it
pub all_at : {V : Type 0} (P : List V → V → Type 0) (before xs : List V) (i : ℕ) (d : V) → AllBehind P before xs → i < length xs → P (before ++ take i xs) (get_or xs i d)
all_at {V} P before [] i d h lt = absurd (omega arith)
all_at {V} P before (x ∷ xs) zero d h lt = subst (λ (l : List V). P l x) (sym (append-nil before)) h.0
all_at {V} P before (x ∷ xs) (suc i) d h lt = subst (λ (l : List V). P l (get_or xs i d)) (append_assoc before (x ∷ []) (take i xs)) (all_at P (before ++ x ∷ []) xs i d h.1 (omega arith))

-- the item behind some items
pub all_behind : {V : Type 0} (P : List V → V → Type 0) (before xs : List V) (x : V) (rest : List V) → AllBehind P before (xs ++ x ∷ rest) → P (before ++ xs) x
all_behind {V} P before [] x rest h = subst (λ (l : List V). P l x) (sym (append-nil before)) h.0
all_behind {V} P before (y ∷ xs) x rest h = subst (λ (l : List V). P l x) (append_assoc before (y ∷ []) xs) (all_behind P (before ++ y ∷ []) xs x rest h.1)

-- behind the number of all items and those written so far, one more was written
pub written_behind : (count : ℕ) (start old new so_far one : List ℕ) → old ≡ start ++ (u32_spelling count ++ so_far) → new ≡ old ++ one → new ≡ start ++ (u32_spelling count ++ (so_far ++ one))
written_behind count start old new so_far one e is =
    let u = u32_spelling count in
    is ∙ ap (λ (l : List ℕ). l ++ one) e ∙ append_assoc start (u ++ so_far) one ∙ ap (λ (l : List ℕ). start ++ l) (append_assoc u so_far one)

pub written_more : {V : Type 0} (behind : List V → Form V) (count : ℕ) (start old new : List ℕ) (before : List V) (x : V) → old ≡ start ++ (u32_spelling count ++ spelled behind [] before) → Written (behind before) x old new
    → new ≡ start ++ (u32_spelling count ++ spelled behind [] (before ++ x ∷ []))
written_more {V} behind count start old new before x so_far w =
    written_behind count start old new (spelled behind [] before) ((behind before).spelling x) so_far w.spelled
    ∙ ap (λ (l : List ℕ). start ++ (u32_spelling count ++ l)) (sym (spelled_push behind [] before x))
