-- What a thread's context is behind the end of a `node`.
use Rattle.std.proofs.Common.{◌≡◌, ◌∙◌, ℕ, suc, ◌-◌, ◌≤◌, List, [], ◌∷◌, ◌++◌, length, take, get_or, Option, Some, None, refl, ap, sym, arith}
use Rattle.std.specs.Prelude.{IfOk, Result as Outcome, Ok, Err}
use Rattle.std.proofs.lemmas.List.{length-append}
use Rattle.model_run.specs.declared.held.Held.{Held}
use Rattle.model_run.specs.Grants.{without_request}
use Rattle.model_run.specs.State.{World, with_shared}
use Rattle.model_run.specs.Steps.{last_number, last_text, left_node, released, with_context, without_last}
use Rattle.cps_frames.specs.Standing.{room_of}
use Rattle.cps_frames.specs.Changes.{changed_by}

-- the front of a list without its last
pub take_front : {A : Type 0} (xs : List A) (x : A) → take (length (xs ++ x ∷ []) - 1) (xs ++ x ∷ []) ≡ xs
take_front [] x = refl
take_front (y ∷ ys) x =
    let n : length ((y ∷ ys) ++ x ∷ []) - 1 ≡ suc (length (ys ++ x ∷ []) - 1) = omega (arith, length-append ys (x ∷ [])) in
    ap (λ k. take k (y ∷ (ys ++ x ∷ []))) n ∙ ap (λ zs. y ∷ zs) (take_front ys x)

pub popped : {A : Type 0} (x : A) (old new : List A) → old ≡ new ++ x ∷ [] → new ≡ without_last 1 old
popped x old new is = sym (ap (without_last 1) is ∙ take_front new x)

pub last_of : (ns : List ℕ) (n : ℕ) → last_number (ns ++ n ∷ []) ≡ Some n
last_of [] n = refl
last_of (m ∷ []) n = refl
last_of (m ∷ k ∷ ns) n = last_of (k ∷ ns) n

pub last_at : (ns : List ℕ) (d : ℕ) → 1 ≤ length ns → last_number ns ≡ Some (get_or ns (length ns - 1) d)
last_at [] d some = absurd (omega arith)
last_at (n ∷ []) d some = refl
last_at (n ∷ m ∷ ns) d some =
    let i : length (n ∷ m ∷ ns) - 1 ≡ suc (length (m ∷ ns) - 1) = omega arith in
    last_at (m ∷ ns) d (omega arith) ∙ ap Some (sym (ap (λ k. get_or (n ∷ m ∷ ns) k d) i))

pub text_at : (ts : List (List ℕ)) (d : List ℕ) → 1 ≤ length ts → last_text ts ≡ get_or ts (length ts - 1) d
text_at [] d some = absurd (omega arith)
text_at (t ∷ []) d some = refl
text_at (t ∷ u ∷ ts) d some =
    let i : length (t ∷ u ∷ ts) - 1 ≡ suc (length (u ∷ ts) - 1) = omega arith in
    text_at (u ∷ ts) d (omega arith) ∙ sym (ap (λ k. get_or (t ∷ u ∷ ts) k d) i)

-- a `node` is left
pub left_as : (w : World) (r : ℕ) (hs : List ℕ) (fs : List (List ℕ)) → w.own.context.held ≡ hs ++ r ∷ [] → fs ≡ without_last 1 w.own.context.folders → with_context (λ c. record c { held = hs; folders = fs }) (with_shared (λ u. record u { held = without_request r u.held }) w) ≡ left_node w
left_as w r hs fs e f =
    let last : last_number w.own.context.held ≡ Some r = ap last_number e ∙ last_of hs r in
    let held : without_last 1 w.own.context.held ≡ hs = ap (without_last 1) e ∙ take_front hs r in
    ap (λ x. with_context (λ c. record c { held = x; folders = fs }) (with_shared (λ u. record u { held = without_request r u.held }) w)) (sym held)
    ∙ ap (λ x. with_context (λ c. record c { held = without_last 1 w.own.context.held; folders = x }) (with_shared (λ u. record u { held = without_request r u.held }) w)) f
    ∙ ap (λ o. with_context (λ c. record c { held = without_last 1 c.held; folders = without_last 1 c.folders }) (released o w)) (sym last)

pub left_made : (w : World) (r : ℕ) (hs : List ℕ) (fs : List (List ℕ)) (ks : List Held) → w.own.context.held ≡ hs ++ r ∷ [] → fs ≡ without_last 1 w.own.context.folders → ks ≡ without_request r w.shared.held → changed_by (λ x. with_context (λ c. record c { held = hs; folders = fs }) (with_shared (λ u. record u { held = ks }) x)) w ≡ changed_by left_node w
left_made w r hs fs ks e f k =
    ap (λ x. changed_by (λ y. with_context (λ c. record c { held = hs; folders = fs }) (with_shared (λ u. record u { held = x }) y)) w) k
    ∙ ap (λ x. changed_by (λ y. x) w) (left_as w r hs fs e f)

released_room : (o : Option ℕ) (w : World) → room_of (record { setting = w.setting; shared = (released o w).shared; own = w.own }) ≤ room_of w
released_room None w = omega arith
released_room (Some r) w = omega arith

pub left_room : (w : World) → room_of (changed_by left_node w) ≤ room_of w
left_room w = released_room (last_number w.own.context.held) w

pub if_ok : {T E : Type 0} (P Q : T → Type 0) (r : Outcome T E) → ((x : T) → P x → Q x) → IfOk r P → IfOk r Q
if_ok P Q (Ok x) h p = h x p
if_ok P Q (Err e) h p = tt
