-- Of an item that stood and what it is now there is one change that is needed: of a request, and of a thread.
use Rattle.std.proofs.Common.{◌≡◌, ◌∙◌, ◌<◌, ◌≤◌, ℕ, zero, suc, Bool, true, false, List, [], ◌∷◌, ◌++◌, length, slice_get, take, Option, Some, None, refl, sym, ap, arith}
use Rattle.std.specs.Prelude.{if◌then◌else◌, nat_le, IfSome}
use Rattle.std.specs.Option.{option_map}
use Rattle.std.specs.Ordering.{nat_cmp}
use Rattle.std.specs.declared.cmp.Ordering.{Ordering}
use Rattle.std.specs.declared.cmp.Ordering.TheVariants.{Less, Equal, Greater}
use Rattle.std.proofs.lemmas.Bool.{leb-true}
use Rattle.std.proofs.lemmas.List.{append_cancel_left}
use Rattle.model_run.specs.declared.context.Context.{Context}
use Rattle.model_run.specs.declared.wait.Wait.{Wait}
use Rattle.model_run.specs.declared.request.Request.{Request}
use Rattle.model_run.specs.declared.request.OpenRequest.{OpenRequest}
use Rattle.image_form.specs.declared.image.ImageFrame.{ImageFrame}
use Rattle.image_form.specs.declared.image.ImageThread.{ImageThread}
use Rattle.delta_form.specs.After.{frames_of, grown, thread_with, written_request, written_thread}
use Rattle.delta_form.specs.Numbers.{written_number}
use Rattle.delta_form.specs.declared.delta.WrittenRequest.{WrittenRequest}
use Rattle.delta_form.specs.declared.delta.WrittenRequest.TheVariants as written
use Rattle.delta_form.specs.declared.delta.WrittenThread.{WrittenThread}
use Rattle.delta_form.proofs.Orders.{less}
use Rattle.image_changes.specs.Least.{IsShort, KeepsMost}
use Rattle.image_changes.proofs.Rising.{equal_is, greater_is}
use Rattle.image_changes.proofs.Tasks.{growth, out_grown, out_of, taken_grown}

-- ---- requests

pub request_keeps : (c : WrittenRequest) (o : Option OpenRequest) (y : OpenRequest) → IfSome o (λ r. r.number ≡ written_number c) → written_request c o ≡ Some (Some y) → y.number ≡ written_number c
request_keeps (written.Whole r) o y its e = let same : r ≡ y = cc in ap (λ (q : OpenRequest). q.number) (sym same)
request_keeps (written.Grown number taken added) None y its e = absurd cc
request_keeps (written.Grown number taken added) (Some r) y its e = go (grown taken added r.request) e
  where
    go : (o : Option Request) → option_map (λ q. Some (record r { request = q })) o ≡ Some (Some y) → y.number ≡ number
    go None e = absurd cc
    go (Some q) e = let same : record r { request = q } ≡ y = cc in ap (λ (z : OpenRequest). z.number) (sym same) ∙ its

pub request_never : (c : WrittenRequest) (o : Option OpenRequest) → ¬ (written_request c o ≡ Some None)
request_never (written.Whole r) o = λ e. absurd cc
request_never (written.Grown number taken added) None = λ e. absurd cc
request_never (written.Grown number taken added) (Some r) = go (grown taken added r.request)
  where
    go : (o : Option Request) → ¬ (option_map (λ q. Some (record r { request = q })) o ≡ Some None)
    go None = λ e. absurd cc
    go (Some q) = λ e. absurd cc

both_whole : (r q y : OpenRequest) → Some (Some r) ≡ Some (Some y) → Some (Some q) ≡ Some (Some y) → written.Whole r ≡ written.Whole q
both_whole r q y e f =
    let first : r ≡ y = cc in
    let second : q ≡ y = cc in
    ap (λ (z : OpenRequest). written.Whole z) (first ∙ sym second)

pub request_new : (c d : WrittenRequest) (y : OpenRequest) → written_number c ≡ written_number d → written_request c None ≡ Some (Some y) → written_request d None ≡ Some (Some y) → c ≡ d
request_new (written.Whole r) (written.Whole q) y same e f = both_whole r q y e f
request_new (written.Whole r) (written.Grown number taken added) y same e f = absurd cc
request_new (written.Grown number taken added) d y same e f = absurd cc

not_both : (r x y : OpenRequest) (number taken : ℕ) (added : List ℕ) → Some (Some r) ≡ Some (Some y) → written_request (written.Grown number taken added) (Some x) ≡ Some (Some y) → IsShort (written.Whole r) x → ⊥
not_both r x y number taken added e f short =
    let same : y ≡ r = cc in
    short number taken added (f ∙ ap (λ (z : OpenRequest). Some (Some z)) same)

pub request_changed : (c d : WrittenRequest) (x y : OpenRequest) → written_number c ≡ written_number d → written_request c (Some x) ≡ Some (Some y) → written_request d (Some x) ≡ Some (Some y) → IsShort c x → IsShort d x → c ≡ d
request_changed (written.Whole r) (written.Whole q) x y same e f short short_too = both_whole r q y e f
request_changed (written.Whole r) (written.Grown number taken added) x y same e f short short_too = absurd (not_both r x y number taken added e f short)
request_changed (written.Grown number taken added) (written.Whole r) x y same e f short short_too = absurd (not_both r x y number taken added f e short_too)
request_changed (written.Grown number taken added) (written.Grown number_too taken_too added_too) x y same e f short short_too =
    let first = (growth x y taken added (grown taken added x.request) refl e).1 in
    let second = (growth x y taken_too added_too (grown taken_too added_too x.request) refl f).1 in
    let taken_same : taken ≡ taken_too = sym (taken_grown x.request y.request taken added first) ∙ taken_grown x.request y.request taken_too added_too second in
    let added_same : added ≡ added_too = append_cancel_left (out_of x.request) added added_too (sym (out_grown x.request y.request taken added first) ∙ out_grown x.request y.request taken_too added_too second) in
    ap (λ (n : ℕ). written.Grown n taken added) same ∙ ap (λ (t : ℕ). written.Grown number_too t added) taken_same ∙ ap (λ (a : List ℕ). written.Grown number_too taken_too a) added_same

-- ---- threads

thread_made : (w : WrittenThread) (o : Option ImageThread) (y : ImageThread) → written_thread w o ≡ Some (Some y) → (w.kept ≤ length (frames_of o)) × (thread_with w (take w.kept (frames_of o)) ≡ y)
thread_made w o y e = go (nat_le w.kept (length (frames_of o))) refl e
  where
    go : (b : Bool) → nat_le w.kept (length (frames_of o)) ≡ b → (if b then Some (Some (thread_with w (take w.kept (frames_of o)))) else None) ≡ Some (Some y)
        → (w.kept ≤ length (frames_of o)) × (thread_with w (take w.kept (frames_of o)) ≡ y)
    go true is e = (leb-true w.kept (length (frames_of o)) is, cc)
    go false is e = absurd cc

pub thread_keeps : (w : WrittenThread) (o : Option ImageThread) (y : ImageThread) → IfSome o (λ t. t.number ≡ w.number) → written_thread w o ≡ Some (Some y) → y.number ≡ w.number
thread_keeps w o y its e = ap (λ (t : ImageThread). t.number) (sym (thread_made w o y e).1)

pub thread_never : (w : WrittenThread) (o : Option ImageThread) → ¬ (written_thread w o ≡ Some None)
thread_never w o = go (nat_le w.kept (length (frames_of o)))
  where
    go : (b : Bool) → ¬ ((if b then Some (Some (thread_with w (take w.kept (frames_of o)))) else None) ≡ Some None)
    go true = λ e. absurd cc
    go false = λ e. absurd cc

both_same : (c d : WrittenThread) (front : List ImageFrame) → c.kept ≡ d.kept → thread_with c front ≡ thread_with d front → c ≡ d
both_same c d front kept e =
    let frames = append_cancel_left front c.frames d.frames (ap (λ (t : ImageThread). t.frames) e) in
    ap (λ (n : ℕ). record c { number = n }) (ap (λ (t : ImageThread). t.number) e)
    ∙ ap (λ (p : Option ℕ). record c { number = d.number; parent = p }) (ap (λ (t : ImageThread). t.parent) e)
    ∙ ap (λ (h : ℕ). record c { number = d.number; parent = d.parent; head = h }) (ap (λ (t : ImageThread). t.head) e)
    ∙ ap (λ (w : Wait). record c { number = d.number; parent = d.parent; head = d.head; wait = w }) (ap (λ (t : ImageThread). t.wait) e)
    ∙ ap (λ (x : Context). record d { context = x; kept = c.kept; frames = c.frames }) (ap (λ (t : ImageThread). t.context) e)
    ∙ ap (λ (k : ℕ). record d { kept = k; frames = c.frames }) kept
    ∙ ap (λ (fs : List ImageFrame). record d { frames = fs }) frames

kept_one : (c d : WrittenThread) (o : Option ImageThread) (y : ImageThread) → c.kept ≡ d.kept → written_thread c o ≡ Some (Some y) → written_thread d o ≡ Some (Some y) → c ≡ d
kept_one c d o y kept e f =
    both_same c d (take c.kept (frames_of o)) kept
    ((thread_made c o y e).1 ∙ sym (thread_made d o y f).1 ∙ ap (λ (k : ℕ). thread_with d (take k (frames_of o))) (sym kept))

pub thread_new : (c d : WrittenThread) (y : ImageThread) → c.number ≡ d.number → written_thread c None ≡ Some (Some y) → written_thread d None ≡ Some (Some y) → c ≡ d
thread_new c d y same e f =
    let first = (thread_made c None y e).0 in
    let second = (thread_made d None y f).0 in
    kept_one c d None y (omega (arith, first, second)) e f

-- an item among the first ones, and the first one behind them
in_front : {X : Type 0} (xs zs : List X) (k n : ℕ) → k < n → n ≤ length xs → slice_get (take n xs ++ zs) k ≡ slice_get xs k
in_front xs zs k zero lt le = absurd (omega (arith, lt))
in_front [] zs k (suc n) lt le = absurd (omega (arith, le))
in_front (x ∷ xs) zs zero (suc n) lt le = refl
in_front (x ∷ xs) zs (suc k) (suc n) lt le = in_front xs zs k n (omega (arith, lt)) (omega (arith, le))

at_seam : {X : Type 0} (xs zs : List X) (k : ℕ) → k ≤ length xs → slice_get (take k xs ++ zs) k ≡ slice_get zs 0
at_seam xs zs zero le = refl
at_seam [] zs (suc k) le = absurd (omega (arith, le))
at_seam (x ∷ xs) zs (suc k) le = at_seam xs zs k (omega (arith, le))

-- one that keeps fewer could keep one more
no_fewer : (c d : WrittenThread) (x y : ImageThread) → written_thread c (Some x) ≡ Some (Some y) → written_thread d (Some x) ≡ Some (Some y) → KeepsMost c x → KeepsMost d x → c.kept < d.kept → ⊥
no_fewer c d x y e f most most_too fewer =
    let first = thread_made c (Some x) y e in
    let second = thread_made d (Some x) y f in
    let frames : take c.kept x.frames ++ c.frames ≡ take d.kept x.frames ++ d.frames = ap (λ (t : ImageThread). t.frames) (first.1 ∙ sym second.1) in
    most.1 (omega (arith, fewer, most_too.0)) (omega (arith, fewer, second.0))
    (sym (in_front x.frames d.frames c.kept d.kept fewer second.0) ∙ ap (λ (fs : List ImageFrame). slice_get fs c.kept) (sym frames) ∙ at_seam x.frames c.frames c.kept first.0)

pub thread_changed : (c d : WrittenThread) (x y : ImageThread) → c.number ≡ d.number → written_thread c (Some x) ≡ Some (Some y) → written_thread d (Some x) ≡ Some (Some y) → KeepsMost c x → KeepsMost d x → c ≡ d
thread_changed c d x y same e f most most_too = go (nat_cmp c.kept d.kept) refl
  where
    go : (o : Ordering) → nat_cmp c.kept d.kept ≡ o → c ≡ d
    go Less is = absurd (no_fewer c d x y e f most most_too (less c.kept d.kept is))
    go Equal is = kept_one c d (Some x) y (equal_is c.kept d.kept is) e f
    go Greater is = absurd (no_fewer d c x y f e most_too most (less d.kept c.kept (greater_is c.kept d.kept is)))
