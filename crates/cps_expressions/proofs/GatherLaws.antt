-- Several values from left to right, part by part.
use Rattle.std.proofs.Common.{◌≡◌, ◌∙◌, ◌<◌, ◌+◌, ◌-◌, ℕ, suc, Bool, false, List, [], ◌∷◌, ◌++◌, length, drop, take, refl, ap, sym, subst, arith}
use Rattle.std.specs.Prelude.{zip, Result as Outcome}
use Rattle.indexmap.specs.IndexMap.{insert_all}
use Rattle.model_syntax.specs.declared.node.NodeForm.{NodeForm}
use Rattle.model_syntax.specs.declared.node.NodeForm.TheVariants as form
use Rattle.model_values.specs.Cells.{Answer, new_map}
use Rattle.model_values.specs.Keys.{same_key}
use Rattle.model_values.specs.declared.key.Key.{Key}
use Rattle.model_values.specs.declared.value.Value.{Value}
use Rattle.model_run.specs.declared.ending.Ending.TheVariants.{Normal}
use Rattle.model_run.specs.declared.ending.Entry.TheVariants.{Inside}
use Rattle.model_run.specs.declared.frame.Frame.{Frame}
use Rattle.model_run.specs.declared.frame.FrameKind.TheVariants as kind
use Rattle.model_run.specs.Around.{Around, Shape, arity, cells, form_at, frame, limits, under}
use Rattle.model_run.specs.FrameTable.{current, is_plain}
use Rattle.model_run.specs.Forms.{after, after_kind, gather_all, gathered}
use Rattle.model_run.specs.Gathering.{closes_named, gather, gather_part, keep_by, named_keys}
use Rattle.model_run.specs.State.{Env, Result, State, World}
use Rattle.cps_frames.specs.Moves.{ComesTo, IsOfPart}
use Rattle.cps_frames.specs.Order.{rank}
use Rattle.cps_frames.specs.Standing.{Standing, state, shape_at}
use Rattle.cps_frames.specs.declared.halt.Halt.{Halt}
use Rattle.cps_frames.specs.declared.thread.Move.{Move}
use Rattle.cps_frames.proofs.MoveLaws.{to_as, to_kind}
use Rattle.cps_operators.proofs.FormLaws.{to_more, to_size}
use Rattle.cps_expressions.specs.Parts.{first_of}
use Rattle.cps_values.proofs.ListLaws.{all_last}

first_way : (a : Around) (k : ℕ) (sh : Shape) (env : Env) (m : ℕ) (kept : List Value) (p : NodeForm) (s : State) → is_plain p ≡ false → gather_part a k sh env m kept (gather_all a k sh env m) p s ≡ under a (frame (first_of p).0 k m env kept) (after (frame (first_of p).0 k m env kept) sh a) (first_of p).1 (arity sh - suc m) env s
first_way a k sh env m kept (form.PlainPart t) s h = absurd (cc h)
first_way a k sh env m kept form.ComputedEntry s h = refl
first_way a k sh env m kept (form.NamedEntry t) s h = refl
first_way a k sh env m kept (form.NumberedEntry z) s h = refl
first_way a k sh env m kept p s h = refl

pub first_near : (p : NodeForm) → IsOfPart (first_of p).1
first_near form.ComputedEntry = tt
first_near (form.NamedEntry t) = tt
first_near (form.NumberedEntry z) = tt
first_near p = tt

-- the frame of a part ranks below what is left with it
pub first_rank : (p : NodeForm) (k m r : ℕ) (env : Env) (kept : List Value) → suc m + suc m < r → rank (frame (first_of p).0 k m env kept) < r
first_rank form.ComputedEntry k m r env kept h = omega (arith, h)
first_rank (form.NamedEntry t) k m r env kept h = omega (arith, h)
first_rank (form.NumberedEntry z) k m r env kept h = omega (arith, h)
first_rank p k m r env kept h = omega (arith, h)

-- a part that is no plain one, with what follows it
pub to_part : (k r n at : ℕ) (env : Env) (kept : List Value) (p : NodeForm) (u : Standing) (result : Outcome Move Halt) (v : Standing) → 0 < n → at ≡ current (shape_at u.world k) (n - 1) → p ≡ form_at (shape_at u.world k).parts at → is_plain p ≡ false
    → ComesTo k r (λ sh a. under a (frame (first_of p).0 k (n - 1) env kept) (after (frame (first_of p).0 k (n - 1) env kept) sh a) (first_of p).1 at env) u result v → ComesTo k r (λ sh a. gather_all a k sh env n kept) u result v
to_part k r n at env kept p u result v some is form plain c =
    let m : ℕ = n - 1 in
    let here : form_at (shape_at u.world k).parts (arity (shape_at u.world k) - suc m) ≡ p = ap (form_at (shape_at u.world k).parts) (sym is) ∙ sym form in
    to_more k r n (λ i sh a. gather_all a k sh env i kept) u result v some
    (to_as k r (λ sh a. gather_all a k sh env (suc m) kept) (λ sh a. under a (frame (first_of p).0 k m env kept) (after (frame (first_of p).0 k m env kept) sh a) (first_of p).1 (current sh m) env) u result v
    (λ a rs. ap (λ f. gather_part a k (shape_at u.world k) env m kept (gather_all a k (shape_at u.world k) env m) f (state u.world rs)) here ∙ first_way a k (shape_at u.world k) env m kept p (state u.world rs) plain)
    (to_size k r at (λ sh. current sh m) (λ i sh a. under a (frame (first_of p).0 k m env kept) (after (frame (first_of p).0 k m env kept) sh a) (first_of p).1 i env) u result v is c))

-- a plain part is passed over
pub plain_step : (a : Around) (k : ℕ) (sh : Shape) (env : Env) (finish : List Value → State → Result) (n : ℕ) (kept : List Value) (t : List ℕ) → 0 < n → form_at sh.parts (arity sh - n) ≡ form.PlainPart t → gather a k sh env finish n kept ≡ gather a k sh env finish (n - 1) kept
plain_step a k sh env finish n kept t some is =
    let m : ℕ = n - 1 in
    let e : n ≡ suc m = omega arith in
    ap (λ i. gather a k sh env finish i kept) e
    ∙ ap (gather_part a k sh env m kept (gather a k sh env finish m)) (ap (λ i. form_at sh.parts (arity sh - i)) (sym e) ∙ is)

-- behind the plain parts
pub to_behind : (k r n m : ℕ) (env : Env) (kept : List Value) (u : Standing) (result : Outcome Move Halt) (v : Standing) → ((a : Around) (env : Env) (finish : List Value → State → Result) (kept : List Value) → gather a k (shape_at u.world k) env finish n kept ≡ gather a k (shape_at u.world k) env finish m kept)
    → ComesTo k r (λ sh a. gather_all a k sh env m kept) u result v → ComesTo k r (λ sh a. gather_all a k sh env n kept) u result v
to_behind k r n m env kept u result v same = to_as k r (λ sh a. gather_all a k sh env n kept) (λ sh a. gather_all a k sh env m kept) u result v (λ a rs. ap (λ g. g (state u.world rs)) (same a env (gathered a k env (shape_at u.world k) (shape_at u.world k).form) kept))

-- behind a value: it is kept, and the arguments with names are closed or not
pub to_kept : (f : Frame) (v : Value) (ks : List Value) (b : Bool) (u : Standing) (result : Outcome Move Halt) (w : Standing) → f.kind ≡ kind.Gathered → ks ≡ f.values ++ v ∷ [] → b ≡ closes_named (shape_at u.world f.node) f.left → ComesTo f.node (rank f) (λ sh a. keep_by b sh ks (gather_all a f.node sh f.env f.left)) u result w → ComesTo f.node (rank f) (λ sh a. after f sh a (Normal v)) u result w
to_kept f v ks b u result w is same closes c =
    to_kind (rank f) f kind.Gathered (Normal v) u result w is
    (to_as f.node (rank f) (λ sh a. after_kind a f.node sh f.left f.env f.values kind.Gathered (Normal v)) (λ sh a. keep_by b sh ks (gather_all a f.node sh f.env f.left)) u result w
    (λ a rs. ap (λ xs. keep_by (closes_named (shape_at u.world f.node) f.left) (shape_at u.world f.node) xs (gather_all a f.node (shape_at u.world f.node) f.env f.left) (state u.world rs)) (sym same)
    ∙ ap (λ x. keep_by x (shape_at u.world f.node) ks (gather_all a f.node (shape_at u.world f.node) f.env f.left) (state u.world rs)) (sym closes)) c)

-- behind the key of an entry
pub to_key : (f : Frame) (v : Value) (ks : List Value) (at : ℕ) (u : Standing) (result : Outcome Move Halt) (w : Standing) → f.kind ≡ kind.GatheredKey → ks ≡ f.values ++ v ∷ [] → at ≡ current (shape_at u.world f.node) f.left
    → ComesTo f.node (rank f) (λ sh a. under a (frame kind.Gathered f.node f.left f.env ks) (after (frame kind.Gathered f.node f.left f.env ks) sh a) (Inside 1) at f.env) u result w → ComesTo f.node (rank f) (λ sh a. after f sh a (Normal v)) u result w
to_key f v ks at u result w is same place c =
    to_kind (rank f) f kind.GatheredKey (Normal v) u result w is
    (to_as f.node (rank f) (λ sh a. after_kind a f.node sh f.left f.env f.values kind.GatheredKey (Normal v)) (λ sh a. under a (frame kind.Gathered f.node f.left f.env ks) (after (frame kind.Gathered f.node f.left f.env ks) sh a) (Inside 1) (current sh f.left) f.env) u result w
    (λ a rs. ap (λ xs. under a (frame kind.Gathered f.node f.left f.env xs) (after (frame kind.Gathered f.node f.left f.env xs) (shape_at u.world f.node) a) (Inside 1) (current (shape_at u.world f.node) f.left) f.env (state u.world rs)) (sym same))
    (to_size f.node (rank f) at (λ sh. current sh f.left) (λ i sh a. under a (frame kind.Gathered f.node f.left f.env ks) (after (frame kind.Gathered f.node f.left f.env ks) sh a) (Inside 1) i f.env) u result w place c))

pub key_rank : (f : Frame) → f.kind ≡ kind.GatheredKey → (ks : List Value) → rank (frame kind.Gathered f.node f.left f.env ks) < rank f
key_rank f is ks = subst (λ d. rank (frame kind.Gathered f.node f.left f.env ks) < rank (record f { kind = d })) (sym is) (omega arith)

-- the map of the arguments with names
abbrev pub named_answer : List NodeForm → List Value → World → Answer
named_answer fs ks w = new_map (limits w) (cells w) (insert_all same_key [] (zip (named_keys fs) (drop (length ks - length (named_keys fs)) ks)))

-- the arguments with names are the last of the values
pub named_last : (ks : List Key) (es : List (Key × Value)) (xs vs : List Value) (before n : ℕ) → es ≡ insert_all same_key [] (zip ks (take (length xs - before) (drop before xs))) → xs ≡ vs → before ≡ n → es ≡ insert_all same_key [] (zip ks (drop n vs))
named_last ks es xs vs before n is same at = is ∙ ap (λ ws. insert_all same_key [] (zip ks ws)) (all_last xs before ∙ ap (drop before) same ∙ ap (λ m. drop m vs) at)
