-- `try`: its catches.
use Rattle.std.proofs.Common.{◌≡◌, ◌∙◌, ◌<◌, ◌+◌, ◌-◌, ◌*◌, ◌^◌, ℕ, suc, Bool, true, false, List, [], ◌∷◌, drop, length, Option, Some, None, refl, sym, ap, subst, arith}
use Rattle.std.proofs.lemmas.List.{drop_more}
use Rattle.model_syntax.specs.declared.node.NodeForm.{NodeForm}
use Rattle.model_syntax.specs.declared.node.NodeForm.TheVariants as form
use Rattle.model_syntax.specs.declared.tree.Caught.{Caught}
use Rattle.model_values.specs.declared.cell.Cell.{Cell}
use Rattle.model_values.specs.declared.cell.Cell.TheVariants.{Variable, Thrown as ThrownCell}
use Rattle.model_values.specs.declared.throwable.Class.{Class}
use Rattle.std.specs.Prelude.{Result as Outcome, Ok, Err, slice_get}
use Rattle.model_values.specs.Cells.{new_cell}
use Rattle.model_values.specs.declared.value.Value.{Value}
use Rattle.model_values.specs.declared.value.Value.TheVariants.{Cell as InCell}
use Rattle.model_run.specs.Around.{Around, Shape, arity, cells, form_at, frame, limits, under}
use Rattle.model_run.specs.Forms.{after}
use Rattle.model_run.specs.Names.{bind, new_variable}
use Rattle.model_run.specs.Nesting.{shape_at}
use Rattle.model_run.specs.State.{Env, Result, State, seeing}
use Rattle.model_run.specs.declared.ending.Ending.TheVariants.{Thrown}
use Rattle.model_run.specs.declared.ending.Entry.TheVariants.{Inside}
use Rattle.model_run.specs.declared.frame.FrameKind.TheVariants as kind
use Rattle.value_view.specs.declared.refusal.OpRefusal.{OpRefusal}
use Rattle.cps_frames.specs.Changes.{Done}
use Rattle.cps_frames.specs.Halts.{halt_of}
use Rattle.cps_frames.specs.Moves.{ComesTo}
use Rattle.cps_frames.specs.Order.{rank}
use Rattle.cps_frames.specs.Standing.{Standing, state}
use Rattle.cps_frames.specs.declared.halt.Halt.{Halt}
use Rattle.cps_frames.specs.declared.thread.Move.{Move}
use Rattle.cps_frames.proofs.MoveLaws.{SaysAs, to_as, to_kind}
use Rattle.cps_frames.proofs.WayLaws.{throw_err, throw_ok}
use Rattle.cps_frames.specs.Ways.{thrown_of}
use Rattle.model_run.specs.declared.ending.Ending.{Ending}
use Rattle.model_run.specs.declared.frame.Frame.{Frame}
use Rattle.cps_variables.proofs.VariableLaws.{to_new, to_not_new}
use Rattle.model_run.specs.Statements.{after_catch, after_try, catch_among, catch_for, catch_if, catch_of, catches, catching}
use Rattle.cps_statements.specs.Catches.{class_in}

-- the catch for the class of a throwable
pub catch_by_class : (sh : Shape) (o : Option Cell) (class : Class) → class_in o ≡ Some class → catch_for sh o ≡ catch_among class 0 sh.parts
catch_by_class sh (Some (ThrownCell d m)) class is = let same : d ≡ class = cc is in ap (λ x. catch_among x 0 sh.parts) same
catch_by_class sh o class is = absurd (cc is)

-- one part further
pub catch_further : (class : Class) (fs : List NodeForm) (i : ℕ) → i < length fs → catch_among class i (drop i fs) ≡ catch_of class i (form_at fs i) (catch_among class (i + 1) (drop (i + 1) fs))
catch_further class fs i lt = ap (catch_among class i) (drop_more fs i form.Block lt) ∙ ap (λ n. catch_of class i (form_at fs i) (catch_among class n (drop (i + 1) fs))) next
  where
    next : suc i ≡ i + 1
    next = omega arith

-- a catch that takes the class, one that does not, and what is no catch
pub catch_taken : (class : Class) (i : ℕ) (f : NodeForm) (caught : Caught) (x : List ℕ) (rest : Option (ℕ × List ℕ)) → f ≡ form.Catch caught x → catches caught class ≡ true → catch_of class i f rest ≡ Some (i, x)
catch_taken class i f caught x rest is takes = ap (λ g. catch_of class i g rest) is ∙ ap (λ b. catch_if b i x rest) takes

pub catch_passed : (class : Class) (i : ℕ) (f : NodeForm) (caught : Caught) (x : List ℕ) (rest : Option (ℕ × List ℕ)) → f ≡ form.Catch caught x → catches caught class ≡ false → catch_of class i f rest ≡ rest
catch_passed class i f caught x rest is passes = ap (λ g. catch_of class i g rest) is ∙ ap (λ b. catch_if b i x rest) passes

pub no_catch : (class : Class) (i : ℕ) (f : NodeForm) (rest : Option (ℕ × List ℕ)) → ((caught : Caught) (x : List ℕ) → f ≡ form.Catch caught x → ⊥) → catch_of class i f rest ≡ rest
no_catch class i (form.Catch caught x) rest other = absurd (other caught x refl)
no_catch class i f rest other = refl

-- the catch is one of the parts
taken_within : (i n : ℕ) (p : ℕ × List ℕ) (b : Bool) (x : List ℕ) (rest : Option (ℕ × List ℕ)) → (rest ≡ Some p → p.0 < i + suc n) → catch_if b i x rest ≡ Some p → p.0 < i + suc n
taken_within i n p true x rest later e = let same : (i, x) ≡ p = cc e in let at : i ≡ p.0 = ap (λ q. q.0) same in omega (arith, at)
taken_within i n p false x rest later e = later e

part_within : (class : Class) (i n : ℕ) (p : ℕ × List ℕ) (f : NodeForm) (rest : Option (ℕ × List ℕ)) → (rest ≡ Some p → p.0 < i + suc n) → catch_of class i f rest ≡ Some p → p.0 < i + suc n
part_within class i n p (form.Catch caught x) rest later e = taken_within i n p (catches caught class) x rest later e
part_within class i n p f rest later e = later e

found_within : (class : Class) (fs : List NodeForm) (i : ℕ) (p : ℕ × List ℕ) → catch_among class i fs ≡ Some p → p.0 < i + length fs
found_within class [] i p e = absurd (cc e)
found_within class (f ∷ fs) i p e = part_within class i (length fs) p f (catch_among class (suc i) fs) (λ g. let lt : p.0 < suc i + length fs = found_within class fs (suc i) p g in omega (arith, lt)) e

pub catch_within : (class : Class) (fs : List NodeForm) (i : ℕ) (x : List ℕ) → catch_among class 0 fs ≡ Some (i, x) → i < length fs
catch_within class fs i x e = let lt : i < 0 + length fs = found_within class fs 0 (i, x) e in omega (arith, lt)

-- behind a throw: no catch takes it, or this one does
pub to_uncaught : (k r c : ℕ) (env : Env) (class : Class) (u : Standing) (result : Outcome Move Halt) (v : Standing) → class_in (slice_get u.world.shared.cells c) ≡ Some class → catch_among class 0 (shape_at u.world.setting.script k).parts ≡ None → ComesTo k r (λ sh a. after_catch a k sh env (Thrown c)) u result v → ComesTo k r (λ sh a. seeing (λ w. catching a k sh env c (catch_for sh (slice_get (cells w) c)))) u result v
to_uncaught k r c env class u result v is none =
    to_as k r (λ sh a. seeing (λ w. catching a k sh env c (catch_for sh (slice_get (cells w) c)))) (λ sh a. after_catch a k sh env (Thrown c)) u result v
    (λ a rs. ap (λ o. catching a k (shape_at u.world.setting.script k) env c o (state u.world rs)) (catch_by_class (shape_at u.world.setting.script k) (slice_get u.world.shared.cells c) class is ∙ none))

-- the block of a catch, with a new variable for the throwable
abbrev block : ℕ → Env → ℕ → List ℕ → ℕ → Shape → Around → State → Result
block k env i x n sh a = under a (frame kind.TryCatch k (arity sh - suc i) env []) (after_catch a k sh env) (Inside 0) i (bind x n env)

caught_says : (k c i : ℕ) (x : List ℕ) (env : Env) (class : Class) (u : Standing) → class_in (slice_get u.world.shared.cells c) ≡ Some class → catch_among class 0 (shape_at u.world.setting.script k).parts ≡ Some (i, x)
    → SaysAs k (λ sh a. seeing (λ w. catching a k sh env c (catch_for sh (slice_get (cells w) c)))) u (λ sh a. new_variable (InCell c) (λ n. block k env i x n sh a)) u
caught_says k c i x env class u is found a rs =
    ap (λ o. catching a k (shape_at u.world.setting.script k) env c o (state u.world rs)) (catch_by_class (shape_at u.world.setting.script k) (slice_get u.world.shared.cells c) class is ∙ found)

pub to_caught : (k c i n : ℕ) (x : List ℕ) (env inner : Env) (left : ℕ) (vs : List Value) (class : Class) (u u' : Standing) (result : Outcome Move Halt) (v : Standing) → class_in (slice_get u.world.shared.cells c) ≡ Some class → catch_among class 0 (shape_at u.world.setting.script k).parts ≡ Some (i, x)
    → Done (λ w. new_cell (limits w) (cells w) (Variable (InCell c))) u (Ok (InCell n)) u' → left ≡ arity (shape_at u.world.setting.script k) - suc i → left < 2 ^ 32 → inner ≡ bind x n env → vs ≡ []
    → ((r : ℕ) → rank (frame kind.TryCatch k left env vs) < r → ComesTo k r (λ sh a. under a (frame kind.TryCatch k left env vs) (after (frame kind.TryCatch k left env vs) sh a) (Inside 0) i inner) u' result v)
    → (r : ℕ) → 2 * 2 ^ 34 < r → ComesTo k r (λ sh a. seeing (λ w. catching a k sh env c (catch_for sh (slice_get (cells w) c)))) u result v
to_caught k c i n x env inner left vs class u u' result v is found made place small inner_is none h r lt =
    let P : List Value → Env → Type 0 = λ ws m. ComesTo k r (λ sh a. under a (frame kind.TryCatch k left env ws) (after (frame kind.TryCatch k left env ws) sh a) (Inside 0) i m) u' result v in
    let script : u'.world.setting.script ≡ u.world.setting.script = ap (λ w. w.setting.script) made.world in
    to_as k r (λ sh a. seeing (λ w. catching a k sh env c (catch_for sh (slice_get (cells w) c)))) (λ sh a. new_variable (InCell c) (λ n. block k env i x n sh a)) u result v (caught_says k c i x env class u is found)
    (to_new k r (InCell c) (block k env i x) n u u' result v made
    (to_as k r (block k env i x n) (λ sh a. under a (frame kind.TryCatch k left env []) (after (frame kind.TryCatch k left env []) sh a) (Inside 0) i (bind x n env)) u' result v
    (λ a rs. let sh = shape_at u'.world.setting.script k in ap (λ m. under a (frame kind.TryCatch k m env []) (after_catch a k sh env) (Inside 0) i (bind x n env) (state u'.world rs)) (sym (place ∙ ap (λ root. arity (shape_at root k) - suc i) (sym script))))
    (subst (P []) inner_is (subst (λ ws. P ws inner) none (h r (omega (arith, lt, small)))))))

pub to_no_variable : (k r c i : ℕ) (x : List ℕ) (env : Env) (class : Class) (o : OpRefusal) (u v : Standing) → class_in (slice_get u.world.shared.cells c) ≡ Some class → catch_among class 0 (shape_at u.world.setting.script k).parts ≡ Some (i, x) → Done (λ w. new_cell (limits w) (cells w) (Variable (InCell c))) u (Err o) v → 0 < r → ComesTo k r (λ sh a. seeing (λ w. catching a k sh env c (catch_for sh (slice_get (cells w) c)))) u (Err (halt_of o)) v
to_no_variable k r c i x env class o u v is found made lt =
    to_as k r (λ sh a. seeing (λ w. catching a k sh env c (catch_for sh (slice_get (cells w) c)))) (λ sh a. new_variable (InCell c) (λ n. block k env i x n sh a)) u (Err (halt_of o)) v (caught_says k c i x env class u is found)
    (to_not_new k r (InCell c) (block k env i x) o u v made lt)

-- the frame of the block: behind a throw, and behind any other ending
pub thrown_frame : (r : ℕ) (f : Frame) (e : Ending) (c : ℕ) (u : Standing) (result : Outcome Move Halt) (v : Standing) → f.kind ≡ kind.TryBlock → thrown_of e ≡ Ok c → ComesTo f.node r (λ sh a. seeing (λ w. catching a f.node sh f.env c (catch_for sh (slice_get (cells w) c)))) u result v → ComesTo f.node r (λ sh a. after f sh a e) u result v
thrown_frame r f e c u result v is h m =
    to_kind r f kind.TryBlock e u result v is
    (to_as f.node r (λ sh a. after_try a f.node sh f.env e) (λ sh a. seeing (λ w. catching a f.node sh f.env c (catch_for sh (slice_get (cells w) c)))) u result v
    (λ a rs. let sh = shape_at u.world.setting.script f.node in throw_ok (λ c. seeing (λ w. catching a f.node sh f.env c (catch_for sh (slice_get (cells w) c)))) (after_catch a f.node sh f.env) e c (state u.world rs) h) m)

pub other_frame : (r : ℕ) (f : Frame) (e x : Ending) (u : Standing) (result : Outcome Move Halt) (v : Standing) → f.kind ≡ kind.TryBlock → thrown_of e ≡ Err x → ComesTo f.node r (λ sh a. after_catch a f.node sh f.env x) u result v → ComesTo f.node r (λ sh a. after f sh a e) u result v
other_frame r f e x u result v is h m =
    to_kind r f kind.TryBlock e u result v is
    (to_as f.node r (λ sh a. after_try a f.node sh f.env e) (λ sh a. after_catch a f.node sh f.env x) u result v
    (λ a rs. let sh = shape_at u.world.setting.script f.node in throw_err (λ c. seeing (λ w. catching a f.node sh f.env c (catch_for sh (slice_get (cells w) c)))) (after_catch a f.node sh f.env) e x (state u.world rs) h) m)
