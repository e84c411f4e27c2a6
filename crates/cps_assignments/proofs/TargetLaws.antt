-- Targets: they stand behind what leaves their cells, and what is read of them or written to them.
use Rattle.std.proofs.Common.{◌≡◌, ◌∙◌, ◌<◌, ◌≤◌, ℕ, zero, suc, Bool, true, false, List, [], ◌∷◌, ◌++◌, length, refl, sym, ap, subst, arith}
use Rattle.std.proofs.lemmas.Bool.{eqb-true}
use Rattle.std.proofs.Math.Bool.{Bool-set}
use Rattle.std.proofs.Math.Logic.{∥∥₁_elim}
use Rattle.std.specs.Prelude.{Ok, Some}
use Rattle.std.specs.List.{AllByRecursion as AllAre}
use Rattle.model_syntax.specs.declared.node.NodeForm.{NodeForm}
use Rattle.model_syntax.specs.declared.node.NodeForm.TheVariants as form
use Rattle.cell_heap.specs.Soundness.{ValueBelow}
use Rattle.model_values.specs.Cells.{Answer, Gives}
use Rattle.model_values.specs.Fitting.{There}
use Rattle.model_values.specs.Later.{AnswerLater, CellsLater}
use Rattle.model_values.proofs.LaterLaws.{there_later, variables_later, all_weaker}
use Rattle.model_values.specs.declared.cell.Cell.{Cell}
use Rattle.model_values.specs.declared.limit.LimitKind.{LimitKind}
use Rattle.model_values.specs.declared.operator.Op.{Op}
use Rattle.model_values.specs.declared.value.Value.{Value}
use Rattle.model_run.specs.Around.{Shape, arity, cells, form_at, value_at}
use Rattle.model_run.specs.Assignments.{operator_in, place_size, read_target, write_counted, write_target}
use Rattle.model_run.specs.FrameTable.{Any, No_more, Row, any_values, is_assignment, is_declaration, is_target_form, operator_count}
use Rattle.model_run.specs.Nesting.{ValuesFit, shape_at}
use Rattle.model_run.specs.State.{Common, World, State, Env, Result, counted, guarded, may_count, operating}
use Rattle.model_run.specs.Terms.{Term}
use Rattle.model_run.proofs.OperationLaws.{decremented_later, get_at_later, get_property_later, incremented_later, read_name_later}
use Rattle.model_run.proofs.Relation.{KeepsAll, kept}
use Rattle.model_run.proofs.Room.{keeps_count}
use Rattle.model_run.proofs.Under.{second_of_both}
use Rattle.cps_frames.specs.Changes.{Done, Met, Passed}
use Rattle.model_syntax.specs.declared.tree.AssignSign.{AssignSign}
use Rattle.model_run.specs.Fitting.{known}
use Rattle.model_run.specs.declared.ending.Ending.{Ending}
use Rattle.model_run.specs.declared.ending.Entry.TheVariants.{First}
use Rattle.model_run.specs.declared.frame.Frame.{Frame}
use Rattle.model_run.specs.declared.frame.FrameKind.TheVariants as kind
use Rattle.script_laws.specs.NodeParts.{HasParts, Stand, is_function, is_target, parts_asked}
use Rattle.script_laws.proofs.ScriptParts.{script_parts}
use Rattle.cps_assignments.specs.Kinds.{starts_here}
use Rattle.cps_frames.specs.Places.{MayEnter, MayGoOn}
use Rattle.cps_frames.specs.Parts.{least_parts}
use Rattle.cps_frames.specs.Standing.{Standing}
use Rattle.cps_frames.proofs.PartLaws.{parts_there}
use Rattle.cps_variables.specs.Sight.{Sees}
use Rattle.cps_variables.proofs.SightLaws.{below_there, sees}
use Rattle.cps_variables.proofs.NodeLaws.{and_left, row_is, stands}
use Rattle.cps_assignments.specs.Targets.{HasAssignment, HasTarget, TargetStands, is_name, is_property, kept_size, read_answer, stepped, suffix_counted, suffix_limit}

-- the parts of a node that has a target
one_part : (f : NodeForm) → is_target_form f ≡ true → 1 ≤ least_parts f
one_part (form.Assign sign) h = (let le : 1 ≤ 2 = omega arith in le)
one_part form.Increment h = (let le : 1 ≤ 1 = omega arith in le)
one_part form.Decrement h = (let le : 1 ≤ 1 = omega arith in le)
one_part f h = absurd (cc h)

pub target_part : (root : Term) (k : ℕ) → HasTarget root k → 0 < arity (shape_at root k)
target_part root k h =
    let one : 1 ≤ least_parts (shape_at root k).form = one_part (shape_at root k).form h.form in
    let le : least_parts (shape_at root k).form ≤ arity (shape_at root k) = parts_there root h.script k in
    omega (arith, one, le)

-- the first of them is a target of one of the three forms
first_target : (f : NodeForm) (fs : List NodeForm) → Stand (parts_asked f) fs → is_target_form f ≡ true → is_target (form_at fs 0) ≡ true
first_target (form.Assign sign) [] h is = absurd h
first_target (form.Assign sign) (g ∷ gs) h is = h.0
first_target form.Increment [] h is = absurd h
first_target form.Increment (g ∷ gs) h is = h.0
first_target form.Decrement [] h is = absurd h
first_target form.Decrement (g ∷ gs) h is = h.0
first_target f fs h is = absurd (cc is)

target_is : (root : Term) (k : ℕ) → HasTarget root k → is_target (form_at (shape_at root k).parts 0) ≡ true
target_is root k h = ∥∥₁_elim h.script (hlevel (Bool-set)) (λ s. first_target (shape_at root k).form (shape_at root k).parts (subst (λ t. HasParts (shape_at t k)) (sym s.1) (script_parts s.0 k)) h.form)

no_fourth : (f : NodeForm) → is_target f ≡ true → ((x : List ℕ) → f ≡ form.ToName x → ⊥) → ((x : List ℕ) → f ≡ form.ToProperty x → ⊥) → (f ≡ form.ToIndex → ⊥) → ⊥
no_fourth (form.ToName x) is a b c = a x refl
no_fourth (form.ToProperty x) is a b c = b x refl
no_fourth form.ToIndex is a b c = c refl
no_fourth f is a b c = cc is

pub no_other_target : (root : Term) (k : ℕ) (f : NodeForm) → HasTarget root k → f ≡ form_at (shape_at root k).parts 0 → ((x : List ℕ) → f ≡ form.ToName x → ⊥) → ((x : List ℕ) → f ≡ form.ToProperty x → ⊥) → (f ≡ form.ToIndex → ⊥) → ⊥
no_other_target root k f h is = no_fourth f (ap is_target is ∙ target_is root k h)

-- and so is the statement that has it
pub no_other_form : (f : NodeForm) → is_target_form f ≡ true → ((sign : AssignSign) → f ≡ form.Assign sign → ⊥) → (f ≡ form.Increment → ⊥) → (f ≡ form.Decrement → ⊥) → ⊥
no_other_form (form.Assign sign) is a b c = a sign refl
no_other_form form.Increment is a b c = b refl
no_other_form form.Decrement is a b c = c refl
no_other_form f is a b c = cc is

two_parts : (f : NodeForm) → is_assignment f ≡ true → 2 ≤ least_parts f
two_parts (form.Assign sign) h = (let le : 2 ≤ 2 = omega arith in le)
two_parts f h = absurd (cc h)

pub value_part : (root : Term) (k : ℕ) → HasAssignment root k → 1 < arity (shape_at root k)
value_part root k h =
    let two : 2 ≤ least_parts (shape_at root k).form = two_parts (shape_at root k).form h.form in
    let le : least_parts (shape_at root k).form ≤ arity (shape_at root k) = parts_there root h.script k in
    omega (arith, two, le)

-- It stands where its cells are later, and no binding variable is made.
stands_on : (u v : Standing) (k : ℕ) (env : Env) (place : List Value) → v.world.setting.script ≡ u.world.setting.script → v.world.shared.binding ≡ u.world.shared.binding → CellsLater u.world.shared.cells v.world.shared.cells → TargetStands u.world.setting.script u.world.shared k env place → TargetStands v.world.setting.script v.world.shared k env place
stands_on u v k env place script binding later s = record {
  target = subst (λ root. HasTarget root k) (sym script) s.target;
  sees = subst (λ bs. Sees v.world.shared.cells bs env) (sym binding) (record {
    declared = variables_later u.world.shared.cells v.world.shared.cells later env s.sees.declared;
    bound = variables_later u.world.shared.cells v.world.shared.cells later u.world.shared.binding s.sees.bound;
    rising = s.sees.rising;
  });
  there = all_weaker (There u.world.shared.cells) (There v.world.shared.cells) (there_later u.world.shared.cells v.world.shared.cells later) place s.there;
  size = subst (λ root. place_size (form_at (shape_at root k).parts 0) ≤ length place) (sym script) s.size;
}

-- behind an operation that gives a value
gives_later : (h : List Cell) (a : Answer) (g : List Cell) (x : Value) → AnswerLater h a → a ≡ Gives g x → CellsLater h g
gives_later h a g x later is = subst (AnswerLater h) is later

done_later : (f : World → Answer) (u v : Standing) (x : Value) → AnswerLater (cells u.world) (f u.world) → Done f u (Ok x) v → CellsLater u.world.shared.cells v.world.shared.cells
done_later f u v x later d = gives_later u.world.shared.cells (f u.world) v.world.shared.cells x later d.answers

pub stands_done : (f : World → Answer) (u v : Standing) (x : Value) (k : ℕ) (env : Env) (place : List Value) → AnswerLater (cells u.world) (f u.world) → Done f u (Ok x) v → TargetStands u.world.setting.script u.world.shared k env place → TargetStands v.world.setting.script v.world.shared k env place
stands_done f u v x k env place later d =
    stands_on u v k env place (ap (λ (w : World). w.setting.script) d.world) (ap (λ (w : World). w.shared.binding) d.world) (done_later f u v x later d)

-- behind what counts
pub stands_counted : (u v : Standing) (k : ℕ) (env : Env) (place : List Value) → Passed may_count counted u v → TargetStands u.world.setting.script u.world.shared k env place → TargetStands v.world.setting.script v.world.shared k env place
stands_counted u v k env place p s = subst (λ (w : World). TargetStands w.setting.script w.shared k env place) (sym p.made) (record { target = s.target; sees = s.sees; there = s.there; size = s.size })

pub script_counted : (u v : Standing) → Passed may_count counted u v → v.world.setting.script ≡ u.world.setting.script
script_counted u v p = ap (λ (w : World). w.setting.script) p.made

pub there_counted : (u v : Standing) (y : Value) → Passed may_count counted u v → There u.world.shared.cells y → There v.world.shared.cells y
there_counted u v y p t = subst (λ (w : World). There w.shared.cells y) (sym p.made) t

-- The last suffix of a target.
pub keeps_suffix : (f : NodeForm) → KeepsAll (suffix_counted f)
keeps_suffix (form.ToName x) w = kept refl refl refl refl refl refl refl refl refl refl refl
keeps_suffix f w = keeps_count w

pub name_counted : (f : NodeForm) (u : Standing) → is_name f ≡ true → Passed (suffix_limit f) (suffix_counted f) u u
name_counted (form.ToName x) u h = record { free = refl; made = refl; stack = refl; parent = refl; heap = refl }
name_counted f u h = absurd (cc h)

pub suffix_passed : (f : NodeForm) (u v : Standing) → is_name f ≡ false → Passed may_count counted u v → Passed (suffix_limit f) (suffix_counted f) u v
suffix_passed (form.ToName x) u v h p = absurd (cc h)
suffix_passed f u v h p = p

pub suffix_met : (f : NodeForm) (l : LimitKind) (u v : Standing) → is_name f ≡ false → Met may_count l u v → Met (suffix_limit f) l u v
suffix_met (form.ToName x) l u v h m = absurd (cc h)
suffix_met f l u v h m = m

suffix_same : (f : NodeForm) (w : World) → ((suffix_counted f w).shared.cells ≡ w.shared.cells) × ((suffix_counted f w).shared.binding ≡ w.shared.binding)
suffix_same (form.ToName x) w = (refl, refl)
suffix_same f w = (refl, refl)

pub stands_suffix : (f : NodeForm) (u v : Standing) (k : ℕ) (env : Env) (place : List Value) → Passed (suffix_limit f) (suffix_counted f) u v → TargetStands u.world.setting.script u.world.shared k env place → TargetStands v.world.setting.script v.world.shared k env place
stands_suffix f u v k env place p s =
    let cells_are : v.world.shared.cells ≡ u.world.shared.cells = ap (λ (w : World). w.shared.cells) p.made ∙ (suffix_same f u.world).0 in
    let binding_is : v.world.shared.binding ≡ u.world.shared.binding = ap (λ (w : World). w.shared.binding) p.made ∙ (suffix_same f u.world).1 in
    record {
      target = subst (λ root. HasTarget root k) (sym (ap (λ (w : World). w.setting.script) p.made)) s.target;
      sees = subst (λ h. Sees h v.world.shared.binding env) (sym cells_are) (subst (λ bs. Sees u.world.shared.cells bs env) (sym binding_is) s.sees);
      there = subst (λ h. AllAre (There h) place) (sym cells_are) s.there;
      size = subst (λ root. place_size (form_at (shape_at root k).parts 0) ≤ length place) (sym (ap (λ (w : World). w.setting.script) p.made)) s.size;
    }

pub there_suffix : (f : NodeForm) (u v : Standing) (y : Value) → Passed (suffix_limit f) (suffix_counted f) u v → There u.world.shared.cells y → There v.world.shared.cells y
there_suffix f u v y p t = subst (λ h. There h y) (sym (ap (λ (w : World). w.shared.cells) p.made ∙ (suffix_same f u.world).0)) t

-- a target is read behind its count, and written behind it where it is only written
pub read_is : (f : NodeForm) (place : List Value) (env : Env) (go : Value → State → Result) → read_target f place env go ≡ guarded (suffix_limit f) (suffix_counted f) (operating (read_answer f place env) go)
read_is (form.ToName x) place env go = refl
read_is (form.ToProperty p) place env go = refl
read_is f place env go = refl

pub write_is : (f : NodeForm) (place : List Value) (env : Env) (v : Value) → write_counted f place env v ≡ guarded (suffix_limit f) (suffix_counted f) (write_target f place env v)
write_is (form.ToName x) place env v = refl
write_is (form.ToProperty p) place env v = refl
write_is f place env v = refl

-- what is read leaves later cells
pub read_later : (f : NodeForm) (place : List Value) (env : Env) (w : World) → AnswerLater (cells w) (read_answer f place env w)
read_later (form.ToName x) place env w = read_name_later w x env
read_later (form.ToProperty p) place env w = get_property_later w (value_at 0 place) p
read_later f place env w = get_at_later w (value_at 0 place) (value_at 1 place)

pub stepped_later : (up : Bool) (v : Value) (w : World) → AnswerLater (cells w) (stepped up w v)
stepped_later true v w = incremented_later w v
stepped_later false v w = decremented_later w v

-- a value that says of what a target is
there_at : (h : List Cell) (place : List Value) (i : ℕ) → AllAre (There h) place → There h (value_at i place)
there_at h [] i all = tt
there_at h (v ∷ vs) zero all = all.0
there_at h (v ∷ vs) (suc i) all = there_at h vs i all.1

pub place_there : (h : List Cell) (place : List Value) (i : ℕ) (v : Value) → v ≡ value_at i place → AllAre (There h) place → There h v
place_there h place i v is all = subst (There h) (sym is) (there_at h place i all)

pub place_below : (h : List Cell) (place : List Value) (i : ℕ) (v : Value) → v ≡ value_at i place → AllAre (There h) place → ValueBelow (length h) v
place_below h place i v is all = below_there h v (place_there h place i v is all)

-- an assignment is still one behind what leaves the script
pub assigns_on : (u v : Standing) (k : ℕ) → v.world.setting.script ≡ u.world.setting.script → HasAssignment u.world.setting.script k → HasAssignment v.world.setting.script k
assigns_on u v k same h = subst (λ root. HasAssignment root k) (sym same) h

pub suffix_script : (f : NodeForm) (u v : Standing) → Passed (suffix_limit f) (suffix_counted f) u v → v.world.setting.script ≡ u.world.setting.script
suffix_script f u v p = ap (λ (w : World). w.setting.script) p.made

pub done_script : (f : World → Answer) (u v : Standing) (x : Value) → Done f u (Ok x) v → v.world.setting.script ≡ u.world.setting.script
done_script f u v x d = ap (λ (w : World). w.setting.script) d.world

-- How many values a target is of.
pub name_size : (f : NodeForm) (place : List Value) → is_name f ≡ true → place_size f ≤ length place
name_size (form.ToName x) place h = (let le : 0 ≤ length place = omega arith in le)
name_size f place h = absurd (cc h)

pub property_size : (f : NodeForm) (v : Value) → is_property f ≡ true → place_size f ≤ length (v ∷ [])
property_size (form.ToProperty p) v h = (let le : 1 ≤ 1 = omega arith in le)
property_size f v h = absurd (cc h)

-- Frames of targets.
frame_stands : (u : Standing) (f : Frame) (e : Ending) (place : List Value) → MayGoOn u f e → is_target_form (shape_at u.world.setting.script f.node).form ≡ true → AllAre (There u.world.shared.cells) place → place_size (form_at (shape_at u.world.setting.script f.node).parts 0) ≤ length place → TargetStands u.world.setting.script u.world.shared f.node f.env place
frame_stands u f e place may is all size = record {
  target = record { script = may.script; node = may.frame.fits.node; form = is };
  sees = sees u.world.setting u.world f.env may.sound may.frame.names.variables;
  there = all;
  size = size;
}

pub receiver_target : (u : Standing) (f : Frame) (e : Ending) → MayGoOn u f e → f.kind ≡ kind.TargetReceiver → HasTarget u.world.setting.script f.node
receiver_target u f e may is = record { script = may.script; node = may.frame.fits.node; form = and_left _ _ (stands u f e kind.TargetReceiver may is) }

pub property_stands : (u : Standing) (f : Frame) (e : Ending) (of : Value) (place : List Value) → MayGoOn u f e → f.kind ≡ kind.TargetReceiver → is_property (form_at (shape_at u.world.setting.script f.node).parts 0) ≡ true → There u.world.shared.cells of → place ≡ of ∷ [] → TargetStands u.world.setting.script u.world.shared f.node f.env place
property_stands u f e of place may is property there place_is =
    subst (TargetStands u.world.setting.script u.world.shared f.node f.env) (sym place_is)
    (frame_stands u f e (of ∷ []) may (and_left _ _ (stands u f e kind.TargetReceiver may is)) (there, tt) (property_size (form_at (shape_at u.world.setting.script f.node).parts 0) of property))

assigns_target : (f : NodeForm) → is_assignment f ≡ true → is_target_form f ≡ true
assigns_target (form.Assign sign) h = refl
assigns_target f h = absurd (cc h)

-- what the frame of an index keeps
one_kept : (u : Common) (vs : List Value) → ValuesFit (known u) No_more (Any ∷ []) vs → (vs ≡ value_at 0 vs ∷ []) × There u.cells (value_at 0 vs)
one_kept u [] fits = absurd fits
one_kept u (v ∷ []) fits = (refl, fits.0)
one_kept u (v ∷ w ∷ vs) fits = absurd fits.1

index_values : (u : Standing) (f : Frame) (e : Ending) → MayGoOn u f e → f.kind ≡ kind.TargetIndex → ValuesFit (known u.world.shared) No_more (Any ∷ []) f.values
index_values u f e may is = subst (λ (r : Row). ValuesFit (known u.world.shared) r.further r.values f.values) (row_is u f kind.TargetIndex is) may.frame.fits.meets.values

pub index_kept : (u : Standing) (f : Frame) (e : Ending) → MayGoOn u f e → f.kind ≡ kind.TargetIndex → f.values ≡ value_at 0 f.values ∷ []
index_kept u f e may is = (one_kept u.world.shared f.values (index_values u f e may is)).0

pub index_stands : (u : Standing) (f : Frame) (e : Ending) (i : Value) (place : List Value) → MayGoOn u f e → f.kind ≡ kind.TargetIndex → There u.world.shared.cells i → place ≡ f.values ++ i ∷ [] → TargetStands u.world.setting.script u.world.shared f.node f.env place
index_stands u f e i place may is there place_is =
    let le : 2 ≤ 2 = omega arith in
    let one = one_kept u.world.shared f.values (index_values u f e may is) in
    let row = stands u f e kind.TargetIndex may is in
    let two : place_size (form_at (shape_at u.world.setting.script f.node).parts 0) ≡ 2 = eqb-true _ _ (second_of_both _ _ row) in
    subst (TargetStands u.world.setting.script u.world.shared f.node f.env) (sym (place_is ∙ ap (λ vs. vs ++ i ∷ []) one.0))
    (frame_stands u f e (value_at 0 f.values ∷ i ∷ []) may (and_left _ _ row) (one.1, (there, tt)) (subst (λ n. n ≤ 2) (sym two) le))

-- what the frame of an assigned value keeps
all_there : (u : Common) (n : ℕ) (vs : List Value) → ValuesFit (known u) No_more (any_values n) vs → AllAre (There u.cells) vs
all_there u zero [] fits = tt
all_there u zero (v ∷ vs) fits = absurd fits
all_there u (suc n) [] fits = absurd fits
all_there u (suc n) (v ∷ vs) fits = (fits.0, all_there u n vs fits.1)

as_many : (u : Common) (n : ℕ) (vs : List Value) → ValuesFit (known u) No_more (any_values n) vs → length vs ≡ n
as_many u zero [] fits = refl
as_many u zero (v ∷ vs) fits = absurd fits
as_many u (suc n) [] fits = absurd fits
as_many u (suc n) (v ∷ vs) fits = ap suc (as_many u n vs fits.1)

assigned_values : (u : Standing) (f : Frame) (e : Ending) → MayGoOn u f e → f.kind ≡ kind.AssignValue → ValuesFit (known u.world.shared) No_more (any_values (kept_size (shape_at u.world.setting.script f.node))) f.values
assigned_values u f e may is = subst (λ (r : Row). ValuesFit (known u.world.shared) r.further r.values f.values) (row_is u f kind.AssignValue is) may.frame.fits.meets.values

pub assigned_size : (u : Standing) (f : Frame) (e : Ending) → MayGoOn u f e → f.kind ≡ kind.AssignValue → length f.values ≡ kept_size (shape_at u.world.setting.script f.node)
assigned_size u f e may is = as_many u.world.shared _ f.values (assigned_values u f e may is)

pub assigned_stands : (u : Standing) (f : Frame) (e : Ending) → MayGoOn u f e → f.kind ≡ kind.AssignValue → TargetStands u.world.setting.script u.world.shared f.node f.env f.values
assigned_stands u f e may is =
    let size : length f.values ≡ kept_size (shape_at u.world.setting.script f.node) = assigned_size u f e may is in
    frame_stands u f e f.values may (assigns_target _ (stands u f e kind.AssignValue may is)) (all_there u.world.shared _ f.values (assigned_values u f e may is)) (omega (arith, size))

-- and its node is an assignment
pub frame_assigns : (u : Standing) (f : Frame) (e : Ending) → MayGoOn u f e → f.kind ≡ kind.AssignValue → HasAssignment u.world.setting.script f.node
frame_assigns u f e may is = record { script = may.script; node = may.frame.fits.node; form = stands u f e kind.AssignValue may is }

pub only_assigns : (f : NodeForm) → is_assignment f ≡ true → ((sign : AssignSign) → f ≡ form.Assign sign → ⊥) → ⊥
only_assigns (form.Assign sign) is never = never sign refl
only_assigns f is never = cc is

-- behind the values of a target stands what it has read, where there is an operator
pub read_within : (sh : Shape) (o : Op) (n : ℕ) → operator_in sh.form ≡ Some o → n ≡ kept_size sh → place_size (form_at sh.parts 0) < n
read_within sh o n some is =
    let one : operator_count (operator_in sh.form) ≡ 1 = ap operator_count some in
    omega (arith, one, is)

-- an assignment has a target, and so has every statement of this crate but a declaration
pub targets_else : (f : NodeForm) → starts_here f ≡ true → is_declaration f ≡ false → is_target_form f ≡ true
targets_else (form.Declare x) here differs = absurd (cc differs)
targets_else (form.Assign sign) here differs = refl
targets_else form.Increment here differs = refl
targets_else form.Decrement here differs = refl
targets_else f here differs = absurd (cc here)

-- what a node that is entered sees, behind its count
no_function : (f : NodeForm) → starts_here f ≡ true → is_function f ≡ false
no_function (form.Function x names) here = absurd (cc here)
no_function f here = refl

pub entered_sees : (u v : Standing) (k : ℕ) (env : Env) → MayEnter u First k env → starts_here (shape_at u.world.setting.script k).form ≡ true → Passed may_count counted u v → Sees v.world.shared.cells v.world.shared.binding env
entered_sees u v k env may here p =
    subst (λ (w : World). Sees w.shared.cells w.shared.binding env) (sym p.made)
    (sees u.world.setting u.world env may.sound (may.entry (no_function (shape_at u.world.setting.script k).form here)).variables)
