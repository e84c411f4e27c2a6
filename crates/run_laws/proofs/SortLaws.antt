-- A frame that stands with its variables meets the table exactly, and the other way round: its values are of their sorts, and the numbers
-- that count what the build has are as small as the table says.
use Rattle.std.proofs.Common.{◌≡◌, ◌≤◌, ◌+◌, ℕ, zero, suc, Bool, true, false, List, [], ◌∷◌, refl}
use Rattle.std.specs.Prelude.{pos}
use Rattle.model_values.specs.declared.value.Value.{Value}
use Rattle.model_values.specs.declared.value.Value.TheVariants.{Int as Whole}
use Rattle.model_values.specs.MethodNames.{Method, Find, FindAll}
use Rattle.model_run.specs.declared.frame.Frame.{Frame}
use Rattle.model_run.specs.declared.frame.FrameKind.{FrameKind}
use Rattle.model_run.specs.declared.frame.FrameKind.TheVariants as kind
use Rattle.model_run.specs.State.{Common, Env}
use Rattle.model_run.specs.Around.{Shape, form_at, position, value_at}
use Rattle.model_run.specs.Assignments.{operator_in, place_size}
use Rattle.model_run.specs.Calls.{walk_method}
use Rattle.model_run.specs.FrameTable.{Sort, Any, Up_to, A_count, Flag, Flow_node, A_closure, A_throwable, Text_or_null, Further, No_more, One_more, Any_more, any_values, count_of, current, key_count, operator_count, frame_row, walk_values, walk_further}
use Rattle.model_run.specs.Nesting.{FrameFits, FurtherFit, ValuesFit, shape_at}
use Rattle.model_run.specs.Terms.{Term}
use Rattle.model_run.specs.Scoping.{names_for}
use Rattle.model_run.specs.Fitting.{known, EnvFits}
use Rattle.model_run.proofs.LaterLaws.{frame_wider}
use Rattle.run_laws.specs.Soundness.{seen, NumbersFit, Sits}

-- no sort of these has a bound
abbrev unbounded : List Sort → Bool
unbounded [] = true
unbounded (Up_to n ∷ ss) = false
unbounded (s ∷ ss) = unbounded ss

many_unbounded : (n : ℕ) → unbounded (any_values n) ≡ true
many_unbounded zero = refl
many_unbounded (suc n) = many_unbounded n

walk_unbounded : (m : Method) → unbounded (walk_values m) ≡ true
walk_unbounded Find = refl
walk_unbounded FindAll = refl
walk_unbounded m = refl

further_known : (u : Common) (x : Further) (vs : List Value) → FurtherFit (seen u) x vs → FurtherFit (known u) x vs
further_known u x [] h = tt
further_known u No_more (v ∷ vs) h = h
further_known u One_more (v ∷ vs) h = h
further_known u Any_more (v ∷ vs) h = (h.0, further_known u Any_more vs h.1)

values_known : (u : Common) (x : Further) (ss : List Sort) → unbounded ss ≡ true → (vs : List Value) → ValuesFit (seen u) x ss vs → ValuesFit (known u) x ss vs
values_known u x [] e vs h = further_known u x vs h
values_known u x (s ∷ ss) e [] h = absurd h
values_known u x (Any ∷ ss) e (v ∷ vs) h = (h.0, values_known u x ss e vs h.1)
values_known u x (Up_to n ∷ ss) e (v ∷ vs) h = absurd (cc e)
values_known u x (A_count ∷ ss) e (v ∷ vs) h = (h.0, values_known u x ss e vs h.1)
values_known u x (Flag ∷ ss) e (v ∷ vs) h = (h.0, values_known u x ss e vs h.1)
values_known u x (Flow_node ∷ ss) e (v ∷ vs) h = (h.0, values_known u x ss e vs h.1)
values_known u x (A_closure ∷ ss) e (v ∷ vs) h = (h.0, values_known u x ss e vs h.1)
values_known u x (A_throwable ∷ ss) e (v ∷ vs) h = (h.0, values_known u x ss e vs h.1)
values_known u x (Text_or_null ∷ ss) e (v ∷ vs) h = (h.0, values_known u x ss e vs h.1)

-- the numbers that count what the build has, with their bounds
each_known : (u : Common) (vs : List Value) → NumbersFit kind.EachBody vs → ValuesFit (seen u) No_more (Any ∷ Up_to 2147483646 ∷ []) vs → ValuesFit (known u) No_more (Any ∷ Up_to 2147483646 ∷ []) vs
each_known u [] low h = absurd h
each_known u (a ∷ []) low h = absurd h.1
each_known u (a ∷ Whole (pos m) ∷ vs) low h = (h.0, (low, further_known u No_more vs h.1.1))
each_known u (a ∷ b ∷ vs) low h = absurd h.1.0

third_known : (u : Common) (n : ℕ) (ss : List Sort) → unbounded ss ≡ true → (vs : List Value) → position (value_at 2 vs) ≤ n → ValuesFit (seen u) No_more (Flow_node ∷ Flow_node ∷ Up_to n ∷ ss) vs → ValuesFit (known u) No_more (Flow_node ∷ Flow_node ∷ Up_to n ∷ ss) vs
third_known u n ss free [] low h = absurd h
third_known u n ss free (a ∷ []) low h = absurd h.1
third_known u n ss free (a ∷ b ∷ []) low h = absurd h.1.1
third_known u n ss free (a ∷ b ∷ Whole (pos m) ∷ vs) low h = (h.0, (h.1.0, (low, values_known u No_more ss free vs h.1.1.1)))
third_known u n ss free (a ∷ b ∷ c ∷ vs) low h = absurd h.1.1.0

-- the values of each kind
kind_known : (u : Common) (sh : Shape) (d : FrameKind) (left : ℕ) (env : Env) (vs : List Value) → NumbersFit d vs → ValuesFit (seen u) (frame_row d sh left env).further (frame_row d sh left env).values vs → ValuesFit (known u) (frame_row d sh left env).further (frame_row d sh left env).values vs
kind_known u sh kind.EachBody left env vs low h = each_known u vs low h
kind_known u sh kind.CatchErrorBody left env vs low h = third_known u 4 (Text_or_null ∷ []) refl vs low h
kind_known u sh kind.WithEnvBody left env vs low h = third_known u 2147483647 [] refl vs low h
kind_known u sh kind.WalkTurn left env vs low h = values_known u (walk_further (walk_method sh.form)) (frame_row kind.WalkTurn sh left env).values (walk_unbounded (walk_method sh.form)) vs h
kind_known u sh kind.AssignValue left env vs low h = values_known u No_more (frame_row kind.AssignValue sh left env).values (many_unbounded (place_size (form_at sh.parts 0) + operator_count (operator_in sh.form))) vs h
kind_known u sh kind.Gathered left env vs low h = values_known u No_more (frame_row kind.Gathered sh left env).values (many_unbounded (count_of sh env (current sh left) + key_count (form_at sh.parts (current sh left)))) vs h
kind_known u sh kind.GatheredKey left env vs low h = values_known u No_more (frame_row kind.GatheredKey sh left env).values (many_unbounded (count_of sh env (current sh left))) vs h
kind_known u sh d left env vs low h = values_known u No_more (frame_row d sh left env).values refl vs h

pub meets_table : (root : Term) (u : Common) (f : Frame) → Sits root u f → FrameFits (known u) root f
meets_table root u f h = record { node = (h.fits).node; meets = record { stands = ((h.fits).meets).stands; left = ((h.fits).meets).left; values = kind_known u (shape_at root f.node) f.kind f.left f.env f.values h.numbers ((h.fits).meets).values } }

-- what is of a sort with its bound is so without it
known_seen : (u : Common) (s : Sort) (v : Value) → known u s v → seen u s v
known_seen u (Up_to n) (Whole (pos m)) h = tt
known_seen u s v h = h

-- numbers that the table bounds
known_numbers : (root : Term) (u : Common) (f : Frame) → FrameFits (known u) root f → NumbersFit f.kind f.values
known_numbers root u f h = kinds f.kind f.values (h.meets).values
  where
    each : (vs : List Value) → ValuesFit (known u) No_more (Any ∷ Up_to 2147483646 ∷ []) vs → position (value_at 1 vs) ≤ 2147483646
    each [] h = absurd h
    each (a ∷ []) h = absurd h.1
    each (a ∷ Whole (pos m) ∷ vs) h = h.1.0
    each (a ∷ b ∷ vs) h = absurd h.1.0

    third : (n : ℕ) (ss : List Sort) (vs : List Value) → ValuesFit (known u) No_more (Flow_node ∷ Flow_node ∷ Up_to n ∷ ss) vs → position (value_at 2 vs) ≤ n
    third n ss [] h = absurd h
    third n ss (a ∷ []) h = absurd h.1
    third n ss (a ∷ b ∷ []) h = absurd h.1.1
    third n ss (a ∷ b ∷ Whole (pos m) ∷ vs) h = h.1.1.0
    third n ss (a ∷ b ∷ c ∷ vs) h = absurd h.1.1.0

    kinds : (d : FrameKind) (vs : List Value) → ValuesFit (known u) (frame_row d (shape_at root f.node) f.left f.env).further (frame_row d (shape_at root f.node) f.left f.env).values vs → NumbersFit d vs
    kinds kind.EachBody vs v = each vs v
    kinds kind.CatchErrorBody vs v = third 4 (Text_or_null ∷ []) vs v
    kinds kind.WithEnvBody vs v = third 2147483647 [] vs v
    kinds d vs v = tt

pub sits_by : (root : Term) (u : Common) (f : Frame) → FrameFits (known u) root f → EnvFits u.cells (names_for root f) f.env → Sits root u f
sits_by root u f fits names = record { fits = frame_wider (known u) (seen u) (known_seen u) root f fits; names = names; numbers = known_numbers root u f fits }
