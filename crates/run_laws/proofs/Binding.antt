-- The arguments that a step is bound to are there, and its body is a closure.
use Rattle.std.proofs.Common.{◌≡◌, refl, ℕ, Bool, true, false, List, [], ◌∷◌, Option, Some, None}
use Rattle.std.specs.Prelude.{slice_get, map, if◌then◌else◌}
use Rattle.std.specs.List.{AllByRecursion as AllAre}
use Rattle.model_values.specs.Kinds.{Kind, pairs, cell_kind, kind}
use Rattle.model_values.specs.TextOf.{key_text}
use Rattle.model_values.specs.Fitting.{There, HasClosure, IsIn, CellFits, CellsFit}
use Rattle.model_values.proofs.CellGrowth.{all_get}
use Rattle.model_values.proofs.KindFacts.{KindFits, kind_fits}
use Rattle.model_values.specs.declared.value.Value.{Value}
use Rattle.model_values.specs.declared.value.Value.TheVariants.{Null, Bool as Truth, Int as Whole, Cell as InCell}
use Rattle.model_values.specs.declared.key.Key.{Key}
use Rattle.model_values.specs.declared.cell.Cell.{Cell}
use Rattle.model_values.specs.declared.cell.Cell.TheVariants.{Variable, Text as TextCell, List as ListCell, Map as MapCell, Closure as ClosureCell, Thrown as ThrownCell}
use Rattle.model_values.specs.declared.cell.Binding.{Binding}
use Rattle.model_run.specs.declared.step.Step.{Step}
use Rattle.model_run.specs.State.{World}
use Rattle.model_run.specs.Around.{cells}
use Rattle.model_run.specs.Names.{same_text}
use Rattle.model_run.specs.StepTable.{is_closure, Given, given, Bound, Binds, Refuses, Stops_at, Fit, Fits, Bad, Meets, parameters, takes_map, has_body, missing, unknown, all_fit, both_returned, label_of, bind_label, bind_body, bind_missing, bind_returned, bind_fit, bind_known, named_or_main, bind_rest, split_last, bind_step}

-- what is given is there
abbrev pub GivenThere : List Cell → Given → Type 0
GivenThere h args = AllAre (λ p. There h p.1) args

abbrev pub BodyThere : List Cell → Option Value → Type 0
BodyThere h None = Unit {0}
BodyThere h (Some f) = IsIn HasClosure h f

abbrev pub BoundThere : List Cell → Bound → Type 0
BoundThere h (Binds args body) = GivenThere h args × BodyThere h body
BoundThere h (Refuses message) = Unit {0}
BoundThere h (Stops_at limit) = Unit {0}

closure_cell : (c : ℕ) (o : Option Cell) → is_closure (cell_kind c o) ≡ true → HasClosure o
closure_cell c (Some (ClosureCell node env)) e = tt
closure_cell c (Some (Variable v)) e = absurd (cc)
closure_cell c (Some (TextCell t)) e = absurd (cc)
closure_cell c (Some (ListCell vs)) e = absurd (cc)
closure_cell c (Some (MapCell es)) e = absurd (cc)
closure_cell c (Some (ThrownCell d m)) e = absurd (cc)
closure_cell c None e = absurd (cc)

closure_is : (h : List Cell) (v : Value) → is_closure (kind h v) ≡ true → IsIn HasClosure h v
closure_is h (InCell c) e = closure_cell c (slice_get h c) e
closure_is h Null e = absurd (cc)
closure_is h (Truth b) e = absurd (cc)
closure_is h (Whole z) e = absurd (cc)

module _ (w : World) (s : Step) (args : Given) (body : Option Value) (there : GivenThere (cells w) args) (is : BodyThere (cells w) body) where
  label_there : (o : Option ℕ) → BoundThere (cells w) (bind_label args body o)
  label_there None = (there, is)
  label_there (Some n) = tt

module _ (w : World) (s : Step) (args : Given) (there : GivenThere (cells w) args) where
  body_there : (body : Option Value) → BodyThere (cells w) body → (needs : Bool) → BoundThere (cells w) (bind_body w s args body needs)
  body_there None is true = tt
  body_there None is false = label_there w s args None there is (label_of w s args)
  body_there (Some f) is true = label_there w s args (Some f) there is (label_of w s args)
  body_there (Some f) is false = tt

  missing_there : (body : Option Value) → BodyThere (cells w) body → (o : Option (List ℕ)) → BoundThere (cells w) (bind_missing w s args body o)
  missing_there body is (Some name) = tt
  missing_there body is None = body_there body is (has_body s)

  returned_there : (body : Option Value) → BodyThere (cells w) body → (b : Bool) → BoundThere (cells w) (bind_returned w s args body b)
  returned_there body is true = tt
  returned_there body is false = missing_there body is (missing args (parameters s))

  fit_there : (body : Option Value) → BodyThere (cells w) body → (f : Fit) → BoundThere (cells w) (bind_fit w s args body f)
  fit_there body is Fits = returned_there body is (both_returned (cells w) s args)
  fit_there body is (Bad None) = tt
  fit_there body is (Bad (Some name)) = tt
  fit_there body is (Meets k) = tt

  known_there : (body : Option Value) → BodyThere (cells w) body → (o : Option (List ℕ)) → BoundThere (cells w) (bind_known w s args body o)
  known_there body is (Some name) = tt
  known_there body is None = fit_there body is (all_fit w (parameters s) args)

map_there : (h : List Cell) (es : List (Key × Value)) → AllAre (λ e. There h e.1) es → GivenThere h (map (λ e. (key_text e.0, e.1)) es)
map_there h [] a = tt
map_there h (e ∷ es) a = (a.0, map_there h es a.1)

named_there : (rule : ℕ → List Binding → Type 0) (h : List Cell) (s : Step) (v : Value) → CellsFit rule h → There h v → (b : Bool) (k : Kind) → KindFits h k → GivenThere h (named_or_main s v b k)
named_there rule h s v fit is false (pairs c es) e = map_there h es (all_get (CellFits rule h) h c (MapCell es) e fit)
named_there rule h s v fit is b k e = (is, tt)

rest_there : (rule : ℕ → List Binding → Type 0) (w : World) (s : Step) → CellsFit rule (cells w) → (vs : List Value) (body : Option Value) → AllAre (There (cells w)) vs → BodyThere (cells w) body → BoundThere (cells w) (bind_rest w s vs body)
rest_there rule w s fit [] body a is = known_there w s [] tt body is (unknown (parameters s) [])
rest_there rule w s fit (v ∷ []) body a is = known_there w s (named_or_main s v (takes_map s) (kind (cells w) v)) (named_there rule (cells w) s v fit a.0 (takes_map s) (kind (cells w) v) (kind_fits (cells w) v)) body is (unknown (parameters s) (named_or_main s v (takes_map s) (kind (cells w) v)))
rest_there rule w s fit (v ∷ u ∷ vs) body a is = tt

abbrev SplitThere : List Cell → List Value × Option Value → Type 0
SplitThere h p = AllAre (There h) p.0 × BodyThere h p.1

last_there : (h : List Cell) (v : Value) → There h v → (b : Bool) → is_closure (kind h v) ≡ b → SplitThere h (if b then ([], Some v) else (v ∷ [], None))
last_there h v t true e = (tt, closure_is h v e)
last_there h v t false e = ((t, tt), tt)

split_there : (h : List Cell) (vs : List Value) → AllAre (There h) vs → SplitThere h (split_last h vs)
split_there h [] a = (tt, tt)
split_there h (v ∷ []) a = last_there h v a.0 (is_closure (kind h v)) refl
split_there h (v ∷ u ∷ vs) a = ((a.0, (split_there h (u ∷ vs) a.1).0), (split_there h (u ∷ vs) a.1).1)

pub bound_there : (rule : ℕ → List Binding → Type 0) (w : World) (s : Step) → CellsFit rule (cells w) → (args : List Value) → AllAre (There (cells w)) args → BoundThere (cells w) (bind_step w s args)
bound_there rule w s fit args a = rest_there rule w s fit (split_last (cells w) args).0 (split_last (cells w) args).1 (split_there (cells w) args a).0 (split_there (cells w) args a).1

-- an argument that is given
abbrev pub ThereIf : List Cell → Option Value → Type 0
ThereIf h None = Unit {0}
ThereIf h (Some v) = There h v

chosen_there : (h : List Cell) (b : Bool) (v : Value) (o : Option Value) → There h v → ThereIf h o → ThereIf h (if b then Some v else o)
chosen_there h true v o t more = t
chosen_there h false v o t more = more

pub given_there : (h : List Cell) (name : List ℕ) (args : Given) → GivenThere h args → ThereIf h (given name args)
given_there h name [] a = tt
given_there h name (p ∷ ps) a = chosen_there h (same_text name p.0) p.1 (given name ps) a.0 (given_there h name ps a.1)
