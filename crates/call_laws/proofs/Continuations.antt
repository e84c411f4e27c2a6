-- Frames that go on: what stands inside them afterwards is entered so, where what stood there was.
use Rattle.std.proofs.Common.{◌≡◌, ap, sym, subst, refl, inl, inr, ℕ, true, List, [], ◌∷◌}
use Rattle.std.specs.List.{AllByRecursion as AllAre}
use Rattle.model_syntax.specs.declared.node.NodeForm.{NodeForm}
use Rattle.model_syntax.specs.declared.node.NodeForm.TheVariants as form
use Rattle.model_values.specs.Fitting.{CellFits, CellsFit}
use Rattle.model_values.specs.declared.cell.Cell.{Cell}
use Rattle.model_values.specs.declared.cell.Cell.TheVariants.{Closure as ClosureCell}
use Rattle.model_values.proofs.CellGrowth.{all_get}
use Rattle.model_run.specs.declared.frame.Frame.{Frame}
use Rattle.model_run.specs.declared.frame.FrameKind.{FrameKind}
use Rattle.model_run.specs.declared.frame.FrameKind.TheVariants as kind
use Rattle.model_run.specs.declared.ending.Asked.{Asked}
use Rattle.model_run.specs.declared.ending.Ending.{Ending}
use Rattle.model_run.specs.Terms.{Term, term_at, Found}
use Rattle.model_run.specs.State.{State, Env, Result}
use Rattle.model_run.specs.Around.{Shape, position, value_at}
use Rattle.model_run.specs.Fitting.{closure_rule}
use Rattle.model_run.specs.FrameTable.{frame_row, is_callable, is_closure_form, is_function_form}
use Rattle.model_run.specs.Forms.{after_kind}
use Rattle.model_run.specs.Meaning.{around, continue, unwind}
use Rattle.model_run.specs.Nesting.{Spot, Begun, Any_body, Body_of, Any_branch, For_executor, For_task, For_person, For_branches, MeetsRow, FrameFits, anything, is_own, Enters, own_frame, entered, any_body, body_of, any_branch, Chained, IsClosureAt, CallsClosures, CallsByName, innermost, shape_at, spot_in, Nested}
use Rattle.model_run.proofs.FormLaws.{after_law}
use Rattle.model_run.proofs.StepLaws.{branch_end_law}
use Rattle.call_laws.specs.Entering.{IsCallee, BeginsAt, EnteredAt, Entered, Behind, ComesTo}
use Rattle.call_laws.proofs.Entries.{callee_begins, name_begins, own_begins, comes_through, entering}
use Rattle.call_laws.proofs.Callers.{call_continues, method_continues}
use Rattle.call_laws.proofs.Evaluations.{caller_or, leads_come, quiet, quiet_agree, Numbers, around_supplies}

-- what has a body is a closure or a function
callable_or : {C : Type 0} (f : NodeForm) → is_callable f ≡ true → (is_closure_form f ≡ true → C) → (is_function_form f ≡ true → C) → C
callable_or (form.Closure heads) e p q = p refl
callable_or (form.Function name names) e p q = q refl
callable_or f e p q = absurd (cc)

no_closure : (f : NodeForm) → is_closure_form f ≡ true → is_function_form f ≡ true → ⊥
no_closure (form.Closure heads) p q = absurd (cc)
no_closure f p q = absurd (cc)

-- no frame of a node's own stands at a function
function_row : (d : FrameKind) (name : List ℕ) (names : List (List ℕ)) (ps : List NodeForm) (left : ℕ) (env : Env) → is_own d ≡ true → (frame_row d (record { form = form.Function name names; parts = ps }) left env).stands ≡ true → ⊥
function_row kind.CallBody name names ps left env own stands = absurd (cc)
function_row d name names ps left env own stands = absurd (cc)

own_no_function : (d : FrameKind) (f : NodeForm) (ps : List NodeForm) (left : ℕ) (env : Env) → is_own d ≡ true → is_function_form f ≡ true → (frame_row d (record { form = f; parts = ps }) left env).stands ≡ true → ⊥
own_no_function d (form.Function name names) ps left env own is stands = function_row d name names ps left env own stands
own_no_function d f ps left env own is stands = absurd (cc)

module _ (root : Term) where
  -- what is called stands at a closure or a function
  body_stands : (x : Frame) → x.kind ≡ kind.CallBody → FrameFits anything root x → is_callable (shape_at root x.node).form ≡ true
  body_stands x is fits = subst (λ d. (frame_row d (shape_at root x.node) x.left x.env).stands ≡ true) is ((fits.meets).stands)

  -- a frame of a sound path is entered so
  enters_so : (x : Frame) (at : Spot) → Enters root x at → FrameFits anything root x → IsClosureAt root at x → (g : List Cell) → EnteredAt root g at x
  enters_so x (Begun k) (own_frame own leads) fits calls g = own_begins root g k x.node x.kind own
  enters_so x (Begun k) (entered j is leads call) fits calls g = callable_or (shape_at root x.node).form (body_stands x is fits)
      (λ closure. callee_begins root g k x.node (inl closure) x.kind) (λ function. name_begins root g k x.node (calls function) x.kind)
  enters_so x Any_body (any_body is) fits calls g = inl calls
  enters_so x (Body_of k) (body_of is at) fits calls g = at
  enters_so x Any_branch (any_branch is) fits calls g = tt
  enters_so x For_executor enters fits calls g = tt
  enters_so x For_task enters fits calls g = tt
  enters_so x For_person enters fits calls g = tt
  enters_so x For_branches enters fits calls g = tt

  -- a closure among sound cells is one of the script's
  callee_closure : (g : List Cell) → CellsFit (closure_rule root) g → (n : ℕ) → IsCallee root g n → is_closure_form (shape_at root n).form ≡ true
  callee_closure g fit n (inl is) = is
  callee_closure g fit n (inr has) = ((all_get (CellFits (closure_rule root) g) g has.0 (ClosureCell n has.1) has.2 fit).0).1

  closure_there : (g : List Cell) → CellsFit (closure_rule root) g → (at : Spot) (x : Frame) → Enters root x at → FrameFits anything root x → EnteredAt root g at x → IsClosureAt root at x
  closure_there g fit (Begun k) x (own_frame own leads) fits enters = λ function. absurd (own_no_function x.kind (shape_at root x.node).form (shape_at root x.node).parts x.left x.env own function ((fits.meets).stands))
  closure_there g fit (Begun k) x (entered j is leads call) fits enters = λ function. by_name function (subst (λ d. BeginsAt root g k x.node d) is enters)
    where
      by_name : is_function_form (shape_at root x.node).form ≡ true → BeginsAt root g k x.node kind.CallBody → CallsByName root k
      by_name function (inl is) = absurd (no_closure (shape_at root x.node).form (callee_closure g fit x.node is) function)
      by_name function (inr calls) = calls
  closure_there g fit Any_body x e fits enters = callee_closure g fit x.node enters
  closure_there g fit (Body_of k) x e fits enters = tt
  closure_there g fit Any_branch x e fits enters = tt
  closure_there g fit For_executor x e fits enters = tt
  closure_there g fit For_task x e fits enters = tt
  closure_there g fit For_person x e fits enters = tt
  closure_there g fit For_branches x e fits enters = tt

  -- Where the cells are sound, frames that are entered so stand one inside the other up to the wait, and call closures.
  pub entered_nested : (g : List Cell) (at : Spot) (path : List Frame) (asked : Asked) → AllAre (FrameFits anything root) path → Entered root g at path asked → Nested root at path asked
  entered_nested g at [] asked fits enters = enters
  entered_nested g at (x ∷ path) asked fits enters = (enters.0, fits.0, entered_nested g (spot_in root x) path asked fits.1 enters.2)

  pub entered_closures : (g : List Cell) → CellsFit (closure_rule root) g → (at : Spot) (path : List Frame) (asked : Asked) → AllAre (FrameFits anything root) path → Entered root g at path asked → CallsClosures root at path
  entered_closures g fit at [] asked fits enters = tt
  entered_closures g fit at (x ∷ path) asked fits enters = (closure_there g fit at x enters.0 fits.0 enters.1, entered_closures g fit (spot_in root x) path asked fits.1 enters.2)

  module _ (whole : Found root root) (numbers : Numbers root) (n : ℕ) where
    -- how a frame goes on at a node of this shape
    abbrev GoesOn : Frame → List Cell → Ending → State → Shape → Type 0
    GoesOn x h e s sh = ComesTo root h (Begun x.node) (after_kind (around root n (term_at root x.node)) x.node sh x.left x.env x.values x.kind e s)

    -- behind a frame of a node's own
    own_continues : (x : Frame) → MeetsRow anything (shape_at root x.node) x → (h : List Cell) (e : Ending) (s : State) → Behind h s → ComesTo root h (Begun x.node) (continue root n x e s)
    unfolding continue
    own_continues x m h e s q = caller_or (shape_at root x.node).form
        (λ name is. as_form (form.Call name) is (λ there st. call_continues root x.node name (shape_at root x.node).parts (around root n (term_at root x.node)) (around_supplies root whole numbers n x.node) there x.env h x.kind x.left x.values st e s s q))
        (λ access name is. as_form (form.Method access name) is (λ there st. method_continues root x.node access name (shape_at root x.node).parts (around root n (term_at root x.node)) (around_supplies root whole numbers n x.node) there x.env h x.kind x.left x.values st e s s q))
        (λ plain. after_law (quiet root x.node (shape_at root x.node) refl (around root n (term_at root x.node)) (around_supplies root whole numbers n x.node) h (Begun x.node)) (λ s s' q. q) (λ s s' q. q) (shape_at root x.node) (around root n (term_at root x.node)) (around root n (term_at root x.node)) x m
        (quiet_agree root x.node (shape_at root x.node) refl (around root n (term_at root x.node)) (around_supplies root whole numbers n x.node) plain h) e s s q)
      where
        as_form : (g : NodeForm) → (shape_at root x.node).form ≡ g → (shape_at root x.node ≡ record { form = g; parts = (shape_at root x.node).parts } → (frame_row x.kind (record { form = g; parts = (shape_at root x.node).parts }) x.left x.env).stands ≡ true → GoesOn x h e s (record { form = g; parts = (shape_at root x.node).parts })) → GoesOn x h e s (shape_at root x.node)
        as_form g is law =
            let there : shape_at root x.node ≡ record { form = g; parts = (shape_at root x.node).parts } = ap (λ p. record { form = p; parts = (shape_at root x.node).parts }) is in
            subst (GoesOn x h e s) (sym there) (law there (subst (λ sh. (frame_row x.kind sh x.left x.env).stands ≡ true) there m.stands))

    -- behind the body of a call, and that of a branch
    body_continues : (x : Frame) → x.kind ≡ kind.CallBody → (at : Spot) (h : List Cell) (e : Ending) (s : State) → Behind h s → ComesTo root h at (continue root n x e s)
    unfolding continue
    body_continues x is at h e s q = subst (λ d. ComesTo root h at (after_kind (around root n (term_at root x.node)) x.node (shape_at root x.node) x.left x.env x.values d e s)) (sym is) q

    branch_continues : (x : Frame) → x.kind ≡ kind.BranchBody → (at : Spot) (h : List Cell) (e : Ending) (s : State) → Behind h s → ComesTo root h at (continue root n x e s)
    unfolding continue
    branch_continues x is at h e s q = subst (λ d. ComesTo root h at (after_kind (around root n (term_at root x.node)) x.node (shape_at root x.node) x.left x.env x.values d e s)) (sym is)
        (branch_end_law (entering root h x.node at (λ r. Unit {0})) (position (value_at 0 x.values)) e s s q)

    continues_there : (x : Frame) (at : Spot) → Enters root x at → FrameFits anything root x → (h : List Cell) (e : Ending) (s : State) → Behind h s → ComesTo root h at (continue root n x e s)
    continues_there x (Begun k) (own_frame own leads) fits h e s q = leads_come root h k x.node leads (continue root n x e s) (own_continues x fits.meets h e s q)
    continues_there x (Begun k) (entered j is leads call) fits h e s q = body_continues x is (Begun k) h e s q
    continues_there x Any_body (any_body is) fits h e s q = body_continues x is Any_body h e s q
    continues_there x (Body_of k) (body_of is at) fits h e s q = body_continues x is (Body_of k) h e s q
    continues_there x Any_branch (any_branch is) fits h e s q = branch_continues x is Any_branch h e s q
    continues_there x For_executor enters fits h e s q = elim enters [ ]
    continues_there x For_task enters fits h e s q = elim enters [ ]
    continues_there x For_person enters fits h e s q = elim enters [ ]
    continues_there x For_branches enters fits h e s q = elim enters [ ]

    -- Frames that call closures go on so, where what stands inside the last of them does.
    pub unwind_comes : (h : List Cell) (at : Spot) (path : List Frame) → Chained root at path → AllAre (FrameFits anything root) path → CallsClosures root at path → (r : Result) → ComesTo root h (innermost root at path) r → ComesTo root h at (unwind root n path r)
    unfolding unwind
    unwind_comes h at [] chain fits calls r q = q
    unwind_comes h at (x ∷ path) chain fits calls r q =
        comes_through root h at (spot_in root x) x chain.0 (enters_so x at chain.0 fits.0 calls.0) refl (continue root n x) (λ e s b. continues_there x at chain.0 fits.0 h e s b)
        (unwind root n path r) (unwind_comes h (spot_in root x) path chain.1 fits.1 calls.1 r q)
