-- Whole evaluations: wherever a node of the script is entered, each wait stands inside frames that are entered so.
use Rattle.std.proofs.Common.{◌≡◌, ◌∙◌, ap, sym, subst, refl, inl, inr, ℕ, zero, suc, true, false, List, []}
use Rattle.model_syntax.specs.declared.node.NodeForm.{NodeForm}
use Rattle.model_syntax.specs.declared.node.NodeForm.TheVariants as form
use Rattle.model_syntax.specs.declared.tree.Access.{Access}
use Rattle.model_values.specs.declared.cell.Cell.{Cell}
use Rattle.model_values.specs.declared.value.Value.{Value}
use Rattle.model_run.specs.declared.frame.Frame.{Frame}
use Rattle.model_run.specs.declared.frame.FrameKind.{FrameKind}
use Rattle.model_run.specs.declared.frame.FrameKind.TheVariants as kind
use Rattle.model_run.specs.declared.step.Step.{Step}
use Rattle.model_run.specs.declared.step.Step.TheVariants as step
use Rattle.model_run.specs.declared.ending.Entry.{Entry}
use Rattle.model_run.specs.declared.ending.Entry.TheVariants.{First, Inside, On, Turn, Body, Branched}
use Rattle.model_run.specs.Terms.{Term, Terms, Numbered, no_terms, and_then, forms_of, number_of, nth_part, part_of, term_at, Found, FoundAll}
use Rattle.model_run.specs.State.{State, Env, Result}
use Rattle.model_run.specs.Around.{Around, Shape, form_at}
use Rattle.model_run.specs.FrameTable.{Within, Part, Inner, Called, frame_row, within, passes, enters_body, is_callable, is_method, calls_step, gathered_within, suffixed_within, current}
use Rattle.model_run.specs.Forms.{start, suffix_on, turn, enter}
use Rattle.model_run.specs.Meaning.{eval, evals, ev, shape_of, around}
use Rattle.model_run.specs.Nesting.{Spot, Begun, Body_of, Any_branch, Leads, itself, through_part, through_inner, CallsByName, shape_at, part_number, spot, Enters, own_frame, entered, body_of, any_branch}
use Rattle.model_run.proofs.CallLaws.{BodiesGo, bodies_law, body_law}
use Rattle.model_run.proofs.Found.{part_found, term_found}
use Rattle.model_run.proofs.FormLaws.{enter_law}
use Rattle.model_run.proofs.Monotone.{again_with, call_with}
use Rattle.model_run.proofs.PathLaws.{entry_spot}
use Rattle.model_run.proofs.Relation.{Relation, OfPart, Agree}
use Rattle.model_run.proofs.Under.{first_of_both}
use Rattle.model_run.proofs.Walk.{Again, Call, from, shaped, closure_called}
use Rattle.call_laws.specs.Entering.{BeginsAt, Behind, ComesTo}
use Rattle.call_laws.proofs.Entries.{own_begins, own_stands, inside_is, comes_as, entering}
use Rattle.call_laws.proofs.Callers.{is_caller, Supplies, call_starts, method_suffixes, method_turns}

-- a node calls a name, or a method, or it does not call
pub caller_or : {C : Type 0} (f : NodeForm) → ((name : List ℕ) → f ≡ form.Call name → C) → ((access : Access) (name : List ℕ) → f ≡ form.Method access name → C) → (is_caller f ≡ false → C) → C
caller_or (form.Call name) p q r = p name refl
caller_or (form.Method access name) p q r = q access name refl
caller_or f p q r = r refl

-- A body of what is called stands inside the frames of callers alone.
method_calls : (f : NodeForm) → is_method f ≡ true → is_caller f ≡ true
method_calls (form.Method access name) e = refl
method_calls f e = absurd (cc)

step_calls : (t : Step) (f : NodeForm) (env : Env) → calls_step t f env ≡ true → is_caller f ≡ true
step_calls t (form.Call name) env e = refl
step_calls t f env e = absurd (cc)

suffix_calls : (i : ℕ) → suffixed_within i ≡ Called → ⊥
suffix_calls zero e = absurd (cc)
suffix_calls (suc i) e = absurd (cc)

gathered_calls : (i : ℕ) (p : NodeForm) → gathered_within i p ≡ Called → ⊥
gathered_calls i (form.NamedEntry t) e = absurd (cc)
gathered_calls i (form.NumberedEntry z) e = absurd (cc)
gathered_calls i form.ComputedEntry e = absurd (cc)
gathered_calls i p e = absurd (cc)

callers_call : (d : FrameKind) (sh : Shape) (left : ℕ) (env : Env) → (frame_row d sh left env).stands ≡ true → (frame_row d sh left env).inside ≡ Called → is_caller sh.form ≡ true
callers_call kind.WalkTurn sh left env stands e = method_calls sh.form (first_of_both _ _ stands)
callers_call kind.StageBody sh left env stands e = step_calls step.Stage sh.form env stands
callers_call kind.CatchErrorBody sh left env stands e = step_calls step.CatchError sh.form env stands
callers_call kind.RetryBody sh left env stands e = step_calls step.Retry sh.form env stands
callers_call kind.NodeBody sh left env stands e = step_calls step.Node sh.form env stands
callers_call kind.DirBody sh left env stands e = step_calls step.Dir sh.form env stands
callers_call kind.WithEnvBody sh left env stands e = step_calls step.WithEnv sh.form env stands
callers_call kind.SuffixedPart sh left env stands e = absurd (suffix_calls (current sh left) e)
callers_call kind.Gathered sh left env stands e = absurd (gathered_calls (current sh left) (form_at sh.parts (current sh left)) e)
callers_call d sh left env stands e = absurd (cc)

-- and callers alone enter one in their place
entering_callers : (f : NodeForm) → enters_body f ≡ true → is_caller f ≡ true
entering_callers (form.Call name) e = refl
entering_callers (form.Method access name) e = refl
entering_callers f e = absurd (cc)

module _ (root : Term) where
  -- what is passed through
  begins_through : (h : List Cell) (k j n : ℕ) → (CallsByName root j → CallsByName root k) → (d : FrameKind) → BeginsAt root h j n d → BeginsAt root h k n d
  begins_through h k j n up kind.CallBody (inl is) = inl is
  begins_through h k j n up kind.CallBody (inr named) = inr (up named)
  begins_through h k j n up d q = tt

  -- a node that is passed through, by a step from k to j
  up_stands : (k j : ℕ) → ((i : ℕ) → Leads root j i → Leads root k i) → (x : Frame) → Enters root x (Begun j) → Enters root x (Begun k)
  up_stands k j up x (own_frame own leads) = own_frame own (up x.node leads)
  up_stands k j up x (entered i is leads call) = entered i is (up i leads) call

  up_comes : (h : List Cell) (k j : ℕ) → ((i : ℕ) → Leads root j i → Leads root k i) → (r : Result) → ComesTo root h (Begun j) r → ComesTo root h (Begun k) r
  up_comes h k j up r q = comes_as root h (Begun j) (Begun k) (λ asked w. w) (up_stands k j up) (λ g later f at. begins_through g k j f.node (λ c. (c.0, up c.0 c.1, c.2)) f.kind at) r q

  passed_up : (h : List Cell) (k : ℕ) (sh : Shape) → shape_at root k ≡ sh → (w : Within) → passes sh w ≡ true → (r : Result) → ComesTo root h (spot root k w) r → ComesTo root h (Begun k) r
  passed_up h k sh there (Part i) pass r q = up_comes h k (part_number root k i) (λ j leads. through_part i (ap (λ x. passes x (Part i)) there ∙ pass) leads) r q
  passed_up h k sh there (Inner i (suc zero)) pass r q = up_comes h k (part_number root (part_number root k i) 1) (λ j leads. through_inner i (ap (λ x. passes x (Inner i 1)) there ∙ pass) leads) r q
  passed_up h k sh there w pass r q = absurd (cc)

  -- a node in the place of another
  leads_on : {k j : ℕ} → Leads root k j → (i : ℕ) → Leads root j i → Leads root k i
  leads_on itself i more = more
  leads_on (through_part p pass leads) i more = through_part p pass (leads_on leads i more)
  leads_on (through_inner p pass leads) i more = through_inner p pass (leads_on leads i more)

  pub leads_come : (h : List Cell) (k j : ℕ) → Leads root k j → (r : Result) → ComesTo root h (Begun j) r → ComesTo root h (Begun k) r
  leads_come h k j leads r q = up_comes h k j (leads_on leads) r q

  -- Nothing is asked of calls where a node does not call.
  module _ (k : ℕ) (sh : Shape) (there : shape_at root k ≡ sh) (a : Around) (src : Supplies root k a) where
    -- one evaluation of this node, behind such cells and from this spot on
    abbrev pub quiet : List Cell → Spot → Relation
    quiet h at = entering root h k at (λ r. Unit {0})

    pub quiet_agree : is_caller sh.form ≡ false → (h : List Cell) → Agree (quiet h (Begun k)) sh k a a
    quiet_agree plain h = record {
      parts = λ e part i env s s' q. src.part h e part i env s q;
      agains = λ i kept env s s' q. src.again h i kept env s q;
      calls = λ n args env s s' q. tt;
      fits = λ f at m. tt;
      stands = λ f at own m. record {
        stands = own_stands root k f at own;
        enters = λ g. own_begins root g k f.node f.kind own;
        inside = inside_is root k sh there f at;
        bodies = λ is. (let c : is_caller sh.form ≡ true = callers_call f.kind sh f.left f.env m.stands is in absurd (cc));
      };
      passed = λ w pass r r' q. passed_up h k sh there w pass r q;
      called = λ enters r r' q. (let c : is_caller sh.form ≡ true = entering_callers sh.form enters in absurd (cc));
    }

    -- the body of a closure or function, which is entered at its own node
    quiet_bodies : (h : List Cell) → is_callable sh.form ≡ true → BodiesGo (quiet h (Body_of k)) sh k a a
    quiet_bodies h callable = bodies_law (quiet h (Body_of k)) sh k a a (λ s s' q. q) (λ s s' q. q)
        (λ f is at m. record {
          stands = body_of is at;
          enters = λ g. at;
          inside = inside_is root k sh there f at ∙ ap (λ d. spot root k (frame_row d sh f.left f.env).inside) is;
          bodies = λ e. absurd (cc);
        })
        (λ f at m. tt) (λ env s s' q. src.part h First tt 0 env s q) callable

  module _ (k : ℕ) (f : NodeForm) (ps : Terms) (found : term_at root k ≡ Numbered k f ps) (a : Around) (src : Supplies root k a) where
    there : shape_at root k ≡ shaped f ps
    there = ap shape_of found

    -- the shape of a node of this form
    shape_is : (g : NodeForm) → f ≡ g → shape_at root k ≡ record { form = g; parts = forms_of ps }
    shape_is g is = there ∙ ap (λ p. record { form = p; parts = forms_of ps }) is

    -- what goes on by the form of this node comes to what stands in its place; and so it does where the form is known
    abbrev CallsAs : List Cell → (NodeForm → State → Result) → Type 0
    CallsAs h go = (s : State) → Behind h s → ComesTo root h (Begun k) (go f s)

    as_form : (h : List Cell) (go : NodeForm → State → Result) (g : NodeForm) → f ≡ g → ((s : State) → Behind h s → ComesTo root h (Begun k) (go g s)) → CallsAs h go
    as_form h go g is law = subst (λ p. (s : State) → Behind h s → ComesTo root h (Begun k) (go p s)) (sym is) law

    -- from its beginning, as a suffix on a value, and in a further turn
    first_comes : (h : List Cell) (env : Env) → CallsAs h (λ g. start a k (record { form = g; parts = forms_of ps }) env g)
    first_comes h env = caller_or f
        (λ name is. as_form h (λ g. start a k (record { form = g; parts = forms_of ps }) env g) (form.Call name) is (λ s q. call_starts root k name (forms_of ps) a src (shape_is (form.Call name) is) env h s s q))
        (λ access name is. as_form h (λ g. start a k (record { form = g; parts = forms_of ps }) env g) (form.Method access name) is (λ s q. q))
        (λ plain s q. enter_law (quiet k (shaped f ps) there a src h (Begun k)) k a a (forms_of ps) First f env (quiet_agree k (shaped f ps) there a src plain h) s s q)

    suffix_comes : (h : List Cell) (env : Env) (v : Value) → CallsAs h (λ g. suffix_on a k (record { form = g; parts = forms_of ps }) env v g)
    suffix_comes h env v = caller_or f
        (λ name is. as_form h (λ g. suffix_on a k (record { form = g; parts = forms_of ps }) env v g) (form.Call name) is (λ s q. q))
        (λ access name is. as_form h (λ g. suffix_on a k (record { form = g; parts = forms_of ps }) env v g) (form.Method access name) is (λ s q. method_suffixes root k access name (forms_of ps) a src (shape_is (form.Method access name) is) env h v s s q))
        (λ plain s q. enter_law (quiet k (shaped f ps) there a src h (Begun k)) k a a (forms_of ps) (On v) f env (quiet_agree k (shaped f ps) there a src plain h) s s q)

    turn_comes : (h : List Cell) (env : Env) (i : ℕ) (kept : List Value) → CallsAs h (λ g. turn a k (record { form = g; parts = forms_of ps }) env i kept g)
    turn_comes h env i kept = caller_or f
        (λ name is. as_form h (λ g. turn a k (record { form = g; parts = forms_of ps }) env i kept g) (form.Call name) is (λ s q. q))
        (λ access name is. as_form h (λ g. turn a k (record { form = g; parts = forms_of ps }) env i kept g) (form.Method access name) is (λ s q. method_turns root k access name (forms_of ps) a src (shape_is (form.Method access name) is) env h i kept s s q))
        (λ plain s q. enter_law (quiet k (shaped f ps) there a src h (Begun k)) k a a (forms_of ps) (Turn i kept) f env (quiet_agree k (shaped f ps) there a src plain h) s s q)

    -- A node, however it is entered.
    pub node_comes : (h : List Cell) (e : Entry) (env : Env) (s : State) → Behind h s → ComesTo root h (entry_spot root e (Numbered k f ps)) (enter e a k (shaped f ps) env s)
    node_comes h First env s q = first_comes h env s q
    node_comes h (Inside i) env s q = subst (λ t. ComesTo root h (Begun (number_of (part_of root t i))) (a.part First i env s)) found (src.part h First tt i env s q)
    node_comes h (On v) env s q = suffix_comes h env v s q
    node_comes h (Turn i kept) env s q = turn_comes h env i kept s q
    node_comes h (Body args) env s q = enter_law (quiet k (shaped f ps) there a src h (Body_of k)) k a a (forms_of ps) (Body args) f env (quiet_bodies k (shaped f ps) there a src h) s s q
    node_comes h (Branched start) env s q = enter_law (quiet k (shaped f ps) there a src h Any_branch) k a a (forms_of ps) (Branched start) f env
        (λ closure. record {
          fits = λ x is at m. tt;
          stands = λ x is at m. record { stands = any_branch is; enters = λ g. tt; inside = inside_is root k (shaped f ps) there x at ∙ ap (λ d. spot root k (frame_row d (shaped f ps) x.left x.env).inside) is; bodies = λ e. absurd (cc) };
          bodies = λ env s s' q. body_law (quiet k (shaped f ps) there a src h (Body_of k)) (shaped f ps) k a a (quiet_bodies k (shaped f ps) there a src h (closure_called f closure)) env [] s s' q;
        }) s s q

  found_self : (t : Term) → Found root t → term_at root (number_of t) ≡ t
  found_self (Numbered k f ps) found = found.0

  -- the node within, as its frame sees it
  comes_there : (h : List Cell) (k : ℕ) (f : NodeForm) (ps : Terms) → Found root (Numbered k f ps) → (x : Entry) → OfPart x → (i : ℕ) (r : Result) → ComesTo root h (entry_spot root x (nth_part root ps i)) r → ComesTo root h (spot root k (within x i)) r
  comes_there h k f ps found First part i r q = subst (λ t. ComesTo root h (Begun (number_of (part_of root t i))) r) (sym found.0) q
  comes_there h k f ps found (On v) part i r q = subst (λ t. ComesTo root h (Begun (number_of (part_of root t i))) r) (sym found.0) q
  comes_there h k f ps found (Inside j) part i r q =
      let e : term_at root (part_number root k i) ≡ nth_part root ps i = ap (λ t. term_at root (number_of (part_of root t i))) found.0 ∙ found_self (nth_part root ps i) (part_found root (Numbered k f ps) i found) in
      subst (λ t. ComesTo root h (Begun (number_of (part_of root t j))) r) (sym e) q
  comes_there h k f ps found (Turn j kept) part i r q = absurd part
  comes_there h k f ps found (Body args) part i r q = absurd part
  comes_there h k f ps found (Branched start) part i r q = absurd part

  -- what is evaluated at a node comes so to what stands where it is entered
  abbrev pub Comes : (Entry → Term → Env → State → Result) → Entry → Term → Type 0
  Comes run e t = (h : List Cell) (env : Env) (s : State) → Behind h s → ComesTo root h (entry_spot root e t) (run e t env s)

  module _ (again : Again) (call : Call) (agains : (t : Term) → Found root t → (i : ℕ) (kept : List Value) → Comes (λ e t env s. again t i kept env s) (Turn i kept) t) (calls : (n : ℕ) (args : List Value) (h : List Cell) (env : Env) (s : State) → Behind h s → ComesTo root h (Body_of n) (call n args env s)) where
    supplies_of : (k : ℕ) (f : NodeForm) (ps : Terms) → Found root (Numbered k f ps) → ((x : Entry) (i : ℕ) (h : List Cell) (env : Env) (s : State) → Behind h s → ComesTo root h (entry_spot root x (nth_part root ps i)) (evals again call ps i x env s)) → Supplies root k (from again call k f ps)
    supplies_of k f ps found parts = record {
      part = λ h x part i env s q. comes_there h k f ps found x part i (evals again call ps i x env s) (parts x i h env s q);
      again = λ h i kept env s q. agains (Numbered k f ps) found i kept h env s q;
      call = λ h n args env s q. calls n args h env s q;
    }

    mutual
      unfolding eval

      pub eval_comes : (e : Entry) (t : Term) → Found root t → Comes (λ e t. eval again call e t) e t
      eval_comes e (Numbered k f ps) found h env s q = node_comes k f ps found.0 (from again call k f ps) (supplies_of k f ps found (λ x i h env s q. evals_come ps found.1 i x h env s q)) h e env s q

      evals_come : (ts : Terms) → FoundAll root ts → (i : ℕ) (e : Entry) (h : List Cell) (env : Env) (s : State) → Behind h s → ComesTo root h (entry_spot root e (nth_part root ts i)) (evals again call ts i e env s)
      evals_come no_terms found i e h env s q = q
      evals_come (and_then t ts) found zero e h env s q = eval_comes e t found.0 h env s q
      evals_come (and_then t ts) found (suc i) e h env s q = evals_come ts found.1 i e h env s q

  -- the number of the node that is called is that with which it is called
  abbrev pub Numbers : Type 0
  Numbers = (n : ℕ) → number_of (term_at root n) ≡ n

  module _ (whole : Found root root) (numbers : Numbers) where
    -- wherever a node of the script is entered
    pub ev_comes : (fuel : ℕ) (e : Entry) (t : Term) → Found root t → Comes (λ e t. ev root fuel e t) e t
    unfolding ev
    ev_comes zero e t found h env s q = tt
    ev_comes (suc n) e t found h env s q =
        eval_comes (again_with root n) (call_with root n) (λ t found i kept h env s q. ev_comes n (Turn i kept) t found h env s q)
        (λ c args h env s q. subst (λ j. ComesTo root h (Body_of j) (ev root n (Body args) (term_at root c) env s)) (numbers c) (ev_comes n (Body args) (term_at root c) (term_found root whole c) h env s q)) e t found h env s q

    -- what a frame goes on from
    pub around_supplies : (n k : ℕ) → Supplies root k (around root n (term_at root k))
    around_supplies n k = record {
      part = λ h x part i env s q. around_part h x part i env s q;
      again = λ h i kept env s q. subst (λ j. ComesTo root h (Begun j) (ev root n (Turn i kept) (term_at root k) env s)) (numbers k) (ev_comes n (Turn i kept) (term_at root k) (term_found root whole k) h env s q);
      call = λ h c args env s q. subst (λ j. ComesTo root h (Body_of j) (ev root n (Body args) (term_at root c) env s)) (numbers c) (ev_comes n (Body args) (term_at root c) (term_found root whole c) h env s q);
    }
      where
        part_of_node : (t : Term) → Found root t → number_of t ≡ k → (h : List Cell) (x : Entry) → OfPart x → (i : ℕ) (r : Result) → ComesTo root h (entry_spot root x (part_of root t i)) r → ComesTo root h (spot root k (within x i)) r
        part_of_node (Numbered j f ps) found at h x part i r q = subst (λ m. ComesTo root h (spot root m (within x i)) r) at (comes_there h j f ps found x part i r q)

        around_part : (h : List Cell) (x : Entry) → OfPart x → (i : ℕ) (env : Env) (s : State) → Behind h s → ComesTo root h (spot root k (within x i)) (ev root (suc n) x (part_of root (term_at root k) i) env s)
        around_part h x part i env s q = part_of_node (term_at root k) (term_found root whole k) (numbers k) h x part i (ev root (suc n) x (part_of root (term_at root k) i) env s) (ev_comes (suc n) x (part_of root (term_at root k) i) (part_found root (term_at root k) i (term_found root whole k)) h env s q)
