-- A node of a script as it is evaluated: sound from a sound state on, where further turns and calls are.
use Rattle.std.proofs.Common.{arith, ◌≡◌, ◌<◌, ◌+◌, refl, sym, ap, subst, ◌∙◌, ℕ, zero, suc, Bool, true, false, List, []}
use Rattle.std.specs.List.{AllByRecursion as AllAre}
use Rattle.model_syntax.specs.declared.node.NodeForm.{NodeForm}
use Rattle.model_syntax.specs.declared.node.NodeForm.TheVariants as form
use Rattle.model_values.specs.Fitting.{There}
use Rattle.model_values.specs.declared.value.Value.{Value}
use Rattle.model_values.specs.declared.value.Value.TheVariants.{Null}
use Rattle.model_run.specs.declared.ending.Entry.{Entry}
use Rattle.model_run.specs.declared.ending.Entry.TheVariants.{First, Inside, On, Turn, Body, Branched}
use Rattle.model_run.specs.Terms.{Term, Terms, Numbered, no_terms, and_then, form_of, forms_of, parts_of}
use Rattle.model_run.specs.State.{Common, Env, Meaning}
use Rattle.model_run.specs.Around.{Around, Shape, form_at, arity, ended}
use Rattle.model_run.specs.FrameTable.{is_declaration, is_callable, is_closure_form, same_form}
use Rattle.model_run.specs.Forms.{start, suffix_on}
use Rattle.model_run.specs.Meaning.{eval, evals}
use Rattle.model_run.specs.Scoping.{Names, names_around, names_within, names_behind, names_after}
use Rattle.model_run.specs.Fitting.{EnvFits, IsFlowNode}
use Rattle.model_run.proofs.Walk.{Again, Call, from}
use Rattle.script_laws.specs.NodeParts.{is_function}
use Rattle.run_laws.specs.Soundness.{Base, Open, within, Shaped, may_declare, Goes}
use Rattle.run_laws.proofs.NodeLaws.{Real, RealAll, shaped as shape_from}
use Rattle.run_laws.proofs.Flow.{holds_as, null_goes}
use Rattle.run_laws.proofs.Sources.{has_inner, CalleeFits, TurnFits, turn_names, quiet_after, Place, Sources, quiet_part}
use Rattle.run_laws.proofs.SoundEntries.{start_goes, suffix_goes, again_goes}
use Rattle.run_laws.proofs.SoundBodies.{body_of_goes, branched_goes}

-- A function sees nothing of what is around it, and as a part it does nothing; every other node sees what is around it.
pub function_or : {C : Type 0} (f : NodeForm) (xs : Names) → (is_function f ≡ true → C) → (names_around f xs ≡ xs → C) → C
function_or (form.Function x names) xs p q = p refl
function_or f xs p q = q refl

pub inner_around : (f : NodeForm) (xs : Names) → has_inner f ≡ true → names_around f xs ≡ xs
inner_around (form.Function x names) xs e = absurd (cc)
inner_around f xs e = refl

pub inner_quiet : (f : NodeForm) → has_inner f ≡ true → (i : ℕ) → may_declare f i ≡ false
inner_quiet form.Script e i = absurd (cc)
inner_quiet form.Block e i = absurd (cc)
inner_quiet form.ForSteps e i = absurd (cc)
inner_quiet f e i = refl

module _ (g : Base) where
  -- A node of this form as a part: from its beginning, by one of its own parts, and as a suffix on a value.
  pub record AsPart (run : Entry → Meaning) (f : NodeForm) (xs : Names) : Type 0 where
    pub first : (u : Common) (env : Env) → EnvFits u.cells xs env → Goes g f u (run First env)
    pub inner : (u : Common) (j : ℕ) (env : Env) → has_inner f ≡ true → EnvFits u.cells (names_within f j xs) env → Goes g form.Block u (run (Inside j) env)
    pub suffix : (u : Common) (env : Env) (v : Value) → There u.cells v → EnvFits u.cells xs env → Goes g form.Block u (run (On v) env)

  -- A node as it goes on, is called, and as a branch; it sees the names xs.
  pub record AsWhole (run : Entry → Meaning) (f : NodeForm) (fs : List NodeForm) (xs : Names) : Type 0 where
    pub turn : (u : Common) (i : ℕ) (kept : List Value) (env : Env) → is_declaration f ≡ false → EnvFits u.cells (turn_names f fs xs) env → TurnFits f u kept → Goes g f u (run (Turn i kept) env)
    pub body : (u : Common) (args : List Value) (env : Env) → is_callable f ≡ true → EnvFits u.cells xs env → AllAre (There u.cells) args → Goes g form.Block u (run (Body args) env)
    pub branched : (u : Common) (start : ℕ) (env : Env) → is_closure_form f ≡ true → EnvFits u.cells xs env → IsFlowNode u.nodes start → Goes g form.Block u (run (Branched start) env)

  -- a part that is missing
  pub nothing_there : (xs : Names) → AsPart (λ e env. ended Null) form.Block xs
  nothing_there xs = record {
    first = λ u env fit. null_goes g form.Block u refl;
    inner = λ u j env h fit. null_goes g form.Block u refl;
    suffix = λ u env v there fit. null_goes g form.Block u refl;
  }

  -- further turns of every node, and the bodies of all that is called
  abbrev pub TurnsGo : Again → Type 0
  TurnsGo again = (xs : Names) (k : ℕ) (f : NodeForm) (ps : Terms) → Real g.script xs (Numbered k f ps) → (u : Common) (i : ℕ) (kept : List Value) (env : Env) → is_declaration f ≡ false → EnvFits u.cells (turn_names f (forms_of ps) (names_around f xs)) env → TurnFits f u kept → Goes g f u (again (Numbered k f ps) i kept env)

  abbrev pub CallsGo : Call → Type 0
  CallsGo call = (o : Open) (u : Common) (n : ℕ) (args : List Value) (env : Env) → CalleeFits g.script u n env → AllAre (There u.cells) args → Goes (within o g) form.Block u (call n args env)

  module _ (real : Real g.script [] g.script) (shaped : Shaped g.script) where
    -- the node, of this form, with what its parts, turns and calls do
    module _ (k : ℕ) (sh : Shape) (xs : Names) (place : Place g k sh xs) (a : Around) (src : Sources g shaped k sh xs place a) where
      pub steps_some : (f : NodeForm) → sh.form ≡ f → same_form form.ForSteps f ≡ true → 0 < arity sh
      steps_some f is e = subst (λ s. 0 < arity s) place.there (shaped.steps k (ap (λ s. same_form form.ForSteps s.form) place.there ∙ ap (same_form form.ForSteps) is ∙ e))

      -- a suffix; a declaration is none
      declaration_suffix : (env : Env) (v : Value) (f : NodeForm) → is_declaration f ≡ true → (u : Common) → Goes g form.Block u (suffix_on a k sh env v f)
      declaration_suffix env v (form.Declare x) e u = null_goes g form.Block u refl
      declaration_suffix env v f e u = absurd (cc)

      pub suffixes_go : (f : NodeForm) → sh.form ≡ f → (u : Common) (env : Env) (v : Value) → There u.cells v → EnvFits u.cells xs env → (b : Bool) → is_declaration f ≡ b → Goes g form.Block u (suffix_on a k sh env v f)
      suffixes_go f is u env v there fit true e = declaration_suffix env v f e u
      suffixes_go f is u env v there fit false e = λ s at. holds_as g sh.form form.Block u (suffix_on a k sh env v f s) (ap is_declaration is ∙ e) refl (suffix_goes g real shaped k sh xs place a src f is u env fit v there (ap is_declaration is ∙ e) s at)

      -- one of its parts, by itself
      pub insides_go : (u : Common) (j : ℕ) (env : Env) → has_inner sh.form ≡ true → EnvFits u.cells (names_within sh.form j xs) env → Goes g form.Block u (a.part First j env)
      insides_go u j env inside fit =
          let quiet : (i : ℕ) → may_declare sh.form i ≡ false = inner_quiet sh.form inside in
          let names : names_after sh.parts j xs ≡ xs = quiet_after sh.parts j xs (quiet_part g shaped k sh xs place quiet) in
          λ s at. holds_as g (form_at sh.parts j) form.Block u _ (quiet_part g shaped k sh xs place quiet j) refl
          (src.part u j env (subst (λ zs. EnvFits u.cells zs env) (sym (ap (names_within sh.form j) names)) fit) s at)

    -- a function does nothing as a part
    pub function_starts : (a : Around) (k : ℕ) (sh : Shape) (env : Env) (f : NodeForm) → is_function f ≡ true → (u : Common) → Goes g f u (start a k sh env f)
    function_starts a k sh env (form.Function x names) e u = null_goes g (form.Function x names) u refl
    function_starts a k sh env f e u = absurd (cc)

    pub function_suffixes : (a : Around) (k : ℕ) (sh : Shape) (env : Env) (v : Value) (f : NodeForm) → is_function f ≡ true → (u : Common) → Goes g form.Block u (suffix_on a k sh env v f)
    function_suffixes a k sh env v (form.Function x names) e u = null_goes g form.Block u refl
    function_suffixes a k sh env v f e u = absurd (cc)

    place_of : (xs : Names) (k : ℕ) (f : NodeForm) (ps : Terms) → Real g.script xs (Numbered k f ps) → Place g k (shape_from f ps) (names_around f xs)
    place_of xs k f ps h = record { below = h.0; there = h.1; sees = h.2 }

    module _ (again : Again) (call : Call) (turns : TurnsGo again) (calls : CallsGo call) where
      from_first : (f : NodeForm) (ys : Names) (ps : Terms) (i : ℕ) → AsPart (λ e. evals again call ps i e) (form_at (forms_of ps) i) (names_within f (0 + i) (names_after (forms_of ps) i ys)) → AsPart (λ e. evals again call ps i e) (form_at (forms_of ps) i) (names_within f i (names_after (forms_of ps) i ys))
      from_first f ys ps i h = let e : 0 + i ≡ i = omega arith in subst (λ m. AsPart (λ e. evals again call ps i e) (form_at (forms_of ps) i) (names_within f m (names_after (forms_of ps) i ys))) e h

      -- what a node does, where its parts are evaluated so
      module _ (xs : Names) (k : ℕ) (f : NodeForm) (ps : Terms) (h : Real g.script xs (Numbered k f ps))
          (parts : (i : ℕ) → AsPart (λ e. evals again call ps i e) (form_at (forms_of ps) i) (names_within f i (names_after (forms_of ps) i (names_around f xs)))) where
        sources_of : Sources g shaped k (shape_from f ps) (names_around f xs) (place_of xs k f ps h) (from again call k f ps)
        sources_of = record {
          part = λ u i env fit. (parts i).first u env fit;
          inner = λ u i j env inside fit. (parts i).inner u j env inside fit;
          suffix = λ u i env v there fit. (parts i).suffix u env v there fit;
          again = λ u i kept env plain fit t. turns xs k f ps h u i kept env plain fit t;
          call = calls;
        }

        seen_around : (u : Common) (env : Env) → names_around f xs ≡ xs → EnvFits u.cells xs env → EnvFits u.cells (names_around f xs) env
        seen_around u env e fit = subst (λ ys. EnvFits u.cells ys env) (sym e) fit

        as_part_of : AsPart (λ e. eval again call e (Numbered k f ps)) f xs
        unfolding eval
        as_part_of = record {
          first = λ u env fit. function_or f xs (λ e. function_starts (from again call k f ps) k (shape_from f ps) env f e u)
              (λ e. start_goes g real shaped k (shape_from f ps) (names_around f xs) (place_of xs k f ps h) (from again call k f ps) sources_of f refl (steps_some k (shape_from f ps) (names_around f xs) (place_of xs k f ps h) (from again call k f ps) sources_of f refl) u env (seen_around u env e fit));
          inner = λ u j env inside fit. insides_go k (shape_from f ps) (names_around f xs) (place_of xs k f ps h) (from again call k f ps) sources_of u j env inside (subst (λ ys. EnvFits u.cells (names_within f j ys) env) (sym (inner_around f xs inside)) fit);
          suffix = λ u env v there fit. function_or f xs (λ e. function_suffixes (from again call k f ps) k (shape_from f ps) env v f e u)
              (λ e. suffixes_go k (shape_from f ps) (names_around f xs) (place_of xs k f ps h) (from again call k f ps) sources_of f refl u env v there (seen_around u env e fit) (is_declaration f) refl);
        }

        as_whole_of : AsWhole (λ e. eval again call e (Numbered k f ps)) f (forms_of ps) (names_around f xs)
        unfolding eval
        as_whole_of = record {
          turn = λ u i kept env plain fit t. again_goes g real shaped k (shape_from f ps) (names_around f xs) (place_of xs k f ps h) (from again call k f ps) sources_of f refl u env fit i kept t plain;
          body = λ u args env cl fit there. body_of_goes g shaped k (shape_from f ps) (names_around f xs) (place_of xs k f ps h) (from again call k f ps) sources_of f refl cl u env fit args there;
          branched = λ u start env cl fit flow. branched_goes g shaped k (shape_from f ps) (names_around f xs) (place_of xs k f ps h) (from again call k f ps) sources_of f refl cl u env fit start flow;
        }

      mutual
        unfolding evals

        pub node_goes : (xs : Names) (t : Term) → Real g.script xs t → AsPart (λ e. eval again call e t) (form_of t) xs
        node_goes xs (Numbered k f ps) h = as_part_of xs k f ps h (λ i. from_first f (names_around f xs) ps i (parts_go f 0 (names_around f xs) ps h.4 i))

        parts_go : (f : NodeForm) (n : ℕ) (ys : Names) (ps : Terms) → RealAll g.script f n ys ps → (i : ℕ) → AsPart (λ e. evals again call ps i e) (form_at (forms_of ps) i) (names_within f (n + i) (names_after (forms_of ps) i ys))
        parts_go f n ys no_terms h i = nothing_there (names_within f (n + i) (names_after [] i ys))
        parts_go f n ys (and_then t ts) h zero = let e : n ≡ n + 0 = omega arith in subst (λ m. AsPart (λ e. eval again call e t) (form_of t) (names_within f m ys)) e (node_goes (names_within f n ys) t h.0)
        parts_go f n ys (and_then t ts) h (suc i) =
            let e : suc n + i ≡ n + suc i = omega arith in
            subst (λ m. AsPart (λ e. evals again call ts i e) (form_at (forms_of ts) i) (names_within f m (names_after (forms_of ts) i (names_behind (form_of t) ys)))) e (parts_go f (suc n) (names_behind (form_of t) ys) ts h.1 i)

      pub whole_goes : (xs : Names) (t : Term) → Real g.script xs t → AsWhole (λ e. eval again call e t) (form_of t) (forms_of (parts_of t)) (names_around (form_of t) xs)
      whole_goes xs (Numbered k f ps) h = as_whole_of xs k f ps h (λ i. from_first f (names_around f xs) ps i (parts_go f 0 (names_around f xs) ps h.4 i))

      -- part i of a node, as evaluation meets it
      pub part_goes : (xs : Names) (k : ℕ) (f : NodeForm) (ps : Terms) → Real g.script xs (Numbered k f ps) → (i : ℕ) → AsPart (λ e. evals again call ps i e) (form_at (forms_of ps) i) (names_within f i (names_after (forms_of ps) i (names_around f xs)))
      part_goes xs k f ps h i = from_first f (names_around f xs) ps i (parts_go f 0 (names_around f xs) ps h.4 i)
