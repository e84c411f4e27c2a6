-- A move keeps what is sound: the state goes to a later sound one, new frames fit, and what is done next names what is there.
use Rattle.std.proofs.Common.{◌≡◌, ◌∙◌, ℕ, suc, ◌+◌, ◌<◌, ◌≤◌, Bool, true, false, length, refl, sym, ap, subst, arith, inl, inr, zero}
use Rattle.std.proofs.lemmas.Bool.{cases_lt}
use Rattle.model_syntax.specs.declared.node.NodeForm.{NodeForm}
use Rattle.model_syntax.specs.declared.node.NodeForm.TheVariants as form
use Rattle.model_run.specs.declared.ending.Entry.{Entry}
use Rattle.model_run.specs.declared.ending.Entry.TheVariants.{First, Inside, On, Turn, Body, Branched}
use Rattle.model_run.specs.Terms.{Term, Terms, Numbered, no_terms, and_then, number_of, form_of, forms_of, parts_of, part_of, nth_part, nodes_of, term_at}
use Rattle.model_run.specs.State.{Common, Env}
use Rattle.model_run.specs.Around.{Around, form_at}
use Rattle.model_run.specs.Forms.{enter}
use Rattle.model_run.specs.FrameTable.{is_declaration}
use Rattle.model_run.specs.Meaning.{shape_of}
use Rattle.model_run.specs.Nesting.{shape_at}
use Rattle.model_run.specs.Scoping.{Names, names_after, names_around, names_at, names_within}
use Rattle.model_run.specs.Fitting.{EnvFits}
use Rattle.script_laws.specs.NodeParts.{is_function}
use Rattle.run_laws.specs.Soundness.{Base, Goes}
use Rattle.run_laws.specs.Evaluation.{has_inner, ends_as}
use Rattle.run_laws.proofs.NodeLaws.{Real, real_part, Somewhere, real_at}
use Rattle.run_laws.proofs.Evaluates.{steps_some, suffixes_go, insides_go, function_starts, function_suffixes}
use Rattle.run_laws.proofs.Evaluation.{ScriptFacts}
use Rattle.run_laws.proofs.Sources.{Place, Sources}
use Rattle.run_laws.proofs.SoundBodies.{body_of_goes, branched_goes}
use Rattle.run_laws.proofs.SoundEntries.{start_goes, again_goes}
use Rattle.cps_frames.specs.Moves.{IsPart, IsOfPart}
use Rattle.cps_frames.specs.Places.{EntersWith}
use Rattle.cps_frames.proofs.Probing.{PartFits, seen_by}

-- what a node sees that is no function
pub sees_around : (f : NodeForm) (xs : Names) → is_function f ≡ false → names_around f xs ≡ xs
sees_around (form.Function x names) xs e = absurd (cc)
sees_around f xs e = refl

inner_is_none : (f : NodeForm) → has_inner f ≡ true → is_function f ≡ false
inner_is_none (form.Function x names) e = absurd (cc)
inner_is_none f e = refl

-- a part by its number
part_real : (root : Term) (ys : Names) (t : Term) → Real root ys t → (i : ℕ) → i < length (forms_of (parts_of t)) → Real root (seen_by (shape_of t) (names_around (form_of t) ys) i) (part_of root t i)
part_real root ys (Numbered k f ps) h i lt =
    let e : 0 + i ≡ i = omega arith in
    subst (λ n. Real root (names_within f n (names_after (forms_of ps) i (names_around f ys))) (nth_part root ps i)) e (real_part root f 0 (names_around f ys) ps h.4 i lt)

real_names : (root : Term) (zs : Names) (t : Term) → Real root zs t → names_at root (number_of t) ≡ names_around (form_of t) zs
real_names root zs (Numbered k f ps) h = h.2

-- a missing part has no number of a node
missing_from : (root : Term) (ps : Terms) (i : ℕ) → length (forms_of ps) ≤ i → number_of (nth_part root ps i) ≡ length (nodes_of root)
missing_from root no_terms i le = refl
missing_from root (and_then t ts) zero le = absurd (omega arith)
missing_from root (and_then t ts) (suc i) le = missing_from root ts i (omega arith)

missing_part : (root t : Term) (i : ℕ) → length (forms_of (parts_of t)) ≤ i → number_of (part_of root t i) ≡ length (nodes_of root)
missing_part root (Numbered k f ps) i le = missing_from root ps i le

module _ (g : Base) (facts : ScriptFacts g.script) where
  form_of_node : ℕ → NodeForm
  form_of_node k = (shape_at g.script k).form

  pub node_here : (k : ℕ) → k < length (nodes_of g.script) → Place g k (shape_at g.script k) (names_at g.script k)
  node_here k lt = record { below = lt; there = refl; sees = refl }

  -- a part sees what its place among the parts sees
  module _ (k i p : ℕ) (part : IsPart g.script k i p) where
    pub number_there : number_of (part_of g.script (term_at g.script k) i) ≡ p
    number_there = ap number_of (sym part.found) ∙ facts.numbers p part.within

    within_arity : i < length (forms_of (parts_of (term_at g.script k)))
    within_arity = elim (cases_lt i (length (forms_of (parts_of (term_at g.script k))))) [
      | inl lt ↦ lt
      | inr le ↦
          let e : number_of (part_of g.script (term_at g.script k) i) ≡ length (nodes_of g.script) = missing_part g.script (term_at g.script k) i le in
          absurd (omega (arith, e, number_there, part.within))
    ]

    pub part_form_is : (shape_at g.script p).form ≡ form_at (shape_at g.script k).parts i
    part_form_is = ap (λ j. (shape_at g.script j).form) (sym number_there) ∙ facts.forms k i

    pub part_sees : is_function (shape_at g.script p).form ≡ false → names_at g.script p ≡ seen_by (shape_at g.script k) (names_at g.script k) i
    part_sees plain =
        let lt : k < length (nodes_of g.script) = (let a : k < p = part.behind in let b : p < length (nodes_of g.script) = part.within in omega (arith, a, b)) in
        let at : Somewhere g.script (term_at g.script k) = real_at g.script facts.real k lt in
        let sees : names_at g.script k ≡ names_around (form_of (term_at g.script k)) at.sees = ap (names_at g.script) (sym (facts.numbers k lt)) ∙ real_names g.script at.sees (term_at g.script k) at.real in
        let real : Real g.script (seen_by (shape_at g.script k) (names_around (form_of (term_at g.script k)) at.sees) i) (term_at g.script p) =
        subst (Real g.script (seen_by (shape_at g.script k) (names_around (form_of (term_at g.script k)) at.sees) i)) (sym part.found) (part_real g.script at.sees (term_at g.script k) at.real i within_arity) in
        ap (names_at g.script) (sym (facts.numbers p part.within))
        ∙ real_names g.script _ (term_at g.script p) real
        ∙ sees_around (form_of (term_at g.script p)) _ plain
        ∙ ap (λ ys. seen_by (shape_at g.script k) ys i) (sym sees)

    -- a part that is begun as it may be is entered with what it asks for
    pub part_entered : (u : Common) (e : Entry) (env : Env) → IsOfPart e → PartFits (shape_at g.script k) (names_at g.script k) u.cells e i env → EntersWith g.script u e p env
    part_entered u First env of fit = λ plain. subst (λ ys. EnvFits u.cells ys env) (sym (part_sees plain)) fit
    part_entered u (Inside j) env of fit =
        let inner : has_inner (shape_at g.script p).form ≡ true = ap has_inner part_form_is ∙ fit.0 in
        let names : names_within (shape_at g.script p).form j (names_at g.script p) ≡ names_within (form_at (shape_at g.script k).parts i) j (seen_by (shape_at g.script k) (names_at g.script k) i) =
        ap (λ f. names_within f j (names_at g.script p)) part_form_is ∙ ap (names_within (form_at (shape_at g.script k).parts i) j) (part_sees (inner_is_none _ inner)) in
        (inner, subst (λ ys. EnvFits u.cells ys env) (sym names) fit.1)
    part_entered u (On v) env of fit = (fit.0, λ plain. subst (λ ys. EnvFits u.cells ys env) (sym (part_sees plain)) fit.1)
    part_entered u (Turn j kept) env of fit = absurd of
    part_entered u (Body args) env of fit = absurd of
    part_entered u (Branched start) env of fit = absurd of

  -- A node goes on soundly from how it is entered, whatever its parts, turns and calls do that is sound.
  module _ (k : ℕ) (lt : k < length (nodes_of g.script)) (a : Around) (src : Sources g facts.shaped k (shape_at g.script k) (names_at g.script k) (node_here k lt) a) where
    first_goes : (b : Bool) → is_function (shape_at g.script k).form ≡ b → (u : Common) (env : Env) → EntersWith g.script u First k env → Goes g (shape_at g.script k).form u (enter First a k (shape_at g.script k) env)
    first_goes true e u env fit = function_starts g facts.real facts.shaped a k (shape_at g.script k) env (shape_at g.script k).form e u
    first_goes false e u env fit =
        start_goes g facts.real facts.shaped k (shape_at g.script k) (names_at g.script k) (node_here k lt) a src (shape_at g.script k).form refl
        (steps_some g facts.real facts.shaped k (shape_at g.script k) (names_at g.script k) (node_here k lt) a src (shape_at g.script k).form refl) u env (fit e)

    suffix_goes_on : (b : Bool) → is_function (shape_at g.script k).form ≡ b → (u : Common) (v : _) (env : Env) → EntersWith g.script u (On v) k env → Goes g form.Block u (enter (On v) a k (shape_at g.script k) env)
    suffix_goes_on true e u v env fit = function_suffixes g facts.real facts.shaped a k (shape_at g.script k) env v (shape_at g.script k).form e u
    suffix_goes_on false e u v env fit =
        suffixes_go g facts.real facts.shaped k (shape_at g.script k) (names_at g.script k) (node_here k lt) a src (shape_at g.script k).form refl u env v fit.0 (fit.1 e) (is_declaration (shape_at g.script k).form) refl

    pub enter_goes : (e : Entry) (u : Common) (env : Env) → EntersWith g.script u e k env → Goes g (ends_as e (shape_at g.script k).form) u (enter e a k (shape_at g.script k) env)
    enter_goes First u env fit = first_goes (is_function (shape_at g.script k).form) refl u env fit
    enter_goes (Inside j) u env fit = insides_go g facts.real facts.shaped k (shape_at g.script k) (names_at g.script k) (node_here k lt) a src u j env fit.0 fit.1
    enter_goes (On v) u env fit = suffix_goes_on (is_function (shape_at g.script k).form) refl u v env fit
    enter_goes (Turn i kept) u env fit = again_goes g facts.real facts.shaped k (shape_at g.script k) (names_at g.script k) (node_here k lt) a src (shape_at g.script k).form refl u env fit.1 i kept fit.2 fit.0
    enter_goes (Body args) u env fit = body_of_goes g facts.shaped k (shape_at g.script k) (names_at g.script k) (node_here k lt) a src (shape_at g.script k).form refl fit.0 u env fit.1 args fit.2
    enter_goes (Branched start) u env fit = branched_goes g facts.shaped k (shape_at g.script k) (names_at g.script k) (node_here k lt) a src (shape_at g.script k).form refl fit.0 u env fit.1 start fit.2
