-- Whole evaluations: from a sound state a node of a script goes to a later sound one, ends with what is there, and waits inside frames
-- that fit; and so does a frame that fits and goes on.
use Rattle.std.proofs.Common.{◌≡◌, ◌<◌, refl, sym, ap, subst, ◌∙◌, ℕ, zero, suc, true, [], length}
use Rattle.model_syntax.specs.declared.node.NodeForm.{NodeForm}
use Rattle.model_syntax.specs.declared.node.NodeForm.TheVariants as form
use Rattle.model_syntax.specs.declared.tree.Tree.{Tree}
use Rattle.model_syntax.specs.Nodes.{Node, node}
use Rattle.model_syntax.specs.TreeNodes.{tree_node}
use Rattle.model_values.specs.Fitting.{There}
use Rattle.model_values.specs.declared.value.Value.{Value}
use Rattle.model_run.specs.declared.frame.Frame.{Frame}
use Rattle.model_run.specs.declared.frame.FrameKind.TheVariants as kind
use Rattle.model_run.specs.declared.ending.Ending.{Ending}
use Rattle.model_run.specs.declared.ending.Entry.{Entry}
use Rattle.model_run.specs.declared.ending.Entry.TheVariants.{First, Inside, On, Turn, Body, Branched}
use Rattle.model_run.specs.Terms.{Term, Numbered, term, number_of, form_of, forms_of, parts_of, part_of, nodes_of, nth_part, term_at}
use Rattle.model_run.specs.State.{Common, State, Env, Result}
use Rattle.model_run.specs.Around.{form_at, frame}
use Rattle.model_run.specs.Forms.{after_kind}
use Rattle.model_run.specs.Meaning.{eval, evals, ev, around, continue}
use Rattle.model_run.specs.Nesting.{MeetsRow, shape_at, part_number, row_at}
use Rattle.model_run.specs.Scoping.{Names, names_around, names_within, names_after, names_at, frame_names}
use Rattle.model_run.specs.Fitting.{EnvFits, holds_executor}
use Rattle.model_run.proofs.Replay.{part_is}
use Rattle.model_run.proofs.Walk.{Again, Call, from}
use Rattle.script_laws.specs.NodeParts.{is_function}
use Rattle.script_laws.proofs.ScriptParts.{part_form}
use Rattle.run_laws.specs.Soundness.{Base, Open, within, inside, Shaped, seen, Sits, At, Holds, Goes}
use Rattle.run_laws.specs.Evaluation.{has_inner, turn_names, EntryFits, ends_as, InsideFits, IsAnswer, Grants, AllOfSite, unopened}
use Rattle.run_laws.proofs.NodeLaws.{Real, shaped as shape_from, real_script, Somewhere, real_at, number_at}
use Rattle.run_laws.proofs.ShapedScripts.{script_shaped}
use Rattle.run_laws.proofs.Sources.{Place, Sources}
use Rattle.run_laws.proofs.Evaluates.{AsPart, AsWhole, CallsGo, function_or, inner_around, function_starts, function_suffixes, node_goes, whole_goes, part_goes}
use Rattle.run_laws.proofs.Flow.{HasGone}
use Rattle.run_laws.proofs.SoundFrames.{node_wait, frame_goes}

-- What is used of a script: each node is found by its number, sees the names that it is told to see, and has the parts that its form
-- asks for.
pub record ScriptFacts (root : Term) : Type 0 where
  pub real : Real root [] root
  pub shaped : Shaped root
  pub zero_first : number_of root ≡ 0
  pub numbers : (k : ℕ) → k < length (nodes_of root) → number_of (term_at root k) ≡ k
  pub forms : (k i : ℕ) → (shape_at root (part_number root k i)).form ≡ form_at (shape_at root k).parts i

first_number : (p : Node) → number_of (term 0 p) ≡ 0
first_number (node f ps) = refl

-- a tree's script
pub tree_facts : (tree : Tree) → ScriptFacts (term 0 (tree_node tree))
tree_facts tree = record { real = real_script (tree_node tree); zero_first = first_number (tree_node tree); shaped = script_shaped tree; numbers = number_at (tree_node tree); forms = part_form (tree_node tree) }

as_part_by : (g : Base) (run run' : Entry → Env → State → Result) (f : NodeForm) (xs : Names) → ((e : Entry) → run e ≡ run' e) → AsPart g run f xs → AsPart g run' f xs
as_part_by g run run' f xs same h = record {
  first = λ u env fit. subst (λ r. Goes g f u (r env)) (same First) (h.first u env fit);
  inner = λ u j env inside fit. subst (λ r. Goes g form.Block u (r env)) (same (Inside j)) (h.inner u j env inside fit);
  suffix = λ u env v there fit. subst (λ r. Goes g form.Block u (r env)) (same (On v)) (h.suffix u env v there fit);
}

abbrev again_by : Term → ℕ → Again
again_by root n t i kept = ev root n (Turn i kept) t

abbrev call_by : Term → ℕ → Call
call_by root n k args = ev root n (Body args) (term_at root k)

-- what node k sees
seen_at : (root : Term) (k : ℕ) (xs : Names) (t : Term) → Real root xs t → number_of t ≡ k → names_at root k ≡ names_around (form_of t) xs
seen_at root k xs (Numbered j f ps) h e = ap (names_at root) (sym e) ∙ h.2

-- a node with less fuel: its further turns, and as it is called
abbrev Wholes : Base → ℕ → Type 0
Wholes g n = (xs : Names) (t : Term) → Real g.script xs t → AsWhole g (λ e. ev g.script n e t) (form_of t) (forms_of (parts_of t)) (names_around (form_of t) xs)

calls_from : (g : Base) (facts : ScriptFacts g.script) (n : ℕ) → ((o : Open) → Wholes (within o g) n) → CallsGo g (call_by g.script n)
calls_from g facts n whole o u k args env fit there =
    let at : Somewhere g.script (term_at g.script k) = real_at g.script facts.real k fit.below in
    (whole o at.sees (term_at g.script k) at.real).body u args env fit.callable (subst (λ ys. EnvFits u.cells ys env) (seen_at g.script k at.sees (term_at g.script k) at.real (facts.numbers k fit.below)) fit.variables) there

ev_whole : (g : Base) (facts : ScriptFacts g.script) (n : ℕ) → Wholes g n
unfolding ev
ev_whole g facts zero xs t h = record { turn = λ u i kept env plain fit q s at. tt; body = λ u args env cl fit there s at. tt; branched = λ u start env cl fit flow s at. tt }
ev_whole g facts (suc n) xs t h = whole_goes g facts.real facts.shaped (again_by g.script n) (call_by g.script n) (λ xs k f ps h. (ev_whole g facts n xs (Numbered k f ps) h).turn) (calls_from g facts n (λ o. ev_whole (within o g) facts n)) xs t h

module _ (g : Base) (facts : ScriptFacts g.script) where
  ev_part : (n : ℕ) (xs : Names) (t : Term) → Real g.script xs t → AsPart g (λ e. ev g.script n e t) (form_of t) xs
  unfolding ev
  ev_part zero xs t h = record { first = λ u env fit s at. tt; inner = λ u j env i fit s at. tt; suffix = λ u env v there fit s at. tt }
  ev_part (suc n) xs t h = node_goes g facts.real facts.shaped (again_by g.script n) (call_by g.script n) (λ xs k f ps h. (ev_whole g facts n xs (Numbered k f ps) h).turn) (calls_from g facts n (λ o. ev_whole (within o g) facts n)) xs t h

  -- part i of a node as a frame of the node meets it
  around_part : (n : ℕ) (xs : Names) (t : Term) → Real g.script xs t → (i : ℕ) → AsPart g (λ e. ev g.script (suc n) e (part_of g.script t i)) (form_at (forms_of (parts_of t)) i) (names_within (form_of t) i (names_after (forms_of (parts_of t)) i (names_around (form_of t) xs)))
  unfolding ev
  around_part n xs (Numbered k f ps) h i =
      as_part_by g (λ e. evals (again_by g.script n) (call_by g.script n) ps i e) (λ e. eval (again_by g.script n) (call_by g.script n) e (nth_part g.script ps i)) (form_at (forms_of ps) i) (names_within f i (names_after (forms_of ps) i (names_around f xs)))
      (part_is g.script (again_by g.script n) (call_by g.script n) ps i) (part_goes g facts.real facts.shaped (again_by g.script n) (call_by g.script n) (λ xs k f ps h. (ev_whole g facts n xs (Numbered k f ps) h).turn) (calls_from g facts n (λ o. ev_whole (within o g) facts n)) xs k f ps h i)

  pub place_at : (k : ℕ) → k < length (nodes_of g.script) → Place g k (shape_at g.script k) (names_at g.script k)
  place_at k lt = record { below = lt; there = refl; sees = refl }

  -- what node k goes on from
  around_sources : (n k : ℕ) (lt : k < length (nodes_of g.script)) → Sources g facts.shaped k (shape_at g.script k) (names_at g.script k) (place_at k lt) (around g.script n (term_at g.script k))
  around_sources n k lt =
      let at : Somewhere g.script (term_at g.script k) = real_at g.script facts.real k lt in
      let sees : names_at g.script k ≡ names_around (form_of (term_at g.script k)) at.sees = seen_at g.script k at.sees (term_at g.script k) at.real (facts.numbers k lt) in
      record {
        part = λ u i env fit. (around_part n at.sees (term_at g.script k) at.real i).first u env (subst (λ ys. EnvFits u.cells (names_within (shape_at g.script k).form i (names_after (shape_at g.script k).parts i ys)) env) sees fit);
        inner = λ u i j env inside fit. (around_part n at.sees (term_at g.script k) at.real i).inner u j env inside (subst (λ ys. EnvFits u.cells (names_within (form_at (shape_at g.script k).parts i) j (names_within (shape_at g.script k).form i (names_after (shape_at g.script k).parts i ys))) env) sees fit);
        suffix = λ u i env v there fit. (around_part n at.sees (term_at g.script k) at.real i).suffix u env v there (subst (λ ys. EnvFits u.cells (names_within (shape_at g.script k).form i (names_after (shape_at g.script k).parts i ys)) env) sees fit);
        again = λ u i kept env plain fit t. (ev_whole g facts n at.sees (term_at g.script k) at.real).turn u i kept env plain (subst (λ ys. EnvFits u.cells (turn_names (shape_at g.script k).form (shape_at g.script k).parts ys) env) sees fit) t;
        call = calls_from g facts n (λ o. ev_whole (within o g) facts n);
      }

  -- A frame that fits goes on soundly, where what stood inside it has ended so.
  pub continue_goes : (n : ℕ) (x : Frame) (u : Common) → Sits g.script u x → HasGone (holds_executor x.kind) g.around.gone → (x.kind ≡ kind.NodeWait → ⊥) → (e : Ending) (s : State) → At (inside x.kind g) u s → InsideFits (shape_at g.script x.node) (row_at g.script x).inside s.world.shared e
      → Holds g (shape_at g.script x.node).form u (continue g.script n x e s)
  unfolding continue
  continue_goes n x u sits some never e s at h =
      frame_goes g facts.real facts.shaped x.node (shape_at g.script x.node) (names_at g.script x.node) (place_at x.node (sits.fits).node) (around g.script n (term_at g.script x.node)) (around_sources n x.node (sits.fits).node)
      x.kind some never x.left x.env x.values u (sits.fits).meets sits.names e s at h

  -- and so does one behind the wait for an executor, where the executor is granted or there is none.
  pub grant_goes : (n : ℕ) (x : Frame) (u : Common) → Sits g.script u x → x.kind ≡ kind.NodeWait → (e : Ending) (s : State) → At (unopened g) u s → IsAnswer s.world.shared e → Grants s.world.shared.held g.around.gone e → AllOfSite g.site s.world.shared.held
      → Holds g (shape_at g.script x.node).form u (continue g.script n x e s)
  unfolding continue
  grant_goes n x u sits is e s at h grants all =
      subst (λ d. Holds g (shape_at g.script x.node).form u (after_kind (around g.script n (term_at g.script x.node)) x.node (shape_at g.script x.node) x.left x.env x.values d e s)) (sym is)
      (node_wait g facts.real facts.shaped x.node (shape_at g.script x.node) (names_at g.script x.node) (place_at x.node (sits.fits).node) (around g.script n (term_at g.script x.node)) (around_sources n x.node (sits.fits).node)
      x.left x.env x.values u (subst (λ d. MeetsRow (seen u) (shape_at g.script x.node) (frame d x.node x.left x.env x.values)) is (sits.fits).meets) (subst (λ d. EnvFits u.cells (frame_names d (shape_at g.script x.node) x.left (names_at g.script x.node)) x.env) is sits.names) e s at h grants all)

  -- a function does nothing as it begins
  function_null : (n : ℕ) (t : Term) → is_function (form_of t) ≡ true → (u : Common) (env : Env) → Goes g (form_of t) u (ev g.script n First t env)
  unfolding ev eval
  function_null zero t e u env = λ s at. tt
  function_null (suc n) (Numbered k f ps) e u env = function_starts g facts.real facts.shaped (from (again_by g.script n) (call_by g.script n) k f ps) k (shape_from f ps) env f e u

  first_goes : (n : ℕ) (xs : Names) (t : Term) → Real g.script xs t → (u : Common) (env : Env) → EnvFits u.cells (names_around (form_of t) xs) env → Goes g (form_of t) u (ev g.script n First t env)
  first_goes n xs t h u env fit = function_or (form_of t) xs (λ e. function_null n t e u env) (λ e. (ev_part n xs t h).first u env (subst (λ ys. EnvFits u.cells ys env) e fit))

  inside_goes : (n : ℕ) (xs : Names) (t : Term) → Real g.script xs t → (u : Common) (j : ℕ) (env : Env) → has_inner (form_of t) ≡ true → EnvFits u.cells (names_within (form_of t) j (names_around (form_of t) xs)) env → Goes g form.Block u (ev g.script n (Inside j) t env)
  inside_goes n xs t h u j env inside fit = (ev_part n xs t h).inner u j env inside (subst (λ ys. EnvFits u.cells (names_within (form_of t) j ys) env) (inner_around (form_of t) xs inside) fit)

  suffix_null : (n : ℕ) (t : Term) → is_function (form_of t) ≡ true → (u : Common) (env : Env) (v : Value) → Goes g form.Block u (ev g.script n (On v) t env)
  unfolding ev eval
  suffix_null zero t e u env v = λ s at. tt
  suffix_null (suc n) (Numbered k f ps) e u env v = function_suffixes g facts.real facts.shaped (from (again_by g.script n) (call_by g.script n) k f ps) k (shape_from f ps) env v f e u

  suffix_goes : (n : ℕ) (xs : Names) (t : Term) → Real g.script xs t → (u : Common) (env : Env) (v : Value) → There u.cells v → EnvFits u.cells (names_around (form_of t) xs) env → Goes g form.Block u (ev g.script n (On v) t env)
  suffix_goes n xs t h u env v there fit = function_or (form_of t) xs (λ e. suffix_null n t e u env v) (λ e. (ev_part n xs t h).suffix u env v there (subst (λ ys. EnvFits u.cells ys env) e fit))

  -- From every entry a node of the script goes to a later sound state, ends with what is there, and waits inside frames that fit.
  pub ev_goes : (n : ℕ) (e : Entry) (k : ℕ) → k < length (nodes_of g.script) → (u : Common) (env : Env) → EntryFits g.script u e k env → Goes g (ends_as e (shape_at g.script k).form) u (ev g.script n e (term_at g.script k) env)
  ev_goes n e k lt u env fit =
      let at : Somewhere g.script (term_at g.script k) = real_at g.script facts.real k lt in
      entered e at (seen_at g.script k at.sees (term_at g.script k) at.real (facts.numbers k lt)) fit
    where
      entered : (e : Entry) (at : Somewhere g.script (term_at g.script k)) → names_at g.script k ≡ names_around (form_of (term_at g.script k)) at.sees → EntryFits g.script u e k env → Goes g (ends_as e (shape_at g.script k).form) u (ev g.script n e (term_at g.script k) env)
      entered First at sees fit = first_goes n at.sees (term_at g.script k) at.real u env (subst (λ ys. EnvFits u.cells ys env) sees fit)
      entered (Inside j) at sees fit = inside_goes n at.sees (term_at g.script k) at.real u j env fit.0 (subst (λ ys. EnvFits u.cells (names_within (shape_at g.script k).form j ys) env) sees fit.1)
      entered (On v) at sees fit = suffix_goes n at.sees (term_at g.script k) at.real u env v fit.0 (subst (λ ys. EnvFits u.cells ys env) sees fit.1)
      entered (Turn i kept) at sees fit = (ev_whole g facts n at.sees (term_at g.script k) at.real).turn u i kept env fit.0 (subst (λ ys. EnvFits u.cells (turn_names (shape_at g.script k).form (shape_at g.script k).parts ys) env) sees fit.1) fit.2
      entered (Body args) at sees fit = (ev_whole g facts n at.sees (term_at g.script k) at.real).body u args env fit.0 (subst (λ ys. EnvFits u.cells ys env) sees fit.1) fit.2
      entered (Branched start) at sees fit = (ev_whole g facts n at.sees (term_at g.script k) at.real).branched u start env fit.0 (subst (λ ys. EnvFits u.cells ys env) sees fit.1) fit.2
