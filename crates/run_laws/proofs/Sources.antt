-- What a node is evaluated from, where all of it is sound; and the frames of a node.
use Rattle.std.proofs.Common.{arith, ◌≡◌, ◌<◌, refl, sym, ap, subst, ◌∙◌, ℕ, zero, suc, Bool, true, false, List, [], ◌∷◌, length}
use Rattle.std.specs.List.{AllByRecursion as AllAre}
use Rattle.model_syntax.specs.declared.node.NodeForm.{NodeForm}
use Rattle.model_syntax.specs.declared.node.NodeForm.TheVariants as form
use Rattle.model_values.specs.Fitting.{There}
use Rattle.model_values.specs.declared.value.Value.{Value}
use Rattle.model_run.specs.declared.frame.FrameKind.{FrameKind}
use Rattle.model_run.specs.declared.ending.Entry.TheVariants.{First, Inside, On}
use Rattle.model_run.specs.Terms.{nodes_of}
use Rattle.model_run.specs.State.{Common, Env}
use Rattle.model_run.specs.Around.{Around, Shape, form_at, frame}
use Rattle.model_run.specs.FrameTable.{frame_row, is_declaration}
use Rattle.model_run.specs.Nesting.{MeetsRow, ValuesFit, shape_at}
use Rattle.model_run.specs.Scoping.{Names, names_within, names_behind, names_after, names_at, frame_names}
use Rattle.model_run.specs.Fitting.{EnvFits, Later}
pub use Rattle.run_laws.specs.Evaluation.{has_inner, CalleeFits, TurnFits, turn_names}
use Rattle.run_laws.specs.Soundness.{Base, Open, within, Shaped, may_declare, seen, NumbersFit, Sits, Goes}
use Rattle.run_laws.proofs.Flow.{there_then, all_there_then, holds_as}

pub turn_then : (f : NodeForm) (u v : Common) → Later u v → (kept : List Value) → TurnFits f u kept → TurnFits f v kept
turn_then (form.ForEach x) u v l kept h = there_then u v l _ h
turn_then (form.Method access m) u v l kept h = (there_then u v l _ h.0, there_then u v l _ h.1, all_there_then u v l _ h.2)
turn_then f u v l kept h = tt

-- names
pub behind_none : (f : NodeForm) (xs : Names) → is_declaration f ≡ false → names_behind f xs ≡ xs
behind_none (form.Declare x) xs e = absurd (cc)
behind_none f xs e = refl

pub quiet_after : (fs : List NodeForm) (i : ℕ) (xs : Names) → ((j : ℕ) → is_declaration (form_at fs j) ≡ false) → names_after fs i xs ≡ xs
quiet_after fs zero xs h = refl
quiet_after [] (suc i) xs h = refl
quiet_after (f ∷ fs) (suc i) xs h = ap (names_after fs i) (behind_none f xs (h 0)) ∙ quiet_after fs i xs (λ j. h (suc j))

pub after_one_more : (fs : List NodeForm) (i : ℕ) (xs : Names) → i < length fs → names_after fs (suc i) xs ≡ names_behind (form_at fs i) (names_after fs i xs)
after_one_more [] i xs lt = absurd (omega arith)
after_one_more (f ∷ fs) zero xs lt = nothing fs (names_behind f xs)
  where
    nothing : (fs : List NodeForm) (ys : Names) → names_after fs 0 ys ≡ ys
    nothing fs ys = refl
after_one_more (f ∷ fs) (suc i) xs lt = after_one_more fs i (names_behind f xs) (omega arith)

pub not_true : (b : Bool) → (b ≡ true → ⊥) → b ≡ false
not_true true h = absurd (h refl)
not_true false h = refl

-- the node at which all this happens
pub record Place (g : Base) (k : ℕ) (sh : Shape) (xs : Names) : Type 0 where
  pub below : k < length (nodes_of g.script)
  pub there : shape_at g.script k ≡ sh
  pub sees : names_at g.script k ≡ xs

module _ (g : Base) (shaped : Shaped g.script) (k : ℕ) (sh : Shape) (xs : Names) (place : Place g k sh xs) where
  pub record Sources (a : Around) : Type 0 where
    pub part : (u : Common) (i : ℕ) (env : Env) → EnvFits u.cells (names_within sh.form i (names_after sh.parts i xs)) env → Goes g (form_at sh.parts i) u (a.part First i env)
    pub inner : (u : Common) (i j : ℕ) (env : Env) → has_inner (form_at sh.parts i) ≡ true → EnvFits u.cells (names_within (form_at sh.parts i) j (names_within sh.form i (names_after sh.parts i xs))) env → Goes g form.Block u (a.part (Inside j) i env)
    pub suffix : (u : Common) (i : ℕ) (env : Env) (v : Value) → There u.cells v → EnvFits u.cells (names_within sh.form i (names_after sh.parts i xs)) env → Goes g form.Block u (a.part (On v) i env)
    pub again : (u : Common) (i : ℕ) (kept : List Value) (env : Env) → is_declaration sh.form ≡ false → EnvFits u.cells (turn_names sh.form sh.parts xs) env → TurnFits sh.form u kept → Goes g sh.form u (a.again i kept env)
    pub call : (o : Open) (u : Common) (n : ℕ) (args : List Value) (env : Env) → CalleeFits g.script u n env → AllAre (There u.cells) args → Goes (within o g) form.Block u (a.call n args env)

  -- a frame of this node that meets its row, with its variables
  pub sits_here : (u : Common) (d : FrameKind) (left : ℕ) (env : Env) (vs : List Value) → (frame_row d sh left env).stands ≡ true → left < (frame_row d sh left env).limit
      → ValuesFit (seen u) (frame_row d sh left env).further (frame_row d sh left env).values vs → EnvFits u.cells (frame_names d sh left xs) env → NumbersFit d vs → Sits g.script u (frame d k left env vs)
  sits_here u d left env vs stands low values names numbers = record {
    numbers = numbers;
    fits = record { node = place.below; meets = subst (λ s. MeetsRow (seen u) s (frame d k left env vs)) (sym place.there) (record { stands = stands; left = low; values = values }) };
    names = subst (λ ys. EnvFits u.cells ys env) (ap (λ s. frame_names d s left xs) (sym place.there) ∙ ap (frame_names d (shape_at g.script k) left) (sym place.sees)) names;
  }

  pub no_declaration : (i : ℕ) → may_declare sh.form i ≡ false → is_declaration (form_at sh.parts i) ≡ false
  no_declaration i plain = not_true _ (λ e.
      let d : may_declare sh.form i ≡ true = ap (λ s. may_declare s.form i) (sym place.there) ∙ shaped.declares k i (ap (λ s. is_declaration (form_at s.parts i)) place.there ∙ e) in
      absurd (cc))

  -- no part of it is a declaration
  abbrev pub Quiet : Type 0
  Quiet = (i : ℕ) → may_declare sh.form i ≡ false

  pub quiet_part : Quiet → (i : ℕ) → is_declaration (form_at sh.parts i) ≡ false
  quiet_part q i = no_declaration i (q i)

  pub quiet_names : Quiet → (i : ℕ) → names_after sh.parts i xs ≡ xs
  quiet_names q i = quiet_after sh.parts i xs (quiet_part q)

  module _ (a : Around) (src : Sources a) (q : Quiet) (u : Common) (env : Env) (fit : EnvFits u.cells xs env) where
    as_within : (i : ℕ) (ys : Names) → names_within sh.form i xs ≡ ys → names_within sh.form i (names_after sh.parts i xs) ≡ ys
    as_within i ys e = ap (names_within sh.form i) (quiet_names q i) ∙ e

    -- a part of a node none of whose parts declares, and which sees what the node sees
    pub part_goes : (i : ℕ) → names_within sh.form i xs ≡ xs → Goes g form.Block u (a.part First i env)
    part_goes i e s at = holds_as g (form_at sh.parts i) form.Block u _ (quiet_part q i) refl (src.part u i env (subst (λ ys. EnvFits u.cells ys env) (sym (as_within i xs e)) fit) s at)

  -- a part of a part
  pub inner_goes : (a : Around) → Sources a → Quiet → (u : Common) (i j : ℕ) (p : NodeForm) (env : Env) → form_at sh.parts i ≡ p → has_inner p ≡ true → names_within sh.form i xs ≡ xs → EnvFits u.cells (names_within p j xs) env → Goes g form.Block u (a.part (Inside j) i env)
  inner_goes a src q u i j p env e inside w fit =
      let within : names_within sh.form i (names_after sh.parts i xs) ≡ xs = ap (names_within sh.form i) (quiet_names q i) ∙ w in
      let eq : names_within (form_at sh.parts i) j (names_within sh.form i (names_after sh.parts i xs)) ≡ names_within p j xs = ap (λ f. names_within f j (names_within sh.form i (names_after sh.parts i xs))) e ∙ ap (names_within p j) within in
      src.inner u i j env (ap has_inner e ∙ inside) (subst (λ ys. EnvFits u.cells ys env) (sym eq) fit)
