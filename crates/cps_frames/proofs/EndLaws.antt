-- How what stands inside a frame may end: as a block does, where it is no statement that may declare and no wait; and with no answer,
-- where it is no wait.
use Rattle.std.proofs.Common.{◌≡◌, ◌∙◌, ◌-◌, ℕ, zero, suc, Bool, true, false, List, [], refl, sym, ap, subst}
use Rattle.std.proofs.Math.Bool.{Bool-set}
use Rattle.std.proofs.Math.Logic.{∥∥₁_elim}
use Rattle.model_syntax.specs.TreeNodes.{tree_node}
use Rattle.model_syntax.specs.declared.node.NodeForm.{NodeForm}
use Rattle.model_syntax.specs.declared.node.NodeForm.TheVariants as form
use Rattle.model_syntax.specs.declared.tree.Tree.{Tree}
use Rattle.model_run.specs.Around.{Shape, arity, form_at}
use Rattle.model_run.specs.FrameTable.{Within, Part, Inner, Suffix, Called, Own_body, Executor_wait, Task_wait, Person_wait, Branches_wait, current, frame_row, gathered_within, gathers, has_parts, is_assignment, is_callable, is_chain, is_declaration, is_each, same_form, suffixed_within}
use Rattle.model_run.specs.Nesting.{row_at, shape_at, spot}
use Rattle.model_run.specs.State.{Common, Env, Setting}
use Rattle.model_run.specs.Terms.{Term, term}
use Rattle.model_run.specs.declared.ending.Ending.{Ending}
use Rattle.model_run.specs.declared.ending.Ending.TheVariants.{Normal, Thrown, Returned, Broke, Continued, Declared, Answered}
use Rattle.model_run.specs.declared.frame.Frame.{Frame}
use Rattle.model_run.specs.declared.frame.FrameKind.{FrameKind}
use Rattle.model_run.specs.declared.frame.FrameKind.TheVariants as kind
use Rattle.model_run.proofs.Under.{first_of_both}
use Rattle.run_laws.specs.Evaluation.{InsideFits}
use Rattle.run_laws.specs.Soundness.{Base, EndFits, declares_as, may_declare}
use Rattle.run_laws.proofs.Evaluation.{ScriptFacts, tree_facts}
use Rattle.run_laws.proofs.SortLaws.{sits_by}
use Rattle.cps_frames.specs.Places.{EndsAt, MayGoOn}
use Rattle.cps_frames.specs.Standing.{Standing}
use Rattle.cps_frames.specs.Ways.{is_answer, is_block_ending}
use Rattle.cps_frames.proofs.Kept.{inside_fits}

-- A node that is no declaration ends as a block does.
pub plain_ends : (f : NodeForm) (u : Common) (e : Ending) → is_declaration f ≡ false → EndFits f u e → is_block_ending e ≡ true
plain_ends f u (Normal v) plain h = refl
plain_ends f u (Thrown c) plain h = refl
plain_ends f u (Returned v) plain h = refl
plain_ends f u Broke plain h = refl
plain_ends f u Continued plain h = refl
plain_ends f u (Declared b) plain h = absurd (never f plain b.name h.0)
  where
    never : (f : NodeForm) → is_declaration f ≡ false → (y : List ℕ) → declares_as f y → ⊥
    never (form.Declare x) plain y d = absurd (cc)
    never f plain y d = d
plain_ends f u (Answered x) plain h = absurd h

-- any node ends with no answer
no_answer : (f : NodeForm) (u : Common) (e : Ending) → EndFits f u e → is_answer e ≡ false
no_answer f u (Normal v) h = refl
no_answer f u (Thrown c) h = refl
no_answer f u (Returned v) h = refl
no_answer f u Broke h = refl
no_answer f u Continued h = refl
no_answer f u (Declared b) h = refl
no_answer f u (Answered x) h = absurd h

-- what is no statement that may declare, and no wait
abbrev IsQuiet : Shape → Within → Type 0
IsQuiet sh (Part i) = may_declare sh.form i ≡ false
IsQuiet sh Executor_wait = ⊥
IsQuiet sh Task_wait = ⊥
IsQuiet sh Person_wait = ⊥
IsQuiet sh Branches_wait = ⊥
IsQuiet sh w = Unit {0}

-- the frames inside which such a thing stands: all but those of a statement in a row and of the first one of a `for`, and the waits
abbrev pub is_quiet : FrameKind → Bool
is_quiet kind.Statement = false
is_quiet kind.StepsFirst = false
is_quiet kind.NodeWait = false
is_quiet kind.ShWait = false
is_quiet kind.InputWait = false
is_quiet kind.ParallelWait = false
is_quiet d = true

-- a test that no row of statements and no `for` passes
quiet : (p : NodeForm → Bool) → p form.Script ≡ false → p form.Block ≡ false → p form.ForSteps ≡ false → (f : NodeForm) (i : ℕ) → p f ≡ true → may_declare f i ≡ false
quiet p s b t form.Script i e = absurd (let no : false ≡ true = sym s ∙ e in cc no)
quiet p s b t form.Block i e = absurd (let no : false ≡ true = sym b ∙ e in cc no)
quiet p s b t form.ForSteps i e = absurd (let no : false ≡ true = sym t ∙ e in cc no)
quiet p s b t f i e = refl

steps_quiet : (f : NodeForm) (i : ℕ) → same_form form.ForSteps f ≡ true → may_declare f (suc i) ≡ false
steps_quiet form.ForSteps i e = refl
steps_quiet f i e = absurd (cc e)

gathered_quiet : (sh : Shape) (i : ℕ) (p : NodeForm) → gathers sh.form ≡ true → IsQuiet sh (gathered_within i p)
gathered_quiet sh i (form.NamedEntry t) e = tt
gathered_quiet sh i (form.NumberedEntry z) e = tt
gathered_quiet sh i form.ComputedEntry e = tt
gathered_quiet sh i p e = quiet gathers refl refl refl sh.form i e

suffixed_quiet : (sh : Shape) (i : ℕ) → same_form form.Suffixed sh.form ≡ true → IsQuiet sh (suffixed_within i)
suffixed_quiet sh zero e = quiet (same_form form.Suffixed) refl refl refl sh.form 0 e
suffixed_quiet sh (suc i) e = tt

quiet_inside : (d : FrameKind) (sh : Shape) (left : ℕ) (env : Env) → is_quiet d ≡ true → (frame_row d sh left env).stands ≡ true → IsQuiet sh (frame_row d sh left env).inside
quiet_inside kind.Statement sh left env is e = absurd (cc is)
quiet_inside kind.StepsFirst sh left env is e = absurd (cc is)
quiet_inside kind.NodeWait sh left env is e = absurd (cc is)
quiet_inside kind.ShWait sh left env is e = absurd (cc is)
quiet_inside kind.InputWait sh left env is e = absurd (cc is)
quiet_inside kind.ParallelWait sh left env is e = absurd (cc is)
quiet_inside kind.WhileTest sh left env is e = quiet (same_form form.While) refl refl refl sh.form 0 e
quiet_inside kind.WhileBody sh left env is e = quiet (same_form form.While) refl refl refl sh.form 1 e
quiet_inside kind.StepsTest sh left env is e = steps_quiet sh.form 0 e
quiet_inside kind.StepsNext sh left env is e = steps_quiet sh.form 1 e
quiet_inside kind.StepsBody sh left env is e = steps_quiet sh.form 2 e
quiet_inside kind.EachOver sh left env is e = quiet is_each refl refl refl sh.form 0 e
quiet_inside kind.EachBody sh left env is e = quiet is_each refl refl refl sh.form 1 e
quiet_inside kind.TryBlock sh left env is e = quiet (same_form form.Try) refl refl refl sh.form 0 e
quiet_inside kind.DeclareValue sh left env is e = quiet is_declaration refl refl refl sh.form 0 (first_of_both (is_declaration sh.form) (has_parts sh.parts) e)
quiet_inside kind.AssignValue sh left env is e = quiet is_assignment refl refl refl sh.form 1 e
quiet_inside kind.ReturnValue sh left env is e = quiet (same_form form.Return) refl refl refl sh.form 0 (first_of_both (same_form form.Return sh.form) (has_parts sh.parts) e)
quiet_inside kind.ThrowValue sh left env is e = quiet (same_form form.Throw) refl refl refl sh.form 0 e
quiet_inside kind.Gathered sh left env is e = gathered_quiet sh (current sh left) (form_at sh.parts (current sh left)) (first_of_both (gathers sh.form) _ e)
quiet_inside kind.GroupValue sh left env is e = quiet (same_form form.Group) refl refl refl sh.form 0 e
quiet_inside kind.ChainOperand sh left env is e = quiet is_chain refl refl refl sh.form (current sh left) e
quiet_inside kind.JoinedFirst sh left env is e = quiet (same_form form.Joined) refl refl refl sh.form 0 e
quiet_inside kind.PrefixedOperand sh left env is e = quiet (same_form form.Prefixed) refl refl refl sh.form (arity sh - 1) e
quiet_inside kind.SuffixedPart sh left env is e = suffixed_quiet sh (current sh left) e
quiet_inside kind.IndexValue sh left env is e = quiet (same_form form.Index) refl refl refl sh.form 0 e
quiet_inside kind.CallBody sh left env is e = quiet is_callable refl refl refl sh.form 0 e
quiet_inside d sh left env is e = tt

-- and it ends as a block does
quiet_ends : (root : Term) (facts : ScriptFacts root) (k : ℕ) (w : Within) (u : Common) (e : Ending) → IsQuiet (shape_at root k) w → InsideFits (shape_at root k) w u e → is_block_ending e ≡ true
quiet_ends root facts k (Part i) u e plain h = plain_ends (form_at (shape_at root k).parts i) u e (undeclared (is_declaration (form_at (shape_at root k).parts i)) refl) h
  where
    undeclared : (b : Bool) → is_declaration (form_at (shape_at root k).parts i) ≡ b → is_declaration (form_at (shape_at root k).parts i) ≡ false
    undeclared true is = absurd (let both : false ≡ true = sym plain ∙ (facts.shaped).declares k i is in cc both)
    undeclared false is = is
quiet_ends root facts k (Inner i j) u e plain h = plain_ends form.Block u e refl h
quiet_ends root facts k (Suffix i) u e plain h = plain_ends form.Block u e refl h
quiet_ends root facts k Called u e plain h = plain_ends form.Block u e refl h
quiet_ends root facts k Own_body u e plain h = plain_ends form.Block u e refl h
quiet_ends root facts k Executor_wait u e plain h = absurd plain
quiet_ends root facts k Task_wait u e plain h = absurd plain
quiet_ends root facts k Person_wait u e plain h = absurd plain
quiet_ends root facts k Branches_wait u e plain h = absurd plain

-- a script, with nothing open around it
abbrev base : Setting → Base
base s = record { script = s.script; site = s.site; limits = s.limits; around = record { nodes = []; folders = 0; was = []; gone = [] } }

facts_of : (root : Term) → (tree : Tree) × (root ≡ term 0 (tree_node tree)) → ScriptFacts root
facts_of root s = subst ScriptFacts (sym s.1) (tree_facts s.0)

-- A frame of such a kind goes on with an ending that a block may have.
pub ends_as_block : {u : Standing} {f : Frame} {e : Ending} → MayGoOn u f e → is_quiet f.kind ≡ true → is_block_ending e ≡ true
ends_as_block {u} {f} {e} may is =
    let root = u.world.setting.script in
    ∥∥₁_elim may.script (hlevel (Bool-set)) (λ s.
    let facts : ScriptFacts root = facts_of root s in
    quiet_ends root facts f.node (row_at root f).inside u.world.shared e (quiet_inside f.kind (shape_at root f.node) f.left f.env is may.frame.fits.meets.stands)
    (inside_fits (base u.world.setting) facts f u.world.shared e (sits_by root u.world.shared f may.frame.fits may.frame.names) may.ending))

pub block_inside : {u : Standing} {f : Frame} {e : Ending} {d : FrameKind} → MayGoOn u f e → f.kind ≡ d → is_quiet d ≡ true → is_block_ending e ≡ true
block_inside may is h = ends_as_block may (ap is_quiet is ∙ h)

-- One inside which nothing waits goes on with no answer.
abbrev pub waits : Within → Bool
waits Executor_wait = true
waits Task_wait = true
waits Person_wait = true
waits Branches_wait = true
waits w = false

no_answer_there : (root : Term) (k : ℕ) (w : Within) (u : Common) (e : Ending) → waits w ≡ false → EndsAt root u (spot root k w) e → is_answer e ≡ false
no_answer_there root k (Part i) u e is h = no_answer _ u e h
no_answer_there root k (Inner i j) u e is h = no_answer _ u e h
no_answer_there root k (Suffix i) u e is h = no_answer _ u e h
no_answer_there root k Called u e is h = no_answer form.Block u e h
no_answer_there root k Own_body u e is h = no_answer form.Block u e h
no_answer_there root k Executor_wait u e is h = absurd (cc is)
no_answer_there root k Task_wait u e is h = absurd (cc is)
no_answer_there root k Person_wait u e is h = absurd (cc is)
no_answer_there root k Branches_wait u e is h = absurd (cc is)

pub no_answer_inside : {u : Standing} {f : Frame} {e : Ending} {d : FrameKind} → MayGoOn u f e → f.kind ≡ d → ((sh : Shape) (left : ℕ) (env : Env) → waits (frame_row d sh left env).inside ≡ false) → is_answer e ≡ false
no_answer_inside {u} {f} {e} may is none =
    let root = u.world.setting.script in
    no_answer_there root f.node (row_at root f).inside u.world.shared e (ap (λ k. waits (frame_row k (shape_at root f.node) f.left f.env).inside) is ∙ none (shape_at root f.node) f.left f.env) may.ending
