-- Where a move meets a limit, the world is sound that it leaves.
use Rattle.std.proofs.Common.{◌≡◌, ◌∙◌, ◌<◌, ℕ, length, [], ◌∷◌, refl, ap, subst, sym}
use Rattle.model_values.specs.declared.limit.LimitKind.{LimitKind}
use Rattle.model_run.specs.declared.context.Context.{Context}
use Rattle.model_run.specs.declared.ending.Ending.{Ending}
use Rattle.model_run.specs.declared.ending.Ending.TheVariants.{Answered}
use Rattle.model_run.specs.declared.ending.Entry.{Entry}
use Rattle.model_run.specs.declared.frame.Frame.{Frame}
use Rattle.model_run.specs.declared.frame.FrameKind.{FrameKind}
use Rattle.model_run.specs.declared.frame.FrameKind.TheVariants as kind
use Rattle.model_run.specs.Around.{Around}
use Rattle.model_run.specs.Fitting.{holds_executor, holds_folder}
use Rattle.model_run.specs.Forms.{after, enter}
use Rattle.model_run.specs.FrameTable.{Within, Part, Inner, Suffix, Called, Own_body, Executor_wait, Task_wait, Person_wait, Branches_wait, frame_row}
use Rattle.model_run.specs.Meaning.{around, continue, unwind}
use Rattle.model_run.specs.Nesting.{Any_body, Any_branch, Begun, Body_of, For_branches, For_executor, For_person, For_task, Spot, innermost, row_at, shape_at, spot, spot_in}
use Rattle.model_run.specs.Scoping.{names_at}
use Rattle.model_run.specs.State.{Common, Env, Ended, Limited, Setting, State, through}
use Rattle.model_run.specs.Terms.{Term, nodes_of, term_at}
use Rattle.run_laws.specs.Evaluation.{Grants, HoldsAt, IsAnswer, based, ends_as}
use Rattle.run_laws.specs.Soundness.{At, Base, Holds, Open, Same, SoundWorld, in_folder, in_node, open_in, without_all, within}
use Rattle.run_laws.proofs.Evaluation.{ScriptFacts}
use Rattle.run_laws.proofs.Flow.{HasGone, later_self}
use Rattle.run_laws.proofs.FrameForms.{executor_waits}
use Rattle.run_laws.proofs.Resumption.{unwind_goes}
use Rattle.cps_frames.specs.Moves.{Comes, over}
use Rattle.cps_frames.specs.Places.{EndsAt, Poised, granted_by}
use Rattle.cps_frames.specs.Standing.{Standing, state}
use Rattle.cps_frames.specs.declared.thread.Move.TheVariants.{Enter, Ends, Hits}
use Rattle.cps_frames.proofs.Bounds.{sits_loosely}
use Rattle.cps_frames.proofs.Keeping.{enter_goes, node_here}
use Rattle.cps_frames.proofs.Kept.{answers_there}
use Rattle.cps_frames.proofs.MoveLaws.{Saying}
use Rattle.cps_frames.proofs.Opened.{open_here, same_here}
use Rattle.cps_frames.proofs.Poise.{Taken}
use Rattle.cps_frames.proofs.Probing.{probe, probe_sources}

-- what a move says that meets a limit: nothing stands inside new frames then
limit_said : (g : Setting) (k r : ℕ) (says : Saying) (u : Standing) (l : LimitKind) (v : Standing) → u.world.setting ≡ g → Comes k r says u (Hits l) v → (a : Around) → says (shape_at g.script k) a (state u.world []) ≡ Limited l (state v.world [])
limit_said g k r says u l v is c a =
    let said : says (shape_at u.world.setting.script k) a (state u.world []) ≡ Limited l (state v.world []) = c.same a [] ∙ ap (λ fs. over (shape_at u.world.setting.script k) a fs (Limited l (state v.world []))) c.placed in
    subst (λ (s : Setting). says (shape_at s.script k) a (state u.world []) ≡ Limited l (state v.world [])) is said

module _ (g : Base) (facts : ScriptFacts g.script) where
  -- a limit at a spot
  limited_sound : (at : Spot) (u : Common) (k : LimitKind) (s : State) → HoldsAt g at u (Limited k s) → SoundWorld (record { script = g.script; site = g.site; limits = g.limits }) s.world
  limited_sound (Begun j) u k s h = h.sound
  limited_sound Any_body u k s h = h.sound
  limited_sound (Body_of j) u k s h = h.sound
  limited_sound Any_branch u k s h = h.sound
  limited_sound For_executor u k s h = absurd h
  limited_sound For_task u k s h = absurd h
  limited_sound For_person u k s h = absurd h
  limited_sound For_branches u k s h = absurd h

  -- what stood at a spot, but at the wait for an executor
  ended_at : (at : Spot) (e : Ending) (u : Common) (s : State) → (at ≡ For_executor → ⊥) → At g u s → EndsAt g.script s.world.shared at e → HoldsAt g at u (Ended e s)
  ended_at (Begun j) e u s other there h = (there, h)
  ended_at Any_body e u s other there h = (there, h)
  ended_at (Body_of j) e u s other there h = (there, h)
  ended_at Any_branch e u s other there h = (there, h)
  ended_at For_executor e u s other there h = absurd (other refl)
  ended_at For_task e u s other there h = (there, answers_there g facts s.world.shared For_task e h)
  ended_at For_person e u s other there h = (there, answers_there g facts s.world.shared For_person e h)
  ended_at For_branches e u s other there h = (there, answers_there g facts s.world.shared For_branches e h)

-- the spot of a wait for an executor
executor_within : (root : Term) (k : ℕ) (w : Within) → spot root k w ≡ For_executor → w ≡ Executor_wait
executor_within root k Executor_wait e = refl
executor_within root k (Part i) e = absurd (cc e)
executor_within root k (Inner i j) e = absurd (cc e)
executor_within root k (Suffix i) e = absurd (cc e)
executor_within root k Called e = absurd (cc e)
executor_within root k Own_body e = absurd (cc e)
executor_within root k Task_wait e = absurd (cc e)
executor_within root k Person_wait e = absurd (cc e)
executor_within root k Branches_wait e = absurd (cc e)

wait_or : {C : Type 0} (d : FrameKind) → (d ≡ kind.NodeWait → C) → ((d ≡ kind.NodeWait → ⊥) → C) → C
wait_or kind.NodeWait wait other = wait refl
wait_or d wait other = other (λ e. absurd (cc e))

grants : (u : Common) (e : Ending) → IsAnswer u e → Grants u.held (granted_by u.held (Ends e)) e
grants u (Answered x) h = refl
grants u e h = absurd h

module _ (g : Setting) (facts : ScriptFacts g.script) where
  -- a frame goes on, as it does alone in the script
  module _ (above : Context) (outer : Spot) (r : ℕ) (u : Standing) (f : Frame) (e : Ending) (k : LimitKind) (v : Standing) (taken : Taken g facts above outer u f e) (c : Comes f.node r (λ sh a. after f sh a e) u (Hits k) v) where
    alone : unwind g.script 0 (f ∷ []) (Ended e (state u.world [])) ≡ Limited k (state v.world [])
    unfolding unwind continue through
    alone = limit_said g f.node r (λ sh a. after f sh a e) u k v (taken.sound).setting c (around g.script 0 (term_at g.script f.node))

    limited_by : (o : Open) → HasGone (holds_executor f.kind) o.gone → HoldsAt (within (open_in f.kind o) (based g o)) (spot_in g.script f) u.world.shared (Ended e (state u.world [])) → SoundWorld g v.world
    limited_by o some h =
        limited_sound (based g o) facts (innermost g.script outer u.stack) u.world.shared k (state v.world [])
        (subst (HoldsAt (based g o) (innermost g.script outer u.stack) u.world.shared) alone
        (unwind_goes (based g o) facts 0 u.world.shared (f ∷ []) (innermost g.script outer u.stack) (taken.enters, tt) (sits_loosely g.script u.world.shared f taken.frame, tt) (some, tt) (Ended e (state u.world [])) h))

    other_limited : (f.kind ≡ kind.NodeWait → ⊥) → SoundWorld g v.world
    other_limited other =
        limited_by (taken.behind).around (taken.behind).some
        (ended_at (within (open_in f.kind (taken.behind).around) (based g (taken.behind).around)) facts (spot_in g.script f) e u.world.shared (state u.world [])
        (λ at. other (executor_waits f.kind (shape_at g.script f.node) f.left f.env (executor_within g.script f.node (row_at g.script f).inside at)))
        (record { later = later_self u.world.shared; sound = taken.sound; alone = refl; same = (taken.behind).same }) taken.ending)

    -- the wait for an executor, which the answer grants
    module _ (is : f.kind ≡ kind.NodeWait) where
      abbrev granting : Open
      granting = record (taken.behind).around { gone = granted_by u.world.shared.held (Ends e) }

      spot_is : spot_in g.script f ≡ For_executor
      spot_is = ap (λ d. spot g.script f.node (frame_row d (shape_at g.script f.node) f.left f.env).inside) is

      closed : Same (taken.behind).around u.world
      closed =
          let same : Same (in_folder (holds_folder f.kind) (in_node (holds_executor f.kind) (taken.behind).around)) u.world = (taken.behind).same in
          subst (λ d. Same (open_in d (taken.behind).around) u.world) is same

      answered : HoldsAt (within (open_in kind.NodeWait granting) (based g granting)) For_executor u.world.shared (Ended e (state u.world []))
      answered =
          let answer : IsAnswer u.world.shared e = answers_there (based g granting) facts u.world.shared For_executor e (subst (λ x. EndsAt g.script u.world.shared x e) spot_is taken.ending) in
          let none : (taken.behind).around.gone ≡ [] = (taken.behind).none (ap holds_executor is) in (
            record {
              later = later_self u.world.shared;
              sound = taken.sound;
              alone = refl;
              same = record { nodes = closed.nodes; folders = closed.folders; held = closed.held ∙ ap (λ ns. without_all ns (taken.behind).around.was) none };
            },
            answer,
            grants u.world.shared e answer,
            taken.executors,
          )

      wait_limited : SoundWorld g v.world
      wait_limited =
          limited_by granting (subst (λ d. HasGone (holds_executor d) granting.gone) (sym is) tt)
          (subst (λ x. HoldsAt (within (open_in f.kind granting) (based g granting)) x u.world.shared (Ended e (state u.world []))) (sym spot_is)
          (subst (λ d. HoldsAt (within (open_in d granting) (based g granting)) For_executor u.world.shared (Ended e (state u.world []))) (sym is) answered))

  -- Behind a frame that was taken off.
  pub ends_limited : (above : Context) (outer : Spot) (r : ℕ) (u : Standing) (f : Frame) (e : Ending) (k : LimitKind) (v : Standing) → Taken g facts above outer u f e → Comes f.node r (λ sh a. after f sh a e) u (Hits k) v → SoundWorld g v.world
  ends_limited above outer r u f e k v taken c = wait_or f.kind (wait_limited above outer r u f e k v taken c) (other_limited above outer r u f e k v taken c)

  -- Behind a node that was entered.
  pub enters_limited : (above : Context) (outer : Spot) (r : ℕ) (u : Standing) (e : Entry) (k : ℕ) (env : Env) (l : LimitKind) (v : Standing) → Poised g above outer u (Enter e k env) → Comes k r (λ sh a. enter e a k sh env) u (Hits l) v → SoundWorld g v.world
  enters_limited above outer r u e k env l v poised c =
      let lt : k < length (nodes_of g.script) = (poised.move).1 in
      let h : Holds (based g (open_here u.world)) (ends_as e (shape_at g.script k).form) u.world.shared (Limited l (state v.world [])) =
      subst (Holds (based g (open_here u.world)) (ends_as e (shape_at g.script k).form) u.world.shared)
      (limit_said g k r (λ sh a. enter e a k sh env) u l v (poised.sound).setting c (probe g.script (shape_at g.script k) (names_at g.script k)))
      (enter_goes (based g (open_here u.world)) facts k lt (probe g.script (shape_at g.script k) (names_at g.script k))
      (probe_sources (based g (open_here u.world)) facts.shaped k (shape_at g.script k) (names_at g.script k) (node_here (based g (open_here u.world)) facts k lt)) e u.world.shared env (poised.move).2 (state u.world [])
      (record { later = later_self u.world.shared; sound = poised.sound; alone = refl; same = same_here u.world })) in
      h.sound
