-- A move at a node is a move in the whole script.
use Rattle.std.proofs.Common.{◌≡◌, ◌∙◌, ℕ, suc, ◌+◌, ◌≤◌, List, [], ◌∷◌, ◌++◌, refl, ap, subst, sym, arith}
use Rattle.std.specs.List.{AllByRecursion as AllAre}
use Rattle.model_values.specs.declared.limit.LimitKind.{LimitKind}
use Rattle.model_run.specs.declared.ending.Asked.{Asked}
use Rattle.model_run.specs.declared.ending.Ending.{Ending}
use Rattle.model_run.specs.declared.ending.Entry.{Entry}
use Rattle.model_run.specs.declared.ending.Entry.TheVariants.{Body, Turn}
use Rattle.model_run.specs.declared.frame.Frame.{Frame}
use Rattle.model_run.specs.Terms.{Term, Numbered, forms_of, number_of, term_at}
use Rattle.model_run.specs.State.{State, Env, Result, Ended, Waits, Limited, through}
use Rattle.model_run.specs.Forms.{enter, after}
use Rattle.model_run.specs.Meaning.{shape_of, eval, ev, around, continue, unwind}
use Rattle.model_run.specs.Below.{Below}
use Rattle.model_run.proofs.BelowLaws.{same, below_trans, below_through, below_relation}
use Rattle.model_run.proofs.FormLaws.{enter_law}
use Rattle.model_run.proofs.Monotone.{again_with, call_with, plain_below, grows_to}
use Rattle.model_run.proofs.Walk.{from, shaped, plain_entered}
use Rattle.model_run.proofs.Replay.{more_around}
use Rattle.cps_frames.specs.Standing.{Standing, Beside, state, room_of}
use Rattle.cps_frames.specs.Moves.{How, Part, Again, Call, Placed, does, over, IsNew, Comes, forked}
use Rattle.cps_frames.specs.Runs.{move_result, Onward}
use Rattle.cps_frames.specs.declared.thread.Move.{Move}
use Rattle.cps_frames.specs.declared.thread.Move.TheVariants.{Ends, Hits, Enter, Asks}
use Rattle.cps_frames.proofs.MoveLaws.{Saying, beside_here, beside_on}

unwind_append : (root : Term) (n : ℕ) (fs gs : List Frame) (r : Result) → unwind root n (fs ++ gs) r ≡ unwind root n fs (unwind root n gs r)
unfolding unwind
unwind_append root n [] gs r = refl
unwind_append root n (f ∷ fs) gs r = ap (through f (continue root n f)) (unwind_append root n fs gs r)

pub unwind_below : (root : Term) (n : ℕ) (fs : List Frame) (r r' : Result) → Below r r' → Below (unwind root n fs r) (unwind root n fs r')
unfolding unwind
unwind_below root n [] r r' b = b
unwind_below root n (f ∷ fs) r r' b = below_through f _ _ (λ e s. same _ _ refl) _ _ (unwind_below root n fs r r' b)

over_unwinds : (root : Term) (n k : ℕ) (fs : List Frame) → AllAre (IsNew k) fs → (r r' : Result) → Below r r' → Below (over (shape_of (term_at root k)) (around root n (term_at root k)) fs r) (unwind root n fs r')
unfolding unwind continue
over_unwinds root n k [] h r r' b = b
over_unwinds root n k (f ∷ fs) h r r' b =
    let near : after f (shape_of (term_at root k)) (around root n (term_at root k)) ≡ after f (shape_of (term_at root f.node)) (around root n (term_at root f.node)) =
    ap (λ j. after f (shape_of (term_at root j)) (around root n (term_at root j))) (sym h.0) in
    subst (λ go. Below (through f (after f (shape_of (term_at root k)) (around root n (term_at root k))) (over (shape_of (term_at root k)) (around root n (term_at root k)) fs r)) (through f go (unwind root n fs r'))) near
    (below_through f _ _ (λ e s. same _ _ refl) _ _ (over_unwinds root n k fs h.1 r r' b))

does_below : (root : Term) (n k : ℕ) (how : How) (fs : List Frame) (m : Move) (s : State) → Placed root k how fs m → Below (does (around root n (term_at root k)) how m s) (move_result root n m s)
does_below root n k how fs (Ends e) s h = same _ _ refl
does_below root n k how fs (Hits l) s h = same _ _ refl
does_below root n k how fs (Asks asked) s h = same _ _ refl
does_below root n k (Part i) fs (Enter e p env) s h = same _ _ (ap (λ t. ev root (suc n) e t env s) (sym (h.0).found))
does_below root n k Again fs (Enter (Turn i kept) p env) s h =
    subst (λ j. Below (ev root n (Turn i kept) (term_at root k) env s) (ev root (suc n) (Turn i kept) (term_at root j) env s)) (sym h.0)
    (grows_to root n (suc n) (omega arith) (Turn i kept) (term_at root k) env s)
does_below root n k Again fs (Enter e p env) s h = absurd h.1
does_below root n k Call fs (Enter (Body args) p env) s h = grows_to root n (suc n) (omega arith) (Body args) (term_at root p) env s
does_below root n k Call fs (Enter e p env) s h = absurd h

-- a move at node k, in the whole script
comes_law : (root : Term) (n k r : ℕ) (m : Saying) (u : Standing) (move : Move) (v : Standing) → root ≡ u.world.setting.script → Comes k r m u move v → Below (unwind root n u.stack (m (shape_of (term_at root k)) (around root n (term_at root k)) (state u.world []))) (unwind root n v.stack (move_result root n move (state v.world [])))
comes_law root n k r m u move v script c =
    let P : Term → Type 0 = λ t. (Placed t k c.how c.frames move) × (m (shape_of (term_at t k)) (around root n (term_at root k)) (state u.world []) ≡ over (shape_of (term_at t k)) (around root n (term_at root k)) c.frames (does (around root n (term_at root k)) c.how move (state v.world []))) in
    let h : P root = subst P (sym script) (c.placed, c.same (around root n (term_at root k)) []) in
    let inner : Below (m (shape_of (term_at root k)) (around root n (term_at root k)) (state u.world [])) (unwind root n c.frames (move_result root n move (state v.world []))) =
    below_trans _ _ _ (same _ _ h.1) (over_unwinds root n k c.frames c.new _ _ (does_below root n k c.how c.frames move _ h.0)) in
    subst (λ r. Below (unwind root n u.stack (m (shape_of (term_at root k)) (around root n (term_at root k)) (state u.world []))) r)
    (sym (unwind_append root n u.stack c.frames _) ∙ ap (λ fs. unwind root n fs (move_result root n move (state v.world []))) (sym c.pushed))
    (unwind_below root n u.stack _ _ inner)

-- what a node is entered as
enter_is : (root : Term) (n : ℕ) (e : Entry) (t : Term) (env : Env) (s : State) → Below (ev root (suc n) e t env s) (enter e (around root n t) (number_of t) (shape_of t) env s)
unfolding ev eval
enter_is root n e (Numbered k f ps) env s =
    enter_law below_relation k _ _ (forms_of ps) e f env (plain_entered below_relation plain_below (shaped f ps) k (from (again_with root n) (call_with root n) k f ps) (around root n (Numbered k f ps)) (more_around root n n k f ps (omega arith)) e) s s refl

pub onward_here : (root : Term) (u : Standing) (m : Move) → Onward root u m u m
onward_here root u m = record { by = λ n. same _ _ refl; setting = refl; beside = beside_here u; less = omega arith }

pub onward_on : (root : Term) (u : Standing) (m : Move) (v : Standing) (m' : Move) (w : Standing) (m'' : Move) → Onward root u m v m' → Onward root v m' w m'' → Onward root u m w m''
onward_on root u m v m' w m'' a b = record {
  by = λ n. below_trans _ _ _ (a.by n) (b.by n);
  setting = b.setting ∙ a.setting;
  beside = beside_on u v w a.beside b.beside;
  less = (let l : room_of v.world + forked m' ≤ room_of u.world + forked m = a.less in let l' : room_of w.world + forked m'' ≤ room_of v.world + forked m' = b.less in omega (arith, l, l'));
}

-- the innermost frame goes on
pub onward_ends : (root : Term) (r : ℕ) (u u' : Standing) (f : Frame) (e : Ending) (m : Move) (v : Standing) → root ≡ u.world.setting.script → u'.world ≡ u.world → u.stack ≡ u'.stack ++ f ∷ [] → Beside u u' → Comes f.node r (λ sh a. after f sh a e) u' m v → Onward root u (Ends e) v m
unfolding continue unwind through
onward_ends root r u u' f e m v script same_world at beside c = record {
  by = λ n.
      below_trans _ _ _
      (same _ _ (ap (λ fs. unwind root n fs (Ended e (state u.world []))) at ∙ unwind_append root n u'.stack (f ∷ []) (Ended e (state u.world []))
      ∙ ap (λ w. unwind root n u'.stack (continue root n f e (state w []))) (sym same_world)))
      (comes_law root n f.node r (λ sh a. after f sh a e) u' m v (script ∙ ap (λ w. w.setting.script) (sym same_world)) c);
  setting = c.setting ∙ ap (λ w. w.setting) same_world;
  beside = beside_on u u' v beside c.beside;
  less = (let l : room_of v.world + forked m ≤ room_of u'.world = c.less in let w : room_of u'.world ≡ room_of u.world = ap room_of same_world in omega (arith, l, w));
}

-- a node is entered
pub onward_enters : (root : Term) (r : ℕ) (u : Standing) (e : Entry) (k : ℕ) (env : Env) (m : Move) (v : Standing) → root ≡ u.world.setting.script → number_of (term_at root k) ≡ k → Comes k r (λ sh a. enter e a k sh env) u m v → Onward root u (Enter e k env) v m
onward_enters root r u e k env m v script number c = record {
  by = λ n. below_trans _ _ _
      (unwind_below root n u.stack _ _
      (subst (λ j. Below (ev root (suc n) e (term_at root k) env (state u.world [])) (enter e (around root n (term_at root k)) j (shape_of (term_at root k)) env (state u.world []))) number
      (enter_is root n e (term_at root k) env (state u.world []))))
      (comes_law root n k r (λ sh a. enter e a k sh env) u m v script c);
  setting = c.setting;
  beside = c.beside;
  less = (let l : room_of v.world + forked m ≤ room_of u.world = c.less in omega (arith, l));
}

pub unwind_limited : (root : Term) (n : ℕ) (fs : List Frame) (k : LimitKind) (s : State) → unwind root n fs (Limited k s) ≡ Limited k s
unfolding unwind through
unwind_limited root n [] k s = refl
unwind_limited root n (f ∷ fs) k s = ap (through f (continue root n f)) (unwind_limited root n fs k s)

pub unwind_waits : (root : Term) (n : ℕ) (fs p : List Frame) (asked : Asked) (s : State) → unwind root n fs (Waits asked p s) ≡ Waits asked (fs ++ p) s
unfolding unwind through
unwind_waits root n [] p asked s = refl
unwind_waits root n (f ∷ fs) p asked s = ap (through f (continue root n f)) (unwind_waits root n fs p asked s)
