-- From the loop to where the thread stands.
use Rattle.std.proofs.Common.{◌≡◌, ◌∙◌, ℕ, List, [], ◌∷◌, ◌++◌, ap, subst, sym, length}
use Rattle.std.proofs.lemmas.List.{append-nil}
use Rattle.model_run.specs.declared.ending.Ending.TheVariants.{Answered}
use Rattle.model_run.specs.declared.ending.Entry.TheVariants.{First, Branched}
use Rattle.model_run.specs.declared.wait.Answer.{Answer}
use Rattle.model_run.specs.Below.{Below, IsFinished, Small, with_answer}
use Rattle.model_run.specs.Meaning.{ev, fuel, unwind}
use Rattle.model_run.specs.Opened.{Owns}
use Rattle.model_run.specs.State.{Setting, Own, Reply, Env, Ended, Waits}
use Rattle.model_run.specs.Terms.{Term, term_at}
use Rattle.model_run.specs.Threads.{Runs, Script, Closure, stands_from}
use Rattle.model_run.proofs.BelowLaws.{below_trans, same}
use Rattle.model_run.proofs.OwnLaws.{stands_owns}
use Rattle.model_run.proofs.Structure.{enough_fuel, settled, thread_goes_on}
use Rattle.cps_code.specs.Script.{IsScript}
use Rattle.cps_frames.specs.Runs.{move_result}
use Rattle.cps_frames.specs.Standing.{Standing, state}
use Rattle.cps_frames.specs.declared.thread.Move.{Move}
use Rattle.cps_frames.specs.declared.thread.Move.TheVariants.{Ends, Enter}
use Rattle.cps_frames.proofs.Runs.{unwind_limited, unwind_waits}
use Rattle.cps_machine.specs.Resuming.{BeginsAs, ResumesAs, reply, stopping}
use Rattle.cps_machine.specs.Stops.{Stops, last_move, IsOver}
use Rattle.cps_machine.specs.declared.machine.Stopped.{Stopped}
use Rattle.cps_machine.specs.declared.machine.Stopped.TheVariants as stopped
use Rattle.thread_fits.proofs.Facts.{node_of, same_script, script_at}

-- a thread that was given an answer stands somewhere
finished : (setting : Setting) → Small setting → (runs : Runs) (own : Own) (first : Reply) (rs : List Reply) → IsFinished (stands_from setting runs own (first ∷ rs))
finished setting small Script own first rs = enough_fuel setting.script First setting.script [] (record { world = record { setting = setting; shared = first.shared; own = own }; replies = rs }) small
finished setting small (Closure k env start) own first rs = enough_fuel setting.script (Branched start) (term_at setting.script k) env (record { world = record { setting = setting; shared = first.shared; own = own }; replies = rs }) small

-- what the frames make of the last move
stopping_is : (root : Term) (n : ℕ) (stop : Stopped) (v : Standing) → IsOver stop v → unwind root n v.stack (move_result root n (last_move stop) (state v.world [])) ≡ stopping stop v
unfolding unwind
stopping_is root n (stopped.Ended e) v over = ap (λ fs. unwind root n fs (Ended e (state v.world []))) over
stopping_is root n (stopped.Limit k) v over = unwind_limited root n v.stack k (state v.world [])
stopping_is root n (stopped.Waits asked) v over = unwind_waits root n v.stack [] asked (state v.world []) ∙ ap (λ fs. Waits asked fs (state v.world [])) (append-nil v.stack)

pub stops_by : (u : Standing) (first : Move) (stop : Stopped) (v : Standing) → Stops u first stop v → (n : ℕ) → Below (unwind u.world.setting.script n u.stack (move_result u.world.setting.script n first (state u.world []))) (stopping stop v)
stops_by u first stop v h n = below_trans _ _ _ ((h.onward).by n) (same _ _ (stopping_is u.world.setting.script n stop v h.over))

pub resumes_as : (u : Standing) (x : Answer) (stop : Stopped) (v : Standing) → IsScript u.world.setting.script → Small u.world.setting → Stops u (Ends (Answered x)) stop v → ResumesAs u x stop v
resumes_as u x stop v script small h runs own first rs asked s own_is stands =
    let root : Term = u.world.setting.script in
    let setting_is : s.world.setting ≡ u.world.setting = (subst (Owns u.world.setting own.number own.calls) stands (stands_owns u.world.setting runs own first rs)).setting in
    let n : ℕ = fuel (length (rs ++ reply u x ∷ [])) in
    let longer : stands_from u.world.setting runs own (first ∷ (rs ++ reply u x ∷ [])) ≡ with_answer root n (reply u x) (stands_from u.world.setting runs own (first ∷ rs)) =
    thread_goes_on u.world.setting (node_of root) (same_script root script) small runs own first rs (reply u x) in
    let path : with_answer root n (reply u x) (Waits asked u.stack s) ≡ unwind root n u.stack (Ended (Answered x) (state u.world [])) =
    ap (λ g. unwind root n u.stack (Ended (Answered x) (record { world = record { setting = g; shared = u.world.shared; own = s.world.own }; replies = [] }))) setting_is
    ∙ ap (λ o. unwind root n u.stack (Ended (Answered x) (record { world = record { setting = u.world.setting; shared = u.world.shared; own = o }; replies = [] }))) own_is in
    let all : stands_from u.world.setting runs own (first ∷ (rs ++ reply u x ∷ [])) ≡ unwind root n u.stack (Ended (Answered x) (state u.world [])) =
    longer ∙ ap (with_answer root n (reply u x)) stands ∙ path in
    all ∙ settled _ _ (stops_by u (Ends (Answered x)) stop v h n) (subst IsFinished all (finished u.world.setting small runs own first (rs ++ reply u x ∷ [])))

pub begins_script : (u : Standing) (stop : Stopped) (v : Standing) → IsScript u.world.setting.script → Small u.world.setting → u.stack ≡ [] → Stops u (Enter First 0 []) stop v → BeginsAs Script u stop v
unfolding unwind
begins_script u stop v script small none h x =
    let root : Term = u.world.setting.script in
    let all : stands_from u.world.setting Script u.world.own (reply u x ∷ []) ≡ unwind root 2999999 u.stack (ev root 3000000 First (term_at root 0) [] (state u.world [])) =
    ap (λ t. ev root 3000000 First t [] (state u.world [])) (sym (script_at root script))
    ∙ ap (λ fs. unwind root 2999999 fs (ev root 3000000 First (term_at root 0) [] (state u.world []))) (sym none) in
    all ∙ settled _ _ (stops_by u (Enter First 0 []) stop v h 2999999) (subst IsFinished all (finished u.world.setting small Script u.world.own (reply u x) []))

pub begins_branch : (u : Standing) (k : ℕ) (env : Env) (head : ℕ) (stop : Stopped) (v : Standing) → Small u.world.setting → u.stack ≡ [] → Stops u (Enter (Branched head) k env) stop v → BeginsAs (Closure k env head) u stop v
unfolding unwind
begins_branch u k env head stop v small none h x =
    let root : Term = u.world.setting.script in
    let all : stands_from u.world.setting (Closure k env head) u.world.own (reply u x ∷ []) ≡ unwind root 2999999 u.stack (ev root 3000000 (Branched head) (term_at root k) env (state u.world [])) =
    ap (λ fs. unwind root 2999999 fs (ev root 3000000 (Branched head) (term_at root k) env (state u.world []))) (sym none) in
    all ∙ settled _ _ (stops_by u (Enter (Branched head) k env) stop v h 2999999) (subst IsFinished all (finished u.world.setting small (Closure k env head) u.world.own (reply u x) []))
