-- In every world each thread stands soundly: its frames keep values of the sorts that the table tells, with the variables of the
-- script, and what it is about to be given names what is there.
use Rattle.std.proofs.Common.{arith, ◌≡◌, ◌+◌, ◌∙◌, inl, inr, ap, sym, subst, refl, ℕ, zero, suc, Bool, true, false, List, [], ◌∷◌, ◌++◌, map, length, Option, Some, None}
use Rattle.std.specs.Prelude.{nat_eq, nat_lt, not, if◌then◌else◌, fold, slice_get, drop, option_map}
use Rattle.std.proofs.lemmas.Bool.{eqb-true, eqb-false}
use Rattle.std.specs.List.{AllByRecursion as AllAre}
use Rattle.model_syntax.specs.declared.node.NodeForm.{NodeForm}
use Rattle.model_syntax.specs.declared.node.NodeForm.TheVariants as form
use Rattle.model_syntax.specs.declared.tree.Tree.{Tree}
use Rattle.model_syntax.specs.TreeNodes.{tree_node}
use Rattle.model_values.specs.declared.limit.LimitKind.{LimitKind}
use Rattle.model_values.specs.declared.limit.LimitKind.TheVariants.{GreenThreads, LogSize, TextLength}
use Rattle.model_values.specs.declared.value.Outcome.{Outcome}
use Rattle.model_run.specs.LogText.{raw}
use Rattle.model_run.specs.Taking.{request_of}
use Rattle.model_run.specs.declared.wait.Answer.{Answer}
use Rattle.model_run.specs.declared.wait.Answer.TheVariants.{Begin, Granted as GrantedAnswer, Done, Decided as DecidedAnswer, Joined}
use Rattle.model_run.specs.declared.wait.Wait.{Wait}
use Rattle.model_run.specs.declared.wait.Wait.TheVariants.{Ready, Request as RequestWait, Branches as BranchesWait}
use Rattle.model_run.specs.declared.wait.Join.{Join}
use Rattle.model_run.specs.declared.wait.JoinEnd.{JoinEnd}
use Rattle.model_run.specs.declared.event.Event.{Event}
use Rattle.model_run.specs.declared.event.Event.TheVariants.{Start as StartEvent, Granted as GrantedEvent, Output as OutputEvent, Exited as ExitedEvent, Lost as LostEvent, Decided as DecidedEvent}
use Rattle.model_run.specs.declared.event.Stream.{Stream}
use Rattle.model_run.specs.declared.event.Stream.TheVariants.{Log as LogStream, Out as OutStream}
use Rattle.model_run.specs.declared.taken.Taken.{Taken}
use Rattle.model_run.specs.declared.taken.Taken.TheVariants.{Accepted, NotOpen, WrongPlace, Finished}
use Rattle.model_run.specs.declared.held.Held.{Held}
use Rattle.model_run.specs.declared.site.Executor.{Executor}
use Rattle.model_run.specs.declared.site.Site.{Site}
use Rattle.model_run.specs.declared.wait.BranchEnd.{BranchEnd}
use Rattle.model_run.specs.Terms.{Term, term}
use Rattle.model_run.specs.declared.ending.Ending.{Ending}
use Rattle.model_run.specs.declared.ending.Ending.TheVariants.{Normal, Thrown, Returned, Broke, Continued, Declared, Answered}
use Rattle.model_run.specs.declared.ending.Branch.{Branch}
use Rattle.model_run.specs.declared.ending.Asked.{Asked}
use Rattle.model_run.specs.declared.ending.Asked.TheVariants.{ForRequest as For_request, ForBranches as For_branches}
use Rattle.model_run.specs.declared.frame.Frame.{Frame}
use Rattle.model_run.specs.State.{RunLimits, Setting, Common, Own, Reply, State, Result, Ended, Waits, Limited, Unfinished}
use Rattle.model_run.specs.Below.{Small}
use Rattle.model_run.specs.Grants.{executor_of, workspace_number, with_held, without_request as released}
use Rattle.model_run.specs.Threads.{Runs, Script, Closure, Thread, stands, stands_from}
use Rattle.model_run.specs.Opened.{Owns}
use Rattle.model_run.specs.Waiting.{Waiting, IsReady, Stood}
use Rattle.model_run.specs.World.{Build, unbegun, with_thread, without_thread, waits_as, with_head, ready, branch_threads, joins_of, forked, forks, limit_met, join_end, branch_end, and_end, all_ended, joined_wait, joins, join_wait, ends_before, outcome_of, thread_ended, script_ended, stopped_at, asked_by, stopped, given_answer, resumed, Turn, turn_if, first_ready, take_turn, settle, turn_bound, uncounted, changed_by, grant_to, held_as, without_request, thread_of, kept_output, lost_code, with_taken, with_kept, change_request, output, after_event, after_one, answer_to, world_in}
use Rattle.model_run.specs.Scoping.{names_at}
use Rattle.model_values.specs.Fitting.{HasVariable, CellsFit}
use Rattle.model_values.specs.Later.{CellsLater}
use Rattle.model_values.proofs.LaterLaws.{later_itself}
use Rattle.model_run.specs.Nesting.{shape_at, innermost, Nested}
use Rattle.model_run.specs.Fitting.{closure_rule, IsFlowNode, OutcomeFits, EndFits as BranchEnded, Later, seat_at}
use Rattle.model_run.proofs.Front.{front_same}
use Rattle.model_run.proofs.LaterLaws.{env_later}
use Rattle.model_run.proofs.OwnLaws.{stands_owns}
use Rattle.model_run.proofs.PathLaws.{outer_spot}
use Rattle.model_run.proofs.WaitingLaws.{with_all, given_stood, changed_stood, event_stood, world_waits}
use Rattle.model_run.proofs.WorldLaws.{waiting_nested}
use Rattle.run_laws.specs.Bounds.{Narrow, InBounds}
use Rattle.run_laws.proofs.EventBounds.{bounds_uncounted, bounds_closed, bounds_taken, bounds_kept, begun_shared}
use Rattle.run_laws.specs.Soundness.{Base, without_all, Sits, BranchFits, EndFits, SoundWorld, Paused, At, Holds, Stopped}
use Rattle.run_laws.specs.Evaluation.{AnswerThere, HoldsAt, RunsFit, AllOfSite, opened_at, based}
use Rattle.run_laws.specs.Worlds.{SharedSound, EndIf, WaitThere, begun_open, StandsSound, SoundThread}
use Rattle.run_laws.proofs.Flow.{later_self, later_then, node_then}
use Rattle.run_laws.proofs.SoundBranches.{outcome_then}
use Rattle.run_laws.proofs.SoundThreads.{all_sits_then, waits_block, begun_goes, answered_goes}

-- a change beside cells, variables and flow nodes
later_aside : (u v : Common) → v.cells ≡ u.cells → v.nodes ≡ u.nodes → Later u v
later_aside u v c n = record { cells = subst (CellsLater u.cells) (sym c) (later_itself u.cells); nodes = front_same u.nodes v.nodes n }

shared_aside : (g : Setting) (u v : Common) → v.cells ≡ u.cells → v.binding ≡ u.binding → (AllOfSite g.site u.held → AllOfSite g.site v.held) → InBounds false g.site v → SharedSound g false u → SharedSound g false v
shared_aside g u v c d all bounds h = record {
  narrow = h.narrow;
  bounds = bounds;
  cells = subst (CellsFit (closure_rule g.script)) (sym c) h.cells;
  binding = subst (λ cs. AllAre (λ b. HasVariable (slice_get cs b.cell)) v.binding) (sym c) (subst (λ bs. AllAre (λ b. HasVariable (slice_get u.cells b.cell)) bs) (sym d) h.binding);
  held = all h.held;
}

-- executors of the site: some are given back, and one is granted
site_without : (site : Site) (r : ℕ) (held : List Held) → AllOfSite site held → AllOfSite site (released r held)
site_without site r [] h = tt
site_without site r (x ∷ held) h = one (nat_eq x.request r) (site_without site r held h.1)
  where
    one : (b : Bool) → AllOfSite site (released r held) → AllOfSite site (if not b then x ∷ released r held else released r held)
    one true more = more
    one false more = (h.0, more)

site_without_all : (site : Site) (rs : List ℕ) (held : List Held) → AllOfSite site held → AllOfSite site (without_all rs held)
site_without_all site [] held h = h
site_without_all site (r ∷ rs) held h = site_without site r (without_all rs held) (site_without_all site rs held h)

pub some_site : (x : Executor) → Some x ≡ None → ⊥
some_site x e = absurd (cc)

-- what stands behind the front of a list
behind : (ns ms : List ℕ) → drop (length ns) (ns ++ ms) ≡ ms
behind [] ms = refl
behind (n ∷ ns) ms = behind ns ms

behind_all : (ns : List ℕ) → drop (length ns) ns ≡ []
behind_all [] = refl
behind_all (n ∷ ns) = behind_all ns

pub site_with : (site : Site) (x : Held) (held : List Held) → (executor_of site x.executor ≡ None → ⊥) → AllOfSite site held → AllOfSite site (with_held x held)
site_with site x [] is h = (is, tt)
site_with site x (y ∷ held) is h = one (nat_lt x.executor y.executor) (site_with site x held is h.1)
  where
    one : (b : Bool) → AllOfSite site (with_held x held) → AllOfSite site (if b then x ∷ y ∷ held else y ∷ with_held x held)
    one true more = (is, h)
    one false more = (h.0, more)

-- what is there stays there
end_then : (u v : Common) → Later u v → (e : JoinEnd) → BranchEnded u e → BranchEnded v e
end_then u v l e h = (node_then u v l e.node h.0, outcome_then u v l e.outcome h.1)

ends_then : (u v : Common) → Later u v → (ends : List BranchEnd) → AllAre (λ b. BranchEnded u b.end) ends → AllAre (λ b. BranchEnded v b.end) ends
ends_then u v l [] h = tt
ends_then u v l (b ∷ bs) h = (end_then u v l b.end h.0, ends_then u v l bs h.1)

end_if_then : (u v : Common) → Later u v → (o : Option JoinEnd) → EndIf u o → EndIf v o
end_if_then u v l None h = tt
end_if_then u v l (Some e) h = end_then u v l e h

joins_then : (u v : Common) → Later u v → (js : List Join) → AllAre (λ j. EndIf u j.ended) js → AllAre (λ j. EndIf v j.ended) js
joins_then u v l [] h = tt
joins_then u v l (j ∷ js) h = (end_if_then u v l j.ended h.0, joins_then u v l js h.1)

answer_then : (u v : Common) → Later u v → (x : Answer) → AnswerThere u x → AnswerThere v x
answer_then u v l (Joined ends) h = ends_then u v l ends h
answer_then u v l Begin h = tt
answer_then u v l (GrantedAnswer x) h = tt
answer_then u v l (Done code out) h = tt
answer_then u v l (DecidedAnswer proceed name) h = tt

wait_then : (u v : Common) → Later u v → (w : Wait) → WaitThere u w → WaitThere v w
wait_then u v l (Ready x) h = answer_then u v l x h
wait_then u v l (RequestWait r) h = tt
wait_then u v l (BranchesWait js) h = joins_then u v l js h

runs_then : (root : Term) (u v : Common) → Later u v → (runs : Runs) → RunsFit root u runs → RunsFit root v runs
runs_then root u v l Script h = tt
runs_then root u v l (Closure k env start) h = (h.0, ((h.1).0, env_later u v l (names_at root k) env (h.1).1, node_then u v l start (h.1).2))

stands_then : (g : Setting) (own : Own) (u v : Common) → Later u v → (r : Result) → StandsSound g own u r → StandsSound g own v r
stands_then g own u v l (Waits asked path s) h = record { from = h.from; was = h.was; gone = h.gone; waits = h.waits; later = later_then s.world.shared u v h.later l }
stands_then g own u v l (Ended e s) h = tt
stands_then g own u v l (Limited k s) h = tt
stands_then g own u v l Unfinished h = tt

sound_then : (g : Setting) (u v : Common) → Later u v → SharedSound g false v → (t : Thread) → SoundThread g u t → SoundThread g v t
sound_then g u v l shared t h = record { shared = shared; runs = runs_then g.script u v l t.runs h.runs; head = node_then u v l t.own.head h.head; last = node_then u v l t.head h.last; wait = wait_then u v l t.wait h.wait; stood = stands_then g t.own u v l (stands g t) h.stood }

-- the same thread with another wait
with_wait : (g : Setting) (u : Common) (t : Thread) (w : Wait) → WaitThere u w → SoundThread g u t → SoundThread g u (waits_as w t)
with_wait g u t w there h = record { shared = h.shared; runs = h.runs; head = h.head; last = h.last; wait = there; stood = h.stood }

-- branches that have ended
ended_one : (u : Common) (n : ℕ) (e : JoinEnd) → BranchEnded u e → (js : List Join) → AllAre (λ j. EndIf u j.ended) js → AllAre (λ j. EndIf u j.ended) (map (join_end n e) js)
ended_one u n e fits [] h = tt
ended_one u n e fits (j ∷ js) h = (one (nat_eq j.thread n), ended_one u n e fits js h.1)
  where
    one : (b : Bool) → EndIf u (if b then record j { ended = Some e } else j).ended
    one true = fits
    one false = h.0

abbrev EndsIf : Common → Option (List BranchEnd) → Type 0
EndsIf u None = Unit {0}
EndsIf u (Some ends) = AllAre (λ b. BranchEnded u b.end) ends

ends_more : (u : Common) (name : List ℕ) (o : Option JoinEnd) (rest : Option (List BranchEnd)) → EndIf u o → EndsIf u rest → EndsIf u (and_end (option_map (branch_end name) o) rest)
ends_more u name None rest a b = tt
ends_more u name (Some e) None a b = tt
ends_more u name (Some e) (Some es) a b = (a, b)

ends_of : (u : Common) (js : List Join) → AllAre (λ j. EndIf u j.ended) js → EndsIf u (all_ended js)
ends_of u [] h = tt
ends_of u (j ∷ js) h = ends_more u j.name j.ended (all_ended js) h.0 (ends_of u js h.1)

joined_there : (u : Common) (js : List Join) → AllAre (λ j. EndIf u j.ended) js → (o : Option (List BranchEnd)) → EndsIf u o → WaitThere u (joined_wait js o)
joined_there u js h None e = h
joined_there u js h (Some ends) e = e

join_there : (u : Common) (n head : ℕ) (o : Outcome) → IsFlowNode u.nodes head × OutcomeFits u o → (w : Wait) → WaitThere u w → WaitThere u (join_wait n head o w)
join_there u n head o fits (BranchesWait js) h =
    let e : JoinEnd = record { node = head; outcome = o; place = ends_before js } in
    let all : AllAre (λ j. EndIf u j.ended) (map (join_end n (record { node = head; outcome = o; place = ends_before js })) js) = ended_one u n (record { node = head; outcome = o; place = ends_before js }) fits js h in
    joined_there u (map (join_end n (record { node = head; outcome = o; place = ends_before js })) js) all (all_ended (map (join_end n (record { node = head; outcome = o; place = ends_before js })) js)) (ends_of u (map (join_end n (record { node = head; outcome = o; place = ends_before js })) js) all)
join_there u n head o fits (Ready x) h = h
join_there u n head o fits (RequestWait r) h = h

outcome_there : (f : NodeForm) (u : Common) (e : Ending) → EndFits f u e → OutcomeFits u (outcome_of e)
outcome_there f u (Normal v) h = h.0
outcome_there f u (Thrown c) h = h
outcome_there f u (Returned v) h = h
outcome_there f u Broke h = tt
outcome_there f u Continued h = tt
outcome_there f u (Declared b) h = tt
outcome_there f u (Answered x) h = tt

open_joins : (u : Common) (n : ℕ) (bs : List Branch) → AllAre (λ j. EndIf u j.ended) (joins_of n bs)
open_joins u n [] = tt
open_joins u n (b ∷ bs) = (tt, open_joins u (suc n) bs)

pub without_thread_all : (P Q : Thread → Type 0) (n : ℕ) → ((t : Thread) → (t.own.number ≡ n → ⊥) → P t → Q t) → (ts : List Thread) → AllAre P ts → AllAre Q (without_thread n ts)
without_thread_all P Q n other [] h = tt
without_thread_all P Q n other (t ∷ ts) h = one (nat_eq t.own.number n) refl (without_thread_all P Q n other ts h.1)
  where
    one : (b : Bool) → nat_eq t.own.number n ≡ b → AllAre Q (without_thread n ts) → AllAre Q (if not b then t ∷ without_thread n ts else without_thread n ts)
    one true e more = more
    one false e more = (other t (eqb-false _ _ e) h.0, more)

pub all_more : (P : Thread → Type 0) (ts us : List Thread) → AllAre P ts → AllAre P us → AllAre P (ts ++ us)
all_more P [] us h k = k
all_more P (t ∷ ts) us h k = (h.0, all_more P ts us h.1 k)

-- While thread n has its turn: it is this one, and all others are as they were.
pub record Mid (P : Thread → Type 0) (n : ℕ) (t u : Thread) : Type 0 where
  pub mine : u.own.number ≡ n → u ≡ t
  pub others : (u.own.number ≡ n → ⊥) → P u

pub mid_with : (P : Thread → Type 0) (n : ℕ) (t : Thread) (g : Thread → Thread) → ((u : Thread) → (g u).own.number ≡ u.own.number) → (ts : List Thread) → AllAre (Mid P n t) ts → AllAre (Mid P n (g t)) (with_thread g n ts)
mid_with P n t g same ts h = with_all (Mid P n t) (Mid P n (g t)) g n
    (λ u at m. record { mine = λ e. ap g (m.mine at); others = λ never. absurd (never (same u ∙ at)) })
    (λ u never m. record { mine = λ at. absurd (never at); others = m.others }) ts h

pub mid_begins : (P : Thread → Type 0) (t : Thread) (ts : List Thread) → AllAre P ts → AllAre (Mid P t.own.number t) (with_thread (λ old. t) t.own.number ts)
mid_begins P t ts h = with_all P (Mid P t.own.number t) (λ old. t) t.own.number
    (λ u at m. record { mine = λ e. refl; others = λ never. absurd (never refl) })
    (λ u never m. record { mine = λ at. absurd (never at); others = λ x. m }) ts h

pub mid_ends : (P Q : Thread → Type 0) → ((u : Thread) → P u → Q u) → (n : ℕ) (t : Thread) → Q t → (ts : List Thread) → AllAre (Mid P n t) ts → AllAre Q ts
mid_ends P Q up n t q [] h = tt
mid_ends P Q up n t q (u ∷ us) h = (one (nat_eq u.own.number n) refl, mid_ends P Q up n t q us h.1)
  where
    one : (b : Bool) → nat_eq u.own.number n ≡ b → Q u
    one true e = subst Q (sym ((h.0).mine (eqb-true _ _ e))) q
    one false e = up u ((h.0).others (eqb-false _ _ e))

module _ (g : Setting) (tree : Tree) (is : g.script ≡ term 0 (tree_node tree)) (small : Small g) (narrow : Narrow g.limits) where
  abbrev pub AllSound : Build → Type 0
  AllSound b = AllAre (SoundThread g b.shared) b.threads

  new_branches : (u : Common) → SharedSound g false u → (parent : ℕ) (own : Own) (n : ℕ) (bs : List Branch) → AllAre (BranchFits g.script u) bs → AllAre (SoundThread g u) (branch_threads parent own n bs)
  new_branches u shared parent own n [] h = tt
  new_branches u shared parent own n (b ∷ bs) h = (
    record {
      shared = shared;
      runs = (((h.0).closure).0, (((h.0).closure).1, record { names = ((h.0).closure).2; variables = (h.0).variables }, (h.0).head));
      head = (h.0).head;
      last = (h.0).head;
      wait = tt;
      stood = tt;
    },
    new_branches u shared parent own (suc n) bs h.1,
  )

  -- a result of a thread that was given an answer, with its number and with the requests that its own bodies stand for
  pub record Given (u : Common) (t : Thread) (gone : List ℕ) : Type 0 where
    pub stops : HoldsAt (based g (begun_open t.own u.held gone)) (outer_spot t.runs) u (stands g t)
    pub number : Owns g t.own.number t.own.calls (stands g t)
    pub runs : RunsFit g.script u t.runs
    pub head : IsFlowNode u.nodes t.own.head
    pub held : AllOfSite g.site u.held

  -- what a stop says, whatever the thread runs
  pub ended_at : (o : Base) (runs : Runs) (u : Common) (e : Ending) (s : State) → HoldsAt o (outer_spot runs) u (Ended e s) → At o u s × OutcomeFits s.world.shared (outcome_of e)
  ended_at o Script u e s h = (h.0, outcome_there (shape_at o.script 0).form s.world.shared e h.1)
  ended_at o (Closure k env start) u e s h = (h.0, outcome_there form.Block s.world.shared e h.1)

  pub limited_at : (o : Base) (runs : Runs) (u : Common) (k : LimitKind) (s : State) → HoldsAt o (outer_spot runs) u (Limited k s) → Stopped o u s
  limited_at o Script u k s h = h
  limited_at o (Closure j env start) u k s h = h

  shared_of : (s : State) → SoundWorld g s.world → AllOfSite g.site s.world.shared.held → SharedSound g false s.world.shared
  shared_of s sound held = record { narrow = sound.narrow; cells = sound.cells; binding = sound.binding; held = held; bounds = sound.bounds }

  pub shared_paused : (u : Common) (own : Own) (gone : List ℕ) (asked : Asked) (path : List Frame) (s : State) → AllOfSite g.site u.held → Paused (based g (begun_open own u.held gone)) u asked path s → SharedSound g false s.world.shared
  shared_paused u own gone asked path s held p = shared_of s p.sound (subst (AllOfSite g.site) (sym (p.pausing).held) (site_without_all g.site (p.pausing).rest u.held held))

  pub shared_ended : (u : Common) (own : Own) (gone : List ℕ) (s : State) → AllOfSite g.site u.held → At (based g (begun_open own u.held gone)) u s → SharedSound g false s.world.shared
  shared_ended u own gone s held at = shared_of s at.sound (subst (AllOfSite g.site) (sym (at.same).held) (site_without_all g.site gone u.held held))

  -- the thread waits again
  again : (u : Common) (t : Thread) (gone : List ℕ) → Given u t gone → (asked : Asked) (path : List Frame) (s : State) → stands g t ≡ Waits asked path s → Holds (based g (begun_open t.own u.held gone)) form.Block u (Waits asked path s) → (w : Wait) → WaitThere s.world.shared w → SoundThread g s.world.shared (waits_as w (with_head s.world.own.head t))
  again u t gone given asked path s e holds w there = record {
    shared = shared_paused u t.own gone asked path s given.held holds.0;
    runs = runs_then g.script u s.world.shared (holds.0).later t.runs given.runs;
    head = node_then u s.world.shared (holds.0).later t.own.head given.head;
    last = ((holds.0).sound).head;
    wait = there;
    stood = subst (StandsSound g t.own s.world.shared) (sym e) (record { from = u; was = u.held; gone = gone; waits = holds; later = later_self s.world.shared });
  }

  forks_sound : (limits : RunLimits) (n : ℕ) (own : Own) (bs : List Branch) (b : Build) → AllSound (forked n own bs b) → AllSound (forks limits n own bs b)
  forks_sound limits n own bs b h = one (nat_lt limits.threads (length b.threads + length bs))
    where
      one : (x : Bool) → AllSound (if x then limit_met GreenThreads b.shared b else forked n own bs b)
      one true = tt
      one false = h

  module _ (u : Common) (t : Thread) (gone : List ℕ) (given : Given u t gone) where
    abbrev pub At_turn : Base
    At_turn = based g (begun_open t.own u.held gone)

    abbrev pub Others : Thread → Type 0
    Others = SoundThread g u

    -- with its last flow node
    pub headed : (s : State) → s.world.own.number ≡ t.own.number → (b : Build) → AllAre (Mid Others t.own.number t) b.threads → AllAre (Mid Others t.own.number (with_head s.world.own.head t)) (stopped_at s.world b).threads
    headed s number b m = subst (λ n. AllAre (Mid Others t.own.number (with_head s.world.own.head t)) (with_thread (with_head s.world.own.head) n b.threads)) (sym number) (mid_with Others t.own.number t (with_head s.world.own.head) (λ x. refl) b.threads m)

    waiting : (s : State) → s.world.own.number ≡ t.own.number → (w : Wait) → SoundThread g s.world.shared (waits_as w (with_head s.world.own.head t)) → Later u s.world.shared → (ts : List Thread) → AllAre (Mid Others t.own.number (with_head s.world.own.head t)) ts
        → AllAre (SoundThread g s.world.shared) (with_thread (waits_as w) s.world.own.number ts)
    waiting s number w sound later ts m =
        mid_ends Others (SoundThread g s.world.shared) (λ x h. sound_then g u s.world.shared later sound.shared x h) t.own.number (waits_as w (with_head s.world.own.head t)) sound _
        (subst (λ n. AllAre (Mid Others t.own.number (waits_as w (with_head s.world.own.head t))) (with_thread (waits_as w) n ts)) (sym number) (mid_with Others t.own.number (with_head s.world.own.head t) (waits_as w) (λ x. refl) ts m))

    asked_sound : (asked : Asked) (path : List Frame) (s : State) → stands g t ≡ Waits asked path s → Holds At_turn form.Block u (Waits asked path s) → s.world.own.number ≡ t.own.number → (limits : RunLimits) (b : Build) → b.shared ≡ s.world.shared → AllAre (Mid Others t.own.number (with_head s.world.own.head t)) b.threads → AllSound (asked_by limits s.world asked b)
    asked_sound (For_request r) path s e holds number limits b at m =
        subst (λ v. AllAre (SoundThread g v) (with_thread (waits_as (RequestWait r)) s.world.own.number b.threads)) (sym at)
        (waiting s number (RequestWait r) (again u t gone given (For_request r) path s e holds (RequestWait r) tt) (holds.0).later b.threads m)
    asked_sound (For_branches bs) path s e holds number limits b at m =
        forks_sound limits s.world.own.number s.world.own bs b
        (subst (λ v. AllAre (SoundThread g v) (forked s.world.own.number s.world.own bs b).threads) (sym at)
        (all_more (SoundThread g s.world.shared) (with_thread (waits_as (BranchesWait (joins_of b.next_thread bs))) s.world.own.number b.threads) (branch_threads s.world.own.number s.world.own b.next_thread bs)
        (waiting s number (BranchesWait (joins_of b.next_thread bs)) (again u t gone given (For_branches bs) path s e holds (BranchesWait (joins_of b.next_thread bs)) (open_joins s.world.shared b.next_thread bs)) (holds.0).later b.threads m)
        (new_branches s.world.shared (shared_paused u t.own gone (For_branches bs) path s given.held holds.0) s.world.own.number s.world.own b.next_thread bs holds.1)))

    script_sound : (e : Ending) (head : ℕ) (v : Common) (b : Build) → AllSound (script_ended e head v b)
    script_sound (Normal x) head v b = tt
    script_sound (Thrown c) head v b = tt
    script_sound (Returned x) head v b = tt
    script_sound Broke head v b = tt
    script_sound Continued head v b = tt
    script_sound (Declared x) head v b = tt
    script_sound (Answered x) head v b = tt

    ended_sound : (parent : Option ℕ) (e : Ending) (s : State) → At At_turn u s → OutcomeFits s.world.shared (outcome_of e) → (b : Build) → AllAre (Mid Others t.own.number (with_head s.world.own.head t)) (stopped_at s.world b).threads → AllSound (thread_ended parent t.own.number e s.world.own.head s.world.shared (stopped_at s.world b))
    ended_sound None e s at fits b m = script_sound e s.world.own.head s.world.shared (stopped_at s.world b)
    ended_sound (Some p) e s at fits b m =
        with_all (SoundThread g s.world.shared) (SoundThread g s.world.shared) (joins t.own.number s.world.own.head (outcome_of e)) p
        (λ x is h. with_wait g s.world.shared x _ (join_there s.world.shared t.own.number s.world.own.head (outcome_of e) ((at.sound).head, fits) x.wait h.wait) h) (λ x never h. h) _
        (without_thread_all (Mid Others t.own.number (with_head s.world.own.head t)) (SoundThread g s.world.shared) t.own.number (λ x never mid. sound_then g u s.world.shared at.later (shared_ended u t.own gone s given.held at) x (mid.others never)) (stopped_at s.world b).threads m)

    stopped_sound : (r : Result) → stands g t ≡ r → HoldsAt At_turn (outer_spot t.runs) u r → Owns g t.own.number t.own.calls r → (b : Build) → AllAre (Mid Others t.own.number t) b.threads → AllSound (stopped g.limits t.parent t.own.number r b)
    stopped_sound (Ended e s) is1 holds owns b m =
        let x : At At_turn u s × OutcomeFits s.world.shared (outcome_of e) = ended_at At_turn t.runs u e s holds in
        ended_sound t.parent e s x.0 x.1 b (headed s owns.number b m)
    stopped_sound (Waits asked path s) is1 holds owns b m =
        asked_sound asked path s is1 (waits_block At_turn t.runs u asked path s holds) owns.number g.limits (stopped_at s.world b) refl (headed s owns.number b m)
    stopped_sound (Limited k s) is1 holds owns b m = tt
    stopped_sound Unfinished is1 holds owns b m = tt

  -- the requests of a thread's own open bodies, which stand behind those around it
  abbrev pub mine_of : Thread → Result → List ℕ
  mine_of t r = drop (length t.own.context.held) (seat_at t r).context.held

  -- and what an answer opens where it waits
  abbrev pub opens_at : Runs → Result → List Held → Answer → List ℕ
  opens_at runs (Waits asked path s) held x = opened_at (innermost g.script (outer_spot runs) path) held x
  opens_at runs r held x = []

  -- what is open around a thread in its next turn, with the requests of which it may give executors back
  abbrev pub turn_base : Common → Answer → Thread → Base
  turn_base u x t = based g (begun_open t.own u.held (mine_of t (stands g t) ++ opens_at t.runs (stands g t) u.held x))

  turn_gone : (u : Common) (x : Answer) (t : Thread) (r : Result) (gs : List ℕ) → stands g t ≡ r → mine_of t r ++ opens_at t.runs r u.held x ≡ gs → (q : Result) → HoldsAt (based g (begun_open t.own u.held gs)) (outer_spot t.runs) u q → HoldsAt (turn_base u x t) (outer_spot t.runs) u q
  turn_gone u x t r gs is same q h = subst (λ ns. HoldsAt (based g (begun_open t.own u.held ns)) (outer_spot t.runs) u q) (sym (ap (λ y. mine_of t y ++ opens_at t.runs y u.held x) is ∙ same)) h

  -- A thread that is given its answer.
  given_by : (u : Common) (x : Answer) → AnswerThere u x → (t : Thread) → SoundThread g u t → Stood g t → (hs : List Reply) → t.history ≡ hs → HoldsAt (turn_base u x t) (outer_spot t.runs) u (stands g (given_answer u x t))
  given_by u x there t h st [] e =
      turn_gone u x t Unfinished [] (ap (stands_from g t.runs t.own) e) (ap (λ ns. ns ++ []) (behind_all t.own.context.held)) (stands g (given_answer u x t))
      (subst (λ (hs : List Reply). HoldsAt (based g (begun_open t.own u.held [])) (outer_spot t.runs) u (stands_from g t.runs t.own (hs ++ (record { shared = u; answer = x }) ∷ []))) (sym e)
      (begun_goes g tree is t.runs t.own (record { shared = u; answer = x }) h.runs h.shared h.head))
  given_by u x there t h st (first ∷ rs) e = elim st.is [
    | inl new ↦ (let none : first ∷ rs ≡ [] = sym e ∙ new.none in absurd (cc))
    | inr w ↦ (
        let stood : StandsSound g t.own u (Waits w.asked w.path w.state) = subst (StandsSound g t.own u) w.stands_so h.stood in
        let from : stands_from g t.runs t.own (first ∷ rs) ≡ Waits w.asked w.path w.state = sym (ap (stands_from g t.runs t.own) e) ∙ w.stands_so in
        turn_gone u x t (Waits w.asked w.path w.state) ((((stood.waits).0).pausing).own ++ opened_at (innermost g.script (outer_spot t.runs) w.path) u.held x) w.stands_so
        (ap (λ ns. ns ++ opened_at (innermost g.script (outer_spot t.runs) w.path) u.held x) (ap (drop (length t.own.context.held)) (((stood.waits).0).pausing).nodes ∙ behind t.own.context.held (((stood.waits).0).pausing).own)) (stands g (given_answer u x t))
        (subst (λ (hs : List Reply). HoldsAt (based g (begun_open t.own u.held ((((stood.waits).0).pausing).own ++ opened_at (innermost g.script (outer_spot t.runs) w.path) u.held x))) (outer_spot t.runs) u (stands_from g t.runs t.own (hs ++ (record { shared = u; answer = x }) ∷ []))) (sym e)
        (answered_goes g tree is small t.runs t.own first rs (record { shared = u; answer = x }) (begun_open t.own stood.was stood.gone) stood.from w.asked w.path w.state from stood.waits
        (record { later = stood.later; narrow = (h.shared).narrow; cells = (h.shared).cells; binding = (h.shared).binding; bounds = (h.shared).bounds; answer = there }) (h.shared).held)))
  ]

  pub given_runs : (u : Common) (x : Answer) → AnswerThere u x → (t : Thread) → SoundThread g u t → Stood g t → HoldsAt (turn_base u x t) (outer_spot t.runs) u (stands g (given_answer u x t))
  given_runs u x there t h st = given_by u x there t h st t.history refl

  given_owns : (u : Common) (x : Answer) (t : Thread) (hs : List Reply) → t.history ≡ hs → Owns g t.own.number t.own.calls (stands g (given_answer u x t))
  given_owns u x t [] e = subst (λ (hs : List Reply). Owns g t.own.number t.own.calls (stands_from g t.runs t.own (hs ++ (record { shared = u; answer = x }) ∷ []))) (sym e) (stands_owns g t.runs t.own (record { shared = u; answer = x }) [])
  given_owns u x t (first ∷ rs) e = subst (λ (hs : List Reply). Owns g t.own.number t.own.calls (stands_from g t.runs t.own (hs ++ (record { shared = u; answer = x }) ∷ []))) (sym e) (stands_owns g t.runs t.own first (rs ++ (record { shared = u; answer = x }) ∷ []))

  -- the requests of which a thread may give executors back in its next turn
  abbrev pub turn_requests : Common → Answer → Thread → List ℕ
  turn_requests u x t = mine_of t (stands g t) ++ opens_at t.runs (stands g t) u.held x

  pub given_of : (u : Common) (x : Answer) (t : Thread) → AnswerThere u x → SoundThread g u t → Stood g t → Given u (given_answer u x t) (turn_requests u x t)
  given_of u x t there h st = record { stops = given_runs u x there t h st; number = given_owns u x t t.history refl; runs = h.runs; head = h.head; held = (h.shared).held }

  pub resumed_sound : (b : Build) (x : Answer) (t : Thread) → AnswerThere b.shared x → SoundThread g b.shared t → Stood g t → AllSound b → AllSound (resumed g (given_answer b.shared x t) b)
  resumed_sound b x t there h st all =
      let given : Given b.shared (given_answer b.shared x t) (turn_requests b.shared x t) = given_of b.shared x t there h st in
      stopped_sound b.shared (given_answer b.shared x t) (turn_requests b.shared x t) given (stands g (given_answer b.shared x t)) refl given.stops given.number
      (record b { threads = with_thread (λ old. given_answer b.shared x t) t.own.number b.threads }) (mid_begins (SoundThread g b.shared) (given_answer b.shared x t) b.threads all)

  abbrev pub TurnSound : Common → Option Turn → Type 0
  TurnSound u None = Unit {0}
  TurnSound u (Some turn) = AnswerThere u turn.answer × SoundThread g u turn.thread × Stood g turn.thread

  turn_sound : (u : Common) (t : Thread) (w : Wait) (rest : Option Turn) → WaitThere u w → SoundThread g u t → Stood g t → TurnSound u rest → TurnSound u (turn_if t w rest)
  turn_sound u t (Ready x) rest there h st more = (there, h, st)
  turn_sound u t (RequestWait r) rest there h st more = more
  turn_sound u t (BranchesWait js) rest there h st more = more

  pub first_sound : (u : Common) (ts : List Thread) → AllAre (SoundThread g u) ts → AllAre (Stood g) ts → TurnSound u (first_ready ts)
  first_sound u [] h st = tt
  first_sound u (t ∷ ts) h st = turn_sound u t t.wait (first_ready ts) (h.0).wait h.0 st.0 (first_sound u ts h.1 st.1)

  abbrev pub AllStand : Build → Type 0
  AllStand b = AllAre (Stood g) b.threads

  taken_sound : (n : ℕ) → ((b : Build) → AllStand b → AllSound b → AllSound (settle n g b)) → (b : Build) → AllStand b → AllSound b → (o : Option Turn) → TurnSound b.shared o → AllSound (take_turn (settle n g) g b o)
  taken_sound n more b st all None h = all
  taken_sound n more b st all (Some turn) h =
      more (resumed g (given_answer b.shared turn.answer turn.thread) b) (given_stood g b.shared turn.answer turn.thread turn.thread.history refl (h.2).calls b st)
      (resumed_sound b turn.answer turn.thread h.0 h.1 h.2 all)

  pub settle_sound : (n : ℕ) (b : Build) → AllStand b → AllSound b → AllSound (settle n g b)
  unfolding settle
  settle_sound zero b st all = all
  settle_sound (suc n) b st all = taken_sound n (settle_sound n) b st all (first_ready b.threads) (first_sound b.shared b.threads all st)

  -- a change of the shared state beside cells, variables and flow nodes
  aside_thread : (u v : Common) → v.cells ≡ u.cells → v.nodes ≡ u.nodes → v.binding ≡ u.binding → (AllOfSite g.site u.held → AllOfSite g.site v.held) → (InBounds false g.site u → InBounds false g.site v) → (t : Thread) → SoundThread g u t → SoundThread g v t
  aside_thread u v c n d site b t h = sound_then g u v (later_aside u v c n) (shared_aside g u v c d site (b (h.shared).bounds) h.shared) t h

  pub aside : (u v : Common) → v.cells ≡ u.cells → v.nodes ≡ u.nodes → v.binding ≡ u.binding → (AllOfSite g.site u.held → AllOfSite g.site v.held) → (InBounds false g.site u → InBounds false g.site v) → (ts : List Thread) → AllAre (SoundThread g u) ts → AllAre (SoundThread g v) ts
  aside u v c n d site b [] h = tt
  aside u v c n d site b (t ∷ ts) h = (aside_thread u v c n d site b t h.0, aside u v c n d site b ts h.1)

  ready_sound : (n : ℕ) (x : Answer) (b : Build) → AnswerThere b.shared x → AllSound b → AllSound (ready n x b)
  ready_sound n x b there all = with_all (SoundThread g b.shared) (SoundThread g b.shared) (waits_as (Ready x)) n (λ t at h. with_wait g b.shared t (Ready x) there h) (λ t never h. h) b.threads all

  output_sound : (task : ℕ) (stream : Stream) (bytes : List ℕ) (b : Build) → AllSound b → AllSound (output g.limits task stream bytes b)
  output_sound task LogStream bytes b all = one (nat_lt g.limits.log (length b.shared.log + length bytes))
    where
      one : (x : Bool) → AllSound (if x then limit_met LogSize b.shared b else record b { shared = change_request (with_taken (length bytes)) task (record b.shared { log = raw bytes b.shared.log }) })
      one true = tt
      one false = aside b.shared (change_request (with_taken (length bytes)) task (record b.shared { log = raw bytes b.shared.log })) refl refl refl (λ h. h) (bounds_taken false g.site task bytes b.shared) b.threads all
  output_sound task OutStream bytes b all = one (nat_lt g.limits.values.text (length (kept_output (request_of b.shared.requests task)) + length bytes))
    where
      one : (x : Bool) → AllSound (if x then limit_met TextLength b.shared b else record b { shared = change_request (with_kept bytes) task b.shared })
      one true = tt
      one false = aside b.shared (change_request (with_kept bytes) task b.shared) refl refl refl (λ h. h) (bounds_kept false g.site task bytes b.shared) b.threads all

  grant_sound : (request executor : ℕ) (o : Option Executor) → executor_of g.site executor ≡ o → (b : Build) → AllSound b → AllAre (SoundThread g (without_request request (held_as g.site request executor o b.shared))) b.threads
  grant_sound request executor None e b all = aside b.shared (without_request request b.shared) refl refl refl (λ h. h) (bounds_closed false g.site request b.shared b.shared.held) b.threads all
  grant_sound request executor (Some x) e b all = aside b.shared (without_request request (held_as g.site request executor (Some x) b.shared)) refl refl refl
      (λ h. site_with g.site (record { executor = executor; request = request; workspace = workspace_number g.site b.shared.held x }) b.shared.held (λ none. some_site x (sym e ∙ none)) h)
      (bounds_closed false g.site request b.shared (held_as g.site request executor (Some x) b.shared).held) b.threads all

  pub changed_sound : (e : Event) (b : Build) → AllSound b → AllSound (changed_by g e b)
  changed_sound (StartEvent script agents) b all = (record { shared = begun_shared narrow; runs = tt; head = (omega arith, omega arith); last = (omega arith, omega arith); wait = tt; stood = tt }, tt)
  changed_sound (GrantedEvent request executor) b all =
      ready_sound (thread_of request (grant_to g.site request executor b).shared.requests) (GrantedAnswer executor) (record (grant_to g.site request executor b) { shared = without_request request (grant_to g.site request executor b).shared }) tt
      (grant_sound request executor (executor_of g.site executor) refl b all)
  changed_sound (OutputEvent task stream from bytes) b all = output_sound task stream bytes b all
  changed_sound (ExitedEvent task code) b all = ready_sound (thread_of task b.shared.requests) (Done code (kept_output (request_of b.shared.requests task))) (record b { shared = without_request task b.shared }) tt (aside b.shared (without_request task b.shared) refl refl refl (λ h. h) (bounds_closed false g.site task b.shared b.shared.held) b.threads all)
  changed_sound (LostEvent task why) b all = ready_sound (thread_of task b.shared.requests) (Done (lost_code why) (kept_output (request_of b.shared.requests task))) (record b { shared = without_request task b.shared }) tt (aside b.shared (without_request task b.shared) refl refl refl (λ h. h) (bounds_closed false g.site task b.shared b.shared.held) b.threads all)
  changed_sound (DecidedEvent request proceed name) b all = ready_sound (thread_of request b.shared.requests) (DecidedAnswer proceed name) (record b { shared = without_request request b.shared }) tt (aside b.shared (without_request request b.shared) refl refl refl (λ h. h) (bounds_closed false g.site request b.shared b.shared.held) b.threads all)

  pub event_sound : (b : Build) (e : Event) (x : Taken) → AllStand b → AllSound b → AllSound (after_event g b e x)
  event_sound b e Accepted st all =
      settle_sound (turn_bound g.limits) (changed_by g e (uncounted b)) (changed_stood g e (uncounted b) st)
      (changed_sound e (uncounted b) (aside b.shared (uncounted b).shared refl refl refl (λ h. h) (bounds_uncounted false g.site b.shared) b.threads all))
  event_sound b e NotOpen st all = all
  event_sound b e (WrongPlace kept) st all = all
  event_sound b e Finished st all = all

  fold_sound : (b : Build) (es : List Event) → AllStand b → AllSound b → AllSound (fold (after_one g) b es)
  fold_sound b [] st all = all
  fold_sound b (e ∷ es) st all = fold_sound (after_one g b e) es (event_stood g b e (answer_to g b e) st) (event_sound b e (answer_to g b e) st all)

  -- Every thread of every world, after every list of events.
  pub world_sound : (events : List Event) → AllAre (SoundThread g (world_in g events).shared) (world_in g events).threads
  world_sound events = fold_sound unbegun events tt tt

  -- where one waits, its frames fit the shared state as it is now
  pub frames_now : (u : Common) (t : Thread) → SoundThread g u t → (asked : Asked) (path : List Frame) (s : State) → stands g t ≡ Waits asked path s → AllAre (Sits g.script u) path
  frames_now u t h asked path s e =
      let stood : StandsSound g t.own u (Waits asked path s) = subst (StandsSound g t.own u) e h.stood in
      all_sits_then g.script s.world.shared u stood.later path (stood.waits).2

  -- A thread that waits: its frames fit the shared state, and stand one inside the other up to its wait.
  pub record Seated (u : Common) (t : Thread) : Type 0 where
    pub asked : Asked
    pub path : List Frame
    pub state : State
    pub waits : stands g t ≡ Waits asked path state
    pub frames : AllAre (Sits g.script u) path
    pub nested : Nested g.script (outer_spot t.runs) path asked

  all_seated : (u : Common) (ts : List Thread) → AllAre (SoundThread g u) ts → AllAre (Waiting g) ts → AllAre (Seated u) ts
  all_seated u [] h w = tt
  all_seated u (t ∷ ts) h w = (
    record { asked = (w.0).asked; path = (w.0).path; state = (w.0).state; waits = (w.0).stands_so; frames = frames_now u t h.0 (w.0).asked (w.0).path (w.0).state (w.0).stands_so; nested = waiting_nested g (tree_node tree) is t w.0 },
    all_seated u ts h.1 w.1,
  )

  -- In every world in which no thread is ready each waits so.
  pub world_seated : (events : List Event) → AllAre (λ t. IsReady t.wait → ⊥) (world_in g events).threads → AllAre (Seated (world_in g events).shared) (world_in g events).threads
  world_seated events never = all_seated (world_in g events).shared (world_in g events).threads (world_sound events) (world_waits g events never)
