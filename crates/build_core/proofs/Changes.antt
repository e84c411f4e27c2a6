-- The change that an event makes, on a build and on the build of the definitions that it stands for.
use Rattle.std.proofs.Common.{◌≡◌, ◌≤◌, ◌<◌, ℕ, ◌+◌, List, [], ◌∷◌, true, refl, sym, ap, subst, ◌∙◌, length, Option, Some, None}
use Rattle.std.specs.Prelude.{if◌then◌else◌, map}
use Rattle.std.proofs.lemmas.Bool.{le-ltb, lt-ltb}
use Rattle.model_values.specs.declared.limit.LimitKind.TheVariants.{LogSize, TextLength}
use Rattle.model_values.specs.Limits.{limit_line}
use Rattle.script_thread.specs.Names.{Answer, Ready, Executor, Site, GrantedAnswer, Done}
use Rattle.model_run.specs.declared.result.BuildResult.TheVariants.{Failure}
use Rattle.model_run.specs.Results.{worse}
use Rattle.model_run.specs.LogText.{raw}
use Rattle.model_run.specs.Grants.{executor_of}
use Rattle.model_run.specs.Taking.{request_of}
use Rattle.model_run.specs.State.{Setting, Common}
use Rattle.model_run.specs.World as W
use Rattle.green_threads.specs.Threads as G
use Rattle.cps_frames.specs.declared.shared.Shared.{Shared}
use Rattle.cps_frames.specs.Standing.{setting_of, common_of}
use Rattle.settle_laws.specs.Stances.{Stance}
use Rattle.settle_laws.specs.Standing.{Stand, over, heads}
use Rattle.settle_laws.proofs.Link.{rising_with, script_with, matches_both, matches_heads}
use Rattle.build_core.specs.declared.phase.Phase.TheVariants.{Running}
use Rattle.build_core.specs.Phases.{StandsIn, recounted}
use Rattle.build_core.specs.Taking.{answered_group}

-- with the count at 0
abbrev pub anew : Common → Common
anew v = record v { count = 0 }

module _ {T : Type 0} (stance : T → Stance) where
  -- the count begins anew
  pub uncounted_stand : (g : G.Threads T) (u : Shared) (w : W.Build) → StandsIn stance Running g u (recounted u.count w) → Stand stance (setting_of u) g (anew (common_of u)) (W.uncounted w)
  uncounted_stand g u w st = record {
    shared = ap anew st.stand.shared;
    next = st.stand.next;
    rising = st.stand.rising;
    script = st.stand.script;
    threads = st.stand.threads;
  }

  -- the shared state alone changes
  pub changed_stand : (setting : Setting) (g : G.Threads T) (v c : Common) (b : W.Build) → Stand stance setting g v b → Stand stance setting g c (record b { shared = c })
  changed_stand setting g v c b st = record { shared = refl; next = st.next; rising = st.rising; script = st.script; threads = st.threads }

  -- a thread goes on with an answer
  pub answered_stand : (setting : Setting) (g : G.Threads T) (v c : Common) (b : W.Build) (n : ℕ) (x : Answer) → Stand stance setting g v b → Stand stance setting (answered_group n x g) c (W.ready n x (record b { shared = c }))
  answered_stand setting g v c b n x st = record {
    shared = refl;
    next = st.next;
    rising = rising_with (G.waits_as (Ready x)) (λ z. refl) n 0 g.seats g.next st.rising;
    script = script_with (G.waits_as (Ready x)) (λ z. refl) (λ z. refl) n g.seats st.script;
    threads = matches_both stance setting (G.waits_as (Ready x)) (W.waits_as (Ready x)) n (λ z h s. record { number = s.number; parent = s.parent; wait = refl; stands = record { number = s.stands.number; parent = s.stands.parent; head = s.stands.head; at = s.stands.at } }) g.seats b.threads st.threads;
  }

  -- a request is closed in a shared state that was changed before, and its thread answered
  pub closed_stand : (setting : Setting) (g : G.Threads T) (v : Common) (b : W.Build) (change : Common → Common) (n : ℕ) (x : Common → Answer) → Stand stance setting g v b →
      Stand stance setting (answered_group (W.thread_of n (change v).requests) (x v) g) (W.without_request n (change v)) (W.answer_request n (x b.shared) (record b { shared = change b.shared }))
  closed_stand setting g v b change n x st =
      subst (λ k. Stand stance setting (answered_group (W.thread_of n (change k).requests) (x k) g) (W.without_request n (change k)) (W.answer_request n (x b.shared) (record b { shared = change b.shared }))) st.shared
      (answered_stand setting g v (W.without_request n (change b.shared)) b (W.thread_of n (change b.shared).requests) (x b.shared) st)

  held_requests : (site : Site) (n ex : ℕ) (o : Option Executor) (v : Common) → (W.held_as site n ex o v).requests ≡ v.requests
  held_requests site n ex None v = refl
  held_requests site n ex (Some x) v = refl

  pub decided_stand : (setting : Setting) (g : G.Threads T) (v : Common) (b : W.Build) (n : ℕ) (x : Answer) → Stand stance setting g v b →
      Stand stance setting (answered_group (W.thread_of n v.requests) x g) (W.without_request n v) (W.answer_request n x b)
  decided_stand setting g v b n x st = closed_stand setting g v b (λ k. k) n (λ k. x) st

  pub ended_stand : (setting : Setting) (g : G.Threads T) (v : Common) (b : W.Build) (n : ℕ) (code : _) → Stand stance setting g v b →
      Stand stance setting (answered_group (W.thread_of n v.requests) (Done code (W.kept_output (request_of v.requests n))) g) (W.without_request n v) (W.task_done n code b)
  ended_stand setting g v b n code st = closed_stand setting g v b (λ k. k) n (λ k. Done code (W.kept_output (request_of k.requests n))) st

  pub granted_stand : (setting : Setting) (g : G.Threads T) (v : Common) (b : W.Build) (n ex : ℕ) → Stand stance setting g v b →
      Stand stance setting (answered_group (W.thread_of n v.requests) (GrantedAnswer ex) g) (W.without_request n (W.held_as setting.site n ex (executor_of setting.site ex) v)) (W.answer_request n (GrantedAnswer ex) (W.grant_to setting.site n ex b))
  granted_stand setting g v b n ex st =
      let change : Common → Common = W.held_as setting.site n ex (executor_of setting.site ex) in
      subst (λ rs. Stand stance setting (answered_group (W.thread_of n rs) (GrantedAnswer ex) g) (W.without_request n (change v)) (W.answer_request n (GrantedAnswer ex) (W.grant_to setting.site n ex b))) (held_requests setting.site n ex (executor_of setting.site ex) v)
      (closed_stand setting g v b change n (λ k. GrantedAnswer ex) st)

  -- output goes to the log, or is kept
  pub logged_is : (setting : Setting) (g : G.Threads T) (v : Common) (b : W.Build) (task : ℕ) (bytes : List ℕ) → Stand stance setting g v b → length v.log + length bytes ≤ W.run_limits.log →
      W.log_output W.run_limits task bytes b ≡ record b { shared = W.change_request (W.with_taken (length bytes)) task (record v { log = raw bytes v.log }) }
  logged_is setting g v b task bytes st few =
      ap (λ k. if k then W.limit_met LogSize b.shared b else record b { shared = W.change_request (W.with_taken (length bytes)) task (record b.shared { log = raw bytes b.shared.log }) })
      (le-ltb W.run_limits.log (length b.shared.log + length bytes) (subst (λ (k : Common). length k.log + length bytes ≤ W.run_limits.log) (sym st.shared) few))
      ∙ ap (λ (k : Common). record b { shared = W.change_request (W.with_taken (length bytes)) task (record k { log = raw bytes k.log }) }) st.shared

  pub kept_is : (setting : Setting) (g : G.Threads T) (v : Common) (b : W.Build) (task : ℕ) (bytes : List ℕ) → Stand stance setting g v b → length (W.kept_output (request_of v.requests task)) + length bytes ≤ W.run_limits.values.text →
      W.keep_output W.run_limits task bytes b ≡ record b { shared = W.change_request (W.with_kept bytes) task v }
  kept_is setting g v b task bytes st few =
      ap (λ k. if k then W.limit_met TextLength b.shared b else record b { shared = W.change_request (W.with_kept bytes) task b.shared })
      (le-ltb W.run_limits.values.text (length (W.kept_output (request_of b.shared.requests task)) + length bytes) (subst (λ (k : Common). length (W.kept_output (request_of k.requests task)) + length bytes ≤ W.run_limits.values.text) (sym st.shared) few))
      ∙ ap (λ k. record b { shared = W.change_request (W.with_kept bytes) task k }) st.shared

  -- output beyond a limit ends the build
  limit_is : (setting : Setting) (g : G.Threads T) (v : Common) (b : W.Build) (k : _) → Stand stance setting g v b → W.limit_met k b.shared b ≡ over b g.next (W.finished (heads stance g.seats) (limit_line k ∷ []) (worse v.result Failure) v)
  limit_is setting g v b k st =
      ap (λ (u : Common). record { shared = W.finished (map (λ t. t.head) b.threads) (limit_line k ∷ []) (worse u.result Failure) u; threads = []; next_thread = b.next_thread; started = b.started; ended = true }) st.shared
      ∙ ap (λ hs. record { shared = W.finished hs (limit_line k ∷ []) (worse v.result Failure) v; threads = []; next_thread = b.next_thread; started = b.started; ended = true }) (matches_heads stance setting g.seats b.threads st.threads)
      ∙ ap (λ n. over b n (W.finished (heads stance g.seats) (limit_line k ∷ []) (worse v.result Failure) v)) st.next

  pub log_limit_is : (setting : Setting) (g : G.Threads T) (v : Common) (b : W.Build) (task : ℕ) (bytes : List ℕ) → Stand stance setting g v b → W.run_limits.log < length v.log + length bytes →
      W.log_output W.run_limits task bytes b ≡ over b g.next (W.finished (heads stance g.seats) (limit_line LogSize ∷ []) (worse v.result Failure) v)
  log_limit_is setting g v b task bytes st many =
      ap (λ k. if k then W.limit_met LogSize b.shared b else record b { shared = W.change_request (W.with_taken (length bytes)) task (record b.shared { log = raw bytes b.shared.log }) })
      (lt-ltb W.run_limits.log (length b.shared.log + length bytes) (subst (λ (k : Common). W.run_limits.log < length k.log + length bytes) (sym st.shared) many))
      ∙ limit_is setting g v b LogSize st

  pub text_limit_is : (setting : Setting) (g : G.Threads T) (v : Common) (b : W.Build) (task : ℕ) (bytes : List ℕ) → Stand stance setting g v b → W.run_limits.values.text < length (W.kept_output (request_of v.requests task)) + length bytes →
      W.keep_output W.run_limits task bytes b ≡ over b g.next (W.finished (heads stance g.seats) (limit_line TextLength ∷ []) (worse v.result Failure) v)
  text_limit_is setting g v b task bytes st many =
      ap (λ k. if k then W.limit_met TextLength b.shared b else record b { shared = W.change_request (W.with_kept bytes) task b.shared })
      (lt-ltb W.run_limits.values.text (length (W.kept_output (request_of b.shared.requests task)) + length bytes) (subst (λ (k : Common). W.run_limits.values.text < length (W.kept_output (request_of k.requests task)) + length bytes) (sym st.shared) many))
      ∙ limit_is setting g v b TextLength st
