-- The launches and folders of a host fit the events, from a life's beginning to its end.
use Rattle.std.proofs.Common.{◌≡◌, ◌⊎◌, ◌∙◌, inl, inr, ℕ, true, List, [], ◌∷◌, ◌++◌, refl, sym, ap, subst, append_assoc}
use Rattle.std.specs.Prelude.{Contains}
use Rattle.model_syntax.specs.Nodes.{Node}
use Rattle.model_run.specs.declared.event.Event.{Event}
use Rattle.model_run.specs.Below.{Small}
use Rattle.model_run.specs.State.{Setting}
use Rattle.model_run.specs.Terms.{term}
use Rattle.model_run.specs.World.{world_in}
use Rattle.task_host.specs.declared.order.Order.{Order}
use Rattle.agent_worker.specs.declared.task.Served.{Served}
use Rattle.agent_worker.specs.Acts.{Act}
use Rattle.agent_worker.specs.Folders.{MakesOne, LeavesFolders, RemovesSome}
use Rattle.agent_worker.specs.Serve.{Tasks, KeepsTasks}
use Rattle.agent_worker.specs.Serving.{ExitTaken}
use Rattle.agent_worker.specs.Working.{Deed, Claims, Serves, Pauses, Halts, OnHost, WorksOnHost}
use Rattle.world_laws.proofs.Places.{some_front, some_behind}
use Rattle.launch_laws.specs.Fitting.{Among, Fits, IsOpen, WasTask}
use Rattle.launch_laws.specs.ManyTurns.{InLife}
use Rattle.launch_laws.proofs.Lists.{NoTwice, none_twice, all_differ, among_either, twice_last, among_contains, among_without, same_or_not}
use Rattle.launch_laws.proofs.TaskLaws.{no_reopen, open_then}

-- the tasks that were served, the latest first
abbrev pub served_tasks : List Deed → List ℕ
served_tasks [] = []
served_tasks (Claims claim ∷ past) = served_tasks past
served_tasks (Serves order acts answer ∷ past) = order.task ∷ served_tasks past
served_tasks (Pauses ∷ past) = served_tasks past
served_tasks (Halts ∷ past) = served_tasks past

-- folders of another task
keeps_made : (t u : ℕ) (old now : List ℕ) → MakesOne u old now → Among t old → Among t now
keeps_made t u old now (inl same) there = subst (Among t) (sym same) there
keeps_made t u old now (inr more) there = subst (Among t) (sym more.1) (some_front (λ m. m ≡ t) old (u ∷ []) there)

removes_other : (t u : ℕ) (old now : List ℕ) → RemovesSome u old now → (t ≡ u → ⊥) → Among t old → Among t now
removes_other t u old now (inl same) other there = subst (Among t) (sym same) there
removes_other t u old now (inr gone) other there = subst (Among t) (sym gone) (among_without t u old other there)

leaves_other : (t : ℕ) (order : Order) (acts : List Act) (old now : List ℕ) → LeavesFolders order acts old now → (t ≡ order.task → ⊥) → Among t old → Among t now
leaves_other t order acts old now (inl same) other there = subst (Among t) (sym same) there
leaves_other t order acts old now (inr some) other there = removes_other t order.task old now some.1 other there

module _ (setting : Setting) (begun taken : List Event) (executor : ℕ) where
  -- it is not open at the end
  abbrev pub IsOver : ℕ → Type 0
  IsOver t = ¬ (IsOpen setting (begun ++ taken) t)

  -- What the history says of the tasks that were served: each was an open task of the executor in this life, none was served twice, and one
  -- whose exit was accepted is over.
  abbrev pub Known : List Deed → Type 0
  Known [] = Unit {0}
  Known (Claims claim ∷ past) = Known past
  Known (Serves order acts answer ∷ past) = InLife setting begun taken executor order.task × (Among order.task (served_tasks past) → ⊥) × (ExitTaken order acts → IsOver order.task) × Known past
  Known (Pauses ∷ past) = Known past
  Known (Halts ∷ past) = Known past

  -- what the host has come to
  pub record Stand (start now : Tasks) (past : List Deed) : Type 0 where
    pub launches : (t : ℕ) → Among t now.launches → Among t start.launches ⊎ Among t (served_tasks past)
    pub once : NoTwice now.launches
    pub folder : (t : ℕ) → Among t now.launches → Among t now.dirs ⊎ IsOver t
    pub kept : (t : ℕ) → (Among t (served_tasks past) → ⊥) → Among t start.dirs → Among t now.dirs

  module _ (p : Node) (e : setting.script ≡ term 0 p) (small : Small setting) (started : (world_in setting begun).started ≡ true) where
    stand_start : (start : Tasks) → Fits setting begun executor start → Stand start start []
    stand_start start f = record {
      launches = λ t there. inl there;
      once = none_twice start.launches f.once;
      folder = λ t there. on t (f.was t there) (f.folder t there);
      kept = λ t none there. there;
    }
      where
        on : (t : ℕ) → WasTask setting begun executor t → Among t start.dirs ⊎ ¬ (IsOpen setting begun t) → Among t start.dirs ⊎ IsOver t
        on t was (inl there) = inl there
        on t was (inr closed) = inr (no_reopen setting p e small begun taken started executor t was closed)

    -- the task that is served was not launched before, where its folder is not there
    not_before : (start mid : Tasks) (past : List Deed) (u : ℕ) → Fits setting begun executor start → Stand start mid past → InLife setting begun taken executor u → (Among u (served_tasks past) → ⊥)
        → ¬ (Contains mid.dirs u) → Among u mid.launches → ⊥
    not_before start mid past u f stand during new none there = on (stand.launches u there)
      where
        folder : WasTask setting begun executor u → Among u start.dirs ⊎ ¬ (IsOpen setting begun u) → ⊥
        folder before (inl dir) = none (among_contains u mid.dirs (stand.kept u new dir))
        folder before (inr closed) = closed (open_then setting p e small begun taken started executor executor u before during)

        on : Among u start.launches ⊎ Among u (served_tasks past) → ⊥
        on (inl old) = folder (f.was u old) (f.folder u old)
        on (inr again) = new again

    -- the folder of any task after a serve
    folder_after : (order : Order) (acts : List Act) (t : ℕ) (old between now : List ℕ) → (ExitTaken order acts → IsOver order.task) → MakesOne order.task old between → LeavesFolders order acts between now
        → Among t old ⊎ IsOver t → Among t now ⊎ IsOver t
    folder_after order acts t old between now done makes leaves (inr over) = inr over
    folder_after order acts t old between now done makes (inl same) (inl there) = inl (subst (Among t) (sym same) (keeps_made t order.task old between makes there))
    folder_after order acts t old between now done makes (inr some) (inl there) = on (same_or_not t order.task)
      where
        on : (t ≡ order.task) ⊎ (t ≡ order.task → ⊥) → Among t now ⊎ IsOver t
        on (inl same) = inr (subst IsOver (sym same) (done some.0))
        on (inr other) = inl (removes_other t order.task between now some.1 other (keeps_made t order.task old between makes there))

    folder_launched : (order : Order) (acts : List Act) (old now : List ℕ) → (ExitTaken order acts → IsOver order.task) → LeavesFolders order acts (old ++ order.task ∷ []) now → Among order.task now ⊎ IsOver order.task
    folder_launched order acts old now done (inl same) = inl (subst (Among order.task) (sym same) (some_behind (λ m. m ≡ order.task) old (order.task ∷ []) (inl refl)))
    folder_launched order acts old now done (inr some) = inr (done some.0)

    -- one serve
    stand_serves : (start mid now : Tasks) (past : List Deed) (order : Order) (acts : List Act) (answer : Served) → Fits setting begun executor start → Stand start mid past
        → InLife setting begun taken executor order.task → (Among order.task (served_tasks past) → ⊥) → (ExitTaken order acts → IsOver order.task) → KeepsTasks order acts mid now
        → Stand start now (Serves order acts answer ∷ past)
    stand_serves start mid now past order acts answer f stand during new done keeps = by keeps.launched
      where
        u : ℕ
        u = order.task

        dirs_kept : (t : ℕ) → (Among t (order.task ∷ served_tasks past) → ⊥) → Among t start.dirs → Among t now.dirs
        dirs_kept t none there =
            leaves_other t order acts keeps.folders.0 now.dirs keeps.folders.2 (λ same. none (inl (sym same))) (keeps_made t order.task mid.dirs keeps.folders.0 keeps.folders.1 (stand.kept t (λ a. none (inr a)) there))

        later : (t : ℕ) → Among t start.launches ⊎ Among t (served_tasks past) → Among t start.launches ⊎ Among t (order.task ∷ served_tasks past)
        later t (inl a) = inl a
        later t (inr b) = inr (inr b)

        by : (now.launches ≡ mid.launches) ⊎ ((now.launches ≡ mid.launches ++ order.task ∷ []) × (¬ Contains mid.dirs order.task) × LeavesFolders order acts (mid.dirs ++ order.task ∷ []) now.dirs) → Stand start now (Serves order acts answer ∷ past)
        by (inl same) = record {
          launches = λ t there. later t (stand.launches t (subst (Among t) same there));
          once = subst NoTwice (sym same) stand.once;
          folder = λ t there. folder_after order acts t mid.dirs keeps.folders.0 now.dirs done keeps.folders.1 keeps.folders.2 (stand.folder t (subst (Among t) same there));
          kept = dirs_kept;
        }
        by (inr more) = record {
          launches = λ t there. launched t (among_either t mid.launches (order.task ∷ []) (subst (Among t) more.0 there));
          once = subst NoTwice (sym more.0) (twice_last mid.launches order.task stand.once (not_before start mid past order.task f stand during new more.1));
          folder = λ t there. folders t (among_either t mid.launches (order.task ∷ []) (subst (Among t) more.0 there));
          kept = dirs_kept;
        }
          where
            launched : (t : ℕ) → Among t mid.launches ⊎ Among t (order.task ∷ []) → Among t start.launches ⊎ Among t (order.task ∷ served_tasks past)
            launched t (inl old) = later t (stand.launches t old)
            launched t (inr (inl same)) = inr (inl same)
            launched t (inr (inr never)) = absurd never

            folders : (t : ℕ) → Among t mid.launches ⊎ Among t (order.task ∷ []) → Among t now.dirs ⊎ IsOver t
            folders t (inl old) = folder_after order acts t mid.dirs keeps.folders.0 now.dirs done keeps.folders.1 keeps.folders.2 (stand.folder t old)
            folders t (inr (inl same)) = subst (λ (v : ℕ). Among v now.dirs ⊎ IsOver v) same (folder_launched order acts mid.dirs now.dirs done more.2)
            folders t (inr (inr never)) = absurd never

    -- what is known of less deeds is known of as many
    same_stand : (start now : Tasks) (past more : List Deed) → served_tasks more ≡ served_tasks past → Stand start now past → Stand start now more
    same_stand start now past more same st = record {
      launches = λ t there. subst (λ (l : List ℕ). Among t start.launches ⊎ Among t l) (sym same) (st.launches t there);
      once = st.once;
      folder = st.folder;
      kept = λ t none there. st.kept t (λ a. none (subst (Among t) (sym same) a)) there;
    }

    -- all the work of an executor
    stand_works : (start now : OnHost) (past : List Deed) → Fits setting begun executor start.tasks → Known past → WorksOnHost past start now → Stand start.tasks now.tasks past
    stand_works start now [] f known works = subst (λ (h : OnHost). Stand start.tasks h.tasks []) (sym works) (stand_start start.tasks f)
    stand_works start now (Claims claim ∷ past) f known works = same_stand start.tasks now.tasks past (Claims claim ∷ past) refl (stand_works start now past f known works)
    stand_works start now (Serves order acts answer ∷ past) f known works =
        stand_serves start.tasks works.0.tasks now.tasks past order acts answer f (stand_works start works.0 past f known.3 works.1) known.0 known.1 known.2 works.2.kept
    stand_works start now (Pauses ∷ past) f known works = same_stand start.tasks now.tasks past (Pauses ∷ past) refl (stand_works start now past f known works)
    stand_works start now (Halts ∷ past) f known works = same_stand start.tasks now.tasks past (Halts ∷ past) refl (stand_works start now past f known works)

    served_in_life : (t : ℕ) (past : List Deed) → Known past → Among t (served_tasks past) → InLife setting begun taken executor t
    served_in_life t [] known is = absurd is
    served_in_life t (Claims claim ∷ past) known is = served_in_life t past known is
    served_in_life t (Serves order acts answer ∷ past) known (inl is) = subst (InLife setting begun taken executor) is known.0
    served_in_life t (Serves order acts answer ∷ past) known (inr is) = served_in_life t past known.3 is
    served_in_life t (Pauses ∷ past) known is = served_in_life t past known is
    served_in_life t (Halts ∷ past) known is = served_in_life t past known is

    -- A host that fits at the beginning of a life fits at its end.
    pub fits_works : (start now : OnHost) (past : List Deed) → Fits setting begun executor start.tasks → Known past → WorksOnHost past start now
        → Fits setting (begun ++ taken) executor now.tasks
    fits_works start now past f known works = record {
      was = λ t there. was t (stand.launches t there);
      once = all_differ now.tasks.launches stand.once;
      folder = stand.folder;
    }
      where
        stand : Stand start.tasks now.tasks past
        stand = stand_works start now past f known works

        before : (t : ℕ) → WasTask setting begun executor t → WasTask setting (begun ++ taken) executor t
        before t w = record { front = w.front; rest = w.rest ++ taken; is = ap (λ (es : List Event). es ++ taken) w.is ∙ append_assoc w.front w.rest taken; begun = w.begun; task_of = w.task_of }

        during : (t : ℕ) → InLife setting begun taken executor t → WasTask setting (begun ++ taken) executor t
        during t w = record { front = begun ++ w.front; rest = w.rest; is = ap (λ (es : List Event). begun ++ es) w.is ∙ sym (append_assoc begun w.front w.rest); begun = w.has_begun; task_of = w.task_of }

        was : (t : ℕ) → Among t start.tasks.launches ⊎ Among t (served_tasks past) → WasTask setting (begun ++ taken) executor t
        was t (inl old) = before t (f.was t old)
        was t (inr new) = during t (served_in_life t past known new)
