-- Where the tasks of a thread run.
use Rattle.std.proofs.Common.{arith, ◌≡◌, ◌∙◌, ◌<◌, ℕ, Bor, Bool, true, false, List, [], ◌∷◌, ◌++◌, length, Option, Some, None, refl, ap, subst, sym}
use Rattle.std.specs.Prelude.{codes, find, if◌then◌else◌, nat_eq, option_and_then, option_copied, option_map}
use Rattle.std.specs.List.{AllByRecursion as AllAre}
use Rattle.model_values.specs.declared.value.Value.{Value}
use Rattle.model_values.specs.declared.value.Value.TheVariants.{Null, Bool as Truth}
use Rattle.model_run.specs.declared.frame.FrameKind.TheVariants.{ShWait}
use Rattle.model_run.specs.declared.request.Request.{Request}
use Rattle.model_run.specs.Around.{Around, ended, frame}
use Rattle.model_run.specs.Callables.{calling, closure_of}
use Rattle.model_run.specs.FlowNodes.{end_block, logging}
use Rattle.model_run.specs.declared.context.Context.{Context}
use Rattle.model_run.specs.declared.held.Held.{Held}
use Rattle.cps_frames.specs.Places.{HasFolders, IsHeld}
use Rattle.model_run.specs.declared.site.Executor.{Executor}
use Rattle.model_run.specs.Grants.{executor_of}
use Rattle.model_run.specs.State.{World, State, Env, changed}
use Rattle.model_run.specs.Steps.{Place, after_sh, entered_node, node_body, node_held, node_runs, running_line, dir_body, dir_in, folder_of, no_node, sh_in, task_of, waiting_for, with_folder, held_for, last_number, last_text, place_held, place_of, workspace_of}

pub place_there : (w : World) (h : Held) (x : Executor) (workspace folder : List ℕ) → Some h ≡ option_and_then (λ r. held_for r w.shared.held) (last_number w.own.context.held) → Some x ≡ executor_of w.setting.site h.executor → workspace ≡ workspace_of w h x → folder ≡ last_text w.own.context.folders → Some (record { executor = x; workspace = workspace; folder = folder }) ≡ place_of w
place_there w h x workspace folder held executor is at =
    ap (λ t. Some (record { executor = x; workspace = t; folder = folder })) is
    ∙ ap (λ t. Some (record { executor = x; workspace = workspace_of w h x; folder = t })) at
    ∙ ap (option_map (λ y. record { executor = y; workspace = workspace_of w h y; folder = last_text w.own.context.folders })) executor
    ∙ ap (place_held w) held

-- a task where the thread is, and none outside of `node`
pub sh_there : (k : ℕ) (env : Env) (script : List ℕ) (status keep : Bool) (w : World) (o : Option Place) (request : Request) (s : State) → Some request ≡ option_map (λ p. task_of w p script status keep) o → sh_in k env script status keep w o s ≡ waiting_for request (frame ShWait k 0 env (Truth status ∷ Truth keep ∷ [])) (after_sh (Truth status) (Truth keep)) w s
sh_there k env script status keep w None request s is = absurd (cc is)
sh_there k env script status keep w (Some p) request s is =
    let e : request ≡ task_of w p script status keep = cc is in
    ap (λ q. waiting_for q (frame ShWait k 0 env (Truth status ∷ Truth keep ∷ [])) (after_sh (Truth status) (Truth keep)) w s) (sym e)

pub sh_nowhere : (k : ℕ) (env : Env) (script : List ℕ) (status keep : Bool) (w : World) (o : Option Place) (s : State) → None ≡ option_map (λ p. task_of w p script status keep) o → sh_in k env script status keep w o s ≡ no_node s
sh_nowhere k env script status keep w None s is = refl
sh_nowhere k env script status keep w (Some p) s is = absurd (cc is)

-- a folder where the thread is, and none outside of `node`
pub dir_there : (a : Around) (k : ℕ) (env : Env) (path : List ℕ) (f : Value) (w : World) (o : Option Place) (folder : List ℕ) (s : State) → Some folder ≡ option_map (λ p. folder_of p.folder path) o → dir_in a k env path f w o s ≡ logging (codes "Running in " ++ folder) (changed (with_folder folder) (calling (closure_of w f) (ended Null) (dir_body a k env w))) s
dir_there a k env path f w None folder s is = absurd (cc is)
dir_there a k env path f w (Some p) folder s is =
    let e : folder ≡ folder_of p.folder path = cc is in
    ap (λ t. logging (codes "Running in " ++ t) (changed (with_folder t) (calling (closure_of w f) (ended Null) (dir_body a k env w))) s) (sym e)

pub dir_nowhere : (a : Around) (k : ℕ) (env : Env) (path : List ℕ) (f : Value) (w : World) (o : Option Place) (s : State) → None ≡ option_map (λ p. folder_of p.folder path) o → dir_in a k env path f w o s ≡ end_block (codes "dir") w.own.head no_node s
dir_nowhere a k env path f w None s is = refl
dir_nowhere a k env path f w (Some p) s is = absurd (cc is)

-- an executor that is there
here : {A : Type 0} (P : A → Type 0) (b : Bool) (y x : A) (more : Option A) → P y → (Some x ≡ more → P x) → Some x ≡ (if b then Some y else more) → P x
here P true y x more first rest e = let h : y ≡ x = cc e in subst P h first
here P false y x more first rest e = rest e

pub find_all : {A : Type 0} (P : A → Type 0) (p : A → Bool) (xs : List A) (x : A) → Some x ≡ find p xs → AllAre P xs → P x
find_all P p [] x is all = absurd (cc is)
find_all P p (y ∷ ys) x is all = here P (p y) y x (find p ys) all.0 (λ e. find_all P p ys x e all.1) is

pub held_all : (P : Held → Type 0) (o : Option ℕ) (held : List Held) (h : Held) → Some h ≡ option_and_then (λ r. held_for r held) o → AllAre P held → P h
held_all P None held h is all = absurd (cc is)
held_all P (Some r) held h is all = find_all P (λ x. nat_eq x.request r) held h is all

-- the innermost request of a thread whose executors are held has one
pub last_held : (held : List Held) (ns : List ℕ) (r : ℕ) → Some r ≡ last_number ns → AllAre (IsHeld held) ns → IsHeld held r
last_held held [] r is all = absurd (cc is)
last_held held (n ∷ []) r is all = let same : n ≡ r = cc is in subst (IsHeld held) same all.0
last_held held (n ∷ m ∷ ns) r is all = last_held held (m ∷ ns) r is all.1

-- and the thread has a folder
some_request : (ns : List ℕ) (r : ℕ) → Some r ≡ last_number ns → 0 < length ns
some_request [] r is = absurd (cc is)
some_request (n ∷ ns) r is = omega arith

pub some_folder : (c : Context) (r : ℕ) → Some r ≡ last_number c.held → HasFolders c → 0 < length c.folders
some_folder c r is enough = omega (arith, enough, some_request c.held r is)

pub held_last : (o : Option ℕ) (r : ℕ) (held : List Held) (h : Held) → Some r ≡ o → Some h ≡ held_for r held → Some h ≡ option_and_then (λ n. held_for n held) o
held_last o r held h last is = is ∙ ap (option_and_then (λ n. held_for n held)) last

-- no executor was found
pub no_executor : (o : Option (Bor Executor)) (there : Option Executor) → option_copied o ≡ there → o ≡ None → there ≡ None
no_executor o there is none = sym is ∙ ap option_copied none

pub node_there : (a : Around) (k : ℕ) (env : Env) (f : Value) (w : World) (o : Option Held) (h : Held) (x : Executor) (workspace line : List ℕ) (s : State) → Some h ≡ o → Some x ≡ executor_of w.setting.site h.executor → workspace ≡ workspace_of w h x → line ≡ running_line x workspace → node_held a k env f w o s ≡ logging line (changed (entered_node h.request workspace) (calling (closure_of w f) (ended Null) (node_body a k env w))) s
node_there a k env f w o h x workspace line s held executor is told =
    ap (λ y. node_held a k env f w y s) (sym held) ∙ ap (λ y. node_runs a k env f w h y s) (sym executor)
    ∙ ap (λ t. logging (running_line x t) (changed (entered_node h.request t) (calling (closure_of w f) (ended Null) (node_body a k env w))) s) (sym is)
    ∙ ap (λ t. logging t (changed (entered_node h.request workspace) (calling (closure_of w f) (ended Null) (node_body a k env w))) s) (sym told)
