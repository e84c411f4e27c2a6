-- What is open around a thread: behind a frame that is taken off, around a node that is entered, and after a move.
use Rattle.std.proofs.Common.{arith, ◌≡◌, ◌∙◌, ◌+◌, ◌<◌, ◌≤◌, ℕ, zero, suc, Bool, true, false, List, [], ◌∷◌, ◌++◌, length, append_assoc, refl, sym, ap}
use Rattle.std.specs.Prelude.{filter, if◌then◌else◌, nat_eq, not}
use Rattle.std.proofs.lemmas.List.{append-nil, length-append}
use Rattle.std.proofs.lemmas.List.Elements.{filter-append}
use Rattle.model_run.specs.declared.context.Context.{Context}
use Rattle.model_run.specs.declared.frame.Frame.{Frame}
use Rattle.model_run.specs.declared.frame.FrameKind.{FrameKind}
use Rattle.model_run.specs.declared.frame.FrameKind.TheVariants.{DirBody, NodeBody}
use Rattle.model_run.specs.declared.held.Held.{Held}
use Rattle.model_run.specs.declared.site.Site.{Site}
use Rattle.model_run.specs.Fitting.{holds_executor, holds_folder}
use Rattle.model_run.specs.Grants.{without_request}
use Rattle.model_run.specs.State.{World}
use Rattle.run_laws.specs.Evaluation.{AllOfSite}
use Rattle.run_laws.specs.Soundness.{Open, Pausing, Same, in_folder, in_node, open_folders, open_nodes, without_all}
use Rattle.run_laws.proofs.Flow.{HasGone}
use Rattle.cps_frames.specs.Places.{HasFolders, HasOpened}
use Rattle.cps_frames.specs.Standing.{Standing}

-- of frames one behind the other
open_append : (keep : FrameKind → Bool) (fs gs : List Frame) → length (filter (λ f. keep f.kind) (fs ++ gs)) ≡ length (filter (λ f. keep f.kind) fs) + length (filter (λ f. keep f.kind) gs)
open_append keep fs gs = ap length (filter-append (λ f. keep f.kind) fs gs) ∙ length-append (filter (λ f. keep f.kind) fs) (filter (λ f. keep f.kind) gs)

open_one : (keep : FrameKind → Bool) (f : Frame) → length (filter (λ x. keep x.kind) (f ∷ [])) ≡ (if keep f.kind then 1 else 0)
open_one keep f = by (keep f.kind)
  where
    by : (b : Bool) → length (if b then f ∷ [] else []) ≡ (if b then 1 else 0)
    by true = refl
    by false = refl

-- Each frame that holds an executor holds a folder.
fewer_nodes : (fs : List Frame) → open_nodes fs ≤ open_folders fs
fewer_nodes [] = omega arith
fewer_nodes (f ∷ fs) = with_one f.kind (filter (λ x. holds_executor x.kind) fs) (filter (λ x. holds_folder x.kind) fs) (fewer_nodes fs)
  where
    with_one : (d : FrameKind) (nodes folders : List Frame) → length nodes ≤ length folders → length (if holds_executor d then f ∷ nodes else nodes) ≤ length (if holds_folder d then f ∷ folders else folders)
    with_one NodeBody nodes folders fewer = omega (arith, fewer)
    with_one DirBody nodes folders fewer = omega (arith, fewer)
    with_one d nodes folders fewer = fewer

-- So a thread has a folder for each request, where the context above it has.
pub folders_enough : (above : Context) (u : Standing) → HasFolders above → HasOpened above u → HasFolders u.world.own.context
folders_enough above u enough h =
    let requests : length u.world.own.context.held ≡ length above.held + length h.own = ap length h.held ∙ length-append above.held h.own in
    omega (arith, enough, requests, h.many, h.folders, fewer_nodes u.stack)

-- executors of the site, of which some are given back
site_without : (site : Site) (r : ℕ) (held : List Held) → AllOfSite site held → AllOfSite site (without_request r held)
site_without site r [] h = tt
site_without site r (x ∷ held) h = one (nat_eq x.request r) (site_without site r held h.1)
  where
    one : (b : Bool) → AllOfSite site (without_request r held) → AllOfSite site (if not b then x ∷ without_request r held else without_request r held)
    one true more = more
    one false more = (h.0, more)

pub site_without_all : (site : Site) (rs : List ℕ) (held : List Held) → AllOfSite site held → AllOfSite site (without_all rs held)
site_without_all site [] held h = h
site_without_all site (r ∷ rs) held h = site_without site r (without_all rs held) (site_without_all site rs held h)

-- What is open around frames that come behind a stack.
pub record IsAround (above : Context) (stack : List Frame) (o : Open) : Type 0 where
  pub own : List ℕ
  pub nodes : o.nodes ≡ above.held ++ own
  pub many : length own ≡ open_nodes stack
  pub folders : o.folders ≡ length above.folders + open_folders stack

-- Behind a move a thread has opened what its frames say.
pub opened_on : (above : Context) (stack fs : List Frame) (o : Open) (v : Standing) → IsAround above stack o → v.stack ≡ stack ++ fs → Pausing o fs v.world → HasOpened above v
opened_on above stack fs o v is pushed p =
    let nodes : open_nodes v.stack ≡ open_nodes stack + open_nodes fs = ap open_nodes pushed ∙ open_append holds_executor stack fs in
    let folders : open_folders v.stack ≡ open_folders stack + open_folders fs = ap open_folders pushed ∙ open_append holds_folder stack fs in
    let sum : length (is.own ++ p.own) ≡ length is.own + length p.own = length-append is.own p.own in
    record {
      own = is.own ++ p.own;
      held = p.nodes ∙ ap (λ ns. ns ++ p.own) is.nodes ∙ append_assoc above.held is.own p.own;
      many = omega (arith, nodes, sum, is.many, p.many);
      folders = omega (arith, folders, is.folders, p.folders);
    }

-- around a node that is entered
abbrev pub open_here : World → Open
open_here w = record { nodes = w.own.context.held; folders = length w.own.context.folders; was = w.shared.held; gone = [] }

pub same_here : (w : World) → Same (open_here w) w
same_here w = record { nodes = refl; folders = refl; held = refl }

pub all_open : (above : Context) (u : Standing) → HasOpened above u → IsAround above u.stack (open_here u.world)
all_open above u h = record { own = h.own; nodes = h.held; many = h.many; folders = h.folders }

-- Around a frame that is taken off: its executor shall be given back, where it has one, and its folder.
pub record Behind (above : Context) (stack : List Frame) (a b : Bool) (w : World) : Type 0 where
  pub around : Open
  pub is : IsAround above stack around
  pub some : HasGone a around.gone
  pub same : Same (in_folder b (in_node a around)) w
  pub was : around.was ≡ w.shared.held
  pub all : around.nodes ++ around.gone ≡ w.own.context.held
  pub none : a ≡ false → around.gone ≡ []
  pub executor : a ≡ true → 0 < length w.own.context.held
  pub folder : b ≡ true → 0 < length w.own.context.folders

-- the last of some
record Last (n : ℕ) (xs : List ℕ) : Type 0 where
  front : List ℕ
  last : ℕ
  is : xs ≡ front ++ last ∷ []
  short : length front ≡ n

last_of : (n : ℕ) (xs : List ℕ) → length xs ≡ suc n → Last n xs
last_of n [] e = absurd (omega (arith, e))
last_of zero (x ∷ []) e = record { front = []; last = x; is = refl; short = refl }
last_of (suc n) (x ∷ []) e = absurd (omega (arith, e))
last_of zero (x ∷ y ∷ xs) e = absurd (omega (arith, e))
last_of (suc n) (x ∷ y ∷ xs) e =
    let more : Last n (y ∷ xs) = last_of n (y ∷ xs) (omega (arith, e)) in
    record { front = x ∷ more.front; last = more.last; is = ap (λ zs. x ∷ zs) more.is; short = ap suc more.short }

in_folder_same : (b : Bool) (o : Open) (w : World) → w.own.context.held ≡ o.nodes → length w.own.context.folders ≡ o.folders + (if b then 1 else 0) → w.shared.held ≡ without_all o.gone o.was → Same (in_folder b o) w
in_folder_same true o w nodes folders held = record { nodes = nodes; folders = omega (arith, folders); held = held }
in_folder_same false o w nodes folders held = record { nodes = nodes; folders = omega (arith, folders); held = held }

some_folder : (b : Bool) (n m : ℕ) → n ≡ m + (if b then 1 else 0) → b ≡ true → 0 < n
some_folder true n m e is = omega (arith, e)
some_folder false n m e is = absurd (cc is)

behind_by : (above : Context) (stack : List Frame) (a b : Bool) (w : World) (own : List ℕ) → w.own.context.held ≡ above.held ++ own → length own ≡ open_nodes stack + (if a then 1 else 0)
    → length w.own.context.folders ≡ (length above.folders + open_folders stack) + (if b then 1 else 0) → Behind above stack a b w
behind_by above stack false b w own held many folders = record {
  around = record { nodes = w.own.context.held; folders = length above.folders + open_folders stack; was = w.shared.held; gone = [] };
  is = record { own = own; nodes = held; many = omega (arith, many); folders = refl };
  some = tt;
  same = in_folder_same b (record { nodes = w.own.context.held; folders = length above.folders + open_folders stack; was = w.shared.held; gone = [] }) w refl folders refl;
  was = refl;
  all = append-nil w.own.context.held;
  none = λ e. refl;
  executor = λ e. absurd (cc e);
  folder = some_folder b (length w.own.context.folders) (length above.folders + open_folders stack) folders;
}
behind_by above stack true b w own held many folders =
    let l : Last (open_nodes stack) own = last_of (open_nodes stack) own (omega (arith, many)) in
    let nodes : w.own.context.held ≡ (above.held ++ l.front) ++ l.last ∷ [] = held ∙ ap (λ ns. above.held ++ ns) l.is ∙ sym (append_assoc above.held l.front (l.last ∷ [])) in
    let sum : length w.own.context.held ≡ length (above.held ++ l.front) + 1 = ap length nodes ∙ length-append (above.held ++ l.front) (l.last ∷ []) in
    record {
      around = record { nodes = above.held ++ l.front; folders = length above.folders + open_folders stack; was = w.shared.held; gone = l.last ∷ [] };
      is = record { own = l.front; nodes = refl; many = l.short; folders = refl };
      some = tt;
      same = in_folder_same b (record { nodes = (above.held ++ l.front) ++ l.last ∷ []; folders = length above.folders + open_folders stack; was = w.shared.held; gone = [] }) w nodes folders refl;
      was = refl;
      all = sym nodes;
      none = λ e. absurd (cc e);
      executor = λ e. omega (arith, sum);
      folder = some_folder b (length w.own.context.folders) (length above.folders + open_folders stack) folders;
    }

pub behind : (above : Context) (u u' : Standing) (f : Frame) → HasOpened above u → u'.world ≡ u.world → u.stack ≡ u'.stack ++ f ∷ [] → Behind above u'.stack (holds_executor f.kind) (holds_folder f.kind) u'.world
behind above u u' f h world at =
    let nodes : open_nodes u.stack ≡ open_nodes u'.stack + (if holds_executor f.kind then 1 else 0) = ap open_nodes at ∙ open_append holds_executor u'.stack (f ∷ []) ∙ ap (λ n. open_nodes u'.stack + n) (open_one holds_executor f) in
    let folders : open_folders u.stack ≡ open_folders u'.stack + (if holds_folder f.kind then 1 else 0) = ap open_folders at ∙ open_append holds_folder u'.stack (f ∷ []) ∙ ap (λ n. open_folders u'.stack + n) (open_one holds_folder f) in
    let count : length u'.world.own.context.folders ≡ length above.folders + open_folders u.stack = ap (λ (w : World). length w.own.context.folders) world ∙ h.folders in
    behind_by above u'.stack (holds_executor f.kind) (holds_folder f.kind) u'.world h.own (ap (λ (w : World). w.own.context.held) world ∙ h.held) (omega (arith, nodes, h.many)) (omega (arith, count, folders))
