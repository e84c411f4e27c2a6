-- What may stand at a spot, as tests.
use Rattle.std.proofs.Common.{◌≡◌, ◌∙◌, ℕ, Bool, true, false, refl, ap, sym, subst}
use Rattle.std.specs.Prelude.{◌&&◌, ◌||◌, not, nat_eq}
use Rattle.std.proofs.lemmas.Bool.{eqb-true, eq-eqb}
use Rattle.model_run.specs.declared.frame.Frame.{Frame}
use Rattle.model_run.specs.declared.frame.FrameKind.{FrameKind}
use Rattle.model_run.specs.declared.frame.FrameKind.TheVariants as kind
use Rattle.model_run.specs.Nesting.{Spot, Begun, Any_body, Body_of, Any_branch, For_executor, For_task, For_person, For_branches, Enters, own_frame, entered, any_body, body_of, any_branch, is_own, Leads}
use Rattle.model_run.specs.declared.request.Request.{Request}
use Rattle.model_run.specs.declared.request.Request.TheVariants.{Node as NodeRequest, Task as TaskRequest, Input as InputRequest}
use Rattle.model_run.specs.Fitting.{Asks}
use Rattle.model_run.specs.Terms.{Term}
use Rattle.frame_rows.specs.Leading.{Decides, LeadsTo, is_body, is_branch, may_ask}
use Rattle.frame_rows.specs.declared.leading.Wanted.TheVariants as wanted

tested : {P : Type 0} (b : Bool) → (b ≡ true → P) → (P → b ≡ true) → Decides b P
tested true to from = to refl
tested false to from = λ p. cc (from p)

decided : {P Q : Type 0} (b : Bool) → Decides b P → (P → Q) → (Q → P) → Decides b Q
decided true p to from = to p
decided false p to from = λ q. p (from q)

body_kind : (k : FrameKind) → is_body k ≡ true → k ≡ kind.CallBody
body_kind kind.CallBody e = refl
body_kind k e = absurd (cc e)

branch_kind : (k : FrameKind) → is_branch k ≡ true → k ≡ kind.BranchBody
branch_kind kind.BranchBody e = refl
branch_kind k e = absurd (cc e)

own_kind : (k : FrameKind) → is_body k ≡ false → is_branch k ≡ false → is_own k ≡ true
own_kind kind.CallBody e d = absurd (cc e)
own_kind kind.BranchBody e d = absurd (cc d)
own_kind k e d = refl

own_no_body : (k : FrameKind) → is_own k ≡ true → is_body k ≡ true → ⊥
own_no_body kind.CallBody e d = cc e
own_no_body k e d = cc d

own_no_branch : (k : FrameKind) → is_own k ≡ true → is_branch k ≡ true → ⊥
own_no_branch kind.BranchBody e d = cc e
own_no_branch k e d = cc d

left_true : (a b : Bool) → (a && b) ≡ true → a ≡ true
left_true true b e = refl
left_true false b e = e

right_true : (a b : Bool) → (a && b) ≡ true → b ≡ true
right_true true b e = e
right_true false b e = absurd (cc e)

is_any_body : (root : Term) (f : Frame) → Enters root f Any_body → is_body f.kind ≡ true
is_any_body root f (any_body k) = ap is_body k

pub at_any_body : (root : Term) (f : Frame) → Decides (is_body f.kind) (Enters root f Any_body)
at_any_body root f = tested (is_body f.kind) (λ e. any_body (body_kind f.kind e)) (is_any_body root f)

is_body_of : (root : Term) (f : Frame) (k : ℕ) → Enters root f (Body_of k) → (is_body f.kind && nat_eq f.node k) ≡ true
is_body_of root f k (body_of b n) = ap (λ c. is_body c && nat_eq f.node k) b ∙ eq-eqb f.node k n

pub at_body_of : (root : Term) (f : Frame) (k : ℕ) → Decides (is_body f.kind && nat_eq f.node k) (Enters root f (Body_of k))
at_body_of root f k =
    tested (is_body f.kind && nat_eq f.node k)
    (λ e. body_of (body_kind f.kind (left_true (is_body f.kind) (nat_eq f.node k) e)) (eqb-true f.node k (right_true (is_body f.kind) (nat_eq f.node k) e)))
    (is_body_of root f k)

is_any_branch : (root : Term) (f : Frame) → Enters root f Any_branch → is_branch f.kind ≡ true
is_any_branch root f (any_branch k) = ap is_branch k

pub at_any_branch : (root : Term) (f : Frame) → Decides (is_branch f.kind) (Enters root f Any_branch)
at_any_branch root f = tested (is_branch f.kind) (λ e. any_branch (branch_kind f.kind e)) (is_any_branch root f)

-- no frame stands inside a wait
pub at_executor : (root : Term) (f : Frame) → Enters root f For_executor → ⊥
at_executor root f h = elim h [ ]

pub at_task : (root : Term) (f : Frame) → Enters root f For_task → ⊥
at_task root f h = elim h [ ]

pub at_person : (root : Term) (f : Frame) → Enters root f For_person → ⊥
at_person root f h = elim h [ ]

pub at_branches : (root : Term) (f : Frame) → Enters root f For_branches → ⊥
at_branches root f h = elim h [ ]

-- where a node is evaluated
body_from : (root : Term) (f : Frame) (k : ℕ) → is_body f.kind ≡ true → Enters root f (Begun k) → LeadsTo root wanted.Entering k
body_from root f k b (own_frame o l) = absurd (own_no_body f.kind o b)
body_from root f k b (entered j c l e) = (j, l, e)

body_to : (root : Term) (f : Frame) (k : ℕ) → is_body f.kind ≡ true → LeadsTo root wanted.Entering k → Enters root f (Begun k)
body_to root f k b (j, l, e) = entered j (body_kind f.kind b) l e

pub at_begun_body : (root : Term) (f : Frame) (k : ℕ) (b : Bool) → is_body f.kind ≡ true → Decides b (LeadsTo root wanted.Entering k) → Decides b (Enters root f (Begun k))
at_begun_body root f k b is d = decided b d (body_to root f k is) (body_from root f k is)

own_from : (root : Term) (f : Frame) (k : ℕ) → is_body f.kind ≡ false → Enters root f (Begun k) → LeadsTo root (wanted.Node f.node) k
own_from root f k b (own_frame o l) = (f.node, l, eq-eqb f.node f.node refl)
own_from root f k b (entered j c l e) = absurd (cc (sym b ∙ ap is_body c))

own_to : (root : Term) (f : Frame) (k : ℕ) → is_own f.kind ≡ true → LeadsTo root (wanted.Node f.node) k → Enters root f (Begun k)
own_to root f k o (j, l, e) = own_frame o (subst (Leads root k) (eqb-true j f.node e) l)

pub at_begun_own : (root : Term) (f : Frame) (k : ℕ) (b : Bool) → is_body f.kind ≡ false → is_branch f.kind ≡ false → Decides b (LeadsTo root (wanted.Node f.node) k) → Decides b (Enters root f (Begun k))
at_begun_own root f k b no_body no_branch d = decided b d (own_to root f k (own_kind f.kind no_body no_branch)) (own_from root f k no_body)

pub no_branch_begun : (root : Term) (f : Frame) (k : ℕ) → is_branch f.kind ≡ true → Enters root f (Begun k) → ⊥
no_branch_begun root f k b (own_frame o l) = own_no_branch f.kind o b
no_branch_begun root f k b (entered j c l e) = cc (sym b ∙ ap is_branch c)

-- what is called at a spot
pub implied : (Q : Type 0) (b c : Bool) → Decides c Q → Decides (not b || c) (b ≡ true → Q)
implied Q false c d = λ e. absurd (cc e)
implied Q true true d = λ e. d
implied Q true false d = λ h. d (h refl)

pub never : true ≡ false → ⊥
never e = cc e

pub alike : (b : Bool) → Decides b (b ≡ true)
alike true = refl
alike false = λ e. cc e

-- the test of a wait decides it
pub asks_decided : (at : Spot) (r : Request) → Decides (may_ask at r) (Asks at r)
asks_decided For_executor (NodeRequest label) = tt
asks_decided For_task (TaskRequest executor workspace folder env script status keep taken out) = tt
asks_decided For_person (InputRequest id) = tt
asks_decided at r = λ h. h
