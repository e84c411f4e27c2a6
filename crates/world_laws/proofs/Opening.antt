-- What a turn of a thread does to the open requests: it opens the one at which it stops, and no other.
use Rattle.std.proofs.Common.{◌≡◌, ◌∙◌, ◌+◌, refl, sym, ap, subst, inl, inr, ℕ, zero, suc, Bool, true, false, ◌⊎◌, List, [], ◌∷◌, ◌++◌, length, Option, Some, None}
use Rattle.std.specs.List.{AllByRecursion as AllAre}
use Rattle.model_syntax.specs.Nodes.{Node}
use Rattle.model_values.specs.declared.limit.LimitKind.{LimitKind}
use Rattle.model_run.specs.declared.wait.Answer.{Answer}
use Rattle.model_run.specs.declared.request.Request.{Request}
use Rattle.model_run.specs.Terms.{Term, term, term_at, part_of}
use Rattle.model_run.specs.State.{Setting, Common, Own, World, Reply, State, Env, Result, Ended, Waits, Limited, Unfinished, with_world, through, changed, unless_limit, reply_to}
use Rattle.model_run.specs.declared.ending.Ending.{Ending}
use Rattle.model_run.specs.declared.frame.Frame.{Frame}
use Rattle.model_run.specs.declared.ending.Branch.{Branch}
use Rattle.model_run.specs.declared.ending.Asked.{Asked}
use Rattle.model_run.specs.declared.ending.Asked.TheVariants.{ForRequest as For_request, ForBranches as For_branches}
use Rattle.model_run.specs.Around.{Shape, Around, form_at}
use Rattle.model_run.specs.declared.ending.Entry.TheVariants.{First, Inside, On, Turn, Body, Branched}
use Rattle.model_run.specs.declared.ending.Entry.{Entry}
use Rattle.model_run.specs.Below.{Small, with_answer}
use Rattle.model_run.specs.Callables.{opened, closed}
use Rattle.model_run.specs.Meaning.{ev, fuel, around, continue, unwind, shape_of}
use Rattle.model_run.specs.Nesting.{FrameFits, MeetsRow, Nested, anything}
use Rattle.model_run.specs.Since.{last_shared}
use Rattle.model_run.specs.Steps.{with_request}
use Rattle.model_run.specs.Threads.{Runs, Script, Closure, Thread, stands, stands_from}
use Rattle.model_run.specs.Waiting.{Stood}
use Rattle.model_run.specs.World.{given_answer}
use Rattle.model_run.proofs.FormLaws.{after_law}
use Rattle.model_run.proofs.Monotone.{everywhere, again_with, call_with}
use Rattle.model_run.proofs.PathLaws.{PathFrom, outer_spot, stands_paths}
use Rattle.model_run.proofs.Relation.{Relation, AskedAt, Keeps, Agree, Goes}
use Rattle.model_run.proofs.Structure.{thread_goes_on}
use Rattle.model_run.proofs.Walk.{Special, from, shaped, eval_law, closure_called}
use Rattle.model_run.proofs.CallLaws.{BodiesGo, bodies_law, body_law}
use Rattle.model_run.proofs.WorldLaws.{frames_fit}
use Rattle.model_run.specs.FrameTable.{Within, Part, Inner, Called, Own_body, Branches_wait, row_of, frame_row, within, passes, suffixed_within, gathered_within, current, is_callable}
use Rattle.model_run.specs.declared.frame.FrameKind.{FrameKind}
use Rattle.model_run.specs.declared.frame.FrameKind.TheVariants as kind
use Rattle.model_syntax.specs.declared.node.NodeForm.{NodeForm}
use Rattle.model_syntax.specs.declared.node.NodeForm.TheVariants as form
use Rattle.model_run.specs.declared.request.Request.TheVariants.{Node as NodeRequest, Task as TaskRequest, Input as InputRequest}
use Rattle.world_laws.specs.Agreement.{FrameAsks, LastAsks, OpensNone, OpensOne, Opens, TurnsOpen}

-- in this state thread n has opened none since u
record SameOpen (u : Common) (n : ℕ) (s : State) : Type 0 where
  next : s.world.shared.next_request ≡ u.next_request
  requests : s.world.shared.requests ≡ u.requests
  number : s.world.own.number ≡ n

-- of these answers those behind some place are still to come, and it has opened none since the one that came last, or since u
abbrev SinceOpen : Common → List Reply → ℕ → State → Type 0
SinceOpen u [] n s = (s.replies ≡ []) × SameOpen u n s
SinceOpen u (r ∷ rs) n s = ((s.replies ≡ r ∷ rs) × SameOpen u n s) ⊎ SinceOpen r.shared rs n s

-- what is asked inside a frame: at once at its wait, or by the innermost frame
abbrev InsideAsks : Within → List Frame → Request → Type 0
InsideAsks w [] r = AskedAt w r
InsideAsks w (f ∷ fs) r = LastAsks (f ∷ fs) r

abbrev StopsBy : (List Frame → Request → Type 0) → Common → List Reply → ℕ → Result → Type 0
StopsBy asks u rs n (Ended e s) = SinceOpen u rs n s
StopsBy asks u rs n (Waits (For_request k) path s) = OpensOne (last_shared u rs) n k (asks path) s.world.shared
StopsBy asks u rs n (Waits (For_branches bs) path s) = OpensNone (last_shared u rs) s.world.shared × (bs ≡ [] → ⊥)
StopsBy asks u rs n (Limited k s) = Unit {0}
StopsBy asks u rs n Unfinished = Unit {0}

abbrev StopsOpen : Common → List Reply → ℕ → Result → Type 0
StopsOpen u rs n r = StopsBy LastAsks u rs n r

stops_as : (A B : List Frame → Request → Type 0) → ((path : List Frame) (q : Request) → A path q → B path q) → (u : Common) (rs : List Reply) (n : ℕ) (r : Result) → StopsBy A u rs n r → StopsBy B u rs n r
stops_as A B up u rs n (Ended e s) h = h
stops_as A B up u rs n (Waits (For_request k) path s) h = record { request = h.request; kind = up path h.request h.kind; number = h.number; next = h.next; requests = h.requests }
stops_as A B up u rs n (Waits (For_branches bs) path s) h = h
stops_as A B up u rs n (Limited k s) h = tt
stops_as A B up u rs n Unfinished h = tt

last_inside : (w : Within) (path : List Frame) (q : Request) → LastAsks path q → InsideAsks w path q
last_inside w [] q h = absurd h
last_inside w (f ∷ fs) q h = h

inside_last : (w : Within) → ((q : Request) → AskedAt w q → ⊥) → (path : List Frame) (q : Request) → InsideAsks w path q → LastAsks path q
inside_last w never [] q h = absurd (never q h)
inside_last w never (f ∷ fs) q h = h

-- what is passed through is no wait
passed_asks : (sh : Shape) (w : Within) → passes sh w ≡ true → (q : Request) → AskedAt w q → ⊥
passed_asks sh (Part i) pass q h = h
passed_asks sh (Inner i j) pass q h = h
passed_asks sh w pass q h = absurd (cc)

-- a frame that waits for a request waits for one of its kind
suffix_asks : (n : ℕ) (q : Request) → AskedAt (suffixed_within n) q → ⊥
suffix_asks zero q h = h
suffix_asks (suc n) q h = h

gathered_asks : (i : ℕ) (f : NodeForm) (q : Request) → AskedAt (gathered_within i f) q → ⊥
gathered_asks i (form.NamedEntry t) q h = h
gathered_asks i (form.NumberedEntry z) q h = h
gathered_asks i form.ComputedEntry q h = h
gathered_asks i f q h = absurd h

row_asks : (d : FrameKind) (sh : Shape) (left : ℕ) (env : Env) (q : Request) → AskedAt (frame_row d sh left env).inside q → FrameAsks d q
row_asks kind.NodeWait sh left env (NodeRequest label) h = tt
row_asks kind.NodeWait sh left env (TaskRequest x w f e c st k t o) h = absurd h
row_asks kind.NodeWait sh left env (InputRequest id) h = absurd h
row_asks kind.ShWait sh left env (TaskRequest x w f e c st k t o) h = tt
row_asks kind.ShWait sh left env (NodeRequest label) h = absurd h
row_asks kind.ShWait sh left env (InputRequest id) h = absurd h
row_asks kind.InputWait sh left env (InputRequest id) h = tt
row_asks kind.InputWait sh left env (NodeRequest label) h = absurd h
row_asks kind.InputWait sh left env (TaskRequest x w f e c st k t o) h = absurd h
row_asks kind.SuffixedPart sh left env q h = absurd (suffix_asks (current sh left) q h)
row_asks kind.Gathered sh left env q h = absurd (gathered_asks (current sh left) (form_at sh.parts (current sh left)) q h)
row_asks d sh left env q h = absurd h

abbrev Asking : Frame → Within → Type 0
Asking f w = (q : Request) → AskedAt w q → FrameAsks f.kind q

own_asks : (sh : Shape) (f : Frame) → Asking f (row_of sh f).inside
own_asks sh f q h = row_asks f.kind sh f.left f.env q h

open_here : (u : Common) (rs : List Reply) (n : ℕ) (s : State) → s.replies ≡ rs → SameOpen u n s → SinceOpen u rs n s
open_here u [] n s e h = (e, h)
open_here u (r ∷ rs) n s e h = inl (e, h)

open_change : (u : Common) (rs : List Reply) (n : ℕ) (s : State) (g : World → World) → ((v : Common) → SameOpen v n s → SameOpen v n (with_world (g s.world) s)) → SinceOpen u rs n s → SinceOpen u rs n (with_world (g s.world) s)
open_change u [] n s g k q = (q.0, k u q.1)
open_change u (r ∷ rs) n s g k (inl q) = inl (q.0, k u q.1)
open_change u (r ∷ rs) n s g k (inr q) = inr (open_change r.shared rs n s g k q)

keeps_open : (n : ℕ) (s : State) (g : World → World) → Keeps s.world (g s.world) → (v : Common) → SameOpen v n s → SameOpen v n (with_world (g s.world) s)
keeps_open n s g k v h = record { next = k.next ∙ h.next; requests = k.requests ∙ h.requests; number = k.number ∙ h.number }

open_number : (u : Common) (rs : List Reply) (n : ℕ) (s : State) → SinceOpen u rs n s → s.world.own.number ≡ n
open_number u [] n s q = (q.1).number
open_number u (r ∷ rs) n s (inl q) = (q.1).number
open_number u (r ∷ rs) n s (inr q) = open_number r.shared rs n s q

open_last : (u : Common) (rs : List Reply) (n : ℕ) (s : State) → s.replies ≡ [] → SinceOpen u rs n s → SameOpen (last_shared u rs) n s
open_last u [] n s e q = q.1
open_last u (r ∷ rs) n s e (inl q) = let all : r ∷ rs ≡ [] = sym q.0 ∙ e in absurd (cc)
open_last u (r ∷ rs) n s e (inr q) = open_last r.shared rs n s e q

same_reply : (r x : Reply) (rs xs : List Reply) → r ∷ rs ≡ x ∷ xs → r ≡ x
same_reply r x rs xs e = cc

same_rest : (r x : Reply) (rs xs : List Reply) → r ∷ rs ≡ x ∷ xs → rs ≡ xs
same_rest r x rs xs e = cc

-- the next answer comes
abbrev with_next : Reply → List Reply → State → State
with_next r rs s = record { world = record { setting = s.world.setting; shared = r.shared; own = s.world.own }; replies = rs }

open_next : (u : Common) (rs : List Reply) (n : ℕ) (s : State) (t : Reply) (ts : List Reply) → s.replies ≡ t ∷ ts → s.world.own.number ≡ n → SinceOpen u rs n s → SinceOpen u rs n (with_next t ts s)
open_next u [] n s t ts e own q = let none : t ∷ ts ≡ [] = sym e ∙ q.0 in absurd (cc)
open_next u (r ∷ rs) n s t ts e own (inl q) =
    let all : t ∷ ts ≡ r ∷ rs = sym e ∙ q.0 in
    let it : t ≡ r = same_reply t r ts rs all in
    inr (open_here r.shared rs n (with_next t ts s) (same_rest t r ts rs all) (record { next = ap (λ (x : Reply). x.shared.next_request) it; requests = ap (λ (x : Reply). x.shared.requests) it; number = own }))
open_next u (r ∷ rs) n s t ts e own (inr q) = inr (open_next r.shared rs n s t ts e own q)

asks_open : (u : Common) (rs : List Reply) (n : ℕ) (s : State) (w : Within) (r : Request) → AskedAt w r → (ts : List Reply) → s.replies ≡ ts → SinceOpen u rs n s → StopsBy (InsideAsks w) u rs n (reply_to (For_request s.world.shared.next_request) (with_world (with_request r s.world) s) ts)
asks_open u rs n s w r at [] e q =
    let h : SameOpen (last_shared u rs) n s = open_last u rs n s e q in
    record {
      request = r;
      kind = at;
      number = h.next;
      next = ap (λ k. k + 1) h.next;
      requests = ap (λ qs. qs ++ (record { number = s.world.shared.next_request; thread = s.world.own.number; request = r }) ∷ []) h.requests
          ∙ ap (λ k. (last_shared u rs).requests ++ (record { number = s.world.shared.next_request; thread = k; request = r }) ∷ []) h.number;
    }
asks_open u rs n s w r at (t ∷ ts) e q = open_next u rs n s t ts e (open_number u rs n s q) q

forks_open : (A : List Frame → Request → Type 0) (u : Common) (rs : List Reply) (n : ℕ) (s : State) (b : Branch) (bs : List Branch) (ts : List Reply) → s.replies ≡ ts → SinceOpen u rs n s → StopsBy A u rs n (reply_to (For_branches (b ∷ bs)) s ts)
forks_open A u rs n s b bs [] e q =
    let h : SameOpen (last_shared u rs) n s = open_last u rs n s e q in
    (record { next = h.next; requests = h.requests }, λ none. absurd (cc))
forks_open A u rs n s b bs (t ∷ ts) e q = open_next u rs n s t ts e (open_number u rs n s q) q

-- a frame in front
asks_outside : (f : Frame) (w : Within) → Asking f w → (path : List Frame) (q : Request) → InsideAsks w path q → LastAsks (f ∷ path) q
asks_outside f w asks [] q h = asks q h
asks_outside f w asks (g ∷ gs) q h = h

open_through : (u : Common) (rs : List Reply) (n : ℕ) (f : Frame) (w : Within) → Asking f w → (go : Ending → State → Result) → ((e : Ending) (s : State) → SinceOpen u rs n s → StopsOpen u rs n (go e s)) → (r : Result) → StopsBy (InsideAsks w) u rs n r → StopsOpen u rs n (through f go r)
unfolding through
open_through u rs n f w asks go h (Ended e s) q = h e s q
open_through u rs n f w asks go h (Waits (For_request k) path s) q = record { request = q.request; kind = asks_outside f w asks path q.request q.kind; number = q.number; next = q.next; requests = q.requests }
open_through u rs n f w asks go h (Waits (For_branches bs) path s) q = q
open_through u rs n f w asks go h (Limited k s) q = q
open_through u rs n f w asks go h Unfinished q = q

open_unless : (A : List Frame → Request → Type 0) (u : Common) (rs : List Reply) (n : ℕ) (o : Option LimitKind) (go : State → Result) (s : State) → StopsBy A u rs n (go s) → StopsBy A u rs n (unless_limit o go s)
open_unless A u rs n (Some k) go s h = tt
open_unless A u rs n None go s h = h

abbrev open_relation : Common → List Reply → ℕ → Relation
open_relation u rs n = record {
  States = λ s s'. SinceOpen u rs n s;
  Less = λ s s'. SinceOpen u rs n s;
  Results = λ r r'. StopsOpen u rs n r;
  Inner = λ w r r'. StopsBy (InsideAsks w) u rs n r;
  Turns = λ r r'. StopsOpen u rs n r;
  Calls = λ r r'. StopsOpen u rs n r;
  Fits = λ f go. Unit {0};
  Stands = λ f w. Asking f w;
  ends = λ e s s' q. q;
  limits = λ k s s' q. tt;
  changes = λ g s s' keeps q. open_change u rs n s g (keeps_open n s g keeps) q;
  weakens = λ s s' q. q;
  turned = λ r r' q. q;
  looks = λ go go' s s' q h. h;
  looks_less = λ go go' s s' q h. h;
  descends = λ limit g go go' h s s' spends q. open_unless LastAsks u rs n (limit s.world) (changed g go) s (h _ s' (open_change u rs n s g (keeps_open n s g spends.keeps) q));
  asks = λ r w at s s' q. asks_open u rs n s w r at s.replies refl q;
  forks = λ b bs s s' q. forks_open (InsideAsks Branches_wait) u rs n s b bs s.replies refl q;
  throughs = λ f w go go' fits stands h r r' q. open_through u rs n f w stands go (λ e s. h e s s) r q;
  descends_through = λ f go go' fits stands h limit g body body' k s s' spends q.
      open_through u rs n f Called stands go (λ e s. h e s s) _ (open_unless (InsideAsks Called) u rs n (limit s.world) (changed g body) s (stops_as LastAsks (InsideAsks Called) (last_inside Called) u rs n _ (k _ s' (open_change u rs n s g (keeps_open n s g spends.keeps) q))));
}

module _ (u : Common) (rs : List Reply) (n : ℕ) where
  outer : (w : Within) (r : Result) → StopsOpen u rs n r → StopsBy (InsideAsks w) u rs n r
  outer w r h = stops_as LastAsks (InsideAsks w) (last_inside w) u rs n r h

  open_opened : (s : State) → SinceOpen u rs n s → SinceOpen u rs n (with_world (opened s.world) s)
  open_opened s q = open_change u rs n s opened (λ v h. record { next = h.next; requests = h.requests; number = h.number }) q

  open_closed : (s : State) → SinceOpen u rs n s → SinceOpen u rs n (with_world (closed s.world) s)
  open_closed s q = open_change u rs n s closed (λ v h. record { next = h.next; requests = h.requests; number = h.number }) q

  open_bodies : (sh : Shape) (k : ℕ) (a a' : Around) → ((i : ℕ) (env : Env) → Goes (open_relation u rs n) (a.part First i env) (a'.part First i env)) → is_callable sh.form ≡ true → BodiesGo (open_relation u rs n) sh k a a'
  open_bodies sh k a a' parts e = bodies_law (open_relation u rs n) sh k a a' (λ s s' q. open_opened s q) (λ s s' q. open_closed s q) (λ f is at m q h. absurd h) (λ f at m. tt) (λ env s s' q. outer (Part 0) _ (parts 0 env s s' q)) e

  open_special : (sh : Shape) (k : ℕ) (a a' : Around) → ((i : ℕ) (env : Env) → Goes (open_relation u rs n) (a.part First i env) (a'.part First i env)) → (e : Entry) → Special (open_relation u rs n) sh k a a' e
  open_special sh k a a' parts First = tt
  open_special sh k a a' parts (Inside i) = parts i
  open_special sh k a a' parts (On v) = tt
  open_special sh k a a' parts (Turn i kept) = tt
  open_special sh k a a' parts (Body args) = λ e. open_bodies sh k a a' parts e
  open_special sh k a a' parts (Branched start) = λ e. record {
    fits = λ f is at m. tt;
    stands = λ f is at m q h. absurd h;
    bodies = λ env s s' q. outer Own_body _ (body_law (open_relation u rs n) sh k a a' (open_bodies sh k a a' parts (closure_called sh.form e)) env [] s s' q);
  }

ev_opens : (root : Term) (fuel : ℕ) (e : Entry) (t : Term) (env : Env) (s : State) (u : Common) (rs : List Reply) (n : ℕ) → SinceOpen u rs n s → StopsOpen u rs n (ev root fuel e t env s)
unfolding ev
ev_opens root zero e t env s u rs n q = tt
ev_opens root (suc m) e t env s u rs n q =
    eval_law root (λ c e t. open_relation u rs n) everywhere (again_with root m) (again_with root m) (call_with root m) (call_with root m)
    (record {
      agains = λ c e full t good i kept env s s' q. ev_opens root m (Turn i kept) t env s u rs n q;
      calls = λ c e t k args env s s' q. ev_opens root m (Body args) (term_at root k) env s u rs n q;
      fits = λ c e k f ps good x at m. tt;
      stands = λ c e full k f ps good x at own m. own_asks (shaped f ps) x;
      passed = λ c e full k f ps good w pass r r' q. stops_as (InsideAsks w) LastAsks (inside_last w (passed_asks (shaped f ps) w pass)) u rs n r q;
      called = λ c e full k f ps good at r r' q. q;
      moves = λ c e t x i s s' q. q;
      comes = λ c e k f ps good x part i r r' q. outer u rs n (within x i) r q;
      entered = λ c e k f ps good parts. open_special u rs n (shaped f ps) k (from (again_with root m) (call_with root m) k f ps) (from (again_with root m) (call_with root m) k f ps) (λ i env s s' q. parts c i First env s s' q) e;
    }) 0 e t tt env s s q

stands_opens : (setting : Setting) (runs : Runs) (own : Own) (first : Reply) (rs : List Reply) → StopsOpen first.shared rs own.number (stands_from setting runs own (first ∷ rs))
stands_opens setting Script own first rs = ev_opens setting.script _ First setting.script [] _ first.shared rs own.number (open_here first.shared rs own.number _ refl (record { next = refl; requests = refl; number = refl }))
stands_opens setting (Closure k env start) own first rs = ev_opens setting.script _ (Branched start) (term_at setting.script k) env _ first.shared rs own.number (open_here first.shared rs own.number _ refl (record { next = refl; requests = refl; number = refl }))

-- A path goes on.
module _ (root : Term) (m : ℕ) (u : Common) (rs : List Reply) (n : ℕ) where
  around_opens : (t : Term) (sh : Shape) (k : ℕ) → Agree (open_relation u rs n) sh k (around root m t) (around root m t)
  around_opens t sh k = record {
    parts = λ e part i env s s' q. outer u rs n (within e i) _ (ev_opens root (suc m) e (part_of root t i) env s u rs n q);
    agains = λ i kept env s s' q. ev_opens root m (Turn i kept) t env s u rs n q;
    calls = λ c args env s s' q. ev_opens root m (Body args) (term_at root c) env s u rs n q;
    fits = λ f at m. tt;
    stands = λ f at own m. own_asks sh f;
    passed = λ w pass r r' q. stops_as (InsideAsks w) LastAsks (inside_last w (passed_asks sh w pass)) u rs n r q;
    called = λ at r r' q. q;
  }

  continue_opens : (f : Frame) → MeetsRow anything (shape_of (term_at root f.node)) f → (e : Ending) (s : State) → SinceOpen u rs n s → StopsOpen u rs n (continue root m f e s)
  unfolding continue
  continue_opens f meets e s q = after_law (open_relation u rs n) (λ s s' q. q) (λ s s' q. open_closed u rs n s q) (shape_of (term_at root f.node)) (around root m (term_at root f.node)) (around root m (term_at root f.node)) f meets (around_opens (term_at root f.node) (shape_of (term_at root f.node)) f.node) e s s q

  unwind_opens : (fs : List Frame) → AllAre (FrameFits anything root) fs → (r : Result) → StopsOpen u rs n r → StopsOpen u rs n (unwind root m fs r)
  unfolding unwind
  unwind_opens [] h r q = q
  unwind_opens (f ∷ fs) h r q = open_through u rs n f (row_of (shape_of (term_at root f.node)) f).inside (own_asks (shape_of (term_at root f.node)) f) (continue root m f) (λ e s q. continue_opens f (h.0).meets e s q) (unwind root m fs r)
      (outer u rs n (row_of (shape_of (term_at root f.node)) f).inside (unwind root m fs r) (unwind_opens fs h.1 r q))

as_opens : (u : Common) (n : ℕ) (r : Result) → StopsOpen u [] n r → Opens u n r
as_opens u n (Ended e s) q = record { next = (q.1).next; requests = (q.1).requests }
as_opens u n (Waits (For_request k) path s) q = q
as_opens u n (Waits (For_branches bs) path s) q = q
as_opens u n (Limited k s) q = q
as_opens u n Unfinished q = q

module _ (setting : Setting) (p : Node) (e : setting.script ≡ term 0 p) (small : Small setting) where
  answered_opens : (runs : Runs) (own : Own) (first : Reply) (rs : List Reply) (asked : Asked) (path : List Frame) (s : State) → stands_from setting runs own (first ∷ rs) ≡ Waits asked path s → s.world.own.number ≡ own.number → (r : Reply) → StopsOpen r.shared [] own.number (stands_from setting runs own (first ∷ (rs ++ r ∷ [])))
  answered_opens runs own first rs asked path s waits number r =
      let on : stands_from setting runs own (first ∷ (rs ++ r ∷ [])) ≡ with_answer setting.script (fuel (length (rs ++ r ∷ []))) r (Waits asked path s) = thread_goes_on setting p e small runs own first rs r ∙ ap (with_answer setting.script (fuel (length (rs ++ r ∷ []))) r) waits in
      let nested : Nested setting.script (outer_spot runs) path asked = subst (PathFrom setting.script (outer_spot runs)) waits (stands_paths setting p e runs own first rs) in
      subst (StopsOpen r.shared [] own.number) (sym on) (unwind_opens setting.script (fuel (length (rs ++ r ∷ []))) r.shared [] own.number path (frames_fit setting.script (outer_spot runs) path asked nested) _ (refl, record { next = refl; requests = refl; number = number }))

  given_opens : (t : Thread) (hs : List Reply) → t.history ≡ hs → Stood setting t → (u : Common) (x : Answer) → StopsOpen u [] t.own.number (stands setting (given_answer u x t))
  given_opens t [] h st u x =
      subst (λ (hs : List Reply). StopsOpen u [] t.own.number (stands_from setting t.runs t.own (hs ++ (record { shared = u; answer = x }) ∷ []))) (sym h) (stands_opens setting t.runs t.own (record { shared = u; answer = x }) [])
  given_opens t (first ∷ rs) h st u x = elim st.is [
    | inl new ↦ (let none : first ∷ rs ≡ [] = sym h ∙ new.none in absurd (cc))
    | inr w ↦ subst (λ (hs : List Reply). StopsOpen u [] t.own.number (stands_from setting t.runs t.own (hs ++ (record { shared = u; answer = x }) ∷ []))) (sym h)
        (answered_opens t.runs t.own first rs w.asked w.path w.state (sym (ap (stands_from setting t.runs t.own) h) ∙ w.stands_so) w.number (record { shared = u; answer = x }))
  ]

  -- A turn of a thread that is new or waits opens the request at which it stops, and no other.
  pub turns_open : TurnsOpen setting
  turns_open t st u x = as_opens u t.own.number (stands setting (given_answer u x t)) (given_opens t t.history refl st u x)
