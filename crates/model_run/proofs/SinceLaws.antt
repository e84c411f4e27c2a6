-- Evaluation goes to a later shared state, from its beginning and from each answer on.
use Rattle.std.proofs.Common.{◌≡◌, ◌∙◌, refl, sym, subst, inl, inr, ℕ, zero, suc, List, [], ◌∷◌, Option, Some, None}
use Rattle.model_values.proofs.LaterLaws.{later_itself, later_on}
use Rattle.model_run.specs.ValueTypes.{LimitKind}
use Rattle.model_run.specs.RunTypes.{Request}
use Rattle.model_run.specs.Terms.{Term, term_at}
use Rattle.model_run.specs.State.{Setting, Common, Own, World, Reply, State, Env, Ending, Frame, Asked, For_request, For_branches, Result, Ended, Waits, Limited, Unfinished, with_world, through, changed, unless_limit, reply_to}
use Rattle.model_run.specs.Around.{Entry, First, Turn, Body, Branched}
use Rattle.model_run.specs.Callables.{opened, closed}
use Rattle.model_run.specs.Meaning.{ev}
use Rattle.model_run.specs.Fitting.{Later}
use Rattle.model_run.specs.Steps.{with_request}
use Rattle.model_run.specs.Since.{Follows, last_shared, Since, StopsSince}
use Rattle.model_run.specs.Threads.{Runs, Script, Closure, stands_from}
use Rattle.model_run.proofs.Asking.{asks_nothing, asks_one, asks_on, keeps_same, keeps_on}
use Rattle.model_run.proofs.AmongLaws.{among_itself, among_on}
use Rattle.model_run.proofs.Front.{front_itself, front_on}
use Rattle.model_run.proofs.Relation.{Relation, Keeps}
use Rattle.model_run.proofs.Walk.{Plain, plain_law}
use Rattle.model_run.proofs.Monotone.{everywhere, again_with, call_with}

pub shared_itself : (u : Common) → Later u u
shared_itself u = record { cells = later_itself u.cells; nodes = front_itself u.nodes }

pub shared_on : (u v w : Common) → Later u v → Later v w → Later u w
shared_on u v w h k = record { cells = later_on u.cells v.cells w.cells h.cells k.cells; nodes = front_on u.nodes v.nodes w.nodes h.nodes k.nodes }

pub follows_itself : (u : Common) → Follows u u
follows_itself u = record { later = shared_itself u; log = front_itself u.log; binding = among_itself u.binding; asks = asks_nothing u u refl refl; held = keeps_same u.held u.held refl }

pub follows_on : (u v w : Common) → Follows u v → Follows v w → Follows u w
follows_on u v w h k = record { later = shared_on u v w h.later k.later; log = front_on u.log v.log w.log h.log k.log; binding = among_on u.binding v.binding w.binding h.binding k.binding; asks = asks_on u v w h.asks k.asks; held = keeps_on u.held v.held w.held h.held k.held }

-- every change of a world but a call's beginning and end, which leave the shared state
pub keeps_follows : (w w' : World) → Keeps w w' → Follows w.shared w'.shared
keeps_follows w w' k = record { later = record { cells = k.cells; nodes = k.nodes }; log = k.log; binding = k.binding; asks = asks_nothing w.shared w'.shared k.next k.requests; held = k.held }

-- and a request that is opened
pub asks_follows : (r : Request) (w : World) → Follows w.shared (with_request r w).shared
asks_follows r w = record { later = record { cells = later_itself w.shared.cells; nodes = front_itself w.shared.nodes }; log = front_itself w.shared.log; binding = among_itself w.shared.binding; asks = asks_one r w; held = keeps_same w.shared.held w.shared.held refl }

since_here : (u : Common) (rs : List Reply) (s : State) → s.replies ≡ rs → Follows u s.world.shared → Since u rs s
since_here u [] s e l = (e, l)
since_here u (r ∷ rs) s e l = inl (e, l)

pub since_change : (u : Common) (rs : List Reply) (s : State) (g : World → World) → Follows s.world.shared (g s.world).shared → Since u rs s → Since u rs (with_world (g s.world) s)
since_change u [] s g k q = (q.0, follows_on u s.world.shared (g s.world).shared q.1 k)
since_change u (r ∷ rs) s g k (inl q) = inl (q.0, follows_on u s.world.shared (g s.world).shared q.1 k)
since_change u (r ∷ rs) s g k (inr q) = inr (since_change r.shared rs s g k q)

since_last : (u : Common) (rs : List Reply) (s : State) → s.replies ≡ [] → Since u rs s → Follows (last_shared u rs) s.world.shared
since_last u [] s e q = q.1
since_last u (r ∷ rs) s e (inl q) = let all : r ∷ rs ≡ [] = sym q.0 ∙ e in absurd (cc)
since_last u (r ∷ rs) s e (inr q) = since_last r.shared rs s e q

same_reply : (r x : Reply) (rs xs : List Reply) → r ∷ rs ≡ x ∷ xs → r ≡ x
same_reply r x rs xs e = cc

same_rest : (r x : Reply) (rs xs : List Reply) → r ∷ rs ≡ x ∷ xs → rs ≡ xs
same_rest r x rs xs e = cc

pub since_reply : (u : Common) (rs : List Reply) (s : State) (asked : Asked) (ts : List Reply) → s.replies ≡ ts → Since u rs s → StopsSince u rs (reply_to asked s ts)
since_reply u rs s asked [] e q = (e, since_last u rs s e q)
since_reply u [] s asked (t ∷ ts) e q = let none : t ∷ ts ≡ [] = sym e ∙ q.0 in absurd (cc)
since_reply u (r ∷ rs) s asked (t ∷ ts) e (inl q) =
    let all : t ∷ ts ≡ r ∷ rs = sym e ∙ q.0 in
    inr (since_here r.shared rs _ (same_rest t r ts rs all) (subst (λ (x : Reply). Follows r.shared x.shared) (sym (same_reply t r ts rs all)) (follows_itself r.shared)))
since_reply u (r ∷ rs) s asked (t ∷ ts) e (inr q) = inr (since_reply r.shared rs s asked (t ∷ ts) e q)

pub since_through : (u : Common) (rs : List Reply) (f : Frame) (go : Ending → State → Result) → ((e : Ending) (s : State) → Since u rs s → StopsSince u rs (go e s)) → (r : Result) → StopsSince u rs r → StopsSince u rs (through f go r)
unfolding through
since_through u rs f go h (Ended e s) q = h e s q
since_through u rs f go h (Waits asked path s) q = q
since_through u rs f go h (Limited k s) q = q
since_through u rs f go h Unfinished q = q

pub since_unless : (u : Common) (rs : List Reply) (o : Option LimitKind) (go : State → Result) (s : State) → Since u rs s → StopsSince u rs (go s) → StopsSince u rs (unless_limit o go s)
since_unless u rs (Some k) go s q h = q
since_unless u rs None go s q h = h

-- one evaluation
abbrev pub since_relation : Common → List Reply → Relation
since_relation u rs = record {
  States = λ s s'. Since u rs s;
  Less = λ s s'. Since u rs s;
  Results = λ r r'. StopsSince u rs r;
  Inner = λ w r r'. StopsSince u rs r;
  Turns = λ r r'. StopsSince u rs r;
  Calls = λ r r'. StopsSince u rs r;
  Fits = λ f go. Unit {0};
  Stands = λ f w. Unit {0};
  ends = λ e s s' q. q;
  limits = λ k s s' q. q;
  changes = λ g s s' keeps q. since_change u rs s g (keeps_follows s.world (g s.world) keeps) q;
  weakens = λ s s' q. q;
  turned = λ r r' q. q;
  looks = λ go go' s s' q h. h;
  looks_less = λ go go' s s' q h. h;
  descends = λ limit g go go' h s s' spends q. since_unless u rs (limit s.world) (changed g go) s q (h _ s' (since_change u rs s g (keeps_follows s.world (g s.world) spends.keeps) q));
  asks = λ r w at s s' q. since_reply u rs (with_world (with_request r s.world) s) (For_request s.world.shared.next_request) s.replies refl (since_change u rs s (with_request r) (asks_follows r s.world) q);
  forks = λ b bs s s' q. since_reply u rs s (For_branches (b ∷ bs)) s.replies refl q;
  throughs = λ f w go go' fits stands h r r' q. since_through u rs f go (λ e s. h e s s) r q;
  descends_through = λ f go go' fits stands h limit g body body' k s s' spends q.
      since_through u rs f go (λ e s. h e s s) _ (since_unless u rs (limit s.world) (changed g body) s q (k _ s' (since_change u rs s g (keeps_follows s.world (g s.world) spends.keeps) q)));
}

pub plain_since : (u : Common) (rs : List Reply) → Plain (since_relation u rs)
plain_since u rs = record {
  inner = λ w r r' q. q;
  outer = λ w r r' q. q;
  called = λ r r' q. q;
  stands = λ f w. tt;
  opens = λ s s' q. since_change u rs s opened (follows_itself s.world.shared) q;
  closes = λ s s' q. since_change u rs s closed (follows_itself s.world.shared) q;
}

pub ev_since : (root : Term) (fuel : ℕ) (e : Entry) (t : Term) (env : Env) (s : State) (u : Common) (rs : List Reply) → Since u rs s → StopsSince u rs (ev root fuel e t env s)
unfolding ev
ev_since root zero e t env s u rs q = tt
ev_since root (suc n) e t env s u rs q =
    plain_law root (since_relation u rs) (plain_since u rs) everywhere (again_with root n) (again_with root n) (call_with root n) (call_with root n)
    (λ t good i kept env s s' q. ev_since root n (Turn i kept) t env s u rs q) (λ c args env s s' q. ev_since root n (Body args) (term_at root c) env s u rs q)
    (λ k f ps good x at m. tt) e t tt env s s q

-- where a thread stands its shared state follows that of its last answer: cells only grow and each stays what it is, flow nodes and
-- the log are only added to, and new requests stand behind those that were open
pub stands_since : (setting : Setting) (runs : Runs) (own : Own) (first : Reply) (rs : List Reply) → StopsSince first.shared rs (stands_from setting runs own (first ∷ rs))
stands_since setting Script own first rs = ev_since setting.script _ First setting.script [] _ first.shared rs (since_here first.shared rs _ refl (follows_itself first.shared))
stands_since setting (Closure k env start) own first rs = ev_since setting.script _ (Branched start) (term_at setting.script k) env _ first.shared rs (since_here first.shared rs _ refl (follows_itself first.shared))
