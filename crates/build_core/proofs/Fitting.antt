-- What a sound shared state gives a build that takes an event: the request is there, there is room for its numbers, and its thread is known.
use Rattle.std.proofs.Common.{◌≡◌, ◌≤◌, ◌<◌, ℕ, suc, ◌+◌, ◌^◌, List, [], ◌∷◌, Bool, true, false, refl, sym, ap, ◌∙◌, length, length-append, Option, Some, None, arith}
use Rattle.std.specs.Prelude.{nat_eq, map, find, nat_lt, is_some, option_map, if◌then◌else◌, ◌||◌}
use Rattle.std.specs.List.{AllByRecursion as AllAre, list_any, IsDistinct}
use Rattle.std.proofs.lemmas.Bool.{ne_eqb, eqb-true, ltb-true, ltb-false}
use Rattle.std.proofs.lemmas.Map.Steps.{length-le_from_distinct_below}
use Rattle.script_thread.specs.Names.{Request, NodeRequest, TaskRequest, InputRequest, OpenRequest, Held, Site, Accepted}
use Rattle.model_run.specs.Fitting.{Rise, Distinct, HeldFits, RequestFits, SharedFits}
use Rattle.model_run.specs.Requests.{numbers_of}
use Rattle.model_run.specs.Taking.{request_of, accepted_if, granted, is_task, is_input}
use Rattle.model_run.specs.State.{Setting, Common}
use Rattle.model_run.specs.World as W
use Rattle.model_values.specs.declared.limit.LimitKind.TheVariants.{LogSize}
use Rattle.model_run.specs.LogText.{raw}
use Rattle.build_log.specs.Refusals.{size_limit}
use Rattle.build_requests.specs.Standings.{standing_of}
use Rattle.build_requests.specs.Output.{TakenBelow}

-- an accepted event names an there request
pub grant_open : (site : Site) (held : List Held) (requests : List OpenRequest) (ex : ℕ) (o : Option Request) → granted (standing_of site requests held) ex o ≡ Accepted → is_some o ≡ true
grant_open site held requests ex None e = absurd (cc e)
grant_open site held requests ex (Some r) e = refl

pub task_open : (o : Option Request) → accepted_if (is_task o) ≡ Accepted → is_some o ≡ true
task_open None e = absurd (cc e)
task_open (Some r) e = refl

pub input_open : (o : Option Request) → accepted_if (is_input o) ≡ Accepted → is_some o ≡ true
input_open None e = absurd (cc e)
input_open (Some r) e = refl

-- the thread and the request of a number
pub thread_is : (n : ℕ) (rs : List OpenRequest) (r : OpenRequest) → find (λ q. nat_eq q.number n) rs ≡ Some r → W.thread_of n rs ≡ r.thread
thread_is n [] r e = absurd (cc e)
thread_is n (q ∷ rs) r e = go (thread_is n rs r) (nat_eq q.number n) refl
  where
    go : (find (λ z. nat_eq z.number n) rs ≡ Some r → W.thread_of n rs ≡ r.thread) → (b : Bool) → nat_eq q.number n ≡ b → W.thread_of n (q ∷ rs) ≡ r.thread
    go below true k =
        let h : Some q ≡ Some r = sym (ap (λ b. if b then Some q else find (λ z. nat_eq z.number n) rs) k) ∙ e in
        let s : q ≡ r = cc h in
        ap (λ b. if b then q.thread else W.thread_of n rs) k ∙ ap (λ (z : OpenRequest). z.thread) s
    go below false k =
        let h : find (λ z. nat_eq z.number n) rs ≡ Some r = sym (ap (λ b. if b then Some q else find (λ z. nat_eq z.number n) rs) k) ∙ e in
        ap (λ b. if b then q.thread else W.thread_of n rs) k ∙ below h

pub request_is : (n : ℕ) (rs : List OpenRequest) (r : OpenRequest) → find (λ q. nat_eq q.number n) rs ≡ Some r → request_of rs n ≡ Some r.request
request_is n rs r e = ap (λ o. option_map (λ (z : OpenRequest). z.request) o) e

-- an there request is one that was made
open_below : (n low next : ℕ) (rs : List OpenRequest) → Rise low next (numbers_of rs) → is_some (request_of rs n) ≡ true → n < next
open_below n low next [] rise there = absurd (cc there)
open_below n low next (q ∷ rs) rise there = go (open_below n (suc q.number) next rs rise.2) (nat_eq q.number n) refl
  where
    go : (is_some (request_of rs n) ≡ true → n < next) → (b : Bool) → nat_eq q.number n ≡ b → n < next
    go below true k = let s : q.number ≡ n = eqb-true q.number n k in omega (arith, s, rise.1)
    go below false k = below (sym (ap (λ b. is_some (option_map (λ (z : OpenRequest). z.request) (if b then Some q else find (λ z. nat_eq z.number n) rs))) k) ∙ there)

-- numbers that differ
apart : (n m : ℕ) → (n ≡ m → ⊥) → nat_eq n m ≡ false
apart n m d = ne_eqb n m d

distinct_from : (ns : List ℕ) → Distinct ns → IsDistinct nat_eq ns
unfolding IsDistinct
distinct_from [] d = tt
distinct_from (n ∷ ns) d = (go ns d.0, distinct_from ns d.1)
  where
    go : (ms : List ℕ) → AllAre (λ m. n ≡ m → ⊥) ms → AllAre (λ m. nat_eq n m ≡ false) ms
    go [] a = tt
    go (m ∷ ms) a = (apart n m a.0, go ms a.1)

below_from : (next : ℕ) (ns : List ℕ) → AllAre (λ m. m < next) ns → (q : ℕ) → list_any (nat_eq q) ns ≡ true → q < next
below_from next [] a q any = absurd (cc any)
below_from next (n ∷ ns) a q any = go (below_from next ns a.1 q) (nat_eq q n) refl
  where
    go : (list_any (nat_eq q) ns ≡ true → q < next) → (b : Bool) → nat_eq q n ≡ b → q < next
    go below true k = let s : q ≡ n = eqb-true q n k in omega (arith, s, a.0)
    go below false k = below (sym (ap (λ b. b || list_any (nat_eq q) ns) k) ∙ any)

-- so fewer executors are held than requests were made
pub few_held : (setting : Setting) (v : Common) (n : ℕ) → SharedFits setting false v → is_some (request_of v.requests n) ≡ true → suc (length v.held) ≤ 4294967295
few_held setting v n fit there = omega (arith, most, fit.few_requests, fit.few_nodes, map_len v.held)
  where
    ns : List ℕ
    ns = map (λ (x : Held). x.request) v.held

    map_len : (xs : List Held) → length (map (λ (x : Held). x.request) xs) ≡ length xs
    map_len [] = refl
    map_len (x ∷ xs) = ap suc (map_len xs)

    closed_none : (x : Held) → HeldFits setting.site v x → n ≡ x.request → ⊥
    closed_none x h e =
        let none : request_of v.requests n ≡ None = ap (λ k. request_of v.requests k) e ∙ ap (λ o. option_map (λ (z : OpenRequest). z.request) o) h.closed in
        let q : true ≡ false = sym there ∙ ap (λ o. is_some o) none in
        absurd (cc q)

    others : (xs : List Held) → AllAre (HeldFits setting.site v) xs → AllAre (λ m. n ≡ m → ⊥) (map (λ (x : Held). x.request) xs)
    others [] a = tt
    others (x ∷ xs) a = (closed_none x a.0, others xs a.1)

    below : (xs : List Held) → AllAre (HeldFits setting.site v) xs → AllAre (λ m. m < v.next_request) (map (λ (x : Held). x.request) xs)
    below [] a = tt
    below (x ∷ xs) a = (a.0.made, below xs a.1)

    most : length (n ∷ ns) ≤ v.next_request
    most = length-le_from_distinct_below (n ∷ ns) v.next_request (distinct_from (n ∷ ns) (others v.held fit.held, fit.differ)) (below_from v.next_request (n ∷ ns) (open_below n 0 v.next_request v.requests fit.requests there, below v.held fit.held))

-- and there is room for what is taken of a task
pub room_to_take : (setting : Setting) (v : Common) (more : ℕ) → SharedFits setting false v → length v.log + more ≤ 16777216 → AllAre (λ r. TakenBelow (2 ^ 64) more r.request) v.requests
room_to_take setting v more fit few = go v.requests fit.asks
  where
    one : (r : Request) → RequestFits setting.site (length v.log) r → TakenBelow (2 ^ 64) more r
    one (NodeRequest label) f = tt
    one (InputRequest id) f = tt
    one (TaskRequest executor workspace folder env script status keep_out taken out) f = omega (arith, few, f.1)

    go : (rs : List OpenRequest) → AllAre (λ r. RequestFits setting.site (length v.log) r.request) rs → AllAre (λ r. TakenBelow (2 ^ 64) more r.request) rs
    go [] a = tt
    go (r ∷ rs) a = (one r.request a.0, go rs a.1)

-- what a log's refusal says of its length
pub log_over : (log bytes : List ℕ) → size_limit (raw bytes log) ≡ Some LogSize → W.run_limits.log < length log + length bytes
log_over log bytes e = go (nat_lt W.run_limits.log (length (raw bytes log))) refl
  where
    go : (b : Bool) → nat_lt W.run_limits.log (length (raw bytes log)) ≡ b → W.run_limits.log < length log + length bytes
    go true k = omega (arith, ltb-true W.run_limits.log (length (raw bytes log)) k, length-append log bytes)
    go false k = let h : None ≡ Some LogSize = sym (ap (λ b. if b then Some LogSize else None) k) ∙ e in absurd (cc h)

pub log_within : (log bytes : List ℕ) → size_limit (raw bytes log) ≡ None → length log + length bytes ≤ W.run_limits.log
log_within log bytes e = go (nat_lt W.run_limits.log (length (raw bytes log))) refl
  where
    go : (b : Bool) → nat_lt W.run_limits.log (length (raw bytes log)) ≡ b → length log + length bytes ≤ W.run_limits.log
    go true k = let h : Some LogSize ≡ None = sym (ap (λ b. if b then Some LogSize else None) k) ∙ e in absurd (cc h)
    go false k = omega (arith, ltb-false W.run_limits.log (length (raw bytes log)) k, length-append log bytes)
