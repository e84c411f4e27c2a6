-- Places in lists of requests and of held executors.
use Rattle.std.proofs.Common.{◌≡◌, ◌≤◌, ◌<◌, ℕ, zero, suc, ◌+◌, List, [], ◌∷◌, Bool, true, false, refl, sym, ap, subst, ◌∙◌, length, Option, Some, None, arith, slice_index_or}
use Rattle.std.specs.Prelude.{nat_eq, nat_lt, map, find, is_some, option_map, not, if◌then◌else◌, ◌&&◌, ◌||◌}
use Rattle.std.specs.List.{filter, list_any, insert, remove}
use Rattle.std.proofs.lemmas.Bool.{eqb-true, ne_eqb}
use Rattle.model_run.specs.Fitting.{Rise}
use Rattle.model_run.specs.Requests.{numbers_of}
use Rattle.model_run.specs.Grants.{executor_of, is_of_agent, held_of_agent, unused_from, with_held}
use Rattle.model_run.specs.Taking.{request_of}
use Rattle.build_requests.specs.Names.{Site, Held, OpenRequest}
use Rattle.build_requests.specs.Places.{found_if, place_of}
use Rattle.build_requests.specs.Workspaces.{is_used, place_for}

-- a place, seen from n places before
abbrev pub move : ℕ → Option ℕ → Option ℕ
move n None = None
move n (Some i) = Some (n + i)

suc_of : (o : Option ℕ) (i : ℕ) → option_map suc o ≡ Some i → (k : ℕ) × (o ≡ Some k) × (suc k ≡ i)
suc_of None i e = absurd (cc e)
suc_of (Some k) i e = (k, refl, cc e)

-- the request at the place that was found is the first of its number
pub found_at : (n : ℕ) (rs : List OpenRequest) (i : ℕ) (d : OpenRequest) → place_of n rs ≡ Some i → (i < length rs) × (find (λ r. nat_eq r.number n) rs ≡ Some (slice_index_or rs i d))
found_at n [] i d e = absurd (cc e)
found_at n (r ∷ rs) i d e = go (λ k h. found_at n rs k d h) (nat_eq r.number n) refl
  where
    go : ((k : ℕ) → place_of n rs ≡ Some k → (k < length rs) × (find (λ q. nat_eq q.number n) rs ≡ Some (slice_index_or rs k d))) → (b : Bool) → nat_eq r.number n ≡ b → (i < length (r ∷ rs)) × (find (λ q. nat_eq q.number n) (r ∷ rs) ≡ Some (slice_index_or (r ∷ rs) i d))
    go below true k =
        let h : Some 0 ≡ Some i = sym (ap (λ b. found_if b (place_of n rs)) k) ∙ e in
        let z : 0 ≡ i = cc h in
        subst (λ j. (j < length (r ∷ rs)) × (find (λ q. nat_eq q.number n) (r ∷ rs) ≡ Some (slice_index_or (r ∷ rs) j d))) z
        (omega arith, ap (λ b. if b then Some r else find (λ q. nat_eq q.number n) rs) k)
    go below false k =
        let h : option_map suc (place_of n rs) ≡ Some i = sym (ap (λ b. found_if b (place_of n rs)) k) ∙ e in
        let s = suc_of (place_of n rs) i h in
        let rest = below s.0 s.1 in
        subst (λ j. (j < length (r ∷ rs)) × (find (λ q. nat_eq q.number n) (r ∷ rs) ≡ Some (slice_index_or (r ∷ rs) j d))) s.2
        (omega (arith, rest.0), ap (λ b. if b then Some r else find (λ q. nat_eq q.number n) rs) k ∙ rest.1)

pub found_below : (n : ℕ) (rs : List OpenRequest) (i : ℕ) → place_of n rs ≡ Some i → i < length rs
found_below n [] i e = absurd (cc e)
found_below n (r ∷ rs) i e = (found_at n (r ∷ rs) i r e).0

-- a request that is there is found
pub found_if_open : (n : ℕ) (rs : List OpenRequest) → place_of n rs ≡ None → is_some (request_of rs n) ≡ true → ⊥
found_if_open n [] e there = absurd (cc there)
found_if_open n (r ∷ rs) e there = go (λ h k. found_if_open n rs h k) (nat_eq r.number n) refl
  where
    none_of : (o : Option ℕ) → option_map suc o ≡ None → o ≡ None
    none_of None k = refl
    none_of (Some i) k = absurd (cc k)

    go : (place_of n rs ≡ None → is_some (request_of rs n) ≡ true → ⊥) → (b : Bool) → nat_eq r.number n ≡ b → ⊥
    go below true k = let h : Some 0 ≡ None = sym (ap (λ b. found_if b (place_of n rs)) k) ∙ e in absurd (cc h)
    go below false k =
        below (none_of (place_of n rs) (sym (ap (λ b. found_if b (place_of n rs)) k) ∙ e))
        (sym (ap (λ b. is_some (option_map (λ (z : OpenRequest). z.request) (if b then Some r else find (λ q. nat_eq q.number n) rs))) k) ∙ there)

-- behind the number that is taken out there is none like it
keeps_all : (n low next : ℕ) (rs : List OpenRequest) → n < low → Rise low next (numbers_of rs) → filter (λ r. not (nat_eq r.number n)) rs ≡ rs
keeps_all n low next [] le rise = refl
keeps_all n low next (r ∷ rs) le rise =
    ap (λ b. if not b then r ∷ filter (λ q. not (nat_eq q.number n)) rs else filter (λ q. not (nat_eq q.number n)) rs) (ne_eqb r.number n (λ e. let q : ⊥ = omega (arith, e, rise.0, le) in q))
    ∙ ap (λ qs. r ∷ qs) (keeps_all n (suc r.number) next rs (omega (arith, rise.0, le)) rise.2)

-- so to take the first of a number out is to keep all others
pub removed_at : (n low next : ℕ) (rs : List OpenRequest) (i : ℕ) → Rise low next (numbers_of rs) → place_of n rs ≡ Some i → remove rs i ≡ filter (λ r. not (nat_eq r.number n)) rs
removed_at n low next [] i rise e = absurd (cc e)
removed_at n low next (r ∷ rs) i rise e = go (λ k h. removed_at n (suc r.number) next rs k rise.2 h) (nat_eq r.number n) refl
  where
    others : List OpenRequest
    others = filter (λ q. not (nat_eq q.number n)) rs

    go : ((k : ℕ) → place_of n rs ≡ Some k → remove rs k ≡ filter (λ q. not (nat_eq q.number n)) rs) → (b : Bool) → nat_eq r.number n ≡ b → remove (r ∷ rs) i ≡ filter (λ q. not (nat_eq q.number n)) (r ∷ rs)
    go below true k =
        let h : Some 0 ≡ Some i = sym (ap (λ b. found_if b (place_of n rs)) k) ∙ e in
        let z : 0 ≡ i = cc h in
        let s : r.number ≡ n = eqb-true r.number n k in
        subst (λ j. remove (r ∷ rs) j ≡ filter (λ q. not (nat_eq q.number n)) (r ∷ rs)) z
        (sym (ap (λ b. if not b then r ∷ filter (λ q. not (nat_eq q.number n)) rs else filter (λ q. not (nat_eq q.number n)) rs) k ∙ keeps_all n (suc r.number) next rs (omega (arith, s)) rise.2))
    go below false k =
        let h : option_map suc (place_of n rs) ≡ Some i = sym (ap (λ b. found_if b (place_of n rs)) k) ∙ e in
        let s = suc_of (place_of n rs) i h in
        subst (λ j. remove (r ∷ rs) j ≡ filter (λ q. not (nat_eq q.number n)) (r ∷ rs)) s.2
        (ap (λ qs. r ∷ qs) (below s.0 s.1)
        ∙ sym (ap (λ b. if not b then r ∷ filter (λ q. not (nat_eq q.number n)) rs else filter (λ q. not (nat_eq q.number n)) rs) k))

-- the workspace numbers that are used
pub used_is : (site : Site) (held : List Held) (agent : List ℕ) (n : ℕ) → is_used site held agent n ≡ list_any (nat_eq n) (map (λ h. h.workspace) (held_of_agent site agent held))
used_is site [] agent n = refl
used_is site (h ∷ hs) agent n = go (used_is site hs agent n) (is_of_agent agent (executor_of site h.executor)) refl
  where
    flip : (a b : ℕ) → nat_eq a b ≡ nat_eq b a
    flip a b = grind arith

    no_more : (b : Bool) → b && false ≡ false
    no_more true = refl
    no_more false = refl

    same : (b : Bool) → b && true ≡ b
    same true = refl
    same false = refl

    go : is_used site hs agent n ≡ list_any (nat_eq n) (map (λ (z : Held). z.workspace) (held_of_agent site agent hs)) → (b : Bool) → is_of_agent agent (executor_of site h.executor) ≡ b → is_used site (h ∷ hs) agent n ≡ list_any (nat_eq n) (map (λ z. z.workspace) (held_of_agent site agent (h ∷ hs)))
    go below true k =
        ap (λ b. (nat_eq h.workspace n && b) || is_used site hs agent n) k
        ∙ ap (λ b. b || is_used site hs agent n) (same (nat_eq h.workspace n) ∙ flip h.workspace n)
        ∙ ap (λ b. nat_eq n h.workspace || b) below
        ∙ sym (ap (λ b. list_any (nat_eq n) (map (λ (z : Held). z.workspace) (if b then h ∷ held_of_agent site agent hs else held_of_agent site agent hs))) k)
    go below false k =
        ap (λ b. (nat_eq h.workspace n && b) || is_used site hs agent n) k
        ∙ ap (λ b. b || is_used site hs agent n) (no_more (nat_eq h.workspace n))
        ∙ below
        ∙ sym (ap (λ b. list_any (nat_eq n) (map (λ (z : Held). z.workspace) (if b then h ∷ held_of_agent site agent hs else held_of_agent site agent hs))) k)

-- one number further
pub unused_here : (left n : ℕ) (used : List ℕ) → list_any (nat_eq n) used ≡ false → unused_from left n used ≡ n
unused_here zero n used e = refl
unused_here (suc left) n used e = ap (λ b. if b then unused_from left (suc n) used else n) e

pub unused_next : (left n : ℕ) (used : List ℕ) → list_any (nat_eq n) used ≡ true → unused_from (suc left) n used ≡ unused_from left (suc n) used
unused_next left n used e = ap (λ b. if b then unused_from left (suc n) used else n) e

-- a held executor stands in its place
pub held_at : (h : Held) (hs : List Held) → (place_for h.executor hs ≤ length hs) × (insert hs (place_for h.executor hs) h ≡ with_held h hs)
held_at h [] = (omega arith, refl)
held_at h (x ∷ xs) = go (held_at h xs) (nat_lt h.executor x.executor) refl
  where
    go : (place_for h.executor xs ≤ length xs) × (insert xs (place_for h.executor xs) h ≡ with_held h xs) → (b : Bool) → nat_lt h.executor x.executor ≡ b → (place_for h.executor (x ∷ xs) ≤ length (x ∷ xs)) × (insert (x ∷ xs) (place_for h.executor (x ∷ xs)) h ≡ with_held h (x ∷ xs))
    go rest true k =
        let e : place_for h.executor (x ∷ xs) ≡ 0 = ap (λ b. if b then 0 else suc (place_for h.executor xs)) k in
        (omega (arith, e), ap (λ i. insert (x ∷ xs) i h) e ∙ sym (ap (λ b. if b then h ∷ x ∷ xs else x ∷ with_held h xs) k))
    go rest false k =
        let e : place_for h.executor (x ∷ xs) ≡ suc (place_for h.executor xs) = ap (λ b. if b then 0 else suc (place_for h.executor xs)) k in
        (omega (arith, e, rest.0), ap (λ i. insert (x ∷ xs) i h) e ∙ ap (λ ys. x ∷ ys) rest.1 ∙ sym (ap (λ b. if b then h ∷ x ∷ xs else x ∷ with_held h xs) k))
