-- Requests that grow by what events output: nothing, several events one after the other, and each change of the open requests.
use Rattle.std.proofs.Common.{arith, ◌≡◌, ◌≤◌, ◌<◌, ◌+◌, ◌∙◌, ap, sym, subst, refl, ℕ, Bool, true, false, List, [], ◌∷◌, ◌++◌, map, filter, length, Some, None, append_assoc, append-nil}
use Rattle.std.specs.Prelude.{nat_eq, not, find, option_map, if◌then◌else◌}
use Rattle.std.proofs.lemmas.Bool.{eqb-true, eqb-false}
use Rattle.std.proofs.lemmas.List.{length-append}
use Rattle.model_run.specs.declared.event.Event.{Event}
use Rattle.model_run.specs.declared.event.Event.TheVariants.{Output as OutputEvent}
use Rattle.model_run.specs.declared.event.Stream.{Stream}
use Rattle.model_run.specs.declared.event.Stream.TheVariants.{Log as LogStream, Out as OutStream}
use Rattle.model_run.specs.declared.request.Request.{Request}
use Rattle.model_run.specs.declared.request.Request.TheVariants.{Node as NodeRequest, Task as TaskRequest, Input as InputRequest}
use Rattle.model_run.specs.declared.request.OpenRequest.{OpenRequest}
use Rattle.model_run.specs.State.{Common}
use Rattle.model_run.specs.Taking.{request_of}
use Rattle.model_run.specs.World.{change_if, with_taken, with_kept}
use Rattle.task_laws.specs.Streams.{output_in, output_of, Grows, GrowsBy}

pub grows_nothing : (log out : List ℕ) → log ≡ [] → out ≡ [] → (r : Request) → Grows log out r r
grows_nothing log out no_log no_out (NodeRequest label) = tt
grows_nothing log out no_log no_out (TaskRequest x w f env script status keep taken kept) =
    (let none : length log ≡ 0 = ap length no_log in omega (arith, none), sym (ap (λ (l : List ℕ). kept ++ l) no_out ∙ append-nil kept))
grows_nothing log out no_log no_out (InputRequest id) = tt

grows_both : (log more out kept : List ℕ) (q r s : Request) → Grows log out q r → Grows more kept r s → Grows (log ++ more) (out ++ kept) q s
grows_both log more out kept (TaskRequest x1 w1 f1 e1 s1 st1 k1 t1 o1) (TaskRequest x2 w2 f2 e2 s2 st2 k2 t2 o2) (TaskRequest x3 w3 f3 e3 s3 st3 k3 t3 o3) one two =
    (let both : length (log ++ more) ≡ length log + length more = length-append log more in omega (arith, one.0, two.0, both), two.1 ∙ ap (λ (l : List ℕ). l ++ kept) one.1 ∙ append_assoc o1 out kept)
grows_both log more out kept (TaskRequest x1 w1 f1 e1 s1 st1 k1 t1 o1) (TaskRequest x2 w2 f2 e2 s2 st2 k2 t2 o2) s one two = absurd two
grows_both log more out kept (TaskRequest x1 w1 f1 e1 s1 st1 k1 t1 o1) r s one two = absurd one
grows_both log more out kept (NodeRequest l1) (NodeRequest l2) (NodeRequest l3) one two = tt
grows_both log more out kept (NodeRequest l1) (NodeRequest l2) s one two = absurd two
grows_both log more out kept (NodeRequest l1) r s one two = absurd one
grows_both log more out kept (InputRequest i1) (InputRequest i2) (InputRequest i3) one two = tt
grows_both log more out kept (InputRequest i1) (InputRequest i2) s one two = absurd two
grows_both log more out kept (InputRequest i1) r s one two = absurd one

pub output-append : (task : ℕ) (stream : Stream) (es fs : List Event) → output_of task stream (es ++ fs) ≡ output_of task stream es ++ output_of task stream fs
output-append task stream [] fs = refl
output-append task stream (e ∷ es) fs = ap (λ (l : List ℕ). output_in task stream e ++ l) (output-append task stream es fs) ∙ sym (append_assoc (output_in task stream e) (output_of task stream es) (output_of task stream fs))

module _ (below : ℕ) where
  pub grows_itself : (u : Common) → GrowsBy [] below u u
  grows_itself u n r lt is = (r, is, grows_nothing [] [] refl refl r)

  pub grows_then : (es fs : List Event) (u v w : Common) → GrowsBy es below u v → GrowsBy fs below v w → GrowsBy (es ++ fs) below u w
  grows_then es fs u v w one two n r lt is =
      let late = two n r lt is in
      let early = one n late.0 lt late.1 in (
        early.0,
        early.1,
        subst (λ (l : List ℕ). Grows l (output_of n OutStream (es ++ fs)) early.0 r) (sym (output-append n LogStream es fs))
            (subst (λ (l : List ℕ). Grows (output_of n LogStream es ++ output_of n LogStream fs) l early.0 r) (sym (output-append n OutStream es fs))
            (grows_both (output_of n LogStream es) (output_of n LogStream fs) (output_of n OutStream es) (output_of n OutStream fs) early.0 late.0 r early.2 late.2)),
      )

  -- requests that are the same
  pub grows_same : (u v : Common) → v.requests ≡ u.requests → GrowsBy [] below u v
  grows_same u v same n r lt is = (r, subst (λ (rs : List OpenRequest). request_of rs n ≡ Some r) same is, grows_nothing [] [] refl refl r)

  no_request : (r : Request) → None ≡ Some r → ⊥
  no_request r is = cc

  -- no request
  pub grows_closed : (es : List Event) (u v : Common) → v.requests ≡ [] → GrowsBy es below u v
  grows_closed es u v none n r lt is = absurd (no_request r (subst (λ (rs : List OpenRequest). request_of rs n ≡ Some r) none is))

  -- a new request, under a number that is not below
  found_old : (new : OpenRequest) → below ≤ new.number → (n : ℕ) → n < below → (r : Request) (rs : List OpenRequest) → request_of (rs ++ new ∷ []) n ≡ Some r → request_of rs n ≡ Some r
  found_old new above n lt r [] is = on (nat_eq new.number n) refl is
    where
      on : (b : Bool) → nat_eq new.number n ≡ b → option_map (λ (x : OpenRequest). x.request) (if b then Some new else None) ≡ Some r → request_of [] n ≡ Some r
      on true same found = absurd (let at : new.number ≡ n = eqb-true _ _ same in omega (arith, above, lt, at))
      on false other found = found
  found_old new above n lt r (q ∷ rs) is = on (nat_eq q.number n) is (found_old new above n lt r rs)
    where
      on : (b : Bool) → option_map (λ (x : OpenRequest). x.request) (if b then Some q else find (λ (x : OpenRequest). nat_eq x.number n) (rs ++ new ∷ [])) ≡ Some r → (request_of (rs ++ new ∷ []) n ≡ Some r → request_of rs n ≡ Some r)
          → option_map (λ (x : OpenRequest). x.request) (if b then Some q else find (λ (x : OpenRequest). nat_eq x.number n) rs) ≡ Some r
      on true found more = found
      on false found more = more found

  pub grows_new : (new : OpenRequest) → below ≤ new.number → (u v : Common) → v.requests ≡ u.requests ++ new ∷ [] → GrowsBy [] below u v
  grows_new new above u v more n r lt is = (r, found_old new above n lt r u.requests (subst (λ (rs : List OpenRequest). request_of rs n ≡ Some r) more is), grows_nothing [] [] refl refl r)

  -- all but one, by an event that outputs nothing
  none_kept : (k n : ℕ) (r : Request) → n ≡ k → (rs : List OpenRequest) → request_of (filter (λ (x : OpenRequest). not (nat_eq x.number k)) rs) n ≡ Some r → ⊥
  none_kept k n r at [] found = no_request r found
  none_kept k n r at (x ∷ xs) found = by (nat_eq x.number k) refl found (none_kept k n r at xs)
    where
      kept : List OpenRequest
      kept = filter (λ (y : OpenRequest). not (nat_eq y.number k)) xs

      skip : (b : Bool) → nat_eq x.number n ≡ b → (x.number ≡ k → ⊥) → option_map (λ (y : OpenRequest). y.request) (if b then Some x else find (λ (y : OpenRequest). nat_eq y.number n) kept) ≡ Some r → (request_of kept n ≡ Some r → ⊥) → ⊥
      skip true same other found more = other (eqb-true _ _ same ∙ at)
      skip false differs other found more = more found

      by : (b : Bool) → nat_eq x.number k ≡ b → request_of (if not b then x ∷ kept else kept) n ≡ Some r → (request_of kept n ≡ Some r → ⊥) → ⊥
      by true same found more = more found
      by false other found more = skip (nat_eq x.number n) refl (eqb-false _ _ other) found more

  found_other : (k n : ℕ) (r : Request) (rs : List OpenRequest) → request_of (filter (λ (x : OpenRequest). not (nat_eq x.number k)) rs) n ≡ Some r → request_of rs n ≡ Some r
  found_other k n r [] is = is
  found_other k n r (q ∷ rs) is = on (nat_eq q.number k) refl is (found_other k n r rs)
    where
      kept : List OpenRequest
      kept = filter (λ (x : OpenRequest). not (nat_eq x.number k)) rs

      here : (c : Bool) → nat_eq q.number n ≡ c → request_of (q ∷ kept) n ≡ Some r → (request_of kept n ≡ Some r → request_of rs n ≡ Some r) → option_map (λ (x : OpenRequest). x.request) (if c then Some q else find (λ (x : OpenRequest). nat_eq x.number n) rs) ≡ Some r
      here true at found more = subst (λ (b : Bool). option_map (λ (x : OpenRequest). x.request) (if b then Some q else find (λ (x : OpenRequest). nat_eq x.number n) kept) ≡ Some r) at found
      here false at found more = more (subst (λ (b : Bool). option_map (λ (x : OpenRequest). x.request) (if b then Some q else find (λ (x : OpenRequest). nat_eq x.number n) kept) ≡ Some r) at found)

      gone : (c : Bool) → nat_eq q.number n ≡ c → q.number ≡ k → request_of kept n ≡ Some r → (request_of kept n ≡ Some r → request_of rs n ≡ Some r) → option_map (λ (x : OpenRequest). x.request) (if c then Some q else find (λ (x : OpenRequest). nat_eq x.number n) rs) ≡ Some r
      gone true at same found more = absurd (none_kept k n r (sym (eqb-true _ _ at) ∙ same) rs found)
      gone false at same found more = more found

      on : (b : Bool) → nat_eq q.number k ≡ b → request_of (if not b then q ∷ kept else kept) n ≡ Some r → (request_of kept n ≡ Some r → request_of rs n ≡ Some r) → request_of (q ∷ rs) n ≡ Some r
      on true same found more = gone (nat_eq q.number n) refl (eqb-true _ _ same) found more
      on false other found more = here (nat_eq q.number n) refl found more

  pub grows_without : (e : Event) → ((task : ℕ) (stream : Stream) → output_in task stream e ≡ []) → (k : ℕ) (u v : Common) → v.requests ≡ filter (λ (x : OpenRequest). not (nat_eq x.number k)) u.requests → GrowsBy (e ∷ []) below u v
  grows_without e none k u v less n r lt is = (
    r,
    found_other k n r u.requests (subst (λ (rs : List OpenRequest). request_of rs n ≡ Some r) less is),
    grows_nothing (output_in n LogStream e ++ []) (output_in n OutStream e ++ []) (append-nil (output_in n LogStream e) ∙ none n LogStream) (append-nil (output_in n OutStream e) ∙ none n OutStream) r,
  )

  -- one that changes by the output of its number
  found_changed : (g : Request → Request) (task n : ℕ) (r : Request) (rs : List OpenRequest) → request_of (map (change_if g task) rs) n ≡ Some r
      → (q : Request) × (request_of rs n ≡ Some q) × (r ≡ (if nat_eq n task then g q else q))
  found_changed g task n r [] is = absurd (no_request r is)
  found_changed g task n r (q ∷ rs) is = on (nat_eq q.number task) refl (nat_eq q.number n) refl is (found_changed g task n r rs)
    where
      Found : List OpenRequest → Type 0
      Found qs = (x : Request) × (request_of qs n ≡ Some x) × (r ≡ (if nat_eq n task then g x else x))

      changed : List OpenRequest
      changed = map (change_if g task) rs

      same_request : (a b : Request) → Some a ≡ Some b → b ≡ a
      same_request a b e = cc

      hit : (b : Bool) → nat_eq q.number task ≡ b → q.number ≡ n → Some (if b then g q.request else q.request) ≡ Some r → r ≡ (if nat_eq n task then g q.request else q.request)
      hit b at same found = same_request (if b then g q.request else q.request) r found ∙ ap (λ (c : Bool). if c then g q.request else q.request) (sym at ∙ ap (λ (m : ℕ). nat_eq m task) same)

      on : (b : Bool) → nat_eq q.number task ≡ b → (c : Bool) → nat_eq q.number n ≡ c → request_of ((if b then record q { request = g q.request } else q) ∷ changed) n ≡ Some r → (request_of changed n ≡ Some r → Found rs) → Found (q ∷ rs)
      on true at true same found more = (
        q.request,
        ap (λ (c : Bool). option_map (λ (x : OpenRequest). x.request) (if c then Some q else find (λ (x : OpenRequest). nat_eq x.number n) rs)) same,
        hit true at (eqb-true _ _ same) (subst (λ (c : Bool). option_map (λ (x : OpenRequest). x.request) (if c then Some (record q { request = g q.request }) else find (λ (x : OpenRequest). nat_eq x.number n) changed) ≡ Some r) same found),
      )
      on false at true same found more = (
        q.request,
        ap (λ (c : Bool). option_map (λ (x : OpenRequest). x.request) (if c then Some q else find (λ (x : OpenRequest). nat_eq x.number n) rs)) same,
        hit false at (eqb-true _ _ same) (subst (λ (c : Bool). option_map (λ (x : OpenRequest). x.request) (if c then Some q else find (λ (x : OpenRequest). nat_eq x.number n) changed) ≡ Some r) same found),
      )
      on b at false other found more =
          let later = more (rest b found) in
          (later.0, subst (λ (c : Bool). option_map (λ (x : OpenRequest). x.request) (if c then Some q else find (λ (x : OpenRequest). nat_eq x.number n) rs) ≡ Some later.0) (sym other) later.1, later.2)
        where
          rest : (b : Bool) → request_of ((if b then record q { request = g q.request } else q) ∷ changed) n ≡ Some r → request_of changed n ≡ Some r
          rest true found = subst (λ (c : Bool). option_map (λ (x : OpenRequest). x.request) (if c then Some (record q { request = g q.request }) else find (λ (x : OpenRequest). nat_eq x.number n) changed) ≡ Some r) other found
          rest false found = subst (λ (c : Bool). option_map (λ (x : OpenRequest). x.request) (if c then Some q else find (λ (x : OpenRequest). nat_eq x.number n) changed) ≡ Some r) other found

  pub grows_changed : (e : Event) (g : Request → Request) (task : ℕ)
      → ((n : ℕ) (b : Bool) → nat_eq n task ≡ b → (q : Request) → Grows (output_in n LogStream e ++ []) (output_in n OutStream e ++ []) q (if b then g q else q))
      → (u v : Common) → v.requests ≡ map (change_if g task) u.requests → GrowsBy (e ∷ []) below u v
  grows_changed e g task grows u v changed n r lt is =
      let found = found_changed g task n r u.requests (subst (λ (rs : List OpenRequest). request_of rs n ≡ Some r) changed is) in
      (found.0, found.1, subst (Grows (output_in n LogStream e ++ []) (output_in n OutStream e ++ []) found.0) (sym found.2) (grows n (nat_eq n task) refl found.0))

-- by an output of its number, or of another
pub log_grows : (task place : ℕ) (bytes : List ℕ) (n : ℕ) (b : Bool) → nat_eq n task ≡ b → (q : Request)
    → Grows (output_in n LogStream (OutputEvent task LogStream place bytes) ++ []) (output_in n OutStream (OutputEvent task LogStream place bytes) ++ []) q (if b then with_taken (length bytes) q else q)
log_grows task place bytes n b at q = subst (λ (c : Bool). Grows ((if c then bytes else []) ++ []) ((if c then [] else []) ++ []) q (if b then with_taken (length bytes) q else q)) (sym at) (by b q)
  where
    by : (b : Bool) (q : Request) → Grows ((if b then bytes else []) ++ []) ((if b then [] else []) ++ []) q (if b then with_taken (length bytes) q else q)
    by true (NodeRequest label) = tt
    by true (TaskRequest x w f env script status keep taken kept) = (ap (λ (l : List ℕ). taken + length l) (sym (append-nil bytes)), sym (append-nil kept))
    by true (InputRequest id) = tt
    by false q = grows_nothing [] [] refl refl q

pub out_grows : (task place : ℕ) (bytes : List ℕ) (n : ℕ) (b : Bool) → nat_eq n task ≡ b → (q : Request)
    → Grows (output_in n LogStream (OutputEvent task OutStream place bytes) ++ []) (output_in n OutStream (OutputEvent task OutStream place bytes) ++ []) q (if b then with_kept bytes q else q)
out_grows task place bytes n b at q = subst (λ (c : Bool). Grows ((if c then [] else []) ++ []) ((if c then bytes else []) ++ []) q (if b then with_kept bytes q else q)) (sym at) (by b q)
  where
    by : (b : Bool) (q : Request) → Grows ((if b then [] else []) ++ []) ((if b then bytes else []) ++ []) q (if b then with_kept bytes q else q)
    by true (NodeRequest label) = tt
    by true (TaskRequest x w f env script status keep taken kept) = (let none : taken ≡ taken + 0 = omega arith in none, ap (λ (l : List ℕ). kept ++ l) (sym (append-nil bytes)))
    by true (InputRequest id) = tt
    by false q = grows_nothing [] [] refl refl q
