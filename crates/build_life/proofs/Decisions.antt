-- A decision of an open input is accepted, and so is a grant that is due.
use Rattle.std.proofs.Common.{arith, lit≤, sym, ◌≡◌, ◌<◌, ◌≤◌, ◌∙◌, ap, refl, subst, ℕ, suc, Bool, true, false, List, [], ◌∷◌, Option, Some, None}
use Rattle.std.specs.Prelude.{nat_eq, find, option_map, if◌then◌else◌}
use Rattle.std.proofs.lemmas.Bool.{eqb-true, eqb-false}
use Rattle.build_requests.specs.Waiting.{is_input_of, input_of}
use Rattle.model_syntax.specs.Nodes.{Node}
use Rattle.model_run.specs.declared.event.Event.TheVariants.{Decided as DecidedEvent, Granted as GrantedEvent}
use Rattle.model_run.specs.declared.request.OpenRequest.{OpenRequest}
use Rattle.model_run.specs.declared.request.Request.{Request}
use Rattle.model_run.specs.declared.request.Request.TheVariants.{Node as NodeRequest, Task as TaskRequest, Input as InputRequest}
use Rattle.model_run.specs.declared.taken.Taken.{Taken}
use Rattle.model_run.specs.declared.taken.Taken.TheVariants.{Accepted, NotOpen, Finished}
use Rattle.model_run.specs.declared.event.Event.{Event}
use Rattle.model_run.specs.Below.{Small}
use Rattle.model_run.specs.Fitting.{Rise}
use Rattle.model_run.specs.Requests.{numbers_of}
use Rattle.model_run.specs.State.{Setting}
use Rattle.model_run.specs.Taking.{request_of, is_input, accepted_if}
use Rattle.model_run.specs.Terms.{term}
use Rattle.model_run.specs.World.{answer_to, next_grant, world_in}
use Rattle.model_run.proofs.LaterWorlds.{open_of, world_requests}
use Rattle.model_run.proofs.RequestLaws.{some_all, rise_from}
use Rattle.model_run.proofs.DueLaws.{due_accepted}
use Rattle.model_syntax.specs.TreeNodes.{tree_node}
use Rattle.build_store.specs.Lower.durable_build.Settings.{IsProper}

input_is : (id : List ℕ) (q : Request) → is_input_of id q ≡ true → is_input (Some q) ≡ true
input_is id (InputRequest i) e = refl
input_is id (NodeRequest l) e = (let bad : false ≡ true = e in absurd (cc))
input_is id (TaskRequest x w f v s st k t o) e = (let bad : false ≡ true = e in absurd (cc))

same_number : (n : ℕ) → nat_eq n n ≡ true
same_number n = one (nat_eq n n) refl
  where
    one : (b : Bool) → nat_eq n n ≡ b → b ≡ true
    one true e = refl
    one false e = absurd (eqb-false _ _ e refl)

is_at_some : (o : Option Request) → is_input o ≡ true → (q : Request) × (o ≡ Some q)
is_at_some None e = (let bad : false ≡ true = e in absurd (cc))
is_at_some (Some q) e = (q, refl)

-- the first open input with an id is the request of its number
pub input_found : (id : List ℕ) (k m n : ℕ) (rs : List OpenRequest) → Rise k m (numbers_of rs) → input_of id rs ≡ Some n → is_input (request_of rs n) ≡ true
input_found id k m n [] rise found = absurd (cc)
input_found id k m n (r ∷ rs) rise found = one (is_input_of id r.request) refl found (input_found id (suc r.number) m n rs rise.2)
  where
    apart : (b : Bool) → nat_eq r.number n ≡ b → is_input (request_of rs n) ≡ true → is_input (option_map (λ (q : OpenRequest). q.request) (if b then Some r else find (λ q. nat_eq q.number n) rs)) ≡ true
    apart true e is =
        let some = is_at_some (request_of rs n) is in
        let above : r.number < n = some_all (λ q. suc r.number ≤ q.number) (λ q. q.number ≡ n) (r.number < n) (λ q le at. omega (arith, le, at)) rs (rise_from (suc r.number) m rs rise.2) (open_of n rs some.0 some.1) in
        let same : r.number ≡ n = eqb-true _ _ e in
        absurd (omega (arith, above, same))
    apart false e is = is

    one : (b : Bool) → is_input_of id r.request ≡ b → option_map (λ (q : OpenRequest). q.number) (if b then Some r else find (λ q. is_input_of id q.request) rs) ≡ Some n
        → (input_of id rs ≡ Some n → is_input (request_of rs n) ≡ true) → is_input (request_of (r ∷ rs) n) ≡ true
    one true e found more =
        let at : r.number ≡ n = cc in
        subst (λ k. is_input (request_of (r ∷ rs) k) ≡ true) at
        (ap (λ (b : Bool). is_input (option_map (λ (q : OpenRequest). q.request) (if b then Some r else find (λ q. nat_eq q.number r.number) rs))) (same_number r.number) ∙ input_is id r.request e)
    one false e found more = apart (nat_eq r.number n) refl (more found)

goes : (ended started : Bool) (a f : Taken) → ended ≡ false → started ≡ true → a ≡ Accepted → (if ended then Finished else if started then a else f) ≡ Accepted
goes true started a f e s is = absurd (cc)
goes false true a f e s is = is
goes false false a f e s is = absurd (cc)

module _ (setting : Setting) (p : Node) (e : setting.script ≡ term 0 p) (small : Small setting) where
  pub decision_accepted : (events : List Event) → (world_in setting events).started ≡ true → (world_in setting events).ended ≡ false → (id : List ℕ) (n : ℕ) (proceed : Bool) (name : List ℕ)
      → input_of id (world_in setting events).shared.requests ≡ Some n → answer_to setting (world_in setting events) (DecidedEvent n proceed name) ≡ Accepted
  decision_accepted events started going id n proceed name found =
      goes (world_in setting events).ended (world_in setting events).started (accepted_if (is_input (request_of (world_in setting events).shared.requests n))) NotOpen going started
      (ap accepted_if (input_found id 1 (world_in setting events).shared.next_request n (world_in setting events).shared.requests (world_requests setting p e small events).requests found))

module _ (setting : Setting) (proper : IsProper setting) where
  of_tree : setting.script ≡ term 0 (tree_node proper.tree)
  of_tree = ap (λ (s : Setting). s.script) proper.is

  small : Small setting
  small = subst Small (sym proper.is) (lit≤ tt)

  -- the grant that is due is accepted, and so is a decision of an open input
  pub grant_accepted : (events : List Event) → (world_in setting events).started ≡ true → (world_in setting events).ended ≡ false → (request executor : ℕ)
      → next_grant setting (world_in setting events) ≡ Some (request, executor) → answer_to setting (world_in setting events) (GrantedEvent request executor) ≡ Accepted
  grant_accepted events started going request executor due = due_accepted setting (tree_node proper.tree) of_tree small proper.numbered events started going request executor due

  pub decided : (events : List Event) → (world_in setting events).started ≡ true → (world_in setting events).ended ≡ false → (id : List ℕ) (n : ℕ) (proceed : Bool) (name : List ℕ)
      → input_of id (world_in setting events).shared.requests ≡ Some n → answer_to setting (world_in setting events) (DecidedEvent n proceed name) ≡ Accepted
  decided events started going id n proceed name found = decision_accepted setting (tree_node proper.tree) of_tree small events started going id n proceed name found
