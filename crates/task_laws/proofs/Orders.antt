-- The outputs of one stream of a task follow each other; and where each of them stands on a host all of them do, put together.
use Rattle.std.proofs.Common.{arith, ◌≡◌, ◌+◌, ◌⊎◌, ◌∙◌, ap, sym, subst, refl, inl, inr, ℕ, Bool, true, false, List, [], ◌∷◌, ◌++◌, length, drop, Option, Some, None, append_assoc, append-nil}
use Rattle.std.specs.Prelude.{nat_eq, find, option_map, if◌then◌else◌}
use Rattle.std.proofs.lemmas.Bool.{eqb-true, eqb-false}
use Rattle.std.proofs.lemmas.List.{drop-drop, length-append}
use Rattle.std.proofs.Math.Seq.{drop-append_seam}
use Rattle.agent_worker.specs.Acts.{named}
use Rattle.agent_worker.specs.Delivering.{StandsFrom}
use Rattle.task_host.specs.declared.order.Stream.{Stream as HostStream}
use Rattle.launch_laws.specs.Fitting.{WasTask}
use Rattle.launch_laws.specs.ManyTurns.{AllTaken, IsTaken}
use Rattle.launch_laws.specs.Outputs.{Delivered, WasOutput}
use Rattle.launch_laws.proofs.TaskLaws.{one_executor}
use Rattle.model_syntax.specs.Nodes.{Node}
use Rattle.model_run.specs.declared.event.Event.{Event}
use Rattle.model_run.specs.declared.event.Event.TheVariants.{Start as StartEvent, Granted as GrantedEvent, Output as OutputEvent, Exited as ExitedEvent, Lost as LostEvent, Decided as DecidedEvent}
use Rattle.model_run.specs.declared.event.Stream.{Stream}
use Rattle.model_run.specs.declared.event.Stream.TheVariants.{Log as LogStream, Out as OutStream}
use Rattle.model_run.specs.declared.request.Request.{Request}
use Rattle.model_run.specs.declared.request.Request.TheVariants.{Node as NodeRequest, Task as TaskRequest, Input as InputRequest}
use Rattle.model_run.specs.declared.request.OpenRequest.{OpenRequest}
use Rattle.model_run.specs.declared.taken.Taken.TheVariants.{Accepted, NotOpen, WrongPlace}
use Rattle.model_run.specs.Below.{Small}
use Rattle.model_run.specs.Fitting.{Some_of}
use Rattle.model_run.specs.Requests.{IsTaskOf, RunsOn}
use Rattle.model_run.specs.State.{Setting}
use Rattle.model_run.specs.Taking.{kept, output_at, request_of}
use Rattle.model_run.specs.Terms.{term}
use Rattle.model_run.specs.World.{Build, answer_to, world_in}
use Rattle.model_run.proofs.LaterWorlds.{accepted_answer, open_of}
use Rattle.model_run.proofs.RequestLaws.{some_weaker}
use Rattle.model_run.proofs.RequestWorlds.{request_below}
use Rattle.task_laws.specs.Streams.{if_same, output_in, output_of, Grows, AreInOrder}
use Rattle.task_laws.proofs.Growing.{output-append}
use Rattle.task_laws.proofs.GrowLaws.{outputs_grow}

heads_same : {A : Type 0} (x y : A) (xs ys : List A) → x ∷ xs ≡ y ∷ ys → x ≡ y
heads_same x y xs ys is = cc

tails_same : {A : Type 0} (x y : A) (xs ys : List A) → x ∷ xs ≡ y ∷ ys → xs ≡ ys
tails_same x y xs ys is = cc

some_number : (a b : ℕ) → Some a ≡ Some b → a ≡ b
some_number a b e = cc

none_number : (a : ℕ) → None ≡ Some a → ⊥
none_number a e = cc

same_request : (a b : Request) → Some a ≡ Some b → a ≡ b
same_request a b e = cc

-- An output that is accepted goes on where its stream was left.
kept_there : (place : ℕ) (o : Option ℕ) → output_at place o ≡ Accepted → o ≡ Some place
kept_there place None is = let bad : NotOpen ≡ Accepted = is in absurd (cc)
kept_there place (Some k) is = by (nat_eq place k) refl is
  where
    by : (b : Bool) → nat_eq place k ≡ b → (if b then Accepted else WrongPlace k) ≡ Accepted → Some k ≡ Some place
    by true same is = ap (λ (n : ℕ). Some n) (sym (eqb-true _ _ same))
    by false other is = let bad : WrongPlace k ≡ Accepted = is in absurd (cc)

kept_open : (stream : Stream) (place : ℕ) (o : Option Request) → kept stream o ≡ Some place → (q : Request) × (o ≡ Some q) × (kept stream (Some q) ≡ Some place)
kept_open stream place (Some q) is = (q, refl, is)
kept_open LogStream place None is = absurd (none_number place is)
kept_open OutStream place None is = absurd (none_number place is)

accepted_at : (setting : Setting) (b : Build) (task place : ℕ) (stream : Stream) (bytes : List ℕ) → answer_to setting b (OutputEvent task stream place bytes) ≡ Accepted
    → (q : Request) × (request_of b.shared.requests task ≡ Some q) × (kept stream (Some q) ≡ Some place)
accepted_at setting b task place stream bytes is =
    kept_open stream place (request_of b.shared.requests task) (kept_there place (kept stream (request_of b.shared.requests task)) (accepted_answer b.ended b.started (output_at place (kept stream (request_of b.shared.requests task))) NotOpen (λ no. absurd (cc)) is))

-- the one of the two streams
chosen : Stream → List ℕ → List ℕ → List ℕ
chosen LogStream log out = log
chosen OutStream log out = out

chosen_is : (task : ℕ) (stream : Stream) (es : List Event) → chosen stream (output_of task LogStream es) (output_of task OutStream es) ≡ output_of task stream es
unfolding chosen
chosen_is task LogStream es = refl
chosen_is task OutStream es = refl

-- two places of one stream
places_apart : (stream : Stream) (log out : List ℕ) (q r : Request) (first place : ℕ) → Grows log out q r → kept stream (Some q) ≡ Some first → kept stream (Some r) ≡ Some place → place ≡ first + length (chosen stream log out)
unfolding chosen
places_apart LogStream log out (TaskRequest x w f e s st k t o) (TaskRequest x2 w2 f2 e2 s2 st2 k2 t2 o2) first place grows one two = let a : t ≡ first = some_number t first one in let b : t2 ≡ place = some_number t2 place two in omega (arith, a, b, grows.0)
places_apart LogStream log out (TaskRequest x w f e s st k t o) r first place grows one two = absurd grows
places_apart LogStream log out (NodeRequest label) r first place grows one two = absurd (none_number first one)
places_apart LogStream log out (InputRequest id) r first place grows one two = absurd (none_number first one)
places_apart OutStream log out (TaskRequest x w f e s st true t o) (TaskRequest x2 w2 f2 e2 s2 st2 true t2 o2) first place grows one two =
    let a : length o ≡ first = some_number (length o) first one in let b : length o2 ≡ place = some_number (length o2) place two in
    let both : length o2 ≡ length o + length out = ap length grows.1 ∙ length-append o out in omega (arith, a, b, both)
places_apart OutStream log out (TaskRequest x w f e s st true t o) (TaskRequest x2 w2 f2 e2 s2 st2 false t2 o2) first place grows one two = absurd (none_number place two)
places_apart OutStream log out (TaskRequest x w f e s st true t o) r first place grows one two = absurd grows
places_apart OutStream log out (TaskRequest x w f e s st false t o) r first place grows one two = absurd (none_number first one)
places_apart OutStream log out (NodeRequest label) r first place grows one two = absurd (none_number first one)
places_apart OutStream log out (InputRequest id) r first place grows one two = absurd (none_number first one)

-- events that were taken
taken_front : (setting : Setting) (before es fs : List Event) → AllTaken setting before (es ++ fs) → AllTaken setting before es
taken_front setting before [] fs all = tt
taken_front setting before (x ∷ es) fs all = (all.0, taken_front setting (before ++ x ∷ []) es fs all.1)

taken_at : (setting : Setting) (before es : List Event) (x : Event) (fs : List Event) → AllTaken setting before (es ++ x ∷ fs) → IsTaken setting (before ++ es) x
taken_at setting before [] x fs all = subst (λ (xs : List Event). IsTaken setting xs x) (sym (append-nil before)) all.0
taken_at setting before (y ∷ es) x fs all = subst (λ (xs : List Event). IsTaken setting xs x) (append_assoc before (y ∷ []) es) (taken_at setting (before ++ y ∷ []) es x fs all.1)

-- It is an output of this stream of the task, or none.
abbrev IsOutputOf : ℕ → Stream → Event → Type 0
IsOutputOf task stream x = (place : ℕ) × (bytes : List ℕ) × (x ≡ OutputEvent task stream place bytes)

record IsOther (task : ℕ) (stream : Stream) (x : Event) : Type 0 where
  nothing : output_in task stream x ≡ []
  never : IsOutputOf task stream x → ⊥

same_task : (t u p q : ℕ) (n m : Stream) (b c : List ℕ) → OutputEvent t n p b ≡ OutputEvent u m q c → t ≡ u
same_task t u p q n m b c is = cc

same_stream : (t u p q : ℕ) (n m : Stream) (b c : List ℕ) → OutputEvent t n p b ≡ OutputEvent u m q c → n ≡ m
same_stream t u p q n m b c is = cc

same_place : (t u p q : ℕ) (n m : Stream) (b c : List ℕ) → OutputEvent t n p b ≡ OutputEvent u m q c → p ≡ q
same_place t u p q n m b c is = cc

either : (task : ℕ) (stream : Stream) (x : Event) → IsOutputOf task stream x ⊎ IsOther task stream x
either task stream (OutputEvent t name place bytes) = on (nat_eq task t) refl
  where
    by : (stream name : Stream) → task ≡ t → IsOutputOf task stream (OutputEvent t name place bytes) ⊎ ((if_same stream name bytes ≡ []) × (IsOutputOf task stream (OutputEvent t name place bytes) → ⊥))
    by LogStream LogStream same = inl (place, bytes, ap (λ (n : ℕ). OutputEvent n LogStream place bytes) (sym same))
    by LogStream OutStream same = inr (refl, λ is. let bad : OutStream ≡ LogStream = same_stream t task place is.0 OutStream LogStream bytes is.1 is.2 in absurd (cc))
    by OutStream LogStream same = inr (refl, λ is. let bad : LogStream ≡ OutStream = same_stream t task place is.0 LogStream OutStream bytes is.1 is.2 in absurd (cc))
    by OutStream OutStream same = inl (place, bytes, ap (λ (n : ℕ). OutputEvent n OutStream place bytes) (sym same))

    then_so : nat_eq task t ≡ true → IsOutputOf task stream (OutputEvent t name place bytes) ⊎ ((if_same stream name bytes ≡ []) × (IsOutputOf task stream (OutputEvent t name place bytes) → ⊥)) → IsOutputOf task stream (OutputEvent t name place bytes) ⊎ IsOther task stream (OutputEvent t name place bytes)
    then_so same (inl is) = inl is
    then_so same (inr other) = inr (record { nothing = ap (λ (b : Bool). if b then if_same stream name bytes else []) same ∙ other.0; never = other.1 })

    on : (b : Bool) → nat_eq task t ≡ b → IsOutputOf task stream (OutputEvent t name place bytes) ⊎ IsOther task stream (OutputEvent t name place bytes)
    on true same = then_so same (by stream name (eqb-true _ _ same))
    on false other = inr (record {
      nothing = ap (λ (b : Bool). if b then if_same stream name bytes else []) other;
      never = λ is. eqb-false _ _ other (sym (same_task t task place is.0 name stream bytes is.1 is.2));
    })
either task stream (StartEvent script agents) = inr (record { nothing = refl; never = λ is. let bad : StartEvent script agents ≡ OutputEvent task stream is.0 is.1 = is.2 in absurd (cc) })
either task stream (GrantedEvent request executor) = inr (record { nothing = refl; never = λ is. let bad : GrantedEvent request executor ≡ OutputEvent task stream is.0 is.1 = is.2 in absurd (cc) })
either task stream (ExitedEvent t code) = inr (record { nothing = refl; never = λ is. let bad : ExitedEvent t code ≡ OutputEvent task stream is.0 is.1 = is.2 in absurd (cc) })
either task stream (LostEvent t why) = inr (record { nothing = refl; never = λ is. let bad : LostEvent t why ≡ OutputEvent task stream is.0 is.1 = is.2 in absurd (cc) })
either task stream (DecidedEvent request proceed name) = inr (record { nothing = refl; never = λ is. let bad : DecidedEvent request proceed name ≡ OutputEvent task stream is.0 is.1 = is.2 in absurd (cc) })

-- what an output outputs
its_bytes : (task : ℕ) (stream : Stream) (place : ℕ) (bytes : List ℕ) → output_in task stream (OutputEvent task stream place bytes) ≡ bytes
its_bytes task stream place bytes = ap (λ (b : Bool). if b then if_same stream stream bytes else []) (equal task) ∙ same stream
  where
    equal : (n : ℕ) → nat_eq n n ≡ true
    equal n = on (nat_eq n n) refl
      where
        on : (b : Bool) → nat_eq n n ≡ b → b ≡ true
        on true same = refl
        on false other = absurd (eqb-false _ _ other refl)

    same : (s : Stream) → if_same s s bytes ≡ bytes
    same LogStream = refl
    same OutStream = refl

no_end : (front rest : List Event) (x : Event) → [] ≡ front ++ x ∷ rest → ⊥
no_end [] rest x is = cc
no_end (y ∷ front) rest x is = cc

module _ (setting : Setting) (p : Node) (e : setting.script ≡ term 0 p) (small : Small setting) where
  -- The next output of the stream behind one begins where all since then end.
  next_place : (before front rest : List Event) (task : ℕ) (stream : Stream) (first place : ℕ) (bytes last : List ℕ)
      → AllTaken setting before (OutputEvent task stream first bytes ∷ front ++ OutputEvent task stream place last ∷ rest) → place ≡ first + length (output_of task stream (OutputEvent task stream first bytes ∷ front))
  next_place before front rest task stream first place bytes last all =
      let es : List Event = OutputEvent task stream first bytes ∷ front in
      let was = accepted_at setting (world_in setting before) task first stream bytes all.0.accepted in
      let here : IsTaken setting (before ++ es) (OutputEvent task stream place last) = taken_at setting before es (OutputEvent task stream place last) rest all in
      let is = accepted_at setting (world_in setting (before ++ es)) task place stream last here.accepted in
      let below = request_below setting p e small before task (open_of task (world_in setting before).shared.requests was.0 was.1) in
      let grown = outputs_grow setting p e small (world_in setting before).shared.next_request before es (omega arith) (taken_front setting before es (OutputEvent task stream place last ∷ rest) all) task is.0 below is.1 in
      let one : grown.0 ≡ was.0 = same_request grown.0 was.0 (sym grown.1 ∙ was.1) in
      subst (λ (l : List ℕ). place ≡ first + length l) (chosen_is task stream es)
      (places_apart stream (output_of task LogStream es) (output_of task OutStream es) grown.0 is.0 first place grown.2 (subst (λ (q : Request). kept stream (Some q) ≡ Some first) (sym one) was.2) is.2)

  -- The outputs of a stream of a task follow each other without a gap, from the place of the first one on.
  pub outputs_in_order : (before es : List Event) → AllTaken setting before es → (task : ℕ) (stream : Stream) → (first : ℕ) × AreInOrder task stream first es
  outputs_in_order before [] all task stream = (0, λ front rest place bytes is. absurd (no_end front rest (OutputEvent task stream place bytes) is))
  outputs_in_order before (x ∷ es) all task stream = on (either task stream x) (outputs_in_order (before ++ x ∷ []) es all.1 task stream)
    where
      first_here : (its : IsOutputOf task stream x) → (front rest : List Event) (place : ℕ) (bytes : List ℕ) → x ∷ es ≡ front ++ OutputEvent task stream place bytes ∷ rest → place ≡ its.0 + length (output_of task stream front)
      first_here its [] rest place bytes is =
          let same : place ≡ its.0 = sym (same_place task task its.0 place stream stream its.1 bytes (sym its.2 ∙ heads_same x (OutputEvent task stream place bytes) es rest is)) in omega (arith, same)
      first_here its (y ∷ front) rest place bytes is =
          let head : y ≡ OutputEvent task stream its.0 its.1 = sym (heads_same x y es (front ++ OutputEvent task stream place bytes ∷ rest) is) ∙ its.2 in
          let tail : es ≡ front ++ OutputEvent task stream place bytes ∷ rest = tails_same x y es (front ++ OutputEvent task stream place bytes ∷ rest) is in
          let all_so : AllTaken setting before (OutputEvent task stream its.0 its.1 ∷ front ++ OutputEvent task stream place bytes ∷ rest) =
          subst (λ (z : Event). AllTaken setting before (z ∷ front ++ OutputEvent task stream place bytes ∷ rest)) its.2 (subst (λ (zs : List Event). AllTaken setting before (x ∷ zs)) tail all) in
          subst (λ (z : Event). place ≡ its.0 + length (output_of task stream (z ∷ front))) (sym head) (next_place before front rest task stream its.0 place its.1 bytes all_so)

      later : IsOther task stream x → (more : (first : ℕ) × AreInOrder task stream first es) → (front rest : List Event) (place : ℕ) (bytes : List ℕ) → x ∷ es ≡ front ++ OutputEvent task stream place bytes ∷ rest → place ≡ more.0 + length (output_of task stream front)
      later other more [] rest place bytes is = absurd (other.never (place, bytes, heads_same x (OutputEvent task stream place bytes) es rest is))
      later other more (y ∷ front) rest place bytes is =
          let head : x ≡ y = heads_same x y es (front ++ OutputEvent task stream place bytes ∷ rest) is in
          let none : output_in task stream y ≡ [] = ap (output_in task stream) (sym head) ∙ other.nothing in
          subst (λ (l : List ℕ). place ≡ more.0 + length (l ++ output_of task stream front)) (sym none) (more.1 front rest place bytes (tails_same x y es (front ++ OutputEvent task stream place bytes ∷ rest) is))

      on : IsOutputOf task stream x ⊎ IsOther task stream x → (first : ℕ) × AreInOrder task stream first es → (first : ℕ) × AreInOrder task stream first (x ∷ es)
      on (inl its) more = (its.0, first_here its)
      on (inr other) more = (more.0, later other more)

-- Bytes that stand behind others stand with them.
joined : (first : ℕ) (xs ys output : List ℕ) → StandsFrom first xs output → StandsFrom (first + length xs) ys output → StandsFrom first (xs ++ ys) output
joined first xs ys output one two = (two.0, one.1 ∙ ap (λ (l : List ℕ). xs ++ l) rest ∙ sym (append_assoc xs ys two.0))
  where
    rest : one.0 ≡ ys ++ two.0
    rest = sym (drop-append_seam xs one.0) ∙ ap (drop (length xs)) (sym one.1) ∙ drop-drop (length xs) first output ∙ two.1

module _ (task : ℕ) (stream : Stream) (first : ℕ) (events : List Event) (output : List ℕ) (order : AreInOrder task stream first events)
    (each : (front rest : List Event) (place : ℕ) (bytes : List ℕ) → events ≡ front ++ OutputEvent task stream place bytes ∷ rest → StandsFrom place bytes output) where
  stand_behind : (front rest : List Event) → events ≡ front ++ rest → StandsFrom first (output_of task stream front) output → StandsFrom first (output_of task stream events) output
  stand_behind front [] is there = subst (λ (es : List Event). StandsFrom first (output_of task stream es) output) (sym (is ∙ append-nil front)) there
  stand_behind front (x ∷ rest) is there = stand_behind (front ++ x ∷ []) rest (is ∙ sym (append_assoc front (x ∷ []) rest)) (subst (λ (l : List ℕ). StandsFrom first l output) (sym (output-append task stream front (x ∷ []))) (on (either task stream x)))
    where
      on : IsOutputOf task stream x ⊎ IsOther task stream x → StandsFrom first (output_of task stream front ++ (output_in task stream x ++ [])) output
      on (inl its) =
          let at : events ≡ front ++ OutputEvent task stream its.0 its.1 ∷ rest = is ∙ ap (λ (z : Event). front ++ z ∷ rest) its.2 in
          let piece : StandsFrom (first + length (output_of task stream front)) its.1 output = subst (λ (n : ℕ). StandsFrom n its.1 output) (order front rest its.0 its.1 at) (each front rest its.0 its.1 at) in
          let same : output_in task stream x ++ [] ≡ its.1 = append-nil (output_in task stream x) ∙ ap (output_in task stream) its.2 ∙ its_bytes task stream its.0 its.1 in
          subst (λ (l : List ℕ). StandsFrom first (output_of task stream front ++ l) output) (sym same) (joined first (output_of task stream front) its.1 output there piece)
      on (inr other) = subst (λ (l : List ℕ). StandsFrom first l output) (sym (ap (λ (l : List ℕ). output_of task stream front ++ (l ++ [])) other.nothing ∙ append-nil (output_of task stream front))) there

  -- Where each of them stands on a host, from its place on, all of them do, put together.
  pub stand_together : StandsFrom first (output_of task stream events) output
  stand_together = stand_behind [] events refl (drop first output, refl)

-- the open request of a number
open_as : (n : ℕ) (q : Request) (rs : List OpenRequest) → request_of rs n ≡ Some q → Some_of (λ (r : OpenRequest). (r.number ≡ n) × (r.request ≡ q)) rs
open_as n q [] is = let bad : None ≡ Some q = is in absurd (cc)
open_as n q (r ∷ rs) is = on (nat_eq r.number n) refl is (open_as n q rs)
  where
    on : (b : Bool) → nat_eq r.number n ≡ b → option_map (λ (x : OpenRequest). x.request) (if b then Some r else find (λ (x : OpenRequest). nat_eq x.number n) rs) ≡ Some q → (request_of rs n ≡ Some q → Some_of (λ (x : OpenRequest). (x.number ≡ n) × (x.request ≡ q)) rs)
        → Some_of (λ (x : OpenRequest). (x.number ≡ n) × (x.request ≡ q)) (r ∷ rs)
    on true same found more = inl (eqb-true _ _ same, same_request r.request q found)
    on false other found more = inr (more found)

-- what has a kept place is a task of some executor
runs_on : (stream : Stream) (place : ℕ) (q : Request) → kept stream (Some q) ≡ Some place → (x : ℕ) × RunsOn x q
runs_on stream place (TaskRequest x w f env script status keep taken out) is = (x, refl)
runs_on LogStream place (NodeRequest label) is = absurd (none_number place is)
runs_on OutStream place (NodeRequest label) is = absurd (none_number place is)
runs_on LogStream place (InputRequest id) is = absurd (none_number place is)
runs_on OutStream place (InputRequest id) is = absurd (none_number place is)

module _ (setting : Setting) (p : Node) (e : setting.script ≡ term 0 p) (small : Small setting) (begun taken : List Event) (all : AllTaken setting begun taken) (executor : ℕ) (output : ℕ → HostStream → List ℕ)
    (delivered : Delivered setting (begun ++ taken) executor output) (task : ℕ) (was : WasTask setting (begun ++ taken) executor task) where
  -- an output of a task of the executor
  was_output : (stream : HostStream) (front rest : List Event) (place : ℕ) (bytes : List ℕ) → taken ≡ front ++ OutputEvent task (named stream) place bytes ∷ rest → WasOutput setting [] (begun ++ taken) executor task stream place bytes
  was_output stream front rest place bytes is =
      let x : Event = OutputEvent task (named stream) place bytes in
      let here : IsTaken setting (begun ++ front) x = taken_at setting begun front x rest (subst (AllTaken setting begun) is all) in
      let at : begun ++ taken ≡ (begun ++ front) ++ x ∷ rest = ap (λ (es : List Event). begun ++ es) is ∙ sym (append_assoc begun front (x ∷ rest)) in
      let found = accepted_at setting (world_in setting (begun ++ front)) task place (named stream) bytes here.accepted in
      let runs = runs_on (named stream) place found.0 found.2 in
      let its : IsTaskOf runs.0 task (world_in setting (begun ++ front)).shared =
      some_weaker (λ (r : OpenRequest). (r.number ≡ task) × (r.request ≡ found.0)) (λ (r : OpenRequest). (r.number ≡ task) × RunsOn runs.0 r.request) (λ r same. (same.0, subst (RunsOn runs.0) (sym same.1) runs.1)) (world_in setting (begun ++ front)).shared.requests
      (open_as task found.0 (world_in setting (begun ++ front)).shared.requests found.1) in
      let one : executor ≡ runs.0 = one_executor setting p e small (begun ++ taken) executor runs.0 task was (record { front = begun ++ front; rest = x ∷ rest; is = at; begun = here.begun; task_of = its }) in
      record { front = begun ++ front; rest = rest; is = at; task_of = subst (λ (y : ℕ). IsTaskOf y task (world_in setting (begun ++ front)).shared) (sym one) its }

  -- What was delivered piece by piece stands on the host put together: of a task of the executor all outputs of a stream, from the place of the
  -- first one on.
  pub delivered_together : (stream : HostStream) → (first : ℕ) × AreInOrder task (named stream) first taken × StandsFrom first (output_of task (named stream) taken) (output task stream)
  delivered_together stream =
      let order = outputs_in_order setting p e small begun taken all task (named stream) in
      (order.0, order.1, stand_together task (named stream) order.0 taken (output task stream) order.1 (λ front rest place bytes is. delivered task stream place bytes (was_output stream front rest place bytes is)))
