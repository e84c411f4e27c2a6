-- The turns of a serve: what stands before each, and how one follows another.
use Rattle.std.proofs.Common.{◌≡◌, ◌⊎◌, ◌<◌, ◌≤◌, ◌+◌, ◌-◌, ◌^◌, ◌∷◌, [], ℕ, ℤ, zero, suc, List, Bool, true, false, length, min, Option, Some, inl, inr, sym, ap, ◌∙◌, refl, arith, subst, add-one}
use Rattle.std.specs.Prelude.{MatchBool}
use Rattle.task_host.specs.Host.{Records, GoesOn}
use Rattle.task_host.specs.declared.call.Call.TheVariants as call
use Rattle.task_host.specs.declared.answers.Look.TheVariants as look
use Rattle.task_host.specs.declared.answers.Made.TheVariants as made
use Rattle.task_host.specs.declared.answers.Started.TheVariants as start
use Rattle.agent_worker.specs.declared.turn.Turn.{Turn}
use Rattle.agent_worker.specs.Types.{Why, NotStarted, Gone, Order, Stream, Log, Out, Call, Look}
use Rattle.agent_worker.specs.Acts.{Act, kept, latest_look, WasDone, made_dir, started, paused}
use Rattle.agent_worker.specs.Causes.{FoundEnd, IsVain, InVain, Exits, IsNotStarted, MayHaveStarted, IsCaused}
use Rattle.agent_worker.specs.Serving.{Opened, Starts, Exists, Fails, MayLook, HasNoEnd, lost}
use Rattle.agent_worker.specs.Serve.{Seen}
use Rattle.agent_worker.specs.Standing.{Stands}
use Rattle.agent_worker.specs.Turning.{Turned, Goes, Runs, Unread}
use Rattle.agent_worker.specs.Turning.{Fails as LookFails}
use Rattle.agent_worker.proofs.HoldLemmas.{grew-of, holds-on}
use Rattle.agent_worker.proofs.StandLemmas.{stands-called}

-- it was begun: the task was started, or its folder was there or may be
abbrev pub IsBegun : Order → List Act → Type 0
IsBegun order past = WasDone (started order start.Started) past ⊎ WasDone (made_dir order made.Exists) past ⊎ WasDone (made_dir order made.Failed) past

-- what stands before a turn, after so many vain ones in a row
pub record Awaits (honest : Type 0) (order : Order) (looks : ℕ) (old now : Seen) (log out vain : ℕ) (first : List Act) : Type 0 where
  pub past : List Act
  pub may : MayLook order past
  pub log_at : log ≡ kept order Log past
  pub out_at : out ≡ kept order Out past
  pub stands : Stands honest order looks old now past
  pub not_failed : WasDone (started order start.Failed) past → ⊥
  pub begun : IsBegun order past
  pub row : (vain ≡ 0) ⊎ ((before : List Act) × (past ≡ paused ∷ before) × InVain order vain before)
  pub no_more : (before : List Act) → past ≡ paused ∷ before → InVain order (suc vain) before → ⊥
  pub still : (act : Act) → WasDone act first → WasDone act past

-- more vain turns in a row are some
pub fewer : (order : Order) (n m : ℕ) (past : List Act) → InVain order (n + m) past → InVain order n past
fewer order zero m past all = tt
fewer order (suc zero) m past all = one m (subst (λ (k : ℕ). InVain order k past) sum all)
  where
    sum : suc zero + m ≡ suc m
    sum = omega arith

    one : (m : ℕ) → InVain order (suc m) past → (before : List Act) × IsVain order before past
    one zero all = all
    one (suc m) all = (paused ∷ all.0, all.1)
fewer order (suc (suc n)) m past all =
    let all_so = subst (λ (k : ℕ). InVain order k past) two all in
    (all_so.0, all_so.1, fewer order (suc n) m all_so.0 (subst (λ (k : ℕ). InVain order k all_so.0) (sym one) all_so.2))
  where
    two : suc (suc n) + m ≡ suc (suc (n + m))
    two = omega arith

    one : suc n + m ≡ suc (n + m)
    one = omega arith

first-kept : (place : ℕ) → place < 2 ^ 64 → place ≡ min (place + 0) (2 ^ 64 - 1)
first-kept place small = omega (arith, small)

-- the first turn
pub awaits-first : (honest : Type 0) (order : Order) (looks : ℕ) (old now : Seen) (past : List Act)
    → Opened order past → Stands honest order looks old now past → order.kept_log < 2 ^ 64 → order.kept_out < 2 ^ 64
    → Awaits honest order looks old now order.kept_log order.kept_out 0 past
awaits-first honest order looks old now _ Starts stands log out = record {
  past = started order start.Started ∷ made_dir order made.Made ∷ [];
  may = inl Starts;
  log_at = first-kept order.kept_log log;
  out_at = first-kept order.kept_out out;
  stands = stands;
  not_failed = λ done. no_failed done;
  begun = inl (inl refl);
  row = inl refl;
  no_more = λ before is vain. cc;
  still = λ act done. done;
}
  where
    no_failed : WasDone (started order start.Failed) (started order start.Started ∷ made_dir order made.Made ∷ []) → ⊥
    no_failed (inl is) = cc
    no_failed (inr (inl is)) = cc
    no_failed (inr (inr none)) = elim none [ ]
awaits-first honest order looks old now _ Exists stands log out = record {
  past = made_dir order made.Exists ∷ [];
  may = inl Exists;
  log_at = first-kept order.kept_log log;
  out_at = first-kept order.kept_out out;
  stands = stands;
  not_failed = λ done. no_failed done;
  begun = inr (inl (inl refl));
  row = inl refl;
  no_more = λ before is vain. cc;
  still = λ act done. done;
}
  where
    no_failed : WasDone (started order start.Failed) (made_dir order made.Exists ∷ []) → ⊥
    no_failed (inl is) = cc
    no_failed (inr none) = elim none [ ]
awaits-first honest order looks old now _ Fails stands log out = record {
  past = made_dir order made.Failed ∷ [];
  may = inl Fails;
  log_at = first-kept order.kept_log log;
  out_at = first-kept order.kept_out out;
  stands = stands;
  not_failed = λ done. no_failed done;
  begun = inr (inr (inl refl));
  row = inl refl;
  no_more = λ before is vain. cc;
  still = λ act done. done;
}
  where
    no_failed : WasDone (started order start.Failed) (made_dir order made.Failed ∷ []) → ⊥
    no_failed (inl is) = cc
    no_failed (inr none) = elim none [ ]

-- How a turn ended that goes on.
goes-not-exited : (turn : Turn) → Goes turn → (code : ℤ) → turn.look ≡ look.Exited code → turn.failed ≡ true
goes-not-exited turn (Runs is) code e = cc
goes-not-exited turn (LookFails is) code e = cc
goes-not-exited turn (Unread code2 is failed) code e = failed

goes-started : (turn : Turn) → Goes turn → (turn.look ≡ look.NotStarted) ⊎ (turn.look ≡ look.Absent) → ⊥
goes-started turn (Runs is) (inl e) = cc
goes-started turn (Runs is) (inr e) = cc
goes-started turn (LookFails is) (inl e) = cc
goes-started turn (LookFails is) (inr e) = cc
goes-started turn (Unread code is failed) (inl e) = cc
goes-started turn (Unread code is failed) (inr e) = cc

goes-vain : (turn : Turn) → Goes turn → (turn.look ≡ look.Running) ⊎ (turn.look ≡ look.Failed) ⊎ (turn.failed ≡ true)
goes-vain turn (Runs is) = inl is
goes-vain turn (LookFails is) = inr (inl is)
goes-vain turn (Unread code is failed) = inr (inr failed)

-- one vain turn more
one-more : (order : Order) (vain : ℕ) (past next : List Act) → (vain ≡ 0) ⊎ ((before : List Act) × (past ≡ paused ∷ before) × InVain order vain before) → IsVain order past next → InVain order (suc vain) next
one-more order zero past next row vain = (past, vain)
one-more order (suc n) past next (inl is) vain = absurd (omega (arith, is))
one-more order (suc n) past next (inr (before, is, all)) vain = (before, subst (λ (p : List Act). IsVain order p next) is vain, all)

-- the vain turns in a row, after this one
counted : (order : Order) (vain count : ℕ) (turn : Turn) (past next : List Act)
    → (vain ≡ 0) ⊎ ((before : List Act) × (past ≡ paused ∷ before) × InVain order vain before)
    → Turned order past next turn → Goes turn → (bytes : Bool) → turn.bytes ≡ bytes → MatchBool bytes (count ≡ 0) (count ≡ vain + 1)
    → InVain order count next
counted order vain count turn past next row turned goes true is count_is = subst (λ (k : ℕ). InVain order k next) (sym count_is) tt
counted order vain count turn past next row turned goes false is count_is =
    subst (λ (k : ℕ). InVain order k next) (sym (count_is ∙ add-one vain)) (one-more order vain past next row (turned.vain is (goes-vain turn goes)))

-- and no more of them
no-further : (order : Order) (vain count : ℕ) (turn : Turn) (past next : List Act)
    → ((before : List Act) → past ≡ paused ∷ before → InVain order (suc vain) before → ⊥)
    → Turned order past next turn → (bytes : Bool) → turn.bytes ≡ bytes → MatchBool bytes (count ≡ 0) (count ≡ vain + 1)
    → InVain order (suc count) next → ⊥
no-further order vain count turn past next no_more turned true is count_is all =
    let one = subst (λ (k : ℕ). InVain order (suc k) next) count_is all in
    turned.not_vain is one.0 one.1
no-further order vain count turn past next no_more turned false is count_is all =
    let two = subst (λ (k : ℕ). InVain order (suc k) next) (count_is ∙ add-one vain) all in
    no_more two.0 (sym (turned.only is (paused ∷ two.0) two.1)) two.2

still-begun : (order : Order) (past next : List Act) → ((act : Act) → WasDone act past → WasDone act next) → IsBegun order past → IsBegun order next
still-begun order past next still (inl done) = inl (still _ done)
still-begun order past next still (inr (inl done)) = inr (inl (still _ done))
still-begun order past next still (inr (inr done)) = inr (inr (still _ done))

-- No last event has a cause where a turn goes on and there were too few vain ones.
pub goes-on : (order : Order) (looks vain count : ℕ) (turn : Turn) (past next : List Act)
    → (WasDone (started order start.Failed) past → ⊥)
    → ((before : List Act) → past ≡ paused ∷ before → InVain order (suc vain) before → ⊥)
    → Turned order past next turn → Goes turn → count < looks → MatchBool turn.bytes (count ≡ 0) (count ≡ vain + 1)
    → HasNoEnd order looks next
goes-on order looks vain count turn past next not_failed no_more turned goes few count_is = record {
  not_exited = λ code caused. not_exited code caused.1;
  not_lost = λ why caused. not_lost why caused;
}
  where
    not_exited : (code : ℤ) → Exits order code next → ⊥
    not_exited code exits =
        let said : turn.look ≡ look.Exited code = some-same (sym turned.said ∙ exits.said) in
        turned.not_read_out (goes-not-exited turn goes code said) exits.read_out
      where
        some-same : {l m : Look} → Some l ≡ Some m → l ≡ m
        some-same e = cc

    not_started : IsNotStarted order next → ⊥
    not_started not_so = by not_so.said
      where
        by : WasDone (started order start.Failed) next
            ⊎ (((latest_look next ≡ Some look.NotStarted) ⊎ (latest_look next ≡ Some look.Absent))
            × (WasDone (started order start.Started) next ⊎ WasDone (made_dir order made.Exists) next ⊎ WasDone (made_dir order made.Failed) next)) → ⊥
        by (inl done) = not_failed (turned.not_failed done)
        by (inr (inl is, begun)) = let said = turned.said in let e : turn.look ≡ look.NotStarted = cc in goes-started turn goes (inl e)
        by (inr (inr is, begun)) = let said = turned.said in let e : turn.look ≡ look.Absent = cc in goes-started turn goes (inr e)

    gone : InVain order looks next → ⊥
    gone all =
        let sum : looks ≡ suc count + (looks - suc count) = omega (arith, few) in
        no-further order vain count turn past next no_more turned turn.bytes refl count_is (fewer order (suc count) (looks - suc count) next (subst (λ (k : ℕ). InVain order k next) sum all))

    not_lost : (why : Why) → IsCaused order looks next (lost order why) → ⊥
    not_lost NotStarted caused = not_started caused.1
    not_lost Gone caused = gone caused.2

-- The next turn, after a pause.
pub awaits-next : (honest before : Type 0) (order : Order) (looks vain count : ℕ) (old now : Seen) (log out : ℕ) (turn : Turn) (past next : List Act) (calls : Option (List Call)) (output : ℕ → Stream → List ℕ) (exited_now : ℕ → Option ℤ)
    → (WasDone (started order start.Failed) past → ⊥) → IsBegun order past
    → (vain ≡ 0) ⊎ ((b : List Act) × (past ≡ paused ∷ b) × InVain order vain b)
    → ((b : List Act) → past ≡ paused ∷ b → InVain order (suc vain) b → ⊥)
    → Stands before order looks old now next → log ≡ kept order Log next → out ≡ kept order Out next
    → Turned order past next turn → Goes turn → count < looks → MatchBool turn.bytes (count ≡ 0) (count ≡ vain + 1)
    → (first : List Act) → ((act : Act) → WasDone act first → WasDone act next)
    → (honest → before) → Records now.calls calls call.Pause → (before → GoesOn order.task now.exited exited_now now.output output)
    → Awaits honest order looks old (record now { calls = calls; output = output; exited = exited_now }) log out count first
awaits-next honest before order looks vain count old now log out turn past next calls output exited_now not_failed begun row no_more stands log_at out_at turned goes few count_is first still is_honest kept_call goes_so = record {
  past = paused ∷ next;
  may = inr (next, refl);
  log_at = log_at;
  out_at = out_at;
  stands = stands-called honest before order looks old now next call.Pause calls output exited_now stands is_honest kept_call (goes-on order looks vain count turn past next not_failed no_more turned goes few count_is, turned.told, turned.in_turn, turned.read_through) goes_so
      (λ is holds. holds-on order (now.output order.task) (output order.task) (now.exited order.task) (exited_now order.task) next paused (λ s. refl) refl found
      (grew-of order.task now.exited exited_now now.output output (goes_so is)) holds);
  not_failed = λ done. failed_so done;
  begun = still-begun order next (paused ∷ next) (λ act done. inr done) (still-begun order past next turned.still_done begun);
  row = inr (next, refl, counted order vain count turn past next row turned goes turn.bytes refl count_is);
  no_more = λ b is all. let same : next ≡ b = cc in no-further order vain count turn past next no_more turned turn.bytes refl count_is (subst (InVain order (suc count)) (sym same) all);
  still = λ act done. inr (still act done);
}
  where
    found : (s : Stream) (p : ℕ) → FoundEnd order s p (paused ∷ next) → FoundEnd order s p next ⊎ (length (output order.task s) ≤ p)
    found s p (inl e) = cc
    found s p (inr (none, rest)) = inl rest

    failed_so : WasDone (started order start.Failed) (paused ∷ next) → ⊥
    failed_so (inl is) = cc
    failed_so (inr done) = not_failed (turned.not_failed done)

-- The causes of the last events, after a turn.
pub exits-so : (order : Order) (code : ℤ) (turn : Turn) (past next : List Act) → Turned order past next turn → turn.look ≡ look.Exited code → turn.failed ≡ false → Exits order code next
exits-so order code turn past next turned is not_failed = record { said = turned.said ∙ ap (λ l. Some l) is; read_out = turned.read_out not_failed }

pub not-started-so : (order : Order) (turn : Turn) (past next : List Act) → Turned order past next turn → IsBegun order past → (turn.look ≡ look.NotStarted) ⊎ (turn.look ≡ look.Absent) → IsNotStarted order next
not-started-so order turn past next turned begun (inl is) = record { said = inr (inl (turned.said ∙ ap (λ l. Some l) is), still-begun order past next turned.still_done begun) }
not-started-so order turn past next turned begun (inr is) = record { said = inr (inr (turned.said ∙ ap (λ l. Some l) is), still-begun order past next turned.still_done begun) }

pub may-have-started : (order : Order) (turn : Turn) (past next : List Act) → Turned order past next turn → Goes turn → MayHaveStarted next
may-have-started order turn past next turned goes = (λ is. goes-started turn goes (inl (some-same (sym turned.said ∙ is))), λ is. goes-started turn goes (inr (some-same (sym turned.said ∙ is))))
  where
    some-same : {l m : Look} → Some l ≡ Some m → l ≡ m
    some-same e = cc

pub gone-so : (order : Order) (looks vain : ℕ) (turn : Turn) (past next : List Act) → Turned order past next turn → Goes turn → turn.bytes ≡ false → vain + 1 ≡ looks
    → (vain ≡ 0) ⊎ ((before : List Act) × (past ≡ paused ∷ before) × InVain order vain before) → InVain order looks next
gone-so order looks vain turn past next turned goes is all row =
    subst (λ (k : ℕ). InVain order k next) (sym (add-one vain) ∙ all) (one-more order vain past next row (turned.vain is (goes-vain turn goes)))
