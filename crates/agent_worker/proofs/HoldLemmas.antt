-- What stands on an honest host, after a call on it and after a report.
use Rattle.std.proofs.Common.{◌≡◌, ◌⊎◌, ◌<◌, ◌≤◌, ◌+◌, ◌-◌, ◌^◌, ◌++◌, ◌∷◌, [], ℕ, ℤ, List, length, take, drop, Option, Some, IsSome, Ok, inl, inr, sym, ap, ◌∙◌, arith, subst, append-nil, length-append}
use Rattle.task_host.specs.declared.answers.Look.TheVariants as look
use Rattle.task_host.specs.declared.call.Call.TheVariants as call
use Rattle.agent_worker.specs.Types.{OutputEvent, Accepted, Order, Stream, Log, Out, Look}
use Rattle.agent_worker.specs.Acts.{Act, Called, Reported, kept, kept_before, accepted, latest_look, named}
use Rattle.agent_worker.specs.Causes.{FoundEnd}
use Rattle.task_host.specs.Host.{GoesOn}
use Rattle.agent_worker.specs.Delivering.{Holds, StandsFrom}
use Rattle.agent_worker.proofs.ListLemmas.{stands-grown, stands-more}

-- The task may have gone on: what it wrote stays in front, and once it is known to have ended nothing changes.
pub record Grew (output next_output : Stream → List ℕ) (ended next_ended : Option ℤ) : Type 0 where
  pub grows : (stream : Stream) → take (length (output stream)) (next_output stream) ≡ output stream
  pub stays : (stream : Stream) → IsSome ended → next_output stream ≡ output stream
  pub exit : IsSome ended → next_ended ≡ ended

pub grew-of : (task : ℕ) (exited next_exited : ℕ → Option ℤ) (output next_output : ℕ → Stream → List ℕ) → GoesOn task exited next_exited output next_output → Grew (output task) (next_output task) (exited task) (next_exited task)
grew-of task exited next_exited output next_output goes = record { grows = goes.grows; stays = goes.output_stays; exit = goes.exit_stays }

-- an act that gives the build nothing and is no look
pub holds-on : (order : Order) (output next_output : Stream → List ℕ) (ended next_ended : Option ℤ) (past : List Act) (act : Act)
    → ((stream : Stream) → accepted stream (act ∷ past) ≡ accepted stream past)
    → latest_look (act ∷ past) ≡ latest_look past
    → ((stream : Stream) (place : ℕ) → FoundEnd order stream place (act ∷ past) → FoundEnd order stream place past ⊎ (length (next_output stream) ≤ place))
    → Grew output next_output ended next_ended → Holds order output ended past → Holds order next_output next_ended (act ∷ past)
holds-on order output next_output ended next_ended past act same looks found grew holds = record {
  delivered = λ stream small.
      let P : List ℕ → Type 0 = λ bytes. StandsFrom (kept_before order stream) bytes (next_output stream) in
      let small_before : kept order stream past < 2 ^ 64 - 1 = omega (arith, small, ap length (same stream)) in
      subst P (sym (same stream)) (stands-grown (kept_before order stream) (accepted stream past) (output stream) (next_output stream) (grew.grows stream) (holds.delivered stream small_before));
  over = λ code said. let is = holds.over code (sym looks ∙ said) in subst IsSome (sym (grew.exit is)) is;
  read_out = λ code stream place said ends. by code stream place (sym looks ∙ said) (found stream place ends);
}
  where
    by : (code : ℤ) (stream : Stream) (place : ℕ) → latest_look past ≡ Some (look.Exited code) → FoundEnd order stream place past ⊎ (length (next_output stream) ≤ place) → length (next_output stream) ≤ place
    by code stream place said (inl ends) =
        let le = holds.read_out code stream place said ends in
        let same_output = grew.stays stream (holds.over code said) in
        omega (arith, le, ap length same_output)
    by code stream place said (inr le) = le

-- A look, which is right where it says that the task exited.
pub holds-looked : (order : Order) (output next_output : Stream → List ℕ) (ended next_ended : Option ℤ) (past : List Act) (o : Order) (answer : Look)
    → ((code : ℤ) → answer ≡ look.Exited code → IsSome next_ended)
    → Grew output next_output ended next_ended → Holds order output ended past → Holds order next_output next_ended (Called (call.Look o answer) ∷ past)
holds-looked order output next_output ended next_ended past o answer right grew holds = record {
  delivered = λ stream small. stands-grown (kept_before order stream) (accepted stream past) (output stream) (next_output stream) (grew.grows stream) (holds.delivered stream small);
  over = λ code said. let is : answer ≡ look.Exited code = cc in right code is;
  read_out = λ code stream place said ends. absurd (no_read stream place ends);
}
  where
    no_read : (stream : Stream) (place : ℕ) → FoundEnd order stream place (Called (call.Look o answer) ∷ past) → ⊥
    no_read stream place (inl is) = cc
    no_read stream place (inr (is, rest)) = cc

more-stands : (order : Order) (next_output : Stream → List ℕ) (past : List Act) (stream : Stream) (n : ℕ) (bytes : List ℕ)
    → bytes ≡ take n (drop (kept order stream past) (next_output stream))
    → kept_before order stream + length (accepted stream past ++ bytes) < 2 ^ 64 - 1
    → StandsFrom (kept_before order stream) (accepted stream past) (next_output stream)
    → StandsFrom (kept_before order stream) (accepted stream past ++ bytes) (next_output stream)
more-stands order next_output past stream n bytes is small before =
    let place : kept order stream past ≡ kept_before order stream + length (accepted stream past) = omega (arith, small, length-append (accepted stream past) bytes) in
    stands-more (kept_before order stream) n (accepted stream past) bytes (next_output stream) before (is ∙ ap (λ k. take n (drop k (next_output stream))) place)

-- Output that was accepted, from its kept place.
pub holds-output : (order : Order) (output : Stream → List ℕ) (ended : Option ℤ) (past : List Act) (stream : Stream) (place n : ℕ) (bytes : List ℕ)
    → place ≡ kept order stream past → bytes ≡ take n (drop place (output stream))
    → Holds order output ended past → Holds order output ended (Reported (OutputEvent order.task (named stream) place bytes) (Ok Accepted) ∷ past)
holds-output order output ended past stream place n bytes at is holds = record {
  delivered = by stream (is ∙ ap (λ k. take n (drop k (output stream))) at);
  over = holds.over;
  read_out = λ code s p said ends. holds.read_out code s p said (found s p ends);
}
  where
    found : (s : Stream) (p : ℕ) → FoundEnd order s p (Reported (OutputEvent order.task (named stream) place bytes) (Ok Accepted) ∷ past) → FoundEnd order s p past
    found s p (inl e) = cc
    found s p (inr (e, rest)) = rest

    other : (s : Stream) → kept order s past < 2 ^ 64 - 1 → StandsFrom (kept_before order s) (accepted s past ++ []) (output s)
    other s small = let P : List ℕ → Type 0 = λ l. StandsFrom (kept_before order s) l (output s) in subst P (sym (append-nil (accepted s past))) (holds.delivered s small)

    by : (stream : Stream) → bytes ≡ take n (drop (kept order stream past) (output stream)) → (s : Stream) → kept order s (Reported (OutputEvent order.task (named stream) place bytes) (Ok Accepted) ∷ past) < 2 ^ 64 - 1
        → StandsFrom (kept_before order s) (accepted s (Reported (OutputEvent order.task (named stream) place bytes) (Ok Accepted) ∷ past)) (output s)
    by Log are Log small = more-stands order output past Log n bytes are (omega (arith, small)) (holds.delivered Log (omega (arith, small, length-append (accepted Log past) bytes)))
    by Log are Out small = other Out (omega (arith, small, ap length (append-nil (accepted Out past))))
    by Out are Log small = other Log (omega (arith, small, ap length (append-nil (accepted Log past))))
    by Out are Out small = more-stands order output past Out n bytes are (omega (arith, small)) (holds.delivered Out (omega (arith, small, length-append (accepted Out past) bytes)))
