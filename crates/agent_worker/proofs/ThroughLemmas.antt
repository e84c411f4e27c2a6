-- Reading a stream through: what was read so far, and how it ends.
use Rattle.std.proofs.Common.{◌≡◌, ◌∷◌, [], ℕ, List, Bool, true, false, Option, Some, None, Ok, sym, ap, ◌∙◌, refl, subst}
use Rattle.std.specs.Prelude.{MatchBool}
use Rattle.agent_worker.specs.declared.reading.Piece.TheVariants as piece
use Rattle.agent_worker.specs.Types.{Event, OutputEvent, Accepted, Order, Stream}
use Rattle.agent_worker.specs.Acts.{Act, Reported, named, kept, read, unreported, WasDone}
use Rattle.agent_worker.specs.Serving.{IsInTurn}
use Rattle.agent_worker.specs.Serve.{Seen}
use Rattle.agent_worker.specs.Standing.{Stands}
use Rattle.agent_worker.specs.Reading.{TakesIn, None_yet, More, ReadsPiece, ReadsThrough}

-- reads with their reports leave a turn on
pub takes-in-turn : (order : Order) (stream : Stream) (past next : List Act) → TakesIn order stream past next → IsInTurn past → IsInTurn next
takes-in-turn order stream past _ None_yet turning = turning
takes-in-turn order stream past _ (More place bytes next some takes) turning = (refl, refl, takes-in-turn order stream past next takes turning)

-- its latest act is a report that was accepted, behind another
abbrev pub EndsTaken : List Act → Type 0
EndsTaken next = (act : Act) × (rest : List Act) × (event : Event) × (next ≡ Reported event (Ok Accepted) ∷ act ∷ rest)

-- what was read so far, from a place on
pub record ReadSoFar (honest : Type 0) (order : Order) (looks : ℕ) (stream : Stream) (old now : Seen) (place : ℕ) (past : List Act) (bytes : Bool) : Type 0 where
  pub next : List Act
  pub stands : Stands honest order looks old now next
  pub at : place ≡ kept order stream next
  pub takes : TakesIn order stream past next
  pub some : MatchBool bytes (EndsTaken next) (next ≡ past)
  pub all : unreported next ≡ []
  pub still : (act : Act) → WasDone act past → WasDone act next

-- one piece more
pub so-far-more : (honest : Type 0) (order : Order) (looks : ℕ) (stream : Stream) (old before now : Seen) (place new_place : ℕ) (past : List Act) (bytes : Bool) (h : Type 0)
    → (so : ReadSoFar h order looks stream old before place past bytes)
    → ReadsPiece honest order looks stream old now place new_place so.next (Ok piece.Bytes)
    → ReadSoFar honest order looks stream old now new_place past true
so-far-more honest order looks stream old before now place new_place past bytes h so one = record {
  next = one.next;
  stands = one.stands;
  at = one.adds.3;
  takes = subst (TakesIn order stream past) (sym one.adds.2) (More place one.adds.0 so.next one.adds.1 so.takes);
  some = (read order stream place (Some one.adds.0), so.next, OutputEvent order.task (named stream) place one.adds.0, one.adds.2);
  all = ap unreported one.adds.2;
  still = λ act done. one.still act (so.still act done);
}

-- the end, where a read gave nothing or failed
ends : (honest : Type 0) (order : Order) (looks : ℕ) (stream : Stream) (old before now : Seen) (place new_place : ℕ) (past : List Act) (bytes failed : Bool) (given : Option (List ℕ)) (h : Type 0)
    → (so : ReadSoFar h order looks stream old before place past bytes)
    → (next : List Act) → Stands honest order looks old now next → next ≡ read order stream place given ∷ so.next → new_place ≡ place
    → MatchBool failed (given ≡ None) (given ≡ Some [])
    → ((act : Act) → WasDone act past → WasDone act next)
    → ReadsThrough honest order looks stream old now new_place past (Ok (record { bytes = bytes; failed = failed }))
ends honest order looks stream old before now place new_place past bytes failed given h so next stands is same how still = record {
  next = next;
  stands = stands;
  adds = (
    so.next,
    given,
    is ∙ ap (λ (p : ℕ). read order stream p given ∷ so.next) (sym same),
    same ∙ so.at ∙ ap (kept order stream) (sym is),
    so.takes,
    how,
    so.some,
  );
  still = still;
}

pub so-far-ends : (honest : Type 0) (order : Order) (looks : ℕ) (stream : Stream) (old before now : Seen) (place new_place : ℕ) (past : List Act) (bytes : Bool) (h : Type 0)
    → (so : ReadSoFar h order looks stream old before place past bytes)
    → ReadsPiece honest order looks stream old now place new_place so.next (Ok piece.Nothing)
    → ReadsThrough honest order looks stream old now new_place past (Ok (record { bytes = bytes; failed = false }))
so-far-ends honest order looks stream old before now place new_place past bytes h so one =
    ends honest order looks stream old before now place new_place past bytes false (Some []) h so one.next one.stands one.adds.0 one.adds.1 refl (λ act done. one.still act (so.still act done))

pub so-far-fails : (honest : Type 0) (order : Order) (looks : ℕ) (stream : Stream) (old before now : Seen) (place new_place : ℕ) (past : List Act) (bytes : Bool) (h : Type 0)
    → (so : ReadSoFar h order looks stream old before place past bytes)
    → ReadsPiece honest order looks stream old now place new_place so.next (Ok piece.Failed)
    → ReadsThrough honest order looks stream old now new_place past (Ok (record { bytes = bytes; failed = true }))
so-far-fails honest order looks stream old before now place new_place past bytes h so one =
    ends honest order looks stream old before now place new_place past bytes true None h so one.next one.stands one.adds.0 one.adds.1 refl (λ act done. one.still act (so.still act done))
