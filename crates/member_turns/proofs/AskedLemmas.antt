-- The calls of a turn, and where in the history they were answered.
use Rattle.std.proofs.Common.{◌≡◌, ◌∙◌, ℕ, true, List, [], ◌∷◌, ◌++◌, ap, subst, append_assoc}
use Rattle.program_lock.specs.History.{has, entries, numbered, entries_of}
use Rattle.program_lock.proofs.HistoryLemmas.{entries-append, entries-numbered, under-none, under-numbered}
use Rattle.agent_worker.specs.declared.gate.GateCall.{GateCall}
use Rattle.member_turns.specs.Lower.locked_build.declared.ask.Ask.{Ask}
use Rattle.member_turns.specs.Lower.locked_build.declared.ask.Entry.{Entry}
use Rattle.member_turns.specs.Lower.locked_build.declared.ask.Reply.{Reply}
use Rattle.member_turns.specs.Saying.{AnswersCall, AreAnswered}
use Rattle.member_turns.proofs.PartLemmas.{all_map}
use Rattle.member_turns.proofs.TrailLemmas.{entries_of-append}
use Rattle.member_turns.specs.Rounds.{WereAsked, AllAsked}
use Rattle.member_turns.specs.Turns.{Turn}

-- entries of a call behind those of others, and more behind them
pub entries_call : (n : ℕ) (others : List (ℕ × Entry)) (new : List Entry) (later : List (ℕ × Entry)) → entries (others ++ (numbered n new ++ later)) ≡ entries others ++ (new ++ entries later)
entries_call n others new later = entries-append others (numbered n new ++ later)
    ∙ ap (λ (l : List Entry). entries others ++ l) (entries-append (numbered n new) later ∙ ap (λ (l : List Entry). l ++ entries later) (entries-numbered n new))

pub entries_here : (n : ℕ) (others : List (ℕ × Entry)) (new : List Entry) → entries (others ++ numbered n new) ≡ entries others ++ new
entries_here n others new = entries-append others (numbered n new) ∙ ap (λ (l : List Entry). entries others ++ l) (entries-numbered n new)

module _ (says : List Entry → Ask → Reply → List Entry → Type 0) where
  -- in the entries without their numbers
  pub were_asked : (ns : List ℕ) (n : ℕ) → has ns n ≡ true → (front : List (ℕ × Entry)) (calls : List GateCall) (rest : List (ℕ × Entry)) → AreAnswered says ns n front calls rest
      → WereAsked says (entries front) calls (entries_of ns rest) (entries rest)
  were_asked ns n its front [] rest a = ap entries (under-none ns rest a)
  were_asked ns n its front (call ∷ calls) rest a = (
    entries a.0,
    a.1,
    entries_of ns a.2,
    entries a.2,
    ap entries a.3 ∙ entries_call n a.0 a.1 a.2,
    ap (entries_of ns) a.3 ∙ entries_of-append ns a.0 (numbered n a.1 ++ a.2) ∙ ap (λ (l : List Entry). l ++ entries_of ns (numbered n a.1 ++ a.2)) (ap entries (under-none ns a.0 a.4))
        ∙ entries_of-append ns (numbered n a.1) a.2 ∙ ap (λ (l : List Entry). l ++ entries_of ns a.2) (ap entries (under-numbered ns n a.1 its) ∙ entries-numbered n a.1),
    subst (λ (l : List Entry). AnswersCall says l call a.1) (entries-append front a.0) a.5,
    subst (λ (l : List Entry). WereAsked says l calls (entries_of ns a.2) (entries a.2))
        (entries-append front (a.0 ++ numbered n a.1) ∙ ap (λ (l : List Entry). entries front ++ l) (entries_here n a.0 a.1))
        (were_asked ns n its (front ++ (a.0 ++ numbered n a.1)) calls a.2 a.6),
  )

  -- within more of the history
  pub asked_later : (front : List Entry) (calls : List GateCall) (own rest more : List Entry) → WereAsked says front calls own rest → WereAsked says front calls own (rest ++ more)
  asked_later front [] own rest more a = a
  asked_later front (call ∷ calls) own rest more a = (
    a.0,
    a.1,
    a.2,
    a.3 ++ more,
    ap (λ (l : List Entry). l ++ more) a.4 ∙ append_assoc a.0 (a.1 ++ a.3) more ∙ ap (λ (l : List Entry). a.0 ++ l) (append_assoc a.1 a.3 more),
    a.5,
    a.6,
    asked_later (front ++ (a.0 ++ a.1)) calls a.2 a.3 more a.7,
  )

  pub all_later : {H A : Type 0} (front rest more : List Entry) (turns : List (Turn H A)) → AllAsked says front rest turns → AllAsked says front (rest ++ more) turns
  all_later {H} {A} front rest more turns all =
      all_map (λ (turn : Turn H A). WereAsked says front turn.calls turn.own rest) (λ (turn : Turn H A). WereAsked says front turn.calls turn.own (rest ++ more)) turns
      (λ turn a. asked_later front turn.calls turn.own rest more a) all
