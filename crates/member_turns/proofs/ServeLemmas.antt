-- A member's work through a pass of its own, by what its gate told.
use Rattle.std.proofs.Common.{◌≡◌, ◌∙◌, ℕ, false, List, [], Option, Some, refl, sym, ap, subst}
use Rattle.program_lock.specs.declared.program.PassOf.{PassOf}
use Rattle.program_lock.specs.declared.view.Known.{Known}
use Rattle.program_lock.specs.Legal.{Answers}
use Rattle.program_lock.specs.Passes.{known, own_entries}
use Rattle.program_lock.specs.History.{entries_of}
use Rattle.agent_worker.specs.declared.gate.Said.TheVariants.{Nothing}
use Rattle.agent_worker.specs.declared.member.Member.{Member}
use Rattle.agent_worker.specs.declared.worked.Worked.{Worked}
use Rattle.agent_worker.specs.Gate.{GateTells}
use Rattle.member_turns.specs.Lower.locked_build.declared.ask.Ask.{Ask}
use Rattle.member_turns.specs.Lower.locked_build.declared.ask.Entry.{Entry}
use Rattle.member_turns.specs.Lower.locked_build.declared.ask.Reply.{Reply}
use Rattle.member_turns.specs.Tales.{tells_of}
use Rattle.member_turns.specs.Served.{WorksThrough}
use Rattle.member_turns.proofs.TurnsLemmas.{executed}
use Rattle.member_turns.specs.Turns.{Turn, Work, DidTurn}
use Rattle.member_turns.proofs.RoundLemmas.{launched_in}
use Rattle.member_turns.specs.Serving.{Served, Serves}
use Rattle.task_host.specs.View.{HostView}
use Rattle.jp_io.specs.View.{SourceView}

module _ {H A : Type 0} (host : HostView H) (source : SourceView A) (looks : ℕ) where
  abbrev Works : Member H A → Member H A → Worked → GateTells → GateTells → Type 0
  Works m n worked from to = Work host source looks m n worked from to

  pub served : {B : Type 0} (answers : Answers B Entry Ask Reply) (v w : Known Entry B) (m n : Member H A) (worked : Worked) → entries_of v.numbers v.seen ≡ [] → WorksThrough answers (Works m n worked) v w
      → Served (DidTurn host source looks) answers m n v w
  served answers v w m n worked none t =
      let own : List Entry = entries_of w.numbers w.seen in
      let works : Works m n worked (tells_of [] [] Nothing false) (tells_of own t.calls t.said t.is_open) =
      subst (λ (es : List Entry). Works m n worked (tells_of es [] Nothing false) (tells_of own t.calls t.said t.is_open)) none t.worked in
      let done = executed host source looks m n own t.calls t.said t.is_open worked works in
      let added = launched_in host source looks m n worked own t.calls done in
      record {
        turn = record { old = m; now = n; worked = worked; own = own; calls = t.calls; said = t.said; is_open = t.is_open; launches = added.0 };
        old_is = refl;
        now_is = refl;
        own = refl;
        did = record { works = works; executed = done; launched = added.1 };
        numbers = t.numbers;
        parts = t.parts;
        answered = t.answered;
      }

some_same : {X : Type 0} (a b : X) → Some a ≡ Some b → a ≡ b
some_same a b e = cc

-- a pass that was there is the one that was taken
pub serves_seat : {S B H A : Type 0} (Did : Turn H A → Type 0) (answers : Answers B Entry Ask Reply) (before : Option (PassOf S Entry B)) (taken q : PassOf S Entry B) (m n : Member H A) → before ≡ Some taken
    → q.seat.table_id ≡ taken.seat.table_id → (own_entries taken ≡ [] → Served Did answers m n (known taken) (known q)) → Serves Did answers before (Some q) m n
serves_seat Did answers before taken q m n is table did = λ p has fresh. let same = some_same taken p (sym is ∙ has) in
    (q, refl, table ∙ ap (λ x. x.seat.table_id) same, subst (λ x. Served Did answers m n (known x) (known q)) same (did (ap own_entries same ∙ fresh)))
