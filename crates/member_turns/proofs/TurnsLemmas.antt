-- A turn of a member, put together from its calls on the lock.
use Rattle.std.proofs.Common.{◌≡◌, ◌<◌, arith, ℕ, ℤ, Bool, false, List, [], ◌++◌, length, Option, Some, sym, ap, ◌∙◌, subst, append_assoc}
use Rattle.program_lock.specs.declared.view.Known.{Known}
use Rattle.program_lock.specs.History.{entries_of, NoneUnder}
use Rattle.program_lock.specs.Calls.{Splits, Joins}
use Rattle.program_lock.proofs.PartLemmas.{parts-split, parts-join}
use Rattle.program_lock.specs.Views.{all_parts}
use Rattle.program_lock.specs.Legal.{Answers}
use Rattle.agent_worker.specs.declared.gate.GateCall.{GateCall}
use Rattle.agent_worker.specs.declared.gate.Said.{Said}
use Rattle.agent_worker.specs.declared.gate.Said.TheVariants.{Nothing}
use Rattle.agent_worker.specs.declared.member.Member.{Member}
use Rattle.agent_worker.specs.declared.member.Member.TheVariants.{Executor, Operator}
use Rattle.agent_worker.specs.declared.worked.Worked.{Worked}
use Rattle.agent_worker.specs.Gate.{GateTells}
use Rattle.agent_worker.specs.MemberWork.{WorksAs}
use Rattle.agent_worker.specs.Working.{telling}
use Rattle.locked_build.specs.declared.ask.Ask.{Ask}
use Rattle.locked_build.specs.declared.ask.Entry.{Entry}
use Rattle.locked_build.specs.declared.ask.Reply.{Reply}
use Rattle.member_turns.specs.Saying.{AreAnswered, WereAnswered}
use Rattle.member_turns.specs.Tales.{tells_of}
use Rattle.member_turns.specs.Served.{WorksThrough, Executed}
use Rattle.member_turns.proofs.TrailLemmas.{same_front, answered_later}
use Rattle.member_turns.proofs.TurnLaws.{executor_turn}
use Rattle.task_host.specs.View.{HostView}
use Rattle.jp_io.specs.View.{SourceView}

-- The calls of a gate whose pass was taken in: what was seen of the history then, and what the pass had seen before, are beginnings of one
-- history. They were answered behind the latter.
pub answered_joined : {B : Type 0} (answers : Answers B Entry Ask Reply) (ns : List ℕ) (n : ℕ) (had : List (ℕ × Entry)) (other w : Known Entry B) (calls : List GateCall) (theirs mine : List (ℕ × Entry))
    → other.base ≡ w.base → other.seen ++ theirs ≡ w.seen → NoneUnder ns theirs → had ++ mine ≡ w.seen → WereAnswered answers ns n (length had) other calls
    → (base : B) → w.base ≡ Some base → AreAnswered (answers base) ns n had calls mine
answered_joined answers ns n had other w calls theirs mine same on none begins s base is =
    let fronts = same_front s.front had (s.rest ++ theirs) mine
    (sym (append_assoc s.front s.rest theirs) ∙ ap (λ (l : List (ℕ × Entry)). l ++ theirs) s.begins ∙ on ∙ sym begins) s.long in
    subst (λ (l : List (ℕ × Entry)). AreAnswered (answers base) ns n had calls l) fronts.1
    (subst (λ (l : List (ℕ × Entry)). AreAnswered (answers base) ns n l calls (s.rest ++ theirs)) fronts.0
    (answered_later (answers base) ns n s.front calls s.rest theirs none (s.answered base (same ∙ is))))

-- a pass that had all parts has them again
pub whole_again : {B : Type 0} (v u new other w : Known Entry B) → Splits v u new → other.parts ≡ new.parts → Joins u other w → v.parts ≡ all_parts → w.parts ≡ all_parts
whole_again v u new other w s same j whole =
    let some : 1 < v.parts = omega arith in
    let both = parts-split v u new s some in
    let joined = parts-join u other w j in
    omega arith

module _ {H A : Type 0} (host : HostView H)
    (source : SourceView A) (looks : ℕ) where
  -- a member's work, by what its gate told before it and tells after it
  abbrev Work : Member H A → Member H A → Worked → GateTells → GateTells → Type 0
  Work m m' worked old now = WorksAs host (telling host (λ t. t)) (λ t. t) source looks m m' old now worked

  pub works_by : {G : Type 0} (tells : G → GateTells) (m m' : Member H A) (g g' : G) (worked : Worked)
      → WorksAs host (telling host tells) tells source looks m m' g g' worked → Work m m' worked (tells g) (tells g')
  works_by tells (Executor number machine) (Executor now next) g g' worked w = w
  works_by tells (Operator answers line ended failed) (Operator next kept now_ended now_failed) g g' worked w = w
  works_by tells (Executor number machine) (Operator next kept now_ended now_failed) g g' worked w = absurd w
  works_by tells (Operator answers line ended failed) (Executor now next) g g' worked w = absurd w

  pub executed : (m m' : Member H A) (own : List Entry) (gate_calls : List GateCall) (said : Said) (is_open : Bool) (worked : Worked) → Work m m' worked (tells_of [] [] Nothing false) (tells_of own gate_calls said is_open)
      → Executed host looks m m' worked own gate_calls
  executed (Executor number machine) (Executor now next) own gate_calls said is_open worked w = executor_turn host number looks (host.honest machine) own gate_calls said is_open machine next worked w.3
  executed (Operator answers line ended failed) (Operator next kept now_ended now_failed) own gate_calls said is_open worked w = tt
  executed (Executor number machine) (Operator next kept now_ended now_failed) own gate_calls said is_open worked w = absurd w
  executed (Operator answers line ended failed) (Executor now next) own gate_calls said is_open worked w = absurd w

  -- Work through a pass, by that over its gate.
  pub works_through : {B : Type 0} (answers : Answers B Entry Ask Reply) (v w k : Known Entry B) (m m' : Member H A) (gate_calls : List GateCall) (said : Said) (is_open : Bool) (worked : Worked) (old now : GateTells) (ns : List ℕ) (n parts since : ℕ)
      → v.numbers ≡ ns → v.number ≡ n → v.parts ≡ parts → length v.seen ≡ since → k.numbers ≡ ns → k.parts ≡ parts → w ≡ k
      → old ≡ tells_of (entries_of v.numbers v.seen) [] Nothing false → now ≡ tells_of (entries_of k.numbers k.seen) gate_calls said is_open → Work m m' worked old now → ∥ WereAnswered answers ns n since k gate_calls ∥₁
      → WorksThrough answers (Work m m' worked) v w
  works_through {B} answers v w k m m' gate_calls said is_open worked old now ns n parts since numbers number shared long k_numbers k_parts same from_new to_now did so = record {
    numbers = ap (λ x. x.numbers) same ∙ k_numbers ∙ sym numbers;
    parts = ap (λ x. x.parts) same ∙ k_parts ∙ sym shared;
    calls = gate_calls;
    said = said;
    is_open = is_open;
    worked = subst (λ (x : Known Entry B). Work m m' worked (tells_of (entries_of v.numbers v.seen) [] Nothing false) (tells_of (entries_of x.numbers x.seen) gate_calls said is_open)) (sym same)
        (subst (λ (t : GateTells). Work m m' worked t (tells_of (entries_of k.numbers k.seen) gate_calls said is_open)) from_new (subst (Work m m' worked old) to_now did));
    answered = subst (λ (x : Known Entry B). ∥ WereAnswered answers v.numbers v.number (length v.seen) x gate_calls ∥₁) (sym same)
        (subst (λ (l : ℕ). ∥ WereAnswered answers v.numbers v.number l k gate_calls ∥₁) (sym long)
        (subst (λ (l : ℕ). ∥ WereAnswered answers v.numbers l since k gate_calls ∥₁) (sym number)
        (subst (λ (l : List ℕ). ∥ WereAnswered answers l n since k gate_calls ∥₁) (sym numbers) so)));
  }
