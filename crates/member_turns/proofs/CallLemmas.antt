-- The calls of a gate, by the steps of the lock.
use Rattle.std.proofs.Common.{◌≡◌, ℕ, List, [], Option, Some, None, Result, Ok, Err, true, false, is_some, inl, inr, refl, sym, ap, subst, append-nil}
use Rattle.program_lock.specs.declared.view.Known.{Known}
use Rattle.program_lock.specs.History.{entries, entries_of}
use Rattle.program_lock.specs.Legal.{Answers}
use Rattle.program_lock.specs.Calls.{Steps}
use Rattle.program_lock.proofs.EntryLemmas.{entries_of-step}
use Rattle.program_lock.proofs.HistoryLemmas.{goes_on_itself}
use Rattle.model_run.specs.declared.event.Event.{Event}
use Rattle.model_run.specs.declared.taken.Taken.{Taken}
use Rattle.model_run.specs.declared.taken.Taken.TheVariants.{NotOpen}
use Rattle.settle_laws.specs.Stances.{Stance}
use Rattle.locked_build.specs.Lower.build_core.Builds.{Parts}
use Rattle.journal_core.specs.declared.faults.TakeFault.{TakeFault}
use Rattle.journal_core.specs.declared.faults.TakeFault.TheVariants.{Memory}
use Rattle.agent_worker.specs.declared.gate.Claim.{Claim}
use Rattle.agent_worker.specs.declared.gate.GateCall.{GateCall}
use Rattle.agent_worker.specs.declared.gate.GateCall.TheVariants as gate_call
use Rattle.agent_worker.specs.declared.gate.Heard.{Heard}
use Rattle.agent_worker.specs.declared.gate.Inputs.{Inputs}
use Rattle.locked_build.specs.declared.ask.Ask.{Ask}
use Rattle.locked_build.specs.declared.ask.Ask.TheVariants as ask
use Rattle.locked_build.specs.declared.ask.Entry.{Entry}
use Rattle.locked_build.specs.declared.ask.Reply.{Reply}
use Rattle.locked_build.specs.declared.ask.Reply.TheVariants as reply
use Rattle.locked_build.specs.Says.{Says}
use Rattle.member_turns.specs.Asking.{WasCalled}
use Rattle.member_turns.specs.Saying.{AnswersCall}
use Rattle.member_turns.specs.Tales.{is_of_task}

base_of : {B : Type 0} (o : Option B) → is_some o ≡ true → (b : B) × (o ≡ Some b)
base_of (Some b) is = (b, refl)
base_of None is = absurd (cc)

module _ {B : Type 0} (answers : Answers B Entry Ask Reply) (v : Known Entry B) (call : GateCall) where
  -- of a step, where what the state says to this ask is the answer to this call
  pub called_step : (w : Known Entry B) (a : Ask) (r : Reply) → Steps answers v a r w
      → ((b : B) (h new : List Entry) → answers b h a r new → AnswersCall (answers b) h call new) → WasCalled answers v call w
  called_step w a r s so = record {
    base = s.base;
    base_is = s.base_is;
    before = s.before;
    begins = s.begins;
    new = s.new;
    answered = so s.base (entries s.before) s.new s.answered;
    now = s.now;
    own = entries_of-step answers v a r w s;
  }

  -- of no step, where the call is answered so whatever the history
  pub called_none : is_some v.base ≡ true → ((b : B) (h : List Entry) → AnswersCall (answers b) h call []) → WasCalled answers v call v
  called_none based so =
      let b = base_of v.base based in
      record {
        base = b.0;
        base_is = b.1;
        before = v.seen;
        begins = goes_on_itself v.numbers v.seen;
        new = [];
        answered = so b.0 (entries v.seen);
        now = ap (λ l. record v { seen = l }) (sym (append-nil v.seen));
        own = sym (append-nil (entries_of v.numbers v.seen));
      }

-- The calls of a gate over a site state.
module _ {B T : Type 0} (stance : T → Stance) (opening : B → Parts T) where
  abbrev pub site_says : B → List Entry → Ask → Reply → List Entry → Type 0
  site_says base history a r new = Says stance (opening base) history a r new

module _ {B T : Type 0} (stance : T → Stance) (opening : B → Parts T) (v w : Known Entry B) where
  pub claim_step : (x : ℕ) (r : Reply) (c : Claim) → r ≡ reply.Claimed c → Steps (site_says stance opening) v (ask.Claim x) r w → WasCalled (site_says stance opening) v (gate_call.Claim x c) w
  claim_step x r c is s = called_step (site_says stance opening) v (gate_call.Claim x c) w (ask.Claim x) r s (λ b h new says. subst (λ (q : Reply). site_says stance opening b h (ask.Claim x) q new) is says)

  pub inputs_step : (r : Reply) (there : Inputs) → r ≡ reply.Inputs there → Steps (site_says stance opening) v ask.Inputs r w → WasCalled (site_says stance opening) v (gate_call.Inputs there) w
  inputs_step r there is s = called_step (site_says stance opening) v (gate_call.Inputs there) w ask.Inputs r s (λ b h new says. subst (λ (q : Reply). site_says stance opening b h ask.Inputs q new) is says)

  pub halt_step : (r : Reply) → r ≡ reply.Halted → Steps (site_says stance opening) v ask.Halt r w → WasCalled (site_says stance opening) v gate_call.Halt w
  halt_step r is s = called_step (site_says stance opening) v gate_call.Halt w ask.Halt r s (λ b h new says. subst (λ (q : Reply). site_says stance opening b h ask.Halt q new) is says)

  pub take_step : (e : Event) (r : Reply) (t : Result Taken TakeFault) → is_of_task e ≡ true → r ≡ reply.Taken t → Steps (site_says stance opening) v (ask.Take e) r w → WasCalled (site_says stance opening) v (gate_call.Report e t) w
  take_step e r t of_task is s = called_step (site_says stance opening) v (gate_call.Report e t) w (ask.Take e) r s (λ b h new says. inl (of_task, subst (λ (q : Reply). site_says stance opening b h (ask.Take e) q new) is says))

  pub answer_step : (line : List ℕ) (r : Reply) (t : Result Heard TakeFault) → r ≡ reply.Heard t → Steps (site_says stance opening) v (ask.Answer line) r w → WasCalled (site_says stance opening) v (gate_call.Answer line t) w
  answer_step line r t is s = called_step (site_says stance opening) v (gate_call.Answer line t) w (ask.Answer line) r s (λ b h new says. inl (subst (λ (q : Reply). site_says stance opening b h (ask.Answer line) q new) is says))

-- and those that are no step
module _ {B T : Type 0} (stance : T → Stance) (opening : B → Parts T) (v : Known Entry B) where
  pub no_take : (e : Event) → is_some v.base ≡ true → is_of_task e ≡ false → WasCalled (site_says stance opening) v (gate_call.Report e (Ok NotOpen)) v
  no_take e based other = called_none (site_says stance opening) v (gate_call.Report e (Ok NotOpen)) based (λ b h. inr (other, refl, refl))

  pub no_answer : (line : List ℕ) → is_some v.base ≡ true → WasCalled (site_says stance opening) v (gate_call.Answer line (Err Memory)) v
  no_answer line based = called_none (site_says stance opening) v (gate_call.Answer line (Err Memory)) based (λ b h. inr (refl, refl))
