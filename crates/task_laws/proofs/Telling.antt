-- What each executor was told in its turns of a life: all that the entries of these turns tell.
use Rattle.std.proofs.Common.{◌≡◌, ◌∙◌, inl, inr, ℕ, ℤ, Bool, false, List, [], ◌∷◌, ◌++◌, Option, refl, sym, subst, append_assoc, append-nil}
use Rattle.std.specs.List.{AllByRecursion as AllAre}
use Rattle.task_host.specs.declared.call.Call.{Call}
use Rattle.task_host.specs.declared.order.Stream.{Stream}
use Rattle.agent_worker.specs.declared.member.Member.{Member}
use Rattle.agent_worker.specs.declared.member.Member.TheVariants.{Executor, Operator}
use Rattle.agent_worker.specs.declared.worked.Worked.{Worked}
use Rattle.agent_worker.specs.declared.gate.GateCall.{GateCall}
use Rattle.agent_worker.specs.declared.gate.Said.{Said}
use Rattle.agent_worker.specs.declared.gate.Said.TheVariants.{Nothing}
use Rattle.agent_worker.specs.Gate.{Told, Claimed as ClaimedTask}
use Rattle.agent_worker.specs.Working.{AreOf, on_host}
use Rattle.launch_laws.specs.Fitting.{Among}
use Rattle.launch_laws.specs.ManyTurns.{Turns, none as no_turn, more as another_turn}
use Rattle.launch_laws.proofs.Lists.{NoTwice}
use Rattle.model_run.specs.Fitting.{Some_of}
use Rattle.build_life.specs.Lower.member_turns.Tales.{claimed_of, told_of, tells_of}
use Rattle.build_life.specs.Lower.member_turns.Served.{Executed}
use Rattle.build_life.proofs.Lower.member_turns.PartLemmas.{all_append, all_map}
use Rattle.build_life.specs.Lower.member_turns.Turns.{Turn, DidTurn, Work}
use Rattle.build_life.proofs.MemberLemmas.{Steps}
use Rattle.build_life.specs.Lower.locked_build.declared.ask.Entry.{Entry}
use Rattle.world_laws.proofs.Places.{some_front, some_behind}
use Rattle.task_host.specs.View.{HostView}
use Rattle.jp_io.specs.View.{SourceView}

module _ {H A : Type 0} where
  -- it is the executor of this number
  abbrev pub IsNumber : ℕ → Member H A → Type 0
  IsNumber number (Executor n host) = n ≡ number
  IsNumber number (Operator answers line ended failed) = ⊥

  abbrev pub numbers : List (Member H A) → List ℕ
  numbers [] = []
  numbers (Executor number host ∷ members) = number ∷ numbers members
  numbers (Operator answers line ended failed ∷ members) = numbers members

  -- all that was told in the turns of the executor of this number is among these
  abbrev pub TellsAll : ℕ → List Told → List (Turn H A) → Type 0
  TellsAll number told turns = AllAre (λ (turn : Turn H A). IsNumber number turn.old → AllAre (λ (t : Told). Some_of (λ (x : Told). x ≡ t) told) (told_of turn.own)) turns

all_there : (ts : List Told) → AllAre (λ (t : Told). Some_of (λ (x : Told). x ≡ t) ts) ts
all_there [] = tt
all_there (t ∷ ts) = (inl refl, all_map (λ (u : Told). Some_of (λ (x : Told). x ≡ u) ts) (λ (u : Told). Some_of (λ (x : Told). x ≡ u) (t ∷ ts)) ts (λ u there. inr there) (all_there ts))

module _ {H A : Type 0} (host : HostView H) (source : SourceView A) (looks : ℕ) (IsTold : Told → Type 0) where
  abbrev Did : Turn H A → Type 0
  Did turn = DidTurn host source looks turn × AllAre IsTold (told_of turn.own)

  -- An executor's host from the beginning of the life on: its turns, and what was told in them, which is all that was told to this executor.
  pub record ToldSo (number : ℕ) (machine next : H) (past : List (Turn H A)) : Type 0 where
    pub told : List Told
    pub claimed : List ClaimedTask
    pub honest_stays : host.honest machine → host.honest next
    pub turns : host.honest machine → Turns number looks (on_host host machine) told claimed (on_host host next)
    pub are_told : AllAre IsTold told
    pub all : TellsAll number told past

  abbrev pub CameTo : Member H A → Member H A → List (Turn H A) → Type 0
  CameTo (Executor number machine) (Executor now next) past = (now ≡ number) × ToldSo number machine next past
  CameTo (Operator answers line ended failed) (Operator next kept now_ended now_failed) past = Unit {0}
  CameTo (Executor number machine) (Operator next kept now_ended now_failed) past = ⊥
  CameTo (Operator answers line ended failed) (Executor now next) past = ⊥

  came_start : (m : Member H A) → CameTo m m []
  came_start (Executor number machine) = (refl, record { told = []; claimed = []; honest_stays = λ h. h; turns = λ h. no_turn; are_told = tt; all = tt })
  came_start (Operator answers line ended failed) = tt

  -- the turn is not one of this member
  abbrev IsOfOther : Member H A → Turn H A → Type 0
  IsOfOther (Executor number machine) turn = IsNumber number turn.old → ⊥
  IsOfOther (Operator answers line ended failed) turn = Unit {0}

  tells_other : (number : ℕ) (told : List Told) (past : List (Turn H A)) (turn : Turn H A) → TellsAll number told past → (IsNumber number turn.old → AllAre (λ (t : Told). Some_of (λ (x : Told). x ≡ t) told) (told_of turn.own)) → TellsAll number told (past ++ turn ∷ [])
  tells_other number told past turn all one = all_append (λ (u : Turn H A). IsNumber number u.old → AllAre (λ (t : Told). Some_of (λ (x : Told). x ≡ t) told) (told_of u.own)) past (turn ∷ []) all (one, tt)

  came_other : (o m : Member H A) (past : List (Turn H A)) (turn : Turn H A) → IsOfOther o turn → CameTo o m past → CameTo o m (past ++ turn ∷ [])
  came_other (Executor number machine) (Executor now next) past turn other c =
      let k = c.1 in (
        c.0,
        record { told = k.told; claimed = k.claimed; honest_stays = k.honest_stays; turns = k.turns; are_told = k.are_told; all = tells_other number k.told past turn k.all (λ is. absurd (other is)) },
      )
  came_other (Operator answers line ended failed) (Operator next kept now_ended now_failed) past turn other c = c
  came_other (Executor number machine) (Operator next kept now_ended now_failed) past turn other c = absurd c
  came_other (Operator answers line ended failed) (Executor now next) past turn other c = absurd c

  -- one turn more
  came_turn : (o m n : Member H A) (past : List (Turn H A)) (turn : Turn H A) (w : Worked) (own : List Entry) (gate_calls : List GateCall) (said : Said) (is_open : Bool) → turn.own ≡ own
      → Work host source looks m n w (tells_of [] [] Nothing false) (tells_of own gate_calls said is_open)
      → Executed host looks m n w own gate_calls → AllAre IsTold (told_of own) → CameTo o m past → CameTo o n (past ++ turn ∷ [])
  came_turn (Executor number machine) (Executor now next) (Executor then last) past turn w own gate_calls said is_open same works executed told c =
      let k = c.1 in
      let all : List Told = k.told ++ told_of own in (
        works.0 ∙ c.0,
        record {
          told = all;
          claimed = k.claimed ++ claimed_of own;
          honest_stays = λ h. works.1.1 (k.honest_stays h);
          turns = λ h. another_turn (k.turns h) (record {
            past = executed.past;
            lawful = executed.lawful;
            orders = subst (λ (x : ℕ). AreOf x executed.past) c.0 executed.orders;
            tells = executed.told;
            claims = executed.claimed;
            on_host = executed.on_host (k.honest_stays h);
          });
          are_told = all_append IsTold k.told (told_of own) k.are_told told;
          all = tells_other number all past turn
              (all_map (λ (u : Turn H A). IsNumber number u.old → AllAre (λ (t : Told). Some_of (λ (x : Told). x ≡ t) k.told) (told_of u.own)) (λ (u : Turn H A). IsNumber number u.old → AllAre (λ (t : Told). Some_of (λ (x : Told). x ≡ t) all) (told_of u.own)) past
              (λ u before is. all_map (λ (t : Told). Some_of (λ (x : Told). x ≡ t) k.told) (λ (t : Told). Some_of (λ (x : Told). x ≡ t) all) (told_of u.own) (λ t there. some_front (λ (x : Told). x ≡ t) k.told (told_of own) there) (before is)) k.all)
              (λ is. subst (λ (es : List Entry). AllAre (λ (t : Told). Some_of (λ (x : Told). x ≡ t) all) (told_of es)) (sym same)
              (all_map (λ (t : Told). Some_of (λ (x : Told). x ≡ t) (told_of own)) (λ (t : Told). Some_of (λ (x : Told). x ≡ t) all) (told_of own) (λ t there. some_behind (λ (x : Told). x ≡ t) k.told (told_of own) there) (all_there (told_of own))));
        },
      )
  came_turn (Operator answers line ended failed) (Operator next kept now_ended now_failed) (Operator last held then_ended then_failed) past turn w own gate_calls said is_open same works executed told c = tt
  came_turn (Executor number machine) (Executor now next) (Operator last held then_ended then_failed) past turn w own gate_calls said is_open same works executed told c = absurd works
  came_turn (Executor number machine) (Operator next kept now_ended now_failed) n past turn w own gate_calls said is_open same works executed told c = absurd c
  came_turn (Operator answers line ended failed) (Operator next kept now_ended now_failed) (Executor then last) past turn w own gate_calls said is_open same works executed told c = absurd works
  came_turn (Operator answers line ended failed) (Executor now next) n past turn w own gate_calls said is_open same works executed told c = absurd c

  -- all members
  abbrev pub AllCame : List (Member H A) → List (Member H A) → List (Turn H A) → Type 0
  AllCame [] [] past = Unit {0}
  AllCame (o ∷ os) (m ∷ ms) past = CameTo o m past × AllCame os ms past
  AllCame [] (m ∷ ms) past = ⊥
  AllCame (o ∷ os) [] past = ⊥

  all_start : (ms : List (Member H A)) → AllCame ms ms []
  all_start [] = tt
  all_start (m ∷ ms) = (came_start m, all_start ms)

  -- an executor of another number than all of these
  others_turn : (number : ℕ) (os ms : List (Member H A)) (past : List (Turn H A)) (turn : Turn H A) → (Among number (numbers os) → ⊥) → ((n : ℕ) → IsNumber n turn.old → n ≡ number) → AllCame os ms past → AllCame os ms (past ++ turn ∷ [])
  others_turn number [] [] past turn apart its c = tt
  others_turn number (Executor n machine ∷ os) (m ∷ ms) past turn apart its c =
      (came_other (Executor n machine) m past turn (λ is. apart (inl (its n is))) c.0, others_turn number os ms past turn (λ there. apart (inr there)) its c.1)
  others_turn number (Operator answers line ended failed ∷ os) (m ∷ ms) past turn apart its c = (came_other (Operator answers line ended failed) m past turn tt c.0, others_turn number os ms past turn apart its c.1)
  others_turn number [] (m ∷ ms) past turn apart its c = absurd c
  others_turn number (o ∷ os) [] past turn apart its c = absurd c

  -- the operator's turn is no executor's
  operators_turn : (os ms : List (Member H A)) (past : List (Turn H A)) (turn : Turn H A) → ((n : ℕ) → IsNumber n turn.old → ⊥) → AllCame os ms past → AllCame os ms (past ++ turn ∷ [])
  operators_turn [] [] past turn none c = tt
  operators_turn (Executor n machine ∷ os) (m ∷ ms) past turn none c = (came_other (Executor n machine) m past turn (none n) c.0, operators_turn os ms past turn none c.1)
  operators_turn (Operator answers line ended failed ∷ os) (m ∷ ms) past turn none c = (came_other (Operator answers line ended failed) m past turn tt c.0, operators_turn os ms past turn none c.1)
  operators_turn [] (m ∷ ms) past turn none c = absurd c
  operators_turn (o ∷ os) [] past turn none c = absurd c

  -- behind the member that has the turn
  behind_turn : (o m : Member H A) (os back : List (Member H A)) (past : List (Turn H A)) (turn : Turn H A) → turn.old ≡ m → NoTwice (numbers (o ∷ os)) → CameTo o m past → AllCame os back past → AllCame os back (past ++ turn ∷ [])
  behind_turn (Executor number machine) (Executor now next) os back past turn is once c later =
      others_turn number os back past turn once.0 (λ n at. sym (subst (IsNumber n) is at) ∙ c.0) later
  behind_turn (Operator answers line ended failed) (Operator next kept now_ended now_failed) os back past turn is once c later = operators_turn os back past turn (λ n at. subst (IsNumber n) is at) later
  behind_turn (Executor number machine) (Operator next kept now_ended now_failed) os back past turn is once c later = absurd c
  behind_turn (Operator answers line ended failed) (Executor now next) os back past turn is once c later = absurd c

  -- the executor that has the turn is among these
  among_members : (n : ℕ) (m : Member H A) (os front back : List (Member H A)) (past : List (Turn H A)) → IsNumber n m → AllCame os (front ++ m ∷ back) past → Among n (numbers os)
  among_members n m [] [] back past is c = absurd c
  among_members n m [] (k ∷ front) back past is c = absurd c
  among_members n (Executor now next) (Executor number machine ∷ os) [] back past is c = inl (sym c.0.0 ∙ is)
  among_members n (Operator answers line ended failed) (Executor number machine ∷ os) [] back past is c = absurd is
  among_members n (Executor now next) (Operator answers line ended failed ∷ os) [] back past is c = absurd c.0
  among_members n (Operator next kept now_ended now_failed) (Operator answers line ended failed ∷ os) [] back past is c = absurd is
  among_members n m (Executor number machine ∷ os) (k ∷ front) back past is c = inr (among_members n m os front back past is c.1)
  among_members n m (Operator answers line ended failed ∷ os) (k ∷ front) back past is c = among_members n m os front back past is c.1

  other_before : (o m : Member H A) (os front back : List (Member H A)) (past : List (Turn H A)) (turn : Turn H A) → turn.old ≡ m → NoTwice (numbers (o ∷ os)) → AllCame os (front ++ m ∷ back) past → IsOfOther o turn
  other_before (Executor number machine) m os front back past turn is once c = λ at. once.0 (among_members number m os front back past (subst (IsNumber number) is at) c)
  other_before (Operator answers line ended failed) m os front back past turn is once c = tt

  later_once : (o : Member H A) (os : List (Member H A)) → NoTwice (numbers (o ∷ os)) → NoTwice (numbers os)
  later_once (Executor number machine) os once = once.1
  later_once (Operator answers line ended failed) os once = once

  -- one of them has a turn
  all_turn : (os front back : List (Member H A)) (past : List (Turn H A)) (turn : Turn H A) → NoTwice (numbers os) → ((o : Member H A) → CameTo o turn.old past → CameTo o turn.now (past ++ turn ∷ []))
      → AllCame os (front ++ turn.old ∷ back) past → AllCame os (front ++ turn.now ∷ back) (past ++ turn ∷ [])
  all_turn [] [] back past turn once goes c = absurd c
  all_turn [] (k ∷ front) back past turn once goes c = absurd c
  all_turn (o ∷ os) [] back past turn once goes c = (goes o c.0, behind_turn o turn.old os back past turn refl once c.0 c.1)
  all_turn (o ∷ os) (k ∷ front) back past turn once goes c =
      (came_other o k past turn (other_before o turn.old os front back past turn refl once c.1) c.0, all_turn os front back past turn (later_once o os once) goes c.1)

  all_steps : (os ms : List (Member H A)) (turns : List (Turn H A)) (ns : List (Member H A)) (past : List (Turn H A)) → NoTwice (numbers os) → Steps ms turns ns → AllAre Did turns → AllCame os ms past → AllCame os ns (past ++ turns)
  all_steps os ms [] ns past once steps did c = subst (AllCame os ns) (sym (append-nil past)) (subst (λ (l : List (Member H A)). AllCame os l past) steps c)
  all_steps os ms (turn ∷ turns) ns past once steps did c =
      subst (AllCame os ns) (append_assoc past (turn ∷ []) turns)
      (all_steps os (steps.0 ++ turn.now ∷ steps.1) turns ns (past ++ turn ∷ []) once steps.3 did.1
      (all_turn os steps.0 steps.1 past turn once
      (λ o. came_turn o turn.old turn.now past turn turn.worked turn.own turn.calls turn.said turn.is_open refl did.0.0.works did.0.0.executed did.0.1)
      (subst (λ (l : List (Member H A)). AllCame os l past) steps.2 c)))

  -- from the beginning of a life to its end
  pub all_came : (old : List (Member H A)) (turns : List (Turn H A)) (new : List (Member H A)) → NoTwice (numbers old) → Steps old turns new → AllAre Did turns → AllCame old new turns
  all_came old turns new once steps did = all_steps old old turns new [] once steps did (all_start old)
