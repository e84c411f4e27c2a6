-- A round in threads: passes handed out, members at work, passes taken in.
use Rattle.std.proofs.Common.{◌≡◌, ◌≤◌, ◌∙◌, ℕ, List, [], ◌∷◌, ◌++◌, length, map, Option, Some, None, Ok, Err, refl, sym, ap, subst, append_assoc, append-nil, arith}
use Rattle.std.specs.List.{AllZip, AllByRecursion as AllAre}
use Rattle.std.proofs.Math.Logic.{∥∥₁_map}
use Rattle.program_lock.specs.declared.program.Memory.{Memory}
use Rattle.program_lock.specs.declared.program.PassOf.{PassOf}
use Rattle.program_lock.specs.declared.view.Known.{Known}
use Rattle.program_lock.specs.History.{has, AreApart, entries, under, entries_of, NoneUnder}
use Rattle.program_lock.specs.Legal.{Answers}
use Rattle.program_lock.specs.Merge.{IsMergeOf}
use Rattle.program_lock.specs.Passes.{known, own_entries}
use Rattle.program_lock.proofs.EntryLemmas.{entries_of-goes_on}
use Rattle.program_lock.proofs.HistoryLemmas.{none_append, none_behind, none_both, under-none}
use Rattle.program_lock.proofs.MergeLemmas.{IsMergeOf-entries, under_both}
use Rattle.program_lock.proofs.NumberLemmas.{among_itself, among_right, has-append, has_one, or_true}
use Rattle.settle_laws.specs.Stances.{Stance}
use Rattle.member_turns.specs.Lower.build_core.Builds.{Parts}
use Rattle.agent_worker.specs.declared.member.Member.{Member}
use Rattle.member_turns.specs.Lower.locked_build.declared.ask.Ask.{Ask}
use Rattle.member_turns.specs.Lower.locked_build.declared.ask.Entry.{Entry}
use Rattle.member_turns.specs.Lower.locked_build.declared.ask.Reply.{Reply}
use Rattle.member_turns.specs.Saying.{AreAnswered, WereAnswered}
use Rattle.member_turns.proofs.CallLemmas.{site_says}
use Rattle.member_turns.proofs.TrailLemmas.{none_first, under-first, under-second, entries_of-append, answered_sooner}
use Rattle.member_turns.proofs.TurnsLemmas.{answered_joined}
use Rattle.member_turns.specs.Coming.{Came, EachUnder}
use Rattle.member_turns.specs.Passing.{IsWhole, CameUnder, GoesOn, TakesRound}
use Rattle.member_turns.specs.Rounds.{WereAsked, AllAsked}
use Rattle.member_turns.specs.Turns.{Turn, MadeOf}
use Rattle.member_turns.proofs.AskedLemmas.{were_asked}
use Rattle.member_turns.proofs.ComeLemmas.{calls_came, each_append, each_none, each_first, each_second}
use Rattle.member_turns.proofs.GoingLemmas.{both_true, whole_front}
use Rattle.member_turns.proofs.MadeLemmas.{same_rest}
use Rattle.member_turns.specs.Seats.{SeesMore, IsNew, IsWithin, WithinIf, AreAllApart, all_numbers, numbers_of, parts_of, total, given, HandsOut, TakesIn}
use Rattle.member_turns.specs.Serving.{Serves}

module _ {E : Type 0} where
  none_under : (xs : List (ℕ × E)) → NoneUnder [] xs
  none_under [] = tt
  none_under (x ∷ xs) = (refl, none_under xs)

-- of both numbers, where it is so of each
each_both : (P : List Entry → Entry → Type 0) (ms ns : List ℕ) (front xs : List (ℕ × Entry)) → EachUnder P ms front xs → EachUnder P ns front xs → EachUnder P (ms ++ ns) front xs
each_both P ms ns front [] one two = tt
each_both P ms ns front (x ∷ xs) one two =
    (λ is. or_true (has ms x.0) (has ns x.0) (P (entries front) x.1) one.0 two.0 (sym (has-append ms ns x.0) ∙ is), each_both P ms ns (front ++ x ∷ []) xs one.1 two.1)

-- These turns, each under a number of its own, of which nothing stands in what was seen before.
module _ {H A B : Type 0} (answers : Answers B Entry Ask Reply) (v w : Known Entry B) (more : List (ℕ × Entry)) where
  pub record DidUnder (turn : Turn H A) (n : ℕ) : Type 0 where
    pub fresh : NoneUnder (n ∷ []) v.seen
    pub own : turn.own ≡ entries_of (n ∷ []) more
    pub answered : ∥ ((base : B) → w.base ≡ Some base → AreAnswered (answers base) (n ∷ []) n v.seen turn.calls more) ∥₁

  all_fresh : (turns : List (Turn H A)) (ns : List ℕ) → AllZip DidUnder turns ns → NoneUnder ns v.seen
  all_fresh [] [] did = none_under v.seen
  all_fresh [] (n ∷ ns) did = absurd did
  all_fresh (turn ∷ turns) [] did = absurd did
  all_fresh (turn ∷ turns) (n ∷ ns) did = none_both (n ∷ []) ns v.seen did.0.fresh (all_fresh turns ns did.1)

  -- what each of them was answered
  all_asked : (turns : List (Turn H A)) (ns : List ℕ) → AllZip DidUnder turns ns → ∥ ((base : B) → w.base ≡ Some base → AllAsked (answers base) (entries v.seen) (entries more) turns) ∥₁
  all_asked [] [] did = ∣ (λ base is. tt) ∣₁
  all_asked [] (n ∷ ns) did = absurd did
  all_asked (turn ∷ turns) [] did = absurd did
  all_asked (turn ∷ turns) (n ∷ ns) did =
      both_true (λ (one : (base : B) → w.base ≡ Some base → AreAnswered (answers base) (n ∷ []) n v.seen turn.calls more)
      (rest : (base : B) → w.base ≡ Some base → AllAsked (answers base) (entries v.seen) (entries more) turns). λ base is. (
        subst (λ (l : List Entry). WereAsked (answers base) (entries v.seen) turn.calls l (entries more)) (sym did.0.own)
            (were_asked (answers base) (n ∷ []) n (has_one n) v.seen turn.calls more (one base is)),
        rest base is,
      )) did.0.answered (all_asked turns ns did.1)

-- the numbers of each are none of these, nor of those before it
abbrev pub NumbersApart : List ℕ → List ℕ → Type 0
NumbersApart ms [] = Unit {0}
NumbersApart ms (n ∷ ns) = AreApart ms (n ∷ []) × NumbersApart (ms ++ n ∷ []) ns

apart_behind : (front ms ns : List ℕ) → AreApart (front ++ ms) ns → AreApart ms ns
apart_behind front ms ns apart = λ n one two. apart n (among_right front ms n one) two

-- their entries are made of those of each
made_under : {H A B : Type 0} (answers : Answers B Entry Ask Reply) (v w : Known Entry B) (more : List (ℕ × Entry)) (front ms : List ℕ) (turns : List (Turn H A)) (ns : List ℕ)
    → AllZip (DidUnder answers v w more) turns ns → NumbersApart (front ++ ms) ns → MadeOf (entries_of ms more) turns (entries_of (ms ++ ns) more)
made_under answers v w more front ms [] [] did apart = ap (λ (l : List ℕ). entries_of l more) (sym (append-nil ms))
made_under answers v w more front ms [] (n ∷ ns) did apart = absurd did
made_under answers v w more front ms (turn ∷ turns) [] did apart = absurd did
made_under {H} {A} answers v w more front ms (turn ∷ turns) (n ∷ ns) did apart =
    let merged = IsMergeOf-entries (under ms more) (under (n ∷ []) more) (under (ms ++ n ∷ []) more) (under_both ms (n ∷ []) more (apart_behind front ms (n ∷ []) apart.0)) in (
      entries_of (ms ++ n ∷ []) more,
      subst (λ (l : List Entry). IsMergeOf (entries_of ms more) l (entries_of (ms ++ n ∷ []) more)) (sym did.0.own) merged,
      subst (λ (l : List ℕ). MadeOf (entries_of (ms ++ n ∷ []) more) turns (entries_of l more)) (append_assoc ms (n ∷ []) ns)
          (made_under answers v w more front (ms ++ n ∷ []) turns ns did.1 (subst (λ (l : List ℕ). NumbersApart l ns) (append_assoc front ms (n ∷ [])) apart.1)),
    )

module _ {H A B T : Type 0} (stance : T → Stance) (opening : B → Parts T) (v w : Known Entry B) (more : List (ℕ × Entry)) where
  -- their decisions came by their lines
  all_came : (turns : List (Turn H A)) (ns : List ℕ) → AllZip (DidUnder (site_says stance opening) v w more) turns ns → ∥ ((base : B) → w.base ≡ Some base → EachUnder (Came (site_says stance opening base)) ns v.seen more) ∥₁
  all_came [] [] did = ∣ (λ base is. each_none (Came (site_says stance opening base)) [] v.seen more (none_under more)) ∣₁
  all_came [] (n ∷ ns) did = absurd did
  all_came (turn ∷ turns) [] did = absurd did
  all_came (turn ∷ turns) (n ∷ ns) did =
      both_true (λ (one : (base : B) → w.base ≡ Some base → AreAnswered (site_says stance opening base) (n ∷ []) n v.seen turn.calls more)
      (rest : (base : B) → w.base ≡ Some base → EachUnder (Came (site_says stance opening base)) ns v.seen more). λ base is.
      each_both (Came (site_says stance opening base)) (n ∷ []) ns v.seen more (calls_came stance (opening base) (n ∷ []) n v.seen turn.calls more (one base is)) (rest base is)) did.0.answered (all_came turns ns did.1)

module _ {S B : Type 0} where
  -- a new pass, which has no entry yet
  abbrev pub HasNew : Known Entry B → Known Entry B → Option (PassOf S Entry B) → Type 0
  HasNew v u o = (p : PassOf S Entry B) × (o ≡ Some p) × IsNew v u (known p)

  given_new : (v u : Known Entry B) (ps : List (PassOf S Entry B)) (old : List (Option (PassOf S Entry B))) → length ps ≡ length old → AllAre (λ (p : PassOf S Entry B). IsNew v u (known p)) ps → AllAre (HasNew v u) (given ps old)
  given_new v u [] [] same fresh = tt
  given_new v u [] (o ∷ old) same fresh = absurd (omega arith)
  given_new v u (p ∷ ps) [] same fresh = tt
  given_new v u (p ∷ ps) (o ∷ old) same fresh = ((p, refl, fresh.0), given_new v u ps old (omega arith) fresh.1)

  none_total : (old : List (Option (PassOf S Entry B))) → AllAre (λ (o : Option (PassOf S Entry B)). o ≡ None) old → total old ≡ 0
  none_total [] none = refl
  none_total (o ∷ old) none = let rest = none_total old none.1 in let one = ap parts_of none.0 in omega arith

  given_total : (ps : List (PassOf S Entry B)) (old : List (Option (PassOf S Entry B))) → length ps ≤ length old → AllAre (λ (o : Option (PassOf S Entry B)). o ≡ None) old
      → total (given ps old) ≡ total (map (λ (p : PassOf S Entry B). Some p) ps)
  given_total [] old few none = none_total old none
  given_total (p ∷ ps) [] few none = absurd (omega arith)
  given_total (p ∷ ps) (o ∷ old) few none = let rest = given_total ps old (omega arith) none.1 in omega arith

module _ {S B H A X : Type 0} (Did : ℕ → Turn H A → Type 0) (answers : Answers B Entry Ask Reply) (member : X → Member H A) (pass : X → Option (PassOf S Entry B)) (looks : X → ℕ) (n : ℕ) where
  abbrev pub Worked : X → X → Type 0
  Worked a b = Serves (Did (looks a)) answers (pass a) (pass b) (member a) (member b)

  -- What all turns of a round in threads were.
  pub record AllServed (v w : Known Entry B) (more : List (ℕ × Entry)) (mids news : List X) : Type 0 where
    pub turns : List (Turn H A)
    pub numbers : List ℕ
    pub olds : map (λ (turn : Turn H A). turn.old) turns ≡ map member mids
    pub nows : map (λ (turn : Turn H A). turn.now) turns ≡ map member news
    pub under : all_numbers (map pass news) ≡ numbers
    pub apart : (ms : List ℕ) → AreAllApart ms (map pass news) → NumbersApart ms numbers
    pub did : AllAre (Did n) turns
    pub each : AllZip (DidUnder answers v w more) turns numbers
    pub parts : total (map pass news) ≡ total (map pass mids)

  -- a member's turn, behind all that the first pass had seen
  did_under : (v u w p q : Known Entry B) (turn : Turn H A) → (hands : SeesMore v u) → (takes : SeesMore u w) → IsNew v u p → IsWithin w q → q.numbers ≡ p.numbers → turn.own ≡ entries_of q.numbers q.seen
      → ∥ WereAnswered answers p.numbers p.number (length p.seen) q turn.calls ∥₁ → DidUnder answers v w (hands.more ++ takes.more) turn p.number
  did_under v u w p q turn hands takes new within numbers own answered =
      let m = p.number in
      let more : List (ℕ × Entry) = hands.more ++ takes.more in
      let mine : List (ℕ × Entry) = new.rest ++ takes.more in
      let all : v.seen ++ more ≡ w.seen = sym (append_assoc v.seen hands.more takes.more) ∙ ap (λ (l : List (ℕ × Entry)). l ++ takes.more) hands.begins ∙ takes.begins in
      let had : p.seen ++ mine ≡ w.seen = sym (append_assoc p.seen new.rest takes.more) ∙ ap (λ (l : List (ℕ × Entry)). l ++ takes.more) new.begins ∙ takes.begins in
      let more_is : new.front ++ mine ≡ more = same_rest v.seen (new.front ++ mine) more (sym (append_assoc v.seen new.front mine) ∙ ap (λ (l : List (ℕ × Entry)). l ++ mine) new.goes ∙ had ∙ sym all) in
      let none_p : NoneUnder (m ∷ []) (v.seen ++ new.front) = subst (NoneUnder (m ∷ [])) (sym new.goes) (subst (λ (l : List ℕ). NoneUnder l p.seen) new.numbers new.none) in
      let fresh : NoneUnder (m ∷ []) v.seen = none_first (m ∷ []) v.seen new.front none_p in
      let named : q.numbers ≡ m ∷ [] = numbers ∙ new.numbers in
      let later : NoneUnder (m ∷ []) within.later = subst (λ (l : List ℕ). NoneUnder l within.later) named within.others in
      record {
        fresh = fresh;
        own = own ∙ sym (entries_of-goes_on q.numbers q.numbers q.seen w.seen (among_itself q.numbers) (within.later, within.begins, within.others)) ∙ ap (λ (l : List ℕ). entries_of l w.seen) named
            ∙ ap (entries_of (m ∷ [])) (sym all) ∙ entries_of-append (m ∷ []) v.seen more ∙ ap (λ (l : List Entry). l ++ entries_of (m ∷ []) more) (ap entries (under-none (m ∷ []) v.seen fresh));
        answered = ∥∥₁_map answered (λ (a : WereAnswered answers p.numbers m (length p.seen) q turn.calls). λ (base : B) is.
            let joined : AreAnswered (answers base) (m ∷ []) m p.seen turn.calls mine =
            answered_joined answers (m ∷ []) m p.seen q w turn.calls within.later mine within.base within.begins later had
            (subst (λ (l : List ℕ). WereAnswered answers l m (length p.seen) q turn.calls) new.numbers a) base is in
            subst (λ (l : List (ℕ × Entry)). AreAnswered (answers base) (m ∷ []) m v.seen turn.calls l) more_is
            (answered_sooner (answers base) (m ∷ []) m v.seen new.front turn.calls mine (none_behind (m ∷ []) v.seen new.front none_p)
            (subst (λ (l : List (ℕ × Entry)). AreAnswered (answers base) (m ∷ []) m l turn.calls mine) (sym new.goes) joined)));
      }

  module _ (v u w : Known Entry B) (hands : SeesMore v u) (takes : SeesMore u w) where
    served_more : (a b : X) (mids news : List X) → Worked a b → HasNew v u (pass a) → looks a ≡ n → WithinIf w (pass b) → AllServed v w (hands.more ++ takes.more) mids news → AllServed v w (hands.more ++ takes.more) (a ∷ mids) (b ∷ news)
    served_more a b mids news worked new same within s =
        let p = new.0 in
        let k = known p in
        let none : own_entries p ≡ [] = ap entries (under-none k.numbers k.seen new.2.none) in
        let served = worked p new.1 none in
        let q = served.0 in
        let t = served.3 in
        let numbers : numbers_of (pass b) ≡ k.number ∷ [] = ap numbers_of served.1 ∙ t.numbers ∙ new.2.numbers in
        let one : parts_of (pass b) ≡ parts_of (pass a) = ap parts_of served.1 ∙ t.parts ∙ ap parts_of (sym new.1) in
        let rest = s.parts in
        record {
          turns = t.turn ∷ s.turns;
          numbers = k.number ∷ s.numbers;
          olds = λ i. t.old_is i ∷ s.olds i;
          nows = λ i. t.now_is i ∷ s.nows i;
          under = λ i. numbers i ++ s.under i;
          apart = λ ms (apart : AreAllApart ms (map pass (b ∷ news))).
              (subst (AreApart ms) numbers apart.0, s.apart (ms ++ k.number ∷ []) (subst (λ (l : List ℕ). AreAllApart (ms ++ l) (map pass news)) numbers apart.1));
          did = (subst (λ (m : ℕ). Did m t.turn) same t.did, s.did);
          each = (did_under v u w k (known q) t.turn hands takes new.2 (subst (WithinIf w) served.1 within) t.numbers t.own t.answered, s.each);
          parts = omega arith;
        }

    pub all_served : (mids news : List X) → AllZip Worked mids news → AllAre (HasNew v u) (map pass mids) → AllAre (λ (k : ℕ). k ≡ n) (map looks mids) → AllAre (WithinIf w) (map pass news)
        → AllServed v w (hands.more ++ takes.more) mids news
    all_served [] [] worked new same within = record { turns = []; numbers = []; olds = refl; nows = refl; under = refl; apart = λ ms apart. tt; did = tt; each = tt; parts = refl }
    all_served [] (b ∷ news) worked new same within = absurd worked
    all_served (a ∷ mids) [] worked new same within = absurd worked
    all_served (a ∷ mids) (b ∷ news) worked new same within = served_more a b mids news worked.0 new.0 same.0 within.0 (all_served mids news worked.1 new.1 same.1 within.1)

-- A pass that took in passes with these numbers, of which nothing stands in what it had seen.
module _ {B T : Type 0} (stance : T → Stance) (opening : B → Parts T) (v w : Known Entry B) (ns : List ℕ) (more : List (ℕ × Entry)) (base_stays : w.base ≡ v.base) (numbers : w.numbers ≡ v.numbers ++ ns)
    (begins : v.seen ++ more ≡ w.seen) (others : NoneUnder v.numbers more) (fresh : NoneUnder ns v.seen) where
  abbrev goes_by : ∥ ((base : B) → w.base ≡ Some base → EachUnder (Came (site_says stance opening base)) ns v.seen more) ∥₁ → GoesOn (site_says stance opening) v w
  goes_by came = record {
    base_stays = base_stays;
    more = more;
    begins = begins;
    whole = λ (all : IsWhole w). sym (under-first v.numbers ns v.seen fresh) ∙ whole_front (v.numbers ++ ns) v.seen more ((λ i. under (sym numbers i) (begins i)) ∙ all ∙ sym begins);
    came = ∥∥₁_map came (λ each. λ (c : CameUnder (site_says stance opening) v). λ base is.
        let P = Came (site_says stance opening base) in
        subst (λ (l : List ℕ). EachUnder P l [] w.seen) (sym numbers)
        (subst (EachUnder P (v.numbers ++ ns) []) begins
        (each_append P (v.numbers ++ ns) [] v.seen more (each_first P v.numbers ns [] v.seen fresh (c base (sym base_stays ∙ is))) (each_second P v.numbers ns v.seen more others (each base is)))));
  }

  added_by : entries_of w.numbers w.seen ≡ entries_of v.numbers v.seen ++ entries_of ns more
  added_by = (λ i. entries_of (numbers i) (sym begins i)) ∙ entries_of-append (v.numbers ++ ns) v.seen more
      ∙ (λ i. entries (under-first v.numbers ns v.seen fresh i) ++ entries (under-second v.numbers ns more others i))

module _ {B : Type 0} (v u w : Known Entry B) where
  none_of_new : (p : Known Entry B) → IsNew v u p → IsWithin w p → NoneUnder p.numbers w.seen
  none_of_new p new within = subst (NoneUnder p.numbers) within.begins (none_append p.numbers p.seen within.later new.none within.others)

module _ {S B : Type 0} (v u w : Known Entry B) where
  -- passes that are taken in as they were handed out bring nothing
  given_none : (ps : List (PassOf S Entry B)) (old : List (Option (PassOf S Entry B))) → AllAre (λ (o : Option (PassOf S Entry B)). o ≡ None) old → AllAre (λ (p : PassOf S Entry B). IsNew v u (known p)) ps
      → AllAre (WithinIf w) (given ps old) → NoneUnder (all_numbers (given ps old)) w.seen
  given_none [] [] none fresh within = none_under w.seen
  given_none [] (o ∷ old) none fresh within = none_both (numbers_of o) (all_numbers old) w.seen (subst (λ (l : List ℕ). NoneUnder l w.seen) (sym (ap numbers_of none.0)) (none_under w.seen)) (given_none [] old none.1 tt within.1)
  given_none (p ∷ ps) [] none fresh within = none_under w.seen
  given_none (p ∷ ps) (o ∷ old) none fresh within = none_both (known p).numbers (all_numbers (given ps old)) w.seen (none_of_new v u w (known p) fresh.0 within.0) (given_none ps old none.1 fresh.1 within.1)

module _ {S B H A X T : Type 0} (Did : ℕ → Turn H A → Type 0) (stance : T → Stance) (opening : B → Parts T) (member : X → Member H A) (pass : X → Option (PassOf S Entry B)) (looks : X → ℕ) (n : ℕ)
    (old : List (Option (PassOf S Entry B))) (mids : List X) (v u w : Known Entry B) where
  abbrev answers : Answers B Entry Ask Reply
  answers = site_says stance opening

  abbrev Works : X → X → Type 0
  Works a b = Serves (Did (looks a)) answers (pass a) (pass b) (member a) (member b)

  module _ (hands : SeesMore v u) (takes : SeesMore u w) (same : u.numbers ≡ v.numbers) where
    abbrev more : List (ℕ × Entry)
    more = hands.more ++ takes.more

    begins : v.seen ++ more ≡ w.seen
    begins = sym (append_assoc v.seen hands.more takes.more) ∙ ap (λ (l : List (ℕ × Entry)). l ++ takes.more) hands.begins ∙ takes.begins

    others : NoneUnder v.numbers more
    others = none_append v.numbers hands.more takes.more hands.others (subst (λ (l : List ℕ). NoneUnder l takes.more) same takes.others)

  -- a whole round
  pub whole_round : (news : List X) → HandsOut old (map pass mids) v u (Ok tt) → AllZip Works mids news → AllAre (λ (k : ℕ). k ≡ n) (map looks mids) → TakesIn (map pass news) u w
      → TakesRound (Did n) answers (map member mids) (map member news) v w (Ok tt)
  whole_round news o worked same t =
      let s = all_served Did answers member pass looks n v u w o.goes t.goes mids news worked (subst (AllAre (HasNew v u)) (sym o.out) (given_new v u o.passes old o.all o.fresh)) same t.within in
      let ns = s.numbers in
      let behind = more o.goes t.goes o.numbers in
      let numbers : w.numbers ≡ v.numbers ++ ns = t.numbers ∙ (λ i. o.numbers i ++ s.under i) in
      let base_stays : w.base ≡ v.base = t.goes.base_stays ∙ o.goes.base_stays in
      let fresh : NoneUnder ns v.seen = all_fresh answers v w behind s.turns ns s.each in
      let apart : NumbersApart v.numbers ns = s.apart v.numbers (subst (λ (l : List ℕ). AreAllApart l (map pass news)) o.numbers t.apart) in
      record {
        goes = goes_by stance opening v w ns behind base_stays numbers (begins o.goes t.goes o.numbers) (others o.goes t.goes o.numbers) fresh (all_came stance opening v w behind s.turns ns s.each);
        turns = s.turns;
        others = [];
        are = (sym s.olds ∙ sym (append-nil (map (λ (turn : Turn H A). turn.old) s.turns)), sym s.nows ∙ sym (append-nil (map (λ (turn : Turn H A). turn.now) s.turns)));
        all = refl;
        part = entries_of ns behind;
        made = subst (λ (l : List Entry). MadeOf l s.turns (entries_of ns behind)) (ap entries (under-none [] behind (none_under behind)))
            (made_under answers v w behind v.numbers [] s.turns ns s.each (subst (λ (l : List ℕ). NumbersApart l ns) (sym (append-nil v.numbers)) apart));
        added = added_by stance opening v w ns behind base_stays numbers (begins o.goes t.goes o.numbers) (others o.goes t.goes o.numbers) fresh;
        did = s.did;
        asked = all_asked answers v w behind s.turns ns s.each;
      }

  -- a round in which no member had a turn
  pub no_round : (memory : Memory) → HandsOut old (map pass mids) v u (Err memory) → AllAre (λ (o : Option (PassOf S Entry B)). o ≡ None) old → TakesIn (map pass mids) u w
      → TakesRound (Did n) answers (map member mids) (map member mids) v w (Err memory)
  no_round memory o none t =
      let ns = all_numbers (map pass mids) in
      let behind = more o.goes t.goes o.numbers in
      let is : v.seen ++ behind ≡ w.seen = begins o.goes t.goes o.numbers in
      let numbers : w.numbers ≡ v.numbers ++ ns = t.numbers ∙ ap (λ (l : List ℕ). l ++ ns) o.numbers in
      let base_stays : w.base ≡ v.base = t.goes.base_stays ∙ o.goes.base_stays in
      let nothing : NoneUnder ns w.seen = subst (λ (l : List (Option (PassOf S Entry B))). NoneUnder (all_numbers l) w.seen) (sym o.out)
      (given_none v u w o.passes old none o.fresh (subst (AllAre (WithinIf w)) o.out t.within)) in
      let nowhere : NoneUnder ns (v.seen ++ behind) = subst (NoneUnder ns) (sym is) nothing in
      let fresh : NoneUnder ns v.seen = none_first ns v.seen behind nowhere in
      let silent : NoneUnder ns behind = none_behind ns v.seen behind nowhere in
      record {
        goes = goes_by stance opening v w ns behind base_stays numbers is (others o.goes t.goes o.numbers) fresh ∣ (λ base had. each_none (Came (answers base)) ns v.seen behind silent) ∣₁;
        turns = [];
        others = map member mids;
        are = (refl, refl);
        all = tt;
        part = [];
        made = refl;
        added = added_by stance opening v w ns behind base_stays numbers is (others o.goes t.goes o.numbers) fresh ∙ ap (λ (l : List Entry). entries_of v.numbers v.seen ++ l) (ap entries (under-none ns behind silent));
        did = tt;
        asked = ∣ (λ base had. tt) ∣₁;
      }

  -- no part is lost
  pub whole_again : (news : List X) → HandsOut old (map pass mids) v u (Ok tt) → AllZip Works mids news → AllAre (λ (k : ℕ). k ≡ n) (map looks mids) → AllAre (λ (o : Option (PassOf S Entry B)). o ≡ None) old → TakesIn (map pass news) u w → w.parts ≡ v.parts
  whole_again news o worked same none t =
      let s = all_served Did answers member pass looks n v u w o.goes t.goes mids news worked (subst (AllAre (HasNew v u)) (sym o.out) (given_new v u o.passes old o.all o.fresh)) same t.within in
      let g : total (map pass mids) ≡ total (map (λ (p : PassOf S Entry B). Some p) o.passes) = ap total o.out ∙ given_total o.passes old o.few none in
      let a = s.parts in
      let b = t.parts in
      let c = o.parts in
      omega arith

  pub whole_back : (memory : Memory) → HandsOut old (map pass mids) v u (Err memory) → AllAre (λ (o : Option (PassOf S Entry B)). o ≡ None) old → TakesIn (map pass mids) u w → w.parts ≡ v.parts
  whole_back memory o none t =
      let g : total (map pass mids) ≡ total (map (λ (p : PassOf S Entry B). Some p) o.passes) = ap total o.out ∙ given_total o.passes old o.few none in
      let b = t.parts in
      let c = o.parts in
      omega arith
