-- What a turn tells.
use Rattle.std.proofs.Common.{◌≡◌, ◌⊎◌, ◌∷◌, ◌||◌, ◌<◌, [], ℕ, List, Bool, true, false, length, Option, Some, None, Ok, inl, inr, sym, ap, ◌∙◌, refl, subst, append-nil, if◌then◌else◌, min, ◌+◌, ◌-◌, ◌^◌}
use Rattle.std.specs.Prelude.{MatchBool}
use Rattle.task_host.specs.declared.answers.Look.TheVariants as look
use Rattle.task_host.specs.declared.answers.Started.TheVariants as start
use Rattle.agent_worker.specs.declared.turn.Turn.{Turn}
use Rattle.agent_worker.specs.Types.{Event, Accepted, Order, Stream, Log, Out, Look}
use Rattle.agent_worker.specs.Acts.{Act, Reported, HasStream, kept, kept_before, accepted, latest_look, unreported, bytes_in, WasDone, looked, started, read}
use Rattle.agent_worker.specs.Causes.{FoundEnd, IsEmpty, IsReadThrough, IsReadNext, IsVain, turn}
use Rattle.agent_worker.specs.declared.reading.Reading.{Reading}
use Rattle.agent_worker.specs.Serving.{IsInTurn}
use Rattle.agent_worker.specs.Serve.{Seen}
use Rattle.agent_worker.specs.Reading.{TakesIn, None_yet, More, ReadsThrough}
use Rattle.agent_worker.specs.Turning.{IsReadOut, Turned, TakesTurn}
use Rattle.agent_worker.proofs.ReadLemmas.{no-bytes}
use Rattle.agent_worker.proofs.ThroughLemmas.{EndsTaken, takes-in-turn}

-- reads with their reports leave what the latest look said
takes-look : (order : Order) (stream : Stream) (past next : List Act) → TakesIn order stream past next → latest_look next ≡ latest_look past
takes-look order stream past _ None_yet = refl
takes-look order stream past _ (More place bytes next some takes) = takes-look order stream past next takes

takes-done : (order : Order) (stream : Stream) (past next : List Act) → TakesIn order stream past next → (act : Act) → WasDone act past → WasDone act next
takes-done order stream past _ None_yet act done = done
takes-done order stream past _ (More place bytes next some takes) act done = inr (inr (takes-done order stream past next takes act done))

takes-not-failed : (order : Order) (stream : Stream) (past next : List Act) → TakesIn order stream past next → WasDone (started order start.Failed) next → WasDone (started order start.Failed) past
takes-not-failed order stream past _ None_yet done = done
takes-not-failed order stream past _ (More place bytes next some takes) (inl is) = cc
takes-not-failed order stream past _ (More place bytes next some takes) (inr (inl is)) = cc
takes-not-failed order stream past _ (More place bytes next some takes) (inr (inr done)) = takes-not-failed order stream past next takes done

-- a read that gave bytes gave some
gave-bytes : (bytes : List ℕ) → 0 < length bytes → (given : Option (List ℕ)) → IsEmpty given → Some bytes ≡ given → ⊥
gave-bytes bytes some given (inl none) same = cc
gave-bytes bytes some given (inr none) same = no-bytes bytes some (same ∙ none)

-- none of them found an end
takes-found : (order : Order) (stream : Stream) (past next : List Act) → TakesIn order stream past next → (s : Stream) (p : ℕ) → FoundEnd order s p next → FoundEnd order s p past
takes-found order stream past _ None_yet s p found = found
takes-found order stream past _ (More place bytes next some takes) s p (inl is) = cc
takes-found order stream past _ (More place bytes next some takes) s p (inr (none, inl is)) = let same : Some bytes ≡ Some [] = cc in absurd (no-bytes bytes some same)
takes-found order stream past _ (More place bytes next some takes) s p (inr (none, inr (none2, found))) = takes-found order stream past next takes s p found

takes-keeps-found : (order : Order) (stream : Stream) (past next : List Act) → TakesIn order stream past next → (s : Stream) (p : ℕ) → FoundEnd order s p past → FoundEnd order s p next
takes-keeps-found order stream past _ None_yet s p found = found
takes-keeps-found order stream past _ (More place bytes next some takes) s p found = inr (refl, inr (refl, takes-keeps-found order stream past next takes s p found))

takes-keeps-through : (order : Order) (stream : Stream) (past next : List Act) → TakesIn order stream past next → (s : Stream) (p : ℕ) → IsReadThrough order s p past → IsReadThrough order s p next
takes-keeps-through order stream past _ None_yet s p through = through
takes-keeps-through order stream past _ (More place bytes next some takes) s p through = inr (refl, inr (refl, takes-keeps-through order stream past next takes s p through))

takes-not-through : (order : Order) (stream : Stream) (past next : List Act) → TakesIn order stream past next → (s : Stream) (p : ℕ) → IsReadThrough order s p next → IsReadThrough order s p past
takes-not-through order stream past _ None_yet s p through = through
takes-not-through order stream past _ (More place bytes next some takes) s p (inl (given, none, is)) = cc
takes-not-through order stream past _ (More place bytes next some takes) s p (inr (report, inl (given, none, is))) = let same : Some bytes ≡ given = cc in absurd (gave-bytes bytes some given none same)
takes-not-through order stream past _ (More place bytes next some takes) s p (inr (report, inr (one, through))) = takes-not-through order stream past next takes s p through

-- the other stream stands where it stood
takes-log : (order : Order) (past next : List Act) → TakesIn order Log past next → accepted Out next ≡ accepted Out past
takes-log order past _ None_yet = refl
takes-log order past _ (More place bytes next some takes) = append-nil (accepted Out next) ∙ takes-log order past next takes

takes-out : (order : Order) (past next : List Act) → TakesIn order Out past next → accepted Log next ≡ accepted Log past
takes-out order past _ None_yet = refl
takes-out order past _ (More place bytes next some takes) = append-nil (accepted Log next) ∙ takes-out order past next takes

kept-by : (order : Order) (stream : Stream) (past next : List Act) → accepted stream next ≡ accepted stream past → kept order stream next ≡ kept order stream past
kept-by order stream past next same = ap (λ (bytes : List ℕ). min (kept_before order stream + length bytes) (2 ^ 64 - 1)) same

pub keeps-out : (order : Order) (past next : List Act) → TakesIn order Log past next → kept order Out next ≡ kept order Out past
keeps-out order past next takes = kept-by order Out past next (takes-log order past next takes)

pub keeps-log : (order : Order) (past next : List Act) → TakesIn order Out past next → kept order Log next ≡ kept order Log past
keeps-log order past next takes = kept-by order Log past next (takes-out order past next takes)

-- A stream that is read goes on to be.
pub takes-next : (order : Order) (stream : Stream) (past next : List Act) → TakesIn order stream past next → IsReadNext order stream past → IsReadNext order stream next
takes-next order Log past next takes not_through = λ p through. not_through p (takes-not-through order Log past next takes Log p through)
takes-next order Out past next takes (log, not_through) = (
  subst (λ (p : ℕ). IsReadThrough order Log p next) (sym (keeps-log order past next takes)) (takes-keeps-through order Out past next takes Log (kept order Log past) log),
  λ p through. not_through p (takes-not-through order Out past next takes Out p through),
)

-- Behind a look the log is read.
not-through : (order : Order) (l : Look) (past : List Act) (s : Stream) (p : ℕ) → IsReadThrough order s p (looked order l ∷ past) → ⊥
not-through order l past s p (inl (given, none, is)) = cc
not-through order l past s p (inr (is, rest)) = cc

pub log-is-next : (order : Order) (l : Look) (past : List Act) → IsReadNext order Log (looked order l ∷ past)
log-is-next order l past = λ p through. not-through order l past Log p through

-- behind a look nothing was found yet
not-found : (order : Order) (l : Look) (past : List Act) (s : Stream) (p : ℕ) → FoundEnd order s p (looked order l ∷ past) → ⊥
not-found order l past s p (inl is) = cc
not-found order l past s p (inr (is, rest)) = cc

empty-by : (failed : Bool) (given : Option (List ℕ)) → MatchBool failed (given ≡ None) (given ≡ Some []) → IsEmpty given
empty-by true given is = inl is
empty-by false given is = inr is

or-no-first : (a b : Bool) → (a || b) ≡ false → a ≡ false
or-no-first true b is = is
or-no-first false b is = refl

or-no-second : (a b : Bool) → (a || b) ≡ false → b ≡ false
or-no-second true b is = cc
or-no-second false b is = is

or-some : (a b : Bool) → (a || b) ≡ true → (a ≡ true) ⊎ (b ≡ true)
or-some true b is = inl refl
or-some false b is = inr is

or-first : (a b : Bool) → a ≡ true → (a || b) ≡ true
or-first a b is = ap (λ (x : Bool). x || b) is

or-second : (a b : Bool) → b ≡ true → (a || b) ≡ true
or-second true b is = refl
or-second false b is = is

at-true : (P Q : Type 0) (b : Bool) → b ≡ true → MatchBool b P Q → P
at-true P Q true is p = p
at-true P Q false is q = cc

at-false : (P Q : Type 0) (b : Bool) → b ≡ false → MatchBool b P Q → Q
at-false P Q true is p = cc
at-false P Q false is q = q

-- how the reads of a stream ended
abbrev pub Ended : Bool → Option (List ℕ) → Type 0
Ended failed given = MatchBool failed (given ≡ None) (given ≡ Some [])

-- a read that gave no byte leaves nothing to report
none-to-report : (order : Order) (stream : Stream) (place : ℕ) (failed : Bool) (given : Option (List ℕ)) → Ended failed given → bytes_in (read order stream place given) ≡ []
none-to-report order stream place true given is = ap (λ (g : Option (List ℕ)). bytes_in (read order stream place g)) is
none-to-report order stream place false given is = ap (λ (g : Option (List ℕ)). bytes_in (read order stream place g)) is

-- a turn of an order that keeps its output
turn-with-out : (order : Order) (l : Look) (log out : Option (List ℕ)) (past : List Act) → order.keep_out ≡ true
    → turn order l log out past ≡ read order Out (kept order Out past) out ∷ read order Log (kept order Log past) log ∷ looked order l ∷ past
turn-with-out order l log out past keeps =
    let log_read = read order Log (kept order Log past) log ∷ looked order l ∷ past in
    ap (λ (b : Bool). if b then read order Out (kept order Out past) out ∷ log_read else log_read) keeps

turn-without : (order : Order) (l : Look) (log out : Option (List ℕ)) (past : List Act) → order.keep_out ≡ false
    → turn order l log out past ≡ read order Log (kept order Log past) log ∷ looked order l ∷ past
turn-without order l log out past keeps =
    let log_read = read order Log (kept order Log past) log ∷ looked order l ∷ past in
    ap (λ (b : Bool). if b then read order Out (kept order Out past) out ∷ log_read else log_read) keeps

abbrev gave_nothing : Option (List ℕ)
gave_nothing = Some []

-- The turn of an order that keeps no output: the log was read through.
pub turned-log : (order : Order) (l : Look) (past b : List Act) (log : ℕ) (given : Option (List ℕ)) (bytes failed : Bool)
    → order.keep_out ≡ false
    → log ≡ kept order Log b → TakesIn order Log (looked order l ∷ past) b
    → Ended failed given → MatchBool bytes (EndsTaken b) (b ≡ looked order l ∷ past)
    → Turned order past (read order Log log given ∷ b) (record { look = l; bytes = bytes; failed = failed })
turned-log order l past b log given bytes failed keeps at takes how taken = record {
  said = takes-look order Log (looked order l ∷ past) b takes;
  read_out = λ is. out is;
  not_read_out = λ is all.
      let none : given ≡ None = at-true (given ≡ None) (given ≡ Some []) failed is how in
      missed none (all Log tt);
  vain = λ is why.
      let b_is : b ≡ looked order l ∷ past = at-false (EndsTaken b) (b ≡ looked order l ∷ past) bytes is taken in
      let log_is : log ≡ kept order Log past = at ∙ ap (kept order Log) b_is in
      record {
        answer = l;
        log = given;
        out = gave_nothing;
        is = ap (λ (rest : List Act). read order Log log given ∷ rest) b_is ∙ ap (λ (p : ℕ). read order Log p given ∷ looked order l ∷ past) log_is ∙ sym (turn-without order l given gave_nothing past keeps);
        no_log = empty-by failed given how;
        no_out = inr refl;
        vain = because why;
      };
  not_vain = λ is before vain.
      let t = at-true (EndsTaken b) (b ≡ looked order l ∷ past) bytes is taken in
      let is : read order Log log given ∷ b ≡ read order Log (kept order Log before) vain.log ∷ looked order vain.answer ∷ before = vain.is ∙ turn-without order vain.answer vain.log vain.out before keeps in
      let b_is : b ≡ looked order vain.answer ∷ before = cc in
      clash t.2 t.0 t.1 vain.answer before (sym t.3 ∙ b_is);
  only = λ is before vain.
      let b_is : b ≡ looked order l ∷ past = at-false (EndsTaken b) (b ≡ looked order l ∷ past) bytes is taken in
      let is : read order Log log given ∷ b ≡ read order Log (kept order Log before) vain.log ∷ looked order vain.answer ∷ before = vain.is ∙ turn-without order vain.answer vain.log vain.out before keeps in
      cc;
  still_done = λ act done. inr (takes-done order Log (looked order l ∷ past) b takes act (inr done));
  not_failed = λ done. before_look (behind_read done);
  told = none-to-report order Log log failed given how;
  in_turn = takes-in-turn order Log (looked order l ∷ past) b takes tt;
  read_through = λ stream has. through stream has;
}
  where
    no_out : order.keep_out ≡ true → ⊥
    no_out is = cc

    out : failed ≡ false → (stream : Stream) → HasStream order stream → FoundEnd order stream (kept order stream (read order Log log given ∷ b)) (read order Log log given ∷ b)
    out is Log has = let e : given ≡ Some [] = at-false (given ≡ None) (given ≡ Some []) failed is how in
        inl (ap (λ (p : ℕ). read order Log p given) at ∙ ap (λ (x : Option (List ℕ)). read order Log (kept order Log b) x) e)
    out is Out has = absurd (no_out has)

    through : (stream : Stream) → HasStream order stream → IsReadThrough order stream (kept order stream (read order Log log given ∷ b)) (read order Log log given ∷ b)
    through Log has = inl (given, empty-by failed given how, ap (λ (p : ℕ). read order Log p given) at)
    through Out has = absurd (no_out has)

    missed : given ≡ None → FoundEnd order Log (kept order Log b) (read order Log log given ∷ b) → ⊥
    missed none (inl e) = cc
    missed none (inr (n, found)) = not-found order l past Log (kept order Log b) (takes-found order Log (looked order l ∷ past) b takes Log (kept order Log b) found)

    because : (l ≡ look.Running) ⊎ (l ≡ look.Failed) ⊎ (failed ≡ true) → (l ≡ look.Running) ⊎ (l ≡ look.Failed) ⊎ (given ≡ None) ⊎ ((order.keep_out ≡ true) × (gave_nothing ≡ None))
    because (inl e) = inl e
    because (inr (inl e)) = inr (inl e)
    because (inr (inr e)) = inr (inr (inl (at-true (given ≡ None) (given ≡ Some []) failed e how)))

    clash : (event : Event) (act : Act) (rest : List Act) (answer : Look) (before : List Act) → Reported event (Ok Accepted) ∷ act ∷ rest ≡ looked order answer ∷ before → ⊥
    clash event act rest answer before is = cc

    behind_read : WasDone (started order start.Failed) (read order Log log given ∷ b) → WasDone (started order start.Failed) (looked order l ∷ past)
    behind_read (inl is) = cc
    behind_read (inr done) = takes-not-failed order Log (looked order l ∷ past) b takes done

    before_look : WasDone (started order start.Failed) (looked order l ∷ past) → WasDone (started order start.Failed) past
    before_look (inl is) = cc
    before_look (inr done) = done

-- The turn of an order that keeps its output: the log was read through, and then the output.
pub turned-both : (order : Order) (l : Look) (past b b2 : List Act) (log out : ℕ) (given given2 : Option (List ℕ)) (bytes failed bytes2 failed2 : Bool)
    → order.keep_out ≡ true
    → log ≡ kept order Log b → TakesIn order Log (looked order l ∷ past) b
    → Ended failed given → MatchBool bytes (EndsTaken b) (b ≡ looked order l ∷ past)
    → out ≡ kept order Out b2 → TakesIn order Out (read order Log log given ∷ b) b2
    → Ended failed2 given2 → MatchBool bytes2 (EndsTaken b2) (b2 ≡ read order Log log given ∷ b)
    → Turned order past (read order Out out given2 ∷ b2) (record { look = l; bytes = bytes || bytes2; failed = failed || failed2 })
turned-both order l past b b2 log out given given2 bytes failed bytes2 failed2 keeps at takes how taken at2 takes2 how2 taken2 = record {
  said = takes-look order Out (read order Log log given ∷ b) b2 takes2 ∙ takes-look order Log (looked order l ∷ past) b takes;
  read_out = λ is. read_so is;
  not_read_out = λ is all. missed (or-some failed failed2 is) all;
  vain = λ is why.
      let b_is : b ≡ (looked order l ∷ past) = at-false (EndsTaken b) (b ≡ (looked order l ∷ past)) bytes (or-no-first bytes bytes2 is) taken in
      let b2_is : b2 ≡ (read order Log log given ∷ b) = at-false (EndsTaken b2) (b2 ≡ (read order Log log given ∷ b)) bytes2 (or-no-second bytes bytes2 is) taken2 in
      let log_is : log ≡ kept order Log past = at ∙ ap (kept order Log) b_is in
      let out_is : out ≡ kept order Out past = at2 ∙ ap (kept order Out) b2_is ∙ ap (kept order Out) b_is in
      record {
        answer = l;
        log = given;
        out = given2;
        is = ap (λ (rest : List Act). read order Out out given2 ∷ rest) (b2_is ∙ ap (λ (rest : List Act). read order Log log given ∷ rest) b_is)
            ∙ ap (λ (p : ℕ). read order Out p given2 ∷ read order Log log given ∷ (looked order l ∷ past)) out_is
            ∙ ap (λ (p : ℕ). read order Out (kept order Out past) given2 ∷ read order Log p given ∷ (looked order l ∷ past)) log_is
            ∙ sym (turn-with-out order l given given2 past keeps);
        no_log = empty-by failed given how;
        no_out = empty-by failed2 given2 how2;
        vain = because why;
      };
  not_vain = λ is before vain. not_in_vain (or-some bytes bytes2 is) before vain;
  only = λ is before vain.
      let b_is : b ≡ (looked order l ∷ past) = at-false (EndsTaken b) (b ≡ (looked order l ∷ past)) bytes (or-no-first bytes bytes2 is) taken in
      let b2_is : b2 ≡ (read order Log log given ∷ b) = at-false (EndsTaken b2) (b2 ≡ (read order Log log given ∷ b)) bytes2 (or-no-second bytes bytes2 is) taken2 in
      let is : read order Out out given2 ∷ b2 ≡ read order Out (kept order Out before) vain.out ∷ read order Log (kept order Log before) vain.log ∷ looked order vain.answer ∷ before = vain.is ∙ turn-with-out order vain.answer vain.log vain.out before keeps in
      cc;
  still_done = λ act done. inr (takes-done order Out (read order Log log given ∷ b) b2 takes2 act (inr (takes-done order Log (looked order l ∷ past) b takes act (inr done))));
  not_failed = λ done. before_look (behind_log (behind_out done));
  told = none-to-report order Out out failed2 given2 how2;
  in_turn = takes-in-turn order Out (read order Log log given ∷ b) b2 takes2 (takes-in-turn order Log (looked order l ∷ past) b takes tt);
  read_through = λ stream has. through stream has;
}
  where
    read_so : (failed || failed2) ≡ false → (stream : Stream) → HasStream order stream → FoundEnd order stream (kept order stream (read order Out out given2 ∷ b2)) (read order Out out given2 ∷ b2)
    read_so is Out has = let e : given2 ≡ Some [] = at-false (given2 ≡ None) (given2 ≡ Some []) failed2 (or-no-second failed failed2 is) how2 in
        inl (ap (λ (p : ℕ). read order Out p given2) at2 ∙ ap (λ (x : Option (List ℕ)). read order Out (kept order Out b2) x) e)
    read_so is Log has =
        let e : given ≡ Some [] = at-false (given ≡ None) (given ≡ Some []) failed (or-no-first failed failed2 is) how in
        let place : kept order Log b2 ≡ kept order Log b = keeps-log order (read order Log log given ∷ b) b2 takes2 in
        let there : FoundEnd order Log (kept order Log b2) (read order Log log given ∷ b) = inl (ap (λ (p : ℕ). read order Log p given) (at ∙ sym place) ∙ ap (λ (x : Option (List ℕ)). read order Log (kept order Log b2) x) e) in
        inr (refl, takes-keeps-found order Out (read order Log log given ∷ b) b2 takes2 Log (kept order Log b2) there)

    through : (stream : Stream) → HasStream order stream → IsReadThrough order stream (kept order stream (read order Out out given2 ∷ b2)) (read order Out out given2 ∷ b2)
    through Out has = inl (given2, empty-by failed2 given2 how2, ap (λ (p : ℕ). read order Out p given2) at2)
    through Log has =
        let place : kept order Log b2 ≡ kept order Log b = keeps-log order (read order Log log given ∷ b) b2 takes2 in
        let there : IsReadThrough order Log (kept order Log b2) (read order Log log given ∷ b) = inl (given, empty-by failed given how, ap (λ (p : ℕ). read order Log p given) (at ∙ sym place)) in
        inr (refl, takes-keeps-through order Out (read order Log log given ∷ b) b2 takes2 Log (kept order Log b2) there)

    out_missed : (p : ℕ) → given2 ≡ None → FoundEnd order Out p (read order Out out given2 ∷ b2) → ⊥
    out_missed p none (inl e) = cc
    out_missed p none (inr (n, found)) = behind (takes-found order Out (read order Log log given ∷ b) b2 takes2 Out p found)
      where
        behind : FoundEnd order Out p (read order Log log given ∷ b) → ⊥
        behind (inl e) = cc
        behind (inr (m, rest)) = not-found order l past Out p (takes-found order Log (looked order l ∷ past) b takes Out p rest)

    log_missed : (p : ℕ) → given ≡ None → FoundEnd order Log p (read order Out out given2 ∷ b2) → ⊥
    log_missed p none (inl e) = cc
    log_missed p none (inr (n, found)) = behind (takes-found order Out (read order Log log given ∷ b) b2 takes2 Log p found)
      where
        behind : FoundEnd order Log p (read order Log log given ∷ b) → ⊥
        behind (inl e) = cc
        behind (inr (m, rest)) = not-found order l past Log p (takes-found order Log (looked order l ∷ past) b takes Log p rest)

    missed : (failed ≡ true) ⊎ (failed2 ≡ true) → IsReadOut order (read order Out out given2 ∷ b2) → ⊥
    missed (inl is) all = log_missed (kept order Log b2) (at-true (given ≡ None) (given ≡ Some []) failed is how) (all Log tt)
    missed (inr is) all = out_missed (kept order Out b2) (at-true (given2 ≡ None) (given2 ≡ Some []) failed2 is how2) (all Out keeps)

    because : (l ≡ look.Running) ⊎ (l ≡ look.Failed) ⊎ ((failed || failed2) ≡ true) → (l ≡ look.Running) ⊎ (l ≡ look.Failed) ⊎ (given ≡ None) ⊎ ((order.keep_out ≡ true) × (given2 ≡ None))
    because (inl e) = inl e
    because (inr (inl e)) = inr (inl e)
    because (inr (inr e)) = of_reads (or-some failed failed2 e)
      where
        of_reads : (failed ≡ true) ⊎ (failed2 ≡ true) → (l ≡ look.Running) ⊎ (l ≡ look.Failed) ⊎ (given ≡ None) ⊎ ((order.keep_out ≡ true) × (given2 ≡ None))
        of_reads (inl is) = inr (inr (inl (at-true (given ≡ None) (given ≡ Some []) failed is how)))
        of_reads (inr is) = inr (inr (inr (keeps, at-true (given2 ≡ None) (given2 ≡ Some []) failed2 is how2)))

    not_in_vain : (bytes ≡ true) ⊎ (bytes2 ≡ true) → (before : List Act) → IsVain order before (read order Out out given2 ∷ b2) → ⊥
    not_in_vain (inr is) before vain =
        let t = at-true (EndsTaken b2) (b2 ≡ (read order Log log given ∷ b)) bytes2 is taken2 in
        let whole : read order Out out given2 ∷ b2 ≡ read order Out (kept order Out before) vain.out ∷ read order Log (kept order Log before) vain.log ∷ looked order vain.answer ∷ before = vain.is ∙ turn-with-out order vain.answer vain.log vain.out before keeps in
        let e : Reported t.2 (Ok Accepted) ∷ t.0 ∷ t.1 ≡ read order Log (kept order Log before) vain.log ∷ looked order vain.answer ∷ before = sym t.3 ∙ behind_one whole in
        cc
      where
        behind_one : {x y : Act} {xs ys : List Act} → x ∷ xs ≡ y ∷ ys → xs ≡ ys
        behind_one is = cc
    not_in_vain (inl is) before vain = of_second bytes2 taken2
      where
        whole : read order Out out given2 ∷ b2 ≡ read order Out (kept order Out before) vain.out ∷ read order Log (kept order Log before) vain.log ∷ looked order vain.answer ∷ before
        whole = vain.is ∙ turn-with-out order vain.answer vain.log vain.out before keeps

        of_second : (second : Bool) → MatchBool second (EndsTaken b2) (b2 ≡ (read order Log log given ∷ b)) → ⊥
        of_second true t = let e : b2 ≡ Reported t.2 (Ok Accepted) ∷ t.0 ∷ t.1 = t.3 in cc
        of_second false b2_is =
            let t = at-true (EndsTaken b) (b ≡ (looked order l ∷ past)) bytes is taken in
            let e : b ≡ Reported t.2 (Ok Accepted) ∷ t.0 ∷ t.1 = t.3 in
            cc

    behind_out : WasDone (started order start.Failed) (read order Out out given2 ∷ b2) → WasDone (started order start.Failed) (read order Log log given ∷ b)
    behind_out (inl is) = cc
    behind_out (inr done) = takes-not-failed order Out (read order Log log given ∷ b) b2 takes2 done

    behind_log : WasDone (started order start.Failed) (read order Log log given ∷ b) → WasDone (started order start.Failed) (looked order l ∷ past)
    behind_log (inl is) = cc
    behind_log (inr done) = takes-not-failed order Log (looked order l ∷ past) b takes done

    before_look : WasDone (started order start.Failed) (looked order l ∷ past) → WasDone (started order start.Failed) past
    before_look (inl is) = cc
    before_look (inr done) = done

-- The same, from how the streams were read.
pub turns-log : (honest : Type 0) (order : Order) (looks : ℕ) (old now : Seen) (l : Look) (past : List Act) (log out : ℕ) (reading : Reading)
    → order.keep_out ≡ false → out ≡ kept order Out past
    → ReadsThrough honest order looks Log old now log (looked order l ∷ past) (Ok reading)
    → TakesTurn honest order looks old now log out past (Ok (record { look = l; bytes = reading.bytes; failed = reading.failed }))
turns-log honest order looks old now l past log out reading keeps out_at first =
    let a = first.adds in
    let at : log ≡ kept order Log a.0 = a.3 ∙ ap (kept order Log) a.2 in
    let turned = turned-log order l past a.0 log a.1 reading.bytes reading.failed keeps at a.4 a.5 a.6 in
    record {
      next = first.next;
      stands = first.stands;
      adds = (
        a.3,
        out_at ∙ sym (ap (kept order Out) a.2 ∙ keeps-out order (looked order l ∷ past) a.0 a.4),
        subst (λ (n : List Act). Turned order past n (record { look = l; bytes = reading.bytes; failed = reading.failed })) (sym a.2) turned,
      );
      still = λ act done. first.still act (inr done);
    }

-- the kept place of the output, once the log was read through
pub out-kept : (honest : Type 0) (order : Order) (looks : ℕ) (old now : Seen) (l : Look) (past : List Act) (log out : ℕ) (reading : Reading)
    → out ≡ kept order Out past → (first : ReadsThrough honest order looks Log old now log (looked order l ∷ past) (Ok reading)) → out ≡ kept order Out first.next
out-kept honest order looks old now l past log out reading out_at first =
    out_at ∙ sym (ap (kept order Out) first.adds.2 ∙ keeps-out order (looked order l ∷ past) first.adds.0 first.adds.4)

-- and nothing is left to report then
pub through-reported : (honest : Type 0) (order : Order) (looks : ℕ) (stream : Stream) (old now : Seen) (place : ℕ) (past : List Act) (reading : Reading)
    → (first : ReadsThrough honest order looks stream old now place past (Ok reading)) → unreported first.next ≡ []
through-reported honest order looks stream old now place past reading first =
    ap unreported first.adds.2 ∙ none-to-report order stream place reading.failed first.adds.1 first.adds.5

-- and the turn is still on
pub through-in-turn : (honest : Type 0) (order : Order) (looks : ℕ) (stream : Stream) (old now : Seen) (place : ℕ) (past : List Act) (reading : Reading)
    → (first : ReadsThrough honest order looks stream old now place past (Ok reading)) → IsInTurn past → IsInTurn first.next
through-in-turn honest order looks stream old now place past reading first turning =
    subst IsInTurn (sym first.adds.2) (takes-in-turn order stream past first.adds.0 first.adds.4 turning)

-- Behind the log comes the output.
pub out-is-next : (honest : Type 0) (order : Order) (looks : ℕ) (old now : Seen) (l : Look) (place : ℕ) (past : List Act) (reading : Reading)
    → (first : ReadsThrough honest order looks Log old now place (looked order l ∷ past) (Ok reading)) → IsReadNext order Out first.next
out-is-next honest order looks old now l place past reading first =
    let a = first.adds in
    subst (IsReadNext order Out) (sym a.2) (
      inl (a.1, empty-by reading.failed a.1 a.5, ap (λ (p : ℕ). read order Log p a.1) (a.3 ∙ ap (kept order Log) a.2)),
      λ p through. by a.0 a.4 a.1 p through,
    )
  where
    by : (b : List Act) → TakesIn order Log (looked order l ∷ past) b → (given : Option (List ℕ)) (p : ℕ) → IsReadThrough order Out p (read order Log place given ∷ b) → ⊥
    by b takes given p (inl (other, none, is)) = cc
    by b takes given p (inr (one, through)) = not-through order l past Out p (takes-not-through order Log (looked order l ∷ past) b takes Out p through)

pub turns-both : (honest before : Type 0) (order : Order) (looks : ℕ) (old mid now : Seen) (l : Look) (past : List Act) (log out : ℕ) (reading reading2 : Reading) (said : Turn)
    → order.keep_out ≡ true
    → said ≡ record { look = l; bytes = reading.bytes || reading2.bytes; failed = reading.failed || reading2.failed }
    → (first : ReadsThrough before order looks Log old mid log (looked order l ∷ past) (Ok reading))
    → ReadsThrough honest order looks Out old now out first.next (Ok reading2)
    → TakesTurn honest order looks old now log out past (Ok said)
turns-both honest before order looks old mid now l past log out reading reading2 said keeps said_is first second =
    let a = first.adds in
    let b = second.adds in
    let at : log ≡ kept order Log a.0 = a.3 ∙ ap (kept order Log) a.2 in
    let at2 : out ≡ kept order Out b.0 = b.3 ∙ ap (kept order Out) b.2 in
    let behind = read order Log log a.1 ∷ a.0 in
    let takes2 = subst (λ (p : List Act). TakesIn order Out p b.0) a.2 b.4 in
    let taken2 = subst (λ (p : List Act). MatchBool reading2.bytes (EndsTaken b.0) (b.0 ≡ p)) a.2 b.6 in
    let turned = turned-both order l past a.0 b.0 log out a.1 b.1 reading.bytes reading.failed reading2.bytes reading2.failed keeps at a.4 a.5 a.6 at2 takes2 b.5 taken2 in
    let log_is : log ≡ kept order Log second.next = a.3 ∙ ap (kept order Log) a.2 ∙ sym (ap (kept order Log) b.2 ∙ keeps-log order behind b.0 takes2) in
    record {
      next = second.next;
      stands = second.stands;
      adds = (log_is, b.3, subst (λ (t : Turn). Turned order past second.next t) (sym said_is) (subst (λ (n : List Act). Turned order past n (record { look = l; bytes = reading.bytes || reading2.bytes; failed = reading.failed || reading2.failed })) (sym b.2) turned));
      still = λ act done. second.still act (first.still act (inr done));
    }
