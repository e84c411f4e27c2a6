-- The calls of a gate, and where in the history they were answered.
use Rattle.std.proofs.Math.Logic.{∥∥₁_map}
use Rattle.std.proofs.Common.{◌≡◌, ◌∙◌, ℕ, Bool, true, false, ◌||◌, List, [], ◌∷◌, ◌++◌, length, Some, refl, sym, ap, subst, append_assoc, append-nil, arith}
use Rattle.program_lock.specs.declared.view.Known.{Known}
use Rattle.program_lock.specs.Legal.{Answers}
use Rattle.program_lock.specs.History.{has, entries, keep_if, numbered, under, entries_of, NoneUnder}
use Rattle.program_lock.proofs.HistoryLemmas.{entries-append, under-append, none_append}
use Rattle.program_lock.proofs.NumberLemmas.{has-append}
use Rattle.agent_worker.specs.declared.gate.GateCall.{GateCall}
use Rattle.locked_build.specs.declared.ask.Ask.{Ask}
use Rattle.locked_build.specs.declared.ask.Entry.{Entry}
use Rattle.locked_build.specs.declared.ask.Reply.{Reply}
use Rattle.member_turns.specs.Asking.{WasCalled}
use Rattle.member_turns.specs.Saying.{AnswersCall, AreAnswered, WereAnswered}

pub no_second : (a b : Bool) → b ≡ false → (a || b) ≡ a
no_second true b is = refl
no_second false b is = is

pub no_first : (a b : Bool) → a ≡ false → (a || b) ≡ b
no_first true b is = absurd (cc)
no_first false b is = refl

module _ {E : Type 0} where
  -- where nothing is kept nothing stood
  pub none_of : (ns : List ℕ) (xs : List (ℕ × E)) → under ns xs ≡ [] → NoneUnder ns xs
  none_of ns [] is = tt
  none_of ns (x ∷ xs) is = by (none_of ns xs) (has ns x.0) refl is
    where
      by : (under ns xs ≡ [] → NoneUnder ns xs) → (b : Bool) → has ns x.0 ≡ b → keep_if b x (under ns xs) ≡ [] → (has ns x.0 ≡ false) × NoneUnder ns xs
      by later true h e = absurd (cc)
      by later false h e = (h, later e)

  pub none_first : (ns : List ℕ) (xs ys : List (ℕ × E)) → NoneUnder ns (xs ++ ys) → NoneUnder ns xs
  none_first ns [] ys none = tt
  none_first ns (x ∷ xs) ys none = (none.0, none_first ns xs ys none.1)

  -- what stands under the numbers of two, where none of it is the one's or the other's
  pub under-first : (ms ns : List ℕ) (xs : List (ℕ × E)) → NoneUnder ns xs → under (ms ++ ns) xs ≡ under ms xs
  under-first ms ns [] none = refl
  under-first ms ns (x ∷ xs) none = λ i. keep_if ((has-append ms ns x.0 ∙ no_second (has ms x.0) (has ns x.0) none.0) i) x (under-first ms ns xs none.1 i)

  pub under-second : (ms ns : List ℕ) (xs : List (ℕ × E)) → NoneUnder ms xs → under (ms ++ ns) xs ≡ under ns xs
  under-second ms ns [] none = refl
  under-second ms ns (x ∷ xs) none = λ i. keep_if ((has-append ms ns x.0 ∙ no_first (has ms x.0) (has ns x.0) none.0) i) x (under-second ms ns xs none.1 i)

  pub entries_of-append : (ns : List ℕ) (xs ys : List (ℕ × E)) → entries_of ns (xs ++ ys) ≡ entries_of ns xs ++ entries_of ns ys
  entries_of-append ns xs ys = ap entries (under-append ns xs ys) ∙ entries-append (under ns xs) (under ns ys)

  -- two beginnings of one list that are of one length
  pub same_front : (xs ys r s : List (ℕ × E)) → xs ++ r ≡ ys ++ s → length xs ≡ length ys → (xs ≡ ys) × (r ≡ s)
  same_front [] [] r s e long = (refl, e)
  same_front [] (y ∷ ys) r s e long = absurd (omega arith)
  same_front (x ∷ xs) [] r s e long = absurd (omega arith)
  same_front (x ∷ xs) (y ∷ ys) r s e long =
      let heads : x ≡ y = cc in
      let tails : xs ++ r ≡ ys ++ s = cc in
      let shorter : length xs ≡ length ys = omega arith in
      let t = same_front xs ys r s tails shorter in
      (cc (heads, t.0), t.1)

module _ (says : List Entry → Ask → Reply → List Entry → Type 0) (ns : List ℕ) (n : ℕ) where
  abbrev Trail : List (ℕ × Entry) → List GateCall → List (ℕ × Entry) → Type 0
  Trail front calls rest = AreAnswered says ns n front calls rest

  -- one call more
  pub answered_more : (front : List (ℕ × Entry)) (calls : List GateCall) (rest others : List (ℕ × Entry)) (call : GateCall) (new : List Entry)
      → Trail front calls rest → NoneUnder ns others → AnswersCall says (entries ((front ++ rest) ++ others)) call new → Trail front (calls ++ call ∷ []) (rest ++ (others ++ numbered n new))
  answered_more front [] rest others call new a none said = (
    rest ++ others,
    new,
    [],
    sym (append_assoc rest others (numbered n new)) ∙ ap (λ (l : List (ℕ × Entry)). (rest ++ others) ++ l) (sym (append-nil (numbered n new))),
    none_append ns rest others a none,
    subst (λ (l : List (ℕ × Entry)). AnswersCall says (entries l) call new) (append_assoc front rest others) said,
    tt,
  )
  answered_more front (c ∷ cs) rest others call new a none said =
      let here : List (ℕ × Entry) = a.0 ++ numbered n a.1 in
      let more : List (ℕ × Entry) = others ++ numbered n new in
      let on : front ++ rest ≡ (front ++ here) ++ a.2 =
      ap (λ (l : List (ℕ × Entry)). front ++ l) (a.3 ∙ sym (append_assoc a.0 (numbered n a.1) a.2)) ∙ sym (append_assoc front here a.2) in (
        a.0,
        a.1,
        a.2 ++ more,
        ap (λ (l : List (ℕ × Entry)). l ++ more) a.3 ∙ append_assoc a.0 (numbered n a.1 ++ a.2) more ∙ ap (λ (l : List (ℕ × Entry)). a.0 ++ l) (append_assoc (numbered n a.1) a.2 more),
        a.4,
        a.5,
        answered_more (front ++ here) cs a.2 others call new a.6 none (subst (λ (l : List (ℕ × Entry)). AnswersCall says (entries (l ++ others)) call new) on said),
      )

  -- within more of the history, of which nothing more is its own
  pub answered_later : (front : List (ℕ × Entry)) (calls : List GateCall) (rest more : List (ℕ × Entry)) → NoneUnder ns more → Trail front calls rest → Trail front calls (rest ++ more)
  answered_later front [] rest more none a = none_append ns rest more a none
  answered_later front (c ∷ cs) rest more none a = (
    a.0,
    a.1,
    a.2 ++ more,
    ap (λ (l : List (ℕ × Entry)). l ++ more) a.3 ∙ append_assoc a.0 (numbered n a.1 ++ a.2) more ∙ ap (λ (l : List (ℕ × Entry)). a.0 ++ l) (append_assoc (numbered n a.1) a.2 more),
    a.4,
    a.5,
    answered_later (front ++ (a.0 ++ numbered n a.1)) cs a.2 more none a.6,
  )

  -- from an earlier beginning on, behind which nothing is its own
  pub answered_sooner : (front before : List (ℕ × Entry)) (calls : List GateCall) (rest : List (ℕ × Entry)) → NoneUnder ns before → Trail (front ++ before) calls rest → Trail front calls (before ++ rest)
  answered_sooner front before [] rest none a = none_append ns before rest none a
  answered_sooner front before (c ∷ cs) rest none a = (
    before ++ a.0,
    a.1,
    a.2,
    ap (λ (l : List (ℕ × Entry)). before ++ l) a.3 ∙ sym (append_assoc before a.0 (numbered n a.1 ++ a.2)),
    none_append ns before a.0 none a.4,
    subst (λ (l : List (ℕ × Entry)). AnswersCall says (entries l) c a.1) (append_assoc front before a.0) a.5,
    subst (λ (l : List (ℕ × Entry)). Trail l cs a.2) (append_assoc front before (a.0 ++ numbered n a.1) ∙ ap (λ (l : List (ℕ × Entry)). front ++ l) (sym (append_assoc before a.0 (numbered n a.1)))) a.6,
  )

pub same_base : {B : Type 0} (a b : B) → Some a ≡ Some b → a ≡ b
same_base a b e = cc

module _ {B : Type 0} (answers : Answers B Entry Ask Reply) (ns : List ℕ) (n since : ℕ) where
  -- of a gate that is new
  pub were_none : (v : Known Entry B) → length v.seen ≡ since → WereAnswered answers ns n since v []
  were_none v long = record { front = v.seen; rest = []; begins = append-nil v.seen; long = long; answered = λ base is. tt }

  -- one call more
  pub were_more : (v w : Known Entry B) (calls : List GateCall) (call : GateCall) → v.numbers ≡ ns → v.number ≡ n → WasCalled answers v call w
      → WereAnswered answers ns n since v calls → WereAnswered answers ns n since w (calls ++ call ∷ [])
  were_more v w calls call numbers number c s =
      let others = c.begins.0 in
      let more : List (ℕ × Entry) = others ++ numbered n c.new in
      let before : c.before ≡ (s.front ++ s.rest) ++ others = sym c.begins.1 ∙ ap (λ (l : List (ℕ × Entry)). l ++ others) (sym s.begins) in
      record {
        front = s.front;
        rest = s.rest ++ more;
        begins = sym (append_assoc s.front s.rest more) ∙ sym (append_assoc (s.front ++ s.rest) others (numbered n c.new)) ∙ ap (λ (l : List (ℕ × Entry)). l ++ numbered n c.new) (sym before)
            ∙ ap (λ (m : ℕ). c.before ++ numbered m c.new) (sym number) ∙ sym (ap (λ (k : Known Entry B). k.seen) c.now);
        long = s.long;
        answered = λ base is.
            let had : v.base ≡ Some base = sym (ap (λ (k : Known Entry B). k.base) c.now) ∙ is in
            answered_more (answers base) ns n s.front calls s.rest others call c.new (s.answered base had) (subst (λ (ms : List ℕ). NoneUnder ms others) numbers c.begins.2)
            (subst (λ (b : B). AnswersCall (answers b) (entries ((s.front ++ s.rest) ++ others)) call c.new) (same_base c.base base (sym c.base_is ∙ had))
            (subst (λ (l : List (ℕ × Entry)). AnswersCall (answers c.base) (entries l) call c.new) before c.answered));
      }

-- the same of what is known of a gate
pub gate_more : {B : Type 0} {answers : Answers B Entry Ask Reply} {ns : List ℕ} {n since : ℕ} {v w : Known Entry B} {calls after : List GateCall} {call : GateCall}
    → v.numbers ≡ ns → v.number ≡ n → WasCalled answers v call w → after ≡ calls ++ call ∷ [] → ∥ WereAnswered answers ns n since v calls ∥₁ → ∥ WereAnswered answers ns n since w after ∥₁
gate_more {answers = answers} {ns = ns} {n = n} {since = since} {v = v} {w = w} {calls = calls} {after = after} {call = call} numbers number c is so =
    subst (λ (l : List GateCall). ∥ WereAnswered answers ns n since w l ∥₁) (sym is) (∥∥₁_map so (were_more answers ns n since v w calls call numbers number c))

pub gate_none : {B : Type 0} {answers : Answers B Entry Ask Reply} {ns : List ℕ} {n since : ℕ} {v : Known Entry B} {calls : List GateCall} → length v.seen ≡ since → calls ≡ [] → ∥ WereAnswered answers ns n since v calls ∥₁
gate_none {answers = answers} {ns = ns} {n = n} {since = since} {v = v} long is = subst (λ (l : List GateCall). ∥ WereAnswered answers ns n since v l ∥₁) (sym is) ∣ were_none answers ns n since v long ∣₁
