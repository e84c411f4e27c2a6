-- The ways of the members, round by round.
use Rattle.std.proofs.Common.{◌≡◌, ⊎_elim, inl, inr, List, [], ◌∷◌, ◌++◌, map, refl, sym, ◌∙◌, subst, append_assoc}
use Rattle.std.specs.List.{AllZip, AllByRecursion as AllAre}
use Rattle.program_lock.specs.Legal.{Answers}
use Rattle.program_lock.specs.Merge.{IsMergeOf}
use Rattle.agent_worker.specs.declared.member.Member.{Member}
use Rattle.member_turns.specs.Lower.locked_build.declared.ask.Ask.{Ask}
use Rattle.member_turns.specs.Lower.locked_build.declared.ask.Entry.{Entry}
use Rattle.member_turns.specs.Lower.locked_build.declared.ask.Reply.{Reply}
use Rattle.member_turns.proofs.PartLemmas.{all_append}
use Rattle.member_turns.specs.Rounds.{Round, AreTurnsOf, RoundsFrom, turns_of}
use Rattle.member_turns.specs.Turns.{Turn, MadeOf}
use Rattle.member_turns.specs.Ways.{Chained, Way}
use Rattle.member_turns.proofs.MadeLemmas.{made_behind, made_more}

module _ {A : Type 0} where
  -- Where one list is made of two, and another of it and a third, the other is made of the first with the third, and the second; and of the
  -- first, and the second with the third.
  pub record Regrouped (ones bs ds es : List A) : Type 0 where
    pub outer : List A
    pub first_third : IsMergeOf ones ds outer
    pub and_second : IsMergeOf outer bs es
    pub inner : List A
    pub second_third : IsMergeOf bs ds inner
    pub with_first : IsMergeOf ones inner es

  from_first : (z : A) (ones bs ds es : List A) → Regrouped ones bs ds es → Regrouped (z ∷ ones) bs ds (z ∷ es)
  from_first z ones bs ds es r = record {
    outer = z ∷ r.outer;
    first_third = inl (ones, refl, r.first_third);
    and_second = inl (r.outer, refl, r.and_second);
    inner = r.inner;
    second_third = r.second_third;
    with_first = inl (ones, refl, r.with_first);
  }

  from_second : (z : A) (ones bs ds es : List A) → Regrouped ones bs ds es → Regrouped ones (z ∷ bs) ds (z ∷ es)
  from_second z ones bs ds es r = record {
    outer = r.outer;
    first_third = r.first_third;
    and_second = inr (bs, refl, r.and_second);
    inner = z ∷ r.inner;
    second_third = inl (bs, refl, r.second_third);
    with_first = inr (r.inner, refl, r.with_first);
  }

  from_third : (z : A) (ones bs ds es : List A) → Regrouped ones bs ds es → Regrouped ones bs (z ∷ ds) (z ∷ es)
  from_third z ones bs ds es r = record {
    outer = z ∷ r.outer;
    first_third = inr (ds, refl, r.first_third);
    and_second = inl (r.outer, refl, r.and_second);
    inner = z ∷ r.inner;
    second_third = inr (ds, refl, r.second_third);
    with_first = inr (r.inner, refl, r.with_first);
  }

  none_regrouped : Regrouped [] [] [] []
  none_regrouped = record { outer = []; first_third = (refl, refl); and_second = (refl, refl); inner = []; second_third = (refl, refl); with_first = (refl, refl) }

  pub regrouped : (ones bs cs ds es : List A) → IsMergeOf ones bs cs → IsMergeOf cs ds es → Regrouped ones bs ds es
  regrouped ones bs cs ds [] m n =
      let both : IsMergeOf ones bs [] = subst (IsMergeOf ones bs) n.0 m in
      subst (λ (l : List A). Regrouped ones bs l []) (sym n.1) (subst (λ (l : List A). Regrouped ones l [] []) (sym both.1) (subst (λ (l : List A). Regrouped l [] [] []) (sym both.0) none_regrouped))
  regrouped ones bs cs ds (z ∷ es) m n = ⊎_elim
      (λ (l : (us : List A) × (cs ≡ z ∷ us) × IsMergeOf us ds es). ⊎_elim
      (λ (f : (us : List A) × (ones ≡ z ∷ us) × IsMergeOf us bs l.0). subst (λ (xs : List A). Regrouped xs bs ds (z ∷ es)) (sym f.1) (from_first z f.0 bs ds es (regrouped f.0 bs l.0 ds es f.2 l.2)))
      (λ (s : (vs : List A) × (bs ≡ z ∷ vs) × IsMergeOf ones vs l.0). subst (λ (xs : List A). Regrouped ones xs ds (z ∷ es)) (sym s.1) (from_second z ones s.0 ds es (regrouped ones s.0 l.0 ds es s.2 l.2)))
      (subst (IsMergeOf ones bs) l.1 m))
      (λ (r : (vs : List A) × (ds ≡ z ∷ vs) × IsMergeOf cs vs es). subst (λ (xs : List A). Regrouped ones bs xs (z ∷ es)) (sym r.1) (from_third z ones bs r.0 es (regrouped ones bs cs r.0 es m r.2)))
      n

module _ {H A : Type 0} where
  chain_more : (old now : Member H A) (turns : List (Turn H A)) (turn : Turn H A) → Chained old turns now → turn.old ≡ now → Chained old (turns ++ turn ∷ []) turn.now
  chain_more old now [] turn c is = (is ∙ c, refl)
  chain_more old now (t ∷ ts) turn c is = (c.0, chain_more t.now now ts turn c.1 is)

module _ {H A : Type 0} (Did : Turn H A → Type 0) where
  abbrev ways : List Entry → List (Member H A) → List (Member H A) → Type 0
  ways so_far olds nows = AllZip (Way Did so_far) olds nows

  -- a turn of another member
  other_turn : (before after : List Entry) (own : List Entry) (old now : Member H A) → IsMergeOf before own after → Way Did before old now → Way Did after old now
  other_turn before after own old now m w =
      let r = regrouped w.own w.others before own after w.part m in
      record { turns = w.turns; chain = w.chain; did = w.did; own = w.own; made = w.made; others = r.inner; part = r.with_first }

  -- a turn of its own
  own_turn : (before after : List Entry) (turn : Turn H A) (old : Member H A) → IsMergeOf before turn.own after → Did turn → Way Did before old turn.old → Way Did after old turn.now
  own_turn before after turn old m did w =
      let r = regrouped w.own w.others before turn.own after w.part m in
      record {
        turns = w.turns ++ turn ∷ [];
        chain = chain_more old turn.old w.turns turn w.chain refl;
        did = all_append Did w.turns (turn ∷ []) w.did (did, tt);
        own = r.outer;
        made = made_more w.turns turn [] w.own r.outer w.made r.first_third;
        others = w.others;
        part = r.and_second;
      }

  other_turns : (turns : List (Turn H A)) (before after : List Entry) (old now : Member H A) → MadeOf before turns after → Way Did before old now → Way Did after old now
  other_turns [] before after old now m w = subst (λ (es : List Entry). Way Did es old now) m w
  other_turns (turn ∷ turns) before after old now m w = other_turns turns m.0 after old now m.2 (other_turn before m.0 turn.own old now m.1 w)

  all_others : (before after : List Entry) (own : List Entry) (olds nows : List (Member H A)) → IsMergeOf before own after → ways before olds nows → ways after olds nows
  all_others before after own [] [] m w = tt
  all_others before after own [] (n ∷ nows) m w = absurd w
  all_others before after own (o ∷ olds) [] m w = absurd w
  all_others before after own (o ∷ olds) (n ∷ nows) m w = (other_turn before after own o n m w.0, all_others before after own olds nows m w.1)

  abbrev olds_of : List (Turn H A) → List (Member H A)
  olds_of turns = map (λ (turn : Turn H A). turn.old) turns

  abbrev nows_of : List (Turn H A) → List (Member H A)
  nows_of turns = map (λ (turn : Turn H A). turn.now) turns

  -- turns of the first members
  turns_ways : (turns : List (Turn H A)) (others olds : List (Member H A)) (before after : List Entry) → MadeOf before turns after → AllAre Did turns
      → ways before olds (olds_of turns ++ others) → ways after olds (nows_of turns ++ others)
  turns_ways [] others olds before after m did w = subst (λ (es : List Entry). ways es olds others) m w
  turns_ways (turn ∷ turns) others [] before after m did w = absurd w
  turns_ways (turn ∷ turns) others (o ∷ olds) before after m did w = (
    other_turns turns m.0 after o turn.now m.2 (own_turn before m.0 turn o m.1 did.0 w.0),
    turns_ways turns others olds m.0 after m.2 did.1 (all_others before m.0 turn.own olds (olds_of turns ++ others) m.1 w.1),
  )

  pub are_ways : (turns : List (Turn H A)) (others olds ms ns : List (Member H A)) (before after : List Entry) → AreTurnsOf turns others ms ns → MadeOf before turns after → AllAre Did turns
      → ways before olds ms → ways after olds ns
  are_ways turns others olds ms ns before after are m did w = subst (ways after olds) (sym are.1) (turns_ways turns others olds before after m did (subst (ways before olds) are.0 w))

  pub all_two : (xs ys : List (Turn H A)) → AllAre Did (xs ++ ys) → AllAre Did xs × AllAre Did ys
  all_two [] ys all = (tt, all)
  all_two (x ∷ xs) ys all = let rest = all_two xs ys all.1 in ((all.0, rest.0), rest.1)

  pub no_way : (olds : List (Member H A)) → ways [] olds olds
  no_way [] = tt
  no_way (o ∷ olds) = (record { turns = []; chain = refl; did = tt; own = []; made = refl; others = []; part = (refl, refl) }, no_way olds)

  module _ {B : Type 0} (answers : Answers B Entry Ask Reply) (base : B) where
    pub rounds_ways : (rounds : List (Round H A)) (last : List (Turn H A)) (olds ms ns : List (Member H A)) (before after : List Entry) → AllAre Did (turns_of rounds ++ last)
        → RoundsFrom answers base rounds ms before ns after → ways before olds ms → ways after olds ns × AllAre Did last
    rounds_ways [] last olds ms ns before after did r w = (subst (λ (es : List Entry). ways es olds ns) (sym r.1) (subst (ways before olds) (sym r.0) w), did)
    rounds_ways (round ∷ rounds) last olds ms ns before after did r w =
        let two = all_two round.turns (turns_of rounds ++ last) (subst (AllAre Did) (append_assoc round.turns (turns_of rounds) last) did) in
        rounds_ways rounds last olds r.0 ns (before ++ r.1) after two.1 r.7 (are_ways round.turns [] olds ms r.0 before (before ++ r.1) r.2 (made_behind before round.turns r.1 r.3) two.0 w)
