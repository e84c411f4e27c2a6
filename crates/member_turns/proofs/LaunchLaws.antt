-- No task is launched twice in the turns of a life, whoever had them.
use Rattle.std.proofs.Common.{◌≡◌, ⊎_elim, inl, inr, ℕ, false, List, [], ◌∷◌, ◌++◌, sym, ap, subst, arith, append-nil}
use Rattle.std.specs.List.{IsDistinct, AllByRecursion as AllAre}
use Rattle.std.specs.Prelude.{nat_eq}
use Rattle.program_lock.specs.Legal.{IsLegal}
use Rattle.program_lock.specs.Merge.{IsMergeOf}
use Rattle.settle_laws.specs.Stances.{Stance}
use Rattle.member_turns.specs.Lower.build_core.Builds.{Parts}
use Rattle.agent_worker.specs.declared.member.Member.{Member}
use Rattle.agent_worker.specs.declared.member.Member.TheVariants.{Executor, Operator}
use Rattle.member_turns.specs.Lower.locked_build.declared.ask.Entry.{Entry}
use Rattle.member_turns.specs.Lower.locked_build.declared.ask.Entry.TheVariants.{Took, Claimed, Line, Failed}
use Rattle.member_turns.specs.Lower.locked_build.Says.{Says}
use Rattle.member_turns.specs.Tales.{claimed_of}
use Rattle.member_turns.specs.Turning.{tasks_of, IsPart}
use Rattle.member_turns.proofs.ClaimLaws.{claims_differ}
use Rattle.member_turns.proofs.PartLemmas.{part_differs, part_beside, part_none, part_wider}
use Rattle.member_turns.specs.Turns.{Turn, MadeOf, Launches, launches_of}
use Rattle.task_host.specs.View.{HostView}

-- the tasks that these entries claim
abbrev claims_in : List Entry → List ℕ
claims_in es = tasks_of (claimed_of es)

-- claims of entries that are made of two are made of the claims of each
pub claims_merge : (xs ys zs : List Entry) → IsMergeOf xs ys zs → IsMergeOf (claims_in xs) (claims_in ys) (claims_in zs)
claims_merge xs ys [] m = (ap claims_in m.0, ap claims_in m.1)
claims_merge xs ys (Took e ∷ zs) m = ⊎_elim
    (λ (l : (us : List Entry) × (xs ≡ Took e ∷ us) × IsMergeOf us ys zs). subst (λ (es : List Entry). IsMergeOf (claims_in es) (claims_in ys) (claims_in zs)) (sym l.1) (claims_merge l.0 ys zs l.2))
    (λ (r : (vs : List Entry) × (ys ≡ Took e ∷ vs) × IsMergeOf xs vs zs). subst (λ (es : List Entry). IsMergeOf (claims_in xs) (claims_in es) (claims_in zs)) (sym r.1) (claims_merge xs r.0 zs r.2))
    m
claims_merge xs ys (Line line ∷ zs) m = ⊎_elim
    (λ (l : (us : List Entry) × (xs ≡ Line line ∷ us) × IsMergeOf us ys zs). subst (λ (es : List Entry). IsMergeOf (claims_in es) (claims_in ys) (claims_in zs)) (sym l.1) (claims_merge l.0 ys zs l.2))
    (λ (r : (vs : List Entry) × (ys ≡ Line line ∷ vs) × IsMergeOf xs vs zs). subst (λ (es : List Entry). IsMergeOf (claims_in xs) (claims_in es) (claims_in zs)) (sym r.1) (claims_merge xs r.0 zs r.2))
    m
claims_merge xs ys (Failed fault event ∷ zs) m = ⊎_elim
    (λ (l : (us : List Entry) × (xs ≡ Failed fault event ∷ us) × IsMergeOf us ys zs). subst (λ (es : List Entry). IsMergeOf (claims_in es) (claims_in ys) (claims_in zs)) (sym l.1) (claims_merge l.0 ys zs l.2))
    (λ (r : (vs : List Entry) × (ys ≡ Failed fault event ∷ vs) × IsMergeOf xs vs zs). subst (λ (es : List Entry). IsMergeOf (claims_in xs) (claims_in es) (claims_in zs)) (sym r.1) (claims_merge xs r.0 zs r.2))
    m
claims_merge xs ys (Claimed executor task keep_out kept_log kept_out ∷ zs) m = ⊎_elim
    (λ (l : (us : List Entry) × (xs ≡ Claimed executor task keep_out kept_log kept_out ∷ us) × IsMergeOf us ys zs). inl (claims_in l.0, ap claims_in l.1, claims_merge l.0 ys zs l.2))
    (λ (r : (vs : List Entry) × (ys ≡ Claimed executor task keep_out kept_log kept_out ∷ vs) × IsMergeOf xs vs zs). inr (claims_in r.0, ap claims_in r.1, claims_merge xs r.0 zs r.2))
    m

all_front : (P : ℕ → Type 0) (xs : List ℕ) (z : ℕ) (ts : List ℕ) → P z → AllAre P (xs ++ ts) → AllAre P (xs ++ z ∷ ts)
all_front P [] z ts one all = (one, all)
all_front P (x ∷ xs) z ts one all = (all.0, all_front P xs z ts one all.1)

-- what holds of all holds where they stand in another order
all_apart : (P : ℕ → Type 0) (xs ys zs ws : List ℕ) → IsMergeOf xs ys zs → AllAre P (zs ++ ws) → AllAre P (xs ++ (ys ++ ws))
all_apart P xs ys [] ws m all = subst (λ (a : List ℕ). AllAre P (a ++ (ys ++ ws))) (sym m.0) (subst (λ (b : List ℕ). AllAre P (b ++ ws)) (sym m.1) all)
all_apart P xs ys (z ∷ zs) ws m all = ⊎_elim
    (λ (l : (us : List ℕ) × (xs ≡ z ∷ us) × IsMergeOf us ys zs). subst (λ (a : List ℕ). AllAre P (a ++ (ys ++ ws))) (sym l.1) (all.0, all_apart P l.0 ys zs ws l.2 all.1))
    (λ (r : (vs : List ℕ) × (ys ≡ z ∷ vs) × IsMergeOf xs vs zs). subst (λ (b : List ℕ). AllAre P (xs ++ (b ++ ws))) (sym r.1) (all_front P xs z (r.0 ++ ws) all.0 (all_apart P xs r.0 zs ws r.2 all.1)))
    m

other_way : (x z : ℕ) → nat_eq z x ≡ false → nat_eq x z ≡ false
other_way x z is = grind (arith, is)

-- one more, different from all, anywhere among them
one_between : (xs : List ℕ) (z : ℕ) (ts : List ℕ) → IsDistinct nat_eq (xs ++ ts) → AllAre (λ y. nat_eq z y ≡ false) (xs ++ ts) → IsDistinct nat_eq (xs ++ z ∷ ts)
unfolding IsDistinct
one_between [] z ts once new = (new, once)
one_between (x ∷ xs) z ts once new = (all_front (λ y. nat_eq x y ≡ false) xs z ts (other_way x z new.0) once.0, one_between xs z ts once.1 new.1)

-- different numbers stay so where they are taken apart
differ_apart : (xs ys zs ws : List ℕ) → IsMergeOf xs ys zs → IsDistinct nat_eq (zs ++ ws) → IsDistinct nat_eq (xs ++ (ys ++ ws))
unfolding IsDistinct
differ_apart xs ys [] ws m once = subst (λ (a : List ℕ). IsDistinct nat_eq (a ++ (ys ++ ws))) (sym m.0) (subst (λ (b : List ℕ). IsDistinct nat_eq (b ++ ws)) (sym m.1) once)
differ_apart xs ys (z ∷ zs) ws m once = ⊎_elim
    (λ (l : (us : List ℕ) × (xs ≡ z ∷ us) × IsMergeOf us ys zs). subst (λ (a : List ℕ). IsDistinct nat_eq (a ++ (ys ++ ws))) (sym l.1) (all_apart (λ y. nat_eq z y ≡ false) l.0 ys zs ws l.2 once.0, differ_apart l.0 ys zs ws l.2 once.1))
    (λ (r : (vs : List ℕ) × (ys ≡ z ∷ vs) × IsMergeOf xs vs zs). subst (λ (b : List ℕ). IsDistinct nat_eq (xs ++ (b ++ ws))) (sym r.1)
    (one_between xs z (r.0 ++ ws) (differ_apart xs r.0 zs ws r.2 once.1) (all_apart (λ y. nat_eq z y ≡ false) xs r.0 zs ws r.2 once.0)))
    m

module _ {H A : Type 0} where
  -- the claims of all these turns
  abbrev all_claims : List (Turn H A) → List ℕ
  all_claims [] = []
  all_claims (turn ∷ turns) = claims_in turn.own ++ all_claims turns

  turns_differ : (before : List Entry) (turns : List (Turn H A)) (after : List Entry) → MadeOf before turns after → IsDistinct nat_eq (claims_in after) → IsDistinct nat_eq (claims_in before ++ all_claims turns)
  turns_differ before [] after same once = subst (IsDistinct nat_eq) (sym (append-nil (claims_in before))) (subst (λ (es : List Entry). IsDistinct nat_eq (claims_in es)) (sym same) once)
  turns_differ before (turn ∷ turns) after t once =
      differ_apart (claims_in before) (claims_in turn.own) (claims_in t.0) (all_claims turns) (claims_merge before turn.own t.0 t.1) (turns_differ t.0 turns after t.2 once)

  launches_claimed : (host : HostView H) (old now : Member H A) (own : List Entry) (more : List ℕ) → Launches host old now own more → IsPart more (claims_in own)
  launches_claimed host (Executor number machine) (Executor now next) own more l = l.1
  launches_claimed host (Operator answers line ended failed) (Operator next kept now_ended now_failed) own more l = subst (λ (xs : List ℕ). IsPart xs (claims_in own)) (sym l) (part_wider [] [] (claims_in own) part_none)
  launches_claimed host (Executor number machine) (Operator next kept now_ended now_failed) own more l = absurd l
  launches_claimed host (Operator answers line ended failed) (Executor now next) own more l = absurd l

  abbrev LaunchesIn : HostView H → Turn H A → Type 0
  LaunchesIn host turn = Launches host turn.old turn.now turn.own turn.launches

  launches_part : (host : HostView H) (turns : List (Turn H A)) → AllAre (LaunchesIn host) turns → IsPart (launches_of turns) (all_claims turns)
  launches_part host [] all = part_none
  launches_part host (turn ∷ turns) all = part_beside turn.launches (launches_of turns) (claims_in turn.own) (all_claims turns)
      (launches_claimed host turn.old turn.now turn.own turn.launches all.0) (launches_part host turns all.1)

-- In the turns of a life with a legal history no task is launched twice.
pub launches_differ : {H A B T : Type 0} (stance : T → Stance) (opening : B → Parts T) (base : B) (host : HostView H) (turns : List (Turn H A)) (history : List Entry)
    → IsLegal (λ b h x y new. Says stance (opening b) h x y new) base history → MadeOf [] turns history → AllAre (LaunchesIn host) turns → IsDistinct nat_eq (launches_of turns)
launches_differ stance opening base host turns history legal made all =
    part_differs (launches_of turns) (all_claims turns) (launches_part host turns all) (turns_differ [] turns history made (claims_differ stance opening base history legal))
