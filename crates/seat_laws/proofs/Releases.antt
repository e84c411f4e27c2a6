-- A turn gives back executors of its own thread's bodies alone.
use Rattle.std.proofs.Common.{◌≡◌, ◌⊎◌, ◌∙◌, ap, sym, subst, refl, inl, inr, ℕ, Bool, true, false, List, [], ◌∷◌, ◌++◌, filter}
use Rattle.std.specs.Prelude.{nat_eq, not, ◌&&◌, if◌then◌else◌}
use Rattle.std.proofs.lemmas.Bool.{eqb-true}
use Rattle.std.specs.List.{AllByRecursion as AllAre}
use Rattle.model_syntax.specs.declared.tree.Tree.{Tree}
use Rattle.model_syntax.specs.declared.node.NodeForm.TheVariants as form
use Rattle.model_syntax.specs.TreeNodes.{tree_node}
use Rattle.model_run.specs.declared.ending.Ending.{Ending}
use Rattle.model_run.specs.declared.held.Held.{Held}
use Rattle.model_run.specs.declared.wait.Answer.{Answer}
use Rattle.model_run.specs.Below.{Small}
use Rattle.model_run.specs.Fitting.{Some_of}
use Rattle.model_run.specs.Grants.{without_request}
use Rattle.model_run.specs.State.{Setting, Common, Own, State, Result, Ended, Waits, Limited, Unfinished}
use Rattle.model_run.specs.Terms.{term}
use Rattle.model_run.specs.Threads.{Runs, Script, Closure, Thread, stands}
use Rattle.model_run.specs.Waiting.{Stood}
use Rattle.model_run.specs.World.{given_answer}
use Rattle.model_run.proofs.PathLaws.{outer_spot}
use Rattle.run_laws.specs.Bounds.{Narrow}
use Rattle.run_laws.specs.Soundness.{Open, Holds, without_all}
use Rattle.run_laws.specs.Evaluation.{AnswerThere, HoldsAt, based}
use Rattle.run_laws.specs.Worlds.{begun_open, SoundThread}
use Rattle.run_laws.proofs.SoundThreads.{waits_block}
use Rattle.run_laws.proofs.SoundWorlds.{mine_of, opens_at, given_runs}
use Rattle.world_laws.proofs.Places.{some_behind}
use Rattle.seat_laws.specs.Seats.{room_of, mine, ReleasesOf, GivesBack}

-- whether an executor is kept where those of these requests are given back
abbrev keeps : List ℕ → Held → Bool
keeps [] x = true
keeps (r ∷ rs) x = keeps rs x && not (nat_eq x.request r)

all_kept : (xs : List Held) → filter (λ x. true) xs ≡ xs
all_kept [] = refl
all_kept (x ∷ xs) = ap (λ ys. x ∷ ys) (all_kept xs)

kept_twice : (k : Held → Bool) (r : ℕ) (xs : List Held) → without_request r (filter k xs) ≡ filter (λ x. k x && not (nat_eq x.request r)) xs
kept_twice k r [] = refl
kept_twice k r (x ∷ xs) = one (k x) (not (nat_eq x.request r)) refl (kept_twice k r xs)
  where
    one : (a b : Bool) → not (nat_eq x.request r) ≡ b → without_request r (filter k xs) ≡ filter (λ y. k y && not (nat_eq y.request r)) xs
        → without_request r (if a then x ∷ filter k xs else filter k xs) ≡ (if a && not (nat_eq x.request r) then x ∷ filter (λ y. k y && not (nat_eq y.request r)) xs else filter (λ y. k y && not (nat_eq y.request r)) xs)
    one false b e more = more
    one true true e more = ap (λ c. if c then x ∷ without_request r (filter k xs) else without_request r (filter k xs)) e ∙ ap (λ ys. x ∷ ys) more ∙ ap (λ c. if c then x ∷ filter (λ y. k y && not (nat_eq y.request r)) xs else filter (λ y. k y && not (nat_eq y.request r)) xs) (sym e)
    one true false e more = ap (λ c. if c then x ∷ without_request r (filter k xs) else without_request r (filter k xs)) e ∙ more ∙ ap (λ c. if c then x ∷ filter (λ y. k y && not (nat_eq y.request r)) xs else filter (λ y. k y && not (nat_eq y.request r)) xs) (sym e)

without_is : (rs : List ℕ) (xs : List Held) → without_all rs xs ≡ filter (keeps rs) xs
without_is [] xs = sym (all_kept xs)
without_is (r ∷ rs) xs = ap (without_request r) (without_is rs xs) ∙ kept_twice (keeps rs) r xs

kept_or : (rs : List ℕ) (x : Held) → Some_of (λ r. r ≡ x.request) rs ⊎ (keeps rs x ≡ true)
kept_or [] x = inr refl
kept_or (r ∷ rs) x = elim (kept_or rs x) [ inl is ↦ inl (inr is) | inr kept ↦ one (nat_eq x.request r) refl kept ]
  where
    one : (b : Bool) → nat_eq x.request r ≡ b → keeps rs x ≡ true → Some_of (λ q. q ≡ x.request) (r ∷ rs) ⊎ ((keeps rs x && not (nat_eq x.request r)) ≡ true)
    one true e kept = inl (inl (sym (eqb-true _ _ e)))
    one false e kept = inr (ap (λ c. keeps rs x && not c) e ∙ ap (λ c. c && true) kept)

all_or : (own rs : List ℕ) → ((n : ℕ) → Some_of (λ r. r ≡ n) rs → Some_of (λ r. r ≡ n) own) → (xs : List Held) → AllAre (λ x. Some_of (λ r. r ≡ x.request) own ⊎ (keeps rs x ≡ true)) xs
all_or own rs in_own [] = tt
all_or own rs in_own (x ∷ xs) = (elim (kept_or rs x) [ inl is ↦ inl (in_own x.request is) | inr kept ↦ inr kept ], all_or own rs in_own xs)

releases : (own rs : List ℕ) (old new : List Held) → new ≡ without_all rs old → ((n : ℕ) → Some_of (λ r. r ≡ n) rs → Some_of (λ r. r ≡ n) own) → ReleasesOf own old new
releases own rs old new e in_own = (keeps rs, e ∙ without_is rs old, all_or own rs in_own old)

module _ (g : Setting) (tree : Tree) (is : g.script ≡ term 0 (tree_node tree)) (small : Small g) (narrow : Narrow g.limits) where
  ended_held : (o : Open) (u : Common) (runs : Runs) (e : Ending) (s : State) → HoldsAt (based g o) (outer_spot runs) u (Ended e s) → s.world.shared.held ≡ without_all o.gone o.was
  ended_held o u Script e s h = ((h.0).same).held
  ended_held o u (Closure c env start) e s h = ((h.0).same).held

  -- those that a turn may give back: of the bodies that are open, and of the one that it opens
  gives_back : (u : Common) (runs : Runs) (own : Own) (gone : List ℕ) (r : Result) → HoldsAt (based g (begun_open own u.held gone)) (outer_spot runs) u r → GivesBack gone u.held r
  gives_back u runs own gone (Ended e s) h = releases gone gone u.held s.world.shared.held (ended_held (begun_open own u.held gone) u runs e s h) (λ n i. i)
  gives_back u runs own gone (Waits asked path s) h =
      let w : Holds (based g (begun_open own u.held gone)) form.Block u (Waits asked path s) = waits_block (based g (begun_open own u.held gone)) runs u asked path s h in
      releases gone ((w.0).pausing).rest u.held s.world.shared.held ((w.0).pausing).held (λ n i. subst (Some_of (λ r. r ≡ n)) (sym ((w.0).pausing).gone) (some_behind (λ r. r ≡ n) ((w.0).pausing).own ((w.0).pausing).rest i))
  gives_back u runs own gone (Limited k s) h = tt
  gives_back u runs own gone Unfinished h = tt

  -- A turn of a thread gives back at most the executors of its own open `node` bodies, and that of the one whose executor it is granted.
  pub turn_gives_back : (u : Common) (x : Answer) → AnswerThere u x → (t : Thread) → SoundThread g u t → Stood g t
      → GivesBack (mine (room_of g t) ++ opens_at g tree is small narrow t.runs (stands g t) u.held x) u.held (stands g (given_answer u x t))
  turn_gives_back u x there t h st = gives_back u t.runs t.own (mine_of g tree is small narrow t (stands g t) ++ opens_at g tree is small narrow t.runs (stands g t) u.held x) (stands g (given_answer u x t)) (given_runs g tree is small narrow u x there t h st)
