-- The threads of a build, as others see them, through each change of a list of threads; and what a turn of a thread comes to.
use Rattle.std.proofs.Common.{◌≡◌, ◌∙◌, ap, sym, refl, inl, inr, ℕ, Bool, true, false, List, [], ◌∷◌, ◌++◌, map, Option, Some, None}
use Rattle.std.specs.Prelude.{nat_eq, not, if◌then◌else◌}
use Rattle.std.specs.List.{AllByRecursion as AllAre}
use Rattle.std.proofs.lemmas.Bool.{eqb-true}
use Rattle.model_run.specs.declared.wait.Answer.{Answer}
use Rattle.model_run.specs.declared.wait.Wait.{Wait}
use Rattle.model_run.specs.declared.wait.Wait.TheVariants.{Ready, Request as RequestWait, Branches as BranchesWait}
use Rattle.model_run.specs.State.{Setting, Common, Own, Reply, Result}
use Rattle.model_run.specs.declared.ending.Entry.TheVariants.{First, Branched}
use Rattle.model_run.specs.Below.{IsFinished, Small}
use Rattle.model_run.specs.Opened.{Owns}
use Rattle.model_run.specs.Terms.{term_at}
use Rattle.model_run.specs.Threads.{Runs, Script, Closure, Thread, stands, stands_from}
use Rattle.model_run.specs.Waiting.{Stood}
use Rattle.model_run.specs.World.{with_thread, without_thread, with_head, given_answer, Turn, turn_if, first_ready}
use Rattle.model_run.proofs.OwnLaws.{stands_owns}
use Rattle.model_run.proofs.Structure.{enough_fuel}
use Rattle.world_laws.specs.Agreement.{Place, place_of, places, HasPlace}
use Rattle.world_laws.proofs.Places.{others, waiting}

pub places_head : (head n : ℕ) (ts : List Thread) → places (with_thread (with_head head) n ts) ≡ places ts
places_head head n [] = refl
places_head head n (t ∷ ts) = one (nat_eq t.own.number n) (places_head head n ts)
  where
    one : (b : Bool) → places (with_thread (with_head head) n ts) ≡ places ts → place_of (if b then with_head head t else t) ∷ places (with_thread (with_head head) n ts) ≡ place_of t ∷ places ts
    one true more = ap (λ ps. place_of t ∷ ps) more
    one false more = ap (λ ps. place_of t ∷ ps) more

pub places_waiting : (g : Thread → Thread) (f : Wait → Wait) → ((t : Thread) → place_of (g t) ≡ record { number = t.own.number; parent = t.parent; wait = f t.wait }) → (n : ℕ) (ts : List Thread) → places (with_thread g n ts) ≡ map (waiting f n) (places ts)
places_waiting g f is n [] = refl
places_waiting g f is n (t ∷ ts) = one (nat_eq t.own.number n) (places_waiting g f is n ts)
  where
    one : (b : Bool) → places (with_thread g n ts) ≡ map (waiting f n) (places ts) → place_of (if b then g t else t) ∷ places (with_thread g n ts) ≡ (if b then record { number = t.own.number; parent = t.parent; wait = f t.wait } else place_of t) ∷ map (waiting f n) (places ts)
    one true more = ap (λ p. p ∷ places (with_thread g n ts)) (is t) ∙ ap (λ ps. (record { number = t.own.number; parent = t.parent; wait = f t.wait }) ∷ ps) more
    one false more = ap (λ ps. place_of t ∷ ps) more

pub places_without : (n : ℕ) (ts : List Thread) → places (without_thread n ts) ≡ others (λ p. p.number) n (places ts)
places_without n [] = refl
places_without n (t ∷ ts) = one (nat_eq t.own.number n) (places_without n ts)
  where
    one : (b : Bool) → places (without_thread n ts) ≡ others (λ p. p.number) n (places ts) → places (if not b then t ∷ without_thread n ts else without_thread n ts) ≡ (if not b then place_of t ∷ others (λ p. p.number) n (places ts) else others (λ p. p.number) n (places ts))
    one true more = more
    one false more = ap (λ ps. place_of t ∷ ps) more

-- a thread in the place of itself
pub places_given : (x : Thread) (n : ℕ) (ts : List Thread) → AllAre (λ p. p.number ≡ n → p ≡ place_of x) (places ts) → places (with_thread (λ old. x) n ts) ≡ places ts
places_given x n [] all = refl
places_given x n (t ∷ ts) all = one (nat_eq t.own.number n) refl (places_given x n ts all.1)
  where
    one : (b : Bool) → nat_eq t.own.number n ≡ b → places (with_thread (λ old. x) n ts) ≡ places ts → place_of (if b then x else t) ∷ places (with_thread (λ old. x) n ts) ≡ place_of t ∷ places ts
    one true e more = ap (λ p. p ∷ places (with_thread (λ old. x) n ts)) (sym (all.0 (eqb-true _ _ e))) ∙ ap (λ ps. place_of t ∷ ps) more
    one false e more = ap (λ ps. place_of t ∷ ps) more

-- whose turn it is
pub record IsTurn (setting : Setting) (ps : List Place) (turn : Turn) : Type 0 where
  pub stood : Stood setting turn.thread
  pub there : HasPlace (λ p. p ≡ place_of turn.thread) turn.thread.own.number ps
  pub ready : turn.thread.wait ≡ Ready turn.answer

abbrev pub IfTurn : Setting → List Place → Option Turn → Type 0
IfTurn setting ps None = Unit {0}
IfTurn setting ps (Some turn) = IsTurn setting ps turn

module _ (setting : Setting) where
  turn_behind : (p : Place) (ps : List Place) (o : Option Turn) → IfTurn setting ps o → IfTurn setting (p ∷ ps) o
  turn_behind p ps None h = tt
  turn_behind p ps (Some turn) h = record { stood = h.stood; there = inr h.there; ready = h.ready }

  turn_is : (t : Thread) (w : Wait) → t.wait ≡ w → Stood setting t → (ps : List Place) (rest : Option Turn) → IfTurn setting ps rest → IfTurn setting (place_of t ∷ ps) (turn_if t w rest)
  turn_is t (Ready x) e st ps rest h = record { stood = st; there = inl (refl, refl); ready = e }
  turn_is t (RequestWait r) e st ps rest h = turn_behind (place_of t) ps rest h
  turn_is t (BranchesWait js) e st ps rest h = turn_behind (place_of t) ps rest h

  pub first_is : (ts : List Thread) → AllAre (Stood setting) ts → IfTurn setting (places ts) (first_ready ts)
  first_is [] h = tt
  first_is (t ∷ ts) h = turn_is t t.wait refl h.0 (places ts) (first_ready ts) (first_is ts h.1)

  -- A thread that is given an answer goes on as the thread that it is, and stops.
  abbrev given : Thread → List Reply → Common → Answer → Result
  given t hs u x = stands_from setting t.runs t.own (hs ++ (record { shared = u; answer = x }) ∷ [])

  owns_given : (t : Thread) (hs : List Reply) (u : Common) (x : Answer) → Owns setting t.own.number t.own.calls (given t hs u x)
  owns_given t [] u x = stands_owns setting t.runs t.own (record { shared = u; answer = x }) []
  owns_given t (first ∷ rs) u x = stands_owns setting t.runs t.own first (rs ++ (record { shared = u; answer = x }) ∷ [])

  pub turn_owns : (t : Thread) (u : Common) (x : Answer) → Owns setting t.own.number t.own.calls (stands setting (given_answer u x t))
  turn_owns t u x = owns_given t t.history u x

  stands_finished : Small setting → (runs : Runs) (own : Own) (first : Reply) (rs : List Reply) → IsFinished (stands_from setting runs own (first ∷ rs))
  stands_finished small Script own first rs = enough_fuel setting.script First setting.script [] (record { world = record { setting = setting; shared = first.shared; own = own }; replies = rs }) small
  stands_finished small (Closure k env start) own first rs = enough_fuel setting.script (Branched start) (term_at setting.script k) env (record { world = record { setting = setting; shared = first.shared; own = own }; replies = rs }) small

  finished_given : Small setting → (t : Thread) (hs : List Reply) (u : Common) (x : Answer) → IsFinished (given t hs u x)
  finished_given small t [] u x = stands_finished small t.runs t.own (record { shared = u; answer = x }) []
  finished_given small t (first ∷ rs) u x = stands_finished small t.runs t.own first (rs ++ (record { shared = u; answer = x }) ∷ [])

  pub turn_finishes : Small setting → (t : Thread) (u : Common) (x : Answer) → IsFinished (stands setting (given_answer u x t))
  turn_finishes small t u x = finished_given small t t.history u x
