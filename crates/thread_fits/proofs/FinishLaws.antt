-- Frames that meet the table go on to an end, a wait or a limit: the stated fuel is enough for them too.
use Rattle.std.proofs.Common.{◌≡◌, ◌≤◌, ◌<◌, ◌+◌, ℕ, suc, List, [], ◌∷◌, Option, Some, None, arith}
use Rattle.std.specs.List.{AllByRecursion as AllAre}
use Rattle.model_values.specs.declared.limit.LimitKind.{LimitKind}
use Rattle.model_run.specs.declared.ending.Asked.{Asked}
use Rattle.model_run.specs.declared.ending.Asked.TheVariants.{ForRequest, ForBranches}
use Rattle.model_run.specs.declared.ending.Ending.{Ending}
use Rattle.model_run.specs.declared.ending.Entry.TheVariants.{Body, Turn}
use Rattle.model_run.specs.declared.frame.Frame.{Frame}
use Rattle.model_run.specs.Below.{IsFinished, Small, full}
use Rattle.model_run.specs.Meaning.{around, continue, unwind}
use Rattle.model_run.specs.Nesting.{MeetsRow, anything, shape_at}
use Rattle.model_run.specs.State.{Ended, Limited, Reply, Result, State, Unfinished, Waits, World, changed, reply_to, room, through, unless_limit, with_world}
use Rattle.model_run.specs.Steps.{with_request}
use Rattle.model_run.specs.Terms.{Term, part_of, term_at}
use Rattle.model_run.proofs.Enough.{Fine, Within, allowance, enough, left}
use Rattle.model_run.proofs.FormLaws.{after_law}
use Rattle.model_run.proofs.Relation.{Agree, Keeps, Relation}

kept_within : (b : ℕ) (g : World → World) (s : State) → Keeps s.world (g s.world) → Within b s → Within b (with_world (g s.world) s)
kept_within b g s keeps h = let l : left s ≤ b = h.0 in (let r : room s.world.setting (g s.world).shared ≤ room s.world.setting s.world.shared = keeps.room in omega arith, h.1)

fine_unless : (b : ℕ) (limit : Option LimitKind) (go : State → Result) (s : State) → Fine b (go s) → Fine b (unless_limit limit go s)
fine_unless b (Some k) go s h = tt
fine_unless b None go s h = h

fine_reply : (b : ℕ) (asked : Asked) (s : State) (rs : List Reply) → room s.world.setting s.world.shared + allowance rs ≤ b → Small s.world.setting → Fine b (reply_to asked s rs)
fine_reply b asked s [] h small = tt
fine_reply b asked s (r ∷ rs) h small = (omega arith, small)

fine_through : (b : ℕ) (f : Frame) (go : Ending → State → Result) → ((e : Ending) (s : State) → Within b s → Fine b (go e s)) → (r : Result) → Fine b r → Fine b (through f go r)
unfolding through
fine_through b f go h (Ended e s) q = h e s q
fine_through b f go h (Waits asked path s) q = tt
fine_through b f go h (Limited k s) q = tt
fine_through b f go h Unfinished q = q

-- one evaluation, where at most b is left to count, and with fuel for so much inside each further turn and call
abbrev with_fuel : ℕ → Relation
with_fuel b = record {
  States = λ s s'. Within b s;
  Less = λ s s'. Within b s;
  Results = λ r r'. Fine b r;
  Inner = λ w r r'. Fine b r;
  Turns = λ r r'. Fine b r;
  Calls = λ r r'. Fine b r;
  Fits = λ f go. Unit {0};
  Stands = λ f w. Unit {0};
  ends = λ e s s' q. q;
  limits = λ k s s' q. tt;
  changes = λ g s s' keeps q. kept_within b g s keeps q;
  weakens = λ s s' q. q;
  turned = λ r r' q. q;
  looks = λ go go' s s' q h. h;
  looks_less = λ go go' s s' q h. h;
  descends = λ limit g go go' h s s' spends q. fine_unless b (limit s.world) (changed g go) s (h _ s' (kept_within b g s spends.keeps q));
  asks = λ r w at s s' q. fine_reply b (ForRequest s.world.shared.next_request) (with_world (with_request r s.world) s) s.replies q.0 q.1;
  forks = λ x bs s s' q. fine_reply b (ForBranches (x ∷ bs)) s s.replies q.0 q.1;
  throughs = λ f w go go' fits stands h r r' q. fine_through b f go (λ e s. h e s s) r q;
  descends_through = λ f go go' fits stands h limit g body body' k s s' spends q.
      fine_through b f go (λ e s. h e s s) (unless_limit (limit s.world) (changed g body) s) (fine_unless b (limit s.world) (changed g body) s (k _ s' (kept_within b g s spends.keeps q)));
}

module _ (root : Term) (n b : ℕ) (lt : b < n) where
  continue_fine : (x : Frame) → MeetsRow anything (shape_at root x.node) x → (e : Ending) (s : State) → Within b s → Fine b (continue root n x e s)
  unfolding continue
  continue_fine x m e s q = after_law (with_fuel b) (λ s s' q. q) (λ s s' q. q) (shape_at root x.node) (around root n (term_at root x.node)) (around root n (term_at root x.node)) x m agree e s s q
    where
      agree : Agree (with_fuel b) (shape_at root x.node) x.node (around root n (term_at root x.node)) (around root n (term_at root x.node))
      agree = record {
        parts = λ e part i env s s' q. enough root (suc n) b (omega (arith, lt)) e (part_of root (term_at root x.node) i) env s q;
        agains = λ i kept env s s' q. enough root n b lt (Turn i kept) (term_at root x.node) env s q;
        calls = λ c args env s s' q. enough root n b lt (Body args) (term_at root c) env s q;
        fits = λ f at m. tt;
        stands = λ f at own m. tt;
        passed = λ w pass r r' q. q;
        called = λ at r r' q. q;
      }

  unwind_fine : (path : List Frame) → AllAre (λ x. MeetsRow anything (shape_at root x.node) x) path → (r : Result) → Fine b r → Fine b (unwind root n path r)
  unfolding unwind
  unwind_fine [] h r q = q
  unwind_fine (x ∷ path) h r q = fine_through b x (continue root n x) (λ e s w. continue_fine x h.0 e s w) (unwind root n path r) (unwind_fine path h.1 r q)

finished_if_fine : (b : ℕ) (r : Result) → Fine b r → IsFinished r
finished_if_fine b (Ended e s) h = tt
finished_if_fine b (Waits asked path s) h = tt
finished_if_fine b (Limited k s) h = tt
finished_if_fine b Unfinished h = h

-- Frames that meet the table go on with an ending, where no answer is still to come.
pub frames_finish : (root : Term) (n : ℕ) → full < n → (path : List Frame) → AllAre (λ x. MeetsRow anything (shape_at root x.node) x) path → (e : Ending) (s : State) → s.replies ≡ [] → Small s.world.setting → IsFinished (unwind root n path (Ended e s))
frames_finish root n lt path h e s alone small =
    let few : left s ≤ full = few_left s.replies alone in
    finished_if_fine full _ (unwind_fine root n full lt path h (Ended e s) (few, small))
  where
    few_left : (rs : List Reply) → rs ≡ [] → room s.world.setting s.world.shared + allowance rs ≤ full
    few_left [] e = omega (arith, small)
    few_left (r ∷ rs) e = absurd (cc e)
