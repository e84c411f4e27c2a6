-- What a group's contract says of its turns, in the words of the stances of its threads; and that a bound on turns is never met.
use Rattle.std.proofs.Common.{◌≡◌, ◌≤◌, ℕ, List, [], ◌∷◌, refl, sym, ap, subst, length, Option, Some, false, arith}
use Rattle.model_values.specs.declared.value.Outcome.{Outcome}
use Rattle.model_run.specs.declared.wait.Answer.{Answer}
use Rattle.model_run.specs.declared.site.Site.{Site}
use Rattle.model_run.specs.Fitting.{SharedFits}
use Rattle.model_run.specs.Terms.{Term}
use Rattle.model_run.specs.State.{Setting, Common}
use Rattle.model_run.specs.World as W
use Rattle.green_threads.specs.declared.runner.Stop.{Stop}
use Rattle.green_threads.specs.declared.runner.Stop.TheVariants as stop
use Rattle.green_threads.specs.declared.runner.Seated.{Seated}
use Rattle.green_threads.specs.declared.settled.Settled.{Settled}
use Rattle.green_threads.specs.declared.settled.Settled.TheVariants as settled
use Rattle.green_threads.specs.Threads as G
use Rattle.green_threads.specs.Order.{Settles, all_wait, next_turn, ends, limit_met, too_many}
use Rattle.green_threads.proofs.Order.{more_turns}
use Rattle.settle_laws.specs.Stances.{Stance, seated_as, Turns}
use Rattle.settle_laws.specs.Standing.{Stand, Comes, HeadsStand}
use Rattle.settle_laws.proofs.Heads.{heads_later, heads_turn, heads_turned}
use Rattle.settle_laws.proofs.Settling.{settles_world}

module _ {T S : Type 0} (stance : T → Stance) (common : S → Common) (script : S → Term) (site : S → Site) (seated : T → ℕ → Option ℕ → T) (head : T → ℕ) (turns : T → S → Answer → Stop T → T → S → Type 0) where
  abbrev set : S → Setting
  set u = W.setting_of W.run_limits (script u) (site u)

  -- the thread's last flow node is that of its stance, and its turns are those of the definitions
  module _ (head_is : (t : T) → head t ≡ (stance t).own.head) (turns_are : (t : T) (u : S) (x : Answer) (k : Stop T) (t' : T) (u' : S) → turns t u x k t' u' → Turns stance common set t u x k t' u') where
    turned_same : (g : G.Threads T) (x : Seated T) (k : Stop T) (t : T) → G.turned seated (λ z. (stance z).own.head) g x k t ≡ G.turned seated head g x k t
    turned_same g x (stop.Waits r) t = refl
    turned_same g x (stop.Forks bs) t = refl
    turned_same g x (stop.Ended o) t = ap (λ h. record { seats = G.ended_branch x.number h o x.parent g.seats; next = g.next }) (sym (head_is t))
    turned_same g x (stop.Limit k) t = refl

    pub settles_as : (n : ℕ) (g : G.Threads T) (u : S) (out : Settled) (g' : G.Threads T) (u' : S) → Settles 256 seated head turns n g u out g' u' → Settles 256 seated (λ z. (stance z).own.head) (Turns stance common set) n g u out g' u'
    settles_as _ _ _ _ _ _ (all_wait n g u none) = all_wait n g u none
    settles_as _ _ _ _ _ _ (next_turn n g g' u u' u'' v k t out first tu more adm rest) =
        next_turn n g g' u u' u'' v k t out first (turns_are v.seat.thread u v.answer k t u' tu) more adm
        (subst (λ (m : G.Threads T). Settles 256 seated (λ z. (stance z).own.head) (Turns stance common set) n m u' out g' u'') (sym (turned_same g v.seat k t)) (settles_as n (G.turned seated head g v.seat k t) u' out g' u'' rest))
    settles_as _ _ _ _ _ _ (ends n g u u' v o t w first tu par) = ends n g u u' v o t w first (turns_are v.seat.thread u v.answer (stop.Ended o) t u' tu) par
    settles_as _ _ _ _ _ _ (limit_met n g u u' v k t w first tu) = limit_met n g u u' v k t w first (turns_are v.seat.thread u v.answer (stop.Limit k) t u' tu)
    settles_as _ _ _ _ _ _ (too_many n g u u' v bs t w first tu many) = too_many n g u u' v bs t w first (turns_are v.seat.thread u v.answer (stop.Forks bs) t u' tu) many

    -- what every turn keeps, all turns keep
    pub settles_keeps : (P : S → Type 0) → ((t : T) (u : S) (x : Answer) (k : Stop T) (t' : T) (u' : S) → Turns stance common set t u x k t' u' → P u → P u') → (n : ℕ) (g : G.Threads T) (u : S) (out : Settled) (g' : G.Threads T) (u' : S) → Settles 256 seated head turns n g u out g' u' → P u → P u'
    settles_keeps P keep _ _ _ _ _ _ (all_wait n g u none) p = p
    settles_keeps P keep _ _ _ _ _ _ (next_turn n g g' u u' u'' v k t out first tu more adm rest) p =
        settles_keeps P keep n (G.turned seated head g v.seat k t) u' out g' u'' rest (keep v.seat.thread u v.answer k t u' (turns_are v.seat.thread u v.answer k t u' tu) p)
    settles_keeps P keep _ _ _ _ _ _ (ends n g u u' v o t w first tu par) p = keep v.seat.thread u v.answer (stop.Ended o) t u' (turns_are v.seat.thread u v.answer (stop.Ended o) t u' tu) p
    settles_keeps P keep _ _ _ _ _ _ (limit_met n g u u' v k t w first tu) p = keep v.seat.thread u v.answer (stop.Limit k) t u' (turns_are v.seat.thread u v.answer (stop.Limit k) t u' tu) p
    settles_keeps P keep _ _ _ _ _ _ (too_many n g u u' v bs t w first tu many) p = keep v.seat.thread u v.answer (stop.Forks bs) t u' (turns_are v.seat.thread u v.answer (stop.Forks bs) t u' tu) p

    pub settles_sound : (n : ℕ) (g : G.Threads T) (u : S) (out : Settled) (g' : G.Threads T) (u' : S) → Settles 256 seated head turns n g u out g' u' → SharedFits (set u) false (common u) → SharedFits (set u') false (common u')
    settles_sound = settles_keeps (λ u. SharedFits (set u) false (common u)) (λ t u x k t' u' tu p. tu.sound)

    pub settles_more : (n : ℕ) (g : G.Threads T) (u : S) (out : Settled) (g' : G.Threads T) (u' : S) → Settles 256 seated head turns n g u out g' u' → length (common u).nodes ≤ length (common u').nodes
    settles_more n g u out g' u' d = settles_keeps (λ v. length (common u).nodes ≤ length (common v).nodes) (λ t v x k t' v' tu p. omega (arith, tu.nodes_stay, p)) n g u out g' u' d (omega arith)

    pub settles_setting : (n : ℕ) (g : G.Threads T) (u : S) (out : Settled) (g' : G.Threads T) (u' : S) → Settles 256 seated head turns n g u out g' u' → set u' ≡ set u
    settles_setting n g u out g' u' d = settles_keeps (λ v. set v ≡ set u) (λ t v x k t' v' tu p. subst (λ j. j ≡ set u) (sym tu.same_setting) p) n g u out g' u' d refl

    -- the last flow nodes of the threads stay there
    pub settles_heads : ((t : T) (n : ℕ) (q : Option ℕ) → stance (seated t n q) ≡ seated_as n q (stance t)) → (n : ℕ) (g : G.Threads T) (u : S) (out : Settled) (g' : G.Threads T) (u' : S) → Settles 256 seated head turns n g u out g' u' → HeadsStand stance (common u).nodes g.seats → HeadsStand stance (common u').nodes g'.seats
    settles_heads seated_is _ _ _ _ _ _ (all_wait n g u none) h = h
    settles_heads seated_is _ _ _ _ _ _ (next_turn n g g' u u' u'' v k t out first tu more adm rest) h =
        let turn = turns_are v.seat.thread u v.answer k t u' tu in
        settles_heads seated_is n (G.turned seated head g v.seat k t) u' out g' u'' rest
        (heads_turned stance seated seated_is head (common u').nodes g v.seat k t (heads_later stance (common u).nodes (common u').nodes turn.nodes_stay g.seats h) turn.head turn.branches)
    settles_heads seated_is _ _ _ _ _ _ (ends n g u u' v o t w first tu par) h =
        let turn = turns_are v.seat.thread u v.answer (stop.Ended o) t u' tu in
        heads_turn stance (common u').nodes w t v.seat.number g.seats turn.head (heads_later stance (common u).nodes (common u').nodes turn.nodes_stay g.seats h)
    settles_heads seated_is _ _ _ _ _ _ (limit_met n g u u' v k t w first tu) h =
        let turn = turns_are v.seat.thread u v.answer (stop.Limit k) t u' tu in
        heads_turn stance (common u').nodes w t v.seat.number g.seats turn.head (heads_later stance (common u).nodes (common u').nodes turn.nodes_stay g.seats h)
    settles_heads seated_is _ _ _ _ _ _ (too_many n g u u' v bs t w first tu many) h =
        let turn = turns_are v.seat.thread u v.answer (stop.Forks bs) t u' tu in
        heads_turn stance (common u').nodes w t v.seat.number g.seats turn.head (heads_later stance (common u).nodes (common u').nodes turn.nodes_stay g.seats h)

    -- and where one has ended the build, it is among them
    pub settles_some : (n : ℕ) (g : G.Threads T) (u : S) (out : Settled) (g' : G.Threads T) (u' : S) → Settles 256 seated head turns n g u out g' u' → (o : Outcome) → out ≡ settled.Ended o → g'.seats ≡ [] → ⊥
    settles_some _ _ _ _ _ _ (all_wait n g u none) o is empty = absurd (cc is)
    settles_some _ _ _ _ _ _ (next_turn n g g' u u' u'' v k t out first tu more adm rest) o is empty = settles_some n (G.turned seated head g v.seat k t) u' out g' u'' rest o is empty
    settles_some _ _ _ _ _ _ (ends n g u u' v o' t w first tu par) o is empty = none_there g.seats first empty
      where
        none_there : (xs : List (Seated T)) → G.first_ready xs ≡ Some v → G.with_seat (G.turned_seat w t) v.seat.number xs ≡ [] → ⊥
        none_there [] at e = absurd (cc at)
        none_there (x ∷ xs) at e = absurd (cc e)
    settles_some _ _ _ _ _ _ (limit_met n g u u' v k t w first tu) o is empty = absurd (cc is)
    settles_some _ _ _ _ _ _ (too_many n g u u' v bs t w first tu many) o is empty = absurd (cc is)

    -- All that a group's threads do for an event, the definitions do: at most n turns, and no more than an event can make.
    pub settles_comes : ((t : T) (n : ℕ) (q : Option ℕ) → stance (seated t n q) ≡ seated_as n q (stance t)) → (n : ℕ) (g : G.Threads T) (u : S) (out : Settled) (g' : G.Threads T) (u' : S) → Settles 256 seated head turns n g u out g' u' → (m : ℕ) → n ≤ m → (b : W.Build) → Stand stance (set u) g (common u) b → Comes stance (set u') out g' (common u') b (W.settle m (set u) b)
    settles_comes seated_is n g u out g' u' d m le b st =
        settles_world stance common script site seated seated_is m g u out g' u'
        (more_turns 256 seated (λ z. (stance z).own.head) (Turns stance common set) n g u out g' u' (settles_as n g u out g' u' d) m le) b st
