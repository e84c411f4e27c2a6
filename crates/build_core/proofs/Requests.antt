-- The open requests behind an event: each with the number of one from before it is the same.
use Rattle.std.proofs.Common.{◌≡◌, ◌<◌, ◌≤◌, ℕ, suc, Bool, false, List, [], ◌∷◌, Option, ap, inl, inr, refl, subst, sym, arith}
use Rattle.std.specs.List.{AllByRecursion as AllAre}
use Rattle.model_values.proofs.LaterLaws.{all_weaker}
use Rattle.model_run.specs.Fitting.{Rise, SharedFits, Some_of}
use Rattle.model_run.specs.Requests.{IsSame, RequestsGoOn, RequestsStay, WasOpen, numbers_of}
use Rattle.model_run.specs.State.{Common}
use Rattle.model_run.proofs.RequestLaws.{rise_below, rise_from, some_all}
use Rattle.green_threads.specs.declared.runner.Seated.{Seated}
use Rattle.green_threads.specs.Threads.{Threads}
use Rattle.cps_frames.specs.declared.shared.Shared.{Shared}
use Rattle.cps_frames.specs.Standing.{common_of, setting_of}
use Rattle.script_thread.specs.Marks.{GoesOnFrom}
use Rattle.script_thread.specs.Names.{OpenRequest}
use Rattle.build_core.specs.declared.phase.Phase.{Phase}
use Rattle.build_core.specs.declared.phase.Phase.TheVariants.{Unbegun, Running, Ended, Stopped}
use Rattle.build_core.specs.Phases.{SoundIn}

-- Where numbers rise, the one request of before with the number of r is the one that r comes from.
the_same : (r : OpenRequest) (low next : ℕ) (rs : List OpenRequest) → Rise low next (numbers_of rs) → Some_of (λ q. IsSame q r) rs → AllAre (λ (q : OpenRequest). q.number ≡ r.number → IsSame q r) rs
the_same r low next [] h some = tt
the_same r low next (p ∷ rs) h (inl same) = (
  λ e. same,
  all_weaker (λ (q : OpenRequest). suc p.number ≤ q.number) (λ (q : OpenRequest). q.number ≡ r.number → IsSame q r) (λ q above e. let no : ⊥ = omega (arith, above, e, same.number) in absurd no) rs (rise_from (suc p.number) next rs h.2),
)
the_same r low next (p ∷ rs) h (inr some) = (
  λ e. some_all (λ (q : OpenRequest). suc p.number ≤ q.number) (λ (q : OpenRequest). IsSame q r) (IsSame p r) (λ q above same. let no : ⊥ = omega (arith, above, e, same.number) in absurd no) rs (rise_from (suc p.number) next rs h.2) some,
  the_same r (suc p.number) next rs h.2 some,
)

-- Numbers of before rise and are below the next one: a new request has none of them.
requests_stay : (low : ℕ) (u v : Common) → Rise low u.next_request (numbers_of u.requests) → RequestsGoOn u v → RequestsStay u.requests v.requests
requests_stay low u v rise h = all_weaker (WasOpen u) (λ (r : OpenRequest). AllAre (λ (q : OpenRequest). q.number ≡ r.number → IsSame q r) u.requests) (λ r. one r) v.requests h.were
  where
    one : (r : OpenRequest) → WasOpen u r → AllAre (λ (q : OpenRequest). q.number ≡ r.number → IsSame q r) u.requests
    one r (inl some) = the_same r low u.next_request u.requests rise some
    one r (inr new) = all_weaker (λ (q : OpenRequest). q.number < u.next_request) (λ (q : OpenRequest). q.number ≡ r.number → IsSame q r) (λ q below e. let no : ⊥ = omega (arith, below, e, new) in absurd no) u.requests (rise_below low u.next_request u.requests rise)

module _ {T : Type 0} (number : T → ℕ) (parent : T → Option ℕ) (branch : T → Bool) (fits : List (Seated T) → Shared → Type 0) (shared_fits : (xs : List (Seated T)) (u : Shared) → fits xs u → SharedFits (setting_of u) false (common_of u)) where
  numbers_rise : (p : Phase) (g : Threads T) (u : Shared) → SoundIn number parent branch fits p g u → (p ≡ Stopped → ⊥) → Rise 0 u.next_request (numbers_of u.requests)
  numbers_rise Unbegun g u h on = subst (λ rs. Rise 0 u.next_request (numbers_of rs)) (sym (ap (λ (c : Common). c.requests) h.shared)) tt
  numbers_rise Running g u h on = (shared_fits g.seats u h.fit).requests
  numbers_rise Ended g u h on = subst (λ rs. Rise 0 u.next_request (numbers_of rs)) (sym h.requests) tt
  numbers_rise Stopped g u h on = absurd (on refl)

  -- what a sound build comes to
  pub requests_from : (p : Phase) (g : Threads T) (u v : Shared) → SoundIn number parent branch fits p g u → (p ≡ Stopped → ⊥) → GoesOnFrom u v → RequestsStay u.requests v.requests
  requests_from p g u v h on goes = requests_stay 0 (common_of u) (common_of v) (numbers_rise p g u h on) goes.requests
