-- How `retry` goes on behind its body's end node.
use Rattle.std.proofs.Common.{◌≡◌, ◌∙◌, ℕ, zero, suc, ◌-◌, List, [], ◌∷◌, ◌++◌, false, refl, ap, sym, inl, inr, arith}
use Rattle.std.specs.Prelude.{Result as Outcome, Ok, Err, codes, slice_get}
use Rattle.model_values.specs.declared.cell.Cell.{Cell}
use Rattle.model_values.specs.declared.value.Value.{Value}
use Rattle.model_run.specs.declared.ending.Ending.{Ending}
use Rattle.model_run.specs.declared.ending.Ending.TheVariants.{Normal, Thrown, Returned, Broke, Continued, Declared, Answered}
use Rattle.model_run.specs.State.{State, Env}
use Rattle.model_run.specs.Around.{Around}
use Rattle.model_run.specs.FlowNodes.{end_body}
use Rattle.model_run.specs.Steps.{after_retry, caught_lines, is_interruption, logging_all, retry_body, retry_end, retry_next}
use Rattle.cps_frames.specs.Moves.{ComesTo}
use Rattle.cps_frames.specs.Standing.{Standing, state}
use Rattle.cps_frames.specs.declared.halt.Halt.{Halt}
use Rattle.cps_frames.specs.declared.thread.Move.{Move}
use Rattle.cps_frames.proofs.MoveLaws.{to_as}
use Rattle.step_library.specs.Retries.{FailsSo, after_try}

pub retry_is : (a : Around) (k : ℕ) (env : Env) (start : ℕ) (f : Value) (m body : ℕ) (e : Ending) (s : State) → after_retry a k env start f m body e s ≡ end_body body (after_try a k env start f m e) s
retry_is a k env start f zero body e s = refl
retry_is a k env start f (suc m) body e s = refl

ends_so : (h : List Cell) (m : ℕ) (e x : Ending) → FailsSo h m e (Err x) → x ≡ e
ends_so h m (Normal v) x f = f
ends_so h m (Thrown c) x f = f.0
ends_so h m (Returned v) x f = f
ends_so h m Broke x f = f
ends_so h m Continued x f = f
ends_so h m (Declared b) x f = f
ends_so h m (Answered y) x f = f

pub try_over : (a : Around) (k : ℕ) (env : Env) (start : ℕ) (f : Value) (m : ℕ) (e x : Ending) (s : State) → FailsSo s.world.shared.cells m e (Err x) → after_try a k env start f m e s ≡ retry_end start x s
try_over a k env start f zero e x s h = ap (λ y. retry_end start y s) (sym (ends_so s.world.shared.cells zero e x h))
try_over a k env start f (suc m) (Normal v) x s h = ap (λ y. retry_end start y s) (sym h)
try_over a k env start f (suc m) (Thrown c) x s h =
    elim h.1 [
      | inl none ↦ absurd (omega (arith, none))
      | inr is ↦ ap (λ b. retry_next (retry_body (after_retry a k env start f m) a k env start m f) start c b (slice_get s.world.shared.cells c) s) is ∙ ap (λ y. retry_end start y s) (sym h.0)
    ]
try_over a k env start f (suc m) (Returned v) x s h = ap (λ y. retry_end start y s) (sym h)
try_over a k env start f (suc m) Broke x s h = ap (λ y. retry_end start y s) (sym h)
try_over a k env start f (suc m) Continued x s h = ap (λ y. retry_end start y s) (sym h)
try_over a k env start f (suc m) (Declared b) x s h = ap (λ y. retry_end start y s) (sym h)
try_over a k env start f (suc m) (Answered y) x s h = ap (λ z. retry_end start z s) (sym h)

again : (a : Around) (k : ℕ) (env : Env) (start : ℕ) (f : Value) (m c : ℕ) (s : State) → (m ≡ 0 → ⊥) → is_interruption (slice_get s.world.shared.cells c) ≡ false → after_try a k env start f m (Thrown c) s ≡ logging_all (caught_lines (slice_get s.world.shared.cells c) ++ codes "Retrying" ∷ []) (retry_body (after_retry a k env start f (m - 1)) a k env start (m - 1) f) s
again a k env start f zero c s some plain = absurd (some refl)
again a k env start f (suc m) c s some plain =
    let e : m ≡ suc m - 1 = omega arith in
    ap (λ b. retry_next (retry_body (after_retry a k env start f m) a k env start m f) start c b (slice_get s.world.shared.cells c) s) plain
    ∙ ap (λ j. logging_all (caught_lines (slice_get s.world.shared.cells c) ++ codes "Retrying" ∷ []) (retry_body (after_retry a k env start f j) a k env start j f) s) e

pub try_again : (a : Around) (k : ℕ) (env : Env) (start : ℕ) (f : Value) (m : ℕ) (e : Ending) (c : ℕ) (s : State) → FailsSo s.world.shared.cells m e (Ok c) → after_try a k env start f m e s ≡ logging_all (caught_lines (slice_get s.world.shared.cells c) ++ codes "Retrying" ∷ []) (retry_body (after_retry a k env start f (m - 1)) a k env start (m - 1) f) s
try_again a k env start f m e c s h = ap (λ x. after_try a k env start f m x s) h.0 ∙ again a k env start f m c s h.1 h.2

pub to_tries : (k r : ℕ) (env : Env) (start : ℕ) (f : Value) (m body : ℕ) (e : Ending) (u : Standing) (result : Outcome Move Halt) (v : Standing) → ComesTo k r (λ sh a. end_body body (after_try a k env start f m e)) u result v → ComesTo k r (λ sh a. after_retry a k env start f m body e) u result v
to_tries k r env start f m body e u result v = to_as k r (λ sh a. after_retry a k env start f m body e) (λ sh a. end_body body (after_try a k env start f m e)) u result v (λ a rs. retry_is a k env start f m body e (state u.world rs))
