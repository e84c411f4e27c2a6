use Rattle.std.proofs.Common.{◌≡◌, ◌<◌, ◌+◌, ◌-◌, ◌^◌, ◌∷◌, [], ℕ, List, length, length-take, take, drop, min, Some, None, inr, sym, ap, ◌∙◌, refl, arith, subst}
use Rattle.task_host.specs.Host.{Records}
use Rattle.task_host.specs.declared.call.Call.TheVariants as call
use Rattle.agent_worker.specs.Types.{OutputEvent, EventStream}
use Rattle.agent_worker.specs.Acts.{read, kept, named}
use Rattle.agent_worker.specs.Reading.{taken_in}
use Rattle.agent_worker.proofs.ListLemmas.{read-front}
use Rattle.agent_worker.proofs.ReadLemmas.{no-bytes, nothing-left, stands-read, stands-refused, stands-taken, kept-taken}
use Rattle.agent_worker.proofs.reading.read_piece.Goals as goal

pub returns-in_default-clause-reads : goal.returns-in_default-clause-reads
returns-in_default-clause-reads g c looks old past has at all turning next stands =
    let goes = c.in_default.ensures.output in record {
      next = read c.args.order.now c.args.stream c.args.place.now None ∷ past;
      stands = stands-read _ _ _ _ _ _ _ _ _ _ None _ _ _ stands (c.read.ensures.honest.0) c.in_default.ensures.calls c.requires.size has at all turning next goes
          (λ is none. cc);
      adds = (refl, refl);
      still = λ act done. inr done;
    }

pub returns-then-count-eq0-clause-reads : goal.returns-then-count-eq0-clause-reads
returns-then-count-eq0-clause-reads g c looks old past has at all turning next stands =
    let goes = c.in-Ok.ensures.output in
    let none : take c.in-Ok.count c.read.new.buf ≡ [] = ap (λ (n : ℕ). take n c.read.new.buf) c.if-count-eq0.true in
    let room : 0 < length c.args.buf.now = omega (arith, c.requires.size) in
    let calls = subst (λ (bytes : List ℕ). Records (g.H.Host.calls c.args.host.now) (g.H.Host.calls c.read.new.self) (call.Read c.args.order.now c.args.stream c.args.place.now (length c.args.buf.now) (Some bytes))) none c.in-Ok.ensures.calls in record {
      next = read c.args.order.now c.args.stream c.args.place.now (Some []) ∷ past;
      stands = stands-read _ _ _ _ _ _ _ _ _ _ (Some []) _ _ _ stands (c.read.ensures.honest.0) calls c.requires.size has at all turning next goes
          (λ is nothing. nothing-left _ _ c.in-Ok.count (λ more. (c.in-Ok.ensures.count is).some_bytes more room) c.if-count-eq0.true);
      adds = (refl, refl);
      still = λ act done. inr done;
    }

pub returns-in_default-from_slice-clause-reads : goal.returns-in_default-from_slice-clause-reads
returns-in_default-from_slice-clause-reads g c looks old past has at all turning next stands =
    let goes = c.in-Ok.ensures.output in
    let bytes = take c.in-Ok.count c.read.new.buf in
    let some : 0 < length bytes = omega (arith, length-take c.in-Ok.count c.read.new.buf, c.read.auto.buf, c.in-Ok.ensures.room, c.if-count-eq0.false) in record {
      next = read c.args.order.now c.args.stream c.args.place.now (Some bytes) ∷ past;
      stands = stands-read _ _ _ _ _ _ _ _ _ _ (Some bytes) _ _ _ stands (c.read.ensures.honest.0) c.in-Ok.ensures.calls c.requires.size has at all turning next goes
          (λ is nothing. absurd (no-bytes bytes some nothing));
      adds = tt;
      still = λ act done. inr done;
    }

pub returns-in_default-tell-clause-reads : goal.returns-in_default-tell-clause-reads
returns-in_default-tell-clause-reads g c looks old past has at all turning next stands =
    let goes = c.in-Ok.ensures.output in
    let bytes = take c.in-Ok.count c.read.new.buf in
    let some : 0 < length bytes = omega (arith, length-take c.in-Ok.count c.read.new.buf, c.read.auto.buf, c.in-Ok.ensures.room, c.if-count-eq0.false) in
    let given : c.from_vec.result ≡ bytes = c.from_vec.ensures ∙ c.in-Ok-from_slice.ensures.items in
    let event : OutputEvent c.args.order.now.task c.named.result c.args.place.now c.from_vec.result ≡ OutputEvent c.args.order.now.task (named c.args.stream) c.args.place.now bytes =
    ap (λ (s : EventStream). OutputEvent c.args.order.now.task s c.args.place.now c.from_vec.result) c.named.ensures.name ∙ ap (λ (b : List ℕ). OutputEvent c.args.order.now.task (named c.args.stream) c.args.place.now b) given in
    let before = stands-read (g.H.Host.honest c.read.new.self) _ _ _ _ _ _ _ _ _ (Some bytes) _ (g.H.Host.output c.read.new.self) (g.H.Host.exited c.read.new.self) stands (c.read.ensures.honest.0) c.in-Ok.ensures.calls c.requires.size has at all turning next goes
    (λ is nothing. absurd (no-bytes bytes some nothing)) in
    let after = stands-refused _ _ _ _ _ _ past _ bytes _ c.tell.result _ _ _ before event c.tell.ensures.tells c.in_default-tell.not-Done has at some turning in
    record { next = after.0; stands = after.1; adds = after.2; still = after.3 }

pub returns-clause-reads : goal.returns-clause-reads
returns-clause-reads g c looks old past has at all turning next stands =
    let goes = c.in-Ok.ensures.output in
    let bytes = take c.in-Ok.count c.read.new.buf in
    let some : 0 < length bytes = omega (arith, length-take c.in-Ok.count c.read.new.buf, c.read.auto.buf, c.in-Ok.ensures.room, c.if-count-eq0.false) in
    let given : c.from_vec.result ≡ bytes = c.from_vec.ensures ∙ c.in-Ok-from_slice.ensures.items in
    let event : OutputEvent c.args.order.now.task c.named.result c.args.place.now c.from_vec.result ≡ OutputEvent c.args.order.now.task (named c.args.stream) c.args.place.now bytes =
    ap (λ (s : EventStream). OutputEvent c.args.order.now.task s c.args.place.now c.from_vec.result) c.named.ensures.name ∙ ap (λ (b : List ℕ). OutputEvent c.args.order.now.task (named c.args.stream) c.args.place.now b) given in
    let before = stands-read (g.H.Host.honest c.read.new.self) _ _ _ _ _ _ _ _ _ (Some bytes) _ (g.H.Host.output c.read.new.self) (g.H.Host.exited c.read.new.self) stands (c.read.ensures.honest.0) c.in-Ok.ensures.calls c.requires.size has at all turning next goes
    (λ is nothing. absurd (no-bytes bytes some nothing)) in
    let right : g.H.Host.honest c.read.new.self → bytes ≡ take c.in-Ok.count (drop c.args.place.now (g.H.Host.output c.read.new.self c.args.order.now.task c.args.stream)) =
    λ is. read-front c.in-Ok.count c.args.place.now (g.H.Host.output c.read.new.self c.args.order.now.task c.args.stream) c.args.buf.now c.read.new.buf (c.in-Ok.ensures.bytes (c.read.ensures.honest.0 is)) c.read.auto.buf c.in-Ok.ensures.room in
    let count : length bytes ≡ c.in-Ok.count = omega (arith, length-take c.in-Ok.count c.read.new.buf, c.read.auto.buf, c.in-Ok.ensures.room) in
    record {
      next = taken_in c.args.order.now c.args.stream c.args.place.now bytes past;
      stands = stands-taken _ _ _ _ _ _ past _ _ bytes _ c.tell.result _ _ _ before event c.tell.ensures.tells c.in-Done.is has at some turning right;
      adds = (bytes, some, refl, c.saturating_add.ensures ∙ ap (λ (n : ℕ). min n (2 ^ 64 - 1)) (ap (λ (n : ℕ). n + c.in-Ok.count) at ∙ ap (λ (n : ℕ). kept c.args.order.now c.args.stream past + n) (sym count)) ∙ sym (kept-taken c.args.order.now c.args.stream c.args.place.now bytes past));
      still = λ act done. inr (inr done);
    }
