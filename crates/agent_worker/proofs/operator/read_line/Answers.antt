use Rattle.std.proofs.Common.{◌≢◌, ◌++◌, ◌∷◌, [], ℕ, ap, ◌∙◌, refl, subst, append_assoc, append-nil}
use Rattle.std.proofs.lemmas.List.Elements.{All-push}
use Rattle.std.proofs.KnownBytes.{Consumes-trans, Consumes-kept}
use Rattle.std.specs.Io.KnownBytes.{Consumes}
use Rattle.agent_worker.specs.AnswerBytes.{short}
use Rattle.agent_worker.proofs.operator.read_line.Goals as goal

pub returns-in-Err-clause-bytes : goal.returns-in-Err-clause-bytes
returns-in-Err-clause-bytes g c =
    let so = c.loop.invariant.bytes in
    (so.0, so.1, Consumes-kept (g.A.Source.left c.args.answers.now) (g.A.Source.left c.loop.answers) (g.A.Source.left c.read_byte.new.answers) so.0 so.2 c.in-Err.ensures.byte, λ begun is not_memory. so.3 begun is)

pub returns-in-Ok-None-clause-bytes : goal.returns-in-Ok-None-clause-bytes
returns-in-Ok-None-clause-bytes g c =
    let so = c.loop.invariant.bytes in
    let none = rw c.in-Ok-None.field-0-is at c.in-Ok-None.ensures.byte in
    let all = Consumes-trans (g.A.Source.left c.args.answers.now) (g.A.Source.left c.loop.answers) (g.A.Source.left c.read_byte.new.answers) so.0 [] so.2 none.1 in
    (so.0, so.1, subst (Consumes (g.A.Source.left c.args.answers.now) (g.A.Source.left c.read_byte.new.answers)) (append-nil so.0) all, λ begun is not_memory. so.3 begun is)

pub returns-then-byte-eq10-clause-bytes : goal.returns-then-byte-eq10-clause-bytes
returns-then-byte-eq10-clause-bytes g c =
    let so = c.loop.invariant.bytes in
    let one = rw c.in-Ok-Some.field-0-is at c.in-Ok-Some.ensures.byte in
    let all = Consumes-trans (g.A.Source.left c.args.answers.now) (g.A.Source.left c.loop.answers) (g.A.Source.left c.read_byte.new.answers) so.0 (c.in-Ok-Some.byte ∷ []) so.2 one in
    (so.0, so.1, subst (λ (b : ℕ). Consumes (g.A.Source.left c.args.answers.now) (g.A.Source.left c.read_byte.new.answers) (so.0 ++ b ∷ [])) c.if-byte-eq10.true all, λ begun is not_memory. so.3 begun is)

pub returns-in-Err-put-clause-bytes : goal.returns-in-Err-put-clause-bytes
returns-in-Err-put-clause-bytes g c =
    let so = c.loop.invariant.bytes in
    let one = rw c.in-Ok-Some.field-0-is at c.in-Ok-Some.ensures.byte in
    let all = Consumes-trans (g.A.Source.left c.args.answers.now) (g.A.Source.left c.loop.answers) (g.A.Source.left c.read_byte.new.answers) so.0 (c.in-Ok-Some.byte ∷ []) so.2 one in
    (so.0 ++ c.in-Ok-Some.byte ∷ [], All-push (λ (x : ℕ). x ≢ 10) so.0 c.in-Ok-Some.byte so.1 c.if-byte-eq10.false, all, λ begun is not_memory. absurd (not_memory refl))

pub loop-preserved : goal.loop-preserved
loop-preserved g c =
    let so = c.loop.invariant.bytes in
    let one = rw c.in-Ok-Some.field-0-is at c.in-Ok-Some.ensures.byte in
    let all = Consumes-trans (g.A.Source.left c.args.answers.now) (g.A.Source.left c.loop.answers) (g.A.Source.left c.read_byte.new.answers) so.0 (c.in-Ok-Some.byte ∷ []) so.2 one in
    record {
      next = tt;
      finite = tt;
      faults = c.in-Ok-Some.ensures.cause.calm refl ∙ c.loop.invariant.faults;
      bytes = (
        so.0 ++ c.in-Ok-Some.byte ∷ [],
        All-push (λ (x : ℕ). x ≢ 10) so.0 c.in-Ok-Some.byte so.1 c.if-byte-eq10.false,
        all,
        λ begun is. c.in-Ok.ensures.kept (begun ++ so.0) (so.3 begun is) ∙ ap short (append_assoc begun so.0 (c.in-Ok-Some.byte ∷ [])),
      );
    }
