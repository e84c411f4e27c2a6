use Rattle.std.proofs.Common.{rules, ◌≡◌, ◌<◌, ◌∷◌, ◌++◌, [], ℕ, List, ◌||◌, inl, inr, sym, ap, subst, ◌∙◌, refl, arith, append-nil}
use Rattle.std.proofs.KnownBytes.{Consumes-nil, Consumes-trans}
use Rattle.std.specs.Io.KnownBytes.{Consumes}
use Rattle.agent_worker.specs.declared.operator.LineEnd.TheVariants as line_end
use Rattle.agent_worker.specs.declared.worked.Worked.TheVariants as worked
use Rattle.agent_worker.specs.AnswerBytes.{begun_after, kept_line, read_bytes}
use Rattle.agent_worker.specs.Operating.{Asked, Reads, Halted, First, Waited, FoundInput, NoMore, given_in, read_in, has_ended}
use Rattle.agent_worker.proofs.AnswerLemmas.{LinesSoFar, lines-asked, one-line-more, gives-so-far, gives-begun, gives-all, none-begun, last-kept}
use Rattle.agent_worker.proofs.OperatorLemmas.{operates-none, operates-asked, operates-read, operates-halted, may-ask-behind, read-to-end-behind, ended-before, ended-now}
use Rattle.agent_worker.proofs.operator.work_operator.Goals as goal

pub returns-then-ended-clause-operates : goal.returns-then-ended-clause-operates
returns-then-ended-clause-operates g c = record {
  past = [];
  so_far = operates-none (g.G.Gate.tells c.args.gate.now);
  ends = inl (c.if-ended.true, refl);
  read = Consumes-nil (g.A.Source.left c.args.answers.now);
  at_end = λ is. cc;
  ended_so = let ended = c.if-ended.true in cc;
  gives = λ begun is. record { given = refl; kept = λ not_memory. is };
  over = λ is. (refl, refl, refl);
}

pub loop-init : goal.loop-init
loop-init g c = record {
  next = tt;
  finite = tt;
  ended = c.if-ended.false;
  failed = refl;
  faults = refl;
  so_far = ([], operates-none (g.G.Gate.tells c.args.gate.now), First, Consumes-nil (g.A.Source.left c.args.answers.now), refl, λ begun is. record { kept = is; given = refl });
}

pub returns-then-left-eq0-clause-operates : goal.returns-then-left-eq0-clause-operates
returns-then-left-eq0-clause-operates g c =
    let so = c.loop.invariant.so_far in
    let inputs = c.inputs-inputs.result in
    let asked = operates-asked (g.G.Gate.tells c.args.gate.now) (g.G.Gate.tells c.loop.gate) (g.G.Gate.tells c.inputs-inputs.new.self) so.0 inputs so.1 so.2
    c.inputs-inputs.ensures.calls c.inputs-inputs.ensures.told c.inputs-inputs.ensures.lines c.inputs-inputs.ensures.claimed c.inputs-inputs.ensures.said in
    record {
      past = Asked inputs ∷ so.0;
      so_far = asked;
      ends = inr (inr (inputs, so.0, refl, c.if-inputs-eq0.true, c.if-inputs-eq0-2.true));
      read = so.3;
      at_end = λ is. let no = so.4 in cc;
      ended_so = ended-before c.args.ended.now c.loop.ended (has_ended so.0) c.if-ended.false c.loop.invariant.ended so.4;
      gives = λ begun is. gives-so-far begun c.loop.line c.loop.line so.0 (Asked inputs ∷ so.0) worked.Rest (so.5 begun is) refl refl refl so.4;
      over = λ is. let no = c.if-ended.false in cc;
    }

pub loop-preserved-then-inputs-eq0 : goal.loop-preserved-then-inputs-eq0
loop-preserved-then-inputs-eq0 g c =
    let so = c.loop.invariant.so_far in
    let inputs = c.inputs-inputs.result in
    let asked = operates-asked (g.G.Gate.tells c.args.gate.now) (g.G.Gate.tells c.loop.gate) (g.G.Gate.tells c.inputs-inputs.new.self) so.0 inputs so.1 so.2
    c.inputs-inputs.ensures.calls c.inputs-inputs.ensures.told c.inputs-inputs.ensures.lines c.inputs-inputs.ensures.claimed c.inputs-inputs.ensures.said in
    record {
      next = tt;
      finite = tt;
      ended = c.loop.invariant.ended;
      failed = c.loop.invariant.failed;
      faults = c.loop.invariant.faults;
      so_far = (Asked inputs ∷ so.0, asked, Waited inputs so.0 c.if-inputs-eq0.true, so.3, so.4, λ begun is. lines-asked begun _ so.0 (Asked inputs ∷ so.0) (so.5 begun is) refl refl);
    }

pub returns-in-Err-clause-operates : goal.returns-in-Err-clause-operates
returns-in-Err-clause-operates g c =
    let so = c.loop.invariant.so_far in
    let inputs = c.inputs-inputs.result in
    let asked = operates-asked (g.G.Gate.tells c.args.gate.now) (g.G.Gate.tells c.loop.gate) (g.G.Gate.tells c.inputs-inputs.new.self) so.0 inputs so.1 so.2
    c.inputs-inputs.ensures.calls c.inputs-inputs.ensures.told c.inputs-inputs.ensures.lines c.inputs-inputs.ensures.claimed c.inputs-inputs.ensures.said in
    let some : 0 < inputs.waiting = omega (arith, c.if-inputs-eq0.false) in
    let found : FoundInput (Asked inputs ∷ so.0) = (inputs, so.0, refl, some) in
    let more = c.in-Line.ensures.bytes in
    let read = operates-read (g.G.Gate.tells c.args.gate.now) (g.G.Gate.tells c.inputs-inputs.new.self) (Asked inputs ∷ so.0) more.0 line_end.Line asked found more.1 in
    let all = Consumes-trans (g.A.Source.left c.args.answers.now) (g.A.Source.left c.loop.answers) (g.A.Source.left c.read_line.new.answers) (read_in so.0) (read_bytes line_end.Line more.0) so.3 more.2 in
    let gives = c.in-Err.ensures.gives (g.G.Gate.tells c.args.gate.now) (Reads more.0 line_end.Line ∷ Asked inputs ∷ so.0) (more.0, line_end.Line, Asked inputs ∷ so.0, refl, inl refl) read in
    let reads = subst (Consumes (g.A.Source.left c.args.answers.now) (g.A.Source.left c.read_line.new.answers)) (sym gives.same_read) all in
    record {
      past = gives.next;
      so_far = gives.so_far;
      ends = gives.goes c.args.ended.now;
      read = reads;
      at_end = λ is. let no = gives.same_end ∙ so.4 in cc;
      ended_so = ended-before c.args.ended.now c.loop.ended (has_ended gives.next) c.if-ended.false c.loop.invariant.ended (gives.same_end ∙ so.4);
      gives = λ begun is.
          let lines = so.5 begun is in
          gives-so-far begun [] c.give.new.line gives.next gives.next c.in-Err.worked
          (one-line-more begun c.loop.line c.read_line.new.line so.0 gives.next lines more.0 more.1 gives.same_read (more.3 (begun_after begun (read_in so.0)) lines.kept (λ e. cc)) gives.given)
          c.give.ensures.next refl refl (gives.same_end ∙ so.4);
      over = λ is. let no = c.if-ended.false in cc;
    }

pub returns-in-Err-clause-cause : goal.returns-in-Err-clause-cause
returns-in-Err-clause-cause g c =
    let calm : g.A.Source.faults c.read_line.new.answers ≡ g.A.Source.faults c.args.answers.now = c.in-Line.ensures.cause.calm (λ is. cc) ∙ c.loop.invariant.faults in
    record { never_falls = omega (arith, calm); calm = λ not_failed. calm; failed = λ is. absurd (c.in-Err.ensures.failed is) }

pub returns-in-Err-clause-failed : goal.returns-in-Err-clause-failed
returns-in-Err-clause-failed g c is = absurd (c.in-Err.ensures.failed is)

pub loop-preserved : goal.loop-preserved
loop-preserved g c =
    let so = c.loop.invariant.so_far in
    let inputs = c.inputs-inputs.result in
    let asked = operates-asked (g.G.Gate.tells c.args.gate.now) (g.G.Gate.tells c.loop.gate) (g.G.Gate.tells c.inputs-inputs.new.self) so.0 inputs so.1 so.2
    c.inputs-inputs.ensures.calls c.inputs-inputs.ensures.told c.inputs-inputs.ensures.lines c.inputs-inputs.ensures.claimed c.inputs-inputs.ensures.said in
    let some : 0 < inputs.waiting = omega (arith, c.if-inputs-eq0.false) in
    let found : FoundInput (Asked inputs ∷ so.0) = (inputs, so.0, refl, some) in
    let more = c.in-Line.ensures.bytes in
    let read = operates-read (g.G.Gate.tells c.args.gate.now) (g.G.Gate.tells c.inputs-inputs.new.self) (Asked inputs ∷ so.0) more.0 line_end.Line asked found more.1 in
    let all = Consumes-trans (g.A.Source.left c.args.answers.now) (g.A.Source.left c.loop.answers) (g.A.Source.left c.read_line.new.answers) (read_in so.0) (read_bytes line_end.Line more.0) so.3 more.2 in
    let gives = c.in_default.ensures.gives (g.G.Gate.tells c.args.gate.now) (Reads more.0 line_end.Line ∷ Asked inputs ∷ so.0) (more.0, line_end.Line, Asked inputs ∷ so.0, refl, inl refl) read in
    let reads = subst (Consumes (g.A.Source.left c.args.answers.now) (g.A.Source.left c.read_line.new.answers)) (sym gives.same_read) all in
    record {
      next = tt;
      finite = tt;
      ended = c.loop.invariant.ended;
      failed = c.loop.invariant.failed;
      faults = c.in-Line.ensures.cause.calm (λ is. cc) ∙ c.loop.invariant.faults;
      so_far = (
        gives.next,
        gives.so_far,
        may-ask-behind more.0 (Asked inputs ∷ so.0) gives.next gives.goes,
        reads,
        gives.same_end ∙ so.4,
        λ begun is.
            let lines = so.5 begun is in
            subst (λ (l : List ℕ). LinesSoFar begun l gives.next) (sym c.give.ensures.next)
            (one-line-more begun c.loop.line c.read_line.new.line so.0 gives.next lines more.0 more.1 gives.same_read (more.3 (begun_after begun (read_in so.0)) lines.kept (λ e. cc)) gives.given),
      );
    }

pub returns-then-is_empty-clause-operates : goal.returns-then-is_empty-clause-operates
returns-then-is_empty-clause-operates g c =
    let so = c.loop.invariant.so_far in
    let inputs = c.inputs-inputs.result in
    let asked = operates-asked (g.G.Gate.tells c.args.gate.now) (g.G.Gate.tells c.loop.gate) (g.G.Gate.tells c.inputs-inputs.new.self) so.0 inputs so.1 so.2
    c.inputs-inputs.ensures.calls c.inputs-inputs.ensures.told c.inputs-inputs.ensures.lines c.inputs-inputs.ensures.claimed c.inputs-inputs.ensures.said in
    let some : 0 < inputs.waiting = omega (arith, c.if-inputs-eq0.false) in
    let found : FoundInput (Asked inputs ∷ so.0) = (inputs, so.0, refl, some) in
    let more = c.in-End.ensures.bytes in
    let read = operates-read (g.G.Gate.tells c.args.gate.now) (g.G.Gate.tells c.inputs-inputs.new.self) (Asked inputs ∷ so.0) more.0 line_end.End asked found more.1 in
    let all = Consumes-trans (g.A.Source.left c.args.answers.now) (g.A.Source.left c.loop.answers) (g.A.Source.left c.read_line.new.answers) (read_in so.0) (read_bytes line_end.End more.0) so.3 more.2 in
    let empty : c.read_line.new.line ≡ [] = search rules in
    record {
      past = Reads more.0 line_end.End ∷ Asked inputs ∷ so.0;
      so_far = read;
      ends = inr (inl (NoMore more.0 (Asked inputs ∷ so.0)));
      read = all;
      at_end = λ is. c.in-End.ensures.end refl;
      ended_so = ended-now c.args.ended.now;
      gives = λ begun is.
          let lines = so.5 begun is in
          let next_is = more.3 (begun_after begun (read_in so.0)) lines.kept (λ e. cc) in
          gives-all begun c.loop.line c.read_line.new.line so.0 (Reads more.0 line_end.End ∷ Asked inputs ∷ so.0) [] worked.Rest lines more.0 more.1 refl
          (none-begun (begun_after begun (read_in so.0) ++ more.0) (sym next_is ∙ empty)) (sym (append-nil (given_in so.0))) empty refl;
      over = λ is. let no = c.if-ended.false in cc;
    }

pub returns-in-Err-give-clause-operates : goal.returns-in-Err-give-clause-operates
returns-in-Err-give-clause-operates g c =
    let so = c.loop.invariant.so_far in
    let inputs = c.inputs-inputs.result in
    let asked = operates-asked (g.G.Gate.tells c.args.gate.now) (g.G.Gate.tells c.loop.gate) (g.G.Gate.tells c.inputs-inputs.new.self) so.0 inputs so.1 so.2
    c.inputs-inputs.ensures.calls c.inputs-inputs.ensures.told c.inputs-inputs.ensures.lines c.inputs-inputs.ensures.claimed c.inputs-inputs.ensures.said in
    let some : 0 < inputs.waiting = omega (arith, c.if-inputs-eq0.false) in
    let found : FoundInput (Asked inputs ∷ so.0) = (inputs, so.0, refl, some) in
    let more = c.in-End.ensures.bytes in
    let read = operates-read (g.G.Gate.tells c.args.gate.now) (g.G.Gate.tells c.inputs-inputs.new.self) (Asked inputs ∷ so.0) more.0 line_end.End asked found more.1 in
    let all = Consumes-trans (g.A.Source.left c.args.answers.now) (g.A.Source.left c.loop.answers) (g.A.Source.left c.read_line.new.answers) (read_in so.0) (read_bytes line_end.End more.0) so.3 more.2 in
    let gives = c.in-Err-give.ensures.gives (g.G.Gate.tells c.args.gate.now) (Reads more.0 line_end.End ∷ Asked inputs ∷ so.0) (more.0, line_end.End, Asked inputs ∷ so.0, refl, inr refl) read in
    let reads = subst (Consumes (g.A.Source.left c.args.answers.now) (g.A.Source.left c.read_line.new.answers)) (sym gives.same_read) all in
    let some_line : c.read_line.new.line ≡ [] → ⊥ = search rules in
    record {
      past = gives.next;
      so_far = gives.so_far;
      ends = gives.goes c.args.ended.now;
      read = reads;
      at_end = λ is. c.in-End.ensures.end refl;
      ended_so = ended-now c.args.ended.now ∙ ap (λ e. c.args.ended.now || e) (sym gives.same_end);
      gives = λ begun is.
          let lines = so.5 begun is in
          let next_is = more.3 (begun_after begun (read_in so.0)) lines.kept (λ e. cc) in
          gives-all begun c.loop.line c.give-in-End.new.line so.0 gives.next (kept_line c.read_line.new.line) c.in-Err-give.worked lines more.0 more.1 gives.same_read
          (ap kept_line next_is ∙ last-kept (begun_after begun (read_in so.0) ++ more.0) (λ none. some_line (next_is ∙ none))) gives.given c.give-in-End.ensures.next gives.same_end;
      over = λ is. let no = c.if-ended.false in cc;
    }

pub returns-in-Err-give-clause-cause : goal.returns-in-Err-give-clause-cause
returns-in-Err-give-clause-cause g c =
    let calm : g.A.Source.faults c.read_line.new.answers ≡ g.A.Source.faults c.args.answers.now = c.in-End.ensures.cause.calm (λ is. cc) ∙ c.loop.invariant.faults in
    record { never_falls = omega (arith, calm); calm = λ not_failed. calm; failed = λ is. absurd (c.in-Err-give.ensures.failed is) }

pub returns-in-Err-give-clause-failed : goal.returns-in-Err-give-clause-failed
returns-in-Err-give-clause-failed g c is = absurd (c.in-Err-give.ensures.failed is)

pub returns-in-End-clause-operates : goal.returns-in-End-clause-operates
returns-in-End-clause-operates g c =
    let so = c.loop.invariant.so_far in
    let inputs = c.inputs-inputs.result in
    let asked = operates-asked (g.G.Gate.tells c.args.gate.now) (g.G.Gate.tells c.loop.gate) (g.G.Gate.tells c.inputs-inputs.new.self) so.0 inputs so.1 so.2
    c.inputs-inputs.ensures.calls c.inputs-inputs.ensures.told c.inputs-inputs.ensures.lines c.inputs-inputs.ensures.claimed c.inputs-inputs.ensures.said in
    let some : 0 < inputs.waiting = omega (arith, c.if-inputs-eq0.false) in
    let found : FoundInput (Asked inputs ∷ so.0) = (inputs, so.0, refl, some) in
    let more = c.in-End.ensures.bytes in
    let read = operates-read (g.G.Gate.tells c.args.gate.now) (g.G.Gate.tells c.inputs-inputs.new.self) (Asked inputs ∷ so.0) more.0 line_end.End asked found more.1 in
    let all = Consumes-trans (g.A.Source.left c.args.answers.now) (g.A.Source.left c.loop.answers) (g.A.Source.left c.read_line.new.answers) (read_in so.0) (read_bytes line_end.End more.0) so.3 more.2 in
    let gives = c.in_default-give.ensures.gives (g.G.Gate.tells c.args.gate.now) (Reads more.0 line_end.End ∷ Asked inputs ∷ so.0) (more.0, line_end.End, Asked inputs ∷ so.0, refl, inr refl) read in
    let reads = subst (Consumes (g.A.Source.left c.args.answers.now) (g.A.Source.left c.read_line.new.answers)) (sym gives.same_read) all in
    let some_line : c.read_line.new.line ≡ [] → ⊥ = search rules in
    record {
      past = gives.next;
      so_far = gives.so_far;
      ends = inr (inl (read-to-end-behind more.0 (Asked inputs ∷ so.0) gives.next gives.goes));
      read = reads;
      at_end = λ is. c.in-End.ensures.end refl;
      ended_so = ended-now c.args.ended.now ∙ ap (λ e. c.args.ended.now || e) (sym gives.same_end);
      gives = λ begun is.
          let lines = so.5 begun is in
          let next_is = more.3 (begun_after begun (read_in so.0)) lines.kept (λ e. cc) in
          gives-all begun c.loop.line c.give-in-End.new.line so.0 gives.next (kept_line c.read_line.new.line) worked.Rest lines more.0 more.1 gives.same_read
          (ap kept_line next_is ∙ last-kept (begun_after begun (read_in so.0) ++ more.0) (λ none. some_line (next_is ∙ none))) gives.given c.give-in-End.ensures.next gives.same_end;
      over = λ is. let no = c.if-ended.false in cc;
    }

pub returns-in-Failed-clause-operates : goal.returns-in-Failed-clause-operates
returns-in-Failed-clause-operates g c =
    let so = c.loop.invariant.so_far in
    let inputs = c.inputs-inputs.result in
    let asked = operates-asked (g.G.Gate.tells c.args.gate.now) (g.G.Gate.tells c.loop.gate) (g.G.Gate.tells c.inputs-inputs.new.self) so.0 inputs so.1 so.2
    c.inputs-inputs.ensures.calls c.inputs-inputs.ensures.told c.inputs-inputs.ensures.lines c.inputs-inputs.ensures.claimed c.inputs-inputs.ensures.said in
    let some : 0 < inputs.waiting = omega (arith, c.if-inputs-eq0.false) in
    let found : FoundInput (Asked inputs ∷ so.0) = (inputs, so.0, refl, some) in
    let more = c.in-Failed.ensures.bytes in
    let read = operates-read (g.G.Gate.tells c.args.gate.now) (g.G.Gate.tells c.inputs-inputs.new.self) (Asked inputs ∷ so.0) more.0 line_end.Failed asked found more.1 in
    let all = Consumes-trans (g.A.Source.left c.args.answers.now) (g.A.Source.left c.loop.answers) (g.A.Source.left c.read_line.new.answers) (read_in so.0) (read_bytes line_end.Failed more.0) so.3 more.2 in
    record {
      past = Reads more.0 line_end.Failed ∷ Asked inputs ∷ so.0;
      so_far = read;
      ends = (more.0, Asked inputs ∷ so.0, refl);
      read = all;
      at_end = λ is. let no = so.4 in cc;
      ended_so = ended-before c.args.ended.now c.loop.ended (has_ended so.0) c.if-ended.false c.loop.invariant.ended so.4;
      gives = λ begun is.
          let lines = so.5 begun is in
          gives-begun begun c.loop.line c.read_line.new.line so.0 (Reads more.0 line_end.Failed ∷ Asked inputs ∷ so.0) worked.AnswersFailed lines more.0 more.1 refl refl so.4
          (λ not_memory. more.3 (begun_after begun (read_in so.0)) lines.kept (λ e. cc));
      over = λ is. let no = c.if-ended.false in cc;
    }

pub returns-in-Memory-clause-operates : goal.returns-in-Memory-clause-operates
returns-in-Memory-clause-operates g c =
    let so = c.loop.invariant.so_far in
    let inputs = c.inputs-inputs.result in
    let asked = operates-asked (g.G.Gate.tells c.args.gate.now) (g.G.Gate.tells c.loop.gate) (g.G.Gate.tells c.inputs-inputs.new.self) so.0 inputs so.1 so.2
    c.inputs-inputs.ensures.calls c.inputs-inputs.ensures.told c.inputs-inputs.ensures.lines c.inputs-inputs.ensures.claimed c.inputs-inputs.ensures.said in
    let some : 0 < inputs.waiting = omega (arith, c.if-inputs-eq0.false) in
    let found : FoundInput (Asked inputs ∷ so.0) = (inputs, so.0, refl, some) in
    let more = c.in-Memory.ensures.bytes in
    let read = operates-read (g.G.Gate.tells c.args.gate.now) (g.G.Gate.tells c.inputs-inputs.new.self) (Asked inputs ∷ so.0) more.0 line_end.Memory asked found more.1 in
    let all = Consumes-trans (g.A.Source.left c.args.answers.now) (g.A.Source.left c.loop.answers) (g.A.Source.left c.read_line.new.answers) (read_in so.0) (read_bytes line_end.Memory more.0) so.3 more.2 in
    record {
      past = Halted ∷ Reads more.0 line_end.Memory ∷ Asked inputs ∷ so.0;
      so_far = operates-halted (g.G.Gate.tells c.args.gate.now) (g.G.Gate.tells c.inputs-inputs.new.self) (g.G.Gate.tells c.halt.new.self) (Reads more.0 line_end.Memory ∷ Asked inputs ∷ so.0) read (inl (more.0, Asked inputs ∷ so.0, refl))
          c.halt.ensures.calls c.halt.ensures.told c.halt.ensures.lines c.halt.ensures.claimed c.halt.ensures.said;
      ends = (Reads more.0 line_end.Memory ∷ Asked inputs ∷ so.0, refl);
      read = all;
      at_end = λ is. let no = so.4 in cc;
      ended_so = ended-before c.args.ended.now c.loop.ended (has_ended so.0) c.if-ended.false c.loop.invariant.ended so.4;
      gives = λ begun is.
          gives-begun begun c.loop.line c.read_line.new.line so.0 (Halted ∷ Reads more.0 line_end.Memory ∷ Asked inputs ∷ so.0) worked.Memory (so.5 begun is) more.0 more.1 refl refl so.4
          (λ not_memory. absurd (not_memory refl));
      over = λ is. let no = c.if-ended.false in cc;
    }
