use Rattle.std.proofs.Common.{◌<◌, ◌≤◌, ◌++◌, ◌∷◌, [], ℕ, List, Result, Ok, Err, length, ap, ◌∙◌, arith}
use Rattle.std.specs.Prelude.{OnOk}
use Rattle.agent_worker.specs.AnswerBytes.{short}
use Rattle.agent_worker.proofs.AnswerLemmas.{short-more, short-full}
use Rattle.agent_worker.proofs.operator.put.Goals as goal

on-ok : {T E : Type 0} (r : Result T E) (P Q : Type 0) → (P → Q) → OnOk r P → OnOk r Q
on-ok (Ok t) P Q f p = f p
on-ok (Err e) P Q f p = p

pub returns-then-len-lt-ROOM : goal.returns-then-len-lt-ROOM
returns-then-len-lt-ROOM c =
    record {
      kept = on-ok c.push.result _ _ (λ pushed begun is.
          let room : length (short begun) < 1026 = omega (arith, c.len.ensures, c.if-len-lt-ROOM.true, ap length is) in
          pushed ∙ ap (λ (l : List ℕ). l ++ c.args.byte ∷ []) is ∙ short-more begun c.args.byte room) c.push.ensures.pushed;
    }

pub returns : goal.returns
returns c = record {
  kept = λ begun is.
      let full : 1026 ≤ length (short begun) = omega (arith, c.len.ensures, c.if-len-lt-ROOM.false, ap length is) in
      is ∙ short-full begun c.args.byte full;
}
