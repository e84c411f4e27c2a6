use Rattle.std.proofs.Common.{◌≡◌, ◌++◌, ◌∙◌, ℕ, List, take, drop, sym, ap}
use Rattle.std.proofs.lemmas.Bool.{MatchBool-at_true, MatchBool-at_false}
use Rattle.std.proofs.lemmas.List.{take_rest}
use Rattle.text_methods.specs.Parts.{cut, kept, kept_piece}
use Rattle.text_methods.proofs.PartLemmas.{kept_more, too_many}
use Rattle.text_methods.proofs.parts.parts_of.Goals as goal

pub loop-start-preserved : goal.loop-start-preserved
loop-start-preserved c =
    let rest = c.loop-start.rest.now in
    let cuts = c.args.cuts.now in
    let keeps = c.args.keeps_empty in
    let piece = take c.in-Some.start rest in
    let added : c.add.new.parts ≡ c.loop-start.parts ++ kept_piece keeps piece = MatchBool-at_true _ _ c.if-not-branch.false c.in_ok-add.ensures.added in
    let more = kept_more c.loop-start.parts keeps cuts rest piece (drop c.in-Some.end rest) c.in-Some.ensures.pieces in
    let there = take_rest rest c.in-Some.end in
    record {
      few = c.in_ok-add.ensures.few;
      rest =
          ap (λ (x : List ℕ). c.add.new.parts ++ kept keeps (cut cuts x)) there
          ∙ ap (λ (ps : List (List ℕ)). ps ++ kept keeps (cut cuts (drop c.in-Some.end rest))) added
          ∙ sym more ∙ c.loop-start.invariant.rest;
    }

pub returns-then-not-branch : goal.returns-then-not-branch
returns-then-not-branch c =
    let rest = c.loop-start.rest.now in
    let cuts = c.args.cuts.now in
    let keeps = c.args.keeps_empty in
    let piece = take c.in-Some.start rest in
    let full = MatchBool-at_false _ _ c.if-not-branch.true c.in_ok-add.ensures.added in
    let more = kept_more c.loop-start.parts keeps cuts rest piece (drop c.in-Some.end rest) c.in-Some.ensures.pieces in
    too_many c.loop-start.parts (kept keeps (cut cuts (drop c.in-Some.end rest))) _ piece full.0 (ap (λ (ps : List (List ℕ)). c.loop-start.parts ++ ps ++ kept keeps (cut cuts (drop c.in-Some.end rest))) (sym full.1) ∙ sym more ∙ c.loop-start.invariant.rest)
