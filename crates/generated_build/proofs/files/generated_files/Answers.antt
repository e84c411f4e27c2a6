use Rattle.std.proofs.Common.{◌≡◌, ◌∙◌, ◌+◌, ◌++◌, ℕ, suc, List, codes, ap, append_assoc, add-one, arith}
use Rattle.generated_build.specs.Files.{stage_lines, stages_to}
use Rattle.generated_build.proofs.files.generated_files.Goals as goal

-- one stage more
one_more : (head script grown : List ℕ) (n : ℕ) → script ≡ head ++ stages_to n → grown ≡ script ++ stage_lines (n + 1) → grown ≡ head ++ stages_to (n + 1)
one_more head script grown n before step =
    let here : grown ≡ script ++ stage_lines (suc n) = rw add-one at step in
    rw add-one (here ∙ ap (λ (bs : List ℕ). bs ++ stage_lines (suc n)) before ∙ append_assoc head (stages_to n) (stage_lines (suc n)))

pub loop-made-preserved : goal.loop-made-preserved
loop-made-preserved c = one_more (codes "total = 0\nseen = []\n") c.loop-made.script.items _ c.loop-made.made c.loop-made.invariant c.in_ok-put_stage.ensures

pub returns-clause-script : goal.returns-clause-script
returns-clause-script c =
    let all : c.loop-made.made ≡ c.args.stages = omega arith in
    c.in_ok-extend_from_slice.ensures.items
    ∙ ap (λ (bs : List ℕ). bs ++ codes "echo \"sum ${total} of ${seen.size()}\"\n") (c.loop-made.invariant ∙ ap (λ (n : ℕ). codes "total = 0\nseen = []\n" ++ stages_to n) all)
