use Rattle.std.proofs.Common.{◌++◌, ◌∙◌, ap}
use Rattle.std.specs.Prelude.{codes}
use Rattle.model_run.specs.LogText.{line, lines}
use Rattle.model_run.specs.Results.{result_name}
use Rattle.build_core.specs.Endings.{lines_of}
use Rattle.build_core.proofs.ending.end_log.Goals as goal

pub returns : goal.returns
returns c =
    let last = c.as_slice.ensures ∙ c.in_ok-append.ensures.appended ∙ ap (λ t. t ++ c.as_bytes.result.now) c.in_ok-last.ensures ∙ ap (λ t. codes "Finished: " ++ t) (c.as_bytes.ensures.value ∙ c.name.ensures) in
    c.in_ok-end_line-2.ensures.written
    ∙ ap (λ t. line t c.put_cause.new.log) last
    ∙ ap (λ l. line (codes "Finished: " ++ result_name c.args.final_result) l) (c.in_ok-put_cause.ensures ∙ ap (λ l. lines (lines_of c.args.cause.now) l) c.in_ok-end_line.ensures.written)
