use Rattle.std.specs.Prelude.{◌≡◌, Some, codes, string_bytes}
use Rattle.std.specs.Option.{IfSome, option_map}
use Rattle.std.specs.Fmt.{styled_digits_output, ◌++?◌}
use mathlib.Core.Path.{ap, subst, ◌∙◌}
use Rattle.control_folders.specs.Control.{control_folder}
use Rattle.control_folders.proofs.ControlLemmas.{padded, folder_is}
use Rattle.control_folders.proofs.control.ControlFolder.of.Goals as goal

pub returns-clause-path : goal.returns-clause-path
returns-clause-path c =
    let name = string_bytes c.in_ok-format-2.field-0 in
    let w = c.in_ok-workspace.workspace.now in
    let laid_out = subst (λ s. IfSome (Some w ++? (Some (codes "@tmp/durable-") ++? styled_digits_output c.in_radix.result s)) (λ bs. name ≡ bs)) c.laid_out.ensures c.in_ok-format-2.ensures.ok in
    let told = subst (λ o. IfSome (Some w ++? (Some (codes "@tmp/durable-") ++? option_map padded o)) (λ bs. name ≡ bs)) c.in_radix.ensures laid_out in
    told ∙ (folder_is w c.args.order.now.task ∙ ap (λ x. control_folder x c.args.order.now.task) (c.in_ok-workspace.ensures ∙ c.as_slice.ensures))
