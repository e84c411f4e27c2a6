use Rattle.std.proofs.Common.{◌≡◌, ◌∙◌, ◌^◌, false, refl, ap, sym, subst, arith, rules, SFits, w32}
use Rattle.std.proofs.lemmas.Int.{to_z-of_z}
use Rattle.model_syntax.specs.declared.node.NodeForm.TheVariants as form
use Rattle.model_values.specs.declared.value.Value.TheVariants.{Int as Whole}
use Rattle.model_run.specs.Forms.{start, value}
use Rattle.model_run.specs.FrameTable.{count_before, gathers, is_name_call}
use Rattle.script_laws.specs.NodeParts.{is_function}
use Rattle.cps_frames.specs.Moves.{ComesTo}
use Rattle.cps_frames.specs.Standing.{standing}
use Rattle.cps_operators.proofs.FormLaws.{to_form}
use Rattle.cps_values.specs.Forms.{is_variable}
use Rattle.cps_values.proofs.AtomLaws.{env_within}
use Rattle.cps_expressions.proofs.StartLaws.{declared, parts_of, sees_at}
use Rattle.cps_expressions.proofs.expressions.start.Goals as goal

pub returns-in-Number : goal.returns-in-Number
returns-in-Number c =
    let fits : SFits w32 c.in-Number.number = search rules in
    let u = (standing c.args.shared.now c.args.state.now) in
    let w = (standing c.counted_value.new.shared c.args.state.now) in
    to_form c.args.node (2 ^ 66) (form.Number c.in-Number.number) (λ f sh a. start a c.args.node sh c.args.env f) u c.counted_value.result w (sym c.kind.ensures ∙ c.in-Number.is)
    (subst (λ z. ComesTo c.args.node (2 ^ 66) (λ sh a. value (Whole z)) u c.counted_value.result w) (to_z-of_z w32 c.in-Number.number fits) (c.counted_value.ensures c.args.state.now c.args.node (2 ^ 66) (omega arith)))

pub returns-in_ok-text-in-Literal : goal.returns-in_ok-text-in-Literal
returns-in_ok-text-in-Literal c =
    let u = (standing c.args.shared.now c.args.state.now) in
    let w = (standing c.literal.new.shared c.args.state.now) in
    to_form c.args.node (2 ^ 66) (form.Literal c.in-Literal.text) (λ f sh a. start a c.args.node sh c.args.env f) u c.literal.result w (sym c.kind.ensures ∙ c.in-Literal.is)
    (subst (λ t. ComesTo c.args.node (2 ^ 66) (λ sh a. start a c.args.node sh c.args.env (form.Literal t)) u c.literal.result w) c.in_ok-text-in-Literal.ensures.cases (c.literal.ensures c.args.node (2 ^ 66) (omega arith)))

pub returns-in-True : goal.returns-in-True
returns-in-True c =
    to_form c.args.node (2 ^ 66) form.True (λ f sh a. start a c.args.node sh c.args.env f) (standing c.args.shared.now c.args.state.now) c.counted_value-in-True.result (standing c.counted_value-in-True.new.shared c.args.state.now) (sym c.kind.ensures ∙ c.in-True.is)
    (c.counted_value-in-True.ensures c.args.state.now c.args.node (2 ^ 66) (omega arith))

pub returns-in-False : goal.returns-in-False
returns-in-False c =
    to_form c.args.node (2 ^ 66) form.False (λ f sh a. start a c.args.node sh c.args.env f) (standing c.args.shared.now c.args.state.now) c.counted_value-in-False.result (standing c.counted_value-in-False.new.shared c.args.state.now) (sym c.kind.ensures ∙ c.in-False.is)
    (c.counted_value-in-False.ensures c.args.state.now c.args.node (2 ^ 66) (omega arith))

pub returns-in-Null : goal.returns-in-Null
returns-in-Null c =
    to_form c.args.node (2 ^ 66) form.Null (λ f sh a. start a c.args.node sh c.args.env f) (standing c.args.shared.now c.args.state.now) c.counted_value-in-Null.result (standing c.counted_value-in-Null.new.shared c.args.state.now) (sym c.kind.ensures ∙ c.in-Null.is)
    (c.counted_value-in-Null.ensures c.args.state.now c.args.node (2 ^ 66) (omega arith))

pub variable-requires-clause-form : goal.variable-requires-clause-form
variable-requires-clause-form c = ap is_variable (sym c.kind.ensures ∙ c.in-Variable.is)

pub variable-requires-clause-sees : goal.variable-requires-clause-sees
variable-requires-clause-sees c = sees_at (standing c.args.shared.now c.args.state.now) c.args.node c.args.env c.kind.result.now c.requires.may c.kind.ensures (subst (λ f. is_function f ≡ false) (sym c.in-Variable.is) refl)

pub returns-in-Variable : goal.returns-in-Variable
returns-in-Variable c = c.variable.ensures (2 ^ 66) (omega arith)

pub closure-requires : goal.closure-requires
closure-requires c = env_within c.args.shared.now.heap.cells c.args.env (declared (standing c.args.shared.now c.args.state.now) c.args.node c.args.env c.kind.result.now c.requires.may c.kind.ensures (subst (λ f. is_function f ≡ false) (sym c.in-Closure.is) refl))

pub returns-in-Closure : goal.returns-in-Closure
returns-in-Closure c =
    to_form c.args.node (2 ^ 66) (form.Closure c.in-Closure.field-0) (λ f sh a. start a c.args.node sh c.args.env f) (standing c.args.shared.now c.args.state.now) c.closure.result (standing c.closure.new.shared c.args.state.now) (sym c.kind.ensures ∙ c.in-Closure.is)
    (c.closure.ensures c.args.node (2 ^ 66) (omega arith))

pub call-requires-clause-form : goal.call-requires-clause-form
call-requires-clause-form c = ap is_name_call (sym c.kind.ensures ∙ c.in-Call.is)

pub gather_all-requires-clause-form : goal.gather_all-requires-clause-form
gather_all-requires-clause-form c = ap gathers (sym c.kind.ensures ∙ c.in-List.is)

pub gather_all-requires-clause-before : goal.gather_all-requires-clause-before
gather_all-requires-clause-before c = ap (λ f. count_before f c.args.env) (sym c.kind.ensures ∙ c.in-List.is)

pub returns-in-List : goal.returns-in-List
returns-in-List c =
    to_form c.args.node (2 ^ 66) form.List (λ f sh a. start a c.args.node sh c.args.env f) (standing c.args.shared.now c.args.state.now) c.gather_all.result (standing c.gather_all.new.shared c.gather_all.new.state) (sym c.kind.ensures ∙ c.in-List.is)
    (c.gather_all.ensures)

pub gather_all-requires-in-Map-clause-form : goal.gather_all-requires-in-Map-clause-form
gather_all-requires-in-Map-clause-form c = ap gathers (sym c.kind.ensures ∙ c.in-Map.is)

pub gather_all-requires-in-Map-clause-before : goal.gather_all-requires-in-Map-clause-before
gather_all-requires-in-Map-clause-before c = ap (λ f. count_before f c.args.env) (sym c.kind.ensures ∙ c.in-Map.is)

pub returns-in-Map : goal.returns-in-Map
returns-in-Map c =
    to_form c.args.node (2 ^ 66) form.Map (λ f sh a. start a c.args.node sh c.args.env f) (standing c.args.shared.now c.args.state.now) c.gather_all-in-Map.result (standing c.gather_all-in-Map.new.shared c.gather_all-in-Map.new.state) (sym c.kind.ensures ∙ c.in-Map.is)
    (c.gather_all-in-Map.ensures)

pub gather_all-requires-in-GString-clause-form : goal.gather_all-requires-in-GString-clause-form
gather_all-requires-in-GString-clause-form c = ap gathers (sym c.kind.ensures ∙ c.in-GString.is)

pub gather_all-requires-in-GString-clause-before : goal.gather_all-requires-in-GString-clause-before
gather_all-requires-in-GString-clause-before c = ap (λ f. count_before f c.args.env) (sym c.kind.ensures ∙ c.in-GString.is)

pub returns-in-GString : goal.returns-in-GString
returns-in-GString c =
    to_form c.args.node (2 ^ 66) form.GString (λ f sh a. start a c.args.node sh c.args.env f) (standing c.args.shared.now c.args.state.now) c.gather_all-in-GString.result (standing c.gather_all-in-GString.new.shared c.gather_all-in-GString.new.state) (sym c.kind.ensures ∙ c.in-GString.is)
    (c.gather_all-in-GString.ensures)

pub gather_all-requires-in-New-clause-form : goal.gather_all-requires-in-New-clause-form
gather_all-requires-in-New-clause-form c = ap gathers (sym c.kind.ensures ∙ c.in-New.is)

pub gather_all-requires-in-New-clause-before : goal.gather_all-requires-in-New-clause-before
gather_all-requires-in-New-clause-before c = ap (λ f. count_before f c.args.env) (sym c.kind.ensures ∙ c.in-New.is)

pub returns-in-New : goal.returns-in-New
returns-in-New c =
    to_form c.args.node (2 ^ 66) (form.New c.in-New.field-0) (λ f sh a. start a c.args.node sh c.args.env f) (standing c.args.shared.now c.args.state.now) c.gather_all-in-New.result (standing c.gather_all-in-New.new.shared c.gather_all-in-New.new.state) (sym c.kind.ensures ∙ c.in-New.is)
    (c.gather_all-in-New.ensures)

pub group-requires-clause-part : goal.group-requires-clause-part
group-requires-clause-part c =
    let least = parts_of (standing c.args.shared.now c.args.state.now) c.args.node form.Group (c.requires.may).script (sym c.in-Group.is ∙ c.kind.ensures) in
    omega (arith, least)

pub returns-in-Group : goal.returns-in-Group
returns-in-Group c =
    to_form c.args.node (2 ^ 66) form.Group (λ f sh a. start a c.args.node sh c.args.env f) (standing c.args.shared.now c.args.state.now) c.group.result (standing c.args.shared.now c.group.new.state) (sym c.kind.ensures ∙ c.in-Group.is)
    (c.group.ensures)

pub suffixed_all-requires-clause-part : goal.suffixed_all-requires-clause-part
suffixed_all-requires-clause-part c =
    let least = parts_of (standing c.args.shared.now c.args.state.now) c.args.node form.Suffixed (c.requires.may).script (sym c.in-Suffixed.is ∙ c.kind.ensures) in
    omega (arith, least)

pub returns-in-Suffixed : goal.returns-in-Suffixed
returns-in-Suffixed c =
    to_form c.args.node (2 ^ 66) form.Suffixed (λ f sh a. start a c.args.node sh c.args.env f) (standing c.args.shared.now c.args.state.now) c.suffixed_all.result (standing c.args.shared.now c.suffixed_all.new.state) (sym c.kind.ensures ∙ c.in-Suffixed.is)
    (c.suffixed_all.ensures)

pub prefixed-requires-clause-part : goal.prefixed-requires-clause-part
prefixed-requires-clause-part c =
    let least = parts_of (standing c.args.shared.now c.args.state.now) c.args.node form.Prefixed (c.requires.may).script (sym c.in-Prefixed.is ∙ c.kind.ensures) in
    omega (arith, least)

pub returns-in-Prefixed : goal.returns-in-Prefixed
returns-in-Prefixed c =
    to_form c.args.node (2 ^ 66) form.Prefixed (λ f sh a. start a c.args.node sh c.args.env f) (standing c.args.shared.now c.args.state.now) c.prefixed.result (standing c.args.shared.now c.prefixed.new.state) (sym c.kind.ensures ∙ c.in-Prefixed.is)
    (c.prefixed.ensures)

pub joined_all-requires-clause-part : goal.joined_all-requires-clause-part
joined_all-requires-clause-part c =
    let least = parts_of (standing c.args.shared.now c.args.state.now) c.args.node form.Joined (c.requires.may).script (sym c.in-Joined.is ∙ c.kind.ensures) in
    omega (arith, least)

pub returns-in-Joined : goal.returns-in-Joined
returns-in-Joined c =
    to_form c.args.node (2 ^ 66) form.Joined (λ f sh a. start a c.args.node sh c.args.env f) (standing c.args.shared.now c.args.state.now) c.joined_all.result (standing c.args.shared.now c.joined_all.new.state) (sym c.kind.ensures ∙ c.in-Joined.is)
    (c.joined_all.ensures)

pub returns-in-And : goal.returns-in-And
returns-in-And c =
    to_form c.args.node (2 ^ 66) form.And (λ f sh a. start a c.args.node sh c.args.env f) (standing c.args.shared.now c.args.state.now) c.chain.result (standing c.args.shared.now c.chain.new.state) (sym c.kind.ensures ∙ c.in-And.is)
    (c.chain.ensures)

pub returns-in-Or : goal.returns-in-Or
returns-in-Or c =
    to_form c.args.node (2 ^ 66) form.Or (λ f sh a. start a c.args.node sh c.args.env f) (standing c.args.shared.now c.args.state.now) c.chain-in-Or.result (standing c.args.shared.now c.chain-in-Or.new.state) (sym c.kind.ensures ∙ c.in-Or.is)
    (c.chain-in-Or.ensures)

pub chosen-requires-clause-part : goal.chosen-requires-clause-part
chosen-requires-clause-part c =
    let least = parts_of (standing c.args.shared.now c.args.state.now) c.args.node form.Chosen (c.requires.may).script (sym c.in-Chosen.is ∙ c.kind.ensures) in
    omega (arith, least)

pub returns-in-Chosen : goal.returns-in-Chosen
returns-in-Chosen c =
    to_form c.args.node (2 ^ 66) form.Chosen (λ f sh a. start a c.args.node sh c.args.env f) (standing c.args.shared.now c.args.state.now) c.chosen.result (standing c.args.shared.now c.chosen.new.state) (sym c.kind.ensures ∙ c.in-Chosen.is)
    (c.chosen.ensures)
