use Rattle.std.proofs.Common.{◌∙◌, ap, sym}
use Rattle.cell_heap.specs.Region.{Region}
use Rattle.model_run.specs.Names.{first_of, look}
use Rattle.cps_variables.proofs.SightLaws.{seen_variable, variable_within}
use Rattle.cps_variables.proofs.VariableLaws.{written_over}
use Rattle.cps_variables.proofs.variables.write_name.Goals as goal

pub set-requires-clause-within : goal.set-requires-clause-within
set-requires-clause-within c =
    variable_within c.args.heap.now.cells _ (seen_variable c.args.heap.now.cells c.args.binding.now.items c.args.env.now c.args.name.now _ c.requires.sees
    (sym (c.meant.ensures ∙ ap (λ bs. first_of (look c.args.name.now c.args.env.now) (look c.args.name.now bs)) c.as_slice.ensures.value) ∙ c.in-Some.is))

pub set-requires-clause-variable : goal.set-requires-clause-variable
set-requires-clause-variable c =
    seen_variable c.args.heap.now.cells c.args.binding.now.items c.args.env.now c.args.name.now _ c.requires.sees
    (sym (c.meant.ensures ∙ ap (λ bs. first_of (look c.args.name.now c.args.env.now) (look c.args.name.now bs)) c.as_slice.ensures.value) ∙ c.in-Some.is)

pub returns-in-Some-clause-written : goal.returns-in-Some-clause-written
returns-in-Some-clause-written c =
    written_over c.args.name.now c.args.env.now c.args.value c.args.heap.now.cells c.set.new.self.cells c.args.binding.now.items c.in-Some.cell c.requires.sees
    (sym (c.meant.ensures ∙ ap (λ bs. first_of (look c.args.name.now c.args.env.now) (look c.args.name.now bs)) c.as_slice.ensures.value) ∙ c.in-Some.is)
    (ap (λ (r : Region). r.cells) c.set.ensures.set)
