use Rattle.std.proofs.Common.{◌≡◌, ◌∙◌, ap, subst, slice_get}
use Rattle.cps_code.specs.declared.row.Row.{Row}
use Rattle.cps_code.specs.Rows.{part_number}
use Rattle.cps_code.specs.Script.{script_of, IsTable}
use Rattle.cps_code.proofs.Decoding.{code_row}
use Rattle.cps_code.proofs.Parts.{part_found, part_within}
use Rattle.cps_code.proofs.code.Code.part.Goals as goal

pub returns-clause-number : goal.returns-clause-number
returns-clause-number c =
    c.copied.ensures ∙ c.get.ensures.value
    ∙ ap (λ (r : Row). slice_get r.parts c.args.at) (code_row _ _ c.self.view_is c.args.node _ c.self.invariant.table c.requires c.index.ensures)

pub returns-clause-found : goal.returns-clause-found
returns-clause-found c =
    let table : IsTable c.args.self.now = subst IsTable c.self.view_is c.self.invariant.table in
    let number : c.copied.result ≡ part_number (script_of c.args.self.now) c.args.node c.args.at =
    c.copied.ensures ∙ c.get.ensures.value
    ∙ ap (λ (r : Row). slice_get r.parts c.args.at) (code_row _ _ c.self.view_is c.args.node _ c.self.invariant.table c.requires c.index.ensures) in
    part_found (script_of c.args.self.now) table.found c.args.node c.args.at c.copied.result number

pub returns-clause-behind : goal.returns-clause-behind
returns-clause-behind c =
    let table : IsTable c.args.self.now = subst IsTable c.self.view_is c.self.invariant.table in
    let number : c.copied.result ≡ part_number (script_of c.args.self.now) c.args.node c.args.at =
    c.copied.ensures ∙ c.get.ensures.value
    ∙ ap (λ (r : Row). slice_get r.parts c.args.at) (code_row _ _ c.self.view_is c.args.node _ c.self.invariant.table c.requires c.index.ensures) in
    part_within (script_of c.args.self.now) table.behind c.args.node c.args.at c.copied.result number
