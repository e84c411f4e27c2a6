use Rattle.std.proofs.Common.{◌-◌, ap, length, arith}
use Rattle.model_run.specs.Terms.{parts_of}
use Rattle.cps_code.specs.Script.{script_of}
use Rattle.cps_code.proofs.FunctionLaws.{function_passed, function_put, no_functions, part_there, parts_are, rows_some}
use Rattle.cps_code.proofs.functions.functions_of.Goals as goal

pub bounds-rows-0 : goal.bounds-rows-0
bounds-rows-0 c = rows_some c.args.rows.now c.requires

pub loop-at-init : goal.loop-at-init
loop-at-init c =
    let are = parts_are c.args.rows.now c.requires c.index-rows-0.result c.as_slice-tops.result.now c.index-rows-0.is c.as_slice-tops.ensures in
    no_functions (parts_of (script_of c.args.rows.now)) (length c.as_slice-tops.result.now) c.new-functions.result (ap length are) c.new-functions.ensures.empty

pub bounds-rows-node : goal.bounds-rows-node
bounds-rows-node c =
    let are = parts_are c.args.rows.now c.requires c.index-rows-0.result c.as_slice-tops.result.now c.index-rows-0.is c.as_slice-tops.ensures in
    part_there c.args.rows.now c.requires c.as_slice-tops.result.now are c.loop-at.at (c.loop-at.at - 1) (omega (arith, c.loop-at-test.true)) (omega (arith, c.loop-at.auto.at))

pub loop-at-preserved-in_ok-insert : goal.loop-at-preserved-in_ok-insert
loop-at-preserved-in_ok-insert c =
    let are = parts_are c.args.rows.now c.requires c.index-rows-0.result c.as_slice-tops.result.now c.index-rows-0.is c.as_slice-tops.ensures in
    function_put c.args.rows.now c.requires c.as_slice-tops.result.now are c.loop-at.at (c.loop-at.at - 1) (omega (arith, c.loop-at-test.true)) (omega (arith, c.loop-at.auto.at)) c.loop-at.functions c.loop-at.invariant
    c.index-rows-node.result c.index-rows-node.is _ c.in_ok-clone.field-0 _ c.insert.new.self c.in-Function.is c.in_ok-clone.ensures.cases c.in_ok-insert.ensures.updates

pub loop-at-preserved : goal.loop-at-preserved
loop-at-preserved c =
    let are = parts_are c.args.rows.now c.requires c.index-rows-0.result c.as_slice-tops.result.now c.index-rows-0.is c.as_slice-tops.ensures in
    function_passed c.args.rows.now c.requires c.as_slice-tops.result.now are c.loop-at.at (c.loop-at.at - 1) (omega (arith, c.loop-at-test.true)) (omega (arith, c.loop-at.auto.at)) c.loop-at.functions c.loop-at.invariant
    c.index-rows-node.result c.index-rows-node.is (λ name names. c.in_default.not-Function name names)
