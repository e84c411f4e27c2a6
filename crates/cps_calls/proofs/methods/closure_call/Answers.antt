use Rattle.std.proofs.Common.{◌≡◌, ◌∙◌, ◌&&◌, nat_eq, length, true, false, Some, sym, ap, subst}
use Rattle.std.specs.Prelude.{IfOk}
use Rattle.method_names.specs.Names.{seen as table_method}
use Rattle.model_values.specs.Kinds.{kind}
use Rattle.model_values.specs.Limits.{product_limits}
use Rattle.model_values.specs.MethodNames.{method_named}
use Rattle.model_values.specs.Methods.{Done, is_walk}
use Rattle.model_values.specs.declared.value.Value.TheVariants.{Null}
use Rattle.model_values.specs.Throws.{no_method}
use Rattle.model_run.specs.Terms.{form_of, term_at}
use Rattle.value_view.specs.Seen.{seen}
use Rattle.cps_code.specs.Script.{script_of}
use Rattle.cps_frames.specs.Standing.{world_of}
use Rattle.cps_frames.specs.Changes.{GivesNothing}
use Rattle.cps_calls.specs.Calls.{IsCalled, method_name}
use Rattle.cps_calls.proofs.MethodLaws.{calls_named, closure_cell, is_call, not_called, right_of, throws_named, walk_is, walk_walks, walks_named}
use Rattle.cps_calls.proofs.ThrowLaws.{method_throws}
use Rattle.cps_calls.proofs.methods.closure_call.Goals as goal

pub returns-in_default-clause-fits : goal.returns-in_default-clause-fits
returns-in_default-clause-fits c =
    let h = c.args.shared.now.heap.cells in
    (c.in_ok-refusal.ensures.below _, subst GivesNothing (sym (c.in_ok-refusal.ensures.answer h)) (method_throws h (seen c.kind_of-kind.result) c.method_name-name.result.now))

pub returns-in-Some-2-clause-called : goal.returns-in-Some-2-clause-called
returns-in-Some-2-clause-called c = λ t n.
    let h = c.args.shared.now.heap.cells in
    let w = world_of c.args.shared.now t in
    let x = method_name (form_of (term_at (script_of c.args.shared.now.code) c.args.node)) in
    let named : method_named x ≡ Some (table_method c.in-Some.method) = sym (c.in-Some.ensures ∙ ap method_named c.method_name-name.ensures) in
    let is = is_call (table_method c.in-Some.method) w c.args.on.now c.in-Some-2.callee (sym (c.in_ok-callee.ensures t) ∙ c.in-Some-2.is) in
    let cell = closure_cell w c.args.on.now c.in-Some-2.callee is.closure_is in
    (cell.cell, calls_named h c.args.on.now x c.args.arguments.now n cell.cell (named ∙ ap Some is.method) cell.kind_is, cell.callee_is)

pub returns-clause-called : goal.returns-clause-called
returns-clause-called c = λ t n.
    let h = c.args.shared.now.heap.cells in
    let w = world_of c.args.shared.now t in
    let x = method_name (form_of (term_at (script_of c.args.shared.now.code) c.args.node)) in
    let m = table_method c.in-Some.method in
    let named : method_named x ≡ Some m = sym (c.in-Some.ensures ∙ ap method_named c.method_name-name.ensures) in
    let walks : (nat_eq (length c.args.arguments.now) 1 && is_walk (kind h c.args.on.now) m) ≡ false =
    ap (λ k. nat_eq (length c.args.arguments.now) 1 && is_walk k m) (sym c.kind_of-kind.ensures.kind) ∙ sym c.is_walk_call.ensures ∙ c.if-is_walk_call.false in
    throws_named h c.args.on.now x c.args.arguments.now n m named (not_called m w c.args.on.now (sym (c.in_ok-callee.ensures t) ∙ c.in_default-2.is)) walks
    ∙ ap (λ a. Done a n) (ap (λ k. no_method product_limits h k x) (sym c.kind_of-kind.ensures.kind) ∙ ap (no_method product_limits h (seen c.kind_of-kind.result)) (sym c.method_name-name.ensures) ∙ sym (c.in_ok-refusal-2.ensures.answer h))

pub returns-clause-fits : goal.returns-clause-fits
returns-clause-fits c =
    let h = c.args.shared.now.heap.cells in
    (c.in_ok-refusal-2.ensures.below _, subst GivesNothing (sym (c.in_ok-refusal-2.ensures.answer h)) (method_throws h (seen c.kind_of-kind.result) c.method_name-name.result.now))

pub walk_with-requires-clause-walks : goal.walk_with-requires-clause-walks
walk_with-requires-clause-walks c =
    let m = table_method c.in-Some.method in
    walk_walks (seen c.kind_of-kind.result) m (right_of (nat_eq (length c.args.arguments.now) 1) (is_walk (seen c.kind_of-kind.result) m) (sym c.is_walk_call.ensures ∙ c.if-is_walk_call.true))

pub returns-then-is_walk_call-clause-called : goal.returns-then-is_walk_call-clause-called
returns-then-is_walk_call-clause-called c = λ t n.
    let h = c.args.shared.now.heap.cells in
    let f = form_of (term_at (script_of c.args.shared.now.code) c.args.node) in
    let m = table_method c.in-Some.method in
    let named : method_named (method_name f) ≡ Some m = sym (c.in-Some.ensures ∙ ap method_named c.method_name-name.ensures) in
    let walks : (nat_eq (length c.args.arguments.now) 1 && is_walk (kind h c.args.on.now) m) ≡ true =
    ap (λ k. nat_eq (length c.args.arguments.now) 1 && is_walk k m) (sym c.kind_of-kind.ensures.kind) ∙ sym c.is_walk_call.ensures ∙ c.if-is_walk_call.true in
    let one : is_walk (kind h c.args.on.now) m ≡ true = right_of (nat_eq (length c.args.arguments.now) 1) (is_walk (kind h c.args.on.now) m) walks in
    let is = walks_named h c.args.on.now (method_name f) c.args.arguments.now Null n m named walks in
    subst (λ called. IfOk c.walk_with.result (IsCalled (world_of c.args.shared.now t) f n called)) (sym is) (c.walk_with.ensures.called t n f (walk_is f m (kind h c.args.on.now) named one))
