use Rattle.std.proofs.Common.{◌≡◌, ◌∙◌, ◌<◌, ◌≤◌, List, length, true, Some, None, Ok, Err, refl, sym, ap, subst, arith}
use Rattle.std.specs.Prelude.{IfSome}
use Rattle.std.specs.List.{All}
use Rattle.std.proofs.lemmas.Result.{err_from_is_err_and}
use Rattle.cell_heap.specs.Soundness.{ValueBelow}
use Rattle.model_values.specs.Fitting.{CellsFit}
use Rattle.model_values.specs.Kinds.{kind}
use Rattle.model_values.specs.Limits.{product_limits}
use Rattle.model_values.specs.MethodTable.{called_or_none, closure_call, own_call}
use Rattle.model_values.specs.Methods.{CallsClosure, Done, Walks, method_call}
use Rattle.model_values.specs.declared.value.Value.{Value}
use Rattle.model_values.specs.declared.value.Value.TheVariants.{Cell as InCell}
use Rattle.model_run.specs.Around.{ended}
use Rattle.model_run.specs.Calls.{walk, walk_method}
use Rattle.model_run.specs.Fitting.{closure_rule}
use Rattle.model_run.specs.Gathering.{is_call}
use Rattle.model_run.specs.declared.ending.Ending.TheVariants.{Normal}
use Rattle.model_run.specs.State.{counted, may_count, operating}
use Rattle.model_run.specs.Terms.{form_of, nodes_of, term_at}
use Rattle.text_methods.specs.Calls.{CallAnswers}
use Rattle.value_ops.specs.Effects.{effect_answer}
use Rattle.value_walks.specs.Walking.{walk_method as method_of}
use Rattle.cps_code.specs.Script.{script_of}
use Rattle.cps_frames.specs.Changes.{Passed}
use Rattle.cps_frames.specs.Moves.{ComesTo}
use Rattle.std.proofs.lemmas.List.Elements.{All-nil}
use Rattle.cps_frames.specs.Halts.{halt_of}
use Rattle.cps_frames.specs.Standing.{standing, world_of}
use Rattle.cps_frames.specs.declared.thread.Move.TheVariants.{Ends}
use Rattle.cps_frames.proofs.MoveLaws.{to_thrown}
use Rattle.cps_calls.specs.Calls.{CallFits, IsCalled}
use Rattle.cps_calls.proofs.CallLaws.{call_ends, call_met, calls, name_of, no_own_call, own_call_is, own_gives, own_none, own_refuses, read_again, to_done, to_unraised, to_walks}
use Rattle.cps_calls.proofs.CountLaws.{call_counts}
use Rattle.cps_calls.proofs.methods.call_method.Goals as goal

pub returns-in_err-tick : goal.returns-in_err-tick
returns-in_err-tick c = λ r above.
    let p = err_from_is_err_and c.from_residual.result c.from_residual.ensures.1 in
    rw (p.1, p.2) (call_met c.args.node c.args.env c.args.on c.args.arguments r _ _ _ refl (c.in_err-tick.ensures c.args.state.now) above)

pub own_call-requires-clause-node : goal.own_call-requires-clause-node
own_call-requires-clause-node c =
    subst (λ root. c.args.node < length (nodes_of root)) (sym (ap (λ w. w.setting.script) (c.in_ok-tick.ensures c.args.state.now).made)) c.requires.node

pub own_call-requires-clause-called : goal.own_call-requires-clause-called
own_call-requires-clause-called c =
    subst (λ root. is_call (form_of (term_at root c.args.node)) ≡ true) (sym (ap (λ w. w.setting.script) (c.in_ok-tick.ensures c.args.state.now).made)) c.requires.called

pub own_call-requires-clause-on : goal.own_call-requires-clause-on
own_call-requires-clause-on c =
    subst (λ h. ValueBelow (length h) c.args.on) (sym (ap (λ x. x.cells) (c.in_ok-tick.ensures c.args.state.now).heap)) c.requires.on

pub own_call-requires-clause-arguments : goal.own_call-requires-clause-arguments
own_call-requires-clause-arguments c =
    subst (All (ValueBelow (length c.tick.new.shared.heap.cells))) (sym c.as_slice.ensures)
    (subst (λ h. All (ValueBelow (length h)) c.args.arguments) (sym (ap (λ x. x.cells) (c.in_ok-tick.ensures c.args.state.now).heap)) c.requires.arguments)

pub returns-in_err-value : goal.returns-in_err-value
returns-in_err-value c = λ r above.
    let p = err_from_is_err_and c.from_residual-in_err-value.result c.from_residual-in_err-value.ensures.1 in
    let begun = c.in_ok-tick.ensures c.args.state.now in
    let k = c.args.node in
    let on = c.args.on in
    let args = c.args.arguments in
    let s = c.tick.new.shared in
    let new = c.own_call.new.shared in
    let root = script_of c.args.shared.now.code in
    let o = c.in_err-value.field-0.0 in
    let answer = read_again (λ x vs. CallAnswers (own_call product_limits s.heap.cells on (name_of x k) vs s.count) s.heap new.heap s.count new.count (Err o)) (script_of s.code) root c.as_slice.result.now args (ap (λ w. w.setting.script) begun.made) c.as_slice.ensures c.in_err-value.ensures.answer in
    let a = own_refuses (own_call product_limits s.heap.cells on (name_of root k) args s.count) s.heap new.heap s.count new.count o answer in
    let more : s.count ≤ a.count_is = subst (λ x. IfSome x (λ y. s.count ≤ y.1)) a.own_is (call_counts product_limits s.heap.cells on (name_of root k) args s.count) in
    let v = standing new c.args.state.now in
    rw (p.1, p.2) (to_done k c.args.env on args r a.answer a.count_is (standing c.args.shared.now c.args.state.now) (standing s c.args.state.now) (Err (halt_of o)) v refl begun
    (own_call_is s.heap.cells on (name_of root k) args s.count a.answer a.count_is a.own_is)
    (call_ends k a.answer a.count_is s.heap new.heap (Err o) (standing s c.args.state.now) v a.answers a.counts more refl
    (record { world = ap (λ x. world_of x c.args.state.now) c.in_err-value.ensures.rest; stack = refl; beside = record { parent = refl; heap = c.in_err-value.ensures.leaves.follows } })))

pub returns-in-Some : goal.returns-in-Some
returns-in-Some c = λ r above.
    let begun = c.in_ok-tick.ensures c.args.state.now in
    let k = c.args.node in
    let on = c.args.on in
    let args = c.args.arguments in
    let s = c.tick.new.shared in
    let new = c.own_call.new.shared in
    let root = script_of c.args.shared.now.code in
    let given = subst (λ x. CallAnswers (own_call product_limits s.heap.cells on (name_of (script_of s.code) k) c.as_slice.result.now s.count) s.heap new.heap s.count new.count (Ok x)) c.in-Some.is c.in_ok-value.ensures.answer in
    let answer = read_again (λ x vs. CallAnswers (own_call product_limits s.heap.cells on (name_of x k) vs s.count) s.heap new.heap s.count new.count (Ok (Some c.in-Some.value))) (script_of s.code) root c.as_slice.result.now args (ap (λ w. w.setting.script) begun.made) c.as_slice.ensures given in
    let a = own_gives (own_call product_limits s.heap.cells on (name_of root k) args s.count) s.heap new.heap s.count new.count c.in-Some.value answer in
    let more : s.count ≤ a.count_is = subst (λ x. IfSome x (λ y. s.count ≤ y.1)) a.own_is (call_counts product_limits s.heap.cells on (name_of root k) args s.count) in
    let v = standing new c.args.state.now in
    to_done k c.args.env on args r a.answer a.count_is (standing c.args.shared.now c.args.state.now) (standing s c.args.state.now) (Ok (Ends (Normal c.in-Some.value))) v refl begun
    (own_call_is s.heap.cells on (name_of root k) args s.count a.answer a.count_is a.own_is)
    (call_ends k a.answer a.count_is s.heap new.heap (Ok c.in-Some.value) (standing s c.args.state.now) v a.answers a.counts more refl
    (record { world = ap (λ x. world_of x c.args.state.now) c.in_ok-value.ensures.rest; stack = refl; beside = record { parent = refl; heap = c.in_ok-value.ensures.leaves.follows } }))

pub closure_call-requires-clause-node : goal.closure_call-requires-clause-node
closure_call-requires-clause-node c =
    let begun = c.in_ok-tick.ensures c.args.state.now in
    let script = ap (λ w. w.setting.script) begun.made in
    let k = c.args.node in
    let on = c.args.on in
    let args = c.args.arguments in
    let s = c.tick.new.shared in
    let new = c.own_call.new.shared in
    let own = own_call product_limits s.heap.cells on (name_of (script_of s.code) k) c.as_slice.result.now s.count in
    let none = own_none own s.heap new.heap s.count new.count (subst (λ x. CallAnswers own s.heap new.heap s.count new.count (Ok x)) c.in_default.is c.in_ok-value.ensures.answer) in
    let same : new ≡ s = c.in_ok-value.ensures.rest ∙ ap (λ h. record s { heap = h; count = new.count }) none.1 ∙ ap (λ n. record s { count = n }) none.2 in
    subst (λ x. k < length (nodes_of (script_of x.code))) (sym same) (subst (λ root. k < length (nodes_of root)) (sym script) c.requires.node)

pub closure_call-requires-clause-called : goal.closure_call-requires-clause-called
closure_call-requires-clause-called c =
    let begun = c.in_ok-tick.ensures c.args.state.now in
    let script = ap (λ w. w.setting.script) begun.made in
    let k = c.args.node in
    let s = c.tick.new.shared in
    let new = c.own_call.new.shared in
    let own = own_call product_limits s.heap.cells c.args.on (name_of (script_of s.code) k) c.as_slice.result.now s.count in
    let none = own_none own s.heap new.heap s.count new.count (subst (λ x. CallAnswers own s.heap new.heap s.count new.count (Ok x)) c.in_default.is c.in_ok-value.ensures.answer) in
    let same : new ≡ s = c.in_ok-value.ensures.rest ∙ ap (λ h. record s { heap = h; count = new.count }) none.1 ∙ ap (λ n. record s { count = n }) none.2 in
    subst (λ x. is_call (form_of (term_at (script_of x.code) k)) ≡ true) (sym same) (subst (λ root. is_call (form_of (term_at root k)) ≡ true) (sym script) c.requires.called)

pub closure_call-requires-clause-on : goal.closure_call-requires-clause-on
closure_call-requires-clause-on c =
    let begun = c.in_ok-tick.ensures c.args.state.now in
    let script = ap (λ w. w.setting.script) begun.made in
    let k = c.args.node in
    let on = c.args.on in
    let args = c.args.arguments in
    let s = c.tick.new.shared in
    let new = c.own_call.new.shared in
    let own = own_call product_limits s.heap.cells on (name_of (script_of s.code) k) c.as_slice.result.now s.count in
    let none = own_none own s.heap new.heap s.count new.count (subst (λ x. CallAnswers own s.heap new.heap s.count new.count (Ok x)) c.in_default.is c.in_ok-value.ensures.answer) in
    let same : new ≡ s = c.in_ok-value.ensures.rest ∙ ap (λ h. record s { heap = h; count = new.count }) none.1 ∙ ap (λ n. record s { count = n }) none.2 in
    subst (λ x. ValueBelow (length x.heap.cells) on) (sym same) (subst (λ h. ValueBelow (length h) on) (sym (ap (λ x. x.cells) begun.heap)) c.requires.on)

pub closure_call-requires-clause-arguments : goal.closure_call-requires-clause-arguments
closure_call-requires-clause-arguments c =
    let begun = c.in_ok-tick.ensures c.args.state.now in
    let script = ap (λ w. w.setting.script) begun.made in
    let k = c.args.node in
    let on = c.args.on in
    let args = c.args.arguments in
    let s = c.tick.new.shared in
    let new = c.own_call.new.shared in
    let own = own_call product_limits s.heap.cells on (name_of (script_of s.code) k) c.as_slice.result.now s.count in
    let none = own_none own s.heap new.heap s.count new.count (subst (λ x. CallAnswers own s.heap new.heap s.count new.count (Ok x)) c.in_default.is c.in_ok-value.ensures.answer) in
    let same : new ≡ s = c.in_ok-value.ensures.rest ∙ ap (λ h. record s { heap = h; count = new.count }) none.1 ∙ ap (λ n. record s { count = n }) none.2 in
    subst (All (ValueBelow (length new.heap.cells))) (sym c.as_slice-2.ensures)
    (subst (λ x. All (ValueBelow (length x.heap.cells)) args) (sym same) (subst (λ h. All (ValueBelow (length h)) args) (sym (ap (λ x. x.cells) begun.heap)) c.requires.arguments))

pub begin_turn-requires : goal.begin_turn-requires
begin_turn-requires c =
    let begun = c.in_ok-tick.ensures c.args.state.now in
    let script = ap (λ w. w.setting.script) begun.made in
    let k = c.args.node in
    let on = c.args.on in
    let args = c.args.arguments in
    let s = c.tick.new.shared in
    let new = c.own_call.new.shared in
    let own = own_call product_limits s.heap.cells on (name_of (script_of s.code) k) c.as_slice.result.now s.count in
    let none = own_none own s.heap new.heap s.count new.count (subst (λ x. CallAnswers own s.heap new.heap s.count new.count (Ok x)) c.in_default.is c.in_ok-value.ensures.answer) in
    let same : new ≡ s = c.in_ok-value.ensures.rest ∙ ap (λ h. record s { heap = h; count = new.count }) none.1 ∙ ap (λ n. record s { count = n }) none.2 in
    let h = new.heap.cells in
    let n = new.count in
    let is = subst (IsCalled (world_of new c.args.state.now) (form_of (term_at (script_of new.code) k)) n (called_or_none product_limits h None (closure_call product_limits h on (name_of (script_of new.code) k) c.as_slice-2.result.now n) (kind h on) (name_of (script_of new.code) k) n)) c.in-Walks.is (c.in_ok-callee.ensures.called c.args.state.now n) in
    let below = subst (CallFits h) c.in-Walks.is c.in_ok-callee.ensures.fits in
    record {
      stands = record {
        node = subst (λ x. k < length (nodes_of (script_of x.code))) (sym same) (subst (λ root. k < length (nodes_of root)) (sym script) c.requires.node);
        method = is.1;
        on = subst (λ x. ValueBelow (length x.heap.cells) on) (sym same) (subst (λ h. ValueBelow (length h) on) (sym (ap (λ x. x.cells) begun.heap)) c.requires.on);
        closure = below;
        kept = subst (All (ValueBelow (length h))) (sym is.2) (All-nil (ValueBelow (length h)));
        cells = subst (λ x. CellsFit (closure_rule (script_of x.code)) x.heap.cells) (sym same)
            (subst (λ root. CellsFit (closure_rule root) s.heap.cells) (sym script) (subst (CellsFit (closure_rule (script_of c.args.shared.now.code))) (sym (ap (λ x. x.cells) begun.heap)) c.requires.cells));
      };
    }

pub returns-in-Calls : goal.returns-in-Calls
returns-in-Calls c = λ r above.
    let begun = c.in_ok-tick.ensures c.args.state.now in
    let script = ap (λ w. w.setting.script) begun.made in
    let k = c.args.node in
    let on = c.args.on in
    let args = c.args.arguments in
    let s = c.tick.new.shared in
    let new = c.own_call.new.shared in
    let own = own_call product_limits s.heap.cells on (name_of (script_of s.code) k) c.as_slice.result.now s.count in
    let none = own_none own s.heap new.heap s.count new.count (subst (λ x. CallAnswers own s.heap new.heap s.count new.count (Ok x)) c.in_default.is c.in_ok-value.ensures.answer) in
    let same : new ≡ s = c.in_ok-value.ensures.rest ∙ ap (λ h. record s { heap = h; count = new.count }) none.1 ∙ ap (λ n. record s { count = n }) none.2 in
    let u = standing c.args.shared.now c.args.state.now in
    let u2 = standing new c.args.state.now in
    let root = script_of c.args.shared.now.code in
    let h = new.heap.cells in
    let n = new.count in
    let back : script_of new.code ≡ root = ap (λ x. script_of x.code) same ∙ script in
    let begun2 = subst (λ x. Passed may_count counted u (standing x c.args.state.now)) (sym same) begun in
    let is = subst (IsCalled (world_of new c.args.state.now) (form_of (term_at (script_of new.code) k)) n (called_or_none product_limits h None (closure_call product_limits h on (name_of (script_of new.code) k) c.as_slice-2.result.now n) (kind h on) (name_of (script_of new.code) k) n)) c.in-Calls.is (c.in_ok-callee.ensures.called c.args.state.now n) in
    let alone = read_again (λ x vs. own_call product_limits h on (name_of x k) vs n ≡ None) (script_of new.code) root c.as_slice.result.now args back c.as_slice.ensures
    (subst (λ x. own_call product_limits x.heap.cells on (name_of (script_of x.code) k) c.as_slice.result.now x.count ≡ None) (sym same) none.0) in
    let table : method_call product_limits h on (name_of root k) args n ≡ CallsClosure is.0 = no_own_call h on (name_of root k) args n alone
    ∙ read_again (λ x vs. called_or_none product_limits h None (closure_call product_limits h on (name_of x k) vs n) (kind h on) (name_of x k) n ≡ CallsClosure is.0) (script_of new.code) root c.as_slice-2.result.now args back c.as_slice-2.ensures is.1 in
    calls k c.args.env on args r is.0 c.in-Calls.callee u u2 refl begun2 table is.2

pub returns-in-Walks : goal.returns-in-Walks
returns-in-Walks c = λ r above.
    let begun = c.in_ok-tick.ensures c.args.state.now in
    let script = ap (λ w. w.setting.script) begun.made in
    let k = c.args.node in
    let on = c.args.on in
    let args = c.args.arguments in
    let s = c.tick.new.shared in
    let new = c.own_call.new.shared in
    let own = own_call product_limits s.heap.cells on (name_of (script_of s.code) k) c.as_slice.result.now s.count in
    let none = own_none own s.heap new.heap s.count new.count (subst (λ x. CallAnswers own s.heap new.heap s.count new.count (Ok x)) c.in_default.is c.in_ok-value.ensures.answer) in
    let same : new ≡ s = c.in_ok-value.ensures.rest ∙ ap (λ h. record s { heap = h; count = new.count }) none.1 ∙ ap (λ n. record s { count = n }) none.2 in
    let u = standing c.args.shared.now c.args.state.now in
    let u2 = standing new c.args.state.now in
    let root = script_of c.args.shared.now.code in
    let h = new.heap.cells in
    let n = new.count in
    let back : script_of new.code ≡ root = ap (λ x. script_of x.code) same ∙ script in
    let begun2 = subst (λ x. Passed may_count counted u (standing x c.args.state.now)) (sym same) begun in
    let is = subst (IsCalled (world_of new c.args.state.now) (form_of (term_at (script_of new.code) k)) n (called_or_none product_limits h None (closure_call product_limits h on (name_of (script_of new.code) k) c.as_slice-2.result.now n) (kind h on) (name_of (script_of new.code) k) n)) c.in-Walks.is (c.in_ok-callee.ensures.called c.args.state.now n) in
    let alone = read_again (λ x vs. own_call product_limits h on (name_of x k) vs n ≡ None) (script_of new.code) root c.as_slice.result.now args back c.as_slice.ensures
    (subst (λ x. own_call product_limits x.heap.cells on (name_of (script_of x.code) k) c.as_slice.result.now x.count ≡ None) (sym same) none.0) in
    let table : method_call product_limits h on (name_of root k) args n ≡ Walks (method_of c.in-Walks.walk) c.in-Walks.closure = no_own_call h on (name_of root k) args n alone
    ∙ read_again (λ x vs. called_or_none product_limits h None (closure_call product_limits h on (name_of x k) vs n) (kind h on) (name_of x k) n ≡ Walks (method_of c.in-Walks.walk) c.in-Walks.closure) (script_of new.code) root c.as_slice-2.result.now args back c.as_slice-2.ensures is.0 in
    let v = standing c.begin_turn.new.shared c.begin_turn.new.state in
    to_walks k c.args.env on args r c.in-Walks.closure (method_of c.in-Walks.walk) u u2 c.begin_turn.result v refl begun2 table
    (subst (λ (vs : List Value). ComesTo k 1 (λ sh a. walk a k c.args.env (walk_method sh.form) 0 on (InCell c.in-Walks.closure) vs) u2 c.begin_turn.result v) is.2 (c.begin_turn.ensures 1 (omega arith)))

pub throw_with-requires-clause-fits : goal.throw_with-requires-clause-fits
throw_with-requires-clause-fits c = (subst (CallFits c.own_call.new.shared.heap.cells) c.in-Throws.is c.in_ok-callee.ensures.fits).0

pub throw_with-requires-clause-throws : goal.throw_with-requires-clause-throws
throw_with-requires-clause-throws c = (subst (CallFits c.own_call.new.shared.heap.cells) c.in-Throws.is c.in_ok-callee.ensures.fits).1

pub returns-in-Throws : goal.returns-in-Throws
returns-in-Throws c = λ r above.
    let begun = c.in_ok-tick.ensures c.args.state.now in
    let script = ap (λ w. w.setting.script) begun.made in
    let k = c.args.node in
    let on = c.args.on in
    let args = c.args.arguments in
    let s = c.tick.new.shared in
    let new = c.own_call.new.shared in
    let own = own_call product_limits s.heap.cells on (name_of (script_of s.code) k) c.as_slice.result.now s.count in
    let none = own_none own s.heap new.heap s.count new.count (subst (λ x. CallAnswers own s.heap new.heap s.count new.count (Ok x)) c.in_default.is c.in_ok-value.ensures.answer) in
    let same : new ≡ s = c.in_ok-value.ensures.rest ∙ ap (λ h. record s { heap = h; count = new.count }) none.1 ∙ ap (λ n. record s { count = n }) none.2 in
    let u = standing c.args.shared.now c.args.state.now in
    let u2 = standing new c.args.state.now in
    let root = script_of c.args.shared.now.code in
    let h = new.heap.cells in
    let n = new.count in
    let back : script_of new.code ≡ root = ap (λ x. script_of x.code) same ∙ script in
    let begun2 = subst (λ x. Passed may_count counted u (standing x c.args.state.now)) (sym same) begun in
    let is = subst (IsCalled (world_of new c.args.state.now) (form_of (term_at (script_of new.code) k)) n (called_or_none product_limits h None (closure_call product_limits h on (name_of (script_of new.code) k) c.as_slice-2.result.now n) (kind h on) (name_of (script_of new.code) k) n)) c.in-Throws.is (c.in_ok-callee.ensures.called c.args.state.now n) in
    let answer = effect_answer product_limits h c.in-Throws.effect in
    let alone = read_again (λ x vs. own_call product_limits h on (name_of x k) vs n ≡ None) (script_of new.code) root c.as_slice.result.now args back c.as_slice.ensures
    (subst (λ x. own_call product_limits x.heap.cells on (name_of (script_of x.code) k) c.as_slice.result.now x.count ≡ None) (sym same) none.0) in
    let table : method_call product_limits h on (name_of root k) args n ≡ Done answer n = no_own_call h on (name_of root k) args n alone
    ∙ read_again (λ x vs. called_or_none product_limits h None (closure_call product_limits h on (name_of x k) vs n) (kind h on) (name_of x k) n ≡ Done answer n) (script_of new.code) root c.as_slice-2.result.now args back c.as_slice-2.ensures is in
    let v = standing c.throw_with.new.shared c.args.state.now in
    to_done k c.args.env on args r answer n u u2 (Err c.from.result) v refl begun2 table
    (to_unraised k answer u2 (Err c.from.result) v (subst (λ x. ComesTo k 1 (λ sh a. operating (λ w. answer) ended) u2 (Err x) v) (sym c.from.ensures)
    (to_thrown k 1 (λ w. answer) (λ y sh a. ended y) c.throw_with.result u2 v (c.throw_with.ensures c.args.state.now (λ w. answer) refl) (omega arith))))
