use Rattle.std.proofs.Common.{◌≡◌, ◌∙◌, ap, subst, sym}
use Rattle.std.specs.Prelude.{IfSome, option_map}
use Rattle.method_names.specs.Names.{seen as table_method}
use Rattle.model_run.specs.Calls.{walks}
use Rattle.model_run.specs.Terms.{form_of, term_at}
use Rattle.value_walks.specs.Walking.{kept_between, walk_kept, walk_method as method_of}
use Rattle.cps_code.specs.Script.{script_of}
use Rattle.cps_calls.proofs.WalkLaws.{named_method, unnamed_method}
use Rattle.cps_calls.proofs.walks.walk_behind.Goals as goal

pub returns-in-None-clause-walks : goal.returns-in-None-clause-walks
returns-in-None-clause-walks c = sym (unnamed_method (form_of (term_at (script_of c.args.code.now) c.args.node)) c.requires.form (sym (ap (option_map table_method) c.in-None.is) ∙ c.called_method.ensures))

pub returns-in-Some-clause-walks : goal.returns-in-Some-clause-walks
returns-in-Some-clause-walks c =
    let is = named_method (form_of (term_at (script_of c.args.code.now) c.args.node)) (table_method c.in-Some.method) c.requires.form (sym (ap (option_map table_method) c.in-Some.is) ∙ c.called_method.ensures) in
    c.of.ensures.walks ∙ ap walks (sym is)

pub returns-in-Some-clause-method : goal.returns-in-Some-clause-method
returns-in-Some-clause-method c =
    let is = named_method (form_of (term_at (script_of c.args.code.now) c.args.node)) (table_method c.in-Some.method) c.requires.form (sym (ap (option_map table_method) c.in-Some.is) ∙ c.called_method.ensures) in
    subst (λ m. IfSome c.of.result (λ walk. method_of walk ≡ m)) (sym is) c.of.ensures.method

pub returns-in-Some-clause-kept : goal.returns-in-Some-clause-kept
returns-in-Some-clause-kept c =
    let is = named_method (form_of (term_at (script_of c.args.code.now) c.args.node)) (table_method c.in-Some.method) c.requires.form (sym (ap (option_map table_method) c.in-Some.is) ∙ c.called_method.ensures) in
    subst (λ m. IfSome c.of.result (λ walk. walk_kept walk ≡ kept_between m c.args.kept)) (sym is) c.of.ensures.kept
