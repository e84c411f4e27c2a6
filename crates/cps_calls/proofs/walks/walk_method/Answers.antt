use Rattle.std.proofs.Common.{◌∙◌, ap, sym}
use Rattle.std.specs.Prelude.{option_map}
use Rattle.method_names.specs.Names.{seen as table_method}
use Rattle.model_run.specs.Terms.{form_of, term_at}
use Rattle.cps_code.specs.Script.{script_of}
use Rattle.cps_calls.proofs.WalkLaws.{named_method, none_left, walk_calls, walk_named}
use Rattle.cps_calls.proofs.walks.walk_method.Goals as goal

pub called_method-requires-clause-form : goal.called_method-requires-clause-form
called_method-requires-clause-form c = walk_calls (form_of (term_at (script_of c.args.code.now) c.args.node)) c.requires.walks

pub unreachable-requires : goal.unreachable-requires
unreachable-requires c = walk_named (form_of (term_at (script_of c.args.code.now) c.args.node)) c.requires.walks (sym (ap (option_map table_method) (none_left c.called_method.result c.in_default.not-Some)) ∙ c.called_method.ensures)

pub returns : goal.returns
returns c = sym (named_method (form_of (term_at (script_of c.args.code.now) c.args.node)) (table_method c.in-Some.method) (walk_calls (form_of (term_at (script_of c.args.code.now) c.args.node)) c.requires.walks) (sym (ap (option_map table_method) c.in-Some.is) ∙ c.called_method.ensures))
