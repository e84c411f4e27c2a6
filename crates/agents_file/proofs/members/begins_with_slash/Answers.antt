use Rattle.std.proofs.Common.{◌∙◌, sym, ap}
use Rattle.model_run.specs.AgentsFaults.{is_slash}
use Rattle.agents_file.proofs.MemberLemmas.{first_is}
use Rattle.agents_file.proofs.members.begins_with_slash.Goals as goal

pub returns : goal.returns
returns c = c.is_slash.ensures ∙ ap is_slash (c.first.ensures.value ∙ sym (first_is c.args.bytes.now))
