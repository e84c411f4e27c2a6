use Rattle.std.proofs.Common.{◌∙◌, sym, ap}
use Rattle.model_run.specs.AgentsFaults.{is_slash}
use Rattle.agents_file.proofs.MemberLemmas.{last_is}
use Rattle.agents_file.proofs.members.ends_with_slash.Goals as goal

pub returns : goal.returns
returns c = c.is_slash.ensures ∙ ap is_slash (c.last.ensures.value ∙ sym (last_is c.args.bytes.now))
