use Rattle.std.proofs.Common.{rules, nat_eq, not}
use Rattle.std.proofs.lemmas.Fn.{filter_same}
use Rattle.real_edge.proofs.own_folders.OwnFolders.forget.Goals as goal

pub returns : goal.returns
returns c = filter_same _ (λ t. not (nat_eq t c.args.task)) _ (λ x b f says. (search rules, search rules)) _ _ c.retain.ensures.filtered
