use Rattle.std.proofs.Common.{◌∙◌, sym, ap}
use Rattle.agents_file.specs.FirstFault.{first}
use Rattle.agents_file.specs.Paths.{key_path, known_keys}
use Rattle.agents_file.proofs.KeyLemmas.{unknown_among, unknown_keys-members_view}
use Rattle.agents_file.proofs.keys.check_keys.Goals as goal

pub loop-key-init : goal.loop-key-init
loop-key-init c =
    let known = known_keys c.args.object in
    let path = key_path c.args.object in (
      tt,
      tt,
      ap first (unknown_keys-members_view known path c.args.members.now.entries)
          ∙ ap (λ ks. first (unknown_among known path ks)) (sym (c.into_iter-key-iterator.ensures.into_iter_gives ∙ c.keys-key-items.ensures.rest)),
    )
