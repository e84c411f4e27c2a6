use Rattle.std.proofs.lemmas.Slice.Eq.{slice_eq-Decides}
use Rattle.std.proofs.Common.{rules}
use Rattle.image_changes.proofs.same.EnvSame.is_same.Goals as goal

pub returns : goal.returns
returns c = slice_eq-Decides (λ a b. search rules) c.args.self.now c.args.other.now c.eq.result c.eq.ensures
