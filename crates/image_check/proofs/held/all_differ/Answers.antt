use Rattle.std.proofs.Common.{◌∙◌, ap}
use Rattle.image_check.specs.Requests.{numbers_rise}
use Rattle.image_check.proofs.Numbers.{sorted_differ}
use Rattle.image_check.proofs.held.all_differ.Goals as goal

pub returns : goal.returns
returns c =
    c.rise.ensures
    ∙ ap (numbers_rise (λ n. n)) c.as_slice.ensures.value
    ∙ sorted_differ c.args.numbers.items c.sort_unstable.new.self.items c.sort_unstable.ensures.permutation c.sort_unstable.ensures.sorted
