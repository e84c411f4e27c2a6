use Rattle.std.proofs.Common.{◌≡◌, true, subst}
use Rattle.std.specs.Prelude.{nat_eq}
use Rattle.std.specs.List.{list_any}
use Rattle.image_check.proofs.image.threads_fault.Goals as goal

pub lists_of-lists-requires : goal.lists_of-lists-requires
lists_of-lists-requires c = λ r e. c.in_ok-held.ensures r (subst (λ ns. list_any (nat_eq r) ns ≡ true) c.as_slice.ensures.value e)
