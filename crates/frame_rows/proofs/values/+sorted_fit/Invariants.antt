use Rattle.std.proofs.Common.{length}
use Rattle.frame_rows.proofs.values.+sorted_fit.Given as goal

abbrev pub decreases-sorted_fit : goal.decreases-sorted_fit
decreases-sorted_fit l = length l.sorts.now
