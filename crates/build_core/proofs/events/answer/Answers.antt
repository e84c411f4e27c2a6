use Rattle.std.proofs.Common.{ap, sym, subst, arith}
use Rattle.green_threads.specs.WaitTypes.{Ready}
use Rattle.green_threads.specs.Grouping.{ready_count}
use Rattle.green_threads.specs.Threads.{Threads, waits_as}
use Rattle.green_threads.proofs.Seats.{joined_count}
use Rattle.build_core.proofs.events.answer.Goals as goal

pub go_on-requires : goal.go_on-requires
go_on-requires g c = record {
  go = record {
    grouped = c.answer.ensures.grouped;
    fit = subst (λ (k : Threads g.row.R.Denot). g.R.Runner.fits k.seats c.args.shared.now) (sym c.in-Ok.ensures.answered.1) c.requires.may.go.fit;
    few_threads = omega (arith, c.requires.may.go.few_threads, ap (λ (k : Threads g.row.R.Denot). k.next) c.in-Ok.ensures.answered.1);
    few = omega (arith, c.requires.may.go.few, ap (λ (k : Threads g.row.R.Denot). ready_count k.seats) c.in-Ok.ensures.answered.1, joined_count g.R.Runner.number g.R.Runner.parent g.R.Runner.branch (waits_as (Ready c.args.answer)) c.args.thread 0 c.args.group.now.seats c.args.group.now.next c.requires.may.go.grouped);
  };
}
