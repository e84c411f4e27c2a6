-- A build that has just begun is sound.
use Rattle.std.proofs.Common.{arith, refl, []}
use Rattle.model_run.specs.State.{Setting}
use Rattle.model_run.specs.World.{begun}
use Rattle.model_run.specs.Fitting.{Fits, seats_of}

pub begun_fits : (setting : Setting) → Fits setting begun.ended begun.shared begun.next_thread (seats_of setting begun.threads)
begun_fits setting = record {
  shared = record {
    cells = tt;
    short = tt;
    few_cells = omega arith;
    few_bytes = omega arith;
    binding = tt;
    names = tt;
    some_node = omega arith;
    few_nodes = omega arith;
    nodes = (refl, refl, tt, tt);
    requests = tt;
    few_requests = omega arith;
    asks = tt;
    rising = tt;
    held = tt;
    differ = tt;
  };
  numbers = (omega arith, omega arith, tt);
  few_threads = omega arith;
  main = λ on e. absurd (cc);
  threads = (
    record {
      head = (omega arith, omega arith);
      parent = refl;
      frames = tt;
      envs = tt;
      nested = tt;
      closures = tt;
      waits = tt;
      start = refl;
      own_held = ([], refl, refl);
      holds = tt;
      folders = refl;
    },
    tt,
  );
  differ = tt;
  waited_for = tt;
}
