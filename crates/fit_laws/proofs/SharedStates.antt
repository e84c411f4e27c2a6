-- The shared state of every world that has begun is that of a sound build.
use Rattle.std.proofs.Common.{arith, ◌≡◌, true, List}
use Rattle.model_syntax.specs.declared.tree.Tree.{Tree}
use Rattle.model_syntax.specs.TreeNodes.{tree_node}
use Rattle.model_run.specs.declared.event.Event.{Event}
use Rattle.model_run.specs.State.{Setting}
use Rattle.model_run.specs.Below.{Small}
use Rattle.model_run.specs.Terms.{term}
use Rattle.model_run.specs.World.{run_limits, world_in}
use Rattle.run_laws.specs.Bounds.{Narrow}
use Rattle.run_laws.specs.Worlds.{SharedSound}
use Rattle.run_laws.proofs.SharedWorlds.{shared_sound}
use Rattle.world_laws.specs.Agreement.{SharedAgrees}
use Rattle.world_laws.proofs.WorldShared.{world_shared}
use Rattle.fit_laws.specs.Stands.{SharedStands}

-- this product's limits
pub limits_narrow : Narrow run_limits
limits_narrow = record { cells = omega arith; bytes = omega arith; nodes = omega arith }

module _ (g : Setting) (tree : Tree) (is : g.script ≡ term 0 (tree_node tree)) (small : Small g) (narrow : Narrow g.limits) where
  -- In every world that has begun, whether it has ended or not: cells and binding variables name what is there; cells, texts, flow nodes and
  -- requests stay in the bounds of an image; binding variables and flow nodes stand in their order; open requests rise, and what is asked can
  -- be answered; held executors rise, are the site's, and each has a closed request of its own.
  pub world_stands : (events : List Event) → (world_in g events).started ≡ true → SharedStands g (world_in g events)
  world_stands events started =
      let sound : SharedSound g (world_in g events).ended (world_in g events).shared = shared_sound g tree is small narrow events in
      let agrees : SharedAgrees g.site (world_in g events).shared = world_shared g (tree_node tree) is small events started in
      record {
        cells = sound.cells;
        short = (sound.bounds).short;
        few_cells = (sound.bounds).few_cells;
        few_bytes = (sound.bounds).few_bytes;
        binding = sound.binding;
        names = (sound.bounds).names;
        some_node = agrees.some_node;
        few_nodes = (sound.bounds).few_nodes;
        nodes = (sound.bounds).nodes;
        requests = agrees.requests;
        few_requests = (sound.bounds).few_requests;
        asks = (sound.bounds).asks;
        rising = agrees.rising;
        held = agrees.held;
        differ = agrees.differ;
      }
