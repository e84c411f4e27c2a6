-- A place as the program has it.
use Rattle.model_run.specs.Steps as steps
use Rattle.step_library.specs.declared.places.Place.{Place}

abbrev pub place_seen : Place → steps.Place
place_seen p = record { executor = p.executor.now; workspace = p.workspace; folder = p.folder }
