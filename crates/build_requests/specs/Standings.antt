-- A build that has begun and not ended, as the answer to an event hangs on it.
use Rattle.std.specs.Prelude.{true, false, List}
use Rattle.build_requests.specs.Names.{Site, OpenRequest, Held}
use Rattle.model_run.specs.Taking.{Standing}

abbrev pub standing_of : Site → List OpenRequest → List Held → Standing
standing_of site requests held = record { started = true; ended = false; site = site; requests = requests; held = held }
