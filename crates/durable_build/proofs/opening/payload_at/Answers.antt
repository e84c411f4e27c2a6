use Rattle.std.proofs.Common.{refl}
use Rattle.store_laws.proofs.Payloads.{payload_read}
use Rattle.durable_build.proofs.LoadLemmas.{none_spelled}
use Rattle.durable_build.proofs.opening.payload_at.Goals as goal

pub returns-in-Ok-clause-has : goal.returns-in-Ok-clause-has
returns-in-Ok-clause-has c = payload_read c.in-Ok.payload c.args.bytes.now c.in-Ok.ensures.place

pub returns-in-Err-Fault-clause-has : goal.returns-in-Err-Fault-clause-has
returns-in-Err-Fault-clause-has c = (refl, none_spelled c.args.bytes.now _ _ c.in-Err-Fault.field-0-is c.in-Err-Fault.ensures.place)
