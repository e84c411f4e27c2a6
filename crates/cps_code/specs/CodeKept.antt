-- What holds of the fields of numbered code.
use Rattle.std.specs.Prelude.{◌<◌, ◌^◌, vec_len}
use Rattle.cps_code.specs.declared.code.Code.TheInside.{Inside}
use Rattle.model_run.specs.Terms.{parts_of}
use Rattle.cps_code.specs.Functions.{HasFunctions}
use Rattle.cps_code.specs.Script.{IsTable, script_of, IsScript}

pub record IsKept (c : Inside) : Type 0 where
  pub table : IsTable c.rows.items
  pub script : IsScript (script_of c.rows.items)
  pub few : vec_len c.rows < 2 ^ 32
  pub functions : HasFunctions (parts_of (script_of c.rows.items)) c.functions
