-- Why a script has no tree.
use Rattle.std.specs.Prelude.{ℕ, List}
use Rattle.model_syntax.specs.declared.fault.ScriptRefusal.{ScriptRefusal}
use Rattle.model_syntax.specs.declared.fault.ScriptRefusal.TheVariants.{Memory, TooLong, Fault}
use Rattle.model_syntax.specs.FirstFault.{FirstFault}

-- the most bytes of a script
abbrev pub script_limit : ℕ
script_limit = 1048576

-- The memory may be refused for every script; else the script, which is not too long, has the fault that is told, and
-- it is the first.
abbrev pub IsRefused : List ℕ → ScriptRefusal → Type 0
IsRefused bytes Memory = Unit {0}
IsRefused bytes TooLong = ⊥
IsRefused bytes (Fault f) = FirstFault bytes f
