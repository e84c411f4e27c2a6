-- Why a tree is refused.
use Rattle.std.specs.Prelude.{◌≡◌, Option, Some}
use Rattle.model_syntax.specs.declared.fault.ScriptFault.{ScriptFault}
use Rattle.model_syntax.specs.declared.fault.ScriptRefusal.{ScriptRefusal}
use Rattle.model_syntax.specs.declared.fault.ScriptRefusal.TheVariants.{Memory, TooLong, Fault}

-- The fault that is told is the first scope fault. No tree is too long, and memory may be refused at any time.
abbrev pub IsRefused : Option ScriptFault → ScriptRefusal → Type 0
IsRefused first Memory = Unit {0}
IsRefused first TooLong = ⊥
IsRefused first (Fault f) = first ≡ Some f
