-- A walk through the marks of a script, which keeps the first fault and goes on.
use Rattle.std.specs.Prelude.{ℕ, Bool, true, false, not, Option, Some, None, List, [], ◌∷◌, if◌then◌else◌, codes}
use Rattle.std.specs.FinSet as set
use Rattle.std.specs.declared.alloc.Global.{Global}
use Rattle.model_syntax.specs.declared.place.Place.{Place}
use Rattle.model_syntax.specs.declared.place.Declared.{Declared}
use Rattle.model_syntax.specs.declared.fault.FaultKind.{FaultKind}
use Rattle.model_syntax.specs.declared.fault.FaultKind.TheVariants.{NameAlreadyDeclared, FunctionAlreadyDeclared, BreakOutsideLoop, ContinueOutsideLoop}
use Rattle.model_syntax.specs.declared.fault.ScriptFault.{ScriptFault}
use Rattle.model_syntax.specs.Scopes.{Mark, Marks, fault_at, block_begins, loop_begins, callable_begins, scope_ends, declares, declares_it, declares_function, breaks, continues}
use Rattle.scope_check.specs.declared.scopes.Scope.{Scope}
use Rattle.scope_check.specs.declared.scopes.Scopes.{Scopes}

-- A scope without names.
abbrev pub no_names : Bool → Scope
no_names in_loop = record { names = set.empty; in_loop = in_loop }

-- The begin of a script.
abbrev pub start : Global → Scopes
start alloc = record { alloc = alloc; functions = set.empty; inner = no_names false; outer = []; fault = None }

-- Of two faults the first.
abbrev pub first_of : Option ScriptFault → ScriptFault → Option ScriptFault
first_of None f = Some f
first_of (Some e) f = Some e

-- A fault is met.
abbrev pub note_fault : ScriptFault → Scopes → Scopes
note_fault f s = record s { fault = first_of s.fault f }

-- A fault is met, where the test says so.
abbrev pub note_where : Bool → ScriptFault → Scopes → Scopes
note_where b f s = if b then note_fault f s else s

-- A scope begins.
abbrev pub open_scope : Bool → Scopes → Scopes
open_scope in_loop s = record s { inner = no_names in_loop; outer = s.inner ∷ s.outer }

-- The scopes with these around them.
abbrev pub back_to : List Scope → Scopes → Scopes
back_to [] s = s
back_to (o ∷ outer) s = record s { inner = o; outer = outer }

-- The innermost scope ends.
abbrev pub close_scope : Scopes → Scopes
close_scope s = back_to s.outer s

-- A scope with one more name.
abbrev pub with_name : List ℕ → Scope → Scope
with_name n scope = record scope { names = set.insert scope.names n }

-- A name is declared in the innermost scope: a fault, where it has the name already.
abbrev pub declare_name : Declared → Scopes → Scopes
declare_name d s =
    note_where (set.contains s.inner.names d.name) (fault_at d.place NameAlreadyDeclared)
    (record s { inner = with_name d.name s.inner })

-- `it` is declared in the innermost scope, which has just begun.
abbrev pub declare_it : Scopes → Scopes
declare_it s = record s { inner = with_name (codes "it") s.inner }

-- A function is declared: a fault, where there is one of this name already.
abbrev pub declare_function : Declared → Scopes → Scopes
declare_function d s =
    note_where (set.contains s.functions d.name) (fault_at d.place FunctionAlreadyDeclared)
    (record s { functions = set.insert s.functions d.name })

-- A word stands here that needs a loop around it: a fault of this kind, where there is none.
abbrev pub need_loop : FaultKind → Place → Scopes → Scopes
need_loop kind p s = note_where (not s.inner.in_loop) (fault_at p kind) s

-- What a mark changes.
abbrev pub after : Mark → Scopes → Scopes
after block_begins s = open_scope s.inner.in_loop s
after loop_begins s = open_scope true s
after callable_begins s = open_scope false s
after scope_ends s = close_scope s
after (declares d) s = declare_name d s
after declares_it s = declare_it s
after (declares_function d) s = declare_function d s
after (breaks p) s = need_loop BreakOutsideLoop p s
after (continues p) s = need_loop ContinueOutsideLoop p s

-- What marks change, one behind the other.
unfoldable pub walked : Marks → Scopes → Scopes
walked [] s = s
walked (m ∷ ms) s = walked ms (after m s)
