-- All the scope faults of a tree, in the order of its marks. `scope_fault` of model_syntax is the first of them, which is
-- the one with the least place (proofs/TokenPlaces: `scope_fault-least`).
use Rattle.std.specs.Prelude.{◌≡◌, ◌<◌, ◌≤◌, ◌⊎◌, ℕ, Bool, true, false, List, [], ◌∷◌, ◌++◌, if◌then◌else◌, codes, All, Contains}
use Rattle.model_syntax.specs.declared.place.Place.{Place}
use Rattle.model_syntax.specs.declared.fault.FaultKind.TheVariants.{NameAlreadyDeclared, FunctionAlreadyDeclared, BreakOutsideLoop, ContinueOutsideLoop}
use Rattle.model_syntax.specs.declared.fault.ScriptFault.{ScriptFault}
use Rattle.model_syntax.specs.declared.tree.Tree.{Tree}
use Rattle.model_syntax.specs.Scopes.{Mark, Marks, block_begins, loop_begins, callable_begins, scope_ends, declares, declares_it, declares_function, breaks, continues, Scope, scope, with_name, is_among, fault_at, tree_marks}

-- What stands before a mark: the functions so far, the innermost scope, and those around it from within.
pub record Before : Type 0 where
  pub functions : List (List ℕ)
  pub inner : Scope
  pub outer : List Scope

-- Before a script there is one scope without names, in no loop.
abbrev pub nothing : Before
nothing = record { functions = []; inner = scope false; outer = [] }

-- A scope begins, in a loop or not.
abbrev pub opened : Bool → Before → Before
opened in_loop b = record { functions = b.functions; inner = scope in_loop; outer = b.inner ∷ b.outer }

-- The innermost scope ends; that of the script never does.
abbrev pub closed : Before → List Scope → Before
closed b [] = b
closed b (o ∷ outer) = record { functions = b.functions; inner = o; outer = outer }

-- What stands behind a mark. A name that is declared in vain is declared all the same.
abbrev pub behind : Mark → Before → Before
behind block_begins b = opened b.inner.in_loop b
behind loop_begins b = opened true b
behind callable_begins b = opened false b
behind scope_ends b = closed b b.outer
behind (declares d) b = record b { inner = with_name d.name b.inner }
behind declares_it b = record b { inner = with_name (codes "it") b.inner }
behind (declares_function d) b = record b { functions = d.name ∷ b.functions }
behind (breaks p) b = b
behind (continues p) b = b

-- The fault at a mark, if it is one.
abbrev pub fault_of : Mark → Before → List ScriptFault
fault_of (declares d) b = if is_among d.name b.inner.names then fault_at d.place NameAlreadyDeclared ∷ [] else []
fault_of (declares_function d) b = if is_among d.name b.functions then fault_at d.place FunctionAlreadyDeclared ∷ [] else []
fault_of (breaks p) b = if b.inner.in_loop then [] else fault_at p BreakOutsideLoop ∷ []
fault_of (continues p) b = if b.inner.in_loop then [] else fault_at p ContinueOutsideLoop ∷ []
fault_of m b = []

-- The faults at marks.
unfoldable pub faults : Before → Marks → List ScriptFault
faults b [] = []
faults b (m ∷ ms) = fault_of m b ++ faults (behind m b) ms

-- The scope faults of a tree.
abbrev pub scope_faults : Tree → List ScriptFault
scope_faults tree = faults nothing (tree_marks tree)

-- The first place is not behind the second: it has a lesser line, or in one line no greater column.
abbrev pub IsNotBehind : Place → Place → Type 0
IsNotBehind p q = (p.line < q.line) ⊎ ((p.line ≡ q.line) × (p.column ≤ q.column))

-- Where a fault stands.
abbrev pub place_of_fault : ScriptFault → Place
place_of_fault f = record { line = f.line; column = f.column }

-- A fault whose place no other one's is before.
pub record IsLeast (f : ScriptFault) (fs : List ScriptFault) : Type 0 where
  pub one_of_them : Contains fs f
  pub least : All (λ g. IsNotBehind (place_of_fault f) (place_of_fault g)) fs
