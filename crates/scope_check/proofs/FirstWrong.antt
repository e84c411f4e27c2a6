-- The fault that a walk keeps is the first that is wrong.
use Rattle.std.proofs.Common.{◌≡◌, ℕ, Bool, true, false, not, ◌||◌, if◌then◌else◌, Option, Some, None, List, [], ◌∷◌, map, refl, sym, ap, ◌∙◌, codes}
use Rattle.std.specs.Ordering.{nat_cmp}
use Rattle.std.specs.Cmp.Lexicographic.{slice_cmp, nat_list_cmp_total, texts_ties}
use Rattle.std.specs.FinSet.{FinSet, empty, contains, insert, contains-empty, contains-insert}
use Rattle.std.specs.declared.alloc.Global.{Global}
use Rattle.model_syntax.specs.declared.fault.FaultKind.TheVariants.{NameAlreadyDeclared, FunctionAlreadyDeclared, BreakOutsideLoop, ContinueOutsideLoop}
use Rattle.model_syntax.specs.declared.fault.ScriptFault.{ScriptFault}
use Rattle.model_syntax.specs.declared.tree.Top.{Top}
use Rattle.model_syntax.specs.declared.tree.Tree.{Tree}
use Rattle.model_syntax.specs.Scopes.{Mark, Marks, fault_at, block_begins, loop_begins, callable_begins, scope_ends, declares, declares_it, declares_function, breaks, continues, is_among, first_wrong, scope_fault, tree_marks, top_marks, all}
use Rattle.model_syntax.specs.Scopes as model
use Rattle.scope_check.specs.declared.scopes.Scope.{Scope}
use Rattle.scope_check.specs.declared.scopes.Scopes.{Scopes}
use Rattle.scope_check.specs.Walk.{walked, after, first_of, note_fault, note_where, back_to, with_name, start}

-- A set has the names of a list.
abbrev HasNames : FinSet (slice_cmp nat_cmp) → List (List ℕ) → Type 0
HasNames names ns = (q : List ℕ) → contains names q ≡ is_among q ns

HasNames-none : HasNames empty []
unfolding is_among
HasNames-none q = contains-empty (slice_cmp nat_cmp) q

HasNames-more : (names : FinSet (slice_cmp nat_cmp)) (ns : List (List ℕ)) (n : List ℕ) → HasNames names ns → HasNames (insert names n) (n ∷ ns)
unfolding is_among
HasNames-more names ns n has q = contains-insert nat_list_cmp_total names n q ∙ (λ i. sym (texts_ties q n) i || has q i)

-- A scope of the walk and one of the model.
record IsScope (a : Scope) (b : model.Scope) : Type 0 where
  names : HasNames a.names b.names
  in_loop : a.in_loop ≡ b.in_loop

abbrev AreScopes : List Scope → List model.Scope → Type 0
AreScopes [] [] = Unit {0}
AreScopes [] (b ∷ bs) = ⊥
AreScopes (a ∷ rest) [] = ⊥
AreScopes (a ∷ rest) (b ∷ bs) = IsScope a b × AreScopes rest bs

-- A walk without a fault stands where the model stands.
record StandsAt (s : Scopes) (fs : List (List ℕ)) (scope : model.Scope) (around : List model.Scope) : Type 0 where
  no_fault : s.fault ≡ None
  functions : HasNames s.functions fs
  inner : IsScope s.inner scope
  outer : AreScopes s.outer around

-- From each place where the two stand alike, they find the same fault in these marks.
abbrev FindsFirst : Marks → Type 0
FindsFirst ms =
    (s : Scopes) (functions : List (List ℕ)) (inner : model.Scope) (outer : List model.Scope) → StandsAt s functions inner outer
    → (walked ms s).fault ≡ first_wrong functions inner outer ms

noted_kept : (b : Bool) (g : ScriptFault) (s : Scopes) (f : ScriptFault) → s.fault ≡ Some f → (note_where b g s).fault ≡ Some f
noted_kept true g s f is = ap (λ o. first_of o g) is
noted_kept false g s f is = is

closed_kept : (outer : List Scope) (s : Scopes) (f : ScriptFault) → s.fault ≡ Some f → (back_to outer s).fault ≡ Some f
closed_kept [] s f is = is
closed_kept (o ∷ outer) s f is = is

after_kept : (m : Mark) (s : Scopes) (f : ScriptFault) → s.fault ≡ Some f → (after m s).fault ≡ Some f
after_kept block_begins s f is = is
after_kept loop_begins s f is = is
after_kept callable_begins s f is = is
after_kept scope_ends s f is = closed_kept s.outer s f is
after_kept (declares d) s f is = noted_kept _ _ _ f is
after_kept declares_it s f is = is
after_kept (declares_function d) s f is = noted_kept _ _ _ f is
after_kept (breaks p) s f is = noted_kept _ _ _ f is
after_kept (continues p) s f is = noted_kept _ _ _ f is

-- A fault that was met stays.
kept : (ms : Marks) (s : Scopes) (f : ScriptFault) → s.fault ≡ Some f → (walked ms s).fault ≡ Some f
unfolding walked
kept [] s f is = is
kept (m ∷ ms) s f is = kept ms (after m s) f (after_kept m s f is)

-- Where the test says so, this fault is the first; else what comes behind it.
noted : (b : Bool) (ms : Marks) (s : Scopes) (f : ScriptFault) (o : Option ScriptFault)
    → s.fault ≡ None → (walked ms s).fault ≡ o → (walked ms (note_where b f s)).fault ≡ (if b then Some f else o)
noted true ms s f o none behind = kept ms (note_fault f s) f (ap (λ e. first_of e f) none)
noted false ms s f o none behind = behind

needed : (b : Bool) (ms : Marks) (s : Scopes) (f : ScriptFault) (o : Option ScriptFault)
    → s.fault ≡ None → (walked ms s).fault ≡ o → (walked ms (note_where (not b) f s)).fault ≡ (if b then o else Some f)
needed true ms s f o none behind = behind
needed false ms s f o none behind = kept ms (note_fault f s) f (ap (λ e. first_of e f) none)

-- A scope that ends, in both.
closed : (ms : Marks) → FindsFirst ms → (os : List Scope) (s : Scopes) (functions : List (List ℕ)) (inner : model.Scope) (outer : List model.Scope)
    → s.outer ≡ os → AreScopes os outer → StandsAt s functions inner outer
    → (walked ms (back_to os s)).fault ≡ first_wrong functions inner outer (scope_ends ∷ ms)
unfolding first_wrong
closed ms finds [] s functions inner [] same are at = finds s functions inner [] at
closed ms finds [] s functions inner (b ∷ bs) same are at = absurd are
closed ms finds (a ∷ rest) s functions inner [] same are at = absurd are
closed ms finds (a ∷ rest) s functions inner (b ∷ bs) same are at =
    finds (record s { inner = a; outer = rest }) functions b bs (record { no_fault = at.no_fault; functions = at.functions; inner = are.0; outer = are.1 })

-- A walk finds the first fault.
finds_first : (ms : Marks) → FindsFirst ms
unfolding walked first_wrong
finds_first [] s functions inner outer at = at.no_fault
finds_first (block_begins ∷ ms) s functions inner outer at =
    finds_first ms _ functions _ _ (record { no_fault = at.no_fault; functions = at.functions; inner = record { names = HasNames-none; in_loop = at.inner.in_loop }; outer = (at.inner, at.outer) })
finds_first (loop_begins ∷ ms) s functions inner outer at =
    finds_first ms _ functions _ _ (record { no_fault = at.no_fault; functions = at.functions; inner = record { names = HasNames-none; in_loop = refl }; outer = (at.inner, at.outer) })
finds_first (callable_begins ∷ ms) s functions inner outer at =
    finds_first ms _ functions _ _ (record { no_fault = at.no_fault; functions = at.functions; inner = record { names = HasNames-none; in_loop = refl }; outer = (at.inner, at.outer) })
finds_first (scope_ends ∷ ms) s functions inner outer at =
    closed ms (finds_first ms) s.outer s functions inner outer refl at.outer at
finds_first (declares d ∷ ms) s functions inner outer at =
    noted (contains s.inner.names d.name) ms (record s { inner = with_name d.name s.inner }) (fault_at d.place NameAlreadyDeclared) _ at.no_fault
    (finds_first ms _ functions (model.with_name d.name inner) outer
    (record { no_fault = at.no_fault; functions = at.functions; inner = record { names = HasNames-more s.inner.names inner.names d.name at.inner.names; in_loop = at.inner.in_loop }; outer = at.outer }))
    ∙ ap (λ b. if b then Some (fault_at d.place NameAlreadyDeclared) else first_wrong functions (model.with_name d.name inner) outer ms) (at.inner.names d.name)
finds_first (declares_it ∷ ms) s functions inner outer at =
    finds_first ms _ functions (model.with_name (codes "it") inner) outer
    (record { no_fault = at.no_fault; functions = at.functions; inner = record { names = HasNames-more s.inner.names inner.names (codes "it") at.inner.names; in_loop = at.inner.in_loop }; outer = at.outer })
finds_first (declares_function d ∷ ms) s functions inner outer at =
    noted (contains s.functions d.name) ms (record s { functions = insert s.functions d.name }) (fault_at d.place FunctionAlreadyDeclared) _ at.no_fault
    (finds_first ms _ (d.name ∷ functions) inner outer
    (record { no_fault = at.no_fault; functions = HasNames-more s.functions functions d.name at.functions; inner = at.inner; outer = at.outer }))
    ∙ ap (λ b. if b then Some (fault_at d.place FunctionAlreadyDeclared) else first_wrong (d.name ∷ functions) inner outer ms) (at.functions d.name)
finds_first (breaks p ∷ ms) s functions inner outer at =
    needed s.inner.in_loop ms s (fault_at p BreakOutsideLoop) _ at.no_fault (finds_first ms s functions inner outer at)
    ∙ ap (λ b. if b then first_wrong functions inner outer ms else Some (fault_at p BreakOutsideLoop)) at.inner.in_loop
finds_first (continues p ∷ ms) s functions inner outer at =
    needed s.inner.in_loop ms s (fault_at p ContinueOutsideLoop) _ at.no_fault (finds_first ms s functions inner outer at)
    ∙ ap (λ b. if b then first_wrong functions inner outer ms else Some (fault_at p ContinueOutsideLoop)) at.inner.in_loop

-- The walk through a whole tree finds its first scope fault.
pub walked-fault : (alloc : Global) (tree : Tree) {tops : List Top} {first last : Scopes}
    → tops ≡ tree.tops → first ≡ start alloc → last ≡ walked (all (map top_marks tops)) first → scope_fault tree ≡ last.fault
walked-fault alloc tree are begins ends =
    sym (finds_first (tree_marks tree) (start alloc) [] (model.scope false) []
    (record { no_fault = refl; functions = HasNames-none; inner = record { names = HasNames-none; in_loop = refl }; outer = tt }))
    ∙ sym (ap (λ s. s.fault) ends ∙ (λ i. (walked (all (map top_marks (are i))) (begins i)).fault))
