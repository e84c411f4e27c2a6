-- The first scope fault of a tree is the first of all of them, and the least where the marks stand in the order of their places.
use Rattle.std.proofs.Common.{◌≡◌, ℕ, ◌<◌, ◌≤◌, ◌⊎◌, inl, inr, Bool, true, false, if◌then◌else◌, Option, Some, None, List, [], ◌∷◌, ◌++◌, refl, sym, subst, ◌∙◌, arith, codes}
use Rattle.std.specs.Prelude.{All}
use Rattle.std.proofs.lemmas.List.Elements.{All-cons, All-nil}
use Rattle.model_syntax.specs.declared.place.Place.{Place}
use Rattle.model_syntax.specs.declared.fault.FaultKind.{FaultKind}
use Rattle.model_syntax.specs.declared.fault.FaultKind.TheVariants.{NameAlreadyDeclared, FunctionAlreadyDeclared, BreakOutsideLoop, ContinueOutsideLoop}
use Rattle.model_syntax.specs.declared.fault.ScriptFault.{ScriptFault}
use Rattle.model_syntax.specs.declared.tree.Tree.{Tree}
use Rattle.model_syntax.specs.Stream.{Places}
use Rattle.model_syntax.specs.Scopes.{Mark, Marks, block_begins, loop_begins, callable_begins, scope_ends, declares, declares_it, declares_function, breaks, continues, Scope, is_among, fault_at, first_wrong, scope_fault, tree_marks}
use Rattle.scope_check.specs.Faults.{Before, nothing, behind, closed, fault_of, faults, scope_faults, IsNotBehind, place_of_fault, IsLeast}
use Rattle.scope_check.proofs.MarkOrder.{place_of, Placed, placed_none, placed_here, placed_apart, span}

-- The first of a list.
abbrev pub first : List ScriptFault → Option ScriptFault
first [] = None
first (f ∷ fs) = Some f

first-then : (b : Bool) (f : ScriptFault) (o : Option ScriptFault) (fs : List ScriptFault) → o ≡ first fs
    → (if b then Some f else o) ≡ first ((if b then f ∷ [] else []) ++ fs)
first-then true f o fs e = refl
first-then false f o fs e = e

first-else : (b : Bool) (f : ScriptFault) (o : Option ScriptFault) (fs : List ScriptFault) → o ≡ first fs
    → (if b then o else Some f) ≡ first ((if b then [] else f ∷ []) ++ fs)
first-else true f o fs e = e
first-else false f o fs e = refl

-- The first mark at which something is wrong is that of the first fault of all.
first_wrong-first : (ms : Marks) (b : Before) → first_wrong b.functions b.inner b.outer ms ≡ first (faults b ms)
unfolding first_wrong faults
first_wrong-first [] b = refl
first_wrong-first (block_begins ∷ ms) b = first_wrong-first ms (behind block_begins b)
first_wrong-first (loop_begins ∷ ms) b = first_wrong-first ms (behind loop_begins b)
first_wrong-first (callable_begins ∷ ms) b = first_wrong-first ms (behind callable_begins b)
first_wrong-first (scope_ends ∷ ms) b = by b.outer (first_wrong-first ms)
  where
    by : (outer : List Scope) → ((c : Before) → first_wrong c.functions c.inner c.outer ms ≡ first (faults c ms))
        → first_wrong b.functions b.inner outer (scope_ends ∷ ms) ≡ first (faults (closed (record b { outer = outer }) outer) ms)
    by [] h = h (record b { outer = [] })
    by (o ∷ outer) h = h (record { functions = b.functions; inner = o; outer = outer })
first_wrong-first (declares d ∷ ms) b = first-then (is_among d.name b.inner.names) _ _ _ (first_wrong-first ms (behind (declares d) b))
first_wrong-first (declares_it ∷ ms) b = first_wrong-first ms (behind declares_it b)
first_wrong-first (declares_function d ∷ ms) b = first-then (is_among d.name b.functions) _ _ _ (first_wrong-first ms (behind (declares_function d) b))
first_wrong-first (breaks p ∷ ms) b = first-else b.inner.in_loop _ _ _ (first_wrong-first ms b)
first_wrong-first (continues p ∷ ms) b = first-else b.inner.in_loop _ _ _ (first_wrong-first ms b)

-- The fault that a tree is told is the first of all its faults: it has none exactly where there is none.
pub scope_fault-first : (tree : Tree) → scope_fault tree ≡ first (scope_faults tree)
scope_fault-first tree = first_wrong-first (tree_marks tree) nothing

-- At a mark with a place there is no fault, or one at this place; at another mark there is none.
then-one : (t : Bool) (p : Place) (k : FaultKind) → ((if t then fault_at p k ∷ [] else []) ≡ []) ⊎ ((j : FaultKind) × ((if t then fault_at p k ∷ [] else []) ≡ fault_at p j ∷ []))
then-one true p k = inr (k, refl)
then-one false p k = inl refl

else-one : (t : Bool) (p : Place) (k : FaultKind) → ((if t then [] else fault_at p k ∷ []) ≡ []) ⊎ ((j : FaultKind) × ((if t then [] else fault_at p k ∷ []) ≡ fault_at p j ∷ []))
else-one true p k = inl refl
else-one false p k = inr (k, refl)

abbrev OneAt : List ScriptFault → Place → Type 0
OneAt fs p = (fs ≡ []) ⊎ ((k : FaultKind) × (fs ≡ fault_at p k ∷ []))

same_place : {p q : Place} → Some p ≡ Some q → p ≡ q
same_place e = cc

one_here : (m : Mark) (b : Before) (p : Place) → place_of m ≡ Some p → OneAt (fault_of m b) p
one_here block_begins b p e = inl refl
one_here loop_begins b p e = inl refl
one_here callable_begins b p e = inl refl
one_here scope_ends b p e = inl refl
one_here declares_it b p e = inl refl
one_here (declares d) b p e = subst (OneAt (fault_of (declares d) b)) (same_place e) (then-one (is_among d.name b.inner.names) d.place NameAlreadyDeclared)
one_here (declares_function d) b p e = subst (OneAt (fault_of (declares_function d) b)) (same_place e) (then-one (is_among d.name b.functions) d.place FunctionAlreadyDeclared)
one_here (breaks q) b p e = subst (OneAt (fault_of (breaks q) b)) (same_place e) (else-one b.inner.in_loop q BreakOutsideLoop)
one_here (continues q) b p e = subst (OneAt (fault_of (continues q) b)) (same_place e) (else-one b.inner.in_loop q ContinueOutsideLoop)

none_apart : (m : Mark) (b : Before) → place_of m ≡ None → fault_of m b ≡ []
none_apart block_begins b e = refl
none_apart loop_begins b e = refl
none_apart callable_begins b e = refl
none_apart scope_ends b e = refl
none_apart declares_it b e = refl
none_apart (declares d) b e = absurd (let k : Some d.place ≡ None = e in cc)
none_apart (declares_function d) b e = absurd (let k : Some d.place ≡ None = e in cc)
none_apart (breaks q) b e = absurd (let k : Some q ≡ None = e in cc)
none_apart (continues q) b e = absurd (let k : Some q ≡ None = e in cc)

-- The places of the first n tokens are in order.
abbrev pub AreInOrder : Places → ℕ → Type 0
AreInOrder P n = (i j : ℕ) → i ≤ j → j < n → IsNotBehind (P i) (P j)

-- No fault is before this place.
abbrev NoneBefore : Place → List ScriptFault → Type 0
NoneBefore p fs = All (λ g. IsNotBehind p (place_of_fault g)) fs

-- No fault is before the first one.
abbrev FirstIsLeast : List ScriptFault → Type 0
FirstIsLeast [] = Unit {0}
FirstIsLeast (f ∷ fs) = NoneBefore (place_of_fault f) (f ∷ fs)

of_first : (fs : List ScriptFault) (f : ScriptFault) → FirstIsLeast fs → first fs ≡ Some f → IsLeast f fs
of_first [] f h e = absurd (let k : None ≡ Some f = e in cc)
of_first (g ∷ fs) f h e = let k : Some g ≡ Some f = e in let same : g ≡ f = cc in subst (λ x. IsLeast x (g ∷ fs)) same (g_least h)
  where
    g_least : NoneBefore (place_of_fault g) (g ∷ fs) → IsLeast g (g ∷ fs)
    g_least l = record { one_of_them = (0, omega arith, refl); least = l }

module _ {P : Places} where
  -- Faults at marks that stand from the token c on.
  later : {ms : Marks} {a n : ℕ} (c : ℕ) → c ≤ a → Placed P ms a n → AreInOrder P n → (b : Before) → NoneBefore (P c) (faults b ms)
  unfolding faults
  later c h (placed_none l) o b = All-nil (λ g. IsNotBehind (P c) (place_of_fault g))
  later c h (placed_here {m = m} {ms = ms} k e l p) o b = by (one_here m b (P k) e) (later c (omega (arith, h, l)) p o (behind m b))
    where
      by : OneAt (fault_of m b) (P k) → NoneBefore (P c) (faults (behind m b) ms) → NoneBefore (P c) (fault_of m b ++ faults (behind m b) ms)
      by (inl none) rest = subst (λ fs. NoneBefore (P c) (fs ++ faults (behind m b) ms)) (sym none) rest
      by (inr (j, one)) rest = subst (λ fs. NoneBefore (P c) (fs ++ faults (behind m b) ms)) (sym one)
          (All-cons (λ g. IsNotBehind (P c) (place_of_fault g)) (fault_at (P k) j) (faults (behind m b) ms) (o c k (omega (arith, h, l)) (omega (arith, span p))) rest)
  later c h (placed_apart {m = m} {ms = ms} e p) o b = subst (λ fs. NoneBefore (P c) (fs ++ faults (behind m b) ms)) (sym (none_apart m b e)) (later c h p o (behind m b))

  first_least : {ms : Marks} {a n : ℕ} → Placed P ms a n → AreInOrder P n → (b : Before) → FirstIsLeast (faults b ms)
  unfolding faults
  first_least (placed_none l) o b = tt
  first_least (placed_here {m = m} {ms = ms} k e l p) o b = by (one_here m b (P k) e) (first_least p o (behind m b)) (later k (omega arith) p o (behind m b))
    where
      by : OneAt (fault_of m b) (P k) → FirstIsLeast (faults (behind m b) ms) → NoneBefore (P k) (faults (behind m b) ms) → FirstIsLeast (fault_of m b ++ faults (behind m b) ms)
      by (inl none) least rest = subst (λ fs. FirstIsLeast (fs ++ faults (behind m b) ms)) (sym none) least
      by (inr (j, one)) least rest = subst (λ fs. FirstIsLeast (fs ++ faults (behind m b) ms)) (sym one)
          (All-cons (λ g. IsNotBehind (P k) (place_of_fault g)) (fault_at (P k) j) (faults (behind m b) ms) (o k k (omega arith) (omega (arith, span p))) rest)
  first_least (placed_apart {m = m} {ms = ms} e p) o b = subst (λ fs. FirstIsLeast (fs ++ faults (behind m b) ms)) (sym (none_apart m b e)) (first_least p o (behind m b))

  -- Of a tree whose marks stand at places in order, the fault that is told is the least.
  pub placed-least : (tree : Tree) {n : ℕ} {f : ScriptFault} → Placed P (tree_marks tree) 0 n → AreInOrder P n → scope_fault tree ≡ Some f → IsLeast f (scope_faults tree)
  placed-least tree {f = f} p o e = of_first (scope_faults tree) f (first_least p o nothing) (sym (scope_fault-first tree) ∙ e)

-- `def x`, `break`, `def x`: the word is the first fault, the second name the second.
two_faults : (p q r : Place) → faults nothing (declares (record { name = codes "x"; place = p }) ∷ breaks q ∷ declares (record { name = codes "x"; place = r }) ∷ [])
    ≡ fault_at q BreakOutsideLoop ∷ fault_at r NameAlreadyDeclared ∷ []
unfolding faults is_among
two_faults p q r = refl
