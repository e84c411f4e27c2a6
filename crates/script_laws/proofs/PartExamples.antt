-- What the table of parts refuses: forms in these rows are no parts of such a node.
use Rattle.std.proofs.Common.{◌≡◌, ℕ, Option, List, [], ◌∷◌, inl, inr}
use Rattle.model_syntax.specs.declared.node.NodeForm.TheVariants as form
use Rattle.script_laws.specs.NodeParts.{Stand, parts_asked}

nothing_left : {A : Type 0} (x : A) (xs : List A) → x ∷ xs ≡ [] → ⊥
nothing_left x xs e = absurd (cc)

-- `()` has an expression
empty_group : Stand (parts_asked form.Group) [] → ⊥
empty_group h = h

-- `while` has a test, and it is an expression
no_test : Stand (parts_asked form.While) (form.Block ∷ []) → ⊥
no_test h = absurd (cc)

-- an index has what is indexed before it
no_index : Stand (parts_asked form.ToIndex) (form.True ∷ []) → ⊥
no_index h = h.1

-- one value at most is returned
two_values : Stand (parts_asked form.Return) (form.True ∷ form.False ∷ []) → ⊥
two_values (inl h) = nothing_left form.True (form.False ∷ []) h
two_values (inr h) = nothing_left form.False [] h.1

-- a function stands at the top of a script alone
no_function_inside : (heads : Option (List (List ℕ))) (x : List ℕ) (names : List (List ℕ)) → Stand (parts_asked (form.Closure heads)) (form.Function x names ∷ []) → ⊥
no_function_inside heads x names h = absurd (cc)

-- a declaration is no third part of a `for`
no_third_declaration : (x : List ℕ) → Stand (parts_asked form.ForSteps) (form.Increment ∷ form.True ∷ form.Declare x ∷ form.Block ∷ []) → ⊥
no_third_declaration x h = absurd (cc)
