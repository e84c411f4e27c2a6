-- Parts in a row: each a well-formed node of the kind that is asked for.
use Rattle.std.proofs.Common.{◌≡◌, refl, ap, subst, Bool, true, List, [], ◌∷◌, ◌++◌, map, inl, inr}
use Rattle.std.proofs.lemmas.List.{append-nil}
use Rattle.std.specs.List.{AllByRecursion as AllAre}
use Rattle.model_syntax.specs.declared.node.NodeForm.{NodeForm}
use Rattle.model_syntax.specs.Nodes.{Node, node, nodes}
use Rattle.script_laws.specs.NodeParts.{Slot, One, Optional, Any_number, parts_asked, Stand, node_form, part_forms, WellFormed, AllWellFormed}

-- a well-formed node of this kind
pub record Is (test : NodeForm → Bool) (p : Node) : Type 0 where
  pub kind : test (node_form p) ≡ true
  pub whole : WellFormed p

-- well-formed nodes that are what is asked for
pub record Row (slots : List Slot) (ps : List Node) : Type 0 where
  pub stand : Stand slots (part_forms (nodes ps))
  pub whole : AllWellFormed (nodes ps)

pub made : (test : NodeForm → Bool) (f : NodeForm) (ps : List Node) → test f ≡ true → Row (parts_asked f) ps → Is test (node f (nodes ps))
made test f ps e h = record { kind = e; whole = (h.stand, h.whole) }

pub stronger : (test test' : NodeForm → Bool) → ((f : NodeForm) → test f ≡ true → test' f ≡ true) → (p : Node) → Is test p → Is test' p
stronger test test' h p i = record { kind = h (node_form p) i.kind; whole = i.whole }

pub row_ends : Row [] []
row_ends = record { stand = refl; whole = tt }

pub row_one : {test : NodeForm → Bool} {slots : List Slot} {ps : List Node} {p : Node} → Is test p → Row slots ps → Row (One test ∷ slots) (p ∷ ps)
row_one i h = record { stand = (i.kind, h.stand); whole = (i.whole, h.whole) }

pub row_absent : {test : NodeForm → Bool} {slots : List Slot} {ps : List Node} → Row slots ps → Row (Optional test ∷ slots) ps
row_absent h = record { stand = inl h.stand; whole = h.whole }

pub row_present : {test : NodeForm → Bool} {slots : List Slot} {ps : List Node} {p : Node} → Is test p → Row slots ps → Row (Optional test ∷ slots) (p ∷ ps)
row_present i h = record { stand = inr (i.kind, h.stand); whole = (i.whole, h.whole) }

one_more : (test : NodeForm → Bool) (slots : List Slot) (p : Node) (qs : List Node) → Is test p → Row (Any_number test ∷ slots) qs → Row (Any_number test ∷ slots) (p ∷ qs)
one_more test slots p qs i h = record {
  stand = record { these = node_form p ∷ (h.stand).these; rest = (h.stand).rest; split = ap (λ fs. node_form p ∷ fs) (h.stand).split; kind = (i.kind, (h.stand).kind); behind = (h.stand).behind };
  whole = (i.whole, h.whole);
}

pub row_some : (test : NodeForm → Bool) (slots : List Slot) (ps qs : List Node) → AllAre (Is test) ps → Row slots qs → Row (Any_number test ∷ slots) (ps ++ qs)
row_some test slots [] qs all h = record { stand = record { these = []; rest = part_forms (nodes qs); split = refl; kind = tt; behind = h.stand }; whole = h.whole }
row_some test slots (p ∷ ps) qs all h = one_more test slots p (ps ++ qs) all.0 (row_some test slots ps qs all.1 h)

pub row_any : (test : NodeForm → Bool) (ps : List Node) → AllAre (Is test) ps → Row (Any_number test ∷ []) ps
row_any test ps all = subst (Row (Any_number test ∷ [])) (append-nil ps) (row_some test [] ps [] all row_ends)

-- a part of a tree, with what is known of it
abbrev pub Beside : (X : Type 0) → (X → Type 0) → Type 0
Beside X P = (x : X) × P x

abbrev pub beside : {X : Type 0} {P : X → Type 0} → Beside X P → X
beside e = e.0

pub all_beside : {X : Type 0} (P : X → Type 0) (node_of : X → Node) (test : NodeForm → Bool) → ((x : X) → P x → Is test (node_of x)) → (xs : List (Beside X P)) → AllAre (Is test) (map node_of (map beside xs))
all_beside P node_of test h [] = tt
all_beside P node_of test h (e ∷ xs) = (h e.0 e.1, all_beside P node_of test h xs)
