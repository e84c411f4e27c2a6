-- What a walk adds to a table are the rows of the nodes that it walks.
use Rattle.std.proofs.Common.{◌≡◌, ◌∙◌, ℕ, suc, ◌+◌, List, [], ◌∷◌, ◌++◌, length, length-append, append_assoc, map, Some, slice_get, refl, ap, ap₂, sym, arith}
use Rattle.std.proofs.Math.Seq.{get_or-append_seam, set-append_seam}
use Rattle.std.proofs.lemmas.List.{append-nil, map-append, length-map}
use Rattle.std.proofs.lemmas.Option.{slice_get-get_or}
use Rattle.model_syntax.specs.declared.node.NodeForm.{NodeForm}
use Rattle.model_syntax.specs.Nodes.{Node, Nodes, node, none, more, size}
use Rattle.model_run.specs.Terms.{term, terms, nodes_of, nodes_of_all, number_of}
use Rattle.model_run.proofs.Found.{size_of}
use Rattle.cps_code.specs.declared.row.Row.{Row}
use Rattle.cps_code.specs.Rows.{numbers_of, row_of, rows_of}
use Rattle.cps_code.specs.Walk.{new_row, with_part, linked_at, linked, opened, added, added_all}

abbrev with_parts : List ℕ → Row → Row
with_parts ns r = record r { parts = r.parts ++ ns }

abbrev rows_from : ℕ → Nodes → List Row
rows_from k ps = map row_of (nodes_of_all (terms k ps))

seam_length : (pre post : List Row) (r : Row) → length (pre ++ r ∷ post) ≡ length pre + suc (length post)
seam_length pre post r = length-append pre (r ∷ post)

seam_get : (pre post : List Row) (r : Row) → slice_get (pre ++ r ∷ post) (length pre) ≡ Some r
seam_get pre post r =
    slice_get-get_or (pre ++ r ∷ post) (length pre) r (omega (arith, seam_length pre post r))
    ∙ ap Some (get_or-append_seam pre r post r)

linked_is : (n : ℕ) (pre post : List Row) (r : Row) → linked (length pre) n (pre ++ r ∷ post) ≡ pre ++ with_part n r ∷ post
linked_is n pre post r =
    ap (linked_at (length pre) n (pre ++ r ∷ post)) (seam_get pre post r)
    ∙ set-append_seam pre r post (with_part n r)

number_is : (n : ℕ) (p : Node) → number_of (term n p) ≡ n
number_is n (node f ps) = refl

mutual
  unfolding added added_all

  added_is : (p : Node) (pre post : List Row) (r : Row) (n : ℕ) → n ≡ length (pre ++ r ∷ post)
      → added (length pre) p (pre ++ r ∷ post) ≡ pre ++ with_part n r ∷ (post ++ rows_of (term n p))
  added_is (node f ps) pre post r n count =
      let rows : List Row = pre ++ r ∷ post in
      let before : List Row = pre ++ with_part n r ∷ post in
      let same : length rows ≡ length before = seam_length pre post r ∙ sym (seam_length pre post (with_part n r)) in
      let begun : opened (length pre) f rows ≡ before ++ new_row f ∷ [] =
      ap (λ (m : ℕ). linked (length pre) m rows ++ new_row f ∷ []) (sym count) ∙ ap (λ (rs : List Row). rs ++ new_row f ∷ []) (linked_is n pre post r) in
      let next : suc n ≡ length (before ++ new_row f ∷ []) = omega (arith, count, same, length-append before (new_row f ∷ [])) in
      ap₂ (λ (m : ℕ) (rs : List Row). added_all m ps rs) same begun
      ∙ added_all_is ps before [] (new_row f) (suc n) next
      ∙ append_assoc pre (with_part n r ∷ post) (rows_of (term n (node f ps)))

  added_all_is : (ps : Nodes) (pre post : List Row) (r : Row) (n : ℕ) → n ≡ length (pre ++ r ∷ post)
      → added_all (length pre) ps (pre ++ r ∷ post) ≡ pre ++ with_parts (numbers_of (terms n ps)) r ∷ (post ++ rows_from n ps)
  added_all_is none pre post r n count =
      let parts : r ≡ with_parts [] r = ap (λ (ns : List ℕ). record r { parts = ns }) (sym (append-nil r.parts)) in
      ap₂ (λ (x : Row) (xs : List Row). pre ++ x ∷ xs) parts (sym (append-nil post))
  added_all_is (more p ps) pre post r n count =
      let behind : List Row = post ++ rows_of (term n p) in
      let m : ℕ = n + size p in
      let len : length (rows_of (term n p)) ≡ size p = length-map (nodes_of (term n p)) row_of ∙ size_of n p in
      let next : m ≡ length (pre ++ with_part n r ∷ behind) =
      omega (arith, count, len, seam_length pre post r, seam_length pre behind (with_part n r), length-append post (rows_of (term n p))) in
      let parts : with_parts (numbers_of (terms m ps)) (with_part n r) ≡ with_parts (numbers_of (terms n (more p ps))) r =
      ap (λ (ns : List ℕ). record r { parts = ns }) (append_assoc r.parts (n ∷ []) (numbers_of (terms m ps)))
      ∙ ap (λ (k : ℕ). record r { parts = r.parts ++ k ∷ numbers_of (terms m ps) }) (sym (number_is n p)) in
      let rest : behind ++ rows_from m ps ≡ post ++ rows_from n (more p ps) =
      append_assoc post (rows_of (term n p)) (rows_from m ps)
      ∙ ap (λ (xs : List Row). post ++ xs) (sym (map-append row_of (nodes_of (term n p)) (nodes_of_all (terms m ps)))) in
      ap (λ (rs : List Row). added_all (length pre) ps rs) (added_is p pre post r n count)
      ∙ added_all_is ps pre behind (with_part n r) m next
      ∙ ap₂ (λ (x : Row) (xs : List Row). pre ++ x ∷ xs) parts rest

-- A walk through the parts of the first node makes its table.
pub table_is : (f : NodeForm) (ps : Nodes) → added_all 0 ps (new_row f ∷ []) ≡ rows_of (term 0 (node f ps))
table_is f ps = added_all_is ps [] [] (new_row f) 1 refl
