-- Where no test of a frame fails, it stands, and the other way round.
use Rattle.std.proofs.Common.{◌≡◌, ◌∙◌, ◌<◌, ◌-◌, ℕ, suc, Bool, true, false, List, length, Option, Some, None, refl, ap, arith}
use Rattle.std.specs.Prelude.{◌&&◌, ◌||◌, not, if◌then◌else◌, nat_eq, nat_lt, is_some, slice_get}
use Rattle.std.proofs.lemmas.Bool.{ltb-true, lt-ltb, eqb-true, eq-eqb}
use Rattle.model_run.specs.State.{Common}
use Rattle.model_run.specs.Nesting.{Spot, row_at, shape_at, spot_in}
use Rattle.model_run.specs.Scoping.{names_for}
use Rattle.model_run.specs.Around.{arity}
use Rattle.model_run.specs.FrameTable.{frame_row}
use Rattle.model_run.specs.declared.frame.FrameKind.TheVariants as kind
use Rattle.model_run.specs.Terms.{Term, Terms, no_terms, and_then, forms_of, nodes_of, parts_of, term_at}
use Rattle.cps_code.specs.Rows.{numbers_of, part_count}
use Rattle.image_form.specs.declared.image.ImageFrame.{ImageFrame}
use Rattle.frame_rows.specs.Kinds.{kinds}
use Rattle.frame_rows.proofs.SortLaws.{known_values, values_known}
use Rattle.script_names.specs.Given.{are_named}
use Rattle.script_names.specs.Variables.{are_variables}
use Rattle.script_names.proofs.NameLaws.{named, named_so, variables, variables_so}
use Rattle.image_frames.specs.Frames.{frame_fault, has_kind, has_node, has_place, has_row, has_values, may_stand_at, spot_inside, unless}
use Rattle.image_frames.specs.Leading.{stands_at}
use Rattle.image_frames.specs.Standings.{FrameStands, IsTold, frame_in, kind_of}
use Rattle.image_frames.specs.declared.fault.FrameFault.{FrameFault}
use Rattle.image_frames.specs.declared.fault.FrameFault.TheVariants as fault

pub left_true : (a b : Bool) → (a && b) ≡ true → a ≡ true
left_true true b e = refl
left_true false b e = absurd (cc e)

pub right_true : (a b : Bool) → (a && b) ≡ true → b ≡ true
right_true true b e = e
right_true false b e = absurd (cc e)

pub both_true : (a b : Bool) → a ≡ true → b ≡ true → (a && b) ≡ true
both_true a b e d = ap (λ x. x && b) e ∙ d

unless_none : (b : Bool) (f : FrameFault) (o : Option FrameFault) → unless b f o ≡ None → (b ≡ true) × (o ≡ None)
unless_none true f o e = (refl, e)
unless_none false f o e = absurd (cc e)

none_unless : (b : Bool) (f : FrameFault) (o : Option FrameFault) → b ≡ true → o ≡ None → unless b f o ≡ None
none_unless b f o e d = ap (λ c. unless c f o) e ∙ d

some_is : {A : Type 0} (o : Option A) → is_some o ≡ true → o ≡ None → ⊥
some_is None e d = cc e
some_is (Some x) e d = cc d

is_there : {A : Type 0} (o : Option A) → (o ≡ None → ⊥) → is_some o ≡ true
is_there None h = absurd (h refl)
is_there (Some x) h = refl

module _ (root : Term) (u : Common) (inside : Bool) (f : ImageFrame) where
  pub stands_where : frame_fault root u.cells (length u.nodes) inside f ≡ None → (inside ≡ true) × FrameStands root u f
  stands_where e =
      let values = has_values root u.cells (length u.nodes) f in
      let cells = are_variables u.cells f.env in
      let names = are_named (names_for root (frame_in root f)) f.env in
      let row = row_at root (frame_in root f) in
      let a = unless_none (has_kind f && inside) fault.Kind (unless (has_node root f) fault.Node (unless (has_place root f) fault.Place (unless values fault.Values (unless cells fault.Cell (unless names fault.Name None))))) e in
      let b = unless_none (has_node root f) fault.Node (unless (has_place root f) fault.Place (unless values fault.Values (unless cells fault.Cell (unless names fault.Name None)))) a.1 in
      let c = unless_none (has_place root f) fault.Place (unless values fault.Values (unless cells fault.Cell (unless names fault.Name None))) b.1 in
      let d = unless_none values fault.Values (unless cells fault.Cell (unless names fault.Name None)) c.1 in
      let g = unless_none cells fault.Cell (unless names fault.Name None) d.1 in
      let h = unless_none names fault.Name None g.1 in
      let there = nat_lt f.node (length (nodes_of root)) in
      let left = nat_lt (frame_in root f).left row.limit in
      let at = nat_eq f.at row.done in (
        right_true (has_kind f) inside a.0,
        record {
          told = (some_is (slice_get kinds f.kind) (left_true (has_kind f) inside a.0), eqb-true f.at row.done (right_true left at c.0));
          fits = record {
            node = ltb-true f.node (length (nodes_of root)) (left_true there row.stands b.0);
            meets = record {
              stands = right_true there row.stands b.0;
              left = ltb-true (frame_in root f).left row.limit (left_true left at c.0);
              values = values_known u row.further row.values f.values d.0;
            };
          };
          variables = record {
            names = named (names_for root (frame_in root f)) f.env h.0;
            variables = variables u.cells f.env g.0;
          };
        },
      )

  pub no_fault_where : inside ≡ true → FrameStands root u f → frame_fault root u.cells (length u.nodes) inside f ≡ None
  no_fault_where i s =
      let values = has_values root u.cells (length u.nodes) f in
      let cells = are_variables u.cells f.env in
      let names = are_named (names_for root (frame_in root f)) f.env in
      let row = row_at root (frame_in root f) in
      let there = nat_lt f.node (length (nodes_of root)) in
      let left = nat_lt (frame_in root f).left row.limit in
      let at = nat_eq f.at row.done in
      none_unless (has_kind f && inside) fault.Kind (unless (has_node root f) fault.Node (unless (has_place root f) fault.Place (unless values fault.Values (unless cells fault.Cell (unless names fault.Name None)))))
      (both_true (has_kind f) inside (is_there (slice_get kinds f.kind) s.told.0) i)
      (none_unless (has_node root f) fault.Node (unless (has_place root f) fault.Place (unless values fault.Values (unless cells fault.Cell (unless names fault.Name None))))
      (both_true there row.stands (lt-ltb f.node (length (nodes_of root)) s.fits.node) s.fits.meets.stands)
      (none_unless (has_place root f) fault.Place (unless values fault.Values (unless cells fault.Cell (unless names fault.Name None)))
      (both_true left at (lt-ltb (frame_in root f).left row.limit s.fits.meets.left) (eq-eqb f.at row.done s.told.1))
      (none_unless values fault.Values (unless cells fault.Cell (unless names fault.Name None)) (known_values u row.further row.values f.values s.fits.meets.values)
      (none_unless cells fault.Cell (unless names fault.Name None) (variables_so u.cells f.env s.variables.variables)
      (none_unless names fault.Name None (named_so (names_for root (frame_in root f)) f.env s.variables.names) refl)))))

-- such a frame has a row, and what may stand at a spot is told of it
pub row_there : (root : Term) (u : Common) (f : ImageFrame) → FrameStands root u f → has_row root f ≡ true
row_there root u f s =
    let row = row_at root (frame_in root f) in
    let there = nat_lt f.node (length (nodes_of root)) in
    let left = nat_lt (frame_in root f).left row.limit in
    both_true (has_kind f) (has_node root f && has_place root f) (is_there (slice_get kinds f.kind) s.told.0)
    (both_true (has_node root f) (has_place root f) (both_true there row.stands (lt-ltb f.node (length (nodes_of root)) s.fits.node) s.fits.meets.stands)
    (both_true left (nat_eq f.at row.done) (lt-ltb (frame_in root f).left row.limit s.fits.meets.left) (eq-eqb f.at row.done s.told.1)))

pub inside_there : (root : Term) (u : Common) (f : ImageFrame) → FrameStands root u f → spot_inside root f ≡ Some (spot_in root (frame_in root f))
inside_there root u f s = ap (λ b. if b then Some (spot_in root (frame_in root f)) else None) (row_there root u f s)

pub stands_told : (root : Term) (u : Common) (f : ImageFrame) → FrameStands root u f → (at : Spot) → may_stand_at root f at ≡ stands_at root (frame_in root f) at
stands_told root u f s at =
    let there = both_true (has_kind f) (nat_lt f.node (length (nodes_of root))) (is_there (slice_get kinds f.kind) s.told.0) (lt-ltb f.node (length (nodes_of root)) s.fits.node) in
    ap (λ b. not b || stands_at root (frame_in root f) at) there

-- a frame that has a row stands at a node of the script, and one of statements at one of its parts
pub node_of_row : (root : Term) (f : ImageFrame) → has_row root f ≡ true → f.node < length (nodes_of root)
node_of_row root f e =
    let there = nat_lt f.node (length (nodes_of root)) in
    let node = left_true (has_node root f) (has_place root f) (right_true (has_kind f) (has_node root f && has_place root f) e) in
    ltb-true f.node (length (nodes_of root)) (left_true there (row_at root (frame_in root f)).stands node)

parts_counted : (ps : Terms) → length (forms_of ps) ≡ length (numbers_of ps)
parts_counted no_terms = refl
parts_counted (and_then t ts) = ap suc (parts_counted ts)

pub part_of_row : (root : Term) (f : ImageFrame) → kind_of f.kind ≡ kind.Statement → has_row root f ≡ true → f.at < part_count root f.node
part_of_row root f is e =
    let row = row_at root (frame_in root f) in
    let sh = shape_at root f.node in
    let l = (frame_in root f).left in
    let place = right_true (has_node root f) (has_place root f) (right_true (has_kind f) (has_node root f && has_place root f) e) in
    let low : l < row.limit = ltb-true l row.limit (left_true (nat_lt l row.limit) (nat_eq f.at row.done) place) in
    let at : f.at ≡ row.done = eqb-true f.at row.done (right_true (nat_lt l row.limit) (nat_eq f.at row.done) place) in
    let limit_is : row.limit ≡ arity sh = ap (λ k. (frame_row k sh l f.env).limit) is in
    let done_is : row.done ≡ arity sh - suc l = ap (λ k. (frame_row k sh l f.env).done) is in
    let counted : arity sh ≡ part_count root f.node = parts_counted (parts_of (term_at root f.node)) in
    omega (arith, low, at, limit_is, done_is, counted)
