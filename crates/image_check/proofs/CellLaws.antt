-- Where no test of the cells fails, they are those of a sound build, and the other way round.
use Rattle.std.proofs.Common.{◌≡◌, ◌<◌, ◌≤◌, ℕ, suc, true, List, [], ◌∷◌, length, Option, Some, None, refl}
use Rattle.std.specs.Prelude.{nat_lt, ◌&&◌, slice_get}
use Rattle.std.specs.List.{AllByRecursion as AllAre}
use Rattle.model_values.specs.declared.cell.Cell.{Cell}
use Rattle.model_values.specs.declared.cell.Cell.TheVariants as cell
use Rattle.model_values.specs.declared.key.Key.{Key}
use Rattle.model_values.specs.declared.value.Value.{Value}
use Rattle.model_values.specs.declared.value.Value.TheVariants.{Cell as InCell}
use Rattle.model_values.specs.Cells.{cell_size, heap_bytes}
use Rattle.model_values.specs.Fitting.{CellFits, CellsFit, HasVariable, There}
use Rattle.model_run.specs.State.{Env}
use Rattle.model_run.specs.FrameTable.{is_closure_form}
use Rattle.model_run.specs.Fitting.{closure_rule}
use Rattle.model_run.specs.Nesting.{shape_at}
use Rattle.model_run.specs.Scoping.{names_at, names_of}
use Rattle.model_run.specs.Terms.{Term, nodes_of}
use Rattle.script_names.specs.Given.{are_named}
use Rattle.script_names.specs.Variables.{are_variables}
use Rattle.script_names.proofs.NameLaws.{named, named_so, variables, variables_so}
use Rattle.image_check.specs.declared.finding.CheckKind.TheVariants as check
use Rattle.image_check.specs.Findings.{outside}
use Rattle.image_check.specs.Scans.{need, ◌then◌, each}
use Rattle.image_check.specs.Cells.{are_few, are_small, are_there, cell_fault, cells_fault, entries_there, has_closure, is_closure_at, is_short, is_there, names_there, sees_names}
use Rattle.image_check.proofs.Testing.{Tests, Passes, both, alike, at_most, flag, less, needed, after, alike_passes}

pub there : (h : List Cell) (v : Value) → Tests (is_there h v) (There h v)
there h (InCell c) = less c (length h)
there h v = record { holds = λ e. tt; told = λ h. refl }

all_there : (h : List Cell) (vs : List Value) → Tests (are_there h vs) (AllAre (There h) vs)
all_there h [] = record { holds = λ e. tt; told = λ h. refl }
all_there h (v ∷ vs) = both (is_there h v) (are_there h vs) (there h v) (all_there h vs)

values_there : (h : List Cell) (es : List (Key × Value)) → Tests (entries_there h es) (AllAre (λ e. There h e.1) es)
values_there h [] = record { holds = λ e. tt; told = λ h. refl }
values_there h (e ∷ es) = both (is_there h e.1) (entries_there h es) (there h e.1) (values_there h es)

pub names : (h : List Cell) (env : Env) → Tests (are_variables h env) (AllAre (λ b. HasVariable (slice_get h b.cell)) env)
names h env = record { holds = variables h env; told = variables_so h env }

pub seen : (root : Term) (k : ℕ) (env : Env) → Tests (are_named (names_at root k) env) (names_of env ≡ names_at root k)
seen root k env = record { holds = named (names_at root k) env; told = named_so (names_at root k) env }

closure : (root : Term) (k : ℕ) → Tests (is_closure_at root k) ((k < length (nodes_of root)) × (is_closure_form (shape_at root k).form ≡ true))
closure root k = both (nat_lt k (length (nodes_of root))) (is_closure_form (shape_at root k).form) (less k (length (nodes_of root))) (flag (is_closure_form (shape_at root k).form))

-- the three tests of what a cell names
names_fit : (root : Term) (h : List Cell) (c : Cell) → Tests (has_closure root c && (names_there h c && sees_names root c)) (CellFits (closure_rule root) h c)
names_fit root h (cell.Closure k env) =
    alike (is_closure_at root k && (are_variables h env && are_named (names_at root k) env))
    (both (is_closure_at root k) (are_variables h env && are_named (names_at root k) env) (closure root k) (both (are_variables h env) (are_named (names_at root k) env) (names h env) (seen root k env)))
    (λ t. ((t.0.0, t.0.1, t.1.1), t.1.0))
    (λ t. ((t.0.0, t.0.1), (t.1, t.0.2)))
names_fit root h (cell.Variable v) = alike (is_there h v && true) (both (is_there h v) true (there h v) (flag true)) (λ t. t.0) (λ t. (t, refl))
names_fit root h (cell.List vs) = alike (are_there h vs && true) (both (are_there h vs) true (all_there h vs) (flag true)) (λ t. t.0) (λ t. (t, refl))
names_fit root h (cell.Map es) = alike (entries_there h es && true) (both (entries_there h es) true (values_there h es) (flag true)) (λ t. t.0) (λ t. (t, refl))
names_fit root h (cell.Text t) = record { holds = λ e. tt; told = λ h. refl }
names_fit root h (cell.Thrown class message) = record { holds = λ e. tt; told = λ h. refl }

abbrev CellStands : Term → List Cell → Cell → Type 0
CellStands root h c = CellFits (closure_rule root) h c × (cell_size c < 2147483648)

one : (root : Term) (h : List Cell) (place : ℕ) (before : Option Cell) (c : Cell) → Passes (cell_fault root h place before c) (CellStands root h c)
one root h place before c =
    let fit = names_fit root h c in
    let a = has_closure root c in
    let s = is_short c in
    let t = names_there h c in
    let n = sees_names root c in
    let parts = both a (t && n) (flag a) (both t n (flag t) (flag n)) in
    alike_passes (cell_fault root h place before c)
    (after (need a (outside check.Node)) (need s (outside check.Values) then (need t (outside check.MissingCell) then need n (outside check.Name))) (needed a (outside check.Node) (flag a))
    (after (need s (outside check.Values)) (need t (outside check.MissingCell) then need n (outside check.Name)) (needed s (outside check.Values) (less (cell_size c) 2147483648))
    (after (need t (outside check.MissingCell)) (need n (outside check.Name)) (needed t (outside check.MissingCell) (flag t)) (needed n (outside check.Name) (flag n)))))
    (λ g. (fit.holds (parts.told (g.0, (g.1.1.0, g.1.1.1))), g.1.0))
    (λ g. (let p = parts.holds (fit.told g.0) in (p.0, (g.1, (p.1.0, p.1.1)))))

every : (root : Term) (h : List Cell) (place : ℕ) (before : Option Cell) (cs : List Cell) → Passes (each (cell_fault root h) place before cs) (AllAre (CellFits (closure_rule root) h) cs × AllAre (λ c. cell_size c < 2147483648) cs)
every root h place before [] = record { holds = λ e. (tt, tt); told = λ h. refl }
every root h place before (c ∷ cs) =
    alike_passes (each (cell_fault root h) place before (c ∷ cs)) (after (cell_fault root h place before c) (each (cell_fault root h) (suc place) (Some c) cs) (one root h place before c) (every root h (suc place) (Some c) cs))
    (λ g. ((g.0.0, g.1.0), (g.0.1, g.1.1)))
    (λ g. ((g.0.0, g.1.0), (g.0.1, g.1.1)))

-- what the tests of the cells say
pub record CellsStand (root : Term) (h : List Cell) : Type 0 where
  pub few : length h < 4294967296
  pub cells : CellsFit (closure_rule root) h
  pub short : AllAre (λ c. cell_size c < 2147483648) h
  pub few_bytes : heap_bytes h ≤ 4611686018427387904

pub cells_stand : (root : Term) (h : List Cell) → Passes (cells_fault root h) (CellsStand root h)
cells_stand root h =
    alike_passes (cells_fault root h)
    (after (need (are_few h) (outside check.MissingCell)) (each (cell_fault root h) 0 None h then need (are_small h) (outside check.Values)) (needed (are_few h) (outside check.MissingCell) (less (length h) 4294967296))
    (after (each (cell_fault root h) 0 None h) (need (are_small h) (outside check.Values)) (every root h 0 None h) (needed (are_small h) (outside check.Values) (at_most (heap_bytes h) 4611686018427387904))))
    (λ g. record { few = g.0; cells = g.1.0.0; short = g.1.0.1; few_bytes = g.1.1 })
    (λ g. (g.few, ((g.cells, g.short), g.few_bytes)))
