-- A node that may go on where a value was kept or a map was made.
use Rattle.std.proofs.Common.{◌≡◌, ℕ, List, [], drop, refl, sym, subst}
use Rattle.std.specs.Prelude.{zip, Ok}
use Rattle.std.specs.List.{AllByRecursion as AllAre}
use Rattle.indexmap.specs.IndexMap.{insert_all}
use Rattle.model_values.specs.Cells.{Gives, new_map}
use Rattle.model_values.specs.Fitting.{HasMap, IsIn, There}
use Rattle.model_values.specs.Keys.{same_key}
use Rattle.model_values.specs.Later.{AnswerGrows, Given}
use Rattle.model_values.specs.declared.cell.Cell.{Cell}
use Rattle.model_values.specs.declared.key.Key.{Key}
use Rattle.model_values.specs.declared.value.Value.{Value}
use Rattle.model_values.proofs.CellGrowth.{map_there, new_map_grows}
use Rattle.model_run.specs.declared.ending.Ending.{Ending}
use Rattle.model_run.specs.declared.ending.Entry.TheVariants.{First, On}
use Rattle.model_run.specs.declared.frame.Frame.{Frame}
use Rattle.model_run.specs.declared.frame.FrameKind.TheVariants as kind
use Rattle.model_run.specs.Around.{cells, limits}
use Rattle.model_run.specs.Fitting.{EnvFits, closure_rule}
use Rattle.model_run.specs.Nesting.{shape_at}
use Rattle.model_run.specs.Scoping.{frame_names, names_at}
use Rattle.model_run.specs.State.{Env, World, put_cells}
use Rattle.model_run.proofs.LaterLaws.{env_later}
use Rattle.run_laws.specs.Evaluation.{based}
use Rattle.run_laws.specs.Soundness.{Base, Open}
use Rattle.run_laws.proofs.Flow.{Moves, all_there_then, moves_cells}
use Rattle.run_laws.proofs.SoundAssignments.{before_of}
use Rattle.cps_frames.specs.Changes.{Done}
use Rattle.cps_frames.specs.Places.{MayEnter, MayGoOn}
use Rattle.cps_frames.specs.Standing.{Standing}
use Rattle.cps_expressions.proofs.ThereLaws.{all_drop, named_there}

-- a frame of its own variables stands at a node that may be entered
pub gathered_enters : (u : Standing) (f : Frame) (e : Ending) → MayGoOn u f e → f.kind ≡ kind.Gathered → MayEnter u First f.node f.env
gathered_enters u f e may is = record {
  script = may.script;
  sound = may.sound;
  node = ((may.frame).fits).node;
  entry = λ plain. subst (λ d. EnvFits u.world.shared.cells (frame_names d (shape_at u.world.setting.script f.node) f.left (names_at u.world.setting.script f.node)) f.env) is (may.frame).names;
  executors = may.executors;
  holds = may.holds;
  enough = may.enough;
}

-- what is entered on a value may be entered
pub on_enters : (u : Standing) (v : Value) (k : ℕ) (env : Env) → MayEnter u (On v) k env → MayEnter u First k env
on_enters u v k env may = record { script = may.script; sound = may.sound; node = may.node; entry = (may.entry).1; executors = may.executors; holds = may.holds; enough = may.enough }

nothing : Open
nothing = record { nodes = []; folders = 0; was = []; gone = [] }

-- a map was made of values that are there
pub record Made (u v : Standing) (x : Value) (k : ℕ) (env : Env) : Type 0 where
  pub enters : MayEnter v First k env
  pub there : There v.world.shared.cells x
  pub kept : (vs : List Value) → AllAre (There u.world.shared.cells) vs → AllAre (There v.world.shared.cells) vs

pub map_made : (u v : Standing) (x : Value) (k n : ℕ) (env : Env) (ks : List Key) (vs : List Value) → Done (λ w. new_map (limits w) (cells w) (insert_all same_key [] (zip ks (drop n vs)))) u (Ok x) v → AllAre (There u.world.shared.cells) vs → MayEnter u First k env → Made u v x k env
map_made u v x k n env ks vs d there may =
    let w : World = u.world in
    let g : Base = based w.setting nothing in
    let h : List Cell = v.world.shared.cells in
    let es : List (Key × Value) = insert_all same_key [] (zip ks (drop n vs)) in
    let grows : AnswerGrows (limits w) (closure_rule g.script) (cells w) (Given (closure_rule g.script) (cells w) vs) (IsIn HasMap) (Gives h x) =
    subst (AnswerGrows (limits w) (closure_rule g.script) (cells w) (Given (closure_rule g.script) (cells w) vs) (IsIn HasMap)) d.answers
    (new_map_grows (before_of g w vs) es (λ given. named_there (There (cells w)) ks (drop n vs) (all_drop (There (cells w)) n vs given.1))) in
    let fits = grows.fits ((may.sound).cells, there) in
    let m : Moves g (put_cells h) w = moves_cells g w may.sound (Given (closure_rule g.script) (cells w) vs) (IsIn HasMap h x) h grows fits.0 in
    record {
      enters = subst (λ y. MayEnter (record { world = y; stack = v.stack; parent = v.parent; heap = v.heap }) First k env) (sym d.world) (record {
        script = may.script;
        sound = record { setting = refl; narrow = (may.sound).narrow; cells = m.cells; binding = m.binding; head = m.head; bounds = m.bounds };
        node = may.node;
        entry = λ plain. env_later w.shared (put_cells h w).shared m.later (names_at w.setting.script k) env (may.entry plain);
        executors = may.executors;
        holds = may.holds;
        enough = may.enough;
      });
      there = map_there h x fits.1;
      kept = λ ws a. all_there_then w.shared (put_cells h w).shared m.later ws a;
    }
