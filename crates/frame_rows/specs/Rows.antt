-- The rows of the table of frames as the program has them (this product's own).
use Rattle.std.specs.Prelude.{◌≡◌, ℕ, suc, ◌+◌, ◌-◌, nat_eq, nat_lt, Bool, true, false, not, ◌&&◌, List, ◌∷◌, ◌++◌, map, Option, Some, None}
use Rattle.model_syntax.specs.declared.node.NodeForm.{NodeForm}
use Rattle.model_syntax.specs.declared.node.NodeForm.TheVariants as form
use Rattle.model_run.specs.declared.frame.FrameKind.{FrameKind}
use Rattle.model_run.specs.State.{Env}
use Rattle.model_run.specs.Around.{Shape, form_at, arity}
use Rattle.model_run.specs.Assignments.{operator_in, place_size}
use Rattle.model_run.specs.Calls.{walk_method}
use Rattle.model_run.specs.Statements.{has_finally}
use Rattle.model_run.specs.FrameTable as table
use Rattle.model_run.specs.FrameTable.{any_values, calls_step, count_of, current, frame_row, gathered_within, gathers, has_parts, is_arm, is_assignment, is_block, is_callable, is_catch, is_chain, is_choice, is_closure_form, is_computed, is_declaration, is_each, is_plain, is_target_form, is_walk, key_count, operator_count, same_form, suffixed_within, walk_further, walk_values}
use Rattle.frame_rows.specs.declared.row.Sort.{Sort}
use Rattle.frame_rows.specs.declared.row.Sort.TheVariants as sort
use Rattle.frame_rows.specs.declared.row.Further.{Further}
use Rattle.frame_rows.specs.declared.row.Further.TheVariants as further
use Rattle.frame_rows.specs.declared.row.Within.{Within}
use Rattle.frame_rows.specs.declared.row.Within.TheVariants as within
use Rattle.frame_rows.specs.declared.row.Row.{Row}
use Rattle.frame_rows.specs.declared.line.Stand.{Stand}
use Rattle.frame_rows.specs.declared.line.Stand.TheVariants as stand
use Rattle.frame_rows.specs.declared.line.Asks.{Asks}
use Rattle.frame_rows.specs.declared.line.Asks.TheVariants as asks
use Rattle.frame_rows.specs.declared.line.Place.{Place}
use Rattle.frame_rows.specs.declared.line.Place.TheVariants as place
use Rattle.frame_rows.specs.declared.line.Keeps.{Keeps}
use Rattle.frame_rows.specs.declared.line.Keeps.TheVariants as keeps
use Rattle.frame_rows.specs.declared.line.Inside.{Inside}
use Rattle.frame_rows.specs.declared.line.Inside.TheVariants as inside
use Rattle.frame_rows.specs.declared.line.Line.{Line}

-- a part that is missing is read as a block without statements
abbrev pub form_or_block : Option NodeForm → NodeForm
form_or_block None = form.Block
form_or_block (Some f) = f

-- the program's sorts, and what stands inside, as those of the table
abbrev pub sort_seen : Sort → table.Sort
sort_seen sort.Any = table.Any
sort_seen (sort.UpTo n) = table.Up_to n
sort_seen sort.Count = table.A_count
sort_seen sort.Flag = table.Flag
sort_seen sort.FlowNode = table.Flow_node
sort_seen sort.Closure = table.A_closure
sort_seen sort.Throwable = table.A_throwable
sort_seen sort.TextOrNull = table.Text_or_null

abbrev pub further_seen : Further → table.Further
further_seen further.None = table.No_more
further_seen further.One = table.One_more
further_seen further.Many = table.Any_more

abbrev pub within_seen : Within → table.Within
within_seen (within.Part i) = table.Part i
within_seen (within.Inner i j) = table.Inner i j
within_seen (within.Suffix i) = table.Suffix i
within_seen within.Called = table.Called
within_seen within.OwnBody = table.Own_body
within_seen within.Executor = table.Executor_wait
within_seen within.Task = table.Task_wait
within_seen within.Person = table.Person_wait
within_seen within.Branches = table.Branches_wait

-- a row of the program as one of the table
abbrev pub row_seen : Row → table.Row
row_seen r = record {
  stands = r.stands;
  told = r.told;
  limit = r.limit;
  done = r.done;
  values = any_values r.any ++ map sort_seen r.sorts.now;
  further = further_seen r.further;
  inside = within_seen r.inside;
}

-- What a line says: the nodes,
abbrev pub stands_at : Stand → Shape → Env → Bool
stands_at stand.Block sh env = is_block sh.form
stands_at stand.If sh env = same_form form.If sh.form
stands_at stand.While sh env = same_form form.While sh.form
stands_at stand.ForSteps sh env = same_form form.ForSteps sh.form
stands_at stand.ForEach sh env = is_each sh.form
stands_at stand.Try sh env = same_form form.Try sh.form
stands_at stand.Declaration sh env = is_declaration sh.form
stands_at stand.Target sh env = is_target_form sh.form
stands_at stand.Assignment sh env = is_assignment sh.form
stands_at stand.Return sh env = same_form form.Return sh.form
stands_at stand.Throw sh env = same_form form.Throw sh.form
stands_at stand.Gathering sh env = gathers sh.form
stands_at stand.Group sh env = same_form form.Group sh.form
stands_at stand.Chosen sh env = same_form form.Chosen sh.form
stands_at stand.Chain sh env = is_chain sh.form
stands_at stand.Joined sh env = same_form form.Joined sh.form
stands_at stand.Prefixed sh env = same_form form.Prefixed sh.form
stands_at stand.Suffixed sh env = same_form form.Suffixed sh.form
stands_at stand.Index sh env = same_form form.Index sh.form
stands_at stand.Callable sh env = is_callable sh.form
stands_at stand.Walk sh env = is_walk sh.form
stands_at stand.Closure sh env = is_closure_form sh.form
stands_at (stand.Call step) sh env = calls_step step sh.form env

-- their parts,
abbrev pub asked : Asks → Bool → Shape → ℕ → Bool
asked asks.Nothing b sh left = b
asked asks.Arm b sh left = b && is_arm (form_at sh.parts (current sh left))
asked asks.Catch b sh left = b && is_catch (form_at sh.parts (current sh left))
asked asks.Choice b sh left = b && is_choice (form_at sh.parts (current sh left))
asked asks.NoPlainText b sh left = b && not (is_plain (form_at sh.parts (current sh left)))
asked asks.Computed b sh left = b && is_computed (form_at sh.parts (current sh left))
asked asks.LastFinally b sh left = b && has_finally sh
asked asks.Parts b sh left = b && has_parts sh.parts
asked asks.TargetOf b sh left = b && nat_lt 0 (place_size (form_at sh.parts 0))
asked asks.TargetAt b sh left = b && nat_eq (place_size (form_at sh.parts 0)) 2

-- the places,
abbrev pub told_at : Place → Bool
told_at (place.At i) = false
told_at place.Last = false
told_at place.Behind = false
told_at place.Any = true
told_at place.Further = true
told_at place.OrFirst = true

abbrev pub limit_at : Place → Shape → ℕ
limit_at (place.At i) sh = 1
limit_at place.Last sh = 1
limit_at place.Behind sh = 1
limit_at place.Any sh = arity sh
limit_at place.Further sh = arity sh - 1
limit_at place.OrFirst sh = suc (arity sh - 1)

abbrev pub done_at : Place → Shape → ℕ → ℕ
done_at (place.At i) sh left = i
done_at place.Last sh left = arity sh - 1
done_at place.Behind sh left = arity sh
done_at place.Any sh left = current sh left
done_at place.Further sh left = current sh left
done_at place.OrFirst sh left = current sh left

-- the values,
abbrev pub kept_by : Keeps → Shape → ℕ → Env → List table.Sort
kept_by (keeps.Sorts xs) sh left env = map sort_seen xs.now
kept_by keeps.Target sh left env = any_values (place_size (form_at sh.parts 0) + operator_count (operator_in sh.form))
kept_by keeps.Gathered sh left env = any_values (count_of sh env (current sh left) + key_count (form_at sh.parts (current sh left)))
kept_by keeps.Before sh left env = any_values (count_of sh env (current sh left))
kept_by keeps.Walk sh left env = table.Any ∷ table.A_closure ∷ table.A_count ∷ walk_values (walk_method sh.form)

abbrev pub further_by : Keeps → Shape → table.Further
further_by (keeps.Sorts xs) sh = table.No_more
further_by keeps.Target sh = table.No_more
further_by keeps.Gathered sh = table.No_more
further_by keeps.Before sh = table.No_more
further_by keeps.Walk sh = walk_further (walk_method sh.form)

-- and what stands inside.
abbrev pub inside_by : Inside → Shape → ℕ → table.Within
inside_by (inside.Always w) sh left = within_seen w
inside_by inside.Current sh left = table.Part (current sh left)
inside_by inside.CurrentFirst sh left = table.Inner (current sh left) 0
inside_by inside.Last sh left = table.Part (arity sh - 1)
inside_by inside.LastFirst sh left = table.Inner (arity sh - 1) 0
inside_by inside.Gathered sh left = gathered_within (current sh left) (form_at sh.parts (current sh left))
inside_by inside.Suffixed sh left = suffixed_within (current sh left)

-- the row that a line gives
abbrev pub row_by : Line → Shape → ℕ → Env → table.Row
row_by l sh left env = record {
  stands = asked l.asks (stands_at l.stand sh env) sh left;
  told = told_at l.place;
  limit = limit_at l.place sh;
  done = done_at l.place sh left;
  values = kept_by l.keeps sh left env;
  further = further_by l.keeps sh;
  inside = inside_by l.inside sh left;
}

-- a line of a kind gives the rows of that kind
abbrev pub IsLine : FrameKind → Line → Type 0
IsLine k l = (sh : Shape) (left : ℕ) (env : Env) → row_by l sh left env ≡ frame_row k sh left env
