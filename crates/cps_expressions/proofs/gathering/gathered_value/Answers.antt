use Rattle.std.proofs.Common.{arith, ◌≡◌, ◌∙◌, ◌∷◌, ◌++◌, ◌-◌, [], true, false, length, drop, take, refl, ap, sym, subst}
use Rattle.std.specs.Prelude.{zip, Ok, Err}
use Rattle.std.specs.List.{AllByRecursion as AllAre}
use Rattle.std.proofs.lemmas.List.Elements.{All-from_recursion}
use Rattle.std.proofs.lemmas.Result.{err_from_is_err_and}
use Rattle.indexmap.specs.IndexMap.{insert_all}
use Rattle.cell_heap.specs.Soundness.{ValueBelow}
use Rattle.model_values.specs.Cells.{new_map}
use Rattle.model_values.specs.Fitting.{There}
use Rattle.model_values.specs.Keys.{same_key}
use Rattle.model_values.specs.Limits.{product_limits}
use Rattle.model_run.specs.declared.ending.Ending.TheVariants.{Normal}
use Rattle.model_run.specs.Forms.{gather_all}
use Rattle.model_run.specs.Gathering.{keep_by, named_keys}
use Rattle.model_run.specs.Nesting.{shape_at}
use Rattle.model_run.specs.State.{operating}
use Rattle.cps_code.specs.Script.{script_of}
use Rattle.value_view.specs.Answers.{Answers}
use Rattle.cps_frames.specs.Halts.{halt_of}
use Rattle.cps_frames.specs.Moves.{ComesTo}
use Rattle.cps_frames.specs.Order.{rank}
use Rattle.cps_frames.specs.Standing.{standing}
use Rattle.cps_frames.proofs.MoveLaws.{done_answers, to_as, to_given, to_thrown}
use Rattle.cps_operators.proofs.OperandLaws.{rank_above, rank_pos}
use Rattle.cps_expressions.proofs.CountLaws.{kept_count, map_count}
use Rattle.cps_expressions.proofs.GatherLaws.{named_answer, named_last, to_kept}
use Rattle.cps_expressions.proofs.SoundLaws.{gathered_enters, map_made}
use Rattle.cps_expressions.proofs.ThereLaws.{all_below, all_drop, all_take, kept_there, more_there, named_there}
use Rattle.cps_expressions.proofs.gathering.gathered_value.Goals as goal

pub gather-requires-clause-kept : goal.gather-requires-clause-kept
gather-requires-clause-kept c = kept_there (standing c.args.shared.now c.args.state.now) c.args.frame c.args.value c.push.new.self c.requires.may c.requires.kind c.in_ok-push.ensures.pushed

pub gather-requires-clause-count : goal.gather-requires-clause-count
gather-requires-clause-count c = kept_count (standing c.args.shared.now c.args.state.now) c.args.frame (Normal c.args.value) c.args.value c.push.new.self c.requires.may c.requires.kind c.in_ok-push.ensures.pushed (sym c.if-not-closes_named.true ∙ c.closes_named.ensures)

pub returns-then-not-closes_named : goal.returns-then-not-closes_named
returns-then-not-closes_named c =
    let f = c.args.frame in
    to_kept f c.args.value c.push.new.self false (standing c.args.shared.now c.args.state.now) c.gather.result (standing c.gather.new.shared c.gather.new.state) c.requires.kind c.in_ok-push.ensures.pushed (sym c.if-not-closes_named.true ∙ c.closes_named.ensures) (c.gather.ensures (rank f) (rank_above f))

pub perform-requires : goal.perform-requires
perform-requires c =
    let f = c.args.frame in
    let ks = c.push.new.self in
    let sh = shape_at (script_of c.args.shared.now.code) f.node in
    let keys = named_keys sh.parts in
    let n = length ks - length keys in
    let u = standing c.args.shared.now c.args.state.now in
    let at : c.saturating_sub-before.result ≡ n = omega (arith, c.saturating_sub-before.ensures, c.len.ensures, c.named_count.ensures) in
    let es : c.in_ok-entries.entries ≡ insert_all same_key [] (zip keys (drop n ks)) = named_last keys c.in_ok-entries.entries c.as_slice.result.now ks c.saturating_sub-before.result n c.in_ok-entries.ensures c.as_slice.ensures at in
    let there = kept_there u f c.args.value ks c.requires.may c.requires.kind c.in_ok-push.ensures.pushed in
    let h = c.args.shared.now.heap.cells in
    All-from_recursion (λ e. ValueBelow (length h) e.1) c.in_ok-entries.entries (subst (λ es. AllAre (λ e. ValueBelow (length h) e.1) es) (sym es)
    (named_there (ValueBelow (length h)) keys (drop n ks) (all_drop (ValueBelow (length h)) n ks (all_below h ks there))))

pub returns-in_err-map : goal.returns-in_err-map
returns-in_err-map c =
    let f = c.args.frame in
    let ks = c.push.new.self in
    let sh = shape_at (script_of c.args.shared.now.code) f.node in
    let keys = named_keys sh.parts in
    let n = length ks - length keys in
    let u = standing c.args.shared.now c.args.state.now in
    let at : c.saturating_sub-before.result ≡ n = omega (arith, c.saturating_sub-before.ensures, c.len.ensures, c.named_count.ensures) in
    let es : c.in_ok-entries.entries ≡ insert_all same_key [] (zip keys (drop n ks)) = named_last keys c.in_ok-entries.entries c.as_slice.result.now ks c.saturating_sub-before.result n c.in_ok-entries.ensures c.as_slice.ensures at in
    let w = standing (record c.args.shared.now { heap = c.perform.new.heap }) c.args.state.now in
    let o = c.in_err-map.field-0.0 in
    let p = err_from_is_err_and c.from_residual-in_err-map.result c.from_residual-in_err-map.ensures.1 in
    rw (p.1, p.2) (to_kept f c.args.value ks true u (Err (halt_of o)) w c.requires.kind c.in_ok-push.ensures.pushed (sym c.if-not-closes_named.false ∙ c.closes_named.ensures)
    (to_as f.node (rank f) (λ sh a. keep_by true sh ks (gather_all a f.node sh f.env f.left)) (λ sh' a. operating (named_answer sh.parts ks) (λ map. gather_all a f.node sh' f.env f.left (take n ks ++ map ∷ []))) u (Err (halt_of o)) w (λ a rs. refl)
    (to_thrown f.node (rank f) (named_answer sh.parts ks) (λ map sh' a. gather_all a f.node sh' f.env f.left (take n ks ++ map ∷ [])) o u w
    (done_answers (named_answer sh.parts ks) c.args.shared.now.heap c.perform.new.heap u (Err o) w refl refl refl (record { parent = refl; heap = c.perform.ensures.leaves.follows }) (subst (λ x. Answers (new_map product_limits c.args.shared.now.heap.cells x) c.args.shared.now.heap c.perform.new.heap (Err o)) es c.in_err-map.ensures.answer)) (rank_pos f))))

pub gather-requires-2-clause-may : goal.gather-requires-2-clause-may
gather-requires-2-clause-may c =
    let f = c.args.frame in
    let ks = c.push.new.self in
    let sh = shape_at (script_of c.args.shared.now.code) f.node in
    let keys = named_keys sh.parts in
    let n = length ks - length keys in
    let u = standing c.args.shared.now c.args.state.now in
    let at : c.saturating_sub-before.result ≡ n = omega (arith, c.saturating_sub-before.ensures, c.len.ensures, c.named_count.ensures) in
    let es : c.in_ok-entries.entries ≡ insert_all same_key [] (zip keys (drop n ks)) = named_last keys c.in_ok-entries.entries c.as_slice.result.now ks c.saturating_sub-before.result n c.in_ok-entries.ensures c.as_slice.ensures at in
    let there = kept_there u f c.args.value ks c.requires.may c.requires.kind c.in_ok-push.ensures.pushed in
    let v = standing (record c.args.shared.now { heap = c.perform.new.heap }) c.args.state.now in
    let x = c.in_ok-map.map in
    let done = done_answers (named_answer sh.parts ks) c.args.shared.now.heap c.perform.new.heap u (Ok x) v refl refl refl (record { parent = refl; heap = c.perform.ensures.leaves.follows }) (ap (new_map product_limits c.args.shared.now.heap.cells) (sym es) ∙ c.in_ok-map.ensures.answer) in
    let made = map_made u v x f.node n f.env keys ks done there (gathered_enters u f (Normal c.args.value) c.requires.may c.requires.kind) in
    made.enters

pub gather-requires-2-clause-kept : goal.gather-requires-2-clause-kept
gather-requires-2-clause-kept c =
    let f = c.args.frame in
    let ks = c.push.new.self in
    let sh = shape_at (script_of c.args.shared.now.code) f.node in
    let keys = named_keys sh.parts in
    let n = length ks - length keys in
    let u = standing c.args.shared.now c.args.state.now in
    let at : c.saturating_sub-before.result ≡ n = omega (arith, c.saturating_sub-before.ensures, c.len.ensures, c.named_count.ensures) in
    let es : c.in_ok-entries.entries ≡ insert_all same_key [] (zip keys (drop n ks)) = named_last keys c.in_ok-entries.entries c.as_slice.result.now ks c.saturating_sub-before.result n c.in_ok-entries.ensures c.as_slice.ensures at in
    let there = kept_there u f c.args.value ks c.requires.may c.requires.kind c.in_ok-push.ensures.pushed in
    let v = standing (record c.args.shared.now { heap = c.perform.new.heap }) c.args.state.now in
    let x = c.in_ok-map.map in
    let done = done_answers (named_answer sh.parts ks) c.args.shared.now.heap c.perform.new.heap u (Ok x) v refl refl refl (record { parent = refl; heap = c.perform.ensures.leaves.follows }) (ap (new_map product_limits c.args.shared.now.heap.cells) (sym es) ∙ c.in_ok-map.ensures.answer) in
    let made = map_made u v x f.node n f.env keys ks done there (gathered_enters u f (Normal c.args.value) c.requires.may c.requires.kind) in
    let h = c.perform.new.heap.cells in
    let before = c.saturating_sub-before.result in
    subst (AllAre (There h)) (sym c.in_ok-kept.ensures) (more_there h (take before ks) x (all_take (There h) before ks (made.kept ks there)) made.there)

pub gather-requires-2-clause-count : goal.gather-requires-2-clause-count
gather-requires-2-clause-count c =
    let ks = c.push.new.self in
    let sh = shape_at (script_of c.args.shared.now.code) c.args.frame.node in
    let at : c.saturating_sub-before.result ≡ length ks - length (named_keys sh.parts) = omega (arith, c.saturating_sub-before.ensures, c.len.ensures, c.named_count.ensures) in
    map_count (standing c.args.shared.now c.args.state.now) c.args.frame (Normal c.args.value) c.args.value ks c.requires.may c.requires.kind c.in_ok-push.ensures.pushed c.in_ok-map.map c.in_ok-kept.kept (sym c.if-not-closes_named.false ∙ c.closes_named.ensures) (c.in_ok-kept.ensures ∙ ap (λ m. take m ks ++ c.in_ok-map.map ∷ []) at)

pub returns : goal.returns
returns c =
    let f = c.args.frame in
    let ks = c.push.new.self in
    let sh = shape_at (script_of c.args.shared.now.code) f.node in
    let keys = named_keys sh.parts in
    let n = length ks - length keys in
    let u = standing c.args.shared.now c.args.state.now in
    let at : c.saturating_sub-before.result ≡ n = omega (arith, c.saturating_sub-before.ensures, c.len.ensures, c.named_count.ensures) in
    let es : c.in_ok-entries.entries ≡ insert_all same_key [] (zip keys (drop n ks)) = named_last keys c.in_ok-entries.entries c.as_slice.result.now ks c.saturating_sub-before.result n c.in_ok-entries.ensures c.as_slice.ensures at in
    let v = standing (record c.args.shared.now { heap = c.perform.new.heap }) c.args.state.now in
    let x = c.in_ok-map.map in
    let done = done_answers (named_answer sh.parts ks) c.args.shared.now.heap c.perform.new.heap u (Ok x) v refl refl refl (record { parent = refl; heap = c.perform.ensures.leaves.follows }) (ap (new_map product_limits c.args.shared.now.heap.cells) (sym es) ∙ c.in_ok-map.ensures.answer) in
    let w = standing c.gather-2.new.shared c.gather-2.new.state in
    let kept : c.in_ok-kept.kept ≡ take n ks ++ x ∷ [] = c.in_ok-kept.ensures ∙ ap (λ m. take m ks ++ x ∷ []) at in
    to_kept f c.args.value ks true u c.gather-2.result w c.requires.kind c.in_ok-push.ensures.pushed (sym c.if-not-closes_named.false ∙ c.closes_named.ensures)
    (to_as f.node (rank f) (λ sh a. keep_by true sh ks (gather_all a f.node sh f.env f.left)) (λ sh' a. operating (named_answer sh.parts ks) (λ map. gather_all a f.node sh' f.env f.left (take n ks ++ map ∷ []))) u c.gather-2.result w (λ a rs. refl)
    (to_given f.node (rank f) (named_answer sh.parts ks) (λ map sh' a. gather_all a f.node sh' f.env f.left (take n ks ++ map ∷ [])) x u v c.gather-2.result w done
    (subst (λ xs. ComesTo f.node (rank f) (λ sh' a. gather_all a f.node sh' f.env f.left xs) v c.gather-2.result w) kept (c.gather-2.ensures (rank f) (rank_above f)))))
