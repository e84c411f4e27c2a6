use Rattle.std.proofs.Common.{◌∙◌, List, ℕ, ap, length, map, refl, subst, sym, arith}
use Rattle.std.specs.Prelude.{Err, codes}
use Rattle.std.proofs.lemmas.Result.{err_from_is_err_and}
use Rattle.std.specs.List.{All}
use Rattle.model_values.specs.declared.cell.Cell.{Cell}
use Rattle.model_run.specs.Around.{Around, Shape, position, value_at}
use Rattle.model_run.specs.FlowNodes.{end_branches}
use Rattle.model_run.specs.Nesting.{For_branches}
use Rattle.model_run.specs.State.{World}
use Rattle.model_run.specs.Steps.{after_parallel, first_failure, joined_as}
use Rattle.model_run.specs.declared.frame.FrameKind.TheVariants as kind
use Rattle.model_run.specs.declared.wait.BranchEnd.{BranchEnd}
use Rattle.cps_frames.specs.Moves.{ComesTo}
use Rattle.cps_frames.specs.Order.{rank}
use Rattle.cps_frames.specs.Places.{AnswersAt}
use Rattle.cps_frames.specs.Standing.{common_of, standing}
use Rattle.cps_frames.proofs.MoveLaws.{to_kind}
use Rattle.step_library.specs.Branches.{OutcomeBelow}
use Rattle.step_library.proofs.BranchLaws.{ends_below, no_branches_end, to_branches_end}
use Rattle.step_library.proofs.FrameFacts.{is_joined, joined_in, start_in}
use Rattle.step_library.proofs.StepMoves.{low_rank}
use Rattle.step_library.proofs.parallel.parallel_wait.Goals as goal

pub ends_of-ends-requires : goal.ends_of-ends-requires
ends_of-ends-requires c = is_joined (common_of c.args.shared.now) c.args.ending (joined_in (standing c.args.shared.now c.args.state.now) c.args.frame c.args.ending c.requires.may c.requires.kind)

pub number_at-start-requires : goal.number_at-start-requires
number_at-start-requires c = let s = start_in (standing c.args.shared.now c.args.state.now) c.args.frame c.args.ending kind.ParallelWait c.requires.may c.requires.kind (λ sh left env. refl) in record { within = omega (arith, s.many); natural = s.start }

pub joined-requires : goal.joined-requires
joined-requires c =
    let at : List BranchEnd → List Cell → Type 0 = λ ends h. All (λ b. OutcomeBelow (length h) b.end.outcome) ends in
    let ends = c.ends_of-ends.result in
    let there = ends_below (common_of c.args.shared.now) ends (subst (AnswersAt (common_of c.args.shared.now) For_branches) c.ends_of-ends.ensures (joined_in (standing c.args.shared.now c.args.state.now) c.args.frame c.args.ending c.requires.may c.requires.kind)) in
    subst (λ (xs : List BranchEnd). at xs c.end_branches.new.shared.heap.cells) (sym c.as_slice-2.ensures) (subst (at ends) (sym (ap (λ (w : World). w.shared.cells) c.in_ok-end_branches.ensures.made)) there)

pub returns-in_err-end_branches : goal.returns-in_err-end_branches
returns-in_err-end_branches c =
    let f = c.args.frame in
    let k = f.node in
    let r = rank f in
    let h = c.in_err-end_branches.field-0.0 in
    let u0 = standing c.args.shared.now c.args.state.now in
    let v = standing c.end_branches.new.shared c.end_branches.new.state in
    let ends = c.ends_of-ends.result in
    let go = λ (sh : Shape) (a : Around). joined_as ends (first_failure ends) in
    let heads = c.in_ok-heads.ensures ∙ ap (map (λ (b : BranchEnd). b.end.node)) c.as_slice.ensures in
    let p = err_from_is_err_and c.from_residual-in_err-end_branches.result c.from_residual-in_err-end_branches.ensures.1 in
    rw (p.1, p.2) (to_kind r f kind.ParallelWait c.args.ending u0 (Err h) v c.requires.kind
    (subst (λ e. ComesTo k r (λ sh a. after_parallel (position (value_at 0 f.values)) e) u0 (Err h) v) (sym c.ends_of-ends.ensures)
    (subst (λ (n : ℕ). ComesTo k r (λ sh a. end_branches (codes "parallel") n (map (λ b. b.end.node) ends) (joined_as ends (first_failure ends))) u0 (Err h) v) c.number_at-start.ensures.number
    (subst (λ (hs : List ℕ). ComesTo k r (λ sh a. end_branches (codes "parallel") c.number_at-start.result hs (joined_as ends (first_failure ends))) u0 (Err h) v) heads
    (no_branches_end k r (codes "parallel") c.number_at-start.result c.in_ok-heads.heads go h u0 v c.in_err-end_branches.ensures (low_rank f kind.ParallelWait c.requires.kind refl))))))

pub returns : goal.returns
returns c =
    let f = c.args.frame in
    let k = f.node in
    let r = rank f in
    let u0 = standing c.args.shared.now c.args.state.now in
    let u = standing c.end_branches.new.shared c.end_branches.new.state in
    let v = standing c.joined.new.shared c.end_branches.new.state in
    let ends = c.ends_of-ends.result in
    let go = λ (sh : Shape) (a : Around). joined_as ends (first_failure ends) in
    let heads = c.in_ok-heads.ensures ∙ ap (map (λ (b : BranchEnd). b.end.node)) c.as_slice.ensures in
    to_kind r f kind.ParallelWait c.args.ending _ _ _ c.requires.kind
    (subst (λ e. ComesTo k r (λ sh a. after_parallel (position (value_at 0 f.values)) e) u0 c.joined.result v) (sym c.ends_of-ends.ensures)
    (subst (λ (n : ℕ). ComesTo k r (λ sh a. end_branches (codes "parallel") n (map (λ b. b.end.node) ends) (joined_as ends (first_failure ends))) u0 c.joined.result v) c.number_at-start.ensures.number
    (subst (λ (hs : List ℕ). ComesTo k r (λ sh a. end_branches (codes "parallel") c.number_at-start.result hs (joined_as ends (first_failure ends))) u0 c.joined.result v) heads
    (to_branches_end k r (codes "parallel") c.number_at-start.result c.in_ok-heads.heads go u0 u _ _ c.in_ok-end_branches.ensures
    (subst (λ (xs : List BranchEnd). ComesTo k r (λ sh a. joined_as xs (first_failure xs)) u c.joined.result v) c.as_slice-2.ensures (c.joined.ensures c.end_branches.new.state k r (low_rank f kind.ParallelWait c.requires.kind refl)))))))
