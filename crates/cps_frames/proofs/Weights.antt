-- Each move lowers the weight of a thread.
use Rattle.std.proofs.Common.{◌≡◌, ◌∙◌, ℕ, zero, suc, ◌+◌, ◌-◌, ◌*◌, ◌^◌, ◌<◌, ◌≤◌, inl, inr, List, [], ◌∷◌, ◌++◌, length, sym, ap, subst, arith}
use Rattle.std.specs.List.{AllByRecursion as AllAre}
use Rattle.std.proofs.lemmas.Nat.{mul-le}
use Rattle.model_run.specs.declared.ending.Ending.{Ending}
use Rattle.model_run.specs.declared.ending.Entry.{Entry}
use Rattle.model_run.specs.declared.frame.Frame.{Frame}
use Rattle.model_run.specs.Terms.{Term, nodes_of}
use Rattle.model_run.specs.State.{Env}
use Rattle.cps_frames.specs.Standing.{Standing, room_of}
use Rattle.cps_frames.specs.Order.{rank, ranks}
use Rattle.cps_frames.specs.Moves.{How, Part, Again, Call, Placed, IsNear, IsNew, Comes, forked}
use Rattle.cps_frames.specs.Measure.{power, reach, frame_weight, frames_weight, move_weight, spending, budget, weight}
use Rattle.cps_frames.specs.declared.thread.Move.{Move}
use Rattle.cps_frames.specs.declared.thread.Move.TheVariants.{Ends, Hits, Enter, Asks}
use Rattle.cps_frames.proofs.MoveLaws.{Saying}

power_pos : (d : ℕ) → 1 ≤ power d
unfolding power
power_pos zero = omega arith
power_pos (suc d) = omega (arith, power_pos d)

power_grows : (a b : ℕ) → a ≤ b → power a ≤ power b
unfolding power
power_grows zero b h = power_pos b
power_grows (suc a) zero h = absurd (omega arith)
power_grows (suc a) (suc b) h = let q : power a ≤ power b = power_grows a b (omega arith) in omega (arith, q)

reach_falls : (root : Term) (j k : ℕ) → j ≤ k → reach root k ≤ reach root j
unfolding reach
reach_falls root j k h = power_grows _ _ (omega arith)

reach_step : (root : Term) (k : ℕ) → k < length (nodes_of root) → reach root k ≡ 2 ^ 70 * reach root (suc k)
unfolding reach power
reach_step root k lt = let e : length (nodes_of root) - k ≡ suc (length (nodes_of root) - suc k) = omega arith in ap power e

power_most : (n k d : ℕ) → n - k ≡ d → power (n - k) ≤ 2 ^ 70 * power (n - suc k)
unfolding power
power_most n k zero e =
    let one : power (n - k) ≡ 1 = ap power e in
    omega (arith, one, power_pos (n - suc k))
power_most n k (suc d) e =
    let less : n - suc k ≡ d = omega (arith, e) in
    let here : power (n - k) ≡ 2 ^ 70 * power d = ap power e in
    let behind : power (n - suc k) ≡ power d = ap power less in
    omega (arith, here, behind)

reach_most : (root : Term) (k : ℕ) → reach root k ≤ 2 ^ 70 * reach root (suc k)
unfolding reach
reach_most root k = power_most (length (nodes_of root)) k _ (λ i. length (nodes_of root) - k)

reach_pos : (root : Term) (j : ℕ) → 1 ≤ reach root j
unfolding reach
reach_pos root j = power_pos (length (nodes_of root) - j)

scale : (a b c : ℕ) → a ≤ b → a * c ≤ b * c
scale a b c h = mul-le a c b c h (omega arith)

distribute : (a b c : ℕ) → (a + b) * c ≡ a * c + b * c
distribute zero b c = omega arith
distribute (suc a) b c = let e : (a + b) * c ≡ a * c + b * c = distribute a b c in omega (arith, e)

ranks_weight : (root : Term) (k : ℕ) (fs : List Frame) → AllAre (IsNew k) fs → frames_weight root fs ≡ ranks fs * (reach root (suc k) + 2)
unfolding frame_weight
ranks_weight root k [] h = omega arith
ranks_weight root k (f ∷ fs) h =
    let here : rank f * (reach root (suc f.node) + 2) ≡ rank f * (reach root (suc k) + 2) = ap (λ j. rank f * (reach root (suc j) + 2)) h.0 in
    let rest : frames_weight root fs ≡ ranks fs * (reach root (suc k) + 2) = ranks_weight root k fs h.1 in
    let sum : (rank f + ranks fs) * (reach root (suc k) + 2) ≡ rank f * (reach root (suc k) + 2) + ranks fs * (reach root (suc k) + 2) = distribute (rank f) (ranks fs) (reach root (suc k) + 2) in
    omega (arith, here, rest, sum)

move_small : (root : Term) (m : Move) → move_weight root m ≤ reach root 0 + 1
move_small root (Ends e) = omega arith
move_small root (Hits l) = omega arith
move_small root (Enter e p env) = let h : reach root p ≤ reach root 0 = reach_falls root 0 p (omega arith) in omega (arith, h)
move_small root (Asks asked) = omega arith

-- a part weighs no more than what is behind its node
part_near : (root : Term) (k q : ℕ) → k < q → reach root q ≤ reach root (suc k)
part_near root k q b = reach_falls root (suc k) q (omega (arith, b))

-- new frames without a node, or with a part of their own
frames_lower : (n r weight below : ℕ) → weight ≤ below + 1 → n < r → n * (below + 2) + weight < r * (below + 2)
frames_lower n r weight below small lt =
    let f : suc n * (below + 2) ≤ r * (below + 2) = scale (suc n) r (below + 2) lt in
    omega (arith, f, small)

-- what is entered without a count, with n new frames that r bounds
near_lower : (root : Term) (k n r : ℕ) (how : How) (fs : List Frame) (m : Move) → Placed root k how fs m → IsNear n r how m → n < r → n * (reach root (suc k) + 2) + move_weight root m < r * (reach root (suc k) + 2)
near_lower root k n r how fs (Ends e) p near lt = frames_lower n r 0 (reach root (suc k)) (omega arith) lt
near_lower root k n r how fs (Hits l) p near lt = frames_lower n r 0 (reach root (suc k)) (omega arith) lt
near_lower root k n r how fs (Asks asked) p near lt = frames_lower n r 0 (reach root (suc k)) (omega arith) lt
near_lower root k n r (Part i) fs (Enter e q env) p near lt =
    let h : reach root q ≤ reach root (suc k) = part_near root k q (p.0).behind in
    frames_lower n r (reach root q + 1) (reach root (suc k)) (omega (arith, h)) lt
near_lower root k n r Again fs (Enter e q env) p near lt =
    let same : reach root q ≡ reach root k = ap (reach root) p.0 in
    let most : reach root k ≤ 2 ^ 70 * reach root (suc k) = reach_most root k in
    let f : (n + 2 ^ 71) * (reach root (suc k) + 2) ≤ r * (reach root (suc k) + 2) = scale (n + 2 ^ 71) r (reach root (suc k) + 2) near in
    let d : (n + 2 ^ 71) * (reach root (suc k) + 2) ≡ n * (reach root (suc k) + 2) + 2 ^ 71 * (reach root (suc k) + 2) = distribute n (2 ^ 71) (reach root (suc k) + 2) in
    omega (arith, same, most, f, d)
near_lower root k n r Call fs (Enter e q env) p near lt = absurd near

-- what a move at node k weighs, with the frames that it puts up
pub comes_lower : (root : Term) (k r : ℕ) (m : Saying) (u : Standing) (move : Move) (v : Standing) → root ≡ u.world.setting.script → (c : Comes k r m u move v) → budget root v.world + frames_weight root c.frames + move_weight root move < budget root u.world + r * (reach root (suc k) + 2)
unfolding budget spending
comes_lower root k r m u move v script c =
    let w : frames_weight root c.frames ≡ ranks c.frames * (reach root (suc k) + 2) = ranks_weight root k c.frames c.new in
    let top : reach root (suc k) ≤ reach root 0 = reach_falls root 0 (suc k) (omega arith) in
    let small : move_weight root move ≤ reach root 0 + 1 = move_small root move in
    let less : room_of v.world + forked move ≤ room_of u.world = c.less in
    elim c.falls [
      | inl q ↦
          let q0 : suc (room_of v.world) ≤ room_of u.world = q.0 in
          let q1 : ranks c.frames < 2 ^ 72 = q.1 in
          let spent : suc (room_of v.world) * (2 ^ 76 * (reach root 0 + 2)) ≤ room_of u.world * (2 ^ 76 * (reach root 0 + 2)) = scale _ _ _ q0 in
          let f : ranks c.frames * (reach root (suc k) + 2) ≤ 2 ^ 72 * (reach root 0 + 2) = mul-le (ranks c.frames) (reach root (suc k) + 2) (2 ^ 72) (reach root 0 + 2) (omega (arith, q1)) (omega (arith, top)) in
          omega (arith, spent, w, f, small)
      | inr q ↦
          let q1 : ranks c.frames < r = q.1 in
          let le : room_of v.world ≤ room_of u.world = omega (arith, less) in
          let kept : room_of v.world * (2 ^ 76 * (reach root 0 + 2)) ≤ room_of u.world * (2 ^ 76 * (reach root 0 + 2)) = scale _ _ _ le in
          let near : ranks c.frames * (reach root (suc k) + 2) + move_weight root move < r * (reach root (suc k) + 2) = near_lower root k (ranks c.frames) r c.how c.frames move (subst (λ t. Placed t k c.how c.frames move) (sym script) c.placed) q.0 q1 in
          omega (arith, kept, w, near)
    ]

frames_append : (root : Term) (fs gs : List Frame) → frames_weight root (fs ++ gs) ≡ frames_weight root fs + frames_weight root gs
frames_append root [] gs = omega arith
frames_append root (f ∷ fs) gs = let e : frames_weight root (fs ++ gs) ≡ frames_weight root fs + frames_weight root gs = frames_append root fs gs in omega (arith, e)

-- behind a frame that was taken off
pub ends_lower : (root : Term) (m : Saying) (u u' : Standing) (f : Frame) (e : Ending) (move : Move) (v : Standing) → root ≡ u.world.setting.script → u'.world ≡ u.world → u.stack ≡ u'.stack ++ f ∷ [] → Comes f.node (rank f) m u' move v → weight root v move < weight root u (Ends e)
unfolding frame_weight
ends_lower root m u u' f e move v script same at c =
    let low : budget root v.world + frames_weight root c.frames + move_weight root move < budget root u'.world + rank f * (reach root (suc f.node) + 2) = comes_lower root f.node (rank f) m u' move v (script ∙ ap (λ w. w.setting.script) (sym same)) c in
    let b : budget root u'.world ≡ budget root u.world = ap (budget root) same in
    let old : frames_weight root u.stack ≡ frames_weight root u'.stack + (rank f * (reach root (suc f.node) + 2) + 0) = ap (frames_weight root) at ∙ frames_append root u'.stack (f ∷ []) in
    let new : frames_weight root v.stack ≡ frames_weight root u'.stack + frames_weight root c.frames = ap (frames_weight root) c.pushed ∙ frames_append root u'.stack c.frames in
    omega (arith, low, b, old, new)

-- behind a node that was entered
pub enters_lower : (root : Term) (k : ℕ) (m : Saying) (u : Standing) (e : Entry) (env : Env) (move : Move) (v : Standing) → root ≡ u.world.setting.script → k < length (nodes_of root) → Comes k (2 ^ 66) m u move v → weight root v move < weight root u (Enter e k env)
enters_lower root k m u e env move v script lt c =
    let low : budget root v.world + frames_weight root c.frames + move_weight root move < budget root u.world + 2 ^ 66 * (reach root (suc k) + 2) = comes_lower root k (2 ^ 66) m u move v script c in
    let step : reach root k ≡ 2 ^ 70 * reach root (suc k) = reach_step root k lt in
    let pos : 1 ≤ reach root (suc k) = reach_pos root (suc k) in
    let new : frames_weight root v.stack ≡ frames_weight root u.stack + frames_weight root c.frames = ap (frames_weight root) c.pushed ∙ frames_append root u.stack c.frames in
    omega (arith, low, step, pos, new)
