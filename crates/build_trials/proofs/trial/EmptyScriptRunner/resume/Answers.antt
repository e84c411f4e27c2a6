use Rattle.std.proofs.Common.{◌≡◌, ◌∙◌, ℕ, Option, None, true, false, refl, sym, ap}
use Rattle.build_trials.specs.declared.trial.EmptyScript.{EmptyScript}
use Rattle.build_trials.specs.EmptyScripts.{stance_of, begun_sound, first_node}
use Rattle.build_trials.proofs.EmptyScripts.{thread_is, turn_meets}
use Rattle.build_trials.proofs.trial.EmptyScriptRunner.resume.Goals as goal

pub returns-clause-turned : goal.returns-clause-turned
returns-clause-turned c =
    let n : ℕ = c.args.self.now.number in
    let p : Option ℕ = c.args.self.now.parent in
    let first : EmptyScript = record { number = 0; parent = None; has_begun = false } in
    let behind : EmptyScript = record { number = n; parent = p; has_begun = true } in
    let m = c.requires.ready in
    let one : c.args.self.now ≡ first = thread_is first c.args.self.now m.0 m.1 m.2 c.args.shared.now m.3 m.4 m.5 in (
      refl,
      turn_meets (λ (t : EmptyScript). stance_of t.number t.parent t.has_begun) c.args.self.now behind c.args.shared.now c.args._answer n p
          (ap (λ b. stance_of n p b) (ap (λ (t : EmptyScript). t.has_begun) one)) refl (sym c.len.ensures.len ∙ c.if-len-ne1.false) (sym c.kind.ensures ∙ c.in-Script.is)
          (begun_sound first m.0 c.args.shared.now m.3) (first_node first m.0 c.args.shared.now m.3),
    )
