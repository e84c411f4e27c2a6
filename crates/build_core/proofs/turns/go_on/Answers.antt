use Rattle.std.proofs.Common.{◌∙◌, [], ◌∷◌, refl, arith}
use Rattle.model_values.specs.Limits.{limit_line}
use Rattle.model_run.specs.declared.result.BuildResult.TheVariants.{Failure}
use Rattle.model_run.specs.Results.{worse}
use Rattle.green_threads.specs.declared.settled.Settled.TheVariants as settled
use Rattle.green_threads.proofs.Order.{rested}
use Rattle.settle_laws.specs.Standing.{causes, end_result, first_head, heads}
use Rattle.settle_laws.proofs.Heads.{first_stands, heads_are}
use Rattle.build_core.proofs.Going.{Soundly, soundly, some_after, setting_after, waits, ends, limits}
use Rattle.build_core.proofs.Ended.{over_sound}
use Rattle.build_core.proofs.Stepping.{settled_so}
use Rattle.build_core.proofs.Marks.{settled_from, goes_further}
use Rattle.build_core.proofs.turns.go_on.Goals as goal

pub settle-requires : goal.settle-requires
settle-requires g c = record {
  grouped = c.requires.go.grouped;
  bounded = omega (arith, c.requires.go.few_threads, (g.met.R.ScriptThread.shared_fits _ _ c.requires.go.fit).few_nodes, g.met.R.ScriptThread.room_is c.args.shared.now);
  fits = c.requires.go.fit;
}

pub end_script-requires : goal.end_script-requires
end_script-requires g c = record { few = (soundly g.R.ScriptThread.stance g.R.Runner.seated g.R.Runner.head g.R.Runner.turns g.met.R.ScriptThread.head_is g.met.R.ScriptThread.turned _ _ _ _ _ _ c.in_ok-settle.ensures.order g.met.R.ScriptThread.seated_is g.R.Runner.room g.met.R.ScriptThread.room_is (g.met.R.ScriptThread.shared_fits _ _ c.requires.go.fit) (g.met.R.ScriptThread.heads_stand _ _ c.requires.go.fit) c.requires.go.few_threads c.in_ok-settle.ensures.bounded).sound.few_nodes }

pub end_by_limit-requires : goal.end_by_limit-requires
end_by_limit-requires g c = record { few = (soundly g.R.ScriptThread.stance g.R.Runner.seated g.R.Runner.head g.R.Runner.turns g.met.R.ScriptThread.head_is g.met.R.ScriptThread.turned _ _ _ _ _ _ c.in_ok-settle.ensures.order g.met.R.ScriptThread.seated_is g.R.Runner.room g.met.R.ScriptThread.room_is (g.met.R.ScriptThread.shared_fits _ _ c.requires.go.fit) (g.met.R.ScriptThread.heads_stand _ _ c.requires.go.fit) c.requires.go.few_threads c.in_ok-settle.ensures.bounded).sound.few_nodes }

pub returns-in-AllWait-clause-stands : goal.returns-in-AllWait-clause-stands
returns-in-AllWait-clause-stands g c = λ w st.
    waits g.R.ScriptThread.stance g.R.Runner.seated g.R.Runner.head g.R.Runner.turns g.met.R.ScriptThread.head_is g.met.R.ScriptThread.turned _ _ _ _ _ _ c.in_ok-settle.ensures.order g.met.R.ScriptThread.seated_is
    (omega (arith, c.requires.go.few, g.met.R.ScriptThread.room_is c.args.shared.now)) w st c.in-AllWait.is

pub returns-in-AllWait-clause-setting : goal.returns-in-AllWait-clause-setting
returns-in-AllWait-clause-setting g c = setting_after g.R.ScriptThread.stance g.R.Runner.seated g.R.Runner.head g.R.Runner.turns g.met.R.ScriptThread.head_is g.met.R.ScriptThread.turned _ _ _ _ _ _ c.in_ok-settle.ensures.order

pub returns-in-AllWait-clause-sound : goal.returns-in-AllWait-clause-sound
returns-in-AllWait-clause-sound g c = record {
  grouped = c.in_ok-settle.ensures.grouped;
  fit = c.in_ok-settle.ensures.fits c.in-AllWait.is;
  few_threads = (soundly g.R.ScriptThread.stance g.R.Runner.seated g.R.Runner.head g.R.Runner.turns g.met.R.ScriptThread.head_is g.met.R.ScriptThread.turned _ _ _ _ _ _ c.in_ok-settle.ensures.order g.met.R.ScriptThread.seated_is g.R.Runner.room g.met.R.ScriptThread.room_is (g.met.R.ScriptThread.shared_fits _ _ c.requires.go.fit) (g.met.R.ScriptThread.heads_stand _ _ c.requires.go.fit) c.requires.go.few_threads c.in_ok-settle.ensures.bounded).few_threads;
  few = omega (arith, rested 256 g.R.Runner.seated g.R.Runner.head g.R.Runner.turns _ _ _ _ _ _ c.in_ok-settle.ensures.order c.in-AllWait.is);
}

pub returns-in_ok-end_script-in-Ended-clause-stands : goal.returns-in_ok-end_script-in-Ended-clause-stands
returns-in_ok-end_script-in-Ended-clause-stands g c = λ w st.
    ends g.R.ScriptThread.stance g.R.Runner.seated g.R.Runner.head g.R.Runner.turns g.met.R.ScriptThread.head_is g.met.R.ScriptThread.turned _ _ _ _ _ _ c.in_ok-settle.ensures.order g.met.R.ScriptThread.seated_is
    (omega (arith, c.requires.go.few, g.met.R.ScriptThread.room_is c.args.shared.now)) w st c.in-Ended.outcome c.in-Ended.is _ _ _ _ c.in_ok-end_script-in-Ended.ensures.over refl

pub returns-in_ok-end_script-in-Ended-clause-setting : goal.returns-in_ok-end_script-in-Ended-clause-setting
returns-in_ok-end_script-in-Ended-clause-setting g c = c.in_ok-end_script-in-Ended.ensures.over.setting ∙ setting_after g.R.ScriptThread.stance g.R.Runner.seated g.R.Runner.head g.R.Runner.turns g.met.R.ScriptThread.head_is g.met.R.ScriptThread.turned _ _ _ _ _ _ c.in_ok-settle.ensures.order

pub returns-in_ok-end_by_limit-in-Limit-clause-stands : goal.returns-in_ok-end_by_limit-in-Limit-clause-stands
returns-in_ok-end_by_limit-in-Limit-clause-stands g c = λ w st.
    limits g.R.ScriptThread.stance g.R.Runner.seated g.R.Runner.head g.R.Runner.turns g.met.R.ScriptThread.head_is g.met.R.ScriptThread.turned _ _ _ _ _ _ c.in_ok-settle.ensures.order g.met.R.ScriptThread.seated_is
    (omega (arith, c.requires.go.few, g.met.R.ScriptThread.room_is c.args.shared.now)) w st c.in-Limit.kind c.in-Limit.is _ _ _ _ c.in_ok-end_by_limit-in-Limit.ensures.over refl

pub returns-in_ok-end_by_limit-in-Limit-clause-setting : goal.returns-in_ok-end_by_limit-in-Limit-clause-setting
returns-in_ok-end_by_limit-in-Limit-clause-setting g c = c.in_ok-end_by_limit-in-Limit.ensures.over.setting ∙ setting_after g.R.ScriptThread.stance g.R.Runner.seated g.R.Runner.head g.R.Runner.turns g.met.R.ScriptThread.head_is g.met.R.ScriptThread.turned _ _ _ _ _ _ c.in_ok-settle.ensures.order

pub returns-in_ok-end_script-in-Ended-clause-sound : goal.returns-in_ok-end_script-in-Ended-clause-sound
returns-in_ok-end_script-in-Ended-clause-sound g c =
    let rest : Soundly g.R.ScriptThread.stance c.settle.new.self c.settle.new.shared = soundly g.R.ScriptThread.stance g.R.Runner.seated g.R.Runner.head g.R.Runner.turns g.met.R.ScriptThread.head_is g.met.R.ScriptThread.turned _ _ _ _ _ _ c.in_ok-settle.ensures.order g.met.R.ScriptThread.seated_is g.R.Runner.room g.met.R.ScriptThread.room_is (g.met.R.ScriptThread.shared_fits _ _ c.requires.go.fit) (g.met.R.ScriptThread.heads_stand _ _ c.requires.go.fit) c.requires.go.few_threads c.in_ok-settle.ensures.bounded in
    over_sound g.R.Runner.number g.R.Runner.parent g.R.Runner.branch g.R.Runner.fits _ c.settle.new.self c.settle.new.shared (first_head g.R.ScriptThread.stance c.settle.new.self.seats ∷ [])
    (causes c.in-Ended.outcome c.settle.new.shared.heap.cells) (end_result c.in-Ended.outcome c.settle.new.shared.result c.settle.new.shared.heap.cells) _ _ c.in_ok-end_script-in-Ended.ensures.over rest.sound
    (first_stands g.R.ScriptThread.stance _ _ (some_after g.R.ScriptThread.stance g.R.Runner.seated g.R.Runner.head g.R.Runner.turns g.met.R.ScriptThread.head_is g.met.R.ScriptThread.turned _ _ _ _ _ _ c.in_ok-settle.ensures.order c.in-Ended.outcome c.in-Ended.is) rest.heads, tt)
    rest.few_threads

pub returns-in_ok-end_by_limit-in-Limit-clause-sound : goal.returns-in_ok-end_by_limit-in-Limit-clause-sound
returns-in_ok-end_by_limit-in-Limit-clause-sound g c =
    let rest : Soundly g.R.ScriptThread.stance c.settle.new.self c.settle.new.shared = soundly g.R.ScriptThread.stance g.R.Runner.seated g.R.Runner.head g.R.Runner.turns g.met.R.ScriptThread.head_is g.met.R.ScriptThread.turned _ _ _ _ _ _ c.in_ok-settle.ensures.order g.met.R.ScriptThread.seated_is g.R.Runner.room g.met.R.ScriptThread.room_is (g.met.R.ScriptThread.shared_fits _ _ c.requires.go.fit) (g.met.R.ScriptThread.heads_stand _ _ c.requires.go.fit) c.requires.go.few_threads c.in_ok-settle.ensures.bounded in
    over_sound g.R.Runner.number g.R.Runner.parent g.R.Runner.branch g.R.Runner.fits _ c.settle.new.self c.settle.new.shared (heads g.R.ScriptThread.stance c.settle.new.self.seats)
    (limit_line c.in-Limit.kind ∷ []) (worse c.settle.new.shared.result Failure) _ _ c.in_ok-end_by_limit-in-Limit.ensures.over rest.sound (heads_are g.R.ScriptThread.stance _ _ rest.heads) rest.few_threads

pub returns-in-AllWait-clause-steps : goal.returns-in-AllWait-clause-steps
returns-in-AllWait-clause-steps g c = settled_so g.R.ScriptThread.stance g.R.Runner.seated g.R.Runner.head g.R.Runner.turns g.R.Runner.room _ _ _ _ _ c.in_ok-settle.ensures.order settled.AllWait c.in-AllWait.is _ _ _ (refl, refl, refl)

pub returns-in_ok-end_script-in-Ended-clause-steps : goal.returns-in_ok-end_script-in-Ended-clause-steps
returns-in_ok-end_script-in-Ended-clause-steps g c = settled_so g.R.ScriptThread.stance g.R.Runner.seated g.R.Runner.head g.R.Runner.turns g.R.Runner.room _ _ _ _ _ c.in_ok-settle.ensures.order (settled.Ended c.in-Ended.outcome) c.in-Ended.is _ _ _ c.in_ok-end_script-in-Ended.ensures.over

pub returns-in_ok-end_by_limit-in-Limit-clause-steps : goal.returns-in_ok-end_by_limit-in-Limit-clause-steps
returns-in_ok-end_by_limit-in-Limit-clause-steps g c = settled_so g.R.ScriptThread.stance g.R.Runner.seated g.R.Runner.head g.R.Runner.turns g.R.Runner.room _ _ _ _ _ c.in_ok-settle.ensures.order (settled.Limit c.in-Limit.kind) c.in-Limit.is _ _ _ c.in_ok-end_by_limit-in-Limit.ensures.over

pub returns-in-AllWait-clause-marks : goal.returns-in-AllWait-clause-marks
returns-in-AllWait-clause-marks g c = settled_from g.R.Runner.seated g.R.Runner.head g.R.Runner.turns g.met.R.ScriptThread.marks _ _ _ _ _ _ c.in_ok-settle.ensures.order

pub returns-in_ok-end_script-in-Ended-clause-marks : goal.returns-in_ok-end_script-in-Ended-clause-marks
returns-in_ok-end_script-in-Ended-clause-marks g c =
    goes_further _ _ _ (settled_from g.R.Runner.seated g.R.Runner.head g.R.Runner.turns g.met.R.ScriptThread.marks _ _ _ _ _ _ c.in_ok-settle.ensures.order) c.in_ok-end_script-in-Ended.ensures.marks

pub returns-in_ok-end_by_limit-in-Limit-clause-marks : goal.returns-in_ok-end_by_limit-in-Limit-clause-marks
returns-in_ok-end_by_limit-in-Limit-clause-marks g c =
    goes_further _ _ _ (settled_from g.R.Runner.seated g.R.Runner.head g.R.Runner.turns g.met.R.ScriptThread.marks _ _ _ _ _ _ c.in_ok-settle.ensures.order) c.in_ok-end_by_limit-in-Limit.ensures.marks
