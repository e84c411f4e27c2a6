use Rattle.std.proofs.Common.{◌∙◌, Err, sym, ap}
use Rattle.member_turns.specs.Lower.locked_build.Histories.{kept_fault}
use Rattle.build_life.specs.Ending.{ended_as}
use Rattle.build_life.proofs.CloseLemmas.{nothing_done}
use Rattle.build_life.proofs.going.live_on.Goals as goal

pub returns-in-Ok : goal.returns-in-Ok
returns-in-Ok g c = record { lives = (_, c.in-Ok.ensures.lives, c.ended_of.ensures ∙ ap (ended_as (kept_fault c.in-Ok.site.history.items) c.in-Ok.how) c.deref.ensures.value) }

pub returns-in-Err : goal.returns-in-Err
returns-in-Err g c =
    let H = g.H.Host in
    let A = g.A.Source in
    let back = c.in-Err.ensures.back in
    let none = ap (λ s. s.history.items) back.0 ∙ c.requires.fresh in
    record {
      lives = (
        Err c.in-Err.field-0-0,
        nothing_done H A c.args.looks _ c.in-Err.field-0-0 _ _ c.args.members.now.items c.live_in_threads.new.members.items _ (ap (λ s. s.base) back.0) back.1 none,
        sym (ap (λ h. ended_as (kept_fault h) (Err c.in-Err.field-0-0) c.live_in_threads.new.members.items) none),
      );
    }
