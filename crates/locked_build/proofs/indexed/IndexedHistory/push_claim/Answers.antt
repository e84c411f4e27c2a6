use Rattle.std.proofs.Common.{◌≡◌, ◌∙◌, List, ℕ, ◌++◌, ◌∷◌, [], ap}
use Rattle.locked_build.specs.declared.ask.Entry.{Entry}
use Rattle.locked_build.specs.declared.ask.Entry.TheVariants.{Claimed}
use Rattle.locked_build.proofs.IndexLaws.{put_claim, put_claims}
use Rattle.locked_build.proofs.indexed.IndexedHistory.push_claim.Goals as goal

pub invariant_of-self-2 : goal.invariant_of-self-2
invariant_of-self-2 c =
    let o = c.args.order.now in
    let before = c.self.inside.entries.items in
    let after = c.push_reserved-2.new.self.items in
    let claimed = c.self.inside.claimed.items in
    let entry = Claimed c.args.executor o.task o.keep_out o.kept_log o.kept_out in
    let is : after ≡ before ++ entry ∷ [] = c.push_reserved-2.ensures.items ∙ ap (λ (es : List Entry). es ++ entry ∷ []) c.reserve-2.ensures.items in (
      put_claim before after c.args.executor o.task o.kept_log o.kept_out o.keep_out is c.self.inside.fault c.self.invariant.0,
      put_claims before after entry is claimed c.push_reserved.new.self.items c.self.invariant.1
          (c.push_reserved.ensures.items ∙ ap (λ (ts : List ℕ). ts ++ o.task ∷ []) c.reserve.ensures.items),
    )
