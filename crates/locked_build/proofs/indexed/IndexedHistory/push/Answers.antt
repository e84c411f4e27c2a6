use Rattle.std.proofs.Common.{◌∙◌, List, ℕ, ◌++◌, sym, ap, append-nil}
use Rattle.locked_build.proofs.IndexLaws.{put_fault, put_claims}
use Rattle.locked_build.proofs.indexed.IndexedHistory.push.Goals as goal

pub invariant_of-self : goal.invariant_of-self
invariant_of-self c =
    let before = c.self.inside.entries.items in
    let after = c.push_reserved.new.self.items in
    let claimed = c.self.inside.claimed.items in (
      put_fault before after c.args.entry c.push_reserved.ensures.items c.self.inside.fault c.fault_in.result c.or-self-inside.result c.self.invariant.0 c.fault_in.ensures c.or-self-inside.ensures,
      put_claims before after c.args.entry c.push_reserved.ensures.items claimed claimed c.self.invariant.1 (sym (append-nil claimed) ∙ ap (λ (xs : List ℕ). claimed ++ xs) (sym c.requires.no_claim)),
    )
