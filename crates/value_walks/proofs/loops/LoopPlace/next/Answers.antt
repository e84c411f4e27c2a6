use Rattle.std.proofs.Common.{◌+◌, length, subst, sym}
use Rattle.model_values.specs.Kinds.{Kind}
use Rattle.value_walks.specs.Places.{IsLoopPlace}
use Rattle.value_walks.proofs.PlaceLemmas.{begins_next, no_text_place}
use Rattle.value_walks.proofs.loops.LoopPlace.next.Goals as goal
use Rattle.value_walks.proofs.loops.LoopPlace.next.Goals.{in-Text, in_default}

pub returns-clause-place : goal.returns-clause-place
returns-clause-place c =
    let at = c.args.self.at in
    let byte = c.args.self.byte in
    elim c.match-kind_of.branch [
      | in-Text w ↦
          let character = w.character_at.result.now in
          let here = subst (λ (k : Kind). IsLoopPlace k at byte) (sym w.in-Text.ensures.kind) c.requires.place in
          let is = rw w.as_slice.ensures at w.character_at.ensures in
          rw w.byte-is (subst (λ (k : Kind). IsLoopPlace k (at + 1) (byte + length character)) w.in-Text.ensures.kind (begins_next w.in-Text.text.now at byte character here is))
      | in_default w ↦
          subst (λ (k : Kind). IsLoopPlace k (at + 1) c.match-kind_of.byte) c.kind_of.ensures.kind (no_text_place c.kind_of.result (at + 1) c.match-kind_of.byte w.in_default.not-Text)
    ]
