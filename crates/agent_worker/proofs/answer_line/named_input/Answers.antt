use Rattle.std.proofs.Common.{rules, ◌≡◌, ◌≤◌, ◌∙◌, ◌++◌, [], length, sym, ap, refl, List, ℕ, subst, Some, None, take, append_assoc}
use Rattle.std.specs.Prelude.{codes, IsUtf8}
use Rattle.std.proofs.lemmas.Slice.Eq.{strip_prefix_is}
use Rattle.std.proofs.lemmas.Bool.Decides.{Decides-eqb}
use Rattle.std.proofs.lemmas.List.{append_cancel_left, take-append-drop}
use Rattle.agent_worker.proofs.BlankLemmas.{blank-le, named-parts, plain-front, empty-is, some-is}
use Rattle.agent_worker.specs.AnswerLine.{NoBlank}
use Rattle.agent_worker.proofs.answer_line.named_input.Goals as goal

pub split_at-requires : goal.split_at-requires
split_at-requires c = subst (λ (n : ℕ). n ≤ length c.args.rest.now) (sym c.blank_at-at.ensures.place) (blank-le c.args.rest.now)

pub returns-in_default : goal.returns-in_default
returns-in_default c = record {
  reads = λ id name s.
      let text : c.as_slice.result.now ≡ codes " by " = search rules in
      let parts = named-parts c.args.rest.now id name c.blank_at-at.result c.blank_at-at.ensures.place s in
      strip_prefix_is Decides-eqb c.split_at.result.1.now c.as_slice.result.now None c.in_default.ensures.cases name (c.split_at.ensures.back ∙ parts.1 ∙ ap (λ (l : List ℕ). l ++ name) (sym text));
}

pub returns-then-is_empty-2 : goal.returns-then-is_empty-2
returns-then-is_empty-2 c = record {
  reads = λ id name s.
      let text : c.as_slice.result.now ≡ codes " by " = search rules in
      let parts = named-parts c.args.rest.now id name c.blank_at-at.result c.blank_at-at.ensures.place s in
      let given = strip_prefix_is Decides-eqb c.split_at.result.1.now c.as_slice.result.now (Some c.in-Some.name) c.in-Some.ensures.cases in
      let same : c.in-Some.name.now ≡ name = append_cancel_left c.as_slice.result.now c.in-Some.name.now name (sym given ∙ c.split_at.ensures.back ∙ parts.1 ∙ ap (λ (l : List ℕ). l ++ name) (sym text)) in
      let empty : c.in-Some.name.now ≡ [] = empty-is c.is_empty-2.result c.in-Some.name.now c.is_empty-2.ensures c.if-is_empty-2.true in
      s.name_some (sym same ∙ empty);
}

pub returns-in-Err : goal.returns-in-Err
returns-in-Err c = record {
  reads = λ id name s.
      let text : c.as_slice.result.now ≡ codes " by " = search rules in
      let parts = named-parts c.args.rest.now id name c.blank_at-at.result c.blank_at-at.ensures.place s in
      let given = strip_prefix_is Decides-eqb c.split_at.result.1.now c.as_slice.result.now (Some c.in-Some.name) c.in-Some.ensures.cases in
      let same : c.in-Some.name.now ≡ name = append_cancel_left c.as_slice.result.now c.in-Some.name.now name (sym given ∙ c.split_at.ensures.back ∙ parts.1 ∙ ap (λ (l : List ℕ). l ++ name) (sym text)) in
      c.in-Err.ensures.cases.0 (subst IsUtf8 (sym same) s.name_text);
}

pub returns-in-Ok : goal.returns-in-Ok
returns-in-Ok c =
    let text : c.as_slice.result.now ≡ codes " by " = search rules in
    let given = strip_prefix_is Decides-eqb c.split_at.result.1.now c.as_slice.result.now (Some c.in-Some.name) c.in-Some.ensures.cases in
    record {
      reads = (
        refl,
        record {
          spelled = sym (take-append-drop c.blank_at-at.result c.args.rest.now) ∙ ap (λ (l : List ℕ). take c.blank_at-at.result c.args.rest.now ++ l) (sym c.split_at.ensures.back ∙ given ∙ ap (λ (l : List ℕ). l ++ c.in-Some.name.now) text)
              ∙ ap (λ (l : List ℕ). l ++ (codes " by " ++ c.in-Some.name.now)) (sym c.split_at.ensures.front) ∙ sym (append_assoc c.split_at.result.0.now (codes " by ") c.in-Some.name.now);
          id_some = some-is c.is_empty.result c.split_at.result.0.now c.is_empty.ensures c.if-is_empty.false;
          id_plain = subst (λ (l : List ℕ). NoBlank l) (sym (c.split_at.ensures.front ∙ ap (λ (n : ℕ). take n c.args.rest.now) c.blank_at-at.ensures.place)) (plain-front c.args.rest.now);
          name_some = some-is c.is_empty-2.result c.in-Some.name.now c.is_empty-2.ensures c.if-is_empty-2.false;
          name_text = c.in-Ok.ensures.cases.1;
        },
      );
    }
