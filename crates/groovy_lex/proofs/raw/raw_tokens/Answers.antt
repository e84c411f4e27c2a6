use Rattle.std.proofs.Common.{List, [], length, sym, subst}
use Rattle.std.proofs.lemmas.List.{get_or_past}
use Rattle.model_syntax.specs.declared.token.Token.{Token}
use Rattle.model_syntax.specs.Source.{byte_at}
use Rattle.model_syntax.specs.Places.{mark_end}
use Rattle.model_syntax.specs.Tokens.{Raw, raw_none}
use Rattle.model_syntax.proofs.TokenLaws.{raw_behind}
use Rattle.groovy_lex.specs.declared.step.Step.{Step}
use Rattle.groovy_lex.specs.Steps.{Does, DoesTo}
use Rattle.groovy_lex.proofs.RawLemmas.{end_stops}
use Rattle.groovy_lex.proofs.raw.raw_tokens.Goals as goal

pub steps-init : goal.steps-init
steps-init c = record { inside = c.mark_end-at.ensures.inside; placed = c.place_of-place.ensures; reads = rw (c.new-tokens.ensures, c.new-stack.ensures, c.mark_end-at.ensures.value) raw_none }

pub steps-preserved : goal.steps-preserved
steps-preserved c =
    let B = byte_at c.args.src.now in
    let d : DoesTo B (length c.args.src.now) c.steps.stack c.next_step.new.stack c.steps.at c.steps.tokens c.next_step.new.tokens c.in-Goes.next = subst (λ (x : Step). Does B (length c.args.src.now) c.steps.stack c.next_step.new.stack c.steps.at c.steps.tokens c.next_step.new.tokens x) c.in-Goes.is c.in_ok-next.ensures.does in
    record { inside = d.inside; placed = c.later_place-place.ensures; reads = subst (λ (ts : List Token). Raw B ts [] c.next_step.new.stack (mark_end B) c.in-Goes.next) (sym d.longer) (raw_behind B c.steps.invariant.reads d.reads) }

pub returns : goal.returns
returns c = record { open_there = c.steps.stack; there = c.steps.at; reads = c.steps.invariant.reads; stops = end_stops (byte_at c.args.src.now) c.steps.stack c.steps.at c.end_fault-fault.result (get_or_past c.args.src.now c.steps.at 256 c.steps-test.false) c.end_fault-fault.ensures }
