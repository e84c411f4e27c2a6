use Rattle.std.proofs.Common.{◌∙◌, List, ℕ, inl, inr, subst}
use Rattle.build_commands.specs.Showing.{told, no_room}
use Rattle.build_commands.specs.Writing.{Writes}
use Rattle.build_commands.proofs.show.tell_graph.Goals as goal

pub returns-in-Ok-clause-told : goal.returns-in-Ok-clause-told
returns-in-Ok-clause-told g c = told (λ w s. c.as_slice.ensures ∙ c.in-Ok.ensures.world w s) c.tell_text.ensures

pub returns-in-Err-clause-told : goal.returns-in-Err-clause-told
returns-in-Err-clause-told g c = no_room c.tell.ensures.status c.tell.ensures.text

pub returns-in-Ok-clause-here : goal.returns-in-Ok-clause-here
returns-in-Ok-clause-here g c =
    let K = g.K.Sink in
    inr (subst (λ (text : List ℕ). Writes (K.written c.args.out.now) (K.written c.tell_text.new.out) (K.faults c.args.out.now) (K.faults c.tell_text.new.out) text 0 c.tell_text.result) (c.as_slice.ensures ∙ c.in-Ok.ensures.here) c.tell_text.ensures)

pub returns-in-Err-clause-here : goal.returns-in-Err-clause-here
returns-in-Err-clause-here g c = inl c.tell.ensures.status
