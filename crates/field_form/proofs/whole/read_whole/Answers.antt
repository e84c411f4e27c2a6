use Rattle.field_form.proofs.Wholes.{gives_found, gives_needed, gives_again}
use Rattle.field_form.proofs.whole.read_whole.Goals as goal

pub returns-clause-found : goal.returns-clause-found
returns-clause-found g c = gives_found g.T.Field.form g.met.T.Field.lawful c.args.bytes.now c.read_to_end.result (λ i. (c.type_inv.bytes i).fits) c.read_to_end.ensures

pub returns-clause-again : goal.returns-clause-again
returns-clause-again g c = gives_again g.T.Field.form g.met.T.Field.lawful c.args.bytes.now c.read_to_end.result c.read_to_end.ensures

pub returns-clause-needed : goal.returns-clause-needed
returns-clause-needed g c = gives_needed g.T.Field.form g.met.T.Field.lawful c.args.bytes.now c.read_to_end.result (λ i. (c.type_inv.bytes i).fits) c.read_to_end.ensures
