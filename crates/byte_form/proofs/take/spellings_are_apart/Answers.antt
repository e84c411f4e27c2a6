use Rattle.byte_form.proofs.FieldLemmas.{fields_are_apart}
use Rattle.byte_form.proofs.take.spellings_are_apart.Goals as goal

pub returns : goal.returns
returns c = fields_are_apart
