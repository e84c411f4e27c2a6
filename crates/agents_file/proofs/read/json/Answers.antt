use Rattle.std.proofs.lemmas.Str.{is_utf8-from_IsUtf8, IsUtf8-from_is_utf8}
use Rattle.std.specs.Str.{is_utf8}
use Rattle.serde_json.specs.Read.{read}
use Rattle.agents_file.proofs.ReadLemmas.{no_json}
use Rattle.agents_file.proofs.read.json.Goals as goal

pub returns-in-Ok-clause-text : goal.returns-in-Ok-clause-text
returns-in-Ok-clause-text c = is_utf8-from_IsUtf8 c.args.bytes.now c.in-Ok.ensures.ok.0

pub returns-in_default-clause-fault : goal.returns-in_default-clause-fault
returns-in_default-clause-fault c =
    no_json (is_utf8 c.args.bytes.now) (read c.args.bytes.now) c.refusal.result
    (λ utf8. c.in-Err.ensures.err (λ m. c.in_default.not-Memory (c.classify.ensures.memory.1 m)) (IsUtf8-from_is_utf8 c.args.bytes.now utf8)) c.refusal.ensures
