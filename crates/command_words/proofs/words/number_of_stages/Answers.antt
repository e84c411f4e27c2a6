use Rattle.std.proofs.Common.{◌≡◌, ℕ, List, Result, Ok, false, true, subst, arith}
use Rattle.std.proofs.lemmas.Fmt.{parse-decimal}
use Rattle.std.specs.Str.Parse.{ParsesUnsigned}
use Rattle.command_words.specs.Words.{IsStages}
use Rattle.command_words.proofs.words.number_of_stages.Goals as goal

-- a word that is a number of stages is read as that number
read_as : {E : Type 0} (word : List ℕ) (r : Result ℕ E) (stages : ℕ) → ParsesUnsigned 32 10 word r → IsStages word stages → r ≡ Ok stages
read_as word r stages reads s = parse-decimal 32 stages word r (omega arith) (omega arith) s.is reads

pub returns-in-Err : goal.returns-in-Err
returns-in-Err c = λ stages s. let e : c.parse.result ≡ Ok stages = read_as _ _ stages c.parse.ensures.value.0 s in (cc (c.in-Err.is))

pub returns-else-is_stages : goal.returns-else-is_stages
returns-else-is_stages c = λ stages s.
    let e : c.parse.result ≡ Ok stages = read_as _ _ stages c.parse.ensures.value.0 s in
    let same : stages ≡ c.in-Ok.stages = (cc (c.in-Ok.is)) in
    let wrong : false ≡ true = c.if-is_stages.ensures.1 (subst (λ n. IsStages c.args.word.now n) same s) in (cc)
