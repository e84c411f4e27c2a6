use Rattle.std.proofs.Common.{◌≡◌, arith, rules, w32}
use Rattle.std.proofs.lemmas.Nat.{be_bytes_4}
use Rattle.std.specs.Int.{from_be_bytes}
use Rattle.journal_core.proofs.head.length_of.Goals as goal

pub returns-clause-spelling : goal.returns-clause-spelling
returns-clause-spelling c =
    let is : c.read_u32.result ≡ from_be_bytes w32 c.args.bytes.now = omega (arith, c.read_u32.ensures) in
    be_bytes_4 c.args.bytes.now c.read_u32.result c.requires (λ i. (let fits = c.type_inv.bytes i in search rules)) is
