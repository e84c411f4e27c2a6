use Rattle.std.proofs.Common.{◌+◌, length, arith}
use Rattle.model_syntax.specs.declared.sign.Sign.TheVariants.{Dot}
use Rattle.model_syntax.specs.declared.token.TokenKind.TheVariants.{Sign}
use Rattle.model_syntax.specs.Source.{byte_at}
use Rattle.groovy_lex.proofs.CodeLemmas.{token_behind}
use Rattle.groovy_lex.proofs.InsideLemmas.{path_last, path_further}
use Rattle.groovy_lex.proofs.path.path_names.Goals as goal

pub returns-then-not-goes_on : goal.returns-then-not-goes_on
returns-then-not-goes_on c =
    let B = byte_at c.args.src.now in
    record {
      path = path_last B (length c.args.src.now) c.args.from c.names.at c.in_ok-kind.end c.in_ok-kind.kind c.args.tokens.now c.names.tokens c.push.new.self c.names.invariant.so_far c.names.invariant.letter c.in_ok-kind.ensures.fits c.if-not-goes_on.ensures
          (token_behind B c.in_ok-kind.kind c.names.at c.in_ok-kind.end c.names.place c.names.tokens c.push.new.self c.names.invariant.placed c.in_ok-push.ensures.pushed) c.names.invariant.forward c.in_ok-kind.ensures.past.0 c.in_ok-kind.ensures.past.1;
    }

pub names-preserved : goal.names-preserved
names-preserved c =
    let B = byte_at c.args.src.now in
    record {
      forward = omega (arith, c.names.invariant.forward, c.in_ok-kind.ensures.past.0);
      inside = c.if-not-goes_on.ensures.1;
      letter = c.if-not-goes_on.ensures.0.1;
      placed = c.later_place-place-in-names.ensures;
      so_far = path_further B c.args.from c.names.at c.in_ok-kind.end c.in_ok-kind.kind c.args.tokens.now c.names.tokens c.push.new.self c.push-in-names.new.self c.names.invariant.so_far c.names.invariant.letter c.in_ok-kind.ensures.fits c.if-not-goes_on.ensures.0
          (token_behind B c.in_ok-kind.kind c.names.at c.in_ok-kind.end c.names.place c.names.tokens c.push.new.self c.names.invariant.placed c.in_ok-push.ensures.pushed)
          (token_behind B (Sign Dot) c.in_ok-kind.end (c.in_ok-kind.end + 1) c.later_place-place.result c.push.new.self c.push-in-names.new.self c.later_place-place.ensures c.in_ok-push-2.ensures.pushed);
    }
