-- The texts of the kinds of fault (this product's own).
use Rattle.std.specs.Prelude.{ℕ, List, codes}
use Rattle.model_syntax.specs.declared.fault.FaultKind.{FaultKind}
use Rattle.model_syntax.specs.declared.fault.FaultKind.TheVariants.{NotUtf8, UnexpectedCharacter, UnendedText, UnendedComment, BadEscape, BadNumber, NestingOver128, UnexpectedToken, UnexpectedEnd, NameAlreadyDeclared, FunctionAlreadyDeclared, BreakOutsideLoop, ContinueOutsideLoop}

-- What users see of a kind.
abbrev pub fault_text : FaultKind → List ℕ
fault_text NotUtf8 = codes "not UTF-8"
fault_text UnexpectedCharacter = codes "unexpected character"
fault_text UnendedText = codes "unended text"
fault_text UnendedComment = codes "unended comment"
fault_text BadEscape = codes "bad escape"
fault_text BadNumber = codes "bad number"
fault_text NestingOver128 = codes "nesting over 128"
fault_text UnexpectedToken = codes "unexpected token"
fault_text UnexpectedEnd = codes "unexpected end"
fault_text NameAlreadyDeclared = codes "name already declared"
fault_text FunctionAlreadyDeclared = codes "function already declared"
fault_text BreakOutsideLoop = codes "break outside a loop"
fault_text ContinueOutsideLoop = codes "continue outside a loop"
