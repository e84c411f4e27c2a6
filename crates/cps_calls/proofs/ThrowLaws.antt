-- Calls that only throw.
use Rattle.std.proofs.Common.{List, ◌++◌, ℕ}
use Rattle.std.specs.Prelude.{codes}
use Rattle.model_values.specs.Kinds.{Kind, kind_name, null}
use Rattle.model_values.specs.Limits.{product_limits}
use Rattle.model_values.specs.Throws.{bad_argument, no_method, unknown_step}
use Rattle.model_values.specs.declared.cell.Cell.{Cell}
use Rattle.model_values.specs.declared.throwable.Class.TheVariants.{IllegalArgument, MissingMethod, NoSuchMethodError, NullPointer}
use Rattle.cps_frames.specs.Changes.{GivesNothing}
use Rattle.cps_frames.proofs.ThrowLaws.{throws}

-- a call of a method that is not there, of one that walks with what is no closure, and of a name that means nothing
pub method_throws : (h : List Cell) (k : Kind) (f : List ℕ) → GivesNothing (no_method product_limits h k f)
method_throws h null f = throws h NullPointer (codes "Cannot invoke method " ++ f ++ codes "() on null object")
method_throws h k f = throws h MissingMethod (codes "No signature of method: " ++ kind_name k ++ codes "." ++ f ++ codes "()")

pub argument_throws : (h : List Cell) → GivesNothing (bad_argument product_limits h)
argument_throws h = throws h IllegalArgument (codes "bad argument")

pub unknown_throws : (h : List Cell) (s : List ℕ) → GivesNothing (unknown_step product_limits h s)
unknown_throws h s = throws h NoSuchMethodError (codes "No such DSL method '" ++ s ++ codes "' found among steps")
