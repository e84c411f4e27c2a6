-- What is evaluated first of a part of a node that gathers values.
use Rattle.model_syntax.specs.declared.node.NodeForm.{NodeForm}
use Rattle.model_syntax.specs.declared.node.NodeForm.TheVariants as form
use Rattle.model_run.specs.declared.ending.Entry.{Entry}
use Rattle.model_run.specs.declared.ending.Entry.TheVariants.{First, Inside}
use Rattle.model_run.specs.declared.frame.FrameKind.{FrameKind}
use Rattle.model_run.specs.declared.frame.FrameKind.TheVariants as kind

-- the key of a computed entry, the value of another entry, or the part itself; and the frame that it stands in
abbrev pub first_of : NodeForm → FrameKind × Entry
first_of form.ComputedEntry = (kind.GatheredKey, Inside 0)
first_of (form.NamedEntry t) = (kind.Gathered, Inside 0)
first_of (form.NumberedEntry z) = (kind.Gathered, Inside 0)
first_of f = (kind.Gathered, First)
