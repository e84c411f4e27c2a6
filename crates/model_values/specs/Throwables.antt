-- The classes of throwables: their names, and which of them a `catch` takes.
use Rattle.std.specs.Prelude.{ℕ, Bool, true, false, List, ◌++◌, Option, Some, None, codes}
use Rattle.model_values.specs.Types.{Class, Abort, FlowInterrupted, Arithmetic, MissingProperty, MissingMethod, NullPointer, IllegalArgument, IndexOutOfBounds, NumberFormat, NoSuchElement, MissingContextVariable, Exception, RuntimeException, NoSuchMethodError, Error}

-- the names of Jenkins, Groovy and Java
abbrev pub class_name : Class → List ℕ
class_name Abort = codes "hudson.AbortException"
class_name FlowInterrupted = codes "org.jenkinsci.plugins.workflow.steps.FlowInterruptedException"
class_name Arithmetic = codes "java.lang.ArithmeticException"
class_name MissingProperty = codes "groovy.lang.MissingPropertyException"
class_name MissingMethod = codes "groovy.lang.MissingMethodException"
class_name NullPointer = codes "java.lang.NullPointerException"
class_name IllegalArgument = codes "java.lang.IllegalArgumentException"
class_name IndexOutOfBounds = codes "java.lang.IndexOutOfBoundsException"
class_name NumberFormat = codes "java.lang.NumberFormatException"
class_name NoSuchElement = codes "java.util.NoSuchElementException"
class_name MissingContextVariable = codes "org.jenkinsci.plugins.workflow.steps.MissingContextVariableException"
class_name Exception = codes "java.lang.Exception"
class_name RuntimeException = codes "java.lang.RuntimeException"
class_name NoSuchMethodError = codes "java.lang.NoSuchMethodError"
class_name Error = codes "java.lang.Error"

-- Java: an Error is no Exception. `catch (e)` and `catch (Exception e)` take what this says, `catch (Throwable e)` takes all
abbrev pub is_exception : Class → Bool
is_exception NoSuchMethodError = false
is_exception Error = false
is_exception _ = true

-- Java: the class, and the message behind it where there is one
abbrev pub thrown_text : Class → Option (List ℕ) → List ℕ
thrown_text class None = class_name class
thrown_text class (Some m) = class_name class ++ codes ": " ++ m
