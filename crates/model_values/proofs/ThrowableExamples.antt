-- Throwables: their texts, what a catch takes, and what throws them.
use Rattle.std.specs.Prelude.{true, false, [], Some, None, codes, refl, ◌≡◌}
use Rattle.std.specs.Fmt.{digits}
use Rattle.model_values.specs.Throwables.{thrown_text, is_exception}
use Rattle.model_values.specs.Throws.{throw_value, new_throwable, unknown_name, unknown_step}
use Rattle.model_values.specs.TextOf.{text_within}
use Rattle.model_values.specs.Limits.{product_limits}
use Rattle.model_values.specs.Cells.{Throws, Meets}
use Rattle.model_values.proofs.Sample.{sample, ab, list, thrown_cell, gives_new, throws, small}
use Rattle.model_values.specs.Types.{Null, ThrownCell, Abort, FlowInterrupted, Arithmetic, MissingProperty, MissingMethod, NullPointer, IllegalArgument, IndexOutOfBounds, NumberFormat, NoSuchElement, MissingContextVariable, Exception, RuntimeException, NoSuchMethodError, Error, TextLength}

-- the text of a throwable without a message is its class's name
pub text_of_Abort : thrown_text Abort None ≡ codes "hudson.AbortException"
text_of_Abort = refl

pub text_of_FlowInterrupted : thrown_text FlowInterrupted None ≡ codes "org.jenkinsci.plugins.workflow.steps.FlowInterruptedException"
text_of_FlowInterrupted = refl

pub text_of_Arithmetic : thrown_text Arithmetic None ≡ codes "java.lang.ArithmeticException"
text_of_Arithmetic = refl

pub text_of_MissingProperty : thrown_text MissingProperty None ≡ codes "groovy.lang.MissingPropertyException"
text_of_MissingProperty = refl

pub text_of_MissingMethod : thrown_text MissingMethod None ≡ codes "groovy.lang.MissingMethodException"
text_of_MissingMethod = refl

pub text_of_NullPointer : thrown_text NullPointer None ≡ codes "java.lang.NullPointerException"
text_of_NullPointer = refl

pub text_of_IllegalArgument : thrown_text IllegalArgument None ≡ codes "java.lang.IllegalArgumentException"
text_of_IllegalArgument = refl

pub text_of_IndexOutOfBounds : thrown_text IndexOutOfBounds None ≡ codes "java.lang.IndexOutOfBoundsException"
text_of_IndexOutOfBounds = refl

pub text_of_NumberFormat : thrown_text NumberFormat None ≡ codes "java.lang.NumberFormatException"
text_of_NumberFormat = refl

pub text_of_NoSuchElement : thrown_text NoSuchElement None ≡ codes "java.util.NoSuchElementException"
text_of_NoSuchElement = refl

pub text_of_MissingContextVariable : thrown_text MissingContextVariable None ≡ codes "org.jenkinsci.plugins.workflow.steps.MissingContextVariableException"
text_of_MissingContextVariable = refl

pub text_of_Exception : thrown_text Exception None ≡ codes "java.lang.Exception"
text_of_Exception = refl

pub text_of_RuntimeException : thrown_text RuntimeException None ≡ codes "java.lang.RuntimeException"
text_of_RuntimeException = refl

pub text_of_NoSuchMethodError : thrown_text NoSuchMethodError None ≡ codes "java.lang.NoSuchMethodError"
text_of_NoSuchMethodError = refl

pub text_of_Error : thrown_text Error None ≡ codes "java.lang.Error"
text_of_Error = refl

-- and with one, it is in front of the message
pub text_with_a_message : thrown_text Abort (Some (codes "script returned exit code 3")) ≡ codes "hudson.AbortException: script returned exit code 3"
text_with_a_message = refl

pub text_with_an_empty_message : thrown_text Error (Some []) ≡ codes "java.lang.Error: "
text_with_an_empty_message = refl

-- which classes `catch (Exception e)` takes
pub catches_Abort : is_exception Abort ≡ true
catches_Abort = refl

pub catches_FlowInterrupted : is_exception FlowInterrupted ≡ true
catches_FlowInterrupted = refl

pub catches_Arithmetic : is_exception Arithmetic ≡ true
catches_Arithmetic = refl

pub catches_MissingProperty : is_exception MissingProperty ≡ true
catches_MissingProperty = refl

pub catches_MissingMethod : is_exception MissingMethod ≡ true
catches_MissingMethod = refl

pub catches_NullPointer : is_exception NullPointer ≡ true
catches_NullPointer = refl

pub catches_IllegalArgument : is_exception IllegalArgument ≡ true
catches_IllegalArgument = refl

pub catches_IndexOutOfBounds : is_exception IndexOutOfBounds ≡ true
catches_IndexOutOfBounds = refl

pub catches_NumberFormat : is_exception NumberFormat ≡ true
catches_NumberFormat = refl

pub catches_NoSuchElement : is_exception NoSuchElement ≡ true
catches_NoSuchElement = refl

pub catches_MissingContextVariable : is_exception MissingContextVariable ≡ true
catches_MissingContextVariable = refl

pub catches_Exception : is_exception Exception ≡ true
catches_Exception = refl

pub catches_RuntimeException : is_exception RuntimeException ≡ true
catches_RuntimeException = refl

pub catches_NoSuchMethodError : is_exception NoSuchMethodError ≡ false
catches_NoSuchMethodError = refl

pub catches_Error : is_exception Error ≡ false
catches_Error = refl

-- `throw` of a throwable throws that one, of anything else a new one
pub throw_of_a_throwable : throw_value product_limits sample thrown_cell ≡ Throws sample 7
throw_of_a_throwable = refl

pub throw_of_a_text : throw_value product_limits sample ab ≡ throws IllegalArgument (codes "not a throwable")
throw_of_a_text = refl

pub throw_of_null : throw_value product_limits sample Null ≡ throws IllegalArgument (codes "not a throwable")
throw_of_null = refl

-- `new C()` and `new C(e)`
pub new_without_a_message : new_throwable product_limits sample Exception None ≡ gives_new (ThrownCell Exception None)
new_without_a_message = refl

pub new_with_a_message : new_throwable product_limits sample RuntimeException (Some list) ≡ gives_new (ThrownCell RuntimeException (Some (codes "[1, null]")))
unfolding text_within digits
new_with_a_message = refl

pub new_with_a_message_too_long : new_throwable (small 9 3 9 9 99 9999) sample Error (Some list) ≡ Meets TextLength
unfolding text_within digits
new_with_a_message_too_long = refl

-- names that nothing has
pub unknown_variable : unknown_name product_limits sample (codes "env") ≡ throws MissingProperty (codes "No such property: env for class: WorkflowScript")
unknown_variable = refl

pub unknown_call : unknown_step product_limits sample (codes "foo") ≡ throws NoSuchMethodError (codes "No such DSL method 'foo' found among steps")
unknown_call = refl
