-- How arguments of steps are bound, and the faults of calls, each thrown before any flow node.
use Rattle.std.specs.Prelude.{◌≡◌, refl, [], ◌∷◌, ◌++◌, codes, List}
use Rattle.std.specs.Fmt.{digits}
use Rattle.std.specs.Int.{int_wrap}
use Rattle.model_syntax.specs.Nodes.{Node, size}
use Rattle.model_values.specs.TextOf.{text_within}
use Rattle.model_values.specs.Equality.{equal_within}
use Rattle.model_run.specs.Meaning.{eval, ev}
use Rattle.model_run.specs.State.{through}
use Rattle.model_run.specs.Terms.{term_at}
use Rattle.model_run.specs.World.{settle}
use Rattle.pipeline_model.proofs.ScriptWords.{text, number, truth, entry, list, map_of, closure, step, echo, log_of}

-- `echo 'a'`, `echo(message: 'b')`, `echo([message: 'c'])`, `echo 5`: a single map has the arguments with names
abbrev main_parameter : List Node
main_parameter =
    echo (text "a")
    ∷ step "echo" (entry "message" (text "b") ∷ [])
    ∷ step "echo" (map_of (entry "message" (text "c") ∷ []) ∷ [])
    ∷ echo (number 5)
    ∷ []

pub main_parameter_log : log_of main_parameter []
    ≡ codes "[Pipeline] Start of Pipeline\n[Pipeline] echo\na\n[Pipeline] echo\nb\n[Pipeline] echo\nc\n"
    ++ codes "[Pipeline] echo\n5\n[Pipeline] End of Pipeline\nFinished: SUCCESS\n"
unfolding settle eval ev through term_at text_within size digits int_wrap equal_within
main_parameter_log = refl

-- `echo 'a', 'b'`
abbrev too_many : List Node
too_many =
    step "echo" (text "a" ∷ text "b" ∷ [])
    ∷ []

pub too_many_log : log_of too_many []
    ≡ codes "[Pipeline] Start of Pipeline\n[Pipeline] End of Pipeline\n"
    ++ codes "java.lang.IllegalArgumentException: echo: too many arguments\nFinished: FAILURE\n"
unfolding settle eval ev through term_at text_within size digits int_wrap equal_within
too_many_log = refl

-- `retry(count: 'x', times: 1) { }`: an unknown one counts before a bad one
abbrev unknown_parameter : List Node
unknown_parameter =
    step "retry" (entry "count" (text "x") ∷ entry "times" (number 1) ∷ closure [] ∷ [])
    ∷ []

pub unknown_parameter_log : log_of unknown_parameter []
    ≡ codes "[Pipeline] Start of Pipeline\n[Pipeline] End of Pipeline\n"
    ++ codes "java.lang.IllegalArgumentException: retry: unknown times\nFinished: FAILURE\n"
unfolding settle eval ev through term_at text_within size digits int_wrap equal_within
unknown_parameter_log = refl

-- `retry('x') { }`
abbrev bad_count : List Node
bad_count =
    step "retry" (text "x" ∷ closure [] ∷ [])
    ∷ []

pub bad_count_log : log_of bad_count []
    ≡ codes "[Pipeline] Start of Pipeline\n[Pipeline] End of Pipeline\n"
    ++ codes "java.lang.IllegalArgumentException: retry: bad count\nFinished: FAILURE\n"
unfolding settle eval ev through term_at text_within size digits int_wrap equal_within
bad_count_log = refl

-- `retry(0) { }`
abbrev no_try : List Node
no_try =
    step "retry" (number 0 ∷ closure [] ∷ [])
    ∷ []

pub no_try_log : log_of no_try []
    ≡ codes "[Pipeline] Start of Pipeline\n[Pipeline] End of Pipeline\n"
    ++ codes "java.lang.IllegalArgumentException: retry: bad count\nFinished: FAILURE\n"
unfolding settle eval ev through term_at text_within size digits int_wrap equal_within
no_try_log = refl

-- `sh(returnStatus: 1)`
abbrev bad_before_missing : List Node
bad_before_missing =
    step "sh" (entry "returnStatus" (number 1) ∷ [])
    ∷ []

pub bad_before_missing_log : log_of bad_before_missing []
    ≡ codes "[Pipeline] Start of Pipeline\n[Pipeline] End of Pipeline\n"
    ++ codes "java.lang.IllegalArgumentException: sh: bad returnStatus\nFinished: FAILURE\n"
unfolding settle eval ev through term_at text_within size digits int_wrap equal_within
bad_before_missing_log = refl

-- `sh(returnStdout: 'a', returnStatus: 1, script: 'x')`: by position of the argument
abbrev first_bad : List Node
first_bad =
    step "sh" (entry "returnStdout" (text "a") ∷ entry "returnStatus" (number 1) ∷ entry "script" (text "x") ∷ [])
    ∷ []

pub first_bad_log : log_of first_bad []
    ≡ codes "[Pipeline] Start of Pipeline\n[Pipeline] End of Pipeline\n"
    ++ codes "java.lang.IllegalArgumentException: sh: bad returnStdout\nFinished: FAILURE\n"
unfolding settle eval ev through term_at text_within size digits int_wrap equal_within
first_bad_log = refl

-- `sh(script: 'x', returnStatus: true, returnStdout: true)`
abbrev both_returned : List Node
both_returned =
    step "sh" (entry "script" (text "x") ∷ entry "returnStatus" (truth) ∷ entry "returnStdout" (truth) ∷ [])
    ∷ []

pub both_returned_log : log_of both_returned []
    ≡ codes "[Pipeline] Start of Pipeline\n[Pipeline] End of Pipeline\n"
    ++ codes "java.lang.IllegalArgumentException: sh: bad returnStdout\nFinished: FAILURE\n"
unfolding settle eval ev through term_at text_within size digits int_wrap equal_within
both_returned_log = refl

-- `echo()`
abbrev missing_message : List Node
missing_message =
    step "echo" []
    ∷ []

pub missing_message_log : log_of missing_message []
    ≡ codes "[Pipeline] Start of Pipeline\n[Pipeline] End of Pipeline\n"
    ++ codes "java.lang.IllegalArgumentException: echo: missing message\nFinished: FAILURE\n"
unfolding settle eval ev through term_at text_within size digits int_wrap equal_within
missing_message_log = refl

-- `stage()`
abbrev missing_before_body : List Node
missing_before_body =
    step "stage" []
    ∷ []

pub missing_before_body_log : log_of missing_before_body []
    ≡ codes "[Pipeline] Start of Pipeline\n[Pipeline] End of Pipeline\n"
    ++ codes "java.lang.IllegalArgumentException: stage: missing name\nFinished: FAILURE\n"
unfolding settle eval ev through term_at text_within size digits int_wrap equal_within
missing_before_body_log = refl

-- `stage 'x'`
abbrev needs_a_body : List Node
needs_a_body =
    step "stage" (text "x" ∷ [])
    ∷ []

pub needs_a_body_log : log_of needs_a_body []
    ≡ codes "[Pipeline] Start of Pipeline\n[Pipeline] End of Pipeline\n"
    ++ codes "java.lang.IllegalArgumentException: stage: needs a body\nFinished: FAILURE\n"
unfolding settle eval ev through term_at text_within size digits int_wrap equal_within
needs_a_body_log = refl

-- `echo('a') { }`
abbrev takes_no_body : List Node
takes_no_body =
    step "echo" (text "a" ∷ closure [] ∷ [])
    ∷ []

pub takes_no_body_log : log_of takes_no_body []
    ≡ codes "[Pipeline] Start of Pipeline\n[Pipeline] End of Pipeline\n"
    ++ codes "java.lang.IllegalArgumentException: echo: takes no body\nFinished: FAILURE\n"
unfolding settle eval ev through term_at text_within size digits int_wrap equal_within
takes_no_body_log = refl

-- `node('a b')`
abbrev body_before_label : List Node
body_before_label =
    step "node" (text "a b" ∷ [])
    ∷ []

pub body_before_label_log : log_of body_before_label []
    ≡ codes "[Pipeline] Start of Pipeline\n[Pipeline] End of Pipeline\n"
    ++ codes "java.lang.IllegalArgumentException: node: needs a body\nFinished: FAILURE\n"
unfolding settle eval ev through term_at text_within size digits int_wrap equal_within
body_before_label_log = refl

-- `withEnv(['A']) { }`
abbrev bad_overrides : List Node
bad_overrides =
    step "withEnv" (list (text "A" ∷ []) ∷ closure [] ∷ [])
    ∷ []

pub bad_overrides_log : log_of bad_overrides []
    ≡ codes "[Pipeline] Start of Pipeline\n[Pipeline] End of Pipeline\n"
    ++ codes "java.lang.IllegalArgumentException: withEnv: bad overrides\nFinished: FAILURE\n"
unfolding settle eval ev through term_at text_within size digits int_wrap equal_within
bad_overrides_log = refl

-- `withEnv(['=a']) { }`
abbrev override_without_a_name : List Node
override_without_a_name =
    step "withEnv" (list (text "=a" ∷ []) ∷ closure [] ∷ [])
    ∷ []

pub override_without_a_name_log : log_of override_without_a_name []
    ≡ codes "[Pipeline] Start of Pipeline\n[Pipeline] End of Pipeline\n"
    ++ codes "java.lang.IllegalArgumentException: withEnv: bad overrides\nFinished: FAILURE\n"
unfolding settle eval ev through term_at text_within size digits int_wrap equal_within
override_without_a_name_log = refl

-- `withEnv(['PATH+X=/b']) { }`
abbrev override_with_a_plus : List Node
override_with_a_plus =
    step "withEnv" (list (text "PATH+X=/b" ∷ []) ∷ closure [] ∷ [])
    ∷ []

pub override_with_a_plus_log : log_of override_with_a_plus []
    ≡ codes "[Pipeline] Start of Pipeline\n[Pipeline] End of Pipeline\n"
    ++ codes "java.lang.IllegalArgumentException: withEnv: bad overrides\nFinished: FAILURE\n"
unfolding settle eval ev through term_at text_within size digits int_wrap equal_within
override_with_a_plus_log = refl

-- `catchError(buildResult: 'GOOD') { }`
abbrev bad_result : List Node
bad_result =
    step "catchError" (entry "buildResult" (text "GOOD") ∷ closure [] ∷ [])
    ∷ []

pub bad_result_log : log_of bad_result []
    ≡ codes "[Pipeline] Start of Pipeline\n[Pipeline] End of Pipeline\n"
    ++ codes "java.lang.IllegalArgumentException: catchError: bad buildResult\nFinished: FAILURE\n"
unfolding settle eval ev through term_at text_within size digits int_wrap equal_within
bad_result_log = refl

-- `input(message: 'm', id: '')`
abbrev empty_id : List Node
empty_id =
    step "input" (entry "message" (text "m") ∷ entry "id" (text "") ∷ [])
    ∷ []

pub empty_id_log : log_of empty_id []
    ≡ codes "[Pipeline] Start of Pipeline\n[Pipeline] End of Pipeline\n"
    ++ codes "java.lang.IllegalArgumentException: input: bad id\nFinished: FAILURE\n"
unfolding settle eval ev through term_at text_within size digits int_wrap equal_within
empty_id_log = refl

-- `input(message: 'm', id: 'a b')`
abbrev id_with_a_blank : List Node
id_with_a_blank =
    step "input" (entry "message" (text "m") ∷ entry "id" (text "a b") ∷ [])
    ∷ []

pub id_with_a_blank_log : log_of id_with_a_blank []
    ≡ codes "[Pipeline] Start of Pipeline\n[Pipeline] End of Pipeline\n"
    ++ codes "java.lang.IllegalArgumentException: input: bad id\nFinished: FAILURE\n"
unfolding settle eval ev through term_at text_within size digits int_wrap equal_within
id_with_a_blank_log = refl

-- `parallel a: { }, b: 1`
abbrev branch_that_is_no_closure : List Node
branch_that_is_no_closure =
    step "parallel" (entry "a" (closure []) ∷ entry "b" (number 1) ∷ [])
    ∷ []

pub branch_that_is_no_closure_log : log_of branch_that_is_no_closure []
    ≡ codes "[Pipeline] Start of Pipeline\n[Pipeline] End of Pipeline\n"
    ++ codes "java.lang.IllegalArgumentException: parallel: bad b\nFinished: FAILURE\n"
unfolding settle eval ev through term_at text_within size digits int_wrap equal_within
branch_that_is_no_closure_log = refl

-- `parallel failFast: true, a: { }`
abbrev fail_fast : List Node
fail_fast =
    step "parallel" (entry "failFast" (truth) ∷ entry "a" (closure []) ∷ [])
    ∷ []

pub fail_fast_log : log_of fail_fast []
    ≡ codes "[Pipeline] Start of Pipeline\n[Pipeline] End of Pipeline\n"
    ++ codes "java.lang.IllegalArgumentException: parallel: bad failFast\nFinished: FAILURE\n"
unfolding settle eval ev through term_at text_within size digits int_wrap equal_within
fail_fast_log = refl

-- `parallel 5`
abbrev branches_of_no_map : List Node
branches_of_no_map =
    step "parallel" (number 5 ∷ [])
    ∷ []

pub branches_of_no_map_log : log_of branches_of_no_map []
    ≡ codes "[Pipeline] Start of Pipeline\n[Pipeline] End of Pipeline\n"
    ++ codes "java.lang.IllegalArgumentException: parallel: bad branches\nFinished: FAILURE\n"
unfolding settle eval ev through term_at text_within size digits int_wrap equal_within
branches_of_no_map_log = refl

-- `println()`
abbrev no_value : List Node
no_value =
    step "println" []
    ∷ []

pub no_value_log : log_of no_value []
    ≡ codes "[Pipeline] Start of Pipeline\n[Pipeline] End of Pipeline\n"
    ++ codes "java.lang.IllegalArgumentException: println: missing value\nFinished: FAILURE\n"
unfolding settle eval ev through term_at text_within size digits int_wrap equal_within
no_value_log = refl

-- `println([a: 1])`, `println a: 1`: a single map is its value, and it makes no flow node
abbrev println_of_a_map : List Node
println_of_a_map =
    step "println" (map_of (entry "a" (number 1) ∷ []) ∷ [])
    ∷ step "println" (entry "a" (number 1) ∷ [])
    ∷ []

pub println_of_a_map_log : log_of println_of_a_map []
    ≡ codes "[Pipeline] Start of Pipeline\n[a:1]\n[a:1]\n[Pipeline] End of Pipeline\nFinished: SUCCESS\n"
unfolding settle eval ev through term_at text_within size digits int_wrap equal_within
println_of_a_map_log = refl
