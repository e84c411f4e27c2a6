-- Limits that end a build. They are met with small numbers here; this product's own numbers are another such setting.
use Rattle.std.specs.Prelude.{◌≡◌, refl, [], ◌∷◌, ◌++◌, codes, List}
use Rattle.std.specs.Fmt.{digits}
use Rattle.std.specs.Int.{int_wrap}
use Rattle.model_syntax.specs.Nodes.{Node, size}
use Rattle.model_values.specs.Limits.{product_limits}
use Rattle.model_run.specs.World.{run_limits}
use Rattle.std.specs.Str.{is_utf8, chars}
use Rattle.std.specs.Str.Lossy.{utf8_lossy, utf8_valid_len}
use Rattle.model_values.specs.TextOf.{text_within}
use Rattle.model_values.specs.Equality.{equal_within}
use Rattle.model_run.specs.Meaning.{eval, ev}
use Rattle.model_run.specs.State.{through}
use Rattle.model_run.specs.Terms.{term_at}
use Rattle.model_run.specs.World.{settle}
use Rattle.pipeline_model.proofs.ScriptWords.{text, number, truth, variable, written, call, entry, list, closure, equals, statement, step, echo, declare, if_then, while_loop, try_block, catch_throwables, finally_block, give, function, granted, logged, kept, exited, build_in, log_in, graph_of, minus}

-- `while (true) { }`
abbrev endless : List Node
endless =
    while_loop truth []
    ∷ []

pub endless_log : log_in (record run_limits { values = record product_limits { nodes = 20 } }) endless []
    ≡ codes "[Pipeline] Start of Pipeline\n[Pipeline] End of Pipeline\nLimit reached: nodes evaluated\n"
    ++ codes "Finished: FAILURE\n"
unfolding settle eval ev through term_at text_within size digits int_wrap equal_within
endless_log = refl

-- `echo 'hi'`: the statement, the text and the call are three nodes
abbrev one_echo : List Node
one_echo =
    echo (text "hi")
    ∷ []

pub three_nodes : log_in (record run_limits { values = record product_limits { nodes = 3 } }) one_echo []
    ≡ codes "[Pipeline] Start of Pipeline\n[Pipeline] echo\nhi\n[Pipeline] End of Pipeline\nFinished: SUCCESS\n"
unfolding settle eval ev through term_at text_within size digits int_wrap equal_within
three_nodes = refl

pub two_nodes : log_in (record run_limits { values = record product_limits { nodes = 2 } }) one_echo []
    ≡ codes "[Pipeline] Start of Pipeline\n[Pipeline] End of Pipeline\nLimit reached: nodes evaluated\n"
    ++ codes "Finished: FAILURE\n"
unfolding settle eval ev through term_at text_within size digits int_wrap equal_within
two_nodes = refl

-- `def f(n) { if (n == 1) { return 1 }; return f(n - 1) }`, `echo "${f(3)}"`
abbrev three_calls : List Node
three_calls =
    function "f" ("n" ∷ []) (if_then (equals (variable "n") (number 1)) (give (number 1) ∷ []) ∷ give (call "f" (minus (variable "n") (number 1) ∷ [])) ∷ [])
    ∷ echo (written (call "f" (number 3 ∷ []) ∷ []))
    ∷ []

pub three_calls_open : log_in (record run_limits { calls = 3 }) three_calls []
    ≡ codes "[Pipeline] Start of Pipeline\n[Pipeline] echo\n1\n[Pipeline] End of Pipeline\nFinished: SUCCESS\n"
unfolding settle eval ev through term_at text_within size digits int_wrap equal_within
three_calls_open = refl

pub two_calls_open : log_in (record run_limits { calls = 2 }) three_calls []
    ≡ codes "[Pipeline] Start of Pipeline\n[Pipeline] End of Pipeline\nLimit reached: call depth\n"
    ++ codes "Finished: FAILURE\n"
unfolding settle eval ev through term_at text_within size digits int_wrap equal_within
two_calls_open = refl

-- the last lines of a build are outside the limit
pub log_of_48_bytes : log_in (record run_limits { log = 48 }) one_echo []
    ≡ codes "[Pipeline] Start of Pipeline\n[Pipeline] echo\nhi\n[Pipeline] End of Pipeline\nFinished: SUCCESS\n"
unfolding settle eval ev through term_at text_within size digits int_wrap equal_within
log_of_48_bytes = refl

pub log_of_47_bytes : log_in (record run_limits { log = 47 }) one_echo []
    ≡ codes "[Pipeline] Start of Pipeline\n[Pipeline] echo\n[Pipeline] End of Pipeline\nLimit reached: log size\n"
    ++ codes "Finished: FAILURE\n"
unfolding settle eval ev through term_at text_within size digits int_wrap equal_within
log_of_47_bytes = refl

-- a flow node and its line are made together
pub no_node_without_its_line : graph_of (build_in (record run_limits { log = 44 }) one_echo [])
    ≡ codes "2 start\n3 end <- 2\n"
unfolding settle eval ev through term_at text_within size digits int_wrap equal_within
no_node_without_its_line = refl

pub two_flow_nodes : log_in (record run_limits { flow_nodes = 2 }) one_echo []
    ≡ codes "[Pipeline] Start of Pipeline\n[Pipeline] echo\nhi\n[Pipeline] End of Pipeline\nFinished: SUCCESS\n"
unfolding settle eval ev through term_at text_within size digits int_wrap equal_within
two_flow_nodes = refl

pub one_flow_node : log_in (record run_limits { flow_nodes = 1 }) one_echo []
    ≡ codes "[Pipeline] Start of Pipeline\n[Pipeline] End of Pipeline\nLimit reached: flow nodes\n"
    ++ codes "Finished: FAILURE\n"
unfolding settle eval ev through term_at text_within size digits int_wrap equal_within
one_flow_node = refl

-- `parallel a: { echo 'x' }, b: { echo 'y' }`
abbrev two_branches : List Node
two_branches =
    step "parallel" (entry "a" (closure (echo (text "x") ∷ [])) ∷ entry "b" (closure (echo (text "y") ∷ [])) ∷ [])
    ∷ []

pub three_threads : log_in (record run_limits { threads = 3 }) two_branches []
    ≡ codes "[Pipeline] Start of Pipeline\n[Pipeline] parallel\n[Pipeline] { (Branch: a)\n"
    ++ codes "[Pipeline] { (Branch: b)\n[Pipeline] echo\nx\n[Pipeline] }\n[Pipeline] echo\ny\n[Pipeline] }\n"
    ++ codes "[Pipeline] // parallel\n[Pipeline] End of Pipeline\nFinished: SUCCESS\n"
unfolding settle eval ev through term_at text_within size digits int_wrap equal_within
three_threads = refl

pub two_threads : log_in (record run_limits { threads = 2 }) two_branches []
    ≡ codes "[Pipeline] Start of Pipeline\n[Pipeline] parallel\n[Pipeline] { (Branch: a)\n"
    ++ codes "[Pipeline] { (Branch: b)\n[Pipeline] End of Pipeline\nLimit reached: green threads\n"
    ++ codes "Finished: FAILURE\n"
unfolding settle eval ev through term_at text_within size digits int_wrap equal_within
two_threads = refl

-- `parallel a: { input 'x' }, b: { while (true) { } }`: the end has the last nodes of all living threads as parents
abbrev waiting_branches : List Node
waiting_branches =
    step "parallel" (entry "a" (closure (step "input" (text "x" ∷ []) ∷ [])) ∷ entry "b" (closure (while_loop truth [] ∷ [])) ∷ [])
    ∷ []

pub parents_of_the_end : graph_of (build_in (record run_limits { values = record product_limits { nodes = 40 } }) waiting_branches [])
    ≡ codes "2 start\n3 block parallel <- 2\n4 body Branch: a <- 3\n5 body Branch: b <- 3\n6 atom input <- 4\n"
    ++ codes "7 end <- 3 6 5\n"
unfolding settle eval ev through term_at text_within size digits int_wrap equal_within
parents_of_the_end = refl

-- `node { sh(script: 'x', returnStdout: true) }`
abbrev kept_task : List Node
kept_task =
    step "node" (closure (step "sh" (entry "script" (text "x") ∷ entry "returnStdout" truth ∷ []) ∷ []) ∷ [])
    ∷ []

pub kept_output_of_four_bytes : log_in (record run_limits { values = record product_limits { text = 4 } }) kept_task (granted 1 0 ∷ kept 2 0 "abc" ∷ kept 2 3 "d" ∷ exited 2 0 ∷ [])
    ≡ codes "[Pipeline] Start of Pipeline\n[Pipeline] node\nRunning on m in /w/workspace/demo\n[Pipeline] {\n"
    ++ codes "[Pipeline] sh\n[Pipeline] }\n[Pipeline] // node\n[Pipeline] End of Pipeline\nFinished: SUCCESS\n"
unfolding settle eval ev through term_at text_within size digits int_wrap equal_within utf8_lossy utf8_valid_len is_utf8 chars lib.Utf8.encode
kept_output_of_four_bytes = refl

-- what is kept of a task's output is a text
pub kept_output_of_five_bytes : log_in (record run_limits { values = record product_limits { text = 4 } }) kept_task (granted 1 0 ∷ kept 2 0 "abc" ∷ kept 2 3 "de" ∷ [])
    ≡ codes "[Pipeline] Start of Pipeline\n[Pipeline] node\nRunning on m in /w/workspace/demo\n[Pipeline] {\n"
    ++ codes "[Pipeline] sh\n[Pipeline] End of Pipeline\nLimit reached: text length\nFinished: FAILURE\n"
unfolding settle eval ev through term_at text_within size digits int_wrap equal_within
kept_output_of_five_bytes = refl

-- `node { sh 'x' }`
abbrev logged_task : List Node
logged_task =
    step "node" (closure (step "sh" (text "x" ∷ []) ∷ []) ∷ [])
    ∷ []

-- 106 bytes of lines, and 11 of output; the next line does not fit
pub output_up_to_the_log_limit : log_in (record run_limits { log = 117 }) logged_task (granted 1 0 ∷ logged 2 0 "abcdefghij\n" ∷ exited 2 0 ∷ [])
    ≡ codes "[Pipeline] Start of Pipeline\n[Pipeline] node\nRunning on m in /w/workspace/demo\n[Pipeline] {\n"
    ++ codes "[Pipeline] sh\nabcdefghij\n[Pipeline] End of Pipeline\nLimit reached: log size\nFinished: FAILURE\n"
unfolding settle eval ev through term_at text_within size digits int_wrap equal_within
output_up_to_the_log_limit = refl

pub output_past_the_log_limit : log_in (record run_limits { log = 116 }) logged_task (granted 1 0 ∷ logged 2 0 "abcdefghij\n" ∷ [])
    ≡ codes "[Pipeline] Start of Pipeline\n[Pipeline] node\nRunning on m in /w/workspace/demo\n[Pipeline] {\n"
    ++ codes "[Pipeline] sh\n[Pipeline] End of Pipeline\nLimit reached: log size\nFinished: FAILURE\n"
unfolding settle eval ev through term_at text_within size digits int_wrap equal_within
output_past_the_log_limit = refl

-- `[1, 2]`
abbrev list_of_two : List Node
list_of_two =
    statement (list (number 1 ∷ number 2 ∷ []))
    ∷ []

pub collection_size : log_in (record run_limits { values = record product_limits { entries = 1 } }) list_of_two []
    ≡ codes "[Pipeline] Start of Pipeline\n[Pipeline] End of Pipeline\nLimit reached: collection size\n"
    ++ codes "Finished: FAILURE\n"
unfolding settle eval ev through term_at text_within size digits int_wrap equal_within
collection_size = refl

-- `echo "${[[1]]}"`
abbrev list_in_a_list : List Node
list_in_a_list =
    echo (written (list (list (number 1 ∷ []) ∷ []) ∷ []))
    ∷ []

pub value_depth : log_in (record run_limits { values = record product_limits { depth = 1 } }) list_in_a_list []
    ≡ codes "[Pipeline] Start of Pipeline\n[Pipeline] End of Pipeline\nLimit reached: value depth\n"
    ++ codes "Finished: FAILURE\n"
unfolding settle eval ev through term_at text_within size digits int_wrap equal_within
value_depth = refl

-- `def x = 'hello'`: a text and a variable
abbrev declared_text : List Node
declared_text =
    declare "x" (text "hello")
    ∷ []

pub two_cells : log_in (record run_limits { values = record product_limits { cells = 2 } }) declared_text []
    ≡ codes "[Pipeline] Start of Pipeline\n[Pipeline] End of Pipeline\nFinished: SUCCESS\n"
unfolding settle eval ev through term_at text_within size digits int_wrap equal_within
two_cells = refl

pub one_cell : log_in (record run_limits { values = record product_limits { cells = 1 } }) declared_text []
    ≡ codes "[Pipeline] Start of Pipeline\n[Pipeline] End of Pipeline\nLimit reached: cells\nFinished: FAILURE\n"
unfolding settle eval ev through term_at text_within size digits int_wrap equal_within
one_cell = refl

-- 16 bytes a cell, and those of the text
pub heap_of_37_bytes : log_in (record run_limits { values = record product_limits { bytes = 37 } }) declared_text []
    ≡ codes "[Pipeline] Start of Pipeline\n[Pipeline] End of Pipeline\nFinished: SUCCESS\n"
unfolding settle eval ev through term_at text_within size digits int_wrap equal_within
heap_of_37_bytes = refl

pub heap_of_36_bytes : log_in (record run_limits { values = record product_limits { bytes = 36 } }) declared_text []
    ≡ codes "[Pipeline] Start of Pipeline\n[Pipeline] End of Pipeline\nLimit reached: heap bytes\n"
    ++ codes "Finished: FAILURE\n"
unfolding settle eval ev through term_at text_within size digits int_wrap equal_within
heap_of_36_bytes = refl

pub text_of_four_bytes : log_in (record run_limits { values = record product_limits { text = 4 } }) declared_text []
    ≡ codes "[Pipeline] Start of Pipeline\n[Pipeline] End of Pipeline\nLimit reached: text length\n"
    ++ codes "Finished: FAILURE\n"
unfolding settle eval ev through term_at text_within size digits int_wrap equal_within
text_of_four_bytes = refl

-- `try { while (true) { } } catch (Throwable t) { echo 'c' } finally { echo 'f' }`: no script catches a limit
abbrev no_catch : List Node
no_catch =
    try_block (while_loop truth [] ∷ []) (catch_throwables "t" (echo (text "c") ∷ []) ∷ finally_block (echo (text "f") ∷ []) ∷ [])
    ∷ []

pub no_catch_log : log_in (record run_limits { values = record product_limits { nodes = 20 } }) no_catch []
    ≡ codes "[Pipeline] Start of Pipeline\n[Pipeline] End of Pipeline\nLimit reached: nodes evaluated\n"
    ++ codes "Finished: FAILURE\n"
unfolding settle eval ev through term_at text_within size digits int_wrap equal_within
no_catch_log = refl

-- `catchError(buildResult: 'ABORTED') { error 'x' }`, `while (true) { }`: a result only gets worse
abbrev worse_already : List Node
worse_already =
    step "catchError" (entry "buildResult" (text "ABORTED") ∷ closure (step "error" (text "x" ∷ []) ∷ []) ∷ [])
    ∷ while_loop truth []
    ∷ []

pub worse_already_log : log_in (record run_limits { values = record product_limits { nodes = 40 } }) worse_already []
    ≡ codes "[Pipeline] Start of Pipeline\n[Pipeline] catchError\n[Pipeline] {\n[Pipeline] error\n[Pipeline] }\n"
    ++ codes "ERROR: x\n[Pipeline] // catchError\n[Pipeline] End of Pipeline\nLimit reached: nodes evaluated\n"
    ++ codes "Finished: ABORTED\n"
unfolding settle eval ev through term_at text_within size digits int_wrap equal_within
worse_already_log = refl
