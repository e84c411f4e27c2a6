-- What a build holds while it waits and when it has ended, and limits that stand for one event or one thread.
use Rattle.std.specs.Prelude.{◌≡◌, refl, [], ◌∷◌, ◌++◌, codes, List, Some, None, true, false}
use Rattle.std.specs.Fmt.{digits}
use Rattle.std.specs.Int.{int_wrap}
use Rattle.model_syntax.specs.Nodes.{Node, size}
use Rattle.model_run.specs.declared.request.Request.TheVariants.{Node as NodeRequest, Input as InputRequest}
use Rattle.model_run.specs.declared.result.BuildResult.TheVariants.{Success, Failure}
use Rattle.model_values.specs.Limits.{product_limits}
use Rattle.model_run.specs.World.{run_limits}
use Rattle.model_values.specs.TextOf.{text_within}
use Rattle.model_values.specs.Equality.{equal_within}
use Rattle.model_run.specs.Meaning.{eval, ev}
use Rattle.model_run.specs.State.{through}
use Rattle.model_run.specs.Terms.{term_at}
use Rattle.model_run.specs.World.{settle}
use Rattle.pipeline_model.proofs.ScriptWords.{text, number, truth, variable, written, entry, list, closure, suffixed, method, equals, statement, step, echo, declare, while_loop, try_block, catch_throwables, function, build, log_of, granted, proceeds, build_in, log_in}

-- `node(' ') { }`: a blank label is kept as none
abbrev blank_label : List Node
blank_label =
    step "node" (text " " ∷ closure [] ∷ [])
    ∷ []

pub blank_label_request : (build blank_label []).shared.requests
    ≡ record { number = 1; thread = 0; request = NodeRequest None } ∷ []
unfolding settle eval ev through term_at text_within size digits int_wrap equal_within
blank_label_request = refl

-- `node('linux && !win') { }`: the text of the label
abbrev linux_label : List Node
linux_label =
    step "node" (text "linux && !win" ∷ closure [] ∷ [])
    ∷ []

pub linux_label_request : (build linux_label []).shared.requests
    ≡ record { number = 1; thread = 0; request = NodeRequest (Some (codes "linux && !win")) } ∷ []
unfolding settle eval ev through term_at text_within size digits int_wrap equal_within
linux_label_request = refl

-- `parallel a: { }, b: { }`, `parallel c: { input 'x' }, d: { input 'y' }`: threads and requests are numbered in order of their making
abbrev later_branches : List Node
later_branches =
    step "parallel" (entry "a" (closure []) ∷ entry "b" (closure []) ∷ [])
    ∷ step "parallel" (entry "c" (closure (step "input" (text "x" ∷ []) ∷ [])) ∷ entry "d" (closure (step "input" (text "y" ∷ []) ∷ [])) ∷ [])
    ∷ []

pub later_branches_requests : (build later_branches []).shared.requests
    ≡ record { number = 1; thread = 3; request = InputRequest (codes "1") }
    ∷ record { number = 2; thread = 4; request = InputRequest (codes "2") } ∷ []
unfolding settle eval ev through term_at text_within size digits int_wrap equal_within
later_branches_requests = refl

pub answered_request_is_closed : (build later_branches (proceeds 1 "ann" ∷ [])).shared.requests
    ≡ record { number = 2; thread = 4; request = InputRequest (codes "2") } ∷ []
unfolding settle eval ev through term_at text_within size digits int_wrap equal_within
answered_request_is_closed = refl

-- `parallel a: { node { sh 'x' } }, b: { input 'go?'; while (true) { } }`: an end closes all requests and holds nothing
abbrev limit_beside_a_node : List Node
limit_beside_a_node =
    step "parallel" (entry "a" (closure (step "node" (closure (step "sh" (text "x" ∷ []) ∷ []) ∷ []) ∷ [])) ∷ entry "b" (closure (step "input" (text "go?" ∷ []) ∷ while_loop truth [] ∷ [])) ∷ [])
    ∷ []

pub limit_beside_a_node_requests : (build_in (record run_limits { values = record product_limits { nodes = 30 } }) limit_beside_a_node (granted 1 0 ∷ proceeds 2 "ann" ∷ [])).shared.requests
    ≡ []
unfolding settle eval ev through term_at text_within size digits int_wrap equal_within
limit_beside_a_node_requests = refl

pub limit_beside_a_node_held : (build_in (record run_limits { values = record product_limits { nodes = 30 } }) limit_beside_a_node (granted 1 0 ∷ proceeds 2 "ann" ∷ [])).shared.held
    ≡ []
unfolding settle eval ev through term_at text_within size digits int_wrap equal_within
limit_beside_a_node_held = refl

pub limit_beside_a_node_result : (build_in (record run_limits { values = record product_limits { nodes = 30 } }) limit_beside_a_node (granted 1 0 ∷ proceeds 2 "ann" ∷ [])).shared.result
    ≡ Failure
unfolding settle eval ev through term_at text_within size digits int_wrap equal_within
limit_beside_a_node_result = refl

pub limit_beside_a_node_ended : (build_in (record run_limits { values = record product_limits { nodes = 30 } }) limit_beside_a_node (granted 1 0 ∷ proceeds 2 "ann" ∷ [])).ended
    ≡ true
unfolding settle eval ev through term_at text_within size digits int_wrap equal_within
limit_beside_a_node_ended = refl

pub limit_beside_a_node_log : log_in (record run_limits { values = record product_limits { nodes = 30 } }) limit_beside_a_node (granted 1 0 ∷ proceeds 2 "ann" ∷ [])
    ≡ codes "[Pipeline] Start of Pipeline\n[Pipeline] parallel\n[Pipeline] { (Branch: a)\n"
    ++ codes "[Pipeline] { (Branch: b)\n[Pipeline] node\n[Pipeline] input\ngo?\nProceed or Abort\n"
    ++ codes "Running on m in /w/workspace/demo\n[Pipeline] {\n[Pipeline] sh\nApproved by ann\n"
    ++ codes "[Pipeline] End of Pipeline\nLimit reached: nodes evaluated\nFinished: FAILURE\n"
unfolding settle eval ev through term_at text_within size digits int_wrap equal_within
limit_beside_a_node_log = refl

-- `input 'a'`, `echo 'b'`: three nodes for the start, and three for the answer
abbrev two_events : List Node
two_events =
    step "input" (text "a" ∷ [])
    ∷ echo (text "b")
    ∷ []

pub nodes_of_each_event : log_in (record run_limits { values = record product_limits { nodes = 3 } }) two_events (proceeds 1 "ann" ∷ [])
    ≡ codes "[Pipeline] Start of Pipeline\n[Pipeline] input\na\nProceed or Abort\nApproved by ann\n"
    ++ codes "[Pipeline] echo\nb\n[Pipeline] End of Pipeline\nFinished: SUCCESS\n"
unfolding settle eval ev through term_at text_within size digits int_wrap equal_within
nodes_of_each_event = refl

-- `def f() { 1 }`, `stage('s') { parallel a: { f() } }`: a branch has its own count of open calls
abbrev calls_of_a_branch : List Node
calls_of_a_branch =
    function "f" [] (statement (number 1) ∷ [])
    ∷ step "stage" (text "s" ∷ closure (step "parallel" (entry "a" (closure (step "f" [] ∷ [])) ∷ []) ∷ []) ∷ [])
    ∷ []

pub two_calls_in_a_branch : log_in (record run_limits { calls = 2 }) calls_of_a_branch []
    ≡ codes "[Pipeline] Start of Pipeline\n[Pipeline] stage\n[Pipeline] { (s)\n[Pipeline] parallel\n"
    ++ codes "[Pipeline] { (Branch: a)\n[Pipeline] }\n[Pipeline] // parallel\n[Pipeline] }\n[Pipeline] // stage\n"
    ++ codes "[Pipeline] End of Pipeline\nFinished: SUCCESS\n"
unfolding settle eval ev through term_at text_within size digits int_wrap equal_within
two_calls_in_a_branch = refl

-- `def f() { foo() }`, `3.times { try { f() } catch (Throwable t) { } }`: a call that ended is open no more, by a throw too
abbrev calls_that_ended : List Node
calls_that_ended =
    function "f" [] (step "foo" [] ∷ [])
    ∷ statement (suffixed (number 3) (method "times" (closure (try_block (step "f" [] ∷ []) (catch_throwables "t" [] ∷ []) ∷ []) ∷ []) ∷ []))
    ∷ []

pub two_calls_at_once : log_in (record run_limits { calls = 2 }) calls_that_ended []
    ≡ codes "[Pipeline] Start of Pipeline\n[Pipeline] End of Pipeline\nFinished: SUCCESS\n"
unfolding settle eval ev through term_at text_within size digits int_wrap equal_within
two_calls_at_once = refl

pub one_call_at_once : log_in (record run_limits { calls = 1 }) calls_that_ended []
    ≡ codes "[Pipeline] Start of Pipeline\n[Pipeline] End of Pipeline\nLimit reached: call depth\n"
    ++ codes "Finished: FAILURE\n"
unfolding settle eval ev through term_at text_within size digits int_wrap equal_within
one_call_at_once = refl

-- `def l = []`, `l.add(l)`, `echo "${l}"`
abbrev list_in_itself : List Node
list_in_itself =
    declare "l" (list [])
    ∷ statement (suffixed (variable "l") (method "add" (variable "l" ∷ []) ∷ []))
    ∷ echo (written (variable "l" ∷ []))
    ∷ []

pub list_in_itself_log : log_of list_in_itself []
    ≡ codes "[Pipeline] Start of Pipeline\n[Pipeline] End of Pipeline\nLimit reached: value depth\n"
    ++ codes "Finished: FAILURE\n"
unfolding settle eval ev through term_at text_within size digits int_wrap equal_within
list_in_itself_log = refl

-- `def l = []`, `l.add(l)`, `println l`
abbrev list_in_itself_printed : List Node
list_in_itself_printed =
    declare "l" (list [])
    ∷ statement (suffixed (variable "l") (method "add" (variable "l" ∷ []) ∷ []))
    ∷ step "println" (variable "l" ∷ [])
    ∷ []

pub list_in_itself_printed_log : log_of list_in_itself_printed []
    ≡ codes "[Pipeline] Start of Pipeline\n[Pipeline] End of Pipeline\nLimit reached: value depth\n"
    ++ codes "Finished: FAILURE\n"
unfolding settle eval ev through term_at text_within size digits int_wrap equal_within
list_in_itself_printed_log = refl

-- `[[1]] == [[1]]`
abbrev equal_depths : List Node
equal_depths =
    statement (equals (list (list (number 1 ∷ []) ∷ [])) (list (list (number 1 ∷ []) ∷ [])))
    ∷ []

pub equality_of_depth_two : log_in (record run_limits { values = record product_limits { depth = 2 } }) equal_depths []
    ≡ codes "[Pipeline] Start of Pipeline\n[Pipeline] End of Pipeline\nFinished: SUCCESS\n"
unfolding settle eval ev through term_at text_within size digits int_wrap equal_within
equality_of_depth_two = refl

pub equality_of_depth_one : log_in (record run_limits { values = record product_limits { depth = 1 } }) equal_depths []
    ≡ codes "[Pipeline] Start of Pipeline\n[Pipeline] End of Pipeline\nLimit reached: value depth\n"
    ++ codes "Finished: FAILURE\n"
unfolding settle eval ev through term_at text_within size digits int_wrap equal_within
equality_of_depth_one = refl

-- the statement, three nodes of each list, the operator, and the two pairs of lists, of which the inner one meets the limit
pub count_at_depth_one : (build_in (record run_limits { values = record product_limits { depth = 1 } }) equal_depths []).shared.count ≡ 10
unfolding settle eval ev through term_at text_within size digits int_wrap equal_within
count_at_depth_one = refl

-- `parallel a: { }, b: { }`, `parallel c: { }, d: { }`: threads that ended live no more
abbrev threads_that_ended : List Node
threads_that_ended =
    step "parallel" (entry "a" (closure []) ∷ entry "b" (closure []) ∷ [])
    ∷ step "parallel" (entry "c" (closure []) ∷ entry "d" (closure []) ∷ [])
    ∷ []

pub three_threads_at_once : log_in (record run_limits { threads = 3 }) threads_that_ended []
    ≡ codes "[Pipeline] Start of Pipeline\n[Pipeline] parallel\n[Pipeline] { (Branch: a)\n"
    ++ codes "[Pipeline] { (Branch: b)\n[Pipeline] }\n[Pipeline] }\n[Pipeline] // parallel\n[Pipeline] parallel\n"
    ++ codes "[Pipeline] { (Branch: c)\n[Pipeline] { (Branch: d)\n[Pipeline] }\n[Pipeline] }\n"
    ++ codes "[Pipeline] // parallel\n[Pipeline] End of Pipeline\nFinished: SUCCESS\n"
unfolding settle eval ev through term_at text_within size digits int_wrap equal_within
three_threads_at_once = refl

-- `echo 'hi'` where neither a flow node nor a line has room: the earlier limit of the two
abbrev node_limit_first : List Node
node_limit_first =
    echo (text "hi")
    ∷ []

pub node_limit_first_log : log_in (record run_limits { flow_nodes = 1; log = 29 }) node_limit_first []
    ≡ codes "[Pipeline] Start of Pipeline\n[Pipeline] End of Pipeline\nLimit reached: flow nodes\n"
    ++ codes "Finished: FAILURE\n"
unfolding settle eval ev through term_at text_within size digits int_wrap equal_within
node_limit_first_log = refl

-- `input 'go?'`
abbrev waiting_input : List Node
waiting_input =
    step "input" (text "go?" ∷ [])
    ∷ []

pub result_while_waiting : (build waiting_input []).shared.result
    ≡ Success
unfolding settle eval ev through term_at text_within size digits int_wrap equal_within
result_while_waiting = refl

pub not_ended_while_waiting : (build waiting_input []).ended
    ≡ false
unfolding settle eval ev through term_at text_within size digits int_wrap equal_within
not_ended_while_waiting = refl
