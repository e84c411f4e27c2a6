-- The context of open steps: executors, workspaces, folders and environments.
use Rattle.std.specs.Prelude.{◌≡◌, refl, [], ◌∷◌, ◌++◌, codes, List, false, ℕ}
use Rattle.std.specs.Fmt.{digits}
use Rattle.std.specs.Int.{int_wrap}
use Rattle.model_syntax.specs.Nodes.{Node, size}
use Rattle.model_run.specs.declared.site.Site.{Site}
use Rattle.model_text.specs.declared.pair.Pair.{Pair}
use Rattle.model_run.specs.declared.request.Request.{Request}
use Rattle.model_run.specs.declared.request.Request.TheVariants.{Task as TaskRequest}
use Rattle.model_run.specs.declared.event.Event.TheVariants.{Output as OutputEvent}
use Rattle.model_run.specs.declared.event.Stream.TheVariants.{Out as OutStream}
use Rattle.model_run.specs.Grants.{pair}
use Rattle.std.specs.Str.{is_utf8, chars}
use Rattle.std.specs.Str.Lossy.{utf8_lossy, utf8_valid_len, utf8_error_len}
use Rattle.model_values.specs.TextOf.{text_within}
use Rattle.model_values.specs.Equality.{equal_within}
use Rattle.model_run.specs.Meaning.{eval, ev}
use Rattle.model_run.specs.State.{through}
use Rattle.model_run.specs.Terms.{term_at}
use Rattle.model_run.specs.World.{settle}
use Rattle.pipeline_model.proofs.ScriptWords.{text, number, truth, call, entry, list, closure, step, echo, try_block, catch_exceptions, script, executor, site_of, build, log_of, granted, logged, exited, proceeds, build_on}

-- an open task on an executor of the site with two of them, in this workspace, folder and additional environment
abbrev two_executors : Site
two_executors = site_of (executor 0 "m" "/w" [] 0 ∷ executor 1 "m" "/w" [] 1 ∷ [])

abbrev task_in : ℕ → List ℕ → List ℕ → List ℕ → List Pair → List ℕ → Request
task_in number slot workspace folder env script =
    TaskRequest number workspace folder
    (pair (codes "JOB_NAME") (codes "demo") ∷ pair (codes "BUILD_NUMBER") (codes "1") ∷ pair (codes "NODE_NAME") (codes "m")
    ∷ pair (codes "EXECUTOR_NUMBER") slot ∷ pair (codes "WORKSPACE") workspace ∷ env)
    script false false 0 []

abbrev task : List ℕ → List Pair → List ℕ → Request
task folder env script = task_in 0 (codes "0") (codes "/w/workspace/demo") folder env script

-- `withEnv(['A=b', 'C=']) { node { withEnv(['A=c=d']) { sh 'x' } } }`: the outermost first, and all stay
abbrev environments : List Node
environments =
    step "withEnv" (list (text "A=b" ∷ text "C=" ∷ []) ∷ closure (step "node" (closure (step "withEnv" (list (text "A=c=d" ∷ []) ∷ closure (step "sh" (text "x" ∷ []) ∷ []) ∷ []) ∷ []) ∷ []) ∷ []) ∷ [])
    ∷ []

pub environments_task : (build environments (granted 1 0 ∷ [])).shared.requests
    ≡ record { number = 2; thread = 0; request = task (codes "/w/workspace/demo") (pair (codes "A") (codes "b") ∷ pair (codes "C") [] ∷ pair (codes "A") (codes "c=d") ∷ []) (codes "x") } ∷ []
unfolding settle eval ev through term_at text_within size digits int_wrap equal_within
environments_task = refl

pub environments_log : log_of environments (granted 1 0 ∷ exited 2 0 ∷ [])
    ≡ codes "[Pipeline] Start of Pipeline\n[Pipeline] withEnv\n[Pipeline] {\n[Pipeline] node\n"
    ++ codes "Running on m in /w/workspace/demo\n[Pipeline] {\n[Pipeline] withEnv\n[Pipeline] {\n[Pipeline] sh\n"
    ++ codes "[Pipeline] }\n[Pipeline] // withEnv\n[Pipeline] }\n[Pipeline] // node\n[Pipeline] }\n"
    ++ codes "[Pipeline] // withEnv\n[Pipeline] End of Pipeline\nFinished: SUCCESS\n"
unfolding settle eval ev through term_at text_within size digits int_wrap equal_within
environments_log = refl

-- `node { withEnv(['A=b']) { dir('a') { dir('b') { sh 'x' } } }; sh 'y' }`: folders and environments end with their bodies
abbrev folders : List Node
folders =
    step "node" (closure (step "withEnv" (list (text "A=b" ∷ []) ∷ closure (step "dir" (text "a" ∷ closure (step "dir" (text "b" ∷ closure (step "sh" (text "x" ∷ []) ∷ []) ∷ []) ∷ []) ∷ []) ∷ []) ∷ []) ∷ step "sh" (text "y" ∷ []) ∷ []) ∷ [])
    ∷ []

pub inner_folder : (build folders (granted 1 0 ∷ [])).shared.requests
    ≡ record { number = 2; thread = 0; request = task (codes "/w/workspace/demo/a/b") (pair (codes "A") (codes "b") ∷ []) (codes "x") } ∷ []
unfolding settle eval ev through term_at text_within size digits int_wrap equal_within
inner_folder = refl

pub outer_folder : (build folders (granted 1 0 ∷ exited 2 0 ∷ [])).shared.requests
    ≡ record { number = 3; thread = 0; request = task (codes "/w/workspace/demo") [] (codes "y") } ∷ []
unfolding settle eval ev through term_at text_within size digits int_wrap equal_within
outer_folder = refl

pub folders_log : log_of folders (granted 1 0 ∷ exited 2 0 ∷ exited 3 0 ∷ [])
    ≡ codes "[Pipeline] Start of Pipeline\n[Pipeline] node\nRunning on m in /w/workspace/demo\n[Pipeline] {\n"
    ++ codes "[Pipeline] withEnv\n[Pipeline] {\n[Pipeline] dir\nRunning in /w/workspace/demo/a\n[Pipeline] {\n"
    ++ codes "[Pipeline] dir\nRunning in /w/workspace/demo/a/b\n[Pipeline] {\n[Pipeline] sh\n[Pipeline] }\n"
    ++ codes "[Pipeline] // dir\n[Pipeline] }\n[Pipeline] // dir\n[Pipeline] }\n[Pipeline] // withEnv\n"
    ++ codes "[Pipeline] sh\n[Pipeline] }\n[Pipeline] // node\n[Pipeline] End of Pipeline\nFinished: SUCCESS\n"
unfolding settle eval ev through term_at text_within size digits int_wrap equal_within
folders_log = refl

-- `node { dir('a') { dir('/b') { sh 'x' } } }`: an absolute path replaces the folder
abbrev absolute_folder : List Node
absolute_folder =
    step "node" (closure (step "dir" (text "a" ∷ closure (step "dir" (text "/b" ∷ closure (step "sh" (text "x" ∷ []) ∷ []) ∷ []) ∷ []) ∷ []) ∷ []) ∷ [])
    ∷ []

pub absolute_folder_task : (build absolute_folder (granted 1 0 ∷ [])).shared.requests
    ≡ record { number = 2; thread = 0; request = task (codes "/b") [] (codes "x") } ∷ []
unfolding settle eval ev through term_at text_within size digits int_wrap equal_within
absolute_folder_task = refl

-- `node { try { dir('a') { withEnv(['A=b']) { error 'x' } } } catch (e) { }; sh 'y' }`: a throw leaves the folder and the environment too
abbrev folder_left_by_a_throw : List Node
folder_left_by_a_throw =
    step "node" (closure (try_block (step "dir" (text "a" ∷ closure (step "withEnv" (list (text "A=b" ∷ []) ∷ closure (step "error" (text "x" ∷ []) ∷ []) ∷ []) ∷ []) ∷ []) ∷ []) (catch_exceptions "e" [] ∷ []) ∷ step "sh" (text "y" ∷ []) ∷ []) ∷ [])
    ∷ []

pub folder_left_by_a_throw_task : (build folder_left_by_a_throw (granted 1 0 ∷ [])).shared.requests
    ≡ record { number = 2; thread = 0; request = task (codes "/w/workspace/demo") [] (codes "y") } ∷ []
unfolding settle eval ev through term_at text_within size digits int_wrap equal_within
folder_left_by_a_throw_task = refl

-- `node { node { sh 'x' }; sh 'y' }`: the inner one has its own executor and workspace
abbrev node_in_a_node : List Node
node_in_a_node =
    step "node" (closure (step "node" (closure (step "sh" (text "x" ∷ []) ∷ []) ∷ []) ∷ step "sh" (text "y" ∷ []) ∷ []) ∷ [])
    ∷ []

pub inner_node : (build_on two_executors node_in_a_node (granted 1 0 ∷ granted 2 1 ∷ [])).shared.requests
    ≡ record { number = 3; thread = 0; request = task_in 1 (codes "1") (codes "/w/workspace/demo@2") (codes "/w/workspace/demo@2") [] (codes "x") } ∷ []
unfolding settle eval ev through term_at text_within size digits int_wrap equal_within
inner_node = refl

pub outer_node : (build_on two_executors node_in_a_node (granted 1 0 ∷ granted 2 1 ∷ exited 3 0 ∷ [])).shared.requests
    ≡ record { number = 4; thread = 0; request = task (codes "/w/workspace/demo") [] (codes "y") } ∷ []
unfolding settle eval ev through term_at text_within size digits int_wrap equal_within
outer_node = refl

pub held_by_both : (build_on two_executors node_in_a_node (granted 1 0 ∷ granted 2 1 ∷ [])).shared.held
    ≡ record { executor = 0; request = 1; workspace = 1 } ∷ record { executor = 1; request = 2; workspace = 2 } ∷ []
unfolding settle eval ev through term_at text_within size digits int_wrap equal_within
held_by_both = refl

pub held_by_the_outer : (build_on two_executors node_in_a_node (granted 1 0 ∷ granted 2 1 ∷ exited 3 0 ∷ [])).shared.held
    ≡ record { executor = 0; request = 1; workspace = 1 } ∷ []
unfolding settle eval ev through term_at text_within size digits int_wrap equal_within
held_by_the_outer = refl

pub held_by_none : (build_on two_executors node_in_a_node (granted 1 0 ∷ granted 2 1 ∷ exited 3 0 ∷ exited 4 0 ∷ [])).shared.held
    ≡ []
unfolding settle eval ev through term_at text_within size digits int_wrap equal_within
held_by_none = refl

-- `node { dir('d') { parallel a: { sh 'p' }, b: { dir('e') { sh 'q' } } } }`: branches begin in the context around them
abbrev branches_in_a_node : List Node
branches_in_a_node =
    step "node" (closure (step "dir" (text "d" ∷ closure (step "parallel" (entry "a" (closure (step "sh" (text "p" ∷ []) ∷ [])) ∷ entry "b" (closure (step "dir" (text "e" ∷ closure (step "sh" (text "q" ∷ []) ∷ []) ∷ []) ∷ [])) ∷ []) ∷ []) ∷ []) ∷ []) ∷ [])
    ∷ []

pub branches_in_a_node_tasks : (build branches_in_a_node (granted 1 0 ∷ [])).shared.requests
    ≡ record { number = 2; thread = 1; request = task (codes "/w/workspace/demo/d") [] (codes "p") }
    ∷ record { number = 3; thread = 2; request = task (codes "/w/workspace/demo/d/e") [] (codes "q") } ∷ []
unfolding settle eval ev through term_at text_within size digits int_wrap equal_within
branches_in_a_node_tasks = refl

-- `try { node { error 'x' } } catch (e) { }`, `input 'w'`: a throw gives the executor back
abbrev node_left_by_a_throw : List Node
node_left_by_a_throw =
    try_block (step "node" (closure (step "error" (text "x" ∷ []) ∷ []) ∷ []) ∷ []) (catch_exceptions "e" [] ∷ [])
    ∷ step "input" (text "w" ∷ [])
    ∷ []

pub node_left_by_a_throw_held : (build node_left_by_a_throw (granted 1 0 ∷ [])).shared.held
    ≡ []
unfolding settle eval ev through term_at text_within size digits int_wrap equal_within
node_left_by_a_throw_held = refl

pub node_left_by_a_throw_log : log_of node_left_by_a_throw (granted 1 0 ∷ proceeds 2 "ann" ∷ [])
    ≡ codes "[Pipeline] Start of Pipeline\n[Pipeline] node\nRunning on m in /w/workspace/demo\n[Pipeline] {\n"
    ++ codes "[Pipeline] error\n[Pipeline] }\n[Pipeline] // node\n[Pipeline] input\nw\nProceed or Abort\n"
    ++ codes "Approved by ann\n[Pipeline] End of Pipeline\nFinished: SUCCESS\n"
unfolding settle eval ev through term_at text_within size digits int_wrap equal_within
node_left_by_a_throw_log = refl

-- `node(' ') { }`: no label
abbrev blank_label : List Node
blank_label =
    step "node" (text " " ∷ closure [] ∷ [])
    ∷ []

pub blank_label_log : log_of blank_label (granted 1 0 ∷ [])
    ≡ codes "[Pipeline] Start of Pipeline\n[Pipeline] node\nRunning on m in /w/workspace/demo\n[Pipeline] {\n"
    ++ codes "[Pipeline] }\n[Pipeline] // node\n[Pipeline] End of Pipeline\nFinished: SUCCESS\n"
unfolding settle eval ev through term_at text_within size digits int_wrap equal_within
blank_label_log = refl

-- `node { sh 'x'; echo 'y' }`: a line begins on a line of its own
abbrev output_without_a_newline : List Node
output_without_a_newline =
    step "node" (closure (step "sh" (text "x" ∷ []) ∷ echo (text "y") ∷ []) ∷ [])
    ∷ []

pub output_without_a_newline_log : log_of output_without_a_newline (granted 1 0 ∷ logged 2 0 "ab" ∷ logged 2 2 "c" ∷ exited 2 0 ∷ [])
    ≡ codes "[Pipeline] Start of Pipeline\n[Pipeline] node\nRunning on m in /w/workspace/demo\n[Pipeline] {\n"
    ++ codes "[Pipeline] sh\nabc\n[Pipeline] echo\ny\n[Pipeline] }\n[Pipeline] // node\n"
    ++ codes "[Pipeline] End of Pipeline\nFinished: SUCCESS\n"
unfolding settle eval ev through term_at text_within size digits int_wrap equal_within
output_without_a_newline_log = refl

-- `node { echo sh(script: 'x', returnStdout: true) }`: a byte outside UTF-8 becomes U+FFFD, and the output is not logged
abbrev kept_bytes : List Node
kept_bytes =
    step "node" (closure (echo (call "sh" (entry "script" (text "x") ∷ entry "returnStdout" (truth) ∷ [])) ∷ []) ∷ [])
    ∷ []

pub kept_bytes_log : log_of kept_bytes (granted 1 0 ∷ OutputEvent 2 OutStream 0 (97 ∷ 255 ∷ 98 ∷ []) ∷ exited 2 0 ∷ [])
    ≡ codes "[Pipeline] Start of Pipeline\n[Pipeline] node\nRunning on m in /w/workspace/demo\n[Pipeline] {\n"
    ++ codes "[Pipeline] sh\n[Pipeline] echo\n"
    ++ 97 ∷ 239 ∷ 191 ∷ 189 ∷ 98 ∷ 10 ∷ codes "[Pipeline] }\n[Pipeline] // node\n[Pipeline] End of Pipeline\nFinished: SUCCESS\n"
unfolding settle eval ev through term_at text_within size digits int_wrap equal_within utf8_lossy utf8_valid_len is_utf8 chars lib.Utf8.encode utf8_error_len
kept_bytes_log = refl
