-- The usual Jenkinsfile: a stage that reads a version, two tests in branches on two agents, and a stage that ships.
use Rattle.std.specs.Prelude.{◌≡◌, refl, [], ◌∷◌, ◌++◌, codes, length, Option, List, Some, None, ℕ}
use Rattle.std.specs.Fmt.{digits}
use Rattle.std.specs.Int.{int_wrap}
use Rattle.model_syntax.specs.Nodes.{Node, size}
use Rattle.model_run.specs.declared.site.Site.{Site}
use Rattle.std.specs.Str.{is_utf8, chars}
use Rattle.std.specs.Str.Lossy.{utf8_lossy, utf8_valid_len}
use Rattle.model_run.specs.declared.event.Event.{Event}
use Rattle.model_run.specs.State.{Setting}
use Rattle.model_run.specs.declared.taken.Taken.{Taken}
use Rattle.model_run.specs.declared.taken.Taken.TheVariants.{Accepted}
use Rattle.model_run.specs.World.{Build, unbegun, after_one, next_grant, answer_to, setting_of, run_limits}
use Rattle.model_values.specs.TextOf.{text_within}
use Rattle.model_values.specs.Equality.{equal_within}
use Rattle.model_run.specs.Meaning.{eval, ev}
use Rattle.model_run.specs.State.{through}
use Rattle.model_run.specs.Terms.{term_at}
use Rattle.model_run.specs.World.{settle}
use Rattle.pipeline_model.proofs.ScriptWords.{text, truth, variable, written, plain, call, entry, list, map_of, closure, suffixed, method, step, echo, declare, declare_empty, to_name, to_index, assign, for_each, script, executor, site_of, start, granted, logged, kept, exited, build_on, log_on, graph_of}

-- #!/usr/bin/env groovy
-- def version
-- node('linux') {
--     stage('Prepare') {
--         version = sh(script: 'cat VERSION', returnStdout: true).trim()
--         echo "version ${version}"
--     }
-- }
abbrev prepare : Node
prepare =
    step "node" (text "linux" ∷ closure (step "stage" (text "Prepare" ∷ closure (
    assign (to_name "version") (suffixed (call "sh" (entry "script" (text "cat VERSION") ∷ entry "returnStdout" truth ∷ [])) (method "trim" [] ∷ []))
    ∷ echo (written (plain "version " ∷ variable "version" ∷ []))
    ∷ []) ∷ []) ∷ []) ∷ [])

-- stage('Test') {
--     def runs = [:]
--     for (name in ['unit', 'web']) {
--         def n = name
--         runs[n] = {
--             node('linux') { sh "make ${n}" }
--         }
--     }
--     parallel runs
-- }
abbrev run_of_n : Node
run_of_n = closure (step "node" (text "linux" ∷ closure (step "sh" (written (plain "make " ∷ variable "n" ∷ []) ∷ []) ∷ []) ∷ []) ∷ [])

abbrev tests : Node
tests =
    step "stage" (text "Test" ∷ closure (
    declare "runs" (map_of [])
    ∷ for_each "name" (list (text "unit" ∷ text "web" ∷ [])) (declare "n" (variable "name") ∷ assign (to_index (variable "runs") (variable "n")) run_of_n ∷ [])
    ∷ step "parallel" (variable "runs" ∷ [])
    ∷ []) ∷ [])

-- stage('Ship') {
--     node('linux-1') { withEnv(['MODE=prod']) { sh 'make ship' } }
-- }
abbrev ship : Node
ship =
    step "stage" (text "Ship" ∷ closure (step "node" (text "linux-1" ∷ closure (
    step "withEnv" (list (text "MODE=prod" ∷ []) ∷ closure (step "sh" (text "make ship" ∷ []) ∷ []) ∷ [])
    ∷ []) ∷ []) ∷ []) ∷ [])

abbrev jenkinsfile : List Node
jenkinsfile = declare_empty "version" ∷ prepare ∷ tests ∷ ship ∷ []

abbrev agents : Site
agents = site_of (executor 0 "linux-1" "/srv/a" ("linux" ∷ []) 0 ∷ executor 1 "linux-2" "/srv/b" ("linux" ∷ []) 0 ∷ [])

-- what happens behind the start, executors in order and the unit tests before those of the web
abbrev happens : List Event
happens =
    granted 1 0 ∷ logged 2 0 "+ cat VERSION\n" ∷ kept 2 0 "1.4\n" ∷ exited 2 0
    ∷ granted 3 0 ∷ granted 4 1
    ∷ logged 5 0 "+ make unit\nok unit\n" ∷ exited 5 0 ∷ logged 6 0 "+ make web\nok web\n" ∷ exited 6 0
    ∷ granted 7 0 ∷ logged 8 0 "+ make ship\n" ∷ exited 8 0
    ∷ []

pub jenkinsfile_log : log_on agents jenkinsfile happens
    ≡ codes "[Pipeline] Start of Pipeline\n[Pipeline] node\nRunning on linux-1 in /srv/a/workspace/demo\n"
    ++ codes "[Pipeline] {\n[Pipeline] stage\n[Pipeline] { (Prepare)\n[Pipeline] sh\n+ cat VERSION\n"
    ++ codes "[Pipeline] echo\nversion 1.4\n[Pipeline] }\n[Pipeline] // stage\n[Pipeline] }\n[Pipeline] // node\n"
    ++ codes "[Pipeline] stage\n[Pipeline] { (Test)\n[Pipeline] parallel\n[Pipeline] { (Branch: unit)\n"
    ++ codes "[Pipeline] { (Branch: web)\n[Pipeline] node\n[Pipeline] node\n"
    ++ codes "Running on linux-1 in /srv/a/workspace/demo\n[Pipeline] {\n[Pipeline] sh\n"
    ++ codes "Running on linux-2 in /srv/b/workspace/demo\n[Pipeline] {\n[Pipeline] sh\n+ make unit\nok unit\n"
    ++ codes "[Pipeline] }\n[Pipeline] // node\n[Pipeline] }\n+ make web\nok web\n[Pipeline] }\n"
    ++ codes "[Pipeline] // node\n[Pipeline] }\n[Pipeline] // parallel\n[Pipeline] }\n[Pipeline] // stage\n"
    ++ codes "[Pipeline] stage\n[Pipeline] { (Ship)\n[Pipeline] node\n"
    ++ codes "Running on linux-1 in /srv/a/workspace/demo\n[Pipeline] {\n[Pipeline] withEnv\n[Pipeline] {\n"
    ++ codes "[Pipeline] sh\n+ make ship\n[Pipeline] }\n[Pipeline] // withEnv\n[Pipeline] }\n[Pipeline] // node\n"
    ++ codes "[Pipeline] }\n[Pipeline] // stage\n[Pipeline] End of Pipeline\nFinished: SUCCESS\n"
unfolding settle eval ev through term_at text_within size digits int_wrap equal_within utf8_lossy utf8_valid_len is_utf8 chars lib.Utf8.encode
jenkinsfile_log = refl

-- 45 flow nodes
pub jenkinsfile_graph : graph_of (build_on agents jenkinsfile happens)
    ≡ codes "2 start\n3 block node <- 2\n4 body <- 3\n5 block stage <- 4\n6 body Prepare <- 5\n7 atom sh <- 6\n"
    ++ codes "8 atom echo <- 7\n9 end-body of 6 <- 8\n10 end-block of 5 <- 9\n11 end-body of 4 <- 10\n"
    ++ codes "12 end-block of 3 <- 11\n13 block stage <- 12\n14 body Test <- 13\n15 block parallel <- 14\n"
    ++ codes "16 body Branch: unit <- 15\n17 body Branch: web <- 15\n18 block node <- 16\n19 block node <- 17\n"
    ++ codes "20 body <- 18\n21 atom sh <- 20\n22 body <- 19\n23 atom sh <- 22\n24 end-body of 20 <- 21\n"
    ++ codes "25 end-block of 18 <- 24\n26 end-body of 16 <- 25\n27 end-body of 22 <- 23\n"
    ++ codes "28 end-block of 19 <- 27\n29 end-body of 17 <- 28\n30 end-block of 15 <- 26 29\n"
    ++ codes "31 end-body of 14 <- 30\n32 end-block of 13 <- 31\n33 block stage <- 32\n34 body Ship <- 33\n"
    ++ codes "35 block node <- 34\n36 body <- 35\n37 block withEnv <- 36\n38 body <- 37\n39 atom sh <- 38\n"
    ++ codes "40 end-body of 38 <- 39\n41 end-block of 37 <- 40\n42 end-body of 36 <- 41\n"
    ++ codes "43 end-block of 35 <- 42\n44 end-body of 34 <- 43\n45 end-block of 33 <- 44\n46 end <- 45\n"
unfolding settle eval ev through term_at text_within size digits int_wrap equal_within utf8_lossy utf8_valid_len is_utf8 chars lib.Utf8.encode
jenkinsfile_graph = refl

pub jenkinsfile_size : length (build_on agents jenkinsfile happens).shared.nodes
    ≡ 45
unfolding settle eval ev through term_at text_within size digits int_wrap equal_within utf8_lossy utf8_valid_len is_utf8 chars lib.Utf8.encode
jenkinsfile_size = refl

-- the grant that is made next behind each of these events
abbrev grants_behind : Setting → Build → List Event → List (Option (ℕ × ℕ))
grants_behind setting b [] = []
grants_behind setting b (e ∷ es) = next_grant setting (after_one setting b e) ∷ grants_behind setting (after_one setting b e) es

-- behind each of the 14 events; where a grant is to be made, the next event is that grant
pub jenkinsfile_grants : grants_behind (setting_of run_limits (script jenkinsfile) agents) unbegun (start ∷ happens)
    ≡ Some (1, 0) ∷ None ∷ None ∷ None ∷ Some (3, 0) ∷ Some (4, 1) ∷ None ∷ None ∷ None ∷ None ∷ Some (7, 0) ∷ None ∷ None ∷ None ∷ []
unfolding settle eval ev through term_at text_within size digits int_wrap equal_within utf8_lossy utf8_valid_len is_utf8 chars lib.Utf8.encode
jenkinsfile_grants = refl

-- what the build says to each of these events
abbrev answers_to : Setting → Build → List Event → List Taken
answers_to setting b [] = []
answers_to setting b (e ∷ es) = answer_to setting b e ∷ answers_to setting (after_one setting b e) es

-- all 14 events are taken
pub jenkinsfile_answers : answers_to (setting_of run_limits (script jenkinsfile) agents) unbegun (start ∷ happens)
    ≡ Accepted ∷ Accepted ∷ Accepted ∷ Accepted ∷ Accepted ∷ Accepted ∷ Accepted ∷ Accepted ∷ Accepted ∷ Accepted ∷ Accepted ∷ Accepted ∷ Accepted ∷ Accepted ∷ []
unfolding settle eval ev through term_at text_within size digits int_wrap equal_within utf8_lossy utf8_valid_len is_utf8 chars lib.Utf8.encode
jenkinsfile_answers = refl
