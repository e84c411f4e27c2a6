-- Branches.
use Rattle.std.specs.Prelude.{◌≡◌, refl, [], ◌∷◌, ◌++◌, codes, List}
use Rattle.std.specs.Fmt.{digits}
use Rattle.std.specs.Int.{int_wrap}
use Rattle.model_syntax.specs.Nodes.{Node, size}
use Rattle.model_values.specs.TextOf.{text_within}
use Rattle.model_values.specs.Equality.{equal_within}
use Rattle.model_run.specs.Meaning.{eval, ev}
use Rattle.model_run.specs.State.{through}
use Rattle.model_run.specs.Terms.{term_at}
use Rattle.model_run.specs.World.{settle}
use Rattle.pipeline_model.proofs.ScriptWords.{text, number, variable, written, call, entry, map_of, closure, statement, step, echo, declare, build, log_of, graph_of}

-- `parallel a: { error 'x' }, b: { echo 'y' }`
abbrev failing_branch : List Node
failing_branch =
    step "parallel" (entry "a" (closure (step "error" (text "x" ∷ []) ∷ [])) ∷ entry "b" (closure (echo (text "y") ∷ [])) ∷ [])
    ∷ []

pub failing_branch_log : log_of failing_branch []
    ≡ codes "[Pipeline] Start of Pipeline\n[Pipeline] parallel\n[Pipeline] { (Branch: a)\n"
    ++ codes "[Pipeline] { (Branch: b)\n[Pipeline] error\n[Pipeline] }\nFailed in branch a\n[Pipeline] echo\ny\n"
    ++ codes "[Pipeline] }\n[Pipeline] // parallel\n[Pipeline] End of Pipeline\nERROR: x\nFinished: FAILURE\n"
unfolding settle eval ev through term_at text_within size digits int_wrap equal_within
failing_branch_log = refl

pub failing_branch_graph : graph_of (build failing_branch [])
    ≡ codes "2 start\n3 block parallel <- 2\n4 body Branch: a <- 3\n5 body Branch: b <- 3\n6 atom error <- 4\n"
    ++ codes "7 end-body of 4 <- 6\n8 atom echo <- 5\n9 end-body of 5 <- 8\n10 end-block of 3 <- 7 9\n"
    ++ codes "11 end <- 10\n"
unfolding settle eval ev through term_at text_within size digits int_wrap equal_within
failing_branch_graph = refl

-- `parallel([:])`
abbrev no_branches : List Node
no_branches =
    step "parallel" (map_of [] ∷ [])
    ∷ []

pub no_branches_log : log_of no_branches []
    ≡ codes "[Pipeline] Start of Pipeline\n[Pipeline] parallel\nNo branches to run\n[Pipeline] // parallel\n"
    ++ codes "[Pipeline] End of Pipeline\nFinished: SUCCESS\n"
unfolding settle eval ev through term_at text_within size digits int_wrap equal_within
no_branches_log = refl

pub no_branches_graph : graph_of (build no_branches [])
    ≡ codes "2 start\n3 block parallel <- 2\n4 end-block of 3 <- 3\n5 end <- 4\n"
unfolding settle eval ev through term_at text_within size digits int_wrap equal_within
no_branches_graph = refl

-- `def r = parallel(a: { 1 }, b: { 'x' })`, `echo "${r}"`
abbrev values_of_branches : List Node
values_of_branches =
    declare "r" (call "parallel" (entry "a" (closure (statement (number 1) ∷ [])) ∷ entry "b" (closure (statement (text "x") ∷ [])) ∷ []))
    ∷ echo (written (variable "r" ∷ []))
    ∷ []

pub values_of_branches_log : log_of values_of_branches []
    ≡ codes "[Pipeline] Start of Pipeline\n[Pipeline] parallel\n[Pipeline] { (Branch: a)\n"
    ++ codes "[Pipeline] { (Branch: b)\n[Pipeline] }\n[Pipeline] }\n[Pipeline] // parallel\n[Pipeline] echo\n"
    ++ codes "[a:1, b:x]\n[Pipeline] End of Pipeline\nFinished: SUCCESS\n"
unfolding settle eval ev through term_at text_within size digits int_wrap equal_within
values_of_branches_log = refl
