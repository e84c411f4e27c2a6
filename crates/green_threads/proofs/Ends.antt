-- The ends of branches.
use Rattle.std.proofs.Common.{◌≡◌, List, [], ◌∷◌, ◌++◌, Option, Some, None, refl, ap, ◌∙◌}
use Rattle.std.specs.Prelude.{option_map}
use Rattle.green_threads.specs.WaitTypes.{Join, JoinEnd, BranchEnd}
use Rattle.model_run.specs.World.{all_ended, and_end, branch_end}

-- behind those that are done
abbrev pub behind : List BranchEnd → Option (List BranchEnd) → Option (List BranchEnd)
behind done None = None
behind done (Some es) = Some (done ++ es)

append_one : (done es : List BranchEnd) (e : BranchEnd) → done ++ e ∷ es ≡ (done ++ e ∷ []) ++ es
append_one [] es e = refl
append_one (d ∷ done) es e = ap (λ xs. d ∷ xs) (append_one done es e)

after_end : (done : List BranchEnd) (e : BranchEnd) (o : Option (List BranchEnd)) → behind done (and_end (Some e) o) ≡ behind (done ++ e ∷ []) o
after_end done e None = refl
after_end done e (Some es) = ap Some (append_one done es e)

pub more_ends : (done : List BranchEnd) (j : Join) (js : List Join) (e : JoinEnd) → j.ended ≡ Some e → behind done (all_ended (j ∷ js)) ≡ behind (done ++ branch_end j.name e ∷ []) (all_ended js)
more_ends done j js e h = ap (λ o. behind done (and_end (option_map (branch_end j.name) o) (all_ended js))) h ∙ after_end done (branch_end j.name e) (all_ended js)

pub no_end : (done : List BranchEnd) (j : Join) (js : List Join) → j.ended ≡ None → behind done (all_ended (j ∷ js)) ≡ None
no_end done j js h = ap (λ o. behind done (and_end (option_map (branch_end j.name) o) (all_ended js))) h

pub nothing_behind : (o : Option (List BranchEnd)) → behind [] o ≡ o
nothing_behind None = refl
nothing_behind (Some es) = refl
