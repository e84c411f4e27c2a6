-- Open requests by their places in the list, as the code finds them.
use Rattle.std.specs.Prelude.{ℕ, suc, nat_eq, Bool, true, false, List, [], ◌∷◌, Option, Some, None, option_map}
use Rattle.model_run.specs.declared.request.OpenRequest.{OpenRequest}

abbrev pub found_if : Bool → Option ℕ → Option ℕ
found_if true rest = Some 0
found_if false rest = option_map suc rest

-- the place of the first one of this number
abbrev pub place_of : ℕ → List OpenRequest → Option ℕ
place_of n [] = None
place_of n (r ∷ rs) = found_if (nat_eq r.number n) (place_of n rs)
