-- The unknown keys among the keys of an object.
use Rattle.std.proofs.Common.{◌≡◌, ℕ, ◌++◌, refl, ap, if◌then◌else◌, List, [], ◌∷◌, map, String, string_bytes}
use Rattle.std.specs.declared.alloc.Global.{Global}
use Rattle.serde_json.specs.View.{members_view}
use Rattle.serde_json.specs.declared.value.Value.{Value}
use Rattle.model_run.specs.declared.agents.AgentsKind.TheVariants.{UnknownKey}
use Rattle.model_run.specs.AgentsFaults.{Fault, fault, among, unknown_keys}

-- the faults of these keys
abbrev pub unknown_among : List (List ℕ) → (List ℕ → List ℕ) → List (String Global) → List Fault
unknown_among known path [] = []
unknown_among known path (key ∷ keys) =
    (if among known (string_bytes key) then [] else fault (path (string_bytes key)) UnknownKey ∷ []) ++ unknown_among known path keys

pub unknown_keys-members_view : (known : List (List ℕ)) (path : List ℕ → List ℕ) (es : List (String Global × Value)) → unknown_keys known path (members_view es) ≡ unknown_among known path (map (λ e. e.0) es)
unknown_keys-members_view known path [] = refl
unknown_keys-members_view known path (e ∷ es) =
    ap (λ fs. (if among known (string_bytes e.0) then [] else fault (path (string_bytes e.0)) UnknownKey ∷ []) ++ fs) (unknown_keys-members_view known path es)
