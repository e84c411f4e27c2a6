-- What hosts have launched since a command got them (this product's own).
use Rattle.std.specs.Prelude.{◌≡◌, ℕ, nat_eq, List, [], ◌∷◌, ◌++◌, drop, length}
use Rattle.std.specs.List.{AllZip, IsDistinct}
use Rattle.task_host.specs.View.{HostView}

module _ {H : Type 0} (host : HostView H) where
  -- what a host has launched since, as it came back
  abbrev pub launched_since : H → H → List ℕ
  launched_since machine now = drop (length (host.launches machine)) (host.launches now)

  -- what all of them have
  abbrev pub all_launched_since : List H → List H → List ℕ
  all_launched_since [] rest = []
  all_launched_since (machine ∷ hosts) [] = []
  all_launched_since (machine ∷ hosts) (now ∷ rest) = launched_since machine now ++ all_launched_since hosts rest

  -- What a host has launched since stands behind its launches from before; and no task was launched twice since, on whichever hosts.
  pub record LaunchedOnce (hosts rest : List H) : Type 0 where
    pub behind : AllZip (λ machine now. host.launches now ≡ host.launches machine ++ launched_since machine now) hosts rest
    pub once : IsDistinct nat_eq (all_launched_since hosts rest)
