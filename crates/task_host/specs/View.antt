-- What a host tells of each of its states: the ghost members of the trait `Host`, as one value. In a contract it is `H.Host`.
use Rattle.task_host.specs.declared.host.Host.{Ghosts}

abbrev pub HostView : Type 0 → Type 1
HostView H = Ghosts H
