-- The hosts of a build in one list, by the numbers of their executors.
use Rattle.std.proofs.Common.{◌≡◌, ◌<◌, ◌+◌, ℕ, false, List, [], ◌∷◌, ◌++◌, map, arith}
use Rattle.std.specs.Prelude.{nat_eq}
use Rattle.std.specs.List.{AllByRecursion as AllAre, IsDistinct}
use Rattle.model_run.specs.declared.event.Event.{Event}
use Rattle.model_run.specs.State.{Setting}
use Rattle.agent_worker.specs.Serve.{Tasks}
use Rattle.launch_laws.specs.Fitting.{AllFit, AreApart, ExecutorHost, numbered}
use Rattle.launch_laws.proofs.LifeLaws.{none_fits, none_yet}

-- Hosts in two lists fit where those of both do.
pub fit_both : (setting : Setting) (events : List Event) (hosts more : List ExecutorHost) → AllFit setting events hosts → AllFit setting events more → AllFit setting events (hosts ++ more)
fit_both setting events [] more fit rest = rest
fit_both setting events (host ∷ hosts) more fit rest = (fit.0, fit_both setting events hosts more fit.1 rest)

pub fit_first : (setting : Setting) (events : List Event) (hosts more : List ExecutorHost) → AllFit setting events (hosts ++ more) → AllFit setting events hosts
fit_first setting events [] more fit = tt
fit_first setting events (host ∷ hosts) more fit = (fit.0, fit_first setting events hosts more fit.1)

pub fit_rest : (setting : Setting) (events : List Event) (hosts more : List ExecutorHost) → AllFit setting events (hosts ++ more) → AllFit setting events more
fit_rest setting events [] more fit = fit
fit_rest setting events (host ∷ hosts) more fit = fit_rest setting events hosts more fit.1

-- Hosts that fit a build which has taken no event have launched nothing, and so fit each build.
pub fit_each : (setting : Setting) (hosts : List ExecutorHost) → AllFit setting [] hosts → (other : Setting) (events : List Event) → AllFit other events hosts
fit_each setting [] fit other events = tt
fit_each setting (host ∷ hosts) fit other events = (none_fits other events host.number host.tasks (none_yet setting host.number host.tasks fit.0), fit_each setting hosts fit.1 other events)

-- Hosts that are numbered one after the other are those of different executors.
lower_differs : (low n : ℕ) → low < n → nat_eq low n ≡ false
lower_differs low n less = grind (arith, less)

all_higher : (low n : ℕ) → low < n → (hosts : List Tasks) → AllAre (λ y. nat_eq low y ≡ false) (map (λ (h : ExecutorHost). h.number) (numbered n hosts))
all_higher low n less [] = tt
all_higher low n less (host ∷ hosts) = (lower_differs low n less, all_higher low (n + 1) (omega (arith, less)) hosts)

pub numbered_apart : (first : ℕ) (hosts : List Tasks) → AreApart (numbered first hosts)
unfolding IsDistinct
numbered_apart first [] = tt
numbered_apart first (host ∷ hosts) = (all_higher first (first + 1) (omega arith) hosts, numbered_apart (first + 1) hosts)
