-- When the program of an agent is asked whether a task elsewhere lives, and when its answers say that the task is lost. This
-- product's own rules (docs/HOSTS.md): looks are a quarter of a second apart.
use Rattle.std.specs.Prelude.{◌-◌, ◌&&◌, ℕ, Bool, true, false}
use Rattle.real_edge.specs.declared.asks.Asks.{Asks}

-- It is asked at the first look, behind an answer that the task is gone after a second, and else after five.
abbrev pub looks_between : Bool → ℕ
looks_between true = 4
looks_between false = 20

-- the looks that go by before it is asked, after one look more
abbrev pub look_on : Asks → Asks
look_on asks = record asks { rest = asks.rest - 1 }

-- behind an answer
abbrev pub answered : Asks → Bool → Asks
answered asks is_gone = record asks { rest = looks_between is_gone - 1; was_gone = is_gone }

-- A task is lost where two answers in a row say that it is gone.
abbrev pub is_lost : Asks → Bool → Bool
is_lost asks is_gone = is_gone && asks.was_gone
