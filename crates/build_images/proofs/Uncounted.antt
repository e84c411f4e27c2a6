-- A build that fits fits whatever nodes it has counted.
use Rattle.std.proofs.Common.{ℕ, Bool, List, [], ◌∷◌, Option, Some, None}
use Rattle.std.specs.Prelude.{pos}
use Rattle.std.specs.List.{AllByRecursion as AllAre}
use Rattle.model_values.specs.declared.value.Outcome.{Outcome}
use Rattle.model_values.specs.declared.value.Outcome.TheVariants.{Value as ValueOutcome, Thrown as ThrownOutcome}
use Rattle.model_values.proofs.LaterLaws.{all_weaker}
use Rattle.model_run.specs.ValueTypes.{Value, Null, Truth, Whole, InCell}
use Rattle.model_run.specs.declared.wait.Wait.{Wait}
use Rattle.model_run.specs.declared.wait.Wait.TheVariants.{Ready, Request as RequestWait, Branches as BranchesWait}
use Rattle.model_run.specs.declared.wait.Join.{Join}
use Rattle.model_run.specs.declared.wait.JoinEnd.{JoinEnd}
use Rattle.model_run.specs.State.{Common, Setting}
use Rattle.model_run.specs.FrameTable.{Sort, Any, Up_to, A_count, Flag, Flow_node, A_closure, A_throwable, Text_or_null}
use Rattle.model_run.specs.Nesting.{FrameFits, innermost, Spot, For_branches}
use Rattle.model_run.specs.Fitting.{BranchFits, FitsAtRest, HeldFits, JoinFits, NotReady, OutcomeFits, Seat, SeatFits, SharedFits, WaitFits, known, outermost, seat_of}
use Rattle.model_run.proofs.LaterLaws.{frame_wider}

-- the same shared state, with nothing counted
abbrev pub anew : Common → Common
anew u = record u { count = 0 }

module _ (u : Common) where
  known_anew : (s : Sort) (x : Value) → known u s x → known (anew u) s x
  known_anew Any x h = h
  known_anew (Up_to n) (Whole (pos m)) h = h
  known_anew A_count (Whole (pos m)) h = tt
  known_anew Flag (Truth b) h = tt
  known_anew Flow_node (Whole (pos n)) h = h
  known_anew A_closure (InCell c) h = h
  known_anew A_throwable (InCell c) h = h
  known_anew Text_or_null Null h = tt
  known_anew Text_or_null (InCell c) h = h
  known_anew s x h = absurd h

  outcome_anew : (o : Outcome) → OutcomeFits u o → OutcomeFits (anew u) o
  outcome_anew (ValueOutcome v) h = h
  outcome_anew (ThrownOutcome c) h = h

  branch_anew : (n : ℕ) (e : Option JoinEnd) (t : Option Seat) → BranchFits u n e t → BranchFits (anew u) n e t
  branch_anew n (Some e) t h = (h.0, outcome_anew e.outcome h.1)
  branch_anew n None t h = h

  wait_anew : (seats : List Seat) (t : Seat) (at : Spot) (w : Wait) → NotReady w → WaitFits u seats t at w → WaitFits (anew u) seats t at w
  wait_anew seats t at (Ready x) rests h = absurd rests
  wait_anew seats t at (RequestWait r) rests h = h
  wait_anew seats t For_branches (BranchesWait js) rests h =
      (all_weaker (JoinFits u seats t.number) (JoinFits (anew u) seats t.number) (λ (j : Join) fit. branch_anew t.number j.ended (seat_of seats j.thread) fit) js h.0, h.1, h.2)
  wait_anew seats t at (BranchesWait js) rests h = absurd h

  seat_anew : (g : Setting) (seats : List Seat) (t : Seat) → NotReady t.wait → SeatFits g u seats t → SeatFits g (anew u) seats t
  seat_anew g seats t rests h = record {
    head = h.head;
    parent = h.parent;
    frames = all_weaker (FrameFits (known u) g.script) (FrameFits (known (anew u)) g.script) (λ f fit. frame_wider (known u) (known (anew u)) known_anew g.script f fit) t.stack h.frames;
    envs = h.envs;
    nested = h.nested;
    closures = h.closures;
    waits = wait_anew seats t (innermost g.script (outermost t.parent) t.stack) t.wait rests h.waits;
    start = h.start;
    own_held = h.own_held;
    holds = h.holds;
    folders = h.folders;
  }

  seats_anew : (g : Setting) (all ts : List Seat) → AllAre (λ t. NotReady t.wait) ts → AllAre (SeatFits g u all) ts → AllAre (SeatFits g (anew u) all) ts
  seats_anew g all [] rests h = tt
  seats_anew g all (t ∷ ts) rests h = (seat_anew g all t rests.0 h.0, seats_anew g all ts rests.1 h.1)

  pub shared_anew : (g : Setting) (ended : Bool) → SharedFits g ended u → SharedFits g ended (anew u)
  shared_anew g ended h = record {
    cells = h.cells;
    short = h.short;
    few_cells = h.few_cells;
    few_bytes = h.few_bytes;
    binding = h.binding;
    names = h.names;
    some_node = h.some_node;
    few_nodes = h.few_nodes;
    nodes = h.nodes;
    requests = h.requests;
    few_requests = h.few_requests;
    asks = h.asks;
    rising = h.rising;
    held = all_weaker (HeldFits g.site u) (HeldFits g.site (anew u)) (λ x fit. record { executor = fit.executor; made = fit.made; closed = fit.closed }) u.held h.held;
    differ = h.differ;
  }

  pub rests_anew : (g : Setting) (ended : Bool) (next : ℕ) (seats : List Seat) → FitsAtRest g ended u next seats → FitsAtRest g ended (anew u) next seats
  rests_anew g ended next seats h = record {
    fits = record {
      shared = shared_anew g ended h.fits.shared;
      numbers = h.fits.numbers;
      few_threads = h.fits.few_threads;
      main = h.fits.main;
      threads = seats_anew g seats seats h.rests h.fits.threads;
      differ = h.fits.differ;
      waited_for = h.fits.waited_for;
    };
    rests = h.rests;
  }
