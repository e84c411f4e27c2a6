-- The limits that an evaluation of values meets. A limit is met exactly where the counted quantity would pass it.
use Rattle.std.specs.Prelude.{ℕ, List, codes, ◌++◌}
use Rattle.model_values.specs.Types.{LimitKind, NodesEvaluated, CallDepth, TextLength, CollectionSize, ValueDepth, Cells, HeapBytes, FlowNodes, LogSize, GreenThreads}

-- a parameter of the tables, so that worked examples at and past a limit compute with small numbers
pub record Limits : Type 0 where
  pub nodes : ℕ
  pub text : ℕ
  pub entries : ℕ
  pub depth : ℕ
  pub cells : ℕ
  pub bytes : ℕ

-- this product's numbers: nodes evaluated per event, bytes of a text, entries of a list or map,
-- lists and maps inside each other, cells, heap bytes
abbrev pub product_limits : Limits
product_limits = record { nodes = 1000000; text = 1048576; entries = 65536; depth = 64; cells = 1048576; bytes = 268435456 }

-- what the log calls each limit that ends a build, behind `Limit reached: `
abbrev pub limit_name : LimitKind → List ℕ
limit_name NodesEvaluated = codes "nodes evaluated"
limit_name CallDepth = codes "call depth"
limit_name TextLength = codes "text length"
limit_name CollectionSize = codes "collection size"
limit_name ValueDepth = codes "value depth"
limit_name Cells = codes "cells"
limit_name HeapBytes = codes "heap bytes"
limit_name FlowNodes = codes "flow nodes"
limit_name LogSize = codes "log size"
limit_name GreenThreads = codes "green threads"

abbrev pub limit_line : LimitKind → List ℕ
limit_line k = codes "Limit reached: " ++ limit_name k
