-- Equality by contents, with its count of compared pairs.
use Rattle.std.specs.Prelude.{ℕ, zero, suc, nat_eq, nat_lt, ◌+◌, Bool, true, false, ◌&&◌, if◌then◌else◌, List, [], ◌∷◌, length, is_some, unwrap_or, zip}
use Rattle.std.specs.Ordering.{int_eq}
use Rattle.std.specs.Map.{lookup}
use Rattle.std.specs.Cmp.Lexicographic.{pointwise}
use Rattle.std.proofs.Math.Bool.{beq}
use Rattle.model_values.specs.Keys.{same_key}
use Rattle.model_values.specs.Limits.{Limits}
use Rattle.model_values.specs.Kinds.{Kind, null, flag, number, text, items, pairs, closure, thrown, kind}
use Rattle.model_values.specs.Types.{Value, Null, Key, Cell, LimitKind, NodesEvaluated, ValueDepth}

-- whether two values are equal, or the limit that was met, and the count of evaluated nodes then
pub data Equality : Type 0 where
  Is : Bool → ℕ → Equality
  Stops : LimitKind → ℕ → Equality

-- each key of the one is a key of the other. Keys are distinct, so of two maps of one size the key sets are then the same
abbrev pub has_keys : List (Key × Value) → List (Key × Value) → Bool
has_keys [] fs = true
has_keys (e ∷ es) fs = is_some (lookup (same_key e.0) fs) && has_keys es fs

-- the values of equal keys, in the order of the left map
abbrev pub by_key : List (Key × Value) → List (Key × Value) → List (Value × Value)
by_key [] fs = []
by_key (e ∷ es) fs = (e.1, unwrap_or (lookup (same_key e.0) fs) Null) ∷ by_key es fs

-- what two values give, where `inside` compares the parts of two lists or two maps:
-- values of two kinds are unequal, lists of two sizes and maps of two key sets are unequal before any part is
-- compared, closures and throwables are equal to themselves alone
abbrev pub kinds_equal : (List (Value × Value) → ℕ → Equality) → Kind → Kind → ℕ → Equality
kinds_equal inside null null n = Is true n
kinds_equal inside (flag a) (flag b) n = Is (beq a b) n
kinds_equal inside (number x) (number y) n = Is (int_eq x y) n
kinds_equal inside (text s) (text t) n = Is (pointwise nat_eq s t) n
kinds_equal inside (items c xs) (items d ys) n = if nat_eq (length xs) (length ys) then inside (zip xs ys) n else Is false n
kinds_equal inside (pairs c es) (pairs d fs) n =
    if nat_eq (length es) (length fs) && has_keys es fs then inside (by_key es fs) n else Is false n
kinds_equal inside (closure c) (closure d) n = Is (nat_eq c d) n
kinds_equal inside (thrown c k m) (thrown d k' m') n = Is (nat_eq c d) n
kinds_equal inside _ _ n = Is false n

-- up to the first pair that is unequal or meets a limit
abbrev pub and_then : Equality → (ℕ → Equality) → Equality
and_then (Is true n) go = go n
and_then (Is false n) go = Is false n
and_then (Stops k n) go = Stops k n

abbrev pub parts_equal : (Value → Value → ℕ → Equality) → List (Value × Value) → ℕ → Equality
parts_equal same [] n = Is true n
parts_equal same (p ∷ ps) n = and_then (same p.0 p.1 n) (parts_equal same ps)

module _ (l : Limits) (h : List Cell) where
  -- a pair that is compared counts once, before anything else is known of it
  abbrev pub counted_pair : ℕ → (ℕ → Equality) → Equality
  counted_pair n go = if nat_lt n l.nodes then go (n + 1) else Stops NodesEvaluated n

  -- with at most so many lists and maps inside each other
  unfoldable pub equal_within : ℕ → Value → Value → ℕ → Equality
  equal_within zero a b n = counted_pair n (kinds_equal (λ ps m. Stops ValueDepth m) (kind h a) (kind h b))
  equal_within (suc left) a b n = counted_pair n (kinds_equal (parts_equal (equal_within left)) (kind h a) (kind h b))

  abbrev pub equal : Value → Value → ℕ → Equality
  equal a b n = equal_within l.depth a b n
