-- The moments at which a crash may come: during a call, and between two. A clock numbers them, and does not fall.
use Rattle.std.specs.Prelude.{◌⊎◌, ℕ, ◌≤◌, List}

-- Time goes on by a call: a crash since t might have left what it might have left before the call, or what it may leave
-- now. `past` and `since` are the images of all moments since t, before the call and after it.
pub record TimePasses (before now : ℕ) (past since : ℕ → List ℕ → Type 0) (may_leave : List ℕ → Type 0) : Type 0 where
  pub later : before ≤ now
  pub nothing_else : (t : ℕ) (image : List ℕ) → t ≤ before → since t image → past t image ⊎ may_leave image
  pub keeps : (t : ℕ) (image : List ℕ) → t ≤ before → past t image → since t image
