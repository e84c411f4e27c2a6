-- The values of a node's parts, from a part on: each part has what it takes.
use Rattle.std.proofs.Common.{◌≡◌, ◌∙◌, ◌<◌, ◌≤◌, ◌+◌, ℕ, zero, suc, false, List, [], ◌∷◌, length, None, ap, sym, subst, arith}
use Rattle.std.specs.Prelude.{slice_get}
use Rattle.model_syntax.specs.declared.node.NodeForm.{NodeForm}
use Rattle.model_syntax.specs.declared.node.NodeForm.TheVariants as form
use Rattle.model_values.specs.declared.value.Value.{Value}
use Rattle.model_run.specs.FrameTable.{count_with, is_plain}
use Rattle.cps_values.specs.Values.{values_given}

none_past : (vs : List Value) (n : ℕ) → slice_get vs n ≡ None → length vs ≤ n
none_past [] n e = omega arith
none_past (v ∷ vs) zero e = absurd (cc e)
none_past (v ∷ vs) (suc n) e = let le : length vs ≤ n = none_past vs n e in omega (arith, le)

pub no_fewer : (f : NodeForm) (n : ℕ) → n ≤ count_with f n
no_fewer (form.PlainPart t) n = omega arith
no_fewer form.ComputedEntry n = omega arith
no_fewer f n = omega arith

one_more : (f : NodeForm) (n : ℕ) → is_plain f ≡ false → n < count_with f n
one_more (form.PlainPart t) n h = absurd (cc h)
one_more form.ComputedEntry n h = omega arith
one_more f n h = omega arith

-- a part's own values, and those behind it
apart : (f : NodeForm) (n : ℕ) → count_with f n ≡ count_with f 0 + n
apart (form.PlainPart t) n = omega arith
apart form.ComputedEntry n = omega arith
apart f n = omega arith

pub few_own : (f : NodeForm) (taken : ℕ) → taken ≡ count_with f 0 → taken ≤ 2
few_own (form.PlainPart t) taken is = omega (arith, is)
few_own form.ComputedEntry taken is = omega (arith, is)
few_own f taken is = omega (arith, is)

module _ (f : NodeForm) (fs gs : List NodeForm) (used n : ℕ) (is : gs ≡ f ∷ fs) (enough : used + values_given gs ≤ n) where
  pub behind_part : used + values_given fs ≤ n
  behind_part =
      let more : values_given fs ≤ values_given gs = subst (λ xs. values_given fs ≤ values_given xs) (sym is) (no_fewer f (values_given fs)) in
      omega (arith, more, enough)

  pub behind_value : is_plain f ≡ false → used + 1 + values_given fs ≤ n
  behind_value plain =
      let more : values_given fs < values_given gs = subst (λ xs. values_given fs < values_given xs) (sym is) (one_more f (values_given fs) plain) in
      omega (arith, more, enough)

  pub own_values : used + count_with f 0 ≤ n
  own_values =
      let all : values_given gs ≡ count_with f 0 + values_given fs = ap values_given is ∙ apart f (values_given fs) in
      omega (arith, all, enough)

  pub behind_own : (taken : ℕ) → taken ≡ count_with f 0 → used + taken + values_given fs ≤ n
  behind_own taken own =
      let all : values_given gs ≡ count_with f 0 + values_given fs = ap values_given is ∙ apart f (values_given fs) in
      omega (arith, all, enough, own)

-- a part that is no plain one has its value
pub value_there : (f : NodeForm) (fs gs : List NodeForm) (used : ℕ) (vs : List Value) → gs ≡ f ∷ fs → used + values_given gs ≤ length vs → is_plain f ≡ false → slice_get vs used ≡ None → ⊥
value_there f fs gs used vs is enough plain none =
    let more : used + 1 + values_given fs ≤ length vs = behind_value f fs gs used (length vs) is enough plain in
    let past : length vs ≤ used = none_past vs used none in
    omega (arith, more, past)
