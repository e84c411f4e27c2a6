-- How values of scripts are spelled.
use Rattle.std.specs.Prelude.{◌≡◌, ℕ, ℤ, true, false, List, refl, ◌⊎◌}
use Rattle.std.proofs.Common.{inl, inr}
use Rattle.field_form.specs.Forms.{Form, Lawful, nothing, last, ◌or◌, kinds, of_parts, pair, u32_form, i32_form, bytes_form, many}
use Rattle.field_form.specs.FieldLaws.{u32_lawful, i32_lawful, bytes_lawful}
use Rattle.field_form.specs.FormLaws.{nothing_lawful, last_lawful, or_lawful, kinds_lawful, of_parts_lawful, pair_lawful, many_lawful}
use Rattle.model_values.specs.declared.value.Value.{Value}
use Rattle.model_values.specs.declared.value.Value.TheVariants as value
use Rattle.model_values.specs.declared.value.Outcome.{Outcome}
use Rattle.model_values.specs.declared.value.Outcome.TheVariants as outcome
use Rattle.model_values.specs.declared.key.Key.{Key}
use Rattle.model_values.specs.declared.key.Key.TheVariants as key
use Rattle.model_values.specs.declared.cell.Binding.{Binding}

-- Value: `00` null, `01` false, `02` true, `03` i32, `04` cell u32.
abbrev pub ValueParts : Type 0
ValueParts = Unit {0} ⊎ (Unit {0} ⊎ (Unit {0} ⊎ (ℤ ⊎ ℕ)))

abbrev pub value_of : ValueParts → Value
value_of (inl x) = value.Null
value_of (inr (inl x)) = value.Bool false
value_of (inr (inr (inl x))) = value.Bool true
value_of (inr (inr (inr (inl z)))) = value.Int z
value_of (inr (inr (inr (inr n)))) = value.Cell n

abbrev pub value_parts : Value → ValueParts
value_parts value.Null = inl tt
value_parts (value.Bool false) = inr (inl tt)
value_parts (value.Bool true) = inr (inr (inl tt))
value_parts (value.Int z) = inr (inr (inr (inl z)))
value_parts (value.Cell n) = inr (inr (inr (inr n)))

abbrev pub value_form : Form Value
value_form = of_parts value_of value_parts (kinds (nothing or nothing or nothing or i32_form or last u32_form))

value_there : (x : ValueParts) → value_parts (value_of x) ≡ x
value_there (inl x) = refl
value_there (inr (inl x)) = refl
value_there (inr (inr (inl x))) = refl
value_there (inr (inr (inr (inl z)))) = refl
value_there (inr (inr (inr (inr n)))) = refl

value_back : (v : Value) → value_of (value_parts v) ≡ v
value_back value.Null = refl
value_back (value.Bool false) = refl
value_back (value.Bool true) = refl
value_back (value.Int z) = refl
value_back (value.Cell n) = refl

pub value_lawful : Lawful value_form
value_lawful = of_parts_lawful value_of value_parts _ value_there value_back (kinds_lawful _ (or_lawful _ _ nothing_lawful (or_lawful _ _ nothing_lawful (or_lawful _ _ nothing_lawful (or_lawful _ _ i32_lawful (last_lawful _ u32_lawful))))))

-- Outcome: `00` value or `01` cell.
abbrev pub outcome_of : Value ⊎ ℕ → Outcome
outcome_of (inl v) = outcome.Value v
outcome_of (inr n) = outcome.Thrown n

abbrev pub outcome_parts : Outcome → Value ⊎ ℕ
outcome_parts (outcome.Value v) = inl v
outcome_parts (outcome.Thrown n) = inr n

abbrev pub outcome_form : Form Outcome
outcome_form = of_parts outcome_of outcome_parts (kinds (value_form or last u32_form))

outcome_there : (x : Value ⊎ ℕ) → outcome_parts (outcome_of x) ≡ x
outcome_there (inl v) = refl
outcome_there (inr n) = refl

outcome_back : (o : Outcome) → outcome_of (outcome_parts o) ≡ o
outcome_back (outcome.Value v) = refl
outcome_back (outcome.Thrown n) = refl

pub outcome_lawful : Lawful outcome_form
outcome_lawful = of_parts_lawful outcome_of outcome_parts _ outcome_there outcome_back (kinds_lawful _ (or_lawful _ _ value_lawful (last_lawful _ u32_lawful)))

-- Key: `00` i32 or `01` bytes.
abbrev pub key_of : ℤ ⊎ List ℕ → Key
key_of (inl z) = key.Int z
key_of (inr t) = key.Text t

abbrev pub key_parts : Key → ℤ ⊎ List ℕ
key_parts (key.Int z) = inl z
key_parts (key.Text t) = inr t

abbrev pub key_form : Form Key
key_form = of_parts key_of key_parts (kinds (i32_form or last bytes_form))

key_there : (x : ℤ ⊎ List ℕ) → key_parts (key_of x) ≡ x
key_there (inl z) = refl
key_there (inr t) = refl

key_back : (k : Key) → key_of (key_parts k) ≡ k
key_back (key.Int z) = refl
key_back (key.Text t) = refl

pub key_lawful : Lawful key_form
key_lawful = of_parts_lawful key_of key_parts _ key_there key_back (kinds_lawful _ (or_lawful _ _ i32_lawful (last_lawful _ bytes_lawful)))

-- Name and cell.
abbrev pub binding_of : List ℕ × ℕ → Binding
binding_of p = record { name = p.0; cell = p.1 }

abbrev pub binding_form : Form Binding
binding_form = of_parts binding_of (λ b. (b.name, b.cell)) (pair bytes_form u32_form)

pub binding_lawful : Lawful binding_form
binding_lawful = of_parts_lawful binding_of (λ (b : Binding). (b.name, b.cell)) _ (λ x. refl) (λ b. refl) (pair_lawful _ _ bytes_lawful u32_lawful)

-- An environment is a list of name and cell.
abbrev pub env_form : Form (List Binding)
env_form = many binding_form

pub env_lawful : Lawful env_form
env_lawful = many_lawful _ binding_lawful
