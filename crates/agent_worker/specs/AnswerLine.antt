-- The form of an answer line: `proceed ID by NAME` or `abort ID by NAME`. This product's own.
use Rattle.std.specs.Prelude.{◌≡◌, ◌≢◌, ◌++◌, ◌∷◌, ◌||◌, List, ℕ, Bool, true, false, [], suc, codes, All, IsUtf8, nat_eq, if◌then◌else◌}

-- a blank is a space or a tab
abbrev pub NoBlank : List ℕ → Type 0
NoBlank id = All (λ b. (b ≢ 32) × (b ≢ 9)) id

-- the word with which a line begins, up to the id
abbrev pub word : Bool → List ℕ
word true = codes "proceed "
word false = codes "abort "

-- The line lets the input of this id proceed, or aborts it, in this name.
pub record Answers (line : List ℕ) (proceed : Bool) (id name : List ℕ) : Type 0 where
  pub spelled : line ≡ word proceed ++ id ++ codes " by " ++ name
  pub id_some : id ≢ []
  pub id_plain : NoBlank id
  pub name_some : name ≢ []
  pub name_text : IsUtf8 name

-- what stands behind the word
pub record NamesInput (rest id name : List ℕ) : Type 0 where
  pub spelled : rest ≡ id ++ codes " by " ++ name
  pub id_some : id ≢ []
  pub id_plain : NoBlank id
  pub name_some : name ≢ []
  pub name_text : IsUtf8 name

-- the same as a test
abbrev pub is_blank : ℕ → Bool
is_blank b = nat_eq b 32 || nat_eq b 9

-- how many bytes stand before the first blank
abbrev pub blank_in : List ℕ → ℕ
blank_in [] = 0
blank_in (b ∷ bs) = if is_blank b then 0 else suc (blank_in bs)
