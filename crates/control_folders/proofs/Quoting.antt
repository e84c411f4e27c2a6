-- The shell reads each word of the script that starts a task as what was quoted in it.
use Rattle.std.proofs.Common.{◌≡◌, ◌≢◌, ◌⊎◌, inl, inr, true≢false, ◌∙◌, ℕ, List, [], ◌∷◌, ◌++◌, Bool, true, false, nat_eq, codes, if◌then◌else◌, refl, ap, sym, append_assoc}
use Rattle.std.specs.List.{flat_map}
use Rattle.std.proofs.lemmas.Bool.Decides.{eqb_tells}
use Rattle.std.proofs.lemmas.List.{append-nil}
use Rattle.control_folders.specs.ShellWord.{word_of}
use Rattle.control_folders.specs.ShellWord.Part.{bare, quoted}
use Rattle.control_folders.specs.TaskScript as script

nat_eq_is : (a b : ℕ) → nat_eq a b ≡ true → a ≡ b
nat_eq_is a b e = by (eqb_tells a b)
  where
    by : ((nat_eq a b ≡ true) × (a ≡ b)) ⊎ ((nat_eq a b ≡ false) × (a ≢ b)) → a ≡ b
    by (inl is) = is.1
    by (inr isnt) = absurd (true≢false (sym e ∙ isnt.0))

-- one byte more of a quoted part
one_more : (byte : ℕ) (behind rest : List ℕ) → word_of quoted behind ≡ rest → (is : Bool) → nat_eq byte 39 ≡ is → word_of quoted (script.quoted_byte byte ++ behind) ≡ byte ∷ rest
one_more byte behind rest reads true e =
    ap (λ (c : Bool). word_of quoted ((if c then codes "'\\''" else byte ∷ []) ++ behind)) e
    ∙ ap (λ (bs : List ℕ). 39 ∷ bs) reads
    ∙ ap (λ (b : ℕ). b ∷ rest) (sym (nat_eq_is byte 39 e))
one_more byte behind rest reads false e =
    ap (λ (c : Bool). word_of quoted ((if c then codes "'\\''" else byte ∷ []) ++ behind)) e
    ∙ ap (λ (c : Bool). if c then word_of bare behind else byte ∷ word_of quoted behind) e
    ∙ ap (λ (bs : List ℕ). byte ∷ bs) reads

inside : (text rest : List ℕ) → word_of quoted (flat_map script.quoted_byte text ++ rest) ≡ text ++ word_of quoted rest
inside [] rest = refl
inside (byte ∷ text) rest =
    ap (word_of quoted) (append_assoc (script.quoted_byte byte) (flat_map script.quoted_byte text) rest)
    ∙ one_more byte (flat_map script.quoted_byte text ++ rest) (text ++ word_of quoted rest) (inside text rest) (nat_eq byte 39) refl

pub read_back : (text : List ℕ) → word_of bare (script.quoted text) ≡ text
read_back text = inside text (codes "'") ∙ append-nil text
