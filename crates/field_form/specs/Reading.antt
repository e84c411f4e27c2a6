-- Reading stored bytes from left to right, up to the first place where the form breaks.
use Rattle.std.specs.Prelude.{◌≡◌, ℕ, Result, Ok, Err}
use Rattle.field_form.specs.declared.refusal.FormRefusal.{FormRefusal}
use Rattle.field_form.specs.declared.refusal.FormRefusal.TheVariants as refusal

-- What reading gives: a value and the place behind it, or the place of the fault.
abbrev pub Read : Type 0 → Type 0
Read V = Result (V × ℕ) ℕ

infixl 10 ◌>>=◌
abbrev pub ◌>>=◌ : {A B : Type 0} → Result A ℕ → (A → Result B ℕ) → Result B ℕ
(Ok x) >>= f = f x
(Err at) >>= f = Err at

abbrev pub Refuses : {Y : Type 0} → FormRefusal → Result Y ℕ → Type 0
Refuses refusal.Memory read = Unit {0}
Refuses (refusal.Fault at) read = read ≡ Err at

-- What a function of the program returned is what reading gives, unless there was no memory.
abbrev pub Gives : {Y : Type 0} → Result Y FormRefusal → Result Y ℕ → Type 0
Gives (Ok x) read = read ≡ Ok x
Gives (Err e) read = Refuses e read
