-- One field written behind another.
use Rattle.std.proofs.Common.{ℕ, List, ◌++◌, ap, ◌∙◌, append_assoc}
use Rattle.field_form.specs.Forms.{Form, pair, Written}

pub written_pair : {A B : Type 0} (a : Form A) (b : Form B) (x : A) (y : B) (old mid new : List ℕ) → Written a x old mid → Written b y mid new → Written (pair a b) (x, y) old new
written_pair a b x y old mid new p q = record {
  fits = (p.fits, q.fits);
  spelled = q.spelled ∙ ap (λ (l : List ℕ). l ++ b.spelling y) p.spelled ∙ append_assoc old (a.spelling x) (b.spelling y);
}
