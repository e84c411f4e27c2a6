-- Later cells: of none, of later ones, of new ones behind, of one changed; and what fits cells fits later ones.
use Rattle.std.proofs.Common.{arith, ◌≡◌, ℕ, zero, suc, refl, sym, subst, ◌∙◌, List, [], ◌∷◌, ◌++◌, length, length-append, Option, Some}
use Rattle.std.specs.Prelude.{slice_get, slice_set}
use Rattle.std.specs.List.{AllByRecursion as AllAre}
use Rattle.std.proofs.lemmas.List.{length-set}
use Rattle.model_values.specs.Fitting.{There, HasVariable, HasText, HasList, HasMap, HasClosure, HasThrowable, CellFits}
use Rattle.model_values.specs.Later.{StaysAs, CellsLater}
use Rattle.model_values.specs.Types.{Value, Null, Truth, Whole, InCell, Cell, Variable, TextCell, ListCell, MapCell, ClosureCell, ThrownCell}
use Rattle.model_values.specs.declared.cell.Binding.{Binding}

stays_itself : (x : Cell) → StaysAs x (Some x)
stays_itself (Variable v) = tt
stays_itself (TextCell t) = refl
stays_itself (ListCell vs) = tt
stays_itself (MapCell es) = tt
stays_itself (ClosureCell node env) = refl
stays_itself (ThrownCell class m) = refl

-- what a cell that is there stays
stays_from : (x : Cell) (o : Option Cell) → o ≡ Some x → StaysAs x o
stays_from x o e = subst (StaysAs x) (sym e) (stays_itself x)

pub later_itself : (h : List Cell) → CellsLater h h
later_itself h = record { more = omega arith; stays = λ c x e. stays_from x _ e }

variable_stays : (o p : Option Cell) → ((x : Cell) → o ≡ Some x → StaysAs x p) → HasVariable o → HasVariable p
variable_stays (Some (Variable v)) p f h = f (Variable v) refl
variable_stays o p f h = absurd h

text_stays : (o p : Option Cell) → ((x : Cell) → o ≡ Some x → StaysAs x p) → HasText o → HasText p
text_stays (Some (TextCell t)) p f h = subst HasText (sym (f (TextCell t) refl)) tt
text_stays o p f h = absurd h

list_stays : (o p : Option Cell) → ((x : Cell) → o ≡ Some x → StaysAs x p) → HasList o → HasList p
list_stays (Some (ListCell vs)) p f h = f (ListCell vs) refl
list_stays o p f h = absurd h

map_stays : (o p : Option Cell) → ((x : Cell) → o ≡ Some x → StaysAs x p) → HasMap o → HasMap p
map_stays (Some (MapCell es)) p f h = f (MapCell es) refl
map_stays o p f h = absurd h

closure_stays : (o p : Option Cell) → ((x : Cell) → o ≡ Some x → StaysAs x p) → HasClosure o → HasClosure p
closure_stays (Some (ClosureCell node env)) p f h = subst HasClosure (sym (f (ClosureCell node env) refl)) tt
closure_stays o p f h = absurd h

throwable_stays : (o p : Option Cell) → ((x : Cell) → o ≡ Some x → StaysAs x p) → HasThrowable o → HasThrowable p
throwable_stays (Some (ThrownCell class m)) p f h = subst HasThrowable (sym (f (ThrownCell class m) refl)) tt
throwable_stays o p f h = absurd h

-- what a cell stays in cells, it stays in later ones
stays_on : (x : Cell) (o p : Option Cell) → StaysAs x o → ((y : Cell) → o ≡ Some y → StaysAs y p) → StaysAs x p
stays_on (Variable v) o p h f = variable_stays o p f h
stays_on (TextCell t) o p h f = f (TextCell t) h
stays_on (ListCell vs) o p h f = list_stays o p f h
stays_on (MapCell es) o p h f = map_stays o p f h
stays_on (ClosureCell node env) o p h f = f (ClosureCell node env) h
stays_on (ThrownCell class m) o p h f = f (ThrownCell class m) h

pub later_on : (f g h : List Cell) → CellsLater f g → CellsLater g h → CellsLater f h
later_on f g h a b = record { more = omega (arith, a.more, b.more); stays = λ c x e. stays_on x _ _ (a.stays c x e) (b.stays c) }

-- new cells behind
pub get_before : (h cs : List Cell) (c : ℕ) (x : Cell) → slice_get h c ≡ Some x → slice_get (h ++ cs) c ≡ Some x
get_before [] cs c x e = absurd (cc)
get_before (y ∷ h) cs zero x e = e
get_before (y ∷ h) cs (suc c) x e = get_before h cs c x e

pub get_new : (h : List Cell) (x : Cell) (cs : List Cell) → slice_get (h ++ x ∷ cs) (length h) ≡ Some x
get_new [] x cs = refl
get_new (y ∷ h) x cs = get_new h x cs

pub later_behind : (h cs : List Cell) → CellsLater h (h ++ cs)
later_behind h cs = record { more = omega (arith, length-append h cs); stays = λ c x e. stays_from x _ (get_before h cs c x e) }

-- one cell changed
same_some : (x y : Cell) → Some x ≡ Some y → x ≡ y
same_some x y e = cc

stays_changed : (h : List Cell) (c : ℕ) (old new : Cell) → slice_get h c ≡ Some old → StaysAs old (Some new) → (d : ℕ) (x : Cell) → slice_get h d ≡ Some x → StaysAs x (slice_get (slice_set h c new) d)
stays_changed [] c old new e s d x e' = absurd (cc)
stays_changed (y ∷ h) zero old new e s zero x e' = subst (λ z. StaysAs z (Some new)) (same_some old x (sym e ∙ e')) s
stays_changed (y ∷ h) zero old new e s (suc d) x e' = stays_from x _ e'
stays_changed (y ∷ h) (suc c) old new e s zero x e' = stays_from x _ e'
stays_changed (y ∷ h) (suc c) old new e s (suc d) x e' = stays_changed h c old new e s d x e'

pub later_changed : (h : List Cell) (c : ℕ) (old new : Cell) → slice_get h c ≡ Some old → StaysAs old (Some new) → CellsLater h (slice_set h c new)
later_changed h c old new e s = record { more = omega (arith, length-set h c new); stays = stays_changed h c old new e s }

-- What is there stays there, and is what it was.
pub all_weaker : {A : Type 0} (P Q : A → Type 0) → ((x : A) → P x → Q x) → (xs : List A) → AllAre P xs → AllAre Q xs
all_weaker P Q f [] h = tt
all_weaker P Q f (x ∷ xs) h = (f x h.0, all_weaker P Q f xs h.1)

module _ (h g : List Cell) (later : CellsLater h g) where
  pub there_later : (v : Value) → There h v → There g v
  there_later (InCell c) t = omega (arith, t, later.more)
  there_later Null t = tt
  there_later (Truth b) t = tt
  there_later (Whole x) t = tt

  pub variable_later : (c : ℕ) → HasVariable (slice_get h c) → HasVariable (slice_get g c)
  variable_later c = variable_stays _ _ (later.stays c)

  pub text_later : (c : ℕ) → HasText (slice_get h c) → HasText (slice_get g c)
  text_later c = text_stays _ _ (later.stays c)

  pub list_later : (c : ℕ) → HasList (slice_get h c) → HasList (slice_get g c)
  list_later c = list_stays _ _ (later.stays c)

  pub map_later : (c : ℕ) → HasMap (slice_get h c) → HasMap (slice_get g c)
  map_later c = map_stays _ _ (later.stays c)

  pub closure_later : (c : ℕ) → HasClosure (slice_get h c) → HasClosure (slice_get g c)
  closure_later c = closure_stays _ _ (later.stays c)

  pub throwable_later : (c : ℕ) → HasThrowable (slice_get h c) → HasThrowable (slice_get g c)
  throwable_later c = throwable_stays _ _ (later.stays c)

  pub variables_later : (env : List Binding) → AllAre (λ b. HasVariable (slice_get h b.cell)) env → AllAre (λ b. HasVariable (slice_get g b.cell)) env
  variables_later env a = all_weaker _ _ (λ b. variable_later b.cell) env a

  pub cell_later : (rule : ℕ → List Binding → Type 0) (x : Cell) → CellFits rule h x → CellFits rule g x
  cell_later rule (Variable v) t = there_later v t
  cell_later rule (TextCell t) a = tt
  cell_later rule (ListCell vs) a = all_weaker _ _ there_later vs a
  cell_later rule (MapCell es) a = all_weaker _ _ (λ e. there_later e.1) es a
  cell_later rule (ClosureCell node env) a = (a.0, variables_later env a.1)
  cell_later rule (ThrownCell class m) a = tt
