-- A text that is kept changes no closure.
use Rattle.std.proofs.Common.{◌≡◌, ℕ, Bool, true, false, List, [], ◌∷◌, ◌++◌, length, nat_lt, Option, Some, None, refl, sym, subst}
use Rattle.std.specs.Prelude.{if◌then◌else◌, slice_get, OnOk, Result as Outcome, Ok, Err}
use Rattle.model_values.specs.Cells.{Answer, Gives, Meets, no_room, unless_limit}
use Rattle.model_values.specs.Fitting.{HasClosure, IsIn}
use Rattle.model_values.specs.Limits.{Limits, product_limits}
use Rattle.model_values.specs.declared.cell.Cell.{Cell}
use Rattle.model_values.specs.declared.cell.Cell.TheVariants.{Text as TextCell}
use Rattle.model_values.specs.declared.limit.LimitKind.{LimitKind}
use Rattle.model_values.specs.declared.limit.LimitKind.TheVariants.{TextLength}
use Rattle.model_values.specs.declared.value.Value.{Value}
use Rattle.model_values.specs.declared.value.Value.TheVariants.{Null, Bool as Truth, Int as Whole, Cell as InCell}
use Rattle.model_values.proofs.LaterLaws.{get_before}
use Rattle.model_run.specs.State.{World}
use Rattle.cell_heap.specs.Region.{Region}
use Rattle.value_ops.specs.Effects.{IsReadAs, effect_answer}
use Rattle.value_ops.specs.declared.effect.Effect.{Effect}
use Rattle.value_ops.specs.declared.effect.Effect.TheVariants.{Give, NewText, NewList, NewListOf, NewMap, Throw, ThrowAgain}
use Rattle.value_view.specs.Answers.{Answers}
use Rattle.value_view.specs.declared.refusal.OpRefusal.{OpRefusal}
use Rattle.value_view.specs.declared.refusal.OpRefusal.TheVariants as op
use Rattle.cps_frames.specs.Changes.{Done}
use Rattle.cps_frames.specs.Standing.{Standing}
use Rattle.cps_frames.proofs.MoveLaws.{beside_here}
use Rattle.step_library.specs.Kept.{IsKept}

in_front : (h cs : List Cell) (c : ℕ) (o : Option Cell) → slice_get h c ≡ o → HasClosure o → HasClosure (slice_get (h ++ cs) c)
in_front h cs c None is has = absurd has
in_front h cs c (Some x) is has = subst HasClosure (sym (get_before h cs c x is)) has

closure_behind : (h cs : List Cell) (f : Value) → IsIn HasClosure h f → IsIn HasClosure (h ++ cs) f
closure_behind h cs (InCell c) has = in_front h cs c (slice_get h c) refl has
closure_behind h cs Null has = absurd has
closure_behind h cs (Truth b) has = absurd has
closure_behind h cs (Whole z) has = absurd has

new_stays : (h g : List Cell) (x : Cell) (o : Option LimitKind) (v f : Value) → unless_limit o (Gives (h ++ x ∷ []) (InCell (length h))) ≡ Gives g v → IsIn HasClosure h f → IsIn HasClosure g f
new_stays h g x None v f is has = let e : h ++ x ∷ [] ≡ g = cc is in subst (λ k. IsIn HasClosure k f) e (closure_behind h (x ∷ []) f has)
new_stays h g x (Some k) v f is has = absurd (cc is)

long_stays : (l : Limits) (h g : List Cell) (t : List ℕ) (long : Bool) (v f : Value) → (if long then Meets TextLength else unless_limit (no_room l h (TextCell t ∷ [])) (Gives (h ++ TextCell t ∷ []) (InCell (length h)))) ≡ Gives g v → IsIn HasClosure h f → IsIn HasClosure g f
long_stays l h g t true v f is has = absurd (cc is)
long_stays l h g t false v f is has = new_stays h g (TextCell t) (no_room l h (TextCell t ∷ [])) v f is has

effect_stays : (h g : List Cell) (e : Effect) (v f : Value) → IsKept e → effect_answer product_limits h e ≡ Gives g v → IsIn HasClosure h f → IsIn HasClosure g f
effect_stays h g (Give x) v f k is has = let e : h ≡ g = cc is in subst (λ y. IsIn HasClosure y f) e has
effect_stays h g (NewText t) v f k is has = long_stays product_limits h g t (nat_lt product_limits.text (length t)) v f is has
effect_stays h g (NewList vs) v f k is has = absurd k
effect_stays h g (NewListOf ts vs) v f k is has = absurd k
effect_stays h g (NewMap es) v f k is has = absurd k
effect_stays h g (Throw d m) v f k is has = absurd k
effect_stays h g (ThrowAgain c) v f k is has = absurd k

pub closures_stay : (e : Effect) (old new : Region) (r : Outcome Value OpRefusal) → IsKept e → Answers (effect_answer product_limits old.cells e) old new r → OnOk r ((f : Value) → IsIn HasClosure old.cells f → IsIn HasClosure new.cells f)
closures_stay e old new (Ok v) k is = λ f has. effect_stays old.cells new.cells e v f k is has
closures_stay e old new (Err o) k is = tt

-- what was not read stops there
pub read_stops : (f : World → Answer) (u : Standing) (o : OpRefusal) → IsReadAs u.world.shared.cells (f u.world) (Err o) → Done f u (Err o) u
read_stops f u op.Memory h = tt
read_stops f u (op.Thrown c) h = absurd h
read_stops f u (op.Limit k) h = record { answers = h; world = refl; stack = refl; beside = beside_here u }
