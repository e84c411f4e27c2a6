-- Several values from left to right: sound from a sound state on.
use Rattle.std.proofs.Common.{arith, ◌≡◌, ◌≤◌, ◌+◌, ◌-◌, refl, sym, ap, subst, ◌∙◌, ℕ, zero, suc, Bool, true, false, List, [], ◌∷◌, ◌++◌, length, length-append, Option, Some, None}
use Rattle.std.specs.Prelude.{slice_get, not, ◌&&◌, take, drop, zip}
use Rattle.std.specs.List.{AllByRecursion as AllAre}
use Rattle.indexmap.specs.IndexMap.{insert_all, insert_entry}
use Rattle.model_syntax.specs.declared.node.NodeForm.{NodeForm}
use Rattle.model_syntax.specs.declared.node.NodeForm.TheVariants as form
use Rattle.model_syntax.specs.declared.tree.NewClass.{NewClass}
use Rattle.model_values.specs.Cells.{new_list, new_map}
use Rattle.model_values.specs.Index.{key_of}
use Rattle.model_values.specs.Keys.{same_key}
use Rattle.model_values.specs.Kinds.{kind}
use Rattle.model_values.specs.TextOf.{written}
use Rattle.model_values.specs.Throws.{new_throwable}
use Rattle.model_values.specs.Fitting.{There, HasText, HasList, HasMap, HasThrowable, IsIn}
use Rattle.model_values.specs.Later.{AnswerGrows, Given}
use Rattle.model_values.proofs.Growth.{new_lists, new_throwables, written_texts}
use Rattle.model_values.proofs.CellGrowth.{all_append, all_insert, new_map_grows, map_is_there, map_there, list_there, text_there, throwable_there}
use Rattle.model_values.proofs.OperatorGrowth.{all_inserts}
use Rattle.model_values.proofs.ThrowGrowth.{bad_key_grows}
use Rattle.model_values.specs.declared.value.Value.{Value}
use Rattle.model_values.specs.declared.key.Key.{Key}
use Rattle.model_values.specs.declared.key.Key.TheVariants.{Int as IntKey, Text as TextKey}
use Rattle.model_values.specs.declared.cell.Cell.{Cell}
use Rattle.model_run.specs.declared.frame.FrameKind.TheVariants as kind
use Rattle.model_run.specs.declared.ending.Ending.{Ending}
use Rattle.model_run.specs.declared.ending.Entry.{Entry}
use Rattle.model_run.specs.declared.ending.Entry.TheVariants.{First, Inside}
use Rattle.model_run.specs.State.{Common, World, State, Env, Result}
use Rattle.model_run.specs.Around.{Around, Shape, form_at, arity, frame, ended, cells, limits}
use Rattle.model_run.specs.Gathering.{is_call, is_named, closes_named, named_keys, keep_by, keep, after_gathered, gather_value, after_key, gather_part, gather, list_of, put_entry, and_entries, entries_of, map_from, map_of, text_parts, text_from, new_class, throwable_of}
use Rattle.model_run.specs.Forms.{gathered}
use Rattle.model_run.specs.FrameTable.{gathers, is_plain, is_computed, is_declaration, count_with, count_closed, count_behind, count_of, key_count}
use Rattle.model_run.specs.Scoping.{Names, names_within}
use Rattle.model_run.specs.Fitting.{EnvFits, closure_rule}
use Rattle.model_run.proofs.LaterLaws.{env_later}
use Rattle.model_run.proofs.Under.{both}
use Rattle.run_laws.specs.Soundness.{Base, Shaped, may_declare, EndFits, At, Holds, Goes}
use Rattle.run_laws.proofs.Flow.{all_there_then, from_here, tick_goes, end_goes, value_goes, through_goes}
use Rattle.run_laws.proofs.Sources.{has_inner, Place, Sources, sits_here, Quiet, part_goes, inner_goes}
use Rattle.run_laws.proofs.SoundAssignments.{before_of, operate_goes, same, any_seen}

pub gathers_plain : (f : NodeForm) → gathers f ≡ true → is_declaration f ≡ false
gathers_plain (form.Call f) e = refl
gathers_plain (form.Method access f) e = refl
gathers_plain form.List e = refl
gathers_plain form.Map e = refl
gathers_plain form.GString e = refl
gathers_plain (form.New c) e = refl
gathers_plain f e = absurd (cc)

pub gathers_quiet : (f : NodeForm) → gathers f ≡ true → (i : ℕ) → may_declare f i ≡ false
gathers_quiet (form.Call f) e i = refl
gathers_quiet (form.Method access f) e i = refl
gathers_quiet form.List e i = refl
gathers_quiet form.Map e i = refl
gathers_quiet form.GString e i = refl
gathers_quiet (form.New c) e i = refl
gathers_quiet f e i = absurd (cc)

gathers_within : (f : NodeForm) → gathers f ≡ true → (i : ℕ) (xs : Names) → names_within f i xs ≡ xs
gathers_within (form.Call f) e i xs = refl
gathers_within (form.Method access f) e i xs = refl
gathers_within form.List e i xs = refl
gathers_within form.Map e i xs = refl
gathers_within form.GString e i xs = refl
gathers_within (form.New c) e i xs = refl
gathers_within f e i xs = absurd (cc)

-- lists of values that are there
all_take : (P : Value → Type 0) (n : ℕ) (vs : List Value) → AllAre P vs → AllAre P (take n vs)
all_take P zero vs h = tt
all_take P (suc n) [] h = tt
all_take P (suc n) (v ∷ vs) h = (h.0, all_take P n vs h.1)

pub all_drop : (P : Value → Type 0) (n : ℕ) (vs : List Value) → AllAre P vs → AllAre P (drop n vs)
all_drop P zero vs h = h
all_drop P (suc n) [] h = tt
all_drop P (suc n) (v ∷ vs) h = all_drop P n vs h.1

all_zip : (P : Value → Type 0) (ks : List Key) (vs : List Value) → AllAre P vs → AllAre (λ e. P e.1) (zip ks vs)
all_zip P [] vs h = tt
all_zip P (k ∷ ks) [] h = tt
all_zip P (k ∷ ks) (v ∷ vs) h = (h.0, all_zip P ks vs h.1)

-- how many values are kept
count_one_more : (p : NodeForm) → is_plain p ≡ false → (n : ℕ) → n + key_count p + 1 ≡ count_with p n
count_one_more (form.PlainPart t) h n = absurd (cc)
count_one_more form.ComputedEntry h n = omega arith
count_one_more f h n = omega arith

longer : (vs : List Value) (v : Value) → length (vs ++ v ∷ []) ≡ length vs + 1
longer vs v = omega (arith, length-append vs (v ∷ []))

taken : (n : ℕ) (vs : List Value) → n ≤ length vs → length (take n vs) ≡ n
taken zero vs h = refl
taken (suc n) [] h = absurd (omega arith)
taken (suc n) (v ∷ vs) h = omega (arith, taken n vs (omega arith))

and_false : (b : Bool) → (b && false) ≡ false
and_false true = refl
and_false false = refl

-- the entries of a map, or none
abbrev EntriesThere : (Value → Type 0) → Option (List (Key × Value)) → Type 0
EntriesThere P None = Unit {0}
EntriesThere P (Some es) = AllAre (λ e. P e.1) es

and_there : (P : Value → Type 0) (go : List (Key × Value) → Option (List (Key × Value))) → ((es : List (Key × Value)) → AllAre (λ e. P e.1) es → EntriesThere P (go es)) → (o : Option (List (Key × Value))) → EntriesThere P o → EntriesThere P (and_entries go o)
and_there P go k None h = tt
and_there P go k (Some es) h = k es h

put_there : (P : Value → Type 0) (o : Option Key) (v : Value) (es : List (Key × Value)) → P v → AllAre (λ e. P e.1) es → EntriesThere P (put_entry o v es)
put_there P None v es p h = tt
put_there P (Some key) v es p h = all_insert P key v es h p

entries_there : (P : Value → Type 0) (h : List Cell) (fs : List NodeForm) (vs : List Value) (es : List (Key × Value)) → AllAre P vs → AllAre (λ e. P e.1) es → EntriesThere P (entries_of h fs vs es)
entries_there P h (form.NamedEntry t ∷ fs) (v ∷ vs) es p q = entries_there P h fs vs (insert_entry same_key es (TextKey t) v) p.1 (all_insert P (TextKey t) v es q p.0)
entries_there P h (form.NumberedEntry z ∷ fs) (v ∷ vs) es p q = entries_there P h fs vs (insert_entry same_key es (IntKey z) v) p.1 (all_insert P (IntKey z) v es q p.0)
entries_there P h (form.ComputedEntry ∷ fs) (key ∷ v ∷ vs) es p q = and_there P (entries_of h fs vs) (λ fs1 r. entries_there P h fs vs fs1 (p.1).1 r) (put_entry (key_of (kind h key)) v es) (put_there P (key_of (kind h key)) v es (p.1).0 q)
entries_there P h fs vs es p q = q

module _ (g : Base) (f : NodeForm) (plain : is_declaration f ≡ false) (u : Common) (vs : List Value) (there : AllAre (There u.cells) vs) where
  pub list_goes : Goes g f u (list_of vs)
  list_goes = tick_goes g f u _ (operate_goes g f u vs there (IsIn HasList) list_there (λ w. new_list (limits w) (cells w) vs) (λ w. new_lists (limits w) (closure_rule g.script) (cells w) vs) ended (end_goes g f u plain))

  pub map_goes : (sh : Shape) → Goes g f u (map_of sh vs)
  map_goes sh = tick_goes g f u _ (operate_goes g f u vs there There (same g) (λ w. map_from w (entries_of (cells w) sh.parts vs [])) (λ w. grown w (entries_of (cells w) sh.parts vs []) (λ given. entries_there (There (cells w)) (cells w) sh.parts vs [] given.1 tt)) ended (end_goes g f u plain))
    where
      grown : (w : World) (o : Option (List (Key × Value))) → (Given (closure_rule g.script) (cells w) vs → EntriesThere (There (cells w)) o) → AnswerGrows (limits w) (closure_rule g.script) (cells w) (Given (closure_rule g.script) (cells w) vs) There (map_from w o)
      grown w None h = bad_key_grows (before_of g w vs) There
      grown w (Some es) h = map_is_there (before_of g w vs) (new_map (limits w) (cells w) es) (new_map_grows (before_of g w vs) es h)

  pub text_goes : (sh : Shape) → Goes g f u (text_from sh vs)
  text_goes sh = tick_goes g f u _ (operate_goes g f u [] tt (IsIn HasText) text_there (λ w. written (limits w) (cells w) (text_parts w sh.parts vs [])) (λ w. written_texts (limits w) (closure_rule g.script) (cells w) (text_parts w sh.parts vs [])) ended (end_goes g f u plain))

  pub throwable_goes : (c : NewClass) → Goes g f u (throwable_of c vs)
  throwable_goes c = tick_goes g f u _ (operate_goes g f u [] tt (IsIn HasThrowable) throwable_there (λ w. new_throwable (limits w) (cells w) (new_class c) (slice_get vs 0)) (λ w. new_throwables (limits w) (closure_rule g.script) (cells w) (new_class c) (slice_get vs 0)) ended (end_goes g f u plain))

module _ (g : Base) (shaped : Shaped g.script) (k : ℕ) (sh : Shape) (xs : Names) (place : Place g k sh xs) (a : Around) (src : Sources g shaped k sh xs place a) (ga : gathers sh.form ≡ true) (env : Env) where
  plain : is_declaration sh.form ≡ false
  plain = gathers_plain sh.form ga

  quiet : Quiet g shaped k sh xs place
  quiet i = gathers_quiet sh.form ga i

  within : (i : ℕ) → names_within sh.form i xs ≡ xs
  within i = gathers_within sh.form ga i xs

  -- what is done with all values
  abbrev pub Done : Type 0
  Done = (u : Common) → EnvFits u.cells xs env → (vs : List Value) → length vs ≡ count_of sh env (arity sh) → AllAre (There u.cells) vs → Goes g sh.form u (gathered a k env sh sh.form vs)

  abbrev pub gathering : ℕ → List Value → State → Result
  gathering m vs = gather a k sh env (gathered a k env sh sh.form) m vs

  -- with so many values, where m parts still come
  abbrev pub Next : ℕ → Type 0
  Next m = (u : Common) → EnvFits u.cells xs env → (vs : List Value) → length vs ≡ count_of sh env (arity sh - m) → AllAre (There u.cells) vs → Goes g sh.form u (gathering m vs)

  counted_behind : (m : ℕ) → suc m ≤ arity sh → count_of sh env (arity sh - m) ≡ count_behind sh m (count_of sh env (arity sh - suc m))
  counted_behind m le =
      let e : arity sh - m ≡ suc (arity sh - suc m) = omega arith in
      let j : arity sh - suc (arity sh - suc m) ≡ m = omega arith in
      ap (count_of sh env) e ∙ ap (λ j. count_behind sh j (count_of sh env (arity sh - suc m))) j

  keep_goes : (b : Bool) (m : ℕ) (u : Common) → EnvFits u.cells xs env → (vs : List Value) → AllAre (There u.cells) vs → Next m → count_closed b (length (named_keys sh.parts)) (length vs) ≡ count_of sh env (arity sh - m) → Goes g sh.form u (keep_by b sh vs (gathering m))
  keep_goes true m u fit vs there next count =
      let n : ℕ = length vs - length (named_keys sh.parts) in
      operate_goes g sh.form u vs there (IsIn HasMap) map_there (λ w. new_map (limits w) (cells w) (insert_all same_key [] (zip (named_keys sh.parts) (drop (length vs - length (named_keys sh.parts)) vs))))
      (λ w. new_map_grows (before_of g w vs) (insert_all same_key [] (zip (named_keys sh.parts) (drop (length vs - length (named_keys sh.parts)) vs)))
      (λ given. all_inserts (There (cells w)) [] (zip (named_keys sh.parts) (drop (length vs - length (named_keys sh.parts)) vs)) tt (all_zip (There (cells w)) (named_keys sh.parts) (drop (length vs - length (named_keys sh.parts)) vs) (all_drop (There (cells w)) (length vs - length (named_keys sh.parts)) vs given.1))))
      (λ map. gathering m (take (length vs - length (named_keys sh.parts)) vs ++ map ∷ []))
      (λ map s at is. from_here g sh.form u (gathering m (take (length vs - length (named_keys sh.parts)) vs ++ map ∷ [])) s at
      (next s.world.shared (env_later u s.world.shared at.later xs env fit) (take (length vs - length (named_keys sh.parts)) vs ++ map ∷ [])
      (omega (arith, count, longer (take (length vs - length (named_keys sh.parts)) vs) map, taken (length vs - length (named_keys sh.parts)) vs (omega arith)))
      (all_append (There s.world.shared.cells) (take (length vs - length (named_keys sh.parts)) vs) (map ∷ []) (all_take (There s.world.shared.cells) (length vs - length (named_keys sh.parts)) vs (all_there_then u s.world.shared at.later vs there)) (is, tt))))
  keep_goes false m u fit vs there next count = next u fit vs count there

  pub gathered_end : (m : ℕ) → suc m ≤ arity sh → (u : Common) → EnvFits u.cells xs env → (vs : List Value) → AllAre (There u.cells) vs → is_plain (form_at sh.parts (arity sh - suc m)) ≡ false → length vs ≡ count_of sh env (arity sh - suc m) + key_count (form_at sh.parts (arity sh - suc m)) → Next m
      → (e : Ending) (s : State) → At g u s → EndFits form.Block s.world.shared e → Holds g sh.form u (after_gathered sh m vs (gathering m) e s)
  gathered_end m le u fit vs there value count next =
      let one : count_of sh env (arity sh - suc m) + key_count (form_at sh.parts (arity sh - suc m)) + 1 ≡ count_with (form_at sh.parts (arity sh - suc m)) (count_of sh env (arity sh - suc m)) = count_one_more (form_at sh.parts (arity sh - suc m)) value (count_of sh env (arity sh - suc m)) in
      value_goes g sh.form u _ (λ v s at is.
      let more : length (vs ++ v ∷ []) ≡ count_with (form_at sh.parts (arity sh - suc m)) (count_of sh env (arity sh - suc m)) = omega (arith, longer vs v, count, one) in
      from_here g sh.form u (keep sh m vs v (gathering m)) s at (keep_goes (closes_named sh m) m s.world.shared (env_later u s.world.shared at.later xs env fit) (vs ++ v ∷ [])
      (all_append (There s.world.shared.cells) vs (v ∷ []) (all_there_then u s.world.shared at.later vs there) (is, tt)) next (ap (count_closed (closes_named sh m) (length (named_keys sh.parts))) more ∙ sym (counted_behind m le))))

  value_frame : (m : ℕ) → suc m ≤ arity sh → (u : Common) → EnvFits u.cells xs env → (vs : List Value) → AllAre (There u.cells) vs → (e : Entry) (p : NodeForm) → form_at sh.parts (arity sh - suc m) ≡ p → is_plain p ≡ false → length vs ≡ count_of sh env (arity sh - suc m) + key_count p → Next m → Goes g form.Block u (a.part e (arity sh - suc m) env) → Goes g sh.form u (gather_value a k sh env m vs (gathering m) e)
  value_frame m le u fit vs there e p is value count next part s at =
      let c : length vs ≡ count_of sh env (arity sh - suc m) + key_count (form_at sh.parts (arity sh - suc m)) = count ∙ ap (λ q. count_of sh env (arity sh - suc m) + key_count q) (sym is) in
      through_goes g sh.form form.Block u (frame kind.Gathered k m env vs) refl (sits_here g shaped k sh xs place u kind.Gathered m env vs (both _ _ ga (ap (λ q. not (is_plain q)) is ∙ ap not value)) (omega arith) (any_seen u _ vs c there) fit tt)
      (after_gathered sh m vs (gathering m)) (gathered_end m le u fit vs there (ap is_plain is ∙ value) c next) (a.part e (arity sh - suc m) env s) (part s at)

  entry_value : (m : ℕ) → suc m ≤ arity sh → (u : Common) → EnvFits u.cells xs env → (vs : List Value) → AllAre (There u.cells) vs → (j : ℕ) (p : NodeForm) → form_at sh.parts (arity sh - suc m) ≡ p → has_inner p ≡ true → names_within p j xs ≡ xs → is_plain p ≡ false → length vs ≡ count_of sh env (arity sh - suc m) + key_count p → Next m → Goes g sh.form u (gather_value a k sh env m vs (gathering m) (Inside j))
  entry_value m le u fit vs there j p is inside names value count next = value_frame m le u fit vs there (Inside j) p is value count next
      (inner_goes g shaped k sh xs place a src quiet u (arity sh - suc m) j p env is inside (within (arity sh - suc m)) (subst (λ zs. EnvFits u.cells zs env) (sym names) fit))

  pub key_end : (m : ℕ) → suc m ≤ arity sh → (u : Common) → EnvFits u.cells xs env → (vs : List Value) → AllAre (There u.cells) vs → form_at sh.parts (arity sh - suc m) ≡ form.ComputedEntry → length vs ≡ count_of sh env (arity sh - suc m) → Next m
      → (e : Ending) (s : State) → At g u s → EndFits form.Block s.world.shared e → Holds g sh.form u (after_key a k sh env m vs (gathering m) e s)
  key_end m le u fit vs there is count next = value_goes g sh.form u _ (λ key s at isk. from_here g sh.form u (gather_value a k sh env m (vs ++ key ∷ []) (gathering m) (Inside 1)) s at
      (entry_value m le s.world.shared (env_later u s.world.shared at.later xs env fit) (vs ++ key ∷ []) (all_append (There s.world.shared.cells) vs (key ∷ []) (all_there_then u s.world.shared at.later vs there) (isk, tt)) 1 form.ComputedEntry is refl refl refl (omega (arith, count, longer vs key)) next))

  plain_count : (m : ℕ) (t : List ℕ) → form_at sh.parts (arity sh - suc m) ≡ form.PlainPart t → (n : ℕ) → count_behind sh m n ≡ n
  plain_count m t is n =
      ap (λ q. count_closed (is_call sh.form && (is_named q && not (is_named (form_at sh.parts (arity sh - m))))) (length (named_keys sh.parts)) (count_with q n)) is ∙ ap (λ b. count_closed b (length (named_keys sh.parts)) n) (and_false (is_call sh.form))

  gather_part_goes : (m : ℕ) → suc m ≤ arity sh → Next m → (u : Common) → EnvFits u.cells xs env → (vs : List Value) → length vs ≡ count_of sh env (arity sh - suc m) → AllAre (There u.cells) vs → (p : NodeForm) → form_at sh.parts (arity sh - suc m) ≡ p → Goes g sh.form u (gather_part a k sh env m vs (gathering m) p)
  gather_part_goes m le next u fit vs count there (form.PlainPart t) is = next u fit vs (count ∙ sym (plain_count m t is _) ∙ sym (counted_behind m le)) there
  gather_part_goes m le next u fit vs count there (form.NamedEntry t) is = entry_value m le u fit vs there 0 (form.NamedEntry t) is refl refl refl (omega (arith, count)) next
  gather_part_goes m le next u fit vs count there (form.NumberedEntry z) is = entry_value m le u fit vs there 0 (form.NumberedEntry z) is refl refl refl (omega (arith, count)) next
  gather_part_goes m le next u fit vs count there form.ComputedEntry is = λ s at.
      through_goes g sh.form form.Block u (frame kind.GatheredKey k m env vs) refl (sits_here g shaped k sh xs place u kind.GatheredKey m env vs (both _ _ ga (ap is_computed is)) (omega arith) (any_seen u _ vs count there) fit tt)
      (after_key a k sh env m vs (gathering m)) (key_end m le u fit vs there is count next) (a.part (Inside 0) (arity sh - suc m) env s)
      (inner_goes g shaped k sh xs place a src quiet u (arity sh - suc m) 0 form.ComputedEntry env is refl (within (arity sh - suc m)) fit s at)
  gather_part_goes m le next u fit vs count there p is = value_frame m le u fit vs there First p is refl (omega (arith, count)) next (part_goes g shaped k sh xs place a src quiet u env fit (arity sh - suc m) (within (arity sh - suc m)))

  pub gather_goes : Done → (m : ℕ) → m ≤ arity sh → Next m
  gather_goes done zero le u fit vs count there = let z : arity sh - 0 ≡ arity sh = omega arith in done u fit vs (count ∙ ap (count_of sh env) z) there
  gather_goes done (suc m) le u fit vs count there = gather_part_goes m le (gather_goes done m (omega arith)) u fit vs count there (form_at sh.parts (arity sh - suc m)) refl
