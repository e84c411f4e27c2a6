use Rattle.std.proofs.Common.{◌≡◌, ◌∙◌, ◌<◌, ◌≤◌, ℕ, List, Some, None, length, map, get_or, slice_get, refl, sym, ap, subst}
use Rattle.std.specs.Prelude.{option_map}
use Rattle.std.proofs.lemmas.List.{length-map}
use Rattle.std.proofs.lemmas.Option.{slice_get_past, slice_get_read, slice_get-map}
use Rattle.std.specs.List.{AllByRecursion as AllAre}
use Rattle.model_values.proofs.CellGrowth.{all_get}
use Rattle.std.specs.Ordering.{nat_cmp}
use Rattle.std.specs.declared.cmp.Ordering.{Ordering}
use Rattle.std.proofs.lemmas.Result.{on_ok_weaker}
use Rattle.image_changes.proofs.Reaching.{before_above, none_above, now_above}
use Rattle.image_changes.proofs.Needed.{added_goes, left_goes, stayed_goes}
use Rattle.image_changes.proofs.Rising.{equal_is, greater_is}
use Rattle.image_changes.proofs.walk.pass.Goals as goal

-- the item that was found at a place
found : {X : Type 0} (xs : List X) (k : ℕ) (x : X) → k < length xs → x ≡ get_or xs k x → slice_get xs k ≡ Some x
found xs k x lt is = slice_get_read xs (length xs) k x refl lt is

-- and the one that an image has of it
seen_at : {N X : Type 0} (seen : N → X) (xs : List N) (k : ℕ) (x : N) → slice_get xs k ≡ Some x → slice_get (map seen xs) k ≡ Some (seen x)
seen_at seen xs k x at = slice_get-map seen xs k ∙ ap (option_map seen) at

seen_past : {N X : Type 0} (seen : N → X) (xs : List N) (k : ℕ) → length xs ≤ k → slice_get (map seen xs) k ≡ None
seen_past seen xs k past = slice_get_past (map seen xs) k (subst (λ n. n ≤ k) (sym (length-map xs seen)) past)

-- how the two numbers stand to each other
ordered : (a b m n : ℕ) (o : Ordering) → a ≡ m → b ≡ n → o ≡ nat_cmp a b → nat_cmp m n ≡ o
ordered a b m n o first next is = ap (λ (k : ℕ). nat_cmp k n) (sym first) ∙ ap (λ (k : ℕ). nat_cmp a k) (sym next) ∙ sym is

pub returns-in-Less-clause-goes : goal.returns-in-Less-clause-goes
returns-in-Less-clause-goes g c = λ goes.
    let by = g.C.Rewrite.by in
    let seen = g.C.Rewrite.seen in
    let now = map seen c.args.now.now in
    let number = g.C.Rewrite.number in
    let made = g.C.Rewrite.made in
    let shortest = g.C.Rewrite.shortest in
    let b = c.in-Some-Some.stood.now in
    let n = seen c.in-Some-Some.item.now in
    let less = ordered _ _ (by b) (by n) _ c.number_of.ensures c.number_now.ensures c.in-Less.ensures in
    let above = now_above by number made c.args.before.now now c.requires.before c.requires.now (by b) c.args.walk.now.has n (seen_at seen c.args.now.now c.args.walk.now.has c.in-Some-Some.item.now (found c.args.now.now c.args.walk.now.has c.in-Some-Some.item.now c.in-Some-Some.ensures'.lookup.3.0 c.in-Some-Some.ensures'.lookup.1)) less in
    on_ok_weaker c.leave.result (λ is. left_goes by number made shortest c.args.before.now now c.requires.before c.requires.now c.args.walk.now c.leave.new.walk b (found c.args.before.now c.args.walk.now.had b c.in-Some-Some.ensures.lookup.3.0 c.in-Some-Some.ensures.lookup.1) above is goes) c.leave.ensures

pub returns-in-Equal-clause-goes : goal.returns-in-Equal-clause-goes
returns-in-Equal-clause-goes g c = λ goes.
    let by = g.C.Rewrite.by in
    let seen = g.C.Rewrite.seen in
    let now = map seen c.args.now.now in
    let number = g.C.Rewrite.number in
    let made = g.C.Rewrite.made in
    let shortest = g.C.Rewrite.shortest in
    let b = c.in-Some-Some.stood.now in
    let n = seen c.in-Some-Some.item.now in
    let same = equal_is (by b) (by n) (ordered _ _ (by b) (by n) _ c.number_of.ensures c.number_now.ensures c.in-Equal.ensures) in
    on_ok_weaker c.keep.result (λ stays. stayed_goes by number made shortest c.args.before.now now c.requires.before c.requires.now c.args.walk.now c.keep.new.walk b n same (found c.args.before.now c.args.walk.now.had b c.in-Some-Some.ensures.lookup.3.0 c.in-Some-Some.ensures.lookup.1) (seen_at seen c.args.now.now c.args.walk.now.has c.in-Some-Some.item.now (found c.args.now.now c.args.walk.now.has c.in-Some-Some.item.now c.in-Some-Some.ensures'.lookup.3.0 c.in-Some-Some.ensures'.lookup.1)) stays goes) c.keep.ensures

pub returns-in-Greater-clause-goes : goal.returns-in-Greater-clause-goes
returns-in-Greater-clause-goes g c = λ goes.
    let by = g.C.Rewrite.by in
    let seen = g.C.Rewrite.seen in
    let now = map seen c.args.now.now in
    let number = g.C.Rewrite.number in
    let made = g.C.Rewrite.made in
    let shortest = g.C.Rewrite.shortest in
    let b = c.in-Some-Some.stood.now in
    let n = seen c.in-Some-Some.item.now in
    let less = greater_is (by b) (by n) (ordered _ _ (by b) (by n) _ c.number_of.ensures c.number_now.ensures c.in-Greater.ensures) in
    let above = before_above by number made c.args.before.now now c.requires.before c.requires.now (by n) c.args.walk.now.had b (found c.args.before.now c.args.walk.now.had b c.in-Some-Some.ensures.lookup.3.0 c.in-Some-Some.ensures.lookup.1) less in
    on_ok_weaker c.add.result (λ adds. added_goes by number made shortest c.args.before.now now c.requires.before c.requires.now c.args.walk.now c.add.new.walk n (seen_at seen c.args.now.now c.args.walk.now.has c.in-Some-Some.item.now (found c.args.now.now c.args.walk.now.has c.in-Some-Some.item.now c.in-Some-Some.ensures'.lookup.3.0 c.in-Some-Some.ensures'.lookup.1)) above adds goes) c.add.ensures

pub returns-in-Some-None-clause-goes : goal.returns-in-Some-None-clause-goes
returns-in-Some-None-clause-goes g c = λ goes.
    let by = g.C.Rewrite.by in
    let seen = g.C.Rewrite.seen in
    let now = map seen c.args.now.now in
    let number = g.C.Rewrite.number in
    let made = g.C.Rewrite.made in
    let shortest = g.C.Rewrite.shortest in
    let b = c.in-Some-None.stood.now in
    let above = none_above by number made c.args.before.now now c.requires.before c.requires.now now (by b) c.args.walk.now.has (seen_past seen c.args.now.now c.args.walk.now.has c.in-Some-None.ensures'.lookup.3) in
    on_ok_weaker c.leave-in-Some-None.result (λ is. left_goes by number made shortest c.args.before.now now c.requires.before c.requires.now c.args.walk.now c.leave-in-Some-None.new.walk b (found c.args.before.now c.args.walk.now.had b c.in-Some-None.ensures.lookup.3.0 c.in-Some-None.ensures.lookup.1) above is goes) c.leave-in-Some-None.ensures

pub returns-in-None-Some-clause-goes : goal.returns-in-None-Some-clause-goes
returns-in-None-Some-clause-goes g c = λ goes.
    let by = g.C.Rewrite.by in
    let seen = g.C.Rewrite.seen in
    let now = map seen c.args.now.now in
    let number = g.C.Rewrite.number in
    let made = g.C.Rewrite.made in
    let shortest = g.C.Rewrite.shortest in
    let n = seen c.in-None-Some.item.now in
    let above = none_above by number made c.args.before.now now c.requires.before c.requires.now c.args.before.now (by n) c.args.walk.now.had (slice_get_past c.args.before.now c.args.walk.now.had c.in-None-Some.ensures.lookup.3) in
    on_ok_weaker c.add-in-None-Some.result (λ adds. added_goes by number made shortest c.args.before.now now c.requires.before c.requires.now c.args.walk.now c.add-in-None-Some.new.walk n (seen_at seen c.args.now.now c.args.walk.now.has c.in-None-Some.item.now (found c.args.now.now c.args.walk.now.has c.in-None-Some.item.now c.in-None-Some.ensures'.lookup.3.0 c.in-None-Some.ensures'.lookup.1)) above adds goes) c.add-in-None-Some.ensures

pub keep-requires-clause-known : goal.keep-requires-clause-known
keep-requires-clause-known g c =
    let by = g.C.Rewrite.by in
    let seen = g.C.Rewrite.seen in
    let known = g.C.Rewrite.known in
    let b = c.in-Some-Some.stood.now in
    let n = c.in-Some-Some.item.now in
    let same = equal_is (by b) (by (seen n)) (ordered _ _ (by b) (by (seen n)) _ c.number_of.ensures c.number_now.ensures c.in-Equal.ensures) in
    all_get (λ (x : _). by x ≡ by (seen n) → known x n) c.args.before.now c.args.walk.now.had b (found c.args.before.now c.args.walk.now.had b c.in-Some-Some.ensures.lookup.3.0 c.in-Some-Some.ensures.lookup.1)
    (all_get (λ (m : _). AllAre (λ (x : _). by x ≡ by (seen m) → known x m) c.args.before.now) c.args.now.now c.args.walk.now.has n (found c.args.now.now c.args.walk.now.has n c.in-Some-Some.ensures'.lookup.3.0 c.in-Some-Some.ensures'.lookup.1) c.requires.known) same
