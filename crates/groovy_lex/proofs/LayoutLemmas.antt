-- The newlines of a script, from the last to the first.
use Rattle.std.proofs.Common.{◌≡◌, ℕ, ◌+◌, List, [], ◌∷◌, ◌++◌, length, take, get_or, reverse, filter, refl, sym, ap, ◌∙◌, arith, Bool, true, false, ◌&&◌, not, append_assoc, append-nil, ltb, ◌==◌}
use Rattle.std.proofs.lemmas.Bool.{eqb-true}
use Rattle.std.proofs.lemmas.List.{reverse-append, take_more, take_all}
use Rattle.model_syntax.specs.declared.token.Token.{Token}
use Rattle.model_syntax.specs.Newlines.{is_newline, goes_on_after, goes_on_with, next_goes_on, kept}
use Rattle.model_syntax.specs.Tokens.{begins_before}
use Rattle.groovy_lex.specs.Layout.{may_end, Lays, LaysBefore}

abbrev pub ends : Token → Bool
ends t = not (is_newline t.kind) && not (goes_on_after t.kind)

pub may_end-empty : (ts : List Token) → (length ts == 0) ≡ true → false ≡ may_end ts
unfolding may_end
may_end-empty [] e = refl
may_end-empty (t ∷ ts) e = absurd (let k = eqb-true (length (t ∷ ts)) 0 e in let c : ⊥ = omega (arith, k) in c)

pub may_end-snoc : (ts : List Token) (t : Token) → may_end (ts ++ t ∷ []) ≡ ends t
unfolding may_end
may_end-snoc [] t = refl
may_end-snoc (x ∷ []) t = refl
may_end-snoc (x ∷ y ∷ ts) t = may_end-snoc (y ∷ ts) t

pub may_end-last : (ts : List Token) (n : ℕ) (t : Token) → length ts ≡ n + 1 → t ≡ get_or ts n t → may_end ts ≡ ends t
may_end-last ts n t h e = ap may_end (sym (take_all (n + 1) ts (omega (arith, h))) ∙ take_more ts n t (omega (arith, h))) ∙ may_end-snoc (take n ts) (get_or ts n t) ∙ ap ends (sym e)

reverse-snoc : (ts : List Token) (t : Token) → reverse (ts ++ t ∷ []) ≡ t ∷ reverse ts
reverse-snoc ts t = reverse-append ts (t ∷ [])

pub lay_token : (before : List Token) (t : Token) (goes_on here : Bool) (old new : List Token) → is_newline t.kind ≡ false → here ≡ goes_on_with t.kind → new ≡ old ++ t ∷ [] → Lays before t goes_on old new here
unfolding next_goes_on kept
lay_token before t goes_on here old new n g e ts h k =
    (rw n g, rw n (ap reverse e ∙ reverse-snoc old t ∙ ap (λ l. t ∷ l) (k ∙ ap (λ b. kept (not b && not (goes_on_after t.kind)) ts) n)))

pub lay_newline : (before : List Token) (t : Token) (goes_on : Bool) (old new : List Token) → is_newline t.kind ≡ true → (may_end before && not goes_on) ≡ true → new ≡ old ++ t ∷ [] → Lays before t goes_on old new goes_on
unfolding next_goes_on kept
lay_newline before t goes_on old new n s e ts h k =
    let m : (may_end before && not (next_goes_on ts)) ≡ true = ap (λ b. may_end before && not b) (sym h) ∙ s in
    (rw n h, rw (n, m) (ap reverse e ∙ reverse-snoc old t ∙ ap (λ l. t ∷ l) (k ∙ ap (λ b. kept (not b && not (goes_on_after t.kind)) ts) n)))

pub lay_none : (before : List Token) (t : Token) (goes_on : Bool) (old : List Token) → is_newline t.kind ≡ true → (may_end before && not goes_on) ≡ false → Lays before t goes_on old old goes_on
unfolding next_goes_on kept
lay_none before t goes_on old n s ts h k =
    let m : (may_end before && not (next_goes_on ts)) ≡ false = ap (λ b. may_end before && not b) (sym h) ∙ s in
    (rw n h, rw (n, m) (k ∙ ap (λ b. kept (not b && not (goes_on_after t.kind)) ts) n))

-- What is kept of all tokens, from what is kept of those behind.
abbrev pub Kept : List Token → List Token → Bool → List Token → Type 0
Kept rest whole goes_on laid = (behind : List Token) × ((rest ++ behind ≡ whole) × ((goes_on ≡ next_goes_on behind) × (reverse laid ≡ kept (may_end rest) behind)))

pub kept_begins : (whole : List Token) → Kept whole whole false []
unfolding next_goes_on kept
kept_begins whole = ([], (append-nil whole, (refl, refl)))

pub kept_more : (rest left whole : List Token) (t : Token) (goes_on here : Bool) (old new : List Token) → rest ≡ left ++ t ∷ [] → Kept rest whole goes_on old → Lays left t goes_on old new here → Kept left whole here new
kept_more rest left whole t goes_on here old new e k l =
    let r = l k.0 k.1.1.0 (k.1.1.1 ∙ ap (λ b. kept b k.0) (ap may_end e ∙ may_end-snoc left t)) in
    (t ∷ k.0, (sym (append_assoc left (t ∷ []) k.0) ∙ ap (λ z. z ++ k.0) (sym e) ∙ k.1.0, (r.0, r.1)))

pub kept_all : (rest whole : List Token) (goes_on : Bool) (laid : List Token) → rest ≡ [] → Kept rest whole goes_on laid → reverse laid ≡ kept false whole
unfolding may_end
kept_all rest whole goes_on laid e k =
    let w : k.0 ≡ whole = ap (λ z. z ++ k.0) (sym e) ∙ k.1.0 in
    k.1.1.1 ∙ ap (λ z. kept (may_end z) k.0) e ∙ ap (kept false) w

pub lay_early : (t : Token) (at : ℕ) (old new : List Token) → ltb t.start at ≡ true → new ≡ old ++ t ∷ [] → LaysBefore t at old new
lay_early t at old new b e ts k = rw b (ap reverse e ∙ reverse-snoc old t ∙ ap (λ l. t ∷ l) k)

pub lay_late : (t : Token) (at : ℕ) (old : List Token) → ltb t.start at ≡ false → LaysBefore t at old old
lay_late t at old b ts k = rw b k

abbrev pub Before : ℕ → List Token → List Token → List Token → Type 0
Before at rest whole laid = (behind : List Token) × ((rest ++ behind ≡ whole) × (reverse laid ≡ filter (begins_before at) behind))

pub before_begins : (at : ℕ) (whole : List Token) → Before at whole whole []
before_begins at whole = ([], (append-nil whole, refl))

pub before_more : (at : ℕ) (rest left whole : List Token) (t : Token) (old new : List Token) → rest ≡ left ++ t ∷ [] → Before at rest whole old → LaysBefore t at old new → Before at left whole new
before_more at rest left whole t old new e k l = (t ∷ k.0, (sym (append_assoc left (t ∷ []) k.0) ∙ ap (λ z. z ++ k.0) (sym e) ∙ k.1.0, l k.0 k.1.1))

pub before_all : (at : ℕ) (rest whole laid : List Token) → rest ≡ [] → Before at rest whole laid → reverse laid ≡ filter (begins_before at) whole
before_all at rest whole laid e k =
    let w : k.0 ≡ whole = ap (λ z. z ++ k.0) (sym e) ∙ k.1.0 in
    k.1.1 ∙ ap (filter (begins_before at)) w
