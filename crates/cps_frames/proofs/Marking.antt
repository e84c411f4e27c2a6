-- A node that is evaluated from parts, turns and calls of which one alone is marked: by it one sees inside which frames that one is begun.
use Rattle.std.proofs.Common.{◌≡◌, ℕ, Bool, true, false, List, [], ◌∷◌, Option, Some, None, refl, sym, ap, ap₂, subst}
use Rattle.std.specs.Prelude.{nat_eq, ◌&&◌}
use Rattle.std.proofs.lemmas.Bool.{eqb-true, eq-eqb}
use Rattle.model_values.specs.declared.limit.LimitKind.{LimitKind}
use Rattle.model_run.specs.declared.ending.Asked.{Asked}
use Rattle.model_run.specs.declared.ending.Asked.TheVariants.{ForRequest, ForBranches}
use Rattle.model_run.specs.declared.ending.Ending.{Ending}
use Rattle.model_run.specs.declared.ending.Entry.{Entry}
use Rattle.model_run.specs.declared.ending.Entry.TheVariants.{First, Inside, On, Turn, Body, Branched}
use Rattle.model_run.specs.declared.frame.Frame.{Frame}
use Rattle.model_run.specs.declared.frame.FrameKind.{FrameKind}
use Rattle.model_run.specs.declared.request.Request.{Request}
use Rattle.model_run.specs.State.{State, Reply, Result, Ended, Waits, Limited, Unfinished, through, changed, unless_limit, guarded, reply_to, with_world}
use Rattle.model_run.specs.Around.{Around, Shape}
use Rattle.model_run.specs.FrameTable.{Within, Part, Inner, Suffix, Called, Executor_wait, Task_wait, Person_wait, Branches_wait, WaitsAt, row_of, within, passes, enters_body}
use Rattle.model_run.specs.Nesting.{is_own}
use Rattle.model_run.specs.Steps.{with_request}
use Rattle.model_run.proofs.Relation.{Relation, Agree, AskedAt, OfPart}

-- what is marked: a part as it is begun, the next turn, a call, or nothing
pub data Mark : Type 0 where
  Of_part : Within → Mark
  Of_turn : Mark
  Of_call : Mark
  Of_none : Mark

abbrev same_within : Within → Within → Bool
same_within (Part i) (Part j) = nat_eq i j
same_within (Inner i j) (Inner k l) = nat_eq i k && nat_eq j l
same_within (Suffix i) (Suffix j) = nat_eq i j
same_within v w = false

first_is : (a b : Bool) → (a && b) ≡ true → a ≡ true
first_is true b e = refl
first_is false b e = absurd (cc e)

second_is : (a b : Bool) → (a && b) ≡ true → b ≡ true
second_is true b e = e
second_is false b e = absurd (cc e)

within_same : (v w : Within) → same_within v w ≡ true → v ≡ w
within_same (Part i) (Part j) e = ap Part (eqb-true i j e)
within_same (Inner i j) (Inner k l) e = ap₂ Inner (eqb-true i k (first_is (nat_eq i k) _ e)) (eqb-true j l (second_is (nat_eq i k) _ e))
within_same (Suffix i) (Suffix j) e = ap Suffix (eqb-true i j e)
within_same v w e = absurd (cc e)

and_both : (a b : Bool) → a ≡ true → b ≡ true → (a && b) ≡ true
and_both true b x y = y
and_both false b x y = absurd (cc x)

-- the entries of parts are told apart
pub same_self : (e : Entry) → OfPart e → (i : ℕ) → same_within (within e i) (within e i) ≡ true
same_self First of i = eq-eqb i i refl
same_self (Inside j) of i = and_both (nat_eq i i) (nat_eq j j) (eq-eqb i i refl) (eq-eqb j j refl)
same_self (On v) of i = eq-eqb i i refl
same_self (Turn j kept) of i = absurd of
same_self (Body args) of i = absurd of
same_self (Branched start) of i = absurd of

-- the mark: a wait for no branches, for which no script ever waits
abbrev pub marking : Bool → State → Result
marking true s = Waits (ForBranches []) [] s
marking false s = Unfinished

abbrev pub is_part : Mark → Within → Bool
is_part (Of_part v) w = same_within w v
is_part m w = false

abbrev pub is_turn : Mark → Bool
is_turn Of_turn = true
is_turn m = false

abbrev pub is_call : Mark → Bool
is_call Of_call = true
is_call m = false

abbrev pub marked : Mark → Around
marked m = record {
  part = λ e i env s. marking (is_part m (within e i)) s;
  again = λ i kept env s. marking (is_turn m) s;
  call = λ n args env s. marking (is_call m) s;
}

-- what is marked stands directly inside a frame, or in the place of the node
abbrev pub StandsIn : Mark → Within → Type 0
StandsIn (Of_part v) w = w ≡ v
StandsIn Of_call w = w ≡ Called
StandsIn m w = ⊥

abbrev pub StandsFor : Type 0 → Mark → Shape → Type 0
StandsFor T (Of_part v) sh = passes sh v ≡ true
StandsFor T Of_turn sh = T
StandsFor T Of_call sh = enters_body sh.form ≡ true
StandsFor T Of_none sh = ⊥

-- What is waited for inside a frame: what is marked, or a wait of its kind.
abbrev pub WaitIn : Mark → Within → Asked → Type 0
WaitIn m w (ForRequest n) = WaitsAt w (ForRequest n)
WaitIn m w (ForBranches []) = StandsIn m w
WaitIn m w (ForBranches (b ∷ bs)) = WaitsAt w (ForBranches (b ∷ bs))

abbrev pub WaitFor : Type 0 → Mark → Shape → Asked → Type 0
WaitFor T m sh (ForRequest n) = ⊥
WaitFor T m sh (ForBranches []) = StandsFor T m sh
WaitFor T m sh (ForBranches (b ∷ bs)) = ⊥

-- the frames that a node puts up at once: none, or one of some kinds
abbrev pub Fronted : (FrameKind → Type 0) → Type 0 → Mark → Shape → List Frame → Asked → Type 0
Fronted K T m sh [] asked = WaitFor T m sh asked
Fronted K T m sh (f ∷ []) asked = K f.kind × WaitIn m (row_of sh f).inside asked
Fronted K T m sh (f ∷ g ∷ fs) asked = ⊥

-- for frames of these kinds, and where T holds if a further turn may begin
module _ (K : FrameKind → Type 0) (T : Type 0) (m : Mark) (sh : Shape) where
  -- what a node comes to, and what stands inside one of its frames
  abbrev pub Shows : Result → Type 0
  Shows (Waits asked path s) = Fronted K T m sh path asked
  Shows r = Unit {0}

  abbrev pub ShowsIn : Within → Result → Type 0
  ShowsIn w (Waits asked [] s) = WaitIn m w asked
  ShowsIn w (Waits asked (f ∷ fs) s) = ⊥
  ShowsIn w r = Unit {0}

  abbrev pub ShowsTurn : Result → Type 0
  ShowsTurn (Waits (ForBranches []) [] s) = (is_turn m ≡ true) × T
  ShowsTurn (Waits asked path s) = ⊥
  ShowsTurn r = Unit {0}

  abbrev pub ShowsCall : Result → Type 0
  ShowsCall (Waits (ForBranches []) [] s) = is_call m ≡ true
  ShowsCall (Waits asked path s) = ⊥
  ShowsCall r = Unit {0}

  pub record Front (f : Frame) (w : Within) : Type 0 where
    pub own : K f.kind
    pub inside : (row_of sh f).inside ≡ w

  pub through_shows : (f : Frame) (w : Within) → Front f w → (go : Ending → State → Result) → ((e : Ending) (s : State) → Shows (go e s)) → (r : Result) → ShowsIn w r → Shows (through f go r)
  unfolding through
  through_shows f w st go h (Ended e s) q = h e s
  through_shows f w st go h (Waits asked [] s) q = (st.own, subst (λ v. WaitIn m v asked) (sym st.inside) q)
  through_shows f w st go h (Waits asked (x ∷ xs) s) q = absurd q
  through_shows f w st go h (Limited k s) q = tt
  through_shows f w st go h Unfinished q = tt

  pub unless_shows : (l : Option LimitKind) (go : State → Result) (s : State) → Shows (go s) → Shows (unless_limit l go s)
  unless_shows (Some k) go s h = tt
  unless_shows None go s h = h

  pub unless_shows_in : (w : Within) (l : Option LimitKind) (go : State → Result) (s : State) → ShowsIn w (go s) → ShowsIn w (unless_limit l go s)
  unless_shows_in w (Some k) go s h = tt
  unless_shows_in w None go s h = h

  pub reply_shows : (w : Within) (asked : Asked) (s : State) (rs : List Reply) → WaitIn m w asked → ShowsIn w (reply_to asked s rs)
  reply_shows w asked s [] h = h
  reply_shows w asked s (r ∷ rs) h = tt

  pub asked_in : (w : Within) (r : Request) (n : ℕ) → AskedAt w r → WaitIn m w (ForRequest n)
  asked_in Executor_wait r n h = tt
  asked_in Task_wait r n h = tt
  asked_in Person_wait r n h = tt
  asked_in w r n h = absurd h

  pub turn_shows : (r : Result) → ShowsTurn r → Shows r
  turn_shows (Waits (ForBranches []) [] s) h = by_turn m h.0
    where
      by_turn : (m : Mark) → is_turn m ≡ true → StandsFor T m sh
      by_turn Of_turn e = h.1
      by_turn x e = absurd (cc e)
  turn_shows (Waits asked path s) h = absurd h
  turn_shows (Ended e s) h = tt
  turn_shows (Limited k s) h = tt
  turn_shows Unfinished h = tt

  pub call_in : (r : Result) → ShowsCall r → ShowsIn Called r
  call_in (Waits (ForBranches []) [] s) h = by_call m h
    where
      by_call : (m : Mark) → is_call m ≡ true → StandsIn m Called
      by_call Of_call h = refl
      by_call x h = absurd (cc h)
  call_in (Waits asked path s) h = absurd h
  call_in (Ended e s) h = tt
  call_in (Limited k s) h = tt
  call_in Unfinished h = tt

  call_shows : enters_body sh.form ≡ true → (r : Result) → ShowsCall r → Shows r
  call_shows at (Waits (ForBranches []) [] s) h = by_call m h
    where
      by_call : (m : Mark) → is_call m ≡ true → StandsFor T m sh
      by_call Of_call h = at
      by_call x h = absurd (cc h)
  call_shows at (Waits asked path s) h = absurd h
  call_shows at (Ended e s) h = tt
  call_shows at (Limited k s) h = tt
  call_shows at Unfinished h = tt

  no_wait_passes : (w : Within) (asked : Asked) → passes sh w ≡ true → WaitsAt w asked → ⊥
  no_wait_passes (Part i) asked p h = absurd h
  no_wait_passes (Inner i j) asked p h = absurd h
  no_wait_passes w asked p h = absurd (cc p)

  passed_shows : (w : Within) → passes sh w ≡ true → (r : Result) → ShowsIn w r → Shows r
  passed_shows w p (Waits (ForRequest n) [] s) h = absurd (no_wait_passes w (ForRequest n) p h)
  passed_shows w p (Waits (ForBranches []) [] s) h = by_part m h
    where
      by_part : (m : Mark) → StandsIn m w → StandsFor T m sh
      by_part (Of_part v) h = subst (λ x. passes sh x ≡ true) h p
      by_part Of_call h = let no : passes sh Called ≡ true = subst (λ x. passes sh x ≡ true) h p in absurd (cc no)
      by_part x h = absurd h
  passed_shows w p (Waits (ForBranches (b ∷ bs)) [] s) h = absurd (no_wait_passes w (ForBranches (b ∷ bs)) p h)
  passed_shows w p (Waits asked (x ∷ xs) s) h = absurd h
  passed_shows w p (Ended e s) h = tt
  passed_shows w p (Limited k s) h = tt
  passed_shows w p Unfinished h = tt

  abbrev pub showing : Relation
  showing = record {
    States = λ s s'. Unit {0};
    Less = λ s s'. Unit {0};
    Results = λ r r'. Shows r;
    Inner = λ w r r'. ShowsIn w r;
    Turns = λ r r'. ShowsTurn r;
    Calls = λ r r'. ShowsCall r;
    Fits = λ f go. Unit {0};
    Stands = λ f w. Front f w;
    ends = λ e s s' q. tt;
    limits = λ k s s' q. tt;
    changes = λ g s s' keeps q. tt;
    weakens = λ s s' q. q;
    turned = λ r r' q. turn_shows r q;
    looks = λ go go' s s' q h. h;
    looks_less = λ go go' s s' q h. h;
    descends = λ limit g go go' h s s' spends q. unless_shows (limit s.world) (changed g go) s (h _ s' tt);
    asks = λ r w at s s' q. reply_shows w (ForRequest s.world.shared.next_request) (with_world (with_request r s.world) s) s.replies (asked_in w r s.world.shared.next_request at);
    forks = λ b bs s s' q. reply_shows Branches_wait (ForBranches (b ∷ bs)) s s.replies tt;
    throughs = λ f w go go' fits st h r r' q. through_shows f w st go (λ e s. h e s s tt) r q;
    descends_through = λ f go go' fits st h limit g body body' b s s' spends q.
        through_shows f Called st go (λ e s. h e s s tt) (guarded limit g body s) (unless_shows_in Called (limit s.world) (changed g body) s (call_in _ (b _ s' tt)));
  }

  pub part_marks : (w : Within) (b : Bool) (s : State) → is_part m w ≡ b → ShowsIn w (marking b s)
  part_marks w true s e = by_mark m e
    where
      by_mark : (m : Mark) → is_part m w ≡ true → StandsIn m w
      by_mark (Of_part v) e = within_same w v e
      by_mark x e = absurd (cc e)
  part_marks w false s e = tt

  turn_marks : T → (b : Bool) (s : State) → is_turn m ≡ b → ShowsTurn (marking b s)
  turn_marks t true s e = (e, t)
  turn_marks t false s e = tt

  call_marks : (b : Bool) (s : State) → is_call m ≡ b → ShowsCall (marking b s)
  call_marks true s e = e
  call_marks false s e = tt

  -- a node of this shape with one mark
  pub marked_agrees : ((f : FrameKind) → is_own f ≡ true → K f) → T → (k : ℕ) → Agree showing sh k (marked m) (marked m)
  marked_agrees owned t k = record {
    parts = λ e of i env s s' q. part_marks (within e i) (is_part m (within e i)) s refl;
    agains = λ i kept env s s' q. turn_marks t (is_turn m) s refl;
    calls = λ n args env s s' q. call_marks (is_call m) s refl;
    fits = λ f at meets. tt;
    stands = λ f at own meets. record { own = owned f.kind own; inside = refl };
    passed = λ w p r r' h. passed_shows w p r h;
    called = λ at r r' h. call_shows at r h;
  }
