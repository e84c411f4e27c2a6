-- Expressions, but for calls: sound from a sound state on.
use Rattle.std.proofs.Common.{arith, ◌≡◌, ◌≤◌, ◌<◌, ◌-◌, refl, sym, ap, subst, ◌∙◌, ℕ, zero, suc, Bool, true, false, List, [], ◌∷◌}
use Rattle.std.specs.Prelude.{not, if◌then◌else◌, reverse}
use Rattle.model_syntax.specs.declared.node.NodeForm.{NodeForm}
use Rattle.model_syntax.specs.declared.node.NodeForm.TheVariants as form
use Rattle.model_syntax.specs.declared.tree.Access.{Access}
use Rattle.model_syntax.specs.declared.tree.Access.TheVariants.{Direct, NullSafe}
use Rattle.model_syntax.specs.declared.tree.Operator.{Operator}
use Rattle.model_syntax.specs.declared.tree.Operator.TheVariants as operator
use Rattle.model_syntax.specs.declared.tree.Prefix.{Prefix}
use Rattle.model_syntax.specs.declared.tree.Prefix.TheVariants as prefix
use Rattle.model_values.specs.Equality.{Equality, Is as Equal_is, Stops, equal}
use Rattle.model_values.specs.Index.{get_at, get_property}
use Rattle.model_values.specs.Kinds.{kind}
use Rattle.model_values.specs.Operators.{apply}
use Rattle.model_values.specs.Fitting.{There}
use Rattle.model_values.specs.Later.{AnswerGrows, Given}
use Rattle.model_values.proofs.Growth.{operators, reads, property_reads}
use Rattle.model_values.proofs.IndexGrowth.{unless_null_grows}
use Rattle.model_values.specs.declared.value.Value.{Value}
use Rattle.model_values.specs.declared.value.Value.TheVariants.{Null, Bool as Truth}
use Rattle.model_values.specs.declared.operator.Op.{Op}
use Rattle.model_values.specs.declared.operator.Op.TheVariants.{Plus, Minus, Times, Mod, Less, LessEqual, Greater, GreaterEqual, Range, Negative, Positive}
use Rattle.model_run.specs.declared.frame.FrameKind.TheVariants as kind
use Rattle.model_run.specs.declared.ending.Ending.{Ending}
use Rattle.model_run.specs.declared.ending.Entry.TheVariants.{Inside, On}
use Rattle.model_run.specs.State.{Common, World, State, Env, Result, Limited, tick, raised, on_value}
use Rattle.model_run.specs.Around.{Around, Shape, form_at, arity, frame, ended, cells, limits, deciding}
use Rattle.model_run.specs.Expressions.{after_choice, choice_test, choice, choices, truth_value, stops_or, is_and, after_operand, operands, compared, comparing, computing, applying, operator_of, after_joined, joined, joined_all, prefixing, prefixes_of, prefixed_by, prefixed, suffixed, suffixed_all, safely, property, index, indexed, group}
use Rattle.model_run.specs.Forms.{value}
use Rattle.model_run.specs.FrameTable.{same_form, is_choice, is_chain, is_declaration}
use Rattle.model_run.specs.Scoping.{Names, names_within, names_after}
use Rattle.model_run.specs.Fitting.{EnvFits, closure_rule, Later}
use Rattle.model_run.proofs.LaterLaws.{env_later}
use Rattle.model_run.proofs.Under.{both}
use Rattle.run_laws.specs.Soundness.{Base, Shaped, may_declare, is_operand, Sits, EndFits, Sound, At, Holds, Goes}
use Rattle.run_laws.proofs.Flow.{later_self, there_then, from_here, holds_as, Moves, moves_aside, change_goes, tick_goes, decide_goes, GoesWith, end_goes, null_goes, value_goes, through_goes, stopped_here}
use Rattle.run_laws.proofs.Sources.{has_inner, Place, Sources, sits_here, Quiet, quiet_names, part_goes, inner_goes}
use Rattle.run_laws.proofs.SoundAssignments.{before_of, operate_goes, same}
use Rattle.run_laws.proofs.SoundStatements.{under_goes}

pub operand_inner : (f : NodeForm) → is_operand f ≡ true → has_inner f ≡ true
operand_inner (form.Operand o) e = refl
operand_inner f e = absurd (cc)

operand_names : (f : NodeForm) → is_operand f ≡ true → (j : ℕ) (xs : Names) → names_within f j xs ≡ xs
operand_names (form.Operand o) e j xs = refl
operand_names f e j xs = absurd (cc)

chain_plain : (f : NodeForm) → is_chain f ≡ true → is_declaration f ≡ false
chain_plain form.And e = refl
chain_plain form.Or e = refl
chain_plain f e = absurd (cc)

pub chain_quiet : (f : NodeForm) → is_chain f ≡ true → (i : ℕ) → may_declare f i ≡ false
chain_quiet form.And e i = refl
chain_quiet form.Or e i = refl
chain_quiet f e i = absurd (cc)

chain_within : (f : NodeForm) → is_chain f ≡ true → (i : ℕ) (xs : Names) → names_within f i xs ≡ xs
chain_within form.And e i xs = refl
chain_within form.Or e i xs = refl
chain_within f e i xs = absurd (cc)

module _ (g : Base) where
  raised_moves : (n : ℕ) (w : World) → Sound g w → Moves g (raised n) w
  raised_moves n w sound = moves_aside g (raised n) w sound refl refl refl refl refl refl refl refl (omega arith)

  module _ (f : NodeForm) (plain : is_declaration f ≡ false) (u : Common) where
    pub value_form_goes : GoesWith g f u value
    value_form_goes v s at is = from_here g f u (value v) s at (tick_goes g f s.world.shared (ended v) (λ t q. (q, (there_then s.world.shared t.world.shared q.later v is, plain))))

    truth_goes : (v : Value) → Goes g f u (truth_value v)
    truth_goes v s at = (at, (tt, plain))

    stops_goes : (b : Bool) (v : Value) (go : State → Result) → Goes g f u go → Goes g f u (stops_or b v go)
    stops_goes true v go k' = tick_goes g f u _ (decide_goes g f u v go (ended (Truth false)) k' (λ s at. (at, (tt, plain))))
    stops_goes false v go k' = tick_goes g f u _ (decide_goes g f u v (ended (Truth true)) go (λ s at. (at, (tt, plain))) k')

    pub operand_goes : (sh : Shape) (m : ℕ) (go : State → Result) → Goes g f u go → (v : Value) → Goes g f u (after_operand sh m go v)
    operand_goes sh zero go k' v = truth_goes v
    operand_goes sh (suc m) go k' v = stops_goes (is_and sh.form) v go k'

    compared_goes : (same : Bool) (go : Value → State → Result) → GoesWith g f u go → (x : Equality) → Goes g f u (compared same go x)
    compared_goes same go k' (Equal_is b n) = change_goes g f u (raised n) (raised_moves n) (go (Truth (if same then b else not b))) (λ s at. k' (Truth (if same then b else not b)) s at tt)
    compared_goes same go k' (Stops limit n) = change_goes g f u (raised n) (raised_moves n) (Limited limit) (λ s at. stopped_here g u s at)

    comparing_goes : (same : Bool) (x y : Value) (go : Value → State → Result) → GoesWith g f u go → Goes g f u (comparing same x y go)
    comparing_goes same x y go k' s at = compared_goes same go k' (equal (limits s.world) (cells s.world) x y s.world.shared.count) s at

    computing_goes : (op : Op) (x y : Value) → There u.cells x → There u.cells y → (go : Value → State → Result) → GoesWith g f u go → Goes g f u (computing op x y go)
    computing_goes op x y tx ty go k' = operate_goes g f u (x ∷ y ∷ []) (tx, (ty, tt)) There (same g) (λ w. apply (limits w) (cells w) op x y) (λ w. operators (limits w) (closure_rule g.script) (cells w) op x y) go k'

    applying_goes : (o : Operator) (x y : Value) → There u.cells x → There u.cells y → (go : Value → State → Result) → GoesWith g f u go → Goes g f u (applying o x y go)
    applying_goes operator.Equal x y tx ty go k' = comparing_goes true x y go k'
    applying_goes operator.NotEqual x y tx ty go k' = comparing_goes false x y go k'
    applying_goes operator.Plus x y tx ty go k' = computing_goes Plus x y tx ty go k'
    applying_goes operator.Minus x y tx ty go k' = computing_goes Minus x y tx ty go k'
    applying_goes operator.Times x y tx ty go k' = computing_goes Times x y tx ty go k'
    applying_goes operator.Mod x y tx ty go k' = computing_goes Mod x y tx ty go k'
    applying_goes operator.Range x y tx ty go k' = computing_goes Range x y tx ty go k'
    applying_goes operator.Less x y tx ty go k' = computing_goes Less x y tx ty go k'
    applying_goes operator.LessEqual x y tx ty go k' = computing_goes LessEqual x y tx ty go k'
    applying_goes operator.Greater x y tx ty go k' = computing_goes Greater x y tx ty go k'
    applying_goes operator.GreaterEqual x y tx ty go k' = computing_goes GreaterEqual x y tx ty go k'

    prefixing_goes : (p : Prefix) (v : Value) → There u.cells v → (go : Value → State → Result) → GoesWith g f u go → Goes g f u (prefixing p v go)
    prefixing_goes prefix.Not v is go k' s at = k' _ s at tt
    prefixing_goes prefix.Negative v is go k' s at = computing_goes Negative v Null is tt go k' s at
    prefixing_goes prefix.Positive v is go k' s at = computing_goes Positive v Null is tt go k' s at

    property_at : (access : Access) (p : List ℕ) (v : Value) → There u.cells v → Goes g f u (property access p v)
    property_at access p v is = tick_goes g f u _ (operate_goes g f u (v ∷ []) (is, tt) There (same g) (λ w. safely access w v (get_property (limits w) (cells w) v p)) (grown access) ended (end_goes g f u plain))
      where
        grown : (access : Access) (w : World) → AnswerGrows (limits w) (closure_rule g.script) (cells w) (Given (closure_rule g.script) (cells w) (v ∷ [])) There (safely access w v (get_property (limits w) (cells w) v p))
        grown Direct w = property_reads (limits w) (closure_rule g.script) (cells w) v p
        grown NullSafe w = unless_null_grows (before_of g w (v ∷ [])) (kind (cells w) v) (get_property (limits w) (cells w) v p) (property_reads (limits w) (closure_rule g.script) (cells w) v p)

    pub property_goes : (access : Access) (p : List ℕ) (v : Value) → There u.cells v → Goes g f u (property access p v)
    property_goes = property_at

    index_at : (v i : Value) → There u.cells v → There u.cells i → Goes g f u (index v i)
    index_at v i tv ti = tick_goes g f u _ (operate_goes g f u (v ∷ i ∷ []) (tv, (ti, tt)) There (same g) (λ w. get_at (limits w) (cells w) v i) (λ w. reads (limits w) (closure_rule g.script) (cells w) v i) ended (end_goes g f u plain))

  module _ (f : NodeForm) (plain : is_declaration f ≡ false) where
    pub prefixed_by_goes : (ps : List Prefix) (u : Common) → GoesWith g f u (prefixed_by ps)
    prefixed_by_goes [] u v s at is = (at, (is, plain))
    prefixed_by_goes (p ∷ ps) u v s at is = from_here g f u (prefixed_by (p ∷ ps) v) s at (tick_goes g f s.world.shared _ (prefixing_goes f plain s.world.shared p v is (prefixed_by ps) (prefixed_by_goes ps s.world.shared)))

    pub index_end_goes : (u : Common) (v : Value) → There u.cells v → GoesWith g f u (index v)
    index_end_goes u v is i s at there = from_here g f u (index v i) s at (index_at f plain s.world.shared v i (there_then u s.world.shared at.later v is) there)

    pub joined_value_goes : (sh : Shape) (m : ℕ) (u : Common) (left : Value) → There u.cells left → (go : Value → State → Result) → ((w : Common) → Later u w → GoesWith g f w go) → GoesWith g f u (after_joined sh m left go)
    joined_value_goes sh m u left is go k' v s at there = from_here g f u (after_joined sh m left go v) s at
        (tick_goes g f s.world.shared (applying (operator_of (form_at sh.parts (arity sh - suc m))) left v go) (applying_goes f plain s.world.shared (operator_of (form_at sh.parts (arity sh - suc m))) left v (there_then u s.world.shared at.later left is) there go (k' s.world.shared at.later)))

module _ (g : Base) (shaped : Shaped g.script) (k : ℕ) (sh : Shape) (xs : Names) (place : Place g k sh xs) (a : Around) (src : Sources g shaped k sh xs place a) where
  abbrev Is : NodeForm → Type 0
  Is f = sh.form ≡ f

  -- `(e)`
  pub group_end_goes : Is form.Group → (u : Common) (e : Ending) (s : State) → At g u s → EndFits form.Block s.world.shared e → Holds g sh.form u (on_value (λ v. value v) e s)
  group_end_goes is u = value_goes g sh.form u value (value_form_goes g sh.form (ap is_declaration is) u)

  pub group_goes : Is form.Group → (u : Common) (env : Env) → EnvFits u.cells xs env → Goes g sh.form u (group a k env)
  group_goes is u env fit = under_goes g shaped k sh xs place a src sh.form u kind.GroupValue refl 0 env [] (on_value (λ v. value v)) 0 (λ i. ap (λ f. may_declare f i) is) (ap (λ f. names_within f 0 xs) is) fit
      (sits_here g shaped k sh xs place u kind.GroupValue 0 env [] (ap (same_form form.Group) is) (omega arith) tt fit tt) (group_end_goes is u)

  -- `test ? v :` and `v ?:`
  module _ (is : Is form.Chosen) where
    chosen_quiet : Quiet g shaped k sh xs place
    chosen_quiet i = ap (λ f. may_declare f i) is

    chosen_plain : is_declaration sh.form ≡ false
    chosen_plain = ap is_declaration is

    chosen_within : (i : ℕ) → names_within sh.form i xs ≡ xs
    chosen_within i = ap (λ f. names_within f i xs) is

    pub choice_end_goes : (u : Common) (m : ℕ) (env : Env) → EnvFits u.cells xs env → (others : State → Result) → ((w : Common) → Later u w → Goes g sh.form w others) → (p : NodeForm) → form_at sh.parts (arity sh - suc m) ≡ p → is_choice p ≡ true
        → (e : Ending) (s : State) → At g u s → EndFits form.Block s.world.shared e → Holds g sh.form u (after_choice a sh m env others p e s)
    choice_end_goes u m env fit others go form.IfTrue e1 c = value_goes g sh.form u _ (λ v s at is. tick_goes g sh.form u _ (decide_goes g sh.form u v _ others
        (λ t q. holds_as g form.Block sh.form u _ refl chosen_plain (inner_goes g shaped k sh xs place a src chosen_quiet u (arity sh - suc m) 1 form.IfTrue env e1 refl (chosen_within (arity sh - suc m)) fit t q)) (go u (later_self u))) s at)
    choice_end_goes u m env fit others go form.IfSet e1 c = value_goes g sh.form u _ (λ v s at is. from_here g sh.form u (tick (deciding v (ended v) others)) s at (tick_goes g sh.form s.world.shared _ (decide_goes g sh.form s.world.shared v (ended v) others
        (λ t q. (q, (there_then s.world.shared t.world.shared q.later v is, chosen_plain))) (go s.world.shared at.later))))
    choice_end_goes u m env fit others go p e1 c = absurd (cc)

    choice_frame : (u : Common) (m : ℕ) → suc m ≤ arity sh → (env : Env) → EnvFits u.cells xs env → (others : State → Result) → ((w : Common) → Later u w → Goes g sh.form w others) → (p : NodeForm) → form_at sh.parts (arity sh - suc m) ≡ p → is_choice p ≡ true → has_inner p ≡ true → names_within p 0 xs ≡ xs → Goes g sh.form u (choice_test a k sh m env others)
    choice_frame u m le env fit others go p e1 c inside names s at =
        through_goes g sh.form form.Block u (frame kind.ChosenTest k m env []) refl (sits_here g shaped k sh xs place u kind.ChosenTest m env [] (both _ _ (ap (same_form form.Chosen) is) (ap is_choice e1 ∙ c)) (omega arith) tt fit tt)
        (after_choice a sh m env others (form_at sh.parts (arity sh - suc m))) (choice_end_goes u m env fit others go (form_at sh.parts (arity sh - suc m)) refl (ap is_choice e1 ∙ c)) (a.part (Inside 0) (arity sh - suc m) env s)
        (inner_goes g shaped k sh xs place a src chosen_quiet u (arity sh - suc m) 0 p env e1 inside (chosen_within (arity sh - suc m)) (subst (λ zs. EnvFits u.cells zs env) (sym names) fit) s at)

    choice_goes : (u : Common) (m : ℕ) → suc m ≤ arity sh → (env : Env) → EnvFits u.cells xs env → (others : State → Result) → ((w : Common) → Later u w → Goes g sh.form w others) → (p : NodeForm) → form_at sh.parts (arity sh - suc m) ≡ p → Goes g sh.form u (choice a k sh m env others p)
    choice_goes u m le env fit others go form.IfTrue e1 = choice_frame u m le env fit others go form.IfTrue e1 refl refl refl
    choice_goes u m le env fit others go form.IfSet e1 = choice_frame u m le env fit others go form.IfSet e1 refl refl refl
    choice_goes u m le env fit others go p e1 = λ s at. holds_as g form.Block sh.form u _ refl chosen_plain (part_goes g shaped k sh xs place a src chosen_quiet u env fit (arity sh - suc m) (chosen_within (arity sh - suc m)) s at)

    pub choices_goes : (m : ℕ) → m ≤ arity sh → (u : Common) (env : Env) → EnvFits u.cells xs env → Goes g sh.form u (choices a k sh env m)
    choices_goes zero le u env fit = null_goes g sh.form u chosen_plain
    choices_goes (suc m) le u env fit = choice_goes u m le env fit (choices a k sh env m) (λ w l. choices_goes m (omega arith) w env (env_later u w l xs env fit)) (form_at sh.parts (arity sh - suc m)) refl

  -- `&&` and `||`
  module _ (ch : is_chain sh.form ≡ true) where
    operand_end : (m : ℕ) (u : Common) (env : Env) → Goes g sh.form u (operands a k sh env m) → (e : Ending) (s : State) → At g u s → EndFits form.Block s.world.shared e → Holds g sh.form u (on_value (after_operand sh m (operands a k sh env m)) e s)
    operand_end m u env go = value_goes g sh.form u _ (λ v s at is. operand_goes g sh.form (chain_plain sh.form ch) u sh m (operands a k sh env m) go v s at)

    pub operands_goes : (m : ℕ) → m ≤ arity sh → (u : Common) (env : Env) → EnvFits u.cells xs env → Goes g sh.form u (operands a k sh env m)
    operands_goes zero le u env fit = null_goes g sh.form u (chain_plain sh.form ch)
    operands_goes (suc m) le u env fit = under_goes g shaped k sh xs place a src sh.form u kind.ChainOperand refl m env [] (on_value (after_operand sh m (operands a k sh env m))) (arity sh - suc m) (λ i. chain_quiet sh.form ch i) (chain_within sh.form ch (arity sh - suc m) xs) fit
        (sits_here g shaped k sh xs place u kind.ChainOperand m env [] ch (omega arith) tt fit tt) (operand_end m u env (operands_goes m (omega arith) u env fit))

    pub operand_end_goes : (m : ℕ) → m ≤ arity sh → (u : Common) (env : Env) → EnvFits u.cells xs env → (e : Ending) (s : State) → At g u s → EndFits form.Block s.world.shared e → Holds g sh.form u (on_value (after_operand sh m (operands a k sh env m)) e s)
    operand_end_goes m le u env fit = operand_end m u env (operands_goes m le u env fit)

  -- operands with operators between them
  module _ (is : Is form.Joined) where
    joined_quiet : Quiet g shaped k sh xs place
    joined_quiet i = ap (λ f. may_declare f i) is

    joined_plain : is_declaration sh.form ≡ false
    joined_plain = ap is_declaration is

    operand_there : (i j : ℕ) → i ≡ suc j → i < arity sh → is_operand (form_at sh.parts i) ≡ true
    operand_there i j e lt =
        let one : is_operand (form_at sh.parts (suc j)) ≡ true =
        ap (λ s. is_operand (form_at s.parts (suc j))) (sym place.there) ∙ shaped.operands k j (ap (λ s. same_form form.Joined s.form) place.there ∙ ap (same_form form.Joined) is) (subst (λ s. suc j < arity s) (sym place.there) (omega (arith, e))) in
        ap (λ n. is_operand (form_at sh.parts n)) e ∙ one

    joined_end : (m : ℕ) (u : Common) (env : Env) → EnvFits u.cells xs env → (left : Value) → There u.cells left → ((w : Common) → Later u w → GoesWith g sh.form w (joined a k sh env m)) → (e : Ending) (s : State) → At g u s → EndFits form.Block s.world.shared e → Holds g sh.form u (on_value (after_joined sh m left (joined a k sh env m)) e s)
    joined_end m u env fit left there go = value_goes g sh.form u _ (joined_value_goes g sh.form joined_plain sh m u left there (joined a k sh env m) go)

    pub joined_goes : (m : ℕ) → m ≤ arity sh - 1 → (u : Common) (env : Env) → EnvFits u.cells xs env → (left : Value) → There u.cells left → Goes g sh.form u (joined a k sh env m left)
    joined_goes zero le u env fit left there s at = (at, (there_then u s.world.shared at.later left there, joined_plain))
    joined_goes (suc m) le u env fit left there s at =
        let op : is_operand (form_at sh.parts (arity sh - suc m)) ≡ true = operand_there (arity sh - suc m) (arity sh - suc (suc m)) (omega arith) (omega arith) in
        through_goes g sh.form form.Block u (frame kind.JoinedOperand k m env (left ∷ [])) refl (sits_here g shaped k sh xs place u kind.JoinedOperand m env (left ∷ []) (ap (same_form form.Joined) is) (omega arith) (there, tt) fit tt)
        (on_value (after_joined sh m left (joined a k sh env m)))
        (joined_end m u env fit left there (λ w l v t q isv. from_here g sh.form w (joined a k sh env m v) t q (joined_goes m (omega arith) t.world.shared env (env_later w t.world.shared q.later xs env (env_later u w l xs env fit)) v isv)))
        (a.part (Inside 0) (arity sh - suc m) env s)
        (inner_goes g shaped k sh xs place a src joined_quiet u (arity sh - suc m) 0 (form_at sh.parts (arity sh - suc m)) env refl (operand_inner _ op) (ap (λ f. names_within f (arity sh - suc m) xs) is) (subst (λ zs. EnvFits u.cells zs env) (sym (operand_names _ op 0 xs)) fit) s at)

    pub joined_with : (m : ℕ) → m ≤ arity sh - 1 → (u : Common) (env : Env) → EnvFits u.cells xs env → GoesWith g sh.form u (joined a k sh env m)
    joined_with m le u env fit v s at there = from_here g sh.form u (joined a k sh env m v) s at (joined_goes m le s.world.shared env (env_later u s.world.shared at.later xs env fit) v there)

    pub joined_operand_end : (m : ℕ) → m ≤ arity sh - 1 → (u : Common) (env : Env) → EnvFits u.cells xs env → (left : Value) → There u.cells left → (e : Ending) (s : State) → At g u s → EndFits form.Block s.world.shared e → Holds g sh.form u (on_value (after_joined sh m left (joined a k sh env m)) e s)
    joined_operand_end m le u env fit left there = joined_end m u env fit left there (λ w l. joined_with m le w env (env_later u w l xs env fit))

    pub joined_first_end : (u : Common) (env : Env) → EnvFits u.cells xs env → (e : Ending) (s : State) → At g u s → EndFits form.Block s.world.shared e → Holds g sh.form u (on_value (joined a k sh env (arity sh - 1)) e s)
    joined_first_end u env fit = value_goes g sh.form u _ (joined_with (arity sh - 1) (omega arith) u env fit)

    pub joined_all_goes : (u : Common) (env : Env) → EnvFits u.cells xs env → Goes g sh.form u (joined_all a k sh env)
    joined_all_goes u env fit = under_goes g shaped k sh xs place a src sh.form u kind.JoinedFirst refl 0 env [] (on_value (joined a k sh env (arity sh - 1))) 0 joined_quiet (ap (λ f. names_within f 0 xs) is) fit
        (sits_here g shaped k sh xs place u kind.JoinedFirst 0 env [] (ap (same_form form.Joined) is) (omega arith) tt fit tt) (joined_first_end u env fit)

  -- signs before an operand
  pub prefixed_end : Is form.Prefixed → (u : Common) (e : Ending) (s : State) → At g u s → EndFits form.Block s.world.shared e → Holds g sh.form u (on_value (prefixed_by (reverse (prefixes_of sh.parts))) e s)
  prefixed_end is u = value_goes g sh.form u _ (prefixed_by_goes g sh.form (ap is_declaration is) (reverse (prefixes_of sh.parts)) u)

  pub prefixed_goes : Is form.Prefixed → (u : Common) (env : Env) → EnvFits u.cells xs env → Goes g sh.form u (prefixed a k sh env)
  prefixed_goes is u env fit = under_goes g shaped k sh xs place a src sh.form u kind.PrefixedOperand refl 0 env [] (on_value (prefixed_by (reverse (prefixes_of sh.parts)))) (arity sh - 1) (λ i. ap (λ f. may_declare f i) is) (ap (λ f. names_within f (arity sh - 1) xs) is) fit
      (sits_here g shaped k sh xs place u kind.PrefixedOperand 0 env [] (ap (same_form form.Prefixed) is) (omega arith) tt fit tt) (prefixed_end is u)

  -- a primary and its suffixes
  module _ (is : Is form.Suffixed) where
    suffixed_quiet : Quiet g shaped k sh xs place
    suffixed_quiet i = ap (λ f. may_declare f i) is

    suffixed_names : (i : ℕ) → names_within sh.form i (names_after sh.parts i xs) ≡ xs
    suffixed_names i = ap (names_within sh.form i) (quiet_names g shaped k sh xs place suffixed_quiet i) ∙ ap (λ f. names_within f i xs) is

    suffixed_sits : (u : Common) (m : ℕ) (env : Env) → m < suc (arity sh - 1) → EnvFits u.cells xs env → Sits g.script u (frame kind.SuffixedPart k m env [])
    suffixed_sits u m env lt fit = sits_here g shaped k sh xs place u kind.SuffixedPart m env [] (ap (same_form form.Suffixed) is) lt tt fit tt

    pub suffixed_goes : (m : ℕ) → m ≤ arity sh - 1 → (u : Common) (env : Env) → EnvFits u.cells xs env → (v : Value) → There u.cells v → Goes g sh.form u (suffixed a k sh env m v)
    suffixed_goes zero le u env fit v there s at = (at, (there_then u s.world.shared at.later v there, ap is_declaration is))
    suffixed_goes (suc m) le u env fit v there s at =
        through_goes g sh.form form.Block u (frame kind.SuffixedPart k m env []) refl (suffixed_sits u m env (omega arith) fit) (on_value (suffixed a k sh env m))
        (value_goes g sh.form u _ (λ v1 t q is1. from_here g sh.form u (suffixed a k sh env m v1) t q (suffixed_goes m (omega arith) t.world.shared env (env_later u t.world.shared q.later xs env fit) v1 is1)))
        (a.part (On v) (arity sh - suc m) env s) (src.suffix u (arity sh - suc m) env v there (subst (λ zs. EnvFits u.cells zs env) (sym (suffixed_names (arity sh - suc m))) fit) s at)

    pub suffixed_end : (m : ℕ) → m ≤ arity sh - 1 → (u : Common) (env : Env) → EnvFits u.cells xs env → (e : Ending) (s : State) → At g u s → EndFits form.Block s.world.shared e → Holds g sh.form u (on_value (suffixed a k sh env m) e s)
    suffixed_end m le u env fit = value_goes g sh.form u _ (λ v1 t q is1. from_here g sh.form u (suffixed a k sh env m v1) t q (suffixed_goes m le t.world.shared env (env_later u t.world.shared q.later xs env fit) v1 is1))

    pub suffixed_all_goes : (u : Common) (env : Env) → EnvFits u.cells xs env → Goes g sh.form u (suffixed_all a k sh env)
    suffixed_all_goes u env fit = under_goes g shaped k sh xs place a src sh.form u kind.SuffixedPart refl (arity sh - 1) env [] (on_value (suffixed a k sh env (arity sh - 1))) 0 suffixed_quiet (ap (λ f. names_within f 0 xs) is) fit
        (suffixed_sits u (arity sh - 1) env (omega arith) fit) (suffixed_end (arity sh - 1) (omega arith) u env fit)

  -- `[i]`
  pub indexed_end : Is form.Index → (u : Common) (v : Value) → There u.cells v → (e : Ending) (s : State) → At g u s → EndFits form.Block s.world.shared e → Holds g sh.form u (on_value (index v) e s)
  indexed_end is u v there = value_goes g sh.form u _ (index_end_goes g sh.form (ap is_declaration is) u v there)

  pub indexed_goes : Is form.Index → (u : Common) (env : Env) → EnvFits u.cells xs env → (v : Value) → There u.cells v → Goes g sh.form u (indexed a k env v)
  indexed_goes is u env fit v there = under_goes g shaped k sh xs place a src sh.form u kind.IndexValue refl 0 env (v ∷ []) (on_value (index v)) 0 (λ i. ap (λ f. may_declare f i) is) (ap (λ f. names_within f 0 xs) is) fit
      (sits_here g shaped k sh xs place u kind.IndexValue 0 env (v ∷ []) (ap (same_form form.Index) is) (omega arith) (there, tt) fit tt) (indexed_end is u v there)
