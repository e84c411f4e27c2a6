-- The rules of `new`, and of lists and maps.
use Rattle.std.proofs.Common.{◌≡◌, ℕ, ◌+◌, ◌≤◌, true, [], ◌∷◌, inl, refl, sym, ap, ◌∙◌, arith, Option, Some, None, length}
use Rattle.std.proofs.lemmas.Bool.{false≢true}
use Rattle.model_syntax.specs.declared.sign.Sign.TheVariants as sign
use Rattle.model_syntax.specs.declared.word.Word.TheVariants as word
use Rattle.model_syntax.specs.declared.token.TokenKind.{TokenKind}
use Rattle.model_syntax.specs.declared.token.TokenKind.TheVariants as kind
use Rattle.model_syntax.specs.declared.tree.Expr.{Expr}
use Rattle.model_syntax.specs.declared.tree.Expr.TheVariants as expr
use Rattle.model_syntax.specs.declared.tree.NewClass.{NewClass}
use Rattle.model_syntax.specs.declared.tree.NewClass.TheVariants as new
use Rattle.model_syntax.specs.Stream.{Stream, Places}
use Rattle.model_syntax.specs.Grammar.{IsPrimary, class_text}
use Rattle.model_syntax.proofs.GrammarLemmas.{expr_begins, begins_expr}
use Rattle.groovy_expr.specs.Answers.{Stops, Exact, Refused}
use Rattle.groovy_expr.specs.Stops.{stops_expr, stops_primary}
use Rattle.groovy_expr.proofs.Calculus.{Sub, Fill, Tail, by, tail_both, tail_end, tail_fails, tail_sub, sub_fails, ret, tok_ok, tok_bad, fill_tok, fill_ret, alike, Alt, fills_ret}
use Rattle.groovy_expr.proofs.Steps.{Joins, joins_tok, step_turn, step_tok, step_left, step_right, Take, step_take, take_bad, same_name}
use Rattle.groovy_expr.proofs.PrimaryRules.{Whole, NewArgument, NoArgument, Created, class_kind, primary_by}

lengths_differ : (m n : ℕ) → m + 1 ≤ n → m ≡ n → ⊥
lengths_differ m n le e = omega arith

same_text : (u v : NewClass) → class_text u ≡ class_text v → u ≡ v
same_text new.Exception new.Exception e = refl
same_text new.RuntimeException new.RuntimeException e = refl
same_text new.Error new.Error e = refl
same_text new.Exception new.RuntimeException e = absurd (lengths_differ 9 16 (omega arith) (ap length e))
same_text new.Exception new.Error e = absurd (lengths_differ 5 9 (omega arith) (sym (ap length e)))
same_text new.RuntimeException new.Exception e = absurd (lengths_differ 9 16 (omega arith) (sym (ap length e)))
same_text new.RuntimeException new.Error e = absurd (lengths_differ 5 16 (omega arith) (sym (ap length e)))
same_text new.Error new.Exception e = absurd (lengths_differ 5 9 (omega arith) (ap length e))
same_text new.Error new.RuntimeException e = absurd (lengths_differ 5 16 (omega arith) (ap length e))

paren_begins : (k : Option TokenKind) → begins_expr k ≡ true → k ≡ Some (kind.Sign sign.ParenClose) → ⊥
paren_begins k h e = false≢true (sym (ap begins_expr e) ∙ h)

module _ (P : Places) where
  same_class : (u v : NewClass) → Some (class_kind P u) ≡ Some (class_kind P v) → u ≡ v
  same_class u v e = same_text u v (same_name (class_text u) (class_text v) e)

  fill_arguments : (c : NewClass) (stops : Stops) → Fill (Alt (NoArgument P c) (Sub (Whole P) (NewArgument P c))) stops
  fill_arguments c stops = record {
    tokens = kind.Sign sign.ParenClose ∷ [];
    fills = λ J a e st so. (expr.New c None, inl (st.0, (refl, st.1)));
  }

  fill_created : (c : NewClass) (stops : Stops) → Fill (Created P c) stops
  fill_created c stops = fill_tok (kind.Sign sign.ParenOpen) (fill_arguments c stops)

  module _ (K : Stream) {at : ℕ} (h : K at ≡ Some (kind.Word word.New)) where
    to_class : Tail (λ K. IsPrimary K P) (Take (class_kind P) (Created P)) stops_primary K at (λ z. z) (at + 1)
    to_class = tail_both (λ z. z) (step_turn (by (primary_by P) stops_primary K _ h)) (step_tok (Take (class_kind P) (Created P)) h)

    pub new_no_class : ((c : NewClass) → K (at + 1) ≡ Some (kind.Name (class_text c)) → ⊥) → Refused (λ K. IsPrimary K P) stops_primary K at (at + 1)
    new_no_class q = tail_fails (λ z. z) to_class (take_bad stops_primary K (class_kind P) (Created P) new.Error (fill_created new.Error stops_primary) q)

    module _ (c : NewClass) (q : K (at + 1) ≡ Some (kind.Name (class_text c))) where
      to_created : Tail (λ K. IsPrimary K P) (Created P c) stops_primary K at (λ z. z) (at + 1 + 1)
      to_created = tail_both (λ z. z) to_class (step_take (class_kind P) (Created P) same_class q)

      pub new_closed : (K (at + 1 + 1) ≡ Some (kind.Sign sign.ParenOpen) → ⊥) → Refused (λ K. IsPrimary K P) stops_primary K at (at + 1 + 1)
      new_closed o = tail_fails (λ z. z) to_created (tok_bad stops_primary K (fill_arguments c stops_primary) o)

      module _ (o : K (at + 1 + 1) ≡ Some (kind.Sign sign.ParenOpen)) where
        in_new : Tail (λ K. IsPrimary K P) (Alt (NoArgument P c) (Sub (Whole P) (NewArgument P c))) stops_primary K at (λ z. z) (at + 1 + 1 + 1)
        in_new = tail_both (λ z. z) to_created (step_tok (Alt (NoArgument P c) (Sub (Whole P) (NewArgument P c))) o)

        pub new_alone : K (at + 1 + 1 + 1) ≡ Some (kind.Sign sign.ParenClose) → Exact (λ K. IsPrimary K P) stops_primary K at (expr.New c None) (at + 1 + 1 + 1 + 1)
        new_alone p = tail_end (λ z. z)
            (tail_both (λ z. z) in_new (step_left (NoArgument P c) (Sub (Whole P) (NewArgument P c)) (λ J y b same r. paren_begins (J (at + 1 + 1 + 1)) (expr_begins r.2) (same ∙ p))))
            (tok_ok stops_primary K p (ret stops_primary K (expr.New c None) (at + 1 + 1 + 1 + 1)))

        module _ (p : K (at + 1 + 1 + 1) ≡ Some (kind.Sign sign.ParenClose) → ⊥) where
          new_join : Joins (NewArgument P c) stops_expr stops_primary
          new_join = joins_tok (kind.Sign sign.ParenClose) refl (fills_ret {part_stops = stops_primary} (λ e. expr.New c (Some e)) (alike stops_primary))

          to_argument : Tail (λ K. IsPrimary K P) (Sub (Whole P) (NewArgument P c)) stops_primary K at (λ z. z) (at + 1 + 1 + 1)
          to_argument = tail_both (λ z. z) in_new (step_right (NoArgument P c) (Sub (Whole P) (NewArgument P c)) (λ J y b same r. p (sym same ∙ r.0)))

          pub new_fails : {i : ℕ} → Refused (Whole P) stops_expr K (at + 1 + 1 + 1) i → Refused (λ K. IsPrimary K P) stops_primary K at i
          new_fails r = let j = new_join in tail_fails (λ z. z) to_argument (sub_fails K j.leads j.fills r)

          module _ {e : Expr} {m : ℕ} (i : Exact (Whole P) stops_expr K (at + 1 + 1 + 1) e m) where
            behind_argument : Tail (λ K. IsPrimary K P) (NewArgument P c e) stops_primary K at (λ z. z) m
            behind_argument = let j = new_join in tail_both (λ z. z) to_argument (tail_sub j.leads i)

            pub new_open : (K m ≡ Some (kind.Sign sign.ParenClose) → ⊥) → Refused (λ K. IsPrimary K P) stops_primary K at m
            new_open s = tail_fails (λ z. z) behind_argument (tok_bad stops_primary K (fill_ret (expr.New c (Some e))) s)

            pub new_ok : K m ≡ Some (kind.Sign sign.ParenClose) → Exact (λ K. IsPrimary K P) stops_primary K at (expr.New c (Some e)) (m + 1)
            new_ok s = tail_end (λ z. z) behind_argument (tok_ok stops_primary K s (ret stops_primary K (expr.New c (Some e)) (m + 1)))
