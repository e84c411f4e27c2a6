-- Lists of members, taken from their ends.
use Rattle.std.proofs.Common.{◌≡◌, ◌∙◌, ◌++◌, ℕ, List, [], ◌∷◌, refl, sym, ap, append_assoc, reverse}
use Rattle.std.proofs.lemmas.List.{reverse-append}
use Rattle.agent_worker.specs.declared.member.Member.{Member}
use Rattle.agent_worker.specs.declared.member.Member.TheVariants.{Executor, Operator}
use Rattle.model_run.specs.declared.site.Executor.{Executor as SiteExecutor}
use Rattle.agent_worker.specs.Crews.{answers_in, hosts_in, IsCrew, seats_of}

module _ {H A : Type 0} where
  pub hosts_in-append : (xs ys : List (Member H A)) → hosts_in (xs ++ ys) ≡ hosts_in xs ++ hosts_in ys
  hosts_in-append [] ys = refl
  hosts_in-append (Executor number host ∷ xs) ys = ap (λ (hs : List H). host ∷ hs) (hosts_in-append xs ys)
  hosts_in-append (Operator answers line ended failed ∷ xs) ys = hosts_in-append xs ys

  pub answers_in-append : (xs ys : List (Member H A)) → answers_in (xs ++ ys) ≡ answers_in xs ++ answers_in ys
  answers_in-append [] ys = refl
  answers_in-append (Executor number host ∷ xs) ys = answers_in-append xs ys
  answers_in-append (Operator answers line ended failed ∷ xs) ys = ap (λ (rest : List A). answers ∷ rest) (answers_in-append xs ys)

  -- a crew does not end with an executor
  pub no_last_executor : (xs : List (Member H A)) (number : ℕ) (host : H) → IsCrew (xs ++ Executor number host ∷ []) → ⊥
  no_last_executor [] number host crew = crew
  no_last_executor (Executor n h ∷ xs) number host crew = no_last_executor xs number host crew
  no_last_executor (Operator answers line ended failed ∷ []) number host crew = absurd (cc)
  no_last_executor (Operator answers line ended failed ∷ (x ∷ xs)) number host crew = absurd (cc)

  -- behind its operator nobody stands, and before it no other operator
  pub one_operator : (xs : List (Member H A)) (y : Member H A) → IsCrew (xs ++ y ∷ []) → answers_in xs ≡ []
  one_operator [] y crew = refl
  one_operator (Executor n h ∷ xs) y crew = one_operator xs y crew
  one_operator (Operator answers line ended failed ∷ []) y crew = absurd (cc)
  one_operator (Operator answers line ended failed ∷ (x ∷ xs)) y crew = absurd (cc)

  -- the host of the last member, put behind others
  one_reversed : (m : Member H A) → reverse (hosts_in (m ∷ [])) ≡ hosts_in (m ∷ [])
  one_reversed (Executor number host) = refl
  one_reversed (Operator answers line ended failed) = refl

  pub last_host : (hosts : List H) (front : List (Member H A)) (m : Member H A) → (hosts ++ hosts_in (m ∷ [])) ++ reverse (hosts_in front) ≡ hosts ++ reverse (hosts_in (front ++ m ∷ []))
  last_host hosts front m =
      append_assoc hosts (hosts_in (m ∷ [])) (reverse (hosts_in front))
      ∙ ap (λ (hs : List H). hosts ++ hs)
      (sym (ap reverse (hosts_in-append front (m ∷ [])) ∙ reverse-append (hosts_in front) (hosts_in (m ∷ [])) ∙ ap (λ (hs : List H). hs ++ reverse (hosts_in front)) (one_reversed m)))

-- executors and an operator are a crew
pub seats_crew : {H A : Type 0} (xs : List SiteExecutor) (hosts : List H) (operator : Member H A) → IsCrew (operator ∷ []) → IsCrew (seats_of xs hosts ++ operator ∷ [])
seats_crew [] hosts operator crew = crew
seats_crew (x ∷ xs) [] operator crew = crew
seats_crew (x ∷ xs) (host ∷ hosts) operator crew = seats_crew xs hosts operator crew
