-- One task after another call: it alone may write and may end.
use Rattle.std.proofs.Common.{◌≡◌, ◌≤◌, ℕ, ℤ, List, Option, IsSome, length, take, sym, ap, ◌∙◌, refl, arith, subst, take_all, le_refl, length-take}
use Rattle.std.proofs.lemmas.List.{take-take}
use Rattle.task_host.specs.Host.{GoesOn, Stays}
use Rattle.agent_worker.specs.Types.{Stream}

pub goes-nowhere : (task : ℕ) (exited : ℕ → Option ℤ) (output : ℕ → Stream → List ℕ) → GoesOn task exited exited output output
goes-nowhere task exited output = record {
  grows = λ s. take_all (length (output task s)) (output task s) (le_refl (length (output task s)));
  output_stays = λ s is. refl;
  exit_stays = λ is. refl;
  other_output = λ other s not. refl;
  other_exited = λ other not. refl;
}

pub goes-stays : (task : ℕ) (exited next_exited : ℕ → Option ℤ) (output next_output : ℕ → Stream → List ℕ) → Stays exited next_exited output next_output → GoesOn task exited next_exited output next_output
goes-stays task exited next_exited output next_output stays = record {
  grows = λ s. ap (take (length (output task s))) (stays.output task s) ∙ take_all (length (output task s)) (output task s) (le_refl (length (output task s)));
  output_stays = λ s is. stays.output task s;
  exit_stays = λ is. stays.exited task;
  other_output = λ other s not. stays.output other s;
  other_exited = λ other not. stays.exited other;
}

-- what stood in front of what stood in front stands in front
front-on : (a b c : List ℕ) → take (length a) b ≡ a → take (length b) c ≡ b → take (length a) c ≡ a
front-on a b c first second =
    let inside : length a ≤ length b = omega (arith, ap length first, length-take (length a) b) in
    sym (take-take (length a) (length b) c inside) ∙ ap (take (length a)) second ∙ first

pub goes-further : (task : ℕ) (e e' e'' : ℕ → Option ℤ) (o o' o'' : ℕ → Stream → List ℕ) → GoesOn task e e' o o' → GoesOn task e' e'' o' o'' → GoesOn task e e'' o o''
goes-further task e e' e'' o o' o'' first second = record {
  grows = λ s. front-on (o task s) (o' task s) (o'' task s) (first.grows s) (second.grows s);
  output_stays = λ s is. second.output_stays s (still is) ∙ first.output_stays s is;
  exit_stays = λ is. second.exit_stays (still is) ∙ first.exit_stays is;
  other_output = λ other s not. second.other_output other s not ∙ first.other_output other s not;
  other_exited = λ other not. second.other_exited other not ∙ first.other_exited other not;
}
  where
    still : IsSome (e task) → IsSome (e' task)
    still is = subst IsSome (sym (first.exit_stays is)) is
