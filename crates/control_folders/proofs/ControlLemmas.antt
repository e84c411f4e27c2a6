-- The name of a control folder, as the format of its text writes it.
use Rattle.std.specs.Prelude.{◌≡◌, ℕ, ◌-◌, false, List, [], ◌++◌, length, replicate, codes}
use Rattle.std.specs.Fmt.{digits, padded_integral, format_spec, char_count}
use mathlib.Core.Path.{ap, sym, ◌∙◌}
use mathlib.Core.List.{append-nil, append_assoc}
use native.Mathlib.Omega.{arith}
use Rattle.control_folders.specs.Control.{eight_digits, control_folder}

no_less : (n : ℕ) → n - 0 - 0 ≡ n
no_less n = omega arith

-- zeros up to a width of 8
abbrev pub padded : List ℕ → List ℕ
padded ds = padded_integral (format_spec 32 0 4 8 18446744073709551615) false [] ds

eight_padded : (ds : List ℕ) → padded ds ≡ replicate (8 - length ds) 48 ++ ds
unfolding padded_integral char_count
eight_padded ds = ap (λ n. replicate n 48 ++ (ds ++ [])) (no_less (8 - length ds)) ∙ ap (λ xs. replicate (8 - length ds) 48 ++ xs) (append-nil ds)

pub folder_is : (w : List ℕ) (task : ℕ) → w ++ (codes "@tmp/durable-" ++ padded (digits 16 false task)) ≡ control_folder w task
folder_is w task =
    ap (λ ds. w ++ (codes "@tmp/durable-" ++ ds)) (eight_padded (digits 16 false task))
    ∙ (sym (append_assoc w (codes "@tmp/durable-") (eight_digits task))
    ∙ ap (λ xs. xs ++ eight_digits task) (sym (append_assoc w (codes "@tmp") (codes "/durable-"))))
