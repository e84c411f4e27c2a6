use Rattle.std.proofs.Common.{◌≡◌, ◌∙◌, ℕ, List, ◌++◌, IfOk, string_bytes, codes, ap, subst}
use Rattle.control_folders.specs.ShellText.{names_interpreter, runs_script}
use Rattle.control_folders.proofs.shell.shell_text.Goals as goal

both : {a b c d : List ℕ} → a ≡ b → c ≡ d → a ++ c ≡ b ++ d
both {a} {b} {c} {d} first second = ap (λ (xs : List ℕ). xs ++ c) first ∙ ap (λ (xs : List ℕ). b ++ xs) second

pub returns : goal.returns
returns c =
    let script = c.script_words-script.ensures ∙ ap (λ (s : List ℕ). runs_script (names_interpreter s)) c.as_slice.ensures in
    let ending = ap (λ (xs : List ℕ). codes " ) " ++ xs) (both c.stream_words-streams.ensures c.result_words-ending.ensures) in
    let inside = ap (λ (xs : List ℕ). codes "( " ++ xs) (both c.folder_words-folder.ensures (both script ending)) in
    subst (λ (bs : List ℕ). IfOk c.format.result (λ text. string_bytes text ≡ bs))
    (both c.permit_words-permit.ensures (both c.machine_words-machine.ensures (both c.process_words-process.ensures inside)))
    c.format.ensures.ok
