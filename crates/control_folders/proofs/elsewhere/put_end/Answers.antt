use Rattle.std.proofs.Common.{◌≡◌, ◌∙◌, ◌++◌, ℕ, List, OnOk, codes, string_bytes, ap, subst}
use Rattle.control_folders.specs.ShellText.{shell_text}
use Rattle.control_folders.specs.TaskScript.{quoted}
use Rattle.control_folders.specs.declared.shell.Place.TheVariants.{Elsewhere}
use Rattle.control_folders.proofs.Pieces.{four}
use Rattle.control_folders.proofs.elsewhere.put_end.Goals as goal

pub returns : goal.returns
returns c =
    let order = c.args.order.now in
    let control = string_bytes c.args.control.now.path in
    let shell = shell_text Elsewhere order.script order.keep_out in
    let first = c.in_ok-put_word.ensures ∙ ap (λ (bs : List ℕ). c.args.text.now ++ (codes "exec \"$2\" -c " ++ quoted bs)) (c.as_bytes.ensures.value ∙ c.in_ok-shell_text.ensures) in
    let second = c.in_ok-put_word-2.ensures ∙ ap (λ (bs : List ℕ). c.put_word.new.text ++ (codes " " ++ quoted bs)) c.as_bytes-2.ensures.value in
    let third = c.in_ok-put_word-3.ensures ∙ ap (λ (bs : List ℕ). c.put_word-2.new.text ++ (codes " \"$1\" \"$2\" " ++ quoted bs)) c.as_slice.ensures in
    subst (λ (bs : List ℕ). OnOk c.append.result (c.append.new.self ≡ bs))
    (four c.args.text.now (codes "exec \"$2\" -c " ++ quoted shell) (codes " " ++ quoted control) (codes " \"$1\" \"$2\" " ++ quoted order.folder) (codes "\n") first second third)
    c.append.ensures.appended
