use Rattle.std.proofs.Common.{◌≡◌, ◌∙◌, ◌++◌, ℕ, List, OnOk, codes, ap, subst}
use Rattle.control_folders.specs.TaskScript.{quoted}
use Rattle.control_folders.proofs.Pieces.{four}
use Rattle.control_folders.proofs.elsewhere.put_export.Goals as goal

pub returns : goal.returns
returns c =
    let name = c.in_ok-append-2.ensures.appended ∙ ap (λ (bs : List ℕ). c.append.new.self ++ bs) c.as_slice.ensures in
    let value = c.in_ok-put_word.ensures ∙ ap (λ (bs : List ℕ). c.append-2.new.self ++ (codes "=" ++ quoted bs)) c.as_slice-2.ensures in
    subst (λ (bs : List ℕ). OnOk c.append-3.result (c.append-3.new.self ≡ bs))
    (four c.args.text.now (codes "command export ") c.args.variable.now.name (codes "=" ++ quoted c.args.variable.now.value) (codes "\n") c.in_ok-append.ensures.appended name value)
    c.append-3.ensures.appended
