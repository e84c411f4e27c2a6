use Rattle.std.proofs.Common.{◌∙◌, ap, sym}
use Rattle.serde_json.specs.View.{view}
use Rattle.model_run.specs.AgentsFile.{Means}
use Rattle.agents_file.specs.Agents.{file_site}
use Rattle.agents_file.proofs.FileLemmas.{site_of-file_site}
use Rattle.agents_file.proofs.ReadLemmas.{means, of_value}
use Rattle.agents_file.proofs.read.read_short.Goals as goal

pub returns-clause-site : goal.returns-clause-site
returns-clause-site c =
    let bytes = c.args.bytes.now in
    let d = view c.in_ok-value.value in
    means bytes d (of_value bytes d c.requires c.in_ok-value.ensures.text c.in_ok-value.ensures.value) c.in_ok-file.ensures.form
    ∙ ap Means (site_of-file_site d ∙ ap file_site (sym c.in_ok-file.ensures.value) ∙ sym c.in_ok-site.ensures)
