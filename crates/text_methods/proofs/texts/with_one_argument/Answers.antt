use Rattle.text_methods.proofs.MethodLemmas.{reads_method}
use Rattle.text_methods.proofs.texts.with_one_argument.Goals as goal

pub returns-in-Contains : goal.returns-in-Contains
returns-in-Contains c = rw c.in-Contains.is (reads_method c.args.first _ _ _ c.found.ensures c.contains.ensures)

pub returns-in-StartsWith : goal.returns-in-StartsWith
returns-in-StartsWith c = rw c.in-StartsWith.is (reads_method c.args.first _ _ _ c.found-in-StartsWith.ensures c.starts_with.ensures)

pub returns-in-EndsWith : goal.returns-in-EndsWith
returns-in-EndsWith c = rw c.in-EndsWith.is (reads_method c.args.first _ _ _ c.found-in-EndsWith.ensures c.text_ends_with.ensures)

pub returns-in-IndexOf : goal.returns-in-IndexOf
returns-in-IndexOf c = rw c.in-IndexOf.is (reads_method c.args.first _ _ _ c.found-in-IndexOf.ensures c.index_of.ensures)

pub returns-in-Substring : goal.returns-in-Substring
returns-in-Substring c = rw c.in-Substring.is (reads_method c.args.first _ _ _ c.found-in-Substring.ensures c.substring_from.ensures)
