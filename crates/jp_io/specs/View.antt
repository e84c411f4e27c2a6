-- What a source of bytes tells of each of its states, and what a sink does: the ghost members of the traits, each as one value. In a contract they are
-- `A.Source` and `S.Sink`.
use Rattle.jp_io.specs.declared.source.Source.{Ghosts as SourceGhosts}
use Rattle.jp_io.specs.declared.sink.Sink.{Ghosts as SinkGhosts}

abbrev pub SourceView : Type 0 → Type 1
SourceView A = SourceGhosts A

abbrev pub SinkView : Type 0 → Type 1
SinkView S = SinkGhosts S
