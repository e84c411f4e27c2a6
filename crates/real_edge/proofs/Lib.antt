mod ProcessLemmas
