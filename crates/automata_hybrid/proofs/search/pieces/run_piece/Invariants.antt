use Rattle.automata_hybrid.specs.Searches.PieceRuns.{piece_trace}
use Rattle.automata_hybrid.proofs.Searches.PieceRuns.{state_named}
use Rattle.automata_hybrid.proofs.search.pieces.run_piece.Given as goal

abbrev pub ghost-run_span : goal.ghost-run_span
ghost-run_span a = piece_trace a.dfa.now a.input.now.haystack a.input.now.earliest
    (state_named a.cache.now.store.table a.from)
