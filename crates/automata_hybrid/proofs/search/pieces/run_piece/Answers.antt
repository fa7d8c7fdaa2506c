use Rattle.std.proofs.Common.{◌≡◌, ◌∙◌, ◌+◌, ◌<◌, ◌≤◌, ◌^◌, ap, subst, sym, arith}
use Rattle.automata_hybrid.proofs.Words.{begun, Forward, given_up_offset, Input, known_of, Machine, Names, Powerset}
use Rattle.automata_hybrid.proofs.Words.{SearchError}
use Rattle.automata_hybrid.specs.Known.Pieces.{FailsAlong}
use Rattle.automata_hybrid.specs.Private.Searches.PassState.{IsOnTrace}
use Rattle.automata_hybrid.specs.Searches.PieceRuns.{piece_input, piece_trace}
use Rattle.automata_hybrid.specs.Private.Searches.PieceRuns.{IsEndAlong}
use Rattle.automata_hybrid.proofs.Searches.PieceRuns.{failed_from, fails_offset, names_state, piece_is_trace}
use Rattle.automata_hybrid.proofs.Searches.PieceRuns.{state_named}
use Rattle.automata_hybrid.proofs.search.pieces.run_piece.Goals as goal

pub run_span-requires : goal.run_span-requires
run_span-requires c =
    let m : Machine = c.args.dfa.now in
    let same : c.earliest-own.result ≡ piece_input c.args.piece.now c.args.earliest =
    c.earliest-own.ensures ∙ ap (λ (i : Input). record i { earliest = c.args.earliest }) c.new.ensures.input in
    let positive : 0 < c.args.cache.now.store.table.of.stride =
    subst (λ (d : Machine). 0 < d.stride) (sym c.requires.sound.of) c.requires.sound.machine.template.positive in
    let q : Powerset = state_named c.args.cache.now.store.table c.args.from in
    let named : Names c.args.cache.now.store.table c.args.from q =
    subst (λ p. Names c.args.cache.now.store.table c.args.from p)
    (sym (names_state c.args.cache.now.store.table c.args.from c.requires.valid.0 c.requires.sound.store.rows
    positive c.requires.valid.1))
    c.requires.valid.1 in
    let on : IsOnTrace (piece_trace m c.args.piece.now c.args.earliest q) Forward m c.args.cache.now.store.table
    (piece_input c.args.piece.now c.args.earliest) 0 c.args.from =
    record { trace = piece_is_trace m c.args.piece.now c.args.earliest q; named = named } in (
      c.requires.sound,
      (
        subst
            (λ (i : Input). IsOnTrace (piece_trace m i.haystack i.earliest q) Forward m c.args.cache.now.store.table i
            0 c.args.from)
            (sym same) on,
        subst (λ (i : Input). i.start ≤ i.end) (sym same) (omega arith),
      ),
    )

pub returns-in-Ok-clause-ran : goal.returns-in-Ok-clause-ran
returns-in-Ok-clause-ran c = λ q named.
    let m : Machine = c.args.dfa.now in
    let same : c.earliest-own.result ≡ piece_input c.args.piece.now c.args.earliest =
    c.earliest-own.ensures ∙ ap (λ (i : Input). record i { earliest = c.args.earliest }) c.new.ensures.input in
    let positive : 0 < c.args.cache.now.store.table.of.stride =
    subst (λ (d : Machine). 0 < d.stride) (sym c.requires.sound.of) c.requires.sound.machine.template.positive in
    subst
    (λ p. IsEndAlong (piece_trace m c.args.piece.now c.args.earliest p) m (piece_input c.args.piece.now c.args.earliest)
    (begun 0 (known_of c.args.cache.now)) c.run_span.new.cache c.in-Ok.end)
    (names_state c.args.cache.now.store.table c.args.from q c.requires.sound.store.rows positive named)
    (subst
    (λ (i : Input). IsEndAlong (piece_trace m i.haystack i.earliest (state_named c.args.cache.now.store.table
    c.args.from)) m i (begun (given_up_offset Forward i 0) (known_of c.args.cache.now)) c.run_span.new.cache
    c.in-Ok.end)
    same c.in-Ok.ensures.ran)

pub error_from-requires : goal.error_from-requires
error_from-requires c =
    let m : Machine = c.args.dfa.now in
    let same : c.earliest-own.result ≡ piece_input c.args.piece.now c.args.earliest =
    c.earliest-own.ensures ∙ ap (λ (i : Input). record i { earliest = c.args.earliest }) c.new.ensures.input in
    let fails : FailsAlong (piece_trace m c.args.piece.now c.args.earliest (state_named c.args.cache.now.store.table
    c.args.from)) m (piece_input c.args.piece.now c.args.earliest) 0 (begun 0 (known_of c.args.cache.now))
    (known_of c.run_span.new.cache) c.in-Err.error =
    subst
    (λ (i : Input). FailsAlong (piece_trace m i.haystack i.earliest (state_named c.args.cache.now.store.table
    c.args.from)) m i i.start (begun (given_up_offset Forward i 0) (known_of c.args.cache.now))
    (known_of c.run_span.new.cache) c.in-Err.error)
    same c.in-Err.ensures.ran in
    fails_offset m _ _ (0 + fails.place) _ fails.mid (known_of c.run_span.new.cache) c.in-Err.error
    (λ at. c.args.base + at < 2 ^ 64) (omega (arith, c.requires.room, fails.reads.0)) fails.fails

pub returns-in-Err-clause-ran : goal.returns-in-Err-clause-ran
returns-in-Err-clause-ran c = λ q named.
    let m : Machine = c.args.dfa.now in
    let same : c.earliest-own.result ≡ piece_input c.args.piece.now c.args.earliest =
    c.earliest-own.ensures ∙ ap (λ (i : Input). record i { earliest = c.args.earliest }) c.new.ensures.input in
    let positive : 0 < c.args.cache.now.store.table.of.stride =
    subst (λ (d : Machine). 0 < d.stride) (sym c.requires.sound.of) c.requires.sound.machine.template.positive in
    let fails : FailsAlong (piece_trace m c.args.piece.now c.args.earliest q) m
    (piece_input c.args.piece.now c.args.earliest) 0 (begun 0 (known_of c.args.cache.now))
    (known_of c.run_span.new.cache) c.in-Err.error =
    subst
    (λ p. FailsAlong (piece_trace m c.args.piece.now c.args.earliest p) m
    (piece_input c.args.piece.now c.args.earliest) 0 (begun 0 (known_of c.args.cache.now))
    (known_of c.run_span.new.cache) c.in-Err.error)
    (names_state c.args.cache.now.store.table c.args.from q c.requires.sound.store.rows positive named)
    (subst
    (λ (i : Input). FailsAlong (piece_trace m i.haystack i.earliest (state_named c.args.cache.now.store.table
    c.args.from)) m i i.start (begun (given_up_offset Forward i 0) (known_of c.args.cache.now))
    (known_of c.run_span.new.cache) c.in-Err.error)
    same c.in-Err.ensures.ran) in
    subst
    (λ (e : SearchError). FailsAlong (piece_trace m c.args.piece.now c.args.earliest q) m
    (piece_input c.args.piece.now c.args.earliest) c.args.base (begun 0 (known_of c.args.cache.now))
    (known_of c.run_span.new.cache) e)
    (sym c.error_from.ensures)
    (failed_from (piece_trace m c.args.piece.now c.args.earliest q) m (piece_input c.args.piece.now c.args.earliest)
    c.args.base (begun 0 (known_of c.args.cache.now)) (known_of c.run_span.new.cache) c.in-Err.error fails)
