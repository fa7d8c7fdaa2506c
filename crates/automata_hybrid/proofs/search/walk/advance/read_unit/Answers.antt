use Rattle.std.proofs.Common.{◌∙◌, sym, ap, arith}
use Rattle.automata_hybrid.proofs.Words.{Direction, known_step, state_in}
use Rattle.automata_hybrid.proofs.Searches.Directions.{units_in}
use Rattle.automata_hybrid.proofs.Walks.Units.{read_alive, unit_result}
use Rattle.automata_hybrid.proofs.search.walk.advance.read_unit.Goals as goal

pub read-requires-clause-peeked : goal.read-requires-clause-peeked
read-requires-clause-peeked c = λ low.
    (c.requires.peeked low).cached
    ∙ ap (known_step c.args.dfa.now c.args.cache.now.store c.args.id) (sym c.unit_at.ensures)

pub returns-clause-unit : goal.returns-clause-unit
returns-clause-unit c =
    unit_result c.args.way c.args.dfa.now c.args.input.now c.args.place c.args.id c.unit_offset-quit_at.result
    c.span_offset-at.result c.unit_at.result
    c.args.cache.now c.read.new.cache c.read.result (sym c.unit_at.ensures) (sym c.unit_offset-quit_at.ensures)
    (sym c.span_offset-at.ensures.value)
    c.requires.at.named c.read.ensures.read

pub returns-clause-reads : goal.returns-clause-reads
returns-clause-reads c =
    let d : Direction = c.args.way in
    let units = units_in d c.args.input.now c.requires.at.undone c.span_offset-at.ensures.valid.within.1 in (
      omega (arith, units, c.requires.at.left),
      read_alive c.args.dfa.now c.args.id c.unit_at.result c.unit_offset-quit_at.result c.span_offset-at.result
          c.args.cache.now c.read.new.cache c.read.result
          c.read.ensures.read (state_in d c.args.dfa.now c.args.input.now c.args.place) c.requires.at.named,
    )
