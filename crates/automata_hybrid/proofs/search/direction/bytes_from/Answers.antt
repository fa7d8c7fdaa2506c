use Rattle.automata_hybrid.proofs.Searches.Directions.{units_backward, units_forward}
use Rattle.automata_hybrid.proofs.search.direction.bytes_from.Goals as goal

pub returns-in-Forward-clause-units : goal.returns-in-Forward-clause-units
returns-in-Forward-clause-units c =
    units_forward c.args.way c.args.input.now c.haystack-haystack.result.now c.args.place c.start.result c.end.result
    c.in-Forward.is c.requires.«open» c.requires.within
    c.haystack-haystack.ensures.valid.within.1 c.haystack-haystack.ensures.same c.start.ensures.start c.end.ensures.end

pub returns-in-Backward-clause-units : goal.returns-in-Backward-clause-units
returns-in-Backward-clause-units c =
    units_backward c.args.way c.args.input.now c.haystack-haystack.result.now c.args.place c.start-in-Backward.result
    c.end-in-Backward.result c.in-Backward.is c.requires.«open» c.requires.within
    c.haystack-haystack.ensures.valid.within.1 c.haystack-haystack.ensures.same c.start-in-Backward.ensures.start
    c.end-in-Backward.ensures.end
