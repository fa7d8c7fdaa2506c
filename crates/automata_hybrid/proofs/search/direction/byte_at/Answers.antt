use Rattle.automata_hybrid.proofs.Searches.Directions.{unit_read}
use Rattle.automata_hybrid.proofs.search.direction.byte_at.Goals as goal

pub returns : goal.returns
returns c =
    unit_read c.args.way c.args.input.now c.haystack-haystack.result.now c.args.place c.byte_offset.result c.requires
    c.haystack-haystack.ensures.valid.within.1 c.haystack-haystack.ensures.same c.byte_offset.ensures.unit
