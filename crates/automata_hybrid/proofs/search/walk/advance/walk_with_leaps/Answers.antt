use Rattle.automata_hybrid.proofs.Searches.Traces.{pass_is_trace}
use Rattle.automata_hybrid.proofs.search.walk.advance.walk_with_leaps.Goals as goal

pub follow_any_leaps-far-requires : goal.follow_any_leaps-far-requires
follow_any_leaps-far-requires c =
    (c.requires.sound, (c.requires.near, (pass_is_trace c.args.way c.args.dfa.now c.args.input.now, c.requires.«open»)))
