use Rattle.prefilters.proofs.Joining.{beginnings, heads_lead, inner_are_near, needles_grow, needles_join}
use Rattle.prefilters.proofs.Joining.{starts_are_near}
use Rattle.prefilters.proofs.Meaning.{meaning_none, needles_none}
use Rattle.prefilters.proofs.laws.needles_may_skip.Goals as goal

pub returns-clause-starts : goal.returns-clause-starts
returns-clause-starts c = starts_are_near

pub returns-clause-inner : goal.returns-clause-inner
returns-clause-inner c = inner_are_near

pub returns-clause-heads : goal.returns-clause-heads
returns-clause-heads c = heads_lead

pub returns-clause-needles : goal.returns-clause-needles
returns-clause-needles c = needles_none

pub returns-clause-meaning : goal.returns-clause-meaning
returns-clause-meaning c = meaning_none

pub returns-clause-join : goal.returns-clause-join
returns-clause-join c = needles_join

pub returns-clause-grow : goal.returns-clause-grow
returns-clause-grow c = needles_grow

pub returns-clause-beginnings : goal.returns-clause-beginnings
returns-clause-beginnings c = beginnings
