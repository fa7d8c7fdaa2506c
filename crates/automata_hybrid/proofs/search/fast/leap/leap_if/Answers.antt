use Rattle.std.proofs.Common.{arith}
use Rattle.automata_hybrid.proofs.Fast.Runs.{followed_none}
use Rattle.automata_hybrid.proofs.search.fast.leap.leap_if.Goals as goal

pub leap_along-requires : goal.leap_along-requires
leap_along-requires g c = (
  c.requires.0,
  (
    c.in-Some.ensures,
    (
      record { on = c.requires.1.0; undone = c.requires.1.1.1; within = c.requires.1.1.0; upto = omega arith },
      c.has_only.ensures.0 c.if-has_only.true,
    ),
  ),
)

pub next_known-requires : goal.next_known-requires
next_known-requires g c = (
  c.requires.0,
  record {
    on = c.requires.1.0;
    undone = c.requires.1.1.1;
    within = c.requires.1.1.0;
    upto = omega (arith, c.last_place.ensures.place);
  },
)

pub returns-clause-far : goal.returns-clause-far
returns-clause-far g c =
    record {
      within = c.requires.1.1.0;
      followed =
          followed_none c.args.way c.args.dfa.now c.args.cache.now.store c.args.input.now 0 c.args.start c.args.from
          c.requires.1.0.named;
      peeked = c.next_known.ensures.peeked;
    }
