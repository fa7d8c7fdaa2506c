use Rattle.std.proofs.Common.{◌<◌, sym, subst, arith}
use Rattle.automata_hybrid.proofs.Words.{class_in, Machine}
use Rattle.automata_hybrid.proofs.Fast.Runs.{peeked_at, next_cell}
use Rattle.automata_hybrid.proofs.search.fast.follow.next_known.Goals as goal

pub returns-clause-peeked : goal.returns-clause-peeked
returns-clause-peeked g c =
    peeked_at c.args.way c.args.dfa.now c.args.cache.now.store c.args.input.now c.args.at c.args.id
    c.known_step.result c.byte_at.result
    (omega (arith, c.if-at-end.false, c.requires.1.upto)) c.byte_at.ensures c.known_step.ensures.value
    (subst (λ (m : Machine). class_in c.args.dfa.now.classes c.byte_at.result < m.stride) (sym c.requires.0.of)
    c.known_step.ensures.below)
    c.known_step.ensures.quit (λ clean low q named. (c.known_step.ensures.answer low).named clean q named)
    c.requires.1.on

pub returns-clause-read : goal.returns-clause-read
returns-clause-read g c = λ less.
    next_cell c.args.way c.args.dfa.now c.args.cache.now.store c.args.input.now c.args.at c.args.id
    c.known_step.result c.byte_at.result
    c.byte_at.ensures c.known_step.ensures.value
