use Rattle.std.proofs.Common.{subst, sym}
use Rattle.automata_hybrid.proofs.Words.{Backward, Direction, Forward, Input, known_of}
use Rattle.automata_hybrid.specs.Private.Searches.PassContracts.{IsRest, MayContinue, input_at}
use Rattle.automata_hybrid.proofs.search.pass.rest.Goals as goal

pub returns-in-Forward-clause-rest : goal.returns-in-Forward-clause-rest
returns-in-Forward-clause-rest c =
    let own : Input = input_at c.args.haystack.now c.args.span c.args.anchored c.args.earliest in
    let m = c.args.dfa.now in
    let found = c.find in
    subst
    (λ (w : Direction). IsRest w m own (known_of c.args.cache.now) (known_of found.new.cache) found.result)
    (sym c.in-Forward.is)
    (subst
    (λ (i : Input). IsRest Forward m i (known_of c.args.cache.now) (known_of found.new.cache) found.result)
    c.input_of-own.ensures found.ensures.rest)

pub returns-in-Backward-clause-rest : goal.returns-in-Backward-clause-rest
returns-in-Backward-clause-rest c =
    let own : Input = input_at c.args.haystack.now c.args.span c.args.anchored c.args.earliest in
    let m = c.args.dfa.now in
    let found = c.find-in-Backward in
    subst
    (λ (w : Direction). IsRest w m own (known_of c.args.cache.now) (known_of found.new.cache) found.result)
    (sym c.in-Backward.is)
    (subst
    (λ (i : Input). IsRest Backward m i (known_of c.args.cache.now) (known_of found.new.cache) found.result)
    c.input_of-own.ensures found.ensures.rest)

pub place_at-place-requires-clause-sound : goal.place_at-place-requires-clause-sound
place_at-place-requires-clause-sound c = c.requires.may.sound

pub place_at-place-requires-clause-at : goal.place_at-place-requires-clause-at
place_at-place-requires-clause-at c =
    subst (λ (i : Input). MayContinue c.args.way c.args.dfa.now c.args.cache.now.store i c.args.from.at c.args.from.id)
    (sym c.input_of-own.ensures) c.requires.at
