use Rattle.std.proofs.Common.{subst, sym}
use Rattle.automata_hybrid.proofs.Words.{Backward, Direction, Forward, Input, known_of}
use Rattle.automata_hybrid.specs.Private.Searches.Contracts.{IsSearchResult}
use Rattle.automata_hybrid.specs.Private.Searches.PassContracts.{input_at}
use Rattle.automata_hybrid.proofs.search.half.search_skipping.Goals as goal

pub returns-in-Forward-clause-searched : goal.returns-in-Forward-clause-searched
returns-in-Forward-clause-searched c =
    let own : Input = input_at c.args.haystack.now c.args.span c.args.anchored c.args.earliest in
    let m = c.args.dfa.now in
    let spans = c.search_spans in
    subst
    (λ (w : Direction). IsSearchResult w m own (known_of c.args.cache.now) (known_of spans.new.cache) spans.result)
    (sym c.in-Forward.is)
    (subst
    (λ (i : Input). IsSearchResult Forward m i (known_of c.args.cache.now) (known_of spans.new.cache) spans.result)
    c.input_of-own.ensures spans.ensures.searched)

pub returns-in-Backward-clause-searched : goal.returns-in-Backward-clause-searched
returns-in-Backward-clause-searched c =
    let own : Input = input_at c.args.haystack.now c.args.span c.args.anchored c.args.earliest in
    let m = c.args.dfa.now in
    let spans = c.search_spans-in-Backward in
    subst
    (λ (w : Direction). IsSearchResult w m own (known_of c.args.cache.now) (known_of spans.new.cache) spans.result)
    (sym c.in-Backward.is)
    (subst
    (λ (i : Input). IsSearchResult Backward m i (known_of c.args.cache.now) (known_of spans.new.cache) spans.result)
    c.input_of-own.ensures spans.ensures.searched)
