use Rattle.std.proofs.Common.{◌-◌, ◌<◌, ◌≤◌, sym, subst}
use Rattle.automata_hybrid.proofs.Words.{CacheView, Direction, Input}
use Rattle.automata_base.specs.Haystacks.Input.{IsAllowed}
use Rattle.automata_hybrid.specs.Private.Searches.PassContracts.{FollowsAlong}
use Rattle.automata_hybrid.specs.Private.Searches.PassState.{IsNextCell, IsOnTrace}
use Rattle.automata_hybrid.specs.declared.search.fast.follow.Stop.{Stop}
use Rattle.automata_hybrid.proofs.Searches.PassContracts.{same_input}
use Rattle.automata_hybrid.proofs.search.fast.leap.follow_any_leaps.Goals as goal

pub follow_far-far-requires : goal.follow_far-far-requires
follow_far-far-requires g c =
    let same =
    same_input c.args.input.now c.haystack.result.now c.get_span.result c.get_anchored.result c.get_earliest.result
    c.haystack.ensures.same
    c.get_span.ensures.start c.get_span.ensures.end c.get_anchored.ensures c.get_earliest.ensures in (
      record {
        sound = c.requires.0;
        allowed = subst (λ (i : Input). IsAllowed i) (sym same)
            c.get_span.ensures.valid.within;
      },
      (
        subst (λ (i : Input). IsOnTrace g.trace c.args.way c.args.dfa.now c.args.cache.now.store.table i c.args.near.at
            c.args.near.id) (sym same) (record { trace = c.requires.1.1.0; named = c.requires.1.0.followed.named }),
        (
          subst (λ (i : Input). i.start ≤ i.end) (sym same) c.requires.1.1.1,
          subst (λ (i : Input). c.args.near.at ≤ i.end - i.start) (sym same) c.requires.1.0.within,
        ),
      ),
    )

pub returns-clause-far : goal.returns-clause-far
returns-clause-far g c =
    let same =
    same_input c.args.input.now c.haystack.result.now c.get_span.result c.get_anchored.result c.get_earliest.result
    c.haystack.ensures.same
    c.get_span.ensures.start c.get_span.ensures.end c.get_anchored.ensures c.get_earliest.ensures in
    let d : Direction = c.args.way in
    let to : Stop =
    record { at = c.follow_far-far.result.at; id = c.follow_far-far.result.id; next = c.follow_far-far.result.next } in
    subst (λ (v : CacheView). FollowsAlong g.trace d c.args.dfa.now v.store c.args.input.now 0 c.args.near.at to)
    (sym c.follow_far-far.ensures.same)
    (subst (λ (i : Input). FollowsAlong g.trace d c.args.dfa.now c.args.cache.now.store i 0 c.args.near.at to) same
    c.follow_far-far.ensures.far)

pub returns-clause-read : goal.returns-clause-read
returns-clause-read g c =
    let same =
    same_input c.args.input.now c.haystack.result.now c.get_span.result c.get_anchored.result c.get_earliest.result
    c.haystack.ensures.same
    c.get_span.ensures.start c.get_span.ensures.end c.get_anchored.ensures c.get_earliest.ensures in
    let d : Direction = c.args.way in
    subst (λ (v : CacheView). c.follow_far-far.result.at < c.args.input.now.end - c.args.input.now.start
    → IsNextCell d c.args.dfa.now v.store c.args.input.now c.follow_far-far.result.at c.follow_far-far.result.id
    c.follow_far-far.result.next) (sym c.follow_far-far.ensures.same)
    (subst (λ (i : Input). c.follow_far-far.result.at < i.end - i.start
    → IsNextCell d c.args.dfa.now c.args.cache.now.store i c.follow_far-far.result.at c.follow_far-far.result.id
    c.follow_far-far.result.next) same c.follow_far-far.ensures.read)
