use Rattle.std.proofs.Common.{sym, subst}
use Rattle.automata_hybrid.proofs.Words.{Direction, pass_trace}
use Rattle.automata_hybrid.specs.Private.Searches.PassContracts.{FollowsTo}
use Rattle.automata_hybrid.specs.Private.Searches.PassState.{IsOnTrace}
use Rattle.automata_hybrid.specs.declared.search.fast.follow.Stop.{Stop}
use Rattle.automata_hybrid.proofs.Fast.Runs.{follows_on, no_tag}
use Rattle.automata_hybrid.proofs.Searches.Traces.{pass_is_trace}
use Rattle.automata_hybrid.proofs.search.walk.advance.follow_walk.Goals as goal

pub follow-requires : goal.follow-requires
follow-requires c =
    let on : IsOnTrace (pass_trace c.args.way c.args.dfa.now c.args.input.now) c.args.way c.args.dfa.now
    c.args.cache.now.store.table c.args.input.now c.leave_tag-first.result.at c.leave_tag-first.result.id =
    record {
      trace = pass_is_trace c.args.way c.args.dfa.now c.args.input.now;
      named = c.leave_tag-first.ensures.followed.named;
    } in (
      c.requires.sound,
      (
        record {
          on =
              subst (λ (way : Direction). IsOnTrace (pass_trace way c.args.dfa.now c.args.input.now) way
              c.args.dfa.now c.args.cache.now.store.table c.args.input.now c.leave_tag-first.result.at
              c.leave_tag-first.result.id) c.in-Forward.is on;
          undone = c.requires.«open»;
          within = c.leave_tag-first.ensures.within;
          upto = c.requires.upto;
        },
        no_tag,
      ),
    )

pub follow-requires-in-Backward : goal.follow-requires-in-Backward
follow-requires-in-Backward c =
    let on : IsOnTrace (pass_trace c.args.way c.args.dfa.now c.args.input.now) c.args.way c.args.dfa.now
    c.args.cache.now.store.table c.args.input.now c.leave_tag-first.result.at c.leave_tag-first.result.id =
    record {
      trace = pass_is_trace c.args.way c.args.dfa.now c.args.input.now;
      named = c.leave_tag-first.ensures.followed.named;
    } in (
      c.requires.sound,
      (
        record {
          on =
              subst (λ (way : Direction). IsOnTrace (pass_trace way c.args.dfa.now c.args.input.now) way
              c.args.dfa.now c.args.cache.now.store.table c.args.input.now c.leave_tag-first.result.at
              c.leave_tag-first.result.id) c.in-Backward.is on;
          undone = c.requires.«open»;
          within = c.leave_tag-first.ensures.within;
          upto = c.requires.upto;
        },
        no_tag,
      ),
    )

pub returns-then-not-has_only : goal.returns-then-not-has_only
returns-then-not-has_only c =
    record {
      within = c.leave_tag-first.ensures.within;
      followed = c.leave_tag-first.ensures.followed;
      peeked = c.leave_tag-first.ensures.peeked;
    }

pub returns-in-Forward : goal.returns-in-Forward
returns-in-Forward c =
    let first : Stop =
    record {
      at = c.leave_tag-first.result.at;
      id = c.leave_tag-first.result.id;
      next = c.leave_tag-first.result.next;
    } in
    let to : Stop = record { at = c.follow.result.at; id = c.follow.result.id; next = c.follow.result.next } in
    let near : FollowsTo c.args.way c.args.dfa.now c.args.cache.now.store c.args.input.now 0 c.args.start first =
    record {
      within = c.leave_tag-first.ensures.within;
      followed = c.leave_tag-first.ensures.followed;
      peeked = c.leave_tag-first.ensures.peeked;
    } in
    follows_on near
    (subst (λ (way : Direction). FollowsTo way c.args.dfa.now c.args.cache.now.store c.args.input.now 0
    c.leave_tag-first.result.at to) (sym c.in-Forward.is) c.follow.ensures.to)

pub returns-in-Backward : goal.returns-in-Backward
returns-in-Backward c =
    let first : Stop =
    record {
      at = c.leave_tag-first.result.at;
      id = c.leave_tag-first.result.id;
      next = c.leave_tag-first.result.next;
    } in
    let to : Stop =
    record {
      at = c.follow-in-Backward.result.at;
      id = c.follow-in-Backward.result.id;
      next = c.follow-in-Backward.result.next;
    } in
    let near : FollowsTo c.args.way c.args.dfa.now c.args.cache.now.store c.args.input.now 0 c.args.start first =
    record {
      within = c.leave_tag-first.ensures.within;
      followed = c.leave_tag-first.ensures.followed;
      peeked = c.leave_tag-first.ensures.peeked;
    } in
    follows_on near
    (subst (λ (way : Direction). FollowsTo way c.args.dfa.now c.args.cache.now.store c.args.input.now 0
    c.leave_tag-first.result.at to) (sym c.in-Backward.is) c.follow-in-Backward.ensures.to)
