use Rattle.std.proofs.Common.{◌^◌, arith}
use Rattle.automata_hybrid.proofs.Fast.Runs.{followed_on, match_tag}
use Rattle.automata_hybrid.proofs.Storage.Places.{match_tagged}
use Rattle.automata_hybrid.proofs.search.fast.follow.follow_matches.Goals as goal

pub follow-requires : goal.follow-requires
follow-requires g c =
    let only = c.requires.1.1.0.only in
    let one = c.requires.1.1.0.peeked (omega (arith, only.below)) in (
      c.requires.0,
      (
        record {
          on = record { trace = c.requires.1.0.trace; named = (one.run (2 ^ 27) match_tag only).followed.named };
          undone = c.requires.1.1.1;
          within = omega (arith, one.within);
          upto = omega (arith, c.last_place-last.ensures.place);
        },
        match_tag,
      ),
    )

pub returns-clause-run : goal.returns-clause-run
returns-clause-run g c =
    let only = c.requires.1.1.0.only in
    let one = (c.requires.1.1.0.peeked (omega (arith, only.below))).run (2 ^ 27) match_tag only in
    record {
      further = omega (arith, c.follow.ensures.to.followed.more);
      within = c.follow.ensures.to.within;
      followed = followed_on one.followed c.follow.ensures.to.followed;
      reports = match_tagged c.follow.result.id (c.follow.ensures.only only);
    }

pub returns-clause-peeked : goal.returns-clause-peeked
returns-clause-peeked g c = c.follow.ensures.to.peeked
