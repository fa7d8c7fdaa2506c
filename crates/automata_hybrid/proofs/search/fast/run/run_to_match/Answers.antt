use Rattle.std.proofs.Common.{suc, ◌≡◌, ◌∙◌, ◌-◌, Some, ap, sym, arith}
use Rattle.automata_hybrid.proofs.Words.{HalfMatch, Rows}
use Rattle.automata_hybrid.proofs.Fast.Runs.{first_half, followed_at, followed_known, known_after, matched_at}
use Rattle.automata_hybrid.proofs.Fast.Runs.{no_tag, quiet_there, reports_there}
use Rattle.automata_hybrid.proofs.Storage.Rows.{Leads-Names}
use Rattle.automata_hybrid.proofs.search.fast.run.run_to_match.Goals as goal

pub follow-quiet-requires : goal.follow-quiet-requires
follow-quiet-requires g c = (c.requires.0, (c.requires.1.0, no_tag))

pub follow_matches-stop-requires : goal.follow_matches-stop-requires
follow_matches-stop-requires g c = (
  c.requires.0,
  (
    record { trace = c.requires.1.0.on.trace; named = c.follow-quiet.ensures.to.followed.named },
    (
      record { peeked = c.follow-quiet.ensures.to.peeked; only = c.has_only.ensures.0 c.if-not-has_only.false },
      c.requires.1.0.undone,
    ),
  ),
)

pub returns-then-get_earliest-clause-runs : goal.returns-then-get_earliest-clause-runs
returns-then-get_earliest-clause-runs g c =
    let followed = c.follow-quiet.ensures.to.followed in
    record {
      run = record { more = followed.more; within = c.follow-quiet.ensures.to.within; known = followed_known followed };
      at = followed_at followed c.requires.1.0.on.trace c.requires.1.1;
      peeked = c.follow-quiet.ensures.to.peeked;
    }

pub returns-then-not-has_only-clause-runs : goal.returns-then-not-has_only-clause-runs
returns-then-not-has_only-clause-runs g c =
    let followed = c.follow-quiet.ensures.to.followed in
    record {
      run = record { more = followed.more; within = c.follow-quiet.ensures.to.within; known = followed_known followed };
      at = followed_at followed c.requires.1.0.on.trace c.requires.1.1;
      peeked = c.follow-quiet.ensures.to.peeked;
    }

pub returns-clause-runs : goal.returns-clause-runs
returns-clause-runs g c =
    let matches = c.follow_matches-stop.ensures.run.followed in
    let further = c.follow_matches-stop.ensures.run.further in
    let here : c.follow_matches-stop.result.at ≡ suc (c.follow_matches-stop.result.at - 1) = omega (arith, further) in
    let t : Rows = c.args.cache.now.store.table in
    let followed = c.follow-quiet.ensures.to.followed in
    record {
      run = record {
        more = omega (arith, followed.more, matches.more);
        within = c.follow_matches-stop.ensures.run.within;
        known = known_after followed matches;
      };
      at =
          matched_at matches (c.follow_matches-stop.result.at - 1) c.place_offset-offset.result c.requires.1.0.on.trace
          (sym c.get_earliest.ensures ∙ c.if-get_earliest.false) here c.place_offset-offset.ensures.value
          ((c.requires.0.table.tagged _ _ matches.named).0 c.follow_matches-stop.ensures.run.reports)
          (λ q l. ap (λ (h : HalfMatch). Some h) c.new.ensures
          ∙ first_half q.patterns c.first_pattern-pattern.result c.place_offset-offset.result c.args.found
          ((c.requires.0.table.tagged _ q
          (Leads-Names t _ q l (c.requires.0.table.low _ _ matches.named))).0
          c.follow_matches-stop.ensures.run.reports)
          (c.first_pattern-pattern.ensures q (Leads-Names t _ q l (c.requires.0.table.low _ _ matches.named))))
          (followed_at followed c.requires.1.0.on.trace c.requires.1.1);
      peeked = c.follow_matches-stop.ensures.peeked;
    }

pub returns-then-get_earliest-clause-there : goal.returns-then-get_earliest-clause-there
returns-then-get_earliest-clause-there g c =
    quiet_there c.follow-quiet.ensures.to.followed c.args.found

pub returns-then-not-has_only-clause-there : goal.returns-then-not-has_only-clause-there
returns-then-not-has_only-clause-there g c =
    quiet_there c.follow-quiet.ensures.to.followed c.args.found

pub returns-clause-there : goal.returns-clause-there
returns-clause-there g c = λ start none q named.
    let matches = c.follow_matches-stop.ensures.run in
    let here : c.follow_matches-stop.result.at ≡ suc (c.follow_matches-stop.result.at - 1) =
    omega (arith, matches.further) in
    let some = (c.requires.0.table.tagged _ q named).0 matches.reports in
    ap (λ (h : HalfMatch). Some h) c.new.ensures
    ∙ reports_there c.args.way c.args.input.now q.patterns c.follow_matches-stop.result.at
    (c.follow_matches-stop.result.at - 1) c.first_pattern-pattern.result c.place_offset-offset.result here
    c.place_offset-offset.ensures.value some (c.first_pattern-pattern.ensures q named)
