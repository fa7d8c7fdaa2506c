use Rattle.std.proofs.Common.{sym, ◌∙◌, refl}
use Rattle.automata_base.proofs.Nfas.Reach.Refused.{refused_small, refused_wide, refused_starts, refused_targets}
use Rattle.automata_base.proofs.Nfas.Reach.Refused.{refused_ranges, refused_patterns, refused_none}
use Rattle.automata_base.proofs.nfa.thompson.checks.test.Goals as goal

pub returns-then-not-has_few : goal.returns-then-not-has_few
returns-then-not-has_few c =
    let t =
    refused_small c.args.states.now c.args.anchored c.args.unanchored c.args.starts.now
    (sym c.has_few.ensures ∙ c.if-not-has_few.true) in
    record { refused = t.0; totals = tt; passed = t.1 }

pub returns-in_default : goal.returns-in_default
returns-in_default c =
    let t =
    refused_wide c.args.states.now c.args.anchored c.args.unanchored c.args.starts.now
    (sym c.has_few.ensures ∙ c.if-not-has_few.false)
    (c.in_default.ensures.none refl) in
    record { refused = t.0; totals = tt; passed = t.1 }

pub returns-then-not-are_starts : goal.returns-then-not-are_starts
returns-then-not-are_starts c =
    let t =
    refused_starts c.args.states.now c.args.anchored c.args.unanchored c.args.starts.now
    (sym c.has_few.ensures ∙ c.if-not-has_few.false)
    (c.in-Some.ensures.few) (sym c.are_starts.ensures ∙ c.if-not-are_starts.true) in
    record { refused = t.0; totals = tt; passed = t.1 }

pub returns-then-are_sound : goal.returns-then-are_sound
returns-then-are_sound c =
    let t =
    refused_none c.args.states.now c.args.anchored c.args.unanchored c.args.starts.now c.in-Some.totals
    (sym c.has_few.ensures ∙ c.if-not-has_few.false)
    (c.in-Some.ensures.few) (sym c.are_starts.ensures ∙ c.if-not-are_starts.false)
    (c.are_sound.ensures.below c.if-are_sound.true)
    (c.are_sound.ensures.ordered c.if-are_sound.true) (c.are_sound.ensures.matches c.if-are_sound.true) in
    record { refused = t.0; totals = c.in-Some.ensures.totals; passed = t.1 }

pub returns-then-not-are_below : goal.returns-then-not-are_below
returns-then-not-are_below c =
    let t =
    refused_targets c.args.states.now c.args.anchored c.args.unanchored c.args.starts.now
    (sym c.has_few.ensures ∙ c.if-not-has_few.false)
    (c.in-Some.ensures.few) (sym c.are_starts.ensures ∙ c.if-not-are_starts.false)
    (sym c.are_below.ensures ∙ c.if-not-are_below.true) in
    record { refused = t.0; totals = tt; passed = t.1 }

pub returns-then-not-are_ordered : goal.returns-then-not-are_ordered
returns-then-not-are_ordered c =
    let t =
    refused_ranges c.args.states.now c.args.anchored c.args.unanchored c.args.starts.now
    (sym c.has_few.ensures ∙ c.if-not-has_few.false)
    (c.in-Some.ensures.few) (sym c.are_starts.ensures ∙ c.if-not-are_starts.false)
    (sym c.are_below.ensures ∙ c.if-not-are_below.false)
    (sym c.are_ordered.ensures ∙ c.if-not-are_ordered.true) in
    record { refused = t.0; totals = tt; passed = t.1 }

pub returns-then-not-are_matches_below : goal.returns-then-not-are_matches_below
returns-then-not-are_matches_below c =
    let t =
    refused_patterns c.args.states.now c.args.anchored c.args.unanchored c.args.starts.now
    (sym c.has_few.ensures ∙ c.if-not-has_few.false)
    (c.in-Some.ensures.few) (sym c.are_starts.ensures ∙ c.if-not-are_starts.false)
    (sym c.are_below.ensures ∙ c.if-not-are_below.false)
    (sym c.are_ordered.ensures ∙ c.if-not-are_ordered.false)
    (sym c.are_matches_below.ensures ∙ c.if-not-are_matches_below.true) in
    record { refused = t.0; totals = tt; passed = t.1 }

pub returns : goal.returns
returns c =
    let t =
    refused_none c.args.states.now c.args.anchored c.args.unanchored c.args.starts.now c.in-Some.totals
    (sym c.has_few.ensures ∙ c.if-not-has_few.false)
    (c.in-Some.ensures.few) (sym c.are_starts.ensures ∙ c.if-not-are_starts.false)
    (sym c.are_below.ensures ∙ c.if-not-are_below.false)
    (sym c.are_ordered.ensures ∙ c.if-not-are_ordered.false)
    (sym c.are_matches_below.ensures ∙ c.if-not-are_matches_below.false) in
    record { refused = t.0; totals = c.in-Some.ensures.totals; passed = t.1 }
