use Rattle.std.proofs.Common.{ℕ, suc, ◌≡◌, ◌∙◌, ◌+◌, ◌-◌, ◌<◌, ◌≤◌, None, Some, true, false, refl, sym, ap, subst}
use Rattle.std.proofs.Common.{arith}
use Rattle.std.proofs.lemmas.Grind.{common_steps}
use Rattle.automata_hybrid.proofs.Words.{Direction, Finds, Forward, HaveTried, Input, is_split, IsFound, IsSearchRun}
use Rattle.automata_hybrid.proofs.Words.{known_of, later, No, PassesEnd, Skips, Tries, with_base}
use Rattle.automata_hybrid.proofs.Searches.Directions.{later_anchored, later_none, later_on, later_start, skipped}
use Rattle.automata_hybrid.proofs.Searches.Directions.{skipped_last, skipped_more, skipped_within}
use Rattle.automata_hybrid.proofs.Searches.Progress.{tries_first}
use Rattle.automata_hybrid.proofs.Searches.Skips.{anchored_stops, none_stops, some_stops, finds_none, finds_no_more}
use Rattle.automata_hybrid.proofs.Searches.Skips.{finds_some, finds_split, tries_on}
use Rattle.automata_hybrid.proofs.Searches.SpanRuns.{run_after, run_before, run_refused, spans_ended, spans_run}
use Rattle.automata_hybrid.proofs.search.half.search_spans.Goals as goal
use Rattle.automata_hybrid.proofs.search.half.search_spans.Goals.{After-pass, In-Ok}

-- the span that is tried begins within the span of the input
within :
    (c : After-pass)
    → c.args.input.now.start + skipped c.args.input.now c.loop-later.later ≤ c.args.input.now.end
within c =
    let ahead : c.loop-later.later.start ≤ c.loop-later.later.end =
    grind (arith, common_steps, c.loop-later-test.ensures.done) in
    skipped_within c.args.input.now c.loop-later.later c.loop-later.invariant.few ahead

-- no span is tried after it
run_last :
    (c : In-Ok) → c.args.input.now.start + skipped c.args.input.now c.loop-later.later ≤ c.args.input.now.end
    → ((j : ℕ) → suc (skipped c.args.input.now c.loop-later.later) ≤ j
    → Tries (Finds c.args.way c.args.dfa.now) (Skips c.args.dfa.now) c.args.way c.args.input.now j
    → c.args.input.now.start + j ≤ c.args.input.now.end → ⊥)
    → IsSearchRun c.args.way c.args.dfa.now c.args.input.now (known_of c.args.cache.now) (known_of c.pass.new.cache)
    None
run_last c inside =
    run_after c.args.way c.args.dfa.now c.args.input.now (skipped c.args.input.now c.loop-later.later)
    c.loop-later.invariant.tries (known_of c.args.cache.now) (known_of c.loop-later.cache)
    c.loop-later.invariant.progress c.loop-later.later c.loop-later.invariant.same inside (known_of c.pass.new.cache)
    c.in-Ok.ensures.passed.ends

pub loop-later-init : goal.loop-later-init
loop-later-init c =
    let d : Direction = c.args.way in
    let whole : c.copied-later.result ≡ c.args.input.now = c.copied-later.ensures.same in
    let none : 0 ≡ skipped c.args.input.now c.copied-later.result =
    subst (λ (i : Input). 0 ≡ skipped c.args.input.now i) (sym whole) (omega arith) in
    record {
      sound = c.requires;
      few =
          subst (λ (i : Input). i.end + 1 - i.start ≤ c.args.input.now.end + 1 - c.args.input.now.start) (sym whole)
          (omega arith);
      same =
          subst (λ n. c.copied-later.result ≡ later d n c.args.input.now) none
          (whole ∙ later_none d c.args.input.now);
      progress =
          subst
          (λ n. PassesEnd d c.args.dfa.now c.args.input.now n (known_of c.args.cache.now) (known_of c.args.cache.now))
          none refl;
      tries =
          subst (λ n. Tries (Finds d c.args.dfa.now) (Skips c.args.dfa.now) d c.args.input.now n) none
          (tries_first d c.args.dfa.now c.args.input.now);
    }

pub loop-later-preserved : goal.loop-later-preserved
loop-later-preserved c =
    let d : Direction = c.args.way in
    let m = c.args.dfa.now in
    let k : ℕ = skipped c.args.input.now c.loop-later.later in
    let inside = within (goal.at.loop-later-preserved c).After-pass in
    let same : c.loop-later.later ≡ later d k c.args.input.now = c.loop-later.invariant.same in
    let ahead : c.loop-later.later.start ≤ c.loop-later.later.end =
    grind (arith, common_steps, c.loop-later-test.ensures.done) in
    let mode : c.loop-later.later.anchored ≡ c.args.input.now.anchored =
    ap (λ (i : Input). i.anchored) same ∙ later_anchored d k c.args.input.now in
    let next : suc k ≡ skipped c.args.input.now c.begin_later.new.input =
    skipped_more c.args.input.now c.loop-later.later c.loop-later.invariant.few ahead c.begin_later.new.input
    (c.if-not-begin_later.ensures.shorter refl) in
    record {
      sound = c.in-Ok.ensures.sound;
      few = omega (arith, c.if-not-begin_later.ensures.shorter refl, c.loop-later.invariant.few);
      same =
          subst (λ n. c.begin_later.new.input ≡ later d n c.args.input.now) next
          (c.if-not-begin_later.ensures.later refl ∙ (ap (later d 1) same ∙ later_on d k c.args.input.now));
      progress =
          subst
          (λ n. PassesEnd d m c.args.input.now n (known_of c.args.cache.now) (known_of c.pass.new.cache)) next
          (spans_ended d m c.args.input.now k c.loop-later.invariant.tries (known_of c.args.cache.now)
          (known_of c.loop-later.cache) c.loop-later.invariant.progress c.loop-later.later same inside
          (known_of c.pass.new.cache) c.in-Ok.ensures.passed.ends);
      tries =
          subst (λ n. Tries (Finds d m) (Skips m) d c.args.input.now n) next
          (tries_on d m c.args.input.now c.loop-later.later k same c.loop-later.invariant.tries inside c.in-Some.half
          (sym c.in-Some.is ∙ c.in-Ok.ensures.passed.answer.found) c.in-Ok.ensures.passed.answer.clean
          (c.if-not-skips_at.ensures.yes refl).0
          (subst (λ n. is_split c.loop-later.later.haystack n ≡ true) c.offset.ensures
          (c.if-not-skips_at.ensures.yes refl).1)
          (sym (c.get_anchored.ensures ∙ mode) ∙ c.if-is_anchored.ensures.no refl));
    }

pub returns-in-Err-clause-searched : goal.returns-in-Err-clause-searched
returns-in-Err-clause-searched c =
    run_refused c.args.way c.args.dfa.now c.args.input.now (skipped c.args.input.now c.loop-later.later)
    c.loop-later.invariant.tries (known_of c.args.cache.now) (known_of c.loop-later.cache)
    c.loop-later.invariant.progress c.loop-later.later c.loop-later.invariant.same
    (within (goal.at.returns-in-Err-clause-searched c).After-pass) (known_of c.pass.new.cache) c.in-Err.error
    c.in-Err.ensures.passed

pub returns-in_default-clause-searched : goal.returns-in_default-clause-searched
returns-in_default-clause-searched c =
    let d : Direction = c.args.way in
    let m = c.args.dfa.now in
    let past = goal.at.returns-in_default-clause-searched c in
    let inside = within past.After-pass in
    let k : ℕ = skipped c.args.input.now c.loop-later.later in
    let found = sym c.in_default.is ∙ c.in-Ok.ensures.passed.answer.found in
    record {
      found =
          finds_none d m c.args.input.now c.loop-later.later k c.loop-later.invariant.same
          c.loop-later.invariant.tries inside found c.in-Ok.ensures.passed.answer.clean;
      effect = run_last past.In-Ok inside (λ j less tried over.
          none_stops d m c.args.input.now c.loop-later.later k c.loop-later.invariant.same
          c.loop-later.invariant.tries inside found j less tried);
      upto = λ forward. tt;
    }

pub returns-then-not-skips_at-clause-searched : goal.returns-then-not-skips_at-clause-searched
returns-then-not-skips_at-clause-searched c =
    let d : Direction = c.args.way in
    let m = c.args.dfa.now in
    let past = goal.at.returns-then-not-skips_at-clause-searched c in
    let inside = within past.After-pass in
    let k : ℕ = skipped c.args.input.now c.loop-later.later in
    let found = sym c.in-Some.is ∙ c.in-Ok.ensures.passed.answer.found in
    let keeps = λ (skips : Skips m). subst (λ n. is_split c.loop-later.later.haystack n ≡ false) c.offset.ensures
    (c.if-not-skips_at.ensures.no refl skips) in
    record {
      found =
          subst (λ n. IsFound d m c.args.input.now (Some (with_base c.in-Some.half n))) (sym c.start.ensures.start)
          (finds_some d m c.args.input.now c.loop-later.later k c.loop-later.invariant.same
          c.loop-later.invariant.tries inside c.in-Some.half found c.in-Ok.ensures.passed.answer.clean keeps);
      effect = run_last past.In-Ok inside (λ j less tried over.
          some_stops d m c.args.input.now c.loop-later.later k c.loop-later.invariant.same
          c.loop-later.invariant.tries inside c.in-Some.half found keeps j less tried);
      upto = λ forward. (
          let base : suc k ≡ c.start.result - c.args.input.now.start + 1 =
          omega (
            arith,
            c.start.ensures.start,
            later_start d k c.args.input.now c.loop-later.later c.loop-later.invariant.same forward,
          ) in
          subst
          (λ n. HaveTried Forward m c.args.input.now n (known_of c.args.cache.now) (known_of c.pass.new.cache)) base
          (subst
          (λ (e : Direction). HaveTried e m c.args.input.now (suc k) (known_of c.args.cache.now)
          (known_of c.pass.new.cache)) forward
          (spans_run d m c.args.input.now k c.loop-later.invariant.tries (known_of c.args.cache.now)
          (known_of c.loop-later.cache) c.loop-later.invariant.progress c.loop-later.later
          c.loop-later.invariant.same inside (known_of c.pass.new.cache) c.in-Ok.ensures.passed.ends)));
    }

pub returns-then-is_anchored-clause-searched : goal.returns-then-is_anchored-clause-searched
returns-then-is_anchored-clause-searched c =
    let d : Direction = c.args.way in
    let m = c.args.dfa.now in
    let past = goal.at.returns-then-is_anchored-clause-searched c in
    let inside = within past.After-pass in
    let k : ℕ = skipped c.args.input.now c.loop-later.later in
    let anchored = λ (free : c.args.input.now.anchored ≡ No). c.if-is_anchored.ensures.yes refl (c.get_anchored.ensures
    ∙ (ap (λ (i : Input). i.anchored) c.loop-later.invariant.same ∙ (later_anchored d k c.args.input.now ∙ free))) in
    record {
      found =
          finds_split d m c.args.input.now c.loop-later.later k c.loop-later.invariant.same
          c.loop-later.invariant.tries inside c.in-Some.half
          (sym c.in-Some.is ∙ c.in-Ok.ensures.passed.answer.found) c.in-Ok.ensures.passed.answer.clean
          (c.if-not-skips_at.ensures.yes refl).0
          (subst (λ n. is_split c.loop-later.later.haystack n ≡ true) c.offset.ensures
          (c.if-not-skips_at.ensures.yes refl).1)
          anchored;
      effect = run_last past.In-Ok inside (λ j less tried over.
          anchored_stops d m c.args.input.now c.loop-later.later k c.loop-later.invariant.same
          c.loop-later.invariant.tries inside anchored j less tried);
      upto = λ forward. tt;
    }

pub returns-then-not-begin_later-clause-searched : goal.returns-then-not-begin_later-clause-searched
returns-then-not-begin_later-clause-searched c =
    let d : Direction = c.args.way in
    let m = c.args.dfa.now in
    let past = goal.at.returns-then-not-begin_later-clause-searched c in
    let inside = within past.After-pass in
    let k : ℕ = skipped c.args.input.now c.loop-later.later in
    let ahead : c.loop-later.later.start ≤ c.loop-later.later.end =
    grind (arith, common_steps, c.loop-later-test.ensures.done) in
    let over : c.args.input.now.end < c.args.input.now.start + suc k =
    skipped_last c.args.input.now c.loop-later.later c.loop-later.invariant.few ahead
    (c.if-not-begin_later.ensures.over refl) in
    let mode : c.args.input.now.anchored ≡ No =
    sym (c.get_anchored.ensures
    ∙ (ap (λ (i : Input). i.anchored) c.loop-later.invariant.same ∙ later_anchored d k c.args.input.now))
    ∙ c.if-is_anchored.ensures.no refl in
    record {
      found =
          finds_no_more d m c.args.input.now (suc k)
          (tries_on d m c.args.input.now c.loop-later.later k c.loop-later.invariant.same
          c.loop-later.invariant.tries inside c.in-Some.half
          (sym c.in-Some.is ∙ c.in-Ok.ensures.passed.answer.found) c.in-Ok.ensures.passed.answer.clean
          (c.if-not-skips_at.ensures.yes refl).0
          (subst (λ n. is_split c.loop-later.later.haystack n ≡ true) c.offset.ensures
          (c.if-not-skips_at.ensures.yes refl).1)
          mode)
          over;
      effect = run_last past.In-Ok inside (λ j less tried past. omega (arith, less, past, over));
      upto = λ forward. tt;
    }

pub returns-clause-searched : goal.returns-clause-searched
returns-clause-searched c =
    let k : ℕ = skipped c.args.input.now c.loop-later.later in
    let done : c.loop-later.later.end < c.loop-later.later.start =
    grind (arith, common_steps, c.loop-later-test.ensures.done) in
    record {
      found =
          finds_no_more c.args.way c.args.dfa.now c.args.input.now k c.loop-later.invariant.tries
          (omega (arith, done));
      effect =
          run_before c.args.way c.args.dfa.now c.args.input.now k c.loop-later.invariant.tries
          (known_of c.args.cache.now) (known_of c.loop-later.cache) c.loop-later.invariant.progress
          (omega (arith, done));
      upto = λ forward. tt;
    }
