use Rattle.std.proofs.Common.{suc, inl, inr, length-set, ◌≡◌, ◌∙◌, List, Bool, true, length, set, Some, rules, refl}
use Rattle.std.proofs.Common.{sym, ap, subst, arith}
use Rattle.automata_hybrid.proofs.Words.{Err, Forward, Input, Known, known_of, Machine, members, Pair, Result}
use Rattle.automata_hybrid.proofs.Words.{result_err, SearchError, WalksAreReported}
use Rattle.std.specs.Prelude.{IsTrue}
use Rattle.automata_base.specs.Answers.Answers.{ArePatterns}
use Rattle.automata_determinize.specs.Laws.Walks.{WalkIsRight}
use Rattle.automata_hybrid.specs.Known.Walks.{HaveCalled, IsSetRun, CallFails, OneMore}
use Rattle.automata_hybrid.specs.Private.Walks.Contracts.{IsSetReported}
use Rattle.automata_hybrid.specs.Walks.Progress.{HasNoneLeft}
use Rattle.automata_hybrid.specs.Walks.Answers.{AreWalked}
use Rattle.automata_hybrid.specs.Walks.State.{Ended, Ids, Walk}
use Rattle.automata_hybrid.proofs.Walks.CachedSets.{half_none}
use Rattle.automata_hybrid.proofs.Searches.Reads.{at_err}
use Rattle.automata_hybrid.proofs.Walks.Parts.{held_there, supported_call, unsupported_call}
use Rattle.automata_hybrid.proofs.Walks.Progress.{left_reads}
use Rattle.automata_hybrid.proofs.Searches.PassState.{false_true}
use Rattle.automata_hybrid.proofs.Walks.Sets.{IsLacking, Joins, calls_more, closes, joins_all, joins_begin, joins_first}
use Rattle.automata_hybrid.proofs.Walks.Sets.{joins_full, joined_more, joins_more, lacking, on_found, open_after}
use Rattle.automata_hybrid.proofs.Walks.Sets.{patterns_of, stands_well, steps_less, reported_undone}
use Rattle.automata_hybrid.proofs.Machines.Powersets.{walks_are}
use Rattle.automata_hybrid.proofs.search.walk.which.collect.Goals as goal

pub returns-in_err-report_next-clause-reported : goal.returns-in_err-report_next-clause-reported
returns-in_err-report_next-clause-reported c =
    let m : Machine = c.args.dfa.now in
    let input : Input = c.args.input.now in
    let walk : Walk = c.walk.walk in
    let v = c.walk.invariant in
    let left : CallFails Ids Forward m input walk (known_of c.walk.cache) (known_of c.report_next.new.cache)
    c.in_err-report_next.field-0.0 =
    subst (λ k. CallFails k Forward m input walk (known_of c.walk.cache) (known_of c.report_next.new.cache)
    c.in_err-report_next.field-0.0) v.keeping
    c.in_err-report_next.ensures.called in
    at_err c.from_residual.result _
    (λ (x : Result (Unit {0}) SearchError). IsSetReported m input c.args.patset.now c.walk.patset x)
    c.from_residual.ensures.1
    (record {
      found = tt;
      paths = λ free. tt;
      capacity = v.joins.0.capacity;
      unsupported =
          λ u. (
            ap Err
                (unsupported_call Ids Forward m input walk (known_of c.walk.cache) (known_of c.report_next.new.cache)
                c.in_err-report_next.field-0.0 (v.begins u).0 u left),
            (v.begins u).1,
          );
      done =
          λ past. absurd
          (left_reads Ids Forward m input walk (known_of c.walk.cache) (known_of c.report_next.new.cache)
          c.in_err-report_next.field-0.0 left (HasNoneLeft (omega (arith, past))));
    })

pub returns-in_err-report_next-clause-effect : goal.returns-in_err-report_next-clause-effect
returns-in_err-report_next-clause-effect c =
    let m : Machine = c.args.dfa.now in
    let input : Input = c.args.input.now in
    let mid : Known = known_of c.walk.cache in
    let new : Known = known_of c.report_next.new.cache in
    let walk : Walk = c.walk.walk in
    let v = c.walk.invariant in
    let j = v.joins.0 in
    let left : CallFails Ids Forward m input walk (known_of c.walk.cache) (known_of c.report_next.new.cache)
    c.in_err-report_next.field-0.0 =
    subst (λ k. CallFails k Forward m input walk (known_of c.walk.cache) (known_of c.report_next.new.cache)
    c.in_err-report_next.field-0.0) v.keeping
    c.in_err-report_next.ensures.called in
    at_err c.from_residual.result _
    (λ (r : Result (Unit {0}) SearchError). IsSetRun m input c.args.patset.now c.walk.patset (known_of c.args.cache.now)
    new (result_err r)) c.from_residual.ensures.1
    (record {
      calls = j.k;
      walk = walk;
      mid = mid;
      called = v.joins.1;
      still_open = open_after m input walk c.args.patset.now c.walk.patset j;
      joins = j.joined;
      there = v.there;
      left = left;
    })

pub returns-in_default-clause-reported : goal.returns-in_default-clause-reported
returns-in_default-clause-reported c =
    let m : Machine = c.args.dfa.now in
    let input : Input = c.args.input.now in
    let old : List Bool = c.args.patset.now in
    let set : List Bool = c.walk.patset in
    let v = c.walk.invariant in
    let j = v.joins.0 in
    let reports = c.in_ok-report_next.ensures.called.answer.reports in
    let reported : WalksAreReported m.nfa = subst WalksAreReported c.get_nfa.ensures c.walk_is_right.ensures.reported in
    let list : (pairs : List Pair) × AreWalked Forward m input pairs =
    walks_are Forward m input reported in
    let found =
    joins_all m input old c.walk.walk c.report_next.new.walk set j reports list
    (sym c.get_match.ensures ∙ c.in_default.«is») in
    record {
      found = found;
      paths = λ free. patterns_of m input (subst WalkIsRight c.get_nfa.ensures c.walk_is_right.ensures.right)
          (c.in_ok-report_next.ensures.valid.bytes, c.in_ok-report_next.ensures.valid.within.1) old set free found;
      capacity = j.capacity;
      unsupported =
          λ u. absurd (supported_call Forward m input c.walk.walk c.report_next.new.walk (j.k, j.reported) reports u);
      done = λ past. (refl, v.done past);
    }

pub returns-in_default-clause-effect : goal.returns-in_default-clause-effect
returns-in_default-clause-effect c =
    let m : Machine = c.args.dfa.now in
    let input : Input = c.args.input.now in
    let mid : Known = known_of c.walk.cache in
    let new : Known = known_of c.report_next.new.cache in
    let walk : Walk = c.walk.walk in
    let next : Walk = c.report_next.new.walk in
    let v = c.walk.invariant in
    let j = v.joins.0 in
    let reported : WalksAreReported m.nfa = subst WalksAreReported c.get_nfa.ensures c.walk_is_right.ensures.reported in
    let list : (pairs : List Pair) × AreWalked Forward m input pairs =
    walks_are Forward m input reported in
    let a = c.in_ok-report_next.ensures.called.answer in
    let after = (a.reports j.k j.reported).1 list.0 list.1 in
    let last : next.stage ≡ Ended =
    after.1 (half_none list.0 j.k (sym after.0 ∙ (sym c.get_match.ensures ∙ c.in_default.«is»))) in
    record {
      calls = suc j.k;
      walk = next;
      called =
          OneMore j.k walk next mid new v.joins.1 (open_after m input walk c.args.patset.now c.walk.patset j) v.there
          a.reports
          c.in_ok-report_next.ensures.called.effect;
      last = inl last;
    }

pub returns-then-is_full-clause-reported : goal.returns-then-is_full-clause-reported
returns-then-is_full-clause-reported c =
    let m : Machine = c.args.dfa.now in
    let input : Input = c.args.input.now in
    let old : List Bool = c.args.patset.now in
    let before : List Bool = c.walk.patset in
    let half = c.in-Some.half in
    let walk : Walk = c.walk.walk in
    let next : Walk = c.report_next.new.walk in
    let j = c.walk.invariant.joins.0 in
    let a = c.in_ok-report_next.ensures.called.answer in
    let reported : WalksAreReported m.nfa = subst WalksAreReported c.get_nfa.ensures c.walk_is_right.ensures.reported in
    let list : (pairs : List Pair) × AreWalked Forward m input pairs =
    walks_are Forward m input reported in
    let seen : next.found ≡ Some half = sym c.get_match.ensures ∙ c.in-Some.«is» in
    let put : c.try_insert.new.self ≡ set before half.pattern true =
    c.try_insert.ensures.inserted ∙ ap (λ n. set before n true) c.pattern.ensures in
    let on = on_found walk next half a.goes_on seen in
    let found : ArePatterns (AreWalked Forward m input) input (length old) (members old)
    (members c.try_insert.new.self) =
    subst (λ (s : List Bool). ArePatterns (AreWalked Forward m input) input (length old) (members old) (members s))
    (sym put)
    (joins_full m input old walk next before j a.reports list half seen
    (subst (λ (s : List Bool). length (members s) ≡ length s) put (c.is_full.ensures.0 c.if-is_full.true))) in
    record {
      found = found;
      paths = λ free. patterns_of m input (subst WalkIsRight c.get_nfa.ensures c.walk_is_right.ensures.right)
          (c.in_ok-report_next.ensures.valid.bytes, c.in_ok-report_next.ensures.valid.within.1) old
          c.try_insert.new.self free
          found;
      capacity = ap length put ∙ (length-set before half.pattern true ∙ j.capacity);
      unsupported = λ u. absurd (supported_call Forward m input walk next (j.k, j.reported) a.reports u);
      done =
          λ past. (let undone = reported_undone m input next j.k (a.reports j.k j.reported).0 on.0 in
          absurd (omega (arith, past, undone)));
    }

pub returns-then-is_full-clause-effect : goal.returns-then-is_full-clause-effect
returns-then-is_full-clause-effect c =
    let m : Machine = c.args.dfa.now in
    let input : Input = c.args.input.now in
    let mid : Known = known_of c.walk.cache in
    let new : Known = known_of c.report_next.new.cache in
    let walk : Walk = c.walk.walk in
    let next : Walk = c.report_next.new.walk in
    let v = c.walk.invariant in
    let j = v.joins.0 in
    let a = c.in_ok-report_next.ensures.called.answer in
    let found : next.found ≡ Some c.in-Some.half = sym c.get_match.ensures ∙ c.in-Some.«is» in
    record {
      calls = suc j.k;
      walk = next;
      called =
          OneMore j.k walk next mid new v.joins.1 (open_after m input walk c.args.patset.now c.walk.patset j) v.there
          a.reports
          c.in_ok-report_next.ensures.called.effect;
      last = inr (λ pairs walked.
          closes input c.args.patset.now (set c.walk.patset c.in-Some.half.pattern true) pairs j.k c.in-Some.half
          (sym ((a.reports j.k j.reported).1 pairs walked).0 ∙ found)
          (length-set c.walk.patset c.in-Some.half.pattern true ∙ j.capacity)
          (joined_more m input c.args.patset.now walk next c.walk.patset j a.reports (pairs, walked) c.in-Some.half
          found)
          (inr (subst (λ (s : List Bool). length (members s) ≡ length s)
          (c.try_insert.ensures.inserted ∙ ap (λ n. set c.walk.patset n true) c.pattern.ensures)
          (c.is_full.ensures.0 c.if-is_full.true))));
    }

pub returns-then-get_earliest-clause-reported : goal.returns-then-get_earliest-clause-reported
returns-then-get_earliest-clause-reported c =
    let m : Machine = c.args.dfa.now in
    let input : Input = c.args.input.now in
    let old : List Bool = c.args.patset.now in
    let before : List Bool = c.walk.patset in
    let half = c.in-Some.half in
    let walk : Walk = c.walk.walk in
    let next : Walk = c.report_next.new.walk in
    let j = c.walk.invariant.joins.0 in
    let a = c.in_ok-report_next.ensures.called.answer in
    let reported : WalksAreReported m.nfa = subst WalksAreReported c.get_nfa.ensures c.walk_is_right.ensures.reported in
    let list : (pairs : List Pair) × AreWalked Forward m input pairs =
    walks_are Forward m input reported in
    let seen : next.found ≡ Some half = sym c.get_match.ensures ∙ c.in-Some.«is» in
    let put : c.try_insert.new.self ≡ set before half.pattern true =
    c.try_insert.ensures.inserted ∙ ap (λ n. set before n true) c.pattern.ensures in
    let on = on_found walk next half a.goes_on seen in
    let found : ArePatterns (AreWalked Forward m input) input (length old) (members old)
    (members c.try_insert.new.self) =
    subst (λ (s : List Bool). ArePatterns (AreWalked Forward m input) input (length old) (members old) (members s))
    (sym put)
    (joins_first m input old walk next before j a.reports list half seen
    (sym c.get_earliest.ensures ∙ c.if-get_earliest.true)) in
    record {
      found = found;
      paths = λ free. patterns_of m input (subst WalkIsRight c.get_nfa.ensures c.walk_is_right.ensures.right)
          (c.in_ok-report_next.ensures.valid.bytes, c.in_ok-report_next.ensures.valid.within.1) old
          c.try_insert.new.self free
          found;
      capacity = ap length put ∙ (length-set before half.pattern true ∙ j.capacity);
      unsupported = λ u. absurd (supported_call Forward m input walk next (j.k, j.reported) a.reports u);
      done =
          λ past. (let undone = reported_undone m input next j.k (a.reports j.k j.reported).0 on.0 in
          absurd (omega (arith, past, undone)));
    }

pub returns-then-get_earliest-clause-effect : goal.returns-then-get_earliest-clause-effect
returns-then-get_earliest-clause-effect c =
    let m : Machine = c.args.dfa.now in
    let input : Input = c.args.input.now in
    let mid : Known = known_of c.walk.cache in
    let new : Known = known_of c.report_next.new.cache in
    let walk : Walk = c.walk.walk in
    let next : Walk = c.report_next.new.walk in
    let v = c.walk.invariant in
    let j = v.joins.0 in
    let a = c.in_ok-report_next.ensures.called.answer in
    let found : next.found ≡ Some c.in-Some.half = sym c.get_match.ensures ∙ c.in-Some.«is» in
    record {
      calls = suc j.k;
      walk = next;
      called =
          OneMore j.k walk next mid new v.joins.1 (open_after m input walk c.args.patset.now c.walk.patset j) v.there
          a.reports
          c.in_ok-report_next.ensures.called.effect;
      last = inr (λ pairs walked.
          closes input c.args.patset.now (set c.walk.patset c.in-Some.half.pattern true) pairs j.k c.in-Some.half
          (sym ((a.reports j.k j.reported).1 pairs walked).0 ∙ found)
          (length-set c.walk.patset c.in-Some.half.pattern true ∙ j.capacity)
          (joined_more m input c.args.patset.now walk next c.walk.patset j a.reports (pairs, walked) c.in-Some.half
          found)
          (inl (sym c.get_earliest.ensures ∙ c.if-get_earliest.true)));
    }

pub walk-smaller : goal.walk-smaller
walk-smaller c =
    let found : c.report_next.new.walk.found ≡ Some c.in-Some.half = sym c.get_match.ensures ∙ c.in-Some.«is» in
    let put : c.try_insert.new.self ≡ set c.walk.patset c.in-Some.half.pattern true =
    c.try_insert.ensures.inserted ∙ ap (λ n. set c.walk.patset n true) c.pattern.ensures in
    let on = on_found c.walk.walk c.report_next.new.walk c.in-Some.half
    c.in_ok-report_next.ensures.called.answer.goes_on found in
    let j = c.walk.invariant.joins.0 in
    steps_less c.args.dfa.now c.args.input.now c.in_ok-report_next.ensures.valid.within.1 c.walk.walk
    c.report_next.new.walk
    (stands_well c.args.dfa.now c.args.input.now c.in_ok-report_next.ensures.valid.within.1 c.report_next.new.walk j.k
    (c.in_ok-report_next.ensures.called.answer.reports j.k j.reported).0 on.0) on.1

pub walk-init : goal.walk-init
walk-init c = record {
  sound = c.reveal_invariant_of.ensures;
  there = search rules;
  begins = λ u. (ap (λ (w : Walk). w.stage) c.start-walk.ensures, refl);
  done = λ past. refl;
  on = search rules;
  holds = search rules;
  keeping = search rules;
  joins =
      joins_begin c.args.dfa.now c.args.input.now c.start-walk.result c.args.patset.now (known_of c.args.cache.now)
      c.start-walk.ensures;
}

pub walk-preserved : goal.walk-preserved
walk-preserved c =
    let reported : WalksAreReported c.args.dfa.now.nfa =
    subst WalksAreReported c.get_nfa.ensures c.walk_is_right.ensures.reported in
    let list : (pairs : List Pair) × AreWalked Forward c.args.dfa.now c.args.input.now pairs =
    walks_are Forward c.args.dfa.now c.args.input.now reported in
    let found : c.report_next.new.walk.found ≡ Some c.in-Some.half = sym c.get_match.ensures ∙ c.in-Some.«is» in
    let put : c.try_insert.new.self ≡ set c.walk.patset c.in-Some.half.pattern true =
    c.try_insert.ensures.inserted ∙ ap (λ n. set c.walk.patset n true) c.pattern.ensures in
    let on = on_found c.walk.walk c.report_next.new.walk c.in-Some.half
    c.in_ok-report_next.ensures.called.answer.goes_on found in
    let j = c.walk.invariant.joins.0 in
    let lacks : IsLacking (set c.walk.patset c.in-Some.half.pattern true) = lacking _ 0 (λ full.
    let whole : IsTrue c.is_full.result =
    c.is_full.ensures.1 (subst (λ (s : List Bool). length (members s) ≡ length s) (sym put) full) in
    false_true (sym c.if-is_full.false ∙ whole)) in
    record {
      sound = c.in_ok-report_next.ensures.sound;
      there =
          held_there c.report_next.new.cache c.report_next.new.walk.stage c.report_next.new.held
          c.in_ok-report_next.ensures.held.holds
          (c.in_ok-report_next.ensures.held.keeping ∙ c.walk.invariant.keeping);
      on = on.0;
      holds = c.in_ok-report_next.ensures.held.holds;
      keeping = c.in_ok-report_next.ensures.held.keeping ∙ c.walk.invariant.keeping;
      done = λ past. (
          let undone =
          reported_undone c.args.dfa.now c.args.input.now c.report_next.new.walk j.k
          (c.in_ok-report_next.ensures.called.answer.reports j.k j.reported).0 on.0 in
          absurd (omega (arith, past, undone)));
      begins =
          λ u. absurd
          (supported_call Forward c.args.dfa.now c.args.input.now c.walk.walk c.report_next.new.walk (j.k, j.reported)
          c.in_ok-report_next.ensures.called.answer.reports u);
      joins =
          subst (λ (s : List Bool). (i : Joins c.args.dfa.now c.args.input.now c.report_next.new.walk
          c.args.patset.now s)
          × HaveCalled c.args.dfa.now c.args.input.now c.args.patset.now (known_of c.args.cache.now) i.k
          c.report_next.new.walk (known_of c.report_next.new.cache)) (sym put) (
            joins_more c.args.dfa.now c.args.input.now c.args.patset.now c.walk.walk c.report_next.new.walk
                c.walk.patset
                c.walk.invariant.joins.0 c.in_ok-report_next.ensures.called.answer.reports list c.in-Some.half found
                (sym c.get_earliest.ensures ∙ c.if-get_earliest.false) lacks,
            calls_more c.args.dfa.now c.args.input.now c.args.patset.now c.walk.walk c.report_next.new.walk
                c.walk.patset
                c.walk.invariant.joins.0 c.in_ok-report_next.ensures.called.answer.reports list c.in-Some.half found
                (sym c.get_earliest.ensures ∙ c.if-get_earliest.false) lacks (known_of c.args.cache.now)
                (known_of c.report_next.new.cache)
                (OneMore j.k c.walk.walk c.report_next.new.walk (known_of c.walk.cache)
                (known_of c.report_next.new.cache)
                c.walk.invariant.joins.1
                (open_after c.args.dfa.now c.args.input.now c.walk.walk c.args.patset.now c.walk.patset j)
                c.walk.invariant.there c.in_ok-report_next.ensures.called.answer.reports
                c.in_ok-report_next.ensures.called.effect),
          );
    }
