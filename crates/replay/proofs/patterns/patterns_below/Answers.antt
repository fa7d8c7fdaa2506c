use Rattle.std.proofs.Common.{◌≡◌, ◌∙◌, Bool, List, Option, [], ap, inl, refl, subst, sym, IfSome}
use Rattle.std.specs.Result.{result_err}
use Rattle.automata_base.specs.Answers.Answers.{ArePatterns, ArePatternsFound}
use Rattle.automata_base.specs.Answers.Answers.{IsOverlapping}
use Rattle.automata_base.specs.Haystacks.PatternSet.{members}
use Rattle.automata_base.specs.declared.util.search.Direction.TheVariants.{Forward}
use Rattle.automata_config.specs.declared.error.SearchError.{SearchError}
use Rattle.automata_hybrid.specs.Searches.Contracts.{IsMemory}
use Rattle.automata_hybrid.specs.Known.Stores.{known_of}
use Rattle.automata_hybrid.specs.Known.Walks.{IsSetRun}
use Rattle.automata_hybrid.specs.Walks.Answers.{AreWalked}
use Rattle.replay.specs.Caches.{Listed, NoList, NoSet}
use Rattle.regex_automata.specs.Spans.Contracts.{HasReportedSet, empty_set}
use Rattle.replay.proofs.Replies.SetLists.{members_rise, memory_where, no_patterns, none_where}
use Rattle.replay.proofs.Replies.SetLists.{patterns_reported}
use Rattle.replay.proofs.Replies.SetLists.{reported_set, reported_where, run_ended}
use Rattle.replay.proofs.patterns.patterns_below.Goals as goal
use Rattle.automata_base.proofs.Paths.Orders.{some_none}
use Rattle.automata_hybrid.specs.Machines.Machine.{engine}

pub returns-in_default-clause-returned : goal.returns-in_default-clause-returned
returns-in_default-clause-returned c =
    no_patterns c.args.dfa.now c.args.input.now c.args.capacity c.new-in_default.result.items
    c.new-in_default.ensures.items

pub returns-in-Ok-list_members-clause-returned : goal.returns-in-Ok-list_members-clause-returned
returns-in-Ok-list_members-clause-returned c =
    let m = c.args.dfa.now in
    let input = c.args.input.now in
    let s = c.try_which_overlapping_matches-reported.ensures.which in
    let reported = c.try_which_overlapping_matches-reported.result in
    let old = c.in-Ok.set in
    let new = c.try_which_overlapping_matches-reported.new.patset in
    let found = c.in-Ok-list_members.found.items in
    let error : c.err.result ≡ result_err reported = c.err.ensures.value in
    let still : new ≡ old → found ≡ [] =
    (λ same. c.in-Ok-list_members.ensures ∙ (ap members same ∙ c.in-Ok.ensures.empty)) in
    record {
      rise = members_rise new found c.in-Ok-list_members.ensures;
      paths =
          λ cycles none. patterns_reported (IsOverlapping Forward (engine m) input) input c.args.capacity old new found
          c.in-Ok.ensures.capacity c.in-Ok.ensures.empty c.in-Ok-list_members.ensures
          (reported_where reported (ArePatternsFound (engine m) input _ _ _) (s.paths cycles) (sym error ∙ none));
      unsupported = λ u. (let reported = s.unsupported u in (still reported.1, inl (error ∙ ap result_err reported.0)));
      free = λ f. subst (λ (e : Option SearchError). IfSome e IsMemory) (sym error) (memory_where reported (s.free f));
      done = λ past. (
          let none = s.done past in (
            still none.1,
            subst (λ (e : Option SearchError). IfSome e IsMemory) (sym error)
                (none_where reported none.0),
          ));
    }

pub returns-clause-returned : goal.returns-clause-returned
returns-clause-returned c =
    no_patterns c.args.dfa.now c.args.input.now c.args.capacity c.new-in-Err.result.items c.new-in-Err.ensures.items

pub returns-in_default-clause-made : goal.returns-in_default-clause-made
returns-in_default-clause-made c = NoSet refl c.new-in_default.ensures.items refl

pub returns-in-Ok-list_members-clause-made : goal.returns-in-Ok-list_members-clause-made
returns-in-Ok-list_members-clause-made c =
    let reported = c.try_which_overlapping_matches-reported in
    Listed reported.new.patset
    (subst (λ (error : Option SearchError). IsSetRun c.args.dfa.now c.args.input.now (empty_set c.args.capacity)
    reported.new.patset (known_of c.args.cache.now) (known_of reported.new.cache) error) (sym c.err.ensures.value)
    (subst (λ (set : List Bool). IsSetRun c.args.dfa.now c.args.input.now set reported.new.patset
    (known_of c.args.cache.now) (known_of reported.new.cache) (result_err reported.result)) c.in-Ok.ensures.capacity
    reported.ensures.effect))
    c.in-Ok-list_members.ensures

pub returns-clause-made : goal.returns-clause-made
returns-clause-made c =
    let reported = c.try_which_overlapping_matches-reported in
    NoList reported.new.patset (result_err reported.result)
    (subst (λ (set : List Bool). IsSetRun c.args.dfa.now c.args.input.now set reported.new.patset
    (known_of c.args.cache.now) (known_of reported.new.cache) (result_err reported.result)) c.in-Ok.ensures.capacity
    reported.ensures.effect)
    c.new-in-Err.ensures.items refl

pub returns-in_default-clause-found : goal.returns-in_default-clause-found
returns-in_default-clause-found c = λ e. absurd (some_none e)

pub returns-clause-found : goal.returns-clause-found
returns-clause-found c = λ e. absurd (some_none e)

pub returns-in-Ok-list_members-clause-found : goal.returns-in-Ok-list_members-clause-found
returns-in-Ok-list_members-clause-found c = λ none.
    let m = c.args.dfa.now in
    let input = c.args.input.now in
    let reported = c.try_which_overlapping_matches-reported.result in
    let old = c.in-Ok.set in
    let new = c.try_which_overlapping_matches-reported.new.patset in
    let found = c.in-Ok-list_members.found.items in
    let error : c.err.result ≡ result_err reported = c.err.ensures.value in
    record {
      reported =
          patterns_reported (AreWalked Forward m input) input c.args.capacity old new found c.in-Ok.ensures.capacity
          c.in-Ok.ensures.empty c.in-Ok-list_members.ensures
          (reported_where reported (ArePatterns (AreWalked Forward m input) input _ _ _)
          c.try_which_overlapping_matches-reported.ensures.found (sym error ∙ none));
      clean = subst (λ (set : List Bool). HasReportedSet m input set) c.in-Ok.ensures.capacity
          (reported_set m input old (known_of c.args.cache.now)
          (known_of c.try_which_overlapping_matches-reported.new.cache)
          (run_ended m input old new (known_of c.args.cache.now)
          (known_of c.try_which_overlapping_matches-reported.new.cache) (result_err reported) (sym error ∙ none)
          c.try_which_overlapping_matches-reported.ensures.effect));
    }
