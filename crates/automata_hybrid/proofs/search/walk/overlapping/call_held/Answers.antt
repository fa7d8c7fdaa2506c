use Rattle.std.proofs.Common.{suc, ◌∙◌, ap, subst, sym}
use Rattle.automata_hybrid.proofs.Words.{Direction, Err, Known, known_of, match_kind_of, Ok, Result, SearchError}
use Rattle.automata_hybrid.proofs.Words.{WalkLiesWithin, WalksAreReported}
use Rattle.automata_determinize.specs.Laws.Walks.{OverlappingIsReported}
use Rattle.automata_hybrid.specs.Walks.State.{States, Walk}
use Rattle.automata_hybrid.specs.Known.Walks.{CallFails}
use Rattle.automata_hybrid.specs.Private.Walks.State.{IsHeldItself}
use Rattle.automata_hybrid.specs.declared.search.walk.Held.{Held}
use Rattle.automata_hybrid.specs.Private.Walks.Answers.{FindsNone, ReadsMore, ReportsOneMore}
use Rattle.automata_hybrid.proofs.Walks.Parts.{held_itself, itself_held, supported_call, unsupported_call}
use Rattle.automata_hybrid.proofs.Walks.Progress.{left_reads}
use Rattle.automata_hybrid.proofs.Walks.Reach.{call_memory}
use Rattle.automata_hybrid.proofs.Walks.Calls.{still_walk}
use Rattle.automata_hybrid.proofs.Walks.Bounds.{reported_lies}
use Rattle.automata_hybrid.proofs.Machines.Powersets.{reported_walked}
use Rattle.automata_hybrid.proofs.search.walk.overlapping.call_held.Goals as goal

pub report_next-requires-clause-walk : goal.report_next-requires-clause-walk
report_next-requires-clause-walk c =
    record {
      reported = c.requires.walk.reported;
      holds =
          (held_itself c.args.cache.now.store.table c.args.walk.now.stage c.args.held.now c.requires.walk.itself).0;
    }

pub release-requires : goal.release-requires
release-requires c =
    itself_held c.report_next.new.cache.store.table c.report_next.new.walk.stage c.report_next.new.held
    c.in-Ok.ensures.held.holds
    (c.in-Ok.ensures.held.keeping
    ∙ (held_itself c.args.cache.now.store.table c.args.walk.now.stage c.args.held.now c.requires.walk.itself).1)

pub returns-in-Ok-clause-walk : goal.returns-in-Ok-clause-walk
returns-in-Ok-clause-walk c =
    let walk = c.requires.walk.reported in
    record {
      reported = (suc walk.0, (c.in-Ok.ensures.called.answer.reports walk.0 walk.1).0);
      itself = c.release.ensures;
    }

pub returns-in-Ok-clause-call : goal.returns-in-Ok-clause-call
returns-in-Ok-clause-call c =
    let d : Direction = c.args.way in
    let m = c.args.dfa.now in
    let input = c.args.input.now in
    let reports = c.in-Ok.ensures.called.answer.reports in
    let answered : Result (Unit {0}) SearchError = Ok tt in
    let haystack = c.in-Ok.ensures.valid in
    let law : OverlappingIsReported m.nfa =
    subst OverlappingIsReported c.get_nfa.ensures c.walk_is_right.ensures.overlapping in
    record {
      reports = reports;
      paths = λ free k pairs reported overlapping.
          ((reports k reported).1 pairs
          (reported_walked d m input pairs
          (law d (match_kind_of m.config) input pairs free (haystack.bytes, haystack.within.1) overlapping))).0;
      within =
          reported_lies d m input (subst WalksAreReported c.get_nfa.ensures c.walk_is_right.ensures.reported)
          (subst WalkLiesWithin c.get_nfa.ensures c.walk_is_right.ensures.within) haystack.within.1
          c.args.walk.now c.report_next.new.walk answered c.requires.walk.reported reports tt;
      ended = λ over. elim c.in-Ok.ensures.called.answer.goes_on [
        | FindsNone none ↦ none
        | ReadsMore on more ↦ absurd (on over)
        | ReportsOneMore on same more ↦ absurd (on over)
      ];
      refused = tt;
      unsupported =
          λ fresh u. absurd
          (supported_call d m input c.args.walk.now c.report_next.new.walk c.requires.walk.reported reports u);
      free = λ f. tt;
      ready = λ none. tt;
    }

pub returns-in-Ok-clause-effect : goal.returns-in-Ok-clause-effect
returns-in-Ok-clause-effect c =
    c.in-Ok.ensures.called.effect

pub returns-in-Err-clause-walk : goal.returns-in-Err-clause-walk
returns-in-Err-clause-walk c =
    record {
      reported =
          still_walk c.args.way c.args.dfa.now c.args.input.now c.args.walk.now SearchError (Err c.in-Err.error)
          c.report_next.new.walk
          c.requires.walk.reported tt c.in-Err.ensures.err.0;
      itself =
          subst (λ (h : Held). IsHeldItself c.report_next.new.walk.stage h) (sym c.in-Err.ensures.err.1)
          (subst (λ (w : Walk). IsHeldItself w.stage c.args.held.now) (sym c.in-Err.ensures.err.0)
          c.requires.walk.itself);
    }

pub returns-in-Err-clause-effect : goal.returns-in-Err-clause-effect
returns-in-Err-clause-effect c =
    subst
    (λ k. CallFails k c.args.way c.args.dfa.now c.args.input.now c.args.walk.now (known_of c.args.cache.now)
    (known_of c.report_next.new.cache) c.in-Err.error)
    (held_itself c.args.cache.now.store.table c.args.walk.now.stage c.args.held.now c.requires.walk.itself).1
    c.in-Err.ensures.called

pub returns-in-Err-clause-call : goal.returns-in-Err-clause-call
returns-in-Err-clause-call c =
    let d : Direction = c.args.way in
    let m = c.args.dfa.now in
    let input = c.args.input.now in
    let old : Known = known_of c.args.cache.now in
    let new : Known = known_of c.report_next.new.cache in
    let left : CallFails States d m input c.args.walk.now old new c.in-Err.error =
    subst (λ k. CallFails k d m input c.args.walk.now old new c.in-Err.error)
    (held_itself c.args.cache.now.store.table c.args.walk.now.stage c.args.held.now c.requires.walk.itself).1
    c.in-Err.ensures.called in
    let refused : Result (Unit {0}) SearchError = Err c.in-Err.error in
    let haystack = c.in-Err.ensures.valid in
    record {
      reports = tt;
      paths = λ free k pairs reported overlapping. tt;
      within =
          reported_lies d m input (subst WalksAreReported c.get_nfa.ensures c.walk_is_right.ensures.reported)
          (subst WalkLiesWithin c.get_nfa.ensures c.walk_is_right.ensures.within) haystack.within.1
          c.args.walk.now c.report_next.new.walk refused c.requires.walk.reported tt c.in-Err.ensures.err.0;
      ended = λ over. ap (λ (w : Walk). w.found) c.in-Err.ensures.err.0;
      refused = c.in-Err.ensures.err.0;
      unsupported = λ fresh u.
          ap Err (unsupported_call States d m input c.args.walk.now old new c.in-Err.error fresh u left);
      free = λ f.
          call_memory d m input haystack.within.1 f.reach f.supported f.clears States c.args.walk.now old new
          c.in-Err.error left;
      ready = left_reads States d m input c.args.walk.now old new c.in-Err.error left;
    }
