use Rattle.std.proofs.Common.{◌≡◌, ◌∙◌, ◌-◌, ◌<◌, ◌≤◌, length, refl, sym, ap, subst, arith, get_or}
use Rattle.automata_hybrid.proofs.Words.{Direction, HalfMatch, Input, known_of, Machine, offset_in, tape_in}
use Rattle.automata_hybrid.specs.Known.Walks.{ReadsNone}
use Rattle.automata_hybrid.specs.Walks.Progress.{HasEnded, HasMore, HasNoneLeft}
use Rattle.automata_hybrid.specs.Private.Walks.Parts.{IsCallAnswer, IsCallResult}
use Rattle.automata_hybrid.specs.Walks.Answers.{ReportsNext}
use Rattle.automata_hybrid.specs.Walks.State.{At, Ended, Keeping, Walk, without_match}
use Rattle.automata_hybrid.specs.Private.Walks.State.{ended_walk, keeping_of, with_match}
use Rattle.automata_hybrid.specs.Private.Walks.Answers.{FindsNone, ReportsOneMore}
use Rattle.automata_hybrid.proofs.Walks.Parts.{called_matched}
use Rattle.automata_hybrid.proofs.Walks.Calls.{ended_at, next_done, next_ended, next_read, next_same, undone}
use Rattle.automata_hybrid.proofs.Searches.Directions.{units_in}
use Rattle.automata_hybrid.proofs.search.walk.overlapping.report_next.Goals as goal

pub returns-then-has_ended-clause-called : goal.returns-then-has_ended-clause-called
returns-then-has_ended-clause-called c =
    let d : Direction = c.args.way in
    let w : Walk = c.args.walk.now in
    let ended : w.stage ≡ Ended =
    subst (λ (v : Walk). v.stage ≡ Ended) c.forget_match.ensures (c.has_ended.ensures.yes c.if-has_ended.true) in
    record {
      answer =
          subst (λ (x : Walk). IsCallAnswer d c.args.dfa.now c.args.input.now w x) (sym c.forget_match.ensures)
          (record {
            reports = next_ended d c.args.dfa.now c.args.input.now w ended;
            goes_on = FindsNone refl;
          });
      effect =
          ReadsNone (λ over. ap (λ (v : Walk). v.found) c.forget_match.ensures) (HasEnded ended)
          (ap (λ (v : Walk). v.units) c.forget_match.ensures) refl;
    }

pub returns-then-past-clause-called : goal.returns-then-past-clause-called
returns-then-past-clause-called c =
    let d : Direction = c.args.way in
    let w : Walk = c.args.walk.now in
    let done : c.args.input.now.end < c.args.input.now.start = c.is_done-past.ensures.done.0 c.if-past.true in
    let same : c.end.new.self ≡ ended_walk w w.units =
    c.end.ensures ∙ ap (ended_walk w) (c.units.ensures ∙ ap (λ (v : Walk). v.units) c.forget_match.ensures) in
    record {
      answer =
          subst (λ (x : Walk). IsCallAnswer d c.args.dfa.now c.args.input.now w x) (sym same)
          (record {
            reports =
                next_done d c.args.dfa.now c.args.input.now w w w.units done
                (subst (λ (v : Walk). v.stage ≡ Ended → ⊥) c.forget_match.ensures
                (c.has_ended.ensures.no c.if-has_ended.false));
            goes_on = FindsNone refl;
          });
      effect =
          ReadsNone (λ over. ap (λ (v : Walk). v.found) c.end.ensures) (HasNoneLeft (omega (arith, done)))
          (ap (λ (v : Walk). v.units) c.end.ensures
          ∙ (c.units.ensures ∙ ap (λ (v : Walk). v.units) c.forget_match.ensures)) refl;
    }

pub returns-in-Some-clause-called : goal.returns-in-Some-clause-called
returns-in-Some-clause-called c =
    let d : Direction = c.args.way in
    let m : Machine = c.args.dfa.now in
    let input : Input = c.args.input.now in
    let w : Walk = c.args.walk.now in
    let left = c.in-Some.ensures.left in
    let stage : w.stage ≡ At left.0 = subst (λ (v : Walk). v.stage ≡ At left.0) c.forget_match.ensures left.1 in
    let few : w.reported < length left.0.patterns =
    subst (λ (v : Walk). v.reported < length left.0.patterns) c.forget_match.ensures left.2 in
    let same : c.report.new.self ≡ with_match (without_match w) c.new.result =
    c.report.ensures ∙ ap (λ (v : Walk). with_match v c.new.result) c.forget_match.ensures in
    record {
      answer =
          subst (λ (x : Walk). IsCallAnswer d m input w x) (sym same)
          (record {
            reports =
                next_same d m input (without_match w) left.0 c.new.result stage few
                (subst (λ (v : Walk). c.new.result.pattern ≡ get_or left.0.patterns v.reported 0) c.forget_match.ensures
                (ap (λ (h : HalfMatch). h.pattern) c.new.ensures ∙ left.3))
                (ap (λ (h : HalfMatch). h.offset) c.new.ensures
                ∙ (c.place_offset-place.ensures.value
                ∙ ap (λ n. offset_in d input (n - 1))
                (c.units-in-Some.ensures ∙ ap (λ (v : Walk). v.units) c.forget_match.ensures)));
            goes_on = ReportsOneMore (λ ended. ended_at left.0 (sym ended ∙ stage)) refl refl;
          });
      effect =
          ReadsNone
          (λ over. absurd (ended_at left.0 (sym over ∙ (ap (λ (v : Walk). v.stage) c.report.ensures ∙ left.1))))
          (HasMore left.0 (subst (λ (v : Walk). v.stage ≡ At left.0) c.forget_match.ensures left.1)
          (subst (λ (v : Walk). v.reported < length left.0.patterns) c.forget_match.ensures left.2))
          (ap (λ (v : Walk). v.units) c.report.ensures ∙ ap (λ (v : Walk). v.units) c.forget_match.ensures) refl;
    }

pub returns-then-units-last_place-clause-called : goal.returns-then-units-last_place-clause-called
returns-then-units-last_place-clause-called c =
    let d : Direction = c.args.way in
    let m : Machine = c.args.dfa.now in
    let input : Input = c.args.input.now in
    let w : Walk = c.args.walk.now in
    let open_span : input.start ≤ input.end =
    undone c.is_done-past.result input.start input.end c.is_done-past.ensures.done c.if-past.false in
    let units : input.end - input.start ≡ length (tape_in d input).bytes =
    units_in d input open_span c.is_done-past.ensures.valid.within.1 in
    let past : length (tape_in d input).bytes < c.forget_match.new.self.units =
    omega (arith, units, c.units-2.ensures, c.last_place.ensures.place, c.if-units-last_place.true) in
    let same : c.end-then-units-last_place.new.self ≡ ended_walk w w.units =
    c.end-then-units-last_place.ensures
    ∙ ap (ended_walk w) (c.units-then-units-last_place.ensures ∙ ap (λ (v : Walk). v.units) c.forget_match.ensures) in
    let read : c.units-2.result ≡ w.units = c.units-2.ensures ∙ ap (λ (v : Walk). v.units) c.forget_match.ensures in
    record {
      answer =
          subst (λ (x : Walk). IsCallAnswer d m input w x) (sym same)
          (record {
            reports =
                subst (λ (v : Walk). ReportsNext d m input v (ended_walk w w.units)) c.forget_match.ensures
                (next_read d m input c.forget_match.new.self w w.units (c.has_ended.ensures.no c.if-has_ended.false)
                c.in_default.ensures.none past);
            goes_on = FindsNone refl;
          });
      effect =
          ReadsNone (λ over. ap (λ (v : Walk). v.found) c.end-then-units-last_place.ensures)
          (HasNoneLeft (omega (arith, read, c.last_place.ensures.place, c.if-units-last_place.true)))
          (ap (λ (v : Walk). v.units) c.end-then-units-last_place.ensures
          ∙ (c.units-then-units-last_place.ensures ∙ ap (λ (v : Walk). v.units) c.forget_match.ensures))
          refl;
    }

pub returns-clause-called : goal.returns-clause-called
returns-clause-called c =
    let keeping : Keeping = keeping_of c.args.held.now in
    let r = c.search_next in
    called_matched c.args.way c.args.dfa.now c.args.input.now c.args.walk.now r.new.walk keeping
    (known_of c.args.cache.now) (known_of r.new.cache) r.result
    (subst
    (λ (v : Walk). IsCallResult keeping c.args.way c.args.dfa.now c.args.input.now v r.new.walk
    (known_of c.args.cache.now) (known_of r.new.cache) r.result)
    c.forget_match.ensures r.ensures.called)
