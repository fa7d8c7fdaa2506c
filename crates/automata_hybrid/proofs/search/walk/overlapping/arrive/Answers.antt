use Rattle.std.proofs.Common.{◌≡◌, ◌∙◌, sym, ap, subst, get_or}
use Rattle.automata_hybrid.proofs.Words.{Direction, HalfMatch, IsRowState, Machine, Powerset, state_in}
use Rattle.automata_hybrid.specs.Walks.Answers.{ReportsNext}
use Rattle.automata_hybrid.specs.Walks.State.{Walk}
use Rattle.automata_hybrid.specs.Private.Walks.State.{with_match}
use Rattle.automata_hybrid.proofs.Walks.Calls.{next_arrives}
use Rattle.automata_hybrid.proofs.search.walk.overlapping.arrive.Goals as goal

pub match_pattern-requires-clause-index : goal.match_pattern-requires-clause-index
match_pattern-requires-clause-index c = λ q n. c.requires.arrives.reports q n

pub returns-clause-reports : goal.returns-clause-reports
returns-clause-reports c =
    let d : Direction = c.args.way in
    let q : Powerset = c.snapshot.result.value in
    let state : q ≡ state_in d c.args.dfa.now c.args.input.now c.args.units =
    c.snapshot.ensures.state _ c.requires.arrives.named in
    let row : IsRowState c.args.dfa.now q =
    subst (λ (m : Machine). IsRowState m q) c.requires.sound.of c.snapshot.ensures.row in
    let pattern =
    c.match_pattern.ensures (state_in d c.args.dfa.now c.args.input.now c.args.units) c.requires.arrives.named
    ∙ ap (λ (x : Powerset). get_or x.patterns 0 0) (sym state) in
    let now = c.report.ensures ∙ ap (λ (w : Walk). with_match w c.new-half.result) c.go_to.ensures in
    subst (ReportsNext d c.args.dfa.now c.args.input.now c.args.walk.now) (sym now)
    (next_arrives d c.args.dfa.now c.args.input.now c.args.walk.now c.args.cache.now.store.table c.args.id c.args.units
    q c.new-half.result
    c.requires.«open» c.requires.may c.requires.here c.requires.arrives state row
    (ap (λ (h : HalfMatch). h.pattern) c.new-half.ensures ∙ pattern)
    (ap (λ (h : HalfMatch). h.offset) c.new-half.ensures ∙ c.place_offset-at.ensures.value))
