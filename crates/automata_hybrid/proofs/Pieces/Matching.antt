-- Under `MatchKind::All` the state of a pass reports the patterns of the paths that end in a match there.
use Rattle.std.proofs.Common.{arith, subst, suc, sym}
use Rattle.automata_base.specs.Lists.{IsSet}
use Rattle.automata_base.specs.Nfas.Accepted.{IsChecked}
use Rattle.automata_hybrid.proofs.Words.{Forward, Machine, MatchKind, nfa_of, Powerset, tape_in}
use Rattle.automata_determinize.specs.Retraced.Passes.{reported_at}
use Rattle.automata_base.specs.declared.util.search.MatchKind.TheVariants.{All as KindAll}
use Rattle.automata_determinize.proofs.Answers.Total.{tape_units}
use Rattle.automata_determinize.proofs.Paths.Finals.{set_right}
use Rattle.automata_determinize.proofs.Powersets.PassReports.{reported_is}
use Rattle.automata_base.proofs.Powersets.ReportsAreRight.{start_below}
use Rattle.automata_hybrid.specs.Pieces.Matching.{MatchesAt, StatesHaveMatching}
use Rattle.automata_hybrid.proofs.Searches.Units.{forward_units}
use Rattle.automata_hybrid.proofs.Machines.Powersets.{state_of_nfa}

pub states_have_matching : (m : Machine) → IsChecked m.nfa → StatesHaveMatching m
states_have_matching m checked input start k kind starts bytes undone inside =
    let units = forward_units input undone bytes.1 in
    subst (λ (q : Powerset). IsSet (MatchesAt m input start k) q.patterns) (sym (state_of_nfa Forward m input (suc k)))
    (subst (λ (e : MatchKind). IsSet (MatchesAt m input start k)
    (reported_at m.nfa e input.anchored (tape_in Forward input) k)) (sym kind)
    (subst (IsSet (MatchesAt m input start k))
    (sym (reported_is m.nfa KindAll input.anchored (tape_in Forward input) start k starts))
    (set_right (nfa_of m.nfa) (tape_in Forward input) start k checked.range
    (start_below m.nfa input.anchored start checked starts)
    (tape_units Forward input.haystack input.start input.end bytes.0 undone bytes.1) (omega (arith, units, inside)))))
