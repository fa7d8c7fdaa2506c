-- A search has one answer, and walks over an input report one list.
use Rattle.std.proofs.Common.{◌∙◌, List, sym, subst}
use Rattle.automata_hybrid.proofs.Words.{Automaton, Machine, match_kind_of, MatchKind, Pair, WalksAreReported}
use Rattle.automata_determinize.specs.Answers.OfPasses.{IsReported, ReportedIsOne}
use Rattle.automata_determinize.specs.Laws.Walks.{AreReported}
use Rattle.automata_hybrid.specs.Searches.Agreement.{AnswersAgree, WalksAgree}
use Rattle.automata_hybrid.specs.Walks.Answers.{AreWalked}
use Rattle.automata_hybrid.proofs.Searches.Skips.{found_reported}
use Rattle.automata_hybrid.proofs.Machines.Powersets.{reported_walked}

pub answers_agree : ReportedIsOne → AnswersAgree
answers_agree one way m other input first second nfa kind f s =
    one way m.nfa (match_kind_of m.config) input first second (found_reported way m input first f)
    (subst (λ (k : MatchKind). IsReported way m.nfa k input second) (sym kind)
    (subst (λ (a : Automaton). IsReported way a (match_kind_of other.config) input second) (sym nfa)
    (found_reported way other input second s)))

pub walks_agree : (m : Machine) → WalksAreReported m.nfa → WalksAgree m
walks_agree m reported way other input first second first_reported second_reported k nfa kind f s f' s' =
    let list : (pairs : List Pair) × AreReported way m.nfa (match_kind_of m.config) input pairs =
    reported way (match_kind_of m.config) input in
    let here : AreWalked way m input list.0 = reported_walked way m input list.0 list.1 in
    let there : AreWalked way other input list.0 =
    reported_walked way other input list.0
    (subst (λ (a : Automaton). AreReported way a (match_kind_of other.config) input list.0) (sym nfa)
    (subst (λ (l : MatchKind). AreReported way m.nfa l input list.0) (sym kind) list.1)) in
    ((f' k f).1 list.0 here).0 ∙ sym (((s' k s).1 list.0 there).0)
