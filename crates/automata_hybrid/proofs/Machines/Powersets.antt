-- The states and the reports of a full DFA are those of the powerset construction of its NFA.
use Rattle.std.proofs.Common.{ℕ, suc, ◌≡◌, ◌∙◌, Bool, true, false, List, length, refl, sym}
use Rattle.automata_hybrid.proofs.Words.{Direction, Input, Machine, match_kind_of, Pair, reported_along, state_in}
use Rattle.automata_hybrid.proofs.Words.{tape_in, WalksAreReported}
use Rattle.automata_base.specs.Answers.Answers.{WalksNoSpan, WalksSpan}
use Rattle.automata_determinize.specs.Retraced.Passes.{first_reported, last_reported, pairs_reported, reported_upto}
use Rattle.automata_determinize.specs.Retraced.Passes.{state_after}
use Rattle.automata_determinize.specs.Answers.OfPasses.{reported_over}
use Rattle.automata_determinize.specs.Laws.Walks.{AreReported}
use Rattle.automata_hybrid.specs.Machines.FullDfas.{state_on}
use Rattle.automata_hybrid.specs.Searches.Passes.{report_in}
use Rattle.automata_hybrid.specs.Walks.Answers.{AreWalked, pairs_along, pairs_reported_in}

module _ (way : Direction) (m : Machine) (input : Input) where
  -- the states of a pass
  pub state_of_nfa :
      (k : ℕ)
      → state_in way m input k ≡ state_after m.nfa (match_kind_of m.config) input.anchored (tape_in way input) k
  unfolding state_on state_after
  state_of_nfa k = refl

  -- what the first `k` units report
  pub reported_of_nfa :
      (e : Bool) (k : ℕ)
      → reported_along e (λ i. state_in way m input i) k
      ≡ reported_upto (match_kind_of m.config) e m.nfa input.anchored (tape_in way input) k
  unfolding state_on state_after first_reported last_reported
  reported_of_nfa true k = refl
  reported_of_nfa false k = refl

  -- what a pass over the whole span reports
  pub report_of_nfa : report_in way m input ≡ reported_over way m.nfa (match_kind_of m.config) input
  report_of_nfa = reported_of_nfa input.earliest (suc (length (tape_in way input).bytes))

  -- the pairs that it reports to a walk
  pairs_of_nfa :
      (k : ℕ)
      → pairs_reported_in way m input k
      ≡ pairs_reported m.nfa (match_kind_of m.config) input.anchored (tape_in way input) k
  unfolding state_on state_after pairs_along pairs_reported
  pairs_of_nfa k = refl

  -- the whole list of a walk
  pub walked_reported :
      (pairs : List Pair) → AreWalked way m input pairs → AreReported way m.nfa (match_kind_of m.config) input pairs
  walked_reported pairs (WalksNoSpan past none) = WalksNoSpan past none
  walked_reported pairs (WalksSpan undone reported same unsplit) =
      WalksSpan undone reported (same ∙ pairs_of_nfa (suc (length (tape_in way input).bytes))) unsplit

  pub reported_walked :
      (pairs : List Pair) → AreReported way m.nfa (match_kind_of m.config) input pairs → AreWalked way m input pairs
  reported_walked pairs (WalksNoSpan past none) = WalksNoSpan past none
  reported_walked pairs (WalksSpan undone reported same unsplit) =
      WalksSpan undone reported (same ∙ sym (pairs_of_nfa (suc (length (tape_in way input).bytes)))) unsplit

  -- each walk has such a list
  pub walks_are : WalksAreReported m.nfa → (pairs : List Pair) × AreWalked way m input pairs
  walks_are law = let list = law way (match_kind_of m.config) input in (list.0, reported_walked list.0 list.1)
