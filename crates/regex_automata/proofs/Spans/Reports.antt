-- What a pass has read when it reports.
use Rattle.std.proofs.Common.{ℕ, suc, ◌≡◌, ◌∙◌, ◌≤◌, Bool, true, false, length, Option}
use Rattle.std.proofs.Common.{Some, None, refl, sym, ap, subst, arith}
use Rattle.automata_base.specs.declared.util.search.Anchored.{Anchored}
use Rattle.automata_base.specs.Haystacks.Input.{Input}
use Rattle.automata_base.specs.Lists.{In}
use Rattle.automata_base.specs.Nfas.Nodes.{Automaton}
use Rattle.automata_base.specs.Paths.Paths.{Tape}
use Rattle.automata_base.specs.Powersets.Powerset.{Powerset, dead}
use Rattle.automata_base.specs.Paths.Selections.{Pair}
use Rattle.automata_base.specs.declared.util.search.Direction.{Direction}
use Rattle.automata_determinize.specs.Retraced.Passes.{first_reported, reported_at, reported_upto}
use Rattle.automata_determinize.specs.Answers.OfPasses.{reported_over}
use Rattle.automata_base.specs.declared.util.search.MatchKind.{MatchKind}
use Rattle.automata_determinize.proofs.Answers.Within.{ReportedBelow, first_below, first_stays, over_below}
use Rattle.automata_hybrid.specs.Machines.Machine.{Machine}
use Rattle.automata_hybrid.specs.Searches.Passes.{Reads, report_in, state_in, tape_in}
use Rattle.automata_hybrid.proofs.Machines.Powersets.{report_of_nfa, reported_of_nfa, state_of_nfa}
use Rattle.automata_hybrid.proofs.Searches.PassState.{dead_more, false_true}
use Rattle.automata_config.specs.Options.{match_kind_of}
use Rattle.automata_base.proofs.Paths.Orders.{some_inj}

first_holds :
    (kind : MatchKind) (a : Automaton) (mode : Anchored) (t : Tape) (pair : Pair) (k n : ℕ)
    → k ≤ n → first_reported a kind mode t k ≡ Some pair → first_reported a kind mode t n ≡ Some pair
unfolding first_reported
first_holds kind a mode t pair k n l e = first_stays (reported_at a kind mode t) pair k n l e

module _ (way : Direction) (m : Machine) (input : Input) (pair : Pair)
    (reported : report_in way m input ≡ Some pair) where
  abbrev Last : ℕ
  Last = length (tape_in way input).bytes

  over : reported_over way m.nfa (match_kind_of m.config) input ≡ Some pair
  over = sym (report_of_nfa way m input) ∙ reported

  below : ReportedBelow (match_kind_of m.config) m.nfa input.anchored (tape_in way input) pair (suc Last)
  below = over_below way m.nfa (match_kind_of m.config) input pair over

  -- a pass reports at a position of its tape
  pub reported_within : pair.place ≤ length (tape_in way input).bytes
  reported_within = let b = below.0 in omega (arith, b)

  alive : (j : ℕ) → j ≤ pair.place → state_in way m input j ≡ dead → ⊥
  alive j l e =
      subst (In pair.pattern)
      (ap (λ (q : Powerset). q.patterns)
      (sym (state_of_nfa way m input (suc pair.place)) ∙ dead_more way m input j (suc pair.place) (omega (arith, l)) e))
      below.1

  unreported :
      (j : ℕ) → j ≤ pair.place → (e : Bool)
      → reported_upto (match_kind_of m.config) e m.nfa input.anchored (tape_in way input) (suc Last) ≡ Some pair
      → e ≡ true → reported_upto (match_kind_of m.config) e m.nfa input.anchored (tape_in way input) j ≡ None
  unreported j l false t e = absurd (false_true e)
  unreported j l true t e =
      go (first_reported m.nfa (match_kind_of m.config) input.anchored (tape_in way input) j) refl where
        go :
            (o : Option Pair) → first_reported m.nfa (match_kind_of m.config) input.anchored (tape_in way input) j ≡ o
            → first_reported m.nfa (match_kind_of m.config) input.anchored (tape_in way input) j ≡ None
        go None f = f
        go (Some sooner) f =
            let w = reported_within in
            let stays : first_reported m.nfa (match_kind_of m.config) input.anchored (tape_in way input) (suc Last)
            ≡ Some sooner =
            first_holds (match_kind_of m.config) m.nfa input.anchored (tape_in way input) sooner j (suc Last)
            (omega (arith, l, w)) f in
            let same : pair ≡ sooner = some_inj (sym t ∙ stays) in
            let b = first_below (match_kind_of m.config) m.nfa input.anchored (tape_in way input) sooner j f in
            let p : pair.place ≡ sooner.place = ap (λ (v : Pair). v.place) same in
            absurd (omega (arith, b.0, p, l))

  -- a pass reads each unit up to the position where it reports
  pub reported_reads : (j : ℕ) → j ≤ pair.place → Reads way m input j
  reported_reads j l =
      let w = reported_within in (
        omega (arith, l, w),
        alive j l,
        λ e. reported_of_nfa way m input input.earliest j ∙ unreported j l input.earliest over e,
      )
