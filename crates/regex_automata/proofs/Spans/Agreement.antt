-- Searches over two lazy DFAs find one match.
use Rattle.std.proofs.Common.{ℕ, ◌≡◌, ◌∙◌, ◌⊎◌, inl, inr, Bool, true, false, Option, Some, None, refl, sym, ap, ap₂}
use Rattle.std.proofs.Common.{subst}
use Rattle.std.specs.Prelude.{is_some}
use Rattle.automata_base.specs.Answers.Answers.{Half}
use Rattle.automata_base.specs.Nfas.Engines.{Engine, engine_of}
use Rattle.automata_base.specs.Haystacks.Input.{Input}
use Rattle.automata_base.specs.Haystacks.Matches.{Match}
use Rattle.automata_base.specs.Nfas.Nodes.{Automaton}
use Rattle.automata_base.specs.Answers.Spans.{FindsStartBy, back, in_full, StartIsBase, StartIsFound}
use Rattle.automata_base.specs.declared.util.search.Direction.TheVariants.{Backward, Forward}
use Rattle.automata_determinize.specs.Answers.OfPasses.{IsReported, ReportedIsOne}
use Rattle.automata_base.specs.declared.util.search.MatchKind.{MatchKind}
use Rattle.automata_hybrid.specs.Searches.Agreement.{AnswersAgree}
use Rattle.automata_hybrid.specs.Machines.Machine.{Machine}
use Rattle.automata_hybrid.specs.Searches.Passes.{IsFound, Skips}
use Rattle.automata_hybrid.proofs.Searches.Skips.{found_reported}
use Rattle.regex_automata.specs.Spans.Agreement.{AreAlike, MatchesAgree, TruthIffFound, TruthsAgree}
use Rattle.regex_automata.specs.Spans.IsMatch.{IsMatchReported}
use Rattle.regex_automata.specs.Spans.Outcomes.{FindsMatch, IsStartFound}
use Rattle.regex_automata.specs.Regexes.SoundPairs.{forward_engine}
use Rattle.regex_automata.specs.declared.hybrid.regex.Regex.{Regex}
use Rattle.regex_automata.proofs.Spans.Truths.{match_reported, truth_by_nfa}
use Rattle.automata_base.proofs.Paths.Orders.{none_some, some_inj, some_none}
use Rattle.automata_config.specs.Options.{match_kind_of}
use Rattle.automata_base.proofs.Answers.Once.{match_is}

module _ (agree : AnswersAgree) (p other : Regex) (alike : AreAlike p other) (input : Input) where
  same_front : (a b : Option Half) → IsFound Forward p.forward input a → IsFound Forward other.forward input b → a ≡ b
  same_front a b f g = agree Forward p.forward other.forward input a b alike.forward alike.forward_kind f g

  same_engine : forward_engine other ≡ forward_engine p
  same_engine = ap₂ (λ (a : Automaton) (k : MatchKind). engine_of a k) (sym alike.forward) (sym alike.forward_kind)

  same_start :
      (half : Half) (a b : ℕ) → IsStartFound p input half (Some a) → IsStartFound other input half (Some b) → a ≡ b
  same_start half a b f g =
      go f (subst (λ (d : Engine). FindsStartBy (IsFound Backward other.reverse) d input half (Some b)) same_engine g)
    where
      go :
          IsStartFound p input half (Some a)
          → FindsStartBy (IsFound Backward other.reverse) (forward_engine p) input half (Some b)
          → a ≡ b
      go (StartIsBase short s) (StartIsBase short' t) = s ∙ sym t
      go (StartIsBase short s) (StartIsFound long h found t) = absurd (long short)
      go (StartIsFound long h found s) (StartIsBase short t) = absurd (long short)
      go (StartIsFound long g found s) (StartIsFound long' h found' t) =
          let same : ◌≡◌ {A = Option Half} (Some g) (Some h) =
          agree Backward p.reverse other.reverse (back input half) (Some g) (Some h) alike.reverse alike.reverse_kind
          found found' in
          s ∙ ap (λ (h : Half). h.offset) (some_inj same) ∙ sym t

  same_match : (a b : Option Match) → FindsMatch p input a → FindsMatch other input b → a ≡ b
  same_match None None f g = refl
  same_match None (Some n) f g = absurd (none_some (same_front None (Some g.half) f g.front))
  same_match (Some m) None f g = absurd (some_none (same_front (Some f.half) None f.front g))
  same_match (Some m) (Some n) f g =
      let half : f.half ≡ g.half = some_inj (same_front (Some f.half) (Some g.half) f.front g.front) in
      let start : m.start ≡ n.start =
      same_start f.half m.start n.start f.start
      (subst (λ (h : Half). IsStartFound other input h (Some n.start)) (sym half) g.start) in
      ap (λ (v : Match). Some v)
      (match_is m n (f.pattern ∙ ap (λ (h : Half). h.pattern) half ∙ sym g.pattern) start
      (f.end ∙ ap (λ (h : Half). h.offset) half ∙ sym g.end))

pub matches_agree : AnswersAgree → MatchesAgree
matches_agree agree p other input a b alike f g = same_match agree p other alike input a b f g

module _ (one : ReportedIsOne) where
  pub truths_agree : TruthsAgree
  truths_agree m other input a b nfa kind first second =
      f.2 ∙ ap (λ (o : Option Half). is_some o)
      (one Forward m.nfa (match_kind_of m.config) (in_full input) f.0 g.0 f.1 reported) ∙ sym g.2
    where
      f : (o : Option Half) × IsReported Forward m.nfa (match_kind_of m.config) (in_full input) o × (a ≡ is_some o)
      f = truth_by_nfa m input a first

      g :
          (o : Option Half) × IsReported Forward other.nfa (match_kind_of other.config) (in_full input) o
          × (b ≡ is_some o)
      g = truth_by_nfa other input b second

      reported : IsReported Forward m.nfa (match_kind_of m.config) (in_full input) g.0
      reported =
          subst (λ (k : MatchKind). IsReported Forward m.nfa k (in_full input) g.0) (sym kind)
          (subst (λ (a : Automaton). IsReported Forward a (match_kind_of other.config) (in_full input) g.0) (sym nfa)
          g.1)

  -- what the forward search found decides whether there is a match
  front_truth :
      (m : Machine) (input : Input) (truth : Bool) (o : Option Half) → (input.earliest ≡ false) ⊎ (Skips m → ⊥)
      → IsMatchReported m input truth → IsFound Forward m input o → truth ≡ is_some o
  front_truth m input truth o may is found = go may input.earliest refl where
    reported :
        (p : Option Half) × IsReported Forward m.nfa (match_kind_of m.config) (in_full input) p × (truth ≡ is_some p)
    reported = truth_by_nfa m input truth is

    here : IsReported Forward m.nfa (match_kind_of m.config) input o
    here = found_reported Forward m input o found

    full : input.earliest ≡ false → truth ≡ is_some o
    full e =
        reported.2 ∙ ap (λ (v : Option Half). is_some v)
        (one Forward m.nfa (match_kind_of m.config) (in_full input) reported.0 o reported.1
        (subst (λ b. IsReported Forward m.nfa (match_kind_of m.config) (record input { earliest = b }) o) e here))

    part : input.earliest ≡ true → (Skips m → ⊥) → truth ≡ is_some o
    part e whole =
        let w =
        match_reported m input whole o
        (subst (λ b. IsReported Forward m.nfa (match_kind_of m.config) (record input { earliest = b }) o) e here) in
        reported.2
        ∙ ap (λ (v : Option Half). is_some v)
        (one Forward m.nfa (match_kind_of m.config) (in_full input) reported.0 w.0 reported.1 w.1) ∙ sym w.2

    go : (input.earliest ≡ false) ⊎ (Skips m → ⊥) → (b : Bool) → input.earliest ≡ b → truth ≡ is_some o
    go (inl e) b early = full e
    go (inr whole) true early = part early whole
    go (inr whole) false late = full late

  pub truth_is_found : TruthIffFound
  truth_is_found p input truth None may reported f = front_truth p.forward input truth None may reported f
  truth_is_found p input truth (Some m) may reported f =
      front_truth p.forward input truth (Some f.half) may reported f.front
