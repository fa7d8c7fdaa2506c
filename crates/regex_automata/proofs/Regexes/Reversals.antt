-- A regex that is built from an NFA that passes the tests, and from its reversal, is a sound pair.
use Rattle.std.proofs.Common.{◌≡◌, ◌∙◌, Bool, Some, ap, sym, subst}
use Rattle.std.specs.Prelude.{◌==◌, if◌then◌else◌}
use Rattle.automata_base.specs.declared.util.search.MatchKind.{MatchKind}
use Rattle.automata_base.specs.declared.util.search.MatchKind.TheVariants.{All}
use Rattle.automata_base.specs.Nfas.Engines.{engine_of}
use Rattle.automata_base.specs.Nfas.Nodes.{Automaton, nfa_of}
use Rattle.automata_base.specs.Paths.Paths.{KeepsCycles}
use Rattle.automata_base.specs.declared.util.search.Direction.TheVariants.{Forward}
use Rattle.automata_base.specs.Nfas.Unions.{IsKeepingUnions}
use Rattle.automata_base.specs.Answers.TruePairs.{IsTruePair, KeepsUtf8}
use Rattle.automata_base.proofs.Answers.KeptUnions.{pair_with, utf8_with}
use Rattle.automata_config.specs.Options.{Options, match_kind_of}
use Rattle.automata_config.specs.Settling.{settling_error}
use Rattle.automata_config.specs.declared.error.BuildError.{BuildError}
use Rattle.automata_config.specs.declared.error.BuildError.TheVariants.{PatternCounts}
use Rattle.automata_config.proofs.KeptUnions.{settling_with}
use Rattle.automata_hybrid.specs.Machines.Machine.{Machine, engine}
use Rattle.regex_automata.specs.declared.hybrid.regex.Regex.{Regex}
use Rattle.regex_automata.specs.Regexes.Builds.{BuildsPair, backward, error_of_two, pair_error, pattern_count}
use Rattle.regex_automata.specs.Regexes.SoundPairs.{IsSoundPair, forward_engine, reverse_engine}

module _ (o : Options) (a b : Automaton) (p : Regex) (built : BuildsPair o a b p) where
  pair_is :
      ((kind : MatchKind) → IsTruePair (engine_of a kind) (engine_of b All))
      → IsTruePair (forward_engine p) (reverse_engine p)
  pair_is f =
      subst (λ (m : Machine). IsTruePair (engine m) (reverse_engine p)) (sym built.0.2)
      (subst (λ (m : Machine). IsTruePair (engine_of a (match_kind_of o)) (engine m)) (sym built.1.2)
      (f (match_kind_of o)))

  sound_is :
      ((kind : MatchKind) → IsTruePair (engine_of a kind) (engine_of b All))
      → ((kind : MatchKind) → KeepsUtf8 Forward (engine_of a kind)) → KeepsCycles (nfa_of a) → IsSoundPair p
  sound_is f utf8 cycles = record {
    cycles = subst (λ (m : Machine). KeepsCycles (nfa_of m.nfa)) (sym built.0.2) cycles;
    pair = pair_is f;
    utf8 =
        subst (λ (m : Machine). KeepsUtf8 Forward (engine m)) (sym built.0.2)
        (utf8 (match_kind_of o));
  }

-- what the tests say of an NFA holds for the NFA that keeps unions
module _ (o : Options) (a kept b : Automaton) (keeping : IsKeepingUnions a kept) where
  pub sound_of :
      (p : Regex) → BuildsPair o kept b p
      → ((kind : MatchKind) → IsTruePair (engine_of a kind) (engine_of b All))
      → ((kind : MatchKind) → KeepsUtf8 Forward (engine_of a kind)) → KeepsCycles (nfa_of kept) → IsSoundPair p
  sound_of p built f utf8 cycles = sound_is o kept b p built
      (λ kind.
      subst (λ (k : Automaton). IsTruePair (engine_of k kind) (engine_of b All)) (sym keeping.0)
      (pair_with a kind a.keeps_unions kept.keeps_unions (engine_of b All) (f kind)))
      (λ kind.
      subst (λ (k : Automaton). KeepsUtf8 Forward (engine_of k kind)) (sym keeping.0)
      (utf8_with a kind a.keeps_unions kept.keeps_unions Forward (utf8 kind))) cycles

  refusal_with : (v : Bool) → pair_error o (record a { keeps_unions = v }) b ≡ pair_error o a b
  refusal_with v =
      ap (λ r. if pattern_count a == pattern_count b then error_of_two r (settling_error (backward o) b)
      else Some (PatternCounts (pattern_count a) (pattern_count b))) (settling_with o a v)

  pub refused_of : (e : BuildError) → pair_error o kept b ≡ Some e → pair_error o a b ≡ Some e
  refused_of e refused =
      sym (subst (λ (k : Automaton). pair_error o k b ≡ pair_error o a b) (sym keeping.0)
      (refusal_with kept.keeps_unions))
      ∙ refused
