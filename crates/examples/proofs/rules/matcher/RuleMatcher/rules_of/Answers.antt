use Rattle.std.proofs.Common.{◌≡◌, ◌∙◌, ◌<◌, ◌⊎◌, arith, ℕ, Bool, false, List, [], length, inl, inr, refl, ap, subst}
use Rattle.std.proofs.Common.{sym}
use Rattle.std.specs.Prelude.{◌↔◌}
use Rattle.std.proofs.lemmas.List.{length-replicate}
use Rattle.regex_automata.specs.Promises.{In, Input, IsHaystack, JoinsReported, KindAll, Machine, SetsHaveMatching}
use Rattle.regex_automata.specs.Promises.{match_kind_of, members}
use Rattle.examples.specs.Rules.{IsNamed, Matches, record_input}
use Rattle.examples.proofs.rules.matcher.RuleMatcher.rules_of.Goals as goal

-- a set that was empty, with room for each rule, has exactly the rules that match
names :
    (m : Machine) (bytes : List ℕ) (old new : List Bool)
    → SetsHaveMatching m → match_kind_of m.config ≡ KindAll → IsHaystack bytes → members old ≡ []
    → length old ≡ length m.nfa.start_pattern → JoinsReported m (record_input bytes) old new → IsNamed m bytes new
names m bytes old new law kind haystack empty room which = record { rules = λ rule. (there rule, back rule) } where
  said : (rule : ℕ) → In rule (members new) ↔ (In rule (members old) ⊎ ((rule < length old) × Matches m bytes rule))
  said rule =
      law.sets (record_input bytes) m.nfa.start_unanchored old new kind refl refl (haystack, omega arith) (omega arith)
      which rule

  own : (rule : ℕ) → Matches m bytes rule → rule < length m.nfa.start_pattern
  own rule h =
      law.own (record_input bytes) m.nfa.start_unanchored rule refl (haystack, omega arith) (omega arith) h

  matches : (rule : ℕ) → In rule (members old) ⊎ ((rule < length old) × Matches m bytes rule) → Matches m bytes rule
  matches rule (inl h) = absurd (subst (In rule) empty h)
  matches rule (inr (l, h)) = h

  there : (rule : ℕ) → In rule (members new) → Matches m bytes rule
  there rule h = matches rule ((said rule).0 h)

  back : (rule : ℕ) → Matches m bytes rule → In rule (members new)
  back rule h = (said rule).1 (inr (subst (λ n. rule < n) (sym room) (own rule h), h))

pub returns-clause-named : goal.returns-clause-named
returns-clause-named c =
    let same : c.new-input.result ≡ record_input c.args.bytes.now = c.new-input.ensures.input in
    names c.args.self.now.dfa c.args.bytes.now c.in_ok-found.found c.try_which_overlapping_matches.new.patset
    c.sets_have_matching.ensures
    c.args.self.now.all (subst (λ (i : Input). IsHaystack i.haystack) same c.new-input.ensures.valid.bytes)
    c.in_ok-found.ensures.empty
    (ap length c.in_ok-found.ensures.capacity ∙ (length-replicate c.pattern_len.result false ∙ c.pattern_len.ensures))
    (subst (λ i. JoinsReported c.args.self.now.dfa i c.in_ok-found.found c.try_which_overlapping_matches.new.patset)
    same
    c.in_ok-try_which_overlapping_matches.ensures.found)
