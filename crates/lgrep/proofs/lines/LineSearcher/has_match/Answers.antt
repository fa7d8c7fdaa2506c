use Rattle.std.proofs.Common.{◌≡◌, ◌∙◌, ℕ, Bool, true, false, List, Option, None, Some, ap, subst, sym}
use Rattle.std.specs.Prelude.{◌↔◌, IsTrue, is_some}
use Rattle.regex_hir.specs.Re.{Re}
use Rattle.regex_automata.specs.Promises.{Forward, Half, HalfMatch, Input, IsAnswer, IsHaystack, LeftmostFirst, Machine}
use Rattle.regex_automata.specs.Promises.{WithoutBase, engine_of, nfa_of, without_base, engine}
use Rattle.meaning.specs.Patterns.{HasPart}
use Rattle.meaning.proofs.Matching.{part_of_answer}
use Rattle.meaning.proofs.Options.{some_map}
use Rattle.patterns.proofs.Searching.{looks_same}
use Rattle.lgrep.specs.Lines.{HasMatch, IsSearcherFor, whole_line}
use Rattle.lgrep.proofs.lines.LineSearcher.has_match.Goals as goal

decides :
    (m : Machine) (line : List ℕ) (found : Option HalfMatch) (has : Bool)
    → ((a b : Option Half) → IsAnswer Forward (engine m) (whole_line line) a
    → IsAnswer Forward (engine m) (whole_line line) b → a ≡ b)
    → WithoutBase (IsAnswer Forward (engine m) (whole_line line)) found
    → has ≡ is_some found → IsTrue has ↔ HasMatch m line
decides m line None has one (None, a, e) said =
    (λ t. absurd (true_false (sym t ∙ said)), λ h. absurd (none_some (one None (Some h.half) a h.answer))) where
      true_false : true ≡ false → ⊥
      true_false h = cc

      none_some : {h : Half} → ◌≡◌ {A = Option Half} None (Some h) → ⊥
      none_some h = cc
decides m line None has one (Some half, a, e) said = absurd (cc)
decides m line (Some half) has one (None, a, e) said = absurd (cc)
decides m line (Some found) has one (Some half, a, e) said = (λ t. record { half = half; answer = a }, λ h. said)

-- whether a line has a match, by the meaning of the patterns' texts
tells :
    (m : Machine) (line : List ℕ) (found : Option HalfMatch) (truth case_insensitive : Bool) (res : List Re)
    → IsSearcherFor case_insensitive res m
    → IsHaystack line → WithoutBase (IsAnswer Forward (engine m) (whole_line line)) found
    → truth ≡ is_some found → IsTrue truth ↔ HasPart res line
tells m line found truth case_insensitive res is bytes (answer, a, e) t =
    let made = is.0 in
    let own : IsAnswer Forward (engine_of m.nfa LeftmostFirst) (whole_line line) answer =
    subst (λ d. IsAnswer Forward d (whole_line line) answer) (ap (engine_of m.nfa) is.1) a in
    part_of_answer made.ks res made.nfas.0 line (looks_same false line (λ f. absurd (cc)) made.ks made.nfas.1) bytes
    true answer
    (subst (λ d. IsAnswer Forward d (whole_line line) answer) made.joins
    (((made.answers.alike LeftmostFirst).searches.answer Forward (whole_line line) answer bytes).1 own)) truth
    (t ∙ ap is_some e ∙ some_map without_base answer)

pub returns-clause-meant : goal.returns-clause-meant
returns-clause-meant c = λ case_insensitive res is.
    let same : c.earliest-input.result ≡ whole_line c.args.line.now =
    c.earliest-input.ensures ∙ ap (λ (i : Input). record i { earliest = true }) c.new.ensures.input in
    tells c.args.self.now.dfa c.args.line.now c.in_ok-found.found c.is_some.result case_insensitive res is
    (subst (λ (i : Input). IsHaystack i.haystack) c.new.ensures.input c.new.ensures.valid.bytes)
    (subst (λ i. WithoutBase (IsAnswer Forward (engine c.args.self.now.dfa) i) c.in_ok-found.found)
    same (c.in_ok-found.ensures.half.answer
    (c.cycles_are_kept.ensures.acyclic (nfa_of c.args.self.now.dfa.nfa) c.args.self.now.ordered)))
    c.is_some.ensures

pub returns-clause-found : goal.returns-clause-found
returns-clause-found c =
    let same : c.earliest-input.result ≡ whole_line c.args.line.now =
    c.earliest-input.ensures ∙ ap (λ (i : Input). record i { earliest = true }) c.new.ensures.input in
    decides c.args.self.now.dfa c.args.line.now c.in_ok-found.found c.is_some.result
    (c.start_is_right.ensures.one.answer Forward (engine c.args.self.now.dfa) (whole_line c.args.line.now))
    (subst (λ i. WithoutBase (IsAnswer Forward (engine c.args.self.now.dfa) i) c.in_ok-found.found)
    same (c.in_ok-found.ensures.half.answer
    (c.cycles_are_kept.ensures.acyclic (nfa_of c.args.self.now.dfa.nfa) c.args.self.now.ordered)))
    c.is_some.ensures
