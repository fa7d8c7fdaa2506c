use Rattle.std.proofs.Common.{◌≡◌, ◌&&◌, true, false, sym, ap, ◌∙◌}
use Rattle.automata_config.specs.Options.{unicode_word_boundary_of}
use Rattle.automata_config.specs.Settling.{has_unicode_word}
use Rattle.automata_config.proofs.Refusing.{and-false, settled_as_set, settled_with_non_ascii}
use Rattle.automata_config.proofs.config.Config.settled_quits.Goals as goal

pub returns-then-not-has_unicode_word-clause-ok : goal.returns-then-not-has_unicode_word-clause-ok
returns-then-not-has_unicode_word-clause-ok c =
    let o = c.args.self.now in
    let a = c.args.nfa.now in
    let no_word : has_unicode_word a ≡ false = sym c.has_unicode_word.ensures ∙ c.if-not-has_unicode_word.true in
    settled_as_set o a c.quit_set-quits.result c.quit_set-quits.ensures.whole c.quit_set-quits.ensures.set
    (ap (λ z. z && unicode_word_boundary_of o) no_word)

pub returns-then-get_unicode_word_boundary-clause-ok : goal.returns-then-get_unicode_word_boundary-clause-ok
returns-then-get_unicode_word_boundary-clause-ok c =
    let o = c.args.self.now in
    let a = c.args.nfa.now in
    let word : has_unicode_word a ≡ true = sym c.has_unicode_word.ensures ∙ c.if-not-has_unicode_word.false in
    let heuristic : unicode_word_boundary_of o ≡ true =
    sym c.get_unicode_word_boundary.ensures ∙ c.if-get_unicode_word_boundary.true in
    settled_with_non_ascii o a c.quit_set-quits.result c.with_non_ascii.result
    c.with_non_ascii.ensures.whole c.quit_set-quits.ensures.set
    (ap (λ z. z && unicode_word_boundary_of o) word ∙ heuristic) c.with_non_ascii.ensures.set

pub returns-then-holds_non_ascii-clause-ok : goal.returns-then-holds_non_ascii-clause-ok
returns-then-holds_non_ascii-clause-ok c =
    let o = c.args.self.now in
    let a = c.args.nfa.now in
    let no_heuristic : unicode_word_boundary_of o ≡ false =
    sym c.get_unicode_word_boundary.ensures ∙ c.if-get_unicode_word_boundary.false in
    settled_as_set o a c.quit_set-quits.result c.quit_set-quits.ensures.whole c.quit_set-quits.ensures.set
    (ap (λ z. has_unicode_word a && z) no_heuristic ∙ and-false (has_unicode_word a))
