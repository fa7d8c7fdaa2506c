use Rattle.std.proofs.Common.{◌≡◌, ◌∙◌, refl, subst, sym}
use Rattle.regex_automata.specs.Promises.{AreWalked, Forward, HasReported, Input, Walk}
use Rattle.examples.specs.Rules.{record_input}
use Rattle.examples.proofs.rules.matcher.RuleMatcher.first_match.Goals as goal

pub returns-clause-first : goal.returns-clause-first
returns-clause-first c = λ pairs walked.
    let m = c.args.self.now.dfa in
    let same : c.new-input.result ≡ record_input c.args.bytes.now = c.new-input.ensures.input in
    let begun =
    subst (λ (w : Walk). HasReported Forward m c.new-input.result w 0) (sym c.start-state.ensures) (refl, refl) in
    c.get_match.ensures
    ∙ ((c.in_ok-try_search_overlapping_fwd.ensures.call.reports 0 begun).1 pairs
    (subst (λ (i : Input). AreWalked Forward m i pairs) (sym same) walked)).0
