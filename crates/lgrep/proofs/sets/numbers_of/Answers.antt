use Rattle.std.proofs.Common.{◌≡◌, ℕ, List, ◌++◌, ◌∙◌, ap, sym, true}
use Rattle.std.specs.Prelude.{string_bytes}
use Rattle.std.proofs.lemmas.List.{append-nil}
use Rattle.automata_base.specs.Haystacks.PatternSet.{members}
use Rattle.lgrep.specs.Shown.{number_after, numbers_listed}
use Rattle.lgrep.proofs.Listing.{number_turn}
use Rattle.lgrep.proofs.sets.numbers_of.Goals as goal

pub loop-pattern-preserved : goal.loop-pattern-preserved
loop-pattern-preserved c =
    let l = c.loop-pattern in
    let more : string_bytes c.push_str.new.self ≡ string_bytes l.numbers ++ number_after l.is_first c.in-Some.pattern =
    c.in_ok-push_str.ensures.bytes
    ∙ ap (λ v. string_bytes l.numbers ++ v) (c.as_str.ensures.value ∙ c.in_ok-text.ensures) in
    number_turn (string_bytes l.numbers) (string_bytes c.push_str.new.self)
    (numbers_listed true (members c.args.set.now)) l.is_first
    c.in-Some.pattern c.next.new.self
    more
    (ap (λ (r : List ℕ). string_bytes l.numbers ++ numbers_listed l.is_first r) (sym c.in-Some.ensures.steps)
    ∙ l.invariant)

pub returns : goal.returns
returns c =
    let l = c.loop-pattern in
    sym (append-nil (string_bytes l.numbers))
    ∙ ap (λ (r : List ℕ). string_bytes l.numbers ++ numbers_listed l.is_first r) (sym c.in-None.ensures.steps.0)
    ∙ l.invariant
