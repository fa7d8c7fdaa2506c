use Rattle.meaning.specs.Patterns.{find_any}
use Rattle.meta.proofs.Found.{found_preferred, holds_found}
use Rattle.meta.proofs.regexes.Regex.captures_at.Goals as goal

pub returns-clause-groups : goal.returns-clause-groups
returns-clause-groups c = λ o res is text.
    let hay = c.args.hay.now in
    holds_found res hay (find_any o.utf8 res hay c.args.start) c.in-Some.found c.groups_of.new.captures
    (found_preferred o.utf8 res hay c.args.start) (c.in-Some.ensures.found o res is text)
    (λ m preferred same. c.groups_of.ensures.groups res m is.programs preferred same)
