use Rattle.std.proofs.Common.{ℕ, ◌∙◌, Bool, false, ap, arith, map}
use Rattle.std.specs.Prelude.{replicate}
use Rattle.meaning.specs.Patterns.{is_found}
use Rattle.meta.specs.Sets.{is_found_from, joined_with}
use Rattle.meta.proofs.Joining.{count_all, joined_empty}
use Rattle.meta.proofs.set.RegexSet.simulate.Goals as goal

pub returns-clause-found : goal.returns-clause-found
returns-clause-found c = λ o res is.
    let programs = c.args.self.now.programs in
    let test = is_found_from programs.utf8 c.args.hay.now 0 in
    c.which.ensures.found res is.programs
    ∙ ap (joined_with test res)
    (c.in_ok-found.ensures.capacity
    ∙ ap (λ (n : ℕ). replicate n false)
    (omega (arith, c.len.ensures, programs.list.ok.0, count_all programs.list.items res is.programs)))
    ∙ joined_empty test res
    ∙ ap (λ (utf8 : Bool). map (is_found utf8 c.args.hay.now) res) is.text
