use Rattle.std.proofs.Common.{ℕ, suc, ◌+◌, ◌≡◌, ◌∙◌, arith, ap, length, map}
use Rattle.regex_hir.specs.Find as kit
use Rattle.meaning.specs.Patterns.{find_any, next_by, numbered_match}
use Rattle.meta.proofs.Found.{first_of, found_preferred, next_found, of_preferred}
use Rattle.meta.proofs.laws.matches_are_preferred.Goals as goal

pub returns-clause-found : goal.returns-clause-found
returns-clause-found c = λ options res hay start found e.
    of_preferred res hay (find_any options.utf8 res hay start) found
    (found_preferred options.utf8 res hay start) e

pub returns-clause-next : goal.returns-clause-next
returns-clause-next c = λ options res hay last found left.
    let search = find_any options.utf8 res hay in
    of_preferred res hay (next_by search last) found
    (λ m e. let from = next_found search last m e in found_preferred options.utf8 res hay from.0 m from.1)
    (first_of (numbered_match res hay) search (length hay) (next_by search last) found _
    (let one : suc (length hay) ≡ length hay + 1 = omega arith in
    ap (λ (n : ℕ). map (numbered_match res hay) (kit.matches_from search n (next_by search last))) one ∙ left))
