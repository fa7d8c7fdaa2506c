use Rattle.std.proofs.Common.{◌∙◌, subst, sym}
use Rattle.lazydfa_c.specs.Calls.{OfInput, OfObject}
use Rattle.lazydfa_c.specs.Requests.{input_of}
use Rattle.lazydfa_c.specs.Words.{TestsFor}
use Rattle.lazydfa_c.specs.declared.object.Object.{Object}
use Rattle.lazydfa_c.specs.declared.object.Object.TheVariants.{Searcher as CacheObject}
use Rattle.lazydfa_c.proofs.search.is_match_in.Goals as goal

pub returns-in-Some : goal.returns-in-Some
returns-in-Some c =
    subst (λ (o : Object). OfObject (OfInput TestsFor
    (input_of c.args.haystack.now c.args.request.now)) o (CacheObject c.is_match.new.self) c.is_match.result)
    (sym c.in-Searcher.is)
    (subst (λ i. OfInput TestsFor i c.in-Searcher.searcher c.is_match.new.self c.is_match.result)
    (sym c.in-Some.is ∙ c.input.ensures) c.is_match.ensures)
