use Rattle.std.proofs.Common.{◌∙◌, subst, sym}
use Rattle.lazydfa_c.specs.Calls.{OfInput, OfObject}
use Rattle.lazydfa_c.specs.Requests.{input_of}
use Rattle.lazydfa_c.specs.Words.{FindsEndOf}
use Rattle.lazydfa_c.specs.declared.object.Object.{Object}
use Rattle.lazydfa_c.specs.declared.object.Object.TheVariants.{Searcher as CacheObject}
use Rattle.lazydfa_c.proofs.search.find_end_in.Goals as goal

pub returns-in-Some-clause-found : goal.returns-in-Some-clause-found
returns-in-Some-clause-found c =
    subst (λ (o : Object). OfObject (OfInput (FindsEndOf c.find_end.new.found)
    (input_of c.args.haystack.now c.args.request.now)) o (CacheObject c.find_end.new.self) c.find_end.result)
    (sym c.in-Searcher.is)
    (subst (λ i. OfInput (FindsEndOf c.find_end.new.found) i c.in-Searcher.searcher
    c.find_end.new.self c.find_end.result)
    (sym c.in-Some.is ∙ c.input.ensures) c.find_end.ensures.found)
