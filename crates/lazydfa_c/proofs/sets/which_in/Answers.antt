use Rattle.std.proofs.Common.{◌∙◌, subst, sym}
use Rattle.lazydfa_c.specs.Calls.{OfInput, OfObject}
use Rattle.lazydfa_c.specs.Requests.{input_of}
use Rattle.lazydfa_c.specs.Sets.{Lists}
use Rattle.lazydfa_c.specs.declared.object.Object.{Object}
use Rattle.lazydfa_c.specs.declared.object.Object.TheVariants.{Searcher as CacheObject}
use Rattle.lazydfa_c.proofs.sets.which_in.Goals as goal

pub returns-in-Some-clause-lists : goal.returns-in-Some-clause-lists
returns-in-Some-clause-lists c =
    subst (λ (o : Object). OfObject (OfInput (Lists c.args.below c.args.out.now c.which.new.out c.which.new.count)
    (input_of c.args.haystack.now c.args.request.now)) o (CacheObject c.which.new.self) c.which.result)
    (sym c.in-Searcher.is)
    (subst (λ i. OfInput (Lists c.args.below c.args.out.now c.which.new.out c.which.new.count) i
    c.in-Searcher.searcher c.which.new.self c.which.result)
    (sym c.in-Some.is ∙ c.input.ensures) c.which.ensures)
