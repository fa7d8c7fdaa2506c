use Rattle.std.proofs.Common.{List, ℕ, ◌++◌, ap, ◌∙◌, subst, sym}
use Rattle.automata_base.specs.Nfas.KeptClosure.{IsRestCode}
use Rattle.automata_determinize.proofs.Powersets.Endings.{pushed_parts, ids_of_pushed}
use Rattle.automata_determinize.proofs.determinize.write.push_with.Goals as goal

pub returns-in_ok-extend_from_slice-in-Some-clause-ok : goal.returns-in_ok-extend_from_slice-in-Some-clause-ok
returns-in_ok-extend_from_slice-in-Some-clause-ok c =
    let code = c.args.closure.now.code.items in
    pushed_parts c.args.ids.now c.as_slice-part.result.now code c.args.out.now.items c.push_ids.new.out.items
    c.extend_from_slice.new.self.items
    c.push_ids-in-Some.new.out.items c.in-Some.start c.index-ids-end.result c.as_u32.result c.push_ids-in-Some.result
    (subst (λ (z : List ℕ). IsRestCode z code) (sym c.as_slice-part.ensures.value) c.requires)
    c.in-Some.ensures.0 c.in-Some.ensures.1 c.index-ids-end.is c.as_u32.ensures.value
    c.in_ok-push_ids-in-Some.ensures.ok
    (c.in_ok-extend_from_slice-in-Some.ensures.items
    ∙ ap (λ (z : List ℕ). c.push_ids.new.out.items ++ z) c.as_slice.ensures.value)
    c.push_ids-in-Some.ensures.ok

pub returns-in_ok-extend_from_slice-in-Some-clause-ids : goal.returns-in_ok-extend_from_slice-in-Some-clause-ids
returns-in_ok-extend_from_slice-in-Some-clause-ids c =
    let code = c.args.closure.now.code.items in
    ids_of_pushed c.args.ids.now c.as_slice-part.result.now code c.in-Some.start c.push_ids-in-Some.result
    (subst (λ (z : List ℕ). IsRestCode z code) (sym c.as_slice-part.ensures.value) c.requires)
    c.in-Some.ensures.0 c.in-Some.ensures.1 c.in_ok-push_ids-in-Some.ensures.ids c.push_ids-in-Some.ensures.ids
