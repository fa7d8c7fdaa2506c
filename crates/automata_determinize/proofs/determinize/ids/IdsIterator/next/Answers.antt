use Rattle.std.proofs.Common.{rules, arith, ◌≡◌, ℕ, ◌<◌, length, List, ◌∷◌, ap, sym, ◌∙◌, subst}
use Rattle.automata_determinize.specs.Powersets.Code.{AreIds, ids_of, numbers, id_at}
use Rattle.automata_base.specs.Powersets.Powerset.{IsId}
use Rattle.automata_determinize.proofs.Powersets.Code.Groups.{reads, nothing_left, fewer}
use Rattle.automata_determinize.proofs.determinize.ids.IdsIterator.next.Goals as goal

pub returns-then-is_empty-clause-steps : goal.returns-then-is_empty-clause-steps
returns-then-is_empty-clause-steps c =
    let l : length c.self.inside.rest.now ≡ 0 = search rules in
    let e = sym c.self.view_is ∙ nothing_left c.self.inside.before c.self.inside.rest.now l in
    (e, e)

pub number_in-difference-requires : goal.number_in-difference-requires
number_in-difference-requires c =
    let l : 0 < length c.self.inside.rest.now = search rules in
    let r = reads c.self.inside.before c.self.inside.rest.now c.self.invariant l in
    (r.number, r.tail, r.front)

pub id_from-id-requires-clause-bound : goal.id_from-id-requires-clause-bound
id_from-id-requires-clause-bound c =
    let l : 0 < length c.self.inside.rest.now = search rules in
    let r = reads c.self.inside.before c.self.inside.rest.now c.self.invariant l in
    let h = c.number_in-difference.ensures r.number r.tail r.front in
    omega (arith, h.0, r.front.1)

pub id_from-id-requires-clause-fits : goal.id_from-id-requires-clause-fits
id_from-id-requires-clause-fits c =
    let l : 0 < length c.self.inside.rest.now = search rules in
    let r = reads c.self.inside.before c.self.inside.rest.now c.self.invariant l in
    let h = c.number_in-difference.ensures r.number r.tail r.front in
    let i : IsId (id_at c.self.inside.before c.number_in-difference.result.0) =
    subst (λ (z : ℕ). IsId (id_at c.self.inside.before z)) (sym h.0) r.is_id in
    omega (arith, i)

pub invariant_of-self : goal.invariant_of-self
invariant_of-self c =
    let l : 0 < length c.self.inside.rest.now = search rules in
    let r = reads c.self.inside.before c.self.inside.rest.now c.self.invariant l in
    let h = c.number_in-difference.ensures r.number r.tail r.front in
    subst (λ (x : List ℕ). AreIds c.id_from-id.result x) (sym h.1)
    (subst (λ (x : ℕ). AreIds x r.tail) (sym (c.id_from-id.ensures ∙ ap (id_at c.self.inside.before) h.0)) r.left)

pub returns-clause-steps : goal.returns-clause-steps
returns-clause-steps c =
    let l : 0 < length c.self.inside.rest.now = search rules in
    let r = reads c.self.inside.before c.self.inside.rest.now c.self.invariant l in
    let h = c.number_in-difference.ensures r.number r.tail r.front in
    let i : c.id_from-id.result ≡ id_at c.self.inside.before r.number =
    c.id_from-id.ensures ∙ ap (id_at c.self.inside.before) h.0 in
    sym c.self.view_is ∙ r.items ∙ ap (λ (x : ℕ). x ∷ ids_of x (numbers r.tail)) (sym i)
    ∙ ap (λ (x : List ℕ). c.id_from-id.result ∷ ids_of c.id_from-id.result (numbers x)) (sym h.1)
    ∙ ap (λ (x : ℕ). x ∷ ids_of c.id_from-id.result (numbers c.number_in-difference.result.1.now))
    (sym c.new_unchecked.ensures)

pub returns-clause-goes : goal.returns-clause-goes
returns-clause-goes c = record {
  on = λ _. (search rules, search rules, fewer _ _ _ (returns-clause-steps c));
  keeps = search rules;
  rests = λ _. search rules;
}

pub new_unchecked-requires : goal.new_unchecked-requires
new_unchecked-requires c =
    let l : 0 < length c.self.inside.rest.now = search rules in
    let r = reads c.self.inside.before c.self.inside.rest.now c.self.invariant l in
    let h = c.number_in-difference.ensures r.number r.tail r.front in
    subst IsId (sym (c.id_from-id.ensures ∙ ap (id_at c.self.inside.before) h.0)) r.is_id
