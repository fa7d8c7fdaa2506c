use Rattle.std.proofs.Common.{ℕ, List, ◌≡◌, ◌<◌, ◌≤◌, ◌↔◌, length, refl, sym, ap, ◌∙◌, subst, arith}
use Rattle.automata_base.specs.declared.nfa.thompson.reach.Edges.TheVariants.{Every}
use Rattle.automata_base.specs.declared.nfa.thompson.state.State.{State}
use Rattle.automata_base.specs.Lists.{In}
use Rattle.automata_base.specs.Retraced.Reach.{IsReached}
use Rattle.automata_base.specs.Nfas.Nodes.{nodes_of}
use Rattle.automata_base.proofs.Powersets.Walking.{nodes_length}
use Rattle.automata_transform.proofs.Nfas.Mirrors.Copies.{reached_closed, reached_roots, id_length}
use Rattle.automata_transform.proofs.Nfas.Mirrors.Fits.{copied_length, part_added}
use Rattle.automata_transform.proofs.copies.add_part.Goals as goal

pub add_copies-requires-clause-closed : goal.add_copies-requires-clause-closed
add_copies-requires-clause-closed c =
    let reached =
    subst (λ (z : List State). (q : ℕ) → In q c.walk.new.set.items ↔ IsReached Every z c.args.roots.now q)
    c.as_slice.ensures.value c.walk.ensures.reached in
    reached_closed Every c.args.turned.now.items c.args.roots.now c.walk.new.set.items reached

pub copy_ids-requires-clause-members : goal.copy_ids-requires-clause-members
copy_ids-requires-clause-members c =
    let reached =
    subst (λ (z : List State). (q : ℕ) → In q c.walk.new.set.items ↔ IsReached Every z c.args.roots.now q)
    c.as_slice.ensures.value c.walk.ensures.reached in
    reached_roots Every c.args.turned.now.items c.args.roots.now c.walk.new.set.items reached

pub overflow_cast-len : goal.overflow_cast-len
overflow_cast-len c =
    let long =
    copied_length c.args.parts.now.states.items c.add_copies.new.out.items _ c.args.pattern c.args.turned.now.items
    c.walk.new.set.items c.in_ok-add_copies.ensures.copied in
    let base = c.in-Some.ensures.some c.in-Some.base refl in
    let same : length c.deref.result.now ≡ length c.args.parts.now.states.items =
    ap (λ z. length z) c.deref.ensures.value in
    omega (arith, long, base.0, base.1, same, c.len.ensures, c.add_copies.new.out.ok.0)

pub new_unchecked-entry-requires : goal.new_unchecked-entry-requires
new_unchecked-entry-requires c =
    let long =
    copied_length c.args.parts.now.states.items c.add_copies.new.out.items _ c.args.pattern c.args.turned.now.items
    c.walk.new.set.items c.in_ok-add_copies.ensures.copied in
    let base = c.in-Some.ensures.some c.in-Some.base refl in
    let same : length c.deref.result.now ≡ length c.args.parts.now.states.items =
    ap (λ z. length z) c.deref.ensures.value in
    omega (arith, long, base.0, base.1, same, c.len.ensures, c.add_copies.new.out.ok.0)

pub returns-clause-part : goal.returns-clause-part
returns-clause-part c =
    let reached =
    subst (λ (z : List State). (q : ℕ) → In q c.walk.new.set.items ↔ IsReached Every z c.args.roots.now q)
    c.as_slice.ensures.value c.walk.ensures.reached in
    let capacity = c.walk.ensures.capacity ∙ ap (λ z. length z) c.as_slice.ensures.value in
    let base = c.in-Some.ensures.some c.in-Some.base refl in
    let same : length c.deref.result.now ≡ length c.args.parts.now.states.items =
    ap (λ z. length z) c.deref.ensures.value in (
      c.new_unchecked-entry.result,
      c.in_ok-push_id.ensures,
      (
        c.walk.new.set.items,
        part_added (nodes_of c.args.parts.now.states.items) (nodes_of c.add_copies.new.out.items)
            (nodes_of c.push_state.new.states.items)
            c.args.turned.now.items c.args.roots.now c.walk.new.set.items c.in_ok-alternates.alternates.items
            c.args.pattern
            c.in-Some.base c.new_unchecked-entry.result reached c.in-Some.ensures.distinct
            (λ q i. subst (λ z. q < z) capacity (c.in-Some.ensures.below q i))
            (subst (λ z. length c.walk.new.set.items ≤ z) capacity c.in-Some.ensures.few)
            (base.0 ∙ (same ∙ sym (nodes_length c.args.parts.now.states.items)))
            c.in_ok-add_copies.ensures.copied
            (id_length c.len.result c.len.result c.new_unchecked-entry.result c.add_copies.new.out.items
            (c.len.ensures ∙ c.add_copies.new.out.ok.0) refl c.new_unchecked-entry.ensures)
            c.in_ok-alternates.ensures c.in_ok-push_state.ensures.nodes,
      ),
    )
