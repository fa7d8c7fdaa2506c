use Rattle.std.proofs.Common.{◌≡◌, ◌&&◌, ◌<◌, subst, true, ap, ◌∙◌}
use Rattle.automata_base.specs.Lists.{pick, In}
use Rattle.automata_base.specs.Haystacks.Looks.{is_byte, is_word, first_half}
use Rattle.automata_base.specs.Nfas.Nfa.{keep, any_node}
use Rattle.automata_base.specs.Retraced.Computed.{any_state}
use Rattle.automata_determinize.specs.Retraced.Computed.{is_full}
use Rattle.automata_base.specs.Powersets.Passes.{is_word_look, is_crlf_look}
use Rattle.automata_base.specs.Nfas.Nodes.{nfa_of}
use Rattle.automata_base.specs.Haystacks.LookSets.{truth_of}
use Rattle.automata_base.proofs.Powersets.Keeping.{kept_in}
use Rattle.automata_determinize.proofs.Powersets.Making.{made, some_state}
use Rattle.automata_determinize.proofs.determinize.construct.fill.Goals as goal

pub returns-clause-make : goal.returns-clause-make
returns-clause-make c =
    let full : c.has_any-full.result ≡ is_full c.keep_set-needed.new.kept.items =
    c.has_any-full.ensures ∙ ap is_full c.as_slice-2.ensures.value in
    made (nfa_of c.args.nfa.now) c.args.parts.now.patterns.items c.args.set.now.items c.keep_set-needed.new.kept.items
    c.args.prev
    c.bits-parts-2.result c.bits-parts.result c.is_after_word-parts.result c.is_half_way-parts.result
    c.bits-parts-2.ensures.small c.bits-parts.ensures.small
    (c.keep_set-needed.ensures.kept ∙ ap (pick (keep (nfa_of c.args.nfa.now))) c.as_slice.ensures.items)
    (λ look. ap (λ v. truth_of v look) c.bits-parts-2.ensures.value ∙ (c.pick_known-known.ensures look
    ∙ (ap (λ b. b && truth_of c.args.known look)
    (some_state (nfa_of c.args.nfa.now) c.keep_set-needed.new.kept.items c.keep_set-needed.result c.has_some-some.result
    c.keep_set-needed.ensures.looks c.has_some-some.ensures.some c.has_some-some.ensures.none)
    ∙ ap (λ b. any_state (λ other. true) (nfa_of c.args.nfa.now) c.keep_set-needed.new.kept.items && b)
    (c.requires.known look))))
    (λ look. ap (λ v. truth_of v look) c.bits-parts.ensures.value ∙ c.keep_set-needed.ensures.looks look)
    (c.is_after_word-parts.ensures
    ∙ ap (λ b. b && any_node is_word_look (nfa_of c.args.nfa.now).nodes && is_word c.args.prev) full)
    (c.is_half_way-parts.ensures
    ∙ ap (λ b. b && any_node is_crlf_look (nfa_of c.args.nfa.now).nodes
    && is_byte (first_half c.args.nfa.now.flags.reverse) c.args.prev) full)

pub keep_set-needed-requires-clause-below : goal.keep_set-needed-requires-clause-below
keep_set-needed-requires-clause-below c = λ q i.
    subst (λ z. q < z) c.requires.whole (c.as_slice.ensures.below q (subst (λ z. In q z) c.as_slice.ensures.items i))

pub returns-clause-below : goal.returns-clause-below
returns-clause-below c = λ q i.
    subst (λ z. q < z) c.requires.whole (c.as_slice.ensures.below q (subst (λ z. In q z) c.as_slice.ensures.items
    (kept_in (nfa_of c.args.nfa.now) c.as_slice.result.now q (subst (λ z. In q z) c.keep_set-needed.ensures.kept i))))
