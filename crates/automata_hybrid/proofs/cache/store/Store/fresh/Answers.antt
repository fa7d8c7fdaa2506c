use Rattle.std.proofs.Common.{◌≡◌, ◌+◌, ◌*◌, ◌<◌, ◌≤◌, ◌∙◌, ap, sym, subst, List, ℕ}
use Rattle.automata_base.specs.ByteClasses.Classes.{stride_of}
use Rattle.automata_config.specs.Options.{starts_for_each_pattern_of}
use Rattle.automata_hybrid.proofs.Words.{eoi_class, IsTemplate, Machine, marked, minimum_capacity, offset_limit}
use Rattle.automata_hybrid.proofs.Words.{Settings, start_slots}
use Rattle.automata_hybrid.proofs.cache.store.Store.fresh.Goals as goal

stride_is : (c : goal.After-of) → c.stride-stride.result ≡ c.args.dfa.now.stride
stride_is c =
    c.stride-stride.ensures.number
    ∙ (ap stride_of c.byte_classes.ensures ∙ sym c.requires.sizes.stride)

slots_are : (c : goal.After-of) → c.start_slots-slots.result ≡ c.args.dfa.now.slots
slots_are c =
    c.start_slots-slots.ensures.number
    ∙ (ap (λ a. start_slots a c.get_starts_for_each_pattern.result) c.get_nfa-nfa.ensures
    ∙ (ap (start_slots c.args.dfa.now.nfa)
    (c.get_starts_for_each_pattern.ensures ∙ ap starts_for_each_pattern_of c.get_config.ensures)
    ∙ sym c.requires.sizes.slots))

row_is : (c : goal.After-of) → c.in_ok-template.template.items ≡ c.args.dfa.now.template
row_is c =
    c.in_ok-template.ensures
    ∙ (ap (λ classes. marked classes c.quit_set.result.now c.stride-stride.result 256) c.byte_classes-2.ensures
    ∙ (ap (λ quits. marked c.args.dfa.now.classes quits c.stride-stride.result 256) c.quit_set.ensures
    ∙ (ap (λ n. marked c.args.dfa.now.classes c.args.dfa.now.quits n 256) (stride_is c)
    ∙ sym c.requires.sizes.template)))

pub new_row-requires-clause-classes : goal.new_row-requires-clause-classes
new_row-requires-clause-classes c =
    let stride : c.stride-stride.result ≡ c.args.dfa.now.stride =
    c.stride-stride.ensures.number
    ∙ (ap stride_of c.byte_classes.ensures ∙ sym c.requires.sizes.stride) in
    subst (λ classes. eoi_class classes < c.stride-stride.result) (sym c.byte_classes-2.ensures)
    (subst (λ n. eoi_class c.args.dfa.now.classes < n) (sym stride) c.requires.below)

pub new-requires-clause-whole : goal.new-requires-clause-whole
new-requires-clause-whole c =
    subst (λ n. IsTemplate n c.in_ok-template.template.items) (sym (stride_is c))
    (subst (λ (xs : List ℕ). IsTemplate c.args.dfa.now.stride xs) (sym (row_is c))
    c.requires.template)

pub new-requires-clause-stride : goal.new-requires-clause-stride
new-requires-clause-stride c = stride_is c

pub new-requires-clause-template : goal.new-requires-clause-template
new-requires-clause-template c = row_is c

pub new-requires-clause-slots : goal.new-requires-clause-slots
new-requires-clause-slots c = slots_are c

pub new-requires-clause-enough : goal.new-requires-clause-enough
new-requires-clause-enough c =
    let m : Machine = c.args.dfa.now in
    let given : minimum_capacity c.stride-stride.result c.start_slots-slots.result m.greatest m.fixed ≤ m.capacity =
    subst (λ s. minimum_capacity s c.start_slots-slots.result m.greatest m.fixed ≤ m.capacity) (sym (stride_is c))
    (subst (λ k. minimum_capacity m.stride k m.greatest m.fixed ≤ m.capacity) (sym (slots_are c))
    c.requires.enough) in
    subst (λ (s : Settings). minimum_capacity c.stride-stride.result c.start_slots-slots.result m.greatest s.fixed
    ≤ s.capacity) (sym c.of.ensures) given

pub new-requires-clause-offsets : goal.new-requires-clause-offsets
new-requires-clause-offsets c =
    let m : Machine = c.args.dfa.now in
    subst (λ s. (c.start_slots-slots.result + 4) * s < offset_limit) (sym (stride_is c))
    (subst (λ k. (k + 4) * m.stride < offset_limit) (sym (slots_are c)) c.requires.offsets)
