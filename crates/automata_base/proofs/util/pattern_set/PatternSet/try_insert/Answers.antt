use Rattle.std.proofs.Common.{◌≡◌, ◌<◌, false, get_or, length, sym, ◌∙◌, arith}
use Rattle.std.proofs.lemmas.Grind.{common_steps}
use Rattle.std.proofs.lemmas.List.{get_or_read}
use Rattle.automata_base.proofs.ByteClasses.PatternsInSets.{set_counted, few_more}
use Rattle.automata_base.proofs.util.pattern_set.PatternSet.try_insert.Goals as goal

pub overflow_add-self : goal.overflow_add-self
overflow_add-self c =
    let within : c.as_usize-index.result < length c.self.inside.which.items = grind (arith, common_steps) in
    let absent : get_or c.self.inside.which.items c.as_usize-index.result false ≡ false =
    sym (get_or_read c.self.inside.which.items _ _ within c.index.ensures false) ∙ c.if-index.false
    in
    let few = few_more c.self.inside.which.items c.as_usize-index.result within absent in
    grind (arith, common_steps, few)

pub invariant_of-self : goal.invariant_of-self
invariant_of-self c =
    let within : c.as_usize-index.result < length c.self.inside.which.items = grind (arith, common_steps) in
    let absent : get_or c.self.inside.which.items c.as_usize-index.result false ≡ false =
    sym (get_or_read c.self.inside.which.items _ _ within c.index.ensures false) ∙ c.if-index.false
    in
    set_counted c.self.inside.which.items c.as_usize-index.result c.self.inside.len c.as_usize-index.ensures.bound
    within absent c.self.invariant
