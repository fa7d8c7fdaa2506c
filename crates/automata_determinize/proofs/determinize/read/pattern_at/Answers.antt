use Rattle.std.proofs.Common.{subst}
use Rattle.std.proofs.lemmas.List.Elements.{All-from_recursion}
use Rattle.automata_base.specs.Powersets.Powerset.{IsId}
use Rattle.automata_determinize.specs.Powersets.Code.{patterns_of}
use Rattle.std.proofs.Common.{arith, sym, ◌∙◌}
use Rattle.automata_determinize.proofs.Powersets.Code.Reading.{whole, pattern-listed}
use Rattle.automata_determinize.proofs.determinize.read.pattern_at.Goals as goal

pub overflow_mul-index : goal.overflow_mul-index
overflow_mul-index c =
    let w = whole c.args.bytes.now c.requires.code (sym c.lists_patterns.ensures ∙ c.if-lists_patterns.true) in
    omega (arith, w.few, c.requires.index_in)

pub overflow_add-index : goal.overflow_add-index
overflow_add-index c =
    let w = whole c.args.bytes.now c.requires.code (sym c.lists_patterns.ensures ∙ c.if-lists_patterns.true) in
    omega (arith, w.few, c.requires.index_in)

pub u32_at-requires : goal.u32_at-requires
u32_at-requires c =
    let w = whole c.args.bytes.now c.requires.code (sym c.lists_patterns.ensures ∙ c.if-lists_patterns.true) in
    omega (arith, w.room, c.requires.index_in)

pub new_unchecked-requires : goal.new_unchecked-requires
new_unchecked-requires c =
    let e =
    c.u32_at.ensures
    ∙ sym (pattern-listed c.args.bytes.now c.args.index c.requires.code
    (sym c.lists_patterns.ensures ∙ c.if-lists_patterns.true) c.requires.index_in) in
    subst IsId (sym e)
    (All-from_recursion IsId (patterns_of c.args.bytes.now) c.requires.code.state.patterns c.args.index 0
    c.requires.index_in)

pub returns-then-lists_patterns : goal.returns-then-lists_patterns
returns-then-lists_patterns c =
    c.new_unchecked.ensures ∙ c.u32_at.ensures
    ∙ sym (pattern-listed c.args.bytes.now c.args.index c.requires.code
    (sym c.lists_patterns.ensures ∙ c.if-lists_patterns.true) c.requires.index_in)
