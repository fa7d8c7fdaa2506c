use Rattle.std.proofs.Common.{◌≡◌, ◌&&◌, false, not, nat_lt, sym, ap, ◌∙◌, arith, Some, max}
use Rattle.automata_base.specs.ByteClasses.Classes.{class_of}
use Rattle.automata_config.specs.Options.{skip_cache_capacity_check_of}
use Rattle.automata_config.specs.Settling.{capacity_for, is_unsupported, is_too_small}
use Rattle.automata_config.specs.declared.error.BuildError.TheVariants.{Unsupported, InsufficientStateIDCapacity}
use Rattle.automata_config.proofs.Refusing.{supported, refusal-offset, refusal-none}
use Rattle.automata_config.proofs.config.Config.settle.Goals as goal

pub returns-then-attempted-gt-GREATEST_OFFSET-clause-refused :
    goal.returns-then-attempted-gt-GREATEST_OFFSET-clause-refused
returns-then-attempted-gt-GREATEST_OFFSET-clause-refused c =
    let o = c.args.self.now in
    let a = c.args.nfa.now in
    let fine : is_unsupported o a ≡ false = supported (is_unsupported o a) Unsupported c.in_ok-quits.ensures.refused in
    let large : is_too_small o a ≡ false =
    ap (λ m. not (skip_cache_capacity_check_of o) && nat_lt (capacity_for o m) m) (sym c.minimum_for-minimum.ensures)
    ∙ (sym c.is_too_small_for.ensures ∙ c.if-is_too_small_for.false)
    in
    let offset = c.greatest_offset_for-attempted.ensures in
    ap (λ n. Some (InsufficientStateIDCapacity n)) offset
    ∙ sym (refusal-offset o a fine large (omega (arith, offset, c.if-attempted-gt-GREATEST_OFFSET.true)))

pub returns-clause-ok : goal.returns-clause-ok
returns-clause-ok c = record {
  quits = c.in_ok-quits.ensures.ok;
  classes = λ byte h.
      c.of-classes.ensures.same byte h
      ∙ ap (λ on. class_of c.args.nfa.now c.in_ok-quits.quits on byte) c.get_byte_classes.ensures;
  capacity =
      c.max.ensures
      ∙ (ap (λ n. max n c.minimum_for-minimum.result) c.capacity_for-given.ensures
      ∙ ap (λ n. max (capacity_for c.args.self.now n) n) c.minimum_for-minimum.ensures);
  offsets = omega (arith, c.greatest_offset_for-attempted.ensures, c.if-attempted-gt-GREATEST_OFFSET.false);
}

pub returns-clause-refused : goal.returns-clause-refused
returns-clause-refused c =
    let o = c.args.self.now in
    let a = c.args.nfa.now in
    let fine : is_unsupported o a ≡ false = supported (is_unsupported o a) Unsupported c.in_ok-quits.ensures.refused in
    let large : is_too_small o a ≡ false =
    ap (λ m. not (skip_cache_capacity_check_of o) && nat_lt (capacity_for o m) m) (sym c.minimum_for-minimum.ensures)
    ∙ (sym c.is_too_small_for.ensures ∙ c.if-is_too_small_for.false)
    in
    let offset = c.greatest_offset_for-attempted.ensures in
    sym (refusal-none o a fine large (omega (arith, offset, c.if-attempted-gt-GREATEST_OFFSET.false)))
