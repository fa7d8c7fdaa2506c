use Rattle.std.proofs.Common.{◌∷◌, [], ◌++◌, not, cond, sym, ap, ◌∙◌, subst, append-nil}
use Rattle.automata_base.specs.Powersets.Members.{AreMarks}
use Rattle.automata_determinize.proofs.Powersets.Marks.{marks_next}
use Rattle.automata_determinize.proofs.determinize.lists.add_pattern.Goals as goal

pub is_new-requires : goal.is_new-requires
is_new-requires c = subst (λ z. AreMarks z c.args.marks.now) (sym c.as_slice.ensures.value) c.requires.marks

pub returns-then-is_new-clause-marks : goal.returns-then-is_new-clause-marks
returns-then-is_new-clause-marks c =
    marks_next c.args.p c.args.patterns.now.items c.as_slice.result.now c.push_reserved.new.self.items
    c.is_new.new.marks c.is_new.result
    c.as_slice.ensures.value c.is_new.ensures.new c.is_new.ensures.marks
    (c.push_reserved.ensures.items
    ∙ ap (λ b. c.args.patterns.now.items ++ cond (not b) [] (c.args.p ∷ [])) (sym c.if-is_new.true))

pub returns-else-is_new-clause-marks : goal.returns-else-is_new-clause-marks
returns-else-is_new-clause-marks c =
    marks_next c.args.p c.args.patterns.now.items c.as_slice.result.now c.args.patterns.now.items c.is_new.new.marks
    c.is_new.result
    c.as_slice.ensures.value c.is_new.ensures.new c.is_new.ensures.marks
    (sym (append-nil c.args.patterns.now.items)
    ∙ ap (λ b. c.args.patterns.now.items ++ cond (not b) [] (c.args.p ∷ [])) (sym c.if-is_new.false))
