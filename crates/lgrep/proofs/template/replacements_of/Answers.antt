use Rattle.std.proofs.Common.{◌∙◌, ◌∷◌, [], arith, length-append, sym}
use Rattle.std.specs.Prelude.{nat_le}
use Rattle.lgrep.proofs.Reading.{count_turn, own_pieces, replacement_turn, some_at}
use Rattle.lgrep.proofs.template.replacements_of.Goals as goal

pub loop-number-preserved : goal.loop-number-preserved
loop-number-preserved c =
    let i = c.loop-number.invariant in let programs = c.args.programs.now in let number = c.loop-number.number in
    let same = (some_at (nat_le number 2147483646) number c.in-Some.pattern (sym c.in-Some.is ∙ c.new.ensures)).1 in
    let own = own_pieces programs c.in-Some.pattern number c.loop-number.before same i.before c.args.template.now
    c.as_bytes.result.now c.in_ok-pieces.pieces.items c.in_ok-pieces.ensures c.as_bytes.ensures.value in
    record {
      replaced =
          rw c.in_ok-push.ensures.items
          (replacement_turn programs c.args.template.now c.loop-number.replacements.items
          (record { pieces = c.in_ok-pieces.pieces }) number i.count own i.replaced);
      count = rw c.in_ok-push.ensures.items (omega (
        arith,
        i.count,
        length-append c.loop-number.replacements.items
            (record { pieces = c.in_ok-pieces.pieces } ∷ []),
      ));
      before =
          count_turn programs c.in-Some.pattern number c.loop-number.before same i.before
          c.saturating_sub-groups.result c.group_len.result c.saturating_add-before.result c.group_len.ensures
          c.saturating_sub-groups.ensures c.saturating_add-before.ensures;
    }
