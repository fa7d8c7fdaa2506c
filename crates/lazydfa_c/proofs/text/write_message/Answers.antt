use Rattle.std.proofs.Common.{◌∙◌, ap, eqb-true, length, refl, sym, take}
use Rattle.std.proofs.Math.ListN.{set}
use Rattle.lazydfa_c.specs.Caches.{written_over}
use Rattle.lazydfa_c.proofs.Messages.{has_room, is_some, no_room}
use Rattle.lazydfa_c.proofs.text.write_message.Goals as goal

pub returns-then-is_empty : goal.returns-then-is_empty
returns-then-is_empty c = no_room c.args.message.now c.args.out.now (eqb-true _ _ (sym c.if-is_empty.ensures))

pub returns : goal.returns
returns c =
    let end = c.floor_char_boundary-end.result in
    has_room c.args.message.now c.args.out.now c.write_over.new.out (set c.write_over.new.out end 0) end
    (is_some (length c.args.out.now) c.if-is_empty.ensures)
    c.floor_char_boundary-end.ensures.bound c.floor_char_boundary-end.ensures.boundary
    c.floor_char_boundary-end.ensures.nearest
    (c.write_over.ensures ∙ ap (λ bytes. written_over (take end bytes) c.args.out.now) c.as_bytes.ensures.value) refl
