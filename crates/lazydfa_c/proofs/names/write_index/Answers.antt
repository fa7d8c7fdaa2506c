use Rattle.std.proofs.Common.{ℕ, ap, subst, sym}
use Rattle.meta.specs.Names.{group_names}
use Rattle.lazydfa_c.specs.Groups.{LooksUp, names_in}
use Rattle.lazydfa_c.proofs.Grouping.{index_told, second_of}
use Rattle.lazydfa_c.proofs.names.write_index.Goals as goal

pub returns-in-Ok-clause-told : goal.returns-in-Ok-clause-told
returns-in-Ok-clause-told c =
    let programs = c.in-Ok.programs.now in
    let same = ap (second_of c.in-Ok.pattern) (sym c.in-Ok.pattern-in-Ok-1-own.given.1) in
    let looked : LooksUp c.args.name.now c.look_up.new.group (group_names programs c.in-Ok.pattern) c.look_up.result =
    subst (λ (n : ℕ). LooksUp c.args.name.now c.look_up.new.group (group_names programs n) c.look_up.result) same
    c.look_up.ensures.told in
    index_told c.args.name.now c.look_up.new.group (names_in c.args.object.now c.args.pattern)
    (group_names programs c.in-Ok.pattern) c.look_up.result c.in-Ok.ensures.ok looked
