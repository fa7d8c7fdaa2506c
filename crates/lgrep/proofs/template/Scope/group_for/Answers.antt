use Rattle.regex.proofs.TemplateLemmas.{number_parsed}
use Rattle.meta.specs.Names.{group_names}
use Rattle.lgrep.proofs.Reading.{number_called, name_called}
use Rattle.lgrep.proofs.template.Scope.group_for.Goals as goal

pub returns-in-Ok : goal.returns-in-Ok
returns-in-Ok c =
    number_called (group_names c.args.self.now.programs.now c.args.self.now.pattern) c.args.self.now.before
    c.args.name.now c.in-Ok.number c.own_group.result
    (rw c.in-Ok.is at (number_parsed c.args.name.now c.parse.result c.parse.ensures.value.0)) c.own_group.ensures

pub returns-in-Err : goal.returns-in-Err
returns-in-Err c =
    name_called (group_names c.args.self.now.programs.now c.args.self.now.pattern) c.args.self.now.before
    c.args.name.now c.group_index.result
    (rw c.in-Err.is at (number_parsed c.args.name.now c.parse.result c.parse.ensures.value.0)) c.group_index.ensures
