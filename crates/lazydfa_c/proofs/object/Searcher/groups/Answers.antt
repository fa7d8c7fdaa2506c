use Rattle.std.proofs.Common.{◌∙◌, ap, rules, subst, sym, Some}
use Rattle.std.specs.Prelude.{Option, option_map}
use Rattle.meta.specs.declared.program.Programs.{Programs}
use Rattle.lazydfa_c.specs.Groups.{ReportsGroupsBy}
use Rattle.lazydfa_c.specs.Programs.{HasRoomForGroups}
use Rattle.lazydfa_c.proofs.object.Searcher.groups.Goals as goal

pub report_groups-requires-clause-room : goal.report_groups-requires-clause-room
report_groups-requires-clause-room c =
    subst (HasRoomForGroups c.in-Some-groups.memory) (sym c.deref.ensures)
    (c.args.self.now.rooms.1 c.in-Some-groups.memory c.in-Some-groups.is c.in-Some.programs.value
    (ap (option_map (λ programs. programs.value)) c.in-Some.is))

pub returns : goal.returns
returns c =
    let some = ap (option_map (λ programs. programs.value)) c.in-Some.is ∙ ap Some (sym c.deref.ensures) in record {
      reports =
          subst (λ (programs : Option Programs). ReportsGroupsBy programs c.args.haystack.now c.args.found.now
          c.args.out.now c.report_groups.new.out c.report_groups.new.count c.report_groups.result)
          (sym some) c.report_groups.ensures.reports;
      keeps = record {
        cache = search rules;
        patterns = search rules;
        same = search rules;
        pieces = search rules;
      };
    }
