use Rattle.lgrep.proofs.Near.{shown_before}
use Rattle.lgrep.proofs.around.Context.show_before.Goals as goal

pub returns-clause-shown : goal.returns-clause-shown
returns-clause-shown c = λ res line lines.
    let self = c.args.self.now in
    shown_before c.args.show.now res self.around self.held.items c.clear.new.self.items self.left self.last line lines
    c.args.shown.now.items c.push_separator.new.shown.items c.push_held.new.shown.items c.in_ok-push_separator.ensures
    c.in_ok-push_held.ensures c.clear.ensures.items self.few
