use Rattle.std.proofs.Common.{◌++◌, ap}
use Rattle.lgrep.specs.Lines.{found_line}
use Rattle.lgrep.proofs.Near.{passed}
use Rattle.lgrep.proofs.around.Context.pass.Goals as goal

pub returns-clause-shown : goal.returns-clause-shown
returns-clause-shown c = λ res lines.
    let self = c.args.self.now in
    ap (λ v. c.args.shown.now.items ++ v)
    (passed c.args.show.now res self.around self.held.items self.left self.last c.after_gap-self.result
    (found_line c.args.line.now) lines c.if-self-gt0.false c.if-self-gt0-2.false self.few c.after_gap-self.ensures)
