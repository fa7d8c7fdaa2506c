use Rattle.std.proofs.Common.{arith}
use Rattle.lgrep.proofs.Near.{room_made}
use Rattle.lgrep.proofs.around.Context.make_room.Goals as goal

pub returns-in-Some-clause-shown : goal.returns-in-Some-clause-shown
returns-in-Some-clause-shown c = λ show res line lines.
    let self = c.args.self.now in
    room_made show res self.around self.held.items c.pop_front.new.self.items c.in-Some.oldest self.left self.last
    c.after_gap-self.result line lines c.in-Some.ensures.items c.requires.none_left c.after_gap-self.ensures
    (omega (arith, c.if-len-self.false, c.len.ensures, self.held.ok.0))
