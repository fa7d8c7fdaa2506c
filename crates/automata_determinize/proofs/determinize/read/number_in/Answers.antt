use Rattle.std.proofs.Common.{◌∙◌, get_or}
use Rattle.automata_base.proofs.Powersets.Code.Groups.{split_bytes}
use Rattle.automata_determinize.proofs.Powersets.Code.Groups.{front_last_of}
use Rattle.automata_determinize.proofs.determinize.read.number_in.Goals as goal

pub returns-then-first-lt128 : goal.returns-then-first-lt128
returns-then-first-lt128 c = λ n tail f.
    let e = split_bytes c.args.bytes.now c.in-len1-up.len_at_least in
    let r = front_last_of c.args.bytes.now (get_or c.args.bytes.now 0 0) n _ tail e f c.if-first-lt128.true in
    (c.from.ensures ∙ r.0, r.1)

pub returns : goal.returns
returns c = λ n tail front. (c.long_number.ensures n tail front, c.after_long.ensures n tail front)
