use Rattle.std.proofs.Common.{◌+◌, arith}
use Rattle.patterns.proofs.Attempting.{next_begin}
use Rattle.patterns.proofs.pattern.Pattern.next_needle.Goals as goal

pub returns-in-Some : goal.returns-in-Some
returns-in-Some c =
    let p = c.args.self.now in
    next_begin p.regex c.in-Some.prefilter c.args.input.now c.haystack.result.now c.args.at (c.args.at + 1)
    c.end-in-Some.result c.skip.result (p.begins c.in-Some.prefilter c.in-Some.is) c.haystack.ensures.valid
    (let l = c.if-at-end.true in let e = c.end.ensures.end in omega (arith, l, e)) c.haystack.ensures.same
    (omega arith) c.end-in-Some.ensures.end c.skip.ensures
