use Rattle.std.proofs.Common.{drop, sym, take-append-drop}
use Rattle.patterns.proofs.needles.cut.Goals as goal

pub returns : goal.returns
returns c = (drop c.min.result c.args.needle.now, sym (take-append-drop c.min.result c.args.needle.now))
