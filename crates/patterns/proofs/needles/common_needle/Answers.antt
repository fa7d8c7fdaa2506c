use Rattle.patterns.proofs.Beginnings.{common_only}
use Rattle.patterns.proofs.needles.common_needle.Goals as goal

pub returns : goal.returns
returns c =
    common_only c.args.needles.now c.common_prefix-prefix.result.now c.new-only.result.items c.push.new.self.items
    c.in_ok-needle.needle c.common_prefix-prefix.ensures c.in_ok-needle.ensures.items c.new-only.ensures.items
    c.in_ok-push.ensures.items
