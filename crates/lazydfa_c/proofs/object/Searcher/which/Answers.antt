use Rattle.std.proofs.Common.{subst}
use Rattle.lazydfa_c.specs.Sets.{AreWritten, JoinsFor}
use Rattle.lazydfa_c.proofs.Joining.{joins_from}
use Rattle.lazydfa_c.proofs.object.Searcher.which.Goals as goal

pub returns-in-Ok : goal.returns-in-Ok
returns-in-Ok c =
    let emptied = c.in-Ok.ensures in
    let input = c.args.input.now in
    AreWritten
    (subst (λ set. JoinsFor set input c.args.self.now c.join_for-status.new.self c.join_for-status.result) emptied.ok
    (joins_from c.empty_set.new.self.patterns input c.empty_set.new.self c.args.self.now
    (record { cache = emptied.cache; same = emptied.same; pieces = emptied.pieces })
    c.join_for-status.new.self c.join_for-status.result c.join_for-status.ensures))
    c.write_members.ensures.written c.write_members.ensures.count
