use Rattle.automata_hybrid.specs.Walks.Progress.{HasEnded}
use Rattle.regex_automata.proofs.Results.{ok_err, same_err}
use Rattle.replay.proofs.Replies.WalkCalls.{answered, stayed, step_answers, step_refused}
use Rattle.replay.proofs.walks.step_of.Goals as goal

pub returns-in-Ok-clause-call : goal.returns-in-Ok-clause-call
returns-in-Ok-clause-call c =
    let s = c.in-Ok.ensures.call in
    let m = c.args.dfa.now in
    let input = c.args.input.now in
    let old = c.args.state.now in
    let new = c.try_search_overlapping.new.walk in
    record {
      step =
          λ k h. step_answers c.args.way m input old k h new c.get_match.result c.get_match.ensures s.reports s.paths
          s.within
          (λ fresh u. ok_err (s.unsupported fresh u));
      reported = λ k h. answered c.args.way m input old k h new s.reports s.ended;
      kept = λ k h. tt;
    }

pub returns-in-Err-clause-call : goal.returns-in-Err-clause-call
returns-in-Err-clause-call c =
    let s = c.in-Err.ensures.call in
    let m = c.args.dfa.now in
    let input = c.args.input.now in
    let old = c.args.state.now in
    let new = c.try_search_overlapping.new.walk in
    record {
      step = λ k h. step_refused c.args.way m input old k h c.in-Err.error (λ ended. s.ready (HasEnded ended))
          (λ fresh u. same_err (s.unsupported fresh u)) s.free;
      reported = λ k h. tt;
      kept = λ k h. stayed c.args.way m input old k h new s.refused;
    }

pub returns-in-Ok-clause-made : goal.returns-in-Ok-clause-made
returns-in-Ok-clause-made c = λ k h.
    record {
      walk = c.args.state.now;
      before = h;
      next = c.try_search_overlapping.new.walk;
      reports = c.in-Ok.ensures.call.reports;
      run = c.in-Ok.ensures.effect;
    }

pub returns-in-Err-clause-made : goal.returns-in-Err-clause-made
returns-in-Err-clause-made c = λ k h.
    record {
      walk = c.args.state.now;
      before = h;
      next = c.try_search_overlapping.new.walk;
      reports = tt;
      run = c.in-Err.ensures.effect;
    }
