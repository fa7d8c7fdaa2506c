use Rattle.std.specs.Result.{result_err}
use Rattle.patterns.proofs.Attempting.{begins_later, run_from, span_returned}
use Rattle.patterns.proofs.attempts.find_at.Goals as goal

pub returns-in-Ok-Some-clause-span : goal.returns-in-Ok-Some-clause-span
returns-in-Ok-Some-clause-span c = λ sound.
    span_returned c.args.regex.now c.forward.result.now c.args.input.now c.anchored_from-anchored.result c.args.start
    c.in-Ok-Some.half c.try_search_fwd.result c.in-Ok-Some.field-0 c.new.result c.pattern.result c.offset-end.result
    c.requires.kind c.requires.full c.requires.skips c.forward.ensures c.anchored_from-anchored.ensures c.in-Ok-Some.is
    c.in-Ok-Some.field-0-is c.pattern.ensures c.offset-end.ensures c.new.ensures c.try_search_fwd.ensures.half sound

pub returns-in-Ok-Some-clause-run : goal.returns-in-Ok-Some-clause-run
returns-in-Ok-Some-clause-run c =
    run_from c.args.regex.now c.forward.result.now c.args.input.now c.anchored_from-anchored.result c.args.start
    c.args.cache.now c.forward_mut.result.now c.try_search_fwd.new.cache (result_err c.try_search_fwd.result)
    c.forward.ensures c.anchored_from-anchored.ensures c.forward_mut.ensures.value
    c.try_search_fwd.ensures.effect

pub returns-in_default-clause-run : goal.returns-in_default-clause-run
returns-in_default-clause-run c =
    run_from c.args.regex.now c.forward.result.now c.args.input.now c.anchored_from-anchored.result c.args.start
    c.args.cache.now c.forward_mut.result.now c.try_search_fwd.new.cache (result_err c.try_search_fwd.result)
    c.forward.ensures c.anchored_from-anchored.ensures c.forward_mut.ensures.value
    c.try_search_fwd.ensures.effect

pub returns-in-Ok-None-clause-none : goal.returns-in-Ok-None-clause-none
returns-in-Ok-None-clause-none c =
    begins_later c.args.regex.now c.forward.result.now c.args.input.now c.anchored_from-anchored.result c.args.start
    c.try_search_fwd.result c.in-Ok-None.field-0 c.requires.full c.requires.within c.requires.skips c.forward.ensures
    c.anchored_from-anchored.ensures c.in-Ok-None.is c.in-Ok-None.field-0-is c.try_search_fwd.ensures.half
