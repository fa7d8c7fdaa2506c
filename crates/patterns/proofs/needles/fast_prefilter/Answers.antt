use Rattle.std.proofs.Common.{IfSome, map, subst}
use Rattle.regex_extract.specs.Needles.{needles_of}
use Rattle.patterns.specs.Searches.{MayReplace}
use Rattle.patterns.proofs.Beginnings.{built_near}
use Rattle.patterns.proofs.needles.fast_prefilter.Goals as goal

pub returns-then-is_fast : goal.returns-then-is_fast
returns-then-is_fast c =
    built_near (needles_of c.args.needles) (needles_of c.in_ok-few.few) c.new.result c.new.ensures c.in_ok-few.ensures

pub returns-in-Ok-Some : goal.returns-in-Ok-Some
returns-in-Ok-Some c =
    let replaces =
    subst (λ vs. MayReplace (map (λ v. v.items) vs) (needles_of c.in-Ok-Some.only)) c.deref-2.ensures.value
    (subst (λ o. IfSome o (λ v. MayReplace (map (λ n. n.items) c.deref-2.result.now) (needles_of v)))
    c.in-Ok-Some.field-0-is c.in-Ok-Some.ensures) in
    built_near (needles_of c.args.needles) (needles_of c.in-Ok-Some.only) c.new-in-Ok-Some.result
    c.new-in-Ok-Some.ensures (λ re starts. replaces re (c.in_ok-few.ensures re starts))
