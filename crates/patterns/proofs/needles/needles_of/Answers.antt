use Rattle.std.proofs.Common.{◌≡◌, ◌∙◌, ap, arith, length, map, subst, take}
use Rattle.std.proofs.Math.Seq.{take-length}
use Rattle.regex_extract.specs.Needles.{needles_of}
use Rattle.patterns.specs.Searches.{AreNeedlesOf}
use Rattle.patterns.proofs.Beginnings.{needles_turn}
use Rattle.patterns.proofs.needles.needles_of.Goals as goal

pub loop-text-preserved : goal.loop-text-preserved
loop-text-preserved c =
    let l = c.loop-text in
    needles_turn _ c.args.options.now c.args.texts.now l.text-index l.needles c.in_ok-own.field-0 c.in-Some.own
    c.append.new.self.items c.loop-text-test.true l.invariant c.in-Some.is c.in_ok-own.ensures
    c.in_ok-append.ensures.items

pub returns : goal.returns
returns c =
    let l = c.loop-text in
    let all : l.text-index ≡ length c.args.texts.now =
    (let test = c.loop-text-test.false in let end = l.auto.text-index-end in omega (arith, test, end)) in
    subst (λ texts. AreNeedlesOf c.args.options.now (map (λ text. text.now) texts) (needles_of l.needles))
    (ap (λ n. take n c.args.texts.now) all ∙ take-length c.args.texts.now) l.invariant
