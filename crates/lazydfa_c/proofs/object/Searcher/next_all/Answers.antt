use Rattle.std.proofs.Common.{◌≡◌, ◌+◌, ◌<◌, length, arith, rules, true, false}
use Rattle.lazydfa_c.specs.Words.{Iterates}
use Rattle.lazydfa_c.specs.Codes.{number_of}
use Rattle.lazydfa_c.specs.declared.code.Code.TheVariants as code
use Rattle.lazydfa_c.proofs.Batches.{filled, none_so_far, one_more, stopped}
use Rattle.lazydfa_c.proofs.object.Searcher.next_all.Goals as goal

pub loop-place-init : goal.loop-place-init
loop-place-init c = none_so_far (Iterates c.args.haystack.now) c.args.out.now c.args.at.now c.args.self.now

pub loop-place-preserved : goal.loop-place-preserved
loop-place-preserved c =
    let l = c.loop-place in let same = l.auto.place-items in let test = c.loop-place-test.true in
    let within : l.place-index < length l.place-items = omega arith in
    let counted = l.invariant.counted in
    let next : c.saturating_add.result ≡ l.place-index + 1 = grind (arith, rules) in
    let done : c.next-status.result.code ≡ number_of code.Done = c.is_done.ensures.0 c.if-not-is_done.false in
    one_more (Iterates c.args.haystack.now) c.args.out.now l.place-items l.count l.place-index c.saturating_add.result
    c.next-status.new.found c.args.at.now l.at c.next-status.new.at c.args.self.now l.self
    c.next-status.new.self c.next-status.result l.invariant within next done c.next-status.ensures.found

pub returns-then-not-is_done : goal.returns-then-not-is_done
returns-then-not-is_done c =
    let l = c.loop-place in let same = l.auto.place-items in let test = c.loop-place-test.true in
    let within : l.place-index < length l.place-items = omega arith in
    let not : c.next-status.result.code ≡ number_of code.Done → ⊥ = λ h.
    let yes : c.is_done.result ≡ true = c.is_done.ensures.1 h in
    let no : c.is_done.result ≡ false = c.if-not-is_done.true in cc in
    stopped (Iterates c.args.haystack.now) c.args.out.now l.place-items l.count l.place-index
    c.next-status.new.found _ c.args.at.now l.at c.next-status.new.at c.args.self.now l.self
    c.next-status.new.self c.next-status.result l.invariant within not (c.next-status.ensures.written not)
    c.next-status.ensures.found

pub returns : goal.returns
returns c =
    let l = c.loop-place in let same = l.auto.place-items in let test = c.loop-place-test.false in
    let end = l.auto.place-index-end in
    let full : l.place-index ≡ length l.place-items = omega arith in
    filled (Iterates c.args.haystack.now) c.args.out.now l.place-items l.count l.place-index c.args.at.now l.at
    c.args.self.now l.self c.from.result l.invariant full c.from.ensures
