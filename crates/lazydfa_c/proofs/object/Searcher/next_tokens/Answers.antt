use Rattle.std.proofs.Common.{◌≡◌, ◌+◌, ◌<◌, length, arith, rules, true, false}
use Rattle.lazydfa_c.specs.Batches.{Takes}
use Rattle.lazydfa_c.specs.Codes.{number_of}
use Rattle.lazydfa_c.specs.declared.code.Code.TheVariants as code
use Rattle.lazydfa_c.proofs.Batches.{filled, none_so_far, one_more, stopped}
use Rattle.lazydfa_c.proofs.object.Searcher.next_tokens.Goals as goal

pub loop-place-init : goal.loop-place-init
loop-place-init c = none_so_far (Takes c.args.haystack.now) c.args.out.now c.args.left.now c.args.self.now

pub loop-place-preserved : goal.loop-place-preserved
loop-place-preserved c =
    let l = c.loop-place in let same = l.auto.place-items in let test = c.loop-place-test.true in
    let within : l.place-index < length l.place-items = omega arith in
    let counted = l.invariant.counted in
    let next : c.saturating_add.result ≡ l.place-index + 1 = grind (arith, rules) in
    let done : c.next_token-status.result.code ≡ number_of code.Done = c.is_done.ensures.0 c.if-not-is_done.false in
    one_more (Takes c.args.haystack.now) c.args.out.now l.place-items l.count l.place-index c.saturating_add.result
    c.next_token-status.new.found c.args.left.now l.left c.next_token-status.new.left c.args.self.now l.self
    c.next_token-status.new.self c.next_token-status.result l.invariant within next done
    c.next_token-status.ensures.found

pub returns-then-not-is_done : goal.returns-then-not-is_done
returns-then-not-is_done c =
    let l = c.loop-place in let same = l.auto.place-items in let test = c.loop-place-test.true in
    let within : l.place-index < length l.place-items = omega arith in
    let not : c.next_token-status.result.code ≡ number_of code.Done → ⊥ = λ h.
    let yes : c.is_done.result ≡ true = c.is_done.ensures.1 h in
    let no : c.is_done.result ≡ false = c.if-not-is_done.true in cc in
    stopped (Takes c.args.haystack.now) c.args.out.now l.place-items l.count l.place-index
    c.next_token-status.new.found _ c.args.left.now l.left c.next_token-status.new.left c.args.self.now l.self
    c.next_token-status.new.self c.next_token-status.result l.invariant within not
    (c.next_token-status.ensures.written not)
    c.next_token-status.ensures.found

pub returns : goal.returns
returns c =
    let l = c.loop-place in let same = l.auto.place-items in let test = c.loop-place-test.false in
    let end = l.auto.place-index-end in
    let full : l.place-index ≡ length l.place-items = omega arith in
    filled (Takes c.args.haystack.now) c.args.out.now l.place-items l.count l.place-index c.args.left.now l.left
    c.args.self.now l.self c.from.result l.invariant full c.from.ensures
