use Rattle.std.proofs.Common.{ℕ, Bool, List, ◌≡◌, ◌<◌, false, drop, get_or, length, replicate, sym, ap, ◌∙◌}
use Rattle.std.proofs.Common.{subst, arith, length-set}
use Rattle.std.proofs.Math.ListN.{set}
use Rattle.std.proofs.lemmas.Grind.{common_steps}
use Rattle.std.proofs.lemmas.List.{get_or_read}
use Rattle.automata_base.specs.Haystacks.PatternSet.{IsCounted, members_from}
use Rattle.automata_base.proofs.ByteClasses.PatternsInSets.{empty_counted, flag_at, left_in, left_out, left_within}
use Rattle.automata_base.proofs.ByteClasses.PatternsInSets.{none_left, not_in, taken_out}
use Rattle.automata_base.proofs.util.pattern_set.PatternSet.clear.Goals.{then-index, else-index}
use Rattle.automata_base.proofs.util.pattern_set.PatternSet.clear.Goals as goal

pub loop-self-preserved : goal.loop-self-preserved
loop-self-preserved c =
    let xs : List Bool = c.self.inside.which.items in
    let at : ℕ = c.loop-self.at in
    let within : at < length xs = left_within xs at at (grind (arith, common_steps)) in
    let inside : at < length c.loop-self.self-inside.which.items = grind (arith, within, common_steps) in
    let read : get_or xs at false ≡ c.index.result.now =
    sym (ap (λ ys. get_or ys at false) c.loop-self.invariant.flags ∙ flag_at xs at within)
    ∙ sym (get_or_read c.loop-self.self-inside.which.items at c.index.result.now inside c.index.ensures false) in
    elim c.if-index.branch [
      | then-index w ↦ (
          let left = left_in xs at (read ∙ w.if-index.true) in
          rw w.self-inside-is (record {
            within = omega (arith, within);
            size = length-set c.loop-self.self-inside.which.items at false ∙ c.loop-self.invariant.size;
            flags = ap (λ ys. set ys at false) c.loop-self.invariant.flags ∙ taken_out xs at within;
            left = omega (arith, left, c.loop-self.invariant.left);
          }))
      | else-index w ↦ (
          let out : get_or xs at false ≡ false = read ∙ w.if-index.false in
          rw w.self-inside-is (record {
            within = omega (arith, within);
            size = c.loop-self.invariant.size;
            flags = c.loop-self.invariant.flags ∙ not_in xs at within out;
            left = c.loop-self.invariant.left ∙ left_out xs at within out;
          }))
    ]

pub invariant_of-self : goal.invariant_of-self
invariant_of-self c =
    let none : length (members_from c.loop-self.at (drop c.loop-self.at c.self.inside.which.items)) ≡ 0 =
    grind (arith, common_steps) in
    let all : c.loop-self.self-inside.which.items ≡ replicate (length c.self.inside.which.items) false =
    c.loop-self.invariant.flags
    ∙ none_left c.self.inside.which.items c.loop-self.at c.loop-self.at c.loop-self.invariant.within none in
    let zero : c.loop-self.self-inside.len ≡ 0 = c.loop-self.invariant.left ∙ none in
    rw zero (subst (λ ys. IsCounted ys 0) (sym all) (empty_counted (length c.self.inside.which.items)))

pub returns : goal.returns
returns c =
    let none : length (members_from c.loop-self.at (drop c.loop-self.at c.self.inside.which.items)) ≡ 0 =
    grind (arith, common_steps) in
    let same : c.self.inside.which.items ≡ c.args.self.now = c.self.view_is in
    c.loop-self.invariant.flags
    ∙ none_left c.self.inside.which.items c.loop-self.at c.loop-self.at c.loop-self.invariant.within none
    ∙ ap (λ ys. replicate (length ys) false) same
