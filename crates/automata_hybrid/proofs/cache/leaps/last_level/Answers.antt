use Rattle.std.proofs.Common.{ℕ, suc, ◌≡◌, ◌≤◌, ◌+◌, ◌*◌, ◌^◌, ◌∙◌, ap, length, slice_index, subst, sym, arith, List}
use Rattle.std.proofs.Math.Nat.{mul-le-mul_right, pow-suc, pow-zero}
use Rattle.std.proofs.lemmas.List.{get_or-take, length-take-le}
use Rattle.automata_hybrid.specs.Private.Cache.Leaps.{IsLevel}
use Rattle.automata_hybrid.proofs.Storage.Leaps.{level_fits, level_one}
use Rattle.automata_hybrid.proofs.cache.leaps.last_level.Goals as goal

pub loop-init : goal.loop-init
loop-init c =
    let all : c.args.shape.rows * c.args.shape.classes ≤ (length c.args.table.now.rows + 1) * c.args.shape.classes =
    mul-le-mul_right c.args.shape.classes (omega (arith, c.requires.rows)) in
    let long : length c.in_ok-level.level.items ≡ c.args.shape.rows * c.args.shape.classes =
    ap length c.in_ok-level.ensures.items
    ∙ length-take-le (c.args.shape.rows * c.args.shape.classes) c.args.steps.now
    (omega (arith, all, c.requires.long)) in
    let one : c.args.shape.classes ^ 1 ≡ c.args.shape.classes =
    omega (arith, pow-suc c.args.shape.classes 0, ap (λ k. k * c.args.shape.classes) (pow-zero c.args.shape.classes)) in
    record {
      long = long ∙ ap (λ k. c.args.shape.rows * k) (sym one);
      level =
          level_one c.args.table.now c.args.shape.classes c.args.steps.now c.in_ok-level.level.items
          (omega (arith, long, all, c.requires.long))
          (λ k l. ap (λ (xs : List ℕ). slice_index xs k) c.in_ok-level.ensures.items
          ∙ get_or-take (c.args.shape.rows * c.args.shape.classes) c.args.steps.now k 0 (omega (arith, l, long)))
          c.requires.steps;
    }

pub next_level-requires-clause-room : goal.next_level-requires-clause-room
next_level-requires-clause-room c =
    let l : c.args.shape.rows * c.args.shape.classes ^ c.loop.counter * c.args.shape.classes ≤ 2 ^ 43 =
    level_fits c.args.shape.rows c.args.shape.classes c.loop.counter c.requires.shape.rows c.requires.shape.few
    (omega (arith, c.loop-test.true, c.requires.shape.short)) in
    let e : length c.as_slice.result.now * c.args.shape.classes
    ≡ c.args.shape.rows * c.args.shape.classes ^ c.loop.counter * c.args.shape.classes =
    ap (λ k. k * c.args.shape.classes) (ap length c.as_slice.ensures.value ∙ c.loop.invariant.long) in
    omega (arith, l, e)

moved : (rows power n : ℕ) → rows * power * n ≡ rows * (power * n)
moved rows power n = grind arith

pub loop-preserved : goal.loop-preserved
loop-preserved c =
    let next : suc c.loop.counter ≡ c.loop.counter + 1 = omega arith in
    let same = c.as_slice.ensures.value in
    record {
      long =
          c.in_ok-level-2.ensures.long
          ∙ (ap (λ k. k * c.args.shape.classes) (ap length same ∙ c.loop.invariant.long)
          ∙ (moved c.args.shape.rows (c.args.shape.classes ^ c.loop.counter) c.args.shape.classes
          ∙ (ap (λ k. c.args.shape.rows * k) (sym (pow-suc c.args.shape.classes c.loop.counter))
          ∙ ap (λ k. c.args.shape.rows * c.args.shape.classes ^ k) next)));
      level = subst (λ k. IsLevel c.args.table.now c.args.shape.classes k c.in_ok-level-2.level.items) next
          (c.in_ok-level-2.ensures.level c.loop.counter
          (subst (λ (xs : List ℕ). IsLevel c.args.table.now c.args.shape.classes c.loop.counter xs) (sym same)
          c.loop.invariant.level));
    }
