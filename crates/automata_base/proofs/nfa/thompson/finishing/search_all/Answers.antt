use Rattle.std.proofs.Common.{ℕ, ◌≡◌, ◌<◌, ◌≤◌, ◌+◌, ◌⊎◌, length, inl, inr, sym, subst, arith}
use Rattle.std.proofs.Math.Nat.{eq-or-lt_of_le}
use Rattle.automata_base.specs.declared.nfa.thompson.reach.Edges.TheVariants.{Epsilon}
use Rattle.automata_base.specs.Lists.{In}
use Rattle.automata_base.specs.Retraced.Reach.{targets_of}
use Rattle.automata_base.proofs.Nfas.Reach.DepthFirst.{search_whole}
use Rattle.automata_base.proofs.nfa.thompson.finishing.search_all.Goals as goal

one_more :
    (q : ℕ) (old new : _) → ((r : ℕ) → r < q → In r old) → ((r : ℕ) → In r old → In r new) → In q new → (r : ℕ)
    → r < q + 1 → In r new
one_more q old new before kept root r l = go (eq-or-lt_of_le (omega (arith, l)))
  where
    go : (r ≡ q) ⊎ (r < q) → In r new
    go (inl e) = subst (λ z. In z new) (sym e) root
    go (inr m) = kept r (before r m)

pub loop-q-preserved : goal.loop-q-preserved
loop-q-preserved c = record {
  empty = c.in_ok-search_from.ensures.search.0;
  search = c.in_ok-search_from.ensures.search.1;
  tried =
      one_more c.loop-q.q c.loop-q.visited.items c.search_from.new.visited.items c.loop-q.invariant.tried
      c.search_from.ensures.kept
      (subst (λ z. In z c.search_from.new.visited.items) c.new_unchecked-root.ensures c.in_ok-search_from.ensures.root);
  rooms = c.search_from.ensures.rooms;
}

pub returns : goal.returns
returns c =
    let all : length c.args.states.now ≤ c.loop-q.q = c.loop-q-test.false in
    record {
      order =
          search_whole (length c.args.states.now) (targets_of Epsilon c.args.states.now) c.loop-q.visited.items
          c.loop-q.finished.items
          c.loop-q.invariant.search
          (λ q l. c.loop-q.invariant.tried q (omega (arith, all, l)))
          (λ q i. subst (λ z. q < z) c.loop-q.invariant.rooms.1 (c.as_slice.ensures.below q i));
    }
