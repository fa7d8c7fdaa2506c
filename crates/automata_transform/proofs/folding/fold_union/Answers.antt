use Rattle.std.proofs.Common.{List, Option, ℕ, ◌≡◌, ◌++◌, ◌∷◌, [], refl, subst, ◌∙◌}
use Rattle.automata_base.specs.Nfas.Nfa.{Read, takes_in}
use Rattle.automata_base.specs.Nfas.Nodes.{nodes_of, ranges_of}
use Rattle.automata_transform.specs.Retraced.Folds.{AreTreeHeads}
use Rattle.automata_base.specs.Retraced.ReversedEdges.{lists_of, list_at}
use Rattle.automata_transform.specs.Retraced.Segments.{leaf_head}
use Rattle.automata_base.specs.Lists.{In}
use Rattle.automata_transform.proofs.Nfas.Folds.Heads.{grows_on}
use Rattle.automata_transform.proofs.Nfas.Folds.Looks.{looks_on}
use Rattle.automata_transform.proofs.Nfas.Folds.Unions.{fold_of, lists_kept}
use Rattle.automata_base.proofs.Nfas.Mirrors.Lists.{lists_length}
use Rattle.automata_transform.proofs.folding.fold_union.Goals as goal

pub heads_of-requires-clause-kept : goal.heads_of-requires-clause-kept
heads_of-requires-clause-kept c = λ k t i.
    let lists = c.in_ok-lists.lists.items in
    lists_kept c.args.states.now c.args.free.now c.args.alternates.now (lists_of lists)
    (lists_length lists ∙ c.in_ok-lists.ensures.nodes) c.in_ok-lists.ensures.reads c.requires.kept k t
    (subst (λ z. In t (list_at (lists_of z) k)) c.as_slice.ensures.value i)

pub returns : goal.returns
returns c =
    let lists = c.in_ok-lists.lists.items in
    let heads = c.in_ok-heads.heads.items in
    let ts = c.in_ok-ranges.ranges.items in
    record {
      folded =
          fold_of c.args.states.now c.args.free.now (nodes_of c.heads_of.new.made.items)
          (nodes_of c.make.new.made.items)
          c.args.alternates.now c.in_ok-stay.stay.items c.push_id.new.ids.items (lists_of lists) heads ts
          c.in_ok-reader.reader
          (subst (λ z. AreTreeHeads c.args.free.now (nodes_of c.heads_of.new.made.items) (lists_of z) heads 512)
          c.as_slice.ensures.value
          c.in_ok-heads.ensures.stands)
          c.in_ok-heads.ensures.nodes
          (λ u. subst (λ (z : List (Option ℕ)). takes_in (ranges_of ts) u ≡ leaf_head z u) c.as_slice-2.ensures.value
          (c.in_ok-ranges.ensures u))
          c.in_ok-lists.ensures.reads c.in_ok-lists.ensures.low c.in_ok-stay.ensures.sound c.in_ok-stay.ensures.all
          c.in_ok-reader.ensures.more c.in_ok-reader.ensures.made c.in_ok-push_id.ensures;
      reads = refl;
      looks =
          looks_on _ c.heads_of.new.made.items c.make.new.made.items c.in_ok-heads.ensures.looks
          c.in_ok-reader.ensures.looks;
      grows = (
        c.in_ok-heads.ensures.grows.0 ++ Read (ranges_of ts) ∷ [],
        grows_on (nodes_of c.args.made.now.items) (nodes_of c.heads_of.new.made.items) (nodes_of c.make.new.made.items)
            c.in_ok-heads.ensures.grows.0 (Read (ranges_of ts) ∷ []) c.in_ok-heads.ensures.grows.1
            c.in_ok-reader.ensures.more,
      );
      few = c.in_ok-reader.ensures.few;
    }
