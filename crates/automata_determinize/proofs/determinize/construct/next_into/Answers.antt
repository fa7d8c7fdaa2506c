use Rattle.std.proofs.Common.{◌<◌, length, sym, subst, refl}
use Rattle.std.specs.Prelude.{All}
use Rattle.automata_base.specs.Nfas.Nodes.{nfa_of}
use Rattle.automata_determinize.specs.Powersets.Parts.{powerset_of}
use Rattle.automata_base.specs.Lists.{In}
use Rattle.automata_determinize.specs.Powersets.Results.{AreMatched, IsClosureMade}
use Rattle.automata_base.specs.Paths.Paths.{IsClosure}
use Rattle.automata_base.specs.Powersets.Cuts.{cut_for, targets}
use Rattle.automata_determinize.specs.Powersets.Passes.{HasNews, HasNoNews, true_looks}
use Rattle.automata_determinize.proofs.Powersets.Keeping.{all_in}
use Rattle.automata_determinize.proofs.Powersets.Made.{step_made}
use Rattle.automata_determinize.proofs.determinize.construct.next_into.Goals as goal

pub close-requires-clause-roots : goal.close-requires-clause-roots
close-requires-clause-roots c =
    subst (All (λ q. q < length c.args.nfa.now.states)) (sym c.requires.list)
    (all_in c.args.from.now.nfa (length c.args.nfa.now.states) c.requires.is_of)

pub advance-requires-clause-below : goal.advance-requires-clause-below
advance-requires-clause-below c = λ q i.
    subst (λ z. q < z) c.close.ensures.room.whole
    (c.as_slice.ensures.below q (subst (λ z. In q z) c.as_slice.ensures.items i))

pub advance-requires-in-None-clause-below : goal.advance-requires-in-None-clause-below
advance-requires-in-None-clause-below c = λ q i. c.requires.is_of q (subst (λ z. In q z) c.requires.list i)

pub returns-in-Some-clause-made : goal.returns-in-Some-clause-made
returns-in-Some-clause-made c =
    step_made c.args.nfa.now c.args.kind c.args.from.now c.args.unit c.close.new.set.items
    (powerset_of c.advance.new.parts)
    c.requires.checked c.requires.is_of
    (HasNews c.in-Some.ensures.news
    (subst (λ xs. IsClosure (nfa_of c.args.nfa.now) (true_looks (nfa_of c.args.nfa.now) c.args.from.now c.args.unit) xs
    c.close.new.set.items) c.requires.list
    (subst (λ A. IsClosure (nfa_of c.args.nfa.now) A c.args.list.now c.close.new.set.items)
    (λ i look. c.in-Some.ensures.truth look i) c.close.ensures.closure)))
    (subst (λ xs. AreMatched c.args.nfa.now (cut_for c.args.kind (nfa_of c.args.nfa.now) xs)
    c.advance.new.parts.patterns.items)
    c.as_slice.ensures.items c.advance.ensures.matched)
    (subst (λ xs. IsClosureMade c.args.nfa.now c.advance.new.parts.patterns.items
    (targets (nfa_of c.args.nfa.now) c.args.unit (cut_for c.args.kind (nfa_of c.args.nfa.now) xs)) c.args.unit
    (powerset_of c.advance.new.parts))
    c.as_slice.ensures.items c.advance.ensures.made)

pub returns-in-None-clause-made : goal.returns-in-None-clause-made
returns-in-None-clause-made c =
    step_made c.args.nfa.now c.args.kind c.args.from.now c.args.unit c.args.from.now.nfa
    (powerset_of c.advance-in-None.new.parts)
    c.requires.checked c.requires.is_of (HasNoNews (c.in-None.ensures.none refl) refl)
    (subst (λ xs. AreMatched c.args.nfa.now (cut_for c.args.kind (nfa_of c.args.nfa.now) xs)
    c.advance-in-None.new.parts.patterns.items)
    c.requires.list c.advance-in-None.ensures.matched)
    (subst (λ xs. IsClosureMade c.args.nfa.now c.advance-in-None.new.parts.patterns.items
    (targets (nfa_of c.args.nfa.now) c.args.unit (cut_for c.args.kind (nfa_of c.args.nfa.now) xs)) c.args.unit
    (powerset_of c.advance-in-None.new.parts))
    c.requires.list c.advance-in-None.ensures.made)
