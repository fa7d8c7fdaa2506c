use Rattle.std.proofs.Common.{◌↔◌, ◌∷◌, sym, ◌∙◌}
use Rattle.std.specs.Prelude.{IsTrue}
use Rattle.automata_base.specs.Powersets.Cuts.{MatchKind}
use Rattle.automata_base.specs.Retraced.Decoders.{EndsAtBoundaries}
use Rattle.automata_base.specs.Nfas.Engines.{engine_of}
use Rattle.automata_base.specs.Haystacks.Tapes.{Forward}
use Rattle.automata_base.specs.Answers.TruePairs.{KeepsUtf8}
use Rattle.automata_base.specs.Nfas.Utf8.{HasNoLook}
use Rattle.automata_base.proofs.Nfas.Utf8.Answering.{IsAnswer, if_ok, answer_keeps, answer_exact, walked_forward}
use Rattle.automata_base.proofs.Nfas.Utf8.Tables.{forward}
use Rattle.automata_base.proofs.nfa.thompson.NFA.keeps_utf8.Goals as goal

pub returns-clause-reads : goal.returns-clause-reads
returns-clause-reads c =
    let a = c.args.self.now in
    if_ok c.reads_utf8.result (λ b. IsTrue b ↔ EndsAtBoundaries forward a.states (a.start_anchored ∷ a.start_pattern))
    (IsAnswer Forward a)
    (walked_forward a c.reads_utf8.ensures.checked (sym c.is_utf8.ensures ∙ c.if-not-is_utf8.false))
    c.reads_utf8.ensures.ends

pub returns-clause-keeps : goal.returns-clause-keeps
returns-clause-keeps c =
    let a = c.args.self.now in
    if_ok c.reads_utf8.result (IsAnswer Forward a)
    (λ b. IsTrue b → (kind : MatchKind) → KeepsUtf8 Forward (engine_of a kind))
    (answer_keeps Forward a) (returns-clause-reads c)

pub returns-clause-exact : goal.returns-clause-exact
returns-clause-exact c =
    let a = c.args.self.now in
    if_ok c.reads_utf8.result (IsAnswer Forward a)
    (λ b. HasNoLook a → (kind : MatchKind) → IsTrue b ↔ KeepsUtf8 Forward (engine_of a kind)) (answer_exact Forward a)
    (returns-clause-reads c)
