use Rattle.std.proofs.Common.{List, ℕ, ◌≡◌, length, get_or, sym, ap, ◌∙◌, subst, arith}
use Rattle.automata_base.specs.Nfas.Nodes.{nfa_of}
use Rattle.automata_base.specs.Nfas.KeptClosure.{AreTargets}
use Rattle.automata_base.proofs.Powersets.KeptClosures.{row_read}
use Rattle.automata_base.proofs.nfa.thompson.kept.KeptClosure.row.Goals as goal

pub returns-then-byte-len : goal.returns-then-byte-len
returns-then-byte-len c =
    let kept = c.args.self.now.kept.items in
    let rows = c.args.self.now.rows.items in
    let len : c.len.result ≡ length rows = c.len.ensures ∙ c.args.self.now.rows.ok.0 in
    subst (λ (z : List ℕ). AreTargets (nfa_of c.args.nfa.now) kept c.args.u z) (sym c.as_slice.ensures.value)
    (row_read (nfa_of c.args.nfa.now) kept rows c.args.u c.index.result.now c.requires.rows
    (omega (arith, c.if-byte-len.true, len, c.from-byte.ensures))
    (c.index.ensures ∙ ap (λ z. get_or rows z c.index.result.now) c.from-byte.ensures))
