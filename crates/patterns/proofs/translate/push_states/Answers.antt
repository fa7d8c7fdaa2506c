use Rattle.std.proofs.Common.{◌<◌, ◌∙◌, List, ap, get_or, length, subst, sym}
use Rattle.std.proofs.lemmas.List.{get_or_default}
use Rattle.automata_base.specs.Nfas.Nodes as nodes
use Rattle.regex_nfa.specs.declared.state.State.{State}
use Rattle.regex_nfa.specs.declared.state.State.TheVariants.{ByteRange, Fail}
use Rattle.meaning.specs.Translated as translated
use Rattle.meaning.proofs.Lists.{nodes_push}
use Rattle.regex_nfa.proofs.RunLemmas.{sound_of}
use Rattle.patterns.proofs.Building.{of_error}
use Rattle.patterns.proofs.translate.push_states.Goals as goal

pub loop-state-preserved : goal.loop-state-preserved
loop-state-preserved c =
    let d : State = ByteRange (record { start = 0; end = 0; next = 0 }) in
    let same = c.deref-state-items.ensures.value in
    let b = c.args.origin.now.base in
    let p = c.args.origin.now.pattern in
    let ts = c.args.nfa.now.transitions.items in
    ap nodes.nodes_of c.in_ok-push.ensures.items
    ∙ nodes_push b p ts (nodes.nodes_of c.args.states.now.items) c.loop-state.states.items c.in_ok-own.own
    c.args.nfa.now.states.items
    c.loop-state.state-index d
    (subst (λ (v : List State). c.loop-state.state-index < length v) same c.loop-state-test.true)
    c.loop-state.invariant
    (c.in_ok-own.ensures.node
    ∙ ap (λ (v : List State). translated.node_of b p ts (get_or v c.loop-state.state-index d)) same)

pub returns-in_err-own-clause-refused : goal.returns-in_err-own-clause-refused
returns-in_err-own-clause-refused c =
    let k = c.args.nfa.now in
    let i = c.loop-state.state-index in
    let same = c.deref-state-items.ensures.value in
    of_error c.from_residual-in_err-own.result _ _ c.from_residual-in_err-own.ensures.1
    (c.in_err-own.ensures.refused i
    (sound_of k i _
    (ap (λ (v : List State). get_or v i Fail) (sym same)
    ∙ get_or_default c.deref-state-items.result.now i Fail _ c.loop-state-test.true)))
