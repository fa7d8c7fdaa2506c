use Rattle.std.proofs.Common.{◌≡◌, ◌<◌, length, sym, ◌∙◌, arith, true≢false}
use Rattle.std.proofs.lemmas.Bool.{eqb-false}
use Rattle.automata_base.specs.Nfas.Automata.{automaton}
use Rattle.automata_base.proofs.Nfas.Reach.Looped.{second_below, skips_no_union, skips_no_range, skips_unless}
use Rattle.automata_base.proofs.nfa.thompson.skipping.skips_lazily.Goals as goal

pub bounds-states-as_usize-in-Some : goal.bounds-states-as_usize-in-Some
bounds-states-as_usize-in-Some c =
    let at : c.as_usize.result ≡ c.args.unanchored = c.as_usize.ensures.value in
    let here : c.as_usize-in-Some.result ≡ c.in-Some.skip = c.as_usize-in-Some.ensures.value in
    let inside : c.args.unanchored < length c.args.states.now = c.requires.unanchored in
    let below : c.in-Some.skip < length c.args.states.now =
    second_below c.args.states.now c.as_usize.result c.index-states-as_usize.result c.args.anchored c.in-Some.skip
    c.requires.range (omega arith)
    c.index-states-as_usize.is (sym c.second_alternate.ensures ∙ c.in-Some.is) in
    omega arith

pub returns-in-None : goal.returns-in-None
returns-in-None c = λ starts flags.
    let at : c.as_usize.result ≡ c.args.unanchored = c.as_usize.ensures.value in
    let inside : c.args.unanchored < length c.args.states.now = c.requires.unanchored in
    skips_no_union (automaton c.args.states.now c.args.anchored c.args.unanchored starts flags) c.as_usize.result
    c.index-states-as_usize.result
    (eqb-false c.args.unanchored c.args.anchored (sym c.if-eq.ensures)) at (omega arith) c.index-states-as_usize.is
    (sym c.second_alternate.ensures ∙ c.in-None.is)

pub returns-then-not-is_any_byte : goal.returns-then-not-is_any_byte
returns-then-not-is_any_byte c = λ starts flags.
    let at : c.as_usize.result ≡ c.args.unanchored = c.as_usize.ensures.value in
    let here : c.as_usize-in-Some.result ≡ c.in-Some.skip = c.as_usize-in-Some.ensures.value in
    let inside : c.args.unanchored < length c.args.states.now = c.requires.unanchored in
    let second = sym c.second_alternate.ensures ∙ c.in-Some.is in
    let below : c.in-Some.skip < length c.args.states.now =
    second_below c.args.states.now c.as_usize.result c.index-states-as_usize.result c.args.anchored c.in-Some.skip
    c.requires.range (omega arith)
    c.index-states-as_usize.is second in
    skips_no_range (automaton c.args.states.now c.args.anchored c.args.unanchored starts flags) c.as_usize.result
    c.index-states-as_usize.result
    (eqb-false c.args.unanchored c.args.anchored (sym c.if-eq.ensures)) at (omega arith) c.index-states-as_usize.is
    c.in-Some.skip c.as_usize-in-Some.result c.index-states-as_usize-in-Some.result second here (omega arith)
    c.index-states-as_usize-in-Some.is
    (λ e. absurd (true≢false (sym (c.is_any_byte.ensures.1 e) ∙ c.if-not-is_any_byte.true)))

pub returns-else-not-is_any_byte : goal.returns-else-not-is_any_byte
returns-else-not-is_any_byte c = λ starts flags.
    let at : c.as_usize.result ≡ c.args.unanchored = c.as_usize.ensures.value in
    let here : c.as_usize-in-Some.result ≡ c.in-Some.skip = c.as_usize-in-Some.ensures.value in
    let inside : c.args.unanchored < length c.args.states.now = c.requires.unanchored in
    let second = sym c.second_alternate.ensures ∙ c.in-Some.is in
    let below : c.in-Some.skip < length c.args.states.now =
    second_below c.args.states.now c.as_usize.result c.index-states-as_usize.result c.args.anchored c.in-Some.skip
    c.requires.range (omega arith)
    c.index-states-as_usize.is second in
    skips_unless (automaton c.args.states.now c.args.anchored c.args.unanchored starts flags) c.as_usize.result
    c.index-states-as_usize.result
    (eqb-false c.args.unanchored c.args.anchored (sym c.if-eq.ensures)) at (omega arith) c.index-states-as_usize.is
    c.in-Some.skip c.as_usize-in-Some.result c.index-states-as_usize-in-Some.result second here (omega arith)
    c.index-states-as_usize-in-Some.is
    c.leads_back.result c.requires.ordered (c.is_any_byte.ensures.0 c.if-not-is_any_byte.false) c.leads_back.ensures
