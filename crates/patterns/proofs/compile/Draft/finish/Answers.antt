use Rattle.std.proofs.Common.{◌≡◌, ◌∙◌, ap, arith, length, refl, subst, sym}
use Rattle.std.specs.Prelude.{Err}
use Rattle.automata_base.specs.Nfas.Nodes as ours
use Rattle.automata_base.specs.Nfas.Nodes.{Automaton}
use Rattle.patterns.specs.Faults.{CannotJoin}
use Rattle.patterns.proofs.Building.{of_error}
use Rattle.patterns.proofs.Drafting.{finished}
use Rattle.patterns.proofs.Joining.{id_lacks, rejected, room_lacks}
use Rattle.patterns.proofs.compile.Draft.finish.Goals as goal

pub returns-in-Ok-clause-joined : goal.returns-in-Ok-clause-joined
returns-in-Ok-clause-joined c = λ ks has.
    let same = c.in-Ok.ensures.same in
    let first : c.in_ok-start.start ≡ length c.args.self.now.states.items =
    omega (arith, c.in_ok-start.ensures.id, c.len.ensures) in
    finished c.args.self.now ks c.in-Ok.nfa c.args.utf8 has
    (ap (λ (a : Automaton). ours.nodes_of a.states) same
    ∙ ap (λ v. ours.nodes_of v.items) c.replace-states.ensures.value
    ∙ c.in_ok-unanchored.ensures.nodes)
    (ap (λ (a : Automaton). a.start_pattern) same
    ∙ ap (λ v. v.items) (c.replace-starts.ensures.value ∙ c.in_ok-unanchored.ensures.starts))
    (ap (λ (a : Automaton). a.start_anchored) same ∙ first)
    (ap (λ (a : Automaton). a.start_unanchored) same ∙ c.in_ok-unanchored.ensures.start)
    (ap (λ (a : Automaton). a.flags) same)
    (ap (λ (a : Automaton). a.keeps_unions) same)

pub returns-in_err-start-clause-refused : goal.returns-in_err-start-clause-refused
returns-in_err-start-clause-refused c =
    let count : c.len.result ≡ length c.args.self.now.states.items = omega (arith, c.len.ensures) in
    of_error c.from_residual.result _ _ c.from_residual.ensures.1
    (id_lacks c.args.self.now _ c.in_err-start.field-0.0 count c.in_err-start.ensures.refused)

pub returns-in_err-unanchored-clause-refused : goal.returns-in_err-unanchored-clause-refused
returns-in_err-unanchored-clause-refused c =
    of_error c.from_residual-in_err-unanchored.result _ _ c.from_residual-in_err-unanchored.ensures.1
    (room_lacks c.args.self.now c.in_err-unanchored.field-0.0 c.in_err-unanchored.ensures.refused)

pub returns-in-Err-clause-refused : goal.returns-in-Err-clause-refused
returns-in-Err-clause-refused c =
    let first : c.in_ok-start.start ≡ length c.args.self.now.states.items =
    omega (arith, c.in_ok-start.ensures.id, c.len.ensures) in
    subst (CannotJoin c.args.self.now) (sym c.from.ensures)
    (rejected c.args.self.now _ _ _ _ (Err c.in-Err.error)
    (ap (λ v. ours.nodes_of v.items) c.replace-states.ensures.value ∙ c.in_ok-unanchored.ensures.nodes)
    first c.in_ok-unanchored.ensures.start
    (ap (λ v. v.items) (c.replace-starts.ensures.value ∙ c.in_ok-unanchored.ensures.starts))
    c.in-Err.ensures.refused c.in-Err.ensures.memory c.in-Err.error refl)
