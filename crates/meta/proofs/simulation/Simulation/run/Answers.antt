use Rattle.std.proofs.Common.{◌≡◌, ◌∙◌, ◌++◌, ◌-◌, ℕ, Option, Some, ap, ap₂, arith, drop, length, subst, sym, take}
use Rattle.std.proofs.Common.{vec_len}
use Rattle.std.specs.Prelude.{IfSome}
use Rattle.regex_hir.specs.Find as kit
use Rattle.regex_vm.specs.Found.{first_match, group_cells}
use Rattle.meta.proofs.Simulating.{simulated}
use Rattle.meta.proofs.Slots.{all_written, length-group_cells}
use Rattle.meta.proofs.simulation.Simulation.run.Goals as goal

pub returns-clause-slots : goal.returns-clause-slots
returns-clause-slots c = λ trace ends runs.
    let nfa = c.args.program.now.nfa in
    let hay = c.args.hay.now in
    let start = c.args.found.now.start in
    let width = nfa.slot_count - 2 in
    let m : kit.Match = record { start = start; trace = trace } in
    let found : first_match nfa hay c.end-end.result c.start-start.result c.start-start.result ≡ Some m =
    ap₂ (λ (stop i : ℕ). first_match nfa hay stop i i) (c.end-end.ensures.end ∙ sym ends) c.start-start.ensures.start
    ∙ simulated nfa hay start trace (omega (arith, ends, c.requires.within)) runs in
    let size : vec_len c.fill.new.self ≡ width = omega (arith, c.fill.ensures.len, c.requires.of.slots) in
    let wide : length c.fill.new.self.items ≡ width = omega (arith, size, c.fill.new.self.ok.0) in
    let cells : c.find-span.new.groups ≡ group_cells m width =
    subst (λ (o : Option kit.Match). IfSome o (λ n. c.find-span.new.groups
    ≡ group_cells n (length c.deref_mut.result.now))) found c.find-span.ensures.groups
    ∙ ap (group_cells m) (c.deref_mut.ensures.len ∙ size) in
    let rest = drop (length c.find-span.new.groups) c.fill.new.self.items in
    ap (λ (n : ℕ). take n (c.find-span.new.groups ++ rest)) size
    ∙ all_written width c.find-span.new.groups c.fill.new.self.items
    (ap length cells ∙ length-group_cells m width) wide
    ∙ cells
