-- Captures that are read from the simulation of the right program hold the groups of the match.
use Rattle.std.proofs.Common.{ℕ, ◌≡◌, ◌+◌, ◌-◌, ◌*◌, ◌<◌, ◌≤◌, ◌∙◌, List, All, Option, None, length, map, ap, arith}
use Rattle.std.proofs.Common.{ne_eqb, sym, vec_len, ⊎_elim}
use Rattle.std.proofs.lemmas.Bool.{cond-false, cases_lt}
use Rattle.std.proofs.lemmas.List.{get_or_past}
use Rattle.std.specs.List.{range_with_len}
use mathlib.Core.Path.{fun_ext}
use Rattle.regex_hir.specs.Find as kit
use Rattle.regex_hir.specs.Re.{Re}
use Rattle.regex_vm.specs.Found.{cell, group_cells}
use Rattle.regex.proofs.WritesLemmas.{writes_are_tidy}
use Rattle.automata_base.specs.Haystacks.Matches.{Match}
use Rattle.meaning.specs.Patterns.{any_of, numbered_match}
use Rattle.meta.specs.Captures.{HoldGroups, span_in}
use Rattle.meta.specs.Groups.{FindAllGroups, IsPreferredMatch, group_span, span_between}
use Rattle.meta.specs.Slots.{slots_span}
use Rattle.meta.specs.declared.captures.Captures.{Captures}
use Rattle.meta.specs.declared.program.Program.{Program}
use Rattle.meta.proofs.Simulating.{HasFirst, first_program, never_written, run_writes}
use Rattle.meta.proofs.Slots.{spans_of_slots}

module _ (ps : List Program) (res : List Re) (hay : List ℕ) (bytes : All (λ b. b < 256) hay) (m : kit.Match)
    (finds : FindAllGroups ps res) (preferred : IsPreferredMatch res hay m) where
  -- the program of the pattern that matched
  abbrev pub first : HasFirst ps res hay m.start m.trace
  first = first_program hay bytes m.start ps res m.trace finds preferred

  -- the match that its simulation finds
  abbrev pub simulated_match : kit.Match
  simulated_match = record { start = m.start; trace = first.trace }

  same_cells : (width : ℕ) → group_cells simulated_match width ≡ group_cells m width
  unfolding group_cells
  same_cells width =
      ap (λ (f : ℕ → ℕ). map f (range_with_len 0 width)) (fun_ext λ k. ap cell (first.same.writes (k + 2)))

  unwritten : (slot : ℕ) → first.program.nfa.slot_count ≤ slot → kit.last_write m.trace.writes slot ≡ None
  unwritten slot past =
      sym (first.same.writes slot)
      ∙ never_written first.trace.writes first.program.nfa.slot_count slot
      (run_writes first.program.nfa hay (length hay) first.program.nfa.start m.start first.trace first.runs) past

  module _ (found : Match) (is : found ≡ numbered_match res hay m) (slots : List ℕ)
      (cells : slots ≡ group_cells simulated_match (first.program.nfa.slot_count - 2)) where
    from_slots : (group : ℕ) → slots_span found slots group ≡ group_span m group
    from_slots group =
        ap (λ (s : List ℕ). slots_span found s group) (cells ∙ same_cells _)
        ∙ spans_of_slots m found (ap (λ (f : Match). f.start) is) (ap (λ (f : Match). f.end) is) _
        (writes_are_tidy hay (any_of res) m.start m.trace preferred) (first.program.nfa.slot_count - 2) group
        (λ slot past. unwritten slot (omega (arith, past)))

    pub held :
        (c : Captures) → first.program.nfa.slot_count ≤ 2 * vec_len c.spans
        → ((group : ℕ) → group < vec_len c.spans → span_in c group ≡ slots_span found slots group)
        → HoldGroups m c
    held c room spans group =
        ⊎_elim (λ (inside : group < vec_len c.spans). spans group inside ∙ from_slots group)
        (λ (past : vec_len c.spans ≤ group).
        let whole = first.program.nfa.whole_match in
        get_or_past c.spans.items group None (omega (arith, past, c.spans.ok.0))
        ∙ sym (cond-false _ _ _ (ne_eqb group 0 (omega (arith, past, room, whole)))
        ∙ ap (λ (o : Option ℕ). span_between o (kit.last_write m.trace.writes (2 * group + 1)))
        (unwritten (2 * group) (omega (arith, past, room)))))
        (cases_lt group (vec_len c.spans))
