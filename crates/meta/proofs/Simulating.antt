-- An NFA that is simulated on the span of a match finds the groups of that match.
use Rattle.std.proofs.Common.{ℕ, suc, ◌≡◌, ◌+◌, ◌<◌, ◌≤◌, List, [], ◌∷◌, All, Option, Some, None, length}
use Rattle.std.proofs.Common.{◌∙◌, ap, refl, sym, subst, arith, is_some, slice_get}
use Rattle.std.proofs.Common.{ap₂, ne_eqb, true≢false, ⊎_elim}
use Rattle.std.proofs.lemmas.Bool.{cond-false, cond-true}
use Rattle.std.proofs.lemmas.List.Elements.{All-head, All-tail, All-nil, All-cons}
use Rattle.std.proofs.lemmas.Option.{none-some, same_Some}
use Rattle.std.specs.Option.{option_or}
use Rattle.regex_hir.specs.Find as kit
use Rattle.regex_hir.specs.Re.{Re, Trace, accept, attempt}
use Rattle.regex_hir.proofs.AttemptLemmas.{attempt_none, cond_some, option_and_then_some}
use Rattle.regex_class.proofs.RangesLemmas.{in_ranges-nil}
use Rattle.regex_hir.proofs.FindLemmas.{first_between_here}
use Rattle.regex_hir.proofs.OptionLemmas.{option_or_cases, write_cases}
use Rattle.regex_nfa.specs.Run.{measure, run, state_of}
use Rattle.regex_nfa.specs.States.{read, visit}
use Rattle.regex_nfa.specs.declared.nfa.Nfa.{Nfa}
use Rattle.regex_nfa.specs.declared.state.State.{State}
use Rattle.regex_nfa.specs.declared.state.State.TheVariants.{ByteRange, Sparse, Split, Save, Look, Match, Fail}
use Rattle.regex_nfa.proofs.RunLemmas.{byte_below_some, measure_falls_byte, measure_falls_empty, measure_induction}
use Rattle.regex_nfa.proofs.RunLemmas.{next_on_within, run_unfold, sound_of}
use Rattle.regex_nfa.proofs.StopLemmas.{run_narrower}
use Rattle.regex_hir.specs.Looks.{holds}
use Rattle.regex_nfa.specs.States.{next_on, byte_below}
use Rattle.regex_syntax.specs.Captures.{outcome}
use Rattle.regex_vm.specs.Found.{first_match}
use Rattle.meaning.specs.Patterns.{any_of, first_at}
use Rattle.meta.specs.Groups.{FindAllGroups, FindsGroups}
use Rattle.meta.specs.declared.program.Program.{Program}

-- both end at the same offset, and wrote the same to each slot last
pub record IsSameTrace (t u : Trace) : Type 0 where
  pub end : u.end ≡ t.end
  pub writes : (slot : ℕ) → kit.last_write u.writes slot ≡ kit.last_write t.writes slot

-- what a caller sees of both is the same
pub seen_same :
    (o : Option Trace) (t : Trace) → outcome o ≡ outcome (Some t) → (u : Trace) × (o ≡ Some u) × IsSameTrace t u
unfolding outcome
seen_same None t e = absurd (none-some _ e)
seen_same (Some u) t e =
    let same = same_Some _ _ e in (
      u,
      refl,
      record { end = ap (λ s. s.0) same; writes = λ slot. ap (λ s. s.1 slot) same },
    )

-- the program of the first pattern that matches at an offset finds the groups of the alternation there
pub record HasFirst (ps : List Program) (res : List Re) (hay : List ℕ) (i : ℕ) (t : Trace) : Type 0 where
  pub program : Program
  pub is : slice_get ps (first_at res hay i) ≡ Some program
  pub trace : Trace
  pub same : IsSameTrace t trace
  pub runs : run program.nfa hay (length hay) program.nfa.start i ≡ Some trace

module _ (hay : List ℕ) (bytes : All (λ b. b < 256) hay) (i : ℕ) where
  here :
      (p : Program) (ps : List Program) (re : Re) (res : List Re) (t : Trace) → FindsGroups p.nfa re
      → attempt hay re accept i ≡ Some t → HasFirst (p ∷ ps) (re ∷ res) hay i t
  here p ps re res t finds e =
      let seen = seen_same (run p.nfa hay (length hay) p.nfa.start i) t (finds hay bytes i ∙ ap outcome e) in
      let zero_is : first_at (re ∷ res) hay i ≡ 0 = cond-true (is_some (attempt hay re accept i)) _ _ (ap is_some e) in
      record {
        program = p;
        is = ap (slice_get (p ∷ ps)) zero_is;
        trace = seen.0;
        same = seen.2;
        runs = seen.1;
      }

  later :
      (p : Program) (ps : List Program) (re : Re) (res : List Re) (t : Trace) → attempt hay re accept i ≡ None
      → HasFirst ps res hay i t → HasFirst (p ∷ ps) (re ∷ res) hay i t
  later p ps re res t e h =
      let next : first_at (re ∷ res) hay i ≡ suc (first_at res hay i) =
      cond-false (is_some (attempt hay re accept i)) _ _ (ap is_some e) in
      record {
        program = h.program;
        is = ap (slice_get (p ∷ ps)) next ∙ h.is;
        trace = h.trace;
        same = h.same;
        runs = h.runs;
      }

  pub no_match : attempt hay (any_of []) accept i ≡ None
  no_match = attempt_none hay (any_of []) accept i (λ j m. absurd (true≢false (sym m.2 ∙ in_ranges-nil m.0)))

  pub first_program :
      (ps : List Program) (res : List Re) (t : Trace) → FindAllGroups ps res
      → attempt hay (any_of res) accept i ≡ Some t → HasFirst ps res hay i t
  unfolding attempt
  first_program [] [] t all e = absurd (none-some t (sym no_match ∙ e))
  first_program [] (re ∷ res) t all e = absurd all
  first_program (p ∷ ps) [] t all e = absurd all
  first_program (p ∷ ps) (re ∷ []) t all e = here p ps re [] t all.0 e
  first_program (p ∷ ps) (re ∷ next ∷ res) t all e =
      ⊎_elim (here p ps re (next ∷ res) t all.0)
      (λ none. later p ps re (next ∷ res) t none.0 (first_program ps (next ∷ res) t all.1 none.1))
      (option_or_cases (attempt hay re accept i) _ t e)

-- the simulation over a match alone, which reads no byte after it, finds the match
pub simulated :
    (nfa : Nfa) (hay : List ℕ) (i : ℕ) (t : Trace) → t.end ≤ length hay
    → run nfa hay (length hay) nfa.start i ≡ Some t
    → first_match nfa hay t.end i i ≡ Some (record { start = i; trace = t })
simulated nfa hay i t within e =
    first_between_here _ i i t (omega arith)
    (run_narrower nfa hay (length hay) t.end within nfa.start i t e (omega arith))

-- the slots that a run writes are slots of the NFA
abbrev pub AreSlots : Nfa → Trace → Type 0
AreSlots nfa t = All (λ (w : ℕ × ℕ). w.0 < nfa.slot_count) t.writes

module _ (nfa : Nfa) (hay : List ℕ) (stop : ℕ) where
  abbrev pub Writes : ℕ → ℕ → Type 0
  Writes q i = (t : Trace) → run nfa hay stop q i ≡ Some t → AreSlots nfa t

  read_writes :
      (q i : ℕ) (state : State) → state_of nfa q ≡ state
      → ((r j : ℕ) → measure nfa hay stop r j < measure nfa hay stop q i → Writes r j) → (t : Trace)
      → read nfa.transitions.items hay stop (run nfa hay stop) state i ≡ Some t → AreSlots nfa t
  read_writes q i state is h t e =
      let r = option_and_then_some _ _ t e in
      let b = option_and_then_some (next_on nfa.transitions.items state) (byte_below hay stop i) r.0 r.1 in
      let next : next_on nfa.transitions.items (state_of nfa q) b.0 ≡ Some r.0 =
      ap (λ s. next_on nfa.transitions.items s b.0) is ∙ b.2 in
      h r.0 (i + 1)
      (measure_falls_byte nfa hay stop r.0 q i (byte_below_some hay stop i b.0 b.1).0
      (next_on_within nfa q b.0 r.0 next))
      t r.2

  visit_writes :
      (q i : ℕ) (state : State) → state_of nfa q ≡ state
      → ((r j : ℕ) → measure nfa hay stop r j < measure nfa hay stop q i → Writes r j) → (t : Trace)
      → visit nfa.transitions.items hay stop (run nfa hay stop) state i ≡ Some t → AreSlots nfa t
  visit_writes q i (ByteRange x) is h t e = read_writes q i _ is h t e
  visit_writes q i (Sparse from to) is h t e = read_writes q i _ is h t e
  visit_writes q i (Split first second) is h t e =
      let s = sound_of nfa q _ is in
      ⊎_elim (λ left. h first i (measure_falls_empty nfa hay stop first q i s.0) t left)
      (λ right. h second i (measure_falls_empty nfa hay stop second q i s.1) t right.1)
      (option_or_cases _ _ t e)
  visit_writes q i (Save slot next) is h t e =
      let w = write_cases slot i _ t e in
      let s = sound_of nfa q _ is in
      subst (λ (ws : List (ℕ × ℕ)). All (λ (w : ℕ × ℕ). w.0 < nfa.slot_count) ws) (sym w.3)
      (All-cons (λ (w : ℕ × ℕ). w.0 < nfa.slot_count) _ _ s.0
      (h next i (measure_falls_empty nfa hay stop next q i s.1) w.0 w.1))
  visit_writes q i (Look l next) is h t e =
      let p = cond_some (holds l hay i) _ t e in
      h next i (measure_falls_empty nfa hay stop next q i (sound_of nfa q _ is)) t p.1
  visit_writes q i Match is h t e =
      subst (λ (ws : List (ℕ × ℕ)). All (λ (w : ℕ × ℕ). w.0 < nfa.slot_count) ws)
      (ap (λ (u : Trace). u.writes) (same_Some _ t e)) (All-nil (λ (w : ℕ × ℕ). w.0 < nfa.slot_count))
  visit_writes q i Fail is h t e = absurd (none-some t e)

  pub run_writes : (q i : ℕ) → Writes q i
  run_writes =
      measure_induction nfa hay stop Writes
      (λ q i h t e. visit_writes q i _ refl h t (sym (run_unfold nfa hay stop q i) ∙ e))

pub never_written :
    (ws : List (ℕ × ℕ)) (count slot : ℕ) → All (λ (w : ℕ × ℕ). w.0 < count) ws → count ≤ slot
    → kit.last_write ws slot ≡ None
never_written [] count slot all past = refl
never_written (w ∷ ws) count slot all past =
    let first = All-head (λ (v : ℕ × ℕ). v.0 < count) w ws all in
    ap₂ option_or (never_written ws count slot (All-tail (λ (v : ℕ × ℕ). v.0 < count) w ws all) past)
    (cond-false _ (Some w.1) None (ne_eqb w.0 slot (omega (arith, first, past))))
