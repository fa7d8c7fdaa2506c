-- The match of several programs at an offset is that of their texts.
use Rattle.std.proofs.Common.{ℕ, ◌≡◌, ◌+◌, ◌<◌, ◌∙◌, List, All, Bool, Option, Some, None, ap, arith, get_or, length}
use Rattle.std.proofs.Common.{option_map, subst, sym, take}
use Rattle.std.proofs.lemmas.List.Elements.{All-more}
use Rattle.std.proofs.lemmas.Option.{slice_get-get_or}
use Rattle.regex_hir.specs.Re.{Re, Trace}
use Rattle.meaning.specs.Patterns.{first_at, numbered_match}
use Rattle.meta.specs.Groups.{FindAllGroups}
use Rattle.meta.specs.Sets.{attempt_at, match_at}
use Rattle.meta.specs.Simulations.{IsLeftmostSpan, IsSimulatedSpan, MayBeginAt, run_at}
use Rattle.meta.specs.declared.program.Program.{Program}
use Rattle.meta.proofs.Leftmost.{NoneRuns, none_any, some_any, tried, tried_none}

module _ (utf8 : Bool) (hay : List ℕ) (at : ℕ) where
  -- no program of the list has a match that may begin at the offset
  abbrev pub NoneMatches : List Program → Type 0
  NoneMatches ps = MayBeginAt utf8 hay at → NoneRuns hay at ps

  -- one more program has none
  pub none_next :
      (ps : List Program) (i : ℕ) (d : Program) → i < length ps → NoneMatches (take i ps)
      → IsSimulatedSpan utf8 (get_or ps i d) hay at (at + 1) None → NoneMatches (take (i + 1) ps)
  none_next ps i d inside none nowhere may =
      All-more (λ (p : Program). run_at p hay at ≡ None) ps i d inside (none may)
      (nowhere at (omega arith) (omega arith) may)

  -- no text matches
  pub none_is :
      (ps : List Program) (res : List Re) → All (λ b. b < 256) hay → FindAllGroups ps res → NoneMatches ps
      → None ≡ option_map (numbered_match res hay) (match_at utf8 res hay at)
  none_is ps res bytes all none =
      sym (ap (λ (o : Option Trace). option_map (numbered_match res hay)
      (option_map (λ (trace : Trace). record { start = at; trace = trace }) o))
      (tried_none utf8 res hay at (λ may. none_any hay bytes at ps res all (none may))))

  module _ (p : Program) (span : ℕ × ℕ) (found : IsLeftmostSpan utf8 p hay at (at + 1) span) where
    begins : span.0 ≡ at
    begins = omega (arith, found.after, found.before)

    -- the match of a program, if no earlier one matches, is that of the texts
    pub some_is :
        (ps : List Program) (res : List Re) (i : ℕ) → All (λ b. b < 256) hay → FindAllGroups ps res
        → i < length ps → get_or ps i p ≡ p → NoneMatches (take i ps)
        → Some (record { pattern = i; start = span.0; end = span.1 })
        ≡ option_map (numbered_match res hay) (match_at utf8 res hay at)
    some_is ps res i bytes all inside is none =
        let may : MayBeginAt utf8 hay at = subst (MayBeginAt utf8 hay) begins found.boundary in
        let runs : run_at p hay at ≡ Some found.trace =
        subst (λ (n : ℕ). run_at p hay n ≡ Some found.trace) begins found.runs in
        let w =
        some_any hay bytes at ps res i p found.trace all (slice_get-get_or ps i p inside ∙ ap Some is) (none may) runs
        in
        let here : attempt_at utf8 res hay at ≡ Some w.0 = tried utf8 res hay at may ∙ w.1 in
        let first : first_at res hay at ≡ i = w.3 in
        let ends : w.0.end ≡ span.1 = w.2 ∙ found.ends in
        ap (λ (n : ℕ). Some (record { pattern = n; start = span.0; end = span.1 })) (sym first)
        ∙ ap (λ (n : ℕ). Some (record { pattern = first_at res hay at; start = n; end = span.1 })) begins
        ∙ ap (λ (n : ℕ). Some (record { pattern = first_at res hay at; start = at; end = n })) (sym ends)
        ∙ sym (ap (λ (o : Option Trace). option_map (numbered_match res hay)
        (option_map (λ (trace : Trace). record { start = at; trace = trace }) o)) here)
