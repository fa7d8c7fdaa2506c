-- What searches return, whatever is cached.
use Rattle.std.proofs.Common.{ℕ, zero, suc, ◌≡◌, ◌∙◌, ◌+◌, ◌<◌, Option, Some, None, refl, sym, ap, subst, arith}
use Rattle.automata_hybrid.proofs.Words.{CannotStart, Direction, Err, FailsLater, Forward, Half, HalfMatch, HaveTried}
use Rattle.automata_hybrid.proofs.Words.{IfErr, IfOk, IfSome, Input, IsFound, IsSearchRun, IsStoreOf, Known, LacksMode}
use Rattle.automata_hybrid.proofs.Words.{later, Machine, Ok, PassesEnd, PassFails, QuitsBehind, Result, result_err}
use Rattle.automata_hybrid.proofs.Words.{SearchError, Stored, supports, with_base, WithoutBase}
use Rattle.std.specs.Prelude.{◌-◌}
use Rattle.automata_hybrid.specs.Searches.Contracts.{IsUnsupported, based_half, unsupported_error}
use Rattle.automata_hybrid.specs.Private.Searches.Contracts.{IsSearchResult, halves}
use Rattle.automata_hybrid.specs.Searches.Progress.{TriesSpan}
use Rattle.automata_hybrid.proofs.Searches.Directions.{later_anchored, later_none}
use Rattle.automata_hybrid.proofs.Searches.PassState.{false_true}
use Rattle.automata_hybrid.proofs.Searches.Progress.{tries_first}

-- a cache whose machine is the DFA's, and which satisfies `IsStoreOf` for that machine, is a cache of the DFA
pub is_store : (c : Stored) (m : Machine) → c.table.of ≡ m → IsStoreOf c c.table.of → IsStoreOf c m
is_store c m of bounds = subst (λ (n : Machine). IsStoreOf c n) of bounds

-- answers without their bases
pub halves_ok :
    (P : Option Half → Type 0) (r : Result (Option (HalfMatch × ℕ)) SearchError)
    → IfOk r (λ o. P (based_half o)) → IfOk (halves r) (WithoutBase P)
halves_ok P (Ok None) h = (None, h, refl)
halves_ok P (Ok (Some p)) h = (Some (with_base p.0 p.1), h, refl)
halves_ok P (Err e) h = tt

pub halves_err :
    (Q : SearchError → Type 0) (r : Result (Option (HalfMatch × ℕ)) SearchError) → IfErr r Q → IfErr (halves r) Q
halves_err Q (Ok o) h = tt
halves_err Q (Err e) h = h

halves_error : (r : Result (Option (HalfMatch × ℕ)) SearchError) → result_err (halves r) ≡ result_err r
halves_error (Ok o) = refl
halves_error (Err e) = refl

-- what a search returns, clause by clause
module _ (way : Direction) (m : Machine) (input : Input) (old new : Known) where
  pub search_found :
      (r : Result (Option (HalfMatch × ℕ)) SearchError) → IsSearchResult way m input old new r
      → IfOk r (λ o. IsFound way m input (based_half o))
  search_found (Ok o) h = h.found
  search_found (Err e) h = tt

  pub search_run :
      (r : Result (Option (HalfMatch × ℕ)) SearchError) → IsSearchResult way m input old new r
      → IsSearchRun way m input old new (result_err r)
  search_run (Ok o) h = h.effect
  search_run (Err e) h = h

  -- the same without the start of the span
  pub half_found :
      (r : Result (Option (HalfMatch × ℕ)) SearchError) (v : Result (Option HalfMatch) SearchError) → v ≡ halves r
      → IsSearchResult way m input old new r → IfOk v (WithoutBase (IsFound way m input))
  half_found r v same h =
      subst (λ o. IfOk o (WithoutBase (IsFound way m input))) (sym same)
      (halves_ok (IsFound way m input) r (search_found r h))

  pub half_run :
      (r : Result (Option (HalfMatch × ℕ)) SearchError) (v : Result (Option HalfMatch) SearchError) → v ≡ halves r
      → IsSearchResult way m input old new r → IsSearchRun way m input old new (result_err v)
  half_run r v same h =
      subst (IsSearchRun way m input old new) (sym (ap result_err same ∙ halves_error r)) (search_run r h)

  -- if the span is done, it finds nothing
  pub search_done :
      (r : Result (Option (HalfMatch × ℕ)) SearchError) → IsSearchResult way m input old new r
      → input.end < input.start → r ≡ Ok None
  search_done (Ok None) h past = refl
  search_done (Ok (Some p)) h past = absurd (omega (arith, past, h.found.2.within))
  search_done (Err e) h past = absurd (omega (arith, past, (h.tried 0 (omega arith)).1))

-- the number of passes that a forward search makes, by its answer
pub search_upto :
    (m : Machine) (input : Input) (old new : Known) (r : Result (Option (HalfMatch × ℕ)) SearchError)
    → IsSearchResult Forward m input old new r
    → IfOk r (λ o. IfSome o (λ p. HaveTried Forward m input (p.1 - input.start + 1) old new))
search_upto m input old new (Ok o) h = h.upto refl
search_upto m input old new (Err e) h = tt

-- a search whose anchored mode is not supported
module _ (way : Direction) (m : Machine) (input : Input) (u : IsUnsupported way m input) where
  -- no pass ends
  no_pass : (passes : ℕ) (old new : Known) → PassesEnd way m input (suc passes) old new → ⊥
  no_pass passes old new ends =
      false_true (sym u.mode ∙ (ap (supports m) (sym (later_anchored way passes input)) ∙ ends.2.may.1))

  none_ends :
      (passes : ℕ) (old new : Known) → (TriesSpan way m input passes → ⊥) → PassesEnd way m input passes old new → ⊥
  none_ends zero old new last ends = last (tries_first way m input, omega (arith, u.undone))
  none_ends (suc passes) old new last ends = no_pass passes old new ends

  -- the first pass fails with that error
  first_fails : (old new : Known) (e : SearchError) → PassFails way m input old new e → e ≡ unsupported_error input
  first_fails old new e (QuitsBehind byte behind is same) = cc (u.behind)
  first_fails old new e (LacksMode behind mode is same) = is
  first_fails old new e (CannotStart may fails) = absurd (false_true (sym u.mode ∙ may.1))
  first_fails old new e (FailsLater may begun starts fails) = absurd (false_true (sym u.mode ∙ may.1))

  fails_so :
      (passes : ℕ) (old mid new : Known) (e : SearchError) → PassesEnd way m input passes old mid
      → PassFails way m (later way passes input) mid new e → e ≡ unsupported_error input
  fails_so zero old mid new e ends fails =
      first_fails mid new e (subst (λ (i : Input). PassFails way m i mid new e) (sym (later_none way input)) fails)
  fails_so (suc passes) old mid new e ends fails = absurd (no_pass passes old mid ends)

  pub search_unsupported :
      (old new : Known) (r : Result (Option (HalfMatch × ℕ)) SearchError) → IsSearchResult way m input old new r
      → r ≡ Err (unsupported_error input)
  search_unsupported old new (Ok o) h = absurd (none_ends h.effect.passes old new h.effect.last h.effect.ends)
  search_unsupported old new (Err e) h =
      ap (λ (v : SearchError). Err v) (fails_so h.passes old h.mid new e h.ends h.fails)
