-- A search by steps is where its steps led.
use Rattle.std.proofs.Common.{ℕ, suc, ◌≡◌, ◌∙◌, ◌+◌, ◌*◌, ◌-◌, ◌<◌, ◌≤◌, Bool, true, false, length, Option}
use Rattle.std.proofs.Common.{Some, None, refl, sym, ap, subst, arith, get_or}
use Rattle.std.proofs.lemmas.Option.{slice_get_past}
use Rattle.automata_hybrid.proofs.Words.{byte_before, CacheView, dead, dead_id, fixed_from, Forward, half_at, HalfMatch}
use Rattle.automata_hybrid.proofs.Words.{Input, is_quit, IsBitSet, IsFirstSpan, IsFound, IsStartAnswer, IsStepAnswer}
use Rattle.automata_hybrid.proofs.Words.{Leads, LeadsToDead, LeadsToNamed, Machine, match_kind_of, Names, next}
use Rattle.automata_hybrid.proofs.Words.{Powerset, quit_id, quits_on, ReportedEndsAreRight, Rows, Skips, start_state_of}
use Rattle.automata_hybrid.proofs.Words.{state_in, successor, tape_in, with_base, WithoutBase}
use Rattle.automata_hybrid.specs.Searches.PassContracts.{IsUnderway}
use Rattle.automata_hybrid.specs.Steps.BySteps.{FirstMatchIsFound, HasPatterns, IsFirstMatch, IsFirstPattern, IsStepAt}
use Rattle.automata_hybrid.specs.Steps.BySteps.{IsUnitAt, StandsAt, IsDead, IsUnmatched, LeadsToId}
use Rattle.automata_hybrid.proofs.Storage.Places.{bit_of, zero_one}
use Rattle.automata_hybrid.proofs.Searches.PassState.{clean_dead, clean_ends, clean_last, clean_start, more_at}
use Rattle.automata_hybrid.proofs.Searches.PassState.{more_dead, more_ends, more_last, starts_at, starts_dead}
use Rattle.automata_hybrid.proofs.Searches.PassState.{state_first, state_more}
use Rattle.automata_hybrid.proofs.Searches.Skips.{finds_none, finds_some, found_reported}
use Rattle.automata_hybrid.proofs.Steps.Ids.{Leads-untagged, low_bit}
use Rattle.automata_hybrid.proofs.Searches.Units.{forward_unit, forward_units, nth_read}
use Rattle.automata_base.proofs.Paths.Orders.{some_none}
use Rattle.automata_hybrid.proofs.Steps.Steps.{no_quit_unit}
use Rattle.automata_hybrid.proofs.Fast.Runs.{first_half}
use Rattle.automata_hybrid.proofs.Searches.Directions.{later_none}
use Rattle.automata_hybrid.specs.Private.Cache.Sound.{IsSoundCacheOf}

-- what reading the tags of a table's IDs requires: its machine, the limit on IDs, and a small stride
pub record Tagged (m : Machine) (t : Rows) : Type 0 where
  pub of : t.of ≡ m
  pub low : (id : ℕ) (q : Powerset) → Names t id q → id < fixed_from
  pub small : t.of.stride ≤ 512

-- a sound cache has what it requires
pub tagged_of : {c : CacheView} {m : Machine} → IsSoundCacheOf c m → Tagged m c.store.table
tagged_of sound = record { of = sound.of; low = sound.table.low; small = sound.store.small }

-- a search is at its start state
pub stands_first :
    (m : Machine) (input : Input) (old new : CacheView) (id : ℕ)
    → Tagged m new.store.table → input.earliest ≡ true → input.start ≤ input.end → input.end ≤ length input.haystack
    → IsStartAnswer m input.anchored (byte_before input.haystack input.start) old new id
    → StandsAt m new input input.start id
stands_first m input old new id tagged early undone inside answer = record {
  early = early;
  from = omega arith;
  upto = undone;
  inside = inside;
  row = answer.row;
  state = go answer.named;
} where
  zero_in : 0 ≡ input.start - input.start
  zero_in = omega arith

  go :
      Leads new.store.table id (start_state_of m.nfa input.anchored (byte_before input.haystack input.start))
      → LeadsToId m new input input.start id
  go (LeadsToDead e d) =
      let dies : state_in Forward m input 0 ≡ dead = sym (state_first Forward m input) ∙ d in
      IsDead (e ∙ ap (λ (n : Machine). dead_id n.stride) tagged.of)
      (record {
        found = starts_dead Forward m input dies;
        clean = clean_start Forward m input dies answer.may.0;
        supported = answer.may.1;
      })
  go (LeadsToNamed n) =
      IsUnmatched (subst (λ k. IsUnderway Forward m new.store.table input k id None) zero_in (record {
        undone = undone;
        may = answer.may;
        at =
            starts_at Forward m new.store.table input id
            (subst (Names new.store.table id) (state_first Forward m input) n);
      }))

dead_matchless : (m : Machine) (id : ℕ) → m.stride ≤ 512 → id ≡ dead_id m.stride → IsBitSet id 27 → ⊥
dead_matchless m id small e b = zero_one ((bit_of 27 m.stride 8 id (omega (arith, small)) (omega (arith, e))).0 b)

quit_matchless : (m : Machine) (id : ℕ) → m.stride ≤ 512 → id ≡ quit_id m.stride → IsBitSet id 27 → ⊥
quit_matchless m id small e b = zero_one ((bit_of 27 (2 * m.stride) 4 id (omega (arith, small)) (omega (arith, e))).0 b)

quit_lives : (m : Machine) (id : ℕ) → m.stride ≤ 512 → id ≡ quit_id m.stride → IsBitSet id 30 → ⊥
quit_lives m id small e b = low_bit 30 id (omega (arith, small, e)) b

quit_quits : (m : Machine) (id : ℕ) → m.stride ≤ 512 → id ≡ quit_id m.stride → IsBitSet id 29
quit_quits m id small e = (bit_of 29 (2 * m.stride) 1 id (omega (arith, small)) (omega (arith, e))).1 refl

-- the unit at an offset of the span is the one that a pass reads there
unit_in :
    (input : Input) (at : ℕ) (u : Option ℕ) → input.start ≤ at → at ≤ input.end → input.end ≤ length input.haystack
    → IsUnitAt input at u
    → next (tape_in Forward input) (at - input.start) ≡ u
unit_in input at None from upto inside past =
    forward_unit input at from upto inside ∙ slice_get_past input.haystack at past
unit_in input at (Some byte) from upto inside (less, e) =
    forward_unit input at from upto inside ∙ nth_read input.haystack at byte 0 less e

-- a search at an offset takes a step from there
module _ (m : Machine) (input : Input) (old new : CacheView) (at id to : ℕ) (u : Option ℕ)
    (before : Tagged m old.store.table)
    (after : Tagged m new.store.table) (stands : StandsAt m old input at id) (unit : IsUnitAt input at u)
    (answer : IsStepAnswer m id u old new to) where
  stride : m.stride ≤ 512
  stride = subst (λ (n : Machine). n.stride ≤ 512) after.of after.small

  from : input.start ≤ at
  from = stands.from

  reported_patterns : IsBitSet to 27 → HasPatterns new to
  reported_patterns b q n = (answer.tag q n).0 b

  -- from a dead ID
  module _ (e : id ≡ dead_id m.stride) (none : IsFirstMatch m input None) where
    stays : to ≡ dead_id m.stride
    stays = answer.fixed (omega (arith, e)) ∙ e

    dead_steps : IsStepAt m new input at to
    dead_steps = record {
      row = answer.row;
      reports = reported_patterns;
      found = λ b pattern first. absurd (dead_matchless m to stride stays b);
      dead = λ b. none;
      on = λ silent unquit less. record {
        early = stands.early;
        from = omega (arith, from);
        upto = omega (arith, less);
        inside = stands.inside;
        row = answer.row;
        state = IsDead stays none;
      };
      last = λ silent unquit end. none;
    }

  -- from the ID of a state
  module _ (under : IsUnderway Forward m old.store.table input (at - input.start) id None) where
    abbrev k : ℕ
    k = at - input.start

    place : at ≡ input.start + k
    place = omega (arith, from)

    reads_unit : next (tape_in Forward input) k ≡ u
    reads_unit = unit_in input at u stands.from stands.upto stands.inside unit

    units : input.end - input.start ≡ length (tape_in Forward input).bytes
    units = forward_units input under.undone stands.inside

    few : k ≤ length (tape_in Forward input).bytes
    few = let e = stands.upto in omega (arith, units, e, from)

    plain : id < fixed_from
    plain = before.low id (state_in Forward m input k) under.at.named

    -- the unit is not a quit byte
    module _ (clean : quits_on m u ≡ false) where
      free : (byte : ℕ) → u ≡ Some byte → is_quit m.quits byte ≡ false
      free = no_quit_unit m u clean

      reads :
          (q : Powerset) → Names old.store.table id q
          → Leads new.store.table to (successor m.nfa (match_kind_of m.config) q u)
      reads q n = answer.named clean q n

      tagged_leads : (q : Powerset) → Leads new.store.table to q → IsBitSet to 27 → 0 < length q.patterns
      tagged_leads q (LeadsToDead e d) b =
          absurd (dead_matchless m to stride (e ∙ ap (λ (n : Machine). dead_id n.stride) after.of) b)
      tagged_leads q (LeadsToNamed n) b = (answer.tag q n).0 b

      found_here :
          IsBitSet to 27 → (pattern : ℕ) → IsFirstPattern new to pattern
          → IsFirstMatch m input (Some (record { pattern = pattern; offset = at }))
      found_here b pattern first =
          let reports : (q : Powerset) → Leads new.store.table to q
          → ◌≡◌ {A = Option HalfMatch} (Some (record { pattern = pattern; offset = at })) (half_at q.patterns at None) =
          λ q l. first_half q.patterns pattern at None (tagged_leads q l b) (named_first q l) in
          record {
            found =
                more_ends Forward m old.store.table new.store.table input k id to u None
                (Some (record { pattern = pattern; offset = at })) under.at reads_unit reads free (at, place, reports)
                few stands.early some_none;
            clean =
                clean_ends Forward m old.store.table new.store.table input k id to u None
                (Some (record { pattern = pattern; offset = at })) under.at reads_unit reads free (at, place, reports)
                stands.early some_none under.may.0;
            supported = under.may.1;
          } where
            named_first : (q : Powerset) → Leads new.store.table to q → pattern ≡ get_or q.patterns 0 0
            named_first q (LeadsToDead e d) =
                absurd (dead_matchless m to stride (e ∙ ap (λ (n : Machine). dead_id n.stride) after.of) b)
            named_first q (LeadsToNamed n) = first q n

      dies_here :
          to ≡ dead_id new.store.table.of.stride
          → successor m.nfa (match_kind_of m.config) (state_in Forward m input k) u ≡ dead
          → IsFirstMatch m input None
      dies_here e d =
          let dies : state_in Forward m input (suc k) ≡ dead =
          state_more Forward m input k
          ∙ (ap (successor m.nfa (match_kind_of m.config) (state_in Forward m input k)) reads_unit ∙ d) in
          record {
            found =
                more_dead Forward m old.store.table new.store.table input k id to u None None under.at reads_unit reads
                free (λ l. dies) few;
            clean =
                clean_dead Forward m old.store.table new.store.table input k id to u None None under.at reads_unit reads
                free (λ l. dies) under.may.0;
            supported = under.may.1;
          }

      dead_here :
          Leads new.store.table to (successor m.nfa (match_kind_of m.config) (state_in Forward m input k) u)
          → IsBitSet to 30 → IsFirstMatch m input None
      dead_here (LeadsToDead e d) b = dies_here e d
      dead_here (LeadsToNamed n) b =
          absurd (let l : to
          < fixed_from =
          after.low to (successor m.nfa (match_kind_of m.config) (state_in Forward m input k) u) n in
          low_bit 30 to (omega (arith, l)) b)

      -- no match is reported
      module _ (silent : IsBitSet to 27 → ⊥) where
        reports : (q : Powerset) → Leads new.store.table to q → None ≡ half_at q.patterns at None
        reports q l = sym (ap (λ ps. half_at ps at None) (Leads-untagged new.store.table to q l (answer.tag q) silent))

        end_here : at ≡ input.end → IsFirstMatch m input None
        end_here end =
            let last : k ≡ length (tape_in Forward input).bytes = omega (arith, units, end) in
            record {
              found =
                  more_last Forward m old.store.table new.store.table input k id to u None None under.at reads_unit
                  reads free (at, place, reports) last;
              clean =
                  clean_last Forward m old.store.table new.store.table input k id to u None None under.at reads_unit
                  reads free last under.may.0;
              supported = under.may.1;
            }

        goes_on :
            Leads new.store.table to (successor m.nfa (match_kind_of m.config) (state_in Forward m input k) u)
            → LeadsToId m new input (at + 1) to
        goes_on (LeadsToDead e d) = IsDead (e ∙ ap (λ (n : Machine). dead_id n.stride) after.of) (dies_here e d)
        goes_on (LeadsToNamed n) =
            let there : Names new.store.table to (state_in Forward m input (suc k)) =
            subst (Names new.store.table to)
            (sym (state_more Forward m input k
            ∙ ap (successor m.nfa (match_kind_of m.config) (state_in Forward m input k)) reads_unit)) n in
            IsUnmatched (subst (λ n. IsUnderway Forward m new.store.table input n to None) more (record {
              undone = under.undone;
              may = under.may;
              at =
                  more_at Forward m old.store.table new.store.table input k id to u None None under.at reads_unit reads
                  free (at, place, reports) (λ e. refl) (λ l. there);
            })) where
              more : suc k ≡ at + 1 - input.start
              more = omega (arith, from)

        on_here : at < input.end → StandsAt m new input (at + 1) to
        on_here less = record {
          early = stands.early;
          from = omega (arith, from);
          upto = omega (arith, less);
          inside = stands.inside;
          row = answer.row;
          state = goes_on (reads (state_in Forward m input k) under.at.named);
        }

    -- a quit byte leads to quit
    quit_to : quits_on m u ≡ true → to ≡ quit_id m.stride
    quit_to q = answer.quit plain q

    state_steps : (b : Bool) → quits_on m u ≡ b → IsStepAt m new input at to
    state_steps true q = record {
      row = answer.row;
      reports = reported_patterns;
      found = λ b pattern first. absurd (quit_matchless m to stride (quit_to q) b);
      dead = λ b. absurd (quit_lives m to stride (quit_to q) b);
      on = λ silent unquit less. absurd (unquit (quit_quits m to stride (quit_to q)));
      last = λ silent unquit end. absurd (unquit (quit_quits m to stride (quit_to q)));
    }
    state_steps false q = record {
      row = answer.row;
      reports = reported_patterns;
      found = found_here q;
      dead = dead_here q (reads q (state_in Forward m input k) under.at.named);
      on = λ silent unquit less. on_here q silent less;
      last = λ silent unquit end. end_here q silent end;
    }

  go : LeadsToId m old input at id → IsStepAt m new input at to
  go (IsDead e none) = dead_steps e none
  go (IsUnmatched under) = state_steps under (quits_on m u) refl

  pub stands_step : IsStepAt m new input at to
  stands_step = go stands.state

-- what one run answers is what a search finds, if no place is skipped
pub run_found :
    (m : Machine) (input : Input) (half : Option HalfMatch)
    → (Skips m → ⊥) → input.start ≤ input.end → IsFirstMatch m input half → WithoutBase (IsFound Forward m input) half
run_found m input None plain undone run = (
  None,
  finds_none Forward m input input 0 (later_none Forward input)
      (record { comes = IsFirstSpan refl; before = λ j less. absurd (omega (arith, less)) }) (omega (arith, undone))
      run.found
      run.clean,
  refl,
)
run_found m input (Some half) plain undone run = (
  Some (with_base half input.start),
  finds_some Forward m input input 0 (later_none Forward input)
      (record { comes = IsFirstSpan refl; before = λ j less. absurd (omega (arith, less)) }) (omega (arith, undone))
      half
      run.found
      run.clean (λ skips. absurd (plain skips)),
  refl,
)

pub first_match_is_found : (m : Machine) → ReportedEndsAreRight m.nfa → FirstMatchIsFound m
first_match_is_found m ends input half plain bytes undone inside run =
    let found : WithoutBase (IsFound Forward m input) half = run_found m input half plain undone run in (
      found,
      λ early. (
        found.0,
        (ends Forward (match_kind_of m.config) input found.0 (bytes, inside)
            (found_reported Forward m input found.0 found.1)).0 early,
        found.2,
      ),
    )
