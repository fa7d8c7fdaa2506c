-- What a run along a trace has found so far, unit by unit, and its state after one more unit.
use Rattle.std.proofs.Common.{ℕ, suc, ◌≡◌, ◌<◌, ◌≤◌, ◌⊎◌, inl, inr, Bool, true, false, List, [], ◌∷◌, Option, Some}
use Rattle.std.proofs.Common.{None, refl, sym, ap, ◌∙◌, subst, arith}
use Rattle.std.proofs.lemmas.Bool.{cases_lt}
use Rattle.automata_hybrid.proofs.Words.{Direction, earlier_or, first_among, half_at, half_of, HalfMatch, Input}
use Rattle.automata_hybrid.proofs.Words.{is_quit, IsAtAlong, IsTrace, Leads, Machine, match_kind_of, Names, next}
use Rattle.automata_hybrid.proofs.Words.{offset_in, Pair, pair_at, pass_trace, Powerset, Rows, state_on, successor}
use Rattle.automata_hybrid.proofs.Words.{tape_in, Trace}
use Rattle.automata_determinize.specs.Retraced.Passes.{last_among}
use Rattle.automata_hybrid.specs.Searches.Passes.{reported_along}

-- a pass runs along its trace
pub pass_is_trace : (way : Direction) (m : Machine) (input : Input) → IsTrace way m input (pass_trace way m input)
unfolding state_on
pass_is_trace way m input = record { steps = λ k. refl; reports = λ k. refl }

pub half_of_none : (way : Direction) (input : Input) (o : Option Pair) → half_of way input o ≡ None → o ≡ None
half_of_none way input None e = refl
half_of_none way input (Some pair) e = cc

pub pair_half :
    (way : Direction) (input : Input) (ps : List ℕ) (k : ℕ) (o : Option Pair)
    → half_of way input (pair_at ps k o) ≡ half_at ps (offset_in way input k) (half_of way input o)
pair_half way input [] k o = refl
pair_half way input (p ∷ ps) k o = refl

found_by :
    (way : Direction) (input : Input) (e : Bool) (state : ℕ → Powerset) (k : ℕ)
    → (e ≡ true → half_of way input (reported_along e state k) ≡ None)
    → half_of way input (reported_along e state (suc k))
    ≡ half_at (state (suc k)).patterns (offset_in way input k) (half_of way input (reported_along e state k))
found_by way input false state k first =
    pair_half way input (state (suc k)).patterns k (last_among (λ i. (state (suc i)).patterns) k)
found_by way input true state k first =
    let before : Option Pair = first_among (λ i. (state (suc i)).patterns) k in
    let none : before ≡ None = half_of_none way input before (first refl) in
    ap (λ o. half_of way input (earlier_or o (pair_at (state (suc k)).patterns k None))) none
    ∙ (pair_half way input (state (suc k)).patterns k None
    ∙ ap (λ o. half_at (state (suc k)).patterns (offset_in way input k) (half_of way input o)) (sym none))

pub earlier_none : (o : Option Pair) → earlier_or o None ≡ o
earlier_none None = refl
earlier_none (Some pair) = refl

silent_by :
    (e : Bool) (state : ℕ → Powerset) (k : ℕ) → (state (suc k)).patterns ≡ []
    → reported_along e state (suc k) ≡ reported_along e state k
silent_by false state k n = ap (λ ps. pair_at ps k (last_among (λ i. (state (suc i)).patterns) k)) n
silent_by true state k n =
    let before : Option Pair = first_among (λ i. (state (suc i)).patterns) k in
    ap (λ ps. earlier_or before (pair_at ps k None)) n ∙ earlier_none before

none_by : (e : Bool) (state : ℕ → Powerset) → reported_along e state 0 ≡ None
none_by false state = refl
none_by true state = refl

module _ {s : Trace} {way : Direction} {m : Machine} {input : Input} (trace : IsTrace way m input s) where
  -- after one more unit it has found what the state there reports, or what it had found before
  pub found_along :
      (k : ℕ) → (input.earliest ≡ true → half_of way input (s.reported k) ≡ None)
      → half_of way input (s.reported (suc k))
      ≡ half_at (s.state (suc k)).patterns (offset_in way input k) (half_of way input (s.reported k))
  found_along k first =
      let now : half_of way input (s.reported k) ≡ half_of way input (reported_along input.earliest s.state k) =
      ap (half_of way input) (trace.reports k) in
      ap (half_of way input) (trace.reports (suc k))
      ∙ (found_by way input input.earliest s.state k (λ e. sym now ∙ first e)
      ∙ ap (half_at (s.state (suc k)).patterns (offset_in way input k)) (sym now))

  -- a unit after which the state has no patterns reports nothing
  pub quiet_along : (k : ℕ) → (s.state (suc k)).patterns ≡ [] → s.reported (suc k) ≡ s.reported k
  quiet_along k silent =
      trace.reports (suc k) ∙ (silent_by input.earliest s.state k silent ∙ sym (trace.reports k))

  -- before its first unit it has found nothing
  pub none_along : None ≡ half_of way input (s.reported 0)
  none_along = sym (ap (half_of way input) (trace.reports 0 ∙ none_by input.earliest s.state))

  -- it begins at its first state
  pub begins_along : {t : Rows} {id : ℕ} → Names t id (s.state 0) → IsAtAlong s way m t input 0 id None
  begins_along n =
      record { named = n; reported = none_along; nothing = λ e. refl; clean = λ j byte l e. absurd (omega (arith, l)) }

  -- it reads one more unit at its current place
  module _ (t t' : Rows) (k id id' : ℕ) (u : Option ℕ) (found found' : Option HalfMatch)
      (at : IsAtAlong s way m t input k id found) (unit : next (tape_in way input) k ≡ u)
      (reads : (q : Powerset) → Names t id q → Leads t' id' (successor m.nfa (match_kind_of m.config) q u)) where
    pub leads_along : Leads t' id' (s.state (suc k))
    leads_along =
        subst (λ q. Leads t' id' q)
        (sym (trace.steps k ∙ ap (successor m.nfa (match_kind_of m.config) (s.state k)) unit))
        (reads (s.state k) at.named)

    -- the next ID reports its patterns at the offset of the place
    abbrev pub ReportsAlong : Type 0
    ReportsAlong =
        (o : ℕ) × (o ≡ offset_in way input k) × ((q : Powerset) → Leads t' id' q → found' ≡ half_at q.patterns o found)

    first_along : input.earliest ≡ true → half_of way input (s.reported k) ≡ None
    first_along e = sym at.reported ∙ at.nothing e

    -- what it has found then
    pub more_along : ReportsAlong → found' ≡ half_of way input (s.reported (suc k))
    more_along reports =
        reports.2 (s.state (suc k)) leads_along
        ∙ (ap (λ v. half_at (s.state (suc k)).patterns v found) reports.1
        ∙ (ap (half_at (s.state (suc k)).patterns (offset_in way input k)) at.reported
        ∙ sym (found_along k first_along)))

    -- the unit is not a quit byte
    module _ (free : (byte : ℕ) → u ≡ Some byte → is_quit m.quits byte ≡ false) where
      pub clean_along : (j byte : ℕ) → j < suc k → next (tape_in way input) j ≡ Some byte → is_quit m.quits byte ≡ false
      clean_along j byte l e = go (cases_lt j k) where
        go : (j < k) ⊎ (k ≤ j) → is_quit m.quits byte ≡ false
        go (inl less) = at.clean j byte less e
        go (inr more) =
            let same : k ≡ j = omega (arith, l, more) in
            free byte (sym unit ∙ (ap (next (tape_in way input)) same ∙ e))

      -- it continues at the next place, if the state there is not dead
      pub at_along :
          ReportsAlong → (input.earliest ≡ true → found' ≡ None)
          → (Leads t' id' (s.state (suc k)) → Names t' id' (s.state (suc k)))
          → IsAtAlong s way m t' input (suc k) id' found'
      at_along reports first alive =
          record { named = alive leads_along; reported = more_along reports; nothing = first; clean = clean_along }
