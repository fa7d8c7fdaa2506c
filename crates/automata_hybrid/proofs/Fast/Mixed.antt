-- Cached transitions followed one by one from a match, into states with or without patterns.
use Rattle.std.proofs.Common.{ℕ, suc, ◌≡◌, ◌∙◌, ◌+◌, ◌-◌, ◌<◌, ◌≤◌, ◌^◌, ◌⊎◌, inl, inr, true, Option, sym, ap}
use Rattle.std.proofs.Common.{subst, arith}
use Rattle.automata_hybrid.proofs.Words.{Direction, half_at, half_of, HalfMatch, HasOnly, HasReadNoQuit, Input}
use Rattle.automata_hybrid.proofs.Words.{IsAtAlong, IsTrace, Machine, Names, offset_in, Powerset, Stored, Trace}
use Rattle.automata_hybrid.proofs.Words.{unknown_id}
use Rattle.automata_hybrid.specs.Cache.Ids.{HasMatchTag}
use Rattle.automata_hybrid.specs.Private.Searches.PassState.{HasLearnedAlong, HasRun, IsFollowedAlong, IsPeekedAlong}
use Rattle.automata_hybrid.proofs.Storage.Places.{match_tagged}
use Rattle.automata_hybrid.proofs.Fast.Runs.{followed_clean, followed_known, reported_upto, no_tag, match_tag}
use Rattle.automata_hybrid.proofs.Searches.Traces.{found_along}
use Rattle.std.proofs.lemmas.Bool.{cases_lt}

-- the state of an ID, read at place `mark`, is the last one before place `at` that reported a match
pub record ReportedLast (s : Trace) (way : Direction) (c : Stored) (input : Input) (at id mark : ℕ) : Type 0 where
  pub state : Powerset
  pub named : Names c.table id state
  pub tagged : HasMatchTag id
  pub before : Option HalfMatch
  pub last : half_at state.patterns (offset_in way input mark) before ≡ half_of way input (s.reported at)

-- cached transitions led a run from one place to another, where it is at an ID: the last match found is the one from
-- before if no ID on the way has reported a match, and otherwise the match of the last ID that has
pub record HasRunOn (s : Trace) (way : Direction) (m : Machine) (c : Stored) (input : Input) (from at id : ℕ)
    (found : Option HalfMatch) (reported mark : ℕ) : Type 0 where
  pub run : HasRun s way m c input from at
  pub named : Names c.table id (s.state at)
  pub clean : HasReadNoQuit way m input at
  pub none : unknown_id ≤ reported → found ≡ half_of way input (s.reported at)
  pub some : reported < unknown_id → ReportedLast s way c input at reported mark

module _ {s : Trace} {way : Direction} {m : Machine} {c : Stored} {input : Input} where
  -- a run that has not moved yet
  pub run_on_none :
      {at id : ℕ} {found : Option HalfMatch} {reported mark : ℕ}
      → unknown_id ≤ reported → at < input.end - input.start → IsAtAlong s way m c.table input at id found
      → HasRunOn s way m c input at at id found reported mark
  run_on_none none inside here =
      record {
        run =
            record {
              more = omega arith;
              within = omega (arith, inside);
              known = λ k more less. absurd
                  (omega (arith, more, less));
            };
        named = here.named;
        clean = here.clean;
        none = λ u. here.reported;
        some = λ l. absurd (omega (arith, l, none));
      }

  -- one more cached transition was followed
  run_one :
      {from at : ℕ} {tag id : ℕ} → at < input.end - input.start → HasRun s way m c input from at
      → IsFollowedAlong s way m c input tag at (at + 1) id → HasRun s way m c input from (at + 1)
  run_one {from} {at} inside run one =
      record {
        more = omega (arith, run.more);
        within = omega (arith, inside);
        known = λ k more less. each k more less (cases_lt k at);
      } where
        each : (k : ℕ) → from ≤ k → k < at + 1 → (k < at) ⊎ (at ≤ k) → HasLearnedAlong s way m c input k
        each k more less (inl before) = run.known k more before
        each k more less (inr behind) = followed_known one k behind less

  module _ {from at id next : ℕ} {found : Option HalfMatch} {reported mark : ℕ} (trace : IsTrace way m input s)
      (inside : at < input.end - input.start) (peeked : IsPeekedAlong s way m c input at id next)
      (here : HasRunOn s way m c input from at id found reported mark) where
    -- it leads to a state without patterns
    pub run_on_quiet : next < 2 ^ 27 → HasRunOn s way m c input from (at + 1) next found reported mark
    run_on_quiet low =
        let one = ((peeked (omega (arith, low))).run 0 no_tag (record { from = omega arith; below = low })).followed in
        let same : s.reported at ≡ s.reported (at + 1) = reported_none one in
        record {
          run = run_one inside here.run one;
          named = one.named;
          clean = followed_clean one here.clean;
          none = λ u. here.none u ∙ ap (half_of way input) same;
          some = λ l.
              let r = here.some l in
              record {
                state = r.state;
                named = r.named;
                tagged = r.tagged;
                before = r.before;
                last = r.last
                    ∙ ap (half_of way input) same;
              };
        } where
          reported_none : IsFollowedAlong s way m c input 0 at (at + 1) next → s.reported at ≡ s.reported (at + 1)
          reported_none one = sym (reported_upto one trace (at + 1) (omega arith) (omega arith))

    -- it leads to a state with patterns, and the search is not earliest
    pub run_on_match :
        (input.earliest ≡ true → ⊥) → HasOnly (2 ^ 27) next → HasRunOn s way m c input from (at + 1) next found next at
    run_on_match late only =
        let one = ((peeked (omega (arith, only.below))).run (2 ^ 27) match_tag only).followed in
        let more : suc at ≡ at + 1 = omega arith in
        record {
          run = run_one inside here.run one;
          named = one.named;
          clean = followed_clean one here.clean;
          none = λ u. absurd (omega (arith, u, only.below));
          some = λ l.
              record {
                state = s.state (at + 1);
                named = one.named;
                tagged = match_tagged next only;
                before = half_of way input (s.reported at);
                last =
                    subst
                    (λ n. half_at (s.state n).patterns (offset_in way input at) (half_of way input (s.reported at))
                    ≡ half_of way input (s.reported n))
                    more (sym (found_along trace at (λ e. absurd (late e))));
              };
        }

  -- at its current place the run has found the last match reported
  pub run_on_at :
      {from at id : ℕ} {found found' : Option HalfMatch} {reported mark : ℕ}
      → (input.earliest ≡ true → ⊥) → HasRunOn s way m c input from at id found reported mark
      → (unknown_id ≤ reported → found' ≡ found)
      → (reported < unknown_id → (q : Powerset) → Names c.table reported q → (before : Option HalfMatch)
      → found' ≡ half_at q.patterns (offset_in way input mark) before)
      → IsAtAlong s way m c.table input at id found'
  run_on_at {from} {at} {id} {found} {found'} {reported} {mark} late here none some =
      record {
        named = here.named;
        reported = last (cases_lt reported unknown_id);
        nothing = λ e. absurd (late e);
        clean = here.clean;
      }
    where
      last : (reported < unknown_id) ⊎ (unknown_id ≤ reported) → found' ≡ half_of way input (s.reported at)
      last (inl low) = let r = here.some low in some low r.state r.named r.before ∙ r.last
      last (inr high) = none high ∙ here.none high
