-- Runs of cached transitions whose IDs all have exactly one tag, or all have none.
use Rattle.std.proofs.Common.{ℕ, zero, suc, ◌≡◌, ◌∙◌, ◌+◌, ◌-◌, ◌<◌, ◌≤◌, ◌^◌, ◌⊎◌, inl, inr, Bool, true, false, List}
use Rattle.std.proofs.Common.{[], ◌∷◌, length, None, Option, Some, refl, slice_index, sym, ap, subst, arith}
use Rattle.std.proofs.Common.{eq-or-lt_of_le}
use Rattle.automata_hybrid.proofs.Words.{cell_of, class_in, Direction, half_at, half_of, HalfMatch, HasOnly}
use Rattle.automata_hybrid.proofs.Words.{HasReadNoQuit, Input, is_quit, IsAtAlong, IsRunTag, IsTrace, known_step, Leads}
use Rattle.automata_hybrid.proofs.Words.{LeadsToNamed, Machine, match_kind_of, Names, next, offset_in, Powerset}
use Rattle.automata_hybrid.proofs.Words.{quit_id, Stored, successor, tape_in, Trace, unit_class}
use Rattle.automata_hybrid.specs.Private.Cache.Stores.{IsKnownTransition}
use Rattle.automata_hybrid.specs.Private.Searches.PassState.{HasLearnedAlong, IsFollowed, IsFollowedAlong}
use Rattle.automata_hybrid.specs.Private.Searches.PassState.{IsPeekedAlong}
use Rattle.automata_hybrid.specs.Private.Searches.PassState.{IsNextCell, IsOnTrace, IsRun, IsTagAt, IsTaken}
use Rattle.automata_hybrid.specs.Private.Searches.PassContracts.{FollowsAlong, RunsAlong, found_there}
use Rattle.automata_hybrid.specs.declared.search.fast.follow.Stop.{Stop}
use Rattle.automata_hybrid.specs.declared.search.fast.run.Place.{Place}
use Rattle.automata_hybrid.specs.Walks.Answers.{IsSilent}
use Rattle.automata_hybrid.proofs.Steps.Steps.{cell_read}
use Rattle.automata_hybrid.proofs.Storage.Places.{Names-silent}
use Rattle.automata_base.proofs.Paths.Orders.{some_inj}
use Rattle.automata_hybrid.proofs.Searches.PassState.{false_true}
use Rattle.automata_hybrid.proofs.Searches.Traces.{found_along, quiet_along}
use Rattle.automata_hybrid.proofs.Storage.Rows.{Leads-Names}
use Rattle.automata_hybrid.proofs.Walks.Reports.{silent_none, silent_same, silent_trans}
use Rattle.std.proofs.lemmas.Bool.{cases_lt}

-- an empty run
pub followed_none :
    {s : Trace} (way : Direction) (m : Machine) (c : Stored) (input : Input) (tag from id : ℕ)
    → Names c.table id (s.state from) → IsFollowedAlong s way m c input tag from from id
followed_none way m c input tag from id n =
    record { more = omega arith; named = n; taken = λ k l h. absurd (omega (arith, l, h)) }

-- two runs joined
pub followed_on :
    {s : Trace} {way : Direction} {m : Machine} {c : Stored} {input : Input} {tag from k to id id' : ℕ}
    → IsFollowedAlong s way m c input tag from k id → IsFollowedAlong s way m c input tag k to id'
    → IsFollowedAlong s way m c input tag from to id'
followed_on {s} {way} {m} {c} {input} {tag} {from} {k} {to} f g = record {
  more = omega (arith, f.more, g.more);
  named = g.named;
  taken = λ j l h. each j l h (cases_lt j k);
} where
  each : (j : ℕ) → from ≤ j → j < to → (j < k) ⊎ (k ≤ j) → IsTaken s way m c input tag j
  each j l h (inl less) = f.taken j l less
  each j l h (inr more) = g.taken j more h

-- one cached transition, to an ID with only the tag
pub followed_one :
    {s : Trace} (way : Direction) (m : Machine) (c : Stored) (input : Input) (tag k id to byte : ℕ)
    → IsRunTag tag → HasOnly tag to → next (tape_in way input) k ≡ Some byte
    → IsKnownTransition c id (class_in m.classes byte) → class_in m.classes byte < c.table.of.stride
    → (is_quit m.quits byte ≡ true → to ≡ quit_id m.stride)
    → (is_quit m.quits byte ≡ false → to < 2 ^ 31 → (q : Powerset) → Names c.table id q
    → Leads c.table to (successor m.nfa (match_kind_of m.config) q (Some byte)))
    → IsOnTrace s way m c.table input k id → IsFollowedAlong s way m c input tag k (suc k) to
followed_one {s} way m c input tag k id to byte kind only unit known below quit named on =
    go (is_quit m.quits byte) refl where
      plain : to < 2 ^ 29
      plain = omega (arith, only.below, kind.upto)

      go : (b : Bool) → is_quit m.quits byte ≡ b → IsFollowedAlong s way m c input tag k (suc k) to
      go true e = absurd (let h : to ≡ quit_id m.stride = quit e in omega (arith, h, plain))
      go false e =
          let after : s.state (suc k) ≡ successor m.nfa (match_kind_of m.config) (s.state k) (Some byte) =
          on.trace.steps k ∙ ap (successor m.nfa (match_kind_of m.config) (s.state k)) unit in
          let leads : Names c.table to (s.state (suc k)) =
          Leads-Names c.table to (s.state (suc k))
          (subst (Leads c.table to) (sym after) (named e (omega (arith, plain)) (s.state k) on.named)) plain in
          let here : IsTaken s way m c input tag k = record {
            clean = λ other same. subst (λ v. is_quit m.quits v ≡ false) (some_inj (sym unit ∙ same)) e;
            known = (
              (id, on.named, subst (λ v. IsKnownTransition c id (unit_class m v)) (sym unit) known),
              subst (λ v. unit_class m v < c.table.of.stride) (sym unit) below,
            );
            leads = (to, leads, only);
          } in
          record {
            more = omega arith;
            named = leads;
            taken = λ j l h. (let same : k ≡ j = omega (arith, l, h) in subst (IsTaken s way m c input tag) same here);
          }

-- the ID in the cell of the byte at a place is the next ID there
pub peeked_at :
    {s : Trace} (way : Direction) (m : Machine) (c : Stored) (input : Input) (k id to byte : ℕ)
    → k < input.end - input.start → next (tape_in way input) k ≡ Some byte → to ≡ cell_of c id (class_in m.classes byte)
    → class_in m.classes byte < c.table.of.stride
    → (is_quit m.quits byte ≡ true → to ≡ quit_id m.stride)
    → (is_quit m.quits byte ≡ false → to < 2 ^ 31 → (q : Powerset) → Names c.table id q
    → Leads c.table to (successor m.nfa (match_kind_of m.config) q (Some byte)))
    → IsOnTrace s way m c.table input k id → IsPeekedAlong s way m c input k id to
peeked_at {s} way m c input k id to byte within unit value below quit named on = λ low. record {
  within = within;
  cached = value ∙ ap (known_step m c id) (sym unit);
  run = λ tag kind only. (
      let one : suc k ≡ k + 1 = omega arith in
      record {
        followed =
            subst (λ n. IsFollowedAlong s way m c input tag k n to) one
            (followed_one way m c input tag k id to byte kind only unit (subst (λ n. n < 2 ^ 31) value low) below quit
            named on);
        only = only;
      });
}

-- the contents of the cell of the byte that was read
pub next_cell :
    (way : Direction) (m : Machine) (c : Stored) (input : Input) (k id to byte : ℕ)
    → next (tape_in way input) k ≡ Some byte → to ≡ cell_of c id (class_in m.classes byte)
    → IsNextCell way m c input k id to
next_cell way m c input k id to byte unit value =
    cell_read m c id (next (tape_in way input) k) to (value ∙ ap (known_step m c id) (sym unit))

-- runs between IDs with a tag, beginning with the empty run
pub run_none :
    {s : Trace} {way : Direction} {m : Machine} {c : Stored} {input : Input} {tag from id : ℕ}
    → IsTagAt s way m c.table input tag from id → IsRun s way m c input tag from from id
run_none {s} {way} {m} {c} {input} {tag} {from} {id} at =
    record { followed = followed_none way m c input tag from id at.on.named; only = at.only }

-- another run can continue where a run has ended
pub run_at :
    {s : Trace} {way : Direction} {m : Machine} {c : Stored} {input : Input} {tag from to id : ℕ}
    → IsRunTag tag → IsTrace way m input s → IsRun s way m c input tag from to id
    → IsTagAt s way m c.table input tag to id
run_at tags trace f = record { kind = tags; only = f.only; on = record { trace = trace; named = f.followed.named } }

pub run_on :
    {s : Trace} {way : Direction} {m : Machine} {c : Stored} {input : Input} {tag from k to id id' : ℕ}
    → IsRun s way m c input tag from k id → IsRun s way m c input tag k to id' → IsRun s way m c input tag from to id'
run_on f g = record { followed = followed_on f.followed g.followed; only = g.only }

-- the same run, with its end counted differently
pub run_to :
    {s : Trace} {way : Direction} {m : Machine} {c : Stored} {input : Input} {tag from id k to : ℕ}
    → k ≡ to → IsRun s way m c input tag from k id → IsRun s way m c input tag from to id
run_to {s} {way} {m} {c} {input} {tag} {from} {id} same f = subst (λ n. IsRun s way m c input tag from n id) same f

-- the same run, with its last ID given differently
pub run_id :
    {s : Trace} {way : Direction} {m : Machine} {c : Stored} {input : Input} {tag from to id id' : ℕ}
    → id ≡ id' → IsRun s way m c input tag from to id → IsRun s way m c input tag from to id'
run_id {s} {way} {m} {c} {input} {tag} {from} {to} same f = subst (λ n. IsRun s way m c input tag from to n) same f

-- the tags that the IDs of a run may have
pub no_tag : IsRunTag 0
no_tag = record { upto = omega arith; whole = refl }

pub match_tag : IsRunTag (2 ^ 27)
match_tag = record { upto = omega arith; whole = refl }

half_any : (ps : List ℕ) (at : ℕ) (a b : Option HalfMatch) → 0 < length ps → half_at ps at a ≡ half_at ps at b
half_any [] at a b l = absurd (omega (arith, l))
half_any (p ∷ ps) at a b l = refl

-- a state with patterns reports the first of them
pub first_half :
    (ps : List ℕ) (pattern at : ℕ) (before : Option HalfMatch) → 0 < length ps → pattern ≡ slice_index ps 0
    → Some (record { pattern = pattern; offset = at }) ≡ half_at ps at before
first_half [] pattern at before some e = absurd (omega (arith, some))
first_half (p ∷ ps) pattern at before some e = ap (λ n. Some (record { pattern = n; offset = at })) e

module _ {s : Trace} {way : Direction} {m : Machine} {c : Stored} {input : Input} {tag from to id : ℕ}
    (f : IsFollowedAlong s way m c input tag from to id) where
  -- a pass that had met no quit byte before the run has met none after it
  pub followed_clean : HasReadNoQuit way m input from → HasReadNoQuit way m input to
  followed_clean clean j byte l e = go (cases_lt j from) where
    go : (j < from) ⊎ (from ≤ j) → is_quit m.quits byte ≡ false
    go (inl less) = clean j byte less e
    go (inr more) = (f.taken j more l).clean byte e

  -- all transitions of the run are cached
  pub followed_known : (k : ℕ) → from ≤ k → k < to → HasLearnedAlong s way m c input k
  followed_known k more less = (f.taken k more less).known

  -- the pass is at the end of the run, and has found what the state there reports, if that state has patterns and the
  -- search is not earliest
  pub matched_at :
      {start : ℕ} (j o : ℕ) {found found' : Option HalfMatch} → IsTrace way m input s → input.earliest ≡ false
      → to ≡ suc j → o ≡ offset_in way input j
      → 0 < length (s.state to).patterns → ((q : Powerset) → Leads c.table id q → found' ≡ half_at q.patterns o found)
      → IsAtAlong s way m c.table input from start found → IsAtAlong s way m c.table input to id found'
  matched_at j o {found} {found'} trace late here offset some reports at =
      record {
        named = f.named;
        reported = reported;
        nothing = λ e. absurd (false_true (sym late ∙ e));
        clean = followed_clean at.clean;
      }
    where
      reported : found' ≡ half_of way input (s.reported to)
      reported =
          reports (s.state to) (LeadsToNamed f.named)
          ∙ (half_any (s.state to).patterns o found (half_of way input (s.reported j)) some
          ∙ (ap (λ v. half_at (s.state to).patterns v (half_of way input (s.reported j))) offset
          ∙ (ap (λ n. half_at (s.state n).patterns (offset_in way input j) (half_of way input (s.reported j))) here
          ∙ (sym (found_along trace j (λ e. absurd (false_true (sym late ∙ e))))
          ∙ ap (λ n. half_of way input (s.reported n)) (sym here)))))

-- a run without a tag reports nothing
module _ {s : Trace} {way : Direction} {m : Machine} {c : Stored} {input : Input} {from to id : ℕ}
    (f : IsFollowedAlong s way m c input 0 from to id) where
  quiet : (k : ℕ) → from ≤ k → k < to → (s.state (suc k)).patterns ≡ []
  quiet k more less =
      let leads = (f.taken k more less).leads in
      Names-silent c.table leads.0 (s.state (suc k)) leads.1 (omega (arith, leads.2.below))

  pub reported_upto : IsTrace way m input s → (n : ℕ) → from ≤ n → n ≤ to → s.reported n ≡ s.reported from
  reported_upto trace zero l h = let z : 0 ≡ from = omega (arith, l) in ap s.reported z
  reported_upto trace (suc n) l h = go (λ more. reported_upto trace n more (omega (arith, h))) (eq-or-lt_of_le l) where
    go :
        (from ≤ n → s.reported n ≡ s.reported from) → (from ≡ suc n) ⊎ (from < suc n)
        → s.reported (suc n) ≡ s.reported from
    go again (inl same) = ap s.reported (sym same)
    go again (inr less) =
        let more : from ≤ n = omega (arith, less) in
        quiet_along trace n (quiet n more (omega (arith, h))) ∙ again more

  -- the pass is at the end of the run, with what it had found before
  pub followed_at :
      {start : ℕ} {found : Option HalfMatch} → IsTrace way m input s → IsAtAlong s way m c.table input from start found
      → IsAtAlong s way m c.table input to id found
  followed_at {start} {found} trace at =
      record {
        named = f.named;
        reported = at.reported ∙ ap (half_of way input) (sym (reported_upto trace to f.more (omega arith)));
        nothing = at.nothing;
        clean = followed_clean f at.clean;
      }

  -- a pass that runs so from its start has found what the state at the end of the run reports: nothing
  pub quiet_there :
      (found : Option HalfMatch) → from ≡ 0 → found ≡ None → (q : Powerset) → Names c.table id q
      → found ≡ found_there way input to q.patterns
  quiet_there found start none q named = go to f refl where
    go :
        (k : ℕ) → IsFollowedAlong s way m c input 0 from k id → k ≡ to
        → found ≡ found_there way input k q.patterns
    go zero g e = none
    go (suc j) g e =
        let first : from ≤ j = omega (arith, start) in
        let leads = (g.taken j first (omega arith)).leads in
        let one : leads.0 ≡ id = some_inj (sym leads.1 ∙ g.named) in
        let low : id < 2 ^ 27 = omega (arith, one, leads.2.below) in
        none ∙ sym (ap (λ (ps : List ℕ). half_at ps (offset_in way input j) None) (Names-silent c.table id q named low))

-- a pass that ends at a state with patterns has found what that state reports
pub reports_there :
    (way : Direction) (input : Input) (ps : List ℕ) (to j pattern at : ℕ) → to ≡ suc j → at ≡ offset_in way input j
    → 0 < length ps → pattern ≡ slice_index ps 0
    → Some (record { pattern = pattern; offset = at }) ≡ found_there way input to ps
reports_there way input ps to j pattern at here place some first =
    first_half ps pattern at None some first
    ∙ (ap (λ n. half_at ps n None) place ∙ sym (ap (λ n. found_there way input n ps) here))

-- such a run reports nothing to a walk
module _ {way : Direction} {m : Machine} {c : Stored} {input : Input} {from to id : ℕ}
    (f : IsFollowed way m c input 0 from to id) where
  silent_upto : (n : ℕ) → from ≤ n → n ≤ to → IsSilent way m input from n
  silent_upto zero l h =
      let z : from ≡ 0 = omega (arith, l) in subst (IsSilent way m input from) z (silent_same way m input from)
  silent_upto (suc n) l h = go (λ more. silent_upto n more (omega (arith, h))) (eq-or-lt_of_le l) where
    go : (from ≤ n → IsSilent way m input from n) → (from ≡ suc n) ⊎ (from < suc n) → IsSilent way m input from (suc n)
    go again (inl same) = subst (IsSilent way m input from) same (silent_same way m input from)
    go again (inr less) =
        let more : from ≤ n = omega (arith, less) in
        silent_trans way m input from n (suc n) (again more)
        (silent_none way m input n (quiet f n more (omega (arith, h))))

  pub followed_silent : {start : ℕ} → IsSilent way m input start from → IsSilent way m input start to
  followed_silent {start} silent = silent_trans way m input start from to silent (silent_upto to f.more (omega arith))

-- all transitions of a run, and of one with another tag after it, are cached
pub known_after :
    {s : Trace} {way : Direction} {m : Machine} {c : Stored} {input : Input} {tag tag' from mid to id id' : ℕ}
    → IsFollowedAlong s way m c input tag from mid id → IsFollowedAlong s way m c input tag' mid to id'
    → (k : ℕ) → from ≤ k → k < to → HasLearnedAlong s way m c input k
known_after {s} {way} {m} {c} {input} {tag} {tag'} {from} {mid} f g k more less = go (cases_lt k mid) where
  go : (k < mid) ⊎ (mid ≤ k) → HasLearnedAlong s way m c input k
  go (inl before) = followed_known f k more before
  go (inr behind) = followed_known g k behind less

-- a run without a tag continues a pass from its place
pub runs_on :
    {s : Trace} {way : Direction} {m : Machine} {c : Stored} {input : Input} {from : ℕ} {place : Place} {to : Stop}
    → IsTrace way m input s → RunsAlong s way m c input from place → FollowsAlong s way m c input 0 place.at to
    → RunsAlong s way m c input from (record { at = to.at; id = to.id; found = place.found; next = to.next })
runs_on {s} {way} {m} {c} {input} {from} {place} {to} trace near far =
    record {
      run = record {
        more = omega (arith, near.run.more, far.followed.more);
        within = far.within;
        known = λ k more less. each k more less (cases_lt k place.at);
      };
      at = followed_at far.followed trace near.at;
      peeked = far.peeked;
    } where
      each : (k : ℕ) → from ≤ k → k < to.at → (k < place.at) ⊎ (place.at ≤ k) → HasLearnedAlong s way m c input k
      each k more less (inl before) = near.run.known k more before
      each k more less (inr behind) = followed_known far.followed k behind less

-- a stop at which nothing has been followed yet
pub follows_none :
    {s : Trace} {way : Direction} {m : Machine} {c : Stored} {input : Input} (stop : Stop)
    → stop.at ≤ input.end - input.start → Names c.table stop.id (s.state stop.at)
    → IsPeekedAlong s way m c input stop.at stop.id stop.next → FollowsAlong s way m c input 0 stop.at stop
follows_none {s} {way} {m} {c} {input} stop within named peeked =
    record { within = within; followed = followed_none way m c input 0 stop.at stop.id named; peeked = peeked }

-- two runs joined at a stop
pub follows_on :
    {s : Trace} {way : Direction} {m : Machine} {c : Stored} {input : Input} {from : ℕ} {stop to : Stop}
    → FollowsAlong s way m c input 0 from stop → FollowsAlong s way m c input 0 stop.at to
    → FollowsAlong s way m c input 0 from to
follows_on near far = record {
  within = far.within;
  followed = followed_on near.followed far.followed;
  peeked = far.peeked;
}
