-- The effect of a call on a walk.
use Rattle.std.proofs.Common.{ℕ, suc, ◌≡◌, ◌<◌, ◌≤◌, ◌+◌, ◌-◌, ◌⊎◌, ◌↔◌, inl, inr, Bool, false, List, [], ◌++◌, ⊎_elim}
use Rattle.std.proofs.Common.{length, Some, None, refl, sym, ap, ap₂, ◌∙◌, subst, arith, length-append, get_or}
use Rattle.std.proofs.Common.{append_assoc}
use Rattle.automata_hybrid.proofs.Words.{Direction, Err, HalfMatch, HasReadNoQuit, Input, is_split, IsRowState}
use Rattle.automata_hybrid.proofs.Words.{KeepsSplit, Machine, MayStart, offset_in, Ok, OnOk, Pair, Powerset, Result}
use Rattle.automata_hybrid.proofs.Words.{Rows, Skips, SkipsSplit, state_in, tape_in}
use Rattle.std.specs.Prelude.{IsTrue, OnErr}
use Rattle.automata_base.specs.Answers.Answers.{WalksNoSpan}
use Rattle.automata_base.specs.Paths.Selections.{at_place}
use Rattle.automata_determinize.proofs.Powersets.WalkReports.{walks_once}
use Rattle.automata_hybrid.specs.Walks.Answers.{AreWalked, HasReported, HasReportedAll, HasReportedAt, HasReportedBy}
use Rattle.automata_hybrid.specs.Walks.Answers.{StandsAtState, ReportsNext, WalkMeetsNoQuit, half_nth, MetNoQuit}
use Rattle.automata_hybrid.specs.Walks.Answers.{ReportsPairs, WasDone, pairs_along}
use Rattle.automata_hybrid.specs.Private.Walks.Answers.{Arrives, Finishes}
use Rattle.automata_hybrid.specs.Walks.State.{At, Ended, Fresh, Stage, Walk, without_match}
use Rattle.automata_hybrid.specs.Private.Walks.State.{ended_walk, with_match}
use Rattle.automata_hybrid.proofs.Searches.PassState.{false_true}
use Rattle.automata_hybrid.proofs.Walks.Reports.{Begins, finish_all, half_at_place, half_after, half_past, place_length}
use Rattle.automata_hybrid.proofs.Walks.Reports.{reported_more, reported_rises, walked_all, walked_begin}
use Rattle.std.proofs.lemmas.Bool.{cases_lt}

pub fresh_at : (q : Powerset) → Fresh ≡ At q → ⊥
fresh_at q e = cc

pub ended_at : (q : Powerset) → Ended ≡ At q → ⊥
ended_at q e = cc

pub undone : (b : Bool) (s e : ℕ) → (IsTrue b ↔ (e < s)) → b ≡ false → s ≤ e
undone b s e done «is» = ⊎_elim (λ l. absurd (false_true (sym «is» ∙ done.1 l))) (λ l. l) (cases_lt e s)

module _ (way : Direction) (m : Machine) (input : Input) where
  -- zero units report nothing
  pub reported_none : Skips m ⊎ (Skips m → ⊥) → HasReportedBy way m input 0 0
  unfolding pairs_along
  reported_none (inl s) = record { pairs = []; unsplit = SkipsSplit s refl; count = refl }
  reported_none (inr n) = record { pairs = []; unsplit = KeepsSplit n refl; count = refl }

  -- everything that a place reports
  reported_place :
      (place e : ℕ)
      → (Skips m → is_split input.haystack (offset_in way input place) ≡ false) → HasReportedBy way m input place e
      → HasReportedBy way m input (suc place) (e + length (state_in way m input (suc place)).patterns)
  reported_place place e free t =
      let ps : List ℕ = (state_in way m input (suc place)).patterns in
      let one : length (at_place (offset_in way input place) ps) ≡ length ps =
      place_length (offset_in way input place) ps in
      let both : length (t.pairs ++ at_place (offset_in way input place) ps) ≡ length t.pairs
      + length (at_place (offset_in way input place) ps) =
      length-append t.pairs (at_place (offset_in way input place) ps) in
      record {
        pairs = t.pairs ++ at_place (offset_in way input place) ps;
        unsplit = reported_more way m input place t.pairs free t.unsplit;
        count = omega (arith, one, both, t.count);
      }

  -- a walk that has reported everything at its current place
  pub reported_here :
      (w : Walk) (k : ℕ)
      → Skips m ⊎ (Skips m → ⊥) → HasReported way m input w k → (w.stage ≡ Ended → ⊥)
      → ((q : Powerset) → w.stage ≡ At q → length q.patterns ≤ w.reported) → HasReportedBy way m input w.units k
  reported_here w k skips t on all = go w.stage t on all where
    go :
        (s : Stage) → HasReportedAt way m input s w.units w.reported k → (s ≡ Ended → ⊥)
        → ((q : Powerset) → s ≡ At q → length q.patterns ≤ w.reported) → HasReportedBy way m input w.units k
    go Fresh (none, first) on all =
        subst (λ n. HasReportedBy way m input n k) (sym first)
        (subst (λ n. HasReportedBy way m input 0 n) (sym none) (reported_none skips))
    go (At q) s on all =
        let same : state_in way m input (suc s.place) ≡ q = ap (state_in way m input) (sym s.one_after) ∙ sym s.state in
        let count : length (state_in way m input (suc s.place)).patterns ≡ length q.patterns =
        ap (λ (p : Powerset). length p.patterns) same in
        let most : length q.patterns ≤ w.reported = all q refl in
        let sum : s.earlier + length (state_in way m input (suc s.place)).patterns ≡ k =
        omega (arith, count, most, s.few, s.count) in
        subst (λ n. HasReportedBy way m input n k) (sym s.one_after)
        (subst (HasReportedBy way m input (suc s.place)) sum (reported_place s.place s.earlier s.unskipped s.before))
    go Ended t on all = absurd (on refl)

  -- none of its units is a quit byte
  pub clean_here :
      (w : Walk) (k : ℕ) → HasReported way m input w k → (w.stage ≡ Ended → ⊥) → HasReadNoQuit way m input w.units
  clean_here w k t on = go w.stage t on where
    go :
        (s : Stage) → HasReportedAt way m input s w.units w.reported k → (s ≡ Ended → ⊥)
        → HasReadNoQuit way m input w.units
    go Fresh (none, first) on = λ j byte l e. absurd (omega (arith, l, first))
    go (At q) s on = s.clean
    go Ended t on = absurd (on refl)

  -- the pair of a pattern at a place
  pub place_pair :
      (place e t : ℕ) (pairs : List Pair)
      → input.start ≤ input.end → place ≤ length (tape_in way input).bytes
      → (Skips m → is_split input.haystack (offset_in way input place) ≡ false) → HasReportedBy way m input place e
      → t < length (state_in way m input (suc place)).patterns → AreWalked way m input pairs
      → (half_nth pairs (e + t)
      ≡ Some (record
      { pattern = get_or (state_in way m input (suc place)).patterns t 0; offset = offset_in way input place }))
      × (e + t < length pairs)
  place_pair place e t pairs s l free reported less walked =
      let ps : List ℕ = (state_in way m input (suc place)).patterns in
      let o : ℕ = offset_in way input place in
      let b : Begins way m input (reported.pairs ++ at_place o ps) pairs =
      walked_begin way m input (suc place) (reported.pairs ++ at_place o ps) pairs s (omega (arith, l))
      (reported_more way m input place reported.pairs free reported.unsplit) walked in
      let joined : pairs ≡ reported.pairs ++ (at_place o ps ++ b.rest) =
      b.joined ∙ append_assoc reported.pairs (at_place o ps) b.rest in
      let long : length pairs ≡ length reported.pairs + length (at_place o ps ++ b.rest) =
      ap (λ (zs : List Pair). length zs) joined ∙ length-append reported.pairs (at_place o ps ++ b.rest) in
      let more : length (at_place o ps ++ b.rest) ≡ length (at_place o ps) + length b.rest =
      length-append (at_place o ps) b.rest in
      let one : length (at_place o ps) ≡ length ps = place_length o ps in (
        ap₂ (λ (zs : List Pair) n. half_nth zs (n + t)) joined reported.count
            ∙ (half_after reported.pairs (at_place o ps ++ b.rest) t ∙ half_at_place o ps b.rest t less),
        omega (arith, long, more, one, less, reported.count),
      )

  -- a walk that has reported everything has no further match
  all_none :
      (k : ℕ) (pairs : List Pair) → HasReportedAll way m input k → AreWalked way m input pairs → half_nth pairs k ≡ None
  all_none k pairs t walked =
      let same : pairs ≡ t.pairs =
      walks_once (ReportsPairs way m) (Skips m) way input pairs t.pairs (λ x y e f. e ∙ sym f) walked t.all in
      half_past pairs k (subst (λ (zs : List Pair). length zs ≤ k) (sym same) t.none_left)

  all_more : (k : ℕ) → HasReportedAll way m input k → HasReportedAll way m input (suc k)
  all_more k t = record { clean = t.clean; pairs = t.pairs; all = t.all; none_left = omega (arith, t.none_left) }

  pub next_ended : (w : Walk) → w.stage ≡ Ended → ReportsNext way m input w (without_match w)
  next_ended w e k t =
      let all : HasReportedAll way m input k =
      subst (λ (s : Stage). HasReportedAt way m input s w.units w.reported k) e t in (
        subst (λ (s : Stage). HasReportedAt way m input s w.units w.reported (suc k)) (sym e) (all_more k all),
        λ pairs walked. (sym (all_none k pairs all walked), λ l. e),
      )

  -- the walk ends when everything is reported
  ends :
      (w : Walk) (units k : ℕ) → HasReportedAll way m input k → HasReported way m input (ended_walk w units) (suc k)
      × ((pairs : List Pair) → AreWalked way m input pairs → ((ended_walk w units).found ≡ half_nth pairs k)
      × (length pairs ≤ k → Ended ≡ Ended))
  ends w units k all = (all_more k all, λ pairs walked. (sym (all_none k pairs all walked), λ l. refl))

  pub next_done :
      (w v : Walk) (units : ℕ) → input.end < input.start → (w.stage ≡ Ended → ⊥)
      → ReportsNext way m input w (ended_walk v units)
  next_done w v units done on k t = go w.stage t on where
    go :
        (s : Stage) → HasReportedAt way m input s w.units w.reported k → (s ≡ Ended → ⊥)
        → HasReported way m input (ended_walk v units) (suc k)
        × ((pairs : List Pair) → AreWalked way m input pairs → ((ended_walk v units).found ≡ half_nth pairs k)
        × (length pairs ≤ k → Ended ≡ Ended))
    go Fresh (none, first) on =
        ends v units k
        (record { clean = WasDone done; pairs = []; all = WalksNoSpan done refl; none_left = omega arith })
    go (At q) s on = absurd (omega (arith, done, s.undone))
    go Ended t on = absurd (on refl)

  -- once all units are read, everything is reported
  all_reported :
      (k : ℕ) → input.start ≤ input.end → MayStart m input.anchored (tape_in way input).before
      → WalkMeetsNoQuit way m input
      → HasReportedBy way m input (suc (length (tape_in way input).bytes)) k → HasReportedAll way m input k
  all_reported k s may clean t =
      record {
        clean = MetNoQuit may clean;
        pairs = t.pairs;
        all = walked_all way m input t.pairs s t.unsplit;
        none_left = omega (arith, t.count);
      }

  -- after the last unit nothing is left to report
  pub next_read :
      (w v : Walk) (units : ℕ)
      → (w.stage ≡ Ended → ⊥) → ((q : Powerset) → w.stage ≡ At q → length q.patterns ≤ w.reported)
      → length (tape_in way input).bytes < w.units → ReportsNext way m input w (ended_walk v units)
  next_read w v units on all past k t = go w.stage refl t on where
    go :
        (s : Stage) → w.stage ≡ s → HasReportedAt way m input s w.units w.reported k → (s ≡ Ended → ⊥)
        → HasReported way m input (ended_walk v units) (suc k)
        × ((pairs : List Pair) → AreWalked way m input pairs → ((ended_walk v units).found ≡ half_nth pairs k)
        × (length pairs ≤ k → Ended ≡ Ended))
    go Fresh e (none, first) on = absurd (omega (arith, first, past))
    go (At q) e s on =
        let last : w.units ≡ suc (length (tape_in way input).bytes) = omega (arith, s.one_after, s.within, past) in
        let same : state_in way m input (suc s.place) ≡ q = ap (state_in way m input) (sym s.one_after) ∙ sym s.state in
        let count : length (state_in way m input (suc s.place)).patterns ≡ length q.patterns =
        ap (λ (p : Powerset). length p.patterns) same in
        let most : length q.patterns ≤ w.reported = all q e in
        let sum : s.earlier + length (state_in way m input (suc s.place)).patterns ≡ k =
        omega (arith, count, most, s.few, s.count) in
        let reported : HasReportedBy way m input w.units k =
        subst (λ n. HasReportedBy way m input n k) (sym s.one_after)
        (subst (HasReportedBy way m input (suc s.place)) sum (reported_place s.place s.earlier s.unskipped s.before)) in
        ends v units k
        (all_reported k s.undone s.may (finish_all way m input w.units last s.clean)
        (subst (λ n. HasReportedBy way m input n k) last reported))
    go Ended e t on = absurd (on refl)

  -- the next pattern at the same place
  pub next_same :
      (w : Walk) (q : Powerset) (half : HalfMatch)
      → w.stage ≡ At q → w.reported < length q.patterns → half.pattern ≡ get_or q.patterns w.reported 0
      → half.offset ≡ offset_in way input (w.units - 1) → ReportsNext way m input w (with_match w half)
  next_same w q half e less pattern offset k t =
      let s : StandsAtState way m input q w.units w.reported k =
      subst (λ (st : Stage). HasReportedAt way m input st w.units w.reported k) e t in
      let same : q ≡ state_in way m input (suc s.place) = s.state ∙ ap (state_in way m input) s.one_after in
      let place : w.units - 1 ≡ s.place = omega (arith, s.one_after) in
      let next : StandsAtState way m input q w.units (suc w.reported) (suc k) = record {
        undone = s.undone;
        may = s.may;
        place = s.place;
        one_after = s.one_after;
        within = s.within;
        state = s.state;
        row = s.row;
        clean = s.clean;
        unskipped = s.unskipped;
        some = omega arith;
        few = omega (arith, less);
        earlier = s.earlier;
        before = s.before;
        count = omega (arith, s.count);
      } in (
        subst (λ (st : Stage). HasReportedAt way m input st w.units (suc w.reported) (suc k)) (sym e) next,
        λ pairs walked. (
            let p =
            place_pair s.place s.earlier w.reported pairs s.undone s.within s.unskipped s.before
            (subst (λ (x : Powerset). w.reported < length x.patterns) same less) walked in
            let here : half
            ≡ record {
              pattern = get_or (state_in way m input (suc s.place)).patterns w.reported 0;
              offset = offset_in
                  way input s.place;
            } =
            (λ i. record {
              pattern = (pattern ∙ ap (λ (x : Powerset). get_or x.patterns w.reported 0) same) i;
              offset = (offset ∙ ap (offset_in way input) place) i;
            }) in (
              ap Some here
                  ∙ (sym p.0 ∙ ap (half_nth pairs) (sym s.count)),
              λ l. absurd (omega (arith, p.1, l, s.count)),
            )),
      )

  -- a walk that continues reaches its end
  pub next_finishes :
      (w v : Walk) (units : ℕ)
      → input.start ≤ input.end → MayStart m input.anchored (tape_in way input).before
      → ((k : ℕ) → HasReported way m input w k → HasReportedBy way m input w.units k)
      → Finishes way m input w.units units → ReportsNext way m input w (ended_walk v units)
  next_finishes w v units s may here f k t = ends v units k (all_reported k s may f.clean (f.silent k (here k t)))

  -- or a state with patterns, of which it reports the first
  pub next_arrives :
      (w : Walk) (t : Rows) (id units : ℕ) (q : Powerset) (half : HalfMatch)
      → input.start ≤ input.end → MayStart m input.anchored (tape_in way input).before
      → ((k : ℕ) → HasReported way m input w k → HasReportedBy way m input w.units k)
      → Arrives way m t input w.units id units → q ≡ state_in way m input units → IsRowState m q
      → half.pattern ≡ get_or q.patterns 0 0 → half.offset ≡ offset_in way input (units - 1)
      → ReportsNext way m input w (record { stage = At q; units = units; reported = 1; found = Some half })
  next_arrives w t id units q half s may here a state row pattern offset k reported =
      let same : q ≡ state_in way m input (suc a.place) = state ∙ ap (state_in way m input) a.one_after in
      let place : units - 1 ≡ a.place = omega (arith, a.one_after) in
      let before : HasReportedBy way m input a.place k = a.silent k (here k reported) in
      let some : 0 < length q.patterns =
      subst (λ (x : Powerset). 0 < length x.patterns) (sym state) (a.reports (state_in way m input units) a.named) in
      let next : StandsAtState way m input q units 1 (suc k) = record {
        undone = s;
        may = may;
        place = a.place;
        one_after = a.one_after;
        within = a.within;
        state = state;
        row = row;
        clean = a.clean;
        unskipped = a.unskipped;
        some = omega arith;
        few = omega (arith, some);
        earlier = k;
        before = before;
        count = omega arith;
      } in (
        next,
        λ pairs walked. (
            let p =
            place_pair a.place k 0 pairs s a.within a.unskipped before
            (subst (λ (x : Powerset). 0 < length x.patterns) same some) walked in
            let here : half
            ≡ record {
              pattern = get_or (state_in way m input (suc a.place)).patterns 0 0;
              offset = offset_in way input
                  a.place;
            } =
            (λ i. record {
              pattern = (pattern ∙ ap (λ (x : Powerset). get_or x.patterns 0 0) same) i;
              offset = (offset ∙ ap (offset_in way input) place) i;
            }) in
            let first : k + 0 ≡ k = omega arith in
            (ap Some here ∙ (sym p.0 ∙ ap (half_nth pairs) first), λ l. absurd (omega (arith, p.1, l)))),
      )

-- the units of a walk, and any units after them, report at least as many pairs as the walk has reported
pub reported_least :
    (way : Direction) (m : Machine) (input : Input) (v : Walk) (k : ℕ) → HasReported way m input v (suc k)
    → (v.stage ≡ Ended → ⊥)
    → (j n : ℕ) → v.units ≤ j → HasReportedBy way m input j n → suc k ≤ n
reported_least way m input v k reported on j n l t = go v.stage reported on where
  go : (s : Stage) → HasReportedAt way m input s v.units v.reported (suc k) → (s ≡ Ended → ⊥) → suc k ≤ n
  go Fresh (none, first) on = absurd (omega (arith, none))
  go (At q) s on =
      let here : Powerset = state_in way m input (suc s.place) in
      let same : here ≡ q = ap (state_in way m input) (sym s.one_after) ∙ sym s.state in
      let all : length here.patterns ≡ length q.patterns = ap (λ (p : Powerset). length p.patterns) same in
      let rises : s.earlier + length here.patterns ≤ n =
      reported_rises way m input (suc s.place) j (s.earlier + length here.patterns) n (omega (arith, l, s.one_after))
      (reported_place way m input s.place s.earlier s.unskipped s.before) t in
      omega (arith, rises, s.few, all, s.count)
  go Ended t on = absurd (on refl)

-- after a call it is still a walk over its input
pub still_walk :
    (way : Direction) (m : Machine) (input : Input) (w : Walk) (R : Type 0) (r : Result (Unit {0}) R) (next : Walk)
    → ((k : ℕ) × HasReported way m input w k) → OnOk r (ReportsNext way m input w next)
    → OnErr r (next ≡ without_match w)
    → (k : ℕ) × HasReported way m input next k
still_walk way m input w R (Ok u) next reported reports same = (suc reported.0, (reports reported.0 reported.1).0)
still_walk way m input w R (Err e) next reported reports same =
    (reported.0, subst (λ (v : Walk). HasReported way m input v reported.0) (sym same) reported.1)
