-- What follows from the search for a set of patterns, by what a cache knows.
use Rattle.std.proofs.Common.{ℕ, zero, suc, ◌≡◌, ◌∙◌, ◌+◌, ◌-◌, ◌<◌, ◌≤◌, ◌⊎◌, Bool, true, List, Some, None, length}
use Rattle.std.proofs.Common.{inl, inr, refl, sym, ap, ap₂, subst, arith, take}
use Rattle.std.proofs.lemmas.Bool.{cases_lt}
use Rattle.std.proofs.Math.Seq.{take-append_seam}
use Rattle.automata_hybrid.proofs.Words.{AreUnsplit, Forward, HasReadNoQuit, Input, Known, Machine, MayStart, Pair}
use Rattle.automata_hybrid.proofs.Words.{pass_trace, Powerset, SearchError, Skips, start_event, state_in, tape_in}
use Rattle.automata_hybrid.proofs.Words.{unit_event, WalksAreReported}
use Rattle.automata_hybrid.specs.Known.Bounds.{IsKnown}
use Rattle.automata_hybrid.specs.Known.Cached.{KnowsItsStart, KnowsUnit}
use Rattle.automata_hybrid.specs.Known.Growth.{ClearedNothing, IsGrown}
use Rattle.automata_hybrid.specs.Known.Walks.{CallEnds, HaveCalled, SetFails, NoCall, OneMore, ReadsNone, ReadsSome}
use Rattle.automata_hybrid.specs.Known.Walks.{has_its_row}
use Rattle.automata_hybrid.specs.Known.WalksFollow.{CallFollows, KnowsItsState, KnowsWalk, KnowsWhich, SetFollows}
use Rattle.automata_hybrid.specs.Known.WalksFollow.{SetsFollow}
use Rattle.automata_hybrid.specs.Walks.Answers.{AreWalked, HasReported, HasReportedAt, HasReportedBy, ReportsNext}
use Rattle.automata_hybrid.specs.Walks.Answers.{WalkReads, half_nth, pairs_reported_in, start_count}
use Rattle.automata_hybrid.specs.Walks.Cached.{IsOpen, IsToRead, NoPair}
use Rattle.automata_hybrid.specs.Walks.Progress.{HasEnded, HasMore, HasNoneLeft, IsClosedAfter, IsOpenAfter}
use Rattle.automata_hybrid.specs.Walks.Progress.{ReadsNoUnit}
use Rattle.automata_hybrid.specs.Walks.State.{At, Ended, Fresh, Ids, Stage, Walk}
use Rattle.automata_hybrid.proofs.Known.Bounds.{HasBounds}
use Rattle.automata_hybrid.proofs.Known.CallsFollow.{Reads, call_ended, call_left, call_read}
use Rattle.automata_hybrid.proofs.Known.Growth.{clears_none, grown_same, grown_trans, nothing_first, nothing_second}
use Rattle.automata_hybrid.proofs.Known.PassesFollow.{event_idle, event_still}
use Rattle.automata_hybrid.proofs.Searches.Follows.{tape_few}
use Rattle.automata_hybrid.proofs.Walks.CachedSets.{closed_stops, half_none}
use Rattle.automata_hybrid.proofs.Walks.Calls.{ended_at, fresh_at, place_pair}
use Rattle.automata_hybrid.proofs.Walks.Follows.{at_state}
use Rattle.automata_hybrid.proofs.Walks.Progress.{left_reads, of_input, walk_reads_before}
use Rattle.automata_hybrid.proofs.Walks.Reports.{Begins, walked_begin}
use Rattle.automata_hybrid.proofs.Walks.Sets.{reported_one}
use Rattle.automata_hybrid.proofs.Machines.Powersets.{walks_are}

-- a walk has not begun, or its start state and all transitions that it took are cached
abbrev HasLearnedWalk : Machine → Known → Input → Walk → Type 0
HasLearnedWalk m c input w =
    ((w.stage ≡ Fresh) × (w.units ≡ 0))
    ⊎ (KnowsItsStart Forward m c input × ((j : ℕ) → j < w.units → KnowsUnit Forward m c input j))

-- this holds after one more call
learned_call :
    (m : Machine) (input : Input) (old new : Known) (w v : Walk) (k : ℕ) → IsGrown m old new → ClearedNothing old new
    → HasReported Forward m input w k → input.start ≤ input.end
    → MayStart m input.anchored (tape_in Forward input).before
    → HasLearnedWalk m old input w → KnowsWalk Forward m new input w
    → ((j : ℕ) → w.units ≤ j → j < v.units → KnowsUnit Forward m new input j)
    → KnowsItsStart Forward m new input × ((j : ℕ) → j < v.units → KnowsUnit Forward m new input j)
learned_call m input old new w v k g nothing reported s may (inl (fresh, none)) knows units =
    let ready : IsToRead input w.stage w.units w.reported = record {
      undone = s;
      on = λ e. cc;
      all_reported = λ q e. absurd (cc);
      left = omega (arith, none);
    } in (
      subst (KnowsItsState Forward m new input) fresh (knows k reported ready may).0,
      λ j less. units j (omega (arith, none)) less,
    )
learned_call m input old new w v k g nothing reported s may (inr (begins, had)) knows units =
    (event_still m (start_event Forward input) old new g nothing begins, λ j less. go j less (cases_lt j w.units))
  where
    go : (j : ℕ) → j < v.units → (j < w.units) ⊎ (w.units ≤ j) → KnowsUnit Forward m new input j
    go j h (inl less) =
        event_still m (unit_event (pass_trace Forward m input) Forward input j) old new g nothing (had j less)
    go j h (inr more) = units j more h

-- everything that a search for a set uses stays cached if nothing is determinized
which_idle :
    (m : Machine) (input : Input) (set : List Bool) (old new : Known) → IsGrown m old new → new.count ≡ old.count
    → KnowsWhich m old input set → KnowsWhich m new input set
which_idle m input set old new g same knows undone may = (
  event_idle m (start_event Forward input) old new g same (knows undone may).0,
  λ j pairs reads clean unsplit is_open. event_idle m
      (unit_event (pass_trace Forward m input) Forward input j) old new g same
      ((knows undone may).1 j pairs reads clean unsplit is_open),
)

-- if everything that a search for a set uses is cached, so is everything that each call of its walk uses
module _ (m : Machine) (c : Known) (input : Input) (walk : Walk) (set : List Bool) (k : ℕ)
    (reported : HasReported Forward m input walk k) (is_open : IsOpenAfter m input set k)
    (list : (pairs : List Pair) × AreWalked Forward m input pairs) where
  still_open :
      (n : ℕ) (t : HasReportedBy Forward m input n k) → input.start ≤ input.end
      → n ≤ length (tape_in Forward input).bytes
      → IsOpen input set t.pairs
  still_open n t s l =
      let b : Begins Forward m input t.pairs list.0 =
      walked_begin Forward m input n t.pairs list.0 s (omega (arith, l)) t.unsplit list.1 in
      subst (IsOpen input set) (ap₂ (λ i (zs : List Pair). take i zs) t.count b.joined
      ∙ take-append_seam t.pairs b.rest)
      (is_open list.0 list.1)

  which_walk : has_its_row c walk.stage ≡ true → KnowsWhich m c input set → KnowsWalk Forward m c input walk
  which_walk holds knows i begun ready may =
      let same : i ≡ k = reported_one m input walk i k ready.on begun reported in
      let all = knows ready.undone may in (
        state walk.stage holds all.0,
        λ n l reads clean t.
            (let t' : HasReportedBy Forward m input n k = subst (HasReportedBy Forward m input n) same t in
            all.1 n t'.pairs reads clean t'.unsplit (still_open n t' ready.undone reads.0)),
      )
    where
      state : (s : Stage) → has_its_row c s ≡ true → KnowsItsStart Forward m c input → KnowsItsState Forward m c input s
      state Fresh holds begins = begins
      state (At q) holds begins = holds
      state Ended holds begins = tt

-- what a walk continues from is cached if its start state was
begun_state :
    (m : Machine) (input : Input) (stage : Stage) (old mid : Known) → IsGrown m old mid → has_its_row mid stage ≡ true
    → KnowsItsStart Forward m old input → KnowsItsState Forward m mid input stage
begun_state m input Fresh old mid grown holds begins =
    grown.starts input.anchored (tape_in Forward input).before begins
begun_state m input (At q) old mid grown holds begins = holds
begun_state m input Ended old mid grown holds begins = tt

module _ (m : Machine) (bounds : HasBounds m) (skips : Skips m ⊎ (Skips m → ⊥)) (input : Input) (set : List Bool)
    (list : (pairs : List Pair) × AreWalked Forward m input pairs) (old : Known) (sound : IsKnown m old) where
  -- what follows from `calls` calls of the walk of a set
  record CallsMade (calls : ℕ) (walk : Walk) (new : Known) : Type 0 where
    pub reported : HasReported Forward m input walk calls
    pub known_then : IsKnown m new
    pub grown : IsGrown m old new
    pub counted : new.count + start_count walk.stage ≤ old.count + walk.units + 1
    pub few : walk.units ≤ input.end - input.start + 1
    pub started : KnowsItsStart Forward m old input → new.count ≤ old.count + walk.units
    pub idle : KnowsWhich m old input set → new.count ≡ old.count
    pub learned :
        ClearedNothing old new → input.start ≤ input.end → MayStart m input.anchored (tape_in Forward input).before
        → HasLearnedWalk m new input walk
    pub stops :
        walk.stage ≡ Ended → input.start ≤ input.end → (j : ℕ) → walk.units ≤ j → WalkReads Forward m input j → ⊥
    pub done : input.end < input.start → new ≡ old

  -- a walk that has reported a match has begun
  begun : (walk : Walk) (k : ℕ) → HasReported Forward m input walk (suc k) → start_count walk.stage ≡ 0
  begun walk k reported = go walk.stage reported where
    go : (s : Stage) → HasReportedAt Forward m input s walk.units walk.reported (suc k) → start_count s ≡ 0
    go Fresh at = absurd (omega (arith, at.0))
    go (At q) at = refl
    go Ended at = refl

  -- one more call
  module _ (k : ℕ) (before walk : Walk) (mid new : Known) (made : CallsMade k before mid)
      (is_open : IsOpenAfter m input set k)
      (there : has_its_row mid before.stage ≡ true) (reports : ReportsNext Forward m input before walk)
      (ended : CallEnds Forward m input before walk mid new) where
    c : CallFollows Ids Forward m input before walk mid new None
    c = call_ended Forward m input bounds skips before k made.reported Ids walk mid new made.known_then reports ended

    read : Reads Forward m input bounds skips before k made.reported walk mid new
    read = call_read Forward m input bounds skips before k made.reported walk mid new made.known_then ended

    stepped : IsGrown m mid new
    stepped = c.there there

    -- a walk that has ended has read everything
    stops_more :
        walk.stage ≡ Ended → input.start ≤ input.end → (j : ℕ) → walk.units ≤ j → WalkReads Forward m input j → ⊥
    stops_more over undone j more reads = go ended where
      last :
          ReadsNoUnit input before → walk.units ≡ before.units → walk.found ≡ half_nth list.0 k → walk.found ≡ None → ⊥
      last (HasEnded was) same found none = made.stops was undone j (omega (arith, same, more)) reads
      last (HasMore q at few) same found none = state before.stage at made.reported where
        state : (s : Stage) → s ≡ At q → HasReportedAt Forward m input s before.units before.reported k → ⊥
        state Fresh is t = fresh_at q is
        state Ended is t = ended_at q is
        state (At p) is t =
            let here : q ≡ state_in Forward m input (suc t.place) =
            sym (ap (at_state q) is) ∙ (t.state ∙ ap (state_in Forward m input) t.one_after) in
            let one = place_pair Forward m input t.place t.earlier before.reported list.0 undone t.within t.unskipped
            t.before (subst (λ (x : Powerset). before.reported < length x.patterns) here few) list.1 in
            let all : length list.0 ≤ k = half_none list.0 k (sym found ∙ none) in
            omega (arith, one.1, all, t.count)
      last (HasNoneLeft past) same found none =
          let few : j ≤ length (tape_in Forward input).bytes = reads.0 in
          omega (arith, few, tape_few Forward input, past, same, more, undone)

      go : CallEnds Forward m input before walk mid new → ⊥
      go (ReadsNone none reads_none same still) =
          last reads_none same ((reports k made.reported).1 list.0 list.1).0 (none over)
      go (ReadsSome none c) = c.its.1 over (walk_reads_before Forward m input walk.units j more reads)

    calls_more : CallsMade (suc k) walk new
    calls_more = record {
      reported = (reports k made.reported).0;
      known_then = c.sound;
      grown = grown_trans m old mid new made.grown stepped;
      counted = omega (arith, c.cost, made.counted, begun walk k (reports k made.reported).0);
      few = read.few made.few;
      started = λ knows. (
          let less = (c.started (begun_state m input before.stage old mid made.grown there knows)).1 in
          omega (arith, less, made.started knows));
      idle = λ knows. (
          let count : mid.count ≡ old.count = made.idle knows in
          ap (λ (v : Known). v.count)
          (c.known (which_walk m mid input before set k made.reported is_open list there
          (which_idle m input set old mid made.grown count knows))).0 ∙ count);
      learned = λ nothing undone may. (
          let first = nothing_first m old mid new made.grown stepped nothing in
          let second = nothing_second m old mid new made.grown stepped nothing in
          inr (learned_call m input mid new before walk k stepped second made.reported undone may
          (made.learned first undone may) (c.learned second) (read.learned there second)));
      stops = stops_more;
      done = λ past. kept ended past ∙ made.done past;
    } where
      kept : CallEnds Forward m input before walk mid new → input.end < input.start → new ≡ mid
      kept (ReadsNone none reads_none same still) past = still
      kept (ReadsSome none c) past = absurd (c.some (HasNoneLeft (omega (arith, past))))

  calls_made :
      (calls : ℕ) (walk : Walk) (new : Known) → HaveCalled m input set old calls walk new → CallsMade calls walk new
  calls_made zero walk new (NoCall walk1 new1 fresh same) = record {
    reported = subst (λ (w : Walk). HasReported Forward m input w 0) (sym fresh) (refl, refl);
    known_then = subst (IsKnown m) (sym same) sound;
    grown = grown_same m old new same;
    counted = omega (arith, count, none, ap (λ (w : Walk). start_count w.stage) fresh);
    few = omega (arith, none);
    started = λ knows. omega (arith, count);
    idle = λ knows. count;
    learned = λ nothing undone may. inl (ap (λ (w : Walk). w.stage) fresh, none);
    stops = λ over. absurd (let is : Fresh ≡ Ended = sym (ap (λ (w : Walk). w.stage) fresh) ∙ over in cc);
    done = λ past. same;
  } where
    count : new.count ≡ old.count
    count = ap (λ (v : Known). v.count) same

    none : walk.units ≡ 0
    none = ap (λ (w : Walk). w.units) fresh
  calls_made (suc calls) walk new (OneMore calls1 before walk1 mid new1 called is_open there reports ended) =
      calls_more calls before walk mid new (calls_made calls before mid called) is_open there reports ended

  -- a search for a set that returns Ok, by the calls of its walk
  set_called :
      (new : Known) (calls : ℕ) (walk : Walk) → HaveCalled m input set old calls walk new
      → (walk.stage ≡ Ended) ⊎ IsClosedAfter m input set calls → SetFollows m input set old new None
  set_called new calls walk called last = record {
    cost = cost;
    roomy = λ room. clears_none m old new (input.end - input.start + 2) made.grown cost room;
    started = λ knows. omega (arith, made.started knows, made.few);
    grown = made.grown;
    sound = made.known_then;
    learned = λ nothing undone may. all undone (made.learned nothing undone may);
    known = λ knows. (made.grown.idle (made.idle knows), tt);
    done = made.done;
  } where
    made : CallsMade calls walk new
    made = calls_made calls walk new called

    cost : new.count ≤ old.count + (input.end - input.start + 2)
    cost = omega (arith, made.counted, made.few)

    stops :
        input.start ≤ input.end → (j : ℕ) (pairs : List Pair) → walk.units ≤ j → WalkReads Forward m input j
        → AreUnsplit (Skips m) Forward input (pairs_reported_in Forward m input j) pairs → IsOpen input set pairs → ⊥
    stops undone j pairs more reads unsplit is_open = go last walk.stage refl where
      go : (walk.stage ≡ Ended) ⊎ IsClosedAfter m input set calls → (s : Stage) → walk.stage ≡ s → ⊥
      go (inl over) s is = made.stops over undone j more reads
      go (inr closed) Ended is = made.stops is undone j more reads
      go (inr closed) Fresh is =
          closed_stops m input walk calls set list.0 made.reported
          (λ over. (let e : Fresh ≡ Ended = sym is ∙ over in cc)) undone list.1
          (closed list.0 list.1) j pairs more reads unsplit is_open
      go (inr closed) (At q) is =
          closed_stops m input walk calls set list.0 made.reported (λ over. ended_at q (sym over ∙ is)) undone list.1
          (closed list.0 list.1) j pairs more reads unsplit is_open

    -- a walk that has not begun has neither ended nor closed its set
    fresh : walk.stage ≡ Fresh → (walk.stage ≡ Ended) ⊎ IsClosedAfter m input set calls → ⊥
    fresh is (inl over) = (let e : Fresh ≡ Ended = sym is ∙ over in cc)
    fresh is (inr closed) =
        let none : calls ≡ 0 =
        (subst (λ (s : Stage). HasReportedAt Forward m input s walk.units walk.reported calls) is made.reported).0 in
        closed list.0 list.1 (NoPair (ap (λ n. take n list.0) none))

    all :
        input.start ≤ input.end → HasLearnedWalk m new input walk
        → KnowsItsStart Forward m new input
        × ((j : ℕ) (pairs : List Pair)
        → WalkReads Forward m input j → HasReadNoQuit Forward m input (suc j)
        → AreUnsplit (Skips m) Forward input (pairs_reported_in Forward m input j) pairs → IsOpen input set pairs
        → KnowsUnit Forward m new input j)
    all undone (inl unbegun) = absurd (fresh unbegun.0 last)
    all undone (inr known) =
        (known.0, λ j pairs reads clean unsplit is_open. go j pairs reads unsplit is_open (cases_lt j walk.units)) where
          go :
              (j : ℕ) (pairs : List Pair) → WalkReads Forward m input j
              → AreUnsplit (Skips m) Forward input (pairs_reported_in Forward m input j) pairs → IsOpen input set pairs
              → (j < walk.units) ⊎ (walk.units ≤ j) → KnowsUnit Forward m new input j
          go j pairs reads unsplit is_open (inl less) = known.1 j less
          go j pairs reads unsplit is_open (inr more) = absurd (stops undone j pairs more reads unsplit is_open)

  -- a search for a set that returns an error
  set_left :
      (joined : List Bool) (new : Known) (e : SearchError) → SetFails m input set joined old new e
      → SetFollows m input set old new (Some e)
  set_left joined new e s = record {
    cost = cost;
    roomy = λ room. clears_none m old new (input.end - input.start + 2) grown cost room;
    started = λ knows. (
        let less = (c.started (begun_state m input s.walk.stage old s.mid made.grown s.there knows)).0 in
        omega (arith, less, made.started knows, made.few));
    grown = grown;
    sound = c.sound;
    learned = λ nothing. tt;
    known = λ knows. (
        let count : s.mid.count ≡ old.count = made.idle knows in
        let here = c.known (which_walk m s.mid input s.walk set s.calls made.reported s.still_open list s.there
        (which_idle m input set old s.mid made.grown count knows)) in
        (grown.idle (ap (λ (v : Known). v.count) here.0 ∙ count), of_input Forward m input s.walk e here.1));
    done =
        λ past. absurd (left_reads Ids Forward m input s.walk s.mid new e s.left (HasNoneLeft (omega (arith, past))));
  } where
    made : CallsMade s.calls s.walk s.mid
    made = calls_made s.calls s.walk s.mid s.called

    c : CallFollows Ids Forward m input s.walk s.walk s.mid new (Some e)
    c =
        call_left Forward m input bounds skips s.walk s.calls made.reported Ids s.walk s.mid new e made.known_then
        s.left

    grown : IsGrown m old new
    grown = grown_trans m old s.mid new made.grown (c.there s.there)

    cost : new.count ≤ old.count + (input.end - input.start + 2)
    cost = omega (arith, c.most, made.counted, made.few)

-- what follows from every search for a set
pub sets_follow : (m : Machine) → HasBounds m → Skips m ⊎ (Skips m → ⊥) → WalksAreReported m.nfa → SetsFollow m
sets_follow m bounds skips reported input set joined old new None sound s =
    set_called m bounds skips input set
    (walks_are Forward m input reported) old sound new s.calls s.walk s.called s.last
sets_follow m bounds skips reported input set joined old new (Some e) sound s =
    set_left m bounds skips input set (walks_are Forward m input reported) old sound joined new e s
