-- What follows from a pass, by what a cache knows: what it costs, how the cache grows, and what is cached afterwards.
use Rattle.std.proofs.Common.{ℕ, zero, suc, ◌≡◌, ◌∙◌, ◌+◌, ◌-◌, ◌<◌, ◌≤◌, ◌⊎◌, inl, inr, length, true, false, Option}
use Rattle.std.proofs.Common.{None, Some, refl, sym, ap, subst, arith}
use Rattle.automata_hybrid.proofs.Words.{after_event, after_many, after_unit, begun, CannotStart, CannotStep, Direction}
use Rattle.automata_hybrid.proofs.Words.{ended, Event, FailsLater, given_up_offset, HasReadNoQuit, IfSome, Input}
use Rattle.automata_hybrid.proofs.Words.{is_cached, is_quit, Known, LacksMode, Machine, MayStart, MeetsQuit, moved}
use Rattle.automata_hybrid.proofs.Words.{next, option_and_then, pass_trace, PassFails, quits_on, QuitsBehind, Reads}
use Rattle.automata_hybrid.proofs.Words.{SearchError, Start, start_event, Step, tape_in, Trace, unit_event, UnitFails}
use Rattle.automata_hybrid.proofs.Words.{UnitsEnd}
use Rattle.std.proofs.lemmas.Bool.{cases_lt}
use Rattle.automata_base.proofs.Paths.Orders.{none_some, some_inj, some_none}
use Rattle.automata_hybrid.specs.Known.Bounds.{IsKnown}
use Rattle.automata_hybrid.specs.Known.Cached.{KnowsItsStart, KnowsPass, KnowsUnit}
use Rattle.automata_hybrid.specs.Known.Growth.{ClearedNothing, IsGrown, IsStill}
use Rattle.automata_hybrid.specs.Known.Passes.{FailsAtUnit}
use Rattle.automata_hybrid.specs.Known.Passes.{PassEnds}
use Rattle.automata_hybrid.specs.Known.Passes.{after_start}
use Rattle.automata_hybrid.specs.Searches.Contracts.{IsOfInput}
use Rattle.automata_hybrid.proofs.Known.Bounds.{HasBounds, known_counted, known_moved}
use Rattle.automata_hybrid.proofs.Known.Growth.{grown_counted, grown_same, grown_still, grown_trans, nothing_first}
use Rattle.automata_hybrid.proofs.Known.Growth.{nothing_second}
use Rattle.automata_hybrid.proofs.Known.Makes.{Follows, event_follows, mapped}
use Rattle.automata_hybrid.proofs.Searches.Follows.{tape_few}
use Rattle.automata_hybrid.proofs.Searches.PassState.{false_true, reads_before}
use Rattle.automata_hybrid.proofs.Steps.Steps.{no_quit_unit}

-- what is cached stays cached until a clear
pub event_still :
    (m : Machine) (e : Event) (old new : Known) → IsGrown m old new → ClearedNothing old new → is_cached m e old ≡ true
    → is_cached m e new ≡ true
event_still m (Start mode behind) old new grown nothing known = grown.starts mode behind known
event_still m (Step q unit) old new grown nothing known = (grown.kept nothing).steps q _ known

-- what is cached stays cached if nothing is determinized
pub event_idle :
    (m : Machine) (e : Event) (old new : Known) → IsGrown m old new → new.count ≡ old.count → is_cached m e old ≡ true
    → is_cached m e new ≡ true
event_idle m e old new grown same known =
    subst (λ (c : Known). is_cached m e c ≡ true) (sym (grown.idle same)) (cached e known) where
      cached : (e : Event) → is_cached m e old ≡ true → is_cached m e (record old { searched = new.searched }) ≡ true
      cached (Start mode behind) is = is
      cached (Step q unit) is = is

-- if a chain of two calls has a value, the first call has one
pub then_some :
    {A B : Type 0} (f : A → Option B) (o : Option A) (y : B) → option_and_then f o ≡ Some y
    → (x : A) × (o ≡ Some x) × (f x ≡ Some y)
then_some f None y is = absurd (none_some is)
then_some f (Some x) y is = (x, refl, is)

-- what follows from `n` units that a run along a trace reads from a place on
pub record UnitsFollow (s : Trace) (way : Direction) (m : Machine) (input : Input) (from n : ℕ) (old new : Known) :
    Type 0 where
  pub grown : IsGrown m old new
  pub counted : new.count ≤ old.count + n
  -- if the transition on each unit was cached, nothing was determinized
  pub known :
      ((j : ℕ) → from ≤ j → j < from + n → is_cached m (unit_event s way input j) old ≡ true) → new.count ≡ old.count
  -- if nothing was cleared, each of these transitions is cached then
  pub learned :
      ClearedNothing old new → (j : ℕ) → from ≤ j → j < from + n → is_cached m (unit_event s way input j) new ≡ true
  pub sound : IsKnown m new

module _ (s : Trace) (way : Direction) (m : Machine) (input : Input) (from : ℕ) (bounds : HasBounds m) where
  -- one more unit
  one_more :
      (n : ℕ) (old mid new : Known) → UnitsFollow s way m input from n old mid
      → Follows m (unit_event s way input (from + n)) mid new → UnitsFollow s way m input from (suc n) old new
  one_more n old mid new f g = record {
    grown = grown_trans m old mid new f.grown g.grown;
    counted = omega (arith, f.counted, g.counted);
    known = λ knows. (
        let idle = f.known (λ j more less. knows j more (omega (arith, less))) in
        g.known (event_idle m (unit_event s way input (from + n)) old mid f.grown idle
        (knows (from + n) (omega arith) (omega arith))) ∙ idle);
    learned = λ nothing j more less. (
        let first = nothing_first m old mid new f.grown g.grown nothing in
        let second = nothing_second m old mid new f.grown g.grown nothing in
        last j less (λ within. event_still m (unit_event s way input j) mid new g.grown second
        (f.learned first j more within)) (cases_lt j (from + n)));
    sound = g.sound;
  } where
    last :
        (j : ℕ) → j < from + suc n → (j < from + n → is_cached m (unit_event s way input j) new ≡ true)
        → (j < from + n) ⊎ (from + n ≤ j) → is_cached m (unit_event s way input j) new ≡ true
    last j less earlier (inl within) = earlier within
    last j less earlier (inr behind) =
        let same : from + n ≡ j = omega (arith, behind, less) in
        subst (λ i. is_cached m (unit_event s way input i) new ≡ true) same g.learned

  pub units_follow :
      (n : ℕ) (old new : Known) → IsKnown m old → after_many s way m input from n old ≡ Some new
      → UnitsFollow s way m input from n old new
  unfolding after_many
  units_follow zero old new sound run = record {
    grown = grown_same m old new same;
    counted = omega (arith, ap (λ (c : Known). c.count) same);
    known = λ knows. ap (λ (c : Known). c.count) same;
    learned = λ nothing j more less. absurd (omega (arith, more, less));
    sound = subst (IsKnown m) (sym same) sound;
  } where
    same : new ≡ old
    same = sym (some_inj run)
  units_follow (suc n) old new sound run =
      let parts = then_some (after_unit s way m input (from + n)) (after_many s way m input from n old) new run in
      let f = units_follow n old parts.0 sound parts.1 in
      one_more n old parts.0 new f
      (event_follows m parts.0 (moved (given_up_offset way input (from + n)) parts.0).searched new f.sound
      bounds (unit_event s way input (from + n)) parts.2)

-- what follows from the beginning of a pass: its start state and its first `units` units
record BeginFollows (way : Direction) (m : Machine) (input : Input) (units : ℕ) (old new : Known) : Type 0 where
  pub grown : IsGrown m old new
  pub counted : new.count ≤ old.count + units + 1
  -- a start state that is cached is not determinized again
  pub started : KnowsItsStart way m old input → new.count ≤ old.count + units
  -- if everything that it uses was cached, nothing was determinized
  pub known :
      KnowsItsStart way m old input → ((j : ℕ) → j < units → KnowsUnit way m old input j) → new.count ≡ old.count
  -- its start state is cached afterwards
  pub start : KnowsItsStart way m new input
  -- if nothing was cleared, so is each of its transitions
  pub learned : ClearedNothing old new → (j : ℕ) → j < units → KnowsUnit way m new input j
  pub sound : IsKnown m new

module _ (way : Direction) (m : Machine) (input : Input) (bounds : HasBounds m) (old : Known) (sound : IsKnown m old)
  where
    begin_follows :
        (units : ℕ) (first new : Known) → after_start way m input old ≡ Some first
        → after_many (pass_trace way m input) way m input 0 units first ≡ Some new
        → BeginFollows way m input units old new
    begin_follows units first new starts run = record {
      grown = grown_trans m old mid new s.grown rest;
      counted = omega (arith, s.counted, g.counted);
      started = λ begins. (let idle = s.known begins in omega (arith, idle, g.counted));
      known = λ begins knows. (
          let idle = s.known begins in
          g.known (λ j more less. event_idle m (unit_event (pass_trace way m input) way input j) old mid s.grown idle
          (knows j (omega (arith, less)))) ∙ idle);
      start = rest.starts input.anchored (tape_in way input).before s.learned;
      learned =
          λ nothing j less. g.learned (nothing_second m old mid new s.grown rest nothing) j (omega arith)
          (omega (arith, less));
      sound = g.sound;
    } where
      begin :
          (mid : Known) × (after_event m (start_event way input) old old ≡ Some mid)
          × (first ≡ begun (given_up_offset way input 0) mid)
      begin = mapped (begun (given_up_offset way input 0)) (after_event m (start_event way input) old old) first starts

      mid : Known
      mid = begin.0

      s : Follows m (start_event way input) old mid
      s = event_follows m old old.searched mid sound bounds (start_event way input) begin.1

      g : UnitsFollow (pass_trace way m input) way m input 0 units (begun (given_up_offset way input 0) mid) new
      g =
          units_follow (pass_trace way m input) way m input 0 bounds units (begun (given_up_offset way input 0) mid) new
          (known_moved m mid (begun (given_up_offset way input 0) mid).searched s.sound)
          (subst (λ (c : Known). after_many (pass_trace way m input) way m input 0 units c ≡ Some new) begin.2 run)

      rest : IsGrown m mid new
      rest =
          grown_trans m mid (begun (given_up_offset way input 0) mid) new
          (grown_still m mid (begun (given_up_offset way input 0) mid) refl) g.grown

-- what follows from a pass that returns this error, or none
pub record PassFollows (way : Direction) (m : Machine) (input : Input) (old new : Known) (error : Option SearchError) :
    Type 0 where
  -- it determinized at most once for each byte of the span, once for its start state, and once at its end
  pub counted : new.count ≤ old.count + (input.end - input.start + 2)
  -- a start state that is cached is not determinized again
  pub started : KnowsItsStart way m old input → new.count ≤ old.count + (input.end - input.start + 1)
  pub grown : IsGrown m old new
  -- if everything that it uses is cached, it fails only because of its input, and only the progress of searches changes
  pub known : KnowsPass way m old input → IsStill old new × IfSome error IsOfInput
  -- if it ended and nothing was cleared, everything that it used is cached then
  pub learned : ClearedNothing old new → error ≡ None → KnowsPass way m new input
  pub sound : IsKnown m new

-- a pass without a quit byte among its first units has none among fewer units
clean_before :
    (way : Direction) (m : Machine) (input : Input) (units j : ℕ) → j < units → HasReadNoQuit way m input units
    → HasReadNoQuit way m input (suc j)
clean_before way m input units j less clean i byte before unit = clean i byte (omega (arith, less, before)) unit

-- what follows when a pass fails at a unit
pub record Leaves (way : Direction) (m : Machine) (input : Input) (place : ℕ) (mid new : Known) (error : SearchError) :
    Type 0 where
  pub grown : IsGrown m mid new
  pub counted : new.count ≤ mid.count + 1
  -- if the unit is a quit byte or its transition is cached, nothing is determinized, and the input causes the error
  pub known :
      (HasReadNoQuit way m input (suc place) → KnowsUnit way m mid input place)
      → (new.count ≡ mid.count) × IsOfInput error
  pub sound : IsKnown m new

module _ (way : Direction) (m : Machine) (input : Input) (place : ℕ) (mid new : Known) (error : SearchError)
    (clean : HasReadNoQuit way m input place) (sound : IsKnown m mid) where
  clean_upto : quits_on m (next (tape_in way input) place) ≡ false → HasReadNoQuit way m input (suc place)
  clean_upto free j byte less unit = go (cases_lt j place) where
    go : (j < place) ⊎ (place ≤ j) → is_quit m.quits byte ≡ false
    go (inl before) = clean j byte before unit
    go (inr more) =
        let here : place ≡ j = omega (arith, less, more) in
        no_quit_unit m (next (tape_in way input) place) free byte (ap (next (tape_in way input)) here ∙ unit)

  pub unit_leaves : UnitFails way m input place mid new error → Leaves way m input place mid new error
  unit_leaves (MeetsQuit byte unit quits is same) = record {
    grown = grown_still m mid new (subst (λ (c : Known). IsStill mid c) (sym same) refl);
    counted = omega (arith, ap (λ (c : Known). c.count) same);
    known = λ knows. (ap (λ (c : Known). c.count) same, subst IsOfInput (sym is) tt);
    sound =
        subst (IsKnown m) (sym same) (known_moved m mid (ended (given_up_offset way input place) mid).searched sound);
  }
  unit_leaves (CannotStep free fails) = record {
    grown =
        grown_trans m mid (moved (given_up_offset way input place) mid) new
        (grown_still m mid (moved (given_up_offset way input place) mid) refl)
        (grown_counted m (moved (given_up_offset way input place) mid) new fails.unchanged);
    counted = omega (arith, ap (λ (c : Known). c.count) fails.unchanged);
    known = λ knows. absurd (false_true (sym fails.unknown ∙ knows (clean_upto free)));
    sound =
        subst (IsKnown m) (sym fails.unchanged)
        (known_counted m (moved (given_up_offset way input place) mid)
        (known_moved m mid (moved (given_up_offset way input place) mid).searched sound));
  }

module _ (way : Direction) (m : Machine) (input : Input) (bounds : HasBounds m) (old new : Known)
    (sound : IsKnown m old) where
  -- a pass that ends
  pub pass_ended : PassEnds way m input old new → PassFollows way m input old new None
  pass_ended e = record {
    counted = omega (arith, f.counted, same, few);
    started = λ begins. (let c = f.started begins in omega (arith, c, same, few));
    grown = grown;
    known = λ knows. (
        let all = knows e.may in
        let idle = f.known all.0
        (λ j less. all.1 j (u.reads.0 j less) (clean_before way m input u.units j less u.clean)) in
        (grown.idle (same ∙ idle), tt));
    learned = λ nothing none may. (
      rest.starts input.anchored (tape_in way input).before f.start,
      λ k reads clean. event_still m (unit_event (pass_trace way m input) way input k) parts.0 new rest
          (nothing_second m old parts.0 new f.grown rest nothing)
          (f.learned (nothing_first m old parts.0 new f.grown rest nothing) k (before k reads (cases_lt k u.units))),
    );
    sound =
        subst (IsKnown m) (sym parts.2)
        (known_moved m parts.0 (ended (given_up_offset way input (u.units - 1)) parts.0).searched f.sound);
  } where
    u : UnitsEnd way m input e.begun new
    u = e.ends

    parts :
        (mid : Known) × (after_many (pass_trace way m input) way m input 0 u.units e.begun ≡ Some mid)
        × (new ≡ ended (given_up_offset way input (u.units - 1)) mid)
    parts =
        mapped (ended (given_up_offset way input (u.units - 1)))
        (after_many (pass_trace way m input) way m input 0 u.units e.begun) new u.run

    f : BeginFollows way m input u.units old parts.0
    f = begin_follows way m input bounds old sound u.units e.begun parts.0 e.starts parts.1

    same : new.count ≡ parts.0.count
    same = ap (λ (c : Known). c.count) parts.2

    rest : IsGrown m parts.0 new
    rest = grown_still m parts.0 new (subst (λ (c : Known). IsStill parts.0 c) (sym parts.2) refl)

    grown : IsGrown m old new
    grown = grown_trans m old parts.0 new f.grown rest

    few : u.units ≤ input.end - input.start + 1
    few = count u.units refl where
      count : (n : ℕ) → n ≡ u.units → u.units ≤ input.end - input.start + 1
      count zero is = omega (arith, is)
      count (suc n) is =
          let within : n ≤ length (tape_in way input).bytes = (u.reads.0 n (omega (arith, is))).0 in
          omega (arith, is, within, tape_few way input)

    before : (k : ℕ) → Reads way m input k → (k < u.units) ⊎ (u.units ≤ k) → k < u.units
    before k reads (inl less) = less
    before k reads (inr more) = absurd (u.reads.1 (reads_before way m input u.units k more reads))

  -- a pass that fails and changes nothing
  barred : (error : SearchError) → IsOfInput error → new ≡ old → PassFollows way m input old new (Some error)
  barred error of same = record {
    counted = omega (arith, count);
    started = λ begins. omega (arith, count);
    grown = grown_same m old new same;
    known = λ knows. ((grown_same m old new same).idle count, of);
    learned = λ nothing none. absurd (some_none none);
    sound = subst (IsKnown m) (sym same) sound;
  } where
    count : new.count ≡ old.count
    count = ap (λ (c : Known). c.count) same

  -- a pass that fails at a unit
  module _ (error : SearchError) (first : Known) (starts : after_start way m input old ≡ Some first)
      (f : FailsAtUnit way m input first new error) where
    b : BeginFollows way m input f.place old f.mid
    b = begin_follows way m input bounds old sound f.place first f.mid starts f.run

    stopped : MayStart m input.anchored (tape_in way input).before → PassFollows way m input old new (Some error)
    stopped may = record {
      counted = omega (arith, b.counted, l.counted, few);
      started = λ begins. (let c = b.started begins in omega (arith, c, l.counted, few));
      grown = whole;
      known = λ knows. (
          let all = knows may in
          let unit : (j : ℕ) → j ≤ f.place → HasReadNoQuit way m input (suc j) → KnowsUnit way m old input j =
          λ j less clean. all.1 j (reads_before way m input j f.place less f.reads) clean in
          let idle = b.known all.0
          (λ j less. unit j (omega (arith, less)) (clean_before way m input f.place j less f.clean)) in
          let here = l.known (λ clean. event_idle m
          (unit_event (pass_trace way m input) way input f.place) old f.mid b.grown idle
          (unit f.place (omega arith) clean)) in
          (whole.idle (here.0 ∙ idle), here.1));
      learned = λ nothing none. absurd (some_none none);
      sound = l.sound;
    } where
      l : Leaves way m input f.place f.mid new error
      l = unit_leaves way m input f.place f.mid new error f.clean b.sound f.fails

      few : f.place ≤ input.end - input.start
      few = let within = f.reads.0 in omega (arith, within, tape_few way input)

      whole : IsGrown m old new
      whole = grown_trans m old f.mid new b.grown l.grown

  pub pass_failed :
      (error : SearchError) → PassFails way m input old new error → PassFollows way m input old new (Some error)
  pass_failed error (QuitsBehind byte quits is same) = barred error (subst IsOfInput (sym is) tt) same
  pass_failed error (LacksMode clear lacks is same) = barred error (subst IsOfInput (sym is) tt) same
  pass_failed error (CannotStart may fails) = record {
    counted = omega (arith, ap (λ (c : Known). c.count) fails.unchanged);
    started = λ begins. absurd (false_true (sym fails.unknown ∙ begins));
    grown = grown_counted m old new fails.unchanged;
    known = λ knows. absurd (false_true (sym fails.unknown ∙ (knows may).0));
    learned = λ nothing none. absurd (some_none none);
    sound = subst (IsKnown m) (sym fails.unchanged) (known_counted m old sound);
  }
  pass_failed error (FailsLater may first starts f) = stopped error first starts f may
