-- What follows from a search, by what a cache knows: what it costs, how the cache grows, and what is cached afterwards.
use Rattle.std.proofs.Common.{ℕ, zero, suc, ◌≡◌, ◌∙◌, ◌+◌, ◌-◌, ◌*◌, ◌<◌, ◌≤◌, ◌⊎◌, inl, inr, Option, None, Some, refl}
use Rattle.std.proofs.Common.{sym, ap, subst, arith}
use Rattle.std.proofs.lemmas.Bool.{cases_lt}
use Rattle.automata_base.proofs.Paths.Orders.{some_none}
use Rattle.automata_hybrid.proofs.Words.{cost, Direction, Finds, Input, Known, later, Machine, No, pass_trace}
use Rattle.automata_hybrid.proofs.Words.{PassesEnd, SearchError, Skips, start_event, tape_in, unit_event}
use Rattle.automata_hybrid.specs.Known.Bounds.{IsKnown}
use Rattle.automata_hybrid.specs.Known.Cached.{Knows, KnownStays, KnowsItsStart, KnowsPass}
use Rattle.automata_hybrid.specs.Known.Follows.{AreCostsInTurn, IsCostOfPass, IsCostOfPasses, PassesCost, SearchFollows}
use Rattle.automata_hybrid.specs.Known.Follows.{SearchesFollow, passes_most}
use Rattle.automata_hybrid.specs.Known.Growth.{ClearedNothing, IsGrown}
use Rattle.automata_hybrid.specs.Known.Passes.{SearchEnds, SearchFails}
use Rattle.automata_hybrid.specs.Searches.Progress.{TriesSpan, TriesSpans}
use Rattle.automata_hybrid.proofs.Known.Bounds.{HasBounds}
use Rattle.automata_hybrid.proofs.Known.Growth.{clears_none, grown_same, grown_trans, nothing_first, nothing_second}
use Rattle.automata_hybrid.proofs.Known.Memory.{search_memory}
use Rattle.automata_hybrid.proofs.Known.PassesFollow.{PassFollows, event_idle, event_still, pass_ended, pass_failed}
use Rattle.automata_hybrid.proofs.Searches.Costs.{most_fewer, most_more, most_times, tries_before}
use Rattle.automata_hybrid.proofs.Searches.Follows.{later_few}
use Rattle.automata_base.proofs.Answers.Tried.{tries_on}
use Rattle.automata_hybrid.proofs.Searches.Directions.{later_none}

-- what a pass uses stays cached until a clear
pass_still :
    (way : Direction) (m : Machine) (input : Input) (old new : Known) → IsGrown m old new → ClearedNothing old new
    → KnowsPass way m old input → KnowsPass way m new input
pass_still way m input old new grown nothing knows may = (
  event_still m (start_event way input) old new grown nothing (knows may).0,
  λ k reads clean. event_still m (unit_event (pass_trace way m input) way input k) old new grown nothing
      ((knows may).1 k reads clean),
)

-- and so does what a search uses
pub known_stays : (m : Machine) → KnownStays m
known_stays m way input old new grown nothing knows k tried =
    pass_still way m (later way k input) old new grown nothing (knows k tried)

-- what a pass uses stays cached if nothing is determinized
pass_idle :
    (way : Direction) (m : Machine) (input : Input) (old new : Known) → IsGrown m old new → new.count ≡ old.count
    → KnowsPass way m old input → KnowsPass way m new input
pass_idle way m input old new grown same knows may = (
  event_idle m (start_event way input) old new grown same (knows may).0,
  λ k reads clean. event_idle m (unit_event (pass_trace way m input) way input k) old new grown same
      ((knows may).1 k reads clean),
)

-- what a pass costs
cost_of_pass :
    (way : Direction) (m : Machine) (input : Input) (old new : Known) → IsGrown m old new
    → new.count ≤ old.count + (input.end - input.start + 2)
    → (KnowsItsStart way m old input → new.count ≤ old.count + (input.end - input.start + 1))
    → IsCostOfPass way m input old new
cost_of_pass way m input old new grown counted started = record {
  counted = counted;
  started = started;
  room = λ room. clears_none m old new (input.end - input.start + 2) grown counted room;
}

-- how often `passes` passes of a search determinized, and how often if their start states were cached
record AreCounted (way : Direction) (m : Machine) (input : Input) (passes : ℕ) (old new : Known) : Type 0 where
  pub each : AreCostsInTurn way m input passes old new
  pub most : new.count ≤ old.count + passes_most passes (input.end - input.start)
  pub started :
      ((k : ℕ) → k < passes → KnowsItsStart way m old (later way k input))
      → new.count + passes ≤ old.count + passes_most passes (input.end - input.start)

-- what follows from `passes` passes that ended
record SpansFollow (way : Direction) (m : Machine) (input : Input) (passes : ℕ) (old new : Known) : Type 0 where
  pub grown : IsGrown m old new
  pub known : Knows way m old input → new.count ≡ old.count
  pub learned : ClearedNothing old new → (k : ℕ) → k < passes → KnowsPass way m new (later way k input)
  pub counted : AreCounted way m input passes old new
  pub sound : IsKnown m new

module _ (way : Direction) (m : Machine) (input : Input) where
  -- one more pass
  module _ (k : ℕ) (old between new : Known) (error : Option SearchError)
      (before : SpansFollow way m input k old between)
      (pass : PassFollows way m (later way k input) between new error) where
    counts : AreCounted way m input (suc k) old new
    counts = record {
      each = (
        between,
        before.counted.each,
        cost_of_pass way m (later way k input) between new pass.grown pass.counted pass.started,
      );
      most =
          most_more k (input.end - input.start)
          ((later way k input).end - (later way k input).start) old.count between.count
          new.count before.counted.most pass.counted (later_few way k input);
      started = λ begins. (
          let first : between.count + k ≤ old.count + passes_most k (input.end - input.start) =
          before.counted.started (λ j less. begins j (omega (arith, less))) in
          let begin = before.grown.starts (later way k input).anchored (tape_in way (later way k input)).before
          (begins k (omega arith)) in
          let once : new.count ≤ between.count + ((later way k input).end - (later way k input).start + 1) =
          pass.started begin in
          let one : passes_most (suc k) (input.end - input.start)
          ≡ passes_most k (input.end - input.start) + (input.end - input.start - k + 2) = refl in
          omega (arith, first, once, one, later_few way k input));
    }

    here : TriesSpan way m input k → Knows way m old input → KnowsPass way m between (later way k input)
    here tried knows = pass_idle way m (later way k input) old between before.grown (before.known knows) (knows k tried)

  one_more :
      (k : ℕ) (old between new : Known) → TriesSpan way m input k → SpansFollow way m input k old between
      → PassFollows way m (later way k input) between new None → SpansFollow way m input (suc k) old new
  one_more k old between new tried before pass = record {
    grown = grown_trans m old between new before.grown pass.grown;
    known =
        λ knows. ap (λ (c : Known). c.count) (pass.known (here k old between new None before pass tried knows)).0
        ∙ before.known knows;
    learned = λ nothing j less. (
        let first = nothing_first m old between new before.grown pass.grown nothing in
        let second = nothing_second m old between new before.grown pass.grown nothing in
        last j less (λ earlier. pass_still way m (later way j input) between new pass.grown second
        (before.learned first j earlier))
        (pass.learned second refl) (cases_lt j k));
    counted = counts k old between new None before pass;
    sound = pass.sound;
  } where
    last :
        (j : ℕ) → j < suc k → (j < k → KnowsPass way m new (later way j input))
        → KnowsPass way m new (later way k input)
        → (j < k) ⊎ (k ≤ j) → KnowsPass way m new (later way j input)
    last j less earlier now (inl within) = earlier within
    last j less earlier now (inr behind) =
        let same : k ≡ j = omega (arith, behind, less) in
        subst (λ i. KnowsPass way m new (later way i input)) same now

  spans_follow :
      HasBounds m → (passes : ℕ) (old new : Known) → IsKnown m old → TriesSpans way m input passes
      → PassesEnd way m input passes old new → SpansFollow way m input passes old new
  spans_follow bounds zero old new sound tried same = record {
    grown = grown_same m old new same;
    known = λ knows. count;
    learned = λ nothing k less. absurd (omega (arith, less));
    counted = record { each = same; most = omega (arith, count); started = λ begins. omega (arith, count) };
    sound = subst (IsKnown m) (sym same) sound;
  } where
    count : new.count ≡ old.count
    count = ap (λ (c : Known). c.count) same
  spans_follow bounds (suc passes) old new sound tried (mid, before, pass) =
      let first = spans_follow bounds passes old mid sound (λ k less. tried k (omega (arith, less))) before in
      one_more passes old mid new (tried passes (omega arith)) first
      (pass_ended way m (later way passes input) bounds mid new first.sound pass)

  -- what the passes cost
  cost_of :
      (passes : ℕ) (old new : Known) → TriesSpans way m input passes → IsGrown m old new
      → AreCounted way m input passes old new → IsCostOfPasses way m input passes old new
  cost_of passes old new tried grown counted = record {
    tried = tried;
    each = counted.each;
    counted = counted.most;
    started = counted.started;
    room = λ room. clears_none m old new (passes_most passes (input.end - input.start)) grown counted.most room;
  }

  -- there is at most one pass for each place of the span, and none if the span is done
  passes_few : (passes : ℕ) → TriesSpans way m input passes → passes ≤ input.end + 1 - input.start
  passes_few zero tried = omega arith
  passes_few (suc k) tried =
      let within : input.start + k ≤ input.end = (tried k (omega arith)).1 in omega (arith, within)

  -- if no place is skipped or the search is anchored, there is no second pass
  no_second : (k : ℕ) → TriesSpans way m input (suc (suc k)) → (Skips m × (input.anchored ≡ No) → ⊥) → ⊥
  no_second k tried whole =
      whole (tries_on (Skips m) input k (suc k) (omega arith) (tried (suc k) (omega arith)).0.comes)

  module _ (old new : Known) (passes : ℕ) (cost : IsCostOfPasses way m input passes old new) (grown : IsGrown m old new)
    where
      -- so it costs at most what one pass may
      once : (Skips m × (input.anchored ≡ No) → ⊥) → IsCostOfPass way m input old new
      once whole = cost_of_pass way m input old new grown (counted passes cost) (started passes cost) where
        counted :
            (passes : ℕ) → IsCostOfPasses way m input passes old new
            → new.count ≤ old.count + (input.end - input.start + 2)
        counted zero cost = let most : new.count ≤ old.count + 0 = cost.counted in omega (arith, most)
        counted (suc zero) cost =
            let most : new.count ≤ old.count + (0 + (input.end - input.start - 0 + 2)) = cost.counted in
            omega (arith, most)
        counted (suc (suc k)) cost = absurd (no_second k cost.tried whole)

        first : KnowsItsStart way m old input → (k : ℕ) → k < 1 → KnowsItsStart way m old (later way k input)
        first begins k less =
            let none : k ≡ 0 = omega (arith, less) in
            subst (λ i. KnowsItsStart way m old (later way i input)) (sym none)
            (subst (KnowsItsStart way m old) (later_none way input) begins)

        started :
            (passes : ℕ) → IsCostOfPasses way m input passes old new → KnowsItsStart way m old input
            → new.count ≤ old.count + (input.end - input.start + 1)
        started zero cost begins = let most : new.count ≤ old.count + 0 = cost.counted in omega (arith, most)
        started (suc zero) cost begins =
            let most : new.count + 1 ≤ old.count + (0 + (input.end - input.start - 0 + 2)) =
            cost.started (first begins) in
            omega (arith, most)
        started (suc (suc k)) cost begins = absurd (no_second k cost.tried whole)

      -- it determinizes at most as often as a pass over the whole span for each place
      most : new.count ≤ old.count + (input.end - input.start + 1) * (input.end - input.start + 2)
      most =
          let few : passes ≤ input.end - input.start + 1 = omega (arith, passes_few passes cost.tried) in
          let fewer = most_fewer passes (input.end - input.start + 1) (input.end - input.start) few in
          let times = most_times (input.end - input.start + 1) (input.end - input.start) in
          upto new.count old.count (passes_most passes (input.end - input.start))
          (passes_most (input.end - input.start + 1) (input.end - input.start))
          ((input.end - input.start + 1) * (input.end - input.start + 2)) cost.counted fewer times
        where
          upto : (n c a b d : ℕ) → n ≤ c + a → a ≤ b → b ≤ d → n ≤ c + d
          upto n c a b d f g h = omega (arith, f, g, h)

  module _ (bounds : HasBounds m) (old new : Known) (sound : IsKnown m old) where
    -- a search that returns Ok
    search_ends : SearchEnds way m input old new → SearchFollows way m input old new None
    search_ends e = record {
      passes = e.passes;
      cost = cost;
      once = once old new e.passes cost f.grown;
      most = most old new e.passes cost f.grown;
      grown = f.grown;
      sound = f.sound;
      learned = λ nothing none k tried. used nothing k tried (cases_lt k e.passes);
      known = λ knows. (f.grown.idle (f.known knows), tt);
      memory = λ inside free. tt;
      done = λ over. still over e.passes e.ends (passes_few e.passes e.tried);
    } where
      f : SpansFollow way m input e.passes old new
      f = spans_follow bounds e.passes old new sound e.tried e.ends

      cost : IsCostOfPasses way m input e.passes old new
      cost = cost_of e.passes old new e.tried f.grown f.counted

      used :
          ClearedNothing old new → (k : ℕ) → TriesSpan way m input k → (k < e.passes) ⊎ (e.passes ≤ k)
          → KnowsPass way m new (later way k input)
      used nothing k tried (inl less) = f.learned nothing k less
      used nothing k tried (inr more) =
          let within : input.start + k ≤ input.end = tried.1 in
          absurd (e.last (
            tries_before (Finds way m) (Skips m) way input e.passes k more tried.0,
            omega (arith, more, within),
          ))

      still :
          input.end < input.start → (n : ℕ) → PassesEnd way m input n old new → n ≤ input.end + 1 - input.start
          → new ≡ old
      still over zero ends few = ends
      still over (suc n) ends few = absurd (omega (arith, over, few))

    -- a search that returns an error
    search_fails :
        (error : SearchError) → SearchFails way m input old new error → SearchFollows way m input old new (Some error)
    search_fails error e = record {
      passes = suc e.passes;
      cost = cost;
      once = once old new (suc e.passes) cost whole;
      most = most old new (suc e.passes) cost whole;
      grown = whole;
      sound = pass.sound;
      learned = λ nothing none. absurd (some_none none);
      known = λ knows. (
          let last = pass.known
          (here e.passes old e.mid new (Some error) f pass (e.tried e.passes (omega arith)) knows) in
          (whole.idle (ap (λ (c : Known). c.count) last.0 ∙ f.known knows), last.1));
      memory = λ inside free. search_memory way m input old new error inside free e;
      done = λ over. absurd (omega (arith, over, passes_few (suc e.passes) e.tried));
    } where
      f : SpansFollow way m input e.passes old e.mid
      f = spans_follow bounds e.passes old e.mid sound (λ k less. e.tried k (omega (arith, less))) e.ends

      pass : PassFollows way m (later way e.passes input) e.mid new (Some error)
      pass = pass_failed way m (later way e.passes input) bounds e.mid new f.sound error e.fails

      whole : IsGrown m old new
      whole = grown_trans m old e.mid new f.grown pass.grown

      cost : IsCostOfPasses way m input (suc e.passes) old new
      cost = cost_of (suc e.passes) old new e.tried whole (counts e.passes old e.mid new (Some error) f pass)

pub searches_follow : (m : Machine) → HasBounds m → SearchesFollow m
searches_follow m bounds way input old new None sound run =
    search_ends way m input bounds old new sound run
searches_follow m bounds way input old new (Some error) sound run =
    search_fails way m input bounds old new sound error run

pub passes_cost : (m : Machine) → HasBounds m → PassesCost m
passes_cost m bounds way input passes old new sound run =
    let f = spans_follow way m input bounds passes old new sound run.tried run.ends in
    cost_of way m input passes old new run.tried f.grown f.counted
