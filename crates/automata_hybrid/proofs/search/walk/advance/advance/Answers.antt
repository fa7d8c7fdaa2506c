use Rattle.std.proofs.Common.{ℕ, suc, ◌≡◌, ◌<◌, ◌+◌, ◌-◌, inl, inr, length, None, Some, refl, sym, subst, arith, ⊎_elim}
use Rattle.automata_hybrid.proofs.Words.{CacheView, dead, Direction, HasReadNoQuit, known_of, Names, Result}
use Rattle.automata_hybrid.proofs.Words.{SearchError, state_in, tape_in}
use Rattle.automata_hybrid.specs.declared.search.walk.advance.Arrival.{Arrival}
use Rattle.automata_hybrid.specs.Private.Searches.PassState.{IsFollowed}
use Rattle.automata_hybrid.specs.Private.Walks.Parts.{IsAdvanceResult}
use Rattle.automata_hybrid.specs.Walks.Answers.{IsSilent, WalkReads}
use Rattle.automata_hybrid.proofs.Searches.Directions.{units_in}
use Rattle.automata_hybrid.proofs.Searches.Goes.{GoesTo, goes_more, goes_none}
use Rattle.automata_hybrid.proofs.Searches.PassState.{false_true}
use Rattle.automata_hybrid.proofs.Searches.Reads.{at_err}
use Rattle.automata_hybrid.proofs.Fast.Runs.{followed_clean, followed_on, followed_silent, follows_none}
use Rattle.automata_hybrid.proofs.Steps.Ids.{dead_tagged}
use Rattle.automata_hybrid.proofs.Walks.Progress.{call_stopped, goes_followed, has_advanced}
use Rattle.automata_hybrid.proofs.Walks.Reports.{clean_more, finish_dead, finish_read, silent_same, silent_step}
use Rattle.automata_hybrid.proofs.search.walk.advance.advance.Goals as goal
use Rattle.automata_hybrid.proofs.search.walk.advance.advance.Goals.{After-walk_with_leaps-stop}

-- the transitions that were followed to where the walk stopped
followed :
    (c : After-walk_with_leaps-stop)
    → IsFollowed c.args.way c.args.dfa.now c.walk_with_leaps-stop.new.cache.store c.args.input.now 0 c.loop-read.read
    c.walk_with_leaps-stop.result.0.at c.walk_with_leaps-stop.result.0.id
followed c =
    followed_on
    (subst
    (λ (v : CacheView). IsFollowed c.args.way c.args.dfa.now v.store c.args.input.now 0 c.loop-read.read
    c.follow_walk-near.result.at c.follow_walk-near.result.id)
    (sym c.walk_with_leaps-stop.ensures.same) c.follow_walk-near.ensures.followed)
    c.walk_with_leaps-stop.ensures.far.followed

-- the effect of the units up to there on what the cache knows
goes :
    (c : After-walk_with_leaps-stop)
    → GoesTo c.args.way c.args.dfa.now c.args.input.now c.args.units c.walk_with_leaps-stop.result.0.at
    (known_of c.args.cache.now) (known_of c.walk_with_leaps-stop.new.cache)
goes c =
    goes_followed c.args.way c.args.dfa.now c.args.input.now c.args.units (known_of c.args.cache.now)
    c.loop-read.read c.walk_with_leaps-stop.result.0.at c.walk_with_leaps-stop.result.0.id c.loop-read.cache
    c.walk_with_leaps-stop.new.cache c.requires.sound.machine
    (c.last_place-last.ensures.valid.bytes, c.last_place-last.ensures.valid.within.1) c.requires.from.undone
    c.loop-read.invariant.sound.store c.walk_with_leaps-stop.ensures.same c.loop-read.invariant.progress (followed c)
    c.loop-read.invariant.clean

pub loop-read-init : goal.loop-read-init
loop-read-init c =
    let d : Direction = c.args.way in
    record {
      sound = c.requires.sound;
      from = omega arith;
      within = omega (arith, c.requires.from.left);
      named = c.requires.from.named;
      clean = c.requires.clean;
      silent = silent_same d c.args.dfa.now c.args.input.now c.args.units;
      progress = goes_none d c.args.dfa.now c.args.input.now c.args.units (known_of c.args.cache.now);
      reads = λ less. absurd (omega (arith, less));
      upto = omega (arith, c.last_place-last.ensures.place);
    }

pub loop-read-preserved : goal.loop-read-preserved
loop-read-preserved c =
    let d : Direction = c.args.way in
    let k : ℕ = c.walk_with_leaps-stop.result.0.at in
    let p = (goal.at.loop-read-preserved c).After-walk_with_leaps-stop in
    let f = followed p in
    let more : suc k ≡ k + 1 = omega arith in
    let named : Names c.read_unit.new.cache.store.table c.in_ok-next.next
    (state_in d c.args.dfa.now c.args.input.now (suc k)) =
    (dead_tagged c.read_unit.new.cache.store.table c.in_ok-next.next
    (c.in_ok-next.ensures.sound.table.low c.in_ok-next.next) c.in_ok-next.ensures.sound.store.small _
    c.in_ok-next.ensures.unit.leads).1 (λ b. false_true (c.if-is_dead.ensures.1 b)) in
    let clean : HasReadNoQuit d c.args.dfa.now c.args.input.now (suc k) =
    clean_more d c.args.dfa.now c.args.input.now k (followed_clean f c.loop-read.invariant.clean)
    c.in_ok-next.ensures.unit.clean in
    let silent : IsSilent d c.args.dfa.now c.args.input.now c.args.units (suc k) =
    silent_step d c.args.dfa.now c.args.input.now c.args.units k (followed_silent f c.loop-read.invariant.silent)
    (⊎_elim (λ s. inl s) (λ none. inr (none (state_in d c.args.dfa.now c.args.input.now (suc k)) named))
    (c.reports.ensures.no c.if-reports.false)) in
    record {
      sound = c.in_ok-next.ensures.sound;
      from = omega (arith, c.loop-read.invariant.from, f.more);
      within = omega (arith, c.walk_with_leaps-stop.ensures.far.within);
      named =
          subst (λ n. Names c.read_unit.new.cache.store.table c.in_ok-next.next
          (state_in d c.args.dfa.now c.args.input.now n)) more named;
      clean = subst (HasReadNoQuit d c.args.dfa.now c.args.input.now) more clean;
      silent = subst (IsSilent d c.args.dfa.now c.args.input.now c.args.units) more silent;
      progress =
          subst
          (λ n. GoesTo d c.args.dfa.now c.args.input.now c.args.units n (known_of c.args.cache.now)
          (known_of c.read_unit.new.cache))
          more
          (goes_more d c.args.dfa.now c.args.input.now c.args.units (known_of c.args.cache.now) k
          (known_of c.walk_with_leaps-stop.new.cache) (known_of c.read_unit.new.cache) (goes p)
          c.in_ok-next.ensures.unit.read);
      reads = λ less. (k, sym more, c.in_ok-next.ensures.reads);
      upto = c.walk_with_leaps-stop.ensures.upto;
    }

pub reports-requires-clause-valid : goal.reports-requires-clause-valid
reports-requires-clause-valid c = (
  state_in c.args.way c.args.dfa.now c.args.input.now (suc c.walk_with_leaps-stop.result.0.at),
  (dead_tagged c.read_unit.new.cache.store.table c.in_ok-next.next
      (c.in_ok-next.ensures.sound.table.low c.in_ok-next.next) c.in_ok-next.ensures.sound.store.small _
      c.in_ok-next.ensures.unit.leads).1
      (λ b. false_true (c.if-is_dead.ensures.1 b)),
)

pub returns-in_err-next-clause-advanced : goal.returns-in_err-next-clause-advanced
returns-in_err-next-clause-advanced c =
    let d : Direction = c.args.way in
    let k : ℕ = c.walk_with_leaps-stop.result.0.at in
    let p = (goal.at.returns-in_err-next-clause-advanced c).After-walk_with_leaps-stop in
    at_err c.from_residual.result _
    (λ (r : Result Arrival SearchError). IsAdvanceResult d c.args.dfa.now c.args.input.now c.args.units
    c.args.cache.now c.read_unit.new.cache r) c.from_residual.ensures.1
    (call_stopped d c.args.dfa.now c.args.input.now c.args.units k (known_of c.args.cache.now)
    (known_of c.walk_with_leaps-stop.new.cache) (known_of c.read_unit.new.cache) c.in_err-next.field-0.0
    c.in_err-next.ensures.reads (followed_clean (followed p) c.loop-read.invariant.clean)
    (followed_silent (followed p) c.loop-read.invariant.silent) (goes p) c.in_err-next.ensures.unit)

pub returns-then-is_dead-clause-advanced : goal.returns-then-is_dead-clause-advanced
returns-then-is_dead-clause-advanced c =
    let d : Direction = c.args.way in
    let k : ℕ = c.walk_with_leaps-stop.result.0.at in
    let p = (goal.at.returns-then-is_dead-clause-advanced c).After-walk_with_leaps-stop in
    let f = followed p in
    let units : c.args.input.now.end - c.args.input.now.start ≡ length (tape_in d c.args.input.now).bytes =
    units_in d c.args.input.now c.requires.from.undone c.last_place-last.ensures.valid.within.1 in
    let dies : state_in d c.args.dfa.now c.args.input.now (suc k) ≡ dead =
    (dead_tagged c.read_unit.new.cache.store.table c.in_ok-next.next
    (c.in_ok-next.ensures.sound.table.low c.in_ok-next.next) c.in_ok-next.ensures.sound.store.small _
    c.in_ok-next.ensures.unit.leads).0 (c.if-is_dead.ensures.0 refl) in
    has_advanced d c.args.dfa.now c.args.input.now c.args.units k (record { id = None; units = k + 1 })
    c.args.cache.now c.read_unit.new.cache (omega (arith, c.loop-read.invariant.from, f.more)) (omega arith)
    c.in_ok-next.ensures.reads
    (goes_more d c.args.dfa.now c.args.input.now c.args.units (known_of c.args.cache.now) k
    (known_of c.walk_with_leaps-stop.new.cache) (known_of c.read_unit.new.cache) (goes p)
    c.in_ok-next.ensures.unit.read)
    (finish_dead d c.args.dfa.now c.args.input.now c.args.units k _ (omega (arith, c.loop-read.invariant.from, f.more))
    (omega (arith, units, c.walk_with_leaps-stop.ensures.far.within)) (omega arith)
    (clean_more d c.args.dfa.now c.args.input.now k (followed_clean f c.loop-read.invariant.clean)
    c.in_ok-next.ensures.unit.clean) dies (followed_silent f c.loop-read.invariant.silent))

pub returns-then-reports-clause-advanced : goal.returns-then-reports-clause-advanced
returns-then-reports-clause-advanced c =
    let d : Direction = c.args.way in
    let k : ℕ = c.walk_with_leaps-stop.result.0.at in
    let p = (goal.at.returns-then-reports-clause-advanced c).After-walk_with_leaps-stop in
    let f = followed p in
    let units : c.args.input.now.end - c.args.input.now.start ≡ length (tape_in d c.args.input.now).bytes =
    units_in d c.args.input.now c.requires.from.undone c.last_place-last.ensures.valid.within.1 in
    let more : suc k ≡ k + 1 = omega arith in
    let named : Names c.read_unit.new.cache.store.table c.in_ok-next.next
    (state_in d c.args.dfa.now c.args.input.now (suc k)) =
    (dead_tagged c.read_unit.new.cache.store.table c.in_ok-next.next
    (c.in_ok-next.ensures.sound.table.low c.in_ok-next.next) c.in_ok-next.ensures.sound.store.small _
    c.in_ok-next.ensures.unit.leads).1 (λ b. false_true (c.if-is_dead.ensures.1 b)) in
    let yes = c.reports.ensures.yes c.if-reports.true in
    has_advanced d c.args.dfa.now c.args.input.now c.args.units k
    (record { id = Some c.in_ok-next.next; units = k + 1 }) c.args.cache.now c.read_unit.new.cache
    (omega (arith, c.loop-read.invariant.from, f.more)) (omega arith) c.in_ok-next.ensures.reads
    (goes_more d c.args.dfa.now c.args.input.now c.args.units (known_of c.args.cache.now) k
    (known_of c.walk_with_leaps-stop.new.cache) (known_of c.read_unit.new.cache) (goes p)
    c.in_ok-next.ensures.unit.read)
    (record {
      place = k;
      one_after = sym more;
      more = omega (arith, c.loop-read.invariant.from, f.more);
      within = omega (arith, units, c.walk_with_leaps-stop.ensures.far.within);
      named =
          subst (λ n. Names c.read_unit.new.cache.store.table c.in_ok-next.next
          (state_in d c.args.dfa.now c.args.input.now n)) more named;
      clean =
          subst (HasReadNoQuit d c.args.dfa.now c.args.input.now) more
          (clean_more d c.args.dfa.now c.args.input.now k (followed_clean f c.loop-read.invariant.clean)
          c.in_ok-next.ensures.unit.clean);
      reports = yes.1;
      unskipped = yes.0;
      silent = followed_silent f c.loop-read.invariant.silent;
    })

pub returns-clause-advanced : goal.returns-clause-advanced
returns-clause-advanced c =
    let d : Direction = c.args.way in
    let units : c.args.input.now.end - c.args.input.now.start ≡ length (tape_in d c.args.input.now).bytes =
    units_in d c.args.input.now c.requires.from.undone c.last_place-last.ensures.valid.within.1 in
    let all : c.loop-read.read ≡ suc (length (tape_in d c.args.input.now).bytes) =
    omega (arith, units, c.loop-read-test.false, c.last_place-last.ensures.place, c.loop-read.invariant.within) in
    let less : c.args.units < c.loop-read.read =
    omega (arith, c.requires.from.left, c.loop-read-test.false, c.last_place-last.ensures.place) in
    let last : (k : ℕ) × (c.loop-read.read ≡ suc k) × WalkReads d c.args.dfa.now c.args.input.now k =
    c.loop-read.invariant.reads less in
    has_advanced d c.args.dfa.now c.args.input.now c.args.units last.0 (record { id = None; units = c.loop-read.read })
    c.args.cache.now c.loop-read.cache (omega (arith, less, last.1)) (sym last.1) last.2
    (subst
    (λ n. GoesTo d c.args.dfa.now c.args.input.now c.args.units n (known_of c.args.cache.now)
    (known_of c.loop-read.cache))
    last.1 c.loop-read.invariant.progress)
    (finish_read d c.args.dfa.now c.args.input.now c.args.units c.loop-read.read all c.loop-read.invariant.from
    c.loop-read.invariant.clean c.loop-read.invariant.silent)

pub walk_with_leaps-stop-requires-clause-near : goal.walk_with_leaps-stop-requires-clause-near
walk_with_leaps-stop-requires-clause-near c =
    follows_none c.follow_walk-near.result c.follow_walk-near.ensures.within c.follow_walk-near.ensures.followed.named
    c.follow_walk-near.ensures.peeked
