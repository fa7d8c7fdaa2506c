use Rattle.std.proofs.Common.{ℕ, ◌≡◌, ◌∙◌, ◌-◌, length, Option, Some, refl, sym, ap, subst, arith}
use Rattle.automata_hybrid.proofs.Words.{CacheView, dead, Direction, given_up_offset, HasReadNoQuit, Input, Known}
use Rattle.automata_hybrid.proofs.Words.{known_of, Leads, Machine, Names, Result, Rows, SearchError, state_in, tape_in}
use Rattle.automata_config.specs.declared.error.SearchError.TheVariants as search
use Rattle.automata_hybrid.specs.declared.search.walk.advance.Arrival.{Arrival}
use Rattle.automata_hybrid.specs.Known.Walks.{FailsOnItsWay, FailsToGoOn, CallFailsAtUnit, CallFails, after_going_on}
use Rattle.automata_hybrid.specs.Private.Walks.Answers.{Arrives, FindsNone, Finishes, IsArrival, ReadsMore}
use Rattle.automata_hybrid.specs.Private.Walks.Parts.{AnswersCall, HasAdvanced, IsCallResult}
use Rattle.automata_hybrid.specs.Private.Walks.State.{Holds, IsHeldAt, ended_walk, keeping_of}
use Rattle.automata_hybrid.specs.Walks.State.{Ids, Stage, Walk}
use Rattle.automata_hybrid.proofs.Searches.Directions.{units_in}
use Rattle.automata_hybrid.proofs.Searches.Reads.{at_err}
use Rattle.automata_hybrid.proofs.Searches.Skips.{skips_or_not}
use Rattle.automata_hybrid.proofs.Steps.Ids.{dead_tagged}
use Rattle.automata_hybrid.proofs.Walks.Calls.{clean_here, ended_at, next_finishes, reported_here}
use Rattle.automata_hybrid.proofs.Walks.Parts.{going_on}
use Rattle.automata_hybrid.proofs.Walks.Progress.{call_leaves, reads_some}
use Rattle.automata_hybrid.proofs.Walks.Reports.{finish_start}
use Rattle.automata_hybrid.proofs.Walks.Units.{run_dead, run_on, run_unheld}
use Rattle.automata_hybrid.specs.Private.Cache.Sound.{IsSoundCacheOf}
use Rattle.automata_hybrid.proofs.Storage.Sound.{sound_searched, sound_still}
use Rattle.automata_hybrid.proofs.search.walk.overlapping.search_next.Goals as goal
use Rattle.automata_hybrid.proofs.search.walk.overlapping.search_next.Goals.{After-search_start, In_ok-arrival}

pub returns-in_err-from-clause-called : goal.returns-in_err-from-clause-called
returns-in_err-from-clause-called c =
    let d : Direction = c.args.way in
    let m : Machine = c.args.dfa.now in
    let input : Input = c.args.input.now in
    let w : Walk = c.args.walk.now in
    at_err c.from_residual.result _
    (λ (x : Result (Unit {0}) SearchError). IsCallResult (keeping_of c.args.held.now) d m input w w
    (known_of c.args.cache.now) (known_of c.resume.new.cache) x)
    c.from_residual.ensures.1
    (FailsToGoOn (reads_some input w c.requires.walk.reads) c.in_err-from.ensures.resumed)

-- the call resumes the walk, and its search begins
begun :
    (c : After-search_start)
    → after_going_on c.args.way c.args.dfa.now c.args.input.now c.args.walk.now.stage c.args.walk.now.units
    (known_of c.args.cache.now) ≡ Some (known_of c.search_start.new.self)
begun c =
    going_on c.args.way c.args.dfa.now c.args.input.now c.args.walk.now (known_of c.args.cache.now)
    c.resume.new.cache c.search_start.new.self c.span_offset-place.result c.in_ok-from.ensures.resumed.resumed
    (c.span_offset-place.ensures.value ∙ ap (given_up_offset c.args.way c.args.input.now) c.units.ensures)
    c.search_start.ensures.value

pub returns-then-is_dead-clause-called : goal.returns-then-is_dead-clause-called
returns-then-is_dead-clause-called c =
    let d : Direction = c.args.way in
    let m : Machine = c.args.dfa.now in
    let input : Input = c.args.input.now in
    let w : Walk = c.args.walk.now in
    let r = c.requires.walk.reads in
    let first : c.span_offset-place.result ≡ given_up_offset d input w.units =
    c.span_offset-place.ensures.value ∙ ap (given_up_offset d input) c.units.ensures in
    let new : CacheView = c.end_search.new.self in
    let same : c.end.new.self ≡ ended_walk w w.units = c.end.ensures ∙ ap (ended_walk w) c.units-then-is_dead.ensures in
    let leads : Leads c.search_start.new.self.store.table c.in_ok-from.from (state_in d m input w.units) =
    subst (λ (t : Rows). Leads t c.in_ok-from.from (state_in d m input w.units)) (sym c.search_start.ensures.table)
    c.in_ok-from.ensures.resumed.leads in
    let sound : IsSoundCacheOf c.search_start.new.self m =
    sound_still c.search_start.ensures.value (sound_searched _ c.in_ok-from.ensures.sound) in
    let dies : state_in d m input w.units ≡ dead =
    (dead_tagged c.search_start.new.self.store.table c.in_ok-from.from
    (sound.table.low c.in_ok-from.from) sound.store.small _ leads).0
    (c.if-is_dead.ensures.0 refl) in
    let units : input.end - input.start ≡ length (tape_in d input).bytes =
    units_in d input r.undone c.span_offset-place.ensures.valid.within.1 in
    let clean : HasReadNoQuit d m input w.units =
    clean_here d m input w c.requires.walk.reported.0 c.requires.walk.reported.1 r.on in
    let ends : Finishes d m input w.units w.units =
    finish_start d m input w.units (omega (arith, units, r.left)) clean dies in
    subst (λ (x : Walk). AnswersCall d m input w x (known_of c.args.cache.now) (known_of new)) (sym same)
    (record {
      answer =
          record {
            reports =
                next_finishes d m input w w w.units r.undone c.in_ok-from.ensures.resumed.may
                (λ k t. reported_here d m input w k
                (skips_or_not c.skips-skips.result c.skips-skips.ensures.yes c.skips-skips.ensures.no) t r.on
                r.all_reported) ends;
            goes_on = FindsNone refl;
          };
      effect =
          run_dead d m input w (known_of c.args.cache.now) c.search_start.new.self r
          (λ fresh. c.in_ok-from.ensures.resumed.may)
          (begun (goal.at.returns-then-is_dead-clause-called c).After-search_start) dies new c.span_offset-place.result
          first
          c.end_search.ensures.value;
    })

pub returns-in_err-arrival-clause-called : goal.returns-in_err-arrival-clause-called
returns-in_err-arrival-clause-called c =
    let d : Direction = c.args.way in
    let m : Machine = c.args.dfa.now in
    let input : Input = c.args.input.now in
    let w : Walk = c.args.walk.now in
    let first : Known = known_of c.search_start.new.self in
    let new : Known = known_of c.advance.new.cache in
    let left : CallFailsAtUnit Ids d m input w.units first new c.in_err-arrival.field-0.0 =
    subst (λ n. CallFailsAtUnit Ids d m input n first new c.in_err-arrival.field-0.0) c.units-2.ensures
    c.in_err-arrival.ensures.advanced in
    at_err c.from_residual-in_err-arrival.result _
    (λ (x : Result (Unit {0}) SearchError). IsCallResult (keeping_of c.args.held.now) d m input w w
    (known_of c.args.cache.now) new x)
    c.from_residual-in_err-arrival.ensures.1
    (FailsOnItsWay (reads_some input w c.requires.walk.reads) (λ fresh. c.in_ok-from.ensures.resumed.may) first
    (begun (goal.at.returns-in_err-arrival-clause-called c).After-search_start)
    (call_leaves (keeping_of c.args.held.now) d m input w.units first new c.in_err-arrival.field-0.0 left))

-- it has reached a state that reports patterns, or its end
arrived :
    (c : In_ok-arrival)
    → HasAdvanced c.args.way c.args.dfa.now c.args.input.now c.args.walk.now.units c.search_start.new.self
    c.advance.new.cache c.in_ok-arrival.arrival
arrived c =
    subst
    (λ n. HasAdvanced c.args.way c.args.dfa.now c.args.input.now n c.search_start.new.self c.advance.new.cache
    c.in_ok-arrival.arrival)
    c.units-2.ensures c.in_ok-arrival.ensures.advanced

pub returns-in_default-clause-called : goal.returns-in_default-clause-called
returns-in_default-clause-called c =
    let d : Direction = c.args.way in
    let m : Machine = c.args.dfa.now in
    let input : Input = c.args.input.now in
    let w : Walk = c.args.walk.now in
    let r = c.requires.walk.reads in
    let arrival : Arrival = c.in_ok-arrival.arrival in
    let advanced = arrived (goal.at.returns-in_default-clause-called c).In_ok-arrival in
    let finish : Finishes d m input w.units arrival.units =
    subst (λ (o : Option ℕ). IsArrival d m c.advance.new.cache.store.table input w.units o arrival.units)
    c.in_default.«is» advanced.arrives in
    subst (λ (x : Walk). AnswersCall d m input w x (known_of c.args.cache.now)
    (known_of c.end_search-in_default.new.self)) (sym c.end-in_default.ensures)
    (record {
      answer =
          record {
            reports =
                next_finishes d m input w w arrival.units r.undone c.in_ok-from.ensures.resumed.may
                (λ k t. reported_here d m input w k
                (skips_or_not c.skips-skips.result c.skips-skips.ensures.yes c.skips-skips.ensures.no) t r.on
                r.all_reported) finish;
            goes_on = FindsNone refl;
          };
      effect =
          run_on d m input w (known_of c.args.cache.now) c.search_start.new.self c.advance.new.cache r
          (λ fresh. c.in_ok-from.ensures.resumed.may)
          (begun (goal.at.returns-in_default-clause-called c).After-search_start) arrival advanced
          (ended_walk w arrival.units)
          c.end_search-in_default.new.self c.span_offset-last.result refl c.span_offset-last.ensures.value
          c.end_search-in_default.ensures.value (λ over. (refl, finish.stops arrival.units (omega arith)));
    })

pub returns-in_err-move_to-clause-called : goal.returns-in_err-move_to-clause-called
returns-in_err-move_to-clause-called c =
    let d : Direction = c.args.way in
    let m : Machine = c.args.dfa.now in
    let input : Input = c.args.input.now in
    let w : Walk = c.args.walk.now in
    let arrival : Arrival = c.in_ok-arrival.arrival in
    let advanced = arrived (goal.at.returns-in_err-move_to-clause-called c).In_ok-arrival in
    let there : Arrives d m c.advance.new.cache.store.table input w.units c.in-Some.id arrival.units =
    subst (λ (o : Option ℕ). IsArrival d m c.advance.new.cache.store.table input w.units o arrival.units) c.in-Some.«is»
    advanced.arrives in
    at_err c.from_residual-in_err-move_to.result search.OutOfMemory
    (λ (x : Result (Unit {0}) SearchError). IsCallResult (keeping_of c.args.held.now) d m input w w
    (known_of c.args.cache.now) (known_of c.advance.new.cache) x)
    c.from_residual-in_err-move_to.ensures.1
    (subst
    (λ k. CallFails k d m input w (known_of c.args.cache.now) (known_of c.advance.new.cache) search.OutOfMemory)
    (sym c.in_err-move_to.ensures.refused)
    (run_unheld d m input w (known_of c.args.cache.now) c.search_start.new.self c.advance.new.cache
    c.requires.walk.reads (λ fresh. c.in_ok-from.ensures.resumed.may)
    (begun (goal.at.returns-in_err-move_to-clause-called c).After-search_start) arrival advanced c.in-Some.id there))

pub arrive-requires-clause-here : goal.arrive-requires-clause-here
arrive-requires-clause-here c = λ k t.
    reported_here c.args.way c.args.dfa.now c.args.input.now c.args.walk.now k
    (skips_or_not c.skips-skips.result c.skips-skips.ensures.yes c.skips-skips.ensures.no) t c.requires.walk.reads.on
    c.requires.walk.reads.all_reported

pub arrive-requires-clause-arrives : goal.arrive-requires-clause-arrives
arrive-requires-clause-arrives c =
    let d : Direction = c.args.way in
    let m : Machine = c.args.dfa.now in
    let input : Input = c.args.input.now in
    let w : Walk = c.args.walk.now in
    let r = c.requires.walk.reads in
    let arrival : Arrival = c.in_ok-arrival.arrival in
    let arrives : IsArrival d m c.advance.new.cache.store.table input w.units arrival.id arrival.units =
    subst (λ n. IsArrival d m c.advance.new.cache.store.table input n arrival.id arrival.units) c.units-2.ensures
    c.in_ok-arrival.ensures.advanced.arrives in
    subst (λ (t : Rows). Arrives d m t input w.units c.in-Some.id arrival.units) (sym c.end_search-2.ensures.table)
    (subst (λ (o : Option ℕ). IsArrival d m c.advance.new.cache.store.table input w.units o arrival.units)
    c.in-Some.«is» arrives)

pub returns-clause-called : goal.returns-clause-called
returns-clause-called c =
    let d : Direction = c.args.way in
    let m : Machine = c.args.dfa.now in
    let input : Input = c.args.input.now in
    let w : Walk = c.args.walk.now in
    let arrival : Arrival = c.in_ok-arrival.arrival in
    let advanced = arrived (goal.at.returns-clause-called c).In_ok-arrival in
    let s = c.arrive.ensures in
    let there : Arrives d m c.advance.new.cache.store.table input w.units c.in-Some.id arrival.units =
    subst (λ (o : Option ℕ). IsArrival d m c.advance.new.cache.store.table input w.units o arrival.units) c.in-Some.«is»
    advanced.arrives in
    record {
      answer =
          record {
            reports = s.reports;
            goes_on =
                ReadsMore (λ ended. ended_at s.at.0 (sym ended ∙ s.at.1))
                (omega (arith, s.units, there.one_after, there.more));
          };
      effect =
          run_on d m input w (known_of c.args.cache.now) c.search_start.new.self c.advance.new.cache
          c.requires.walk.reads (λ fresh. c.in_ok-from.ensures.resumed.may)
          (begun (goal.at.returns-clause-called c).After-search_start) arrival advanced c.arrive.new.walk
          c.end_search-2.new.self c.span_offset-last.result s.units c.span_offset-last.ensures.value
          c.end_search-2.ensures.value (λ ended. absurd (ended_at s.at.0 (sym ended ∙ s.at.1)));
    }

pub returns-clause-held : goal.returns-clause-held
returns-clause-held c =
    let s = c.arrive.ensures in
    record {
      holds = subst (λ (x : Stage). IsHeldAt c.end_search-2.new.self.store.table x c.move_to.new.self) (sym s.at.1)
          (subst (λ (t : Rows). Holds t c.move_to.new.self s.at.0) (sym c.end_search-2.ensures.table)
          (c.in_ok-move_to.ensures.holds s.at.0
          (subst (λ (t : Rows). Names t c.in-Some.id s.at.0) c.end_search-2.ensures.table s.at.2)));
      keeping = c.in_ok-move_to.ensures.keeping;
    }

pub advance-requires-clause-sound : goal.advance-requires-clause-sound
advance-requires-clause-sound c =
    sound_still c.search_start.ensures.value (sound_searched _ c.in_ok-from.ensures.sound)

pub returns-then-is_dead-clause-sound : goal.returns-then-is_dead-clause-sound
returns-then-is_dead-clause-sound c =
    sound_still c.end_search.ensures.value (sound_searched _
    (sound_still c.search_start.ensures.value (sound_searched _ c.in_ok-from.ensures.sound)))

pub returns-in_default-clause-sound : goal.returns-in_default-clause-sound
returns-in_default-clause-sound c =
    sound_still c.end_search-in_default.ensures.value (sound_searched _ c.in_ok-arrival.ensures.sound)

pub arrive-requires-clause-sound : goal.arrive-requires-clause-sound
arrive-requires-clause-sound c =
    sound_still c.end_search-2.ensures.value (sound_searched _ c.in_ok-arrival.ensures.sound)

pub returns-clause-sound : goal.returns-clause-sound
returns-clause-sound c =
    sound_still c.end_search-2.ensures.value (sound_searched _ c.in_ok-arrival.ensures.sound)

pub span_offset-last-requires-clause-within : goal.span_offset-last-requires-clause-within
span_offset-last-requires-clause-within c =
    let advanced = arrived (goal.at.span_offset-last-requires-clause-within c).In_ok-arrival in
    let counted = advanced.counted in
    let read = advanced.reads.0 in
    let units =
    units_in c.args.way c.args.input.now c.requires.walk.reads.undone c.span_offset-place.ensures.valid.within.1 in
    omega (arith, counted, read, units)
