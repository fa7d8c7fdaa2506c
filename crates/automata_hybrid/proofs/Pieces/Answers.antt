-- What a search in pieces answers for an input, by what a pass over the input does.
use Rattle.std.proofs.Common.{ℕ, suc, ◌≡◌, ◌<◌, ◌≤◌, ◌+◌, ◌-◌, ◌^◌, true, false, List, [], ◌∷◌, length, Bool, Option}
use Rattle.std.proofs.Common.{Some, None, refl, sym, ap, ◌∙◌, subst, arith}
use Rattle.automata_hybrid.proofs.Words.{Anchored, CacheView, dead, Forward, half_at, half_of, HalfMatch, HasDeadTag}
use Rattle.automata_hybrid.proofs.Words.{HasReadNoQuit, Input, is_quit, IsAt, IsAtAlong, IsFound, IsStartAnswer, Known}
use Rattle.automata_hybrid.proofs.Words.{Leads, Machine, match_kind_of, MayStart, Names, next, Ok, Powerset, Reads}
use Rattle.automata_hybrid.proofs.Words.{reported_in, ReportedEndsAreRight, ReportedIsRight, ReportedLiesWithin, Rows}
use Rattle.automata_hybrid.proofs.Words.{Skips, start_state_of, state_in, tape_in, WithoutBase}
use Rattle.automata_base.proofs.Paths.Orders.{none_some, some_inj, some_none}
use Rattle.automata_hybrid.specs.Known.Pieces.{AnswerStands, DiesThere, FindsThere, ReadsPieceUpto}
use Rattle.automata_hybrid.specs.Pieces.Answers.{BeginsAfter, EndsHere, HasBegun, IsPieceAt, IsWhole, ReadsOn}
use Rattle.automata_hybrid.specs.Pieces.Answers.{StandsAfter, WasGiven, WasGivenAll, from_first}
use Rattle.automata_hybrid.specs.Pieces.State.{PiecesView}
use Rattle.automata_hybrid.specs.Private.Pieces.State.{found_in}
use Rattle.automata_hybrid.specs.Searches.PassContracts.{IsPassAnswer}
use Rattle.automata_hybrid.specs.Searches.PieceRuns.{piece_input, piece_state, piece_trace}
use Rattle.automata_hybrid.specs.Private.Searches.Units.{IsReadAnswer}
use Rattle.automata_hybrid.proofs.Pieces.Runs.{pass_clean, pass_found, pass_next, pass_state}
use Rattle.automata_hybrid.proofs.Searches.Bounds.{lies_in}
use Rattle.automata_hybrid.proofs.Searches.Directions.{begins_alive, begins_dead}
use Rattle.automata_hybrid.proofs.Searches.PassState.{clean_all, clean_last, clean_start, dead_more, false_true}
use Rattle.automata_hybrid.proofs.Searches.PassState.{found_dead, found_first, more_last, reported_quiet}
use Rattle.automata_hybrid.proofs.Searches.PassState.{reported_stays, starts_at, starts_dead}
use Rattle.automata_hybrid.proofs.Searches.Skips.{found_reported}
use Rattle.automata_hybrid.proofs.Searches.Traces.{half_of_none}
use Rattle.automata_hybrid.proofs.Searches.Units.{forward_unit, forward_units}
use Rattle.automata_hybrid.proofs.Steps.BySteps.{run_found}
use Rattle.automata_hybrid.proofs.Steps.Ids.{dead_tagged}
use Rattle.automata_hybrid.proofs.Steps.Steps.{no_quit_unit}

-- the ID of a start state that is not dead names it
pub start_named :
    (m : Machine) (mode : Anchored) (behind : Option ℕ) (old new : CacheView) (id : ℕ)
    → IsStartAnswer m mode behind old new id
    → ((q : Powerset) → Names new.store.table id q → id < 2 ^ 29) → new.store.table.of.stride ≤ 512
    → (HasDeadTag id → ⊥)
    → Names new.store.table id (start_state_of m.nfa mode behind)
start_named m mode behind old new id answer low small =
    (dead_tagged new.store.table id low small (start_state_of m.nfa mode behind) answer.named).1

-- a search in pieces begins in an anchored mode, after a given byte
module _ (m : Machine) (mode : Anchored) (behind : Option ℕ) (earliest : Bool) (old new : CacheView) (id : ℕ)
    (plain : Skips m → ⊥)
    (answer : IsStartAnswer m mode behind old new id) (low : (q : Powerset) → Names new.store.table id q → id < 2 ^ 29)
    (small : new.store.table.of.stride ≤ 512) where
  pub may_begin :
      (input : Input) → BeginsAfter mode behind earliest input
      → MayStart m input.anchored (tape_in Forward input).before
  may_begin input b =
      subst (λ v. MayStart m input.anchored v) (sym b.follows)
      (subst (λ v. MayStart m v behind) (sym b.moded) answer.may)

  pub leads_begin :
      (input : Input) → BeginsAfter mode behind earliest input
      → Leads new.store.table id (start_state_of m.nfa input.anchored (tape_in Forward input).before)
  leads_begin input b =
      subst (λ v. Leads new.store.table id (start_state_of m.nfa input.anchored v)) (sym b.follows)
      (subst (λ v. Leads new.store.table id (start_state_of m.nfa v behind)) (sym b.moded) answer.named)

  -- its start state is dead
  pub begun_dead :
      HasDeadTag id → HasBegun m mode behind earliest
      (record { state = None; read = 0; earliest = earliest; found = None })
  begun_dead tag = record {
    plain = plain;
    read = refl;
    found = refl;
    given = λ input b.
        let dies : state_in Forward m input 0 ≡ dead =
        begins_dead Forward m new.store.table input id (leads_begin input b) low small tag in
        record {
          plain = plain;
          undone = b.undone;
          inside = b.inside;
          may = may_begin input b;
          early = sym b.early;
          stands = λ q e. absurd (none_some e);
          answered = λ e. record {
            found = starts_dead Forward m input dies;
            clean = clean_start Forward m input dies (may_begin input b).0;
            supported = (may_begin input b).1;
          };
        };
  }

  -- its start state is not dead
  pub begun_alive :
      (held : Powerset) → (HasDeadTag id → ⊥) → ((q : Powerset) → Names new.store.table id q → held ≡ q)
      → HasBegun m mode behind earliest (record { state = Some held; read = 0; earliest = earliest; found = None })
  begun_alive held alive holds = record {
    plain = plain;
    read = refl;
    found = refl;
    given = λ input b.
        let names : Names new.store.table id (state_in Forward m input 0) =
        begins_alive Forward m new.store.table input id (leads_begin input b) low small alive in
        let at = starts_at Forward m new.store.table input id names in
        record {
          plain = plain;
          undone = b.undone;
          inside = b.inside;
          may = may_begin input b;
          early = sym b.early;
          stands = λ q e. record {
            read = refl;
            within = let u = b.undone in omega (arith, u);
            state = sym (some_inj e) ∙ holds (state_in Forward m input 0) names;
            found = at.reported;
            nothing = λ e. refl;
            clean = at.clean;
          };
          answered = λ e. absurd (some_none e);
        };
  }

found_none :
    (start base : ℕ) (o before : Option HalfMatch) → from_first start (found_in o base before) ≡ None → o ≡ None
found_none start base None before e = refl
found_none start base (Some half) before e = absurd (some_none e)

-- a search with a current state has read a piece
module _ (m : Machine) (q : Powerset) (piece : List ℕ) (old new : PiecesView) (was : old.state ≡ Some q)
    (early : new.earliest ≡ old.earliest) (found : Option HalfMatch)
    (result : new.found ≡ found_in found old.read old.found) where
  found_on :
      (input : Input) (n k : ℕ) → WasGiven m input n old → IsPieceAt input n piece → k ≤ length piece
      → found ≡ half_of Forward (piece_input piece old.earliest) ((piece_trace m piece old.earliest q).reported k)
      → from_first input.start new.found ≡ half_of Forward input (reported_in Forward m input (n + k))
  found_on input n k given here l same =
      let before : StandsAfter m input n q old = given.stands q was in
      ap (from_first input.start)
      (result ∙ (ap (λ b. found_in found b old.found) before.read
      ∙ (ap (λ o. found_in o n old.found) same
      ∙ ap (λ e. found_in (half_of Forward (piece_input piece e) ((piece_trace m piece e q).reported k)) n old.found)
      given.early)))
      ∙ pass_found m input n q piece given.inside here before.state k old.found l before.found before.nothing

  -- it has read the whole piece, and has a current state after it
  pub reads_through :
      (t : Rows) (id : ℕ) (held : Powerset)
      → new.state ≡ Some held → held ≡ piece_state m piece q (length piece) → new.read ≡ old.read + length piece
      → IsAtAlong (piece_trace m piece old.earliest q) Forward m t (piece_input piece old.earliest) (length piece - 0)
      id found
      → ReadsOn m piece old new
  reads_through t id held stood state read at input n given here = record {
    plain = given.plain;
    undone = given.undone;
    inside = given.inside;
    may = given.may;
    early = early ∙ given.early;
    stands = λ p e. stands p (some_inj (sym stood ∙ e));
    answered = λ e. absurd (some_none (sym stood ∙ e));
  } where
    before : StandsAfter m input n q old
    before = given.stands q was

    all : length piece - 0 ≡ length piece
    all = omega arith

    stands : (p : Powerset) → held ≡ p → StandsAfter m input (n + length piece) p new
    stands p same = record {
      read = read ∙ ap (λ k. k + length piece) before.read;
      within = let w = here.within in omega (arith, w);
      state =
          sym same
          ∙ (state ∙ sym (pass_state m input n q piece given.inside here before.state (length piece) (omega arith)));
      found =
          found_on input n (length piece) given here (omega arith)
          (at.reported
          ∙ ap (λ k. half_of Forward (piece_input piece old.earliest) ((piece_trace m piece old.earliest q).reported k))
          all);
      nothing = λ e.
          result ∙ (ap (λ o. found_in o old.read old.found) (at.nothing (given.early ∙ e)) ∙ before.nothing e);
      clean =
          pass_clean m input n q piece given.inside here before.state old.earliest (length piece) (omega arith)
          before.clean
          (subst (λ k. HasReadNoQuit Forward m (piece_input piece old.earliest) k) all at.clean);
    }

  -- its answer is final after a byte of the piece
  module _ (k : ℕ) (begun end : Known) (over : ReadsPieceUpto m piece old q k begun end)
      (reported : found ≡ half_of Forward (piece_input piece old.earliest)
      ((piece_trace m piece old.earliest q).reported (suc k)))
      (input : Input) (n : ℕ) (given : WasGiven m input n old) (here : IsPieceAt input n piece) where
    before : StandsAfter m input n q old
    before = given.stands q was

    low : k < length piece
    low = let l = over.reads.0 in omega (arith, l)

    few : n + k < length (tape_in Forward input).bytes
    few =
        let u = forward_units input given.undone given.inside in
        let w = here.within in omega (arith, u, w, low)

    more : n + suc k ≡ suc (n + k)
    more = omega arith

    read : from_first input.start new.found ≡ half_of Forward input (reported_in Forward m input (suc (n + k)))
    read =
        found_on input n (suc k) given here (omega (arith, low)) reported
        ∙ ap (λ i. half_of Forward input (reported_in Forward m input i)) more

    clean : HasReadNoQuit Forward m input (suc (n + k))
    clean =
        subst (HasReadNoQuit Forward m input) more
        (pass_clean m input n q piece given.inside here before.state old.earliest (suc k) (omega (arith, low))
        before.clean over.clean)

    some_half :
        (found ≡ None → ⊥) → half_of Forward input (reported_in Forward m input (suc (n + k))) ≡ None → ⊥
    some_half some e =
        some (found_none input.start old.read found old.found (sym (ap (from_first input.start) result) ∙ (read ∙ e)))

    stops : input.earliest ≡ true → (found ≡ None → ⊥) → (j : ℕ) → suc (n + k) ≤ j → Reads Forward m input j → ⊥
    stops first some j l r =
        some_half some (ap (half_of Forward input)
        (sym (reported_stays input.earliest (λ i. state_in Forward m input i) (suc (n + k)) j
        (reported_in Forward m input (suc (n + k))) l first refl (λ f. some_half some (ap (half_of Forward input) f)))
        ∙ r.2 first))

    answer :
        AnswerStands (piece_trace m piece old.earliest q) (piece_input piece old.earliest) k
        → IsPassAnswer Forward m input (from_first input.start new.found)
    answer (DiesThere d) =
        let dies : state_in Forward m input (suc (n + k)) ≡ dead =
        pass_next m input n q piece given.inside here before.state k low ∙ d in
        record {
          found =
              read
              ∙ (ap (half_of Forward input) (reported_quiet Forward m input (n + k)
              (ap (λ (p : Powerset). p.patterns) dies))
              ∙ found_dead Forward m input (n + k) (omega (arith, few)) dies);
          clean = clean_all Forward m input (suc (n + k)) given.may.0 clean
              (λ j l r. r.1 (dead_more Forward m input (suc (n + k)) j l dies));
          supported = given.may.1;
        }
    answer (FindsThere e reports) =
        let first : input.earliest ≡ true = sym given.early ∙ e in
        let some : found ≡ None → ⊥ =
        λ none. reports (half_of_none Forward (piece_input piece old.earliest) _ (sym reported ∙ none)) in
        record {
          found = read ∙ found_first Forward m input (suc (n + k)) (omega (arith, few)) first (some_half some);
          clean = clean_all Forward m input (suc (n + k)) given.may.0 clean (stops first some);
          supported = given.may.1;
        }

    over_given : new.state ≡ None → WasGiven m input (n + length piece) new
    over_given none = record {
      plain = given.plain;
      undone = given.undone;
      inside = given.inside;
      may = given.may;
      early = early ∙ given.early;
      stands = λ p e. absurd (none_some (sym none ∙ e));
      answered = λ e. answer over.over;
    }

  pub reads_over :
      (k : ℕ) (begun end : Known) → new.state ≡ None → ReadsPieceUpto m piece old q k begun end
      → found ≡ half_of Forward (piece_input piece old.earliest) ((piece_trace m piece old.earliest q).reported (suc k))
      → ReadsOn m piece old new
  reads_over k begun end none over reported input n given here =
      over_given k begun end over reported input n given here none

-- if no offset is skipped, what one pass answers is what a search over the whole span returns
whole :
    (m : Machine) (input : Input) (half : Option HalfMatch) (law : ReportedIsRight m.nfa)
    (ends : ReportedEndsAreRight m.nfa)
    (lies : ReportedLiesWithin m.nfa) (ahead : Option ℕ) (p : PiecesView)
    → WasGivenAll m input ahead p → IsPassAnswer Forward m input half → IsWhole m input half
whole m input half law ends lies ahead p all pass =
    let found : WithoutBase (IsFound Forward m input) half =
    run_found m input half all.given.plain all.given.undone pass in
    let reported = found_reported Forward m input found.0 found.1 in
    let right = ends Forward (match_kind_of m.config) input found.0 (all.bytes, all.given.inside) reported in
    record {
      found = found;
      paths = record {
        answer = λ cycles. (
          found.0,
          law Forward (match_kind_of m.config) input found.0 cycles (all.bytes, all.given.inside) reported,
          found.2,
        );
        nearest = λ early. (found.0, right.0 early, found.2);
        farthest = λ late kind. (found.0, right.1 late kind, found.2);
        within = lies_in m input lies all.given.inside Forward (Ok half) found;
        unsupported = λ u. absurd (false_true (sym u.mode ∙ pass.supported));
        free = λ f. tt;
        done = λ past. absurd (let u = all.given.undone in omega (arith, past, u));
      };
    }

-- a search whose answer is final returns it
pub ends_none :
    (m : Machine) (law : ReportedIsRight m.nfa) (ends : ReportedEndsAreRight m.nfa) (lies : ReportedLiesWithin m.nfa)
    (ahead : Option ℕ) (p : PiecesView) → p.state ≡ None → EndsHere m p ahead p.found
ends_none m law ends lies ahead p none input all =
    whole m input (from_first input.start p.found) law ends lies ahead p all (all.given.answered none)

first_given :
    (start at : ℕ) (ps : List ℕ) (found : Option HalfMatch)
    → from_first start (half_at ps at found) ≡ half_at ps (start + at) (from_first start found)
first_given start at [] found = refl
first_given start at (p ∷ ps) found = refl

-- a search with a current state reads the unit that follows
module _ (m : Machine) (ahead : Option ℕ) (p : PiecesView) (q : Powerset) (old new : CacheView) (id to : ℕ)
    (half : Option HalfMatch)
    (stood : p.state ≡ Some q) (named : Names old.store.table id q) (answer : IsReadAnswer m id ahead old new to)
    (reports : (s : Powerset) → Leads new.store.table to s → half ≡ half_at s.patterns p.read p.found) where
  module _ (input : Input) (all : WasGivenAll m input ahead p) where
    abbrev n : ℕ
    n = input.end - input.start

    stands : StandsAfter m input n q p
    stands = all.given.stands q stood

    at : IsAt Forward m old.store.table input n id (from_first input.start p.found)
    at = record {
      named = subst (Names old.store.table id) stands.state named;
      reported = stands.found;
      nothing = λ e. ap (from_first input.start) (stands.nothing e);
      clean = stands.clean;
    }

    unit : next (tape_in Forward input) n ≡ ahead
    unit = forward_unit input input.end all.given.undone (omega arith) all.given.inside ∙ all.followed

    free : (byte : ℕ) → ahead ≡ Some byte → is_quit m.quits byte ≡ false
    free = no_quit_unit m ahead answer.clean

    last : n ≡ length (tape_in Forward input).bytes
    last = forward_units input all.given.undone all.given.inside

    found :
        (o : ℕ) × (o ≡ input.start + n)
        × ((s : Powerset) → Leads new.store.table to s
        → from_first input.start half ≡ half_at s.patterns o (from_first input.start p.found))
    found = (
      input.start + n,
      refl,
      λ s leads.
          ap (from_first input.start) (reports s leads ∙ ap (λ a. half_at s.patterns a p.found) stands.read)
          ∙ first_given input.start n s.patterns p.found,
    )

    end_answer : IsPassAnswer Forward m input (from_first input.start half)
    end_answer = record {
      found =
          more_last Forward m old.store.table new.store.table input n id to ahead (from_first input.start p.found)
          (from_first input.start half)
          at unit answer.named free found last;
      clean =
          clean_last Forward m old.store.table new.store.table input n id to ahead (from_first input.start p.found)
          (from_first input.start half)
          at unit answer.named free last all.given.may.0;
      supported = all.given.may.1;
    }

  pub ends_some :
      (law : ReportedIsRight m.nfa) (ends : ReportedEndsAreRight m.nfa) (lies : ReportedLiesWithin m.nfa)
      → EndsHere m p ahead half
  ends_some law ends lies input all =
      whole m input (from_first input.start half) law ends lies ahead p all (end_answer input all)
