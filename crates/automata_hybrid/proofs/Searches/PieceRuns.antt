-- A run along a trace that ends with a byte or fails at one, and the run over a piece, whose errors are counted from a
-- place before it.
use Rattle.std.proofs.Common.{ℕ, suc, ◌≡◌, ◌∙◌, ◌+◌, ◌-◌, ◌/◌, ◌%◌, ◌^◌, ◌<◌, Bool, true, List, Option, Some, None}
use Rattle.std.proofs.Common.{refl, sym, ap, arith, slice_get, subst}
use Rattle.automata_hybrid.proofs.Words.{CacheView, CannotStep, dead, ended, Forward, given_up_offset, GivesUp, half_at}
use Rattle.automata_hybrid.proofs.Words.{half_of, HalfMatch, Input, IsAtAlong, IsTrace, Known, known_of, LacksMemory}
use Rattle.automata_hybrid.proofs.Words.{Leads, Machine, MeetsQuit, moved, Names, offset_in, option_map, Powerset}
use Rattle.automata_hybrid.proofs.Words.{progress_finished, ReadFails, Row, Rows, RowsFitCells, SearchError, Step}
use Rattle.automata_hybrid.proofs.Words.{tape_in, Trace, with_searched, with_store}
use Rattle.automata_base.specs.Paths.Paths.{next as unit_of}
use Rattle.automata_hybrid.specs.Known.Passes.{FailsFor}
use Rattle.automata_hybrid.specs.Known.Pieces.{AnswerStands, DiesThere, FailsAlong, FindsThere, ReadsUptoAlong}
use Rattle.automata_hybrid.specs.Searches.PieceRuns.{ReadsAlong, piece_input, piece_trace}
use Rattle.automata_hybrid.specs.Private.Searches.PieceRuns.{HasOffset, IsOverAlong, error_from}
use Rattle.automata_hybrid.specs.Private.Searches.Units.{FailsToRead, HasRead}
use Rattle.automata_hybrid.proofs.Storage.Places.{Names-Placed, Placed-HasState}
use Rattle.automata_hybrid.proofs.Searches.Directions.{quit_free}
use Rattle.automata_hybrid.proofs.Searches.Goes.{GoesToAlong, ended_here, goes_all, goes_more, left_along, taken_along}
use Rattle.automata_hybrid.proofs.Searches.Traces.{at_along, clean_along, half_of_none, leads_along, more_along}
use Rattle.automata_hybrid.proofs.Searches.Traces.{quiet_along}

-- a run has reached a byte, from an ID that names its state there
module _ {s : Trace} {m : Machine} {input : Input} (trace : IsTrace Forward m input s) {k id byte offset : ℕ}
    {found : Option HalfMatch} {begun : Known} (c : CacheView)
    (at : IsAtAlong s Forward m c.store.table input k id found)
    (unit : unit_of (tape_in Forward input) k ≡ Some byte) (inside : k < input.end - input.start)
    (place : offset ≡ input.start + k) (before : GoesToAlong s Forward m input 0 k begun (known_of c)) where
  reads_here : ((q : Powerset) → Names c.store.table id q → q ≡ dead → ⊥) → ReadsAlong s input k
  reads_here alive = (
    inside,
    alive (s.state k) at.named,
    λ e. half_of_none Forward input (s.reported k) (sym at.reported ∙ at.nothing e),
  )

  -- reading the byte fails
  pub stopped_along :
      {new : CacheView} {e : SearchError} → FailsToRead m id (Some byte) offset offset c new e
      → FailsAlong s m input input.start begun (known_of new) e
  stopped_along {new} {e} fails = record {
    place = k;
    reads = reads_here fails.alive;
    clean = at.clean;
    mid = known_of c;
    run = goes_all before;
    fails =
        subst
        (λ o. ReadFails m (s.state k) (unit_of (tape_in Forward input) k) o (given_up_offset Forward input k)
        (given_up_offset Forward input k) (known_of c) (known_of new) e)
        place
        (left_along s Forward m input k id offset (Some byte) c new unit (sym place) at.named offset e fails.fails);
  }

  -- the byte is read
  module _ {id' : ℕ} {c' : CacheView} (read : HasRead m id (Some byte) offset c c' id') where
    pub goes_on : GoesToAlong s Forward m input 0 (suc k) begun (known_of c')
    goes_on =
        goes_more Forward m input 0 begun k (known_of c) (known_of c') before
        (taken_along s Forward m input k id offset (Some byte) c c' unit (sym place) at.named read.taken)

    pub leads_on : Leads c'.store.table id' (s.state (suc k))
    leads_on = leads_along trace c.store.table c'.store.table k id id' (Some byte) found None at unit read.answer.named

    -- the run continues after it
    pub at_next :
        {found' : Option HalfMatch}
        → (o : ℕ) × (o ≡ offset_in Forward input k)
        × ((q : Powerset) → Leads c'.store.table id' q → found' ≡ half_at q.patterns o found)
        → (input.earliest ≡ true → found' ≡ None)
        → (Leads c'.store.table id' (s.state (suc k)) → Names c'.store.table id' (s.state (suc k)))
        → IsAtAlong s Forward m c'.store.table input (suc k) id' found'
    at_next {found'} =
        at_along trace c.store.table c'.store.table k id id' (Some byte) found found' at unit read.answer.named
        (quit_free m byte read.answer.clean)

    -- the search ends there
    module _ {new : CacheView}
        (last : new ≡ with_store c' (with_searched c'.store (progress_finished c'.store.searched offset))) where
      upto_here : AnswerStands s input k → ReadsUptoAlong s m input k begun (known_of new)
      upto_here over = record {
        reads = reads_here read.alive;
        clean =
            clean_along trace c.store.table c'.store.table k id id' (Some byte) found None at unit read.answer.named
            (quit_free m byte read.answer.clean);
        over = over;
        run =
            ap (option_map (ended (given_up_offset Forward input k))) (goes_all goes_on)
            ∙ ap Some (sym (ended_here Forward input k offset c' new (sym place) last));
      }

      leads_then : Leads new.store.table id' (s.state (suc k))
      leads_then = subst (λ (v : CacheView). Leads v.store.table id' (s.state (suc k))) (sym last) leads_on

      -- the state after the byte is dead
      pub over_dead : s.state (suc k) ≡ dead → IsOverAlong s m input k id' found begun new
      over_dead dies = record {
        upto = upto_here (DiesThere dies);
        reported =
            at.reported
            ∙ ap (half_of Forward input) (sym (quiet_along trace k (ap (λ (q : Powerset). q.patterns) dies)));
        leads = leads_then;
      }

      -- an earliest search has found a match
      pub over_first :
          {found' : Option HalfMatch}
          → (o : ℕ) × (o ≡ offset_in Forward input k)
          × ((q : Powerset) → Leads c'.store.table id' q → found' ≡ half_at q.patterns o found)
          → input.earliest ≡ true → (found' ≡ None → ⊥) → IsOverAlong s m input k id' found' begun new
      over_first {found'} reports early some =
          let reported : found' ≡ half_of Forward input (s.reported (suc k)) =
          more_along trace c.store.table c'.store.table k id id' (Some byte) found found' at unit read.answer.named
          reports in
          record {
            upto = upto_here (FindsThere early (λ none. some (reported ∙ ap (half_of Forward input) none)));
            reported = reported;
            leads = leads_then;
          }

-- the trace of a piece is a trace over its bytes
pub piece_is_trace :
    (m : Machine) (piece : List ℕ) (earliest : Bool) (q : Powerset)
    → IsTrace Forward m (piece_input piece earliest) (piece_trace m piece earliest q)
piece_is_trace m piece earliest q = record { steps = λ k. refl; reports = λ k. refl }

-- an error at an offset
module _ (m : Machine) (q : Powerset) (unit : Option ℕ) (at come : ℕ) (old new : Known) (e : SearchError) where
  -- it has this offset, if it has an offset
  pub fails_offset : (P : ℕ → Type 0) → P at → ReadFails m q unit at at come old new e → HasOffset P e
  fails_offset P p (MeetsQuit byte is quits same last) = subst (HasOffset P) (sym same) p
  fails_offset P p (CannotStep clean fails) = go fails.why where
    go : FailsFor m (Step q unit) at (moved come old) e → HasOffset P e
    go (GivesUp none same) = subst (HasOffset P) (sym same) p
    go (LacksMemory same) = subst (HasOffset P) (sym same) tt

  -- it can be counted from an earlier place
  fails_from :
      (base : ℕ) → ReadFails m q unit at at come old new e
      → ReadFails m q unit (base + at) (base + at) come old new (error_from base e)
  fails_from base (MeetsQuit byte is quits same last) = MeetsQuit byte is quits (ap (error_from base) same) last
  fails_from base (CannotStep clean fails) =
      CannotStep clean (record { unknown = fails.unknown; unchanged = fails.unchanged; why = go fails.why })
    where
      go :
          FailsFor m (Step q unit) at (moved come old) e
          → FailsFor m (Step q unit) (base + at) (moved come old) (error_from base e)
      go (GivesUp none same) = GivesUp none (ap (error_from base) same)
      go (LacksMemory same) = LacksMemory (ap (error_from base) same)

-- a run that fails, with the offset of its error counted from an earlier place
pub failed_from :
    (s : Trace) (m : Machine) (input : Input) (base : ℕ) (begun new : Known) (e : SearchError)
    → FailsAlong s m input 0 begun new e → FailsAlong s m input base begun new (error_from base e)
failed_from s m input base begun new e f =
    let here : base + (0 + f.place) ≡ base + f.place = omega arith in
    record {
      place = f.place;
      reads = f.reads;
      clean = f.clean;
      mid = f.mid;
      run = f.run;
      fails =
          subst
          (λ o. ReadFails m (s.state f.place) (unit_of (tape_in Forward input) f.place) o o
          (given_up_offset Forward input f.place) f.mid new (error_from base e))
          here
          (fails_from m (s.state f.place) (unit_of (tape_in Forward input) f.place) (0 + f.place)
          (given_up_offset Forward input f.place) f.mid new e base f.fails);
    }

-- the state of a row, or dead if there is no row
abbrev state_of_row : Option Row → Powerset
state_of_row None = dead
state_of_row (Some r) = r.state

-- the state that an ID names
abbrev pub state_named : Rows → ℕ → Powerset
state_named t id = state_of_row (slice_get t.rows ((id % 2 ^ 27) / t.of.stride - 3))

pub names_state : (t : Rows) (id : ℕ) (q : Powerset) → RowsFitCells t → 0 < t.of.stride → Names t id q
    → state_named t id ≡ q
names_state t id q rows positive named =
    let has = Placed-HasState t id ((id % 2 ^ 27) / t.of.stride - 3) q positive (Names-Placed t id q rows named) refl in
    ap state_of_row has.1 ∙ has.2
