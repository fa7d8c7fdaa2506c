-- What follows from the calls of a search in pieces, and of a walk over pieces, by what a cache knows.
use Rattle.std.proofs.Common.{ℕ, suc, ◌≡◌, ◌∙◌, ◌+◌, ◌-◌, ◌<◌, ◌≤◌, ◌⊎◌, inl, inr, true, false, List, length, Option}
use Rattle.std.proofs.Common.{None, Some, refl, sym, ap, subst, arith}
use Rattle.std.proofs.lemmas.Bool.{cases_lt}
use Rattle.std.specs.Prelude.{is_some}
use Rattle.automata_base.proofs.Paths.Orders.{some_inj, some_none}
use Rattle.automata_hybrid.proofs.Words.{after_event, after_many, begun, CannotStep, cleared, counted, ended, Event}
use Rattle.automata_hybrid.proofs.Words.{EventFails, Forward, given_up_offset, HasReadNoQuit, is_cached, Known, Machine}
use Rattle.automata_hybrid.proofs.Words.{MeetsQuit, minimum_cache_clear_count_of, moved, option_map, Powerset, quits_on}
use Rattle.automata_hybrid.proofs.Words.{ReadFails, Row, SearchError, Step, tape_in, unit_event}
use Rattle.automata_base.specs.Paths.Paths.{next as unit_at}
use Rattle.automata_hybrid.specs.Known.Bounds.{IsKnown}
use Rattle.automata_hybrid.specs.Known.Growth.{ClearedNothing, IsGrown, IsStill}
use Rattle.automata_hybrid.specs.Known.Known.{row_in}
use Rattle.automata_hybrid.specs.Known.Pieces.{AlreadyDone, AlreadyOver, Answered, AnswerEnds, AnswerFails, AsForAnswer}
use Rattle.automata_hybrid.specs.Known.Pieces.{AsSearch, AtByte, AtEnd, BeginsPiece, CannotHoldEnd, EndNotRestored}
use Rattle.automata_hybrid.specs.Known.Pieces.{FailsAtByte, FailsAtEnd, GoesOn, NotHeld, NotHeldAt, NotRestored}
use Rattle.automata_hybrid.specs.Known.Pieces.{PieceEnds, PieceFails, ReadsPieceUpto, ReadsThrough, Through, TooLong}
use Rattle.automata_hybrid.specs.Known.Pieces.{Upto, WalkCallEnds, WalkCallFails, WalksThrough, WalksUpto}
use Rattle.automata_hybrid.specs.Known.PiecesFollow.{AnswerFollows, IsCostOfUnits, IsFreePiece, IsKnownPieceError}
use Rattle.automata_hybrid.specs.Known.PiecesFollow.{IsLengthError, IsQuitError, IsShareError, KnowsAnswer, KnowsBytes}
use Rattle.automata_hybrid.specs.Known.PiecesFollow.{KnowsPiece, PieceAnswersFollow, PieceFollows, PiecesFollow}
use Rattle.automata_hybrid.specs.Known.PiecesFollow.{WalkEndsFollow, WalkPiecesFollow}
use Rattle.automata_hybrid.specs.Known.Walks.{GivesUpOnIt, IsNotRestored, RunsOutOnIt, has_its_row, with_restored_row}
use Rattle.automata_hybrid.specs.Pieces.State.{IsPiecesOf, PiecesView}
use Rattle.automata_hybrid.specs.Searches.Contracts.{IsMemory, IsOfInput}
use Rattle.automata_hybrid.specs.Searches.PieceRuns.{ReadsAlong, piece_input, piece_trace}
use Rattle.automata_hybrid.specs.Walks.State.{At}
use Rattle.automata_hybrid.proofs.Known.Bounds.{HasBounds, known_counted, known_moved}
use Rattle.automata_hybrid.proofs.Known.CallsFollow.{row_in_more}
use Rattle.automata_hybrid.proofs.Known.Growth.{clears_none, grown_after, grown_counted, grown_less, grown_same}
use Rattle.automata_hybrid.proofs.Known.Growth.{grown_still, grown_trans, nothing_after, nothing_first, nothing_second}
use Rattle.automata_hybrid.proofs.Known.Makes.{BackFollows, Follows, back_follows, back_there, event_follows, mapped}
use Rattle.automata_hybrid.proofs.Known.Memory.{event_memory, state_made}
use Rattle.automata_hybrid.proofs.Known.PassesFollow.{UnitsFollow, event_idle, units_follow}
use Rattle.automata_hybrid.proofs.Pieces.Follows.{clean_fewer, piece_unit, reads_fewer, stops_after}
use Rattle.automata_hybrid.proofs.Searches.PassState.{false_true}
use Rattle.automata_hybrid.proofs.Steps.Steps.{no_quit_unit}
use Rattle.automata_hybrid.proofs.Walks.Reports.{clean_more}

-- what follows from reading at most `units` units with a cache that has the row of the current state
pub record RowFollows (m : Machine) (units : ℕ) (row new : Known) : Type 0 where
  pub grown : IsGrown m row new
  pub cost : new.count ≤ row.count + units
  pub sound : IsKnown m new

-- a call that continues from a state, which was there or was restored
from_row :
    (m : Machine) (p : PiecesView) (q : Powerset) (units : ℕ) (old row new : Known) → p.state ≡ Some q
    → BackFollows m q old row → RowFollows m units row new → IsCostOfUnits m units p old new
from_row m p q units old row new stood b f = record {
  cost = few;
  grown = whole;
  there = λ has. subst (λ (c : Known). IsGrown m c new) (b.there (has q stood)) f.grown;
  roomy = λ room. clears_none m old (counted new) (units + 1) whole (omega (arith, few)) room;
  sound = f.sound;
} where
  few : new.count ≤ old.count + units
  few = omega (arith, f.cost, b.counted_same)

  whole : IsGrown m old (counted new)
  whole = grown_after m old row new b.grown f.grown

-- a call that changed nothing
unchanged :
    (m : Machine) (p : PiecesView) (units : ℕ) (old new : Known) → IsKnown m old → new ≡ old
    → IsCostOfUnits m units p old new
unchanged m p units old new sound same = record {
  cost = omega (arith, ap (λ (c : Known). c.count) same);
  grown = grown_less m old new (grown_same m old new same);
  there = λ has. grown_same m old new same;
  roomy = λ room. ap (λ (c : Known). c.clears) same;
  sound = subst (IsKnown m) (sym same) sound;
}

not_back :
    (m : Machine) (q : Powerset) (at : ℕ) (old new : Known) (e : SearchError) → IsNotRestored m q at old new e
    → new ≡ old
not_back m q at old new e (GivesUpOnIt none is same) = same
not_back m q at old new e (RunsOutOnIt lacks room is same) = same

back_memory :
    (m : Machine) (q : Powerset) (at : ℕ) (old new : Known) (e : SearchError)
    → minimum_cache_clear_count_of m.config ≡ None
    → IsNotRestored m q at old new e → IsMemory e
back_memory m q at old new e free (GivesUpOnIt none is same) =
    absurd (state_made m (cleared old) (record { state = q; started = false }) old free none)
back_memory m q at old new e free (RunsOutOnIt lacks room is same) = is

-- a step that fails, once the search has reached it
failed_row :
    (m : Machine) (e : Event) (at : ℕ) (place : ℕ) (row new : Known) (error : SearchError) → IsKnown m row
    → EventFails m e at (moved place row) new error → RowFollows m 1 row new
failed_row m e at place row new error sound fails = record {
  grown =
      grown_trans m row (moved place row) new (grown_still m row (moved place row) refl)
      (grown_counted m (moved place row) new fails.unchanged);
  cost = omega (arith, ap (λ (c : Known). c.count) fails.unchanged);
  sound =
      subst (IsKnown m) (sym fails.unchanged)
      (known_counted m (moved place row) (known_moved m row (moved place row).searched sound));
}

-- a search that ends there
ended_row :
    (m : Machine) (units place : ℕ) (row new : Known) → IsKnown m row → new ≡ ended place row
    → RowFollows m units row new
ended_row m units place row new sound same = record {
  grown = grown_still m row new (subst (λ (c : Known). IsStill row c) (sym same) refl);
  cost = omega (arith, ap (λ (c : Known). c.count) same);
  sound = subst (IsKnown m) (sym same) (known_moved m row (ended place row).searched sound);
}

-- one after another
row_then :
    (m : Machine) (j k : ℕ) (row mid new : Known) → RowFollows m j row mid → RowFollows m k mid new
    → RowFollows m (j + k) row new
row_then m j k row mid new f g = record {
  grown = grown_trans m row mid new f.grown g.grown;
  cost = omega (arith, f.cost, g.cost);
  sound = g.sound;
}

row_more : (m : Machine) (j k : ℕ) (row new : Known) → j ≤ k → RowFollows m j row new → RowFollows m k row new
row_more m j k row new less f = record { grown = f.grown; cost = omega (arith, f.cost, less); sound = f.sound }

-- a search was resumed: its state is there, and the search has begun
record Begins (m : Machine) (q : Powerset) (old opened : Known) : Type 0 where
  pub row : Known
  pub back : BackFollows m q old row
  pub begins : RowFollows m 0 row opened

begins :
    (m : Machine) (p : PiecesView) (q : Powerset) (at : ℕ) (old opened : Known) → HasBounds m → IsKnown m old
    → IsPiecesOf p m → GoesOn m p q at old opened → Begins m q old opened
begins m p q at old opened bounds sound of on =
    let first = mapped (begun at) (with_restored_row m q old) opened on.begins in
    let back = back_follows m q old first.0 sound bounds (of q on.from).cheap first.1 in
    record {
      row = first.0;
      back = back;
      begins = record {
        grown = grown_still m first.0 opened (subst (λ (c : Known). IsStill first.0 c) (sym first.2) refl);
        cost = omega (arith, ap (λ (c : Known). c.count) first.2);
        sound = subst (IsKnown m) (sym first.2) (known_moved m first.0 (begun at first.0).searched back.sound);
      };
    }

-- a state that has a row keeps it until a clear
row_still :
    (m : Machine) (q : Powerset) (old new : Known) → IsGrown m old new → ClearedNothing old new
    → has_its_row old (At q) ≡ true → has_its_row new (At q) ≡ true
row_still m q old new grown nothing has =
    let kept = grown.kept nothing in
    subst (λ (rows : List Row). is_some (row_in rows q) ≡ true) (sym kept.rows)
    (row_in_more old.rows kept.added q has)

-- a state that has a row can always be restored
there_restored :
    (m : Machine) (q : Powerset) (at : ℕ) (old new : Known) (e : SearchError) → has_its_row old (At q) ≡ true
    → IsNotRestored m q at old new e → ⊥
there_restored m q at old new e has (GivesUpOnIt none is same) = some_none (sym (back_there m q old has) ∙ none)
there_restored m q at old new e has (RunsOutOnIt lacks room is same) =
    false_true (ap (λ (o : Option Row). is_some o) (sym lacks) ∙ has)

module _ (m : Machine) (bounds : HasBounds m) (piece : List ℕ) (p : PiecesView) (old : Known) (sound : IsKnown m old)
    (of : IsPiecesOf p m) where
  -- a byte is read
  abbrev ReadsByte : Powerset → ℕ → Type 0
  ReadsByte q k = ReadsAlong (piece_trace m piece p.earliest q) (piece_input piece p.earliest) k

  -- the first `k` bytes have no quit byte
  abbrev IsCleanTo : ℕ → Type 0
  IsCleanTo k = HasReadNoQuit Forward m (piece_input piece p.earliest) k

  -- what is known after some bytes
  abbrev after_bytes : Powerset → ℕ → Known → Option Known
  after_bytes q bytes c =
      after_many (piece_trace m piece p.earliest q) Forward m (piece_input piece p.earliest) 0 bytes c

  abbrev event_at : Powerset → ℕ → Event
  event_at q k = unit_event (piece_trace m piece p.earliest q) Forward (piece_input piece p.earliest) k

  abbrev BytesFollow : Powerset → ℕ → (opened new : Known) → Type 0
  BytesFollow q bytes opened new =
      UnitsFollow (piece_trace m piece p.earliest q) Forward m (piece_input piece p.earliest) 0 bytes opened new

  bytes_follow :
      (q : Powerset) (bytes : ℕ) (opened new : Known) → IsKnown m opened → after_bytes q bytes opened ≡ Some new
      → BytesFollow q bytes opened new
  bytes_follow q bytes opened new there run =
      units_follow (piece_trace m piece p.earliest q) Forward m (piece_input piece p.earliest) 0 bounds bytes opened new
      there run

  bytes_row : (q : Powerset) (bytes : ℕ) (opened new : Known) → BytesFollow q bytes opened new
      → RowFollows m bytes opened new
  bytes_row q bytes opened new f = record { grown = f.grown; cost = f.counted; sound = f.sound }

  -- if their transitions are cached, nothing is determinized for the bytes
  bytes_known :
      (q : Powerset) (bytes : ℕ) (opened new : Known) (b : Begins m q old opened) → BytesFollow q bytes opened new
      → ((j : ℕ) → j < bytes → ReadsByte q j) → IsCleanTo bytes → has_its_row old (At q) ≡ true
      → KnowsBytes m old piece p.earliest q → (new.count ≡ old.count) × IsGrown m old new
  bytes_known q bytes opened new b f reads clean has knows =
      let grown : IsGrown m old opened =
      subst (λ (c : Known). IsGrown m c opened) (b.back.there has) b.begins.grown in
      let count : opened.count ≡ old.count = omega (arith, b.begins.cost, b.back.counted_same, grown.counted) in
      let idle = f.known (λ j more less. event_idle m (event_at q j) old opened grown count
      (knows j (reads j (omega (arith, less)))
      (clean_fewer m (piece_input piece p.earliest) (suc j) bytes (omega (arith, less)) clean))) in
      (idle ∙ count, grown_trans m old opened new grown f.grown)

  -- the search ends after some bytes, and reads no more
  module _ (q : Powerset) (bytes k : ℕ) (opened new : Known) (few : bytes ≤ length piece)
      (on : BeginsPiece m piece p q old opened) (reads : (j : ℕ) → j < bytes → ReadsByte q j) (clean : IsCleanTo bytes)
      (last : (j : ℕ) → bytes ≤ j → ReadsByte q j → ⊥)
      (run : option_map (ended (given_up_offset Forward (piece_input piece p.earliest) k)) (after_bytes q bytes opened)
      ≡ Some new) where
    parts :
        (mid : Known) × (after_bytes q bytes opened ≡ Some mid)
        × (new ≡ ended (given_up_offset Forward (piece_input piece p.earliest) k) mid)
    parts =
        mapped (ended (given_up_offset Forward (piece_input piece p.earliest) k)) (after_bytes q bytes opened) new run

    b : Begins m q old opened
    b = begins m p q 0 old opened bounds sound of on.goes_on

    f : BytesFollow q bytes opened parts.0
    f = bytes_follow q bytes opened parts.0 b.begins.sound parts.1

    end : RowFollows m 0 parts.0 new
    end = ended_row m 0 (given_up_offset Forward (piece_input piece p.earliest) k) parts.0 new f.sound parts.2

    row : RowFollows m bytes b.row new
    row =
        row_more m (0 + (bytes + 0)) bytes b.row new (omega arith)
        (row_then m 0 (bytes + 0) b.row opened new b.begins
        (row_then m bytes 0 opened parts.0 new (bytes_row q bytes opened parts.0 f) end))

    read_costs : IsCostOfUnits m (length piece) p old new
    read_costs =
        from_row m p q (length piece) old b.row new on.goes_on.from b.back
        (row_more m bytes (length piece) b.row new few row)

    -- the transition on each byte that is read is cached then
    read_learned :
        ClearedNothing old new → (has_its_row new (At q) ≡ true) × KnowsBytes m new piece p.earliest q
    read_learned nothing = (
      row_still m q b.row new row.grown after (b.back.has (of q on.goes_on.from).alive),
      λ j reads clean. byte j reads (cases_lt j bytes),
    ) where
      after : ClearedNothing b.row new
      after = nothing_after m old b.row new b.back.grown row.grown nothing

      here : ClearedNothing opened parts.0
      here =
          nothing_first m opened parts.0 new f.grown end.grown
          (nothing_second m b.row opened new b.begins.grown
          (grown_trans m opened parts.0 new f.grown end.grown) after)

      byte : (j : ℕ) → ReadsByte q j → (j < bytes) ⊎ (bytes ≤ j) → is_cached m (event_at q j) new ≡ true
      byte j reads (inl less) =
          subst (λ (c : Known). is_cached m (event_at q j) c ≡ true) (sym parts.2)
          (f.learned here j (omega arith) (omega (arith, less)))
      byte j reads (inr more) = absurd (last j more reads)

    -- if all of them were cached before, nothing but the progress changes
    read_still : KnowsPiece m old piece p → IsStill old new
    read_still knows =
        let uses = knows q on.goes_on.from in
        let idle = (bytes_known q bytes opened parts.0 b f reads clean uses.0 uses.1).0 in
        (read_costs.there (λ s was. (knows s was).0)).idle (ap (λ (c : Known). c.count) parts.2 ∙ idle)

    -- it answers
    read_follows : (next : PiecesView) → next.read ≡ p.read + bytes → PieceFollows m piece p next old new None
    read_follows next count = record {
      cost = read_costs;
      read = omega (arith, row.cost, b.back.counted_same, count);
      memory = λ free. tt;
      learned = λ nothing s was.
          subst (λ x. (has_its_row new (At x) ≡ true) × KnowsBytes m new piece p.earliest x)
          (some_inj (sym on.goes_on.from ∙ was)) (read_learned nothing);
      known = λ knows. (read_still knows, tt);
      done = λ none. absurd (some_none (sym on.goes_on.from ∙ none));
    }

    -- the state there cannot be held
    read_unheld :
        (next : PiecesView) (e : SearchError) → IsMemory e → PieceFollows m piece p next old new (Some e)
    read_unheld next e is = record {
      cost = read_costs;
      read = tt;
      memory = λ free. is;
      learned = λ nothing. tt;
      known = λ knows. (read_still knows, IsShareError is);
      done = λ none. absurd (some_none (sym on.goes_on.from ∙ none));
    }

  -- all bytes are read
  module _ (q : Powerset) (opened new : Known) (on : BeginsPiece m piece p q old opened)
      (t : ReadsThrough m piece p q opened new) where
    all_reads : (j : ℕ) → j < length piece - 0 → ReadsByte q j
    all_reads j less =
        reads_fewer m piece p.earliest q j (length piece - 0) (omega (arith, less)) (omega (arith, less)) t.alive
        t.nothing

    all_last : (j : ℕ) → length piece - 0 ≤ j → ReadsByte q j → ⊥
    all_last j more reads = let low = reads.0 in omega (arith, more, low)

    all_follow :
        (next : PiecesView) → next.read ≡ p.read + length piece → PieceFollows m piece p next old new None
    all_follow next count =
        read_follows q (length piece - 0) (length piece - 0) opened new (omega arith) on all_reads t.clean all_last
        t.run next (omega (arith, count))

    all_unheld : (next : PiecesView) (e : SearchError) → IsMemory e → PieceFollows m piece p next old new (Some e)
    all_unheld next e is =
        read_unheld q (length piece - 0) (length piece - 0) opened new (omega arith) on all_reads t.clean all_last t.run
        next e is

  -- they are read up to one
  module _ (q : Powerset) (k : ℕ) (opened new : Known) (on : BeginsPiece m piece p q old opened)
      (t : ReadsPieceUpto m piece p q k opened new) where
    upto_few : suc k ≤ length piece
    upto_few = let less = t.reads.0 in omega (arith, less)

    upto_reads : (j : ℕ) → j < suc k → ReadsByte q j
    upto_reads j less =
        reads_fewer m piece p.earliest q j k (omega (arith, less)) (omega (arith, less, upto_few)) t.reads.1 t.reads.2

    upto_last : (j : ℕ) → suc k ≤ j → ReadsByte q j → ⊥
    upto_last j more reads = stops_after m piece p.earliest q k j (omega (arith, more)) t.over reads

    upto_follow : (next : PiecesView) → next.read ≡ p.read + suc k → PieceFollows m piece p next old new None
    upto_follow next count =
        read_follows q (suc k) k opened new upto_few on upto_reads t.clean upto_last t.run next count

    upto_unheld : (next : PiecesView) (e : SearchError) → IsMemory e → PieceFollows m piece p next old new (Some e)
    upto_unheld next e is =
        read_unheld q (suc k) k opened new upto_few on upto_reads t.clean upto_last t.run next e is

  -- nothing is read
  none_follow :
      (next : PiecesView) (new : Known) → p.state ≡ None → next ≡ p → new ≡ old
      → PieceFollows m piece p next old new None
  none_follow next new none same still = record {
    cost = unchanged m p (length piece) old new sound still;
    read = omega (arith, ap (λ (c : Known). c.count) still, ap (λ (v : PiecesView). v.read) same);
    memory = λ free. tt;
    learned = λ nothing s was. absurd (some_none (sym was ∙ none));
    known = λ knows. (subst (λ (c : Known). IsStill old c) (sym still) refl, tt);
    done = λ is. (refl, still);
  }

  piece_ends :
      (next : PiecesView) (new : Known) → PieceEnds m piece p next old new → PieceFollows m piece p next old new None
  piece_ends next new (AlreadyOver none same still) = none_follow next new none same still
  piece_ends next new (Through q opened on t read) = all_follow q opened new on t next read
  piece_ends next new (Upto q opened k on t none read) = upto_follow q k opened new on t next read

  walk_ends :
      (next : PiecesView) (new : Known) → WalkCallEnds m piece p next old new → PieceFollows m piece p next old new None
  walk_ends next new (AlreadyDone none same still) = none_follow next new none same still
  walk_ends next new (WalksThrough q opened on t read) = all_follow q opened new on t next read
  walk_ends next new (WalksUpto q opened k on t read) = upto_follow q k opened new on t next read

  byte_fails :
      (q : Powerset) (k at : ℕ) (mid new : Known) (e : SearchError) → IsKnown m mid
      → ReadFails m ((piece_trace m piece p.earliest q).state k)
      (unit_at (tape_in Forward (piece_input piece p.earliest)) k) at at
      (given_up_offset Forward (piece_input piece p.earliest) k) mid new e
      → RowFollows m 1 mid new
  byte_fails q k at mid new e there (MeetsQuit byte unit quits is same) =
      ended_row m 1 (given_up_offset Forward (piece_input piece p.earliest) k) mid new there same
  byte_fails q k at mid new e there (CannotStep clean fails) =
      failed_row m (event_at q k) at (given_up_offset Forward (piece_input piece p.earliest) k) mid new e there fails

  byte_memory :
      (q : Powerset) (k at : ℕ) (mid new : Known) (e : SearchError) → k < length piece → IsFreePiece m piece p
      → ReadFails m ((piece_trace m piece p.earliest q).state k)
      (unit_at (tape_in Forward (piece_input piece p.earliest)) k) at at
      (given_up_offset Forward (piece_input piece p.earliest) k) mid new e
      → IsMemory e
  byte_memory q k at mid new e low free (MeetsQuit byte unit quits is same) =
      absurd (false_true (sym (piece_unit m piece p.earliest k low free.clean) ∙ (ap (quits_on m) unit ∙ quits)))
  byte_memory q k at mid new e low free (CannotStep clean fails) =
      event_memory m (event_at q k) at (moved (given_up_offset Forward (piece_input piece p.earliest) k) mid) new e
      free.clears fails

  byte_known :
      (q : Powerset) (k at : ℕ) (mid new : Known) (e : SearchError) → ReadsByte q k → IsCleanTo k
      → KnowsBytes m old piece p.earliest q → (mid.count ≡ old.count) × IsGrown m old mid
      → ReadFails m ((piece_trace m piece p.earliest q).state k)
      (unit_at (tape_in Forward (piece_input piece p.earliest)) k) at at
      (given_up_offset Forward (piece_input piece p.earliest) k) mid new e
      → (new.count ≡ old.count) × IsKnownPieceError piece p e
  byte_known q k at mid new e reads clean knows idle (MeetsQuit byte unit quits is same) =
      (ap (λ (c : Known). c.count) same ∙ idle.0, IsQuitError (subst IsOfInput (sym is) tt))
  byte_known q k at mid new e reads clean knows idle (CannotStep free fails) =
      absurd (false_true (sym fails.unknown
      ∙ event_idle m (event_at q k) old mid idle.1 idle.0
      (knows k reads (clean_more Forward m (piece_input piece p.earliest) k clean
      (no_quit_unit m (unit_at (tape_in Forward (piece_input piece p.earliest)) k) free)))))

  -- reading a byte fails
  module _ (q : Powerset) (opened new : Known) (e : SearchError) (on : BeginsPiece m piece p q old opened)
      (f : FailsAtByte m piece p q opened new e) where
    byte_begins : Begins m q old opened
    byte_begins = begins m p q 0 old opened bounds sound of on.goes_on

    before : BytesFollow q f.place opened f.mid
    before = bytes_follow q f.place opened f.mid byte_begins.begins.sound f.run

    byte_low : f.place < length piece
    byte_low = let less = f.reads.0 in omega (arith, less)

    byte_costs : IsCostOfUnits m (length piece) p old new
    byte_costs =
        from_row m p q (length piece) old byte_begins.row new on.goes_on.from byte_begins.back
        (row_more m (0 + (f.place + 1)) (length piece) byte_begins.row new (omega (arith, byte_low))
        (row_then m 0 (f.place + 1) byte_begins.row opened new byte_begins.begins
        (row_then m f.place 1 opened f.mid new (bytes_row q f.place opened f.mid before)
        (byte_fails q f.place (p.read + f.place) f.mid new e before.sound f.fails))))

    byte_uses : KnowsPiece m old piece p → (new.count ≡ old.count) × IsKnownPieceError piece p e
    byte_uses knows =
        let uses = knows q on.goes_on.from in
        byte_known q f.place (p.read + f.place) f.mid new e f.reads f.clean uses.1
        (bytes_known q f.place opened f.mid byte_begins before
        (λ j less. reads_fewer m piece p.earliest q j f.place (omega (arith, less)) (omega (arith, less, byte_low))
        f.reads.1 f.reads.2)
        f.clean uses.0 uses.1)
        f.fails

    byte_follows : (next : PiecesView) → PieceFollows m piece p next old new (Some e)
    byte_follows next = record {
      cost = byte_costs;
      read = tt;
      memory = λ free. byte_memory q f.place (p.read + f.place) f.mid new e byte_low free f.fails;
      learned = λ nothing. tt;
      known = λ knows. (
          let uses = byte_uses knows in ((byte_costs.there (λ s was. (knows s was).0)).idle uses.0, uses.1));
      done = λ none. absurd (some_none (sym on.goes_on.from ∙ none));
    }

  piece_left :
      (next : PiecesView) (new : Known) (e : SearchError) → PieceFails m piece p old new e
      → PieceFollows m piece p next old new (Some e)
  piece_left next new e (TooLong q stood back many is) =
      let b = back_follows m q old new sound bounds (of q stood).cheap back in
      record {
        cost =
            from_row m p q (length piece) old new new stood b
            (record { grown = grown_same m new new refl; cost = omega arith; sound = b.sound });
        read = tt;
        memory = λ free. absurd (let l = free.fits in omega (arith, many, l));
        learned = λ nothing. tt;
        known = λ knows. (
          subst (λ (c : Known). IsStill old c) (sym (b.there (knows q stood).0)) refl,
          IsLengthError many is,
        );
        done = λ none. absurd (some_none (sym stood ∙ none));
      }
  piece_left next new e (NotRestored q stood not) = record {
    cost = unchanged m p (length piece) old new sound (not_back m q p.read old new e not);
    read = tt;
    memory = λ free. back_memory m q p.read old new e free.clears not;
    learned = λ nothing. tt;
    known = λ knows. absurd (there_restored m q p.read old new e (knows q stood).0 not);
    done = λ none. absurd (some_none (sym stood ∙ none));
  }
  piece_left next new e (AtByte q opened on f) = byte_follows q opened new e on f next
  piece_left next new e (NotHeld q opened on t is) = all_unheld q opened new on t next e is

  walk_left :
      (next : PiecesView) (new : Known) (e : SearchError) → WalkCallFails m piece p old new e
      → PieceFollows m piece p next old new (Some e)
  walk_left next new e (AsSearch fails) = piece_left next new e fails
  walk_left next new e (NotHeldAt q opened k on t alive is) = upto_unheld q k opened new on t next e is

pub pieces_follow : (m : Machine) → HasBounds m → PiecesFollow m
pieces_follow m bounds piece p next old new None sound of run = piece_ends m bounds piece p old sound of next new run
pieces_follow m bounds piece p next old new (Some e) sound of run =
    piece_left m bounds piece p old sound of next new e run

pub walk_pieces_follow : (m : Machine) → HasBounds m → WalkPiecesFollow m
walk_pieces_follow m bounds piece w next old new None sound of run =
    walk_ends m bounds piece w old sound of next new run
walk_pieces_follow m bounds piece w next old new (Some e) sound of run =
    walk_left m bounds piece w old sound of next new e run

module _ (Fails : SearchError → Type 0) (m : Machine) (bounds : HasBounds m) (ahead : Option ℕ) (p : PiecesView)
    (old : Known) (sound : IsKnown m old) (of : IsPiecesOf p m) where
  -- the unit that follows is read
  module _ (q : Powerset) (opened new : Known) (on : GoesOn m p q p.read old opened)
      (clean : quits_on m ahead ≡ false)
      (run : option_map (ended p.read) (after_event m (Step q ahead) (moved p.read opened) opened) ≡ Some new) where
    unit_parts :
        (mid : Known) × (after_event m (Step q ahead) (moved p.read opened) opened ≡ Some mid)
        × (new ≡ ended p.read mid)
    unit_parts = mapped (ended p.read) (after_event m (Step q ahead) (moved p.read opened) opened) new run

    unit_begins : Begins m q old opened
    unit_begins = begins m p q p.read old opened bounds sound of on

    unit : Follows m (Step q ahead) opened unit_parts.0
    unit =
        event_follows m opened (moved p.read opened).searched unit_parts.0 unit_begins.begins.sound bounds
        (Step q ahead) unit_parts.1

    unit_row : RowFollows m 1 unit_begins.row new
    unit_row =
        row_then m 1 0 unit_begins.row unit_parts.0 new
        (row_then m 0 1 unit_begins.row opened unit_parts.0 unit_begins.begins
        (record { grown = unit.grown; cost = unit.counted; sound = unit.sound }))
        (ended_row m 0 p.read unit_parts.0 new unit.sound unit_parts.2)

    unit_costs : IsCostOfUnits m 1 p old new
    unit_costs = from_row m p q 1 old unit_begins.row new on.from unit_begins.back unit_row

    unit_learned :
        ClearedNothing old new
        → (has_its_row new (At q) ≡ true) × (quits_on m ahead ≡ false → is_cached m (Step q ahead) new ≡ true)
    unit_learned nothing =
        let after = nothing_after m old unit_begins.row new unit_begins.back.grown unit_row.grown nothing in (
          row_still m q unit_begins.row new unit_row.grown after (unit_begins.back.has (of q on.from).alive),
          λ free. subst (λ (c : Known). is_cached m (Step q ahead) c ≡ true) (sym unit_parts.2) unit.learned,
        )

    unit_still : KnowsAnswer m old ahead p → IsStill old new
    unit_still knows =
        let uses = knows q on.from in
        let grown : IsGrown m old opened =
        subst (λ (c : Known). IsGrown m c opened) (unit_begins.back.there uses.0) unit_begins.begins.grown in
        let count : opened.count ≡ old.count =
        omega (arith, unit_begins.begins.cost, unit_begins.back.counted_same, grown.counted) in
        let idle = unit.known (event_idle m (Step q ahead) old opened grown count (uses.1 clean)) in
        (unit_costs.there (λ s was. (knows s was).0)).idle
        (ap (λ (c : Known). c.count) unit_parts.2 ∙ (idle ∙ count))

  answer_ends : (new : Known) → AnswerEnds m ahead p old new → AnswerFollows Fails m ahead p old new None
  answer_ends new (Answered none same) = record {
    cost = unchanged m p 1 old new sound same;
    memory = λ clean free. tt;
    learned = λ nothing s was. absurd (some_none (sym was ∙ none));
    known = λ knows. (subst (λ (c : Known). IsStill old c) (sym same) refl, tt);
    done = λ is. (refl, same);
  }
  answer_ends new (AtEnd q opened on clean run) = record {
    cost = unit_costs q opened new on clean run;
    memory = λ clean free. tt;
    learned = λ nothing s was.
        subst
        (λ x. (has_its_row new (At x) ≡ true) × (quits_on m ahead ≡ false → is_cached m (Step x ahead) new ≡ true))
        (some_inj (sym on.from ∙ was)) (unit_learned q opened new on clean run nothing);
    known = λ knows. (unit_still q opened new on clean run knows, tt);
    done = λ none. absurd (some_none (sym on.from ∙ none));
  }

  -- the state at the end cannot be held
  end_unheld :
      (q : Powerset) (new : Known) (e : SearchError) → p.state ≡ Some q → IsMemory e → Fails e
      → AnswerFollows Fails m ahead p old new None → AnswerFollows Fails m ahead p old new (Some e)
  end_unheld q new e stood is fails f = record {
    cost = f.cost;
    memory = λ clean free. is;
    learned = λ nothing. tt;
    known = λ knows. ((f.known knows).0, fails);
    done = λ none. absurd (some_none (sym stood ∙ none));
  }

  unit_fails :
      (q : Powerset) (mid new : Known) (e : SearchError) → IsKnown m mid
      → ReadFails m q ahead p.read p.read p.read mid new e → RowFollows m 1 mid new
  unit_fails q mid new e there (MeetsQuit byte is quits reported same) = ended_row m 1 p.read mid new there same
  unit_fails q mid new e there (CannotStep clean fails) =
      failed_row m (Step q ahead) p.read p.read mid new e there fails

  unit_memory :
      (q : Powerset) (mid new : Known) (e : SearchError) → quits_on m ahead ≡ false
      → minimum_cache_clear_count_of m.config ≡ None → ReadFails m q ahead p.read p.read p.read mid new e → IsMemory e
  unit_memory q mid new e clean free (MeetsQuit byte is quits reported same) =
      absurd (false_true (sym clean ∙ (ap (quits_on m) is ∙ quits)))
  unit_memory q mid new e clean free (CannotStep free_unit fails) =
      event_memory m (Step q ahead) p.read (moved p.read mid) new e free fails

  unit_known :
      (q : Powerset) (mid new : Known) (e : SearchError) → ((e : SearchError) → IsOfInput e → Fails e)
      → (quits_on m ahead ≡ false → is_cached m (Step q ahead) old ≡ true) → IsGrown m old mid
      → mid.count ≡ old.count → ReadFails m q ahead p.read p.read p.read mid new e
      → (new.count ≡ old.count) × Fails e
  unit_known q mid new e input knows grown count (MeetsQuit byte is quits reported same) =
      (ap (λ (c : Known). c.count) same ∙ count, input e (subst IsOfInput (sym reported) tt))
  unit_known q mid new e input knows grown count (CannotStep clean fails) =
      absurd (false_true (sym fails.unknown ∙ event_idle m (Step q ahead) old mid grown count (knows clean)))

  answer_left :
      ((e : SearchError) → IsOfInput e → Fails e) → (new : Known) (e : SearchError) → AnswerFails m ahead p old new e
      → AnswerFollows Fails m ahead p old new (Some e)
  answer_left input new e (EndNotRestored q stood not) = record {
    cost = unchanged m p 1 old new sound (not_back m q p.read old new e not);
    memory = λ clean free. back_memory m q p.read old new e free not;
    learned = λ nothing. tt;
    known = λ knows. absurd (there_restored m q p.read old new e (knows q stood).0 not);
    done = λ none. absurd (some_none (sym stood ∙ none));
  }
  answer_left input new e (FailsAtEnd q opened on fails) = record {
    cost = cost;
    memory = λ clean free. unit_memory q opened new e clean free fails;
    learned = λ nothing. tt;
    known = λ knows. (
        let uses = knows q on.from in
        let grown : IsGrown m old opened =
        subst (λ (c : Known). IsGrown m c opened) (b.back.there uses.0) b.begins.grown in
        let count : opened.count ≡ old.count = omega (arith, b.begins.cost, b.back.counted_same, grown.counted) in
        let left = unit_known q opened new e input uses.1 grown count fails in
        ((cost.there (λ s was. (knows s was).0)).idle left.0, left.1));
    done = λ none. absurd (some_none (sym on.from ∙ none));
  } where
    b : Begins m q old opened
    b = begins m p q p.read old opened bounds sound of on

    cost : IsCostOfUnits m 1 p old new
    cost =
        from_row m p q 1 old b.row new on.from b.back
        (row_then m 0 1 b.row opened new b.begins (unit_fails q opened new e b.begins.sound fails))

pub piece_answers_follow : (m : Machine) → HasBounds m → PieceAnswersFollow m
piece_answers_follow m bounds ahead p old new None sound of run =
    answer_ends IsOfInput m bounds ahead p old sound of new run
piece_answers_follow m bounds ahead p old new (Some e) sound of run =
    answer_left IsOfInput m bounds ahead p old sound of (λ e is. is) new e run

pub walk_ends_follow : (m : Machine) → HasBounds m → WalkEndsFollow m
walk_ends_follow m bounds ahead w old new None sound of run =
    answer_ends (λ e. IsOfInput e ⊎ IsMemory e) m bounds ahead w old sound of new run
walk_ends_follow m bounds ahead w old new (Some e) sound of (AsForAnswer fails) =
    answer_left (λ e. IsOfInput e ⊎ IsMemory e) m bounds ahead w old sound of (λ e is. inl is) new e fails
walk_ends_follow m bounds ahead w old new (Some e) sound of (CannotHoldEnd q stood ends alive is) =
    end_unheld (λ e. IsOfInput e ⊎ IsMemory e) m bounds ahead w old sound of q new e stood is (inr is)
    (answer_ends (λ e. IsOfInput e ⊎ IsMemory e) m bounds ahead w old sound of new ends)
