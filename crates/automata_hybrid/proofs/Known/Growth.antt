-- How what a cache knows grows: over steps and searches one after another, and while there is room for more states.
use Rattle.std.proofs.Common.{◌≡◌, ◌∙◌, ℕ, ◌+◌, ◌-◌, ◌*◌, ◌<◌, ◌≤◌, ◌⊎◌, inl, inr, List, [], ◌∷◌, ◌++◌, length, Bool}
use Rattle.std.proofs.Common.{true, Some, refl, sym, ap, subst, arith, append_assoc, append-nil, length-append}
use Rattle.automata_hybrid.proofs.Words.{cost, counted, fits, is_cached, Known, Machine, nat_le, nat_lt, offset_limit}
use Rattle.automata_hybrid.proofs.Words.{Powerset, Row, row_cost}
use Rattle.automata_hybrid.proofs.Words.{slice_get, Start, sum_by, usage, with_row, ◌&&◌}
use Rattle.std.proofs.Math.Nat.{mul-le-mul_right, lt_of_le_of_lt}
use Rattle.std.proofs.lemmas.Bool.Decides.{nat_tests}
use Rattle.std.proofs.lemmas.List.Sums.{sum_by_push}
use Rattle.automata_hybrid.specs.Cache.Usage.{row_usage}
use Rattle.automata_hybrid.specs.Known.Growth.{ClearedNothing, HasRoom, HasRow, IsGrown, IsStartRow, IsStill, Keeps}

-- whether there is room depends only on the rows
pub room_by : (m : Machine) (old new : Known) (n : ℕ) → new.rows ≡ old.rows → HasRoom m old n → HasRoom m new n
room_by m old new n same room = record {
  capacity =
      subst (λ rows. usage m (record old { rows = rows }) + n * (row_usage m + m.greatest) ≤ m.capacity) (sym same)
      room.capacity;
  offsets = subst (λ (rows : List Row). (length rows + 2 + n) * m.stride < offset_limit) (sym same) room.offsets;
}

-- room for fewer states
pub room_less : (m : Machine) (c : Known) (n k : ℕ) → k ≤ n → HasRoom m c n → HasRoom m c k
room_less m c n k less room = record {
  capacity = (
      let times = mul-le-mul_right (row_usage m + m.greatest) less in
      below (usage m c) (k * (row_usage m + m.greatest))
      (n * (row_usage m + m.greatest)) m.capacity times room.capacity);
  offsets = (
      let few : length c.rows + 2 + k ≤ length c.rows + 2 + n = omega (arith, less) in
      let times = mul-le-mul_right m.stride few in
      lt_of_le_of_lt times room.offsets);
} where
  below : (u a b most : ℕ) → a ≤ b → u + b ≤ most → u + a ≤ most
  below u a b most l h = omega (arith, l, h)

-- the accounted bytes with one more row
pub used_more : (m : Machine) (c : Known) (r : Row) → usage m (with_row r c) ≡ usage m c + row_usage m + cost r.state
used_more m c r =
    let rows : length (c.rows ++ r ∷ []) ≡ length c.rows + 1 = length-append c.rows (r ∷ []) in
    let costs : sum_by row_cost (c.rows ++ r ∷ []) ≡ sum_by row_cost c.rows + cost r.state =
    sum_by_push row_cost c.rows r in
    let cells : (length (c.rows ++ r ∷ []) + 3) * m.stride ≡ (length c.rows + 3) * m.stride + m.stride =
    ap (λ n. (n + 3) * m.stride) rows ∙ omega arith in
    omega (arith, rows, costs, cells)

pub used_by : (m : Machine) (old new : Known) → new.rows ≡ old.rows → usage m new ≡ usage m old
used_by m old new same = ap (λ rows. usage m (record old { rows = rows })) same

-- both tests of whether a state fits succeed
pub both_fit : (a b x y : ℕ) → a ≤ b → x < y → (nat_le a b && nat_lt x y) ≡ true
both_fit a b x y le lt = grind (arith, nat_tests)

pub fit_both : (a b x y : ℕ) → (nat_le a b && nat_lt x y) ≡ true → (a ≤ b) × (x < y)
fit_both a b x y h = (grind (arith, nat_tests), grind (arith, nat_tests))

-- what fits stays within the capacity
pub fits_within :
    (m : Machine) (c : Known) (bytes : ℕ) → fits m c bytes ≡ true → usage m c + row_usage m + bytes ≤ m.capacity
fits_within m c bytes fit =
    (fit_both (usage m c + row_usage m + bytes) m.capacity ((length c.rows + 3) * m.stride) offset_limit fit).0

-- and so does its row's offset
pub fits_below :
    (m : Machine) (c : Known) (bytes : ℕ) → fits m c bytes ≡ true → (length c.rows + 3) * m.stride < offset_limit
fits_below m c bytes fit =
    (fit_both (usage m c + row_usage m + bytes) m.capacity ((length c.rows + 3) * m.stride) offset_limit fit).1

-- a state that costs at most the greatest cost takes at most the room for one
one_room :
    (used n row most extra capacity : ℕ) → extra ≤ most → used + (n + 1) * (row + most) ≤ capacity
    → used + row + extra + n * (row + most) ≤ capacity
one_room used n row most extra capacity little room =
    let one : (n + 1) * (row + most) ≡ n * (row + most) + (row + most) = omega arith in
    omega (arith, room, one, little)

module _ (m : Machine) (c : Known) (r : Row) (n : ℕ) (cheap : cost r.state ≤ m.greatest) (room : HasRoom m c (n + 1))
  where
    -- adding it leaves room for the others
    pub room_left : HasRoom m (with_row r c) n
    room_left = record {
      capacity =
          subst (λ k. k + n * (row_usage m + m.greatest) ≤ m.capacity) (sym (used_more m c r))
          (one_room (usage m c) n (row_usage m) m.greatest (cost r.state) m.capacity cheap room.capacity);
      offsets = (
          let rows : length (c.rows ++ r ∷ []) ≡ length c.rows + 1 = length-append c.rows (r ∷ []) in
          let last : (length (c.rows ++ r ∷ []) + 2 + n) * m.stride ≡ (length c.rows + 2 + (n + 1)) * m.stride =
          ap (λ k. (k + 2 + n) * m.stride) rows ∙ ap (λ k. k * m.stride) (omega arith) in
          omega (arith, last, room.offsets));
    }

    -- it fits
    pub room_fits : fits m c (row_cost r) ≡ true
    room_fits =
        let one = one_room (usage m c) n (row_usage m) m.greatest (cost r.state) m.capacity cheap room.capacity in
        let few : length c.rows + 3 ≤ length c.rows + 2 + (n + 1) = omega arith in
        let times = mul-le-mul_right m.stride few in
        both_fit (usage m c + row_usage m + cost r.state) m.capacity ((length c.rows + 3) * m.stride) offset_limit
        (first (usage m c + row_usage m + cost r.state) (n * (row_usage m + m.greatest)) m.capacity one)
        (lt_of_le_of_lt times room.offsets)
      where
        first : (a b most : ℕ) → a + b ≤ most → a ≤ most
        first a b most l = omega (arith, l)

-- losing nothing is transitive
keeps_trans : (a b c : Known) → Keeps a b → Keeps b c → Keeps a c
keeps_trans a b c f g = record {
  added = f.added ++ g.added;
  rows = g.rows ∙ ap (λ rows. rows ++ g.added) f.rows ∙ append_assoc a.rows f.added g.added;
  steps = λ q class known. g.steps q class (f.steps q class known);
}

-- the row of a cached start state remains one
start_still :
    (m : Machine) (old new : Known) (r : Row) → IsGrown m old new
    → IsStartRow m old r → IsStartRow m new r
start_still m old new r grown s =
    record { mode = s.mode; behind = s.behind; row = s.row; known = grown.starts s.mode s.behind s.known }

-- only the progress of searches has changed
pub grown_still : (m : Machine) (old new : Known) → IsStill old new → IsGrown m old new
grown_still m old new still = record {
  counted = omega (arith, ap (λ (c : Known). c.count) still);
  clears = omega (arith, clears);
  starts = λ mode behind has. subst (λ (c : Known). is_cached m (Start mode behind) c ≡ true) (sym still) has;
  tagged = λ r has started. inl (has.0, subst (λ (list : List Row). slice_get list has.0 ≡ Some r) rows has.1);
  idle = λ same. still;
  kept = λ nothing. record {
    added = [];
    rows = rows ∙ sym (append-nil old.rows);
    steps =
        λ q class known. subst (λ (f : Powerset → ℕ → Bool). f q class ≡ true)
        (sym (ap (λ (c : Known). c.steps) still)) known;
  };
  roomy = λ states room. (room_by m old new states rows (room_less m old _ states (omega arith) room), clears);
} where
  rows : new.rows ≡ old.rows
  rows = ap (λ (c : Known). c.rows) still

  clears : new.clears ≡ old.clears
  clears = ap (λ (c : Known). c.clears) still

-- one determinization that failed
pub grown_counted : (m : Machine) (old new : Known) → new ≡ counted old → IsGrown m old new
grown_counted m old new same = subst (IsGrown m old) (sym same) (record {
  counted = omega arith;
  clears = omega arith;
  starts = λ mode behind has. has;
  tagged = λ r has started. inl has;
  idle = λ e. absurd (omega (arith, e));
  kept = λ nothing. record { added = []; rows = sym (append-nil old.rows); steps = λ q class known. known };
  roomy =
      λ states room. (
        room_by m old (counted old) states refl
            (room_less m old (states + (old.count + 1 - old.count)) states (omega arith) room),
        refl,
      );
})

pub grown_same : (m : Machine) (old new : Known) → new ≡ old → IsGrown m old new
grown_same m old new same =
    grown_still m old new (subst (λ (c : Known). IsStill old c) (sym same) refl)

-- if nothing was cleared overall, nothing was cleared in either part
pub nothing_first :
    (m : Machine) (a b c : Known) → IsGrown m a b → IsGrown m b c → ClearedNothing a c → ClearedNothing a b
nothing_first m a b c f g e = (omega (arith, e.0, f.clears, g.clears), e.1)

pub nothing_second :
    (m : Machine) (a b c : Known) → IsGrown m a b → IsGrown m b c → ClearedNothing a c → ClearedNothing b c
nothing_second m a b c f g e = (omega (arith, e.0, f.clears, g.clears), omega (arith, e.0, e.1, f.clears, g.clears))

-- growth is transitive
pub grown_trans : (m : Machine) (a b c : Known) → IsGrown m a b → IsGrown m b c → IsGrown m a c
grown_trans m a b c f g = record {
  counted = omega (arith, f.counted, g.counted);
  clears = omega (arith, f.clears, g.clears);
  starts = λ mode behind has. g.starts mode behind (f.starts mode behind has);
  tagged = λ r has started. late r started (g.tagged r has started);
  idle = λ same. (
      let first : b.count ≡ a.count = omega (arith, same, f.counted, g.counted) in
      let second : c.count ≡ b.count = omega (arith, same, f.counted, g.counted) in
      g.idle second ∙ ap (λ (k : Known). record k { searched = c.searched }) (f.idle first));
  kept =
      λ nothing. keeps_trans a b c (f.kept (nothing_first m a b c f g nothing))
      (g.kept (nothing_second m a b c f g nothing));
  roomy = λ states room. (
      let sum : states + (c.count - a.count) ≡ states + (c.count - b.count) + (b.count - a.count) =
      omega (arith, f.counted, g.counted) in
      let first = f.roomy (states + (c.count - b.count)) (subst (HasRoom m a) sum room) in
      let second = g.roomy states first.0 in
      (second.0, second.1 ∙ first.1));
} where
  early : (r : Row) → HasRow a r ⊎ IsStartRow m b r → HasRow a r ⊎ IsStartRow m c r
  early r (inl had) = inl had
  early r (inr start) = inr (start_still m b c r g start)

  late : (r : Row) → r.started ≡ true → HasRow b r ⊎ IsStartRow m c r → HasRow a r ⊎ IsStartRow m c r
  late r started (inl mid) = early r (f.tagged r mid started)
  late r started (inr start) = inr start

-- nothing is cleared if there is room for everything that is determinized
pub clears_none :
    (m : Machine) (old new : Known) (n : ℕ) → IsGrown m old new → new.count ≤ old.count + n → HasRoom m old n
    → new.clears ≡ old.clears
clears_none m old new n grown few room =
    (grown.roomy 0 (room_less m old n (0 + (new.count - old.count)) (omega (arith, few)) room)).1

-- the same for two caches with one more count
grown_both : (m : Machine) (old new : Known) → IsGrown m old new → IsGrown m (counted old) (counted new)
grown_both m old new g = record {
  counted = omega (arith, g.counted);
  clears = g.clears;
  starts = g.starts;
  tagged = λ r has started. again r (g.tagged r has started);
  idle = λ same. (let e : new.count ≡ old.count = omega (arith, same) in ap counted (g.idle e));
  kept = λ nothing. (let k = g.kept nothing in record { added = k.added; rows = k.rows; steps = k.steps });
  roomy = λ states room. (
      let fewer = room_less m (counted old) (states + (new.count + 1 - (old.count + 1)))
      (states + (new.count - old.count)) (omega arith) room in
      let left = g.roomy states (room_by m (counted old) old (states + (new.count - old.count)) refl fewer) in
      (room_by m new (counted new) states refl left.0, left.1));
} where
  again : (r : Row) → HasRow old r ⊎ IsStartRow m new r → HasRow old r ⊎ IsStartRow m (counted new) r
  again r (inl had) = inl had
  again r (inr s) = inr (record { mode = s.mode; behind = s.behind; row = s.row; known = s.known })

-- putting back a state counts as one determinization
pub grown_after :
    (m : Machine) (old between new : Known) → IsGrown m old (counted between) → IsGrown m between new
    → IsGrown m old (counted new)
grown_after m old between new f g =
    grown_trans m old (counted between) (counted new) f (grown_both m between new g)

pub grown_less : (m : Machine) (old new : Known) → IsGrown m old new → IsGrown m old (counted new)
grown_less m old new g = grown_trans m old new (counted new) g (grown_counted m new (counted new) refl)

-- if nothing was cleared overall, nothing was cleared after the state was restored
pub nothing_after :
    (m : Machine) (old between new : Known) → IsGrown m old (counted between) → IsGrown m between new
    → ClearedNothing old new → ClearedNothing between new
nothing_after m old between new f g nothing =
    nothing_second m old (counted between) (counted new) f (grown_both m between new g) nothing
