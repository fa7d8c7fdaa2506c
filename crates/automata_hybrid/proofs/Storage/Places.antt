use Rattle.std.proofs.Common.{◌≡◌, ℕ, ◌+◌, ◌-◌, ◌*◌, ◌/◌, ◌%◌, ◌^◌, ◌<◌, ◌≤◌, suc, List, [], ◌∷◌, length, Bool, true}
use Rattle.std.proofs.Common.{false, cond, Some, get_or, set, slice_get, refl, sym, ap, ◌∙◌, subst, ⊎_elim, arith}
use Rattle.std.proofs.Common.{length-set}
use Rattle.std.proofs.lemmas.Bool.{cases_eq, ltb-true, lt-ltb}
use Rattle.std.proofs.lemmas.Option.{slice_get_within}
use Rattle.std.proofs.lemmas.Nat.{div-mul-add, mod-mul-add, bit_set_by_shift, same_from_place}
use Rattle.automata_hybrid.proofs.Words.{cell_at, CellLeads, CellQuits, CellUnknown, cost, dead, find_id, has_patterns}
use Rattle.automata_hybrid.proofs.Words.{HasOnly, IsBitSet, IsCell, IsRowId, IsStateOf, Names, Powerset, powerset_eq}
use Rattle.automata_hybrid.proofs.Words.{powerset_eq-Decides, Row, row_cost, row_id, Rows, RowsFitCells, with_cell, ◌↔◌}
use Rattle.std.specs.Prelude.{bit_and}
use Rattle.std.proofs.lemmas.List.{get_or-set_same, get_or-set_other, take-set-le}
use Rattle.std.proofs.Math.Nat.{mul-le-mul_right}
use Rattle.automata_hybrid.specs.Cache.Ids.{tags}
use Rattle.std.specs.List.{sum_by}
use Rattle.std.proofs.lemmas.List.Sums.{sum_by-cons}
use Rattle.automata_hybrid.specs.Private.Cache.Table.{LeadsByClass}
use Rattle.automata_hybrid.specs.Private.Cache.Table.{IsStepped, HasState}
use Rattle.automata_hybrid.proofs.Storage.Rows.{inside, leads_on}
use Rattle.automata_base.proofs.Paths.Orders.{some_inj}

-- the row that a lookup found
pub record Found (s at : ℕ) (q : Powerset) (rs : List Row) (id : ℕ) : Type 0 where
  pub place : ℕ
  pub row : Row
  pub has : slice_get rs place ≡ Some row
  pub state : row.state ≡ q
  pub «is» : id ≡ row_id (at + place * s) row

pub find_id-Found :
    (s at : ℕ) (q : Powerset) (rs : List Row) (id : ℕ) → find_id s at q rs ≡ Some id → Found s at q rs id
find_id-Found s at q [] id h = cc
find_id-Found s at q (r ∷ rs) id h = go (powerset_eq q r.state) refl h (λ e. find_id-Found s (at + s) q rs id e) where
  go :
      (b : Bool) → powerset_eq q r.state ≡ b → cond b (Some (row_id at r)) (find_id s (at + s) q rs) ≡ Some id
      → (find_id s (at + s) q rs ≡ Some id → Found s (at + s) q rs id) → Found s at q (r ∷ rs) id
  go true e h again =
      let i : row_id at r ≡ id = cc in
      let z : at ≡ at + 0 * s = omega arith in
      record {
        place = 0;
        row = r;
        has = refl;
        state = sym ((powerset_eq-Decides q r.state).0 e);
        «is» = sym i
            ∙ ap (λ n. row_id n r) z;
      }
  go false e h again =
      let f = again h in
      let z : at + s + f.place * s ≡ at + suc f.place * s = omega arith in
      record {
        place = suc f.place;
        row = f.row;
        has = f.has;
        state = f.state;
        «is» = f.«is»
            ∙ ap (λ n. row_id n f.row) z;
      }

pub tags_mod : (x : ℕ) (a b : Bool) → x < 2 ^ 27 → (x + tags a b) % 2 ^ 27 ≡ x
tags_mod x true true h =
    let e : x + (2 ^ 28 + 2 ^ 27) ≡ 3 * 2 ^ 27 + x = omega arith in ap (λ n. n % 2 ^ 27) e ∙ mod-mul-add 3 (2 ^ 27) x h
tags_mod x true false h =
    let e : x + (2 ^ 28 + 0) ≡ 2 * 2 ^ 27 + x = omega arith in ap (λ n. n % 2 ^ 27) e ∙ mod-mul-add 2 (2 ^ 27) x h
tags_mod x false true h =
    let e : x + (0 + 2 ^ 27) ≡ 1 * 2 ^ 27 + x = omega arith in ap (λ n. n % 2 ^ 27) e ∙ mod-mul-add 1 (2 ^ 27) x h
tags_mod x false false h =
    let e : x + (0 + 0) ≡ 0 * 2 ^ 27 + x = omega arith in ap (λ n. n % 2 ^ 27) e ∙ mod-mul-add 0 (2 ^ 27) x h

pub tags_low : (x : ℕ) (a b : Bool) → x < 2 ^ 27 → x + tags a b < 2 ^ 29
tags_low x true true h = omega arith
tags_low x true false h = omega arith
tags_low x false true h = omega arith
tags_low x false false h = omega arith

-- the row of an ID, and its position
pub record Placed (t : Rows) (id : ℕ) (q : Powerset) : Type 0 where
  pub place : ℕ
  pub row : Row
  pub has : slice_get t.rows place ≡ Some row
  pub state : row.state ≡ q
  pub within : place < length t.rows
  pub offset : id % 2 ^ 27 ≡ (place + 3) * t.of.stride
  pub low : id < 2 ^ 29
  pub same : id ≡ row_id (id % 2 ^ 27) row

pub Names-Placed : (t : Rows) (id : ℕ) (q : Powerset) → RowsFitCells t → Names t id q → Placed t id q
Names-Placed t id q i h =
    let f = find_id-Found t.of.stride (3 * t.of.stride) q t.rows id h in
    let low : (f.place + 3) * t.of.stride < 2 ^ 27 = (i.ids f.place f.row f.has).1 in
    let at : 3 * t.of.stride + f.place * t.of.stride ≡ (f.place + 3) * t.of.stride = omega arith in
    let offset : id % 2 ^ 27 ≡ (f.place + 3) * t.of.stride =
    ap (λ n. n % 2 ^ 27) (f.«is» ∙ ap (λ n. row_id n f.row) at)
    ∙ tags_mod _ f.row.started (has_patterns f.row.state) low in
    record {
      place = f.place;
      row = f.row;
      has = f.has;
      state = f.state;
      within = slice_get_within t.rows f.place f.row f.has;
      offset = offset;
      low = rw (f.«is») (tags_low _ f.row.started (has_patterns f.row.state) (omega (arith, low, at)));
      same = f.«is» ∙ ap (λ n. row_id n f.row) (at ∙ sym offset);
    }

pub Placed-cell :
    (t : Rows) (id class : ℕ) (q : Powerset) → RowsFitCells t → Placed t id q → class < t.of.stride
    → cell_at id class < length t.cells
Placed-cell t id class q i p l = rw (p.offset, i.whole) (inside p.place (length t.rows) t.of.stride class p.within l)

pub Placed-place :
    (t : Rows) (id : ℕ) (q : Powerset) → 0 < t.of.stride → (p : Placed t id q)
    → (id % 2 ^ 27) / t.of.stride ≡ p.place + 3
Placed-place t id q positive p =
    let e : (p.place + 3) * t.of.stride ≡ (p.place + 3) * t.of.stride + 0 = omega arith in
    ap (λ n. n / t.of.stride) (p.offset ∙ e) ∙ div-mul-add (p.place + 3) t.of.stride 0 positive

pub Placed-HasState :
    (t : Rows) (id k : ℕ) (q : Powerset) → 0 < t.of.stride → Placed t id q → k ≡ (id % 2 ^ 27) / t.of.stride - 3
    → HasState t k q
Placed-HasState t id k q positive p e =
    let same : k ≡ p.place = omega (arith, Placed-place t id q positive p, e) in
    (p.row, subst (λ n. slice_get t.rows n ≡ Some p.row) (sym same) p.has, p.state)

pub Placed-IsCell :
    (t : Rows) (id class : ℕ) (q : Powerset) → RowsFitCells t → Placed t id q → class < t.of.stride
    → IsCell t q class (get_or t.cells (cell_at id class) 0)
Placed-IsCell t id class q i p l =
    subst (λ n. IsCell t q class (get_or t.cells (n + class) 0)) (sym p.offset)
    (subst (λ w. IsCell t w class (get_or t.cells ((p.place + 3) * t.of.stride + class) 0)) p.state
    (i.stepped p.place class p.row p.has l))

-- the value of a cell stays valid, whatever is written into a cell
IsCell-written :
    (t : Rows) (at column next : ℕ) (q : Powerset) (class id : ℕ) → IsCell t q class id
    → IsCell (with_cell t at column next) q class id
IsCell-written t at column next q class id (CellQuits h e) = CellQuits h e
IsCell-written t at column next q class id (CellUnknown h e) = CellUnknown h e
IsCell-written t at column next q class id (CellLeads h l) =
    CellLeads h (λ unit is here. leads_on t at column next (l unit is here))

-- rows still fit their cells after an ID of the next state is written into a cell
pub RowsFitCells-with_cell :
    (t : Rows) (id class next : ℕ) (q : Powerset) → RowsFitCells t → Names t id q → class < t.of.stride
    → get_or t.of.template class 0 ≡ 2 ^ 31 → LeadsByClass t next q class → RowsFitCells (with_cell t id class next)
RowsFitCells-with_cell t id class next q i h l free leads =
    let p = Names-Placed t id q i h in
    let far : 3 * t.of.stride ≤ cell_at id class =
    omega (arith, p.offset, mul-le-mul_right t.of.stride (le3 p.place)) in
    record {
      whole = length-set t.cells (cell_at id class) next ∙ i.whole;
      small = rw length-set i.small;
      fixed = take-set-le (3 * t.of.stride) t.cells (cell_at id class) next far ∙ i.fixed;
      stepped = stepped p;
      ids = i.ids;
      states = i.states;
    } where
      le3 : (k : ℕ) → 3 ≤ k + 3
      le3 k = omega arith

      stepped : Placed t id q → IsStepped (with_cell t id class next)
      stepped p k c r has lc =
          IsCell-written t id class next r.state c
          (get_or (set t.cells (cell_at id class) next) ((k + 3) * t.of.stride + c) 0) (⊎_elim
          (λ (e : (k + 3) * t.of.stride + c ≡ cell_at id class). same e)
          (λ (ne : (k + 3) * t.of.stride + c ≡ cell_at id class → ⊥). subst (IsCell t r.state c)
          (sym (get_or-set_other t.cells (cell_at id class) ((k + 3) * t.of.stride + c) next 0 ne))
          (i.stepped k c r has lc))
          (cases_eq ((k + 3) * t.of.stride + c) (cell_at id class))) where
            same :
                (k + 3) * t.of.stride + c ≡ cell_at id class
                → IsCell t r.state c (get_or (set t.cells (cell_at id class) next) ((k + 3) * t.of.stride + c) 0)
            same e =
                let both = same_from_place (k + 3) c (p.place + 3) class t.of.stride lc l
                (e ∙ ap (λ n. n + class) p.offset) in
                let place : k ≡ p.place = omega (arith, both.0) in
                let row : Some r ≡ Some p.row = sym has ∙ ap (slice_get t.rows) place ∙ p.has in
                let state : r.state ≡ q = ap (λ (x : Row). x.state) (some_inj row) ∙ p.state in
                let read : next ≡ get_or (set t.cells (cell_at id class) next) ((k + 3) * t.of.stride + c) 0 =
                sym (get_or-set_same t.cells (cell_at id class) next 0 (Placed-cell t id class q i p l))
                ∙ ap (λ n. get_or (set t.cells (cell_at id class) next) n 0) (sym e) in
                subst (IsCell t r.state c) read
                (subst (λ d. IsCell t r.state d next) (sym both.1)
                (subst (λ w. IsCell t w class next) (sym state) (CellLeads free leads)))

costs_le :
    (rs : List Row) (m : ℕ) → ((k : ℕ) (r : Row) → slice_get rs k ≡ Some r → cost r.state ≤ m)
    → sum_by row_cost rs ≤ length rs * m
costs_le [] m all = omega arith
costs_le (r ∷ rs) m all =
    let one : cost r.state ≤ m = all 0 r refl in
    let more : sum_by row_cost rs ≤ length rs * m = costs_le rs m (λ k x h. all (suc k) x h) in
    let e : suc (length rs) * m ≡ m + length rs * m = omega arith in
    let f : sum_by row_cost (r ∷ rs) ≡ cost r.state + sum_by row_cost rs = sum_by-cons row_cost r rs in
    omega (arith, one, more, e, f)

pub RowsFitCells-costs : (t : Rows) → RowsFitCells t → sum_by row_cost t.rows ≤ length t.rows * t.of.greatest
RowsFitCells-costs t i = costs_le t.rows t.of.greatest (λ k r h. (i.states k r h).cheap)

-- an ID at a row's offset with that row's tags is the ID of that row
pub placed_valid :
    (t : Rows) (id index : ℕ) (r : Row)
    → RowsFitCells t → 3 ≤ index → slice_get t.rows (index - 3) ≡ Some r → index * t.of.stride ≡ id % 2 ^ 27
    → id ≡ row_id (id % 2 ^ 27) r
    → IsRowId t id
placed_valid t id index r i three has at same =
    let place : index - 3 + 3 ≡ index = omega (arith, three) in
    let e : id ≡ row_id ((index - 3 + 3) * t.of.stride) r =
    same ∙ ap (λ n. row_id n r) (sym at ∙ ap (λ n. n * t.of.stride) (sym place)) in
    (r.state, (i.ids (index - 3) r has).0 ∙ ap Some (sym e))

-- a valid ID is at its row's offset, with that row's tags
pub record IsAtRow (t : Rows) (id index : ℕ) : Type 0 where
  pub row : Row
  pub behind : 3 ≤ index
  pub within : index < length t.rows + 3
  pub has : slice_get t.rows (index - 3) ≡ Some row
  pub at : index * t.of.stride ≡ id % 2 ^ 27
  pub same : id ≡ row_id (id % 2 ^ 27) row

pub valid_at :
    (t : Rows) (id : ℕ) → RowsFitCells t → 0 < t.of.stride → IsRowId t id → IsAtRow t id ((id % 2 ^ 27) / t.of.stride)
valid_at t id i positive v =
    let p = Names-Placed t id v.0 i v.1 in
    let index : (id % 2 ^ 27) / t.of.stride ≡ p.place + 3 = Placed-place t id v.0 positive p in
    let behind : (id % 2 ^ 27) / t.of.stride - 3 ≡ p.place = omega (arith, index) in
    record {
      row = p.row;
      behind = omega (arith, index);
      within = omega (arith, index, p.within);
      has = subst (λ n. slice_get t.rows n ≡ Some p.row) (sym behind) p.has;
      at = ap (λ n. n * t.of.stride) index ∙ sym p.offset;
      same = p.same;
    }

-- a bit is the lowest bit of the part of the number above it
pub bit_of : (k x c n : ℕ) → x < 2 ^ k → n ≡ c * 2 ^ k + x → IsBitSet n k ↔ (bit_and c 1 ≡ 1)
bit_of k x c n h e =
    let d : n / 2 ^ k ≡ c = ap (λ v. v / 2 ^ k) e ∙ div-mul-add c (2 ^ k) x h in (
      λ b. subst (λ v. bit_and v 1 ≡ 1) d ((bit_set_by_shift n k).1 b),
      λ b. (bit_set_by_shift n k).0
          (subst (λ v. bit_and v 1 ≡ 1) (sym d) b),
    )

pub zero_one : ◌≡◌ {A = ℕ} 0 1 → ⊥
zero_one e = cc

-- the match tag is set exactly if it was added to the row's offset
tags_bit : (x : ℕ) (a b : Bool) → x < 2 ^ 27 → IsBitSet (x + tags a b) 27 ↔ (b ≡ true)
tags_bit x true true h = let i = bit_of 27 x 3 (x + tags true true) h (omega arith) in (λ s. refl, λ e. i.1 refl)
tags_bit x true false h =
    let i = bit_of 27 x 2 (x + tags true false) h (omega arith) in (λ s. absurd (zero_one (i.0 s)), λ e. absurd (cc))
tags_bit x false true h = let i = bit_of 27 x 1 (x + tags false true) h (omega arith) in (λ s. refl, λ e. i.1 refl)
tags_bit x false false h =
    let i = bit_of 27 x 0 (x + tags false false) h (omega arith) in (λ s. absurd (zero_one (i.0 s)), λ e. absurd (cc))

has_some : (q : Powerset) → has_patterns q ≡ true ↔ (0 < length q.patterns)
has_some q = (λ e. ltb-true 0 (length q.patterns) e, λ l. lt-ltb 0 (length q.patterns) l)

-- an ID whose only tag is the match tag has that bit set
pub match_tagged : (id : ℕ) → HasOnly (2 ^ 27) id → IsBitSet id 27
match_tagged id only =
    let i = bit_of 27 (id - 2 ^ 27) 1 id (omega (arith, only.from, only.below)) (omega (arith, only.from)) in
    i.1 refl

pub Names-tagged :
    (t : Rows) (id : ℕ) (q : Powerset) → RowsFitCells t → Names t id q → IsBitSet id 27 ↔ (0 < length q.patterns)
Names-tagged t id q i h =
    let p = Names-Placed t id q i h in
    let low : id % 2 ^ 27 < 2 ^ 27 = subst (λ n. n < 2 ^ 27) (sym p.offset) (i.ids p.place p.row p.has).1 in
    let bit = tags_bit (id % 2 ^ 27) p.row.started (has_patterns p.row.state) low in
    let some = has_some q in
    let s : has_patterns p.row.state ≡ has_patterns q = ap has_patterns p.state in (
      λ b. some.0 (sym s ∙ bit.0 (subst (λ v. IsBitSet v 27) p.same b)),
      λ l. subst (λ v. IsBitSet v 27) (sym p.same)
          (bit.1 (s ∙ some.1 l)),
    )

pub no_patterns : (ps : List ℕ) → (0 < length ps → ⊥) → ps ≡ []
no_patterns [] n = refl
no_patterns (p ∷ ps) n = absurd (n (omega arith))

-- an ID without the match tag names a state without patterns
pub Names-silent : (t : Rows) (id : ℕ) (q : Powerset) → Names t id q → id < 2 ^ 27 → q.patterns ≡ []
Names-silent t id q h l =
    let f = find_id-Found t.of.stride (3 * t.of.stride) q t.rows id h in
    let s : has_patterns f.row.state ≡ has_patterns q = ap has_patterns f.state in
    no_patterns q.patterns
    (λ some. heavy f.row.started (has_patterns f.row.state) (3 * t.of.stride + f.place * t.of.stride)
    (s ∙ (has_some q).1 some) (subst (λ v. v < 2 ^ 27) f.«is» l)) where
      heavy : (a b : Bool) (x : ℕ) → b ≡ true → x + tags a b < 2 ^ 27 → ⊥
      heavy true true x e l = omega (arith, l)
      heavy false true x e l = omega (arith, l)
      heavy a false x e l = cc

-- no row has the dead state
pub Names-alive : (t : Rows) (id : ℕ) (q : Powerset) → RowsFitCells t → Names t id q → q ≡ dead → ⊥
Names-alive t id q i h d =
    let p = Names-Placed t id q i h in (i.states p.place p.row p.has).alive (p.state ∙ d)

-- the states of rows are states of the DFA
pub Names-own : (t : Rows) (id : ℕ) (q : Powerset) → RowsFitCells t → Names t id q → IsStateOf t.of q
Names-own t id q i h =
    let p = Names-Placed t id q i h in
    subst (IsStateOf t.of) p.state (i.states p.place p.row p.has).own
