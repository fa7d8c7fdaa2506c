use Rattle.std.proofs.Common.{◌≡◌, ℕ, List, ◌∷◌, length, Bool, true, false, Some, [], ◌+◌, ◌*◌, ◌^◌, ◌<◌, ◌≤◌, inl, inr}
use Rattle.std.proofs.Common.{refl, sym, ap, subst, arith, get_or}
use Rattle.automata_hybrid.proofs.Words.{CacheView, dead, HoldsRow, In, is_quit, IsBitSet, IsRowId, Leads, LeadsToDead}
use Rattle.automata_hybrid.proofs.Words.{LeadsToNamed, Machine, match_kind_of, Names, Powerset, quit_id, Rows}
use Rattle.automata_hybrid.proofs.Words.{successor, ◌↔◌}
use Rattle.automata_hybrid.proofs.Storage.Places.{no_patterns, bit_of, zero_one}

-- an ID that is not one of the fixed IDs is the ID of a row
pub HoldsRow-valid : (c : CacheView) (id : ℕ) → HoldsRow c id → id < 2 ^ 29 → IsRowId c.store.table id
HoldsRow-valid c id (inl e) l = absurd (omega (arith, e, l))
HoldsRow-valid c id (inr (inl e)) l = absurd (omega (arith, e, l))
HoldsRow-valid c id (inr (inr h)) l = h

-- an ID of a row with the match tag is neither dead nor quit
pub HoldsRow-matched :
    (c : CacheView) (id : ℕ) → c.store.table.of.stride ≤ 512 → HoldsRow c id → IsBitSet id 27 → IsRowId c.store.table id
HoldsRow-matched c id small (inl e) b =
    absurd (zero_one ((bit_of 27 c.store.table.of.stride 8 id (omega (arith, small)) (omega (arith, e))).0 b))
HoldsRow-matched c id small (inr (inl e)) b =
    absurd (zero_one ((bit_of 27 (2 * c.store.table.of.stride) 4 id (omega (arith, small)) (omega (arith, e))).0 b))
HoldsRow-matched c id small (inr (inr v)) b = v

-- an ID without the match tag reports nothing
pub Leads-untagged :
    (t : Rows) (id : ℕ) (q : Powerset) → Leads t id q → (Names t id q → IsBitSet id 27 ↔ (0 < length q.patterns))
    → (IsBitSet id 27 → ⊥)
    → q.patterns ≡ []
Leads-untagged t id q (LeadsToDead e d) tagged clear = ap (λ (p : Powerset). p.patterns) d
Leads-untagged t id q (LeadsToNamed h) tagged clear = no_patterns q.patterns (λ some. clear ((tagged h).1 some))

pub low_bit : (k n : ℕ) → n < 2 ^ k → IsBitSet n k → ⊥
low_bit k n l b = let z : n ≡ 0 * 2 ^ k + n = omega arith in zero_one ((bit_of k n 0 n l z).0 b)

-- an ID that leads to a state does not have the quit tag
Leads-quit :
    (t : Rows) (id : ℕ) (q : Powerset) → Leads t id q → (Names t id q → id < 2 ^ 29) → t.of.stride ≤ 512
    → IsBitSet id 29 → ⊥
Leads-quit t id q (LeadsToDead e d) low small b =
    let n : id ≡ 2 * 2 ^ 29 + t.of.stride = omega (arith, e) in
    zero_one ((bit_of 29 t.of.stride 2 id (omega (arith, small)) n).0 b)
Leads-quit t id q (LeadsToNamed h) low small b = low_bit 29 id (low h) b

-- an ID has the dead tag exactly if it leads to the dead state, which no row has
pub dead_tagged :
    (t : Rows) (id : ℕ) → ((q : Powerset) → Names t id q → id < 2 ^ 29) → t.of.stride ≤ 512
    → (q : Powerset) → Leads t id q → (IsBitSet id 30 → q ≡ dead) × ((IsBitSet id 30 → ⊥) → Names t id q)
dead_tagged t id low small q (LeadsToDead e d) =
    let n : id ≡ 1 * 2 ^ 30 + t.of.stride = omega (arith, e) in
    (λ b. d, λ clear. absurd (clear ((bit_of 30 t.of.stride 1 id (omega (arith, small)) n).1 refl)))
dead_tagged t id low small q (LeadsToNamed h) =
    (λ b. absurd (let l : id < 2 ^ 29 = low q h in low_bit 30 id (omega (arith, l)) b), λ clear. h)

-- an ID with the dead tag does not have the quit tag
pub dead_clear :
    (c : CacheView) (id : ℕ) → HoldsRow c id → ((q : Powerset) → Names c.store.table id q → id < 2 ^ 29)
    → c.store.table.of.stride ≤ 512 → IsBitSet id 30
    → IsBitSet id 29 → ⊥
dead_clear c id (inl e) low small b q =
    let n : id ≡ 2 * 2 ^ 29 + c.store.table.of.stride = omega (arith, e) in
    zero_one ((bit_of 29 c.store.table.of.stride 2 id (omega (arith, small)) n).0 q)
dead_clear c id (inr (inl e)) low small b q = low_bit 30 id (omega (arith, e, small)) b
dead_clear c id (inr (inr v)) low small b q = low_bit 29 id (low v.0 v.1) q

quit_bit : (s : ℕ) → s ≤ 512 → IsBitSet (quit_id s) 29
quit_bit s l =
    let n : quit_id s ≡ 1 * 2 ^ 29 + 2 * s = omega arith in
    (bit_of 29 (2 * s) 1 (quit_id s) (omega (arith, l)) n).1 refl

-- a step that did not lead to quit did not read a quit byte
pub unquit :
    (m : Machine) (t : Rows) (id' byte : ℕ)
    → t.of ≡ m → t.of.stride ≤ 512 → (IsBitSet id' 29 → ⊥)
    → (is_quit m.quits byte ≡ true → id' ≡ quit_id m.stride) → is_quit m.quits byte ≡ false
unquit m t id' byte of small clear quit = go (is_quit m.quits byte) refl where
  go : (b : Bool) → is_quit m.quits byte ≡ b → is_quit m.quits byte ≡ false
  go false e = e
  go true e =
      let s : t.of.stride ≡ m.stride = ap (λ (n : Machine). n.stride) of in
      absurd (clear (subst (λ v. IsBitSet v 29) (sym (quit e)) (quit_bit m.stride (omega (arith, s, small)))))

-- a step that led to quit read a quit byte
pub quits :
    (m : Machine) (t t' : Rows) (id id' byte : ℕ) (q : Powerset)
    → t'.of.stride ≤ 512 → ((p : Powerset) → Names t' id' p → id' < 2 ^ 29) → IsBitSet id' 29
    → (is_quit m.quits byte ≡ false → (p : Powerset) → Names t id p
    → Leads t' id' (successor m.nfa (match_kind_of m.config) p (Some byte)))
    → Names t id q → is_quit m.quits byte ≡ true
quits m t t' id id' byte q small low bit named h = go (is_quit m.quits byte) refl where
  go : (b : Bool) → is_quit m.quits byte ≡ b → is_quit m.quits byte ≡ true
  go true e = e
  go false e =
      absurd (Leads-quit t' id' (successor m.nfa (match_kind_of m.config) q (Some byte)) (named e q h)
      (low (successor m.nfa (match_kind_of m.config) q (Some byte))) small bit)

-- if there is only one pattern, it is the first one that a list reports
pub only_pattern : (ps : List ℕ) → 0 < length ps → ((p : ℕ) → In p ps → p < 1) → 0 ≡ get_or ps 0 0
only_pattern [] some own = absurd (omega (arith, some))
only_pattern (p ∷ ps) some own = let low : p < 1 = own p (inl refl) in omega (arith, low)
