-- The ranges of a state that leads on each byte to the head of its leaf.
use Rattle.std.proofs.Common.{ℕ, ◌≡◌, ◌<◌, ◌≤◌, ◌+◌, true, false, cond, Bool, List, [], ◌∷◌, ◌++◌, ◌⊎◌, Option, Some}
use Rattle.std.proofs.Common.{None, inl, inr}
use Rattle.std.proofs.Common.{refl, sym, ap, ◌∙◌, arith, length, get_or}
use Rattle.std.proofs.lemmas.Bool.Decides.{nat_tests}
use Rattle.std.proofs.lemmas.Bool.{cases_lt}
use Rattle.std.proofs.lemmas.Option.{slice_get_past, slice_get-get_or}
use Rattle.automata_base.specs.declared.nfa.thompson.state.Transition.{Transition}
use Rattle.automata_base.specs.Haystacks.Looks.{within}
use Rattle.automata_base.specs.Nfas.Nfa.{takes_in}
use Rattle.automata_base.specs.Nfas.Nodes.{ranges_of}
use Rattle.automata_transform.specs.Retraced.Segments.{head_or_none, leaf_head}

abbrev first_some : Option ℕ → Option ℕ → Option ℕ
first_some None b = b
first_some (Some x) b = Some x

takes_pushed :
    (ts : List Transition) (t : Transition) (u : ℕ)
    → takes_in (ranges_of (ts ++ t ∷ [])) u
    ≡ first_some (takes_in (ranges_of ts) u) (cond (within t.lo t.hi u) (Some t.next) None)
takes_pushed [] t u = refl
takes_pushed (s ∷ ts) t u = go (within s.lo s.hi u) (takes_pushed ts t u)
  where
    go :
        (w : Bool)
        → takes_in (ranges_of (ts ++ t ∷ [])) u
        ≡ first_some (takes_in (ranges_of ts) u) (cond (within t.lo t.hi u) (Some t.next) None)
        → cond w (Some s.next) (takes_in (ranges_of (ts ++ t ∷ [])) u)
        ≡ first_some (cond w (Some s.next) (takes_in (ranges_of ts) u)) (cond (within t.lo t.hi u) (Some t.next) None)
    go true ih = refl
    go false ih = ih

pub within_is : (lo hi u : ℕ) → lo ≤ u → u ≤ hi → within lo hi u ≡ true
within_is lo hi u a b = grind (arith, nat_tests)

within_not : (lo hi u : ℕ) → (u < lo) ⊎ (hi < u) → within lo hi u ≡ false
within_not lo hi u (inl a) = grind (arith, nat_tests)
within_not lo hi u (inr a) = grind (arith, nat_tests)

-- The ranges lead each byte below `byte` to its head, and take no other byte.
pub record AreRanges (heads : List (Option ℕ)) (ts : List Transition) (byte : ℕ) : Type 0 where
  pub before : (u : ℕ) → u < byte → takes_in (ranges_of ts) u ≡ leaf_head heads u
  pub after : (u : ℕ) → byte ≤ u → takes_in (ranges_of ts) u ≡ None
  pub few : byte ≤ 256

pub ranges_none : (heads : List (Option ℕ)) (ts : List Transition) → ts ≡ [] → AreRanges heads ts 0
ranges_none heads ts e = record {
  before = λ u l. absurd (omega (arith, l));
  after = λ u l. ap (λ (z : List Transition). takes_in (ranges_of z) u) e;
  few = omega arith;
}

-- Skips bytes that have no head.
pub ranges_skip :
    (heads : List (Option ℕ)) (ts : List Transition) (byte end : ℕ) → leaf_head heads byte ≡ None → end ≤ 256
    → byte < end
    → ((u : ℕ) → byte ≤ u → u < end → leaf_head heads u ≡ leaf_head heads byte) → AreRanges heads ts byte
    → AreRanges heads ts end
ranges_skip heads ts byte end none few l same r = record {
  before = λ u b. go u b (cases_lt u byte);
  after = λ u b. r.after u (omega (arith, b, l));
  few = few;
}
  where
    go : (u : ℕ) → u < end → (u < byte) ⊎ (byte ≤ u) → takes_in (ranges_of ts) u ≡ leaf_head heads u
    go u b (inl a) = r.before u a
    go u b (inr a) = r.after u a ∙ sym (same u a b ∙ none)

-- Adds a range for bytes that have a head.
pub ranges_push :
    (heads : List (Option ℕ)) (ts new : List Transition) (t : Transition) (byte end : ℕ) → new ≡ ts ++ t ∷ []
    → t.lo ≡ byte
    → t.hi + 1 ≡ end → leaf_head heads byte ≡ Some t.next → end ≤ 256 → byte < end
    → ((u : ℕ) → byte ≤ u → u < end → leaf_head heads u ≡ leaf_head heads byte) → AreRanges heads ts byte
    → AreRanges heads new end
ranges_push heads ts new t byte end e lo hi some few l same r = record {
  before = λ u b. at u ∙ before u b (cases_lt u byte);
  after = λ u b.
      at u
      ∙ (ap (λ o. first_some o (cond (within t.lo t.hi u) (Some t.next) None)) (r.after u (omega (arith, b, l)))
      ∙ ap (λ w. cond w (Some t.next) None) (within_not t.lo t.hi u (inr (omega (arith, b, hi)))));
  few = few;
}
  where
    at :
        (u : ℕ) → takes_in (ranges_of new) u
        ≡ first_some (takes_in (ranges_of ts) u) (cond (within t.lo t.hi u) (Some t.next) None)
    at u = ap (λ (z : List Transition). takes_in (ranges_of z) u) e ∙ takes_pushed ts t u

    before :
        (u : ℕ) → u < end → (u < byte) ⊎ (byte ≤ u)
        → first_some (takes_in (ranges_of ts) u) (cond (within t.lo t.hi u) (Some t.next) None) ≡ leaf_head heads u
    before u b (inl a) =
        ap (λ w. first_some (takes_in (ranges_of ts) u) (cond w (Some t.next) None))
        (within_not t.lo t.hi u (inl (omega (arith, a, lo))))
        ∙ (first_none (takes_in (ranges_of ts) u) ∙ r.before u a)
      where
        first_none : (o : Option ℕ) → first_some o None ≡ o
        first_none None = refl
        first_none (Some x) = refl
    before u b (inr a) =
        ap (λ o. first_some o (cond (within t.lo t.hi u) (Some t.next) None)) (r.after u a)
        ∙ (ap (λ w. cond w (Some t.next) None) (within_is t.lo t.hi u (omega (arith, a, lo)) (omega (arith, b, hi)))
        ∙ sym (same u a b ∙ some))

pub ranges_done :
    (heads : List (Option ℕ)) (ts : List Transition) (byte : ℕ) → length heads ≡ 512 → 256 ≤ byte
    → AreRanges heads ts byte → (u : ℕ)
    → takes_in (ranges_of ts) u ≡ leaf_head heads u
ranges_done heads ts byte nodes all r u = go (cases_lt u byte)
  where
    go : (u < byte) ⊎ (byte ≤ u) → takes_in (ranges_of ts) u ≡ leaf_head heads u
    go (inl a) = r.before u a
    go (inr a) = r.after u a ∙ sym (ap head_or_none (slice_get_past heads (u + 256) (omega (arith, nodes, a, all))))

-- The head of a leaf.
pub leaf_is :
    (heads : List (Option ℕ)) (byte : ℕ) (d o : Option ℕ) → length heads ≡ 512 → byte < 256
    → get_or heads (byte + 256) d ≡ o
    → leaf_head heads byte ≡ o
leaf_is heads byte d o nodes l e = ap head_or_none (slice_get-get_or heads (byte + 256) d (omega (arith, nodes, l))) ∙ e
