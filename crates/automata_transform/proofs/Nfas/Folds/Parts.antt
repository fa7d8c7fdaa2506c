-- The alternates of a union that read a range, and the others.
use Rattle.std.proofs.Common.{ℕ, zero, suc, ◌≡◌, ◌<◌, ◌≤◌, ◌+◌, ◌↔◌, List, [], ◌∷◌, ◌++◌, ◌⊎◌, Option, Some, None, inl}
use Rattle.std.proofs.Common.{inr, refl, sym, ap, ◌∙◌, subst, arith}
use Rattle.std.proofs.Common.{length, take, get_or, add-one, Bool, true, false, not}
use Rattle.std.specs.Option.{is_some}
use Rattle.std.proofs.Math.Seq.{take-suc}
use Rattle.std.proofs.lemmas.Option.{slice_get_read}
use Rattle.automata_base.specs.Retraced.ReversedEdges.{list_at, no_lists}
use Rattle.automata_base.proofs.Nfas.Mirrors.Lists.{none_at}
use Rattle.std.specs.Prelude.{slice_get}
use Rattle.automata_base.specs.declared.nfa.thompson.state.State.{State}
use Rattle.automata_base.specs.declared.nfa.thompson.state.Transition.{Transition}
use Rattle.automata_base.specs.Lists.{In}
use Rattle.automata_transform.specs.Retraced.Folds.{range_read, ReadsRange, SomeReads, StaysOrReads}
use Rattle.automata_transform.specs.Retraced.Folds.{KeepsAlternate, ReadsARange}
use Rattle.automata_transform.specs.Retraced.Segments.{above, IsOnWay}
use Rattle.automata_base.proofs.Paths.FirstVisits.{in_right}
use Rattle.automata_base.proofs.Paths.Orders.{none_some, some_inj}
use Rattle.automata_base.proofs.Paths.Walks.{in_either, in_left}

-- The tree holds the ranges that these states read.
pub record AreRead (states : List State) (ids : List ℕ) (lists : List (List ℕ)) (nodes : ℕ) : Type 0 where
  pub reads : (u t : ℕ) → u < 256 → IsOnWay lists (u + 256) t ↔ SomeReads states ids u t
  pub low : (u t : ℕ) → SomeReads states ids u t → u < 256
  pub few : nodes ≡ 512

-- The others are the states that read no range.
pub record AreOthers (states : List State) (ids others : List ℕ) : Type 0 where
  pub sound : (x : ℕ) → In x others → In x ids × ((range : Transition) → ReadsRange states x range → ⊥)
  pub all : (x : ℕ) → In x ids → StaysOrReads states others x

pub take_next : (xs : List ℕ) (i x : ℕ) → i < length xs → x ≡ get_or xs i x → take (i + 1) xs ≡ take i xs ++ x ∷ []
take_next xs i x l e = rw add-one (take-suc xs i x l ∙ ap (λ v. take i xs ++ v ∷ []) (sym e))

pub state_at :
    (states : List State) (x y : ℕ) (s : State) → y < length states → s ≡ get_or states y s → y ≡ x
    → slice_get states x ≡ Some s
state_at states x y s l e i = ap (λ v. slice_get states v) (sym i) ∙ slice_get_read states (length states) y s refl l e

reads_one :
    (states : List State) (x : ℕ) (s : State) (o : Option Transition) (range : Transition) → slice_get states x ≡ Some s
    → o ≡ range_read s → ReadsRange states x range → o ≡ Some range
reads_one states x s o range at e r =
    e ∙ (ap (λ v. range_read v) (some_inj (sym at ∙ r.1)) ∙ r.2)

-- One more state, which reads a range.
pub read_more :
    (states : List State) (ids after : List ℕ) (lists new : List (List ℕ)) (x nodes : ℕ) (s : State)
    (range : Transition)
    → after ≡ ids ++ x ∷ [] → slice_get states x ≡ Some s → Some range ≡ range_read s → nodes ≡ 512
    → ((u t : ℕ) → u < 256
    → IsOnWay new (u + 256) t ↔ (IsOnWay lists (u + 256) t ⊎ ((t ≡ range.next) × (range.lo ≤ u) × (u ≤ range.hi))))
    → range.hi < 256 → (old : ℕ) → AreRead states ids lists old → AreRead states after new nodes
read_more states ids after lists new x nodes s range e at is few put low old r =
    subst (λ (z : List ℕ). AreRead states z new nodes) (sym e) record {
      reads =
          λ u t l. ((λ w. forth u t ((put u t l).0 w) (λ v. (r.reads u t l).0 v)), λ w. (put u t l).1 (back u t l w));
      low = λ u t w. lower u t w;
      few = few;
    }
  where
    forth :
        (u t : ℕ)
        → IsOnWay lists (u + 256) t ⊎ ((t ≡ range.next) × (range.lo ≤ u) × (u ≤ range.hi))
        → (IsOnWay lists (u + 256) t → SomeReads states ids u t) → SomeReads states (ids ++ x ∷ []) u t
    forth u t (inl w) f =
        let k = f w in
        record {
          state = k.state;
          range = k.range;
          among = in_left k.state ids (x ∷ []) k.among;
          reads = k.reads;
          leads = k.leads;
          begins = k.begins;
          ends = k.ends;
        }
    forth u t (inr w) f = record {
      state = x;
      range = range;
      among = in_right x ids (x ∷ []) (inl refl);
      reads = (s, at, sym is);
      leads = sym w.0;
      begins = w.1;
      ends = w.2;
    }

    less : (u t : ℕ) (k : SomeReads states (ids ++ x ∷ []) u t) → In k.state ids → SomeReads states ids u t
    less u t k i = record {
      state = k.state;
      range = k.range;
      among = i;
      reads = k.reads;
      leads = k.leads;
      begins = k.begins;
      ends = k.ends;
    }

    same : (y : ℕ) (other : Transition) → y ≡ x → ReadsRange states y other → other ≡ range
    same y other i k =
        some_inj (sym (reads_one states x s (Some range) other at is (subst (λ v. ReadsRange states v other) i k)))

    back :
        (u t : ℕ) → u < 256 → SomeReads states (ids ++ x ∷ []) u t
        → IsOnWay lists (u + 256) t ⊎ ((t ≡ range.next) × (range.lo ≤ u) × (u ≤ range.hi))
    back u t l k = go (in_either k.state ids (x ∷ []) k.among)
      where
        go :
            In k.state ids ⊎ In k.state (x ∷ [])
            → IsOnWay lists (u + 256) t ⊎ ((t ≡ range.next) × (range.lo ≤ u) × (u ≤ range.hi))
        go (inl i) = inl ((r.reads u t l).1 (less u t k i))
        go (inr (inl i)) =
            let g = same k.state k.range i k.reads in
            inr (
              sym k.leads ∙ ap (λ (v : Transition). v.next) g,
              subst (λ (v : Transition). v.lo ≤ u) g k.begins,
              subst (λ (v : Transition). u ≤ v.hi) g k.ends,
            )
        go (inr (inr i)) = absurd i

    lower : (u t : ℕ) → SomeReads states (ids ++ x ∷ []) u t → u < 256
    lower u t k = go (in_either k.state ids (x ∷ []) k.among)
      where
        go : In k.state ids ⊎ In k.state (x ∷ []) → u < 256
        go (inl i) = r.low u t (less u t k i)
        go (inr (inl i)) =
            let h = subst (λ (v : Transition). u ≤ v.hi) (same k.state k.range i k.reads) k.ends in
            omega (arith, h, low)
        go (inr (inr i)) = absurd i

-- One more state, which reads no range.
pub read_none :
    (states : List State) (ids after : List ℕ) (lists : List (List ℕ)) (x nodes : ℕ) → after ≡ ids ++ x ∷ []
    → ((range : Transition) → ReadsRange states x range → ⊥) → AreRead states ids lists nodes
    → AreRead states after lists nodes
read_none states ids after lists x nodes e none r =
    subst (λ (z : List ℕ). AreRead states z lists nodes) (sym e) record {
      reads = λ u t l. ((λ w. forth u t ((r.reads u t l).0 w)), λ w. (r.reads u t l).1 (back u t w));
      low = λ u t w. r.low u t (back u t w);
      few = r.few;
    }
  where
    forth : (u t : ℕ) → SomeReads states ids u t → SomeReads states (ids ++ x ∷ []) u t
    forth u t k = record {
      state = k.state;
      range = k.range;
      among = in_left k.state ids (x ∷ []) k.among;
      reads = k.reads;
      leads = k.leads;
      begins = k.begins;
      ends = k.ends;
    }

    back : (u t : ℕ) → SomeReads states (ids ++ x ∷ []) u t → SomeReads states ids u t
    back u t k = go (in_either k.state ids (x ∷ []) k.among)
      where
        go : In k.state ids ⊎ In k.state (x ∷ []) → SomeReads states ids u t
        go (inl i) = record {
          state = k.state;
          range = k.range;
          among = i;
          reads = k.reads;
          leads = k.leads;
          begins = k.begins;
          ends = k.ends;
        }
        go (inr (inl i)) = absurd (none k.range (subst (λ v. ReadsRange states v k.range) i k.reads))
        go (inr (inr i)) = absurd i

pub reads_none :
    (states : List State) (x : ℕ) (s : State) (o : Option Transition) → slice_get states x ≡ Some s → o ≡ range_read s
    → o ≡ None
    → (range : Transition) → ReadsRange states x range → ⊥
reads_none states x s o at e n range r = let k = sym n ∙ reads_one states x s o range at e r in none_some k

pub read_begin :
    (states : List State) (lists : List (List ℕ)) (nodes : ℕ) → lists ≡ no_lists 512 → nodes ≡ 512
    → AreRead states [] lists nodes
read_begin states lists nodes e few = record {
  reads = λ u t l. ((λ w. absurd (empty u t w)), λ w. absurd w.among);
  low = λ u t w. absurd w.among;
  few = few;
}
  where
    empty : (u t : ℕ) → IsOnWay lists (u + 256) t → ⊥
    empty u t w =
        subst (λ v. In t v)
        (ap (λ (z : List (List ℕ)). list_at z (above w.0 (u + 256))) e ∙ none_at 512 (above w.0 (u + 256))) w.1

-- One more state among the others.
pub other_more :
    (states : List State) (ids after others new : List ℕ) (x : ℕ) → after ≡ ids ++ x ∷ [] → new ≡ others ++ x ∷ []
    → ((range : Transition) → ReadsRange states x range → ⊥) → AreOthers states ids others → AreOthers states after new
other_more states ids after others new x e f none r =
    subst (λ (z : List ℕ). AreOthers states z new) (sym e)
    (subst (λ (z : List ℕ). AreOthers states (ids ++ x ∷ []) z) (sym f) record {
      sound = λ y i. sound y (in_either y others (x ∷ []) i);
      all = λ y i. all y (in_either y ids (x ∷ []) i);
    })
  where
    sound :
        (y : ℕ) → In y others ⊎ In y (x ∷ []) → In y (ids ++ x ∷ [])
        × ((range : Transition) → ReadsRange states y range → ⊥)
    sound y (inl i) = let k = r.sound y i in (in_left y ids (x ∷ []) k.0, k.1)
    sound y (inr (inl i)) =
        (in_right y ids (x ∷ []) (inl i), λ range k. none range (subst (λ v. ReadsRange states v range) i k))
    sound y (inr (inr i)) = absurd i

    all : (y : ℕ) → In y ids ⊎ In y (x ∷ []) → StaysOrReads states (others ++ x ∷ []) y
    all y (inl i) = go (r.all y i)
      where
        go : StaysOrReads states others y → StaysOrReads states (others ++ x ∷ []) y
        go (KeepsAlternate k) = KeepsAlternate (in_left y others (x ∷ []) k)
        go (ReadsARange range k) = ReadsARange range k
    all y (inr (inl i)) = KeepsAlternate (in_right y others (x ∷ []) (inl i))
    all y (inr (inr i)) = absurd i

pub other_less :
    (states : List State) (ids after others : List ℕ) (x : ℕ) (s : State) (range : Transition) → after ≡ ids ++ x ∷ []
    → slice_get states x ≡ Some s → range_read s ≡ Some range → AreOthers states ids others
    → AreOthers states after others
other_less states ids after others x s range e at is r =
    subst (λ (z : List ℕ). AreOthers states z others) (sym e) record {
      sound = λ y i. let k = r.sound y i in (in_left y ids (x ∷ []) k.0, k.1);
      all = λ y i. all y (in_either y ids (x ∷ []) i);
    }
  where
    all : (y : ℕ) → In y ids ⊎ In y (x ∷ []) → StaysOrReads states others y
    all y (inl i) = r.all y i
    all y (inr (inl i)) = ReadsARange range (subst (λ v. ReadsRange states v range) (sym i) (s, at, is))
    all y (inr (inr i)) = absurd i

pub other_begin : (states : List State) (others : List ℕ) → others ≡ [] → AreOthers states [] others
other_begin states others e = record {
  sound = λ x i. absurd (subst (λ v. In x v) e i);
  all = λ x i. absurd i;
}

pub is_none : {A : Type 0} (o : Option A) (b : Bool) → is_some o ≡ not b → b ≡ true → o ≡ None
is_none None b e t = refl
is_none (Some x) b e t = let k : true ≡ false = e ∙ ap not t in absurd cc

pub is_given : {A : Type 0} (o : Option A) (b : Bool) → is_some o ≡ not b → b ≡ false → (x : A) × (o ≡ Some x)
is_given None b e t = let k : false ≡ true = e ∙ ap not t in absurd cc
is_given (Some x) b e t = (x, refl)

pub taken_all : (xs : List ℕ) (i : ℕ) → length xs ≤ i → take i xs ≡ xs
taken_all [] zero l = refl
taken_all [] (suc i) l = refl
taken_all (x ∷ xs) zero l = absurd (omega (arith, l))
taken_all (x ∷ xs) (suc i) l = ap (λ (z : List ℕ). x ∷ z) (taken_all xs i (omega (arith, l)))

pub is_some_given : {A : Type 0} (o : Option A) → is_some o ≡ true → (x : A) × (o ≡ Some x)
is_some_given None e = absurd cc
is_some_given (Some x) e = (x, refl)
