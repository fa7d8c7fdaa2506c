-- A match begins with a byte that a state reads which epsilon edges reach from the anchored start.
use Rattle.std.proofs.Common.{ℕ, ◌≡◌, ◌<◌, ◌+◌, ◌-◌, ◌⊎◌, Bool, true, List, [], ◌∷◌, ◌++◌, Some, drop, get_or, is_some}
use Rattle.std.proofs.Common.{inl, inr, length, refl, sym, ap, ◌∙◌, subst, arith, take, true≢false}
use Rattle.std.specs.Prelude.{slice_get}
use Rattle.std.proofs.lemmas.List.{length-take, take_more}
use Rattle.std.proofs.lemmas.Option.{get_or_from_slice_get, slice_get_within}
use Rattle.automata_base.specs.Haystacks.LookSets.{truth_of}
use Rattle.automata_base.specs.declared.util.look.Look.{Look}
use Rattle.automata_base.specs.Haystacks.Tapes.{IsHaystack, between, forward_tape}
use Rattle.automata_base.specs.Lists.{In}
use Rattle.automata_base.specs.Nfas.Engines.{Engine, engine_of}
use Rattle.automata_base.specs.Nfas.Nfa.{Nfa, Truth, accepts}
use Rattle.automata_base.specs.Nfas.Nodes.{Automaton, nfa_of, node_of}
use Rattle.automata_base.specs.Paths.Paths.{IsClosure, IsPathAt, IsPathFrom, Moves, ReadsByte, StaysHere, Tape, truth}
use Rattle.automata_base.specs.Retraced.Reach.{node_in}
use Rattle.automata_base.specs.declared.nfa.thompson.state.State.{State}
use Rattle.automata_base.specs.declared.util.look.Look.TheVariants as l
use Rattle.automata_base.specs.declared.util.search.MatchKind.{MatchKind}
use Rattle.automata_base.proofs.Answers.Bytes.{nth_between}
use Rattle.automata_base.proofs.Paths.Included.{Includes}
use Rattle.automata_base.proofs.Paths.Walks.{hop_more, in_either}
use Rattle.automata_base.proofs.Powersets.Walking.{node_at}
use Rattle.prefilters.specs.Bytes.{in_table}
use Rattle.prefilters.specs.FirstBytes.{BeginsAtFirstByte, FindsFirstByte, ReadsFirstBytes}
use Rattle.prefilters.specs.Skipping.{NoneBegins}

-- every look is followed
pub all_looks : (look : Look) → truth_of 262143 look ≡ true
all_looks l.Start = refl
all_looks l.End = refl
all_looks l.StartLF = refl
all_looks l.EndLF = refl
all_looks l.StartCRLF = refl
all_looks l.EndCRLF = refl
all_looks l.WordAscii = refl
all_looks l.WordAsciiNegate = refl
all_looks l.WordUnicode = refl
all_looks l.WordUnicodeNegate = refl
all_looks l.WordStartAscii = refl
all_looks l.WordEndAscii = refl
all_looks l.WordStartUnicode = refl
all_looks l.WordEndUnicode = refl
all_looks l.WordStartHalfAscii = refl
all_looks l.WordEndHalfAscii = refl
all_looks l.WordStartHalfUnicode = refl
all_looks l.WordEndHalfUnicode = refl

-- the bytes of one more state are added
pub add_next :
    (states : List State) (ids : List ℕ) (old new : List Bool) (i id at : ℕ) (s : State)
    → i < length ids → id ≡ get_or ids i id → at ≡ id → at < length states → s ≡ get_or states at s
    → ((byte : ℕ) → in_table old byte ≡ true → in_table new byte ≡ true) → ReadsFirstBytes new (node_of s)
    → ((q : ℕ) → In q (take i ids) → ReadsFirstBytes old (node_in states q))
    → (q : ℕ) → In q (take (i + 1) ids) → ReadsFirstBytes new (node_in states q)
add_next states ids old new i id at s l e a m t kept own before q j =
    go (in_either q (take i ids) (id ∷ [])
    (subst (λ z. In q z) (take_more ids i id l ∙ ap (λ z. take i ids ++ z ∷ []) (sym e)) j))
  where
    here : node_in states id ≡ node_of s
    here = ap (node_in states) (sym a) ∙ node_at states at s s m t

    go : In q (take i ids) ⊎ In q (id ∷ []) → ReadsFirstBytes new (node_in states q)
    go (inl p) =
        let b = before q p in
        record { unmatched = b.unmatched; reads = λ byte k r. kept byte (b.reads byte k r) }
    go (inr (inl f)) = subst (λ z. ReadsFirstBytes new z) (sym (ap (node_in states) f ∙ here)) own
    go (inr (inr p)) = absurd p

-- where a path leaves its first place: at its end, or where it reads a byte
abbrev Leaves : Nfa → Tape → ℕ → (r z : ℕ) → Type 0
Leaves n t i r z = (r ≡ z) ⊎ ((next : ℕ) × Moves n t i r next)

leaves :
    (n : Nfa) (t : Tape) (A : Truth) (i : ℕ) (seen : List ℕ) (q : ℕ) (path : List ℕ) (j z : ℕ)
    → Includes (truth n t i) A → IsPathFrom n t i seen q path j z
    → (r : ℕ) × (walk : List ℕ) × IsPathAt n A seen q walk r × Leaves n t i r z
leaves n t A i seen q [] j z more p = (q, [], refl, inl p.1)
leaves n t A i seen q (e ∷ path) j z more (StaysHere r h new rest) =
    let v = leaves n t A i (q ∷ seen) r path j z more rest in
    (v.0, e ∷ v.1, (r, hop_more n (truth n t i) A q e r more h, new, v.2), v.3)
leaves n t A i seen q (e ∷ path) j z more (ReadsByte r edge m rest) = (q, [], refl, inr (r, m))

-- every look is in the set
abbrev AreAll : ℕ → Type 0
AreAll looks = (look : Look) → truth_of looks look ≡ true

-- a table that has the bytes which the states of the closure read
pub begins :
    (a : Automaton) (looks : ℕ) (slice items : List ℕ) (table : List Bool)
    → AreAll looks → slice ≡ items → IsClosure (nfa_of a) (truth_of looks) (a.start_anchored ∷ []) items
    → ((q : ℕ) → In q slice → ReadsFirstBytes table (node_in a.states q))
    → (kind : MatchKind) → BeginsAtFirstByte (engine_of a kind) table
begins a looks slice items table all same closure lists kind h e o bytes none i pattern path (z, p, match) =
    go v.3
  where
    n : Nfa
    n = nfa_of a

    v :
        (r : ℕ) × (walk : List ℕ) × IsPathAt n (truth_of looks) [] a.start_anchored walk r
        × Leaves n (forward_tape h o e) 0 r z
    v = leaves n (forward_tape h o e) (truth_of looks) 0 [] a.start_anchored path i z (λ look h. all look) p

    own : ReadsFirstBytes table (node_in a.states v.0)
    own =
        lists v.0 (subst (λ w. In v.0 w) (sym same)
        (closure.0 v.0 (0 ∷ v.1) (a.start_anchored, refl, v.2)))

    go : Leaves n (forward_tape h o e) 0 v.0 z → ⊥
    go (inl s) = own.unmatched (pattern, subst (λ w. accepts n w ≡ Some pattern) (sym s) match)
    go (inr (next, (u, at, reads))) = none (before, subst (λ w. in_table table w ≡ true) (sym byte) is_first)
      where
        before : o < e
        before =
            let l = slice_get_within (between h o e) 0 u at in
            let k = length-take (e - o) (drop o h) in
            omega (arith, l, k)

        there : slice_get h o ≡ Some u
        there =
            ap (λ w. slice_get h w) zero_is ∙ (sym (nth_between h o e 0 (let b = before in omega (arith, b))) ∙ at)
          where
            zero_is : o ≡ o + 0
            zero_is = omega arith

        byte : get_or h o 0 ≡ u
        byte = get_or_from_slice_get h o u 0 there

        is_first : in_table table u ≡ true
        is_first = own.reads u (bytes o u there) (ap is_some reads)

-- no match begins before the least offset that has a first byte
pub byte_skips :
    (d : Engine) (table : List Bool) (h : List ℕ) (s e p : ℕ) → IsHaystack h → BeginsAtFirstByte d table
    → FindsFirstByte table h s e (Some p) → NoneBegins d h e s p
byte_skips d table h s e p bytes begins (from, upto, here, none) o l k =
    begins h e o bytes (λ has. true≢false (sym has.1 ∙ none o l k))
