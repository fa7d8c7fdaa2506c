-- Needles, literals one of which every match has at its start or near it: where none occurs, no match begins.
use Rattle.std.specs.Prelude.{ℕ, suc, ◌<◌, ◌≤◌, ◌+◌, ◌++◌, ◌⊎◌, Bool, List, All, length, take}
use Rattle.std.specs.Prelude.{Option, None, Some}
use Rattle.regex_hir.specs.Matches.{Matches}
use Rattle.regex_hir.specs.Re.{Re}
use Rattle.regex_nfa.specs.declared.nfa.Nfa as kit_nfa
use Rattle.regex_extract.specs.Bounds.{IsMaxLen}
use Rattle.regex_extract.specs.Needles.{ContainsNeedle, StandsWithin, StartsWithNeedle}
use Rattle.regex_literal.specs.Find.{AllAtMost, AnyOccursAt, Nowhere, needle_at}
use Rattle.automata_base.specs.Haystacks.Tapes.{IsHaystack}
use Rattle.automata_base.specs.Nfas.Engines.{Engine}
use Rattle.meaning.specs.Agreeing.{Each, HasSameLooks, ImplementAll}
use Rattle.meaning.specs.Patterns.{any_of}
use Rattle.meaning.specs.Translated.{joined_engine}
use Rattle.prefilters.specs.Heads.{FitsHead, IsHeadOf}
use Rattle.prefilters.specs.Skipping.{NoneBegins, NoneBeginsAt}
use Rattle.prefilters.specs.declared.heads.Head.{Head}
use Rattle.prefilters.specs.declared.heads.Head.TheVariants.{Within}

-- no needle occurs from offset `s` to before offset `p` of the haystack
abbrev pub NoneOccurs : List ℕ → (needles : List (List ℕ)) → (s p : ℕ) → Type 0
NoneOccurs hay needles s p = Nowhere (AnyOccursAt hay needles) s p

-- an offset from `s` to `e` before which no needle occurs; or None if none occurs up to `e`
abbrev pub StopsBeforeNeedle : List ℕ → (needles : List (List ℕ)) → (s e : ℕ) → Option ℕ → Type 0
StopsBeforeNeedle hay needles s e None = NoneOccurs hay needles s (suc e)
StopsBeforeNeedle hay needles s e (Some p) = (s ≤ p) × (p ≤ e) × NoneOccurs hay needles s p

-- needles, and what comes before the first of them in a match
pub record NearNeedles : Type 0 where
  -- the needles
  pub needles : List (List ℕ)
  -- the head of a match
  pub head : Head

-- from no offset from `s` to before offset `p` of the haystack such a head leads to a needle
abbrev pub NoneIsNear : List ℕ → NearNeedles → (s p : ℕ) → Type 0
NoneIsNear hay near s p =
    (o k : ℕ) → s ≤ o → o < p → o ≤ k → FitsHead near.head hay o k → AnyOccursAt hay near.needles k → ⊥

-- the first offset from `s` to `e` where a needle may be near, as none is near before it; or None
abbrev pub SkipsTo : List ℕ → NearNeedles → (s e : ℕ) → Option ℕ → Type 0
SkipsTo hay near s e None = NoneIsNear hay near s (suc e)
SkipsTo hay near s e (Some p) = (s ≤ p) × (p ≤ e) × NoneIsNear hay near s p

-- every match has a needle after such a head
abbrev pub HasNeedleNear : Re → NearNeedles → Type 0
HasNeedleNear re near =
    (hay : List ℕ) → All (λ b. b < 256) hay → (i j : ℕ) → Matches hay re i j
    → (n k : ℕ) × StandsWithin hay near.needles n k i j × FitsHead near.head hay i k

-- every match begins with a match of `before`, after which a needle occurs in it
abbrev pub HasNeedleAfter : Re → (before : Re) → (needles : List (List ℕ)) → Type 0
HasNeedleAfter re before needles =
    (hay : List ℕ) → All (λ b. b < 256) hay → (i j : ℕ) → Matches hay re i j
    → (n k : ℕ) × StandsWithin hay needles n k i j × Matches hay before i k

-- every match of each of these patterns begins with one of these needles
abbrev pub AllStartWith : List Re → (needles : List (List ℕ)) → Type 0
AllStartWith res needles = All (λ re. StartsWithNeedle re needles) res

-- every match of each of these patterns has a needle near its start
abbrev pub AllHaveNeedleNear : List Re → NearNeedles → Type 0
AllHaveNeedleNear res near = All (λ re. HasNeedleNear re near) res

-- the reach and each needle have `most` bytes together: in a match of at most that length a needle is near its start
abbrev pub ReachesAll : (needles : List (List ℕ)) → (reach most : ℕ) → Type 0
ReachesAll needles reach most =
    (n : ℕ) → n < length needles → most ≤ reach + length (needle_at needles n)

-- If every match contains one of these needles and has at most `most` bytes, one is near its start.
abbrev pub AreNearInShort : (needles : List (List ℕ)) → (most : ℕ) → NearNeedles → Type 0
AreNearInShort needles most near = (re : Re) → ContainsNeedle re needles → IsMaxLen re most → HasNeedleNear re near

-- where no needle is near, no match begins, wherever the span ends
abbrev pub BeginsNearNeedle : Engine → NearNeedles → Type 0
BeginsNearNeedle d near =
    (hay : List ℕ) (e s p : ℕ) → IsHaystack hay → e ≤ length hay → p ≤ suc e → NoneIsNear hay near s p
    → NoneBegins d hay e s p

-- If every match of each pattern has a needle near its start, so does every match of their alternation.
abbrev pub NeedlesJoin : Type 0
NeedlesJoin =
    (res : List Re) (near : NearNeedles) → AllHaveNeedleNear res near → HasNeedleNear (any_of res) near

-- A needle with which a match begins is near its start, whatever the head.
abbrev pub StartsAreNear : Type 0
StartsAreNear =
    (re : Re) (needles : List (List ℕ)) (head : Head) → StartsWithNeedle re needles
    → HasNeedleNear re (record { needles = needles; head = head })

-- If no match has more than `most` bytes, a needle that each match contains is as near to its start as the length of
-- the needle allows.
abbrev pub InnerAreNear : Type 0
InnerAreNear =
    (needles : List (List ℕ)) (reach most : ℕ) → ReachesAll needles reach most
    → AreNearInShort needles most (record { needles = needles; head = Within reach })

-- A needle after a match of a pattern is near, if every match of that pattern is such a head.
abbrev pub HeadsLead : Type 0
HeadsLead =
    (re before : Re) (needles : List (List ℕ)) (head : Head) → HasNeedleAfter re before needles
    → IsHeadOf before head → HasNeedleNear re (record { needles = needles; head = head })

-- More needles may be added.
abbrev pub NeedlesGrow : Type 0
NeedlesGrow =
    (res more : List Re) (needles others : List (List ℕ)) → AllStartWith res needles → AllStartWith more others
    → AllStartWith (res ++ more) (needles ++ others)

-- If every match has a needle near its start, none begins where no needle is near, in whatever way it matches.
abbrev pub NeedlesMeanNone : Type 0
NeedlesMeanNone =
    (re : Re) (near : NearNeedles) (hay : List ℕ) (s p : ℕ) → HasNeedleNear re near → IsHaystack hay
    → NoneIsNear hay near s p → (o j : ℕ) → s ≤ o → o < p → Matches hay re o j → ⊥

-- Where no match of the alternation begins, no match of the joined NFA begins, wherever the span ends.
abbrev pub MeaningBeginsNone : Type 0
MeaningBeginsNone =
    (ks : List kit_nfa.Nfa) (res : List Re) (utf8 : Bool) (hay : List ℕ) (e o : ℕ) → ImplementAll ks res
    → Each (HasSameLooks hay) ks → o ≤ e → e ≤ length hay → ((j : ℕ) → Matches hay (any_of res) o j → ⊥)
    → NoneBeginsAt (joined_engine utf8 ks) hay e o

-- A search for needles may be given only the beginning of the haystack, if that goes as far past the offsets as the
-- longest needle is long, or is the whole haystack: the same needles occur at these offsets.
abbrev pub BeginningsHaveNeedles : Type 0
BeginningsHaveNeedles =
    (needles : List (List ℕ)) (hay : List ℕ) (longest cut s p : ℕ) → AllAtMost needles longest
    → (p + longest ≤ suc cut) ⊎ (length hay ≤ cut) → NoneOccurs (take cut hay) needles s p
    → NoneOccurs hay needles s p
