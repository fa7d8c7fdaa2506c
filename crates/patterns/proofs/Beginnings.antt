-- Patterns whose matches begin with needles: no match begins where no needle occurs.
use Rattle.std.proofs.Common.{ℕ, ◌≡◌, ◌+◌, ◌<◌, ◌≤◌, List, [], ◌∷◌, ◌++◌, All, Bor, None, false, true, true≢false}
use Rattle.std.proofs.Common.{Option, Some, IfSome, refl, sym, ap, ◌∙◌, subst, arith, length, map}
use Rattle.std.proofs.Common.{take, get_or, add-one, le_refl, length-append}
use Rattle.std.specs.List.{Contains}
use Rattle.std.specs.Prelude.{Err, IfOk, Ok, Result, Vec}
use Rattle.std.specs.declared.alloc.Global.{Global}
use Rattle.std.proofs.lemmas.List.{get_or-map, get_or_default, length-map, map-append}
use Rattle.std.proofs.lemmas.Option.{none-some, same_Some}
use Rattle.std.proofs.lemmas.List.Elements.{All-cons}
use Rattle.std.proofs.Math.Seq.{take-suc}
use Rattle.regex_hir.specs.Meaning.{meaning}
use Rattle.regex_hir.specs.Re.{Re}
use Rattle.regex_hir.specs.declared.hir.Hir as kit_hir
use Rattle.regex_extract.specs.Needles.{StartsWithNeedle, needles_of}
use Rattle.regex_literal.specs.Find.{OccursAt, needle_at}
use Rattle.regex_syntax.specs.Captures.{SameCaptures}
use Rattle.regex_syntax.specs.Grammar.{Names}
use Rattle.regex_syntax.specs.Verdict.{Reads}
use Rattle.regex_syntax.specs.declared.Config.{Config}
use Rattle.automata_base.specs.Answers.Answers.{IsAnswer}
use Rattle.automata_base.specs.Haystacks.Input.{Input}
use Rattle.automata_base.specs.Nfas.Engines.{BeginsAnchored, BeginsLazily, Engine, IsSkipping, LazyLoop, SharedStart}
use Rattle.automata_base.specs.Nfas.Engines.{engine_of}
use Rattle.automata_base.specs.declared.util.search.Anchored.TheVariants.{Yes}
use Rattle.automata_base.specs.declared.util.search.Direction.TheVariants.{Forward}
use Rattle.automata_base.specs.declared.util.search.MatchKind.TheVariants.{LeftmostFirst}
use Rattle.regex_automata.specs.Regexes.SoundPairs.{forward_engine}
use Rattle.regex_automata.specs.declared.hybrid.regex.Regex.{Regex}
use Rattle.meaning.specs.Patterns.{any_of}
use Rattle.meaning.specs.Translated.{joined_engine}
use Rattle.match_facts.specs.Prefixes.{BeginsWith}
use Rattle.match_facts.proofs.Prefixes.{begins_there, starts_with_one}
use Rattle.prefilters.specs.Needles.{AllHaveNeedleNear, AllStartWith, BeginsNearNeedle, HasNeedleNear, NearNeedles}
use Rattle.prefilters.specs.Skipping.{IsLazy, NoneBeginsAt}
use Rattle.prefilters.specs.declared.heads.Head.TheVariants.{Within}
use Rattle.prefilters.proofs.Joining.{needles_grow, needles_join, starts_are_near}
use Rattle.prefilters.proofs.Meaning.{meaning_none, needles_none}
use Rattle.prefilters.proofs.Nowhere.{anchored_answers, anchored_none}
use Rattle.patterns.specs.Patterns.{AreMeanings, IsJoinedNfa, config_of}
use Rattle.patterns.specs.Searches.{AreNearFor, AreNeedlesOf, HaveNeedlesNear, KeepsNeedles, MayReplace}
use Rattle.patterns.specs.declared.compile.Options.{Options}
use Rattle.patterns.proofs.Searching.{looks_same}
use Rattle.patterns.proofs.Trees.{same_matches, trees_same}

pub lazy_of : (d : Engine) → BeginsLazily d.nfa d.anchored d.unanchored → (BeginsAnchored d → ⊥) → IsLazy d
lazy_of d (SharedStart e) f = absurd (f e)
lazy_of d (LazyLoop skip l) f = (skip, l)

-- the input of an anchored search
abbrev anchored : List ℕ → (o e : ℕ) → Input
anchored hay o e = record { haystack = hay; start = o; end = e; anchored = Yes; earliest = false }

module _ (regex : Regex) (near : NearNeedles) (plain : IsSkipping (forward_engine regex) → ⊥) (o : Options)
    (res : List Re) (made : IsJoinedNfa o res regex.forward.nfa) (unicode : o.ascii ≡ false)
    (all : AllHaveNeedleNear res near) where
  -- the engine, apart from its match kind
  abbrev first : Engine
  first = engine_of regex.forward.nfa LeftmostFirst

  not_ascii : {P : Type 0} → o.ascii ≡ true → P
  not_ascii only = absurd (true≢false (sym only ∙ unicode))

  -- the regex answers as the joined engine, where no match begins by what the patterns mean
  pub begins_near : BeginsNearNeedle (forward_engine regex) near
  begins_near hay e s p bytes within short nowhere at l k =
      anchored_none first hay e at plain upto
      (((made.answers.alike LeftmostFirst).searches.answer Forward (anchored hay at e) None bytes).0
      (subst (λ d. IsAnswer Forward d (anchored hay at e) None) (sym made.joins)
      (anchored_answers (joined_engine o.utf8 made.ks) hay e at none)))
    where
      upto : at ≤ e
      upto = omega (arith, k, short)

      none : NoneBeginsAt (joined_engine o.utf8 made.ks) hay e at
      none =
          meaning_none made.ks res o.utf8 hay e at made.nfas.0
          (looks_same o.ascii hay not_ascii made.ks made.nfas.1) upto within
          (λ j. needles_none (any_of res) near hay s p (needles_join res near all) bytes nowhere at j l k)

-- the needles of one tree of a text are those of each of its trees
starts_same :
    (a b : Re) (needles : List (List ℕ)) → SameCaptures b a → StartsWithNeedle a needles → StartsWithNeedle b needles
starts_same a b needles s starts hay bytes i j m = starts hay bytes i j (same_matches b a s hay bytes i j m)

near_same : (a b : Re) (near : NearNeedles) → SameCaptures b a → HasNeedleNear a near → HasNeedleNear b near
near_same a b near s has hay bytes i j m = has hay bytes i j (same_matches b a s hay bytes i j m)

all_one : (P : Re → Type 0) (re : Re) → P re → All P (re ∷ [])
all_one P re p = All-cons P re [] p (λ i d l. absurd (omega (arith, l)))

pub needles_of_tree :
    (options : Options) (text : List ℕ) (h : kit_hir.Hir) (names : Names) (needles : List (List ℕ))
    → Reads (config_of options) text h names → StartsWithNeedle (meaning h) needles
    → AreNeedlesOf options (text ∷ []) needles
needles_of_tree options text h names needles reads starts [] are = absurd are
needles_of_tree options text h names needles reads starts (re ∷ []) are =
    all_one (λ v. StartsWithNeedle v needles) re
    (starts_same (meaning h) re needles
    (subst (λ r. SameCaptures r (meaning h)) (sym are.0.3)
    (trees_same (config_of options) text are.0.0 h are.0.1 names are.0.2 reads)) starts)
needles_of_tree options text h names needles reads starts (re ∷ next ∷ res) are = absurd are.1

pub near_of_tree :
    (options : Options) (text : List ℕ) (h : kit_hir.Hir) (names : Names) (near : NearNeedles)
    → Reads (config_of options) text h names → HasNeedleNear (meaning h) near
    → HaveNeedlesNear options (text ∷ []) near
near_of_tree options text h names near reads has [] are = absurd are
near_of_tree options text h names near reads has (re ∷ []) are =
    all_one (λ v. HasNeedleNear v near) re
    (near_same (meaning h) re near
    (subst (λ r. SameCaptures r (meaning h)) (sym are.0.3)
    (trees_same (config_of options) text are.0.0 h are.0.1 names are.0.2 reads)) has)
near_of_tree options text h names near reads has (re ∷ next ∷ res) are = absurd are.1

-- needles with which matches begin are near their starts
pub are_near :
    (options : Options) (texts needles : List (List ℕ)) (near : NearNeedles) → AreNearFor needles near
    → AreNeedlesOf options texts needles → HaveNeedlesNear options texts near
are_near options texts needles near may are res meanings i d l = may (get_or res i d) (are res meanings i d l)

-- what is searched for, if a search for the needles is built
pub built_near :
    {E : Type 0} (needles others : List (List ℕ)) (r : Result (Option NearNeedles) E)
    → IfOk r (λ o. IfSome o (λ p. p ≡ record { needles = others; head = Within 0 })) → MayReplace needles others
    → IfOk r (λ o. IfSome o (AreNearFor needles))
built_near needles others (Err e) is may = tt
built_near needles others (Ok None) is may = tt
built_near needles others (Ok (Some p)) is may =
    subst (AreNearFor needles) (sym is) (λ re starts. starts_are_near re others (Within 0) (may re starts))

-- the common prefix of needles, as the only needle
pub common_only :
    (vs : List (Vec ℕ Global)) (bytes : List ℕ) (was now : List (Vec ℕ Global)) (needle : Vec ℕ Global)
    → ((n : ℕ) → n < length vs → BeginsWith bytes (needle_at (map (λ v. v.items) vs) n)) → needle.items ≡ bytes
    → was ≡ [] → now ≡ was ++ needle ∷ [] → MayReplace (map (λ v. v.items) vs) (map (λ v. v.items) now)
common_only vs bytes was now needle all is empty pushed re starts =
    subst (StartsWithNeedle re)
    (sym (ap (map (λ v. v.items)) (pushed ∙ ap (λ w. w ++ needle ∷ []) empty) ∙ ap (λ b. b ∷ []) is))
    (starts_with_one re (map (λ v. v.items) vs) bytes
    (λ n lt. all n (omega (arith, lt, length-map vs (λ v. v.items)))) starts)

-- a needle as an item of the vector that has it
pub needle_item :
    (vs : List (Vec ℕ Global)) (i : ℕ) (v : Vec ℕ Global) → i < length vs → v ≡ get_or vs i v
    → needle_at (map (λ w. w.items) vs) i ≡ v.items
needle_item vs i v l e = get_or-map (λ w. w.items) vs i v [] l ∙ ap (λ w. w.items) (sym e)

-- the list has a prefix of the needle
abbrev pub HasPrefix : (needles : List (List ℕ)) → (needle : List ℕ) → Type 0
HasPrefix needles needle = (bytes : List ℕ) × Contains needles bytes × BeginsWith bytes needle

pub keeps_prefix :
    (old new : List (List ℕ)) (needle : List ℕ) → KeepsNeedles old new → HasPrefix old needle → HasPrefix new needle
keeps_prefix old new needle keeps (bytes, has, begins) = (bytes, keeps bytes has, begins)

-- prefixes of the needles may replace them
pub prefixes_replace :
    (needles others : List (List ℕ))
    → ((n : ℕ) → n < length needles → HasPrefix others (needle_at needles n)) → MayReplace needles others
prefixes_replace needles others has re starts hay ok i j s =
    let found = starts hay ok i j s in
    let prefix = has found.0 found.1.numbered in
    let bytes = prefix.0 in
    let begins = prefix.2 in
    let same : needle_at others prefix.1.0 ≡ bytes =
    get_or_default others prefix.1.0 [] bytes prefix.1.1 ∙ prefix.1.2 in (
      prefix.1.0,
      record {
        numbered = prefix.1.1;
        occurs = subst (λ v. OccursAt hay v i) (sym same)
            (begins_there hay bytes (needle_at needles found.0) i begins found.1.occurs);
        low = le_refl i;
        high = let h = found.1.high in
            omega (arith, h, ap length begins.1, length-append bytes begins.0, ap length same);
      },
    )

-- needles of more texts
split_meanings :
    (config : Config) (texts more : List (List ℕ)) (res : List Re) → AreMeanings config (texts ++ more) res
    → (first second : List Re) × (res ≡ first ++ second) × AreMeanings config texts first
    × AreMeanings config more second
split_meanings config [] more res are = ([], res, refl, tt, are)
split_meanings config (text ∷ texts) more [] are = absurd are
split_meanings config (text ∷ texts) more (re ∷ res) are =
    let rest = split_meanings config texts more res are.1 in
    (re ∷ rest.0, rest.1, ap (λ v. re ∷ v) rest.2, (are.0, rest.3), rest.4)

needles_push :
    (options : Options) (texts more needles others : List (List ℕ)) → AreNeedlesOf options texts needles
    → AreNeedlesOf options more others → AreNeedlesOf options (texts ++ more) (needles ++ others)
needles_push options texts more needles others first second res are =
    let parts = split_meanings (config_of options) texts more res are in
    subst (λ v. AllStartWith v (needles ++ others)) (sym parts.2)
    (needles_grow parts.0 parts.1 needles others (first parts.0 parts.3) (second parts.1 parts.4))

pub no_needles : (options : Options) → AreNeedlesOf options [] []
no_needles options [] are = λ i d l. absurd (omega (arith, l))
no_needles options (re ∷ res) are = absurd are

pub needles_next :
    (options : Options) (texts : List (Bor (List ℕ))) (i : ℕ) (d : Bor (List ℕ)) (needles own : List (List ℕ))
    → i < length texts → AreNeedlesOf options (map (λ text. text.now) (take i texts)) needles
    → AreNeedlesOf options ((get_or texts i d).now ∷ []) own
    → AreNeedlesOf options (map (λ text. text.now) (take (i + 1) texts)) (needles ++ own)
needles_next options texts i d needles own inside are more =
    subst (λ v. AreNeedlesOf options v (needles ++ own))
    (sym (map-append (λ (text : Bor (List ℕ)). text.now) (take i texts) (get_or texts i d ∷ []))
    ∙ ap (map (λ (text : Bor (List ℕ)). text.now))
    (sym (take-suc texts i d inside) ∙ ap (λ v. take v texts) (sym (add-one i))))
    (needles_push options (map (λ text. text.now) (take i texts)) ((get_or texts i d).now ∷ []) needles own are more)

pub if_some : {A : Type 0} (o : Option A) (P Q : A → Type 0) → ((a : A) → P a → Q a) → IfSome o P → IfSome o Q
if_some None P Q f h = tt
if_some (Some a) P Q f h = f a h

-- one turn over the texts
pub needles_turn :
    (d : Bor (List ℕ)) (options : Options) (texts : List (Bor (List ℕ))) (i : ℕ) (was : Vec (Vec ℕ Global) Global)
    (found : Option (Vec (Vec ℕ Global) Global)) (own : Vec (Vec ℕ Global) Global) (is : List (Vec ℕ Global))
    → i < length texts → AreNeedlesOf options (map (λ text. text.now) (take i texts)) (needles_of was)
    → found ≡ Some own → IfSome found (λ v. AreNeedlesOf options ((get_or texts i d).now ∷ []) (needles_of v))
    → is ≡ was.items ++ own.items
    → AreNeedlesOf options (map (λ text. text.now) (take (i + 1) texts)) (map (λ v. v.items) is)
needles_turn d options texts i was (Some v) own is inside are e more grown =
    subst (AreNeedlesOf options (map (λ text. text.now) (take (i + 1) texts)))
    (sym (ap (map (λ v. v.items)) grown ∙ map-append (λ v. v.items) was.items own.items))
    (needles_next options texts i d (needles_of was) (needles_of own) inside are
    (subst (λ v. AreNeedlesOf options ((get_or texts i d).now ∷ []) (needles_of v)) (same_Some v own e) more))
needles_turn d options texts i was None own is inside are e more grown = absurd (none-some own e)
