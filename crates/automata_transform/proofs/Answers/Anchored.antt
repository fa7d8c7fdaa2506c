-- An NFA whose matches begin only at the start of a haystack gives the same answers without its lazy loop: a path that
-- skips a byte in the loop does not accept, and the others go on from the anchored start at once.
use Rattle.std.proofs.Common.{ℕ, zero, suc, ◌≡◌, true, false, List, [], ◌∷◌, ◌↔◌}
use Rattle.std.proofs.Common.{Some, None, Option, refl, sym, ap, ◌∙◌, subst, arith, true≢false}
use Rattle.std.specs.Prelude.{option_map, slice_get}
use Rattle.automata_base.specs.Answers.Spans.{IsPathStart}
use Rattle.automata_base.specs.Answers.TruePairs.{KeepsUtf8}
use Rattle.automata_base.specs.Haystacks.Looks.{is_absent}
use Rattle.automata_base.specs.declared.util.look.Look.TheVariants as l
use Rattle.automata_base.specs.Haystacks.Tapes.{IsHaystack, tape_of}
use Rattle.automata_base.specs.Nfas.Engines.{BeginsLazily, Engine, IsSkipping, LazyLoop, LoopsLazily, SharedStart}
use Rattle.automata_base.specs.Nfas.Engines.{engine_of, first_state}
use Rattle.automata_base.specs.Nfas.Nfa.{Nfa, Node, Split, Assert, Read, Accept, accepts, accepts_at, ends_at, node}
use Rattle.automata_base.specs.Nfas.Nfa.{takes_at}
use Rattle.automata_base.specs.Nfas.Nodes.{Automaton, nfa_of}
use Rattle.automata_base.specs.Paths.Order.{Before, Begins, TakesLess, TakesSame}
use Rattle.automata_base.specs.Paths.Paths.{IsPathAt, IsPathFrom, ReadsByte, StaysHere, Tape, prev, truth}
use Rattle.automata_base.specs.Paths.Selections.{Accepts}
use Rattle.automata_base.specs.declared.util.search.Anchored.{Anchored}
use Rattle.automata_base.specs.declared.util.search.Anchored.TheVariants.{No, Yes, Pattern}
use Rattle.automata_base.specs.declared.util.search.Direction.{Direction}
use Rattle.automata_base.specs.declared.util.search.MatchKind.{MatchKind}
use Rattle.automata_base.specs.declared.util.search.MatchKind.TheVariants.{All}
use Rattle.automata_base.proofs.Answers.Chosen.{StartsAt, starts_at}
use Rattle.automata_base.proofs.Answers.Loops.{not_sooner, nth_some, skipping}
use Rattle.automata_base.proofs.Answers.Once.{start_once}
use Rattle.automata_base.proofs.Paths.Included.{Includes}
use Rattle.automata_base.proofs.Paths.Orders.{cons_tail, nil_cons, none_some, some_inj}
use Rattle.automata_base.proofs.Paths.Places.{path_grows}
use Rattle.automata_base.proofs.Paths.Searches.{accepting_inside}
use Rattle.automata_base.proofs.Paths.Walks.{hop_more}
use Rattle.automata_transform.specs.Answers.Alike.{AnswerAlike}
use Rattle.automata_transform.specs.Laws.AnchoredStarts.{AnchoredAnswerAlike, AnchoredKeepUtf8, AnchoredPairsAlike}
use Rattle.automata_transform.specs.Nfas.AnchoredNfas.{BeginsAnchoredAs, DropsLoop, IsAnchoredNfa, KeepsLoop}
use Rattle.automata_transform.specs.Nfas.AnchoredNfas.{all_but_start}
use Rattle.automata_transform.proofs.Answers.Carried.{IsCarried, alike_self, both_alike, tape_bytes}

-- A state that takes a byte, or accepts, ends paths of epsilon edges.
takes_end : (x : Node) (u r : ℕ) → takes_at x u ≡ Some r → ends_at x ≡ true
takes_end (Split alternates) u r h = absurd (none_some h)
takes_end (Assert look next) u r h = absurd (none_some h)
takes_end (Read ranges) u r h = refl
takes_end (Accept p) u r h = refl

accepts_end : (x : Node) (p : ℕ) → accepts_at x ≡ Some p → ends_at x ≡ true
accepts_end (Split alternates) p h = absurd (none_some h)
accepts_end (Assert look next) p h = absurd (none_some h)
accepts_end (Read ranges) p h = refl
accepts_end (Accept q) p h = refl

-- After a byte, `Look::Start` does not hold.
past_start : (n : Nfa) (t : Tape) (i u : ℕ) → prev t i ≡ Some u → Includes (truth n t i) all_but_start
past_start n t i u is l.Start h = absurd (true≢false (sym h ∙ ap is_absent is))
past_start n t i u is l.End h = refl
past_start n t i u is l.StartLF h = refl
past_start n t i u is l.EndLF h = refl
past_start n t i u is l.StartCRLF h = refl
past_start n t i u is l.EndCRLF h = refl
past_start n t i u is l.WordAscii h = refl
past_start n t i u is l.WordAsciiNegate h = refl
past_start n t i u is l.WordUnicode h = refl
past_start n t i u is l.WordUnicodeNegate h = refl
past_start n t i u is l.WordStartAscii h = refl
past_start n t i u is l.WordEndAscii h = refl
past_start n t i u is l.WordStartUnicode h = refl
past_start n t i u is l.WordEndUnicode h = refl
past_start n t i u is l.WordStartHalfAscii h = refl
past_start n t i u is l.WordEndHalfAscii h = refl
past_start n t i u is l.WordStartHalfUnicode h = refl
past_start n t i u is l.WordEndHalfUnicode h = refl

-- So no path from there accepts, if those of epsilon edges end in no state that reads a byte or matches.
never_accepts :
    (n : Nfa) (t : Tape) (i u : ℕ) → prev t i ≡ Some u
    → (seen : List ℕ) (q : ℕ)
    → ((z : ℕ) (path : List ℕ) → IsPathAt n all_but_start seen q path z → ends_at (node n z) ≡ false)
    → (path : List ℕ) (j z p : ℕ) → IsPathFrom n t i seen q path j z → accepts n z ≡ Some p → ⊥
never_accepts n t i u is seen q none [] j z p h match =
    true≢false (sym (accepts_end (node n z) p match) ∙ none z [] h.1)
never_accepts n t i u is seen q none (e ∷ path) j z p (StaysHere r hops new on) match =
    never_accepts n t i u is (q ∷ seen) r
    (λ y more w. none y (e ∷ more)
    (r, hop_more n (truth n t i) all_but_start q e r (past_start n t i u is) hops, new, w))
    path j z p on match
never_accepts n t i u is seen q none (e ∷ path) j z p (ReadsByte r edge moves on) match =
    true≢false (sym (takes_end (node n q) moves.0 r moves.2) ∙ none q [] refl)

before_tail : (e : ℕ) (xs ys : List ℕ) → Before (e ∷ xs) (e ∷ ys) → Before xs ys
before_tail e xs ys (TakesLess l) = absurd (omega (arith, l))
before_tail e xs ys (TakesSame same rest) = rest

-- The engine whose unanchored searches begin at the anchored start.
abbrev pub at_once : Engine → Engine
at_once d = record d { unanchored = d.anchored }

-- Where `Look::Start` does not hold, no path from the anchored start accepts.
abbrev Needs : Engine → Type 0
Needs d = (q : ℕ) (path : List ℕ) → IsPathAt d.nfa all_but_start [] d.anchored path q → ends_at (node d.nfa q) ≡ false

module _ (d : Engine) (needs : Needs d) (skip : ℕ) (loops : LoopsLazily d.nfa d.anchored d.unanchored skip) where
  -- An accepting path from the loop skips no byte.
  skips_none :
      (t : Tape) (i p : ℕ) (path : List ℕ) → Accepts d.nfa t d.unanchored i p path
      → (rest : List ℕ) × (path ≡ 0 ∷ rest) × Accepts d.nfa t d.anchored i p rest
  skips_none t i p path a = go (starts_at d skip t i p path loops a)
    where
      go :
          ((k : ℕ) × (rest : List ℕ) × StartsAt d t k i p path rest)
          → (rest : List ℕ) × (path ≡ 0 ∷ rest) × Accepts d.nfa t d.anchored i p rest
      go (zero, rest, s) = (rest, s.0, (s.1.0, s.1.1, s.1.2))
      go (suc k, rest, s) =
          let inside = accepting_inside d.nfa t d.unanchored i p path a in
          let grows = path_grows d.nfa t (suc k) [] d.anchored rest i s.1.0 s.1.1 in
          let b = nth_some t.bytes k (omega (arith, inside, grows)) in
          absurd (never_accepts d.nfa t (suc k) b.0 b.1 [] d.anchored needs rest i s.1.0 p s.1.1 s.1.2)

  -- An accepting path from the anchored start is one from the loop, after its first edge.
  skips_before :
      (t : Tape) (i p : ℕ) (rest : List ℕ) → IsHaystack t.bytes → Accepts d.nfa t d.anchored i p rest
      → Accepts d.nfa t d.unanchored i p (0 ∷ rest)
  skips_before t i p rest bytes a = (
    a.0,
    skipping d.nfa t d.unanchored d.anchored skip loops.0 loops.1 loops.2 bytes 0 0 rest i a.0 (omega arith) a.1,
    a.2,
  )

  abbrev e : Engine
  e = at_once d

  -- the state where the second engine begins, and where the first one does
  abbrev to : Anchored → ℕ → ℕ
  to No q = d.anchored
  to Yes q = q
  to (Pattern k) q = q

  abbrev from : Anchored → ℕ → ℕ
  from No q = d.unanchored
  from Yes q = q
  from (Pattern k) q = q

  -- an unanchored path of the first engine has one more edge
  abbrev There : Anchored → Tape → ℕ → List ℕ → List ℕ → Type 0
  There No t q a b = a ≡ 0 ∷ b
  There Yes t q a b = a ≡ b
  There (Pattern k) t q a b = a ≡ b

  abbrev Back : Anchored → Tape → ℕ → List ℕ → List ℕ → Type 0
  Back mode t q b a = There mode t q a b

  same_option : (o : Option ℕ) → option_map (λ (q : ℕ). q) o ≡ o
  same_option None = refl
  same_option (Some q) = refl

  starts_there : (mode : Anchored) → option_map (to mode) (first_state d mode) ≡ first_state e mode
  starts_there No = refl
  starts_there Yes = refl
  starts_there (Pattern k) = same_option (slice_get d.starts k)

  starts_back : (mode : Anchored) → option_map (from mode) (first_state e mode) ≡ first_state d mode
  starts_back No = refl
  starts_back Yes = refl
  starts_back (Pattern k) = same_option (slice_get d.starts k)

  goes_there :
      (t : Tape) (mode : Anchored) (q : ℕ) → IsHaystack t.bytes → first_state d mode ≡ Some q
      → (i p : ℕ) (a : List ℕ) → Accepts d.nfa t q i p a
      → (b : List ℕ) × There mode t q a b × Accepts e.nfa t (to mode q) i p b
  goes_there t No q bytes is i p a acc =
      skips_none t i p a (subst (λ v. Accepts d.nfa t v i p a) (sym (some_inj is)) acc)
  goes_there t Yes q bytes is i p a acc = (a, refl, acc)
  goes_there t (Pattern k) q bytes is i p a acc = (a, refl, acc)

  comes_back :
      (t : Tape) (mode : Anchored) (q : ℕ) → IsHaystack t.bytes → first_state d mode ≡ Some q
      → (i p : ℕ) (b : List ℕ) → Accepts e.nfa t (to mode q) i p b
      → (a : List ℕ) × There mode t q a b × Accepts d.nfa t q i p a
  comes_back t No q bytes is i p b acc =
      (0 ∷ b, refl, subst (λ v. Accepts d.nfa t v i p (0 ∷ b)) (some_inj is) (skips_before t i p b bytes acc))
  comes_back t Yes q bytes is i p b acc = (b, refl, acc)
  comes_back t (Pattern k) q bytes is i p b acc = (b, refl, acc)

  goes_back :
      (t : Tape) (mode : Anchored) (q : ℕ) → IsHaystack t.bytes → first_state e mode ≡ Some q
      → (i p : ℕ) (b : List ℕ) → Accepts e.nfa t q i p b
      → (a : List ℕ) × There mode t q a b × Accepts d.nfa t (from mode q) i p a
  goes_back t No q bytes is i p b acc =
      (0 ∷ b, refl, skips_before t i p b bytes (subst (λ v. Accepts d.nfa t v i p b) (sym (some_inj is)) acc))
  goes_back t Yes q bytes is i p b acc = (b, refl, acc)
  goes_back t (Pattern k) q bytes is i p b acc = (b, refl, acc)

  comes_there :
      (t : Tape) (mode : Anchored) (q : ℕ) → IsHaystack t.bytes → first_state e mode ≡ Some q
      → (i p : ℕ) (a : List ℕ) → Accepts d.nfa t (from mode q) i p a
      → (b : List ℕ) × There mode t q a b × Accepts e.nfa t q i p b
  comes_there t No q bytes is i p a acc =
      let c = skips_none t i p a acc in (c.0, c.1, subst (λ v. Accepts d.nfa t v i p c.0) (some_inj is) c.2)
  comes_there t Yes q bytes is i p a acc = (a, refl, acc)
  comes_there t (Pattern k) q bytes is i p a acc = (a, refl, acc)

  same_there :
      (t : Tape) (mode : Anchored) (q : ℕ) (a b c f : List ℕ) → There mode t q a b → There mode t q c f → a ≡ c → b ≡ f
  same_there t No q a b c f r s h = cons_tail (sym r ∙ h ∙ s)
  same_there t Yes q a b c f r s h = sym r ∙ h ∙ s
  same_there t (Pattern k) q a b c f r s h = sym r ∙ h ∙ s

  same_back :
      (t : Tape) (mode : Anchored) (q : ℕ) (b a f c : List ℕ) → There mode t q a b → There mode t q c f → b ≡ f → a ≡ c
  same_back t No q b a f c r s h = r ∙ ap (λ v. 0 ∷ v) h ∙ sym s
  same_back t Yes q b a f c r s h = r ∙ h ∙ sym s
  same_back t (Pattern k) q b a f c r s h = r ∙ h ∙ sym s

  order_there :
      (t : Tape) (mode : Anchored) (q : ℕ) (a b c f : List ℕ) → There mode t q a b → There mode t q c f → Before a c
      → Before b f
  order_there t No q a b c f r s h = before_tail 0 b f (subst (λ v. Before v (0 ∷ f)) r (subst (λ v. Before a v) s h))
  order_there t Yes q a b c f r s h = subst (λ v. Before v f) r (subst (λ v. Before a v) s h)
  order_there t (Pattern k) q a b c f r s h = subst (λ v. Before v f) r (subst (λ v. Before a v) s h)

  order_back :
      (t : Tape) (mode : Anchored) (q : ℕ) (b a f c : List ℕ) → There mode t q a b → There mode t q c f → Before b f
      → Before a c
  order_back t No q b a f c r s h =
      subst (λ v. Before v c) (sym r) (subst (λ v. Before (0 ∷ b) v) (sym s) (TakesSame refl h))
  order_back t Yes q b a f c r s h = subst (λ v. Before v c) (sym r) (subst (λ v. Before b v) (sym s) h)
  order_back t (Pattern k) q b a f c r s h = subst (λ v. Before v c) (sym r) (subst (λ v. Before b v) (sym s) h)

  -- The match of such a path begins where the search does.
  begins_first : (t : Tape) (a b : List ℕ) → IsHaystack t.bytes → a ≡ 0 ∷ b → IsPathStart d No t a 0
  begins_first t a b bytes r = (
    0 ∷ [],
    b,
    r,
    skipping d.nfa t d.unanchored d.anchored skip loops.0 loops.1 loops.2 bytes 0 0 [] 0 d.anchored (omega arith)
        (refl, refl),
    λ shorter sooner s h. not_sooner d.nfa t d.unanchored d.anchored skip loops.0 loops.1 loops.2 0 0 shorter sooner s
        h,
  )

  begins_at_once : (t : Tape) (b : List ℕ) → IsPathStart e No t b 0
  begins_at_once t b = ([], b, refl, (refl, refl), λ shorter sooner s h. begins_none shorter s)
    where
      begins_none : (shorter : List ℕ) → Begins shorter [] → ⊥
      begins_none [] s = nil_cons s.2
      begins_none (x ∷ shorter) s = nil_cons s.2

  begins_there :
      (t : Tape) (mode : Anchored) (q place : ℕ) (a b : List ℕ) → IsHaystack t.bytes → first_state d mode ≡ Some q
      → There mode t q a b → IsPathStart d mode t a place → IsPathStart e mode t b place
  begins_there t No q place a b bytes is r h =
      subst (λ v. IsPathStart e No t b v) (start_once d No t a 0 place (begins_first t a b bytes r) h)
      (begins_at_once t b)
  begins_there t Yes q place a b bytes is r h = h
  begins_there t (Pattern k) q place a b bytes is r h = h

  begins_back :
      (t : Tape) (mode : Anchored) (q place : ℕ) (b a : List ℕ) → IsHaystack t.bytes → first_state e mode ≡ Some q
      → There mode t q a b → IsPathStart e mode t b place → IsPathStart d mode t a place
  begins_back t No q place b a bytes is r h =
      subst (λ v. IsPathStart d No t a v) (start_once e No t b 0 place (begins_at_once t b) h)
      (begins_first t a b bytes r)
  begins_back t Yes q place b a bytes is r h = h
  begins_back t (Pattern k) q place b a bytes is r h = h

  carried_there : IsCarried d e to There
  carried_there = record {
    kinds = refl;
    starts = starts_there;
    there = goes_there;
    back = comes_back;
    same = same_there;
    order = order_there;
    begins = begins_there;
    skips = ((λ s. s), (λ s. s));
  }

  carried_back : IsCarried e d from Back
  carried_back = record {
    kinds = refl;
    starts = starts_back;
    there = goes_back;
    back = comes_there;
    same = same_back;
    order = order_back;
    begins = begins_back;
    skips = ((λ s. s), (λ s. s));
  }

  pub lazy_alike : AnswerAlike d e
  lazy_alike = both_alike d e to from There Back carried_there carried_back

  pub lazy_accepts :
      (t : Tape) (i p : ℕ) → IsHaystack t.bytes
      → ((path : List ℕ) × Accepts d.nfa t d.unanchored i p path)
      ↔ ((path : List ℕ) × Accepts d.nfa t d.anchored i p path)
  lazy_accepts t i p bytes = (
    (λ h. let c = skips_none t i p h.0 h.1 in (c.0, c.2)),
    (λ h. (0 ∷ h.0, skips_before t i p h.0 bytes h.1)),
  )

-- Anchored searches begin where they did.
keeps_there : (way : Direction) (d : Engine) → KeepsUtf8 way d → KeepsUtf8 way (at_once d)
keeps_there way d keeps h i j p No start path on hay l k not_no is acc = absurd (not_no refl)
keeps_there way d keeps h i j p Yes start path on hay l k not_no is acc =
    keeps h i j p Yes start path on hay l k not_no is acc
keeps_there way d keeps h i j p (Pattern x) start path on hay l k not_no is acc =
    keeps h i j p (Pattern x) start path on hay l k not_no is acc

keeps_back : (way : Direction) (d : Engine) → KeepsUtf8 way (at_once d) → KeepsUtf8 way d
keeps_back way d keeps h i j p No start path on hay l k not_no is acc = absurd (not_no refl)
keeps_back way d keeps h i j p Yes start path on hay l k not_no is acc =
    keeps h i j p Yes start path on hay l k not_no is acc
keeps_back way d keeps h i j p (Pattern x) start path on hay l k not_no is acc =
    keeps h i j p (Pattern x) start path on hay l k not_no is acc

abbrev AcceptsFrom : Nfa → Tape → ℕ → ℕ → ℕ → Type 0
AcceptsFrom n t start i p = (path : List ℕ) × Accepts n t start i p path

any_alike :
    (d : Engine) → Needs d → BeginsLazily d.nfa d.anchored d.unanchored → AnswerAlike d (at_once d)
any_alike d needs (SharedStart e) = subst (λ v. AnswerAlike d (record d { unanchored = v })) e (alike_self d)
any_alike d needs (LazyLoop skip loops) = lazy_alike d needs skip loops

any_accepts :
    (d : Engine) → Needs d → BeginsLazily d.nfa d.anchored d.unanchored → (t : Tape) (i p : ℕ) → IsHaystack t.bytes
    → AcceptsFrom d.nfa t d.unanchored i p ↔ AcceptsFrom d.nfa t d.anchored i p
any_accepts d needs (SharedStart e) t i p bytes =
    subst (λ v. AcceptsFrom d.nfa t d.unanchored i p ↔ AcceptsFrom d.nfa t v i p) e ((λ h. h), (λ h. h))
any_accepts d needs (LazyLoop skip loops) t i p bytes = lazy_accepts d needs skip loops t i p bytes

engine_is : (a b : Automaton) (kind : MatchKind) → BeginsAnchoredAs a b → engine_of b kind ≡ at_once (engine_of a kind)
engine_is a b kind is = λ i. record {
  nfa = is.nfa i;
  anchored = is.anchored i;
  unanchored = is.unanchored i;
  starts = is.patterns i;
  utf8 = (is.flags i).utf8;
  kind = kind;
}

pub anchored_alike : AnchoredAnswerAlike
anchored_alike a b kind (DropsLoop may is) =
    subst (λ v. AnswerAlike (engine_of a kind) v) (sym (engine_is a b kind is))
    (any_alike (engine_of a kind) may.asserts.1 may.skips)
anchored_alike a b kind (KeepsLoop not is) =
    subst (λ v. AnswerAlike (engine_of a kind) (engine_of v kind)) (sym is) (alike_self (engine_of a kind))

accepts_alike :
    (a b : Automaton) → IsAnchoredNfa a b → (t : Tape) (i p : ℕ) → IsHaystack t.bytes
    → AcceptsFrom (nfa_of a) t a.start_unanchored i p ↔ AcceptsFrom (nfa_of b) t b.start_unanchored i p
accepts_alike a b (DropsLoop may is) t i p bytes =
    subst (λ (v : Engine). AcceptsFrom (nfa_of a) t a.start_unanchored i p ↔ AcceptsFrom v.nfa t v.unanchored i p)
    (sym (engine_is a b All is))
    (any_accepts (engine_of a All) may.asserts.1 may.skips t i p bytes)
accepts_alike a b (KeepsLoop not is) t i p bytes =
    subst (λ v. AcceptsFrom (nfa_of a) t a.start_unanchored i p ↔ AcceptsFrom (nfa_of v) t v.start_unanchored i p)
    (sym is)
    ((λ h. h), (λ h. h))

pub anchored_pairs : AnchoredPairsAlike
anchored_pairs way a b input pair is bytes = (
  (λ h.
      let c = (both h.place).0 (h.path, h.accepted) in record {
        place = h.place;
        path = c.0;
        inside = h.inside;
        accepted = c.1;
        offset = h.offset;
        whole = λ s. h.whole (skipping_alike.1 s);
      }),
  (λ h.
      let c = (both h.place).1 (h.path, h.accepted) in record {
        place = h.place;
        path = c.0;
        inside = h.inside;
        accepted = c.1;
        offset = h.offset;
        whole = λ s. h.whole (skipping_alike.0 s);
      }),
)
  where
    t : Tape
    t = tape_of way input.haystack input.start input.end

    skipping_alike : IsSkipping (engine_of a All) ↔ IsSkipping (engine_of b All)
    skipping_alike = let alike = anchored_alike a b All is in alike.skipping

    both :
        (place : ℕ)
        → AcceptsFrom (nfa_of a) t a.start_unanchored place pair.pattern
        ↔ AcceptsFrom (nfa_of b) t b.start_unanchored place pair.pattern
    both place =
        accepts_alike a b is t place pair.pattern (tape_bytes way input.haystack input.start input.end bytes)

pub anchored_utf8 : AnchoredKeepUtf8
anchored_utf8 a b way kind (DropsLoop may is) =
    subst (λ v. KeepsUtf8 way (engine_of a kind) ↔ KeepsUtf8 way v) (sym (engine_is a b kind is))
    (keeps_there way (engine_of a kind), keeps_back way (engine_of a kind))
anchored_utf8 a b way kind (KeepsLoop not is) =
    subst (λ v. KeepsUtf8 way (engine_of a kind) ↔ KeepsUtf8 way (engine_of v kind)) (sym is) ((λ h. h), (λ h. h))
