-- Lists and powerset states are unique.
use Rattle.std.proofs.Common.{ℕ, zero, suc, ◌≡◌, true, List, [], ◌∷◌, ◌++◌, length, Option}
use Rattle.std.proofs.Common.{sym, ap, ap₂, ◌∙◌, subst}
use Rattle.automata_base.specs.Lists.{pick, From}
use Rattle.automata_base.specs.declared.util.look.Look.{Look}
use Rattle.automata_base.specs.Nfas.Nfa.{Nfa, accepts}
use Rattle.automata_base.specs.Paths.Paths.{IsPathAt, Tape}
use Rattle.automata_base.specs.declared.util.search.MatchKind.{MatchKind}
use Rattle.automata_base.specs.declared.util.search.MatchKind.TheVariants.{All, LeftmostFirst}
use Rattle.automata_base.specs.Powersets.Cuts.{cut_for, IsOnce, targets}
use Rattle.automata_determinize.specs.Powersets.Passes.{IsMake, IsNeeded, IsClosureOf, IsDecided, true_looks}
use Rattle.automata_determinize.specs.Powersets.Passes.{IsSuccessor}
use Rattle.automata_determinize.specs.Powersets.Passes.{HasNews, HasNoNews}
use Rattle.automata_base.specs.Powersets.Powerset.{Powerset}
use Rattle.automata_base.specs.Paths.Selections.{Accepts, Pair, ArePatternsAt, IsFirstAt, Pairs, at_place}
use Rattle.automata_base.specs.Paths.Selections.{IsLeastAt, IsOverlappingOn, IsPreceded, ReportsLeast, ReportsNoneAt}
use Rattle.automata_base.proofs.Paths.Orders.{some_inj, before_irrefl, before_trans}
use Rattle.automata_base.proofs.Paths.Places.{path_end}
use Rattle.automata_determinize.proofs.Paths.Readings.{list_one}
use Rattle.automata_determinize.proofs.Paths.Decisions.{closure_agrees}
use Rattle.automata_base.specs.Haystacks.LookSets.{truth_of}
use Rattle.automata_determinize.proofs.Paths.LookSets.{same_looks}
use Rattle.automata_base.proofs.Paths.Truths.{bool_iff}
use Rattle.automata_base.proofs.Paths.Unique.{upto_both}

-- A path has only one pattern and one end.
accepting_one :
    (n : Nfa) (t : Tape) (start i a j b : ℕ) (path : List ℕ)
    → Accepts n t start i a path → Accepts n t start j b path → (i ≡ j) × (a ≡ b)
accepting_one n t start i a j b path h k =
    let e = path_end n t 0 [] start path i h.0 j k.0 h.1 k.1 in
    (e.0, some_inj (sym h.2 ∙ (ap (λ v. accepts n v) e.1 ∙ k.2)))

-- No path precedes the least path.
none_least :
    (n : Nfa) (t : Tape) (start i pattern : ℕ) (path : List ℕ) → IsPreceded n t start i path
    → IsLeastAt n t start i pattern path
    → ⊥
none_least n t start i pattern path w h =
    before_irrefl path (before_trans path w.less path (h.first w.place w.pattern w.less w.earlier w.accepted) w.before)

first_one :
    (n : Nfa) (t : Tape) (start i : ℕ) (a b : List ℕ) → IsFirstAt n t start i a → IsFirstAt n t start i b → a ≡ b
first_one n t start i a b (ReportsNoneAt none h) (ReportsNoneAt none' k) = none ∙ sym none'
first_one n t start i a b (ReportsNoneAt none h) (ReportsLeast q path one k) =
    absurd (none_least n t start i q path (h q path k.accepted) k)
first_one n t start i a b (ReportsLeast p path one h) (ReportsNoneAt none k) =
    absurd (none_least n t start i p path (k p path h.accepted) h)
first_one n t start i a b (ReportsLeast p path one h) (ReportsLeast q path' one' k) =
    let s = upto_both path path' (h.least q path' k.accepted) (k.least p path h.accepted) in
    let e = accepting_one n t start i p i q path' (subst (λ v. Accepts n t start i p v) s h.accepted) k.accepted in
    one ∙ (ap (λ v. v ∷ []) e.1 ∙ sym one')

pub at_one :
    (kind : MatchKind) (n : Nfa) (t : Tape) (start i : ℕ) (a b : List ℕ)
    → ArePatternsAt kind n t start i a → ArePatternsAt kind n t start i b → a ≡ b
at_one All n t start i a b h k = list_one (λ pattern path. Accepts n t start i pattern path) a b h k
at_one LeftmostFirst n t start i a b h k = first_one n t start i a b h k

pairs_one :
    (At : ℕ → List ℕ → Type 0) (k : ℕ) (a b : List Pair)
    → ((i : ℕ) (x y : List ℕ) → At i x → At i y → x ≡ y) → Pairs At k a → Pairs At k b → a ≡ b
pairs_one At zero a b f h k = h ∙ sym k
pairs_one At (suc i) a b f h k =
    h.joined
    ∙ (ap₂ (λ v w. v ++ at_place i w) (pairs_one At i h.earlier k.earlier f h.before k.before)
    (f i h.patterns k.patterns h.here k.here) ∙ sym k.joined)

pub walk_one :
    (kind : MatchKind) (n : Nfa) (t : Tape) (start : ℕ) (a b : List Pair)
    → IsOverlappingOn kind n t start a → IsOverlappingOn kind n t start b → a ≡ b
walk_one kind n t start a b h k =
    pairs_one (ArePatternsAt kind n t start) (suc (length t.bytes)) a b (λ i x y. at_one kind n t start i x y) h k

pub powerset_path :
    (A B : Powerset) → A.nfa ≡ B.nfa → A.patterns ≡ B.patterns → A.known ≡ B.known → A.needed ≡ B.needed
    → A.word ≡ B.word → A.half ≡ B.half → A ≡ B
powerset_path A B l p k d w h = λ i.
    record {
      nfa = l i;
      patterns = p i;
      known = k i;
      needed = d i;
      word = w i;
      half = h i;
    }

make_one :
    (n : Nfa) (patterns C : List ℕ) (prev : Option ℕ) (A B : Powerset)
    → IsMake n patterns C prev A → IsMake n patterns C prev B → A ≡ B
make_one n patterns C prev A B a b =
    powerset_path A B l (a.patterns ∙ sym b.patterns)
    (same_looks A.known B.known a.known_set b.known_set
    (λ look. bool_iff (truth_of A.known look) (truth_of B.known look)
    (λ e. let w = (a.known look).0 e in (b.known look).1 ((w.0.0, subst (λ v. IsNeeded n v w.0.0) l w.0.1), w.1))
    (λ e. let w = (b.known look).0 e in
    (a.known look).1 ((w.0.0, subst (λ v. IsNeeded n v w.0.0) (sym l) w.0.1), w.1))))
    (same_looks A.needed B.needed a.needed_set b.needed_set
    (λ look. bool_iff (truth_of A.needed look) (truth_of B.needed look)
    (λ e. (b.needed look).1 (subst (λ v. IsNeeded n v look) l ((a.needed look).0 e)))
    (λ e. (a.needed look).1 (subst (λ v. IsNeeded n v look) (sym l) ((b.needed look).0 e)))))
    (bool_iff A.word B.word
    (λ e. let w = a.word.0 e in b.word.1 ((λ f. w.0 (l ∙ f)), w.1, w.2))
    (λ e. let w = b.word.0 e in a.word.1 ((λ f. w.0 (sym l ∙ f)), w.1, w.2)))
    (bool_iff A.half B.half
    (λ e. let w = a.half.0 e in b.half.1 ((λ f. w.0 (l ∙ f)), w.1, w.2))
    (λ e. let w = b.half.0 e in a.half.1 ((λ f. w.0 (sym l ∙ f)), w.1, w.2)))
  where
    l : A.nfa ≡ B.nfa
    l = a.nfa ∙ sym b.nfa

pub arrival_one :
    (n : Nfa) (patterns roots : List ℕ) (prev : Option ℕ) (A B : Powerset)
    → IsClosureOf n patterns roots prev A → IsClosureOf n patterns roots prev B → A ≡ B
arrival_one n patterns roots prev A B a b =
    make_one n patterns a.list prev A B a.made (subst (λ v. IsMake n patterns v prev B) (sym c) b.made)
  where
    k : (look : Look) → a.truth look ≡ true → b.truth look ≡ true
    k look e = (b.known look).1 ((a.known look).0 e)

    k' : (look : Look) → b.truth look ≡ true → a.truth look ≡ true
    k' look e = (a.known look).1 ((b.known look).0 e)

    c : a.list ≡ b.list
    c =
        list_one (From (λ root path q. IsPathAt n b.truth [] root path q) roots) a.list b.list
        (closure_agrees n a.truth b.truth roots a.list (λ x look next e. k look) (λ x look next e. k' look) a.closure)
        b.closure

pub decided_one :
    (n : Nfa) (Q : Powerset) (u : Option ℕ) (L M : List ℕ) → IsDecided n Q u L → IsDecided n Q u M → L ≡ M
decided_one n Q u L M (HasNews news a) (HasNews news' b) =
    list_one (From (λ root path q. IsPathAt n (true_looks n Q u) [] root path q) Q.nfa) L M a b
decided_one n Q u L M (HasNews news a) (HasNoNews quiet b) = absurd (quiet news)
decided_one n Q u L M (HasNoNews quiet a) (HasNews news b) = absurd (quiet news)
decided_one n Q u L M (HasNoNews quiet a) (HasNoNews quiet' b) = a ∙ sym b

pub succ_one :
    (n : Nfa) (kind : MatchKind) (Q : Powerset) (u : Option ℕ) (A B : Powerset)
    → IsSuccessor n kind Q u A → IsSuccessor n kind Q u B → A ≡ B
succ_one n kind Q u A B a b =
    arrival_one n b.1 (targets n u (cut_for kind n b.0)) u A B
    (subst (λ v. IsClosureOf n b.1 (targets n u (cut_for kind n v)) u A) l
    (subst (λ v. IsClosureOf n v (targets n u (cut_for kind n a.0)) u A) p a.4)) b.4
  where
    l : a.0 ≡ b.0
    l = decided_one n Q u a.0 b.0 a.2 b.2

    p : a.1 ≡ b.1
    p =
        list_one (From (λ root path q. (root ≡ q) × (path ≡ [])) (pick (accepts n) (cut_for kind n b.0))) a.1 b.1
        (subst (λ v. IsOnce (pick (accepts n) (cut_for kind n v)) a.1) l a.3) b.3
