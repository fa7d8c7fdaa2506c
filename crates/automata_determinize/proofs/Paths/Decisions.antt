-- A decided list has the byte and match states of the closure under the looks that hold, in the order of the closure.
use Rattle.std.proofs.Common.{ℕ, zero, suc, ◌≡◌, Bool, true, false, cond, List, [], ◌∷◌, ◌↔◌, Option, Some, None}
use Rattle.std.proofs.Common.{refl, sym, ap, ◌∙◌, subst}
use Rattle.automata_base.specs.Lists.{In, IsListOf, pick, From}
use Rattle.automata_base.specs.declared.util.look.Look.{Look}
use Rattle.automata_base.specs.Haystacks.Looks.{holds}
use Rattle.automata_base.specs.Nfas.Nfa.{Nfa, Node, Split, Assert, Read, Accept, Truth, node, hop, hop_at, keep, ends}
use Rattle.automata_base.specs.Nfas.Nfa.{stays_at, ends_at, keeps}
use Rattle.automata_base.specs.Paths.Paths.{IsPathAt, KeepsCycles, IsClosure}
use Rattle.automata_determinize.specs.Powersets.Passes.{IsUnit, IsKnownLook, IsNeeded, IsMake, true_looks, IsNews}
use Rattle.automata_base.specs.Powersets.Passes.{Occurs}
use Rattle.automata_determinize.specs.Powersets.Passes.{IsDecided}
use Rattle.automata_determinize.specs.Powersets.Passes.{HasNews, HasNoNews}
use Rattle.automata_base.specs.Powersets.Powerset.{Powerset}
use Rattle.automata_base.proofs.Paths.Orders.{none_some}
use Rattle.automata_base.proofs.Paths.Walks.{walk_more}
use Rattle.automata_base.proofs.Paths.Sift.{Sifted, sift, same, picked_in}
use Rattle.automata_base.proofs.Paths.Staying.{Ending, keep_sieve, ends_sieve, kept_at, ends_stay, keep_true}
use Rattle.automata_base.proofs.Paths.Staying.{stays_kept}
use Rattle.automata_determinize.proofs.Paths.Late.{late}
use Rattle.automata_determinize.proofs.Paths.Truths.{truths}
use Rattle.automata_base.specs.Haystacks.LookSets.{truth_of}
use Rattle.automata_base.proofs.Paths.Included.{Includes}

-- Each look at state `x` that is true in `A` is true in `B`.
abbrev pub Agrees : Nfa → Truth → Truth → ℕ → Type 0
Agrees n A B x = (look : Look) (next : ℕ) → node n x ≡ Assert look next → A look ≡ true → B look ≡ true

hop_agrees_at :
    (x : Node) (A B : Truth) (e r : ℕ)
    → ((look : Look) (next : ℕ) → x ≡ Assert look next → A look ≡ true → B look ≡ true)
    → hop_at x A e ≡ Some r → hop_at x B e ≡ Some r
hop_agrees_at (Split alternates) A B e r f h = h
hop_agrees_at (Assert look next) A B zero r f h = go (A look) refl h
  where
    go : (b : Bool) → A look ≡ b → cond b (Some next) None ≡ Some r → cond (B look) (Some next) None ≡ Some r
    go true a h = subst (λ b. cond b (Some next) None ≡ Some r) (sym (f look next refl a)) h
    go false a h = absurd (none_some h)
hop_agrees_at (Assert look next) A B (suc e) r f h = h
hop_agrees_at (Read ranges) A B e r f h = h
hop_agrees_at (Accept p) A B e r f h = h

-- A walk under `T` is one under `K` if `K` has the true looks at all states that walks under `K` reach.
pub walk_less :
    (n : Nfa) (T K : Truth) (seen : List ℕ) (q : ℕ) (path : List ℕ) (z : ℕ)
    → ((x : ℕ) (p : List ℕ) → IsPathAt n K seen q p x → Agrees n T K x)
    → IsPathAt n T seen q path z → IsPathAt n K seen q path z
walk_less n T K seen q [] z f w = w
walk_less n T K seen q (e ∷ path) z f w =
    (w.0, edge, w.2, walk_less n T K (q ∷ seen) w.0 path z (λ x p k. f x (e ∷ p) (w.0, edge, w.2, k)) w.3)
  where
    edge : hop n K q e ≡ Some w.0
    edge = hop_agrees_at (node n q) T K e w.0 (f q [] refl) w.1

pub closure_agrees :
    (n : Nfa) (A B : Truth) (roots xs : List ℕ)
    → ((x : ℕ) → Agrees n A B x) → ((x : ℕ) → Agrees n B A x) → IsClosure n A roots xs → IsClosure n B roots xs
closure_agrees n A B roots xs f g l =
    same (From (W A) roots) (From (W B) roots) xs (there A B (λ x. g x) f) (there B A f g) l
  where
    W : Truth → ℕ → List ℕ → ℕ → Type 0
    W A root path q = IsPathAt n A [] root path q

    there :
        (A B : Truth) → ((x : ℕ) → Agrees n B A x) → ((x : ℕ) → Agrees n A B x)
        → (q : ℕ) (key : List ℕ) → From (W A) roots q key → From (W B) roots q key
    there A B g f q [] h = h
    there A B g f q (k ∷ s) h = (h.0, h.1, walk_less n A B [] h.0 s q (λ x p w. f x) h.2)

-- Which looks hold between two units.
abbrev pub truth_between : Nfa → Option ℕ → Option ℕ → Truth
truth_between n prev u look = holds n.terminator n.reverse look prev u

-- If no needed look becomes true, the list stands for the closure under the looks that hold, whatever the cycles.
pub decides_known :
    (n : Nfa) (K : Truth) (patterns roots C : List ℕ) (prev u : Option ℕ) (Q : Powerset)
    → IsUnit u
    → ((look : Look) → (K look ≡ true) ↔ IsKnownLook n prev look)
    → IsClosure n K roots C → IsMake n patterns C prev Q → (IsNews n Q u → ⊥)
    → IsListOf (Ending n (From (λ root path q. IsPathAt n (truth_between n prev u) [] root path q) roots))
    (pick (ends n) Q.nfa)
decides_known n K patterns roots C prev u Q unit known c make quiet = subst Goal (sym make.nfa) here
  where
    T : Truth
    T = truth_between n prev u

    W : Truth → ℕ → List ℕ → ℕ → Type 0
    W A root path q = IsPathAt n A [] root path q

    more : Includes K T
    more look k = ((known look).0 k).1 u unit

    Goal : List ℕ → Type 0
    Goal L = IsListOf (Ending n (From (W T) roots)) (pick (ends n) L)

    -- A look that is true at a reached state was known.
    reached : (x : ℕ) (key : List ℕ) → From (W K) roots x key → Agrees n T K x
    reached x key k look next e a = (known look).1 (((make.known look).0 was_known).1)
      where
        need : IsNeeded n Q.nfa look
        need = (
          x,
          next,
          subst (λ v. In x v) (sym make.nfa)
              (picked_in (keep n) C x x (c.0 x key k) (keep_true (keeps n x) x (stays_kept n x (ap stays_at e)))),
          e,
        )

        shown : true_looks n Q u look ≡ true
        shown = truths n patterns C prev Q u look make (look, need) (x, next, e) unit ∙ a

        either : (b : Bool) → truth_of Q.known look ≡ b → truth_of Q.known look ≡ true
        either true k = k
        either false k = absurd (quiet (look, (make.needed look).1 need, shown, k))

        was_known : truth_of Q.known look ≡ true
        was_known = either (truth_of Q.known look) refl

    there :
        (q : ℕ) (key : List ℕ) → Sifted (ends n) (Sifted (keep n) (From (W K) roots)) q key
        → Ending n (From (W T) roots) q key
    there q [] k = absurd k.1.1
    there q (i ∷ s) k = (k.0, (k.1.1.0, k.1.1.1, walk_more n K T [] k.1.1.0 s q more k.1.1.2))

    back :
        (q : ℕ) (key : List ℕ) → Ending n (From (W T) roots) q key
        → Sifted (ends n) (Sifted (keep n) (From (W K) roots)) q key
    back q [] k = absurd k.1
    back q (i ∷ s) k = (
      k.0,
      (
        keep_true (keeps n q) q (stays_kept n q (ends_stay (node n q) (kept_at (ends_at (node n q)) q q k.0))),
        (k.1.0, k.1.1, walk_less n T K [] k.1.0 s q (λ x p w. reached x (i ∷ p) (k.1.0, k.1.1, w)) k.1.2),
      ),
    )

    here : Goal (pick (keep n) C)
    here =
        same (Sifted (ends n) (Sifted (keep n) (From (W K) roots))) (Ending n (From (W T) roots))
        (pick (ends n) (pick (keep n) C))
        there back
        (sift (Sifted (keep n) (From (W K) roots)) (ends n) (pick (keep n) C) (ends_sieve n)
        (sift (From (W K) roots) (keep n) C (keep_sieve n) c))

-- If a needed look becomes true, the second closure is a closure under the looks that hold.
pub news_closure :
    (n : Nfa) (patterns C : List ℕ) (prev u : Option ℕ) (Q : Powerset) (L : List ℕ)
    → IsUnit u → IsMake n patterns C prev Q → IsNews n Q u → IsClosure n (true_looks n Q u) Q.nfa L
    → IsClosure n (truth_between n prev u) (pick (keep n) C) L
news_closure n patterns C prev u Q L unit make h c =
    closure_agrees n (true_looks n Q u) (truth_between n prev u) (pick (keep n) C) L
    (λ x look next e a. sym (exact look (x, next, e)) ∙ a)
    (λ x look next e a. exact look (x, next, e) ∙ a)
    (subst (λ v. IsClosure n (true_looks n Q u) v L) make.nfa c)
  where
    exact : (look : Look) → Occurs n look → true_looks n Q u look ≡ truth_between n prev u look
    exact look o = truths n patterns C prev Q u look make (h.0, (make.needed h.0).0 h.1) o unit

pub decides :
    (n : Nfa) (K : Truth) (patterns roots C : List ℕ) (prev u : Option ℕ) (Q : Powerset) (L : List ℕ)
    → KeepsCycles n → IsUnit u
    → ((look : Look) → (K look ≡ true) ↔ IsKnownLook n prev look)
    → IsClosure n K roots C → IsMake n patterns C prev Q → IsDecided n Q u L
    → IsListOf (Ending n (From (λ root path q. IsPathAt n (truth_between n prev u) [] root path q) roots))
    (pick (ends n) L)
decides n K patterns roots C prev u Q L free unit known c make (HasNews news h) =
    late n K (truth_between n prev u) roots C L (λ look k. ((known look).0 k).1 u unit) free c
    (news_closure n patterns C prev u Q L unit make news h)
decides n K patterns roots C prev u Q L free unit known c make (HasNoNews quiet same) =
    subst (λ v. IsListOf (Ending n (From (λ root path q. IsPathAt n (truth_between n prev u) [] root path q) roots))
    (pick (ends n) v))
    (sym same) (decides_known n K patterns roots C prev u Q unit known c make quiet)
