-- A dense state behaves the same whether its edges are written as ranges or byte by byte.
use Rattle.std.proofs.Common.{ℕ, zero, suc, ◌≡◌, ◌<◌, ◌≤◌, ◌+◌, ◌&&◌, ltb, leb, Bool, true, false, cond, List, [], ◌∷◌}
use Rattle.std.proofs.Common.{◌++◌, Option, Some, None, inl, inr, refl, sym, ap, ◌∙◌, subst, arith}
use Rattle.std.proofs.lemmas.Bool.{le-leb, ltb-true, eqb-true}
use Rattle.std.proofs.lemmas.Grind.{common_steps}
use Rattle.automata_base.specs.declared.nfa.thompson.state.Transition.{Transition}
use Rattle.automata_base.specs.Lists.{In, all_below}
use Rattle.automata_base.specs.Haystacks.Looks.{within}
use Rattle.automata_base.specs.Nfas.Nfa.{takes_in}
use Rattle.automata_base.specs.Nfas.Nodes.{ranges_of, dense_from}
use Rattle.automata_base.specs.Retraced.Reach.{nexts}
use Rattle.automata_base.specs.Nfas.Errors.{ordered_from, transitions_below}
use Rattle.automata_transform.specs.Retraced.DenseRuns.{starts_with, run_of, runs_from}
use Rattle.std.proofs.lemmas.Bool.{and_parts}
use Rattle.automata_base.proofs.Powersets.Dense.{dense_below}

-- A list that begins with `x`.
head_is : (x : ℕ) (xs : List ℕ) → starts_with x xs ≡ true → (ys : List ℕ) × (xs ≡ x ∷ ys)
head_is x [] e = let k : false ≡ true = e in absurd cc
head_is x (y ∷ ys) e = (ys, ap (λ v. v ∷ ys) (eqb-true y x e))

-- The first target, if it leads somewhere.
abbrev pub led : List ℕ → Option ℕ
led [] = None
led (zero ∷ xs) = None
led (suc k ∷ xs) = Some (suc k)

led_head : (x : ℕ) (ys zs : List ℕ) → led (x ∷ ys) ≡ led (x ∷ zs)
led_head zero ys zs = refl
led_head (suc k) ys zs = refl

none_or : (b : Bool) (d : Option ℕ) → (b ≡ true → d ≡ None) → cond b None d ≡ d
none_or true d f = sym (f refl)
none_or false d f = refl

-- The bytes from `lo` to `byte` are those before `byte` and `byte` itself.
run_ends :
    (lo byte u : ℕ) (v d : Option ℕ) → lo ≤ byte
    → cond (within lo byte u) v d ≡ cond (leb lo u && ltb u byte) v (cond (within byte byte u) v d)
run_ends lo byte u v d l = grind (arith, common_steps)

run_goes :
    (lo byte u : ℕ) (v d : Option ℕ) → lo ≤ byte
    → cond (leb lo u && ltb u (suc byte)) v d ≡ cond (leb lo u && ltb u byte) v (cond (within byte byte u) v d)
run_goes lo byte u v d l = grind (arith, common_steps)

none_at : (byte u : ℕ) → leb (suc byte) u && ltb u (suc byte) ≡ false
none_at byte u = grind (arith, common_steps)

inside_of : (lo u byte : ℕ) → leb lo u && ltb u byte ≡ true → u < byte
inside_of lo u byte e = ltb-true u byte (and_parts (leb lo u) (ltb u byte) e).1

runs_take :
    (xs : List ℕ) (lo byte u : ℕ) → lo ≤ byte
    → takes_in (ranges_of (runs_from lo byte xs)) u
    ≡ cond (leb lo u && ltb u byte) (led xs) (takes_in (dense_from byte xs) u)
runs_take [] lo byte u l = sym (none_or (leb lo u && ltb u byte) None (λ e. refl))
runs_take (x ∷ xs) lo byte u l =
    go (starts_with x xs) refl (runs_take xs lo (suc byte) u (omega (arith, l)))
    (runs_take xs (suc byte) (suc byte) u (omega arith))
  where
    d : Option ℕ
    d = takes_in (dense_from (suc byte) xs) u

    -- The run goes on.
    on : (x : ℕ) → led xs ≡ led (x ∷ xs)
        → cond (leb lo u && ltb u (suc byte)) (led xs) (takes_in (dense_from (suc byte) xs) u)
        ≡ cond (leb lo u && ltb u byte) (led (x ∷ xs)) (takes_in (dense_from byte (x ∷ xs)) u)
    on zero e =
        ap (λ v. cond (leb lo u && ltb u (suc byte)) v (takes_in (dense_from (suc byte) xs) u)) e
        ∙ (none_or (leb lo u && ltb u (suc byte)) d (λ k. dense_below xs (suc byte) u (inside_of lo u (suc byte) k))
        ∙ sym (none_or (leb lo u && ltb u byte) d
        (λ k. let i = inside_of lo u byte k in dense_below xs (suc byte) u (omega (arith, i)))))
    on (suc k) e =
        ap (λ v. cond (leb lo u && ltb u (suc byte)) v (takes_in (dense_from (suc byte) xs) u)) e
        ∙ run_goes lo byte u (Some (suc k)) d l

    -- The run ends here.
    off : (x : ℕ) → takes_in (ranges_of (runs_from (suc byte) (suc byte) xs)) u ≡ takes_in (dense_from (suc byte) xs) u
        → takes_in (ranges_of (run_of lo byte x ++ runs_from (suc byte) (suc byte) xs)) u
        ≡ cond (leb lo u && ltb u byte) (led (x ∷ xs)) (takes_in (dense_from byte (x ∷ xs)) u)
    off zero e =
        e
        ∙ sym (none_or (leb lo u && ltb u byte) d
        (λ k. let i = inside_of lo u byte k in dense_below xs (suc byte) u (omega (arith, i))))
    off (suc k) e =
        ap (λ v. cond (within lo byte u) (Some (suc k)) v) e ∙ run_ends lo byte u (Some (suc k)) d l

    go :
        (b : Bool) → starts_with x xs ≡ b
        → takes_in (ranges_of (runs_from lo (suc byte) xs)) u
        ≡ cond (leb lo u && ltb u (suc byte)) (led xs) (takes_in (dense_from (suc byte) xs) u)
        → takes_in (ranges_of (runs_from (suc byte) (suc byte) xs)) u
        ≡ cond (leb (suc byte) u && ltb u (suc byte)) (led xs) (takes_in (dense_from (suc byte) xs) u)
        → takes_in
        (ranges_of (cond b (runs_from lo (suc byte) xs) (run_of lo byte x ++ runs_from (suc byte) (suc byte) xs))) u
        ≡ cond (leb lo u && ltb u byte) (led (x ∷ xs)) (takes_in (dense_from byte (x ∷ xs)) u)
    go true s ih ih' =
        let h = head_is x xs s in
        ih ∙ on x (ap led h.1 ∙ led_head x h.0 xs)
    go false s ih ih' =
        off x (ih' ∙ ap (λ b. cond b (led xs) (takes_in (dense_from (suc byte) xs) u)) (none_at byte u))

pub dense_takes : (xs : List ℕ) (u : ℕ) → takes_in (ranges_of (runs_from 0 0 xs)) u ≡ takes_in (dense_from 0 xs) u
dense_takes xs u = runs_take xs 0 0 u (omega arith) ∙ ap (λ b. cond b (led xs) (takes_in (dense_from 0 xs) u)) (none u)
  where
    none : (u : ℕ) → leb 0 u && ltb u 0 ≡ false
    none u = grind (arith, common_steps)

-- The ranges are in order.
run_ordered :
    (low lo hi x : ℕ) (ts : List Transition) → low ≤ lo → lo ≤ hi → ordered_from (hi + 1) ts ≡ true
    → ordered_from low ts ≡ true
    → ordered_from low (run_of lo hi x ++ ts) ≡ true
run_ordered low lo hi zero ts a b o p = p
run_ordered low lo hi (suc k) ts a b o p =
    ap (λ v. v && leb lo hi && ordered_from (hi + 1) ts) (le-leb low lo a)
    ∙ (ap (λ v. true && v && ordered_from (hi + 1) ts) (le-leb lo hi b) ∙ o)

pub runs_ordered :
    (xs : List ℕ) (low lo byte : ℕ) → low ≤ lo → lo ≤ byte → ordered_from low (runs_from lo byte xs) ≡ true
runs_ordered [] low lo byte a b = refl
runs_ordered (x ∷ xs) low lo byte a b =
    go (starts_with x xs) (runs_ordered xs low lo (suc byte) a (omega (arith, b)))
    (runs_ordered xs (byte + 1) (suc byte) (suc byte) (omega arith) (omega arith))
    (runs_ordered xs low (suc byte) (suc byte) (omega (arith, a, b)) (omega arith))
  where
    go :
        (s : Bool) → ordered_from low (runs_from lo (suc byte) xs) ≡ true
        → ordered_from (byte + 1) (runs_from (suc byte) (suc byte) xs) ≡ true
        → ordered_from low (runs_from (suc byte) (suc byte) xs) ≡ true
        → ordered_from low
        (cond s (runs_from lo (suc byte) xs) (run_of lo byte x ++ runs_from (suc byte) (suc byte) xs)) ≡ true
    go true p q r = p
    go false p q r = run_ordered low lo byte x (runs_from (suc byte) (suc byte) xs) a b q r

-- The ranges lead to targets.
pub runs_below :
    (n : ℕ) (xs : List ℕ) (lo byte : ℕ) → all_below n xs ≡ true → transitions_below n (runs_from lo byte xs) ≡ true
runs_below n [] lo byte h = refl
runs_below n (x ∷ xs) lo byte h =
    go (starts_with x xs) (runs_below n xs lo (suc byte) c.1) (one x c.0 (runs_below n xs (suc byte) (suc byte) c.1))
  where
    c : (ltb x n ≡ true) × (all_below n xs ≡ true)
    c = and_parts (ltb x n) (all_below n xs) h

    one :
        (x : ℕ) → ltb x n ≡ true → transitions_below n (runs_from (suc byte) (suc byte) xs) ≡ true
        → transitions_below n (run_of lo byte x ++ runs_from (suc byte) (suc byte) xs) ≡ true
    one zero l r = r
    one (suc k) l r = ap (λ v. v && transitions_below n (runs_from (suc byte) (suc byte) xs)) l ∙ r

    go :
        (s : Bool) → transitions_below n (runs_from lo (suc byte) xs) ≡ true
        → transitions_below n (run_of lo byte x ++ runs_from (suc byte) (suc byte) xs) ≡ true
        → transitions_below n
        (cond s (runs_from lo (suc byte) xs) (run_of lo byte x ++ runs_from (suc byte) (suc byte) xs)) ≡ true
    go true p q = p
    go false p q = q

pub runs_next :
    (xs : List ℕ) (lo byte r : ℕ) → In r (nexts (ranges_of (runs_from lo byte xs))) → In r (nexts (dense_from byte xs))
runs_next [] lo byte r i = i
runs_next (x ∷ xs) lo byte r i =
    go (starts_with x xs) (runs_next xs lo (suc byte) r) (runs_next xs (suc byte) (suc byte) r) i
  where
    later : (x : ℕ) → In r (nexts (dense_from (suc byte) xs)) → In r (nexts (dense_from byte (x ∷ xs)))
    later zero j = j
    later (suc k) j = inr j

    one :
        (x : ℕ) → (In r (nexts (ranges_of (runs_from (suc byte) (suc byte) xs)))
        → In r (nexts (dense_from (suc byte) xs)))
        → In r (nexts (ranges_of (run_of lo byte x ++ runs_from (suc byte) (suc byte) xs)))
        → In r (nexts (dense_from byte (x ∷ xs)))
    one zero ih j = ih j
    one (suc k) ih (inl e) = inl e
    one (suc k) ih (inr j) = inr (ih j)

    go :
        (s : Bool) → (In r (nexts (ranges_of (runs_from lo (suc byte) xs))) → In r (nexts (dense_from (suc byte) xs)))
        → (In r (nexts (ranges_of (runs_from (suc byte) (suc byte) xs))) → In r (nexts (dense_from (suc byte) xs)))
        → In r (nexts
        (ranges_of (cond s (runs_from lo (suc byte) xs) (run_of lo byte x ++ runs_from (suc byte) (suc byte) xs))))
        → In r (nexts (dense_from byte (x ∷ xs)))
    go true f g i = later x (f i)
    go false f g i = one x g i

-- Each target of a dense state is the target of a run.
pub next_runs :
    (xs : List ℕ) (lo byte r : ℕ) → In r (nexts (dense_from byte xs)) → In r (nexts (ranges_of (runs_from lo byte xs)))
next_runs [] lo byte r i = i
next_runs (x ∷ xs) lo byte r i =
    go (starts_with x xs) refl (next_runs xs lo (suc byte) r) (next_runs xs (suc byte) (suc byte) r)
  where
    later :
        (x : ℕ) → starts_with x xs ≡ true → In r (nexts (dense_from byte (x ∷ xs)))
        → In r (nexts (dense_from (suc byte) xs))
    later zero s j = j
    later (suc k) s (inl e) =
        let h = head_is (suc k) xs s in
        subst (λ (z : List ℕ). In r (nexts (dense_from (suc byte) z))) (sym h.1) (inl e)
    later (suc k) s (inr j) = j

    one :
        (x : ℕ) → (In r (nexts (dense_from (suc byte) xs))
        → In r (nexts (ranges_of (runs_from (suc byte) (suc byte) xs))))
        → In r (nexts (dense_from byte (x ∷ xs)))
        → In r (nexts (ranges_of (run_of lo byte x ++ runs_from (suc byte) (suc byte) xs)))
    one zero ih j = ih j
    one (suc k) ih (inl e) = inl e
    one (suc k) ih (inr j) = inr (ih j)

    go :
        (s : Bool) → starts_with x xs ≡ s
        → (In r (nexts (dense_from (suc byte) xs)) → In r (nexts (ranges_of (runs_from lo (suc byte) xs))))
        → (In r (nexts (dense_from (suc byte) xs)) → In r (nexts (ranges_of (runs_from (suc byte) (suc byte) xs))))
        → In r (nexts
        (ranges_of (cond s (runs_from lo (suc byte) xs) (run_of lo byte x ++ runs_from (suc byte) (suc byte) xs))))
    go true e f g = f (later x e i)
    go false e f g = one x g i
