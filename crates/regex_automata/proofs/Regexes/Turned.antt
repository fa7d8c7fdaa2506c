-- Reversing adds no Unicode word boundary.
use Rattle.std.proofs.Common.{ℕ, ◌≡◌, ◌==◌, ◌⊎◌, inl, inr, Bool, true, false, Option, None, Some, cond, eqb}
use Rattle.std.proofs.Common.{refl, ap, ◌∙◌, ◌||◌}
use Rattle.std.proofs.lemmas.Bool.{and_parts, eq-eqb}
use Rattle.automata_base.specs.Haystacks.Looks.{look_index}
use Rattle.automata_base.specs.declared.util.look.Look.{Look}
use Rattle.automata_base.specs.declared.util.look.Look.TheVariants.{WordUnicode, WordUnicodeNegate, WordStartUnicode}
use Rattle.automata_base.specs.declared.util.look.Look.TheVariants.{WordEndUnicode, WordStartHalfUnicode}
use Rattle.automata_base.specs.declared.util.look.Look.TheVariants.{WordEndHalfUnicode}
use Rattle.automata_base.specs.Nfas.Nfa.{Assert}
use Rattle.automata_base.specs.Nfas.Nodes.{Automaton, nfa_of}
use Rattle.automata_base.specs.Powersets.Passes.{Occurs}
use Rattle.automata_base.proofs.Paths.Machines.{code_one, any_node_true, any_node_from}
use Rattle.automata_transform.specs.Nfas.Mirrors.{IsReversalOf, flip}
use Rattle.automata_config.specs.Options.{Options}
use Rattle.automata_config.specs.Settling.{has_unicode_word, is_unsupported, occurs, settling_error}
use Rattle.automata_config.specs.declared.error.BuildError.{BuildError}
use Rattle.automata_config.specs.declared.error.BuildError.TheVariants.{InsufficientCacheCapacity}
use Rattle.automata_config.specs.declared.error.BuildError.TheVariants.{InsufficientStateIDCapacity}
use Rattle.automata_config.specs.declared.error.BuildError.TheVariants.{OutOfMemory, PatternCounts, Unsupported}
use Rattle.regex_automata.specs.Regexes.Builds.{backward, error_of_both, error_of_two, pair_error, pattern_count}

occurs_there : (a : Automaton) (look : Look) → occurs a look ≡ true → Occurs (nfa_of a) look
occurs_there a look t =
    let w = any_node_true (λ (other : Look). eqb (look_index other) (look_index look)) (nfa_of a).nodes t in
    (w.0, w.2, w.3 ∙ ap (λ z. Assert z w.2) (code_one w.1 look w.4))

occurs_back : (a : Automaton) (look : Look) → Occurs (nfa_of a) look → occurs a look ≡ true
occurs_back a look o =
    any_node_from (λ (other : Look). eqb (look_index other) (look_index look)) (nfa_of a).nodes o.0 look o.1 o.2
    (eq-eqb (look_index look) (look_index look) refl)

-- one of six tests that passes
six : (a b c d e f : Bool) → a || (b || (c || (d || (e || (f || false))))) ≡ true
    → (a ≡ true) ⊎ ((b ≡ true) ⊎ ((c ≡ true) ⊎ ((d ≡ true) ⊎ ((e ≡ true) ⊎ (f ≡ true)))))
six true b c d e f h = inl refl
six false true c d e f h = inr (inl refl)
six false false true d e f h = inr (inr (inl refl))
six false false false true e f h = inr (inr (inr (inl refl)))
six false false false false true f h = inr (inr (inr (inr (inl refl))))
six false false false false false true h = inr (inr (inr (inr (inr refl))))
six false false false false false false h = absurd (let f : ⊥ = cc in f)

-- one test that passes is enough
abbrev Six : (a b c d e f : Bool) → Type 0
Six a b c d e f =
    (a ≡ true) ⊎ ((b ≡ true) ⊎ ((c ≡ true) ⊎ ((d ≡ true) ⊎ ((e ≡ true) ⊎ (f ≡ true)))))

six_back : (a b c d e f : Bool) → Six a b c d e f → a || (b || (c || (d || (e || (f || false))))) ≡ true
six_back true b c d e f h = refl
six_back false true c d e f h = refl
six_back false false true d e f h = refl
six_back false false false true e f h = refl
six_back false false false false true f h = refl
six_back false false false false false true h = refl
six_back false false false false false false (inl h) = h
six_back false false false false false false (inr (inl h)) = h
six_back false false false false false false (inr (inr (inl h))) = h
six_back false false false false false false (inr (inr (inr (inl h)))) = h
six_back false false false false false false (inr (inr (inr (inr (inl h))))) = h
six_back false false false false false false (inr (inr (inr (inr (inr h))))) = h

-- a Unicode word boundary of the reversed NFA is one of the other
pub turned_word : (a b : Automaton) → IsReversalOf a b → has_unicode_word b ≡ true → has_unicode_word a ≡ true
unfolding has_unicode_word
turned_word a b r h =
    six_back (occurs a WordUnicode) (occurs a WordUnicodeNegate) (occurs a WordStartUnicode) (occurs a WordEndUnicode)
    (occurs a WordStartHalfUnicode) (occurs a WordEndHalfUnicode)
    (go (six (occurs b WordUnicode) (occurs b WordUnicodeNegate) (occurs b WordStartUnicode) (occurs b WordEndUnicode)
    (occurs b WordStartHalfUnicode) (occurs b WordEndHalfUnicode) h))
  where
    turn : (look : Look) → occurs b look ≡ true → occurs a (flip look) ≡ true
    turn look t = occurs_back a (flip look) (r.flips look (occurs_there b look t))

    go :
        Six (occurs b WordUnicode) (occurs b WordUnicodeNegate) (occurs b WordStartUnicode) (occurs b WordEndUnicode)
        (occurs b WordStartHalfUnicode) (occurs b WordEndHalfUnicode)
        → Six (occurs a WordUnicode) (occurs a WordUnicodeNegate) (occurs a WordStartUnicode) (occurs a WordEndUnicode)
        (occurs a WordStartHalfUnicode) (occurs a WordEndHalfUnicode)
    go (inl t) = inl (turn WordUnicode t)
    go (inr (inl t)) = inr (inl (turn WordUnicodeNegate t))
    go (inr (inr (inl t))) = inr (inr (inr (inl (turn WordStartUnicode t))))
    go (inr (inr (inr (inl t)))) = inr (inr (inl (turn WordEndUnicode t)))
    go (inr (inr (inr (inr (inl t))))) = inr (inr (inr (inr (inr (turn WordStartHalfUnicode t)))))
    go (inr (inr (inr (inr (inr t))))) = inr (inr (inr (inr (inl (turn WordEndHalfUnicode t)))))

-- the first of two errors is the one that is not of the capacity
joined_is :
    (x y : Option BuildError) → error_of_two x y ≡ Some Unsupported → (x ≡ Some Unsupported) ⊎ (y ≡ Some Unsupported)
joined_is None y e = inr e
joined_is (Some Unsupported) y e = inl refl
joined_is (Some (InsufficientCacheCapacity m g)) None e = absurd (let f : ⊥ = cc in f)
joined_is (Some (InsufficientCacheCapacity m g)) (Some (InsufficientCacheCapacity k l)) e =
    absurd (let f : ⊥ = cc in f)
joined_is (Some (InsufficientCacheCapacity m g)) (Some (InsufficientStateIDCapacity k)) e =
    absurd (let f : ⊥ = cc in f)
joined_is (Some (InsufficientCacheCapacity m g)) (Some (PatternCounts k l)) e = absurd (let f : ⊥ = cc in f)
joined_is (Some (InsufficientCacheCapacity m g)) (Some OutOfMemory) e = absurd (let f : ⊥ = cc in f)
joined_is (Some (InsufficientCacheCapacity m g)) (Some Unsupported) e = inr refl
joined_is (Some (InsufficientStateIDCapacity m)) None e = absurd (let f : ⊥ = cc in f)
joined_is (Some (InsufficientStateIDCapacity m)) (Some y) e = absurd (let f : ⊥ = cc in f)
joined_is (Some (PatternCounts m g)) None e = absurd (let f : ⊥ = cc in f)
joined_is (Some (PatternCounts m g)) (Some y) e = absurd (let f : ⊥ = cc in f)
joined_is (Some OutOfMemory) None e = absurd (let f : ⊥ = cc in f)
joined_is (Some OutOfMemory) (Some y) e = absurd (let f : ⊥ = cc in f)

first_is :
    (u t i : Bool) (minimum capacity attempted : ℕ)
    → cond u (Some Unsupported)
    (cond t (Some (InsufficientCacheCapacity minimum capacity))
    (cond i (Some (InsufficientStateIDCapacity attempted)) None)) ≡ Some Unsupported
    → u ≡ true
first_is true t i m c a e = refl
first_is false true i m c a e = absurd (let f : ⊥ = cc in f)
first_is false false true m c a e = absurd (let f : ⊥ = cc in f)
first_is false false false m c a e = absurd (let f : ⊥ = cc in f)

unsupported_word : (o : Options) (a : Automaton) → settling_error o a ≡ Some Unsupported → has_unicode_word a ≡ true
unsupported_word o a e = (and_parts (has_unicode_word a) _ (first_is (is_unsupported o a) _ _ _ _ _ e)).0

-- a pair cannot be built for a Unicode word boundary only if the given NFA has one
pub unicode_of :
    (o : Options) (a b : Automaton) → IsReversalOf a b → pair_error o a b ≡ Some Unsupported
    → has_unicode_word a ≡ true
unicode_of o a b r e = go (pattern_count a == pattern_count b) e
  where
    one : (settling_error o a ≡ Some Unsupported) ⊎ (settling_error (backward o) b ≡ Some Unsupported)
        → has_unicode_word a ≡ true
    one (inl f) = unsupported_word o a f
    one (inr f) = turned_word a b r (unsupported_word (backward o) b f)

    go :
        (same : Bool)
        → cond same (error_of_both o a b) (Some (PatternCounts (pattern_count a) (pattern_count b))) ≡ Some Unsupported
        → has_unicode_word a ≡ true
    go true f = one (joined_is (settling_error o a) (settling_error (backward o) b) f)
    go false f = absurd (let g : ⊥ = cc in g)
