-- The capacity that an error names is enough for both DFAs.
use Rattle.std.proofs.Common.{ℕ, ◌≡◌, ◌∙◌, ◌<◌, ◌≤◌, ◌==◌, ◌&&◌, ◌⊎◌, inl, inr, Bool, Option, None, Some, true, false}
use Rattle.std.proofs.Common.{cond, max, min, not, ◌*◌}
use Rattle.std.proofs.Common.{ltb, arith, ap, refl, sym, subst}
use Rattle.std.specs.Prelude.{IfErr, Result, Ok, Err}
use Rattle.std.specs.Result.{result_err}
use Rattle.std.proofs.Math.Nat.{le-max_left, le-max_right}
use Rattle.std.proofs.lemmas.Bool.{eq-eqb, lt-ltb, ltb-true}
use Rattle.automata_base.specs.Nfas.Nodes.{Automaton}
use Rattle.automata_config.specs.Options.{Options, cache_capacity_of, cache_limit_of, skip_cache_capacity_check_of}
use Rattle.automata_config.specs.Settling.{greatest_offset, has_unicode_word, is_unsupported, max_offset}
use Rattle.automata_config.specs.Settling.{settled_minimum}
use Rattle.automata_config.specs.Settling.{settled_quits, settling_error}
use Rattle.automata_config.specs.declared.error.BuildError.{BuildError}
use Rattle.automata_config.specs.declared.error.BuildError.TheVariants.{InsufficientCacheCapacity}
use Rattle.automata_config.specs.declared.error.BuildError.TheVariants.{InsufficientStateIDCapacity}
use Rattle.automata_config.specs.declared.error.BuildError.TheVariants.{PatternCounts, Unsupported}
use Rattle.regex_automata.specs.Regexes.Builds.{NamesEnough, backward, error_of_both, error_of_two, pair_error}
use Rattle.regex_automata.specs.Regexes.Builds.{pattern_count}
use Rattle.regex_automata.specs.declared.hybrid.regex.Regex.{Regex}

-- the error of settings, by what the tests say
abbrev tested : (unsupported skips small great : Bool) (capacity minimum attempted : ℕ) → Option BuildError
tested u s d b capacity minimum attempted =
    cond u (Some Unsupported)
    (cond (not s && d) (Some (InsufficientCacheCapacity minimum capacity))
    (cond b (Some (InsufficientStateIDCapacity attempted)) None))

-- the error is a capacity that is too small
abbrev IsOfCapacity : Option BuildError → Type 0
IsOfCapacity e = (minimum given : ℕ) × (e ≡ Some (InsufficientCacheCapacity minimum given))

small_is :
    (u s d b : Bool) (capacity minimum attempted a g : ℕ)
    → tested u s d b capacity minimum attempted ≡ Some (InsufficientCacheCapacity a g)
    → (u ≡ false) × (s ≡ false) × (d ≡ true) × (a ≡ minimum)
small_is true s d b c m n a g h = absurd (let f : ⊥ = cc in f)
small_is false true d true c m n a g h = absurd (let f : ⊥ = cc in f)
small_is false true d false c m n a g h = absurd (let f : ⊥ = cc in f)
small_is false false true b c m n a g h = (refl, refl, refl, cc)
small_is false false false true c m n a g h = absurd (let f : ⊥ = cc in f)
small_is false false false false c m n a g h = absurd (let f : ⊥ = cc in f)

small_of :
    (u s d b : Bool) (capacity minimum attempted : ℕ) → u ≡ false → s ≡ false → d ≡ true
    → tested u s d b capacity minimum attempted ≡ Some (InsufficientCacheCapacity minimum capacity)
small_of u s d b c m n fine kept small = rw (fine, kept, small) refl

-- a capacity that is raised to four times the minimum as far as the limit allows
abbrev raised : (capacity limit minimum : ℕ) → ℕ
raised capacity limit minimum = max capacity (min limit (4 * minimum))

abbrev tested_at : (u s b : Bool) (limit minimum attempted capacity : ℕ) → Option BuildError
tested_at u s b limit minimum attempted capacity =
    tested u s (ltb (raised capacity limit minimum) minimum) b (raised capacity limit minimum) minimum attempted

-- if each minimum that was named is within a greater capacity, the settings do not fail for that capacity
module _ (u s b : Bool) (limit capacity greater minimum attempted : ℕ) (grows : capacity ≤ greater) where
  within :
      ((a g : ℕ) → tested_at u s b limit minimum attempted capacity ≡ Some (InsufficientCacheCapacity a g)
      → a ≤ greater)
      → IsOfCapacity (tested_at u s b limit minimum attempted greater) → ⊥
  within named (a, g, is) =
      let old : ℕ = raised capacity limit minimum in
      let new : ℕ = raised greater limit minimum in
      let (fine, kept, less, _) = small_is u s (ltb new minimum) b new minimum attempted a g is in
      let below : new < minimum = ltb-true new minimum less in
      let small : old < minimum = omega (arith, grows, below) in
      let most : minimum ≤ greater =
      named minimum old (small_of u s (ltb old minimum) b old minimum attempted fine kept (lt-ltb old minimum small))
      in
      omega (arith, below, most)

-- if two DFAs fail together for their capacity, one of them does
either_of : (e f : Option BuildError) → IsOfCapacity (error_of_two e f) → IsOfCapacity e ⊎ IsOfCapacity f
either_of None f of = inr of
either_of (Some (InsufficientCacheCapacity m g)) f of = inl (m, g, refl)
either_of (Some e) None (m, g, is) = absurd (let f : ⊥ = cc in f)
either_of (Some e) (Some f) (m, g, is) = absurd (let f : ⊥ = cc in f)

first_of :
    (a h : ℕ) (f : Option BuildError) (m g : ℕ)
    → error_of_two (Some (InsufficientCacheCapacity a h)) f ≡ Some (InsufficientCacheCapacity m g) → a ≤ m
first_of a h None m g is = let e : a ≡ m = cc in omega (arith, e)
first_of a h (Some (InsufficientCacheCapacity b k)) m g is =
    let e : max a b ≡ m = cc in subst (λ n. a ≤ n) e (le-max_left a b)
first_of a h (Some f) m g is = let e : a ≡ m = cc in omega (arith, e)

second_of :
    (e : Option BuildError) (b k m g : ℕ)
    → error_of_two e (Some (InsufficientCacheCapacity b k)) ≡ Some (InsufficientCacheCapacity m g) → b ≤ m
second_of None b k m g is = let e : b ≡ m = cc in omega (arith, e)
second_of (Some (InsufficientCacheCapacity a h)) b k m g is =
    let e : max a b ≡ m = cc in subst (λ n. b ≤ n) e (le-max_right a b)
second_of (Some e) b k m g is = absurd (let f : ⊥ = cc in f)

-- two DFAs over the same capacity
module _ (u v s b d : Bool) (limit m n i j capacity minimum given : ℕ)
    (is : error_of_two (tested_at u s b limit m i capacity) (tested_at v s d limit n j capacity)
    ≡ Some (InsufficientCacheCapacity minimum given)) where
  first_named :
      (a g : ℕ) → tested_at u s b limit m i capacity ≡ Some (InsufficientCacheCapacity a g) → a ≤ minimum
  first_named a g e =
      first_of a g (tested_at v s d limit n j capacity) minimum given
      (subst
      (λ x. error_of_two x (tested_at v s d limit n j capacity) ≡ Some (InsufficientCacheCapacity minimum given)) e is)

  second_named :
      (a g : ℕ) → tested_at v s d limit n j capacity ≡ Some (InsufficientCacheCapacity a g) → a ≤ minimum
  second_named a g e =
      second_of (tested_at u s b limit m i capacity) a g minimum given
      (subst
      (λ x. error_of_two (tested_at u s b limit m i capacity) x ≡ Some (InsufficientCacheCapacity minimum given)) e is)

  grows_by :
      IsOfCapacity (tested_at u s b limit m i capacity) ⊎ IsOfCapacity (tested_at v s d limit n j capacity)
      → capacity ≤ minimum
  grows_by (inl (a, g, e)) =
      let old : ℕ = raised capacity limit m in
      let (_, _, less, same) = small_is u s (ltb old m) b old m i a g e in
      omega (arith, ltb-true old m less, same, first_named a g e)
  grows_by (inr (a, g, e)) =
      let old : ℕ = raised capacity limit n in
      let (_, _, less, same) = small_is v s (ltb old n) d old n j a g e in
      omega (arith, ltb-true old n less, same, second_named a g e)

  grows : capacity ≤ minimum
  grows =
      grows_by
      (either_of (tested_at u s b limit m i capacity) (tested_at v s d limit n j capacity) (minimum, given, is))

  enough_by : IsOfCapacity (tested_at u s b limit m i minimum) ⊎ IsOfCapacity (tested_at v s d limit n j minimum) → ⊥
  enough_by (inl of) = within u s b limit capacity minimum m i grows first_named of
  enough_by (inr of) = within v s d limit capacity minimum n j grows second_named of

  enough : IsOfCapacity (error_of_two (tested_at u s b limit m i minimum) (tested_at v s d limit n j minimum)) → ⊥
  enough of = enough_by (either_of (tested_at u s b limit m i minimum) (tested_at v s d limit n j minimum) of)

-- the errors of settings have this form, also with another capacity
abbrev settings_error : Options → Automaton → (capacity : ℕ) → Option BuildError
settings_error o a capacity =
    tested_at (is_unsupported o a) (skip_cache_capacity_check_of o) (ltb max_offset (greatest_offset o a))
    (cache_limit_of o) (settled_minimum o a) (greatest_offset o a) capacity

settled_with :
    (o : Options) (a : Automaton) (capacity : ℕ)
    → settling_error (record o { cache_capacity = Some capacity }) a ≡ settings_error o a capacity
unfolding greatest_offset has_unicode_word settled_minimum settled_quits
settled_with o a capacity = refl

abbrev errors_at : Options → (forward reverse : Automaton) → (capacity : ℕ) → Option BuildError
errors_at o a b capacity = error_of_two (settings_error o a capacity) (settings_error (backward o) b capacity)

two_with :
    (o : Options) (a b : Automaton) (capacity : ℕ)
    → error_of_two (settling_error (record o { cache_capacity = Some capacity }) a)
    (settling_error (backward (record o { cache_capacity = Some capacity })) b)
    ≡ errors_at o a b capacity
two_with o a b capacity =
    ap (λ e. error_of_two e (settling_error (record (backward o) { cache_capacity = Some capacity }) b))
    (settled_with o a capacity)
    ∙ ap (λ e. error_of_two (settings_error o a capacity) e) (settled_with (backward o) b capacity)

enough_if :
    (o : Options) (a b : Automaton) (minimum given m g : ℕ) (same : Bool) (counts : BuildError)
    → ((k l : ℕ) → counts ≡ InsufficientCacheCapacity k l → ⊥)
    → cond same (errors_at o a b (cache_capacity_of o)) (Some counts) ≡ Some (InsufficientCacheCapacity minimum given)
    → cond same (errors_at o a b minimum) (Some counts) ≡ Some (InsufficientCacheCapacity m g) → ⊥
enough_if o a b minimum given m g false counts others is again =
    others m g (let e : counts ≡ InsufficientCacheCapacity m g = cc in e)
enough_if o a b minimum given m g true counts others is again =
    enough (is_unsupported o a) (is_unsupported (backward o) b) (skip_cache_capacity_check_of o)
    (ltb max_offset (greatest_offset o a)) (ltb max_offset (greatest_offset (backward o) b)) (cache_limit_of o)
    (settled_minimum o a) (settled_minimum (backward o) b) (greatest_offset o a) (greatest_offset (backward o) b)
    (cache_capacity_of o)
    minimum given is
    (m, g, again)

pub enough_of : (o : Options) (a b : Automaton) (e : BuildError) → pair_error o a b ≡ Some e → NamesEnough o a b e
enough_of o a b e is minimum given named m g again =
    enough_if o a b minimum given m g (pattern_count a == pattern_count b)
    (PatternCounts (pattern_count a) (pattern_count b))
    (λ k l same. cc) (is ∙ ap (λ x. Some x) named)
    (subst (λ x. cond (pattern_count a == pattern_count b) x (Some (PatternCounts (pattern_count a) (pattern_count b)))
    ≡ Some (InsufficientCacheCapacity m g)) (two_with o a b minimum) again)

-- what is returned, if the numbers of patterns are equal
pub enough_with :
    (o : Options) (a b : Automaton) (r : Result Regex BuildError)
    → pattern_count a ≡ pattern_count b → result_err r ≡ error_of_both o a b → IfErr r (NamesEnough o a b)
enough_with o a b (Ok p) same is = tt
enough_with o a b (Err e) same is =
    enough_of o a b e
    (ap (λ c. cond c (error_of_both o a b) (Some (PatternCounts (pattern_count a) (pattern_count b))))
    (eq-eqb (pattern_count a) (pattern_count b) same)
    ∙ sym is)
