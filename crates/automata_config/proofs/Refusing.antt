-- When a configuration fails, and what it settles otherwise.
use Rattle.std.proofs.Common.{ℕ, ◌≡◌, ◌<◌, ◌≤◌, ◌&&◌, ◌||◌, Bool, true, false, cond, leb, ltb, List, [], ◌∷◌, length}
use Rattle.std.proofs.Common.{get_or, Some, None, refl, sym, ap, ◌∙◌}
use Rattle.std.specs.List.{list_any}
use Rattle.std.proofs.lemmas.Bool.{le-ltb, lt-ltb}
use Rattle.std.proofs.lemmas.List.FromFn.{fill_by_all}
use Rattle.automata_base.specs.ByteClasses.Classes.{is_quit}
use Rattle.automata_base.specs.Nfas.Nodes.{Automaton}
use Rattle.automata_config.specs.Options.{Options, quits_of, unicode_word_boundary_of}
use Rattle.automata_config.specs.Settling.{has_unicode_word, settled_quits, is_unsupported, is_too_small}
use Rattle.automata_config.specs.Settling.{greatest_offset, settling_error}
use Rattle.automata_config.specs.declared.error.BuildError.{BuildError}
use Rattle.automata_config.specs.declared.error.BuildError.TheVariants.{InsufficientStateIDCapacity}
use Rattle.std.proofs.Math.Bool.{or-false}

pub list_any-same : {X : Type 0} (f g : X → Bool) (xs : List X) → ((x : X) → f x ≡ g x) → list_any f xs ≡ list_any g xs
list_any-same f g [] same = refl
list_any-same f g (x ∷ xs) same = ap (λ z. z || list_any f xs) (same x) ∙ ap (λ z. g x || z) (list_any-same f g xs same)

pub and-false : (b : Bool) → b && false ≡ false
and-false true = refl
and-false false = refl

-- The quit set as it was configured, and with the bytes from 0x80 on.
pub settled_as_set :
    (o : Options) (a : Automaton) (quits : List Bool)
    → length quits ≡ 256 → quits ≡ quits_of o → (has_unicode_word a && unicode_word_boundary_of o) ≡ false
    → quits ≡ settled_quits o a
unfolding settled_quits
settled_as_set o a quits whole set off = fill_by_all _ quits 256 false whole go
  where
    go :
        (k : ℕ) → k < 256
        → get_or quits k false
        ≡ (is_quit (quits_of o) k || (has_unicode_word a && unicode_word_boundary_of o && leb 128 k))
    go k h =
        ap (λ q. get_or q k false) set
        ∙ (sym (or-false (is_quit (quits_of o) k)) ∙ ap (λ z. is_quit (quits_of o) k || (z && leb 128 k)) (sym off))

pub settled_with_non_ascii :
    (o : Options) (a : Automaton) (quits all : List Bool)
    → length all ≡ 256 → quits ≡ quits_of o → (has_unicode_word a && unicode_word_boundary_of o) ≡ true
    → ((byte : ℕ) → byte < 256 → is_quit all byte ≡ (is_quit quits byte || leb 128 byte)) → all ≡ settled_quits o a
unfolding settled_quits
settled_with_non_ascii o a quits all whole set on same = fill_by_all _ all 256 false whole go
  where
    go :
        (k : ℕ) → k < 256
        → get_or all k false
        ≡ (is_quit (quits_of o) k || (has_unicode_word a && unicode_word_boundary_of o && leb 128 k))
    go k h =
        same k h
        ∙ (ap (λ q. is_quit q k || leb 128 k) set ∙ ap (λ z. is_quit (quits_of o) k || (z && leb 128 k)) (sym on))

-- Errors.
pub supported : (u : Bool) (e : BuildError) → None ≡ cond u (Some e) None → u ≡ false
supported true e h = cc
supported false e h = refl

third :
    {X : Type 0} (p q r : Bool) (x y z w : X) → p ≡ false → q ≡ false → cond p x (cond q y (cond r z w)) ≡ cond r z w
third p q r x y z w e f = ap (λ b. cond b x (cond q y (cond r z w))) e ∙ ap (λ b. cond b y (cond r z w)) f

pub refusal-offset :
    (o : Options) (a : Automaton) → is_unsupported o a ≡ false → is_too_small o a ≡ false
    → 134217727 < greatest_offset o a
    → settling_error o a ≡ Some (InsufficientStateIDCapacity (greatest_offset o a))
refusal-offset o a e f g =
    third (is_unsupported o a) (is_too_small o a) (ltb 134217727 (greatest_offset o a)) _ _ _ _ e f
    ∙ ap (λ b. cond b (Some (InsufficientStateIDCapacity (greatest_offset o a))) None)
    (lt-ltb 134217727 (greatest_offset o a) g)

pub refusal-none :
    (o : Options) (a : Automaton) → is_unsupported o a ≡ false → is_too_small o a ≡ false
    → greatest_offset o a ≤ 134217727
    → settling_error o a ≡ None
refusal-none o a e f g =
    third (is_unsupported o a) (is_too_small o a) (ltb 134217727 (greatest_offset o a)) _ _ _ _ e f
    ∙ ap (λ b. cond b (Some (InsufficientStateIDCapacity (greatest_offset o a))) None)
    (le-ltb 134217727 (greatest_offset o a) g)
