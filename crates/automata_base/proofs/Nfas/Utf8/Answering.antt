-- What the UTF-8 tests return.
use Rattle.std.proofs.Common.{◌≡◌, ◌↔◌, Bool, true, List, ◌∷◌, Result, Ok, Err, IfOk, IsUtf8}
use Rattle.std.proofs.Common.{ℕ}
use Rattle.std.specs.Prelude.{IsTrue}
use Rattle.automata_base.specs.declared.nfa.thompson.utf8.Class.{Class}
use Rattle.automata_base.specs.Powersets.Cuts.{MatchKind}
use Rattle.automata_base.specs.Retraced.Decoders.{classes_below, EndsAtBoundaries}
use Rattle.automata_base.proofs.Nfas.Utf8.Decoder.{decode}
use Rattle.automata_base.specs.Nfas.Accepted.{IsChecked}
use Rattle.automata_base.specs.Nfas.Engines.{engine_of}
use Rattle.automata_base.specs.Nfas.Nodes.{Automaton}
use Rattle.automata_base.specs.Haystacks.Tapes.{Direction, Forward}
use Rattle.automata_base.specs.Answers.TruePairs.{KeepsUtf8}
use Rattle.automata_base.specs.Nfas.Utf8.{in_order, ReadsUtf8, HasNoLook}
use Rattle.automata_base.proofs.Nfas.Utf8.Decoding.{AreBytes, below, decode_utf8}
use Rattle.automata_base.proofs.Nfas.Utf8.Edges.{chained}
use Rattle.automata_base.proofs.Nfas.Utf8.Keeping.{keeps_from, keeps_back}
use Rattle.automata_base.proofs.Nfas.Utf8.Reading.{ends_reads}
use Rattle.automata_base.proofs.Nfas.Utf8.Tables.{forward, forward_decodes, forward_chained}

-- The decoder is between two characters again exactly after UTF-8.
forward_right : (us : List ℕ) → AreBytes us → decode forward 0 us ≡ 0 ↔ IsUtf8 us
forward_right us bytes = decode_utf8 forward forward_decodes us bytes

abbrev pub IsAnswer : Direction → Automaton → Bool → Type 0
IsAnswer way a b = IsTrue b ↔ (a.flags.utf8 ≡ true → ReadsUtf8 way a)

pub if_ok : {E : Type 0} (r : Result Bool E) (P Q : Bool → Type 0) → ((b : Bool) → P b → Q b) → IfOk r P → IfOk r Q
if_ok (Ok b) P Q f h = f b h
if_ok (Err e) P Q f h = tt

module _ (way : Direction) (a : Automaton) where
  pub answer_keeps : (b : Bool) → IsAnswer way a b → IsTrue b → (kind : MatchKind) → KeepsUtf8 way (engine_of a kind)
  answer_keeps b h t kind = keeps_from way a (h.0 t) kind

  pub answer_exact :
      (b : Bool) → IsAnswer way a b → HasNoLook a → (kind : MatchKind) → IsTrue b ↔ KeepsUtf8 way (engine_of a kind)
  answer_exact b h lookless kind = (λ t. keeps_from way a (h.0 t) kind, λ k. h.1 (keeps_back way a kind lookless k))

  -- In UTF-8 mode, by a walk.
  walked :
      (cs : List Class) → chained 0 cs ≡ true → classes_below cs ≡ true
      → ((us : List ℕ) → AreBytes us → decode cs 0 us ≡ 0 ↔ IsUtf8 (in_order way us)) → IsChecked a
      → a.flags.utf8 ≡ true
      → (b : Bool) → IsTrue b ↔ EndsAtBoundaries cs a.states (a.start_anchored ∷ a.start_pattern) → IsAnswer way a b
  walked cs chain small right checked utf8 b h =
      let w =
      ends_reads a cs chain small (λ us. IsUtf8 (in_order way us)) (a.start_anchored ∷ a.start_pattern) checked.ordered
      right in
      (λ t _. w.0 (h.0 t), λ f. h.1 (w.1 (f utf8)))

pub walked_forward :
    (a : Automaton) → IsChecked a → a.flags.utf8 ≡ true
    → (b : Bool) → IsTrue b ↔ EndsAtBoundaries forward a.states (a.start_anchored ∷ a.start_pattern)
    → IsAnswer Forward a b
walked_forward a checked utf8 =
    walked Forward a forward forward_chained (below forward forward_decodes) forward_right checked utf8
