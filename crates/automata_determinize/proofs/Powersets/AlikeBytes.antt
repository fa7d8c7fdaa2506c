-- Bytes that an automaton does not distinguish.
use Rattle.std.specs.Prelude.{ℕ, ◌≡◌, Bool, true, false, eqb}
use Rattle.automata_base.specs.declared.util.look.Look.{Look}
use Rattle.automata_base.specs.declared.util.look.Look.TheVariants.{StartLF, EndLF}
use Rattle.automata_base.specs.Haystacks.Looks.{is_word_byte}
use Rattle.automata_base.specs.Nfas.Nfa.{takes, any_node}
use Rattle.automata_base.specs.Nfas.Nodes.{Automaton, nfa_of}
use Rattle.automata_base.specs.Powersets.Passes.{is_word_look, is_crlf_look}

-- The looks that ask for the line terminator.
abbrev pub is_line_look : Look → Bool
is_line_look StartLF = true
is_line_look EndLF = true
is_line_look look = false

-- A look that passes the test is among the states.
abbrev pub HasLook : (Look → Bool) → Automaton → Type 0
HasLook test a = any_node test (nfa_of a).nodes ≡ true

-- Neither a state nor a look of the automaton distinguishes the two bytes.
pub record IsAlike (a : Automaton) (u v : ℕ) : Type 0 where
  pub takes : (q : ℕ) → takes (nfa_of a) q u ≡ takes (nfa_of a) q v
  pub line : HasLook is_line_look a → eqb u a.flags.line_terminator ≡ eqb v a.flags.line_terminator
  pub carriage_return : HasLook is_crlf_look a → eqb u 13 ≡ eqb v 13
  pub line_feed : HasLook is_crlf_look a → eqb u 10 ≡ eqb v 10
  pub word : HasLook is_word_look a → is_word_byte u ≡ is_word_byte v
