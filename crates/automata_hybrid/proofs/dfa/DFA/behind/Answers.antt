use Rattle.std.proofs.Common.{ℕ, ◌≡◌, ◌∙◌, ◌+◌, ◌<◌, List, Bool, true, false, map, get_or, ap, subst, refl, sym, arith}
use Rattle.std.specs.List.{range_with_len}
use Rattle.std.specs.Prelude.{eqb, if◌then◌else◌}
use Rattle.std.proofs.lemmas.List.FromFn.{get_or-map-range_with_len}
use Rattle.automata_hybrid.proofs.Words.{behind_of}
use Rattle.automata_base.specs.Haystacks.Looks.{is_word_byte}
use Rattle.automata_hybrid.proofs.dfa.DFA.behind.Goals as goal

-- the kind of a byte that is not the line terminator
abbrev plain : ℕ → ℕ
plain u = if eqb u 10 then 3 else (if eqb u 13 then 4 else (if is_word_byte u then 1 else 0))

plain_read : (xs : List ℕ) (u d : ℕ) → xs ≡ map plain (range_with_len 0 256) → u < 256 → get_or xs u d ≡ plain u
plain_read xs u d e l =
    let same : 0 + u ≡ u = omega arith in
    ap (λ ys. get_or ys u d) e ∙ get_or-map-range_with_len plain 0 256 u u d l same

kind_of :
    (line feed end word : Bool) → end ≡ false
    → ◌≡◌ {A = ℕ} (if line then 3 else (if feed then 4 else (if word then 1 else 0)))
    (if line then 3 else (if feed then 4 else (if end then 5 else (if word then 1 else 0))))
kind_of true feed end word other = refl
kind_of false true end word other = refl
kind_of false false false word other = refl
kind_of false false true word other = cc

kind_below : (line feed word : Bool) → (if line then 3 else (if feed then 4 else (if word then 1 else 0))) < 6
kind_below true feed word = omega arith
kind_below false true word = omega arith
kind_below false false true = omega arith
kind_below false false false = omega arith

here : (c : goal.After-from-2) → c.from-2.result ≡ plain c.in-Some.byte
here c = c.from-2.ensures ∙ plain_read _ c.from.result 0 refl (omega (arith, c.from.ensures)) ∙ ap plain c.from.ensures

pub returns-clause-value : goal.returns-clause-value
returns-clause-value c =
    let t : ℕ = c.args.self.now.nfa.flags.line_terminator in
    let other : eqb c.in-Some.byte t ≡ false = grind arith in
    here c
    ∙ kind_of (eqb c.in-Some.byte 10) (eqb c.in-Some.byte 13) (eqb c.in-Some.byte t) (is_word_byte c.in-Some.byte) other
    ∙ ap (behind_of t) (sym c.in-Some.is)

pub returns-clause-below : goal.returns-clause-below
returns-clause-below c =
    subst (λ n. n < 6) (sym (here c))
    (kind_below (eqb c.in-Some.byte 10) (eqb c.in-Some.byte 13) (is_word_byte c.in-Some.byte))
