-- The facts of one tree of a text hold for each of its trees, since all match alike.
use Rattle.std.proofs.Common.{ℕ, ◌≡◌, ◌<◌, true, cond, nat_eq, List, All, Option, Some, None, is_some, refl, sym, ap}
use Rattle.std.proofs.Common.{◌∙◌, subst, eq-eqb, eqb-true}
use Rattle.std.specs.Prelude.{IsSomeAnd, chars}
use Rattle.regex_hir.specs.Matches.{Matches}
use Rattle.regex_hir.specs.Meaning.{meaning}
use Rattle.regex_hir.specs.Re.{Re, Rest, Trace, accept, attempt}
use Rattle.regex_hir.specs.declared.hir.Hir as kit_hir
use Rattle.regex_hir.proofs.AttemptLemmas.{attempt_complete, attempt_sound, cond_some}
use Rattle.regex_hir.proofs.OptionLemmas.{value_of_IsSome}
use Rattle.regex_syntax.specs.Captures.{SameCaptures, outcome}
use Rattle.regex_syntax.specs.Grammar.{Names, read}
use Rattle.regex_syntax.specs.Verdict.{Reads}
use Rattle.regex_syntax.specs.declared.Config.{Config}
use Rattle.regex_syntax.proofs.CapturesLemmas.{alike_sym, ◌also◌}
use Rattle.match_facts.specs.Facts.{AreFacts, EachMatch}
use Rattle.match_facts.specs.declared.Facts.{Facts}
use Rattle.patterns.specs.Facts.{AreFactsOf}
use Rattle.patterns.specs.Patterns.{config_of}
use Rattle.patterns.specs.declared.compile.Options.{Options}

-- a continuation that accepts only at one offset
only : (j : ℕ) → Rest
only j l = cond (nat_eq l j) (accept l) None

ends_there : (j : ℕ) → is_some (only j j) ≡ true
unfolding only
ends_there j = ap (λ b. is_some (cond b (accept j) None)) (eq-eqb j j refl)

there : (j l : ℕ) (t : Trace) → only j l ≡ Some t → l ≡ j
unfolding only
there j l t e = eqb-true l j (cond_some (nat_eq l j) (accept l) t e).0

seen : (o : Option Trace) → is_some (outcome o) ≡ is_some o
unfolding outcome
seen None = refl
seen (Some t) = refl

-- patterns that match alike for every continuation match the same spans
pub same_matches :
    (a b : Re) → SameCaptures a b → (hay : List ℕ) → All (λ x. x < 256) hay → (i j : ℕ) → Matches hay a i j
    → Matches hay b i j
same_matches a b s hay ok i j m =
    let found = value_of_IsSome (attempt hay b (only j) i)
    (sym (seen (attempt hay b (only j) i)) ∙ ap is_some (sym (s.at hay ok (only j) i))
    ∙ seen (attempt hay a (only j) i) ∙ attempt_complete hay a (only j) i j m (ends_there j)) in
    let c = attempt_sound hay b (only j) i found.0 found.1 in
    subst (Matches hay b i) (there j c.at c.rest c.gave) c.leads

each_same :
    (a b : Re) (P : List ℕ → (i j : ℕ) → Type 0) → SameCaptures b a → EachMatch a P → EachMatch b P
each_same a b P s e hay ok i j w m = e hay ok i j w (same_matches b a s hay ok i j m)

facts_same : (a b : Re) (facts : Facts) → SameCaptures b a → AreFacts a facts → AreFacts b facts
facts_same a b facts s f = record {
  start = λ e. each_same a b _ s (f.start e);
  end = λ e. each_same a b _ s (f.end e);
  prefix = each_same a b _ s f.prefix;
  exact = λ e. each_same a b _ s (f.exact e);
  literals = each_same a b _ s f.literals;
  filled = f.filled;
}

both :
    {A : Type 0} (P Q : A → Type 0) (o : Option A) → IsSomeAnd o P → IsSomeAnd o Q → (x : A) × P x × Q x
both P Q None p q = absurd p
both P Q (Some x) p q = (x, p, q)

-- two trees of one text match alike
pub trees_same :
    (config : Config) (text : List ℕ) (h k : kit_hir.Hir) (names other : Names) → Reads config text h names
    → Reads config text k other → SameCaptures (meaning h) (meaning k)
unfolding Reads
trees_same config text h k names other p q =
    let x = both _ _ (read config (chars text)) p q in x.1.1 also alike_sym x.2.1

pub facts_of_text :
    (options : Options) (text : List ℕ) (h : kit_hir.Hir) (names : Names) (facts : Facts)
    → Reads (config_of options) text h names → AreFacts (meaning h) facts → AreFactsOf options text facts
facts_of_text options text h names facts reads f = record {
  pattern = (meaning h, (h, names, reads, refl));
  hold = λ re m.
      facts_same (meaning h) re facts
      (subst (λ r. SameCaptures r (meaning h)) (sym m.3)
      (trees_same (config_of options) text m.0 h m.1 names m.2 reads)) f;
}
