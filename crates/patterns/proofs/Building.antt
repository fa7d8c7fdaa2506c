-- The NFA of patterns answers as the one that joins them, and their regex searches it unchanged: it has no look cycle,
-- so it does not keep unions.
use Rattle.std.proofs.Common.{ℕ, ◌≡◌, ◌∙◌, ◌+◌, ◌↔◌, Bool, true, false, List, length, ap, sym, subst, refl}
use Rattle.std.specs.Prelude.{Result, Ok, Err, IfErr, IsErrAnd, IsTrue}
use Rattle.regex_hir.specs.Re.{Re}
use Rattle.regex_nfa.specs.declared.nfa.Nfa as kit_nfa
use Rattle.automata_base.specs.Laws.Walks.{IsAccepted}
use Rattle.automata_base.specs.Nfas.Accepted.{IsChecked}
use Rattle.automata_base.specs.Nfas.Engines.{BeginsLazily, Engine, LazyLoop}
use Rattle.automata_base.specs.Nfas.Getters.{SkipsLazily}
use Rattle.automata_base.specs.Nfas.Nfa.{Nfa}
use Rattle.automata_transform.specs.Answers.Alike.{AnswerAlike}
use Rattle.automata_transform.specs.Nfas.AnchoredNfas.{AssertsStart, DropsLoop, IsAnchoredNfa, KeepsLoop}
use Rattle.automata_transform.specs.Nfas.FlattenedNfas.{IsFlattenedNfa}
use Rattle.automata_transform.specs.Nfas.MergedNfas.{IsMergedNfa}
use Rattle.automata_base.specs.Nfas.Nodes.{Automaton, nfa_of}
use Rattle.automata_base.specs.Nfas.Unions.{IsKeepingUnions}
use Rattle.automata_config.specs.Options as settings
use Rattle.automata_hybrid.specs.Machines.Machine.{Machine}
use Rattle.automata_transform.proofs.Answers.Anchored.{anchored_alike, anchored_pairs, anchored_utf8}
use Rattle.automata_transform.proofs.Answers.Flattened.{flattened_alike, flattened_pairs, flattened_utf8}
use Rattle.automata_transform.proofs.Answers.Merged.{merged_acyclic, merged_alike, merged_pairs, merged_utf8}
use Rattle.automata_base.proofs.Powersets.ReportsAreRight.{start_below}
use Rattle.regex_automata.specs.Promises.{Forward, IsLookAcyclic, IsSoundPair, LeftmostFirst, No, engine_of}
use Rattle.regex_automata.specs.Regexes.Builds.{BuildsOne}
use Rattle.regex_automata.specs.declared.hybrid.regex.Regex.{Regex}
use Rattle.meaning.specs.Translated.{joined_engine, size_of}
use Rattle.meaning.proofs.Acyclic.{joined_acyclic}
use Rattle.meaning.proofs.Loops.{loops_lazily}
use Rattle.patterns.specs.Drafts.{IsSimplified}
use Rattle.patterns.specs.Patterns.{AnswersAs, AreNfasOf, BeginsAnchoredIfItMay, HasNoLookCycle, IsJoinedNfa}
use Rattle.patterns.specs.Patterns.{IsRegexOf}
use Rattle.patterns.specs.declared.compile.Options.{Options}

dropped : {P : Type 0} (v : Bool) → P → (IsTrue v → P → ⊥) → v ≡ false
dropped true p never = absurd (never refl p)
dropped false p never = refl

-- no cycle of a joined NFA passes a look
has_no_look_cycle :
    (a : Automaton) (ks : List kit_nfa.Nfa) (utf8 : Bool) → engine_of a LeftmostFirst ≡ joined_engine utf8 ks
    → HasNoLookCycle a
has_no_look_cycle a ks utf8 same = subst IsLookAcyclic (sym (ap (λ (d : Engine). d.nfa) same)) (joined_acyclic ks)

-- an NFA whose unions are merged answers as before
answers_as : (a b : Automaton) → IsChecked a → IsMergedNfa a b → AnswersAs a b
answers_as a b checked into = record {
  alike = λ kind. merged_alike a b kind checked into;
  ends =
      λ input pair bytes.
      subst (λ v. IsAccepted Forward a input a.start_unanchored pair ↔ IsAccepted Forward b input v pair)
      (sym into.begins.unanchored)
      (merged_pairs Forward a b input a.start_unanchored pair checked into bytes
      (start_below a No a.start_unanchored checked refl));
  utf8 = λ kind. merged_utf8 a b Forward kind checked into;
  count = ap length (sym into.begins.patterns);
}

-- one whose chains are flattened, too
flattened_as : (a b : Automaton) → IsFlattenedNfa a b → AnswersAs a b
flattened_as a b into = record {
  alike = λ kind. flattened_alike a b kind into;
  ends = λ input pair bytes. flattened_pairs Forward a b input pair into bytes;
  utf8 = λ kind. flattened_utf8 a b Forward kind into;
  count = ap length (sym into.begins.patterns);
}

-- and one without its lazy loop
patterns_same : (a b : Automaton) → IsAnchoredNfa a b → b.start_pattern ≡ a.start_pattern
patterns_same a b (DropsLoop may is) = is.patterns
patterns_same a b (KeepsLoop not is) = ap (λ (v : Automaton). v.start_pattern) is

anchored_as : (a b : Automaton) → IsAnchoredNfa a b → AnswersAs a b
anchored_as a b into = record {
  alike = λ kind. anchored_alike a b kind into;
  ends = λ input pair bytes. anchored_pairs Forward a b input pair into bytes;
  utf8 = λ kind. anchored_utf8 a b Forward kind into;
  count = ap length (sym (patterns_same a b into));
}

-- one after the other
both : {A B C : Type 0} → A ↔ B → B ↔ C → A ↔ C
both f g = ((λ a. g.0 (f.0 a)), (λ c. f.1 (g.1 c)))

alike_both : (d e f : Engine) → AnswerAlike d e → AnswerAlike e f → AnswerAlike d f
alike_both d e f a b = record {
  searches = record {
    answer =
        λ way input o bytes. both (a.searches.answer way input o bytes) (b.searches.answer way input o bytes);
    truth = λ input o bytes. both (a.searches.truth input o bytes) (b.searches.truth input o bytes);
    nearest =
        λ way input o bytes. both (a.searches.nearest way input o bytes) (b.searches.nearest way input o bytes);
    farthest =
        λ way input o bytes. both (a.searches.farthest way input o bytes) (b.searches.farthest way input o bytes);
  };
  matches = record {
    span = λ input o bytes. both (a.matches.span input o bytes) (b.matches.span input o bytes);
    list = λ input ms bytes. both (a.matches.list input ms bytes) (b.matches.list input ms bytes);
    overlapping =
        λ way input found bytes.
        both (a.matches.overlapping way input found bytes) (b.matches.overlapping way input found bytes);
    patterns =
        λ input capacity given found bytes.
        both (a.matches.patterns input capacity given found bytes)
        (b.matches.patterns input capacity given found bytes);
  };
  skipping = both a.skipping b.skipping;
}

answers_both : (a b c : Automaton) → AnswersAs a b → AnswersAs b c → AnswersAs a c
answers_both a b c f g = record {
  alike = λ kind. alike_both (engine_of a kind) (engine_of b kind) (engine_of c kind) (f.alike kind) (g.alike kind);
  ends = λ input pair bytes. both (f.ends input pair bytes) (g.ends input pair bytes);
  utf8 = λ kind. both (f.utf8 kind) (g.utf8 kind);
  count = f.count ∙ g.count;
}

-- paths see the same states without the loop
pub nfa_same : (a b : Automaton) → IsAnchoredNfa a b → nfa_of b ≡ nfa_of a
nfa_same a b (DropsLoop may is) = is.nfa
nfa_same a b (KeepsLoop not is) = ap nfa_of is

-- so the NFA that is built for some patterns joins them
pub joined_is :
    (o : Options) (res : List Re) (ks : List kit_nfa.Nfa) (a b : Automaton) → AreNfasOf o ks res
    → engine_of a LeftmostFirst ≡ joined_engine o.utf8 ks → IsSimplified o.size_limit a b → IsJoinedNfa o res b
joined_is o res ks a b nfas same into = record {
  ks = ks;
  nfas = nfas;
  joined = a;
  joins = same;
  answers =
      answers_both a into.flat b (flattened_as a into.flat into.flattens)
      (answers_both into.flat into.merged b (answers_as into.flat into.merged into.merges.checked into.merges.merges)
      (anchored_as into.merged b into.anchors));
  acyclic =
      subst IsLookAcyclic (sym (nfa_same into.merged b into.anchors))
      (merged_acyclic into.flat into.merged into.merges.checked into.merges.merges
      (into.bounds.acyclic (has_no_look_cycle a ks o.utf8 same)));
  unions =
      ap (λ (n : Nfa). n.keeps_unions) (nfa_same into.merged b into.anchors)
      ∙ (into.merges.merges.begins.unions
      ∙ (into.flattens.begins.unions ∙ ap (λ (d : Engine). d.nfa.keeps_unions) same));
}

-- a joined NFA skips bytes lazily
skips_lazily :
    (a : Automaton) (ks : List kit_nfa.Nfa) (utf8 : Bool) → engine_of a LeftmostFirst ≡ joined_engine utf8 ks
    → SkipsLazily a
skips_lazily a ks utf8 same =
    subst (λ (d : Engine). BeginsLazily d.nfa d.anchored d.unanchored) (sym same)
    (LazyLoop (size_of ks + 2) (loops_lazily ks))

-- and begins anchored if its matches begin only at the start of a haystack
pub begins_anchored :
    (limit : ℕ) (utf8 : Bool) (ks : List kit_nfa.Nfa) (a b : Automaton)
    → engine_of a LeftmostFirst ≡ joined_engine utf8 ks → IsSimplified limit a b → BeginsAnchoredIfItMay b
begins_anchored limit utf8 ks a b same into asserts = go into.anchors
  where
    go : IsAnchoredNfa into.merged b → b.start_unanchored ≡ b.start_anchored
    go (DropsLoop may is) = is.unanchored ∙ sym is.anchored
    go (KeepsLoop not is) =
        absurd
        (not (record {
          asserts = subst AssertsStart is asserts;
          skips = into.merges.skips (into.bounds.skips (skips_lazily a ks utf8 same));
          unions =
              into.merges.merges.begins.unions
              ∙ (into.flattens.begins.unions ∙ ap (λ (d : Engine). d.nfa.keeps_unions) same);
        }))

kept_is : (a kept : Automaton) → HasNoLookCycle a → a.keeps_unions ≡ false → IsKeepingUnions a kept → kept ≡ a
kept_is a kept acyclic old keeping =
    let new : kept.keeps_unions ≡ false = dropped kept.keeps_unions acyclic keeping.1.0 in
    keeping.0 ∙ ap (λ v. record a { keeps_unions = v }) (new ∙ sym old)

-- the forward DFA of a regex that is built from an NFA of patterns is a DFA of this NFA
pub forward_is :
    (o : settings.Options) (options : Options) (res : List Re) (a : Automaton) (p : Regex)
    → IsJoinedNfa options res a → BuildsOne o a p → p.forward.nfa ≡ a
forward_is o options res a p is (kept, b, keeping, reversed, built) =
    ap (λ (m : Machine). m.nfa) built.0.2 ∙ kept_is a kept is.acyclic is.unions keeping

pub regex_is :
    (o : settings.Options) (options : Options) (res : List Re) (a : Automaton) (p : Regex)
    → settings.match_kind_of o ≡ LeftmostFirst → IsJoinedNfa options res a → BuildsOne o a p → IsSoundPair p
    → IsRegexOf options res p
regex_is o options res a p kind is (kept, b, keeping, reversed, built) sound = record {
  sound = sound;
  kind = ap (λ (m : Machine). settings.match_kind_of m.config) built.0.2 ∙ kind;
  joined =
      subst (λ v. IsJoinedNfa options res v)
      (sym (forward_is o options res a p is (kept, b, keeping, reversed, built))) is;
}

-- a property of the error that is returned
pub of_error : {A E : Type 0} (r : Result A E) (e : E) (P : E → Type 0) → IsErrAnd r (λ x. x ≡ e) → P e → IfErr r P
of_error (Ok a) e P is h = absurd is
of_error (Err x) e P is h = subst P (sym is) h
