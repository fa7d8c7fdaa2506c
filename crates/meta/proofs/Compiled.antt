-- The programs of texts find the groups of what the texts mean.
use Rattle.std.proofs.Common.{ℕ, suc, ◌≡◌, ◌+◌, ◌<◌, ◌∙◌, List, [], ◌∷◌, ◌++◌, Bor, Option, Some, None, length, map}
use Rattle.std.proofs.Common.{take, get_or}
use Rattle.std.proofs.Common.{add-one, ap, arith, option_map, refl, subst, sym}
use Rattle.std.specs.Prelude.{IsSomeAnd, chars, slice_get}
use Rattle.std.proofs.lemmas.List.{length-map, length-take-le, map-append, take-map}
use Rattle.std.proofs.lemmas.Option.{slice_get-get_or, slice_get-map}
use Rattle.std.proofs.Math.Seq.{take-suc}
use Rattle.regex_hir.specs.Meaning.{meaning}
use Rattle.regex_hir.specs.Re.{Re, accept}
use Rattle.regex_hir.specs.declared.hir.Hir as kit_hir
use Rattle.regex_nfa.specs.declared.nfa.Nfa.{Nfa}
use Rattle.regex_syntax.specs.Captures.{SameCaptures}
use Rattle.regex_syntax.specs.Grammar.{Names, read}
use Rattle.regex_syntax.specs.Verdict.{Reads}
use Rattle.regex_syntax.specs.declared.Config.{Config}
use Rattle.regex_syntax.proofs.CapturesLemmas.{alike_sym, ◌also◌}
use Rattle.patterns.specs.Faults.{IsFaultOf, IsFirstFault}
use Rattle.patterns.specs.Patterns.{AreMeanings, IsMeaning, config_of}
use Rattle.patterns.specs.declared.compile.Options.{Options}
use Rattle.patterns.specs.declared.error.Fault.{Fault}
use Rattle.meta.specs.Groups.{FindAllGroups, FindsGroups}
use Rattle.meta.specs.Programs.{AreProgramsOf, IsProgramOf}
use Rattle.meta.specs.declared.program.Program.{Program}

both :
    {A : Type 0} (P Q : A → Type 0) (o : Option A) → IsSomeAnd o P → IsSomeAnd o Q → (x : A) × P x × Q x
both P Q None p q = absurd p
both P Q (Some x) p q = (x, p, q)

-- two trees of one text match alike, with the same groups
trees_same :
    (config : Config) (text : List ℕ) (h k : kit_hir.Hir) (names other : Names) → Reads config text h names
    → Reads config text k other → SameCaptures (meaning h) (meaning k)
unfolding Reads
trees_same config text h k names other p q =
    let x = both _ _ (read config (chars text)) p q in x.1.1 also alike_sym x.2.1

finds_same : (nfa : Nfa) (a b : Re) → SameCaptures a b → FindsGroups nfa a → FindsGroups nfa b
finds_same nfa a b same finds hay bytes i = finds hay bytes i ∙ same.at hay bytes accept i

finds_meaning :
    (config : Config) (text : List ℕ) (p : Program) (re : Re) → IsProgramOf config text p
    → IsMeaning config text re → FindsGroups p.nfa re
finds_meaning config text p re is m =
    subst (FindsGroups p.nfa) (sym m.3)
    (finds_same p.nfa (meaning is.tree) (meaning m.0)
    (trees_same config text is.tree m.0 _ m.1 is.reads m.2) is.finds)

-- programs of texts find the groups of what the texts mean, whatever trees they are parsed to
pub find_meanings :
    (config : Config) (texts : List (List ℕ)) (ps : List Program) (res : List Re) → AreProgramsOf config texts ps
    → AreMeanings config texts res → FindAllGroups ps res
find_meanings config [] [] [] are means = tt
find_meanings config [] [] (re ∷ res) are means = absurd means
find_meanings config [] (p ∷ ps) res are means = absurd are
find_meanings config (text ∷ texts) [] res are means = absurd are
find_meanings config (text ∷ texts) (p ∷ ps) [] are means = absurd means
find_meanings config (text ∷ texts) (p ∷ ps) (re ∷ res) are means =
    (finds_meaning config text p re are.0 means.0, find_meanings config texts ps res are.1 means.1)

programs_push :
    (config : Config) (texts : List (List ℕ)) (ps : List Program) (text : List ℕ) (p : Program)
    → AreProgramsOf config texts ps → IsProgramOf config text p
    → AreProgramsOf config (texts ++ text ∷ []) (ps ++ p ∷ [])
programs_push config [] [] text p are is = (is, tt)
programs_push config [] (q ∷ ps) text p are is = absurd are
programs_push config (x ∷ texts) [] text p are is = absurd are
programs_push config (x ∷ texts) (q ∷ ps) text p are is = (are.0, programs_push config texts ps text p are.1 is)

-- the programs after one more text
pub programs_next :
    (config : Config) (texts : List (Bor (List ℕ))) (i : ℕ) (d : Bor (List ℕ)) (old new : List Program)
    → i < length texts → AreProgramsOf config (map (λ text. text.now) (take i texts)) old
    → (p : Program) × IsProgramOf config (get_or texts i d).now p × (new ≡ old ++ p ∷ [])
    → AreProgramsOf config (map (λ text. text.now) (take (i + 1) texts)) new
programs_next config texts i d old new inside are more =
    subst (AreProgramsOf config (map (λ (text : Bor (List ℕ)). text.now) (take (i + 1) texts))) (sym more.2)
    (subst (λ v. AreProgramsOf config v (old ++ more.0 ∷ []))
    (sym (map-append (λ (text : Bor (List ℕ)). text.now) (take i texts) (get_or texts i d ∷ []))
    ∙ ap (map (λ (text : Bor (List ℕ)). text.now))
    (sym (take-suc texts i d inside) ∙ ap (λ v. take v texts) (sym (add-one i))))
    (programs_push config (map (λ (text : Bor (List ℕ)). text.now) (take i texts)) old (get_or texts i d).now more.0
    are more.1))

count :
    (config : Config) (texts : List (List ℕ)) (ps : List Program) → AreProgramsOf config texts ps
    → length ps ≡ length texts
count config [] [] are = refl
count config [] (p ∷ ps) are = absurd are
count config (text ∷ texts) [] are = absurd are
count config (text ∷ texts) (p ∷ ps) are = ap suc (count config texts ps are.1)

meanings :
    (config : Config) (texts : List (List ℕ)) (ps : List Program) → AreProgramsOf config texts ps
    → (res : List Re) × AreMeanings config texts res
meanings config [] [] are = ([], tt)
meanings config [] (p ∷ ps) are = absurd are
meanings config (text ∷ texts) [] are = absurd are
meanings config (text ∷ texts) (p ∷ ps) are =
    let rest = meanings config texts ps are.1 in
    (meaning are.0.tree ∷ rest.0, ((are.0.tree, _, are.0.reads, refl), rest.1))

-- the text that has no program, after the texts before it were compiled
pub first_fault :
    (o : Options) (texts : List (Bor (List ℕ))) (i : ℕ) (d : Bor (List ℕ)) (ps : List Program) (number : ℕ)
    (fault : Fault)
    → i < length texts → AreProgramsOf (config_of o) (map (λ text. text.now) (take i texts)) ps
    → number ≡ length ps → IsFaultOf o (get_or texts i d).now fault
    → IsFirstFault o (map (λ text. text.now) texts) (record { number = number; fault = fault })
first_fault o texts i d ps number fault inside are counted at =
    let place : number ≡ i =
    counted ∙ count (config_of o) (map (λ (text : Bor (List ℕ)). text.now) (take i texts)) ps are
    ∙ length-map (take i texts) (λ (text : Bor (List ℕ)). text.now)
    ∙ length-take-le i texts (omega (arith, inside)) in
    let means = meanings (config_of o) (map (λ (text : Bor (List ℕ)). text.now) (take i texts)) ps are in
    record {
      before = (
        means.0,
        subst (λ v. AreMeanings (config_of o) v means.0)
            (sym (take-map (λ (text : Bor (List ℕ)). text.now) i texts)
            ∙ ap (λ n. take n (map (λ (text : Bor (List ℕ)). text.now) texts)) (sym place))
            means.1,
      );
      text = (get_or texts i d).now;
      is = ap (λ n. slice_get (map (λ (text : Bor (List ℕ)). text.now) texts) n) place
          ∙ slice_get-map (λ (text : Bor (List ℕ)). text.now) texts i
          ∙ ap (option_map (λ (text : Bor (List ℕ)). text.now)) (slice_get-get_or texts i d inside);
      fault = at;
    }
