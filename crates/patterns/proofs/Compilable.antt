-- The compiler reports no tree of the parser as malformed.
use Rattle.std.proofs.Common.{ℕ, zero, suc, ◌≡◌, ◌≤◌, Bool, true, false, List, map, Option, Some, None, arith}
use Rattle.std.proofs.Common.{◌∙◌, ap, chars, le_trans, length, subst, sym, true≢false}
use Rattle.std.specs.Prelude.{IsSomeAnd}
use Rattle.regex_class.proofs.RangesLemmas.{in_ranges-nil}
use Rattle.regex_hir.specs.Re.{Re, empty, cat, alt, group, plus}
use Rattle.regex_hir.specs.Meaning.{meaning, node_meaning, cat_all, alt_all, optional, copies, up_to, repeat}
use Rattle.regex_hir.specs.declared.hir.Hir.{Hir, Empty, Literal, Bytes, Chars, Look, Repetition', Capture', Concat'}
use Rattle.regex_hir.specs.declared.hir.Hir.{Alternation', Row_of-Hir, end_of-Hir, more_of-Hir, items-the_row-Hir}
use Rattle.regex_hir.specs.declared.hir.Hir.{items_shown-the_row-Hir-0, map-Hir, fold_out-Hir}
use Rattle.regex_hir.specs.declared.hir.Hir.TheVariants.{outs-Concat', outs-Alternation'}
use Rattle.regex_hir.proofs.MeaningLemmas.{meaning-Empty, meaning-Literal, meaning-Bytes, meaning-Chars, meaning-Look}
use Rattle.regex_hir.proofs.MeaningLemmas.{meaning-Repetition, meaning-Capture}
use Rattle.regex_syntax.specs.declared.Config.{Config}
use Rattle.regex_syntax.specs.Grammar.{Names, group_count, read}
use Rattle.regex_syntax.specs.Verdict.{Reads}
use Rattle.regex_syntax.specs.WellFormed.{IsWellFormed, AreWellFormed}
use Rattle.regex_syntax.proofs.WellFormedLemmas.{max_byte_bounds}
use Rattle.regex_compile.specs.Compilable.{IsCompilable}

-- it is compiled, if all its groups are counted
abbrev Compiles : Re → Type 0
Compiles re = (groups : ℕ) → group_count re ≤ groups → IsCompilable groups re

both : (a b : Re) → Compiles a → Compiles b → Compiles (cat a b)
both a b p q groups few = (p groups (omega (arith, few)), q groups (omega (arith, few)))

either : (a b : Re) → Compiles a → Compiles b → Compiles (alt a b)
either a b p q groups few = (p groups (omega (arith, few)), q groups (omega (arith, few)))

nothing : Compiles empty
nothing groups few = tt

option : (greedy : Bool) (a : Re) → Compiles a → Compiles (optional greedy a)
option true a p = either a empty p nothing
option false a p = either empty a nothing p

copied : (n : ℕ) (a b : Re) → Compiles a → Compiles b → Compiles (copies n a b)
copied zero a b p q = q
copied (suc n) a b p q = both a (copies n a b) p (copied n a b p q)

at_most : (greedy : Bool) (n : ℕ) (a : Re) → Compiles a → Compiles (up_to greedy n a)
at_most greedy zero a p = nothing
at_most greedy (suc n) a p =
    option greedy (cat a (up_to greedy n a)) (both a (up_to greedy n a) p (at_most greedy n a p))

repeated :
    (least : ℕ) (most : Option ℕ) (greedy : Bool) (a : Re) → Compiles a → Compiles (repeat least most greedy a)
unfolding repeat
repeated zero None greedy a p = option greedy (plus greedy a) p
repeated (suc n) None greedy a p = copied n a (plus greedy a) p p
repeated least (Some most) greedy a p = copied least a _ p (at_most greedy _ a p)

captured : (n : ℕ) (a : Re) → Compiles a → Compiles (group n a)
captured n a p groups few = (omega (arith, few), p groups (omega (arith, few)))

module _ (utf8 : Bool) where
  mutual
    tree : (h : Hir) → IsWellFormed utf8 h → Compiles (meaning h)
    tree Empty formed = rw meaning-Empty nothing
    tree (Literal bs) formed = rw meaning-Literal (λ groups few. tt)
    tree (Bytes class) formed =
        rw meaning-Bytes (λ groups few c member. le_trans (formed c member) (max_byte_bounds utf8).1)
    tree (Chars class) formed = rw meaning-Chars (λ groups few. tt)
    tree (Look l) formed = rw meaning-Look (λ groups few. tt)
    tree (Repetition' least most greedy place sub) formed =
        subst Compiles
        (sym (meaning-Repetition least most greedy
        (record { ptr = place.ptr; alloc = place.alloc; value = sub })))
        (repeated least most greedy (meaning sub) (tree sub formed.1))
    tree (Capture' index place sub) formed =
        subst Compiles
        (sym (meaning-Capture index (record { ptr = place.ptr; alloc = place.alloc; value = sub })))
        (captured index (meaning sub) (tree sub formed))
    tree (Concat' shape subs) formed =
        subst Compiles
        (sym (fold_out-Hir Re node_meaning _
        ∙ ap (λ x. node_meaning (map-Hir Hir Re meaning x)) (outs-Concat' shape subs)
        ∙ ap (λ l. cat_all (map meaning l)) (items_shown-the_row-Hir-0 shape subs)))
        (row _ subs formed).0
    tree (Alternation' shape subs) formed =
        subst Compiles
        (sym (fold_out-Hir Re node_meaning _
        ∙ ap (λ x. node_meaning (map-Hir Hir Re meaning x)) (outs-Alternation' shape subs)
        ∙ ap (λ l. alt_all (map meaning l)) (items_shown-the_row-Hir-0 shape subs)))
        (row _ subs formed).1

    row : (n : _) (trees : Row_of-Hir n) → AreWellFormed utf8 trees →
        Compiles (cat_all (map meaning (items-the_row-Hir n trees)))
        × Compiles (alt_all (map meaning (items-the_row-Hir n trees)))
    row n end_of-Hir formed = (nothing, λ groups few b member. absurd (true≢false (sym member ∙ in_ranges-nil b)))
    row n (more_of-Hir sub rest) formed =
        let first = tree sub formed.0 in
        let others = row _ rest formed.1 in
        let parts = map meaning (items-the_row-Hir _ rest) in
        (both (meaning sub) (cat_all parts) first others.0, either (meaning sub) (alt_all parts) first others.1)

-- the text has at least as many names as the tree has groups
groups_named :
    (config : Config) (text : List ℕ) (h : Hir) (names : Names) → Reads config text h names
    → group_count (meaning h) ≤ length names
unfolding Reads
groups_named config text h names reads = at (read config (chars text)) _ reads (λ found facts. facts.3)
  where
    at : {A B : Type 0} (o : Option A) (P : A → Type 0) → IsSomeAnd o P → ((a : A) → P a → B) → B
    at None P never go = absurd never
    at (Some a) P p go = go a p

pub compilable :
    (config : Config) (text : List ℕ) (h : Hir) (names : Names) → Reads config text h names
    → IsWellFormed config.utf8 h → (groups : ℕ) → groups ≡ length names → IsCompilable groups (meaning h)
compilable config text h names reads formed groups counted =
    tree config.utf8 h formed groups (omega (arith, counted, groups_named config text h names reads))
