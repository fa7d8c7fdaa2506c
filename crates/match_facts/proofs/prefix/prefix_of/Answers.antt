use Rattle.std.proofs.Common.{ℕ, List, ◌≡◌, ◌<◌, arith, length, map, IfOk, Ok, Vec, Result, Err, Global, subst, sym}
use Rattle.std.proofs.lemmas.List.{length-map}
use Rattle.regex_hir.specs.Meaning.{meaning}
use Rattle.regex_literal.specs.Find.{needle_at}
use Rattle.regex_extract.specs.Needles.{StartsWithNeedle, needles_of}
use Rattle.match_facts.specs.Facts.{StartsWith}
use Rattle.match_facts.specs.Prefixes.{BeginsWith}
use Rattle.match_facts.proofs.Prefixes.{starts_with_none, starts_with_shared}
use Rattle.match_facts.proofs.prefix.prefix_of.Goals as goal

if_ok : {A E : Type 0} (P Q : A → Type 0) (r : Result A E) → ((x : A) → P x → Q x) → IfOk r P → IfOk r Q
if_ok P Q (Ok x) f p = f x p
if_ok P Q (Err e) f p = p

-- what `common_prefix` promises of the texts that it is given
abbrev AllBegin : (bytes : List ℕ) → List (Vec ℕ Global) → Type 0
AllBegin bytes vs = (n : ℕ) → n < length vs → BeginsWith bytes (needle_at (map (λ v. v.items) vs) n)

pub returns-in-Ok-Some : goal.returns-in-Ok-Some
returns-in-Ok-Some c =
    let re = meaning c.args.hir.now in
    let needles = c.in-Ok-Some.needles in
    let starts : StartsWithNeedle re (needles_of needles) =
    rw c.in-Ok-Some.field-0-is at c.in-Ok-Some.ensures.starts in
    let shared =
    subst (λ vs. AllBegin c.common_prefix.result.now vs) c.as_slice.ensures.value c.common_prefix.ensures in
    if_ok (λ v. v.items ≡ c.common_prefix.result.now) (λ v. StartsWith re v.items) c.from_slice.result
    (λ v is. subst (StartsWith re) (sym is)
    (starts_with_shared re (needles_of needles) c.common_prefix.result.now
    (λ n lt. shared n (omega (arith, lt, length-map needles.items (λ v. v.items)))) starts))
    c.from_slice.ensures.items

pub returns-in-Ok-None : goal.returns-in-Ok-None
returns-in-Ok-None c =
    subst (StartsWith (meaning c.args.hir.now)) (sym c.new.ensures.items) (starts_with_none (meaning c.args.hir.now))
