use Rattle.std.proofs.Common.{ℕ, List, [], ◌∷◌, ◌++◌, ◌≡◌, ◌<◌, ◌==◌, true, false, length, map, refl, ap, ◌∙◌, arith}
use Rattle.std.proofs.lemmas.Bool.Decides.{nat_tests}
use Rattle.std.proofs.lemmas.List.{map-append}
use Rattle.match_facts.proofs.Runs.{ends_more, ends_same}
use Rattle.match_facts.proofs.literals.Run.end.Goals as goal

no_items : (n : ℕ) (xs : List ℕ) → n ≡ length xs → true ≡ (n == 0) → xs ≡ []
no_items n [] l e = refl
no_items n (x ∷ xs) l e = absurd (grind (arith, nat_tests))

some_items : (n : ℕ) (xs : List ℕ) → n ≡ length xs → false ≡ (n == 0) → 0 < length xs
some_items n xs l e = grind (arith, nat_tests)

pub returns-then-is_empty : goal.returns-then-is_empty
returns-then-is_empty c =
    let last = c.args.self.now.last in
    ends_same _ _ refl (no_items last.len last.items last.ok.0 c.if-is_empty.ensures)

pub returns : goal.returns
returns c =
    let last = c.args.self.now.last in
    let before = c.args.self.now.literals.items in
    ends_more _ _ (some_items last.len last.items last.ok.0 c.if-is_empty.ensures)
    (ap (map (λ n. n.items)) c.in_ok-push.ensures.items ∙ map-append (λ n. n.items) before (c.replace-last.result ∷ [])
    ∙ ap (λ v. map (λ n. n.items) before ++ v.items ∷ []) c.replace-last.ensures.value)
    (ap (λ v. v.items) c.replace-last.ensures.after ∙ c.new.ensures.items)
