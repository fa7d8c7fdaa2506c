use Rattle.std.proofs.Common.{◌≡◌, ◌∙◌, ◌≤◌, ◌⊎◌, ℕ, Bool, true, false, List, [], ◌∷◌, ◌++◌, length, inl, inr, refl}
use Rattle.std.proofs.Common.{sym, subst, arith}
use Rattle.regex_automata.specs.Promises.{IsTokenAt, Machine}
use Rattle.regex_automata.specs.declared.tokens.Token.{Token}
use Rattle.examples.specs.Tokens.{AreTokens}
use Rattle.examples.proofs.lexer.tokens.Lexer.lex.Goals as goal

-- one more token leaves no gap
more :
    (m : Machine) (text : List ℕ) (from to : ℕ) (ts : List Token) (t : Token)
    → AreTokens m text from to ts → IsTokenAt m text (length text) to t
    → AreTokens m text from t.span.end (ts ++ t ∷ [])
more m text from to [] t e at = (subst (λ k. IsTokenAt m text (length text) k t) (sym e) at, refl)
more m text from to (x ∷ ts) t (first, rest) at = (first, more m text x.span.end to ts t rest at)

-- an iteration that has no next item, and has not failed, is at the end of the text
at_end :
    (failed : Bool) (end place size : ℕ) → (failed ≡ true) ⊎ (end ≤ place) → failed ≡ false → end ≡ size → place ≤ size
    → place ≡ size
at_end failed end place size (inl ended) going same within = absurd (cc)
at_end failed end place size (inr past) going same within = omega (arith, past, same, within)

pub loop-item-preserved : goal.loop-item-preserved
loop-item-preserved c =
    let i = c.loop-item.invariant in
    let m = c.args.self.now.regex.forward in
    let text = c.args.text.now in
    let steps = rw c.in-Ok.is at c.in-Some.ensures.steps in
    let at = rw i.regex at (rw i.haystack at (rw i.end at steps.0.token)) in
    let items =
    subst (AreTokens m text 0 c.in-Ok.token.span.end) (sym c.in_ok-push-in-Ok.ensures.items)
    (more m text 0 c.loop-item.item-iterator.offset c.loop-item.tokens.items c.in-Ok.token i.tiling at) in
    record {
      tiling = subst (λ k. AreTokens m text 0 k c.push.new.self.items) (sym steps.0.place) items;
      within = rw steps.0.place at.within;
      regex = steps.1 ∙ i.regex;
      haystack = steps.3 ∙ i.haystack;
      end = steps.4 ∙ i.end;
      going = steps.0.after;
      same_cache = steps.2 ∙ i.same_cache;
    }

pub returns-in-Err-clause-tokens : goal.returns-in-Err-clause-tokens
returns-in-Err-clause-tokens c =
    let i = c.loop-item.invariant in
    let steps = rw c.in-Err.is at c.in-Some.ensures.steps in
    let none = rw c.in_ok-end-in-Err.ensures at steps.0.error.1 in
    record {
      tiling =
          subst (λ k. AreTokens c.args.self.now.regex.forward c.args.text.now 0 k c.loop-item.tokens.items) (sym none.0)
          i.tiling;
      stops = inr (rw none.0 (rw i.regex at (rw i.haystack at (rw i.end at none.1))));
    }

pub returns-clause-tokens : goal.returns-clause-tokens
returns-clause-tokens c =
    let i = c.loop-item.invariant in
    let s = c.loop-item.item-iterator in
    let all =
    at_end s.failed s.end s.offset (length c.args.text.now) c.in-None.ensures.steps.0.why i.going i.end i.within in
    record {
      tiling =
          subst (λ k. AreTokens c.args.self.now.regex.forward c.args.text.now 0 k c.loop-item.tokens.items) all
          i.tiling;
      stops = inl refl;
    }
