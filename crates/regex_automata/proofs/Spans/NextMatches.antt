-- One match after another.
use Rattle.std.proofs.Common.{ℕ, suc, ◌≡◌, ◌∙◌, ◌<◌, ◌≤◌, ◌⊎◌, inl, inr, Option, Some, None, sym, ap, subst, arith}
use Rattle.std.specs.Prelude.{Result, Ok, Err, IfOk, IfSome, OnErr}
use Rattle.automata_base.specs.Haystacks.Input.{Input}
use Rattle.automata_base.specs.Haystacks.Matches.{Match}
use Rattle.automata_base.specs.Answers.Spans.{FindsLater, IsEmptyAt, from}
use Rattle.automata_config.specs.declared.error.SearchError.{SearchError}
use Rattle.automata_hybrid.specs.Known.Stores.{known_of}
use Rattle.automata_hybrid.proofs.Known.Growth.{grown_trans}
use Rattle.regex_automata.specs.Spans.Iteration.{GoesPast, IsNextMatch}
use Rattle.regex_automata.specs.Spans.Outcomes.{FindsMatch, MatchLiesIn}
use Rattle.regex_automata.specs.Regexes.Caches.{AreGrown}
use Rattle.regex_automata.specs.declared.hybrid.regex.Regex.{Regex}
use Rattle.regex_automata.specs.declared.hybrid.regex.caches.Cache.{Cache}
use Rattle.regex_automata.proofs.Results.{err_ok}
use Rattle.automata_base.proofs.Paths.Orders.{none_some, some_inj}
use Rattle.std.proofs.lemmas.Bool.{cases_lt}

pub on_err : {A E : Type 0} (r : Result A E) (P : Type 0) → P → OnErr r P
on_err (Ok a) P p = tt
on_err (Err e) P p = p

-- a search that failed had a span to search
pub ahead_of :
    {A E : Type 0} (r : Result A E) (e : E) (a : A) (start end : ℕ) → (end < start → r ≡ Ok a) → r ≡ Err e → start ≤ end
ahead_of r e a start end done is = go (cases_lt end start) where
  go : (end < start) ⊎ (start ≤ end) → start ≤ end
  go (inl past) = absurd (err_ok (sym is ∙ done past))
  go (inr ahead) = ahead

pub some_of : {A : Type 0} (o : Option A) (a : A) (P : A → Type 0) → IfSome o P → o ≡ Some a → P a
some_of None a P h is = absurd (none_some is)
some_of (Some b) a P h is = subst P (some_inj is) h

-- if the match that is found first is not an empty one at the last end, it ends after the last end
pub past_last :
    (input : Input) (last : Option ℕ) (m : Match) → input.start ≤ m.start → m.start ≤ m.end → (IsEmptyAt last m → ⊥)
    → last ≡ Some input.start → input.start < m.end
past_last input last m a b full same = past (cases_lt input.start m.end) where
  past : (input.start < m.end) ⊎ (m.end ≤ input.start) → input.start < m.end
  past (inl l) = l
  past (inr l) =
      let e : input.start ≡ m.end = omega (arith, a, b, l) in
      let f : m.start ≡ m.end = omega (arith, a, b, l) in
      absurd (full (f, same ∙ ap (λ (n : ℕ). Some n) e))

pub goes_first :
    (p : Regex) (input : Input) (last : Option ℕ) (m : Match) → MatchLiesIn p input m → (IsEmptyAt last m → ⊥)
    → GoesPast p input last m
goes_first p input last m lies full = (lies, past_last input last m lies.0 lies.1 full)

-- an empty match at the last end is replaced by what the search from one offset later finds
module _ (p : Regex) (input : Input) (last : Option ℕ) (m : Match) (found : FindsMatch p input (Some m))
    (empty : IsEmptyAt last m) where
  pub next_later :
      (r : Result (Option Match) SearchError) → IfOk r (FindsMatch p (from (suc input.start) input))
      → IfOk r (IsNextMatch p input last)
  next_later (Ok o) h = FindsLater m found empty h
  next_later (Err e) h = tt

pub goes_later :
    (p : Regex) (input : Input) (last : Option ℕ) (r : Result (Option Match) SearchError)
    → IfOk r (λ o. IfSome o (MatchLiesIn p (from (suc input.start) input)))
    → IfOk r (λ o. IfSome o (GoesPast p input last))
goes_later p input last (Ok None) h = tt
goes_later p input last (Ok (Some n)) h =
    let a : suc input.start ≤ n.start = h.0 in
    let b : n.start ≤ n.end = h.1 in
    ((omega (arith, a), b, h.2, h.3), λ same. omega (arith, a, b))
goes_later p input last (Err e) h = tt

-- two searches grow the caches as one does
pub grown_twice : (p : Regex) (a b c : Cache) → AreGrown p a b → AreGrown p b c → AreGrown p a c
grown_twice p a b c f g = (
  grown_trans p.forward (known_of a.forward) (known_of b.forward) (known_of c.forward) f.0 g.0,
  grown_trans p.reverse (known_of a.reverse) (known_of b.reverse) (known_of c.reverse) f.1 g.1,
)
