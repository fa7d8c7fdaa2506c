-- Replies one after another.
use Rattle.std.proofs.Common.{◌≡◌, ◌∙◌, ℕ, zero, suc, ◌+◌, ◌<◌, ◌≤◌, List, [], ◌∷◌, ◌++◌, length, drop, get_or}
use Rattle.std.proofs.Common.{append_assoc, append-nil, add-one, ap, arith, drop-cons, refl, subst, sym}
use Rattle.std.proofs.Math.ListN.{drop_of_length-le}
use Rattle.replay.specs.Histories.{History, start, after}
use Rattle.replay.specs.Caches.{AreAnsweredAfter, AreOfCurrent, IsRequestEffect}
use Rattle.replay.specs.Replies.{IsReply, AreReplies, AreRepliesAfter}
use Rattle.regex_automata.specs.declared.hybrid.regex.caches.Cache.{Cache}
use Rattle.regex_automata.specs.declared.hybrid.regex.Regex.{Regex}
use Rattle.replay.specs.declared.requests.Request.{Request}
use Rattle.replay.specs.declared.requests.Reply.{Reply}
use Rattle.replay.specs.declared.requests.Reply.TheVariants as reply
use Rattle.replay.specs.declared.requests.Fault.TheVariants as fault

module _ (regexes : List Regex) (script : List Request) where
  -- the remaining replies, after this history, complete the replies so far
  abbrev pub Completes : List Reply → History → List Request → Type 0
  Completes done h left =
      (rest : List Reply) → AreRepliesAfter regexes h left rest → AreReplies regexes script (done ++ rest)

  completes_next :
      (done : List Reply) (h : History) (q : Request) (left : List Request) (r : Reply)
      → Completes done h (q ∷ left) → IsReply regexes h q r → Completes (done ++ r ∷ []) (after h q r) left
  completes_next done h q left r all own = λ rest more.
      subst (λ (xs : List Reply). AreReplies regexes script xs) (sym (append_assoc done (r ∷ []) rest))
      (all (r ∷ rest) (own, more))

  -- one more reply, as a loop over the script makes it
  pub completes_turn :
      (done new : List Reply) (h : History) (i : ℕ) (q : Request) (r : Reply)
      → i < length script → q ≡ get_or script i q → Completes done h (drop i script) → IsReply regexes h q r
      → new ≡ done ++ r ∷ [] → Completes new (after h q r) (drop (i + 1) script)
  completes_turn done new h i q r lt is all own e =
      let cut : drop i script ≡ q ∷ drop (i + 1) script =
      rw add-one (drop-cons script i q lt ∙ ap (λ (x : Request). x ∷ drop (suc i) script) (sym is)) in
      subst (λ (xs : List Reply). Completes xs (after h q r) (drop (i + 1) script)) (sym e)
      (completes_next done h q (drop (i + 1) script) r
      (subst (λ (left : List Request). Completes done h left) cut all) own)

  -- after the last request the replies are complete
  pub completes_end :
      (done : List Reply) (h : History) (i : ℕ)
      → length script ≤ i → Completes done h (drop i script) → AreReplies regexes script done
  completes_end done h i le all =
      let ended = subst (λ (left : List Request). Completes done h left) (drop_of_length-le script le) all in
      subst (λ (xs : List Reply). AreReplies regexes script xs) (append-nil done) (ended [] tt)

-- the caches over which the remaining requests are answered continue the caches of the replies so far
module _ (regexes : List Regex) (script : List Request) (first : Cache) where
  abbrev pub Continues : List Reply → History → Cache → List Request → Type 0
  Continues done h at left =
      (rest : List Reply) → AreAnsweredAfter regexes h at left rest
      → AreAnsweredAfter regexes start first script (done ++ rest)

  pub continues_turn :
      (done new : List Reply) (h : History) (at next : Cache) (i : ℕ) (q : Request) (r : Reply)
      → i < length script → q ≡ get_or script i q → Continues done h at (drop i script)
      → AreOfCurrent regexes (after h q r) next → IsRequestEffect regexes h q r at next
      → new ≡ done ++ r ∷ [] → Continues new (after h q r) next (drop (i + 1) script)
  continues_turn done new h at next i q r lt is all of made e = λ rest more.
      let cut : drop i script ≡ q ∷ drop (i + 1) script =
      rw add-one (drop-cons script i q lt ∙ ap (λ (x : Request). x ∷ drop (suc i) script) (sym is)) in
      subst (λ (xs : List Reply). AreAnsweredAfter regexes start first script (xs ++ rest)) (sym e)
      (subst (λ (xs : List Reply). AreAnsweredAfter regexes start first script xs)
      (sym (append_assoc done (r ∷ []) rest))
      (subst (λ (left : List Request). Continues done h at left) cut all (r ∷ rest) (next, of, made, more)))

  pub continues_end :
      (done : List Reply) (h : History) (at : Cache) (i : ℕ)
      → length script ≤ i → Continues done h at (drop i script) → AreAnsweredAfter regexes start first script done
  continues_end done h at i le all =
      let ended = subst (λ (left : List Request). Continues done h at left) (drop_of_length-le script le) all in
      subst (λ (xs : List Reply). AreAnsweredAfter regexes start first script xs) (append-nil done) (ended [] tt)

cut_at : (script : List Request) (i : ℕ) → i < length script → (q : Request) × (drop i script ≡ q ∷ drop (suc i) script)
cut_at [] i lt = absurd (omega arith)
cut_at (q ∷ qs) zero lt = (q, refl)
cut_at (q ∷ qs) (suc i) lt = let (r, e) = cut_at qs i (omega arith) in (r, e)

module _ (script : List Request) where
  -- without a regex, the remaining replies, after any history, complete the replies so far
  abbrev pub AllBad : List Reply → List Request → Type 0
  AllBad done left =
      (rest : List Reply) → ((h : History) → AreRepliesAfter [] h left rest)
      → (h : History) → AreRepliesAfter [] h script (done ++ rest)

  pub all_bad_turn :
      (done new : List Reply) (i : ℕ) → i < length script
      → AllBad done (drop i script) → new ≡ done ++ reply.Bad fault.NoRegex ∷ [] → AllBad new (drop (i + 1) script)
  all_bad_turn done new i lt all e = λ rest more h.
      let (q, at) = cut_at script i lt in
      let cut : drop i script ≡ q ∷ drop (i + 1) script =
      subst (λ n. drop i script ≡ q ∷ drop n script) (sym (add-one i)) at in
      let bad = reply.Bad fault.NoRegex in
      let turned : AreRepliesAfter [] h script (done ++ (bad ∷ rest)) =
      all (bad ∷ rest)
      (λ g. subst (λ (left : List Request). AreRepliesAfter [] g left (bad ∷ rest)) (sym cut)
      (refl, more (after g q bad)))
      h in
      subst (λ (xs : List Reply). AreRepliesAfter [] h script (xs ++ rest)) (sym e)
      (subst (λ (xs : List Reply). AreRepliesAfter [] h script xs) (sym (append_assoc done (bad ∷ []) rest)) turned)

  pub all_bad_end :
      (done : List Reply) (i : ℕ) → length script ≤ i → AllBad done (drop i script) → AreReplies [] script done
  all_bad_end done i le all =
      subst (λ (xs : List Reply). AreReplies [] script xs) (append-nil done)
      (all []
      (λ g. subst (λ (left : List Request). AreRepliesAfter [] g left []) (sym (drop_of_length-le script le)) tt)
      start)
