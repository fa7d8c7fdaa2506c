-- A step of a walk, by the kept walk and by the history.
use Rattle.std.proofs.Common.{◌≡◌, ℕ, ◌+◌, ◌≤◌, List, length, Option, Some, None, Result, Ok, Err, Bool}
use Rattle.std.proofs.Common.{eq-eqb, if◌then◌else◌, sym, subst, ap, refl, ◌∙◌}
use Rattle.std.proofs.Math.ListN.{set}
use Rattle.std.proofs.lemmas.Bool.{ne_eqb}
use Rattle.std.specs.Prelude.{slice_get}
use Rattle.automata_base.specs.Haystacks.Input.{Input}
use Rattle.automata_base.specs.Haystacks.Matches.{HalfMatch}
use Rattle.automata_config.specs.declared.error.SearchError.{SearchError}
use Rattle.regex_automata.specs.declared.hybrid.regex.Regex.{Regex}
use Rattle.replay.specs.Replies.{dfa_in}
use Rattle.regex_automata.specs.Regexes.Caches.{AreCachesOf}
use Rattle.replay.specs.Histories.{Begun, History, stepped, after_step}
use Rattle.replay.specs.Replies.{IsReply, IsStepOf, walk_fault}
use Rattle.regex_automata.specs.Spans.Contracts.{IsStep}
use Rattle.replay.specs.Players.{IsWalk, AreWalks, HasPlayed, HasAnsweredBy, IsStepFrom, MakesOneCall}
use Rattle.replay.specs.Players.{MakesWalkStep}
use Rattle.replay.specs.Caches.{IsRequestEffect, IsCalled, IsMadeByOf, IsWalkStepped, other_of, own_of}
use Rattle.regex_automata.specs.declared.hybrid.regex.caches.Cache.{Cache}
use Rattle.replay.specs.declared.requests.Request.TheVariants as request
use Rattle.replay.specs.declared.requests.Reply.TheVariants as reply
use Rattle.replay.specs.declared.requests.Fault.{Fault}
use Rattle.replay.specs.declared.requests.Fault.TheVariants as fault
use Rattle.replay.specs.declared.players.Player.{Player}
use Rattle.replay.specs.declared.walks.KeptWalk.{KeptWalk}
use Rattle.replay.proofs.Replies.Histories.{is_own, is_bad}
use Rattle.replay.proofs.Replies.KeptWalks.{no_walk, walk_at, same_at, walks_step, walks_same}

-- the walk that is kept with a number belongs to the player's regex
of_current : (h : History) (s : Player) (w : Begun) (k : KeptWalk)
    → HasPlayed h s → IsWalk s.regexes.now w k → k.regex ≡ s.current
    → slice_get s.regexes.now w.regex ≡ Some s.regex.now
of_current h s w k a is e =
    ap (slice_get s.regexes.now) (sym is.regex ∙ e ∙ a.current) ∙ a.regex

reported_there : (h : History) (s : Player) (n : ℕ) (k : KeptWalk)
    → HasPlayed h s → slice_get s.walks.items n ≡ Some k → k.regex ≡ s.current
    → (j : ℕ) × HasAnsweredBy s.regex.now k j
reported_there h s n k a is e =
    let (w, at, walk) = walk_at s.regexes.now h.walks s.walks.items n k a.walks is in
    (w.reported, walk.reported s.regex.now (of_current h s w k a walk e))

-- the walk with a number has answered some calls, also if the list is given by an equal one
pub reported_at : (h : History) (s : Player) (n : ℕ) (k old : KeptWalk) (ks : List KeptWalk) → ks ≡ s.walks.items
    → HasPlayed h s → slice_get s.walks.items n ≡ Some k → k.regex ≡ s.current → slice_get ks n ≡ Some old
    → (j : ℕ) × HasAnsweredBy s.regex.now old j
reported_at h s n k old ks same a is e at =
    subst (λ (x : KeptWalk). (j : ℕ) × HasAnsweredBy s.regex.now x j)
    (same_at s.walks.items n k old is (ap (λ (xs : List KeptWalk). slice_get xs n) (sym same) ∙ at))
    (reported_there h s n k a is e)

pub no_walk_reply : (h : History) (s : Player) (n : ℕ)
    → HasPlayed h s → length s.walks.items ≤ n → IsReply s.regexes.now h (request.StepWalk n) (reply.Bad fault.NoWalk)
no_walk_reply h s n a le =
    is_bad s.regexes.now h (request.StepWalk n) (reply.Bad fault.NoWalk) s.regex.now fault.NoWalk a.regex
    (ap (walk_fault h.current) (no_walk s.regexes.now h.walks s.walks.items n a.walks le)) refl

abbrev unless_same : Bool → Option Fault
unless_same b = if b then None else Some fault.OtherRegex

same_regex : (current : ℕ) (w : Begun) → w.regex ≡ current → walk_fault current (Some w) ≡ None
same_regex current w e = ap unless_same (eq-eqb w.regex current e)

other_regex : (current : ℕ) (w : Begun) → (w.regex ≡ current → ⊥) → walk_fault current (Some w) ≡ Some fault.OtherRegex
other_regex current w ne = ap unless_same (ne_eqb w.regex current ne)

pub other_reply : (h : History) (s : Player) (n : ℕ) (k : KeptWalk)
    → HasPlayed h s → slice_get s.walks.items n ≡ Some k → (k.regex ≡ s.current → ⊥)
    → IsReply s.regexes.now h (request.StepWalk n) (reply.Bad fault.OtherRegex)
other_reply h s n k a is ne =
    let (w, at, walk) = walk_at s.regexes.now h.walks s.walks.items n k a.walks is in
    is_bad s.regexes.now h (request.StepWalk n) (reply.Bad fault.OtherRegex) s.regex.now fault.OtherRegex a.regex
    (ap (walk_fault h.current) at ∙ other_regex h.current w (λ e. ne (walk.regex ∙ e ∙ sym a.current))) refl

-- what the step of a walk of the history returns
begun_step : (rs : List Regex) (r : Regex) (w : Begun) (k : KeptWalk) (result : Result (Option HalfMatch) SearchError)
    → IsWalk rs w k → IsStepFrom r k w.reported result → IsStepOf r (Some w) result
begun_step rs r w k result walk h =
    subst (λ (i : Input). IsStep w.way (dfa_in w.way r) i w.reported result) walk.input
    (subst (λ b. IsStep b (dfa_in b r) k.input w.reported result) walk.way h)

pub step_reply : (h : History) (s : Player) (n : ℕ) (k : KeptWalk) (result : Result (Option HalfMatch) SearchError)
    → HasPlayed h s → slice_get s.walks.items n ≡ Some k → k.regex ≡ s.current
    → ((j : ℕ) → HasAnsweredBy s.regex.now k j → IsStepFrom s.regex.now k j result)
    → IsReply s.regexes.now h (request.StepWalk n) (reply.Half result)
step_reply h s n k result a is e returned =
    let (w, at, walk) = walk_at s.regexes.now h.walks s.walks.items n k a.walks is in
    is_own s.regexes.now h (request.StepWalk n) (reply.Half result) s.regex.now a.regex
    (ap (walk_fault h.current) at ∙ same_regex h.current w (sym walk.regex ∙ e ∙ a.current))
    (subst (λ (o : Option Begun). IsStepOf s.regex.now o result) (sym at)
    (begun_step s.regexes.now s.regex.now w k result walk
    (returned w.reported (walk.reported s.regex.now (of_current h s w k a walk e)))))

-- what the step of a walk of the history does to the caches
begun_made :
    (rs : List Regex) (r : Regex) (w : Begun) (k : KeptWalk) (old new : Cache)
    (result : Result (Option HalfMatch) SearchError)
    → IsWalk rs w k → HasAnsweredBy r k w.reported → MakesWalkStep r k old new result
    → IsWalkStepped r (Some w) old new result
begun_made rs r w k old new result walk reported made =
    subst (λ (i : Input). IsCalled w.way (dfa_in w.way r) i w.reported (own_of w.way old) (own_of w.way new) result
    × (other_of w.way new ≡ other_of w.way old)) walk.input
    (subst (λ b. IsCalled b (dfa_in b r) k.input w.reported (own_of b old) (own_of b new) result
    × (other_of b new ≡ other_of b old)) walk.way
    (made.0 w.reported reported, made.1))

pub step_made :
    (h : History) (s : Player) (n : ℕ) (k : KeptWalk) (old new : Cache) (result : Result (Option HalfMatch) SearchError)
    → HasPlayed h s → slice_get s.walks.items n ≡ Some k → k.regex ≡ s.current
    → MakesWalkStep s.regex.now k old new result
    → IsRequestEffect s.regexes.now h (request.StepWalk n) (reply.Half result) old new
step_made h s n k old new result a is e made =
    let (w, at, walk) = walk_at s.regexes.now h.walks s.walks.items n k a.walks is in
    subst (λ (o : Option Regex). IsMadeByOf o h.walks (request.StepWalk n) old new (reply.Half result)) (sym a.regex)
    (subst (λ (o : Option Begun). IsWalkStepped s.regex.now o old new result) (sym at)
    (begun_made s.regexes.now s.regex.now w k old new result walk
    (walk.reported s.regex.now (of_current h s w k a walk e)) made))

-- a walk of the history, after the step
some_regex : {v w : Regex} → Some v ≡ Some w → v ≡ w
some_regex e = cc

goes_on : (rs : List Regex) (r : Regex) (w : Begun) (old new : KeptWalk) (found : Option HalfMatch)
    → slice_get rs w.regex ≡ Some r → IsWalk rs w old → MakesOneCall r old new (Ok found) → IsWalk rs (stepped w) new
goes_on rs r w old new found at is g = record {
  regex = g.regex ∙ is.regex;
  way = g.way ∙ is.way;
  input = g.input ∙ is.input;
  reported =
      λ x e. subst (λ (v : Regex). HasAnsweredBy v new (w.reported + 1)) (some_regex (sym at ∙ e))
      (g.reported w.reported (is.reported r at));
}

stays : (rs : List Regex) (r : Regex) (w : Begun) (old new : KeptWalk) (error : SearchError)
    → slice_get rs w.regex ≡ Some r → IsWalk rs w old → MakesOneCall r old new (Err error) → IsWalk rs w new
stays rs r w old new error at is g = record {
  regex = g.regex ∙ is.regex;
  way = g.way ∙ is.way;
  input = g.input ∙ is.input;
  reported =
      λ x e. subst (λ (v : Regex). HasAnsweredBy v new w.reported) (some_regex (sym at ∙ e))
      (g.kept w.reported (is.reported r at));
}

walks_after :
    (rs : List Regex) (r : Regex) (h : History) (ks : List KeptWalk) (n : ℕ) (w : Begun) (old new : KeptWalk)
    (result : Result (Option HalfMatch) SearchError)
    → AreWalks rs h.walks ks → slice_get h.walks n ≡ Some w → slice_get rs w.regex ≡ Some r → IsWalk rs w old
    → MakesOneCall r old new result
    → AreWalks rs (after_step h n (reply.Half result)).walks (set ks n new)
walks_after rs r h ks n w old new (Ok found) all at of is g =
    walks_step rs h.walks ks n w new all at (goes_on rs r w old new found of is g)
walks_after rs r h ks n w old new (Err error) all at of is g =
    walks_same rs h.walks ks n w new all at (stays rs r w old new error of is g)

-- a step leaves the current regex unchanged
current_after :
    (h : History) (n : ℕ) (result : Result (Option HalfMatch) SearchError)
    → (after_step h n (reply.Half result)).current ≡ h.current
current_after h n (Ok found) = refl
current_after h n (Err error) = refl

pub at_stepped :
    (h : History) (s t : Player) (n : ℕ) (old : KeptWalk) (xs ks : List KeptWalk)
    (result : Result (Option HalfMatch) SearchError)
    → HasPlayed h s → slice_get s.walks.items n ≡ Some old → old.regex ≡ s.current
    → xs ≡ s.walks.items → (new : KeptWalk) × MakesOneCall s.regex.now old new result × (ks ≡ set xs n new)
    → t.regexes.now ≡ s.regexes.now → t.regex.now ≡ s.regex.now → t.current ≡ s.current
    → AreCachesOf t.cache s.regex.now
    → t.walks.items ≡ ks
    → HasPlayed (after_step h n (reply.Half result)) t
at_stepped h s t n old xs ks result a is e same goes rs r current of items =
    let (w, at, walk) = walk_at s.regexes.now h.walks s.walks.items n old a.walks is in
    let (new, g, set_is) = goes in
    record {
      current = current ∙ a.current ∙ sym (current_after h n result);
      regex =
          ap (λ (xs : List Regex). slice_get xs (after_step h n (reply.Half result)).current) rs
          ∙ ap (slice_get s.regexes.now) (current_after h n result) ∙ a.regex ∙ ap Some (sym r);
      of = subst (λ (v : Regex). AreCachesOf t.cache v) (sym r) of;
      walks = subst (λ (xs : List Regex). AreWalks xs (after_step h n (reply.Half result)).walks t.walks.items) (sym rs)
          (subst (λ (ws : List KeptWalk). AreWalks s.regexes.now (after_step h n (reply.Half result)).walks ws)
          (sym (items ∙ set_is ∙ ap (λ (js : List KeptWalk). set js n new) same))
          (walks_after s.regexes.now s.regex.now h s.walks.items n w old new result a.walks at
          (of_current h s w old a walk e) walk g));
    }
