-- How the state of a replay agrees with the history of its requests and replies.
use Rattle.std.specs.Prelude.{ℕ, ◌≡◌, ◌+◌, List, [], ◌∷◌, slice_set, Option, Some, Result}
use Rattle.std.specs.Prelude.{OnOk, OnErr, slice_get}
use Rattle.automata_base.specs.Haystacks.Input.{Input}
use Rattle.automata_base.specs.Haystacks.Matches.{HalfMatch}
use Rattle.automata_base.specs.declared.util.search.Direction.{Direction}
use Rattle.automata_config.specs.declared.error.SearchError.{SearchError}
use Rattle.automata_hybrid.specs.Cache.Caches.{CacheView}
use Rattle.automata_hybrid.specs.Machines.Machine.{Machine}
use Rattle.automata_hybrid.specs.Walks.State.{Walk}
use Rattle.replay.specs.Histories.{Begun, History, after}
use Rattle.regex_automata.specs.Spans.Contracts.{IsStep}
use Rattle.regex_automata.specs.Regexes.Caches.{AreCachesOf}
use Rattle.replay.specs.Caches.{HasAnswered, IsRequestEffect, IsCalled, other_of, own_of}
use Rattle.replay.specs.Replies.{IsReply, dfa_in}
use Rattle.regex_automata.specs.declared.hybrid.regex.Regex.{Regex}
use Rattle.regex_automata.specs.declared.hybrid.regex.caches.Cache.{Cache}
use Rattle.replay.specs.declared.requests.Reply.{Reply}
use Rattle.replay.specs.declared.requests.Request.{Request}
use Rattle.replay.specs.declared.players.Player.{Player}
use Rattle.replay.specs.declared.walks.KeptWalk.{KeptWalk}

-- one more call of a walk: what it returns, and the walk after it
pub record IsCall (way : Direction) (m : Machine) (input : Input) (old new : Walk)
    (result : Result (Option HalfMatch) SearchError) : Type 0 where
  -- after `k` calls that returned Ok it returns what the next one must
  pub step : (k : ℕ) → HasAnswered way m input old k → IsStep way m input k result
  -- if it returns Ok, the walk has answered one call more
  pub reported : (k : ℕ) → HasAnswered way m input old k → OnOk result (HasAnswered way m input new (k + 1))
  -- if it fails, the walk has answered as many calls as before
  pub kept : (k : ℕ) → HasAnswered way m input old k → OnErr result (HasAnswered way m input new k)

-- what a call of a walk does to its cache
abbrev pub MakesCall :
    Direction → Machine → Input → Walk → (old new : CacheView) → Result (Option HalfMatch) SearchError → Type 0
MakesCall way m input w old new result =
    (k : ℕ) → HasAnswered way m input w k → IsCalled way m input k old new result

-- a walk of this regex has answered `k` calls
abbrev pub HasAnsweredBy : Regex → KeptWalk → ℕ → Type 0
HasAnsweredBy r kept k = HasAnswered kept.way (dfa_in kept.way r) kept.input kept.state k

-- what the next call of a walk that has answered `k` calls returns
abbrev pub IsStepFrom : Regex → KeptWalk → ℕ → Result (Option HalfMatch) SearchError → Type 0
IsStepFrom r kept k result = IsStep kept.way (dfa_in kept.way r) kept.input k result

-- one more call of a walk of this regex
pub record MakesOneCall (r : Regex) (old new : KeptWalk) (result : Result (Option HalfMatch) SearchError) : Type 0 where
  -- the walk belongs to the same regex as before
  pub regex : new.regex ≡ old.regex
  -- it has the same direction
  pub way : new.way ≡ old.way
  -- it has the same input
  pub input : new.input ≡ old.input
  -- after `k` calls that returned Ok it returns what the next one must
  pub step : (k : ℕ) → HasAnsweredBy r old k → IsStepFrom r old k result
  -- if it returns Ok, the walk has answered one call more
  pub reported : (k : ℕ) → HasAnsweredBy r old k → OnOk result (HasAnsweredBy r new (k + 1))
  -- if it fails, the walk has answered as many calls as before
  pub kept : (k : ℕ) → HasAnsweredBy r old k → OnErr result (HasAnsweredBy r new k)

-- the walk with this number
abbrev pub IsWalkAt : List KeptWalk → ℕ → KeptWalk → Type 0
IsWalkAt ks number kept = slice_get ks number ≡ Some kept

-- one more call of the walk with this number, which leaves the other walks unchanged
abbrev pub GoesAt : Regex → ℕ → (olds news : List KeptWalk) → Result (Option HalfMatch) SearchError → Type 0
GoesAt r number olds news result =
    (old : KeptWalk) → IsWalkAt olds number old
    → (new : KeptWalk) × MakesOneCall r old new result × (news ≡ slice_set olds number new)

-- the effect of a walk's call on the caches: it leaves the cache of the other direction unchanged
abbrev pub MakesWalkStep : Regex → KeptWalk → (old new : Cache) → Result (Option HalfMatch) SearchError → Type 0
MakesWalkStep r kept old new result =
    MakesCall kept.way (dfa_in kept.way r) kept.input kept.state (own_of kept.way old)
    (own_of kept.way new) result
    × (other_of kept.way new ≡ other_of kept.way old)

-- the effect of one more call of the walk with this number on the caches
abbrev pub MakesStepAt :
    Regex → ℕ → List KeptWalk → (old new : Cache) → Result (Option HalfMatch) SearchError → Type 0
MakesStepAt r number walks old new result =
    (kept : KeptWalk) → IsWalkAt walks number kept → MakesWalkStep r kept old new result

-- a kept walk is the walk that was begun, and has answered as many calls
pub record IsWalk (regexes : List Regex) (w : Begun) (kept : KeptWalk) : Type 0 where
  -- it belongs to the same regex
  pub regex : kept.regex ≡ w.regex
  -- it has the same direction
  pub way : kept.way ≡ w.way
  -- it has the same input
  pub input : kept.input ≡ w.input
  -- it has answered as many calls
  pub reported : (r : Regex) → slice_get regexes w.regex ≡ Some r → HasAnsweredBy r kept w.reported

-- each kept walk is the walk that was begun with its number
abbrev pub AreWalks : List Regex → List Begun → List KeptWalk → Type 0
AreWalks regexes [] [] = Unit {0}
AreWalks regexes [] (k ∷ ks) = ⊥
AreWalks regexes (w ∷ ws) [] = ⊥
AreWalks regexes (w ∷ ws) (k ∷ ks) = IsWalk regexes w k × AreWalks regexes ws ks

-- the state of a replay agrees with a history: the current regex and the walks are the same, and the caches belong to
-- it
pub record HasPlayed (h : History) (s : Player) : Type 0 where
  -- the number of the current regex is the history's
  pub current : s.current ≡ h.current
  -- the current regex is the one of this number
  pub regex : slice_get s.regexes.now h.current ≡ Some s.regex.now
  -- the caches belong to it
  pub of : AreCachesOf s.cache s.regex.now
  -- the walks are the history's
  pub walks : AreWalks s.regexes.now h.walks s.walks.items

-- the reply to a request is its own value, after any history
abbrev pub IsReplyTo : Player → Request → Reply → Type 0
IsReplyTo s q answer = (h : History) → HasPlayed h s → IsReply s.regexes.now h q answer

-- the state after a request agrees with the history that its reply leads to, whatever the previous history
abbrev pub KeepsHistory : (old : Player) → Request → Reply → (new : Player) → Type 0
KeepsHistory old q answer new = (h : History) → HasPlayed h old → HasPlayed (after h q answer) new

-- the effect of the request on the caches, after any history
abbrev pub MakesCaches : (old : Player) → Request → Reply → (new : Player) → Type 0
MakesCaches old q answer new =
    (h : History) → HasPlayed h old → IsRequestEffect old.regexes.now h q answer old.cache new.cache
