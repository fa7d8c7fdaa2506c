-- The state that the requests so far and their replies lead to: the current regex, and the walks.
use Rattle.std.specs.Prelude.{ℕ, zero, suc, ◌+◌, List, [], ◌∷◌, ◌++◌, Ok}
use Rattle.automata_base.specs.declared.util.search.Direction.{Direction}
use Rattle.automata_base.specs.Haystacks.Input.{Input}
use Rattle.replay.specs.declared.requests.Request.{Request}
use Rattle.replay.specs.declared.requests.Request.TheVariants as request
use Rattle.replay.specs.declared.requests.Reply.{Reply}
use Rattle.replay.specs.declared.requests.Reply.TheVariants as reply

-- a walk that was begun: the number of its regex, its direction, its input, and how many of its steps returned Ok
pub record Begun : Type 0 where
  -- the number of its regex
  pub regex : ℕ
  -- its direction
  pub way : Direction
  -- its input
  pub input : Input
  -- how many of its steps returned Ok
  pub reported : ℕ

-- the number of the current regex, and the walks by their numbers
pub record History : Type 0 where
  -- the number of the current regex, counted from 0
  pub current : ℕ
  -- the walks that were begun, each at its number
  pub walks : List Begun

-- before the first request
abbrev pub start : History
start = record { current = 0; walks = [] }

-- a walk after one more Ok step
abbrev pub stepped : Begun → Begun
stepped w = record w { reported = w.reported + 1 }

-- the walks, after one more Ok step of walk `k`
abbrev pub step_at : ℕ → List Begun → List Begun
step_at k [] = []
step_at zero (w ∷ ws) = stepped w ∷ ws
step_at (suc k) (w ∷ ws) = w ∷ step_at k ws

-- the history after a request to begin a walk: an Ok reply adds a walk of the current regex, with the next number
abbrev pub after_begin : History → Direction → Input → Reply → History
after_begin h way input (reply.Begun (Ok k)) =
    record {
      current = h.current;
      walks = h.walks ++ record { regex = h.current; way = way; input = input; reported = 0 } ∷ [];
    }
after_begin h way input r = h

-- the history after a step: an Ok reply counts one more step of the walk
abbrev pub after_step : History → ℕ → Reply → History
after_step h k (reply.Half (Ok found)) = record { current = h.current; walks = step_at k h.walks }
after_step h k r = h

-- the history after a reset: an Ok reply makes the regex of this number current
abbrev pub after_reset : History → ℕ → Reply → History
after_reset h k (reply.Done (Ok done)) = record { current = k; walks = h.walks }
after_reset h k r = h

-- the history after one more request and its reply
abbrev pub after : History → Request → Reply → History
after h (request.BeginWalk way input) r = after_begin h way input r
after h (request.StepWalk k) r = after_step h k r
after h (request.Reset k) r = after_reset h k r
after h other r = h

-- the history after a whole script
abbrev pub history : History → List Request → List Reply → History
history h [] replies = h
history h (q ∷ qs) [] = h
history h (q ∷ qs) (r ∷ rs) = history (after h q r) qs rs
