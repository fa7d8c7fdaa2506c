-- The walks that a replay keeps, and those of the history.
use Rattle.std.proofs.Common.{◌≡◌, ℕ, zero, suc, ◌≤◌, List, [], ◌∷◌, ◌++◌, length, refl, sym, ◌∙◌, ap}
use Rattle.std.proofs.Common.{arith, subst, Some, None}
use Rattle.std.proofs.Math.ListN.{set}
use Rattle.std.specs.Prelude.{slice_get}
use Rattle.replay.specs.Histories.{Begun, stepped, step_at}
use Rattle.replay.specs.Players.{IsWalk, AreWalks}
use Rattle.regex_automata.specs.declared.hybrid.regex.Regex.{Regex}
use Rattle.replay.specs.declared.walks.KeptWalk.{KeptWalk}
use Rattle.automata_base.proofs.Paths.Orders.{none_some, some_inj}

pub same_at : (ks : List KeptWalk) (n : ℕ) (j k : KeptWalk) → slice_get ks n ≡ Some j → slice_get ks n ≡ Some k → j ≡ k
same_at ks n j k at_j at_k = some_inj (sym at_j ∙ at_k)

module _ (rs : List Regex) where
  -- one more walk
  pub walks_push :
      (ws : List Begun) (ks : List KeptWalk) (w : Begun) (k : KeptWalk)
      → AreWalks rs ws ks → IsWalk rs w k → AreWalks rs (ws ++ w ∷ []) (ks ++ k ∷ [])
  walks_push [] [] w k all one = (one, tt)
  walks_push [] (j ∷ ks) w k all one = absurd all
  walks_push (v ∷ ws) [] w k all one = absurd all
  walks_push (v ∷ ws) (j ∷ ks) w k all one = (all.0, walks_push ws ks w k all.1 one)

  pub length-walks : (ws : List Begun) (ks : List KeptWalk) → AreWalks rs ws ks → length ks ≡ length ws
  length-walks [] [] all = refl
  length-walks [] (j ∷ ks) all = absurd all
  length-walks (v ∷ ws) [] all = absurd all
  length-walks (v ∷ ws) (j ∷ ks) all = ap suc (length-walks ws ks all.1)

  -- after the last walk there is none
  pub no_walk :
      (ws : List Begun) (ks : List KeptWalk) (n : ℕ) → AreWalks rs ws ks → length ks ≤ n → slice_get ws n ≡ None
  no_walk [] ks n all le = refl
  no_walk (v ∷ ws) [] n all le = absurd all
  no_walk (v ∷ ws) (j ∷ ks) zero all le = absurd (omega arith)
  no_walk (v ∷ ws) (j ∷ ks) (suc n) all le = no_walk ws ks n all.1 (omega arith)

  -- the walk that is kept with a number
  pub walk_at :
      (ws : List Begun) (ks : List KeptWalk) (n : ℕ) (k : KeptWalk)
      → AreWalks rs ws ks → slice_get ks n ≡ Some k → (w : Begun) × (slice_get ws n ≡ Some w) × IsWalk rs w k
  walk_at [] [] n k all is = absurd (none_some is)
  walk_at [] (j ∷ ks) n k all is = absurd all
  walk_at (v ∷ ws) [] n k all is = absurd all
  walk_at (v ∷ ws) (j ∷ ks) zero k all is = (v, refl, subst (λ x. IsWalk rs v x) (some_inj is) all.0)
  walk_at (v ∷ ws) (j ∷ ks) (suc n) k all is = walk_at ws ks n k all.1 is

  -- a walk that reported one more pair
  pub walks_step :
      (ws : List Begun) (ks : List KeptWalk) (n : ℕ) (w : Begun) (k : KeptWalk)
      → AreWalks rs ws ks → slice_get ws n ≡ Some w → IsWalk rs (stepped w) k → AreWalks rs (step_at n ws) (set ks n k)
  walks_step [] [] n w k all at one = tt
  walks_step [] (j ∷ ks) n w k all at one = absurd all
  walks_step (v ∷ ws) [] n w k all at one = absurd all
  walks_step (v ∷ ws) (j ∷ ks) zero w k all at one =
      (subst (λ x. IsWalk rs (stepped x) k) (sym (some_inj at)) one, all.1)
  walks_step (v ∷ ws) (j ∷ ks) (suc n) w k all at one = (all.0, walks_step ws ks n w k all.1 at one)

  -- a walk that reported no further pair
  pub walks_same :
      (ws : List Begun) (ks : List KeptWalk) (n : ℕ) (w : Begun) (k : KeptWalk)
      → AreWalks rs ws ks → slice_get ws n ≡ Some w → IsWalk rs w k → AreWalks rs ws (set ks n k)
  walks_same [] [] n w k all at one = tt
  walks_same [] (j ∷ ks) n w k all at one = absurd all
  walks_same (v ∷ ws) [] n w k all at one = absurd all
  walks_same (v ∷ ws) (j ∷ ks) zero w k all at one = (subst (λ x. IsWalk rs x k) (sym (some_inj at)) one, all.1)
  walks_same (v ∷ ws) (j ∷ ks) (suc n) w k all at one = (all.0, walks_same ws ks n w k all.1 at one)
