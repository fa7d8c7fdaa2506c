-- The memory of simulations, one for each program.
use Rattle.std.proofs.Common.{ℕ, ◌≡◌, ◌+◌, ◌<◌, ◌∙◌, List, [], ◌∷◌, ◌++◌, ap, ap₂, arith, get_or, length, sym, take}
use Rattle.std.specs.Prelude.{slice_set}
use Rattle.std.proofs.lemmas.List.{get_or-map, length-map, map-append, map_more}
use Rattle.std.proofs.Math.Seq.{map-set_same}
use Rattle.regex_vm.specs.Pike.{Room}
use Rattle.meta.specs.Caches.{AreRoomsOf, HasRoomOf, room_in, room_of}
use Rattle.meta.specs.declared.program.Program.{Program}
use Rattle.meta.specs.declared.simulation.Simulation.{Simulation}

same_room : (p : Program) (s : Simulation) → HasRoomOf p s → room_in s ≡ room_of p
same_room p s has = ap₂ (λ (r : Room) (n : ℕ). (r, n)) has.room has.slots

-- the memory after one more program
pub rooms_next :
    (sims : List Simulation) (ps : List Program) (i : ℕ) (d : Program) (s : Simulation) → i < length ps
    → AreRoomsOf sims (take i ps) → HasRoomOf (get_or ps i d) s → AreRoomsOf (sims ++ s ∷ []) (take (i + 1) ps)
rooms_next sims ps i d s inside are has =
    map-append room_in sims (s ∷ [])
    ∙ ap₂ (λ (xs ys : List (Room × ℕ)). xs ++ ys) are (ap (λ r. r ∷ []) (same_room (get_or ps i d) s has))
    ∙ sym (map_more room_of ps i d inside)

rooms_count : (sims : List Simulation) (ps : List Program) → AreRoomsOf sims ps → length sims ≡ length ps
rooms_count sims ps are = sym (length-map sims room_in) ∙ ap length are ∙ length-map ps room_of

same_at :
    (sims : List Simulation) (ps : List Program) (i : ℕ) (e : Simulation) (d : Program) → AreRoomsOf sims ps
    → i < length ps → room_in (get_or sims i e) ≡ room_of (get_or ps i d)
same_at sims ps i e d are inside =
    sym (get_or-map room_in sims i e (room_of d) (omega (arith, inside, rooms_count sims ps are)))
    ∙ ap (λ rooms. get_or rooms i (room_of d)) are ∙ get_or-map room_of ps i d (room_of d) inside

-- the simulation of a program has room for it
pub room_at :
    (sims : List Simulation) (ps : List Program) (i : ℕ) (e : Simulation) (d : Program) → AreRoomsOf sims ps
    → i < length ps → HasRoomOf (get_or ps i d) (get_or sims i e)
room_at sims ps i e d are inside =
    let same = same_at sims ps i e d are inside in record { room = ap (λ r. r.0) same; slots = ap (λ r. r.1) same }

pub inside_too :
    (sims : List Simulation) (ps : List Program) (i : ℕ) → AreRoomsOf sims ps → i < length ps → i < length sims
inside_too sims ps i are inside = omega (arith, inside, rooms_count sims ps are)

-- after a simulation there is room as before
pub rooms_set :
    (sims : List Simulation) (ps : List Program) (i : ℕ) (s e : Simulation) (d : Program) → AreRoomsOf sims ps
    → i < length ps → HasRoomOf (get_or ps i d) s → AreRoomsOf (slice_set sims i s) ps
rooms_set sims ps i s e d are inside has =
    map-set_same room_in sims i s e
    (same_room (get_or ps i d) s has ∙ sym (same_at sims ps i e d are inside))
    ∙ are
