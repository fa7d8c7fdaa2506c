-- Which states are there, by a cache and by what it knows.
use Rattle.std.proofs.Common.{◌≡◌, ◌∙◌, ℕ, ◌*◌, Bool, true, false, refl, sym, ap}
use Rattle.automata_hybrid.proofs.Words.{dead, has_state, is_some, Known, known_of, Lacks, Leads, LeadsToDead}
use Rattle.automata_hybrid.proofs.Words.{LeadsToNamed, Powerset, powerset_eq, powerset_eq-Decides, row_in, Stored, ◌||◌}
use Rattle.std.proofs.lemmas.Bool.{or_right}
use Rattle.automata_hybrid.proofs.Known.Rows.{row_in-is}

-- what a cache with this count knows
abbrev pub known_with : Stored → ℕ → Known
known_with c n = known_of (record { store = c; count = n })

-- a state that an ID leads to is there
pub state_there : (c : Stored) (n id : ℕ) (q : Powerset) → Leads c.table id q → has_state (known_with c n) q ≡ true
state_there c n id q (LeadsToDead e dies) =
    ap (λ b. b || is_some (row_in c.table.rows q)) ((powerset_eq-Decides q dead).1 dies)
state_there c n id q (LeadsToNamed named) =
    or_right (powerset_eq q dead) (is_some (row_in c.table.rows q))
    (sym (row_in-is c.table.of.stride (3 * c.table.of.stride) q c.table.rows) ∙ ap is_some named)

-- a state that a cache lacks is not there
pub state_lacks : (c : Stored) (n : ℕ) (q : Powerset) → Lacks c.table q → has_state (known_with c n) q ≡ false
state_lacks c n q lacks = go (powerset_eq q dead) refl where
  go : (b : Bool) → powerset_eq q dead ≡ b → (b || is_some (row_in c.table.rows q)) ≡ false
  go true e = absurd (lacks.1 ((powerset_eq-Decides q dead).0 e))
  go false e = sym (row_in-is c.table.of.stride (3 * c.table.of.stride) q c.table.rows) ∙ ap is_some lacks.0
