-- What a pass has found so far, unit by unit.
use Rattle.std.proofs.Common.{ℕ, zero, suc, ◌≡◌, ◌<◌, ◌≤◌, ◌⊎◌, inl, inr, Bool, true, false, [], length, Option, Some}
use Rattle.std.proofs.Common.{None, refl, sym, ap, ◌∙◌, subst, arith, eq-or-lt_of_le}
use Rattle.automata_hybrid.proofs.Words.{dead, Direction, Err, half_at, half_of, HalfMatch, IfErr, Input, is_quit}
use Rattle.automata_hybrid.proofs.Words.{is_some, IsAt, Leads, Machine, match_kind_of, Names, next, offset_in, Ok, Pair}
use Rattle.automata_hybrid.proofs.Words.{Powerset, quit_behind, Reads, reported_along, reported_in, Result, Rows}
use Rattle.automata_hybrid.proofs.Words.{start_state_of, state_in, state_on, successor, tape_in}
use Rattle.automata_determinize.proofs.Answers.Within.{first_stays}
use Rattle.automata_determinize.proofs.Powersets.Alike.{dead_stays}
use Rattle.std.specs.Result.{IsErrAnd}
use Rattle.automata_hybrid.specs.Searches.PassState.{found_over}
use Rattle.automata_hybrid.specs.Searches.Passes.{MeetsNoQuit}
use Rattle.std.proofs.lemmas.Bool.{cases_lt}
use Rattle.automata_hybrid.proofs.Searches.Traces.{at_along, begins_along, clean_along, half_of_none, leads_along}
use Rattle.automata_hybrid.proofs.Searches.Traces.{more_along, none_along, pass_is_trace, quiet_along}
use Rattle.automata_base.proofs.Paths.Orders.{some_none}
pub use Rattle.std.proofs.lemmas.Bool.{false≢true as false_true}

-- one more unit
pub state_more :
    (way : Direction) (m : Machine) (input : Input) (k : ℕ)
    → state_in way m input (suc k)
    ≡ successor m.nfa (match_kind_of m.config) (state_in way m input k) (next (tape_in way input) k)
state_more way m input k = (pass_is_trace way m input).steps k

-- a state after the dead state is dead, and reports nothing
pub dead_more :
    (way : Direction) (m : Machine) (input : Input) (k n : ℕ)
    → k ≤ n → state_in way m input k ≡ dead → state_in way m input n ≡ dead
dead_more way m input k zero l e =
    let z : k ≡ 0 = omega (arith, l) in subst (λ i. state_in way m input i ≡ dead) z e
dead_more way m input k (suc n) l e = go (λ more. dead_more way m input k n more e) (eq-or-lt_of_le l) where
  go : (k ≤ n → state_in way m input n ≡ dead) → (k ≡ suc n) ⊎ (k < suc n) → state_in way m input (suc n) ≡ dead
  go before (inl same) = subst (λ i. state_in way m input i ≡ dead) same e
  go before (inr less) =
      state_more way m input n
      ∙ (ap (λ q. successor m.nfa (match_kind_of m.config) q (next (tape_in way input) n))
      (before (omega (arith, less)))
      ∙ dead_stays m.nfa (match_kind_of m.config) (next (tape_in way input) n))

-- a unit after which the state has no patterns reports nothing
pub reported_quiet :
    (way : Direction) (m : Machine) (input : Input) (k : ℕ)
    → (state_in way m input (suc k)).patterns ≡ [] → reported_in way m input (suc k) ≡ reported_in way m input k
reported_quiet way m input k e = quiet_along (pass_is_trace way m input) k e

quiet :
    (way : Direction) (m : Machine) (input : Input) (k n : ℕ)
    → k ≤ n → state_in way m input (suc k) ≡ dead → reported_in way m input (suc n) ≡ reported_in way m input n
quiet way m input k n l e =
    reported_quiet way m input n
    (ap (λ (q : Powerset). q.patterns) (dead_more way m input (suc k) (suc n) (omega (arith, l)) e))

dead_reports :
    (way : Direction) (m : Machine) (input : Input) (k n : ℕ)
    → k ≤ n → state_in way m input (suc k) ≡ dead → reported_in way m input (suc n) ≡ reported_in way m input k
dead_reports way m input k zero l e =
    let z : 0 ≡ k = omega (arith, l) in quiet way m input k zero l e ∙ ap (reported_in way m input) z
dead_reports way m input k (suc n) l e = go (λ more. dead_reports way m input k n more e) (eq-or-lt_of_le l) where
  go :
      (k ≤ n → reported_in way m input (suc n) ≡ reported_in way m input k) → (k ≡ suc n) ⊎ (k < suc n)
      → reported_in way m input (suc (suc n)) ≡ reported_in way m input k
  go before (inl same) = quiet way m input k (suc n) l e ∙ ap (reported_in way m input) (sym same)
  go before (inr less) = quiet way m input k (suc n) l e ∙ before (omega (arith, less))

-- once the state of a pass is dead, the pass has found what it answers
pub found_dead :
    (way : Direction) (m : Machine) (input : Input) (k : ℕ)
    → k ≤ length (tape_in way input).bytes → state_in way m input (suc k) ≡ dead
    → half_of way input (reported_in way m input k) ≡ found_over way m input
found_dead way m input k l e =
    ap (half_of way input) (sym (dead_reports way m input k (length (tape_in way input).bytes) l e))

-- what an earliest search has reported stays
pub reported_stays :
    (e : Bool) (state : ℕ → Powerset) (k n : ℕ) (o : Option Pair)
    → k ≤ n → e ≡ true → reported_along e state k ≡ o → (o ≡ None → ⊥)
    → reported_along e state n ≡ reported_along e state k
reported_stays false state k n o l f e some = absurd (false_true f)
reported_stays true state k n None l f e some = absurd (some refl)
reported_stays true state k n (Some pair) l f e some =
    first_stays (λ i. (state (suc i)).patterns) pair k n l e ∙ sym e

-- an earliest pass that has found something has found what it answers
pub found_first :
    (way : Direction) (m : Machine) (input : Input) (k : ℕ)
    → k ≤ suc (length (tape_in way input).bytes) → input.earliest ≡ true
    → (half_of way input (reported_in way m input k) ≡ None → ⊥)
    → half_of way input (reported_in way m input k) ≡ found_over way m input
found_first way m input k l e some =
    ap (half_of way input)
    (sym (reported_stays input.earliest (λ i. state_in way m input i) k
    (suc (length (tape_in way input).bytes)) (reported_in way m input k) l e refl
    (λ f. some (ap (half_of way input) f))))

-- a pass meets no quit byte if it has met none up to a place, and reads nothing from there on
pub clean_all :
    (way : Direction) (m : Machine) (input : Input) (k : ℕ)
    → quit_behind m (tape_in way input).before ≡ None
    → ((j byte : ℕ) → j < k → next (tape_in way input) j ≡ Some byte → is_quit m.quits byte ≡ false)
    → ((j : ℕ) → k ≤ j → Reads way m input j → ⊥) → MeetsNoQuit way m input
clean_all way m input k behind clean stops = (behind, λ j byte reads e. go j byte reads e (cases_lt j k)) where
  go :
      (j byte : ℕ) → Reads way m input j → next (tape_in way input) j ≡ Some byte → (j < k) ⊎ (k ≤ j)
      → is_quit m.quits byte ≡ false
  go j byte reads e (inl l) = clean j byte l e
  go j byte reads e (inr l) = absurd (stops j l reads)

-- a pass whose current state is not dead reads the unit at its place
pub at_reads :
    (way : Direction) (m : Machine) (t : Rows) (input : Input) (k id : ℕ) (found : Option HalfMatch)
    → IsAt way m t input k id found → k ≤ length (tape_in way input).bytes
    → ((q : Powerset) → Names t id q → q ≡ dead → ⊥) → Reads way m input k
at_reads way m t input k id found at l alive = (
  l,
  alive (state_in way m input k) at.named,
  λ e. half_of_none way input (reported_in way m input k)
      (sym at.reported ∙ at.nothing e),
)

-- a pass that reads a unit reads every unit before it
pub reads_before :
    (way : Direction) (m : Machine) (input : Input) (j k : ℕ) → j ≤ k → Reads way m input k → Reads way m input j
reads_before way m input j k l reads = (
  omega (arith, l, reads.0),
  λ dies. reads.1 (dead_more way m input j k l dies),
  λ early. none early (reported_in way m input j) refl,
) where
  none : input.earliest ≡ true → (o : Option Pair) → reported_in way m input j ≡ o → reported_in way m input j ≡ None
  none early None e = e
  none early (Some pair) e =
      let stays : reported_in way m input k ≡ reported_in way m input j =
      reported_stays input.earliest (λ i. state_in way m input i) j k (Some pair) l early e some_none in
      absurd (some_none (sym e ∙ (sym stays ∙ reads.2 early)))

-- nothing is read after the last unit
pub stops_last :
    (way : Direction) (m : Machine) (input : Input) (k : ℕ)
    → k ≡ length (tape_in way input).bytes → (j : ℕ) → suc k ≤ j → Reads way m input j → ⊥
stops_last way m input k l j less r =
    let f : j ≤ length (tape_in way input).bytes = r.0 in absurd (omega (arith, l, less, f))

-- a pass reads one more unit at its current place, which is not a quit byte
module _ (way : Direction) (m : Machine) (t t' : Rows) (input : Input) (k id id' : ℕ) (u : Option ℕ)
    (found found' : Option HalfMatch) (at : IsAt way m t input k id found) (unit : next (tape_in way input) k ≡ u)
    (reads : (q : Powerset) → Names t id q → Leads t' id' (successor m.nfa (match_kind_of m.config) q u))
    (free : (byte : ℕ) → u ≡ Some byte → is_quit m.quits byte ≡ false) where
  -- the next ID reports its patterns at the offset of the place
  abbrev pub Reports : Type 0
  Reports =
      (o : ℕ) × (o ≡ offset_in way input k) × ((q : Powerset) → Leads t' id' q → found' ≡ half_at q.patterns o found)

  pub more_leads : Leads t' id' (state_in way m input (suc k))
  more_leads = leads_along (pass_is_trace way m input) t t' k id id' u found found' at unit reads

  pub more_clean : (j byte : ℕ) → j < suc k → next (tape_in way input) j ≡ Some byte → is_quit m.quits byte ≡ false
  more_clean = clean_along (pass_is_trace way m input) t t' k id id' u found found' at unit reads free

  more_found :
      Reports
      → found' ≡ half_of way input (reported_in way m input (suc k))
  more_found reports = more_along (pass_is_trace way m input) t t' k id id' u found found' at unit reads reports

  -- the pass continues at the next place
  pub more_at :
      Reports
      → (input.earliest ≡ true → found' ≡ None)
      → (Leads t' id' (state_in way m input (suc k)) → Names t' id' (state_in way m input (suc k)))
      → IsAt way m t' input (suc k) id' found'
  more_at reports first alive =
      at_along (pass_is_trace way m input) t t' k id id' u found found' at unit reads free reports first alive

  -- the next state is dead, and the pass ends
  pub more_dead :
      (Leads t' id' (state_in way m input (suc k)) → state_in way m input (suc k) ≡ dead)
      → k ≤ length (tape_in way input).bytes
      → found ≡ found_over way m input
  more_dead dies l = at.reported ∙ found_dead way m input k l (dies more_leads)

  pub stops_dead :
      (Leads t' id' (state_in way m input (suc k)) → state_in way m input (suc k) ≡ dead)
      → (j : ℕ) → suc k ≤ j → Reads way m input j → ⊥
  stops_dead dies j l r = r.1 (dead_more way m input (suc k) j l (dies more_leads))

  pub clean_dead :
      (Leads t' id' (state_in way m input (suc k)) → state_in way m input (suc k) ≡ dead)
      → quit_behind m (tape_in way input).before ≡ None → MeetsNoQuit way m input
  clean_dead dies behind = clean_all way m input (suc k) behind more_clean (stops_dead dies)

  -- an earliest pass has found something, and ends
  pub more_ends :
      Reports
      → k ≤ length (tape_in way input).bytes → input.earliest ≡ true → (found' ≡ None → ⊥)
      → found' ≡ found_over way m input
  more_ends reports l e some =
      more_found reports
      ∙ found_first way m input (suc k) (omega (arith, l)) e (λ f. some (more_found reports ∙ f))

  pub stops_ends :
      Reports → input.earliest ≡ true → (found' ≡ None → ⊥) → (j : ℕ) → suc k ≤ j → Reads way m input j → ⊥
  stops_ends reports e some j l r =
      some (more_found reports ∙ ap (half_of way input)
      (sym (reported_stays input.earliest (λ i. state_in way m input i) (suc k) j
      (reported_in way m input (suc k)) l e refl
      (λ f. some (more_found reports ∙ ap (half_of way input) f))) ∙ r.2 e))

  pub clean_ends :
      Reports
      → input.earliest ≡ true → (found' ≡ None → ⊥) → quit_behind m (tape_in way input).before ≡ None
      → MeetsNoQuit way m input
  clean_ends reports e some behind = clean_all way m input (suc k) behind more_clean (stops_ends reports e some)

  -- the unit was the last one, and the pass ends
  pub more_last :
      Reports
      → k ≡ length (tape_in way input).bytes → found' ≡ found_over way m input
  more_last reports l = more_found reports ∙ ap (λ i. half_of way input (reported_in way m input (suc i))) l

  pub clean_last :
      k ≡ length (tape_in way input).bytes → quit_behind m (tape_in way input).before ≡ None → MeetsNoQuit way m input
  clean_last l behind = clean_all way m input (suc k) behind more_clean (stops_last way m input k l)

-- a pass begins at its start state, and has found nothing
pub starts_at :
    (way : Direction) (m : Machine) (t : Rows) (input : Input) (id : ℕ)
    → Names t id (state_in way m input 0) → IsAt way m t input 0 id None
starts_at way m t input id n = begins_along (pass_is_trace way m input) n

-- a pass whose start state is dead finds nothing, and meets no quit byte
pub starts_dead :
    (way : Direction) (m : Machine) (input : Input)
    → state_in way m input 0 ≡ dead → None ≡ found_over way m input
starts_dead way m input d =
    none_along (pass_is_trace way m input)
    ∙ found_dead way m input 0 (omega arith) (dead_more way m input 0 1 (omega arith) d)

pub stops_start :
    (way : Direction) (m : Machine) (input : Input)
    → state_in way m input 0 ≡ dead → (j : ℕ) → 0 ≤ j → Reads way m input j → ⊥
stops_start way m input d j l r = r.1 (dead_more way m input 0 j l d)

pub clean_start :
    (way : Direction) (m : Machine) (input : Input)
    → state_in way m input 0 ≡ dead → quit_behind m (tape_in way input).before ≡ None → MeetsNoQuit way m input
clean_start way m input d behind =
    clean_all way m input 0 behind (λ j byte l e. absurd (omega (arith, l))) (stops_start way m input d)

pub if_err :
    {A E : Type 0} (r : Result A E) (e : E) (P : E → Type 0) → IsErrAnd r (λ x. x ≡ e) → P e → IfErr r P
if_err (Ok a) e P h p = tt
if_err (Err x) e P h p = subst P (sym h) p

pub some_is : (o : Option HalfMatch) → true ≡ is_some o → o ≡ None → ⊥
some_is None h e = false_true (sym h)
some_is (Some half) h e = cc

pub none_is : {T : Type 0} (o : Option T) → is_some o ≡ false → o ≡ None
none_is None h = refl
none_is (Some half) h = absurd (false_true (sym h))

-- the first state of a pass is its start state
pub state_first :
    (way : Direction) (m : Machine) (input : Input)
    → start_state_of m.nfa input.anchored (tape_in way input).before ≡ state_in way m input 0
unfolding state_on
state_first way m input = refl
