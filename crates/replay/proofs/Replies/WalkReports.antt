-- The Ok replies to the steps of a walk, in their order, are the pairs of its list, and then none.
use Rattle.std.proofs.Common.{◌≡◌, ◌==◌, ℕ, zero, suc, Bool, true, false, List, [], ◌∷◌, ◌++◌, Option, Some, None}
use Rattle.automata_base.specs.declared.util.search.Direction.{Direction}
use Rattle.std.proofs.Common.{Result, Ok, Err, IfOk, MatchOption, if◌then◌else◌, ap, refl, sym, subst, ◌∙◌, add-one}
use Rattle.std.proofs.lemmas.Bool.{eqb-true, eqb-false}
use Rattle.automata_base.specs.Haystacks.Input.{Input}
use Rattle.std.specs.Prelude.{slice_get}
use Rattle.automata_base.specs.Haystacks.Matches.{HalfMatch}
use Rattle.automata_base.specs.Paths.Selections.{Pair}
use Rattle.automata_config.specs.declared.error.SearchError.{SearchError}
use Rattle.automata_hybrid.specs.Walks.Answers.{half_nth}
use Rattle.replay.specs.Histories.{Begun, History, start, stepped, step_at, after, history}
use Rattle.regex_automata.specs.Spans.Contracts.{IsStep}
use Rattle.replay.specs.Replies.{IsReply, IsOwnValueBy, IsStepOf, walk_fault, AreReplies}
use Rattle.replay.specs.Replies.{AreRepliesAfter}
use Rattle.replay.specs.Replies.{AreReportedFrom, report, reported_to, ReportWalks, dfa_in}
use Rattle.regex_automata.specs.declared.hybrid.regex.Regex.{Regex}
use Rattle.replay.specs.declared.requests.Request.{Request}
use Rattle.replay.specs.declared.requests.Request.TheVariants as request
use Rattle.replay.specs.declared.requests.Reply.{Reply}
use Rattle.replay.specs.declared.requests.Reply.TheVariants as reply
use Rattle.replay.specs.declared.requests.Fault.{Fault}
use Rattle.replay.specs.declared.requests.Fault.TheVariants as fault
use Rattle.automata_base.proofs.Paths.Orders.{none_some, some_inj, some_none}

half_bad : {result : Result (Option HalfMatch) SearchError} {why : Fault} → reply.Half result ≡ reply.Bad why → ⊥
half_bad e = cc

-- how many steps of a walk have returned Ok; 0 if it has not begun
abbrev reported_of : Option Begun → ℕ
reported_of None = 0
reported_of (Some w) = w.reported

-- the same walk at two times
abbrev Same : Begun → Begun → Type 0
Same v w = (v.regex ≡ w.regex) × (v.way ≡ w.way) × (v.input ≡ w.input)

abbrev Becomes : Option Begun → Begun → Type 0
Becomes None w = Unit {0}
Becomes (Some v) w = Same v w

becomes_itself : (now : Option Begun) (w : Begun) → now ≡ Some w → Becomes now w
becomes_itself None w e = tt
becomes_itself (Some v) w e =
    let i = some_inj e in
    (ap (λ (x : Begun). x.regex) i, ap (λ (x : Begun). x.way) i, ap (λ (x : Begun). x.input) i)

-- a walk that is begun has reported nothing, and the other walks are unchanged
push_other :
    (ws : List Begun) (new : Begun) (k : ℕ) (v : Begun) → slice_get ws k ≡ Some v
    → slice_get (ws ++ new ∷ []) k ≡ Some v
push_other [] new k v e = absurd (none_some e)
push_other (x ∷ ws) new zero v e = e
push_other (x ∷ ws) new (suc k) v e = push_other ws new k v e

push_reported :
    (ws : List Begun) (new : Begun) (k : ℕ) → new.reported ≡ 0 → slice_get ws k ≡ None
    → reported_of (slice_get (ws ++ new ∷ []) k) ≡ 0
push_reported [] new zero z e = z
push_reported [] new (suc k) z e = refl
push_reported (x ∷ ws) new zero z e = absurd (some_none e)
push_reported (x ∷ ws) new (suc k) z e = push_reported ws new k z e

-- a step of walk `j`
abbrev with_step : Option Begun → Option Begun
with_step None = None
with_step (Some v) = Some (stepped v)

step_same : (ws : List Begun) (j : ℕ) → slice_get (step_at j ws) j ≡ with_step (slice_get ws j)
step_same [] j = refl
step_same (x ∷ ws) zero = refl
step_same (x ∷ ws) (suc j) = step_same ws j

step_other : (ws : List Begun) (j k : ℕ) → (j ≡ k → ⊥) → slice_get (step_at j ws) k ≡ slice_get ws k
step_other [] j k ne = refl
step_other (x ∷ ws) zero zero ne = absurd (ne refl)
step_other (x ∷ ws) zero (suc k) ne = refl
step_other (x ∷ ws) (suc j) zero ne = refl
step_other (x ∷ ws) (suc j) (suc k) ne = step_other ws j k (λ e. ne (ap suc e))

-- for an Ok reply to a step, its walk exists and belongs to the current regex
by_regex :
    (ws : List Begun) (k : ℕ) (b : Bool) (r : Option Regex) (found : Option HalfMatch)
    → MatchOption (if b then None else Some fault.OtherRegex)
    (IsOwnValueBy r ws (request.StepWalk k) (reply.Half (Ok found)))
    (λ why. reply.Half (Ok found) ≡ reply.Bad why)
    → (b ≡ true) × ((x : Regex) × (r ≡ Some x) × IsStepOf x (slice_get ws k) (Ok found))
by_regex ws k true None found own = absurd own
by_regex ws k true (Some r) found own = (refl, (r, refl, own))
by_regex ws k false r found own = absurd (half_bad own)

by_walk :
    (ws : List Begun) (k current : ℕ) (o : Option Begun) (r : Option Regex) (found : Option HalfMatch)
    → MatchOption (walk_fault current o) (IsOwnValueBy r ws (request.StepWalk k) (reply.Half (Ok found)))
    (λ why. reply.Half (Ok found) ≡ reply.Bad why)
    → (v : Begun) × (o ≡ Some v) × (v.regex ≡ current)
    × ((x : Regex) × (r ≡ Some x) × IsStepOf x (slice_get ws k) (Ok found))
by_walk ws k current None r found own = absurd (half_bad own)
by_walk ws k current (Some v) r found own =
    let (same, step) = by_regex ws k (v.regex == current) r found own in
    (v, refl, eqb-true v.regex current same, step)

step_of :
    (rs : List Regex) (h : History) (k : ℕ) (found : Option HalfMatch)
    → IsReply rs h (request.StepWalk k) (reply.Half (Ok found))
    → (v : Begun) × (slice_get h.walks k ≡ Some v)
    × ((x : Regex) × (slice_get rs v.regex ≡ Some x) × IsStepOf x (Some v) (Ok found))
step_of [] h k found own = absurd (half_bad own)
step_of (y ∷ rs) h k found own =
    let (v, at, current, (x, is, step)) =
    by_walk h.walks k h.current (slice_get h.walks k) (slice_get (y ∷ rs) h.current) found own in
    (v, at, (x, ap (slice_get (y ∷ rs)) current ∙ is, subst (λ (o : Option Begun). IsStepOf x o (Ok found)) at step))

-- the walk `w` of the regex `r`: each Ok reply to its steps is a pair of this list, or none after the last
module _
    (rs : List Regex) (k : ℕ) (w : Begun) (r : Regex) (of : slice_get rs w.regex ≡ Some r) (pairs : List Pair)
    (names : (reported : ℕ) (found : Option HalfMatch) → IsStep w.way (dfa_in w.way r) w.input reported (Ok found)
    → found ≡ half_nth pairs reported) where
  -- what is reported of a walk from its current state on; at the end it is the walk `w`
  abbrev Reports : Option Begun → List (Option HalfMatch) → Type 0
  Reports now steps = AreReportedFrom (reported_of now) pairs steps × Becomes now w

  over_begin :
      (new : Begun) (ws : List Begun) (steps : List (Option HalfMatch)) (now : Option Begun)
      → slice_get ws k ≡ now → new.reported ≡ 0 → Reports (slice_get (ws ++ new ∷ []) k) steps → Reports now steps
  over_begin new ws steps None e z h = (subst (λ n. AreReportedFrom n pairs steps) (push_reported ws new k z e) h.0, tt)
  over_begin new ws steps (Some v) e z h = subst (λ (o : Option Begun). Reports o steps) (push_other ws new k v e) h

  same_step :
      (v : Begun) (x : Regex) (found : Option HalfMatch) → Same v w → slice_get rs v.regex ≡ Some x
      → IsStepOf x (Some v) (Ok found)
      → found ≡ half_nth pairs v.reported
  same_step v x found (regex, way, input) at step =
      let same : x ≡ r = some_inj (sym at ∙ ap (slice_get rs) regex ∙ of) in
      names v.reported found
      (subst (λ (y : Regex). IsStep w.way (dfa_in w.way y) w.input v.reported (Ok found)) same
      (subst (λ (i : Input). IsStep w.way (dfa_in w.way x) i v.reported (Ok found)) input
      (subst (λ b. IsStep b (dfa_in b x) v.input v.reported (Ok found)) way step)))

  over_own_step :
      (h : History) (found : Option HalfMatch) (steps : List (Option HalfMatch))
      → IsReply rs h (request.StepWalk k) (reply.Half (Ok found))
      → Reports (slice_get (step_at k h.walks) k) steps → Reports (slice_get h.walks k) (found ∷ steps)
  over_own_step h found steps own more =
      let (v, at, (x, is, step)) = step_of rs h k found own in
      let m : Reports (Some (stepped v)) steps =
      subst (λ (o : Option Begun). Reports o steps) (step_same h.walks k ∙ ap with_step at) more in
      let first : found ≡ half_nth pairs v.reported = same_step v x found m.1 is step in
      let later : AreReportedFrom (suc v.reported) pairs steps =
      subst (λ n. AreReportedFrom n pairs steps) (add-one v.reported) m.0 in
      subst (λ (o : Option Begun). Reports o (found ∷ steps)) (sym at) ((first, later), m.1)

  over_step :
      (h : History) (j : ℕ) (found : Option HalfMatch) (steps : List (Option HalfMatch)) (b : Bool)
      → (j == k) ≡ b → IsReply rs h (request.StepWalk j) (reply.Half (Ok found))
      → Reports (slice_get (step_at j h.walks) k) steps
      → Reports (slice_get h.walks k) (if b then found ∷ steps else steps)
  over_step h j found steps true e own more =
      let same : j ≡ k = eqb-true j k e in
      over_own_step h found steps (subst (λ n. IsReply rs h (request.StepWalk n) (reply.Half (Ok found))) same own)
      (subst (λ n. Reports (slice_get (step_at n h.walks) k) steps) same more)
  over_step h j found steps false e own more =
      subst (λ (o : Option Begun). Reports o steps) (step_other h.walks j k (eqb-false j k e)) more

  -- what is reported before a request, by what is reported after it
  over_begins :
      (h : History) (way : Direction) (input : Input) (a : Reply) (steps : List (Option HalfMatch))
      → Reports (slice_get (after h (request.BeginWalk way input) a).walks k) steps
      → Reports (slice_get h.walks k) steps
  over_begins h way input (reply.Begun (Ok n)) steps more =
      over_begin _ h.walks steps (slice_get h.walks k) refl refl more
  over_begins h way input (reply.Begun (Err e)) steps more = more
  over_begins h way input (reply.Half x) steps more = more
  over_begins h way input (reply.Span x) steps more = more
  over_begins h way input (reply.Truth x) steps more = more
  over_begins h way input (reply.Spans x y) steps more = more
  over_begins h way input (reply.Tokens x y) steps more = more
  over_begins h way input (reply.Patterns x y) steps more = more
  over_begins h way input (reply.Done x) steps more = more
  over_begins h way input (reply.Bad x) steps more = more

  over_steps :
      (h : History) (j : ℕ) (a : Reply) (steps : List (Option HalfMatch)) → IsReply rs h (request.StepWalk j) a
      → Reports (slice_get (after h (request.StepWalk j) a).walks k) steps
      → Reports (slice_get h.walks k) (report k (request.StepWalk j) a steps)
  over_steps h j (reply.Half (Ok found)) steps own more = over_step h j found steps (j == k) refl own more
  over_steps h j (reply.Half (Err e)) steps own more = more
  over_steps h j (reply.Begun x) steps own more = more
  over_steps h j (reply.Span x) steps own more = more
  over_steps h j (reply.Truth x) steps own more = more
  over_steps h j (reply.Spans x y) steps own more = more
  over_steps h j (reply.Tokens x y) steps own more = more
  over_steps h j (reply.Patterns x y) steps own more = more
  over_steps h j (reply.Done x) steps own more = more
  over_steps h j (reply.Bad x) steps own more = more

  over_resets :
      (h : History) (n : ℕ) (a : Reply) (steps : List (Option HalfMatch))
      → Reports (slice_get (after h (request.Reset n) a).walks k) steps → Reports (slice_get h.walks k) steps
  over_resets h n (reply.Done (Ok d)) steps more = more
  over_resets h n (reply.Done (Err e)) steps more = more
  over_resets h n (reply.Half x) steps more = more
  over_resets h n (reply.Span x) steps more = more
  over_resets h n (reply.Truth x) steps more = more
  over_resets h n (reply.Spans x y) steps more = more
  over_resets h n (reply.Tokens x y) steps more = more
  over_resets h n (reply.Begun x) steps more = more
  over_resets h n (reply.Patterns x y) steps more = more
  over_resets h n (reply.Bad x) steps more = more

  over_request :
      (h : History) (q : Request) (a : Reply) (steps : List (Option HalfMatch)) → IsReply rs h q a
      → Reports (slice_get (after h q a).walks k) steps → Reports (slice_get h.walks k) (report k q a steps)
  over_request h (request.BeginWalk way input) a steps own more = over_begins h way input a steps more
  over_request h (request.StepWalk j) a steps own more = over_steps h j a steps own more
  over_request h (request.Reset n) a steps own more = over_resets h n a steps more
  over_request h (request.SearchFwd i) a steps own more = more
  over_request h (request.SearchRev i) a steps own more = more
  over_request h (request.Find i) a steps own more = more
  over_request h (request.IsMatch i) a steps own more = more
  over_request h (request.Iterate i) a steps own more = more
  over_request h (request.Tokenise i) a steps own more = more
  over_request h (request.Which c i) a steps own more = more

  -- what is reported over a script
  reports :
      (h : History) (qs : List Request) (answers : List Reply)
      → AreRepliesAfter rs h qs answers → slice_get (history h qs answers).walks k ≡ Some w
      → Reports (slice_get h.walks k) (reported_to k qs answers)
  reports h [] [] all e = (tt, becomes_itself (slice_get h.walks k) w e)
  reports h [] (a ∷ answers) all e = absurd all
  reports h (q ∷ qs) [] all e = absurd all
  reports h (q ∷ qs) (a ∷ answers) all e =
      over_request h q a (reported_to k qs answers) all.0 (reports (after h q a) qs answers all.1 e)

pub report_walks :
    (rs : List Regex) (script : List Request) (answers : List Reply) → AreReplies rs script answers
    → ReportWalks rs script answers
report_walks rs script answers all = λ k w r e of. record {
  reported =
      λ pairs list.
      (reports rs k w r of pairs (λ reported found step. step.pair pairs list) start script answers all e).0;
  paths =
      λ cycles pairs list.
      (reports rs k w r of pairs (λ reported found step. step.paths cycles pairs list) start script answers all e).0;
}

pub all_report :
    {T E : Type 0} (rs : List Regex) (script : List Request) (answers : T → List Reply) (r : Result T E)
    → IfOk r (λ v. AreReplies rs script (answers v)) → IfOk r (λ v. ReportWalks rs script (answers v))
all_report rs script answers (Ok v) all = report_walks rs script (answers v) all
all_report rs script answers (Err e) all = all
