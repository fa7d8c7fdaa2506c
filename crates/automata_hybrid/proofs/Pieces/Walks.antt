-- What a walk over a haystack in pieces reports, by what a pass over the haystack does.
use Rattle.std.proofs.Common.{ℕ, zero, suc, ◌≡◌, ◌<◌, ◌≤◌, ◌+◌, ◌-◌, ◌^◌, ◌⊎◌, inl, inr, Bool, true, List, [], ◌∷◌}
use Rattle.std.proofs.Common.{length, Option, Some, None, refl, sym, ap, ap₂, ◌∙◌, subst, arith}
use Rattle.std.proofs.lemmas.Bool.{cases_lt}
use Rattle.automata_hybrid.proofs.Words.{Anchored, CacheView, dead, earlier_or, first_among, Forward, half_at, half_of}
use Rattle.automata_hybrid.proofs.Words.{HalfMatch, HasDeadTag, HasReadNoQuit, Input, IsAtAlong, IsStartAnswer, Known}
use Rattle.automata_hybrid.proofs.Words.{Leads, LeadsToDead, LeadsToNamed, Machine, match_kind_of, Names, next, Pair}
use Rattle.automata_hybrid.proofs.Words.{pair_at, Powerset, Rows, Skips, state_in, successor, tape_in}
use Rattle.automata_base.proofs.Paths.Orders.{none_some, some_inj, some_none}
use Rattle.automata_hybrid.specs.Known.Pieces.{AnswerStands, DiesThere, FindsThere, ReadsPieceUpto}
use Rattle.automata_hybrid.specs.Pieces.Answers.{IsPieceAt, from_first}
use Rattle.automata_hybrid.specs.Pieces.State.{PiecesView}
use Rattle.automata_hybrid.specs.Private.Pieces.State.{found_in}
use Rattle.automata_hybrid.specs.Pieces.Walks.{AtMatch, AtPieceEnd, EndsWith, HasBegunWalk, HasWalked, IsAtMatch}
use Rattle.automata_hybrid.specs.Pieces.Walks.{HasNoMatch, IsWalked, patterns_at, patterns_here}
use Rattle.automata_hybrid.specs.Private.Pieces.Walks.{StandsInRow}
use Rattle.automata_hybrid.specs.Searches.PieceRuns.{piece_input, piece_state, piece_trace}
use Rattle.automata_hybrid.specs.Private.Searches.Units.{IsReadAnswer}
use Rattle.automata_hybrid.proofs.Pieces.Answers.{leads_begin, may_begin}
use Rattle.automata_hybrid.proofs.Pieces.Runs.{pass_clean, pass_next, pass_state}
use Rattle.automata_hybrid.proofs.Searches.Directions.{begins_alive, begins_dead}
use Rattle.automata_hybrid.proofs.Searches.PassState.{dead_more, starts_at, state_more}
use Rattle.automata_hybrid.proofs.Searches.Traces.{half_of_none, pair_half}
use Rattle.automata_hybrid.proofs.Searches.Units.{forward_unit}

-- a walk begins in an anchored mode, after a given byte
module _ (m : Machine) (mode : Anchored) (behind : Option ℕ) (earliest : Bool) (old new : CacheView) (id : ℕ)
    (plain : Skips m → ⊥)
    (answer : IsStartAnswer m mode behind old new id) (low : (q : Powerset) → Names new.store.table id q → id < 2 ^ 29)
    (small : new.store.table.of.stride ≤ 512) where
  -- its start state is dead
  pub walk_begun_dead :
      HasDeadTag id → HasBegunWalk m mode behind (record { state = None; read = 0; earliest = earliest; found = None })
  walk_begun_dead tag = record {
    read = refl;
    found = refl;
    given = λ input b. record {
      plain = plain;
      within = let u = b.undone in omega (arith, u);
      inside = b.inside;
      may = may_begin m mode behind input.earliest old new id plain answer low small input b;
      stands = λ q e. absurd (none_some e);
      over = λ e.
          begins_dead Forward m new.store.table input id
          (leads_begin m mode behind input.earliest old new id plain answer low small input b) low small tag;
    };
  }

  -- its start state is not dead
  pub walk_begun_alive :
      (held : Powerset) → (HasDeadTag id → ⊥) → ((q : Powerset) → Names new.store.table id q → held ≡ q)
      → HasBegunWalk m mode behind (record { state = Some held; read = 0; earliest = earliest; found = None })
  walk_begun_alive held alive holds = record {
    read = refl;
    found = refl;
    given = λ input b.
        let names : Names new.store.table id (state_in Forward m input 0) =
        begins_alive Forward m new.store.table input id
        (leads_begin m mode behind input.earliest old new id plain answer low small input b) low small alive in
        record {
          plain = plain;
          within = let u = b.undone in omega (arith, u);
          inside = b.inside;
          may = may_begin m mode behind input.earliest old new id plain answer low small input b;
          stands = λ q e. record {
            read = refl;
            state = sym (some_inj e) ∙ holds (state_in Forward m input 0) names;
            clean = (starts_at Forward m new.store.table input id names).clean;
          };
          over = λ e. absurd (some_none e);
        };
  }

none_earlier : (a b : Option Pair) → earlier_or a b ≡ None → (a ≡ None) × (b ≡ None)
none_earlier None b e = (refl, e)
none_earlier (Some pair) b e = absurd (some_none e)

none_pair : (ps : List ℕ) (k : ℕ) → pair_at ps k None ≡ None → ps ≡ []
none_pair [] k e = refl
none_pair (p ∷ ps) k e = absurd (some_none e)

-- if there is no first pair, nothing is reported
silent_first : (R : ℕ → List ℕ) (k : ℕ) → first_among R k ≡ None → (j : ℕ) → j < k → R j ≡ []
silent_first R zero e j l = absurd (omega (arith, l))
silent_first R (suc k) e j l =
    let both = none_earlier (first_among R k) (pair_at (R k) k None) e in
    go both.1 (silent_first R k both.0 j) (cases_lt j k)
  where
    go : pair_at (R k) k None ≡ None → (j < k → R j ≡ []) → (j < k) ⊎ (k ≤ j) → R j ≡ []
    go last before (inl less) = before less
    go last before (inr more) =
        let same : k ≡ j = omega (arith, more, l) in subst (λ i. R i ≡ []) same (none_pair (R k) k last)

-- if the units before the last report nothing, the first pair is the first that the last unit reports
first_last :
    (input : Input) (R : ℕ → List ℕ) (k : ℕ) → first_among R k ≡ None
    → half_of Forward input (first_among R (suc k)) ≡ half_at (R k) (input.start + k) None
first_last input R k e =
    ap (λ o. half_of Forward input (earlier_or o (pair_at (R k) k None))) e ∙ pair_half Forward input (R k) k None

half_empty : (ps : List ℕ) (at : ℕ) → ps ≡ [] → half_at ps at None ≡ None
half_empty [] at e = refl
half_empty (p ∷ ps) at e = cc

-- a match in a piece, with its offset in the haystack
half_on :
    (ps : List ℕ) (start base k : ℕ)
    → from_first start (found_in (half_at ps (0 + k) None) base None) ≡ half_at ps (start + (base + k)) None
half_on [] start base k = refl
half_on (p ∷ ps) start base k =
    let same : start + (base + (0 + k)) ≡ start + (base + k) = omega arith in
    ap (λ (o : ℕ). Some (record { pattern = p; offset = o })) same

some_found : (found : Option HalfMatch) (base : ℕ) → (found ≡ None → ⊥) → found_in found base None ≡ None → ⊥
some_found None base some e = some refl
some_found (Some half) base some e = absurd (some_none e)

-- if a match was found, the patterns here are those of the current state
at_state : (w : PiecesView) (q : Powerset) → w.state ≡ Some q → (w.found ≡ None → ⊥) → patterns_here w ≡ q.patterns
at_state w q stood some = ap (λ s. patterns_at s w.found) stood ∙ go w.found some where
  go : (found : Option HalfMatch) → (found ≡ None → ⊥) → patterns_at (Some q) found ≡ q.patterns
  go None some = absurd (some refl)
  go (Some half) some = refl

pub stands_as :
    (t : Rows) (id count count' : ℕ) (half half' : Option HalfMatch) (old new : PiecesView)
    → StandsInRow t id count half old new → count ≡ count' → half ≡ half' → StandsInRow t id count' half' old new
stands_as t id count count' half half' old new stands same is =
    subst (λ c. StandsInRow t id c half' old new) same (subst (λ h. StandsInRow t id count h old new) is stands)

-- a walk without a current state passes over a whole piece
pub walks_none :
    (m : Machine) (piece : List ℕ) (w : PiecesView) → w.state ≡ None → w.found ≡ None
    → IsWalked m piece w w (length piece)
walks_none m piece w none found = record {
  few = omega arith;
  all = λ e. refl;
  some = λ s. absurd (s found);
  walks = λ input k given here.
      let dies = given.over none in (
        record {
          plain = given.plain;
          within = let h = here.within in omega (arith, h);
          inside = given.inside;
          may = given.may;
          stands = λ q e. absurd (none_some (sym none ∙ e));
          over = λ e. dead_more Forward m input k (k + length piece) (omega arith) dies;
        },
        AtPieceEnd refl
            (λ j from to. ap (λ (q : Powerset). q.patterns)
            (dead_more Forward m input k (suc j) (omega (arith, from)) dies))
            found,
      );
}

-- a walk with a current state reads a piece
module _ (m : Machine) (q : Powerset) (piece : List ℕ) (old new : PiecesView) (was : old.state ≡ Some q)
    (early : old.earliest ≡ true) where
  abbrev states : ℕ → List ℕ
  states i = (piece_state m piece q (suc i)).patterns

  -- what the bytes report in an earliest search
  reported_is :
      (k : ℕ) → (piece_trace m piece old.earliest q).reported k ≡ first_among states k
  reported_is k = ap (λ e. (piece_trace m piece e q).reported k) early

  -- bytes that report nothing have no match in the span
  silent_on :
      (input : Input) (n k : ℕ) → HasWalked m input n old → IsPieceAt input n piece → k ≤ length piece
      → first_among states k ≡ None → HasNoMatch m input n (n + k)
  silent_on input n k given here l none j from to =
      let few : j - n < k = omega (arith, from, to) in
      let same : n + (j - n) ≡ j = omega (arith, from) in
      subst (λ i. (state_in Forward m input (suc i)).patterns ≡ []) same
      (ap (λ (p : Powerset). p.patterns)
      (pass_next m input n q piece given.inside here (given.stands q was).state (j - n) (omega (arith, few, l)))
      ∙ silent_first states k none (j - n) few)

  -- it reads the whole piece without a match
  pub walks_through :
      (t : Rows) (id : ℕ) (found : Option HalfMatch)
      → StandsInRow t id (old.read + length piece) None old new
      → IsAtAlong (piece_trace m piece old.earliest q) Forward m t (piece_input piece old.earliest) (length piece - 0)
      id found
      → IsWalked m piece old new (length piece)
  walks_through t id found stands at = record {
    few = omega arith;
    all = λ e. refl;
    some = λ s. absurd (s stands.found);
    walks = λ input n given here.
        let all : length piece - 0 ≡ length piece = omega arith in
        let none : first_among states (length piece) ≡ None =
        sym (reported_is (length piece))
        ∙ (sym (ap (piece_trace m piece old.earliest q).reported all)
        ∙ half_of_none Forward (piece_input piece old.earliest) _ (sym at.reported ∙ at.nothing early)) in (
          record {
            plain = given.plain;
            within = let h = here.within in omega (arith, h);
            inside = given.inside;
            may = given.may;
            stands = λ p e. record {
              read = stands.read ∙ ap (λ r. r + length piece) (given.stands q was).read;
              state =
                  some_inj (sym e ∙ stands.state _ at.named)
                  ∙ (ap (piece_state m piece q) all
                  ∙ sym (pass_state m input n q piece given.inside here (given.stands q was).state (length piece)
                  (omega arith)));
              clean =
                  pass_clean m input n q piece given.inside here (given.stands q was).state old.earliest (length piece)
                  (omega arith)
                  (given.stands q was).clean
                  (subst (λ k. HasReadNoQuit Forward m (piece_input piece old.earliest) k) all at.clean);
            };
            over = λ e. absurd (stands.some e);
          },
          AtPieceEnd refl (silent_on input n (length piece) given here (omega arith) none) stands.found,
        );
  }

  -- it reads the piece up to a byte
  module _ (i : ℕ) (found : Option HalfMatch) (begun end : Known) (upto : ReadsPieceUpto m piece old q i begun end)
      (reported : found ≡ half_of Forward (piece_input piece old.earliest)
      ((piece_trace m piece old.earliest q).reported (suc i)))
    where
      low : i < length piece
      low = let l = upto.reads.0 in omega (arith, l)

      before : first_among states i ≡ None
      before = sym (reported_is i) ∙ upto.reads.2 early

      found_is : found ≡ half_at (states i) (0 + i) None
      found_is =
          reported
          ∙ (ap (half_of Forward (piece_input piece old.earliest)) (reported_is (suc i))
          ∙ first_last (piece_input piece old.earliest) states i before)

      -- if nothing is found there, the state after that byte is dead
      dead_upto : found ≡ None → piece_state m piece q (suc i) ≡ dead
      dead_upto none = go upto.over where
        go :
            AnswerStands (piece_trace m piece old.earliest q) (piece_input piece old.earliest) i
            → piece_state m piece q (suc i) ≡ dead
        go (DiesThere dies) = dies
        go (FindsThere early some) =
            absurd (some (half_of_none Forward (piece_input piece old.earliest) _ (sym reported ∙ none)))

      -- if a match is found there, the state after that byte is not dead
      pub alive_upto : (found ≡ None → ⊥) → piece_state m piece q (suc i) ≡ dead → ⊥
      alive_upto some dies =
          some (found_is ∙ half_empty (states i) (0 + i) (ap (λ (p : Powerset). p.patterns) dies))

      -- so it has a row
      pub named_upto :
          (t : Rows) (id : ℕ) → (found ≡ None → ⊥) → Leads t id (piece_state m piece q (suc i))
          → Names t id (piece_state m piece q (suc i))
      named_upto t id some (LeadsToDead is dies) = absurd (alive_upto some dies)
      named_upto t id some (LeadsToNamed named) = named

      -- nothing can match after that byte
      pub walks_dead :
          found ≡ None → new.state ≡ None → new.found ≡ None → IsWalked m piece old new (length piece)
      walks_dead nothing none here_none = record {
        few = omega arith;
        all = λ e. refl;
        some = λ s. absurd (s here_none);
        walks = λ input n given here.
            let dies : state_in Forward m input (suc (n + i)) ≡ dead =
            pass_next m input n q piece given.inside here (given.stands q was).state i low ∙ dead_upto nothing in (
              record {
                plain = given.plain;
                within = let h = here.within in omega (arith, h);
                inside = given.inside;
                may = given.may;
                stands = λ p e. absurd (none_some (sym none ∙ e));
                over = λ e. dead_more Forward m input (suc (n + i)) (n + length piece) (omega (arith, low)) dies;
              },
              AtPieceEnd refl (λ j from to. go input n given here dies j from to (cases_lt j (n + i)))
                  here_none,
            );
      } where
        go :
            (input : Input) (n : ℕ) → HasWalked m input n old → IsPieceAt input n piece
            → state_in Forward m input (suc (n + i)) ≡ dead
            → (j : ℕ) → n ≤ j → j < n + length piece → (j < n + i) ⊎ (n + i ≤ j)
            → (state_in Forward m input (suc j)).patterns ≡ []
        go input n given here dies j from to (inl less) =
            silent_on input n i given here (omega (arith, low)) before j from less
        go input n given here dies j from to (inr more) =
            ap (λ (p : Powerset). p.patterns)
            (dead_more Forward m input (suc (n + i)) (suc j) (omega (arith, more)) dies)

      -- patterns match after that byte
      pub walks_match :
          (t : Rows) (id : ℕ) → (found ≡ None → ⊥)
          → StandsInRow t id (old.read + suc i) (found_in found old.read None) old new
          → Names t id (piece_state m piece q (suc i)) → IsWalked m piece old new (suc i)
      walks_match t id some stands named = record {
        few = omega (arith, low);
        all = λ e. absurd (some_found found old.read some (sym stands.found ∙ e));
        some = λ s. omega arith;
        walks = λ input n given here. (
          walked input n given here,
          AtMatch i refl
              (silent_on input n i given here (omega (arith, low)) before) (matches input n given here),
        );
      } where
        walked : (input : Input) (n : ℕ) → HasWalked m input n old → IsPieceAt input n piece
            → HasWalked m input (n + suc i) new
        walked input n given here = record {
          plain = given.plain;
          within = let h = here.within in omega (arith, h, low);
          inside = given.inside;
          may = given.may;
          stands = λ p e. record {
            read = stands.read ∙ ap (λ r. r + suc i) (given.stands q was).read;
            state =
                some_inj (sym e ∙ stands.state _ named)
                ∙ sym (pass_state m input n q piece given.inside here (given.stands q was).state (suc i)
                (omega (arith, low)));
            clean =
                pass_clean m input n q piece given.inside here (given.stands q was).state old.earliest (suc i)
                (omega (arith, low))
                (given.stands q was).clean upto.clean;
          };
          over = λ e. absurd (stands.some e);
        }

        matches : (input : Input) (n : ℕ) → HasWalked m input n old → IsPieceAt input n piece
            → IsAtMatch m input (n + i) new
        matches input n given here =
            let same : state_in Forward m input (suc (n + i)) ≡ piece_state m piece q (suc i) =
            pass_next m input n q piece given.inside here (given.stands q was).state i low in
            let of : patterns_here new ≡ states i =
            at_state new (piece_state m piece q (suc i)) (stands.state _ named)
            (λ e. some_found found old.read some (sym stands.found ∙ e)) in
            record {
              patterns = of ∙ sym (ap (λ (p : Powerset). p.patterns) same);
              some = λ e. some (found_is ∙ half_empty (states i) (0 + i) (sym of ∙ e));
              found =
                  ap (from_first input.start)
                  (stands.found ∙ (ap (λ b. found_in found b None) (given.stands q was).read
                  ∙ ap (λ o. found_in o n None) found_is))
                  ∙ (half_on (states i) input.start n i
                  ∙ sym (ap (λ (p : Powerset). half_at p.patterns (input.start + (n + i)) None) same));
            }

-- the state after the unit that follows the span reports what matches at the end of the span
pub walk_ends :
    (m : Machine) (ahead : Option ℕ) (w : PiecesView) (q : Powerset) (old new : CacheView) (id to : ℕ)
    (patterns : List ℕ)
    → w.state ≡ Some q → Names old.store.table id q → IsReadAnswer m id ahead old new to
    → ((s : Powerset) → Leads new.store.table to s → patterns ≡ s.patterns) → EndsWith m w ahead patterns
walk_ends m ahead w q old new id to patterns stood named answer reports input all =
    let n : ℕ = input.end - input.start in
    let l = all.given.within in
    let unit : next (tape_in Forward input) n ≡ ahead =
    forward_unit input input.end (omega (arith, l)) (omega arith) all.given.inside ∙ all.followed in
    let same : state_in Forward m input (suc n) ≡ successor m.nfa (match_kind_of m.config) q ahead =
    state_more Forward m input n ∙ ap₂ (successor m.nfa (match_kind_of m.config)) (sym (all.given.stands q stood).state)
    unit in
    reports (state_in Forward m input (suc n)) (subst (Leads new.store.table to) (sym same) (answer.named q named))

-- without a current state nothing matches there
pub walk_ends_none : (m : Machine) (ahead : Option ℕ) (w : PiecesView) → w.state ≡ None → EndsWith m w ahead []
walk_ends_none m ahead w none input all =
    sym (ap (λ (p : Powerset). p.patterns)
    (dead_more Forward m input (input.end - input.start) (suc (input.end - input.start)) (omega arith)
    (all.given.over none)))
