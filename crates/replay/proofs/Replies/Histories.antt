-- Replies and histories, request by request.
use Rattle.std.proofs.Common.{◌≡◌, ℕ, List, [], ◌∷◌, Option, Some, None, MatchOption, Err, true, nat_lt, length}
use Rattle.std.proofs.Common.{if◌then◌else◌, ap, refl, sym, subst}
use Rattle.std.specs.Prelude.{slice_get}
use Rattle.regex_automata.specs.declared.hybrid.regex.Regex.{Regex}
use Rattle.replay.specs.Histories.{History}
use Rattle.replay.specs.Caches.{IsMadeBy, IsMadeByOf}
use Rattle.replay.specs.Replies.{IsReply, IsOwnValue, IsOwnValueBy, own_fault}
use Rattle.regex_automata.specs.declared.hybrid.regex.caches.Cache.{Cache}
use Rattle.replay.specs.declared.requests.Request.{Request}
use Rattle.replay.specs.declared.requests.Reply.{Reply}
use Rattle.replay.specs.declared.requests.Reply.TheVariants as reply
use Rattle.replay.specs.declared.requests.Fault.{Fault}
use Rattle.replay.specs.declared.requests.Fault.TheVariants as fault
use Rattle.replay.specs.declared.requests.Request.TheVariants as request
use Rattle.automata_config.specs.declared.error.SearchError.TheVariants as search
use Rattle.automata_base.proofs.Paths.Orders.{none_some}

abbrev none_of : Option Fault
none_of = None

-- a request with no fault of its own
pub is_own : (rs : List Regex) (h : History) (q : Request) (answer : Reply) (r : Regex)
    → slice_get rs h.current ≡ Some r → own_fault rs h q ≡ None → IsOwnValue r h.walks q answer → IsReply rs h q answer
is_own [] h q answer r at fine own = absurd (none_some at)
is_own (x ∷ xs) h q answer r at fine own =
    subst (λ (o : Option Fault). MatchOption o (IsOwnValueBy (slice_get (x ∷ xs) h.current) h.walks q answer)
    (λ why. answer ≡ reply.Bad why)) (sym fine)
    (subst (λ (o : Option Regex). IsOwnValueBy o h.walks q answer) (sym at) own)

-- a bad request
pub is_bad : (rs : List Regex) (h : History) (q : Request) (answer : Reply) (r : Regex) (why : Fault)
    → slice_get rs h.current ≡ Some r → own_fault rs h q ≡ Some why → answer ≡ reply.Bad why → IsReply rs h q answer
is_bad [] h q answer r why at bad e = absurd (none_some at)
is_bad (x ∷ xs) h q answer r why at bad e =
    subst (λ (o : Option Fault). MatchOption o (IsOwnValueBy (slice_get (x ∷ xs) h.current) h.walks q answer)
    (λ why. answer ≡ reply.Bad why)) (sym bad) e

-- a reset that ran out of memory
pub refused_reset : (rs : List Regex) (h : History) (k : ℕ) (r : Regex)
    → slice_get rs h.current ≡ Some r → true ≡ nat_lt k (length rs)
    → IsReply rs h (request.Reset k) (reply.Done (Err search.OutOfMemory))
refused_reset rs h k r at lt =
    is_own rs h (request.Reset k) (reply.Done (Err search.OutOfMemory)) r at
    (ap (λ b. if b then none_of else Some fault.NoRegex) (sym lt)) refl

-- what a request with no fault of its own does to the caches
pub is_made :
    (rs : List Regex) (h : History) (q : Request) (old new : Cache) (answer : Reply) (r : Regex)
    → slice_get rs h.current ≡ Some r → IsMadeBy r h.walks q old new answer
    → IsMadeByOf (slice_get rs h.current) h.walks q old new answer
is_made rs h q old new answer r at made =
    subst (λ (o : Option Regex). IsMadeByOf o h.walks q old new answer) (sym at) made
