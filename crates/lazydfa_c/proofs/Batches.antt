-- Sequences of calls, and one more call.
use Rattle.std.proofs.Common.{ℕ, suc, zero, inl, inr, get_or, ◌≡◌, ◌+◌, ◌<◌, ◌++◌, List, [], ◌∷◌, add-one, ap, arith}
use Rattle.std.proofs.Common.{drop, length, refl}
use Rattle.std.proofs.Common.{subst, sym, take, ◌∙◌}
use Rattle.std.proofs.Math.ListN.{set}
use Rattle.std.proofs.lemmas.List.{drop-set-lt, set-get_or, take_more_set}
use Rattle.std.specs.Prelude.{Ok, Some}
use Rattle.automata_base.specs.declared.util.search.Direction.{Direction}
use Rattle.automata_hybrid.specs.Walks.State.{Walk}
use Rattle.regex_automata.specs.Promises.{CacheView, HalfMatch, Input, Machine}
use Rattle.lazydfa_c.specs.Batches.{AreCalls, AreWalkSteps, InTurn, IsWalkStep, CallsOn, NoStep, NoneCalled}
use Rattle.lazydfa_c.specs.Batches.{StepsFurther}
use Rattle.lazydfa_c.specs.Codes.{number_of}
use Rattle.lazydfa_c.specs.Statuses.{plain}
use Rattle.lazydfa_c.specs.declared.code.Code.TheVariants as code
use Rattle.lazydfa_c.specs.declared.input.Found.{Found}
use Rattle.lazydfa_c.specs.declared.object.Searcher.{Searcher}
use Rattle.lazydfa_c.specs.declared.status.Status.{Status}

call_more :
    {A : Type 0} (Call : Found → A → A → Searcher → Searcher → Status → Type 0) (fs : List Found) (f : Found)
    (old at new : A) (s u t : Searcher) (status : Status)
    → AreCalls Call fs old at s u → status.code ≡ number_of code.Done → Call f at new u t status
    → AreCalls Call (fs ++ f ∷ []) old new s t
call_more {A = A} Call [] f old at new s u t status (NoneCalled old1 at1 s1 u1 same still) done call =
    CallsOn f [] old new new s t t
    (record {
      status = status;
      done = done;
      call =
          subst (λ (a : A). Call f a new s t status) same
          (subst (λ (v : Searcher). Call f at new v t status) still call);
    })
    (NoneCalled new new t t refl refl)
call_more Call (g ∷ fs) f old at new s u t status (CallsOn g1 fs1 old1 mid at1 s1 v u1 one others) done call =
    CallsOn g (fs ++ f ∷ []) old mid new s v t one (call_more Call fs f mid at new v u t status others done call)

tail_of : {A : Type 0} (i : ℕ) (xs : List A) → drop (suc i) xs ≡ drop 1 (drop i xs)
tail_of zero [] = refl
tail_of zero (x ∷ xs) = refl
tail_of (suc i) [] = refl
tail_of (suc i) (x ∷ xs) = tail_of i xs

rest_more : {A : Type 0} (i : ℕ) (xs ys : List A) → drop i xs ≡ drop i ys → drop (suc i) xs ≡ drop (suc i) ys
rest_more i xs ys same = tail_of i xs ∙ (ap (drop 1) same ∙ sym (tail_of i ys))

-- the matches before an index are those that the calls so far wrote, and nothing is written from the index on
pub record AreSoFar {A : Type 0} (Call : Found → A → A → Searcher → Searcher → Status → Type 0)
    (was items : List Found) (count i : ℕ) (old at : A) (s u : Searcher) : Type 0 where
  pub counted : count ≡ i
  pub rest : drop i items ≡ drop i was
  pub calls : AreCalls Call (take i items) old at s u

-- no call was made yet
pub none_so_far :
    {A : Type 0} (Call : Found → A → A → Searcher → Searcher → Status → Type 0) (was : List Found) (old : A)
    (s : Searcher) → AreSoFar Call was was 0 0 old old s s
none_so_far Call was old s = record { counted = refl; rest = refl; calls = NoneCalled old old s s refl refl }

-- one more call wrote a match
pub one_more :
    {A : Type 0} (Call : Found → A → A → Searcher → Searcher → Status → Type 0) (was items : List Found)
    (count i n : ℕ) (f : Found) (old at new : A) (s u t : Searcher) (status : Status)
    → AreSoFar Call was items count i old at s u → i < length items → n ≡ i + 1
    → status.code ≡ number_of code.Done → Call f at new u t status
    → AreSoFar Call was (set items i f) n (i + 1) old new s t
one_more {A = A} Call was items count i n f old at new s u t status far within next done call =
    let later : i < suc i = omega arith in
    let rest : drop (suc i) (set items i f) ≡ drop (suc i) was =
    drop-set-lt (suc i) items i f later ∙ rest_more i items was far.rest in
    record {
      counted = next;
      rest = rw add-one rest;
      calls =
          subst (λ (fs : List Found). AreCalls Call fs old new s t) (sym (take_more_set items i f within))
          (call_more Call (take i items) f old at new s u t status far.calls done call);
    }

-- the next call wrote no match
pub stopped :
    {A : Type 0} (Call : Found → A → A → Searcher → Searcher → Status → Type 0) (was items : List Found)
    (count i : ℕ) (f d : Found) (old at new : A) (s u t : Searcher) (status : Status)
    → AreSoFar Call was items count i old at s u → i < length items → (status.code ≡ number_of code.Done → ⊥)
    → f ≡ get_or items i d → Call f at new u t status → InTurn Call was (set items i f) count old new s t status
stopped {A = A} Call was items count i f d old at new s u t status far within not is call =
    let same : set items i f ≡ items = ap (λ (x : Found). set items i x) is ∙ set-get_or items i d in
    subst (λ (xs : List Found). InTurn Call was xs count old new s t status) (sym same)
    (record {
      at = at;
      between = u;
      calls = subst (λ (n : ℕ). AreCalls Call (take n items) old at s u) (sym far.counted) far.calls;
      last = inr (subst (λ (n : ℕ). n < length items) (sym far.counted) within, not, (f, call));
      rest = subst (λ (n : ℕ). drop n items ≡ drop n was) (sym far.counted) far.rest;
    })

-- there is no more room
pub filled :
    {A : Type 0} (Call : Found → A → A → Searcher → Searcher → Status → Type 0) (was items : List Found)
    (count i : ℕ) (old at : A) (s u : Searcher) (status : Status)
    → AreSoFar Call was items count i old at s u → i ≡ length items → status ≡ plain code.Done
    → InTurn Call was items count old at s u status
filled Call was items count i old at s u status far full is = record {
  at = at;
  between = u;
  calls = subst (λ (n : ℕ). AreCalls Call (take n items) old at s u) (sym far.counted) far.calls;
  last = inl (far.counted ∙ full, is, refl, refl);
  rest = subst (λ (n : ℕ). drop n items ≡ drop n was) (sym far.counted) far.rest;
}

-- one more step found a match
pub step_more :
    (way : Direction) (m : Machine) (input : Input) (halves : List HalfMatch) (half : HalfMatch)
    (walk w next : Walk) (old c new : CacheView)
    → AreWalkSteps way m input halves walk w old c → IsWalkStep way m input w next c new (Ok (Some half))
    → AreWalkSteps way m input (halves ++ half ∷ []) walk next old new
step_more way m input [] half walk w next old c new (NoStep walk1 w1 old1 c1 same still) step =
    StepsFurther half [] walk next next old new new
    (subst (λ (v : Walk). IsWalkStep way m input v next old new (Ok (Some half))) same
    (subst (λ (b : CacheView). IsWalkStep way m input w next b new (Ok (Some half))) still step))
    (NoStep next next new new refl refl)
step_more way m input (h ∷ halves) half walk w next old c new
    (StepsFurther h1 halves1 walk1 mid w1 old1 between c1 one others)
    step =
    StepsFurther h (halves ++ half ∷ []) walk mid next old between new one
    (step_more way m input halves half mid w next between c new others step)
