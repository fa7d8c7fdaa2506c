-- Patching one state of a list.
use Rattle.std.proofs.Common.{ℕ, ◌≡◌, ◌<◌, List, length, map, set, get_or, Option, Some, None, Result, Ok, Err, refl}
use Rattle.std.proofs.Common.{sym, ap, ◌∙◌}
use Rattle.std.specs.Prelude.{slice_get, OnOk, OnErr}
use Rattle.std.proofs.Math.Seq.{map-set_same}
use Rattle.std.proofs.lemmas.List.{map-set}
use Rattle.std.proofs.lemmas.Option.{slice_get-map, slice_get_read}
use Rattle.automata_base.specs.declared.nfa.thompson.building.Added.{Added}
use Rattle.automata_base.specs.declared.nfa.thompson.state.Flags.{Flags}
use Rattle.automata_base.specs.Nfas.Drafts.{Draft, with_states}
use Rattle.automata_base.specs.Nfas.Shapes.{Shape, shape_added, patched}

pub same_shape : (x y : Shape) → ◌≡◌ {A = Option Shape} (Some x) (Some y) → x ≡ y
same_shape x y e = cc

module _ (items : List Added) (at : ℕ) (a : Added) (within : at < length items) (read : a ≡ get_or items at a) where
  shape_read : slice_get (map shape_added items) at ≡ Some (shape_added a)
  shape_read =
      slice_get-map shape_added items at
      ∙ ap (λ o. shaped o) (slice_get_read items (length items) at a refl within read)
    where
      shaped : Option Added → Option Shape
      shaped None = None
      shaped (Some x) = Some (shape_added x)

  read_is : (old : Shape) → slice_get (map shape_added items) at ≡ Some old → shape_added a ≡ old
  read_is old e = same_shape (shape_added a) old (sym shape_read ∙ e)

  patched_is :
      (b : Added) (old shape : Shape) (to : ℕ) → slice_get (map shape_added items) at ≡ Some old
      → patched (shape_added a) to ≡ Some (shape_added b) → patched old to ≡ Some shape
      → map shape_added (set items at b) ≡ set (map shape_added items) at shape
  patched_is b old shape to e p q =
      map-set shape_added items at b
      ∙ ap (λ z. set (map shape_added items) at z)
      (same_shape (shape_added b) shape (sym p ∙ (ap (λ z. patched z to) (read_is old e) ∙ q)))

  same_is : (b : Added) → shape_added b ≡ shape_added a → map shape_added (set items at b) ≡ map shape_added items
  same_is b e = map-set_same shape_added items at b a (e ∙ ap shape_added read)

abbrev drafted : List Shape → Option ℕ → List ℕ → Flags → Draft
drafted states pattern starts flags = record { states = states; pattern = pattern; starts = starts; flags = flags }

on_ok : {A B : Type 0} (r : Result A B) (P Q : Type 0) → (P → Q) → OnOk r P → OnOk r Q
on_ok (Ok x) P Q f p = f p
on_ok (Err x) P Q f p = p

on_err : {A B : Type 0} (r : Result A B) (P Q : Type 0) → (P → Q) → OnErr r P → OnErr r Q
on_err (Ok x) P Q f p = p
on_err (Err x) P Q f p = f p

-- The same for a builder.
module _
    (items : List Added) (pattern : Option ℕ) (starts : List ℕ) (flags : Flags) (now : Draft) (at from : ℕ) (a : Added)
    (view : drafted (map shape_added items) pattern starts flags ≡ now) (same : at ≡ from) (within : at < length items)
    (read : a ≡ get_or items at a)
  where
    here : (old : Shape) → slice_get now.states from ≡ Some old → slice_get (map shape_added items) at ≡ Some old
    here old e = ap (slice_get (map shape_added items)) same ∙ (ap (λ (d : Draft). slice_get d.states from) view ∙ e)

    pub draft_read : (old : Shape) → slice_get now.states from ≡ Some old → shape_added a ≡ old
    draft_read old e = read_is items at a within read old (here old e)

    pub draft_patched :
        {A B : Type 0} (r : Result A B) (b : Added) (to : ℕ)
        → OnOk r (patched (shape_added a) to ≡ Some (shape_added b))
        → OnOk r ((old shape : Shape) → slice_get now.states from ≡ Some old → patched old to ≡ Some shape
        → drafted (map shape_added (set items at b)) pattern starts flags ≡ with_states now (set now.states from shape))
    draft_patched r b to =
        on_ok r (patched (shape_added a) to ≡ Some (shape_added b))
        ((old shape : Shape) → slice_get now.states from ≡ Some old → patched old to ≡ Some shape
        → drafted (map shape_added (set items at b)) pattern starts flags ≡ with_states now (set now.states from shape))
        (λ p old shape e q.
        ap (λ z. drafted z pattern starts flags) (patched_is items at a within read b old shape to (here old e) p q)
        ∙ (ap (λ k. drafted (set (map shape_added items) k shape) pattern starts flags) same
        ∙ ap (λ (d : Draft). with_states d (set d.states from shape)) view))

    pub draft_same :
        {A B : Type 0} (r : Result A B) (b : Added) → OnErr r (shape_added b ≡ shape_added a)
        → OnErr r (drafted (map shape_added (set items at b)) pattern starts flags ≡ now)
    draft_same r b =
        on_err r (shape_added b ≡ shape_added a) (drafted (map shape_added (set items at b)) pattern starts flags ≡ now)
        (λ e. ap (λ z. drafted z pattern starts flags) (same_is items at a within read b e) ∙ view)
