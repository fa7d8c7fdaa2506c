-- If both DFAs have the same quit bytes, the reverse search reads none; and no single search fails with `NotAPair`.
use Rattle.std.proofs.Common.{ℕ, ◌≡◌, ◌∙◌, ◌+◌, ◌-◌, ◌≤◌, Bool, true, false, cond, List, length, Option}
use Rattle.std.proofs.Common.{Some, None, refl, sym, subst, arith}
use Rattle.automata_base.specs.Answers.Answers.{Half, later}
use Rattle.automata_base.specs.ByteClasses.Classes.{is_quit}
use Rattle.automata_base.specs.Haystacks.Input.{Input}
use Rattle.automata_base.specs.Answers.Spans.{back}
use Rattle.automata_determinize.specs.Laws.StartIsRight.{BackMeetsNone}
use Rattle.automata_base.specs.Haystacks.Tapes.{MeetsNone, ReadsByteBefore, ReadsUnitAt, forward_tape, reverse_tape}
use Rattle.automata_base.specs.declared.util.search.Direction.{Direction}
use Rattle.automata_base.specs.declared.util.search.Direction.TheVariants.{Forward, Backward}
use Rattle.automata_base.specs.declared.util.search.MatchErrorKind.TheVariants.{Quit as QuitAt}
use Rattle.automata_config.specs.declared.error.SearchError.TheVariants as search
use Rattle.automata_hybrid.specs.Steps.Events.{Event}
use Rattle.automata_hybrid.specs.Known.Known.{Known}
use Rattle.automata_hybrid.specs.Known.Passes as known
use Rattle.automata_hybrid.specs.Machines.Machine.{Machine}
use Rattle.automata_hybrid.specs.Searches.Passes.{IsFound, Skips, tape_in}
use Rattle.automata_hybrid.specs.Steps.Starts.{quit_behind}
use Rattle.automata_base.proofs.Paths.Orders.{none_some, some_inj, some_none}
use Rattle.regex_automata.proofs.Spans.Reports.{reported_reads}
use Rattle.automata_hybrid.proofs.Searches.Reach.{is_behind}
use Rattle.automata_hybrid.proofs.Searches.Directions.{units_in}
use Rattle.automata_hybrid.proofs.Searches.PassState.{false_true}
use Rattle.automata_determinize.proofs.Answers.Starts.{yes_no}
use Rattle.automata_base.proofs.Answers.Tried.{tries_once}

-- a look-behind byte that is not a quit byte, and one that is
free_behind :
    (m : Machine) (o : Option ℕ) (byte : ℕ) → quit_behind m o ≡ None → o ≡ Some byte → is_quit m.quits byte ≡ false
free_behind m None byte n e = absurd (none_some e)
free_behind m (Some b) byte n e =
    subst (λ v. is_quit m.quits v ≡ false) (some_inj e) (go (is_quit m.quits b) refl n) where
      go :
          (v : Bool) → is_quit m.quits b ≡ v → ◌≡◌ {A = Option ℕ} (cond v (Some b) None) None
          → is_quit m.quits b ≡ false
      go true q h = absurd (some_none h)
      go false q h = q

-- the forward search read no quit byte up to its match
front_clean :
    (m : Machine) (input : Input) (half : Half) (f : IsFound Forward m input (Some half))
    → MeetsNone (is_quit m.quits) (forward_tape input.haystack (input.start + f.0) input.end) f.2.pair.place
front_clean m input half f v (ReadsByteBefore e) =
    free_behind m (tape_in Forward (later Forward f.0 input)).before v f.2.reported.1.0 (sym e)
front_clean m input half f v (ReadsUnitAt j few e) =
    f.2.reported.1.1 j v (reported_reads Forward m (later Forward f.0 input) f.2.pair (sym f.2.reported.0) j few)
    (sym e)

-- so the reverse search from there reads none
rest_clean :
    (law : BackMeetsNone) (m : Machine) (input : Input) (half : Half) → input.end ≤ length input.haystack
    → half.offset ≤ input.end
    → IsFound Forward m input (Some half)
    → MeetsNone (is_quit m.quits) (reverse_tape input.haystack half.base half.offset) (half.offset - half.base)
rest_clean law m input half few within f =
    let base : input.start + f.0 ≡ half.base = sym f.2.base in
    let end : input.start + f.0 + f.2.pair.place ≡ half.offset = sym f.2.offset in
    let place : f.2.pair.place ≡ half.offset - half.base = omega (arith, base, end) in
    let clean =
    law (is_quit m.quits) input.haystack (input.start + f.0) input.end f.2.pair.place f.2.pair.place
    (omega (arith, end, within)) few (omega arith)
    (front_clean m input half f) in
    subst (λ n. MeetsNone (is_quit m.quits) (reverse_tape input.haystack half.base half.offset) n) place
    (subst (λ n. MeetsNone (is_quit m.quits) (reverse_tape input.haystack half.base n) f.2.pair.place) end
    (subst (λ n. MeetsNone (is_quit m.quits) (reverse_tape input.haystack n (input.start + f.0 + f.2.pair.place))
    f.2.pair.place) base clean))

-- no event fails for a quit byte
event_clean :
    (m : Machine) (e : Event) (place : ℕ) (old new : Known) (byte at : ℕ)
    → known.EventFails m e place old new (search.Match (QuitAt byte at)) → ⊥
event_clean m e place old new byte at f = go f.why where
  go : known.FailsFor m e place old (search.Match (QuitAt byte at)) → ⊥
  go (known.GivesUp none is) = absurd (cc)
  go (known.LacksMemory is) = absurd (cc)

-- a pass over bytes that are not quit bytes does not fail for one
pass_free :
    (m : Machine) (input : Input) (old new : Known) (byte at : ℕ) → input.start ≤ input.end
    → input.end ≤ length input.haystack
    → MeetsNone (is_quit m.quits) (tape_in Backward input) (input.end - input.start)
    → known.PassFails Backward m input old new (search.Match (QuitAt byte at)) → ⊥
pass_free m input old new byte at ahead few clean (known.QuitsBehind b quits is same) =
    let q = is_behind m (tape_in Backward input).before b quits in
    false_true (sym (clean b (ReadsByteBefore (sym q.0))) ∙ q.1)
pass_free m input old new byte at ahead few clean (known.LacksMode behind lacks is same) = absurd (cc)
pass_free m input old new byte at ahead few clean (known.CannotStart may f) = event_clean m _ _ old new byte at f
pass_free m input old new byte at ahead few clean (known.FailsLater may begun starts f) = unit f.fails where
  unit : known.UnitFails Backward m input f.place f.mid new (search.Match (QuitAt byte at)) → ⊥
  unit (known.MeetsQuit b read quits is same) =
      let n = units_in Backward input ahead few in
      let l : f.place ≤ input.end - input.start = omega (arith, n, f.reads.0) in
      false_true (sym (clean b (ReadsUnitAt f.place l (sym read))) ∙ quits)
  unit (known.CannotStep other step) = event_clean m _ _ _ new byte at step

pub back_free :
    (law : BackMeetsNone) (m rev : Machine) (old new : Known) (input : Input) (half : Half) (byte at : ℕ)
    → m.quits ≡ rev.quits → input.end ≤ length input.haystack → half.base ≤ half.offset → half.offset ≤ input.end
    → IsFound Forward m input (Some half)
    → known.SearchFails Backward rev (back input half) old new (search.Match (QuitAt byte at)) → ⊥
back_free law m rev old new input half byte at same few ahead within found f =
    go
    (tries_once (Skips rev) (back input half) f.passes (λ skips free. yes_no free)
    (f.tried f.passes (omega arith)).0.comes)
  where
    clean :
        MeetsNone (is_quit rev.quits) (reverse_tape input.haystack half.base half.offset) (half.offset - half.base)
    clean =
        subst (λ (q : List Bool). MeetsNone (is_quit q) (reverse_tape input.haystack half.base half.offset)
        (half.offset - half.base)) same
        (rest_clean law m input half few within found)

    go : f.passes ≡ 0 → ⊥
    go z =
        let end : half.offset - f.passes ≡ half.offset = omega (arith, z) in
        pass_free rev (back input half) f.mid new byte at ahead (omega (arith, few, within)) clean
        (subst (λ n. known.PassFails Backward rev (record (back input half) { end = n }) f.mid new
        (search.Match (QuitAt byte at))) end f.fails)

-- no event fails with `NotAPair`
event_pair : (m : Machine) (e : Event) (at : ℕ) (old new : Known) → known.EventFails m e at old new search.NotAPair → ⊥
event_pair m e at old new f = go f.why where
  go : known.FailsFor m e at old search.NotAPair → ⊥
  go (known.GivesUp none is) = absurd (cc)
  go (known.LacksMemory is) = absurd (cc)

-- no single search fails with `NotAPair`
pub never_pair :
    (way : Direction) (m : Machine) (input : Input) (old new : Known)
    → known.SearchFails way m input old new search.NotAPair → ⊥
never_pair way m input old new f = pass f.fails where
  pass : known.PassFails way m (later way f.passes input) f.mid new search.NotAPair → ⊥
  pass (known.QuitsBehind byte quits is same) = absurd (cc)
  pass (known.LacksMode behind lacks is same) = absurd (cc)
  pass (known.CannotStart may e) = event_pair m _ _ _ new e
  pass (known.FailsLater may begun starts u) = unit u.fails where
    unit : known.UnitFails way m (later way f.passes input) u.place u.mid new search.NotAPair → ⊥
    unit (known.MeetsQuit byte read quits is same) = absurd (cc)
    unit (known.CannotStep other step) = event_pair m _ _ _ new step
