-- Both parts are lent at once: the borrow of the whole is split in two, and the last value of the whole follows from
-- theirs.
use mathlib.Core.Path.{◌≡◌, refl}
use mathlib.Core.List.{List, [], ◌∷◌}
use Prim.Native.Nat.{ℕ, ◌+◌}
use seplogic.Ra.Ura.{Ura}
use mir.Syntax.{named}
use mir.Val.{Val, vptr, vstruct, vcons, vnil}
use prog.Memory.{size, align, up}
use base.Fraction.{full_share}
use base.Logic.{SProp, ent, emp, sep}
use base.Fml.{GName, ftrue, flft, fobs, fbor}
use types.Logic.{Logic, sem}
use types.Kit.{‵, raw, ◌⊛◌, some, later, ◌$◌, ◌∵◌, !, qed, by, move, keep, drop, use0, use1, split, split3, join, pick}
use types.Kit.{await, fsplit, fsplit3, fjoin, fjoin3, fpack, feq_i, suffices, group, done}
use types.Part.{agg}
use types.Run.{enter, addr, fld, stop, and_then, no_more, returns}
use types.ByLocal.{alloc_all, pass_all, free_all, look_at, through, get, sets}
use types.SemTy.{Body}
use types.Mut.{open_ref}
use types.Follow.{after₂, takes_two}
use contract.Monad.{fact, fact_i}
use contract.Running.{tables}
use denote.Exit.{no}
use denote.Follow.{both_by}
use denote.Memory.{lone, mem, part_at}
use denote.RattleType.{RattleType, Valss}
use denote.Ref.{MutBor, MutRef, mut_vals, mut_Tells}
use denote.Builtin.{RefMutOf}
use denote.Signature.{plain}
use denote.Steps.{nothing}
use denote.Struct.Members.{Member}
use denote.Struct.Parts.{PartsBack}
use denote.Struct.Pick.{one_at, rest_at, record_field_out, record_field_back}
use denote.Struct.Declared.{shape}
use denote.Struct.Struct.{within}
use denote.Struct.Tuple.{tuple_type}
use denote.Triple.Walked.{Stays, walk_of, stay_dropped, Goes-spent_ref, ends_at}
use Rattle.std.proofs.raw_atomic.Walks.{proved}
use Rattle.automata_hybrid.specs.contracts.cache.Cache.{the_row as part}
use Rattle.automata_hybrid.proofs.cache.Cache.TheLaws.{the_field_loose}
use Rattle.regex_automata.specs.contracts.hybrid.regex.caches.Cache.{struct, the_row, the_type}
use Rattle.regex_automata.specs.contracts.hybrid.regex.caches.Cache.as_parts_mut as f
use Rattle.regex_automata.specs.declared.hybrid.regex.caches.Cache.{Cache}
use Rattle.regex_automata.proofs.hybrid.regex.caches.Cache.as_parts_mut.Statement.{statement}
use Rattle.regex_automata.proofs.hybrid.regex.caches.Cache.as_parts_mut.Code as code

abbrev member : Member
member = record { row = part; ty = lone part.mir }

abbrev members : List Member
members = member ∷ member ∷ []

-- where the parts lie
abbrev first_at : ℕ → ℕ
first_at o = o + up (align (lone part.mir)) 0

abbrev second_at : ℕ → ℕ
second_at o = o + up (align (lone part.mir)) (up (align (lone part.mir)) 0 + size (lone part.mir))

abbrev of_parts : part.Denot → part.Denot → Cache
of_parts v w = record { forward = v; reverse = w }

module _ {M : Type 1} {𝓤 : Ura M} (𝓛 : Logic 𝓤) (b o : ℕ) where
  abbrev Back : SProp 𝓤
  Back = PartsBack 𝓛 full_share struct.name members b o

  parts_out :
      (x : Cache)
      → ent 𝓤 (sem 𝓛 (part_at the_row full_share x b o))
      (sep 𝓤 (sem 𝓛 (part_at part full_share x.forward b (first_at o)))
      (sep 𝓤 (sem 𝓛 (part_at part full_share x.reverse b (second_at o))) Back))
  parts_out x =
      qed 𝓛 (‵ (part_at the_row full_share x b o) ∷ []) ∵
      use1 𝓛 (‵ (one_at full_share members 0 (the_type.to x) b o 0) ⊛ ‵
      (rest_at full_share members 0 (the_type.to x) b o 0) ⊛ raw Back)
      (record_field_out 𝓛 full_share struct.name members Cache the_type.to the_type.to_one
      (the_field_loose.lawful 𝓛, (the_field_loose.lawful 𝓛, tt)) x b o 0) $
      split3 ! $ move ! (1 ∷ []) $ fsplit ! $ keep ! (2 ∷ 0 ∷ 3 ∷ []) $ done !

  parts_in :
      (v w : part.Denot)
      → ent 𝓤 (sep 𝓤 (sem 𝓛 (part_at part full_share v b (first_at o)))
      (sep 𝓤 (sem 𝓛 (part_at part full_share w b (second_at o))) Back))
      (sem 𝓛 (part_at the_row full_share (of_parts v w) b o))
  parts_in v w =
      qed 𝓛 (‵ (part_at part full_share v b (first_at o)) ∷ ‵ (part_at part full_share w b (second_at o)) ∷ raw Back
      ∷ []) ∵
      nothing ! $ move ! (2 ∷ 0 ∷ []) $ fjoin ! $ move ! (1 ∷ 0 ∷ 2 ∷ []) $
      by ! (record_field_back 𝓛 full_share struct.name members Cache the_type.to the_type.to_one (of_parts v w) b o 0)

abbrev stayed : Stays f.ended.signature.params f.ended.kept
stayed = (stay_dropped (RefMutOf (0 ∷ []) tt (plain (λ _. the_row)) (λ _. tt)) no, tt)

pub as_parts_mut_spec : {M : Type 1} → statement M
unfolding both_by
as_parts_mut_spec 𝓤 𝓛 𝓜 𝓡 wired =
    let c = f.clauses 𝓛 𝓜.mem 𝓡.returns in let W = walk_of 𝓛 f.ended stayed c in let 𝓣 = tables 𝓤 𝓛.H 𝓜 𝓡 𝓡.env in
    proved 𝓛 f.ended stayed c 𝓜 𝓡 (Goes-spent_ref 𝓛 1 (0 ∷ []) tt (plain (λ _. the_row)), tt)
    f.Key.name code.function (code.unfolded 𝓤 𝓛.H 𝓜 𝓡 wired)
    (λ κs. (mut_vals, tt)) (λ κs. (mut_Tells (named 0) κs.0 the_row, tt)) (λ κs qs bounds a g are.
    let b = a.0.ref_ptr.0 in
    let o = a.0.ref_ptr.1 in let γ = a.0.ghost_name in let x = a.0.now in let vs = mut_vals a.0 in
    let κ = κs.0 in let q = qs.0 in
    let y : W.Ghost = ((κs, qs, bounds, a, (vs, tt)), tt) in
    let one : GName × GName → MutBor part.Denot =
    λ γs. record { ref_ptr = (b, first_at o); ghost_name = γs.0; now = x.forward } in
    let two : GName × GName → MutBor part.Denot =
    λ γs. record { ref_ptr = (b, second_at o); ghost_name = γs.1; now = x.reverse } in
    let v : Val = vstruct (vcons (vptr b (first_at o)) (vcons (vptr b (second_at o)) vnil)) in
    let Lent : List RattleType = MutRef (named 0) κ part ∷ MutRef (named 0) κ part ∷ [] in
    qed 𝓛 (((‵ (flft κ q) ⊛ ‵ ftrue) ⊛ ‵ ((MutRef (named 0) κ the_row).own_val a.0 vs) ⊛ ‵ ftrue) ∷ ‵ ftrue ∷ []) ∵
    split ! $ split ! $ move ! (2 ∷ []) $ split ! $ keep ! (0 ∷ 2 ∷ []) $
    enter ! _ _ _ _ _ $ alloc_all ! (λ l. pass_all ! refl ((tt, tt), tt) $
    sets ! (addr ! (through ! refl (fld ! refl (stop !)))) refl (tt, tt) $
    sets ! (addr ! (through ! refl (fld ! refl (stop !)))) refl (tt, tt) $
    sets ! (agg ! (and_then ! (get ! refl) (and_then ! (get ! refl) (no_more !)))) refl (tt, (tt, (tt, tt))) $
    fsplit3 ! $ drop ! $ open_ref ! tt (mem the_row) {b = b} {o = o} $
    -- [the whole; the open borrow; obs; auth]
    use1 𝓛 (‵ (part_at part full_share x.forward b (first_at o)) ⊛ ‵ (part_at part full_share x.reverse b (second_at o))
    ⊛ raw (Back 𝓛 b o)) (parts_out 𝓛 b o x) $
    split3 ! $ move ! (3 ∷ 4 ∷ 5 ∷ 0 ∷ 1 ∷ 2 ∷ []) $ group ! 6 $
    use1 𝓛 (later
    (some (λ (γs : GName × GName).
    (‵ (fobs γs.0 (part.coded.code x.forward)) ⊛ ‵ (fbor κ (Body (mem part) b (first_at o) γs.0)))
    ⊛ (‵ (fobs γs.1 (part.coded.code x.reverse)) ⊛ ‵ (fbor κ (Body (mem part) b (second_at o) γs.1)))
    ⊛ ‵ (flft κ q) ⊛ ‵ (after₂ (mem the_row) (mem part) (mem part) γ γs.0 γs.1 of_parts))))
    (takes_two 𝓛 (mem the_row) (mem part) (mem part) of_parts κ q b o b (first_at o) b (second_at o) γ (Back 𝓛 b o)
    (parts_in 𝓛 b o) (the_row.coded.code x) (the_row.coded.code x) x.forward x.reverse) $
    await ! tt $ pick ! (λ γs. split3 ! $
    split ! $ feq_i ! (List Val) (vptr b (first_at o) ∷ []) (vptr b (first_at o) ∷ []) refl $ fjoin3 ! $ move ! (1 ∷ [])
    $
    split ! $ feq_i ! (List Val) (vptr b (second_at o) ∷ []) (vptr b (second_at o) ∷ []) refl $ fjoin3 ! $
    -- [the second reference; the first; the token and what follows]
    nothing ! $ move ! (1 ∷ 0 ∷ []) $ fjoin ! $ move ! (1 ∷ 0 ∷ []) $ fjoin ! $
    feq_i ! (List Val) (v ∷ []) (v ∷ []) refl $ fjoin ! $
    fpack ! (Valss Lent) (within (shape (tuple_type Lent)) (one γs, (two γs, tt)) (v ∷ []))
    (vptr b (first_at o) ∷ [], (vptr b (second_at o) ∷ [], tt)) $
    move ! (1 ∷ []) $ split ! $
    returns ! (look_at ! 0 refl) $ free_all ! refl $ keep ! (0 ∷ 2 ∷ 1 ∷ []) $
    -- [the token; the result; what follows]
    suffices ! _ (ends_at 𝓛 f.ended stayed c y v (one γs, two γs) (tt, tt) (tt, tt)) $
    use0 𝓛 (raw (fact 𝓤 (x.forward ≡ x.forward))) (fact_i 𝓤 _ (emp 𝓤) refl) $
    use0 𝓛 (raw (fact 𝓤 (x.reverse ≡ x.reverse))) (fact_i 𝓤 _ (emp 𝓤) refl) $
    move ! (1 ∷ 0 ∷ []) $ join ! $ move ! (3 ∷ 0 ∷ []) $ join ! $ move ! (2 ∷ 1 ∷ []) $
    nothing ! $ nothing ! $ fjoin ! $ join ! $ nothing ! $ move ! (2 ∷ 0 ∷ []) $ join ! $ join ! $ done !)))
