use Rattle.std.proofs.Common.{ap, ◌≡◌, ◌+◌, ◌++◌, ◌∙◌, List, [], ◌∷◌, map, arith, refl, rules, subst, sym}
use Rattle.std.proofs.lemmas.List.{length-map, length_push, map-append}
use Rattle.automata_hybrid.specs.Walks.State.{fresh_walk}
use Rattle.regex_automata.specs.Promises.{HasReported, Walk}
use Rattle.lazydfa_c.specs.Batches.{NoStep}
use Rattle.lazydfa_c.specs.Caches.{written_over}
use Rattle.lazydfa_c.specs.Requests.{found_half}
use Rattle.lazydfa_c.specs.declared.input.FoundHalf.{FoundHalf}
use Rattle.lazydfa_c.proofs.Batches.{step_more}
use Rattle.lazydfa_c.proofs.sets.all_halves.Goals as goal

pub loop-at-init : goal.loop-at-init
loop-at-init c =
    let begun = c.start-walk.ensures in
    let none =
    subst (λ (w : Walk). HasReported c.args.way c.args.dfa.now c.args.input.now w 0) (sym begun) (refl, refl) in
    let steps =
    NoStep fresh_walk c.start-walk.result c.args.cache.now c.args.cache.now begun refl in
    (c.requires, (0, none), refl, ([], steps, refl, refl))

pub loop-at-preserved : goal.loop-at-preserved
loop-at-preserved c =
    let l = c.loop-at in let v = l.invariant in let halves = v.3.0 in let half = c.in-Ok-Some.half in
    let m = c.args.dfa.now in let way = c.args.way in let input = c.args.input.now in
    let old = c.args.cache.now in let out = c.args.out.now in let new = c.write.new.out in
    let counted = v.2 in let listed = v.3.3 in
    let more : c.write.new.count ≡ l._at + 1 = grind (arith, rules) in
    let steps =
    step_more way m input halves half fresh_walk l.walk c.next_half.new.walk old l.cache c.next_half.new.cache v.3.1
    (search rules) in
    let written : new ≡ written_over (map found_half halves ++ found_half half ∷ []) out =
    c.write.ensures.written (map found_half halves) out (listed ∙ sym (length-map halves found_half)) v.3.2 in
    let first =
    subst (λ (hs : List FoundHalf). new ≡ written_over hs out) (sym (map-append found_half halves (half ∷ [])))
    written in
    let length = more ∙ sym (length_push halves half ∙ ap (λ n. n + 1) (sym listed ∙ counted)) in
    (c.next_half.ensures.of, c.next_half.ensures.walk, more, (halves ++ half ∷ [], steps, first, length))
