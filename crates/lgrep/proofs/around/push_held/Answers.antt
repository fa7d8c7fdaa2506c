use Rattle.std.proofs.Common.{◌++◌, ◌∷◌, ◌∙◌, ℕ, [], Bor, List, ap, map, sym}
use Rattle.std.proofs.lemmas.List.{append_assoc, map-append}
use Rattle.lgrep.specs.Around.{held_line, near_lines}
use Rattle.lgrep.specs.Shown.{near_shown}
use Rattle.lgrep.specs.declared.around.Held.{Held}
use Rattle.lgrep.proofs.Near.{near_push}
use Rattle.lgrep.proofs.around.push_held.Goals as goal

pub loop-line-preserved : goal.loop-line-preserved
loop-line-preserved c =
    let line = c.in-Some.line in
    let show = c.args.show.now in
    let before = map (λ (h : Bor Held). h.now) c.loop-line.yielded in
    c.in_ok-push_near.ensures
    ∙ ap (λ (bytes : List ℕ). c.loop-line.shown.items ++ near_shown show (line.now.position, bytes))
    c.as_slice.ensures.value
    ∙ ap (λ v. v ++ near_shown show (held_line line.now).0) c.loop-line.invariant
    ∙ append_assoc c.args.shown.now.items (near_lines show (map held_line before))
    (near_shown show (held_line line.now).0)
    ∙ ap (λ v. c.args.shown.now.items ++ v)
    (sym (ap (λ hs. near_lines show (map held_line hs))
    (map-append (λ (h : Bor Held). h.now) c.loop-line.yielded (line ∷ [])) ∙ near_push show before line.now))
