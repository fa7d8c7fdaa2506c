use Rattle.std.proofs.Common.{◌≡◌, Bool, true, false, not, rules, sym, true≢false}
use Rattle.automata_transform.proofs.merging.bounds.Goals as goal

not_both : (b : Bool) → b ≡ true → not b ≡ true → ⊥
not_both true e f = true≢false (sym f)
not_both false e f = true≢false (sym e)

pub returns-then-not-skips_lazily : goal.returns-then-not-skips_lazily
returns-then-not-skips_lazily c = λ no. record {
  room = search rules;
  acyclic = search rules;
  skips = λ lazy. absurd (not_both c.skips_lazily.result (c.skips_lazily.ensures.1 lazy) no);
}

pub returns-else-not-skips_lazily : goal.returns-else-not-skips_lazily
returns-else-not-skips_lazily c = λ yes. record {
  room = search rules;
  acyclic = search rules;
  skips = λ lazy. c.skips_lazily-else-not-skips_lazily.ensures.0 yes;
}
