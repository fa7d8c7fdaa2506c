use Rattle.std.proofs.Common.{rules, inl, inr, subst}
use Rattle.regex_automata.specs.Regexes.Caches.{AreFresh}
use Rattle.patterns.specs.declared.pattern.Pattern.{Pattern}
use Rattle.lazydfa_c.proofs.object.Searcher.reset.Goals as goal

pub returns-in-Ok : goal.returns-in-Ok
returns-in-Ok c = record {
  told = inl (
    c.from.ensures,
    subst (λ (v : Pattern). AreFresh v.regex c.reset.new.self)
        c.deref.ensures c.in-Ok.ensures.ok,
  );
  patterns = search rules;
  same = search rules;
  pieces = search rules;
}

pub returns-in-Err : goal.returns-in-Err
returns-in-Err c = record {
  told = inr (c.from-in-Err.ensures, c.in-Err.ensures.err);
  patterns = search rules;
  same = search rules;
  pieces = search rules;
}
