use Rattle.std.proofs.Common.{◌+◌, ◌≤◌}
use Rattle.std.specs.Prelude.{Result, Ok, Err, IfErr, OnOk}
use Rattle.regex_nfa.specs.Sizes.{table_bytes}
use Rattle.regex_nfa.specs.declared.nfa.Nfa as kit_nfa
use Rattle.patterns.specs.declared.error.Fault.{Fault}
use Rattle.patterns.proofs.Faults.{text_fault}
use Rattle.patterns.proofs.compile.Draft.read_one.Goals as goal

-- a property of an Ok result, for one NFA
some_nfa : (r : Result Unit Fault) (P Q R : kit_nfa.Nfa → Type 0) (k : kit_nfa.Nfa) → P k → Q k → OnOk r (R k) →
    OnOk r ((x : kit_nfa.Nfa) × P x × Q x × R x)
some_nfa (Ok u) P Q R k p q r = (k, p, q, r)
some_nfa (Err e) P Q R k p q r = r

refused : (r : Result Unit Fault) (P Q : Fault → Type 0) → ((fault : Fault) → P fault → Q fault) → IfErr r P → IfErr r Q
refused (Ok u) P Q go h = tt
refused (Err e) P Q go h = go e h

pub returns-clause-read : goal.returns-clause-read
returns-clause-read c =
    some_nfa c.add.result _ (λ k. table_bytes k ≤ c.args.self.now.room + 24) _ c.in_ok-nfa.nfa
    c.in_ok-nfa.ensures.compiled
    c.in_ok-nfa.ensures.small c.add.ensures.grows

pub returns-clause-refused : goal.returns-clause-refused
returns-clause-refused c =
    refused c.add.result _ _
    (text_fault c.args.options.now c.args.text.now c.args.self.now c.in_ok-nfa.nfa c.in_ok-nfa.ensures.compiled)
    c.add.ensures.refused
