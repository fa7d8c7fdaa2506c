use Rattle.std.proofs.Common.{◌<◌, length, ap, ◌∙◌, arith}
use Rattle.automata_base.specs.Nfas.Shapes.{patched}
use Rattle.automata_base.proofs.Nfas.Building.Patches.{draft_read, draft_patched, draft_same}
use Rattle.automata_base.proofs.nfa.thompson.builder.Builder.patch.Goals as goal

pub returns-clause-patched : goal.returns-clause-patched
returns-clause-patched c =
    let inside : c.as_usize-2.result < length c.self.inside.states.items =
    omega (
      arith,
      c.if-as_usize-len.false,
      c.len.ensures,
      c.as_usize.ensures.value,
      c.as_usize-2.ensures.value,
      c.self.inside.states.ok.0,
    ) in
    draft_patched c.self.inside.states.items c.self.inside.pattern c.self.inside.starts.items c.self.inside.flags
    c.args.self.now
    c.as_usize-2.result c.args.from c.index_mut.result.now c.self.view_is c.as_usize-2.ensures.value inside
    c.index_mut.ensures.value
    c.patch.result c.patch.new.added c.args.to c.patch.ensures.patched

pub returns-clause-same : goal.returns-clause-same
returns-clause-same c =
    let inside : c.as_usize-2.result < length c.self.inside.states.items =
    omega (
      arith,
      c.if-as_usize-len.false,
      c.len.ensures,
      c.as_usize.ensures.value,
      c.as_usize-2.ensures.value,
      c.self.inside.states.ok.0,
    ) in
    draft_same c.self.inside.states.items c.self.inside.pattern c.self.inside.starts.items c.self.inside.flags
    c.args.self.now
    c.as_usize-2.result c.args.from c.index_mut.result.now c.self.view_is c.as_usize-2.ensures.value inside
    c.index_mut.ensures.value
    c.patch.result c.patch.new.added c.patch.ensures.same

pub returns-clause-sparse : goal.returns-clause-sparse
returns-clause-sparse c = λ old e none.
    let inside : c.as_usize-2.result < length c.self.inside.states.items =
    omega (
      arith,
      c.if-as_usize-len.false,
      c.len.ensures,
      c.as_usize.ensures.value,
      c.as_usize-2.ensures.value,
      c.self.inside.states.ok.0,
    ) in
    c.patch.ensures.sparse
    (ap (λ z. patched z c.args.to)
    (draft_read c.self.inside.states.items c.self.inside.pattern c.self.inside.starts.items c.self.inside.flags
    c.args.self.now
    c.as_usize-2.result c.args.from c.index_mut.result.now c.self.view_is c.as_usize-2.ensures.value inside
    c.index_mut.ensures.value old e) ∙ none)

pub returns-clause-memory : goal.returns-clause-memory
returns-clause-memory c = λ old shape e some.
    let inside : c.as_usize-2.result < length c.self.inside.states.items =
    omega (
      arith,
      c.if-as_usize-len.false,
      c.len.ensures,
      c.as_usize.ensures.value,
      c.as_usize-2.ensures.value,
      c.self.inside.states.ok.0,
    ) in
    c.patch.ensures.memory shape
    (ap (λ z. patched z c.args.to)
    (draft_read c.self.inside.states.items c.self.inside.pattern c.self.inside.starts.items c.self.inside.flags
    c.args.self.now
    c.as_usize-2.result c.args.from c.index_mut.result.now c.self.view_is c.as_usize-2.ensures.value inside
    c.index_mut.ensures.value old e) ∙ some)
