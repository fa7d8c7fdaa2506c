use Rattle.std.proofs.Common.{◌≡◌, ◌∙◌, false, true, Some, ap, subst, sym}
use Rattle.automata_hybrid.proofs.Words.{CacheView, cost, fits, known_in, known_of, Row, Rows}
use Rattle.automata_hybrid.specs.Known.Known.{cleared_saving}
use Rattle.automata_hybrid.specs.Private.Cache.Changes.{HasGrown}
use Rattle.automata_hybrid.specs.declared.cache.Cache.TheInside.{Inside}
use Rattle.automata_hybrid.proofs.Known.Made.{added_fits}
use Rattle.automata_hybrid.proofs.Known.Rooms.{known_with}
use Rattle.automata_hybrid.proofs.cache.Cache.add_next.Goals as goal

pub returns-then-fits-clause-added : goal.returns-then-fits-clause-added
returns-then-fits-clause-added c =
    let now : CacheView = c.args.self.now in
    let r : Row = record { state = c.args.state; started = false } in
    let grown : HasGrown now.store r c.add_row.new.self c.in_ok-to.to =
    subst (λ (v : CacheView). HasGrown v.store r c.add_row.new.self c.in_ok-to.to) c.self.view_is
    (subst (λ (i : Inside). HasGrown i.store r c.add_row.new.self c.in_ok-to.to) c.self-inside.view_is
    c.in_ok-to.ensures.grown) in
    let fit : fits now.store.table.of (known_in now.store) (cost c.args.state) ≡ true =
    subst (λ (v : CacheView). fits v.store.table.of (known_in v.store) (cost c.args.state) ≡ true) c.self.view_is
    (subst (λ n. fits c.self.inside.store.table.of (known_in c.self.inside.store) n ≡ true) c.cost_of-bytes.ensures
    (sym c.if-fits.ensures)) in
    let counted =
    ap (λ (i : Inside). i.scratch.count) c.self-inside.view_is ∙ ap (λ (v : CacheView). v.count) c.self.view_is in
    record {
      effect =
          λ p n. added_fits now.store.table.of now.store c.add_row.new.self now.count (cleared_saving p (known_of now))
          r fit grown.known
          ∙ ap (λ k. Some (known_with c.add_row.new.self k)) (sym counted);
      named = grown.row.named;
      saved = grown.row.kept c.args.from;
      of = ap (λ (t : Rows). t.of) grown.row.more;
      counted = counted;
    }

pub clear_and_add_next-requires-clause-full : goal.clear_and_add_next-requires-clause-full
clear_and_add_next-requires-clause-full c =
    subst (λ (v : CacheView). fits v.store.table.of (known_in v.store) (cost c.args.state) ≡ false) c.self.view_is
    (subst (λ n. fits c.self.inside.store.table.of (known_in c.self.inside.store) n ≡ false) c.cost_of-bytes.ensures
    (sym c.if-fits.ensures))
