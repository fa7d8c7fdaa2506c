use Rattle.std.proofs.Common.{◌≡◌, ◌∙◌, None, ap, refl, subst, sym, true}
use Rattle.automata_hybrid.proofs.Words.{AllStarts, cost, fits, id_of, known_in, Row, Rows, Stored, with_row_cells}
use Rattle.automata_hybrid.proofs.Words.{with_table}
use Rattle.automata_hybrid.specs.Private.Cache.Changes.{HasGrown}
use Rattle.automata_hybrid.proofs.Known.Made.{grown_known}
use Rattle.automata_hybrid.proofs.Known.Rows.{HasPlaces, places_sound}
use Rattle.automata_hybrid.proofs.Storage.Clears.{AllStarts-more}
use Rattle.automata_hybrid.proofs.Storage.Usage.{IsCache-grown}
use Rattle.automata_hybrid.proofs.cache.store.Store.add_row.Goals as goal

pub invariant_of-self-2 : goal.invariant_of-self-2
invariant_of-self-2 c =
    let old : Stored =
    record {
      table = c.self.inside.table;
      starts = c.self.inside.starts.items;
      clears = c.self.inside.clears;
      searched = c.self.inside.searched;
    } in
    let fit : fits old.table.of (known_in old) (cost c.args.state) ≡ true =
    subst (λ (v : Stored). fits v.table.of (known_in v) (cost c.args.state) ≡ true) (sym c.self.view_is)
    c.requires.fits in
    let r : Row = record { state = c.args.state; started = c.args.started } in
    let starts : AllStarts c.add.new.self old.starts =
    subst (λ (t : Rows). AllStarts t old.starts) (sym c.in_ok-added.ensures.added.more)
    (AllStarts-more c.self.inside.table r old.starts c.self.invariant.named) in
    IsCache-grown old c.self.inside.settings c.add.new.self r c.self.invariant starts c.in_ok-added.ensures.added.more
    fit

pub returns-clause-grown : goal.returns-clause-grown
returns-clause-grown c =
    let old : Stored =
    record {
      table = c.self.inside.table;
      starts = c.self.inside.starts.items;
      clears = c.self.inside.clears;
      searched = c.self.inside.searched;
    } in
    let r : Row = record { state = c.args.state; started = c.args.started } in
    let added = c.in_ok-added.ensures.added in
    let places : HasPlaces (with_row_cells old.table r) =
    subst HasPlaces added.more (places_sound c.add.new.self c.in_ok-added.ensures.sound) in
    let none : id_of old.table r.state ≡ None =
    subst (λ (v : Stored). id_of v.table r.state ≡ None) (sym c.self.view_is) c.requires.new.lacks.0 in
    subst (λ (v : Stored). HasGrown v r (with_table old c.add.new.self) c.in_ok-added.added) c.self.view_is
    (record {
      known =
          ap (λ (t : Rows). known_in (with_table old t)) added.more
          ∙ sym (grown_known old 0 r c.self.invariant.named places none);
      row = added;
      starts = refl;
    })
