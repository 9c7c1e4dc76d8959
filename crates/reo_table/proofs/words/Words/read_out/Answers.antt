use Rattle.std.proofs.Common.{◌≡◌, ℕ, ◌+◌, ◌<◌, List, length, get_or, refl, sym, ap, ◌∙◌, subst, arith}
use Rattle.std.proofs.lemmas.List.{get_or_default}
use Rattle.std.proofs.lemmas.Option.{get_or_from_slice_get}
use Rattle.std.specs.Mem.Slots.{slots_items, slots_len, slots_counts}
use Rattle.atomic_table.proofs.Lists.{at_index}
use Rattle.reo_coupling.specs.Moment.{Setting, cell_place}
use Rattle.reo_coupling.specs.Seats.{IsCoupled}
use Rattle.reo_table.specs.Shared.{WordsState}
use Rattle.reo_table.specs.Plays.{setting_of}
use Rattle.reo_table.specs.Closing.{SaysHeld}
use Rattle.reo_table.proofs.Views.{found}
use Rattle.reo_table.proofs.words.Words.read_out.Goals as goal

pub returns : goal.returns
returns c =
    let setting : setting_of c.self.inside.table.shared.key ≡ c.args.self.setting = ap (λ (w : WordsState). w.setting) c.self.view_is in
    let last = c.close_with-closed.ensures.values in
    let words : List ℕ = slots_items c.close_with-closed.result.words in
    let counts : slots_len c.close_with-closed.result.words ≡ length words = (slots_counts c.close_with-closed.result.words).0 in
    let all : length c.read_cells.new.room.items ≡ length c.args.self.setting.fabric.cells = c.read_cells.ensures.same ∙ (c.self.invariant.room ∙ ap (λ (s : Setting). length s.fabric.cells) setting) in
    let regions : (setting_of c.self.inside.table.shared.key).fabric.regions ≡ c.args.self.setting.fabric.regions = ap (λ (s : Setting). s.fabric.regions) setting in
    let cells : length (setting_of c.self.inside.table.shared.key).fabric.cells ≡ length c.args.self.setting.fabric.cells = ap (λ (s : Setting). length s.fabric.cells) setting in
    record {
      words = words;
      views = last.2.0.views;
      id = c.args.seat.id;
      rule = subst (λ (w : List ℕ). IsCoupled c.args.self.setting w last.2.0.views) last.2.2 (subst (λ (s : Setting). IsCoupled s last.2.0.words last.2.0.views) setting last.2.1.0);
      at_root = found last.2.0.views c.args.seat.id c.args.seat.me.0 last.2.1.1 ∙ ap Rattle.std.specs.Prelude.Some c.requires.root;
      counted = sym (get_or_from_slice_get words 0 c.word-count.result 0 (found words 0 c.word-count.result c.word-count.ensures));
      all = all;
      each = λ cell within.
          let place : c.cell_index-first.result + cell ≡ cell_place c.args.self.setting.fabric cell = omega (arith, c.cell_index-first.ensures) in
          let below : c.cell_index-first.result + cell < length words =
          omega (arith, counts, c.close_with-closed.ensures.counts.0, c.self.invariant.words, c.cell_index-first.ensures, regions, cells, within) in
          subst (λ i. SaysHeld (get_or words i 0) (get_or c.read_cells.new.room.items cell Rattle.std.specs.Prelude.None)) place
          (c.read_cells.ensures.each cell (get_or words (c.cell_index-first.result + cell) 0) (omega (arith, all, within))
          (at_index words (c.cell_index-first.result + cell) (get_or words (c.cell_index-first.result + cell) 0) below
          (get_or_default words (c.cell_index-first.result + cell) 0 (get_or words (c.cell_index-first.result + cell) 0) below)));
    }
