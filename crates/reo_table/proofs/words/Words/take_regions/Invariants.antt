use Rattle.std.proofs.Common.{◌≡◌, length, All}
use Rattle.reo_coupling.specs.declared.view.View.TheVariants.{Root}
use Rattle.reo_table.specs.Plays.{root_of}
use Rattle.reo_table.specs.Closing.{views_of, after_regions}
use Rattle.reo_table.proofs.words.Words.take_regions.Given as goal

abbrev pub invariant-loop-region : goal.invariant-loop-region
invariant-loop-region l = record {
  own : l.seat.table_id ≡ l.fn.seat.table_id;
  root : l.seat.me.0 ≡ Root (root_of l.seat.me.0);
  ids : All (λ seat. seat.id ≡ l.self.id) l.regions.items;
  goes : after_regions (root_of l.seat.me.0) (views_of l.regions.items) ≡ after_regions (root_of l.fn.seat.me.0) (views_of l.fn.regions.items);
}

abbrev pub decreases-loop-region : goal.decreases-loop-region
decreases-loop-region l = length l.regions.items
