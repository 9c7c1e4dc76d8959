use Rattle.std.proofs.Common.{◌≡◌, length, All}
use Rattle.reo_coupling.specs.declared.view.View.TheVariants.{Root}
use Rattle.reo_table.specs.Plays.{root_of}
use Rattle.reo_table.specs.Closing.{party_views_of, after_parties}
use Rattle.reo_table.proofs.words.Words.take_parties.Given as goal

abbrev pub invariant-loop-party : goal.invariant-loop-party
invariant-loop-party l = record {
  own : l.seat.table_id ≡ l.fn.seat.table_id;
  root : l.seat.me.0 ≡ Root (root_of l.seat.me.0);
  ids : All (λ seat. seat.id ≡ l.self.id) l.parties.items;
  goes : after_parties (root_of l.seat.me.0) (party_views_of l.parties.items) ≡ after_parties (root_of l.fn.seat.me.0) (party_views_of l.fn.parties.items);
}

abbrev pub decreases-loop-party : goal.decreases-loop-party
decreases-loop-party l = length l.parties.items
