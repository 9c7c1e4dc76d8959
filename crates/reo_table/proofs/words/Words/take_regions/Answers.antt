use Rattle.std.proofs.Common.{◌≡◌, List, [], ◌∷◌, ◌++◌, length, map, Some, refl, sym, ap, ◌∙◌}
use Rattle.std.proofs.lemmas.List.{map-append}
use Rattle.std.proofs.lemmas.List.Elements.{All-pop}
use Rattle.reo_coupling.specs.declared.view.RootView.{RootView}
use Rattle.reo_coupling.specs.declared.view.RegionView.{RegionView}
use Rattle.reo_coupling.specs.declared.view.View.TheVariants.{Root}
use Rattle.reo_coupling.specs.Seats.{after_join}
use Rattle.reo_table.specs.Shared.{SeatState}
use Rattle.reo_table.specs.Plays.{root_of}
use Rattle.reo_table.specs.Closing.{views_of, after_regions}
use Rattle.reo_table.proofs.Ending.{after_regions_last}
use Rattle.reo_table.proofs.words.Words.take_regions.Goals as goal

pub loop-region-preserved : goal.loop-region-preserved
loop-region-preserved c =
    let old : RootView = root_of c.loop-region.seat.me.0 in
    let left : List RegionView = views_of c.pop.new.self.items in
    let views : views_of c.loop-region.regions.items ≡ left ++ c.in-Some.region.view ∷ [] = ap views_of c.in-Some.ensures.items ∙ map-append (λ (seat : SeatState). seat.view) c.pop.new.self.items (c.in-Some.region ∷ []) in
    let now : root_of c.take_region.new.seat.me.0 ≡ after_join old c.in-Some.region.view = ap root_of c.take_region.ensures.view in
    record {
      own = c.take_region.ensures.own ∙ c.loop-region.invariant.own;
      root = c.take_region.ensures.view ∙ ap Root (sym now);
      ids = (All-pop (λ (seat : SeatState). seat.id ≡ c.args.self.now.id) c.loop-region.regions.items c.pop.new.self.items (Some c.in-Some.region) c.in-Some.ensures.items c.loop-region.invariant.ids).0;
      goes = ap (λ r. after_regions r left) now ∙ (sym (after_regions_last old left c.in-Some.region.view) ∙ (ap (after_regions old) (sym views) ∙ c.loop-region.invariant.goes));
    }
