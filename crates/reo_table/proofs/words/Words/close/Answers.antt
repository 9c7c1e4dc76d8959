use Rattle.std.proofs.Common.{◌≡◌, List, ap, ◌∙◌, sym, subst}
use Rattle.std.proofs.lemmas.List.Elements.{All-map}
use Rattle.reo_coupling.specs.declared.view.RegionView.{RegionView}
use Rattle.reo_coupling.specs.declared.view.RootView.{RootView}
use Rattle.reo_coupling.specs.Parts.{NothingDue}
use Rattle.reo_table.specs.Shared.{RootState, SeatState}
use Rattle.reo_table.specs.Plays.{root_of}
use Rattle.reo_table.specs.Closing.{views_of, party_views_of, after_regions, after_parties, IsReadOut}
use Rattle.reo_table.proofs.Finished.{finished}
use Rattle.reo_table.proofs.words.Words.close.Goals as goal

pub returns : goal.returns
returns c =
    let view : root_of c.root.inside.seat.me.0 ≡ c.args.root.view = ap (λ (z : RootState). z.view) c.root.view_is in
    let last : root_of c.take_parties.new.seat.me.0 ≡ after_parties (after_regions c.args.root.view (views_of c.args.regions.items)) (party_views_of c.args.parties.items) =
    ap root_of c.take_parties.ensures.view
    ∙ ap (λ (r : RootView). after_parties r (party_views_of c.args.parties.items)) (ap root_of c.take_regions.ensures.view ∙ ap (λ (r : RootView). after_regions r (views_of c.args.regions.items)) view) in
    finished c.args.self c.args.root.view (views_of c.args.regions.items) (party_views_of c.args.parties.items) c.read_out.result.count c.read_out.result.cells.items
    (subst (λ (r : RootView). IsReadOut c.args.self.setting r c.read_out.result.count c.read_out.result.cells.items) last c.read_out.ensures) (ap (λ (r : RootView). r.regions_home) (sym view) ∙ c.root.invariant.no_region) c.requires.here
    (All-map (λ (v : RegionView). NothingDue v.cells) (λ (s : SeatState). s.view) c.args.regions.items c.requires.quiet)
