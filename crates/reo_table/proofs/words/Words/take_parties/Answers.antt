use Rattle.std.proofs.Common.{◌≡◌, List, [], ◌∷◌, ◌++◌, length, map, Some, refl, sym, ap, ◌∙◌}
use Rattle.std.proofs.lemmas.List.{map-append}
use Rattle.std.proofs.lemmas.List.Elements.{All-pop}
use Rattle.reo_coupling.specs.declared.view.RootView.{RootView}
use Rattle.reo_coupling.specs.declared.view.PartyView.{PartyView}
use Rattle.reo_coupling.specs.declared.view.View.TheVariants.{Root}
use Rattle.reo_coupling.specs.Seats.{after_party_join}
use Rattle.reo_table.specs.Shared.{PartyState}
use Rattle.reo_table.specs.Plays.{root_of}
use Rattle.reo_table.specs.Closing.{party_views_of, after_parties}
use Rattle.reo_table.proofs.Ending.{after_parties_last}
use Rattle.reo_table.proofs.words.Words.take_parties.Goals as goal

pub loop-party-preserved : goal.loop-party-preserved
loop-party-preserved c =
    let old : RootView = root_of c.loop-party.seat.me.0 in
    let left : List PartyView = party_views_of c.pop.new.self.items in
    let views : party_views_of c.loop-party.parties.items ≡ left ++ c.in-Some.party.view ∷ [] = ap party_views_of c.in-Some.ensures.items ∙ map-append (λ (seat : PartyState). seat.view) c.pop.new.self.items (c.in-Some.party ∷ []) in
    let now : root_of c.take_party.new.seat.me.0 ≡ after_party_join old c.in-Some.party.view = ap root_of c.take_party.ensures.view in
    record {
      own = c.take_party.ensures.own ∙ c.loop-party.invariant.own;
      root = c.take_party.ensures.view ∙ ap Root (sym now);
      ids = (All-pop (λ (seat : PartyState). seat.id ≡ c.args.self.now.id) c.loop-party.parties.items c.pop.new.self.items (Some c.in-Some.party) c.in-Some.ensures.items c.loop-party.invariant.ids).0;
      goes = ap (λ r. after_parties r left) now ∙ (sym (after_parties_last old left c.in-Some.party.view) ∙ (ap (after_parties old) (sym views) ∙ c.loop-party.invariant.goes));
    }
