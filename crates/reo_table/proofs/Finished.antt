-- What was read of the words when all seats were home.
use Rattle.std.proofs.Common.{◌≡◌, ℕ, ◌<◌, List, [], ◌∷◌, ◌++◌, length, get_or, All, Option, None, IfSome, refl, sym, ap, ◌∙◌, subst, append-nil}
use Rattle.std.proofs.lemmas.List.{ext_get_or, length-map}
use Rattle.std.proofs.lemmas.List.Elements.{All-get_or}
use Rattle.std.proofs.lemmas.Option.{slice_get_within, get_or_from_slice_get}
use Rattle.reo_value.specs.declared.value.Value.{Value}
use Rattle.reo_value.specs.Code.{IsValue}
use Rattle.reo_fabric.specs.declared.entry.Entry.{Entry}
use Rattle.reo_fabric.specs.declared.fabric.CellSpec.{CellSpec}
use Rattle.reo_fabric.specs.Entry.{State, carried_out}
use Rattle.reo_fabric.specs.Fabric.{first_state}
use Rattle.reo_fabric.specs.History.{state_after}
use Rattle.reo_fabric.proofs.HistoryLemmas.{length-carried_out}
use Rattle.reo_coupling.specs.declared.view.PartyView.{PartyView}
use Rattle.reo_coupling.specs.declared.view.RegionView.{RegionView}
use Rattle.reo_coupling.specs.declared.view.RootView.{RootView}
use Rattle.reo_coupling.specs.Moment.{Setting}
use Rattle.reo_coupling.specs.Parts.{NothingDue}
use Rattle.reo_coupling.specs.Seats.{region_name, party_name, IsAmong}
use Rattle.reo_coupling.specs.Home.{state_by, AreHome, ExplainsAll}
use Rattle.reo_coupling.proofs.Home.{one_history_explains_all}
use Rattle.reo_coupling.proofs.Places.{get_longer}
use Rattle.reo_table.specs.Shared.{WordsState}
use Rattle.reo_table.specs.Closing.{after_regions, after_parties, AllAreHere, IsReadOut, IsFinal}
use Rattle.reo_table.proofs.Ending.{out_before, fresh_after}

length_after : (state : State) (entries : List Entry) → length (state_after state entries) ≡ length state
length_after state [] = refl
length_after state (entry ∷ entries) = length_after (carried_out state entry) entries ∙ length-carried_out state entry

-- what holds of all holds of one among them
pub of_each : {A : Type 0} (P : A → Type 0) (xs : List A) (x : A) → All P xs → IsAmong xs x → P x
of_each P xs x all among = subst P (get_or_from_slice_get xs among.place x x among.found) (all among.place x (slice_get_within xs among.place x among.found))

longer : {A : Type 0} (xs ys : List A) (x : A) → IsAmong xs x → IsAmong (xs ++ ys) x
longer xs ys x among = record { place = among.place; found = get_longer xs ys among.place x among.found }

module _ (words : WordsState) (root : RootView) (regions : List RegionView) (parties : List PartyView) (count : ℕ) (cells : List (Option Value)) (out : IsReadOut words.setting (after_parties (after_regions root regions) parties) count cells)
    (none_yet : root.regions_home ≡ []) (here : AllAreHere words root regions) (quiet : All (λ (view : RegionView). NothingDue view.cells) regions) where
  law : ExplainsAll words.setting out.words (after_parties (after_regions root regions) parties) out.rule.book out.rule.folk out.rule.history
  law = one_history_explains_all words.setting out.words out.views out.id (after_parties (after_regions root regions) parties) out.rule out.at_root

  home : AreHome words.setting (after_parties (after_regions root regions) parties)
  home = record {
    none_out = λ region within is_out. let before = out_before region_name root.regions regions region is_out in before.1 (here region within before.0);
    quiet = λ view among.
        of_each (λ (v : RegionView). NothingDue v.cells) regions view quiet (subst (λ (l : List RegionView). IsAmong l view) (ap (λ (l : List RegionView). regions ++ l) none_yet ∙ append-nil regions) among);
  }

  size : length (state_by words.setting out.rule.history) ≡ length words.setting.fabric.cells
  size = length_after (first_state words.setting.fabric) out.rule.history ∙ length-map words.setting.fabric.cells (λ (s : CellSpec). s.first)

  pub finished : IsFinal words root regions parties count cells
  finished = record {
    history = out.rule.history;
    book = out.rule.book;
    folk = out.rule.folk;
    explains = law.history_explains;
    of_regions = λ view among. law.books.regions view (longer regions root.regions_home view among);
    of_parties = λ view among. law.books.parties view (longer parties root.parties_home view among);
    no_region = λ region within fresh none. law.books.no_region region within (fresh_after region_name root.regions regions region fresh none);
    no_party = λ party within fresh none. law.books.no_party party within (fresh_after party_name root.parties parties party fresh none);
    counted = out.counted ∙ law.words_show.count;
    held = ext_get_or None cells (state_by words.setting out.rule.history) (out.all ∙ sym size)
        (λ cell below.
        let within : cell < length words.setting.fabric.cells = subst (λ n. cell < n) out.all below in
        out.each cell within (get_or (state_by words.setting out.rule.history) cell None)
        (All-get_or (λ held. IfSome held IsValue) (state_by words.setting out.rule.history) cell None (subst (λ n. cell < n) (sym size) within) law.words_show.values)
        (law.words_show.cells (law.nothing_due home) cell within));
  }
