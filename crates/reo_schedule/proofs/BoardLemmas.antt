-- A circuit has one list of tables, and one reading of each region.
use Rattle.std.proofs.Common.{◌≡◌, ℕ, zero, suc, ◌+◌, List, [], ◌∷◌, length, map, slice_get, get_or, Bool, cond, Some, refl, sym, ap, ◌∙◌, subst, ext_get_or, arith}
use Rattle.std.specs.Prelude.{nat_eq, ◌||◌}
use Rattle.std.specs.Cmp.{IsTotalOrder}
use Rattle.std.proofs.lemmas.Cmp.{nat_cmp_total, nat_list_cmp_total, then_total, back_total, on_total}
use Rattle.std.proofs.lemmas.List.{length-map}
use Rattle.std.proofs.lemmas.Option.{same_Some, slice_get_within, slice_get-get_or}
use Rattle.reo_net.specs.declared.circuit.Channel.{Channel}
use Rattle.reo_net.specs.declared.circuit.RawCircuit.{RawCircuit}
use Rattle.reo_net.specs.Regions.{Automaton, OfNode}
use Rattle.reo_net.specs.Steps.{State}
use Rattle.reo_net.proofs.NameLemmas.{slice_get_found}
use Rattle.reo_net.proofs.RegionListLemmas.{regions_are_one_list}
use Rattle.reo_growth.specs.Lists.{has, Among}
use Rattle.reo_growth.specs.Table.{table_cmp}
use Rattle.reo_cut.specs.declared.cut.CellCut.{CellCut}
use Rattle.reo_cut.specs.Cut.{IsOfRegion}
use Rattle.reo_product.specs.Table.{IsTableOf}
use Rattle.reo_fabric.specs.declared.fabric.CellSpec.{CellSpec}
use Rattle.reo_fabric.specs.declared.fabric.PortSpec.{PortSpec}
use Rattle.reo_fabric.specs.declared.fabric.Fabric.{Fabric}
use Rattle.reo_fabric.specs.Reading.{Offers, offer_at, cell_word, state_word, data_word, places_of, cells_of, ports_of, reading_of}
use Rattle.reo_fabric.specs.Entry.{content_at}
use Rattle.reo_flow.specs.Allows.{Table, AreTables}
use Rattle.reo_plan.specs.Fabric.{cell_spec}
use Rattle.reo_schedule.specs.Board.{IsBoard}
use Rattle.reo_schedule.proofs.ListLemmas.{same_sorted, same_rising}
use Rattle.reo_schedule.proofs.RegionLemmas.{one_region}
use Rattle.reo_schedule.proofs.QuietLaw.{at_mapped, port_spec}

table_total : IsTotalOrder table_cmp
table_total = then_total (back_total (on_total (λ (names : List ℕ). length names) nat_cmp_total)) nat_list_cmp_total

-- a region has one table
module _ (c : RawCircuit) (root : Automaton) where
  listed_in : (m n : ℕ) (xs ys : Table) → IsTableOf c root m xs → IsTableOf c root n ys → (names : List ℕ) → Among names xs → Among names ys
  listed_in m n xs ys is_x is_y names at =
      let firing = is_x.listed.only names at in
      let row = is_y.listed.all (has names) firing.connected in
      let same = same_rising row.0 names (is_y.listed.only row.0 row.1).rising firing.rising row.2 in
      subst (λ ns. Among ns ys) same row.1

  one_table : (m n : ℕ) (xs ys : Table) → IsTableOf c root m xs → IsTableOf c root n ys → xs ≡ ys
  one_table m n xs ys is_x is_y =
      same_sorted table_cmp table_total xs ys is_x.ordered is_y.ordered (listed_in m n xs ys is_x is_y) (listed_in n m ys xs is_y is_x)

pub one_tables : (c : RawCircuit) (xs ys : List Table) → AreTables c xs → AreTables c ys → xs ≡ ys
one_tables c xs ys are_x are_y =
    let roots = regions_are_one_list c are_x.roots are_y.roots are_x.regions are_y.regions in
    ext_get_or [] xs ys (are_x.as_many ∙ ap length roots ∙ sym are_y.as_many)
    (λ k below.
    let root = slice_get_found are_x.roots k (omega (arith, below, are_x.as_many)) in
    let x = are_x.each k root.0 (get_or xs k []) root.1 (slice_get-get_or xs k [] below) in
    let y = are_y.each k root.0 (get_or ys k []) (ap (λ rs. slice_get rs k) (sym roots) ∙ root.1) (slice_get-get_or ys k [] (omega (arith, below, are_x.as_many, ap length roots, are_y.as_many))) in
    one_table c root.0 x.0 y.0 (get_or xs k []) (get_or ys k []) x.1 y.1)

same_places : {A : Type 0} (test : A → Bool) (first : ℕ) (xs ys : List A) → length xs ≡ length ys → ((k : ℕ) (x y : A) → slice_get xs k ≡ Some x → slice_get ys k ≡ Some y → test x ≡ test y) → places_of test first xs ≡ places_of test first ys
same_places test first [] [] len same = refl
same_places test first [] (y ∷ ys) len same = absurd (omega (arith, len))
same_places test first (x ∷ xs) [] len same = absurd (omega (arith, len))
same_places test first (x ∷ xs) (y ∷ ys) len same =
    let later = same_places test (first + 1) xs ys (omega (arith, len)) (λ k. same (suc k)) in
    ap (λ b. cond b (first ∷ places_of test (first + 1) xs) (places_of test (first + 1) xs)) (same zero x y refl refl) ∙ ap (λ ps. cond (test y) (first ∷ ps) ps) later

module _ (c : RawCircuit) (one other : Fabric) (tables tables_too : List Table) (board : IsBoard c one tables) (board_too : IsBoard c other tables_too) where
  roots_same : board.is_cut.roots ≡ board_too.is_cut.roots
  roots_same = regions_are_one_list c board.is_cut.roots board_too.is_cut.roots board.is_cut.regions board_too.is_cut.regions

  pub same_count : one.regions ≡ other.regions
  same_count = board.is_fabric.regions ∙ board.is_cut.count ∙ ap length roots_same ∙ sym board_too.is_cut.count ∙ sym board_too.is_fabric.regions

  of_one : (x : Automaton) (r s : ℕ) → IsOfRegion c board.is_cut.roots x r → IsOfRegion c board_too.is_cut.roots x s → r ≡ s
  of_one x r s of of_too = one_region c board.is_cut.roots board.is_cut.regions r s of.root of_too.root x of.at (ap (λ rs. slice_get rs s) roots_same ∙ of_too.at) of.same of_too.same

  cut_long : length board.cut.cells ≡ length board_too.cut.cells
  cut_long =
      sym (length-map board.cut.cells (λ (x : CellCut). x.channel)) ∙ ap length (board.is_cut.cells ∙ sym board_too.is_cut.cells) ∙ length-map board_too.cut.cells (λ (x : CellCut). x.channel)

  cut_at : (k : ℕ) (x y : CellCut) → slice_get board.cut.cells k ≡ Some x → slice_get board_too.cut.cells k ≡ Some y → x ≡ y
  cut_at k x y at at_too =
      let channels : x.channel ≡ y.channel =
      same_Some x.channel y.channel (sym (at_mapped (λ (z : CellCut). z.channel) board.cut.cells k x at) ∙ ap (λ zs. slice_get zs k) (board.is_cut.cells ∙ sym board_too.is_cut.cells) ∙ at_mapped (λ (z : CellCut). z.channel) board_too.cut.cells k y at_too) in
      let is = board.is_cut.each_cell k x at in
      let is_too = board_too.is_cut.each_cell k y at_too in
      let same : is.channel ≡ is_too.channel = same_Some is.channel is_too.channel (sym is.found ∙ ap (slice_get c.channels) channels ∙ is_too.found) in
      let filler = of_one (OfNode is_too.channel.a) x.filler y.filler (subst (λ (ch : Channel). IsOfRegion c board.is_cut.roots (OfNode ch.a) x.filler) same is.filler) is_too.filler in
      let taker = of_one (OfNode is_too.channel.b) x.taker y.taker (subst (λ (ch : Channel). IsOfRegion c board.is_cut.roots (OfNode ch.b) x.taker) same is.taker) is_too.taker in
      (λ i. record { channel = channels i; filler = filler i; taker = taker i })

  cuts_same : board.cut.cells ≡ board_too.cut.cells
  cuts_same =
      ext_get_or (record { channel = 0; filler = 0; taker = 0 }) board.cut.cells board_too.cut.cells cut_long
      (λ k below. cut_at k (get_or board.cut.cells k (record { channel = 0; filler = 0; taker = 0 })) (get_or board_too.cut.cells k (record { channel = 0; filler = 0; taker = 0 }))
      (slice_get-get_or board.cut.cells k (record { channel = 0; filler = 0; taker = 0 }) below)
      (slice_get-get_or board_too.cut.cells k (record { channel = 0; filler = 0; taker = 0 }) (omega (arith, below, cut_long))))

  cells_same : one.cells ≡ other.cells
  cells_same = board.is_fabric.cells ∙ ap (map (cell_spec c)) cuts_same ∙ sym board_too.is_fabric.cells

  port_same : (region k : ℕ) (x y : PortSpec) → slice_get one.ports k ≡ Some x → slice_get other.ports k ≡ Some y → nat_eq x.region region ≡ nat_eq y.region region
  port_same region k x y at at_too =
      let port = slice_get_found c.ports k (omega (arith, board.is_fabric.as_many, slice_get_within one.ports k x at)) in
      let spec = port_spec c one tables board k port.0 port.1 in
      let spec_too = port_spec c other tables_too board_too k port.0 port.1 in
      let is : x ≡ spec.0 = same_Some x spec.0 (sym at ∙ spec.1) in
      let is_too : y ≡ spec_too.0 = same_Some y spec_too.0 (sym at_too ∙ spec_too.1) in
      ap (λ (s : PortSpec). nat_eq s.region region) is ∙ ap (λ r. nat_eq r region) (of_one (OfNode port.0.node) spec.0.region spec_too.0.region spec.3 spec_too.3)
      ∙ sym (ap (λ (s : PortSpec). nat_eq s.region region) is_too)

  -- so each region reads the same
  pub same_reading : (region : ℕ) (state : State) (offers : Offers) → reading_of one region state offers ≡ reading_of other region state offers
  same_reading region state offers =
      let cells : cells_of one region ≡ cells_of other region = ap (places_of (λ (cell : CellSpec). nat_eq cell.filler region || nat_eq cell.taker region) 0) cells_same in
      let ports : ports_of one region ≡ ports_of other region =
      same_places (λ (port : PortSpec). nat_eq port.region region) 0 one.ports other.ports (board.is_fabric.as_many ∙ sym board_too.is_fabric.as_many) (port_same region) in
      (λ i. record {
        region = region;
        round = 0;
        clock = 0;
        cells = map (λ cell. (cell, cell_word (content_at state cell))) (cells i);
        ports = map (λ port. (port, state_word (offer_at offers port), data_word (offer_at offers port))) (ports i);
      })
