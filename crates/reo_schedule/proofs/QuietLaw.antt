-- Where something is enabled, some region's reading allows an entry.
use Rattle.std.proofs.Common.{◌≡◌, ◌≢◌, ℕ, zero, suc, ◌<◌, List, [], ◌∷◌, length, map, slice_get, Bool, true, false, cond, Option, Some, None, is_some, All, Contains, refl, sym, ap, ◌∙◌, subst, arith}
use Rattle.std.specs.Prelude.{nat_eq, ◌||◌, not, IsTrue}
use Rattle.std.specs.Map.{lookup}
use Rattle.std.specs.List.Sorted.{IsStrictlyIncreasing}
use Rattle.std.proofs.lemmas.Bool.{false≢true, eq-eqb, or_left, or_right}
use Rattle.std.proofs.lemmas.Option.{same_Some, slice_get_within, slice_get-get_or}
use Rattle.reo_value.specs.declared.value.Value.{Value}
use Rattle.reo_value.specs.declared.op.Op.{Op}
use Rattle.reo_value.specs.declared.op.Op.TheVariants.{Put, Get}
use Rattle.reo_value.specs.Code.{code_of, IsValue}
use Rattle.reo_value.specs.Op.{way_of}
use Rattle.reo_net.specs.declared.circuit.Channel.{Channel}
use Rattle.reo_net.specs.declared.circuit.Port.{Port}
use Rattle.reo_net.specs.declared.circuit.RawCircuit.{RawCircuit}
use Rattle.reo_net.specs.declared.circuit.Step.{Step}
use Rattle.reo_net.specs.Checks.{IsChecked}
use Rattle.reo_net.specs.Kind.{is_fifo}
use Rattle.reo_net.specs.Names.{name_count, port_name, end_a, end_b, IsNameOf}
use Rattle.reo_net.specs.Regions.{Automaton, OfNode, SameRegion, Moves}
use Rattle.reo_net.specs.Runs.{Answers, IsOffered, IsEnabled}
use Rattle.reo_net.specs.Stand.{is_put}
use Rattle.reo_net.specs.Steps.{State, IsState, datum, fires_in, cell_of}
use Rattle.reo_net.proofs.CellLemmas.{cell_at}
use Rattle.reo_net.proofs.NameLemmas.{slice_get_found, port_is_name, end_a_is_name, end_b_is_name, node_below, node_of_name_below}
use Rattle.reo_net.proofs.RegionListLemmas.{regions_are_one_list}
use Rattle.reo_growth.specs.Lists.{has, Among}
use Rattle.reo_growth.proofs.ListLemmas.{among_place}
use Rattle.reo_cut.specs.declared.cut.CellCut.{CellCut}
use Rattle.reo_cut.specs.Cut.{IsCellCut, IsOfRegion}
use Rattle.reo_product.specs.Laws.{IsPart}
use Rattle.reo_product.proofs.SplitLemmas.{steps_split}
use Rattle.reo_fabric.specs.declared.entry.Entry.{Entry}
use Rattle.reo_fabric.specs.declared.fabric.CellSpec.{CellSpec}
use Rattle.reo_fabric.specs.declared.fabric.PortSpec.{PortSpec}
use Rattle.reo_fabric.specs.declared.fabric.Fabric.{Fabric}
use Rattle.reo_fabric.specs.declared.reading.Reading.{Reading}
use Rattle.reo_fabric.specs.Entry.{at_place, content_at}
use Rattle.reo_fabric.specs.Decider.{port_words}
use Rattle.reo_fabric.proofs.PlaceLemmas.{at_place_holds}
use Rattle.reo_fabric.specs.Laws.{AreValues}
use Rattle.reo_fabric.specs.Reading.{Offers, offer_at, cell_word, state_word, data_word, cells_of, ports_of, reading_of}
use Rattle.reo_flow.specs.Places.{buffers, value_at_port, entry_of}
use Rattle.reo_flow.specs.Allows.{Table, IsRead, Allows}
use Rattle.reo_flow.proofs.PlacesLemmas.{length-buffers, cell_stands}
use Rattle.reo_plan.specs.Fabric.{cell_spec}
use Rattle.reo_schedule.specs.Board.{IsBoard}
use Rattle.reo_schedule.specs.Offers.{AreOffered}
use Rattle.reo_schedule.specs.Values.{BringsValues, PutValues}
use Rattle.reo_schedule.specs.Laws.{IsAllowedPart, EnabledStepsSplit, QuietIsNotEnabled}
use Rattle.reo_schedule.proofs.RegionLemmas.{one_region, joins}
use Rattle.reo_schedule.proofs.PartLaw.{sub, datum_sub, sub_has, part_has, part_meets, part_named}
use Rattle.reo_schedule.proofs.PlaceLemmas.{with_all, listed, at_listed, words_listed, each_pair}
use Rattle.reo_schedule.proofs.ValueLemmas.{holds_taken, holds_none, datum_value}

-- some name of a step fires
first_name : (bound : ℕ) (pairs : List (ℕ × Value)) → pairs ≢ [] → All (λ p. p.0 < bound) pairs → (name : ℕ) × (name < bound) × (is_some (lookup (nat_eq name) pairs) ≡ true)
first_name bound [] nonempty below = absurd (nonempty refl)
first_name bound (p ∷ pairs) nonempty below =
    (p.0, below 0 p (omega arith), ap (λ b. is_some (cond b (Some p.1) (lookup (nat_eq p.0) pairs))) (eq-eqb p.0 p.0 refl))

-- an element of a list by its place in the list of what a function gives
pub mapped_at : {A B : Type 0} (f : A → B) (xs : List A) (i : ℕ) (y : B) → slice_get (map f xs) i ≡ Some y → (x : A) × (slice_get xs i ≡ Some x) × (f x ≡ y)
mapped_at f [] i y at = cc
mapped_at f (x ∷ xs) zero y at = (x, refl, same_Some (f x) y at)
mapped_at f (x ∷ xs) (suc i) y at = mapped_at f xs i y at

pub at_mapped : {A B : Type 0} (f : A → B) (xs : List A) (i : ℕ) (x : A) → slice_get xs i ≡ Some x → slice_get (map f xs) i ≡ Some (f x)
at_mapped f [] i x at = cc
at_mapped f (y ∷ xs) zero x at = ap (λ z. Some (f z)) (same_Some y x at)
at_mapped f (y ∷ xs) (suc i) x at = at_mapped f xs i x at

-- the automata at the ends of a buffer and at a port, by the cut and the fabric
module _ (c : RawCircuit) (fabric : Fabric) (tables : List Table) (board : IsBoard c fabric tables) where
  abbrev roots : List Automaton
  roots = board.is_cut.roots

  pub cell_cut : (cell k : ℕ) → slice_get (buffers c) cell ≡ Some k → (cut : CellCut) × (slice_get fabric.cells cell ≡ Some (cell_spec c cut)) × (cut.channel ≡ k) × IsCellCut c roots cut
  cell_cut cell k at =
      let cut = mapped_at (λ (x : CellCut). x.channel) board.cut.cells cell k (ap (λ xs. slice_get xs cell) board.is_cut.cells ∙ at) in
      (cut.0, ap (λ xs. slice_get xs cell) board.is_fabric.cells ∙ at_mapped (cell_spec c) board.cut.cells cell cut.0 cut.1, cut.2, board.is_cut.each_cell cell cut.0 cut.1)

  pub port_spec : (p : ℕ) (port : Port) → slice_get c.ports p ≡ Some port → (spec : PortSpec) × (slice_get fabric.ports p ≡ Some spec) × (spec.way ≡ port.way) × IsOfRegion c roots (OfNode port.node) spec.region
  port_spec p port found =
      let at = board.is_cut.port_region p port found in
      let owner = slice_get_found board.owners p (omega (arith, board.each_owner, slice_get_within c.ports p port found)) in
      (record { way = port.way; region = at.0; owner = owner.0 }, board.is_fabric.ports p port at.0 owner.0 found at.1 owner.1, refl, at.2)

  module _ (region : ℕ) (root : Automaton) (at : slice_get roots region ≡ Some root) where
    of_region : (x : Automaton) (other : ℕ) → SameRegion c root x → IsOfRegion c roots x other → other ≡ region
    of_region x other same of = one_region c roots board.is_cut.regions other region of.root root x of.at at of.same same

    -- a cell whose end b is in the region is one that the region takes from, and so for end a
    taken_listed : (cell k : ℕ) (channel : Channel) → slice_get (buffers c) cell ≡ Some k → slice_get c.channels k ≡ Some channel → SameRegion c root (OfNode channel.b) → Among cell (cells_of fabric region)
    taken_listed cell k channel stands found same =
        let cut = cell_cut cell k stands in
        let is : cut.3.channel ≡ channel = same_Some cut.3.channel channel (sym cut.3.found ∙ ap (slice_get c.channels) cut.2 ∙ found) in
        let taker = of_region (OfNode cut.3.channel.b) cut.0.taker (subst (λ (ch : Channel). SameRegion c root (OfNode ch.b)) (sym is) same) cut.3.taker in
        listed (λ (spec : CellSpec). nat_eq spec.filler region || nat_eq spec.taker region) fabric.cells cell (cell_spec c cut.0) cut.1
        (or_right (nat_eq cut.0.filler region) (nat_eq cut.0.taker region) (eq-eqb cut.0.taker region taker))

    filled_listed : (cell k : ℕ) (channel : Channel) → slice_get (buffers c) cell ≡ Some k → slice_get c.channels k ≡ Some channel → SameRegion c root (OfNode channel.a) → Among cell (cells_of fabric region)
    filled_listed cell k channel stands found same =
        let cut = cell_cut cell k stands in
        let is : cut.3.channel ≡ channel = same_Some cut.3.channel channel (sym cut.3.found ∙ ap (slice_get c.channels) cut.2 ∙ found) in
        let filler = of_region (OfNode cut.3.channel.a) cut.0.filler (subst (λ (ch : Channel). SameRegion c root (OfNode ch.a)) (sym is) same) cut.3.filler in
        listed (λ (spec : CellSpec). nat_eq spec.filler region || nat_eq spec.taker region) fabric.cells cell (cell_spec c cut.0) cut.1
        (or_left (nat_eq cut.0.filler region) (nat_eq cut.0.taker region) (eq-eqb cut.0.filler region filler))

    port_listed : (p : ℕ) (port : Port) → slice_get c.ports p ≡ Some port → SameRegion c root (OfNode port.node) → Among p (ports_of fabric region)
    port_listed p port found same =
        let spec = port_spec p port found in
        listed (λ (x : PortSpec). nat_eq x.region region) fabric.ports p spec.0 spec.1 (eq-eqb spec.0.region region (of_region (OfNode port.node) spec.0.region same spec.3))

-- the FIFO1 of a cell
buffer_of : (c : RawCircuit) (cell k : ℕ) → slice_get (buffers c) cell ≡ Some k → (channel : Channel) × (slice_get c.channels k ≡ Some channel) × (is_fifo channel.kind ≡ true) × (cell_of c k ≡ cell)
buffer_of c cell k stands =
    let is = cell_at c.channels cell (omega (arith, length-buffers c, slice_get_within (buffers c) cell k stands)) in
    let same : is.number ≡ k = same_Some is.number k (sym (cell_stands c is.number is.channel is.found is.fifo) ∙ ap (slice_get (buffers c)) is.at ∙ stands) in
    (is.channel, ap (slice_get c.channels) (sym same) ∙ is.found, is.fifo, ap (cell_of c) (sym same) ∙ is.at)

cond_value : {X : Type 0} (b : Bool) (o : Option X) (v : X) → cond b o None ≡ Some v → (b ≡ true) × (o ≡ Some v)
cond_value true o v e = (refl, e)
cond_value false o v e = absurd (let clash : None ≡ Some v = e in cc)

-- what stands at a port, by the offer that a datum there answers
put_stands : (ops : List Op) (offers : Offers) → AreOffered ops offers → (p : ℕ) (port : Port) (v : Value) → is_put port.way ≡ true → IsOffered ops p port v → offer_at offers p ≡ Some (Some v)
put_stands ops offers offered p port v put is = go is.operation is.offered is.way is.answers
  where
    go : (op : Op) → Contains ops op → way_of op ≡ port.way → Answers op p v → offer_at offers p ≡ Some (Some v)
    go (Put q own) at way answers = ap (offer_at offers) (sym answers.0) ∙ offered (Put q own) at ∙ ap (λ x. Some (Some x)) answers.1
    go (Get q) at way answers = absurd (false≢true (ap is_put way ∙ put))

get_stands : (ops : List Op) (offers : Offers) → AreOffered ops offers → (p : ℕ) (port : Port) (v : Value) → not (is_put port.way) ≡ true → IsOffered ops p port v → offer_at offers p ≡ Some None
get_stands ops offers offered p port v get is = go is.operation is.offered is.way is.answers
  where
    go : (op : Op) → Contains ops op → way_of op ≡ port.way → Answers op p v → offer_at offers p ≡ Some None
    go (Put q own) at way answers = absurd (false≢true (ap (λ w. not (is_put w)) way ∙ get))
    go (Get q) at way answers = ap (offer_at offers) (sym answers) ∙ offered (Get q) at

module _ (c : RawCircuit) (checked : IsChecked c) (texts : List (List ℕ)) (brings : BringsValues c texts) (fabric : Fabric) (tables : List Table) (board : IsBoard c fabric tables)
    (state : State) (is_state : IsState c state) (values : AreValues state) (ops : List Op) (offers : Offers) (put_values : PutValues ops) (offered : AreOffered ops offers) (enabled : IsEnabled c texts state ops) where
  -- the reading shows the part of the step in a region
  module _ (region : ℕ) (root : Automaton) (at : slice_get board.is_cut.roots region ≡ Some root) (x : Automaton) (part : ℕ → Bool) (is : IsPart c root (fires_in (datum enabled.step)) x part) where
    abbrev made : Step
    made = sub c texts state enabled.step enabled.new enabled.possible root x part is

    abbrev shown : Reading
    shown = reading_of fabric region state offers

    has_name : (name : ℕ) (v : Value) → datum made name ≡ Some v → (datum enabled.step name ≡ Some v) × (part name ≡ true)
    has_name name v gives = sub_has c texts state enabled.step enabled.new enabled.possible root x part is name v gives

    node_joins : (node name : ℕ) → part name ≡ true → IsNameOf c node name → SameRegion c root (OfNode node)
    node_joins node name fired named = joins c root part is.connected name fired (OfNode node) (node_below c checked.circuit node name named) named

    takes_read : (cell k : ℕ) (v : Value) → slice_get (buffers c) cell ≡ Some k → datum made (end_b c k) ≡ Some v → at_place shown.cells cell ≡ Some (code_of v)
    takes_read cell k v stands gives =
        let buffer = buffer_of c cell k stands in
        let has = has_name (end_b c k) v gives in
        let same = node_joins buffer.0.b (end_b c k) has.1 (end_b_is_name c k buffer.0 buffer.1) in
        at_listed (λ cell. cell_word (content_at state cell)) (cells_of fabric region) cell (taken_listed c fabric tables board region root at cell k buffer.0 stands buffer.1 same)
        ∙ ap (λ o. Some (cell_word o)) (ap (content_at state) (sym buffer.3) ∙ holds_taken c texts state enabled.step enabled.new enabled.possible k buffer.0 v buffer.1 buffer.2 has.0)

    fills_read : (cell k : ℕ) (v : Value) → slice_get (buffers c) cell ≡ Some k → datum made (end_a c k) ≡ Some v → at_place shown.cells cell ≡ Some 0
    fills_read cell k v stands gives =
        let buffer = buffer_of c cell k stands in
        let has = has_name (end_a c k) v gives in
        let same = node_joins buffer.0.a (end_a c k) has.1 (end_a_is_name c k buffer.0 buffer.1) in
        at_listed (λ cell. cell_word (content_at state cell)) (cells_of fabric region) cell (filled_listed c fabric tables board region root at cell k buffer.0 stands buffer.1 same)
        ∙ ap (λ o. Some (cell_word o)) (ap (content_at state) (sym buffer.3) ∙ holds_none c texts state enabled.step enabled.new enabled.possible k buffer.0 v buffer.1 buffer.2 has.0)

    port_read : (p : ℕ) (port : Port) (v : Value) (offer : Option Value) → slice_get c.ports p ≡ Some port → datum made (port_name p) ≡ Some v → offer_at offers p ≡ Some offer
        → port_words shown p ≡ Some (state_word (Some offer), data_word (Some offer))
    port_read p port v offer found gives stands =
        let has = has_name p v gives in
        let same = node_joins port.node p has.1 (port_is_name c p port found) in
        words_listed (λ q. state_word (offer_at offers q)) (λ q. data_word (offer_at offers q)) (ports_of fabric region) p (port_listed c fabric tables board region root at p port found same)
        ∙ (let f : Option (Option Value) → Option (ℕ × ℕ) = λ o. Some (state_word o, data_word o) in ap f stands)

    puts_read : (p : ℕ) (port : Port) (v : Value) → slice_get c.ports p ≡ Some port → value_at_port true (datum made) p port ≡ Some v → port_words shown p ≡ Some (1, code_of v)
    puts_read p port v found gives =
        let both = cond_value (is_put port.way) (datum made p) v gives in
        port_read p port v (Some v) found both.1 (put_stands ops offers offered p port v both.0 (enabled.offered p port v found (has_name p v both.1).0))

    gets_read : (p : ℕ) (port : Port) (v : Value) → slice_get c.ports p ≡ Some port → value_at_port false (datum made) p port ≡ Some v → (word : ℕ) × (port_words shown p ≡ Some (1, word))
    gets_read p port v found gives =
        let both = cond_value (not (is_put port.way)) (datum made p) v gives in
        (0, port_read p port v None found both.1 (get_stands ops offers offered p port v both.0 (enabled.offered p port v found (has_name p v both.1).0)))

    abbrev entry_at : ℕ → Entry
    entry_at choice = entry_of c region choice (datum made)

    is_read : (choice : ℕ) → IsRead shown (entry_at choice)
    is_read choice = record {
      takes = with_all (λ p. at_place shown.cells p.0 ≡ Some (code_of p.1)) (λ cell k. datum made (end_b c k)) (buffers c) takes_read;
      fills = with_all (λ p. at_place shown.cells p.0 ≡ Some 0) (λ cell k. datum made (end_a c k)) (buffers c) fills_read;
      puts = with_all (λ p. port_words shown p.0 ≡ Some (1, code_of p.1)) (value_at_port true (datum made)) c.ports puts_read;
      gets = with_all (λ p. (word : ℕ) × (port_words shown p.0 ≡ Some (1, word))) (value_at_port false (datum made)) c.ports gets_read;
    }

    below_count : (name : ℕ) (v : Value) → datum enabled.step name ≡ Some v → name < name_count c
    below_count name v gives = at_place_holds (λ p. p.0 < name_count c) enabled.step.pairs name v enabled.possible.is_step.known gives

    all_values : All (λ p. IsValue p.1) enabled.step.pairs
    all_values = each_pair IsValue enabled.step.pairs enabled.possible.is_step.rising (λ name v gives.
        datum_value c checked texts brings state is_state values ops put_values enabled.step enabled.new enabled.possible enabled.offered name v (below_count name v gives) gives)

    made_values : All (λ p. IsValue p.1) made.pairs
    made_values = part_has c texts state enabled.step enabled.new enabled.possible root x part is (λ p. IsValue p.1) all_values

    part_allowed : (table : Table) → slice_get tables region ≡ Some table → (choice : ℕ) (names : List ℕ) → slice_get table choice ≡ Some names → IsStrictlyIncreasing names → ((name : ℕ) → has names name ≡ part name)
        → Allows c texts tables region shown (entry_at choice)
    part_allowed table tabled choice names firing rising same = record {
      of_region = refl;
      table = table;
      tabled = tabled;
      names = names;
      firing = firing;
      read = is_read choice;
      step = made;
      is_step = record {
        named = part_named c texts state enabled.step enabled.new enabled.possible root x part is names rising same;
        values = made_values;
        stands = refl;
        meets = part_meets c texts state enabled.step enabled.new enabled.possible root x part is;
      };
    }

  fired_below : (name : ℕ) → IsTrue (fires_in (datum enabled.step) name) → name < name_count c
  fired_below name fired = go (datum enabled.step name) refl
    where
      go : (o : Option Value) → datum enabled.step name ≡ o → name < name_count c
      go None e = absurd (false≢true (sym (ap is_some e) ∙ fired))
      go (Some v) e = at_place_holds (λ p. p.0 < name_count c) enabled.step.pairs name v enabled.possible.is_step.known e

  part_at : (name : ℕ) → IsTrue (fires_in (datum enabled.step) name) → IsAllowedPart c texts fabric tables state offers enabled.step name
  unfolding part_allowed
  part_at name fired =
      let node = node_of_name_below c checked.circuit name (fired_below name fired) in
      let of = board.is_cut.region_of (OfNode node.0) node.1 in
      let same_roots = regions_are_one_list c board.are_tables.roots board.is_cut.roots board.are_tables.regions board.is_cut.regions in
      let at_tables = ap (λ rs. slice_get rs of.0) same_roots ∙ of.2.at in
      let within = slice_get_within board.are_tables.roots of.0 of.2.root at_tables in
      let table = slice_get_found tables of.0 (omega (arith, within, board.are_tables.as_many)) in
      let tabled = board.are_tables.each of.0 of.2.root table.0 at_tables table.1 in
      let moves : Moves c of.2.root (fires_in (datum enabled.step)) (OfNode node.0) = record { of_region = of.2.same; name = name; has = node.2; fired = fired } in
      let part = steps_split c checked.circuit of.2.root texts state enabled.step enabled.new enabled.possible (OfNode node.0) moves in
      let row = tabled.1.listed.all part.0 part.1.connected in
      let place = among_place table.0 row.0 row.1 in
      let firing = tabled.1.listed.only row.0 row.1 in
      let stands : slice_get table.0 place.0 ≡ Some row.0 = slice_get-get_or table.0 place.0 [] place.1 ∙ ap Some (place.2 []) in
      record {
        entry = entry_at of.0 of.2.root of.2.at (OfNode node.0) part.0 part.1 place.0;
        within = omega (arith, within, ap length same_roots, board.is_cut.count, board.is_fabric.regions);
        roots = board.is_cut.roots;
        regions = board.is_cut.regions;
        root = of.2.root;
        at = of.2.at;
        mover = OfNode node.0;
        part = part.0;
        is_part = part.1;
        has = part.1.own name node.2 fired;
        allowed = part_allowed of.0 of.2.root of.2.at (OfNode node.0) part.0 part.1 table.0 table.1 place.0 row.0 stands firing.rising row.2;
        as_there = λ other. datum_sub c texts state enabled.step enabled.new enabled.possible of.2.root (OfNode node.0) part.0 part.1 other;
      }

pub enabled_steps_split : EnabledStepsSplit
enabled_steps_split c texts fabric tables checked brings board state is_state values ops offers put_values offered enabled name fired =
    part_at c checked texts brings fabric tables board state is_state values ops offers put_values offered enabled name fired

pub quiet_is_not_enabled : QuietIsNotEnabled
quiet_is_not_enabled c texts fabric tables checked brings board state is_state values ops offers put_values offered quiet enabled =
    let first = first_name (name_count c) enabled.step.pairs enabled.possible.is_step.nonempty enabled.possible.is_step.known in
    let part = part_at c checked texts brings fabric tables board state is_state values ops offers put_values offered enabled first.0 first.2 in
    quiet part.entry.region part.entry part.within part.allowed
