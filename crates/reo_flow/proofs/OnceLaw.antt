-- For one reading and one firing the data are determined, so there is one entry at most.
use Rattle.std.proofs.Common.{◌≡◌, ℕ, zero, suc, ◌+◌, ◌<◌, ◌≤◌, ◌⊎◌, inl, inr, ⊎_elim, List, [], ◌∷◌, length, map, slice_get, slice_index, Option, Some, None, is_some, IfSome, All, true, false, refl, sym, ap, ◌∙◌, subst, arith}
use Rattle.std.specs.Prelude.{ℤ}
use Rattle.std.specs.List.Sorted.{IsStrictlyIncreasing}
use Rattle.std.proofs.lemmas.Bool.{false≢true, cases_lt, eq-eqb}
use Rattle.std.proofs.lemmas.Bool.Decides.{eqb_tells}
use Rattle.std.proofs.lemmas.Option.{same_Some, none-some}
use Rattle.reo_value.specs.declared.value.Value.{Value}
use Rattle.reo_value.specs.declared.value.Value.TheVariants.{Int, Sym}
use Rattle.reo_value.specs.declared.op.Way.TheVariants.{Put}
use Rattle.reo_value.specs.Code.{code_of, IsValue}
use Rattle.reo_guard.specs.declared.fun.Fun.{Fun}
use Rattle.reo_guard.specs.declared.fun.Fun.TheVariants.{Add, Sub, Mul, Neg, Len, Map}
use Rattle.reo_guard.specs.Yields.{Yields, YieldsInteger, YieldsLength, YieldsFirst}
use Rattle.reo_net.specs.declared.kind.Kind.{Kind}
use Rattle.reo_net.specs.declared.kind.Kind.TheVariants.{Sync, Lossy, Drain, Fifo, Filter, Transform}
use Rattle.reo_net.specs.declared.circuit.Channel.{Channel}
use Rattle.reo_net.specs.declared.circuit.RawCircuit.{RawCircuit}
use Rattle.reo_net.specs.declared.circuit.Step.{Step}
use Rattle.reo_net.specs.Names.{name_count, end_a, end_b, IsPortAt, IsIncoming, IsOutgoing, IsNameOf}
use Rattle.reo_net.specs.Kind.{Incoming, direction_of_b, is_fifo, hands_on, Passes, BothFire}
use Rattle.reo_net.specs.Steps.{Data, datum, fires_in, cell_of, NodeStep}
use Rattle.reo_net.specs.Loops.{node_rank}
use Rattle.reo_net.specs.Checks.{IsChecked}
use Rattle.reo_net.specs.Regions.{Automaton}
use Rattle.reo_net.proofs.NameLemmas.{node_below, node_of_name}
use Rattle.reo_net.proofs.LoopLemmas.{ranks_rise_along}
use Rattle.reo_growth.specs.Lists.{has}
use Rattle.reo_product.specs.Table.{IsFiring}
use Rattle.reo_fabric.specs.declared.entry.Entry.{Entry}
use Rattle.reo_fabric.specs.declared.reading.Reading.{Reading}
use Rattle.reo_fabric.specs.Entry.{at_place, RisesFrom}
use Rattle.reo_fabric.specs.Decider.{port_words}
use Rattle.reo_fabric.proofs.CodeLemmas.{codes_differ}
use Rattle.reo_fabric.proofs.PlaceLemmas.{at_place_holds, at_first, at_later}
use Rattle.reo_flow.specs.Places.{value_at_port, entry_of}
use Rattle.reo_flow.specs.Step.{MeetLinks, IsStepOf}
use Rattle.reo_flow.specs.Allows.{IsRead}
use Rattle.reo_flow.specs.Laws.{OneEntryAtMost, OneStepAtMost}
use Rattle.reo_flow.proofs.PlacesLemmas.{at_with}
use Rattle.reo_flow.proofs.StepLaw.{same_functions, take_at, firing_below, fired_are_names, tabled_firing}

-- a function yields one value at a datum
integer_once : (f : ℤ → ℤ) (datum v w : Value) → YieldsInteger f datum v → YieldsInteger f datum w → v ≡ w
integer_once f (Int i) v w p q = p.1 ∙ sym q.1
integer_once f (Sym t) v w p q = absurd p

length_once : (texts : List (List ℕ)) (datum v w : Value) → YieldsLength texts datum v → YieldsLength texts datum w → v ≡ w
length_once texts (Int i) v w p q = absurd p
length_once texts (Sym t) v w p q = p ∙ sym q

first_once : (pairs : List (Value × Value)) (datum v w : Value) → YieldsFirst pairs datum v → YieldsFirst pairs datum w → v ≡ w
first_once pairs datum v w p q =
    ⊎_elim
    (λ before. absurd (q.first p.place (datum, v) before p.at refl))
    (λ past. ⊎_elim
    (λ after. absurd (p.first q.place (datum, w) after q.at refl))
    (λ not_after.
    let same : p.place ≡ q.place = omega (arith, past, not_after) in
    ap (λ (r : Value × Value). r.1) (same_Some (datum, v) (datum, w) (sym p.at ∙ ap (slice_get pairs) same ∙ q.at)))
    (cases_lt q.place p.place))
    (cases_lt p.place q.place)

yields_once : (texts : List (List ℕ)) (fun : Fun) (datum v w : Value) → Yields texts fun datum v → Yields texts fun datum w → v ≡ w
yields_once texts (Add k) datum v w p q = integer_once _ datum v w p q
yields_once texts (Sub k) datum v w p q = integer_once _ datum v w p q
yields_once texts (Mul k) datum v w p q = integer_once _ datum v w p q
yields_once texts Neg datum v w p q = integer_once _ datum v w p q
yields_once texts Len datum v w p q = length_once texts datum v w p q
yields_once texts (Map pairs) datum v w p q = first_once pairs datum v w p q

-- what goes in at end a determines what comes out at end b
handed_once : (texts : List (List ℕ)) (kind : Kind) (datum v w : Value) → hands_on kind ≡ true → BothFire texts kind datum v → BothFire texts kind datum w → v ≡ w
handed_once texts Sync datum v w on p q = p ∙ sym q
handed_once texts Lossy datum v w on p q = p ∙ sym q
handed_once texts Drain datum v w on p q = absurd (false≢true on)
handed_once texts (Fifo first) datum v w on p q = absurd p
handed_once texts (Filter guard) datum v w on p q = p.1 ∙ sym q.1
handed_once texts (Transform fun) datum v w on p q = yields_once texts fun datum v w p q

-- data come out of a buffer or of a channel that hands them on
pub comes_out : (kind : Kind) → direction_of_b kind ≡ Incoming → (is_fifo kind ≡ true) ⊎ ((is_fifo kind ≡ false) × (hands_on kind ≡ true))
comes_out Sync way = inr (refl, refl)
comes_out Lossy way = inr (refl, refl)
comes_out Drain way = cc
comes_out (Fifo first) way = inl refl
comes_out (Filter guard) way = inr (refl, refl)
comes_out (Transform fun) way = inr (refl, refl)

pub passes_gives : (texts : List (List ℕ)) (kind : Kind) (a b : Option Value) (v : Value) → b ≡ Some v → Passes texts kind a b → (x : Value) × (a ≡ Some x) × BothFire texts kind x v
passes_gives texts kind None b v is p = absurd p
passes_gives texts kind (Some x) b v is p = (x, refl, subst (λ o. Passes texts kind (Some x) o) is p)

pub some_of : {X : Type 0} (o : Option X) → is_some o ≡ true → (x : X) × (o ≡ Some x)
some_of None h = absurd (false≢true h)
some_of (Some x) h = (x, refl)

-- two data functions with the same names, whose sources are the same
module _ (c : RawCircuit) (checked : IsChecked c) (texts : List (List ℕ)) (d e : Data) (d_meet : MeetLinks c texts d) (e_meet : MeetLinks c texts e) (same_names : (name : ℕ) → fires_in d name ≡ fires_in e name)
    (below : (name : ℕ) → fires_in d name ≡ true → name < name_count c)
    (ports : (node p : ℕ) (v w : Value) → IsPortAt c Put node p → d p ≡ Some v → e p ≡ Some w → v ≡ w)
    (cells : (k : ℕ) (channel : Channel) (v w : Value) → slice_get c.channels k ≡ Some channel → is_fifo channel.kind ≡ true → d (end_b c k) ≡ Some v → e (end_b c k) ≡ Some w → v ≡ w) where
  AgreeAt : ℕ → Type 0
  AgreeAt name = (v w : Value) → d name ≡ Some v → e name ≡ Some w → v ≡ w

  -- the value of a node that moves
  pub moves_with : (f : Data) → MeetLinks c texts f → (node name : ℕ) (v : Value) → IsNameOf c node name → f name ≡ Some v → (step : NodeStep c node f) × (v ≡ step.value)
  moves_with f meet node name v named at =
      ⊎_elim
      (λ stays. absurd (none-some v (sym (stays name named) ∙ at)))
      (λ step. (step, subst (λ o. IfSome o (λ x. x ≡ step.value)) at (step.same name named)))
      (meet.nodes node (node_below c checked.circuit node name named))

  outgoing_agrees : (node name : ℕ) → ((input : ℕ) → IsIncoming c node input → AgreeAt input) → IsOutgoing c node name → AgreeAt name
  unfolding AgreeAt
  outgoing_agrees node name inputs out v w at_d at_e =
      let by_d = moves_with d d_meet node name v (inr out) at_d in
      let by_e = moves_with e e_meet node name w (inr out) at_e in
      let input = by_d.0.fires.input in
      let incoming = by_d.0.fires.incoming in
      let given_d = some_of (d input) by_d.0.fires.chosen in
      let given_e = some_of (e input) (sym (same_names input) ∙ by_d.0.fires.chosen) in
      let value_d : given_d.0 ≡ by_d.0.value = subst (λ o. IfSome o (λ x. x ≡ by_d.0.value)) given_d.1 (by_d.0.same input (inl incoming)) in
      let value_e : given_e.0 ≡ by_e.0.value = subst (λ o. IfSome o (λ x. x ≡ by_e.0.value)) given_e.1 (by_e.0.same input (inl incoming)) in
      by_d.1 ∙ sym value_d ∙ inputs input incoming given_d.0 given_e.0 given_d.1 given_e.1 ∙ value_e ∙ sym by_e.1

  incoming_agrees : (fuel node name : ℕ) → node_rank c node < fuel → IsIncoming c node name → AgreeAt name
  unfolding AgreeAt
  incoming_agrees zero node name low incoming v w at_d at_e = absurd (omega (arith, low))
  incoming_agrees (suc fuel) node name low (inl port) v w at_d at_e = ports node name v w port at_d at_e
  incoming_agrees (suc fuel) node name low (inr end) v w at_d at_e =
      ⊎_elim
      (λ fifo. cells end.number end.channel v w end.found fifo at_b_d at_b_e)
      (λ on.
      let from_d = given d d_meet v on.0 at_b_d in
      let from_e = given e e_meet w on.0 at_b_e in
      let lower : node_rank c end.channel.a < fuel = omega (arith, low, ap (node_rank c) end.at, ranks_rise_along c checked end.number end.channel end.found on.1) in
      let named : IsOutgoing c end.channel.a (end_a c end.number) = inr (inl (record { number = end.number; channel = end.channel; found = end.found; at = refl; named = refl })) in
      let same : from_d.0 ≡ from_e.0 =
      outgoing_agrees end.channel.a (end_a c end.number) (λ input incoming. incoming_agrees fuel end.channel.a input lower incoming) named from_d.0 from_e.0 from_d.1 from_e.1 in
      handed_once texts end.channel.kind from_e.0 v w on.1 (subst (λ x. BothFire texts end.channel.kind x v) same from_d.2) from_e.2)
      (comes_out end.channel.kind end.way)
    where
      at_b_d : d (end_b c end.number) ≡ Some v
      at_b_d = ap d (sym end.named) ∙ at_d

      at_b_e : e (end_b c end.number) ≡ Some w
      at_b_e = ap e (sym end.named) ∙ at_e

      given : (f : Data) → MeetLinks c texts f → (x : Value) → is_fifo end.channel.kind ≡ false → f (end_b c end.number) ≡ Some x → (y : Value) × (f (end_a c end.number) ≡ Some y) × BothFire texts end.channel.kind y x
      given f meet x other at =
          ⊎_elim
          (λ past. absurd (none-some x (sym past.no_b ∙ at)))
          (λ passes. passes_gives texts end.channel.kind (f (end_a c end.number)) (f (end_b c end.number)) x at passes)
          (meet.channels end.number end.channel end.found other)

  all_agree : (name : ℕ) → fires_in d name ≡ true → AgreeAt name
  all_agree name fired =
      let at = node_of_name c name (below name fired) in
      ⊎_elim
      (λ incoming. incoming_agrees (node_rank c at.0 + 1) at.0 name (omega arith) incoming)
      (λ out. outgoing_agrees at.0 name (λ input incoming. incoming_agrees (node_rank c at.0 + 1) at.0 input (omega arith) incoming) out)
      at.1

  same_at : (name : ℕ) → d name ≡ e name
  unfolding AgreeAt
  same_at name = go (d name) refl (e name) refl
    where
      go : (x : Option Value) → d name ≡ x → (y : Option Value) → e name ≡ y → x ≡ y
      go None is_x None is_y = refl
      go (Some v) is_x (Some w) is_y = ap Some (all_agree name (ap is_some is_x) v w is_x is_y)
      go None is_x (Some w) is_y = absurd (false≢true (sym (ap is_some is_x) ∙ same_names name ∙ ap is_some is_y))
      go (Some v) is_x None is_y = absurd (false≢true (sym (ap is_some is_y) ∙ sym (same_names name) ∙ ap is_some is_x))

  pub same_data : d ≡ e
  same_data = same_functions d e same_at

-- two steps of entries that are read in the same way
module _ (c : RawCircuit) (checked : IsChecked c) (texts : List (List ℕ)) (names : List ℕ) (root : Automaton) (firing : IsFiring c root names) (reading : Reading)
    (entry other : Entry) (read : IsRead reading entry) (other_read : IsRead reading other) (step next : Step) (is : IsStepOf c texts names entry step) (is_next : IsStepOf c texts names other next) where
  value_at : (s : Step) → All (λ p. IsValue p.1) s.pairs → (name : ℕ) (v : Value) → datum s name ≡ Some v → IsValue v
  value_at s values name v at = at_place_holds (λ p. IsValue p.1) s.pairs name v values at

  port_read : (o : Entry) (s : Step) → IsRead reading o → IsStepOf c texts names o s → (node p : ℕ) (v : Value) → IsPortAt c Put node p → datum s p ≡ Some v → port_words reading p ≡ Some (1, code_of v)
  port_read o s o_read o_is node p v port at =
      at_place_holds (λ q. port_words reading q.0 ≡ Some (1, code_of q.1)) o.puts p v o_read.puts
      (ap (λ (x : Entry). at_place x.puts p) o_is.stands ∙ at_with (value_at_port true (datum s)) 0 c.ports p (record { node = node; way = Put }) p (omega arith) port.port ∙ at)

  cell_read : (o : Entry) (s : Step) → IsRead reading o → IsStepOf c texts names o s → (k : ℕ) (channel : Channel) (v : Value) → slice_get c.channels k ≡ Some channel → is_fifo channel.kind ≡ true
      → datum s (end_b c k) ≡ Some v → at_place reading.cells (cell_of c k) ≡ Some (code_of v)
  cell_read o s o_read o_is k channel v found fifo at =
      at_place_holds (λ q. at_place reading.cells q.0 ≡ Some (code_of q.1)) o.takes (cell_of c k) v o_read.takes (take_at c texts names o s o_is k channel found fifo ∙ at)

  one_code : (v w : Value) (name : ℕ) → datum step name ≡ Some v → datum next name ≡ Some w → code_of v ≡ code_of w → v ≡ w
  one_code v w name at at_next same = codes_differ v w (value_at step is.values name v at) (value_at next is_next.values name w at_next) same

  pub one_data : datum step ≡ datum next
  one_data =
      same_data c checked texts (datum step) (datum next) is.meets is_next.meets
      (λ name. sym (fired_are_names c texts names entry step is name) ∙ fired_are_names c texts names other next is_next name)
      (λ name fired. firing_below c root (has names) firing.connected name (fired_are_names c texts names entry step is name ∙ fired))
      (λ node p v w port at at_next. one_code v w p at at_next
      (ap (λ (r : ℕ × ℕ). r.1) (same_Some (1, code_of v) (1, code_of w) (sym (port_read entry step read is node p v port at) ∙ port_read other next other_read is_next node p w port at_next))))
      (λ k channel v w found fifo at at_next. one_code v w (end_b c k) at at_next
      (same_Some (code_of v) (code_of w) (sym (cell_read entry step read is k channel v found fifo at) ∙ cell_read other next other_read is_next k channel w found fifo at_next)))

  pub one_entry : entry.region ≡ other.region → entry.choice ≡ other.choice → entry ≡ other
  one_entry same_region same_choice =
      is.stands ∙ ap (λ r. entry_of c r entry.choice (datum step)) same_region ∙ ap (λ n. entry_of c other.region n (datum step)) same_choice
      ∙ ap (λ d. entry_of c other.region other.choice d) one_data ∙ sym is_next.stands

pub one_entry_at_most : OneEntryAtMost
one_entry_at_most c texts tables checked are region reading entry other allowed other_allowed same =
    let tabled = tabled_firing c texts tables are region reading entry allowed in
    let table : other_allowed.table ≡ allowed.table = same_Some other_allowed.table allowed.table (sym other_allowed.tabled ∙ allowed.tabled) in
    let names : other_allowed.names ≡ allowed.names =
    same_Some other_allowed.names allowed.names (sym other_allowed.firing ∙ ap (λ t. slice_get t other.choice) table ∙ ap (slice_get allowed.table) (sym same) ∙ allowed.firing) in
    one_entry c checked texts allowed.names tabled.root tabled.firing reading entry other allowed.read other_allowed.read allowed.step other_allowed.step allowed.is_step
    (subst (λ ns. IsStepOf c texts ns other other_allowed.step) names other_allowed.is_step) (allowed.of_region ∙ sym other_allowed.of_region) same

-- pairs with the same rising names and the same data are the same
pub rises_strictly : (low : ℕ) (pairs : List (ℕ × Value)) → IsStrictlyIncreasing (map (λ p. p.0) pairs) → ((p : ℕ × Value) (rest : List (ℕ × Value)) → pairs ≡ p ∷ rest → low ≤ p.0) → RisesFrom low pairs
rises_strictly low [] rising first = tt
rises_strictly low (p ∷ pairs) rising first = (
  first p pairs refl,
  rises_strictly (p.0 + 1) pairs later (λ q rest is. next q rest is),
)
  where
    later : IsStrictlyIncreasing (map (λ (r : ℕ × Value). r.0) pairs)
    later k within =
        let names : List ℕ = map (λ (r : ℕ × Value). r.0) (p ∷ pairs) in
        subst (λ n. slice_index names (suc k) < slice_index names n) (let e : suc k + 1 ≡ suc (k + 1) = omega arith in e) (rising (suc k) (omega (arith, within)))

    next : (q : ℕ × Value) (rest : List (ℕ × Value)) → pairs ≡ q ∷ rest → p.0 + 1 ≤ q.0
    next q rest is =
        let less : p.0 < slice_index (map (λ (r : ℕ × Value). r.0) pairs) 0 = rising 0 (let two : 0 + 1 < suc (length (map (λ (r : ℕ × Value). r.0) pairs)) = omega (arith, ap (λ ps. length (map (λ (r : ℕ × Value). r.0) ps)) is) in two) in
        omega (arith, less, ap (λ ps. slice_index (map (λ (r : ℕ × Value). r.0) ps) 0) is)

same_pairs : (low : ℕ) (ps qs : List (ℕ × Value)) → RisesFrom low ps → map (λ p. p.0) ps ≡ map (λ p. p.0) qs → ((name : ℕ) → low ≤ name → at_place ps name ≡ at_place qs name) → ps ≡ qs
same_pairs low [] [] rise names same = refl
same_pairs low [] (q ∷ qs) rise names same = cc
same_pairs low (p ∷ ps) [] rise names same = cc
same_pairs low (p ∷ ps) (q ∷ qs) rise names same =
    let head : p.0 ≡ q.0 = cc in
    let tail : map (λ (r : ℕ × Value). r.0) ps ≡ map (λ (r : ℕ × Value). r.0) qs = cc in
    let at_p : at_place (p ∷ ps) p.0 ≡ Some p.1 = at_first p ps p.0 (eq-eqb p.0 p.0 refl) in
    let at_q : at_place (q ∷ qs) p.0 ≡ Some q.1 = at_first q qs p.0 (eq-eqb p.0 q.0 head) in
    let value : p.1 ≡ q.1 = same_Some p.1 q.1 (sym at_p ∙ same p.0 rise.0 ∙ at_q) in
    let first : p ≡ q = (λ i. (head i, value i)) in
    let later : ps ≡ qs = same_pairs (p.0 + 1) ps qs rise.1 tail (λ name above.
    ⊎_elim
    (λ is. absurd (omega (arith, is.1, above)))
    (λ apart. ⊎_elim
    (λ is. absurd (omega (arith, is.1, above, head)))
    (λ apart_q. sym (at_later p ps name apart.0) ∙ same name (omega (arith, above, rise.0)) ∙ at_later q qs name apart_q.0)
    (eqb_tells name q.0))
    (eqb_tells name p.0)) in
    (λ i. first i ∷ later i)

pub one_step_at_most : OneStepAtMost
one_step_at_most c texts tables checked are region reading entry allowed step is =
    let tabled = tabled_firing c texts tables are region reading entry allowed in
    let data_same = one_data c checked texts allowed.names tabled.root tabled.firing reading entry entry allowed.read allowed.read step allowed.step is allowed.is_step in
    let rising = subst (λ ns. IsStrictlyIncreasing ns) (sym is.named) tabled.firing.rising in
    let pairs = same_pairs 0 step.pairs allowed.step.pairs (rises_strictly 0 step.pairs rising (λ p rest at. omega arith)) (is.named ∙ sym allowed.is_step.named) (λ name low. ap (λ (f : Data). f name) data_same) in
    (λ i. record { pairs = pairs i })
