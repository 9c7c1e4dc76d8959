-- All data of a product step are values, where those that it is made of are.
use Rattle.std.proofs.Common.{◌≡◌, ℕ, zero, suc, ◌+◌, ◌<◌, ◌≤◌, inl, inr, ⊎_elim, List, [], length, slice_get, get_or, Contains, Option, Some, None, is_some, IfSome, All, true, false, refl, sym, ap, ◌∙◌, subst, arith}
use Rattle.std.specs.Prelude.{ℤ}
use Rattle.std.proofs.lemmas.Bool.{false≢true, cases_lt}
use Rattle.std.proofs.lemmas.Option.{none-some, slice_get_within, get_or_from_slice_get}
use Rattle.std.proofs.lemmas.List.{get_or_past}
use Rattle.reo_value.specs.declared.value.Value.{Value}
use Rattle.reo_value.specs.declared.value.Value.TheVariants.{Int, Sym}
use Rattle.reo_value.specs.declared.op.Op.{Op}
use Rattle.reo_value.specs.declared.op.Op.TheVariants.{Put, Get}
use Rattle.reo_value.specs.declared.op.Way.TheVariants as way
use Rattle.reo_value.specs.Code.{IsValue}
use Rattle.reo_value.specs.Lexicon.{text_at}
use Rattle.reo_value.specs.Op.{way_of}
use Rattle.reo_guard.specs.declared.fun.Fun.{Fun}
use Rattle.reo_guard.specs.declared.fun.Fun.TheVariants.{Add, Sub, Mul, Neg, Len, Map}
use Rattle.reo_guard.specs.Yields.{Yields, YieldsInteger, YieldsLength, YieldsFirst}
use Rattle.reo_net.specs.declared.kind.Kind.{Kind}
use Rattle.reo_net.specs.declared.kind.Kind.TheVariants.{Sync, Lossy, Drain, Fifo, Filter, Transform}
use Rattle.reo_net.specs.declared.circuit.Channel.{Channel}
use Rattle.reo_net.specs.declared.circuit.RawCircuit.{RawCircuit}
use Rattle.reo_net.specs.declared.circuit.Step.{Step}
use Rattle.reo_net.specs.Kind.{is_fifo, hands_on, Passes, BothFire, Buffers}
use Rattle.reo_net.specs.Names.{name_count, end_a, end_b, IsIncoming, IsOutgoing, IsNameOf}
use Rattle.reo_net.specs.Steps.{State, IsState, datum, content, cell_of, NodeStep, ProductStep}
use Rattle.reo_net.specs.Runs.{Answers, IsOffered, UsesOffers}
use Rattle.reo_net.specs.Loops.{node_rank}
use Rattle.reo_net.specs.Checks.{IsChecked}
use Rattle.reo_net.proofs.KindLemmas.{step_cases}
use Rattle.reo_net.proofs.CellLemmas.{content_at}
use Rattle.reo_net.proofs.LoopLemmas.{ranks_rise_along}
use Rattle.reo_net.proofs.NameLemmas.{node_below, node_of_name}
use Rattle.reo_fabric.specs.Laws.{AreValues}
use Rattle.reo_flow.proofs.OnceLaw.{comes_out}
use Rattle.reo_flow.proofs.PlacesLemmas.{cell_below}
use Rattle.reo_schedule.specs.Offers.{offered_by}
use Rattle.reo_schedule.specs.Values.{HasMappedValues, HasValues, BringsValues, PutValues}

-- what a function yields at a value is a value
short_text : (texts : List (List ℕ)) → All (λ text. length text ≤ 255) texts → (t : ℕ) → length (text_at texts t) ≤ 255
short_text texts short t =
    ⊎_elim
    (λ below. short t [] below)
    (λ past. let e : length (text_at texts t) ≡ 0 = ap length (get_or_past texts t [] past) in omega (arith, e))
    (cases_lt t (length texts))

integer_value : (f : ℤ → ℤ) (datum v : Value) → YieldsInteger f datum v → IsValue v
integer_value f (Int i) v yields = subst IsValue (sym yields.1) yields.0
integer_value f (Sym t) v yields = absurd yields

length_value : (texts : List (List ℕ)) → All (λ text. length text ≤ 255) texts → (datum v : Value) → YieldsLength texts datum v → IsValue v
length_value texts short (Int i) v yields = absurd yields
length_value texts short (Sym t) v yields = let few = short_text texts short t in subst IsValue (sym yields) (grind arith)

mapped_value : (pairs : List (Value × Value)) → All (λ pair. IsValue pair.1) pairs → (datum v : Value) → YieldsFirst pairs datum v → IsValue v
mapped_value pairs values datum v yields =
    subst (λ (p : Value × Value). IsValue p.1) (get_or_from_slice_get pairs yields.place (datum, v) (datum, v) yields.at) (values yields.place (datum, v) (slice_get_within pairs yields.place (datum, v) yields.at))

yielded_value : (texts : List (List ℕ)) → All (λ text. length text ≤ 255) texts → (fun : Fun) → HasMappedValues fun → (datum v : Value) → Yields texts fun datum v → IsValue v
yielded_value texts short (Add k) values datum v yields = integer_value _ datum v yields
yielded_value texts short (Sub k) values datum v yields = integer_value _ datum v yields
yielded_value texts short (Mul k) values datum v yields = integer_value _ datum v yields
yielded_value texts short Neg values datum v yields = integer_value _ datum v yields
yielded_value texts short Len values datum v yields = length_value texts short datum v yields
yielded_value texts short (Map pairs) values datum v yields = mapped_value pairs values datum v yields

handed_value : (texts : List (List ℕ)) → All (λ text. length text ≤ 255) texts → (kind : Kind) → HasValues kind → hands_on kind ≡ true → (x v : Value) → BothFire texts kind x v → IsValue x → IsValue v
handed_value texts short Sync values on x v both is = subst IsValue (sym both) is
handed_value texts short Lossy values on x v both is = subst IsValue (sym both) is
handed_value texts short Drain values on x v both is = absurd (false≢true on)
handed_value texts short (Fifo first) values on x v both is = absurd (false≢true on)
handed_value texts short (Filter guard) values on x v both is = subst IsValue (sym both.1) is
handed_value texts short (Transform fun) values on x v both is = yielded_value texts short fun values x v both

passes_gives : (texts : List (List ℕ)) (kind : Kind) (a b : Option Value) (v : Value) → b ≡ Some v → Passes texts kind a b → (x : Value) × (a ≡ Some x) × BothFire texts kind x v
passes_gives texts kind None b v is p = absurd p
passes_gives texts kind (Some x) b v is p = (x, refl, subst (λ o. Passes texts kind (Some x) o) is p)

some_of : {X : Type 0} (o : Option X) → is_some o ≡ true → (x : X) × (o ≡ Some x)
some_of None h = absurd (false≢true h)
some_of (Some x) h = (x, refl)

-- a buffer holds what comes out of it, and nothing where something goes in
buffer_gives : (held a new : Option Value) (v : Value) → Buffers held a (Some v) new → held ≡ Some v
buffer_gives None None new v moves = absurd moves
buffer_gives None (Some d) new v moves = absurd moves
buffer_gives (Some h) None new v moves = ap Some (sym moves.0)
buffer_gives (Some h) (Some d) new v moves = absurd moves

buffer_takes : (held b new : Option Value) (v : Value) → Buffers held (Some v) b new → held ≡ None
buffer_takes None None new v moves = refl
buffer_takes None (Some e) new v moves = absurd moves
buffer_takes (Some h) b new v moves = absurd moves

module _ (c : RawCircuit) (texts : List (List ℕ)) (state : State) (step : Step) (new : State) (possible : ProductStep c texts state step new) where
  buffers_at : (k : ℕ) (channel : Channel) → slice_get c.channels k ≡ Some channel → is_fifo channel.kind ≡ true → ((datum step (end_a c k) ≡ None) → (datum step (end_b c k) ≡ None) → ⊥)
      → Buffers (content c k channel.kind state) (datum step (end_a c k)) (datum step (end_b c k)) (content c k channel.kind new)
  buffers_at k channel found fifo some =
      ⊎_elim
      (λ stays. absurd (some stays.no_a stays.no_b))
      (λ moves. ⊎_elim (λ buffer. buffer.1) (λ other. absurd (false≢true (sym other.0 ∙ fifo)))
      (step_cases texts channel.kind (content c k channel.kind state) (datum step (end_a c k)) (datum step (end_b c k)) (content c k channel.kind new) moves))
      (possible.channels k channel found)

  pub holds_taken : (k : ℕ) (channel : Channel) (v : Value) → slice_get c.channels k ≡ Some channel → is_fifo channel.kind ≡ true → datum step (end_b c k) ≡ Some v → get_or state (cell_of c k) None ≡ Some v
  holds_taken k channel v found fifo at =
      sym (content_at c k channel.kind state fifo)
      ∙ buffer_gives (content c k channel.kind state) (datum step (end_a c k)) (content c k channel.kind new) v
      (subst (λ b. Buffers (content c k channel.kind state) (datum step (end_a c k)) b (content c k channel.kind new)) at (buffers_at k channel found fifo (λ no_a no_b. none-some v (sym no_b ∙ at))))

  pub holds_none : (k : ℕ) (channel : Channel) (v : Value) → slice_get c.channels k ≡ Some channel → is_fifo channel.kind ≡ true → datum step (end_a c k) ≡ Some v → get_or state (cell_of c k) None ≡ None
  holds_none k channel v found fifo at =
      sym (content_at c k channel.kind state fifo)
      ∙ buffer_takes (content c k channel.kind state) (datum step (end_b c k)) (content c k channel.kind new) v
      (subst (λ a. Buffers (content c k channel.kind state) a (datum step (end_b c k)) (content c k channel.kind new)) at (buffers_at k channel found fifo (λ no_a no_b. none-some v (sym no_a ∙ at))))

-- an offer of an operation, by its way
put_offered : (ops : List Op) → PutValues ops → (p node : ℕ) (v : Value) → IsOffered ops p (record { node = node; way = way.Put }) v → IsValue v
put_offered ops values p node v is = go is.operation is.offered is.way is.answers
  where
    go : (op : Op) → Contains ops op → way_of op ≡ way.Put → Answers op p v → IsValue v
    go (Put q own) at way answers = subst IsValue answers.1 (subst (λ (o : Op). IfSome (offered_by o) IsValue) at.2 (values at.0 (Put q own) at.1))
    go (Get q) at way answers = cc

module _ (c : RawCircuit) (checked : IsChecked c) (texts : List (List ℕ)) (brings : BringsValues c texts) (state : State) (is_state : IsState c state) (values : AreValues state) (ops : List Op) (put_values : PutValues ops)
    (step : Step) (new : State) (possible : ProductStep c texts state step new) (uses : UsesOffers c ops (datum step)) where
  kind_values : (k : ℕ) (channel : Channel) → slice_get c.channels k ≡ Some channel → HasValues channel.kind
  kind_values k channel found =
      subst (λ (ch : Channel). HasValues ch.kind) (get_or_from_slice_get c.channels k channel channel found) (brings.channels k channel (slice_get_within c.channels k channel found))

  held_value : (k : ℕ) (channel : Channel) (v : Value) → slice_get c.channels k ≡ Some channel → is_fifo channel.kind ≡ true → datum step (end_b c k) ≡ Some v → IsValue v
  held_value k channel v found fifo at =
      subst (λ o. IfSome o IsValue) (holds_taken c texts state step new possible k channel v found fifo at)
      (values (cell_of c k) None (subst (λ n. cell_of c k < n) (sym is_state) (cell_below c k channel found fifo)))

  -- the value of a node that moves
  moves_with : (node name : ℕ) (v : Value) → IsNameOf c node name → datum step name ≡ Some v → (moves : NodeStep c node (datum step)) × (v ≡ moves.value)
  moves_with node name v named at =
      ⊎_elim
      (λ stays. absurd (none-some v (sym (stays name named) ∙ at)))
      (λ moves. (moves, subst (λ o. IfSome o (λ x. x ≡ moves.value)) at (moves.same name named)))
      (possible.nodes node (node_below c checked.circuit node name named))

  ValueAt : ℕ → Type 0
  ValueAt name = (v : Value) → datum step name ≡ Some v → IsValue v

  outgoing_value : (node name : ℕ) → ((input : ℕ) → IsIncoming c node input → ValueAt input) → IsOutgoing c node name → ValueAt name
  unfolding ValueAt
  outgoing_value node name inputs out v at =
      let by = moves_with node name v (inr out) at in
      let input = by.0.fires.input in
      let given = some_of (datum step input) by.0.fires.chosen in
      let same : given.0 ≡ by.0.value = subst (λ o. IfSome o (λ x. x ≡ by.0.value)) given.1 (by.0.same input (inl by.0.fires.incoming)) in
      subst IsValue (same ∙ sym by.1) (inputs input by.0.fires.incoming given.0 given.1)

  incoming_value : (fuel node name : ℕ) → node_rank c node < fuel → IsIncoming c node name → ValueAt name
  unfolding ValueAt
  incoming_value zero node name low incoming v at = absurd (omega (arith, low))
  incoming_value (suc fuel) node name low (inl port) v at = put_offered ops put_values name node v (uses name (record { node = node; way = way.Put }) v port.port at)
  incoming_value (suc fuel) node name low (inr end) v at =
      ⊎_elim
      (λ fifo. held_value end.number end.channel v end.found fifo at_b)
      (λ on.
      let from = given on.0 in
      let lower : node_rank c end.channel.a < fuel = omega (arith, low, ap (node_rank c) end.at, ranks_rise_along c checked end.number end.channel end.found on.1) in
      let named : IsOutgoing c end.channel.a (end_a c end.number) = inr (inl (record { number = end.number; channel = end.channel; found = end.found; at = refl; named = refl })) in
      handed_value texts brings.short end.channel.kind (kind_values end.number end.channel end.found) on.1 from.0 v from.2
      (outgoing_value end.channel.a (end_a c end.number) (λ input incoming. incoming_value fuel end.channel.a input lower incoming) named from.0 from.1))
      (comes_out end.channel.kind end.way)
    where
      at_b : datum step (end_b c end.number) ≡ Some v
      at_b = ap (datum step) (sym end.named) ∙ at

      given : is_fifo end.channel.kind ≡ false → (y : Value) × (datum step (end_a c end.number) ≡ Some y) × BothFire texts end.channel.kind y v
      given other =
          ⊎_elim
          (λ stays. absurd (none-some v (sym stays.no_b ∙ at_b)))
          (λ moves. ⊎_elim
          (λ buffer. absurd (false≢true (sym other ∙ buffer.0)))
          (λ through. passes_gives texts end.channel.kind (datum step (end_a c end.number)) (datum step (end_b c end.number)) v at_b through.1)
          (step_cases texts end.channel.kind (content c end.number end.channel.kind state) (datum step (end_a c end.number)) (datum step (end_b c end.number)) (content c end.number end.channel.kind new) moves))
          (possible.channels end.number end.channel end.found)

  -- each datum is a value
  pub datum_value : (name : ℕ) (v : Value) → name < name_count c → datum step name ≡ Some v → IsValue v
  unfolding ValueAt
  datum_value name v below at =
      let node = node_of_name c name below in
      ⊎_elim
      (λ incoming. incoming_value (node_rank c node.0 + 1) node.0 name (omega arith) incoming v at)
      (λ out. outgoing_value node.0 name (λ input incoming. incoming_value (node_rank c node.0 + 1) node.0 input (omega arith) incoming) out v at)
      node.1
