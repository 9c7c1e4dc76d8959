-- What the components' next operations offer.
use Rattle.std.proofs.Common.{◌≡◌, ℕ, zero, suc, ◌+◌, ◌<◌, ⊎_elim, List, [], ◌∷◌, length, slice_get, get_or, Bool, true, false, cond, Option, Some, None, Contains, refl, sym, ap, ◌∙◌, subst, arith}
use Rattle.std.specs.Prelude.{nat_eq}
use Rattle.std.specs.List.{range_with_len}
use Rattle.std.specs.Option.{option_to_list}
use Rattle.std.proofs.lemmas.Bool.{eq-eqb, eqb-true}
use Rattle.std.proofs.lemmas.Option.{same_Some, slice_get_within}
use Rattle.std.proofs.lemmas.List.{get_or-map, get_or_default}
use Rattle.std.proofs.lemmas.List.FromFn.{length-range_with_len, get_or-range_with_len}
use Rattle.std.proofs.lemmas.List.Elements.{Contains-append_left, Contains-append_right, Contains-append_cases}
use Rattle.reo_value.specs.declared.value.Value.{Value}
use Rattle.reo_value.specs.declared.op.Op.{Op}
use Rattle.reo_value.specs.Op.{port_of}
use Rattle.reo_net.specs.declared.circuit.RawCircuit.{RawCircuit}
use Rattle.reo_net.specs.Scripts.{IsOperationOf, ScriptsFit}
use Rattle.reo_fabric.specs.Reading.{offer_at}
use Rattle.reo_trace.specs.declared.report.Called.{Called}
use Rattle.reo_trace.specs.Lawful.{next_ops}
use Rattle.reo_schedule.specs.Calls.{IsNextOf}
use Rattle.reo_schedule.specs.Offers.{offered_by, offer_in, offers_in, AreOffered}
use Rattle.reo_schedule.specs.UnderWay.{ScriptsPutValues}
use Rattle.reo_schedule.specs.Values.{PutValues}

-- the next operations are those of the list
one_of_option : (found : Option Op) (op : Op) → found ≡ Some op → Contains (option_to_list found) op
one_of_option None op e = cc
one_of_option (Some x) op e = (0, omega arith, same_Some x op e)

only_of_option : (found : Option Op) (op : Op) → Contains (option_to_list found) op → found ≡ Some op
only_of_option None op (k, below, e) = absurd (omega arith)
only_of_option (Some x) op (zero, below, e) = ap Some e
only_of_option (Some x) op (suc k, below, e) = absurd (omega arith)

next_op_at : (scripts : List (List Op)) (calls : List (List Called)) (k : ℕ) (op : Op) (script : List Op) (own : List Called) → slice_get scripts k ≡ Some script → slice_get calls k ≡ Some own → slice_get script (length own) ≡ Some op → Contains (next_ops scripts calls) op
next_op_at [] calls k op script own a b e = cc
next_op_at (s ∷ scripts) [] k op script own a b e = cc
next_op_at (s ∷ scripts) (o ∷ calls) zero op script own a b e =
    let same : slice_get s (length o) ≡ Some op = ap (λ x. slice_get x (length o)) (same_Some s script a) ∙ (ap (λ x. slice_get script (length x)) (same_Some o own b) ∙ e) in
    Contains-append_left (option_to_list (slice_get s (length o))) (next_ops scripts calls) op (one_of_option (slice_get s (length o)) op same)
next_op_at (s ∷ scripts) (o ∷ calls) (suc k) op script own a b e =
    Contains-append_right (option_to_list (slice_get s (length o))) (next_ops scripts calls) op (next_op_at scripts calls k op script own a b e)

pub next_ops-has : (scripts : List (List Op)) (calls : List (List Called)) (k : ℕ) (op : Op) → IsNextOf scripts calls k op → Contains (next_ops scripts calls) op
next_ops-has scripts calls k op n = next_op_at scripts calls k op n.script n.own n.of_script n.of_calls n.next

pub next_ops-only : (scripts : List (List Op)) (calls : List (List Called)) (op : Op) → Contains (next_ops scripts calls) op → (k : ℕ) × IsNextOf scripts calls k op
next_ops-only [] calls op (k, below, e) = absurd (omega arith)
next_ops-only (s ∷ scripts) [] op (k, below, e) = absurd (omega arith)
next_ops-only (s ∷ scripts) (o ∷ calls) op has =
    ⊎_elim
    (λ here. (zero, record { script = s; own = o; of_script = refl; of_calls = refl; next = only_of_option (slice_get s (length o)) op here }))
    (λ later.
    let found = next_ops-only scripts calls op later in
    (suc found.0, record { script = found.1.script; own = found.1.own; of_script = found.1.of_script; of_calls = found.1.of_calls; next = found.1.next }))
    (Contains-append_cases (option_to_list (slice_get s (length o))) (next_ops scripts calls) op has)

-- what stands at a port
pub offer_stands : (ops : List Op) (port : ℕ) (offer : Option Value) → offer_in ops port ≡ Some offer → (op : Op) × Contains ops op × (port_of op ≡ port) × (offered_by op ≡ offer)
offer_stands [] port offer e = cc
offer_stands (op ∷ ops) port offer e = go (nat_eq (port_of op) port) refl e (offer_stands ops port offer)
  where
    go : (b : Bool) → nat_eq (port_of op) port ≡ b → cond b (Some (offered_by op)) (offer_in ops port) ≡ Some offer
        → (offer_in ops port ≡ Some offer → (x : Op) × Contains ops x × (port_of x ≡ port) × (offered_by x ≡ offer))
        → (x : Op) × Contains (op ∷ ops) x × (port_of x ≡ port) × (offered_by x ≡ offer)
    go true here is later = (op, (0, omega arith, refl), eqb-true (port_of op) port here, same_Some (offered_by op) offer is)
    go false other is later = let found = later is in (found.0, (suc found.1.0, omega (arith, found.1.1), found.1.2), found.2, found.3)

-- an operation alone at its port is what stands there
pub alone_stands : (ops : List Op) (op : Op) → Contains ops op → ((other : Op) → Contains ops other → port_of other ≡ port_of op → other ≡ op) → offer_in ops (port_of op) ≡ Some (offered_by op)
alone_stands [] op at alone = absurd (omega (arith, at.1))
alone_stands (first ∷ ops) op at alone =
    go (nat_eq (port_of first) (port_of op)) refl (λ later. alone_stands ops op later (λ x at_x same. alone x (suc at_x.0, omega (arith, at_x.1), at_x.2) same))
  where
    rest : (k : ℕ) → k < length (first ∷ ops) → get_or (first ∷ ops) k op ≡ op → nat_eq (port_of first) (port_of op) ≡ false → Contains ops op
    rest zero below is other = absurd (let clash : true ≡ false = sym (eq-eqb (port_of first) (port_of op) (ap port_of is)) ∙ other in cc)
    rest (suc k) below is other = (k, omega (arith, below), is)

    go : (b : Bool) → nat_eq (port_of first) (port_of op) ≡ b → (Contains ops op → offer_in ops (port_of op) ≡ Some (offered_by op)) → cond b (Some (offered_by first)) (offer_in ops (port_of op)) ≡ Some (offered_by op)
    go true here later = ap (λ x. Some (offered_by x)) (alone first (0, omega arith, refl) (eqb-true (port_of first) (port_of op) here))
    go false other later = later (rest at.0 at.1 at.2 other)

-- the list of offers by port
pub offer_listed : (ops : List Op) (ports port : ℕ) → port < ports → offer_at (offers_in ops ports) port ≡ offer_in ops port
offer_listed ops ports port below =
    get_or-map (offer_in ops) (range_with_len 0 ports) port 0 None (omega (arith, below, length-range_with_len 0 ports))
    ∙ ap (offer_in ops) (get_or-range_with_len 0 ports port 0 below ∙ (let e : 0 + port ≡ port = omega arith in e))

module _ (c : RawCircuit) (scripts : List (List Op)) (fit : ScriptsFit c scripts) (calls : List (List Called)) where
  pub is_operation : (k : ℕ) (op : Op) → IsNextOf scripts calls k op → IsOperationOf scripts k op
  is_operation k op n = record { script = n.script; found = n.of_script; place = length n.own; at = n.next }

  -- no two components have an operation at one port
  pub one_component : (j k : ℕ) (op other : Op) → IsNextOf scripts calls j op → IsNextOf scripts calls k other → port_of op ≡ port_of other → j ≡ k
  one_component j k op other n m same = fit.unshared j k op other (is_operation j op n) (is_operation k other m) same

  pub one_operation : (k : ℕ) (op other : Op) → IsNextOf scripts calls k op → IsNextOf scripts calls k other → op ≡ other
  one_operation k op other n m =
      let script = same_Some n.script m.script (sym n.of_script ∙ m.of_script) in
      let own = same_Some n.own m.own (sym n.of_calls ∙ m.of_calls) in
      same_Some op other (sym n.next ∙ ap (λ s. slice_get s (length n.own)) script ∙ ap (λ (o : List Called). slice_get m.script (length o)) own ∙ m.next)

  pub next_stands : (k : ℕ) (op : Op) → IsNextOf scripts calls k op → offer_in (next_ops scripts calls) (port_of op) ≡ Some (offered_by op)
  next_stands k op n =
      alone_stands (next_ops scripts calls) op (next_ops-has scripts calls k op n)
      (λ other at same.
      let m = next_ops-only scripts calls other at in
      let j = one_component m.0 k other op m.1 n same in
      one_operation k other op (subst (λ i. IsNextOf scripts calls i other) j m.1) n)

  -- it is at a port of the circuit, of its way
  pub port_below : (k : ℕ) (op : Op) → IsNextOf scripts calls k op → port_of op < length c.ports
  port_below k op n = let port = fit.ported k op (is_operation k op n) in slice_get_within c.ports (port_of op) _ port.1

  pub are_offered : AreOffered (next_ops scripts calls) (offers_in (next_ops scripts calls) (length c.ports))
  are_offered op at =
      let n = next_ops-only scripts calls op at in
      offer_listed (next_ops scripts calls) (length c.ports) (port_of op) (port_below n.0 op n.1) ∙ next_stands n.0 op n.1

  pub put_values : ScriptsPutValues scripts → PutValues (next_ops scripts calls)
  put_values values i d below =
      let op = get_or (next_ops scripts calls) i d in
      let n = next_ops-only scripts calls op (i, below, get_or_default (next_ops scripts calls) i op d below) in
      values n.0 op (is_operation n.0 op n.1)
