-- The names that come into nodes.
use Rattle.std.proofs.Common.{◌≡◌, ℕ, List, [], ◌∷◌, Bool, true, false, cond, ◌&&◌, Option, Some, None, refl, ap, ◌∙◌}
use Rattle.std.specs.Prelude.{nat_eq}
use Rattle.std.specs.List.{find, cons_option}
use Rattle.std.specs.Option.{option_and_then, option_map, option_map_or}
use Rattle.reo_net.specs.declared.circuit.RawCircuit.{RawCircuit}
use Rattle.reo_net.specs.declared.stand.Stand.{Stand}
use Rattle.reo_net.specs.Stand.{stand_of}
use Rattle.reo_flow.specs.Flow.{comes_into}
use Rattle.reo_plan.specs.inside.Cells.{first_into, incoming_of}

node_of : Option Stand → Option ℕ
node_of = option_and_then (λ stand. cond stand.incoming (Some stand.node) None)

one_more : (node name : ℕ) (o : Option Stand) (pairs : List (ℕ × ℕ)) (rest : Option ℕ) → first_into pairs node ≡ rest
    → first_into (cons_option (option_map (λ n. (n, name)) (node_of o)) pairs) node ≡ cond (option_map_or (λ stand. stand.incoming && nat_eq stand.node node) o false) (Some name) rest
unfolding node_of
one_more node name None pairs rest same = same
one_more node name (Some stand) pairs rest same = by_way stand.incoming
  where
    by_node : (b : Bool) → nat_eq stand.node node ≡ b → first_into ((stand.node, name) ∷ pairs) node ≡ cond b (Some name) rest
    by_node true is = ap (λ b. option_map (λ (pair : ℕ × ℕ). pair.1) (cond b (Some (stand.node, name)) (find (λ (pair : ℕ × ℕ). nat_eq pair.0 node) pairs))) is
    by_node false is = ap (λ b. option_map (λ (pair : ℕ × ℕ). pair.1) (cond b (Some (stand.node, name)) (find (λ (pair : ℕ × ℕ). nat_eq pair.0 node) pairs))) is ∙ same

    by_way : (b : Bool) → first_into (cons_option (option_map (λ n. (n, name)) (cond b (Some stand.node) None)) pairs) node ≡ cond (b && nat_eq stand.node node) (Some name) rest
    by_way true = by_node (nat_eq stand.node node) refl
    by_way false = same

pub first_comes : (c : RawCircuit) (names : List ℕ) (node : ℕ) → first_into (incoming_of c names) node ≡ find (comes_into c node) names
unfolding node_of
first_comes c [] node = refl
first_comes c (name ∷ names) node = one_more node name (stand_of c name) (incoming_of c names) (find (comes_into c node) names) (first_comes c names node)
