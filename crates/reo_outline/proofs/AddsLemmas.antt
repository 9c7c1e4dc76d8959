-- pushes, one after the other
use Rattle.std.proofs.Common.{◌≡◌, ℕ, ◌+◌, ◌<◌, List, ◌++◌, length, take, get_or, Result, Ok, Err, sym, subst}
use Rattle.std.specs.Prelude.{Vec, count_by, flat_map}
use Rattle.reo_net.specs.declared.circuit.RawCircuit.{RawCircuit}
use Rattle.reo_cut.specs.declared.cut.Cut.{Cut}
use Rattle.reo_product.specs.declared.table.RegionTable.{RegionTable}
use Rattle.reo_trace.specs.Buffer.{HasTaken, Takes}
use Rattle.reo_trace.proofs.BufferLemmas.{HasTaken-trans}
use Rattle.reo_trace.specs.Passes.{numbered}
use Rattle.reo_trace.proofs.ListLemmas.{numbered-next}
use Rattle.reo_outline.specs.Buffer.{Adds}
use Rattle.reo_outline.specs.Outline.{is_of, firing_line, head_line, region_lines}

pub Adds-trans : {Z T E : Type 0} (a b c : Vec ℕ Z) (r : Result T E) (x y : List ℕ) → HasTaken a b x → Takes b c r y → Adds a c r (x ++ y)
Adds-trans a b c (Ok done) x y p q = HasTaken-trans a b c x y p q
Adds-trans a b c (Err e) x y p q = tt

-- the next of numbered texts
pub numbered_more : {A Z : Type 0} (f : ℕ → A → List ℕ) (a b c : Vec ℕ Z) (xs : List A) (i : ℕ) (x d : A) → i < length xs → get_or xs i d ≡ x
    → HasTaken a b (numbered f 0 (take i xs)) → HasTaken b c (f i x) → HasTaken a c (numbered f 0 (take (i + 1) xs))
numbered_more f a b c xs i x d lt same p q =
    subst (λ l. HasTaken a c l) (sym (numbered-next f xs i x d lt same)) (HasTaken-trans a b c (numbered f 0 (take i xs)) (f i x) p q)

-- a region's lines, with how many automata were counted for it
pub region_added : {Z : Type 0} (c : RawCircuit) (nodes : List (List ℕ)) (cut : Cut) (a b : Vec ℕ Z) (number automata : ℕ) (table : RegionTable)
    → automata ≡ count_by (is_of number) cut.region_of → HasTaken a b (head_line number automata table ++ flat_map (firing_line c nodes) table.firings)
    → HasTaken a b (region_lines c nodes cut number table)
region_added c nodes cut a b number automata table same taken =
    subst (λ n. HasTaken a b (head_line number n table ++ flat_map (firing_line c nodes) table.firings)) same taken
