-- The readings of all regions, as places are listed.
use Rattle.std.proofs.Common.{◌≡◌, ℕ, ◌+◌, ◌<◌, ⊎_elim, Bool, true, false, ◌||◌, cond, List, [], ◌∷◌, ◌++◌, length, map, set, get_or, nat_eq, refl, sym, ap, ◌∙◌, arith, length-set, length-append, append-nil}
use Rattle.std.proofs.lemmas.List.{map-append}
use Rattle.std.proofs.lemmas.Bool.Decides.{eqb_tells}
use Rattle.std.proofs.lemmas.Option.{slice_get_read}
use Rattle.reo_fabric.specs.declared.fabric.CellSpec.{CellSpec}
use Rattle.reo_fabric.specs.declared.fabric.PortSpec.{PortSpec}
use Rattle.reo_fabric.specs.declared.fabric.Fabric.{Fabric}
use Rattle.reo_fabric.specs.declared.reading.Reading.{Reading}
use Rattle.reo_fabric.specs.Reading.{places_of}
use Rattle.reo_fabric.specs.inside.Whole.{EachAt, IsUnread}
use Rattle.reo_fabric.specs.inside.Readings.{HasPlaces, AreReadings, listed}
use Rattle.reo_fabric.proofs.EngineLemmas.{each_changed, each_more}

module _ (test : ℕ → Bool) (place : ℕ) (lists : ℕ → List ℕ) (region : ℕ) where
  listed_there : test region ≡ true → listed test place lists region ≡ lists region ++ place ∷ []
  listed_there on = ap (λ b. lists region ++ cond b (place ∷ []) []) on

  not_listed : test region ≡ false → listed test place lists region ≡ lists region
  not_listed off = ap (λ b. lists region ++ cond b (place ∷ []) []) off ∙ append-nil (lists region)

itself : (region : ℕ) → nat_eq region region ≡ true
itself region = ⊎_elim (λ is. is.0) (λ not. absurd (not.1 refl)) (eqb_tells region region)

apart : (one other : ℕ) → (other ≡ one → ⊥) → nat_eq one other ≡ false
apart one other differ = ⊎_elim (λ is. absurd (differ (sym is.1))) (λ not. not.0) (eqb_tells one other)

-- a place that is listed for two regions is listed for each of them, and once if they are one
pub listed_once : (one : ℕ) (place : ℕ) (lists : ℕ → List ℕ) (region : ℕ) → listed (nat_eq one) place lists region ≡ listed (λ r. nat_eq one r || nat_eq one r) place lists region
listed_once one place lists region = ⊎_elim
    (λ is. ap (λ b. lists region ++ cond b (place ∷ []) []) is.0 ∙ sym (ap (λ b. lists region ++ cond (b || b) (place ∷ []) []) is.0))
    (λ not. ap (λ b. lists region ++ cond b (place ∷ []) []) not.0 ∙ sym (ap (λ b. lists region ++ cond (b || b) (place ∷ []) []) not.0))
    (eqb_tells one region)

pub listed_twice : (one other place : ℕ) (lists : ℕ → List ℕ) (region : ℕ) → (one ≡ other → ⊥)
    → listed (nat_eq other) place (listed (nat_eq one) place lists) region ≡ listed (λ r. nat_eq one r || nat_eq other r) place lists region
listed_twice one other place lists region differ = ⊎_elim
    (λ is.
    not_listed (nat_eq other) place (listed (nat_eq one) place lists) region (apart other region (λ same. differ (is.1 ∙ same)))
    ∙ (listed_there (nat_eq one) place lists region is.0 ∙ sym (ap (λ b. lists region ++ cond (b || nat_eq other region) (place ∷ []) []) is.0)))
    (λ not.
    ap (λ (list : List ℕ). list ++ cond (nat_eq other region) (place ∷ []) []) (not_listed (nat_eq one) place lists region not.0)
    ∙ sym (ap (λ b. lists region ++ cond (b || nat_eq other region) (place ∷ []) []) not.0))
    (eqb_tells one region)

module _ (regions : ℕ) (cells ports : ℕ → List ℕ) (readings : List Reading) (are : AreReadings regions cells ports readings) where
  pub same_cells : (new : ℕ → List ℕ) → ((region : ℕ) → cells region ≡ new region) → AreReadings regions new ports readings
  same_cells new same = record {
    len = are.len;
    each = λ place x found. let was = are.each place x found in record { region_is = was.region_is; no_round = was.no_round; no_clock = was.no_clock; cells_are = was.cells_are ∙ same place; ports_are = was.ports_are };
  }

  pub same_ports : (new : ℕ → List ℕ) → ((region : ℕ) → ports region ≡ new region) → AreReadings regions cells new readings
  same_ports new same = record {
    len = are.len;
    each = λ place x found. let was = are.each place x found in record { region_is = was.region_is; no_round = was.no_round; no_clock = was.no_clock; cells_are = was.cells_are; ports_are = was.ports_are ∙ same place };
  }

  module _ (region place : ℕ) (within : region < length readings) (x : Reading) (is : x ≡ get_or readings region x) where
    there : HasPlaces cells ports region x
    there = are.each region x (slice_get_read readings (length readings) region x refl within is)

    -- a place more at the end of a region's cells
    pub cell_pushed : (words : List (ℕ × ℕ)) → words ≡ x.cells ++ (place, 0) ∷ [] → AreReadings regions (listed (nat_eq region) place cells) ports (set readings region (record x { cells = words }))
    cell_pushed words pushed = record {
      len = length-set readings region (record x { cells = words }) ∙ are.len;
      each = each_changed (HasPlaces cells ports) (HasPlaces (listed (nat_eq region) place cells) ports) readings region (record x { cells = words }) within
          (record {
            region_is = there.region_is;
            no_round = there.no_round;
            no_clock = there.no_clock;
            cells_are = ap (map (λ p. p.0)) pushed ∙ (map-append (λ (p : ℕ × ℕ). p.0) x.cells ((place, 0) ∷ []) ∙ (ap (λ (list : List ℕ). list ++ place ∷ []) there.cells_are ∙ sym (listed_there (nat_eq region) place cells region (itself region))));
            ports_are = there.ports_are;
          })
          (λ k y ne was. record { region_is = was.region_is; no_round = was.no_round; no_clock = was.no_clock; cells_are = was.cells_are ∙ sym (not_listed (nat_eq region) place cells k (apart region k ne)); ports_are = was.ports_are })
          are.each;
    }

    -- a place more at the end of its ports
    pub port_pushed : (words : List (ℕ × ℕ × ℕ)) → words ≡ x.ports ++ (place, 0, 0) ∷ [] → AreReadings regions cells (listed (nat_eq region) place ports) (set readings region (record x { ports = words }))
    port_pushed words pushed = record {
      len = length-set readings region (record x { ports = words }) ∙ are.len;
      each = each_changed (HasPlaces cells ports) (HasPlaces cells (listed (nat_eq region) place ports)) readings region (record x { ports = words }) within
          (record {
            region_is = there.region_is;
            no_round = there.no_round;
            no_clock = there.no_clock;
            cells_are = there.cells_are;
            ports_are = ap (map (λ p. p.0)) pushed ∙ (map-append (λ (p : ℕ × ℕ × ℕ). p.0) x.ports ((place, 0, 0) ∷ []) ∙ (ap (λ (list : List ℕ). list ++ place ∷ []) there.ports_are ∙ sym (listed_there (nat_eq region) place ports region (itself region))));
          })
          (λ k y ne was. record { region_is = was.region_is; no_round = was.no_round; no_clock = was.no_clock; cells_are = was.cells_are; ports_are = was.ports_are ∙ sym (not_listed (nat_eq region) place ports k (apart region k ne)) })
          are.each;
    }

-- one more reading without places
pub one_without : (regions : ℕ) (readings : List Reading) (cells : List (ℕ × ℕ)) (ports : List (ℕ × ℕ × ℕ)) → cells ≡ [] → ports ≡ [] → AreReadings regions (λ region. []) (λ region. []) readings
    → AreReadings (regions + 1) (λ region. []) (λ region. []) (readings ++ record { region = regions; round = 0; clock = 0; cells = cells; ports = ports } ∷ [])
one_without regions readings cells ports no_cells no_ports are =
    let new : Reading = record { region = regions; round = 0; clock = 0; cells = cells; ports = ports } in
    record {
      len = omega (arith, length-append readings (new ∷ []), are.len);
      each = each_more (HasPlaces (λ region. []) (λ region. [])) readings regions new are.len
          (record { region_is = refl; no_round = refl; no_clock = refl; cells_are = ap (map (λ (p : ℕ × ℕ). p.0)) no_cells; ports_are = ap (map (λ (p : ℕ × ℕ × ℕ). p.0)) no_ports }) are.each;
    }

-- readings of all places of a fabric's regions
pub readings_unread : (fabric : Fabric) (cells : List CellSpec) (ports : List PortSpec) (readings : List Reading) → cells ≡ fabric.cells → ports ≡ fabric.ports
    → AreReadings fabric.regions (λ region. places_of (λ cell. nat_eq cell.filler region || nat_eq cell.taker region) 0 cells) (λ region. places_of (λ port. nat_eq port.region region) 0 ports) readings → EachAt (IsUnread fabric) readings
readings_unread fabric cells ports readings of_cells of_ports are = λ place x found.
    let is = are.each place x found in
    record {
      of_region = record {
        region_is = is.region_is;
        cells = is.cells_are ∙ ap (places_of (λ cell. nat_eq cell.filler place || nat_eq cell.taker place) 0) of_cells;
        ports = is.ports_are ∙ ap (places_of (λ port. nat_eq port.region place) 0) of_ports;
      };
      no_round = is.no_round;
      no_clock = is.no_clock;
    }
