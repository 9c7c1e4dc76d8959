-- The region of a pipe: its ports are there, and what it noted allows the entry that hands a value on.
use Rattle.std.proofs.Common.{◌≡◌, ℕ, zero, suc, ◌<◌, List, [], ◌∷◌, ◌++◌, map, All, Some, None, refl, sym, ap, ◌∙◌, subst, arith}
use Rattle.std.proofs.lemmas.List.Elements.{All-nil, All-cons}
use Rattle.reo_value.specs.declared.value.Value.{Value}
use Rattle.reo_value.specs.declared.op.Way.TheVariants.{Put, Get}
use Rattle.reo_value.specs.Code.{code_of, IsValue}
use Rattle.reo_fabric.specs.declared.entry.Entry.{Entry}
use Rattle.reo_fabric.specs.declared.fabric.Fabric.{Fabric}
use Rattle.reo_fabric.specs.declared.reading.Reading.{Reading}
use Rattle.reo_fabric.specs.Entry.{at_place}
use Rattle.reo_fabric.specs.Fabric.{IsPort}
use Rattle.reo_fabric.specs.Decider.{Takes, Fills, Puts, Gets, IsFitting}
use Rattle.reo_coupling.specs.declared.view.RegionView.{RegionView}
use Rattle.reo_coupling.specs.declared.view.Stage.TheVariants.{Cleared}
use Rattle.reo_coupling.specs.PortParts.{IsPortOf}
use Rattle.reo_coupling.specs.Steps.{MayCommit, noted, word_or_zero}
use Rattle.reo_test_ports.specs.Pipe.{pipe, piped}

pub enter_there : (fabric : Fabric) (region : ℕ) → fabric ≡ pipe → region ≡ 0 → IsPort fabric Put region 0
enter_there fabric region is at = subst (λ f. IsPort f Put region 0) (sym is) (record { spec = _; found = refl; at = sym at; goes = refl })

pub leave_there : (fabric : Fabric) (region : ℕ) → fabric ≡ pipe → region ≡ 0 → IsPort fabric Get region 1
leave_there fabric region is at = subst (λ f. IsPort f Get region 1) (sym is) (record { spec = _; found = refl; at = sym at; goes = refl })

pub enter_of : (fabric : Fabric) (region : ℕ) → fabric ≡ pipe → region ≡ 0 → IsPortOf fabric region 0
enter_of fabric region is at = subst (λ f. IsPortOf f region 0) (sym is) (record { spec = _; found = refl; at = sym at })

pub leave_of : (fabric : Fabric) (region : ℕ) → fabric ≡ pipe → region ≡ 0 → IsPortOf fabric region 1
leave_of fabric region is at = subst (λ f. IsPortOf f region 1) (sym is) (record { spec = _; found = refl; at = sym at })

-- the reading of a region that noted this of its ports
abbrev reading_with : RegionView → List (ℕ × ℕ) → List (ℕ × ℕ) → Reading
reading_with view states laid = record {
  region = view.cells.region;
  round = view.cells.round;
  clock = 0;
  cells = view.cells.notes;
  ports = map (λ p. (p.0, p.1, word_or_zero (at_place laid p.0))) states;
}

some_puts : {P : Type 0} (place : ℕ × Value) → place ∷ [] ≡ [] → P
some_puts place none = absurd cc

fits : (fabric : Fabric) (view : RegionView) (word : ℕ) (value : Value) → fabric ≡ pipe → view.cells.region ≡ 0 → IsValue value → word ≡ code_of value
    → IsFitting fabric (reading_with view ((0, 1) ∷ (1, 1) ∷ []) ((0, word) ∷ [])) (piped value)
fits fabric view word value is at real code =
    let reading : Reading = reading_with view ((0, 1) ∷ (1, 1) ∷ []) ((0, word) ∷ []) in
    record {
      region = sym at;
      some = λ takes fills puts gets. some_puts (0, value) puts;
      takes = All-nil (Takes fabric reading);
      fills = All-nil (Fills fabric reading);
      puts = All-cons (Puts fabric reading) (0, value) [] (record { own = enter_there fabric view.cells.region is at; value = real; reads = ap (λ w. Some (1, w)) code }) (All-nil (Puts fabric reading));
      gets = All-cons (Gets fabric reading) (1, value) [] (record { own = leave_there fabric view.cells.region is at; value = real; word = 0; reads = refl }) (All-nil (Gets fabric reading));
      takes_rise = tt;
      fills_rise = tt;
      puts_rise = (omega arith, tt);
      gets_rise = (omega arith, tt);
    }

pub may_commit : (fabric : Fabric) (view : RegionView) (entry : Entry) (enter offer leave : ℕ) (value : Value) → fabric ≡ pipe → view.cells.region ≡ 0 → view.cells.stage ≡ Cleared → view.ports.states ≡ (0, enter) ∷ (1, leave) ∷ []
    → view.ports.laid ≡ (0, offer) ∷ [] → enter ≡ 1 → leave ≡ 1 → entry ≡ piped value → IsValue value → code_of value ≡ offer → MayCommit fabric view entry
may_commit fabric view entry enter offer leave value is at cleared states laid enters leaves entry_is real code = record {
  cleared = cleared;
  fits = subst (IsFitting fabric (noted view)) (sym entry_is)
      (subst (λ l. IsFitting fabric (reading_with view view.ports.states l) (piped value)) (sym laid)
      (subst (λ s. IsFitting fabric (reading_with view s ((0, offer) ∷ [])) (piped value)) (sym (states ∙ (ap (λ n. (0, n) ∷ (1, leave) ∷ []) enters ∙ ap (λ n. (0, 1) ∷ (1, n) ∷ []) leaves)))
      (fits fabric view offer value is at real (sym code))));
}
