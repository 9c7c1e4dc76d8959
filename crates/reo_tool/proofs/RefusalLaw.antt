-- A region has a table or is too large, and never both; so a document is accepted or is not run.
use Rattle.std.proofs.Common.{◌≢◌, ℕ, ⊎_elim, List, length, map, Some, refl, ap, ◌∙◌, subst, arith}
use Rattle.std.proofs.lemmas.Option.{slice_get-get_or, slice_get_within, get_or_from_slice_get}
use Rattle.reo_net.specs.declared.circuit.RawCircuit.{RawCircuit}
use Rattle.reo_net.specs.declared.net.CheckRefusal.{CheckRefusal}
use Rattle.reo_net.specs.declared.net.CheckRefusal.TheVariants as check
use Rattle.reo_net.specs.Checks.{IsChecked}
use Rattle.reo_net.specs.Refusals.{Refuses}
use Rattle.reo_net.specs.Regions.{Automaton, IsRegion}
use Rattle.reo_product.specs.Table.{HasFirings, IsTooLarge, names_in}
use Rattle.reo_product.proofs.CountLemmas.{growth_is_one, firings_are_so_many}
use Rattle.reo_session.specs.declared.preparation.Prepared.{Prepared}
use Rattle.reo_session.specs.declared.preparation.SessionRefusal.{SessionRefusal}
use Rattle.reo_session.specs.declared.preparation.SessionRefusal.TheVariants as session
use Rattle.reo_session.specs.Prepared.{HasTable, IsPrepared, Declines}
use Rattle.reo_document.specs.Document.{DocumentData, circuit_of}
use Rattle.reo_tool.specs.FaultText.{session_text}
use Rattle.reo_tool.specs.Call.{IsAccepted, IsNotRun, ForCircuit, ForRegion}

not_too_large : (c : RawCircuit) (root : Automaton) (count : ℕ) → IsTooLarge c root count → HasTable c root → ⊥
not_too_large c root count large tabled =
    let table = tabled.2 in
    ⊎_elim
    (λ grows. let same = growth_is_one c root grows.0 tabled.0 grows.1 table.counted in omega (arith, grows.2, same, table.grown))
    (λ fires.
    let firings : HasFirings c root (length tabled.1) = record { firings = tabled.1; are_all = table.listed; are_so_many = refl } in
    let same = firings_are_so_many c root count (length tabled.1) fires.4 firings in
    omega (arith, fires.3, same, table.few))
    large

-- a circuit that is refused does not pass the checks
pub not_accepted : (c : RawCircuit) (refused : CheckRefusal) → Refuses c refused → refused ≢ check.NoMemory → IsChecked c → ⊥
not_accepted c (check.TooManyChannels count) r named checked = omega (arith, r.0, checked.few_channels)
not_accepted c (check.TooManyPorts count) r named checked = omega (arith, r.1, checked.few_ports)
not_accepted c (check.PortTwice node) r named checked = checked.one_port node r.2.0
not_accepted c (check.MixedPort node) r named checked = checked.unmixed node r.3.0
not_accepted c (check.SyncLoop node) r named checked = checked.acyclic node r.4.0
not_accepted c check.NoMemory r named checked = named refl

pub not_run : (document : DocumentData) (told : List ℕ) → IsNotRun document told → IsAccepted document → ⊥
not_run document told (ForCircuit refused why named is) accepted = not_accepted (circuit_of document) refused why named accepted.checked
not_run document told (ForRegion region count checked least is) accepted =
    let at = get_or_from_slice_get least.roots region least.root least.root least.at in
    let is_region = subst (IsRegion (circuit_of document)) at (least.regions.each region least.root (slice_get_within least.roots region least.root least.at)) in
    not_too_large (circuit_of document) least.root count least.large (accepted.tabled least.root is_region)

-- what is prepared is accepted
pub prepared_accepted : (document : DocumentData) (prepared : Prepared) → IsPrepared (circuit_of document) prepared → IsAccepted document
prepared_accepted document prepared p = record {
  checked = p.checked;
  tabled = λ root is_region.
      let at = p.is_cut.regions.every root is_region in
      let found = slice_get-get_or p.is_cut.roots at.0 root at.1 ∙ ap Some at.2 in
      let own = p.are_tables.each p.is_cut at.0 root found in
      (own.table.growth, map names_in own.table.firings, own.is.is_table);
}

-- why a document is not run, by the refusal of its session
pub not_run_for : (document : DocumentData) (refused : SessionRefusal) → Declines (circuit_of document) refused → refused ≢ session.NoMemory → IsNotRun document (session_text document.nodes refused)
not_run_for document (session.Check refused) why named = ForCircuit refused why.0 why.1 refl
not_run_for document (session.TooLarge region count) why named = ForRegion region count why.0 why.1 refl
not_run_for document session.NoMemory why named = absurd (named refl)
