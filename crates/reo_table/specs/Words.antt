-- What is true of the shared words, and how they are when they are made.
use Rattle.std.specs.Prelude.{◌≡◌, ℕ, ◌+◌, ◌*◌, ◌≤◌, length}
use Rattle.atomic_table.specs.Seated.{TableId}
use Rattle.reo_fabric.specs.declared.fabric.Fabric.{Fabric}
use Rattle.reo_fabric.specs.Fabric.{IsLawfulFabric}
use Rattle.reo_coupling.specs.Opening.{first_root}
use Rattle.reo_table.specs.declared.rule.Key.{Key}
use Rattle.reo_table.specs.Plays.{setting_of}
use Rattle.reo_table.specs.Shared.{WordsState, RootState}

abbrev pub words_state : TableId → Key → WordsState
words_state id key = record { id = id; setting = setting_of key }

-- one word, a word for each region and each cell, two for each port, and no slot; and room for what is in each cell
pub record IsWords (id : TableId) (key : Key) (regions cells spare : ℕ) : Type 0 where
  pub lawful : IsLawfulFabric key.fabric.value
  pub limit : key.limit ≤ 100000
  pub regions_are : regions ≡ key.fabric.value.regions
  pub cells_are : cells ≡ length key.fabric.value.cells
  pub words : id.words ≡ 1 + key.fabric.value.regions + length key.fabric.value.cells + 2 * length key.fabric.value.ports
  pub slots : id.slots ≡ 0
  pub room : spare ≡ length key.fabric.value.cells

-- Words of this fabric and limit, and their root, which gave away no seat yet.
pub record Opened (fabric : Fabric) (limit : ℕ) (words : WordsState) (root : RootState) : Type 0 where
  pub setting : words.setting ≡ record { fabric = fabric; limit = limit }
  pub same : root.id ≡ words.id
  pub view : root.view ≡ first_root words.setting
