-- What is true of a region's seat.
use Rattle.std.specs.Prelude.{◌≡◌, ℕ, ◌+◌, ◌<◌, ◌≤◌, ◌^◌, []}
use Rattle.atomic_table.specs.Table.{Me}
use Rattle.reo_coupling.specs.declared.view.View.{View}
use Rattle.reo_coupling.specs.declared.view.View.TheVariants.{Root, Region, Party}
use Rattle.reo_coupling.specs.declared.view.Stage.{Stage}
use Rattle.reo_coupling.specs.declared.view.Stage.TheVariants.{UnderWay, Cleared}
use Rattle.reo_table.specs.declared.clock.Clock.{Clock}
use Rattle.reo_table.specs.declared.clock.Clock.TheVariants.{Clear, AtLimit}
use Rattle.reo_table.specs.Plays.{root_of, region_of, party_of}

pub record IsRegionSeat {S : Type 0} (words : ℕ) (me : Me S View) (region round limit last : ℕ) : Type 0 where
  pub view : me.0 ≡ Region (region_of me.0)
  pub no_slot : me.1 ≡ []
  pub region_is : region ≡ (region_of me.0).cells.region
  pub round_is : round ≡ (region_of me.0).cells.round
  pub limit_is : limit ≡ (region_of me.0).cells.limit
  pub last_is : last ≡ (region_of me.0).ports.last
  pub few : last < 2 ^ 62
  -- there is a word for its round
  pub within : 1 + region < words

-- The root's seat: none came home to it yet.
pub record IsRootSeat {S : Type 0} (me : Me S View) (limit : ℕ) : Type 0 where
  pub view : me.0 ≡ Root (root_of me.0)
  pub limit_is : limit ≡ (root_of me.0).limit
  pub no_region : (root_of me.0).regions_home ≡ []
  pub no_party : (root_of me.0).parties_home ≡ []

pub record IsPartySeat {S : Type 0} (me : Me S View) : Type 0 where
  pub view : me.0 ≡ Party (party_of me.0)
  pub no_slot : me.1 ≡ []

-- what the commit word allows where it is this one
abbrev pub word_of_clock : Clock → ℕ
word_of_clock (Clear word) = word
word_of_clock (AtLimit word) = word

-- it is clear just where the word is below the limit
abbrev pub IsTold : ℕ → Clock → Type 0
IsTold limit (Clear word) = word < limit
IsTold limit (AtLimit word) = limit ≤ word

-- the region is cleared where the answer is so
abbrev pub stage_told : Clock → Stage
stage_told (Clear word) = Cleared
stage_told (AtLimit word) = UnderWay
