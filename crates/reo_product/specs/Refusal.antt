-- Words that mirror the code: the refusal of a web as that of a region.
use Rattle.std.specs.Prelude.{ℕ}
use Rattle.reo_growth.specs.declared.table.TableRefusal.{TableRefusal}
use Rattle.reo_growth.specs.declared.table.TableRefusal.TheVariants.{TooLarge, NoMemory}
use Rattle.reo_product.specs.declared.table.ProductRefusal.{ProductRefusal}
use Rattle.reo_product.specs.declared.table.ProductRefusal.TheVariants.{TooLarge as RegionTooLarge, NoMemory as RegionNoMemory}

abbrev pub refusal_of : ℕ → TableRefusal → ProductRefusal
refusal_of region (TooLarge count) = RegionTooLarge region count
refusal_of region NoMemory = RegionNoMemory
