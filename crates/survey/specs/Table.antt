-- The first k maps in tables: the coefficients of each, and its constant.
-- Assumes nothing.
use Rattle.std.specs.Prelude.{◌≡◌, ℕ, ◌<◌, List, [], length, get_or}
use Rattle.field.specs.Maps.{coefficients_of}
use Rattle.rules.specs.declared.types.AffineMap.{AffineMap}
use Rattle.verdict.specs.Meaning.{map_at}

-- the coefficients of the maps below k
pub record Listed (m : ℕ) (maps : List AffineMap) (lists : List (List ℕ)) (k : ℕ) : Type 0 where
  pub size : length lists ≡ 8
  pub rows : (f : ℕ) → f < k → get_or lists f [] ≡ coefficients_of m (map_at maps f).columns

-- the constants of the maps below k
pub record Constants (maps : List AffineMap) (constants : List ℕ) (k : ℕ) : Type 0 where
  pub size : length constants ≡ 8
  pub entries : (f : ℕ) → f < k → get_or constants f 0 ≡ (map_at maps f).constant
