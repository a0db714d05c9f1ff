-- What the code promises of working an address out.
-- Assumes nothing.
use Rattle.std.specs.Prelude.{◌≡◌, List, ℕ}
use Rattle.machine_reference.specs.Address.{effective, after_indexing}

-- the address, and the memory that it leaves
pub record Addressed (i last : ℕ) (before after : List ℕ) (e : ℕ) : Type 0 where
  pub address : e ≡ effective i last before
  pub memory : after ≡ after_indexing i last before
