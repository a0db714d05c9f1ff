-- What a reader gave, scanned: where the bytes that it has left are known, those that it lost are the ones that were scanned, and no others.
-- Assumes nothing.
use Rattle.std.specs.Prelude.{◌≡◌, ℕ, List, Option}
use Rattle.std.specs.Io.KnownBytes.{Consumes}
use Rattle.desk_image.specs.Pass.{pass}

-- from what was kept and left before the reads to what is after them
pub record Scans {S : Type 0} (step : S → ℕ → S) (s t : S) (old new : Option (List ℕ)) : Type 0 where
  pub bytes : List ℕ
  pub consumed : Consumes old new bytes
  pub passed : t ≡ pass step s bytes
