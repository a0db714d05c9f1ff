-- The C interface's version.
-- Assumes nothing.
use Rattle.std.specs.Prelude.{ℕ}

-- "GUAVACHISEL_VERSION": counts up with every change that a caller has to be compiled anew for
abbrev pub version : ℕ
version = 3
