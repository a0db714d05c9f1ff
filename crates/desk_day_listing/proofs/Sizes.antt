-- A step's line by its parts, and how many bytes it has.
-- Assumes nothing.
use mathlib.Core.Path.{◌≡◌}
use Prim.Native.Nat.{ℕ, ◌≤◌, ◌<◌}
use native.Mathlib.Omega.{arith}
use lib.ListN.{length, length-append}
use Rattle.page.specs.Text.{octal, decimal}
use Rattle.desk_day_listing.specs.Listing.{step_line}
use Rattle.desk_day_listing.specs.Stepped.{step_line_bytes}
use Rattle.page.proofs.Numbers.{octal_length, decimal_length}

-- the numbers of a step's line
pub record Sizes (n pc i lac run : ℕ) : Type 0 where
  pub count : length (decimal n) ≤ 2
  pub address : length (octal 4 pc) ≡ 4
  pub word : length (octal 4 i) ≡ 4
  pub accumulator : length (octal 5 lac) ≡ 5
  pub flag : length (octal 1 run) ≡ 1

pub field_sizes : (n pc i lac run : ℕ) → n < 100 → Sizes n pc i lac run
field_sizes n pc i lac run h =
    record { count = decimal_length 1 n h; address = octal_length 4 pc; word = octal_length 4 i; accumulator = octal_length 5 lac; flag = octal_length 1 run }

pub step_line_size : (n pc i lac run : ℕ) → n < 100 → length (step_line n pc i lac run) ≤ step_line_bytes
unfolding step_line
step_line_size n pc i lac run h = let sizes = field_sizes n pc i lac run h in simp length-append (omega arith)
