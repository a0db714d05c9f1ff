-- `machine_console::instructions::or_byte`: the or of two bytes is a byte.
use Prim.Native.Nat.{◌%◌}
use native.Mathlib.Omega.{arith}
use lib.Bits.{or_lt}
use Rattle.machine_console.proofs.Words.{byte_or}
use Rattle.machine_console.proofs.instructions.or_byte.Goals as goal

pub overflow_add-result : goal.overflow_add-result
overflow_add-result c = let h = or_lt 8 (c.args.lac % 256) c.args.byte (omega arith) c.requires in
    omega (arith, h)

pub returns : goal.returns
returns c = byte_or c.args.lac c.args.byte c.requires
