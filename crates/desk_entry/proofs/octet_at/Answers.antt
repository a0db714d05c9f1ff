-- `desk_entry::octet_at`: a byte has eight bits.
use native.Mathlib.Omega.{arith}
use mathlib.Core.Bool.{◌&&◌}
use Prim.Native.Nat.{◌+◌, ◌^◌}
use lib.Dec.{eqb}
use lib.ListN.{get_or}
use borrow.Author.Tests.{ltb-true}
use Rattle.word.specs.Word.{fits}
use Rattle.laws.proofs.Joined.{and_left, and_right}
use Rattle.characters.specs.Characters.{run_end}
use Rattle.characters.specs.declared.Class.TheVariants.{Octal}
use Rattle.devices.specs.Devices.{byte_bits}
use Rattle.desk_entry.specs.Octets.{space, octet_at}
use Rattle.desk_entry.proofs.octet_at.Goals as goal

pub overflow_cast-result : goal.overflow_cast-result
overflow_cast-result c = let digits = eqb (run_end Octal c.args.value.now c.args.at) (c.args.at + 3) in
    let narrow = fits byte_bits (octet_at c.args.value.now c.args.at) in
    let both = and_left (digits && narrow) (eqb (get_or c.args.value.now (c.args.at + 3) space) space) c.requires.octet in
    omega (arith, c.digits_value.ensures, ltb-true (octet_at c.args.value.now c.args.at) (2 ^ byte_bits) (and_right digits narrow both))
