-- `desk_entry::bytes_of`: the bytes passed stand at the front.
use Rattle.std.proofs.Common.{ℕ, ◌+◌, take, set, length-set, refl, ap, ◌∙◌, arith}
use Rattle.desk_entry.specs.Octets.{octets}
use Rattle.desk_entry.proofs.Octets.{octets_more, is_byte}
use Rattle.desk_entry.proofs.bytes_of.Goals as goal

pub loop-k-init : goal.loop-k-init
unfolding octets
loop-k-init c = (refl, refl)

pub octet_at-requires-clause-octet : goal.octet_at-requires-clause-octet
octet_at-requires-clause-octet c = is_byte c.args.value.now c.args.n c.loop-k.k c.requires.each c.loop-k-test.true

pub loop-k-preserved : goal.loop-k-preserved
loop-k-preserved c = (
  length-set c.loop-k.bytes c.loop-k.k _ ∙ c.loop-k.invariant.0,
  ap (λ (b : ℕ). take (c.loop-k.k + 1) (set c.loop-k.bytes c.loop-k.k b)) c.octet_at.ensures
      ∙ octets_more c.args.value.now c.loop-k.k c.loop-k.bytes (omega (arith, c.loop-k-test.true, c.requires.few, c.loop-k.invariant.0)) c.loop-k.invariant.1,
)
