-- `desk_entry::are_octets`: those passed are bytes, or not.
use Rattle.std.proofs.Common.{◌&&◌, refl, sym, ap₂, ◌∙◌}
use Rattle.desk_entry.specs.Octets.{are_octets}
use Rattle.desk_entry.proofs.Octets.{are_more}
use Rattle.desk_entry.proofs.are_octets.Goals as goal

pub loop-k-init : goal.loop-k-init
unfolding are_octets
loop-k-init c = refl

pub loop-k-preserved : goal.loop-k-preserved
loop-k-preserved c = ap₂ (λ a b. a && b) c.loop-k.invariant c.is_octet-fit.ensures ∙ sym (are_more c.args.value.now c.loop-k.k)
