-- Reads, one after the other.
-- Assumes nothing.
use Rattle.std.proofs.Common.{ℕ, List, [], ◌++◌, sym, refl, ap, ◌∙◌}
use Rattle.std.specs.Prelude.{Option, Some, None}
use Rattle.std.specs.Io.KnownBytes.{Consumes}
use Rattle.std.proofs.KnownBytes.{Consumes-trans}
use Rattle.desk_image.specs.Pass.{pass}
use Rattle.desk_image.proofs.Pass.{pass_append}
use Rattle.desk_streams.specs.Scans.{Scans}

-- where nothing is read, no byte is consumed
consumes_none : (known : Option (List ℕ)) → Consumes known known []
consumes_none None = tt
consumes_none (Some xs) = refl

module _ {S : Type 0} (step : S → ℕ → S) where
  pub scans_none : (s : S) (known : Option (List ℕ)) → Scans step s s known known
  unfolding pass
  scans_none s known = record { bytes = []; consumed = consumes_none known; passed = refl }

  pub scans_more : (s t u : S) (a b c : Option (List ℕ)) → Scans step s t a b → Scans step t u b c → Scans step s u a c
  scans_more s t u a b c p q =
      record {
        bytes = p.bytes ++ q.bytes;
        consumed = Consumes-trans a b c p.bytes q.bytes p.consumed q.consumed;
        passed = q.passed ∙ ap (λ (x : S). pass step x q.bytes) p.passed ∙ sym (pass_append step s p.bytes q.bytes);
      }
