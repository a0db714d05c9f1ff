-- What a read comes to, where the chunk is the bytes that it read, and the answer is the read's.
-- Assumes nothing.
use Rattle.std.proofs.Common.{◌≡◌, ℕ, List}
use Rattle.std.specs.Prelude.{Result}
use Rattle.desk_image.specs.Pass.{Passed}
use Rattle.desk_image.specs.Read.{bytes_read, AfterRead}

pub after_read : {S E : Type 0} (step : S → ℕ → S) (start s t : S) (read answer : Result ℕ E) (buffer chunk : List ℕ) → answer ≡ read → chunk ≡ bytes_read read buffer
    → Passed step start s chunk t → AfterRead step start s read buffer t answer
after_read step start s t read answer buffer chunk same size p = record { passed = rw size at p; same = same }
