-- One read, as it is answered: how many bytes it put at the start of a buffer, 0 at the end of the input, or why it failed.
-- Assumes nothing.
use Rattle.std.specs.Prelude.{◌≡◌, ℕ, List, [], take, Result, Ok, Err}
use Rattle.desk_image.specs.Pass.{Passed}

-- the bytes that it read
abbrev pub bytes_read : {E : Type 0} → Result ℕ E → List ℕ → List ℕ
bytes_read (Ok n) buffer = take n buffer
bytes_read (Err e) buffer = []

-- what a read comes to: the bytes read are the next chunk of the text, and no other byte of the buffer is; whether the input may go on and whether it failed is as the read says
pub record AfterRead {S E : Type 0} (step : S → ℕ → S) (start s : S) (read : Result ℕ E) (buffer : List ℕ) (t : S) (answer : Result ℕ E) : Type 0 where
  pub passed : Passed step start s (bytes_read read buffer) t
  pub same : answer ≡ read
