-- What the functions that write promise of the page that they write to. A page is the list of its bytes. A reader need not believe this.
-- Assumes nothing.
use Rattle.std.specs.Prelude.{◌≡◌, List, ℕ, ◌+◌, length}
use Rattle.std.proofs.lemmas.List.Edits.{sets}

-- a text stands on the page from a place on, to the place `end`; all else on the page is as it was
pub record Written (text before : List ℕ) (at : ℕ) (after : List ℕ) (end : ℕ) : Type 0 where
  pub page : after ≡ sets before at text
  pub place : end ≡ at + length text
