-- A pass over a text: in two parts, and by one byte, as a loop over the bytes goes.
-- Assumes nothing.
use Rattle.std.proofs.Common.{◌≡◌, ℕ, ◌+◌, ◌<◌, ◌≤◌, List, [], ◌∷◌, ◌++◌, length, get_or, drop, sym, refl, ap, ◌∙◌, add-one, drop_of_length-le, drop-cons}
use Rattle.desk_image.specs.Pass.{pass, Passed}

module _ {S : Type 0} (step : S → ℕ → S) where
  pub pass_append : (s : S) (text more : List ℕ) → pass step s (text ++ more) ≡ pass step (pass step s text) more
  unfolding pass
  pass_append s [] more = refl
  pass_append s (b ∷ text) more = pass_append (step s b) text more

  -- with all bytes read
  pub pass_end : (s : S) (text : List ℕ) (i : ℕ) → length text ≤ i → pass step s (drop i text) ≡ s
  unfolding pass
  pass_end s text i h = rw (drop_of_length-le text h)

  -- with one byte more read
  pub pass_on : (s t : S) (text : List ℕ) (i : ℕ) → i < length text → t ≡ step s (get_or text i 0)
      → pass step s (drop i text) ≡ pass step t (drop (i + 1) text)
  unfolding pass
  pass_on s t text i h e = rw (add-one i, drop-cons text i 0 h, e)

  -- a text that goes on
  pub passed : (start s t : S) (chunk : List ℕ) → t ≡ pass step s chunk → Passed step start s chunk t
  passed start s t chunk p =
      record {
        every = p;
        goes_on = λ text e. p ∙ ap (λ (x : S). pass step x chunk) e ∙ sym (pass_append start text chunk);
      }
