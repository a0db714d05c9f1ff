-- Printed bytes one after the other, and how many bytes their lines have.
-- Assumes nothing.
use mathlib.Core.Path.{◌≡◌, refl, sym, ap, ◌∙◌}
use mathlib.Core.Bool.{Bool, true, false}
use mathlib.Core.List.{List, [], ◌∷◌, ◌++◌, append-nil, append_assoc}
use Prim.Native.Nat.{ℕ, zero, suc, ◌+◌, ◌*◌, ◌^◌, ◌≤◌, ◌<◌}
use native.Mathlib.Numerals.{add-one}
use native.Mathlib.Omega.{arith}
use lib.Dec.{eqb}
use lib.ListN.{length, get_or, take, length-append}
use lib.Seq.{take-suc}
use borrow.Author.Tests.{ne_eqb}
use Rattle.characters.specs.Ascii.{ascii, line_feed}
use Rattle.page.specs.Text.{octal, decimal_in, decimal}
use Rattle.page.proofs.Numbers.{octal_length, decimal_length}
use Rattle.desk_exchange.specs.Exchange.{read_line, octet, octets_from, printed_line, exchange_lines}
use Rattle.desk_exchange.specs.Sizes.{read_line_bytes, octet_bytes, printed_line_bytes}

-- ---- one byte more

-- whether the byte behind some is the first
abbrev first_of : Bool → List ℕ → Bool
first_of first [] = first
first_of first (b ∷ l) = false

octets_snoc : (first : Bool) (l : List ℕ) (b : ℕ) → octets_from first (l ++ b ∷ []) ≡ octets_from first l ++ octet (first_of first l) b
unfolding octets_from
octets_snoc first [] b = append-nil (octet first b)
octets_snoc first (x ∷ []) b =
    ap (λ (t : List ℕ). octet first x ++ t) (append-nil (octet false b)) ∙ sym (ap (λ (t : List ℕ). t ++ octet false b) (append-nil (octet first x)))
octets_snoc first (x ∷ y ∷ l) b =
    ap (λ (t : List ℕ). octet first x ++ t) (octets_snoc false (y ∷ l) b) ∙ sym (append_assoc (octet first x) (octets_from false (y ∷ l)) (octet false b))

first_taken : (l : List ℕ) (k : ℕ) → k < length l → first_of true (take k l) ≡ eqb k 0
first_taken l zero h = refl
first_taken [] (suc k) h = absurd (omega arith)
first_taken (b ∷ l) (suc k) h = sym (ne_eqb (suc k) 0 (λ e. omega arith))

pub octets_more : (l : List ℕ) (k : ℕ) → k < length l → octets_from true (take (k + 1) l) ≡ octets_from true (take k l) ++ octet (eqb k 0) (get_or l k 0)
octets_more l k h =
    ap (λ (n : ℕ). octets_from true (take n l)) (add-one k)
    ∙ ap (octets_from true) (take-suc l k 0 h)
    ∙ octets_snoc true (take k l) (get_or l k 0)
    ∙ ap (λ (t : Bool). octets_from true (take k l) ++ octet t (get_or l k 0)) (first_taken l k h)

-- the line by its parts
pub printed_lem : (l : List ℕ) → printed_line l ≡ ascii "printed\t" ++ (octets_from true l ++ line_feed ∷ [])
unfolding printed_line
printed_lem l = append_assoc (ascii "printed\t") (octets_from true l) (line_feed ∷ [])

-- ---- sizes

pub octet_size : (first : Bool) (b : ℕ) → length (octet first b) ≤ octet_bytes
octet_size true b = omega (arith, octal_length 3 b)
octet_size false b = omega (arith, octal_length 3 b)

octets_size : (first : Bool) (l : List ℕ) → length (octets_from first l) ≤ octet_bytes * length l
unfolding octets_from
octets_size first [] = omega arith
octets_size first (b ∷ l) =
    let one = octet_size first b in
    let rest = octets_size false l in
    let whole = length-append (octet first b) (octets_from false l) in
    omega arith

pub printed_size : (l : List ℕ) → length (printed_line l) ≤ printed_line_bytes + octet_bytes * length l
unfolding printed_line
printed_size l = let bytes = octets_size true l in simp length-append (omega arith)

pub read_size : (n : ℕ) → n < 10 ^ 20 → length (read_line n) ≤ read_line_bytes
unfolding read_line
read_size n h = let digits = decimal_length 19 n h in simp length-append (omega arith)

pub exchange_size : (n : ℕ) (l : List ℕ) → n < 10 ^ 20 → length (exchange_lines n l) ≤ read_line_bytes + printed_line_bytes + octet_bytes * length l
unfolding exchange_lines
exchange_size n l h =
    let first = read_size n h in
    let then = printed_size l in
    let whole = length-append (read_line n) (printed_line l) in
    omega arith

-- ---- as they are written

pub written_lines : exchange_lines 2 (0o110 ∷ 0o1 ∷ 0o377 ∷ []) ++ exchange_lines 0 [] ≡ ascii "read\t2\nprinted\t110 001 377\nread\t0\nprinted\t\n"
unfolding octal decimal read_line octets_from printed_line exchange_lines decimal_in
written_lines = refl
