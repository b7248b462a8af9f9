-- What a writer answers, and what it leaves in its place. Assumes nothing.
use Rattle.std.specs.Prelude.{◌≡◌, ℕ, ◌+◌, ◌*◌, ◌^◌, Bool, false, cond, not, ◌||◌, List, Some, None, Ok, Err, Option, Result, ◌==◌, nat_le, nat_lt}
use Rattle.lines.specs.declared.write.WriteRefusal.{WriteRefusal}
use Rattle.lines.specs.declared.write.WriteRefusal.TheVariants.{Number, Length, Place}

-- the refusal's number
abbrev pub write_number : WriteRefusal → ℕ
write_number Number = 5
write_number Length = 13
write_number Place = 14

-- By the first refusal that holds, the place keeps what it had; where none does, it holds the text.
abbrev pub Wrote : Option WriteRefusal → List ℕ → List ℕ → Result (Unit {0}) WriteRefusal → List ℕ → Type 0
Wrote (Some e) text before answer after = (answer ≡ Err e) × (after ≡ before)
Wrote None text before answer after = (answer ≡ Ok tt) × (after ≡ text)

-- the first refusal that holds: a number is above its top, a list is not of the length that it needs, the place is not
abbrev pub first_refused : Bool → Bool → Bool → Option WriteRefusal
first_refused number len place = cond number (Some Number) (cond len (Some Length) (cond place (Some Place) None))

-- a place of this many bytes is not of the length that is needed
abbrev pub wrong : ℕ → ℕ → Bool
wrong needed len = not (len == needed)

-- a field of this width has no room for the number, or is not 1 to 8 columns wide
abbrev pub field_refused : ℕ → ℕ → Option WriteRefusal
field_refused width number = first_refused (nat_le (10 ^ width) number) false (nat_lt width 1 || nat_lt 8 width)

-- a header has 15 bytes
abbrev pub header_refused : ℕ → Option WriteRefusal
header_refused place = first_refused false false (wrong 15 place)

-- a line of a number up to 999,999 and `count` symbols, of which `len` are handed in
abbrev pub symbols_refused : ℕ → ℕ → ℕ → ℕ → ℕ → Option WriteRefusal
symbols_refused width count number len place =
    first_refused (nat_lt 999999 number) (wrong count len) (wrong (10 + count * width) place)

-- the same, with the marks of the symbols
abbrev pub due_refused : ℕ → ℕ → ℕ → ℕ → ℕ → ℕ → Option WriteRefusal
due_refused width count number len marks place =
    first_refused (nat_lt 999999 number) (wrong count len || wrong count marks) (wrong (10 + count * width) place)

-- a line of a number up to 999,999 alone
abbrev pub missed_refused : ℕ → ℕ → Option WriteRefusal
missed_refused number place = first_refused (nat_lt 999999 number) false (wrong 10 place)

-- the four counts of a tally go up to 1,000,000
abbrev pub tally_refused : ℕ → ℕ → ℕ → ℕ → ℕ → Option WriteRefusal
tally_refused slots whole mended lost place =
    first_refused (nat_lt 1000000 slots || (nat_lt 1000000 whole || (nat_lt 1000000 mended || nat_lt 1000000 lost))) false (wrong 34 place)

-- the tops of a fault's numbers are all nines
abbrev pub fault_refused : ℕ → ℕ → ℕ → ℕ → Option WriteRefusal
fault_refused line refusal position place =
    first_refused (nat_lt 99999999 line || (nat_lt 9999 refusal || nat_lt 9999 position)) false (wrong 18 place)
