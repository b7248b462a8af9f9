-- What a sheet's numbers say: which slot and which parity column carries which symbol. Assumes nothing.
-- L is the burst length, k the symbols of a row, r the parity symbols of a slot. Rows, slots, symbols and columns are
-- numbered from 0, and slot t carries row t.
use Rattle.std.specs.Prelude.{ℕ, ◌+◌, ◌-◌, ◌*◌, ◌/◌, ◌%◌, cond, nat_le}
use Rattle.code.specs.declared.sheet.Sheet.{Sheet}

-- a packet has n = k + r symbols
abbrev pub n : Sheet → ℕ
n p = p.row + p.parity

-- the row of slot t falls due with slot t + T
abbrev pub T : Sheet → ℕ
T p = p.delay

-- symbol b of a row belongs to block 1, 2, 3 ..
abbrev pub block : Sheet → ℕ → ℕ
block p b = 1 + b / p.parity

-- .. and is carried so many slots after its row ..
abbrev pub lag : Sheet → ℕ → ℕ
lag p b = block p b * p.burst

-- .. by this slot, where j is its row ..
abbrev pub carrier : Sheet → ℕ → ℕ → ℕ
carrier p j b = j + lag p b

-- .. in this parity column.
abbrev pub column : Sheet → ℕ → ℕ
column p b = cond (nat_le p.parity p.row) (b % p.parity) ((p.parity - p.row) + b)
