-- A line is read to a value exactly when the value is written to that line. Assumes nothing.
use Rattle.std.specs.Prelude.{◌≡◌, ℕ, ◌≤◌, List, length, Ok}
use Rattle.kinds.specs.Form.{Form}
use Rattle.code.specs.Sheets.{n}
use Rattle.code.specs.declared.sheet.Sheet.{Sheet}
use Rattle.lines.specs.declared.header.Header.{Header}
use Rattle.lines.specs.Lines.{header_line, row_line, packet_line, missed_line}
use Rattle.text.specs.Reading.{header_read, row_read, packet_read, missed_read}

-- each of the two facts gives the other
abbrev pub Exactly : Type 0 → Type 0 → Type 0
Exactly P Q = (P → Q) × (Q → P)

-- of H lines
abbrev pub HeaderInverse : Type 0
HeaderInverse = (line : List ℕ) (h : Header) → Exactly (header_read line ≡ Ok h) (line ≡ header_line h.kind h.sheet)

-- the line has a number up to 999,999 and so many symbols, and is written so
abbrev pub WrittenSo : {S : Type 0} → ℕ → ℕ → List S → List ℕ → List ℕ → Type 0
WrittenSo count number symbols written line = (number ≤ 999999) × (length symbols ≡ count) × (line ≡ written)

-- of R lines
abbrev pub RowInverse : {S : Type 0} → Form S → Sheet → Type 0
RowInverse {S} F p =
    (next : ℕ) (line : List ℕ) (row : List S) →
    Exactly (row_read F p next line ≡ Ok row) (WrittenSo p.row next row (row_line F next row) line)

-- of A lines
abbrev pub PacketInverse : {S : Type 0} → Form S → Sheet → Type 0
PacketInverse {S} F p =
    (next : ℕ) (line : List ℕ) (packet : List S) →
    Exactly (packet_read F p next line ≡ Ok packet) (WrittenSo (n p) next packet (packet_line F next packet) line)

-- of M lines
abbrev pub MissedInverse : Type 0
MissedInverse = (next : ℕ) (line : List ℕ) → Exactly (missed_read next line ≡ Ok tt) ((next ≤ 999999) × (line ≡ missed_line next))
