-- What holds of the code, for every kind of symbol. Row j falls due with slot j + T. Assumes nothing.
use Rattle.std.specs.Prelude.{◌≡◌, ℕ, ◌+◌, ◌<◌, ◌≤◌, Bool, true, ◌≢◌, ◌⊎◌, List, length, Some}
use Rattle.kinds.specs.Kind.{Kind, total}
use Rattle.code.specs.declared.mark.Mark.TheVariants.{Lost}
use Rattle.code.specs.declared.sheet.Sheet.{Sheet}
use Rattle.code.specs.Sheets.{T, n, block, carrier, column}
use Rattle.code.specs.Packets.{Rows, carried, parity, packet}
use Rattle.code.specs.Mending.{History, heard, beside, mark, given}
use Rattle.code.specs.Bursts.{Missed, Bursts}

-- each slot up to t that arrived holds the packet of these rows
abbrev pub Holds : {S : Type 0} → Kind S → Sheet → Rows S → History S → ℕ → Type 0
Holds {S} K p rows h t = (s : ℕ) (q : List S) → s ≤ t → h s ≡ Some q → q ≡ packet K p rows s

pub record Theory {S : Type 0} (K : Kind S) (p : Sheet) : Type 0 where
  -- what is added can be taken away
  pub cancels : (x o : S) → K.difference (K.sum x o) o ≡ x
  -- The carrying slot of a symbol lies L to T slots after its row, its column is one of the r, and no other symbol of the row
  -- has both its block and its column: each symbol is carried exactly once, and by itself.
  pub no_sooner : (j b : ℕ) → j + p.burst ≤ carrier p j b
  pub no_later : (j b : ℕ) → b < p.row → carrier p j b ≤ j + T p
  pub in_packet : (b : ℕ) → b < p.row → column p b < p.parity
  pub apart : (a b : ℕ) → block p a ≡ block p b → column p a ≡ column p b → a ≡ b
  -- the parity is one symbol plus the others of its column
  pub plus_others : (rows : Rows S) (j b : ℕ) → b < p.row →
      parity K p rows (carrier p j b) (column p b)
      ≡ K.sum (rows j b) (total K (carried K p rows (carrier p j b) (beside p b) p.row))
  -- a packet has n symbols
  pub whole : (rows : Rows S) (t : ℕ) → length (packet K p rows t) ≡ n p
  -- The packet of slot t turns only on row t, and on the rows from t - T to t - L.
  pub looks_back : (rows rows' : Rows S) (t : ℕ) → ((b : ℕ) → b < p.row → rows t b ≡ rows' t b) →
      ((j b : ℕ) → b < p.row → j + p.burst ≤ t → t ≤ j + T p → rows j b ≡ rows' j b) →
      packet K p rows t ≡ packet K p rows' t
  -- A row's marks and symbols turn only on the slots from j + L - T to j + T.
  pub hears_back : (h h' : History S) (j b : ℕ) → b < p.row →
      ((s : ℕ) → j + p.burst ≤ s + T p → s ≤ j + T p → h s ≡ h' s) →
      (mark p (heard h) j b ≡ mark p (heard h') j b) × (given K p h j b ≡ given K p h' j b)
  -- A symbol that is due and not marked lost is the one that was sent ..
  pub sound : (rows : Rows S) (h : History S) (j b : ℕ) → b < p.row → Holds K p rows h (j + T p) →
      mark p (heard h) j b ≢ Lost → given K p h j b ≡ rows j b
  -- .. and the same in every list of rows that fits what arrived.
  pub determined : (rows rows' : Rows S) (h : History S) (j b : ℕ) → b < p.row →
      Holds K p rows h (j + T p) → Holds K p rows' h (j + T p) →
      mark p (heard h) j b ≢ Lost → rows' j b ≡ rows j b
  -- A symbol that is marked lost cannot be known: another list of rows has another symbol there, and the same packet in
  -- each slot, all those to come included, but for those that were missed.
  pub undetermined : (rows : Rows S) (arrived : ℕ → Bool) (j b : ℕ) → b < p.row → mark p arrived j b ≡ Lost →
      (rows' : Rows S) × (rows' j b ≢ rows j b)
      × ((s : ℕ) → (j + T p < s) ⊎ (arrived s ≡ true) → packet K p rows' s ≡ packet K p rows s)
  -- Where the misses among the first m slots come in bursts, nothing is lost of the rows that are due by then.
  pub bursts_mended : (arrived : ℕ → Bool) (m j b : ℕ) (group : ℕ → ℕ) → b < p.row → j + T p < m →
      Bursts p (Missed arrived m) group → mark p arrived j b ≢ Lost
