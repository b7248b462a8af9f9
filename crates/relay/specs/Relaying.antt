-- What `mend` prints for what `send` prints of a list of rows, where any slots are missed on the way. Assumes nothing.
use Rattle.std.specs.Prelude.{◌≡◌, ℕ, ◌+◌, ◌<◌, ◌≤◌, Bool, false, cond, not, ◌&&◌, ◌≢◌, ◌⊎◌, List, [], ◌∷◌, ◌++◌, length, Some, None, nat_lt, slice_index_or, All}
use Rattle.std.specs.List.{flat_map}
use Rattle.kinds.specs.Kind.{Kind}
use Rattle.kinds.specs.Form.{Form}
use Rattle.code.specs.declared.mark.Mark.TheVariants.{Lost}
use Rattle.code.specs.declared.sheet.Sheet.{Sheet}
use Rattle.code.specs.Sheets.{T}
use Rattle.code.specs.Packets.{Rows, packet}
use Rattle.code.specs.Mending.{History, heard, mark, given, row_of}
use Rattle.code.specs.Bursts.{Missed, Bursts}
use Rattle.code.specs.Refusals.{top_slots}
use Rattle.transmit.specs.Law.{list_of}
use Rattle.lines.specs.declared.header.SymbolKind.{SymbolKind}
use Rattle.lines.specs.Lines.{ended, header_line, row_line, missed_line}
use Rattle.stream.specs.Lines.{lines_of}
use Rattle.runs.specs.Whole.{SymbolOf, sums_of, form_of}
use Rattle.sending.specs.Text.{send_text}
use Rattle.mending.specs.Printing.{tally_text}
use Rattle.mending.specs.Text.{mend_text, rows_text, tally_after}

-- lines as a text: byte 10 ends each
abbrev pub text_of : List (List ℕ) → List ℕ
text_of lines = flat_map ended lines

-- the R lines of these rows, numbered from t on
abbrev pub row_lines : {S : Type 0} → Form S → ℕ → List (List S) → List (List ℕ)
row_lines F t [] = []
row_lines F t (row ∷ rows) = row_line F t row ∷ row_lines F (t + 1) rows

-- the lines of a list of rows: the H line, and the rows from row 0 on
abbrev pub list_lines : (kind : SymbolKind) → Sheet → List (List (SymbolOf kind)) → List (List ℕ)
list_lines kind p rows = header_line kind p ∷ row_lines (form_of kind) 0 rows

-- the lines of the slots from slot t on, where a missed slot has its M line instead
abbrev pub turned : (ℕ → Bool) → ℕ → List (List ℕ) → List (List ℕ)
turned missed t [] = []
turned missed t (line ∷ lines) = cond (missed t) (missed_line t) line ∷ turned missed (t + 1) lines

-- the first line stays, and slot 0 is on the second
abbrev pub hall_lines : (ℕ → Bool) → List (List ℕ) → List (List ℕ)
hall_lines missed [] = []
hall_lines missed (first ∷ lines) = first ∷ turned missed 0 lines

-- the text that leaves the hall in which these slots are missed
abbrev pub hall : (ℕ → Bool) → List ℕ → List ℕ
hall missed text = text_of (hall_lines missed (lines_of text))

-- what arrives: the packet of each slot of these rows, and of their tail, that is not missed
abbrev pub arriving : {S : Type 0} → Kind S → Sheet → List (List S) → (ℕ → Bool) → History S
arriving K p rows missed s =
    cond (nat_lt s (length rows + T p) && not (missed s)) (Some (packet K p (list_of K rows) s)) None

module _ (kind : SymbolKind) (p : Sheet) (rows : List (List (SymbolOf kind))) (missed : ℕ → Bool) where
  -- the rows that are sent, with zeros everywhere else ..
  abbrev pub sent : Rows (SymbolOf kind)
  sent = list_of (sums_of kind) rows

  -- .. what arrives of their packets ..
  abbrev pub came : History (SymbolOf kind)
  came = arriving (sums_of kind) p rows missed

  -- .. and in how many slots they are sent
  abbrev pub slots : ℕ
  slots = length rows + T p

  -- What the hall makes of what `send` prints for these rows, `mend` reads without a fault, and its rows obey the law.
  pub record Relayed : Type 0 where
    -- `mend` prints a W, N or L line for each row and then the E line, all as they follow from what arrives
    pub prints : mend_text (hall missed (send_text (text_of (list_lines kind p rows))))
        ≡ rows_text (sums_of kind) (form_of kind) p came slots
        ++ tally_text (tally_after (sums_of kind) (form_of kind) p came slots)
    -- a symbol that is not marked lost is the one that was sent
    pub own : (j b : ℕ) → j < length rows → b < p.row → mark p (heard came) j b ≢ Lost →
        given (sums_of kind) p came j b ≡ sent j b
    -- a symbol that is marked lost cannot be known: other rows have another symbol there, and the same packet in each slot, all
    -- those after slot j + T included, but for those that were missed
    pub undetermined : (j b : ℕ) → j < length rows → b < p.row → mark p (heard came) j b ≡ Lost →
        (rows' : Rows (SymbolOf kind)) × (rows' j b ≢ sent j b)
        × ((s : ℕ) → (j + T p < s) ⊎ (missed s ≡ false) → packet (sums_of kind) p rows' s ≡ packet (sums_of kind) p sent s)
    -- where the misses come in bursts, no symbol is lost
    pub bursts : (group : ℕ → ℕ) → Bursts p (Missed (heard came) slots) group → (j b : ℕ) → j < length rows → b < p.row →
        mark p (heard came) j b ≢ Lost
    -- and every row is handed out as it was sent
    pub as_sent : (group : ℕ → ℕ) → Bursts p (Missed (heard came) slots) group → (j : ℕ) → j < length rows →
        row_of (sums_of kind) p came j ≡ slice_index_or rows j []

-- so it is with every list of rows that has slots enough, whatever slots are missed
abbrev pub Relays : Type 0
Relays = (kind : SymbolKind) (p : Sheet) (rows : List (List (SymbolOf kind))) (missed : ℕ → Bool) →
    All (λ row. length row ≡ p.row) rows → length rows + T p ≤ top_slots → Relayed kind p rows missed
