-- Both programs, one after the other.
use Rattle.std.proofs.Common.{◌≡◌, ℕ, ◌+◌, ◌≤◌, Bool, List, ◌∷◌, ◌++◌, map, length, Ok, refl, ap, ◌∙◌, arith}
use Rattle.std.specs.List.{range_with_len, All}
use Rattle.std.proofs.lemmas.List.Elements.{recursion_from_All}
use Rattle.code.specs.declared.sheet.Sheet.{Sheet}
use Rattle.code.specs.Sheets.{T}
use Rattle.code.specs.Refusals.{top_slots}
use Rattle.transmit.specs.Law.{list_of}
use Rattle.lines.specs.declared.header.Header.{Header}
use Rattle.lines.specs.declared.header.SymbolKind.{SymbolKind}
use Rattle.lines.specs.Lines.{ended, header_line}
use Rattle.text.specs.Reading.{header_read}
use Rattle.text.proofs.HeaderInverse.{header_inverse}
use Rattle.runs.specs.Whole.{SymbolOf, sums_of, form_of}
use Rattle.sending.specs.Text as send
use Rattle.mending.specs.Text as mend
use Rattle.mending.specs.Printing.{tally_text}
use Rattle.relay.specs.Relaying.{text_of, row_lines, list_lines, hall_lines, hall, arriving, Relayed, Relays}
use Rattle.relay.proofs.Unended.{of_header, of_rows, lines_back}
use Rattle.relay.proofs.Relaid.{rows_read, slot_line, all_slots, slots_unended, hall_line, hall_unended, turned_is, slots_read, mend_prints}
use Rattle.relay.proofs.Obeys.{own, undetermined, bursts, as_sent}

module _ (kind : SymbolKind) (p : Sheet) (rows : List (List (SymbolOf kind))) (missed : ℕ → Bool)
    (fit : All (λ row. length row ≡ p.row) rows) (few : length rows + T p ≤ top_slots)
  where
    abbrev header : Header
    header = record { kind = kind; sheet = p }

    header_reads : header_read (header_line kind p) ≡ Ok header
    header_reads = (header_inverse (header_line kind p) header).1 refl

    -- the A lines of all slots
    abbrev slot_lines : List (List ℕ)
    slot_lines = map (slot_line (sums_of kind) (form_of kind) p (list_of (sums_of kind) rows)) (range_with_len 0 (length rows + T p))

    -- and what the hall makes of them
    abbrev relaid_lines : List (List ℕ)
    relaid_lines = map (hall_line (sums_of kind) (form_of kind) p (list_of (sums_of kind) rows) missed) (range_with_len 0 (length rows + T p))

    sends : send.send_text (text_of (list_lines kind p rows)) ≡ text_of (header_line kind p ∷ slot_lines)
    sends =
        ap send.lines_text (lines_back (list_lines kind p rows) (of_header kind p, of_rows (form_of kind) 0 rows))
        ∙ (ap (λ x. send.headed_text x (row_lines (form_of kind) 0 rows)) header_reads
        ∙ (ap (λ x. ended (header_line kind p) ++ send.list_text (sums_of kind) (form_of kind) p x)
        (rows_read (sums_of kind) (form_of kind) p 0 rows (recursion_from_All _ rows fit) (omega arith))
        ∙ ap (λ x. ended (header_line kind p) ++ x)
        (all_slots (sums_of kind) (form_of kind) p (list_of (sums_of kind) rows) (length rows) few)))

    relays_lines : hall missed (send.send_text (text_of (list_lines kind p rows))) ≡ text_of (header_line kind p ∷ relaid_lines)
    relays_lines =
        ap (hall missed) sends
        ∙ (ap (λ x. text_of (hall_lines missed x))
        (lines_back (header_line kind p ∷ slot_lines)
        (of_header kind p, slots_unended (sums_of kind) (form_of kind) p (list_of (sums_of kind) rows) (range_with_len 0 (length rows + T p))))
        ∙ ap (λ x. text_of (header_line kind p ∷ x))
        (turned_is (slot_line (sums_of kind) (form_of kind) p (list_of (sums_of kind) rows)) missed 0 (length rows + T p)))

    mends : mend.mend_text (text_of (header_line kind p ∷ relaid_lines))
        ≡ mend.rows_text (sums_of kind) (form_of kind) p (arriving (sums_of kind) p rows missed) (length rows + T p)
        ++ tally_text (mend.tally_after (sums_of kind) (form_of kind) p (arriving (sums_of kind) p rows missed) (length rows + T p))
    mends =
        ap mend.lines_text (lines_back (header_line kind p ∷ relaid_lines)
        (of_header kind p, hall_unended (sums_of kind) (form_of kind) p (list_of (sums_of kind) rows) missed (range_with_len 0 (length rows + T p))))
        ∙ (ap (λ x. mend.headed_text x relaid_lines) header_reads
        ∙ (ap (mend.list_text (sums_of kind) (form_of kind) p)
        (slots_read (sums_of kind) (form_of kind) p (list_of (sums_of kind) rows) missed (length rows + T p) few)
        ∙ mend_prints (sums_of kind) (form_of kind) p rows missed))

    relayed : Relayed kind p rows missed
    relayed = record {
      prints = ap mend.mend_text relays_lines ∙ mends;
      own = λ j b due. own (sums_of kind) p rows missed j b;
      undetermined = undetermined (sums_of kind) p rows missed;
      bursts = bursts (sums_of kind) p rows missed;
      as_sent = as_sent (sums_of kind) p rows missed fit;
    }

pub relays : Relays
relays kind p rows missed fit few = relayed kind p rows missed fit few
