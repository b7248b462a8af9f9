use Rattle.std.proofs.Common.{◌≡◌, ◌+◌, ◌≤◌, get_or, drop, None, sym, ap, ◌∙◌, ⊎_elim, arith}
use Rattle.std.proofs.lemmas.List.{at_drop_more, at_drop_all}
use Rattle.lines.proofs.Numbers.{scan_is, too_wide}
use Rattle.lines.proofs.Scans.{scanned, found, seen_room, seen_more}
use Rattle.lines.proofs.field.number_of.Goals as goal

pub then-seen-requires : goal.then-seen-requires
then-seen-requires c =
    let l : c.loop-byte.byte-index ≤ 8 = omega arith in
    seen_room c.loop-byte.seen c.loop-byte.byte-index l c.loop-byte.invariant.1

pub loop-byte-preserved : goal.loop-byte-preserved
loop-byte-preserved c =
    let xs = c.args.bytes.now in
    let i = c.loop-byte.byte-index in (
      ap (λ s. scanned s (drop (i + 1) xs)) c.then-seen.ensures
          ∙ (sym (at_drop_more (scanned c.loop-byte.seen) xs i 0 c.loop-byte-test.true) ∙ c.loop-byte.invariant.0),
      seen_more c.loop-byte.seen c.then-seen.result (get_or xs i 0) i c.then-seen.ensures c.loop-byte.invariant.1,
    )

pub returns-then-bytes-gt8 : goal.returns-then-bytes-gt8
returns-then-bytes-gt8 c = sym (too_wide c.args.bytes.now c.if-bytes-gt8.true)

pub returns-in-Number : goal.returns-in-Number
returns-in-Number c =
    let xs = c.args.bytes.now in
    ap found (sym c.in-Number.is)
    ∙ (sym (at_drop_all (scanned c.loop-byte.seen) xs c.loop-byte.byte-index c.loop-byte-test.false)
    ∙ (c.loop-byte.invariant.0 ∙ scan_is xs c.if-bytes-gt8.false))

pub returns-in-Blanks : goal.returns-in-Blanks
returns-in-Blanks c =
    let xs = c.args.bytes.now in
    let n : found c.loop-byte.seen ≡ None = ⊎_elim (λ e. ap found e) (λ e. ap found e) c.in-Blanks.is in
    sym n
    ∙ (sym (at_drop_all (scanned c.loop-byte.seen) xs c.loop-byte.byte-index c.loop-byte-test.false)
    ∙ (c.loop-byte.invariant.0 ∙ scan_is xs c.if-bytes-gt8.false))
