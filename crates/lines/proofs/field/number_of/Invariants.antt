use Rattle.std.proofs.Common.{◌≡◌, ◌^◌, drop}
use Rattle.lines.specs.declared.field.Seen.TheVariants.{Blanks}
use Rattle.lines.specs.Scanning.{SeenBelow}
use Rattle.lines.proofs.Scans.{scanned}
use Rattle.lines.proofs.field.number_of.Given as goal

abbrev pub invariant-loop-byte : goal.invariant-loop-byte
invariant-loop-byte l =
    (scanned l.seen (drop l.byte-index l.bytes) ≡ scanned Blanks l.bytes) × SeenBelow l.seen (10 ^ l.byte-index)
