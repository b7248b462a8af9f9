use Rattle.std.proofs.Common.{◌≡◌, ◌+◌, ◌-◌, ◌*◌, length, take}
use Rattle.text.specs.Reading.{symbols_read}
use Rattle.text.proofs.Symbols.{after}
use Rattle.text.proofs.read.read_fields.Given as goal

abbrev pub invariant-loop-symbol : goal.invariant-loop-symbol
invariant-loop-symbol g l =
    let F = g.P.Printed.form in
    let i = l.symbol-index in
    let count = length l.initial.symbols in
    record {
      reads : symbols_read F l.initial.part.at count l.initial.part.bytes.now
          ≡ after (take i l.symbols) (symbols_read F l.part.at (count - i) l.part.bytes.now);
      fill : length l.part.bytes.now ≡ (count - i) * F.layout.width;
      short : l.part.at + length l.part.bytes.now ≡ l.initial.part.at + length l.initial.part.bytes.now;
    }
