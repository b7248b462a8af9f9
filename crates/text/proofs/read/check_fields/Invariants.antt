use Rattle.std.proofs.Common.{◌≡◌, ◌+◌, ◌-◌, ◌*◌, length}
use Rattle.text.specs.Reading.{symbols_read, told}
use Rattle.text.proofs.read.check_fields.Given as goal

abbrev pub invariant-loop : goal.invariant-loop
invariant-loop g l =
    let F = g.P.Printed.form in
    record {
      reads : told (symbols_read F l.initial.part.at l.count l.initial.part.bytes.now)
          ≡ told (symbols_read F l.part.at (l.count - l.counter) l.part.bytes.now);
      fill : length l.part.bytes.now ≡ (l.count - l.counter) * F.layout.width;
      short : l.part.at + length l.part.bytes.now ≡ l.initial.part.at + length l.initial.part.bytes.now;
    }
