use Rattle.std.proofs.Common.{◌≡◌, length}
use Rattle.line.specs.Ring.{entered}
use Rattle.line.specs.Line.{contents, Stays}
use Rattle.line.proofs.line.SymbolLine.push_all.Given as goal

abbrev pub invariant-loop-rest : goal.invariant-loop-rest
invariant-loop-rest g l = record {
  goes : entered l.rest (contents l.self) ≡ entered l.fn.symbols (contents l.fn.self);
  stays : Stays l.fn.self l.self;
}

abbrev pub decreases-loop-rest : goal.decreases-loop-rest
decreases-loop-rest g l = length l.rest
