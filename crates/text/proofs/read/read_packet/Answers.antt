use Rattle.text.proofs.Inverses.{packet_inverse}
use Rattle.text.proofs.read.read_packet.Goals as goal

pub returns-clause-inverse : goal.returns-clause-inverse
returns-clause-inverse g c = packet_inverse g.P.Symbol.kind g.P.Printed.form c.args.sheet
