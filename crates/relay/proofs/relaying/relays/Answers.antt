use Rattle.relay.proofs.Relayed as proved
use Rattle.relay.proofs.relaying.relays.Goals as goal

pub returns : goal.returns
returns c = proved.relays
