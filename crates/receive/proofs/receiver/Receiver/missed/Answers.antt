use Rattle.std.proofs.Common.{replicate, None, sym, refl, ◌∙◌}
use Rattle.std.proofs.lemmas.List.{length-replicate}
use Rattle.receive.proofs.Slots.{slot_call}
use Rattle.receive.proofs.receiver.Receiver.missed.Goals as goal

pub returns : goal.returns
returns g c =
    slot_call c.args.self.now None (replicate c.packet_len.result g.S.Symbol.kind.zero) (sym c.in_ok-check_slot.ensures) (length-replicate c.packet_len.result g.S.Symbol.kind.zero ∙ c.packet_len.ensures) tt
    refl refl c.note.ensures.set c.note.ensures.long c.push_zeros.ensures.held c.push_zeros.ensures.kept c.hand_out.ensures
