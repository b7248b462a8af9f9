-- The two ends meet. Assumes nothing.
use Rattle.std.proofs.Common.{◌≡◌, ℕ, List, ap, ◌∙◌}
use Rattle.kinds.specs.Kind.{Kind}
use Rattle.code.specs.declared.sheet.Sheet.{Sheet}
use Rattle.code.specs.Packets.{packet}
use Rattle.transmit.specs.declared.sender.Sender.{Sender}
use Rattle.transmit.specs.Runs as sending
use Rattle.transmit.specs.Law.{rows_put, list_of, Law, Lawful}
use Rattle.link.specs.Meeting.{Wrote, by_put, by_tail, Meet}

module _ {S : Type 0} (K : Kind S) (p : Sheet) (lent : List S) (es : List (sending.Event S)) (law : Law K p lent es) where
  wrote_packet : (t : ℕ) (q : List S) → Wrote es t q → q ≡ packet K p (list_of K (rows_put es)) t
  wrote_packet t q (by_put past later c is ok at wrote) = wrote ∙ law.rows past later c is ok ∙ ap (packet K p (list_of K (rows_put es))) at
  wrote_packet t q (by_tail past later c is ok at wrote) = wrote ∙ law.tails past later c is ok ∙ ap (packet K p (list_of K (rows_put es))) at

pub meet : {S : Type 0} (K : Kind S) (p : Sheet) (lent : List S) (s : Sender S) → Lawful K p lent s → Meet K p s
meet K p lent s lawful es e run fs came t q heard = wrote_packet K p lent es (lawful es e run) t q (came t q heard)
