use Rattle.stream.proofs.Cutting.{first_is}
use Rattle.stream.proofs.feed.line_len.Goals as goal

pub returns-clause-value : goal.returns-clause-value
returns-clause-value c = first_is _ _ c.memchr.ensures
