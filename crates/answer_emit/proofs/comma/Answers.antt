-- Its bytes are the piece. Assumes nothing.
use Rattle.akl.specs.Base.{bytes, bytes_from}
use Rattle.answer_emit.proofs.comma.Goals as goal

pub returns : goal.returns
unfolding bytes bytes_from
returns c = c.text.ensures
