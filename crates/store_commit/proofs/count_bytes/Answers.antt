-- Each number's three bytes. Assumes nothing.
use mathlib.Core.Path.{refl}
use Rattle.store_form.specs.Form.{number_bytes, numbers_bytes}
use Rattle.store_commit.proofs.count_bytes.Goals as goal

pub returns : goal.returns
unfolding numbers_bytes number_bytes
returns c = refl
