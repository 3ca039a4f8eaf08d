use mathlib.Core.Path.{refl}
use Rattle.store_form.specs.Form.{number_bytes, numbers_bytes}
use Rattle.store_header.proofs.header_bytes.Goals as goal

pub returns : goal.returns
unfolding numbers_bytes number_bytes
returns c = refl
