-- The documented lengths of the slices that a call is lent: the store and the working slice. Assumes nothing.
use Rattle.std.specs.Prelude.{ℕ}

abbrev pub store_bytes_lent : ℕ
store_bytes_lent = 245853

abbrev pub working_bytes : ℕ
working_bytes = 524288
