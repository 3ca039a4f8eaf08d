-- What a start hands back, and the store that it leaves, for any bytes.
--
-- text and query are the two texts, b is the store's slice as it was lent, w the length of the working slice; limit is the most parts
-- of a configuration, work the documented length of the working slice. Assumes nothing.
use Rattle.std.specs.Prelude.{◌≡◌, List, Bool, true, false, ℕ, zero, suc}
use Rattle.akl.specs.Base.{Result, refused, ok}
use Rattle.akl.specs.Limits.{most_parts}
use Rattle.akl.specs.Syntax.{Program}
use Rattle.akl.specs.Reader.{Query, read_program, read_query}
use Rattle.akl.specs.Configuration.{Config}
use Rattle.akl.specs.Record.{start}
use Rattle.store_form.specs.State.{State}
use Rattle.store_calls.specs.Outcomes.{slices_short, put_state}
use Rattle.store_calls.specs.OnBytes.{Begins}
use Rattle.store_lent.specs.Lent.{working_bytes}

-- 15: "new or starting configuration over 2,048 parts"; 0 where nothing is refused
abbrev pub limits_refusal : Result Config → ℕ
limits_refusal (refused n) = n
limits_refusal (ok c) = 0

-- 8: "store or working slice shorter than the documented length", before it
abbrev pub slices_refusal : Bool → Result Config → ℕ
slices_refusal true r = 8
slices_refusal false r = limits_refusal r

-- "1 to 7 of the program before those of the query, .. then the others"
abbrev pub query_refusal : ℕ → Bool → Result Query → ℕ
query_refusal limit short (refused n) = n
query_refusal limit short (ok q) = slices_refusal short (start limit q)

abbrev pub program_refusal : ℕ → Bool → List ℕ → Result Program → ℕ
program_refusal limit short query (refused n) = n
program_refusal limit short query (ok P) = query_refusal limit short (read_query P query)

-- the refusal, or 0
unfoldable pub start_refusal : ℕ → ℕ → List ℕ → List ℕ → List ℕ → ℕ → ℕ
start_refusal limit work text query b w = program_refusal limit (slices_short limit work b w) query (read_program text)

-- The store after a start that is accepted: the bytes of a state that means the program, the names of the query's variables and the
-- start. What correct programs may do differently is the table of names in it (store_form: State), and nothing else.
pub record Started (limit : ℕ) (text query b b' : List ℕ) : Type 0 where
  pub program : Program
  pub goal : Query
  pub config : Config
  pub state : State
  pub reads_program : read_program text ≡ ok program
  pub reads_query : read_query program query ≡ ok goal
  pub starts : start limit goal ≡ ok config
  pub begins : Begins limit state program goal config
  pub store : b' ≡ put_state limit b state

-- "A refused step or call of one piece changes no store".
abbrev pub StoreAfter : ℕ → List ℕ → List ℕ → List ℕ → List ℕ → ℕ → Type 0
StoreAfter limit text query b b' zero = Started limit text query b b'
StoreAfter limit text query b b' (suc n) = b' ≡ b

-- What a start answers, r, and leaves, b'; for document 01's limit and the documented length of the working slice.
pub record StartTo (text query b : List ℕ) (w : ℕ) (b' : List ℕ) (r : ℕ) : Type 0 where
  pub refusal : r ≡ start_refusal most_parts working_bytes text query b w
  pub store : StoreAfter most_parts text query b b' r
