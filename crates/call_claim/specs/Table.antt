-- What a host sees of answers: the texts that its calls handed out, and when it has asked for all of them. Assumes nothing.
use Rattle.std.specs.Prelude.{◌≡◌, ◌⊎◌, List, [], ◌∷◌, ◌++◌, ℕ, suc, ◌+◌, ◌*◌, ◌≤◌, length, take}
use Rattle.constraint.specs.Constraint.{Asg}
use Rattle.akl.specs.Base.{Name, size}
use Rattle.akl.specs.Answers.{Terms}
use Rattle.runs.specs.Shown.{ReadsAs, FitsText}
use Rattle.call_claim.specs.Host.{Request, for_step, for_run, for_answer, for_state, for_count, for_start, HostCall}

-- a call of the list
pub record Among (k : HostCall) (ks : List HostCall) : Type 0 where
  pub before : List HostCall
  pub behind : List HostCall
  pub is : ks ≡ before ++ (k ∷ behind)

-- The call handed out the text t of the answer n: 256 and the text's length are returned, the text is at the beginning of the slice.
pub record HandedOut (k : HostCall) (n : ℕ) (t : List ℕ) : Type 0 where
  pub out : List ℕ
  pub out' : List ℕ
  pub asked : k.request ≡ for_answer n out out'
  pub number : k.returned ≡ 256 + length t
  pub text : take (length t) out' ≡ t

-- The trees fit a text that one of the calls handed out. (The names are those of the query's variables.)
pub record FitsSome (xs : List Name) (ks : List HostCall) (ρ : Asg) : Type 0 where
  pub call : HostCall
  pub among : Among call ks
  pub answer : ℕ
  pub bytes : List ℕ
  pub handed : HandedOut call answer bytes
  pub shows : Terms
  pub reads : ReadsAs xs bytes shows
  pub fits : FitsText (size xs) shows ρ

-- No call for a step or steps. A refused start asks nothing of the store, and changes nothing.
abbrev pub Question : Request → Type 0
Question (for_step k) = ⊥
Question (for_run t) = ⊥
Question (for_answer n o o') = Unit {0}
Question for_state = Unit {0}
Question for_count = Unit {0}
Question (for_start t q) = Unit {0}

abbrev pub Questions : List HostCall → Type 0
Questions [] = Unit {0}
Questions (k ∷ ks) = Question k.request × Questions ks

-- the state is told to be failed or final
pub record ToldEnded (k : HostCall) : Type 0 where
  pub asked : k.request ≡ for_state
  pub number : (k.returned ≡ 0) ⊎ (k.returned ≡ 256)

-- n answers are told to be there
pub record ToldCount (k : HostCall) (n : ℕ) : Type 0 where
  pub asked : k.request ≡ for_count
  pub number : k.returned ≡ 256 * n

-- The answer behind the n-th one was asked for, and 16 returned: "no answer of that number".
pub record ToldLast (k : HostCall) (n : ℕ) : Type 0 where
  pub out : List ℕ
  pub out' : List ℕ
  pub asked : k.request ≡ for_answer (suc n) out out'
  pub number : k.returned ≡ 16

-- Questions by which a host has the whole table of answers: the state, failed or final; how many answers there are, by their count or
-- by asking for the one behind the last; and the text of each of them. Their order is free.
pub record WholeTable (qs : List HostCall) : Type 0 where
  pub questions : Questions qs
  pub state_call : HostCall
  pub state_among : Among state_call qs
  pub ended : ToldEnded state_call
  pub count : ℕ
  pub count_call : HostCall
  pub count_among : Among count_call qs
  pub counted : ToldCount count_call count ⊎ ToldLast count_call count
  pub each : (n : ℕ) → 1 ≤ n → n ≤ count → (k : HostCall) × (t : List ℕ) × Among k qs × HandedOut k n t
