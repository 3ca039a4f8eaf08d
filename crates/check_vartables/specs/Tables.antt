-- The part of the working slice that tests of variables use: its tables as views, and what a write to one leaves. Assumes nothing.
--   from      table                                       entries   bytes each
--   262,144   a number for each variable                   65,536   2
--   393,216   a stack of positions of words                28,672   2
--   450,560   a number for each word of a configuration    28,672   2
--   507,904   not used, up to 524,288
use Rattle.std.specs.Prelude.{◌≡◌, refl, List, ℕ, ◌-◌, ◌/◌, ◌≤◌, ◌<◌, length, get_or, replicate}
use Rattle.std.proofs.Common.{ap, sym, ◌∙◌, arith}
use Rattle.mem_numbers.specs.Numbers.{shorts, length_shorts, zero_shorts}
use Rattle.mem_numbers.specs.Stored.{Stored}
use Rattle.mem_parts.specs.Parts.{cut, length_cut, Outside, outside_wide, cut_left, cut_right, CanGet, CanSet, Set2, CanZero, Zeroed}
use Rattle.work_tables.specs.Tables.{Laid, CanRead, CanWrite}

-- the tables of the bytes L
unfoldable pub names_of : List ℕ → List ℕ
names_of L = shorts (cut 262144 393216 L)

unfoldable pub stack_of : List ℕ → List ℕ
stack_of L = shorts (cut 393216 450560 L)

unfoldable pub links_of : List ℕ → List ℕ
links_of L = shorts (cut 450560 507904 L)

-- nothing but the part was changed
abbrev pub Checked : List ℕ → List ℕ → Type 0
Checked L X = Outside 262144 524288 L X

pub length_names : {L : List ℕ} → Laid L → length (names_of L) ≡ 65536
unfolding names_of
length_names {L} h = let k = h.long in let n : length (cut 262144 393216 L) ≡ 131072 = length_cut 262144 393216 L (omega arith) in length_shorts (cut 262144 393216 L) ∙ ap (λ (n : ℕ). n / 2) n

pub length_stack : {L : List ℕ} → Laid L → length (stack_of L) ≡ 28672
unfolding stack_of
length_stack {L} h = let k = h.long in let n : length (cut 393216 450560 L) ≡ 57344 = length_cut 393216 450560 L (omega arith) in length_shorts (cut 393216 450560 L) ∙ ap (λ (n : ℕ). n / 2) n

pub length_links : {L : List ℕ} → Laid L → length (links_of L) ≡ 28672
unfolding links_of
length_links {L} h = let k = h.long in let n : length (cut 450560 507904 L) ≡ 57344 = length_cut 450560 507904 L (omega arith) in length_shorts (cut 450560 507904 L) ∙ ap (λ (n : ℕ). n / 2) n

-- a number of names was written
pub record PutName (L : List ℕ) (i v : ℕ) (X : List ℕ) : Type 0 where
  pub names : Stored (names_of L) i v (names_of X)
  pub stack : stack_of X ≡ stack_of L
  pub links : links_of X ≡ links_of L
  pub rest : Checked L X

-- a number of stack was written
pub record PutStack (L : List ℕ) (i v : ℕ) (X : List ℕ) : Type 0 where
  pub names : names_of X ≡ names_of L
  pub stack : Stored (stack_of L) i v (stack_of X)
  pub links : links_of X ≡ links_of L
  pub rest : Checked L X

-- a number of links was written
pub record PutLink (L : List ℕ) (i v : ℕ) (X : List ℕ) : Type 0 where
  pub names : names_of X ≡ names_of L
  pub stack : stack_of X ≡ stack_of L
  pub links : Stored (links_of L) i v (links_of X)
  pub rest : Checked L X

-- the numbers of all variables are zero
pub record NamesZero (L X : List ℕ) : Type 0 where
  pub zero : (x : ℕ) → get_or (names_of X) x 0 ≡ 0
  pub rest : Checked L X

pub get_name : {L : List ℕ} {i : ℕ} → CanRead L 65536 i → CanGet 262144 393216 L (shorts (cut 262144 393216 L)) i
unfolding names_of
get_name h = record { le = omega arith; fits = omega (arith, h.laid.long); inside = omega (arith, h.inside, length_names h.laid) }

pub set_name : {L : List ℕ} {i v : ℕ} → CanWrite L 65536 i 65536 v → CanSet 262144 393216 L (shorts (cut 262144 393216 L)) i 65536 v
unfolding names_of
set_name h = record { le = omega arith; fits = omega (arith, h.laid.long); inside = omega (arith, h.inside, length_names h.laid); small = h.small }

pub put_name : {L X : List ℕ} {i v : ℕ} → Laid L → Set2 262144 393216 L i v X → PutName L i v X
unfolding names_of stack_of links_of
put_name h s = record {
  names = s.part;
  stack = ap shorts (cut_right 393216 450560 (omega arith) s.rest);
  links = ap shorts (cut_right 450560 507904 (omega arith) s.rest);
  rest = outside_wide 262144 524288 (omega arith) (omega arith) s.rest;
}

pub get_stack : {L : List ℕ} {i : ℕ} → CanRead L 28672 i → CanGet 393216 450560 L (shorts (cut 393216 450560 L)) i
unfolding stack_of
get_stack h = record { le = omega arith; fits = omega (arith, h.laid.long); inside = omega (arith, h.inside, length_stack h.laid) }

pub set_stack : {L : List ℕ} {i v : ℕ} → CanWrite L 28672 i 65536 v → CanSet 393216 450560 L (shorts (cut 393216 450560 L)) i 65536 v
unfolding stack_of
set_stack h = record { le = omega arith; fits = omega (arith, h.laid.long); inside = omega (arith, h.inside, length_stack h.laid); small = h.small }

pub put_stack : {L X : List ℕ} {i v : ℕ} → Laid L → Set2 393216 450560 L i v X → PutStack L i v X
unfolding names_of stack_of links_of
put_stack h s = record {
  names = ap shorts (cut_left 262144 393216 (omega arith) (omega arith) (omega (arith, h.long)) s.rest);
  stack = s.part;
  links = ap shorts (cut_right 450560 507904 (omega arith) s.rest);
  rest = outside_wide 262144 524288 (omega arith) (omega arith) s.rest;
}

pub get_link : {L : List ℕ} {i : ℕ} → CanRead L 28672 i → CanGet 450560 507904 L (shorts (cut 450560 507904 L)) i
unfolding links_of
get_link h = record { le = omega arith; fits = omega (arith, h.laid.long); inside = omega (arith, h.inside, length_links h.laid) }

pub set_link : {L : List ℕ} {i v : ℕ} → CanWrite L 28672 i 65536 v → CanSet 450560 507904 L (shorts (cut 450560 507904 L)) i 65536 v
unfolding links_of
set_link h = record { le = omega arith; fits = omega (arith, h.laid.long); inside = omega (arith, h.inside, length_links h.laid); small = h.small }

pub put_link : {L X : List ℕ} {i v : ℕ} → Laid L → Set2 450560 507904 L i v X → PutLink L i v X
unfolding names_of stack_of links_of
put_link h s = record {
  names = ap shorts (cut_left 262144 393216 (omega arith) (omega arith) (omega (arith, h.long)) s.rest);
  stack = ap shorts (cut_left 393216 450560 (omega arith) (omega arith) (omega (arith, h.long)) s.rest);
  links = s.part;
  rest = outside_wide 262144 524288 (omega arith) (omega arith) s.rest;
}

pub can_zero : {L : List ℕ} → Laid L → CanZero 262144 393216 L
can_zero h = record { le = omega arith; fits = omega (arith, h.long) }

pub names_zero : {L X : List ℕ} → Zeroed 262144 393216 L X → NamesZero L X
unfolding names_of
names_zero z = record {
  zero = λ x. ap (λ (l : List ℕ). get_or (shorts l) x 0) z.part ∙ zero_shorts (393216 - 262144) x;
  rest = outside_wide 262144 524288 (omega arith) (omega arith) z.rest;
}
