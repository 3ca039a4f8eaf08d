-- The working slice as the checks of a store's names lay it out, in one place. Assumes nothing.
--   from      table                                                 entries   bytes each
--   0         kinds of names, by their numbers                       20,490   1
--   65,536    first children, by the parent                          20,490   2
--   106,516   next siblings                                          20,490   2
--   147,496   stamps of bytes, up to 148,008                            256   2
use Rattle.std.specs.Prelude.{◌≡◌, refl, List, ℕ, ◌-◌, ◌/◌, ◌<◌, length, get_or}
use Rattle.std.proofs.Common.{ap, ◌∙◌, arith}
use Rattle.mem_numbers.specs.Numbers.{shorts, length_shorts, zero_shorts}
use Rattle.mem_numbers.specs.Stored.{Stored}
use Rattle.mem_parts.specs.Parts.{cut, length_cut, Outside, outside_wide, cut_left, cut_right, CanGet, CanSet, Set1, Set2, Zeroed}
use Rattle.work_tables.specs.Tables.{Laid}

unfoldable pub kinds_of : List ℕ → List ℕ
kinds_of L = cut 0 20490 L

unfoldable pub heads_of : List ℕ → List ℕ
heads_of L = shorts (cut 65536 106516 L)

unfoldable pub nexts_of : List ℕ → List ℕ
nexts_of L = shorts (cut 106516 147496 L)

unfoldable pub stamps_of : List ℕ → List ℕ
stamps_of L = shorts (cut 147496 148008 L)

-- the kinds alone were changed; children and siblings; the stamps; these three
abbrev pub Marked : List ℕ → List ℕ → Type 0
Marked L X = Outside 0 20490 L X

abbrev pub Joined : List ℕ → List ℕ → Type 0
Joined L X = Outside 65536 147496 L X

abbrev pub Stamped : List ℕ → List ℕ → Type 0
Stamped L X = Outside 147496 148008 L X

abbrev pub Looked : List ℕ → List ℕ → Type 0
Looked L X = Outside 65536 148008 L X

pub outside_same : {a e : ℕ} {L : List ℕ} → Outside a e L L
outside_same = record { before = refl; after = refl; long = refl }

pub length_kinds : {L : List ℕ} → Laid L → length (kinds_of L) ≡ 20490
unfolding kinds_of
length_kinds {L} h = let k = h.long in length_cut 0 20490 L (omega arith)

pub length_heads : {L : List ℕ} → Laid L → length (heads_of L) ≡ 20490
unfolding heads_of
length_heads {L} h = let k = h.long in let n : length (cut 65536 106516 L) ≡ 40980 = length_cut 65536 106516 L (omega arith) in length_shorts (cut 65536 106516 L) ∙ ap (λ (n : ℕ). n / 2) n

pub length_nexts : {L : List ℕ} → Laid L → length (nexts_of L) ≡ 20490
unfolding nexts_of
length_nexts {L} h = let k = h.long in let n : length (cut 106516 147496 L) ≡ 40980 = length_cut 106516 147496 L (omega arith) in length_shorts (cut 106516 147496 L) ∙ ap (λ (n : ℕ). n / 2) n

pub length_stamps : {L : List ℕ} → Laid L → length (stamps_of L) ≡ 256
unfolding stamps_of
length_stamps {L} h = let k = h.long in let n : length (cut 147496 148008 L) ≡ 512 = length_cut 147496 148008 L (omega arith) in length_shorts (cut 147496 148008 L) ∙ ap (λ (n : ℕ). n / 2) n

-- What reads and writes of the parts ask, and what they leave.
pub get_kind : {L : List ℕ} {i : ℕ} → Laid L → i < 20490 → CanGet 0 20490 L (cut 0 20490 L) i
unfolding kinds_of
get_kind h g = record { le = omega arith; fits = omega (arith, h.long); inside = omega (arith, g, length_kinds h) }

pub set_kind : {L : List ℕ} {i v : ℕ} → Laid L → i < 20490 → v < 256 → CanSet 0 20490 L (cut 0 20490 L) i 256 v
unfolding kinds_of
set_kind h g s = record { le = omega arith; fits = omega (arith, h.long); inside = omega (arith, g, length_kinds h); small = s }

pub get_head : {L : List ℕ} {i : ℕ} → Laid L → i < 20490 → CanGet 65536 106516 L (shorts (cut 65536 106516 L)) i
unfolding heads_of
get_head h g = record { le = omega arith; fits = omega (arith, h.long); inside = omega (arith, g, length_heads h) }

pub set_head : {L : List ℕ} {i v : ℕ} → Laid L → i < 20490 → v < 65536 → CanSet 65536 106516 L (shorts (cut 65536 106516 L)) i 65536 v
unfolding heads_of
set_head h g s = record { le = omega arith; fits = omega (arith, h.long); inside = omega (arith, g, length_heads h); small = s }

pub get_next : {L : List ℕ} {i : ℕ} → Laid L → i < 20490 → CanGet 106516 147496 L (shorts (cut 106516 147496 L)) i
unfolding nexts_of
get_next h g = record { le = omega arith; fits = omega (arith, h.long); inside = omega (arith, g, length_nexts h) }

pub set_next : {L : List ℕ} {i v : ℕ} → Laid L → i < 20490 → v < 65536 → CanSet 106516 147496 L (shorts (cut 106516 147496 L)) i 65536 v
unfolding nexts_of
set_next h g s = record { le = omega arith; fits = omega (arith, h.long); inside = omega (arith, g, length_nexts h); small = s }

pub get_stamp : {L : List ℕ} {i : ℕ} → Laid L → i < 256 → CanGet 147496 148008 L (shorts (cut 147496 148008 L)) i
unfolding stamps_of
get_stamp h g = record { le = omega arith; fits = omega (arith, h.long); inside = omega (arith, g, length_stamps h) }

pub set_stamp : {L : List ℕ} {i v : ℕ} → Laid L → i < 256 → v < 65536 → CanSet 147496 148008 L (shorts (cut 147496 148008 L)) i 65536 v
unfolding stamps_of
set_stamp h g s = record { le = omega arith; fits = omega (arith, h.long); inside = omega (arith, g, length_stamps h); small = s }

-- a first child was written, and nothing else; a next sibling; a stamp; a kind
pub record PutHead (L : List ℕ) (i v : ℕ) (X : List ℕ) : Type 0 where
  pub heads : Stored (heads_of L) i v (heads_of X)
  pub nexts : nexts_of X ≡ nexts_of L
  pub rest : Joined L X

pub record PutNext (L : List ℕ) (i v : ℕ) (X : List ℕ) : Type 0 where
  pub heads : heads_of X ≡ heads_of L
  pub nexts : Stored (nexts_of L) i v (nexts_of X)
  pub rest : Joined L X

pub record PutStamp (L : List ℕ) (i v : ℕ) (X : List ℕ) : Type 0 where
  pub stamps : Stored (stamps_of L) i v (stamps_of X)
  pub rest : Stamped L X

pub record PutKind (L : List ℕ) (i v : ℕ) (X : List ℕ) : Type 0 where
  pub kinds : Stored (kinds_of L) i v (kinds_of X)
  pub rest : Marked L X

pub put_head : {L X : List ℕ} {i v : ℕ} → Set2 65536 106516 L i v X → PutHead L i v X
unfolding heads_of nexts_of
put_head s = record { heads = s.part; nexts = ap shorts (cut_right 106516 147496 (omega arith) s.rest); rest = outside_wide 65536 147496 (omega arith) (omega arith) s.rest }

pub put_next : {L X : List ℕ} {i v : ℕ} → Laid L → Set2 106516 147496 L i v X → PutNext L i v X
unfolding heads_of nexts_of
put_next h s = record { heads = ap shorts (cut_left 65536 106516 (omega arith) (omega arith) (omega (arith, h.long)) s.rest); nexts = s.part; rest = outside_wide 65536 147496 (omega arith) (omega arith) s.rest }

pub put_stamp : {L X : List ℕ} {i v : ℕ} → Set2 147496 148008 L i v X → PutStamp L i v X
unfolding stamps_of
put_stamp s = record { stamps = s.part; rest = s.rest }

pub put_kind : {L X : List ℕ} {i v : ℕ} → Set1 0 20490 L i v X → PutKind L i v X
unfolding kinds_of
put_kind s = record { kinds = s.part; rest = s.rest }

-- first children made zero, and stamps
pub zero_heads : {L X : List ℕ} → Zeroed 65536 106516 L X → (p : ℕ) → get_or (heads_of X) p 0 ≡ 0
unfolding heads_of
zero_heads {L} {X} z p = ap (λ (c : List ℕ). get_or (shorts c) p 0) z.part ∙ zero_shorts (106516 - 65536) p

pub zero_stamps : {L X : List ℕ} → Zeroed 147496 148008 L X → (p : ℕ) → get_or (stamps_of X) p 0 ≡ 0
unfolding stamps_of
zero_stamps {L} {X} z p = ap (λ (c : List ℕ). get_or (shorts c) p 0) z.part ∙ zero_shorts (148008 - 147496) p

-- stamps do not touch children and siblings
pub stamped_heads : {L X : List ℕ} → Laid L → Stamped L X → heads_of X ≡ heads_of L
unfolding heads_of
stamped_heads h p = ap shorts (cut_left 65536 106516 (omega arith) (omega arith) (omega (arith, h.long)) p)

pub stamped_nexts : {L X : List ℕ} → Laid L → Stamped L X → nexts_of X ≡ nexts_of L
unfolding nexts_of
stamped_nexts h p = ap shorts (cut_left 106516 147496 (omega arith) (omega arith) (omega (arith, h.long)) p)

pub stamped_looked : {L X : List ℕ} → Stamped L X → Looked L X
stamped_looked p = outside_wide 65536 148008 (omega arith) (omega arith) p

pub joined_looked : {L X : List ℕ} → Joined L X → Looked L X
joined_looked p = outside_wide 65536 148008 (omega arith) (omega arith) p
