-- Parts of one list of bytes: what stands from a on up to e, and that nothing outside of it changes. Assumes nothing.
use Rattle.std.specs.Prelude.{◌≡◌, refl, List, ◌++◌, ℕ, ◌+◌, ◌-◌, ◌≤◌, ◌<◌, length, replicate, take, drop}
use Rattle.std.proofs.Common.{ap, sym, ◌∙◌, subst, arith, length-drop, take-append-drop, length-take-le, take_at, drop_at, take-take, drop-drop}
use Rattle.std.proofs.lemmas.List.{length-replicate, take-append-le, drop-append-le}
use Rattle.mem_numbers.specs.Numbers.{numbers_of}
use Rattle.mem_numbers.specs.Stored.{Stored}
use borrow.Rule.Slice.PartMut.{put_mid, post_of, take_put, drop_put, same_len_mid, mid_len}

-- what stands from a on up to e, as the part `w[a..e]` is lent. Shut: `take` at a large numeral would be counted down one by one
unfoldable pub cut : ℕ → ℕ → List ℕ → List ℕ
cut a e l = take (e - a) (drop a l)

-- X is L but for what stands from a on up to e
pub record Outside (a e : ℕ) (L X : List ℕ) : Type 0 where
  pub before : take a X ≡ take a L
  pub after : drop e X ≡ drop e L
  pub long : length X ≡ length L

-- the part was lent and came back as Y: it is Y now, and all else is as it was
pub cut_put : (a e : ℕ) (L Y : List ℕ) → a ≤ e → e ≤ length L → length Y ≡ e - a → cut a e (put_mid a (e - a) L Y) ≡ Y
unfolding cut
cut_put a e L Y h g l = ap (take (e - a)) (drop_at (take a L) (Y ++ post_of a (e - a) L) a (length-take-le a L (omega arith))) ∙ take_at Y (post_of a (e - a) L) (e - a) l

pub outside_put : (a e : ℕ) (L Y : List ℕ) → a ≤ e → e ≤ length L → length Y ≡ e - a → Outside a e L (put_mid a (e - a) L Y)
outside_put a e L Y h g l = record {
  before = take_put a (e - a) L Y (omega arith);
  after = drop_put a e L Y h g l;
  long = same_len_mid a (e - a) L Y (l ∙ sym (mid_len a e L g));
}

-- one change after another, and a wider part
pub outside_then : {a e : ℕ} {L X Y : List ℕ} → Outside a e L X → Outside a e X Y → Outside a e L Y
outside_then p q = record { before = q.before ∙ p.before; after = q.after ∙ p.after; long = q.long ∙ p.long }

drop_on : (e f : ℕ) (L : List ℕ) → e ≤ f → drop f L ≡ drop (f - e) (drop e L)
drop_on e f L h = let z : f ≡ e + (f - e) = omega arith in ap (λ (k : ℕ). drop k L) z ∙ sym (drop-drop (f - e) e L)

pub outside_wide : {a e : ℕ} {L X : List ℕ} (b f : ℕ) → b ≤ a → e ≤ f → Outside a e L X → Outside b f L X
outside_wide {a} {e} {L} {X} b f h g p = record {
  before = sym (take-take b a X h) ∙ ap (take b) p.before ∙ take-take b a L h;
  after = drop_on e f X g ∙ ap (drop (f - e)) p.after ∙ sym (drop_on e f L g);
  long = p.long;
}

-- a part that lies before what was changed, or after it, is as it was
cut_front : (a b f : ℕ) (L : List ℕ) → b ≤ f → f ≤ a → a ≤ length L → cut b f L ≡ cut b f (take a L)
unfolding cut
cut_front a b f L h g k =
    let n : length (take a L) ≡ a = length-take-le a L k in
    let m : length (drop b (take a L)) ≡ a - b = length-drop b (take a L) ∙ ap (λ (z : ℕ). z - b) n in
    ap (cut b f) (sym (take-append-drop a L))
    ∙ ap (take (f - b)) (drop-append-le b (take a L) (drop a L) (omega arith))
    ∙ take-append-le (f - b) (drop b (take a L)) (drop a L) (omega arith)

pub cut_left : {a e : ℕ} {L X : List ℕ} (b f : ℕ) → b ≤ f → f ≤ a → a ≤ length L → Outside a e L X → cut b f X ≡ cut b f L
cut_left {a} {e} {L} {X} b f h g k p = let n = p.long in cut_front a b f X h g (omega arith) ∙ ap (cut b f) p.before ∙ sym (cut_front a b f L h g k)

pub cut_right : {a e : ℕ} {L X : List ℕ} (b f : ℕ) → e ≤ b → Outside a e L X → cut b f X ≡ cut b f L
unfolding cut
cut_right {a} {e} {L} {X} b f h p = ap (take (f - b)) (drop_on e b X h ∙ ap (drop (b - e)) p.after ∙ sym (drop_on e b L h))

pub length_cut : (a e : ℕ) (L : List ℕ) → e ≤ length L → length (cut a e L) ≡ e - a
unfolding cut
length_cut a e L h = mid_len a e L h

-- the numbers Q of a part of L may be read at i, and written
pub record CanGet (a e : ℕ) (L Q : List ℕ) (i : ℕ) : Type 0 where
  pub le : a ≤ e
  pub fits : e ≤ length L
  pub inside : i < length Q

pub record CanSet (a e : ℕ) (L Q : List ℕ) (i bound v : ℕ) : Type 0 where
  pub le : a ≤ e
  pub fits : e ≤ length L
  pub inside : i < length Q
  pub small : v < bound

-- a number of w bytes of the part was written
pub record Set (w a e : ℕ) (L : List ℕ) (i v : ℕ) (X : List ℕ) : Type 0 where
  pub part : Stored (numbers_of w (cut a e L)) i v (numbers_of w (cut a e X))
  pub rest : Outside a e L X

pub set_of : (w a e : ℕ) (L Y : List ℕ) (i v : ℕ) → a ≤ e → e ≤ length L → length Y ≡ length (cut a e L) → Stored (numbers_of w (cut a e L)) i v (numbers_of w Y) → Set w a e L i v (put_mid a (e - a) L Y)
set_of w a e L Y i v h g k s =
    let l : length Y ≡ e - a = k ∙ length_cut a e L g in
    record { part = subst (λ (z : List ℕ). Stored (numbers_of w (cut a e L)) i v (numbers_of w z)) (sym (cut_put a e L Y h g l)) s; rest = outside_put a e L Y h g l }

-- the same of two, three and four bytes
abbrev pub Set2 : ℕ → ℕ → List ℕ → ℕ → ℕ → List ℕ → Type 0
Set2 = Set 2

abbrev pub Set3 : ℕ → ℕ → List ℕ → ℕ → ℕ → List ℕ → Type 0
Set3 = Set 3

abbrev pub Set4 : ℕ → ℕ → List ℕ → ℕ → ℕ → List ℕ → Type 0
Set4 = Set 4

-- a part may be made zero, and was
pub record CanZero (a e : ℕ) (L : List ℕ) : Type 0 where
  pub le : a ≤ e
  pub fits : e ≤ length L

pub record Zeroed (a e : ℕ) (L X : List ℕ) : Type 0 where
  pub part : cut a e X ≡ replicate (e - a) 0
  pub rest : Outside a e L X

pub zero_of : (a e : ℕ) (L Y : List ℕ) → a ≤ e → e ≤ length L → length Y ≡ length (cut a e L) → Y ≡ replicate (length (cut a e L)) 0 → Zeroed a e L (put_mid a (e - a) L Y)
zero_of a e L Y h g k s =
    let l : length Y ≡ e - a = k ∙ length_cut a e L g in
    record { part = cut_put a e L Y h g l ∙ s ∙ ap (λ (n : ℕ). replicate n 0) (length_cut a e L g); rest = outside_put a e L Y h g l }

-- a byte of the part was written
pub record Set1 (a e : ℕ) (L : List ℕ) (i v : ℕ) (X : List ℕ) : Type 0 where
  pub part : Stored (cut a e L) i v (cut a e X)
  pub rest : Outside a e L X

pub set1_of : (a e : ℕ) (L Y : List ℕ) (i v : ℕ) → a ≤ e → e ≤ length L → length Y ≡ length (cut a e L) → Stored (cut a e L) i v Y → Set1 a e L i v (put_mid a (e - a) L Y)
set1_of a e L Y i v h g k s =
    let l : length Y ≡ e - a = k ∙ length_cut a e L g in
    record { part = subst (λ (z : List ℕ). Stored (cut a e L) i v z) (sym (cut_put a e L Y h g l)) s; rest = outside_put a e L Y h g l }
