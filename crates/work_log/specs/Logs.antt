-- The log grows at its end: what stands in it already is as it was. Assumes nothing.
use Rattle.std.specs.Prelude.{◌≡◌, refl, List, [], ◌∷◌, ◌++◌, map, ℕ, zero, suc, ◌+◌, ◌-◌, ◌*◌, ◌/◌, ◌≤◌, ◌<◌, length, get_or, take, drop, replicate}
use Rattle.std.proofs.Common.{ap, ap₂, sym, ◌∙◌, subst, append_assoc, arith, length-drop, length-append, take-add, drop-drop, take_all, ext_get_or}
use Rattle.std.proofs.lemmas.List.{length-replicate, take-append-le, drop-append-le}
use borrow.Rule.Slice.PartMut.{put_mid}
use Rattle.mem_numbers.specs.Chunks.{chunks}
use Rattle.mem_words.specs.declared.Word.{Word}
use Rattle.mem_words.specs.declared.Word.TheVariants.{End, Bad}
use Rattle.mem_words.specs.Words.{words, read_word, length_words, zero_words}
use Rattle.mem_copies.specs.Runs.{run, copied, Copied, take_copied, length_rest}
use Rattle.mem_parts.specs.Parts.{cut, cut_put, outside_put, cut_left, cut_right, length_cut, Outside, outside_then, outside_wide, Zeroed}
use Rattle.work_tables.specs.Tables.{log_of, Laid, length_log}

-- three words that end every constraint begun before them
unfoldable pub stop : List Word
stop = End ∷ (End ∷ (End ∷ []))

-- there is room for n words and for these
pub record CanAppend (S : List Word) (L : List ℕ) (used from n : ℕ) : Type 0 where
  pub laid : Laid L
  pub source : from + n ≤ length S
  pub room : used + n + 3 ≤ 24576

-- the log has the words of the range behind its own, then the end; nothing else was changed
pub record Appended (S : List Word) (L : List ℕ) (used from n : ℕ) (X : List ℕ) : Type 0 where
  pub log : log_of (used + n + 3) X ≡ log_of used L ++ (run from n S ++ stop)
  pub rest : Outside 262144 335872 L X

pub record CopiedIn (a e : ℕ) (S : List Word) (from n : ℕ) (L X : List ℕ) : Type 0 where
  pub part : Copied (words (cut a e L)) 0 (drop from S) n (words (cut a e X))
  pub rest : Outside a e L X

pub copied_in : (a e : ℕ) (S : List Word) (from n : ℕ) (L Y : List ℕ) → a ≤ e → e ≤ length L → length Y ≡ length (cut a e L) → Copied (words (cut a e L)) 0 (drop from S) n (words Y) → CopiedIn a e S from n L (put_mid a (e - a) L Y)
copied_in a e S from n L Y h g k s =
    let l : length Y ≡ e - a = k ∙ length_cut a e L g in
    record { part = subst (λ (z : List ℕ). Copied (words (cut a e L)) 0 (drop from S) n (words z)) (sym (cut_put a e L Y h g l)) s; rest = outside_put a e L Y h g l }

chunks_append : (n m : ℕ) (x y : List ℕ) → length x ≡ 3 * n → chunks (n + m) 3 (x ++ y) ≡ chunks n 3 x ++ chunks m 3 y
unfolding chunks
chunks_append zero m [] y h = let z : 0 + m ≡ m = omega arith in ap (λ (k : ℕ). chunks k 3 y) z
chunks_append zero m (a ∷ x) y h = absurd (omega arith)
chunks_append (suc n) m x y h =
    let z : suc n + m ≡ suc (n + m) = omega arith in
    ap (λ (k : ℕ). chunks k 3 (x ++ y)) z
    ∙ ap₂ (λ (a : List ℕ) (b : List (List ℕ)). a ∷ b) (take-append-le 3 x y (omega arith)) (ap (chunks (n + m) 3) (drop-append-le 3 x y (omega arith)) ∙ chunks_append n m (drop 3 x) y (omega (arith, length-drop 3 x)))

map_append : {A B : Type 0} (f : A → B) (x y : List A) → map f (x ++ y) ≡ map f x ++ map f y
map_append f [] y = refl
map_append {A} {B} f (a ∷ x) y = ap (λ (t : List B). f a ∷ t) (map_append f x y)

words_append : (k : ℕ) (x y : List ℕ) → length x ≡ 3 * k → words (x ++ y) ≡ words x ++ words y
unfolding words
words_append k x y h =
    let l = length-append x y in
    let p : length (x ++ y) / 3 ≡ k + length y / 3 = omega arith in
    let q : length x / 3 ≡ k = omega arith in
    ap (λ (n : ℕ). map read_word (chunks n 3 (x ++ y))) p
    ∙ ap (map read_word) (chunks_append k (length y / 3) x y h)
    ∙ map_append read_word (chunks k 3 x) (chunks (length y / 3) 3 y)
    ∙ ap (λ (n : ℕ). map read_word (chunks n 3 x) ++ map read_word (chunks (length y / 3) 3 y)) (sym q)

cut_append : (a b c : ℕ) (L : List ℕ) → a ≤ b → b ≤ c → cut a c L ≡ cut a b L ++ cut b c L
unfolding cut
cut_append a b c L h g =
    let z : c - a ≡ b - a + (c - b) = omega arith in
    let y : a + (b - a) ≡ b = omega arith in
    ap (λ (k : ℕ). take k (drop a L)) z ∙ take-add (b - a) (c - b) (drop a L)
    ∙ ap (λ (t : List ℕ). take (b - a) (drop a L) ++ take (c - b) t) (drop-drop (b - a) a L ∙ ap (λ (k : ℕ). drop k L) y)

-- the log's first k words and the m behind them
pub log_append : (k m : ℕ) (L : List ℕ) → 262144 + 3 * k + 3 * m ≤ length L → log_of (k + m) L ≡ log_of k L ++ words (cut (262144 + 3 * k) (262144 + 3 * k + 3 * m) L)
unfolding log_of
log_append k m L h =
    let z : 262144 + 3 * (k + m) ≡ 262144 + 3 * k + 3 * m = omega arith in
    let l : length (cut 262144 (262144 + 3 * k) L) ≡ 3 * k = length_cut 262144 (262144 + 3 * k) L (omega arith) ∙ (omega arith) in
    ap (λ (e : ℕ). words (cut 262144 e L)) z ∙ ap words (cut_append 262144 (262144 + 3 * k) (262144 + 3 * k + 3 * m) L (omega arith) (omega arith))
    ∙ words_append k (cut 262144 (262144 + 3 * k) L) _ l

stop_at : (i : ℕ) → i < 3 → get_or stop i Bad ≡ End
unfolding stop
stop_at zero h = refl
stop_at (suc zero) h = refl
stop_at (suc (suc zero)) h = refl
stop_at (suc (suc (suc i))) h = absurd (omega arith)

stop_long : length stop ≡ 3
unfolding stop
stop_long = refl

stop_is : words (replicate 9 0) ≡ stop
stop_is =
    let l : length (words (replicate 9 0)) ≡ 3 = length_words (replicate 9 0) in
    ext_get_or Bad (words (replicate 9 0)) stop (l ∙ sym stop_long) (λ i h. zero_words 9 i h ∙ sym (stop_at i (subst (λ (n : ℕ). i < n) l h)))

pub copy_room : {S : List Word} {from : ℕ} (used n : ℕ) (L : List ℕ) → CanAppend S L used from n → 0 + n ≤ length (words (cut (262144 + 3 * used) (262144 + 3 * used + 3 * n) L))
copy_room used n L h =
    let g = h.laid.long in let r = h.room in
    let l : length (cut (262144 + 3 * used) (262144 + 3 * used + 3 * n) L) ≡ 3 * n = length_cut (262144 + 3 * used) (262144 + 3 * used + 3 * n) L (omega arith) ∙ (omega arith) in
    let m : length (words (cut (262144 + 3 * used) (262144 + 3 * used + 3 * n) L)) ≡ 3 * n / 3 = length_words (cut (262144 + 3 * used) (262144 + 3 * used + 3 * n) L) ∙ ap (λ (k : ℕ). k / 3) l in
    omega arith

-- a copy over a whole part is the range
copied_all : (D S : List Word) (n : ℕ) (X : List Word) → length D ≡ n → n ≤ length S → Copied D 0 S n X → X ≡ take n S
unfolding copied
copied_all D S n X e h c =
    let l : length X ≤ 0 + n = omega (arith, c.long) in
    sym (take_all (0 + n) X l) ∙ ap (take (0 + n)) c.list ∙ take_copied D 0 S n (omega arith) h

log_before : (used : ℕ) (L Y Z : List ℕ) (A B : ℕ) → A ≡ 262144 + 3 * used → A ≤ B → B ≤ length L → B ≤ length Y → Outside A B L Y → Outside B (B + 9) Y Z → log_of used Z ≡ log_of used L
unfolding log_of
log_before used L Y Z A B e h g k p q = ap words (cut_left 262144 (262144 + 3 * used) (omega arith) (omega arith) k q ∙ cut_left 262144 (262144 + 3 * used) (omega arith) (omega arith) (omega arith) p)

pub appended : (S : List Word) (L Y Z : List ℕ) (used from n a b e : ℕ) → a ≡ 262144 + 3 * used → b ≡ a + 3 * n → e ≡ b + 9 → CanAppend S L used from n → CopiedIn a b S from n L Y → Zeroed b e Y Z → Appended S L used from n Z
unfolding run
appended S L Y Z used from n a b e ea eb ee h c z =
    let g = h.laid.long in let r = h.room in let lY = c.rest.long in let lZ = z.rest.long in
    let A : ℕ = 262144 + 3 * used in
    let B : ℕ = A + 3 * n in
    let c1 : CopiedIn A B S from n L Y = subst (λ (k : ℕ). CopiedIn A k S from n L Y) (eb ∙ ap (λ (k : ℕ). k + 3 * n) ea) (subst (λ (k : ℕ). CopiedIn k b S from n L Y) ea c) in
    let e1 : e ≡ B + 9 = ee ∙ ap (λ (k : ℕ). k + 9) (eb ∙ ap (λ (k : ℕ). k + 3 * n) ea) in
    let z1 : Zeroed B (B + 9) Y Z = subst (λ (k : ℕ). Zeroed B k Y Z) e1 (subst (λ (k : ℕ). Zeroed k e Y Z) (eb ∙ ap (λ (k : ℕ). k + 3 * n) ea) z) in
    let d : 262144 + 3 * (used + n) ≡ B = omega arith in
    let lD : length (cut A B L) ≡ 3 * n = length_cut A B L (omega arith) ∙ (omega arith) in
    let lW : length (words (cut A B L)) ≡ n = length_words (cut A B L) ∙ ap (λ (k : ℕ). k / 3) lD ∙ (omega arith) in
    let p1 : log_of (used + n + 3) Z ≡ log_of (used + n) Z ++ words (cut (262144 + 3 * (used + n)) (262144 + 3 * (used + n) + 3 * 3) Z) = log_append (used + n) 3 Z (omega arith) in
    let p2 : words (cut (262144 + 3 * (used + n)) (262144 + 3 * (used + n) + 3 * 3) Z) ≡ stop = ap (λ (k : ℕ). words (cut k (k + 9) Z)) d ∙ ap words z1.part ∙ (let q : B + 9 - B ≡ 9 = omega arith in ap (λ (k : ℕ). words (replicate k 0)) q) ∙ stop_is in
    let p3 : log_of (used + n) Z ≡ log_of used Z ++ words (cut A B Z) = log_append used n Z (omega arith) in
    let p4 : words (cut A B Z) ≡ take n (drop from S) = ap words (cut_left A B (omega arith) (omega arith) (omega arith) z1.rest) ∙ copied_all (words (cut A B L)) (drop from S) n _ lW (length_rest S from n h.source) c1.part in
    let p5 : log_of used Z ≡ log_of used L = log_before used L Y Z A B (omega arith) (omega arith) (omega arith) (omega arith) c1.rest z1.rest in
    record {
      log = p1 ∙ ap₂ (λ (x y : List Word). x ++ y) (p3 ∙ ap₂ (λ (x y : List Word). x ++ y) p5 p4) p2 ∙ append_assoc (log_of used L) (take n (drop from S)) stop;
      rest = outside_then (outside_wide 262144 335872 (omega arith) (omega arith) c1.rest) (outside_wide 262144 335872 (omega arith) (omega arith) z1.rest);
    }
