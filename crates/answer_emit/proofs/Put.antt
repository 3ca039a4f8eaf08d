-- Laws of the definitions of specs/Put.
use Rattle.std.specs.Prelude.{◌≡◌, refl, List, [], ◌++◌, Bool, true, false, ℕ, ◌+◌, ◌<◌, ◌≤◌, length, take, drop}
use Rattle.std.proofs.Common.{ap, ap₂, sym, ◌∙◌, subst, append_assoc, add-zero, arith, length-append, take-append-drop, length-take-le, take_at, drop-drop}
use Rattle.std.proofs.Math.Decide.{dec_lt}
use Rattle.std.proofs.Math.Seq.{drop-append-add}
use Rattle.answer_emit.specs.Put.{put, Put}

pub put_none : (w : Bool) (at : ℕ) (O : List ℕ) → put w [] at O ≡ O
unfolding put
put_none true at O = ap (λ (k : ℕ). take at O ++ drop k O) (add-zero at) ∙ take-append-drop at O
put_none false at O = refl

pub put_nothing : (w : Bool) (O : List ℕ) (at : ℕ) → at ≤ length O + 1 → Put [] w O at O at
put_nothing w O at h =
    record { fits = λ g. (omega arith, sym (put_none w at O)); over = λ g. omega arith; kept = λ e. refl; long = refl }

-- one text behind the other
put_put : (w : Bool) (T U : List ℕ) (at : ℕ) (O : List ℕ) → at + length T ≤ length O → put w U (at + length T) (put w T at O) ≡ put w (T ++ U) at O
unfolding put
put_put true T U at O h =
    let D : List ℕ = take at O in
    let p : List ℕ = D ++ T in
    let R : List ℕ = drop (at + length T) O in
    let lp : length p ≡ at + length T = omega (arith, length-append D T, length-take-le at O (omega arith)) in
    let s : D ++ (T ++ R) ≡ p ++ R = sym (append_assoc D T R) in
    let front : take (at + length T) (D ++ (T ++ R)) ≡ p = ap (take (at + length T)) s ∙ take_at p R (at + length T) lp in
    let n : at + length T + length U ≡ at + length (T ++ U) = omega (arith, length-append T U) in
    let back : drop (at + length T + length U) (D ++ (T ++ R)) ≡ drop (at + length (T ++ U)) O =
    ap₂ drop (ap (λ (k : ℕ). k + length U) (sym lp)) s
    ∙ drop-append-add p R (length U)
    ∙ drop-drop (length U) (at + length T) O
    ∙ ap (λ (k : ℕ). drop k O) n in
    ap₂ (λ (a b : List ℕ). a ++ (U ++ b)) front back
    ∙ append_assoc D T (U ++ drop (at + length (T ++ U)) O)
    ∙ ap (λ (l : List ℕ). D ++ l) (sym (append_assoc T U (drop (at + length (T ++ U)) O)))
put_put false T U at O h = refl

pub put_then : {T U O O' O'' : List ℕ} {w : Bool} {at r q : ℕ} → Put T w O at O' r → Put U w O' r O'' q → Put (T ++ U) w O at O'' q
put_then {T} {U} {O} {O'} {O''} {w} {at} {r} {q} a b =
    let n = length-append T U in
    record {
      fits = λ h.
          let x = a.fits (omega (arith, n)) in
          let y = b.fits (omega (arith, n, x.0, a.long)) in
          (omega (arith, n, x.0, y.0), y.1 ∙ ap₂ (put w U) x.0 x.1 ∙ put_put w T U at O (omega (arith, n)));
      over = λ h. go h (dec_lt (length O) (at + length T));
      kept = λ e. b.kept e ∙ a.kept e;
      long = b.long ∙ a.long;
    }
  where
    go : length O < at + length (T ++ U) → Dec (length O < at + length T) → q ≡ length O + 1
    go h (yes p) = let e = b.over (omega (arith, a.over p, a.long)) in omega (arith, a.long)
    go h (no p) = let e = b.over (omega (arith, length-append T U, (a.fits (omega arith)).0, a.long)) in omega (arith, a.long)

pub put_as : {T O O' : List ℕ} {w : Bool} {at r : ℕ} (U : List ℕ) → T ≡ U → Put T w O at O' r → Put U w O at O' r
put_as {T} {O} {O'} {w} {at} {r} U e p = subst (λ (t : List ℕ). Put t w O at O' r) e p

-- where a text ends does not depend on whether it is written: the dry run decides for both
pub put_same : {T O X Y : List ℕ} {w v : Bool} {at r q : ℕ} → Put T w O at X r → Put T v O at Y q → r ≡ q
put_same {T} {O} {X} {Y} {w} {v} {at} {r} {q} a b = go (dec_lt (length O) (at + length T))
  where
    go : Dec (length O < at + length T) → r ≡ q
    go (yes p) = a.over p ∙ sym (b.over p)
    go (no p) = (a.fits (omega arith)).0 ∙ sym (b.fits (omega arith)).0

-- it ends within the slice exactly where it fits
pub put_fits : {T O X : List ℕ} {w : Bool} {at r : ℕ} → Put T w O at X r → r ≤ length O → at + length T ≤ length O
put_fits {T} {O} {X} {w} {at} {r} a h = go (dec_lt (length O) (at + length T))
  where
    go : Dec (length O < at + length T) → at + length T ≤ length O
    go (yes p) = absurd (omega (arith, a.over p))
    go (no p) = omega arith

-- a text that was written from the front on is the first bytes
pub put_taken : {T O X : List ℕ} {r : ℕ} → Put T true O 0 X r → r ≤ length O → (r ≡ length T) × (take r X ≡ T)
unfolding put
put_taken {T} {O} {X} {r} a h =
    let f = a.fits (put_fits a h) in
    let z : r ≡ length T = omega (arith, f.0) in
    (z, ap₂ take z f.1 ∙ take_at T (drop (0 + length T) O) (length T) refl)
