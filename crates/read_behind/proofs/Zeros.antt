-- A part that reaches to the end made zero. Assumes nothing.
use mathlib.Core.Path.{◌≡◌, ap, sym, ◌∙◌}
use mathlib.Core.List.{List}
use Prim.Native.Nat.{ℕ, ◌-◌, ◌≤◌}
use native.Mathlib.Omega.{arith}
use lib.ListN.{length, replicate, take, drop, length-drop}
use lib.Seq.{take_all}
use Rattle.mem_parts.specs.Parts.{cut, Zeroed}
use Rattle.read_behind.specs.Behind.{Behind}

pub zero_behind : (n e : ℕ) (b b' : List ℕ) → e ≡ length b → Zeroed n e b b' → Behind n b b'
unfolding cut
zero_behind n e b b' h z =
    let l : length b' ≡ length b = z.rest.long in
    let k : length (drop n b') ≤ e - n = omega (arith, length-drop n b', l, h) in
    record {
      before = z.rest.before;
      zeros = sym (take_all (e - n) (drop n b') k) ∙ z.part ∙ ap (λ (j : ℕ). replicate (j - n) 0) h;
      long = l;
    }
