-- Bytes made zero behind the first n of them.
use Rattle.std.specs.Prelude.{◌≡◌, List, ℕ, ◌*◌, ◌-◌, ◌≤◌, length, take, drop, replicate}

-- b' is b, but zero behind the first n
pub record Behind (n : ℕ) (b b' : List ℕ) : Type 0 where
  pub before : take n b' ≡ take n b
  pub zeros : drop n b' ≡ replicate (length b - n) 0
  pub long : length b' ≡ length b

-- there is room in the reader's outputs for m cells c, d heads h, a words u of the program, v variables o and k words g of the query
pub record Within (d a v k m : ℕ) (c h u o g : List ℕ) : Type 0 where
  pub cells : 3 * m ≤ length c
  pub heads : 3 * d ≤ length h
  pub rules : 3 * a ≤ length u
  pub order : 2 * v ≤ length o
  pub goal : 3 * k ≤ length g

-- they were made zero behind what they hold
pub record AllBehind (d a v k m : ℕ) (c c' h h' u u' o o' g g' : List ℕ) : Type 0 where
  pub cells : Behind (3 * m) c c'
  pub heads : Behind (3 * d) h h'
  pub rules : Behind (3 * a) u u'
  pub order : Behind (2 * v) o o'
  pub goal : Behind (3 * k) g g'
