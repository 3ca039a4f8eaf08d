-- A statement opened: its words opened one by one.
use mathlib.Core.Path.{◌≡◌, refl, ap, ap₂, sym, ◌∙◌}
use mathlib.Core.Bool.{Bool, true, false, cond}
use mathlib.Core.List.{List, [], ◌∷◌, ◌++◌, map}
use Prim.Native.Nat.{ℕ, zero, suc, ◌+◌, ◌-◌, ◌<◌}
use native.Mathlib.Omega.{arith}
use lib.Dec.{ltb, leb, leb-suc-zero, leb-suc-suc}
use lib.ListN.{length, get_or}
use borrow.Author.Tests.{lt-ltb}
use Rattle.constraint.specs.Constraint.{Con, ctrue, cfail, ceq, capp, map_con}
use Rattle.akl.specs.Base.{Name, range}
use Rattle.akl.specs.Syntax.{Var, number, level, Op, Stmt, atom, call, comp, hide, choice, Clauses, no_more, clause, open_level, open_var, opened, opened_clauses}
use Rattle.akl.specs.Rules.{fresh}
use Rattle.mem_words.specs.declared.Word.{Word}
use Rattle.mem_words.specs.declared.Word.TheVariants.{End, Free, Level, Num, Place, Inner, Bad}
use Rattle.mem_sorts.specs.declared.Sort.TheVariants.{Eq, App, Call, Comp, Hide, Clause}
use Rattle.mem_copies.specs.Open.{open_level_word, open_word}
use Rattle.layout.specs.Layout.{ask, var_word, vars_words, con_words, stmt_words, clauses_words}
use Rattle.store_words.specs.Boxes.{local_words}
use Rattle.rule_effects.specs.Effects.{frees}

-- a level becomes the variable in its position
level_word : (vs : List Var) (l : ℕ) → open_level_word (vars_words vs []) l ≡ var_word (open_level vs l)
unfolding vars_words open_level var_word
level_word [] l = let z : l - 0 ≡ l = omega arith in ap₂ (λ (b : Bool) (k : ℕ). cond b Bad (Level k)) (leb-suc-zero l) z
level_word (v ∷ vs) zero = ap (λ (b : Bool). cond b (var_word v) (Level (0 - suc (length (vars_words vs []))))) (lt-ltb 0 (suc (length (vars_words vs []))) (omega arith))
level_word (v ∷ vs) (suc l) =
    let U = vars_words vs [] in
    let z : suc l - suc (length U) ≡ l - length U = omega arith in
    ap₂ (λ (b : Bool) (k : ℕ). cond b (get_or U l Bad) (Level k)) (leb-suc-suc (suc l) (length U)) z ∙ level_word vs l

module _ (num : Name → ℕ) (vs : List Var) where
  abbrev o : Word → Word
  o w = open_word (vars_words vs []) w

  var_opened : (x : Var) → o (var_word x) ≡ var_word (open_var vs x)
  unfolding open_word open_var var_word
  var_opened (number x) = refl
  var_opened (level l) = level_word vs l

  vars_opened : (xs : List Var) (r : List Word) → map o (vars_words xs r) ≡ vars_words (map (open_var vs) xs) (map o r)
  unfolding vars_words
  vars_opened [] r = refl
  vars_opened (x ∷ xs) r = ap₂ (λ (w : Word) (u : List Word). w ∷ u) (var_opened x) (vars_opened xs r)

  con_opened : (c : Con Var) (r : List Word) → map o (con_words num c r) ≡ con_words num (map_con (open_var vs) c) (map o r)
  unfolding con_words open_word
  con_opened ctrue r = refl
  con_opened cfail r = refl
  con_opened (ceq x y) r = ap₂ (λ (w v : Word). Inner Eq ∷ w ∷ v ∷ End ∷ map o r) (var_opened x) (var_opened y)
  con_opened (capp x f ys) r = ap₂ (λ (w : Word) (u : List Word). Inner App ∷ w ∷ Num (num f) ∷ u) (var_opened x) (vars_opened ys (End ∷ r))

mutual
  unfolding stmt_words open_word opened

  pub stmt_opened : (s : Stmt) (num : Name → ℕ) (vs : List Var) (r : List Word) → map (open_word (vars_words vs [])) (stmt_words num s r) ≡ stmt_words num (opened s vs) (map (open_word (vars_words vs [])) r)
  stmt_opened (atom c) num vs r = con_opened num vs c r
  stmt_opened (call p xs) num vs r = ap (λ (u : List Word). Inner Call ∷ Num (num p) ∷ u) (vars_opened num vs xs (End ∷ r))
  stmt_opened (comp a b) num vs r = ap (λ (u : List Word). Inner Comp ∷ u) (stmt_opened a num vs (stmt_words num b (End ∷ r)) ∙ ap (stmt_words num (opened a vs)) (stmt_opened b num vs (End ∷ r)))
  stmt_opened (hide n a) num vs r = ap (λ (u : List Word). Inner Hide ∷ Num n ∷ u) (stmt_opened a num vs (End ∷ r))
  stmt_opened (choice op cs) num vs r = ap (λ (u : List Word). Inner (ask op) ∷ u) (clauses_are_opened cs num vs (End ∷ r))

  clauses_are_opened : (cs : Clauses) (num : Name → ℕ) (vs : List Var) (r : List Word) → map (open_word (vars_words vs [])) (clauses_words num cs r) ≡ clauses_words num (opened_clauses cs vs) (map (open_word (vars_words vs [])) r)
  clauses_are_opened no_more num vs r = refl
  clauses_are_opened (clause n g b cs) num vs r =
      ap (λ (u : List Word). Inner Clause ∷ Num n ∷ u)
      (stmt_opened g num vs (stmt_words num b (End ∷ clauses_words num cs r))
      ∙ ap (stmt_words num (opened g vs)) (stmt_opened b num vs (End ∷ clauses_words num cs r) ∙ ap (λ (u : List Word). stmt_words num (opened b vs) (End ∷ u)) (clauses_are_opened cs num vs r)))

-- fresh variables as words
pub frees_fresh : (next n : ℕ) → frees next n ≡ vars_words (fresh next n) []
unfolding frees vars_words var_word range
frees_fresh next zero = refl
frees_fresh next (suc n) = ap (λ (u : List Word). Free next ∷ u) (frees_fresh (suc next) n)

pub frees_locals : (next n : ℕ) (r : List Word) → local_words (range next n) r ≡ frees next n ++ r
unfolding frees local_words range
frees_locals next zero r = refl
frees_locals next (suc n) r = ap (λ (u : List Word). Free next ∷ u) (frees_locals (suc next) n r)

pub fresh_opened : (num : Name → ℕ) (s : Stmt) (next n : ℕ) → map (open_word (frees next n)) (stmt_words num s []) ≡ stmt_words num (opened s (fresh next n)) []
fresh_opened num s next n = ap (λ (u : List Word). map (open_word u) (stmt_words num s [])) (frees_fresh next n) ∙ stmt_opened s num (fresh next n) []
