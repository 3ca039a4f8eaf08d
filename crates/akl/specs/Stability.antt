-- Stable goals. Document 01: "A goal is stable when no determinate step rewrites it or anything inside it, and for each
-- and-box at or inside it, the stores from the goal down to that box are together quiet, with all locals inside the goal
-- as V, for the goal's environment. Limits do not enter stability."
use Rattle.std.specs.Prelude.{List, [], ◌∷◌, ◌++◌, Bool, true, false, ◌&&◌, not, ℕ}
use Rattle.std.proofs.Math.Option.{Option, some, none}
use Rattle.constraint.specs.Constraint.{Store}
use Rattle.constraint.specs.Solve.{quiet?}
use Rattle.akl.specs.Base.{is_some, any, all, range, size}
use Rattle.akl.specs.Syntax.{Program}
use Rattle.akl.specs.Configuration.{Kind, Node, or, and, stmt, choice_box, guard, Nodes, nil, cons, Ctx, top, env, Config}
use Rattle.akl.specs.Places.{Place, at, places, place_number, holder_number, inside}
use Rattle.akl.specs.Table.{Mode, determinate, nondeterminate, Rewrites, itself, holder, Row, table, rule_row, kind_at, same_kind}
use Rattle.akl.specs.Rules.{effect}

-- The place is of the kind that the row's rule takes.
abbrev pub fits_row : Row → Place → Bool
fits_row w p = same_kind (kind_at p) w.takes

abbrev pub is_determinate : Mode → Bool
is_determinate determinate = true
is_determinate nondeterminate = false

-- The number of the goal that a step at this place rewrites.
abbrev pub rewritten : Rewrites → Place → ℕ
rewritten itself (at χ n) = place_number χ
rewritten holder (at χ n) = holder_number χ

-- A determinate step, with argument 0, that rewrites the goal n of context χ or anything inside it.
abbrev pub row_disturbs : Program → Config → {k : Kind} → Ctx k → Node k → ℕ → Place → Option Row → Bool
row_disturbs P c χ n r p none = false
row_disturbs P c χ n r p (some w) = is_determinate w.mode && fits_row w p && inside χ n (rewritten w.rewrites p) && is_some (effect P c.next r p)

unfoldable pub disturbs : Program → Config → {k : Kind} → Ctx k → Node k → ℕ → Place → Bool
disturbs P c χ n r p = row_disturbs P c χ n r p (rule_row r)

unfoldable pub quiescent : Program → Config → {k : Kind} → Ctx k → Node k → Bool
quiescent P c χ n = not (any (λ p. any (λ r. disturbs P c χ n r p) (range 1 (size table))) (places c.root top))

-- "all locals inside the goal"
unfoldable mutual
  pub locals : {k : Kind} → Node k → List ℕ
  locals (or ns) = locals_all ns
  locals (and vs σ ms) = vs ++ locals_all ms
  locals (stmt s) = []
  locals (choice_box op gs) = locals_all gs
  locals (guard g b) = locals g

  pub locals_all : {k : Kind} → Nodes k → List ℕ
  locals_all nil = []
  locals_all (cons n ns) = locals n ++ locals_all ns

-- For each and-box at or inside the goal, "the stores from the goal down to that box", θ being those passed so far.
unfoldable mutual
  pub stores_down : {k : Kind} → Node k → Store → List Store
  stores_down (or ns) θ = stores_down_all ns θ
  stores_down (and vs σ ms) θ = (θ ++ σ) ∷ stores_down_all ms (θ ++ σ)
  stores_down (stmt s) θ = []
  stores_down (choice_box op gs) θ = stores_down_all gs θ
  stores_down (guard g b) θ = stores_down g θ

  pub stores_down_all : {k : Kind} → Nodes k → Store → List Store
  stores_down_all nil θ = []
  stores_down_all (cons n ns) θ = stores_down n θ ++ stores_down_all ns θ

unfoldable pub stable : Program → Config → Place → Bool
stable P c (at χ n) = quiescent P c χ n && all (quiet? (locals n) (env χ)) (stores_down n [])
